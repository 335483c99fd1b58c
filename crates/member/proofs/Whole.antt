-- What the code computes with the constants multiplied out is the permitted load of the formula. Each is two equations of
-- polynomials, of the front and of the dead load.
-- Assumes nothing.
use Prim.Native.Nat.{ℕ, ◌-◌, ◌*◌, ◌/◌, ◌<◌}
use mathlib.Core.Path.{◌≡◌, ap, ◌∙◌}
use native.Mathlib.Nat.{mul-pos, mul-one}
use native.Mathlib.Omega.{arith}
use Rattle.section.specs.Fraction.{over, whole, tenths, hundredths, square, ◌·◌, ◌÷◌}
use Rattle.section.proofs.Order.{whole_sound, tenths_sound, hundredths_sound}
use Rattle.spread.specs.Stiffness.{ten_thousandths}
use Rattle.member.specs.Formula.{stringer, close_stringer, cross_beam, chord, joint, permitted}
use Rattle.member.proofs.Exact.{permitted_whole}
use Rattle.member.proofs.EachKind.{stringer_valid, close_stringer_valid, cross_beam_valid, chord_valid, joint_valid, whole_positive, tenths_positive, over_positive, rest_whole, rest_positive}
use Rattle.section.proofs.Order.{over_sound}

-- t for the truncated difference 2d − e, y for l − x
pub stringer_whole : (w k n q l d t : ℕ) → 0 < n → 0 < l → 0 < d → 0 < t →
    permitted (stringer (over w 30) (tenths k) (tenths n) (hundredths q) (whole l) (over t (2 * d))) ≡
    (5120 * w * k - 12 * q * (l * l)) * (2 * d) / (n * t * (l * l))
unfolding stringer over whole tenths hundredths square ◌·◌ ◌÷◌
stringer_whole w k n q l d t pn pl pd pt =
    permitted_whole (stringer (over w 30) (tenths k) (tenths n) (hundredths q) (whole l) (over t (2 * d)))
    (5120 * w * k)
    (12 * q * (l * l))
    (2 * d)
    (n * t * (l * l))
    (stringer_valid (over_sound w 30 (omega arith)) (tenths_sound k) (tenths_positive n pn) (hundredths_sound q) (whole_positive l pl)
    (over_positive t (2 * d) pt (omega arith)))
    (mul-pos (mul-pos pn pt) (mul-pos pl pl))
    (omega arith)
    (omega arith)

pub close_stringer_whole : (w k n q l β : ℕ) → 0 < n → 0 < l → 0 < β →
    permitted (close_stringer (over w 30) (tenths k) (tenths n) (hundredths q) (whole l) (ten_thousandths β)) ≡
    (10240 * w * k - 24 * q * (l * l)) * 10000 / (n * β * (l * l))
unfolding close_stringer over whole tenths hundredths square ◌·◌ ◌÷◌
close_stringer_whole w k n q l β pn pl pβ =
    permitted_whole (close_stringer (over w 30) (tenths k) (tenths n) (hundredths q) (whole l) (ten_thousandths β))
    (10240 * w * k)
    (24 * q * (l * l))
    10000
    (n * β * (l * l))
    (close_stringer_valid (over_sound w 30 (omega arith)) (tenths_sound k) (tenths_positive n pn) (hundredths_sound q) (whole_positive l pl)
    (over_positive β 10000 pβ (omega arith)))
    (mul-pos (mul-pos pn pβ) (mul-pos pl pl))
    (omega arith)
    (omega arith)

pub cross_beam_whole : (w k n q l x : ℕ) → 0 < n → 0 < l → 0 < x →
    permitted (cross_beam (over w 30) (tenths k) (tenths n) (hundredths q) (whole l) (whole x)) ≡
    (12800 * w * k - 36 * q * (l * l)) / (3 * n * (x * l))
unfolding cross_beam over whole tenths hundredths square ◌·◌ ◌÷◌
cross_beam_whole w k n q l x pn pl px =
    permitted_whole (cross_beam (over w 30) (tenths k) (tenths n) (hundredths q) (whole l) (whole x))
    (12800 * w * k)
    (36 * q * (l * l))
    1
    (3 * n * (x * l))
    (cross_beam_valid (over_sound w 30 (omega arith)) (tenths_sound k) (tenths_positive n pn) (hundredths_sound q) (whole_positive l pl)
    (whole_positive x px))
    (mul-pos (omega arith) (mul-pos px pl))
    (omega arith)
    (omega arith) ∙
    ap (λ (z : ℕ). z / (3 * n * (x * l))) (mul-one _)

pub chord_whole : (h f k n q l x d t : ℕ) → 0 < n → 0 < x → x < l → 0 < d → 0 < t →
    permitted (chord (whole h) (whole f) (tenths k) (tenths n) (hundredths q) (whole l) (whole x) (over t (2 * d))) ≡
    (20000 * h * f * k - 12 * q * ((l - x) * x)) * (2 * d) / (n * t * ((l - x) * x))
unfolding chord over whole tenths hundredths ◌·◌ ◌÷◌
chord_whole h f k n q l x d t pn px pl pd pt =
    permitted_whole (chord (whole h) (whole f) (tenths k) (tenths n) (hundredths q) (whole l) (whole x) (over t (2 * d)))
    (20000 * h * f * k)
    (12 * q * ((l - x) * x))
    (2 * d)
    (n * t * ((l - x) * x))
    (chord_valid (whole l) (whole_sound h) (whole_sound f) (tenths_sound k) (tenths_positive n pn) (hundredths_sound q) (rest_positive l x pl)
    (whole_positive x px)
    (over_positive t (2 * d) pt (omega arith)))
    (mul-pos (mul-pos pn pt) (mul-pos (omega arith) px))
    (rw (rest_whole l x) (omega arith))
    (rw (rest_whole l x) (omega arith))

pub joint_whole : (front n q a b l x d t : ℕ) → 0 < n → 0 < a → 0 < b → 0 < x → x < l → 0 < d → 0 < t →
    permitted (joint (over front (1000 * b)) (tenths n) (hundredths q) (over a b) (whole l) (whole x) (over t (2 * d))) ≡
    (front - 12 * q * (a * ((l - x) * x))) * (2 * d) / (n * t * (a * ((l - x) * x)))
unfolding joint over whole tenths hundredths ◌·◌ ◌÷◌
joint_whole front n q a b l x d t pn pa pb px pl pd pt =
    permitted_whole (joint (over front (1000 * b)) (tenths n) (hundredths q) (over a b) (whole l) (whole x) (over t (2 * d)))
    front
    (12 * q * (a * ((l - x) * x)))
    (2 * d)
    (n * t * (a * ((l - x) * x)))
    (joint_valid (whole l) (over_sound front (1000 * b) (omega arith)) (tenths_positive n pn) (hundredths_sound q) (over_positive a b pa pb)
    (rest_positive l x pl)
    (whole_positive x px)
    (over_positive t (2 * d) pt (omega arith)))
    (mul-pos (mul-pos pn pt) (mul-pos pa (mul-pos (omega arith) px)))
    (rw (rest_whole l x) (omega arith))
    (rw (rest_whole l x) (omega arith))
