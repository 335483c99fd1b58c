-- One more member: what a turn of the loop in `judge` does to the judgement and to the list is what the definitions give of the
-- members so far and that one.
-- Assumes nothing.
use Prim.Native.Nat.{ℕ, suc, ◌+◌, ◌*◌, ◌≤◌, ◌<◌}
use mathlib.Core.Path.{◌≡◌, refl, sym, ap, ◌∙◌}
use mathlib.Core.Bool.{Bool, true, false, ◌&&◌, and-true, and_assoc}
use mathlib.Core.List.{List, [], ◌∷◌, ◌++◌}
use mathlib.Core.Logic.{inl, inr}
use native.Mathlib.Numerals.{add-one}
use native.Mathlib.Omega.{arith}
use lib.Dec.{leb, ltb}
use lib.IntN.{ℤ, pos, ◌-ℤ◌}
use lib.ListN.{length, drop, take, set, length-append, length-drop}
use lib.Seq.{sets-eq, take_at, take-suc, drop-append-add, drop-drop, length-take-le}
use lib.Signed.{le_z, lt_z}
use borrow.Author.Tests.{ne_eqb}
use Rattle.section.specs.Choose.{choose}
use Rattle.member.specs.PermittedLoad.{permitted_load}
use Rattle.rating.specs.VehicleLoad.{vehicle_load_on}
use Rattle.rating.specs.Judgement.{verdict_of, permitted_for, passes, every_passes, least, first_that, figure, margin, least_margin, has_least, governing, loads, written, rating_of, judgement_of}
use Rattle.rating.specs.Turn.{both, with_member}
use Rattle.rating.specs.Surveyed.{member_at}
use Rattle.section.specs.declared.KgfPerM.{KgfPerM}
use Rattle.member.specs.declared.record.Member.{Member}
use Rattle.member.specs.declared.record.Vehicle.{Vehicle}
use Rattle.rating.specs.declared.judging.Verdict.{Verdict}
use Rattle.rating.specs.declared.judging.Rating.{Rating}
use Rattle.rating.specs.declared.judging.Judgement.{Judgement}
use Rattle.rating.proofs.Governing.{margin_had}
use Rattle.section.proofs.Choices.{decided}
use Rattle.rating.proofs.Least.{orders_ℕ, orders_ℤ, itself, lesser_is, below_least, least_added}
use Rattle.rating.proofs.Places.{place_kept, place_added}

-- a rating from its parts
pub rating_is :
    (m : Member) (v : Vehicle) {p l : KgfPerM} {w : Verdict} {x : ℤ} → p.0 ≡ permitted_load m v.class v.track.0 →
    l.0 ≡ vehicle_load_on m v → w ≡ verdict_of (leb l.0 p.0) → x ≡ pos p.0 -ℤ pos l.0 →
    ◌≡◌ {A = Rating} (record { permitted = p; load = l; verdict = w; margin = x }) (rating_of m v)
unfolding rating_of passes vehicle_load_on
rating_is m v hp hl hw hx = rw (← hp, ← hl, ← hw, hx)

both_pass : (a b : Bool) → both (verdict_of a) (verdict_of b) ≡ verdict_of (a && b)
both_pass true b = refl
both_pass false b = refl

module _ (v : Vehicle) (m : Member) where
  every_added : (ms : List Member) → every_passes v (ms ++ m ∷ []) ≡ (every_passes v ms && passes v m)
  unfolding every_passes
  every_added [] = and-true (passes v m)
  every_added (n ∷ ms) = rw (every_added ms, and_assoc)

  verdict_added : (ms : List Member) → both (verdict_of (every_passes v ms)) (verdict_of (passes v m)) ≡ verdict_of (every_passes v (ms ++ m ∷ []))
  verdict_added ms = rw (every_added ms) (both_pass (every_passes v ms) (passes v m))

  next_first : with_member (judgement_of [] v) (rating_of m v) 1 ≡ judgement_of (m ∷ []) v
  unfolding with_member judgement_of rating_of least first_that every_passes
  next_first = rw (itself orders_ℤ (margin v m), and-true)

  module _ (ms : List Member) (l : 1 ≤ length ms) where
    figure_next : choose {X = KgfPerM} (ltb (permitted_for v m) (figure v ms)) (record { 0 = permitted_for v m }) (record { 0 = figure v ms }) ≡ record { 0 = figure v (ms ++ m ∷ []) }
    figure_next =
        rw (least_added orders_ℕ 0 (permitted_for v) ms m l, lesser_is orders_ℕ (figure v ms) (permitted_for v m))
        (elim (decided (ltb (permitted_for v m) (figure v ms))) [ inl e ↦ rw e | inr e ↦ rw e ])

    margin_next : choose (lt_z (margin v m) (least_margin v ms)) (margin v m) (least_margin v ms) ≡ least_margin v (ms ++ m ∷ [])
    margin_next = sym (least_added orders_ℤ (pos 0) (margin v) ms m l ∙ lesser_is orders_ℤ (least_margin v ms) (margin v m))

    place_next : choose (lt_z (margin v m) (least_margin v ms)) (length ms + 1) (governing v ms) ≡ governing v (ms ++ m ∷ [])
    place_next =
        elim (decided (lt_z (margin v m) (least_margin v ms))) [
          | inl e ↦ rw (e, place_added (λ n. le_z (margin v n) (margin v m)) ms m (below_least orders_ℤ (pos 0) (margin v) ms (margin v m) e) (itself orders_ℤ (margin v m)))
          | inr e ↦ rw (e, place_kept (has_least v ms) ms (m ∷ []) (margin_had ms v l))
        ] ∙ ap (λ (z : ℤ). first_that (λ n. le_z (margin v n) z) (ms ++ m ∷ [])) margin_next

    next_later : with_member (judgement_of ms v) (rating_of m v) (length ms + 1) ≡ judgement_of (ms ++ m ∷ []) v
    unfolding with_member judgement_of rating_of
    next_later = rw (ne_eqb (length ms + 1) 1 (omega arith), figure_next, place_next, margin_next, verdict_added ms)

  pub judgement_next : (ms : List Member) → with_member (judgement_of ms v) (rating_of m v) (length ms + 1) ≡ judgement_of (ms ++ m ∷ []) v
  judgement_next [] = next_first
  judgement_next (n ∷ ms) = next_later (n ∷ ms) (omega arith)

  loads_added : (ms : List Member) → loads v (ms ++ m ∷ []) ≡ loads v ms ++ (permitted_for v m ∷ vehicle_load_on m v ∷ [])
  unfolding loads
  loads_added [] = refl
  loads_added (n ∷ ms) = rw (loads_added ms)

pub loads_length : (v : Vehicle) (ms : List Member) → length (loads v ms) ≡ 2 * length ms
unfolding loads
loads_length v [] = refl
loads_length v (m ∷ ms) = omega (arith, loads_length v ms)

pub written_length : (v : Vehicle) (ms : List Member) (list : List ℕ) → 2 * length ms ≤ length list → length (written v ms list) ≡ length list
unfolding written
written_length v ms list h = simp (length-append, length-drop) (omega (arith, loads_length v ms))

-- two numbers stored after the first k, which stand before the rest of the list
pub pair_stored :
    (xs list : List ℕ) (k a b : ℕ) → length xs ≡ k → k + 2 ≤ length list →
    set (set (xs ++ drop k list) k a) (suc k) b ≡ xs ++ (a ∷ b ∷ []) ++ drop (k + 2) list
pair_stored xs list k a b e h =
    sets-eq (a ∷ b ∷ []) (xs ++ drop k list) k (simp (length-append, length-drop) (omega arith))
    ∙ rw (take_at xs (drop k list) k e, ← e, drop-append-add xs (drop (length xs) list) 2, drop-drop)

pub written_next :
    (v : Vehicle) (m : Member) (ms : List Member) (list : List ℕ) (i : ℕ) → length ms ≡ i → 2 * i + 2 ≤ length list →
    set (set (written v ms list) (2 * i) (permitted_for v m)) (2 * i + 1) (vehicle_load_on m v) ≡ written v (ms ++ m ∷ []) list
unfolding written
written_next v m ms list i e h =
    rw (add-one, loads_added v m ms, length-append, e)
    (pair_stored (loads v ms) list (2 * i) _ _ (omega (arith, loads_length v ms)) h ∙ rw (two) refl)
  where
    two : 2 * i + 2 ≡ 2 * (i + 1)
    two = omega arith

-- a turn of the loop
module _ (v : Vehicle) (ms : List Member) (i : ℕ) (l : i < length ms) {r : Rating} (hr : r ≡ rating_of (member_at ms i) v) where
  passed : length (take i ms) ≡ i
  passed = length-take-le i ms (omega arith)

  next : take (i + 1) ms ≡ take i ms ++ (member_at ms i ∷ [])
  next = rw add-one (take-suc ms i _ l)

  pub turn_judged : {j k : Judgement} → j ≡ judgement_of (take i ms) v → k ≡ with_member j r (i + 1) → k ≡ judgement_of (take (i + 1) ms) v
  turn_judged hj hk = rw next (hk ∙ rw (hj, hr) (rw passed at (judgement_next v (member_at ms i) (take i ms))))

  pub turn_written :
      (list : List ℕ) {now : List ℕ} → 2 * length ms ≤ length list → now ≡ written v (take i ms) list →
      set (set now (2 * i) r.permitted.0) (2 * i + 1) r.load.0 ≡ written v (take (i + 1) ms) list
  unfolding rating_of
  turn_written list h e = rw (next, e, hr) (written_next v (member_at ms i) (take i ms) list i passed (omega arith))
