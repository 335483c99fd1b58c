-- The influence line and the vehicle load: document 01, 'Vehicle load'. Places along the base are whole half centimetres from
-- the end at which the vehicle comes on; the base is U long and the apex stands at P. Axles are counted from the front, from 0:
-- axle i weighs w i and stands b i behind the front axle, and there are n.
use Rattle.std.specs.Prelude.{ℕ, zero, suc, ◌+◌, ◌-◌, ◌*◌, ◌<◌, List, leb}
use Rattle.section.specs.Choose.{choose}
use Rattle.section.specs.Units.{weight, distance}
use Rattle.section.specs.declared.Cm.{Cm}
use Rattle.section.specs.declared.Kgf.{Kgf}
use Rattle.section.specs.Fraction.{Fraction, whole, over, ◌·◌, ◌÷◌, ◌⊕◌, greater, ceiling}
use Rattle.section.specs.Greatest.{greatest_up_to}

-- f 0 + f 1 + .. + f (n - 1), of fractions and of whole numbers
unfoldable pub sum : (ℕ → Fraction) → ℕ → Fraction
sum f zero = whole 0
sum f (suc n) = sum f n ⊕ f n

unfoldable pub total : (ℕ → ℕ) → ℕ → ℕ
total f zero = 0
total f (suc n) = total f n + f n

-- the apex stands between the ends of the base
pub record Triangle (U P : ℕ) : Type 0 where
  pub after_start : 0 < P
  pub before_end : P < U

-- "The triangle has height 1 over its apex and 0 at both ends." Past the far end U - s is 0: "an axle off the base counts 0".
unfoldable pub height : (U P s : ℕ) → Fraction
height U P s = choose (leb s P) (over s P) (over (U - s) (U - P))

-- "sum of weight × height", with the front axle at u. An axle that is not on the base yet has the place u - b i = 0, where the
-- height is 0. So a front axle before the end would give what u = 0 gives, which is 0.
unfoldable pub axle_sum : (U P : ℕ) (w b : ℕ → ℕ) (n u : ℕ) → Fraction
axle_sum U P w b n u = sum (λ i. whole (w i) · height U P (u - b i)) n

-- "200 × (sum of weight × height) / base", the base in centimetres, U / 2: kgf become kgf/m here alone
unfoldable pub per_metre : (U : ℕ) → Fraction → Fraction
per_metre U a = whole 200 · a ÷ over U 2

-- what "a position gives"
unfoldable pub gives : (U P : ℕ) (w b : ℕ → ℕ) (n u : ℕ) → Fraction
gives U P w b n u = per_metre U (axle_sum U P w b n u)

-- the greatest that a position gives in one direction of travel, from u = 0 until the last axle is past the base
unfoldable pub greatest_one_way : (U P : ℕ) (w b : ℕ → ℕ) (n : ℕ) → Fraction
greatest_one_way U P w b n = greatest_up_to (gives U P w b n) (U + b (n - 1))

-- "the greatest that any position gives", "in either direction of travel": from the other end the apex stands at U - P
unfoldable pub greatest : (U P : ℕ) (w b : ℕ → ℕ) (n : ℕ) → Fraction
greatest U P w b n = greater (greatest_one_way U P w b n) (greatest_one_way U (U - P) w b n)

-- How far axle i stands behind the front axle: the distances of axles 0 to i (that of the first is 0), two half centimetres to the centimetre.
unfoldable pub behind : List Cm → ℕ → ℕ
behind ds i = total (λ j. 2 * distance ds j) (suc i)

-- "the vehicle load is the greatest that any position gives, rounded up once"
unfoldable pub vehicle_load : (U P : ℕ) (ws : List Kgf) (ds : List Cm) (n : ℕ) → ℕ
vehicle_load U P ws ds n = ceiling (greatest U P (weight ws) (behind ds) n)
