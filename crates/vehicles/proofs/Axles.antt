-- Laws of an axle's layout: how many bytes its weight has, and what of the file it takes up.
use Prim.Native.Nat.{ℕ, ◌+◌, ◌*◌, ◌≤◌, ◌<◌}
use mathlib.Core.Path.{◌≡◌, refl, sym, ap, ◌∙◌}
use mathlib.Core.Bool.{Bool, true, false}
use mathlib.Core.List.{List}
use native.Mathlib.Nat.{mul-le-mul_left}
use native.Mathlib.Omega.{arith}
use lib.Dec.{eqb}
use borrow.Author.Tests.{eq-eqb, ne_eqb}
use Rattle.section.specs.Choose.{choose}
use Rattle.member.specs.Format.{Range, ◌‥◌, In, weight_range}
use lib.ListN.{length}
use Rattle.files.specs.Words.{word_at, number_at}
use Rattle.files.specs.Header.{version_of}
use Rattle.files.proofs.Numbers.{two_bytes_at}
use Rattle.vehicles.specs.VehicleFile.{VEHICLE_HEADER, LONGEST_AXLE, weight_bytes, axle_size, axle_at, weight_at, distance_at, WEIGHT, DISTANCE, axle_field, weights_in}

-- a weight has four bytes in version 2, two in any other
pub four_bytes : (version : ℕ) → version ≡ 2 → weight_bytes version ≡ 4
unfolding weight_bytes
four_bytes version e = rw (eq-eqb version 2 e)

pub two_bytes : (version : ℕ) → ¬ (version ≡ 2) → weight_bytes version ≡ 2
unfolding weight_bytes
two_bytes version ne = rw (ne_eqb version 2 ne)

-- what holds of four bytes with their range and of two with theirs holds of every version
pub of_version : (P : ℕ → Range → Type 0) (version : ℕ) → P 4 (1 ‥ 200000) → P 2 (1 ‥ 60000) → P (weight_bytes version) (weights_in version)
unfolding weight_bytes weights_in
of_version P version four two = go (eqb version 2)
  where
    go : (b : Bool) → P (choose b 4 2) (choose b (1 ‥ 200000) (1 ‥ 60000))
    go true = four
    go false = two

pub some_bytes : (version : ℕ) → (2 ≤ weight_bytes version) × (weight_bytes version ≤ 4)
some_bytes version = of_version (λ n r. (2 ≤ n) × (n ≤ 4)) version (omega arith, omega arith) (omega arith, omega arith)

pub longest_axle : (version : ℕ) → axle_size version ≤ LONGEST_AXLE
longest_axle version = omega (arith, some_bytes version)

-- the axle of index i lies within the first n
pub axle_within_lem : (version : ℕ) {i n : ℕ} → i < n → axle_size version * (i + 1) ≤ axle_size version * n
axle_within_lem version h = mul-le-mul_left (axle_size version) (omega arith)

-- where the axle of index i begins at `at`: its weight stands there, its distance behind it
module _ (bytes : List ℕ) (i : ℕ) {version at : ℕ} (same : version ≡ version_of bytes) (begins : at ≡ VEHICLE_HEADER + axle_size version * i) where
  -- the file has the bytes of its first n axles, this one among them
  pub axle_room : {n : ℕ} → i < n → axle_at bytes n ≤ length bytes → at + weight_bytes version + 2 ≤ length bytes
  axle_room below h =
      let v = version_of bytes in
      let next : axle_size v * (i + 1) ≡ axle_size v * i + axle_size v = omega arith in
      rw (begins, same) (omega (arith, h, next, axle_within_lem v below))

  pub weight_of_four : {r : ℕ} → version ≡ 2 → r ≡ number_at 4 bytes at → r ≡ weight_at bytes i
  weight_of_four two e = rw (← same, ← begins) (e ∙ ap (λ (n : ℕ). number_at n bytes at) (sym (four_bytes version two)))

  pub weight_of_two : {r : ℕ} → ¬ (version ≡ 2) → r ≡ word_at bytes at → r ≡ weight_at bytes i
  weight_of_two other e = rw (← same, ← begins) (e ∙ sym (two_bytes_at bytes at) ∙ ap (λ (n : ℕ). number_at n bytes at) (sym (two_bytes version other)))

  pub distance_behind : {r : ℕ} → r ≡ word_at bytes (at + weight_bytes version) → r ≡ distance_at bytes i
  distance_behind e = rw (← same, ← begins) e

-- an axle's two fields
pub weight_field : (bytes : List ℕ) (i : ℕ) → axle_field bytes i WEIGHT ≡ weight_at bytes i
unfolding axle_field
weight_field bytes i = refl

pub distance_field : (bytes : List ℕ) (i : ℕ) → axle_field bytes i DISTANCE ≡ distance_at bytes i
unfolding axle_field
distance_field bytes i = refl

-- the range of a weight begins at 1, and what a file of some version may hold is what a vehicle may be
pub weights_from : (version : ℕ) → (weights_in version).low ≡ 1
weights_from version = of_version (λ n r. r.low ≡ 1) version refl refl

pub lighter : (version w : ℕ) → In (weights_in version) w → In weight_range w
lighter version w = of_version (λ n r. In r w → In weight_range w) version (λ h. h) (λ h. (h.0, omega (arith, h.1)))
