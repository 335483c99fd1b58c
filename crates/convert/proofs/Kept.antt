-- The numbers of a vehicle's file are the vehicle's.
-- Assumes nothing.
use Prim.Native.Nat.{ℕ, ◌+◌, ◌*◌, ◌<◌}
use mathlib.Core.Path.{◌≡◌, sym, ap, ◌∙◌}
use mathlib.Core.List.{List, ◌++◌, append_assoc}
use native.Mathlib.Omega.{arith}
use lib.ListN.{length, length-append}
use Rattle.section.specs.Units.{weight, distance}
use Rattle.member.specs.declared.record.Vehicle.{Vehicle}
use Rattle.files.specs.Header.{version_of}
use Rattle.files.specs.Words.{number_at}
use Rattle.vehicles.specs.VehicleFile.{VEHICLE_HEADER, weight_bytes, axle_size, class_of, track_of, axles_of, weight_at, distance_at}
use Rattle.convert.specs.VehicleBytes.{head_bytes, axle_bytes, axles_bytes, vehicle_bytes}
use Rattle.files.specs.Words.{bytes_of}
use Rattle.files.proofs.Numbers.{FitsIn, length_bytes, number_written, two_bytes_at}
use Rattle.files.proofs.Writing.{row_split}
use Rattle.convert.proofs.Files.{length_with}

-- brackets
in_front : (head a b c d : List ℕ) → head ++ (a ++ b ++ c ++ d) ≡ head ++ a ++ b ++ c ++ d
in_front head a b c d =
    sym (append_assoc head (a ++ b ++ c) d) ∙ ap (λ (l : List ℕ). l ++ d) (sym (append_assoc head (a ++ b) c) ∙ ap (λ (l : List ℕ). l ++ c) (sym (append_assoc head a b)))

module _ (version : ℕ) (v : Vehicle) where
  -- the header's numbers
  module _ (small : FitsIn 2 version) where
    pub version_written : version_of (vehicle_bytes version v) ≡ version
    unfolding vehicle_bytes
    version_written = omega arith

    -- the file is the header and the axles before, the weight, the distance, and the rest
    parts : (i : ℕ) → i < v.axles → (rest : List ℕ) × (vehicle_bytes version v ≡ head_bytes version v ++ axles_bytes version v i ++ bytes_of (weight_bytes version) (weight v.weights i) ++ bytes_of 2 (distance v.distances i) ++ rest)
    unfolding vehicle_bytes
    parts i h =
        let (rest, e) = row_split (axle_bytes version v) i v.axles h in
        let head = head_bytes version v in
        let axles = axles_bytes version v i in
        let weights = bytes_of (weight_bytes version) (weight v.weights i) in
        let distances = bytes_of 2 (distance v.distances i) in
        let inner : axles ++ (weights ++ distances) ++ rest ≡ axles ++ weights ++ distances ++ rest = ap (λ (l : List ℕ). l ++ rest) (sym (append_assoc axles weights distances)) in
        (rest, ap (λ (l : List ℕ). head ++ l) (e ∙ inner) ∙ in_front head axles weights distances rest)

    pub weight_written : (i : ℕ) → i < v.axles → FitsIn (weight_bytes version) (weight v.weights i) → weight_at (vehicle_bytes version v) i ≡ weight v.weights i
    weight_written i h fits =
        let (rest, e) = parts i h in
        let w = weight_bytes version in
        let at = VEHICLE_HEADER + axle_size version * i in
        let before = head_bytes version v ++ axles_bytes version v i in
        let distances = bytes_of 2 (distance v.distances i) in
        rw version_written
        (ap (λ (l : List ℕ). number_at w l at) (e ∙ append_assoc (before ++ bytes_of w (weight v.weights i)) distances rest) ∙ number_written w (weight v.weights i) fits before (distances ++ rest) at (length_with version v i))

    pub distance_written : (i : ℕ) → i < v.axles → FitsIn 2 (distance v.distances i) → distance_at (vehicle_bytes version v) i ≡ distance v.distances i
    distance_written i h fits =
        let (rest, e) = parts i h in
        let w = weight_bytes version in
        let at = VEHICLE_HEADER + axle_size version * i + w in
        let weights = bytes_of w (weight v.weights i) in
        let before = head_bytes version v ++ axles_bytes version v i ++ weights in
        let long : length before ≡ at = length-append (head_bytes version v ++ axles_bytes version v i) weights ∙ rw (length_with version v i, length_bytes w (weight v.weights i)) in
        rw version_written
        (sym (two_bytes_at (vehicle_bytes version v) at) ∙ ap (λ (l : List ℕ). number_at 2 l at) e ∙ number_written 2 (distance v.distances i) fits before rest at long)

  pub class_written : FitsIn 1 v.class → class_of (vehicle_bytes version v) ≡ v.class
  unfolding vehicle_bytes
  class_written small = omega arith

  pub track_written : FitsIn 2 v.track.0 → track_of (vehicle_bytes version v) ≡ v.track.0
  unfolding vehicle_bytes
  track_written small = omega arith

  pub axles_written : FitsIn 1 v.axles → axles_of (vehicle_bytes version v) ≡ v.axles
  unfolding vehicle_bytes
  axles_written small = omega arith
