-- A file's vehicle in the file's own version is the file, byte by byte; in another version that its weights fit it has the same numbers and is
-- allowed.
-- Assumes nothing.
use Prim.Native.Nat.{ℕ, zero, suc, ◌+◌, ◌*◌, ◌≤◌, ◌<◌}
use mathlib.Core.Path.{◌≡◌, sym, ap, ◌∙◌}
use mathlib.Core.List.{List, [], ◌∷◌, ◌++◌}
use native.Mathlib.Omega.{arith}
use lib.ListN.{length}
use lib.Seq.{take_all}
use Rattle.section.specs.Units.{weight, distance}
use Rattle.member.specs.Format.{Range, In}
use Rattle.files.specs.Header.{version_of}
use Rattle.files.specs.Words.{Bytes, byte_at, word_at, number_at, bytes_of}
use Rattle.vehicles.specs.VehicleFile.{VEHICLE_HEADER, weight_bytes, axle_size, axle_at, class_of, track_of, axles_of, weight_at, distance_at, weights_in, vehicle_of}
use Rattle.vehicles.specs.Allowed.{AllowedVehicleOf}
use Rattle.vehicles.proofs.Axles.{axle_within_lem}
use Rattle.vehicles.proofs.Vehicles.{weight_is, distance_is}
use Rattle.convert.specs.VehicleBytes.{head_bytes, axles_bytes, vehicle_bytes}
use Rattle.convert.specs.Convert.{only}
use Rattle.vehicles.specs.Alike.{SameNumbers}
use Rattle.files.proofs.Numbers.{FitsIn, window, beside, number_read, two_bytes_at}
use Rattle.convert.proofs.Written.{written_numbers, written_allowed}

-- numbers of one and of two bytes
one_read : (bytes : List ℕ) → Bytes bytes → (at : ℕ) → at + 1 ≤ length bytes → bytes_of 1 (byte_at bytes at) ≡ window bytes at 1
one_read bytes small at h = let same : number_at 1 bytes at ≡ byte_at bytes at = omega arith in ap (bytes_of 1) (sym same) ∙ number_read bytes small 1 at h

two_read : (bytes : List ℕ) → Bytes bytes → (at : ℕ) → at + 2 ≤ length bytes → bytes_of 2 (word_at bytes at) ≡ window bytes at 2
two_read bytes small at h = ap (bytes_of 2) (sym (two_bytes_at bytes at)) ∙ number_read bytes small 2 at h

module _ (versions : Range) (file : List ℕ) (small : Bytes file) (a : AllowedVehicleOf versions file) where
  long : VEHICLE_HEADER ≤ length file
  long = omega (arith, a.size)

  head_read : head_bytes (version_of file) (vehicle_of file) ≡ window file 0 VEHICLE_HEADER
  head_read =
      let mark : List ℕ = 84 ∷ 66 ∷ 86 ∷ [] in
      let version = bytes_of 2 (version_of file) in
      let class = bytes_of 1 (class_of file) in
      let track = bytes_of 2 (track_of file) in
      let versioned = beside file 0 3 2 mark version (sym a.mark) (two_read file small 3 (omega (arith, long))) in
      let classed = beside file 0 5 1 (mark ++ version) class versioned (one_read file small 5 (omega (arith, long))) in
      let tracked = beside file 0 6 2 (mark ++ version ++ class) track classed (two_read file small 6 (omega (arith, long))) in
      beside file 0 8 1 (mark ++ version ++ class ++ track) (bytes_of 1 (axles_of file)) tracked (one_read file small 8 (omega (arith, long)))

  axles_read : (n : ℕ) → n ≤ axles_of file → axles_bytes (version_of file) (vehicle_of file) n ≡ window file VEHICLE_HEADER (axle_size (version_of file) * n)
  axles_read zero h = let none : axle_size (version_of file) * 0 ≡ 0 = omega arith in rw none
  axles_read (suc n) h =
      let version = version_of file in
      let w = weight_bytes version in
      let at = axle_at file n in
      let inside : axle_at file (n + 1) ≤ length file = omega (arith, a.size, axle_within_lem version {i = n} {n = axles_of file} (omega arith)) in
      let next : axle_size version * (n + 1) ≡ axle_size version * n + (w + 2) = omega arith in
      let end : axle_size version * suc n ≡ axle_size version * n + (w + 2) = omega arith in
      let weights : bytes_of w (weight_at file n) ≡ window file at w = number_read file small w at (omega (arith, inside, next)) in
      let distances : bytes_of 2 (distance_at file n) ≡ window file (at + w) 2 = two_read file small (at + w) (omega (arith, inside, next)) in
      let axle = beside file at w 2 (bytes_of w (weight (vehicle_of file).weights n)) (bytes_of 2 (distance (vehicle_of file).distances n)) (rw (weight_is file n (omega arith)) weights) (ap (bytes_of 2) (distance_is file n (omega arith)) ∙ distances) in
      rw end (beside file VEHICLE_HEADER (axle_size version * n) (w + 2) _ _ (axles_read n (omega arith)) axle)

  -- the file's own version
  pub file_again : vehicle_bytes (version_of file) (vehicle_of file) ≡ file
  unfolding vehicle_bytes
  file_again =
      beside file 0 VEHICLE_HEADER (axle_size (version_of file) * axles_of file) _ _ head_read (axles_read (axles_of file) (omega arith)) ∙ take_all (VEHICLE_HEADER + axle_size (version_of file) * axles_of file) file (omega (arith, a.size))

-- in another version that its weights fit
module _ (versions : Range) (file : List ℕ) (a : AllowedVehicleOf versions file) (version : ℕ) (small : FitsIn 2 version) (fit : (i : ℕ) → i < axles_of file → In (weights_in version) (weight_at file i)) where
  fit_read : (i : ℕ) → i < axles_of file → In (weights_in version) (weight (vehicle_of file).weights i)
  fit_read i l = rw (weight_is file i l) (fit i l)

  pub numbers_kept : SameNumbers file (vehicle_bytes version (vehicle_of file))
  numbers_kept =
      let same = written_numbers (vehicle_of file) a.vehicle version small fit_read in
      record {
        class = same.class;
        track = same.track;
        axles = same.axles;
        weights = λ i l. same.weights i l ∙ weight_is file i l;
        distances = λ i l. same.distances i l ∙ distance_is file i l;
      }

  pub output_allowed : AllowedVehicleOf (only version) (vehicle_bytes version (vehicle_of file))
  output_allowed = written_allowed (vehicle_of file) a.vehicle version small fit_read
