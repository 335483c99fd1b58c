-- What is claimed of the converter, proved.
-- Assumes nothing.
use Rattle.std.specs.Prelude.{Ok}
use Prim.Native.Nat.{ℕ, ◌≤◌, ◌<◌}
use mathlib.Core.Path.{◌≡◌, refl, subst, ◌∙◌}
use mathlib.Core.Bool.{true}
use mathlib.Core.List.{List, [], ◌∷◌}
use mathlib.Core.Logic.{inl, inr, ⊎_elim}
use native.Mathlib.Omega.{arith}
use lib.ListN.{length, take}
use borrow.Author.Tests.{leb-true, le-leb}
use Rattle.section.specs.Units.{weight}
use Rattle.member.specs.Format.{In, weight_range}
use Rattle.files.specs.Answer.{Values, RefusedAt}
use Rattle.files.specs.Header.{version_of}
use Rattle.files.specs.Reading.{first_refusal}
use Rattle.files.specs.Words.{Bytes}
use Rattle.files.specs.Writing.{onto}
use Rattle.vehicles.specs.VehicleFile.{VEHICLE_VERSIONS, axles_of, weight_at, weights_in, vehicle_of, read_vehicle}
use Rattle.vehicles.specs.Allowed.{AllowedVehicleOf}
use Rattle.vehicles.specs.Alike.{SameNumbers}
use Rattle.vehicles.proofs.Alike.{same_vehicle, read_alike}
use Rattle.vehicles.proofs.Vehicles.{weight_is, taken_allowed, allowed_taken}
use Rattle.convert.specs.Convert.{wanted_version, given_version, only, weight_fits, heavy_answer, output, convert_tests, converted, converted_bytes, converted_out}
use Rattle.convert.specs.Fault.{Accepted, ConvertFault}
use Rattle.convert.specs.Claims.{back, Writes, written, ConvertAnswered, ConvertedFile, ConvertTaken}
use Rattle.convert.specs.declared.Wanted.{Wanted}
use Rattle.convert.specs.declared.Wanted.TheVariants.{Version1, Version2}
use Rattle.files.proofs.Numbers.{FitsIn}
use Rattle.files.proofs.Writing.{onto_first, onto_beyond, onto_length, written_tests, refused_tests}
use Rattle.convert.proofs.Files.{length_vehicle}
use Rattle.convert.proofs.Written.{either_version}
use Rattle.convert.proofs.RoundTrip.{file_again, numbers_kept, output_allowed}
use Rattle.convert.proofs.Converting.{Passed, all_passed, passed_all}
use Rattle.convert.proofs.Named.{fits_all, all_fit, fault_refused, passed_good, good_passed, passed_or_fault, already}

-- the two versions
small_wanted : (wanted : Wanted) → FitsIn 2 (wanted_version wanted)
small_wanted Version1 = refl
small_wanted Version2 = refl

wanted_version_lem : (wanted : Wanted) → In VEHICLE_VERSIONS (wanted_version wanted)
wanted_version_lem Version1 = (omega arith, omega arith)
wanted_version_lem Version2 = (omega arith, omega arith)

given_version_lem : (wanted : Wanted) → In VEHICLE_VERSIONS (given_version wanted)
given_version_lem Version1 = (omega arith, omega arith)
given_version_lem Version2 = (omega arith, omega arith)

given_back : (wanted : Wanted) → given_version (back wanted) ≡ wanted_version wanted
given_back Version1 = refl
given_back Version2 = refl

wanted_back : (wanted : Wanted) → wanted_version (back wanted) ≡ given_version wanted
wanted_back Version1 = refl
wanted_back Version2 = refl

-- a weight that fits is in the range of the version wanted
fitting : (w : Wanted) (n : ℕ) → In weight_range n → weight_fits w n ≡ true → In (weights_in (wanted_version w)) n
unfolding weights_in
fitting Version1 n h e = (h.0, leb-true _ _ e)
fitting Version2 n h e = h

-- and one in its range fits
fitted : (w : Wanted) (n : ℕ) → In (weights_in (wanted_version w)) n → weight_fits w n ≡ true
unfolding weights_in
fitted Version1 n h = le-leb _ _ h.1
fitted Version2 n h = refl

module _ (wanted : Wanted) (file : List ℕ) (accepted : Accepted wanted file) (light : heavy_answer wanted (vehicle_of file) ≡ (Ok tt)) where
  -- the weights are in the range of the wanted version
  fit : (i : ℕ) → i < axles_of file → In (weights_in (wanted_version wanted)) (weight_at file i)
  fit i l = rw (weight_is file i l) at (fitting wanted _ (accepted.vehicle.weights i l) (fits_all wanted file light i l))

  kept : SameNumbers file (output wanted file)
  kept = numbers_kept _ file accepted (wanted_version wanted) (small_wanted wanted) fit

  allowed : AllowedVehicleOf (only (wanted_version wanted)) (output wanted file)
  allowed = output_allowed _ file accepted (wanted_version wanted) (small_wanted wanted) fit

  same : vehicle_of (output wanted file) ≡ vehicle_of file
  same = same_vehicle file (output wanted file) kept

  alike : read_vehicle (output wanted file) ≡ read_vehicle file
  alike =
      read_alike file (output wanted file) (either_version (given_version wanted) file (given_version_lem wanted) accepted) (either_version (wanted_version wanted) (output wanted file) (wanted_version_lem wanted) allowed) kept

  -- the way back gives the file again
  version_is : version_of file ≡ wanted_version (back wanted)
  version_is = rw (wanted_back wanted) (omega (arith, accepted.version.0, accepted.version.1))

  back_output : Bytes file → output (back wanted) (output wanted file) ≡ file
  back_output small = rw (same, ← version_is) (file_again _ file small accepted)

  again : (i : ℕ) → i < axles_of file → weight_fits (back wanted) (weight (vehicle_of (output wanted file)).weights i) ≡ true
  again i l =
      rw (weight_is (output wanted file) i (omega (arith, kept.axles)), kept.weights i l)
      (fitted (back wanted) (weight_at file i) (subst (λ (n : ℕ). In (weights_in n) (weight_at file i)) version_is (accepted.weights i l)))

  back_passed : Bytes file → (room : ℕ) → length file ≤ room → Passed (back wanted) (output wanted file) room
  back_passed small room h =
      record {
        taken = rw (given_back wanted) (allowed_taken _ (output wanted file) allowed);
        light = all_fit (back wanted) (output wanted file) (λ i l. again i (rw kept.axles at l));
        room_enough = rw (back_output small) h;
      }

  module _ (small : Bytes file) (out' : List ℕ) (h : length file ≤ length out') where
    passed_back : first_refusal (convert_tests (back wanted) (output wanted file) (length out')) ≡ (Ok tt)
    passed_back = passed_all (back wanted) (output wanted file) (length out') (back_passed small (length out') h)

    back_taken : converted (back wanted) (output wanted file) (length out') ≡ Values (length file ∷ [])
    unfolding converted
    back_taken = rw (passed_back, back_output small)

    back_bytes : take (length file) (converted_out (back wanted) (output wanted file) out') ≡ file
    unfolding converted_bytes
    back_bytes = rw (passed_back, back_output small) (onto_first file out' (length file) refl)

module _ (wanted : Wanted) (file out : List ℕ) where
  refused_by_lem : (n p : ℕ) → ConvertFault wanted file (length out) n p → converted wanted file (length out) ≡ RefusedAt n p
  unfolding converted
  refused_by_lem n p f = rw (fault_refused wanted file (length out) n p f)

  pub convert_answered : ConvertAnswered wanted file out
  unfolding converted converted_bytes
  convert_answered =
      record {
        answered =
            ⊎_elim (λ p. inl (length (output wanted file), rw (passed_all wanted file (length out) p)))
            (λ (n, p, f). inr (n, p, refused_by_lem n p f, f))
            (passed_or_fault wanted file (length out));
        named = refused_by_lem;
        wrong_version = λ a. refused_by_lem 2 0 (already wanted file (length out) a);
        out_kept = λ n p e. rw (refused_tests (first_refusal (convert_tests wanted file (length out))) (length (output wanted file)) n p (output wanted file) e);
      }

  -- where bytes are written
  module _ (n : ℕ) (w : Writes wanted file out n) where
    passed_n : (Passed wanted file (length out)) × (n ≡ length (output wanted file))
    unfolding converted
    passed_n =
        let (none, size) = written_tests (first_refusal (convert_tests wanted file (length out))) (length (output wanted file)) n w in
        (all_passed wanted file (length out) none, size)

    out_is : converted_out wanted file out ≡ onto (output wanted file) out
    unfolding converted_bytes
    out_is = rw (passed_all wanted file (length out) passed_n.0)

    written_is : written wanted file out n ≡ output wanted file
    written_is = rw out_is (onto_first (output wanted file) out n passed_n.1)

    pub converted_file : ConvertedFile wanted file out n
    converted_file =
        let p = passed_n.0 in
        let size = passed_n.1 in
        let accepted = taken_allowed _ file p.taken in
        record {
          count = size ∙ length_vehicle (wanted_version wanted) (vehicle_of file);
          beyond = rw out_is (onto_beyond (output wanted file) out n size);
          length_kept = rw out_is (onto_length (output wanted file) out p.room_enough);
          allowed = rw written_is (allowed wanted file accepted p.light);
          kept = rw written_is (kept wanted file accepted p.light);
          alike = rw written_is (alike wanted file accepted p.light);
          there_and_back =
              λ small out' h.
              record {
                taken = rw written_is (back_taken wanted file accepted p.light small out' h);
                bytes = rw written_is (back_bytes wanted file accepted p.light small out' h);
              };
        }

  pub convert_taken : ConvertTaken wanted file out
  unfolding converted
  convert_taken =
      record {
        taken = (
          λ (n, w). passed_good wanted file (length out) (passed_n n w).0,
          λ g. (length (output wanted file), rw (passed_all wanted file (length out) (good_passed wanted file (length out) g))),
        );
        files = converted_file;
      }
