-- What is claimed of the converter, each part under the sentence of document 02, request 9/13, that it states. demands/specs/Demands.antt has
-- it of all bytes, both ways and every output.
use Rattle.std.specs.Prelude.{ℕ, ◌≤◌, ◌≡◌, List, [], ◌∷◌, ◌⊎◌, ◌↔◌, length, take, drop}
use Rattle.files.specs.Words.{Bytes}
use Rattle.files.specs.Answer.{Values, RefusedAt}
use Rattle.vehicles.specs.VehicleFile.{read_vehicle}
use Rattle.vehicles.specs.Allowed.{AllowedVehicleOf}
use Rattle.vehicles.specs.Alike.{SameNumbers}
use Rattle.convert.specs.Convert.{wanted_version, only, converted, converted_out}
use Rattle.convert.specs.Fault.{output_length, ConvertFault, MayBeConverted}
use Rattle.convert.specs.declared.Wanted.{Wanted}
use Rattle.convert.specs.declared.Wanted.TheVariants.{Version1, Version2}

-- the way back
abbrev pub back : Wanted → Wanted
back Version1 = Version2
back Version2 = Version1

module _ (wanted : Wanted) (file out : List ℕ) where
  -- the call's answer: so many bytes are written, and these are they
  abbrev pub Writes : (n : ℕ) → Type 0
  Writes n = converted wanted file (length out) ≡ Values (n ∷ [])

  abbrev pub written : (n : ℕ) → List ℕ
  written n = take n (converted_out wanted file out)

  -- Of demand 1: the call answers, or is refused by a number of the list, and nothing is touched then.
  pub record ConvertAnswered : Type 0 where
    pub answered : ((n : ℕ) × Writes n) ⊎
        ((n p : ℕ) × (converted wanted file (length out) ≡ RefusedAt n p) × ConvertFault wanted file (length out) n p)
    -- a refusal names one number and one place
    pub named : (n p : ℕ) → ConvertFault wanted file (length out) n p → converted wanted file (length out) ≡ RefusedAt n p
    -- "The wrong version for the way asked gives 2": so of a file that has the wanted version already
    pub wrong_version : AllowedVehicleOf (only (wanted_version wanted)) file → converted wanted file (length out) ≡ RefusedAt 2 0
    -- "A refusal writes nothing."
    pub out_kept : (n p : ℕ) → converted wanted file (length out) ≡ RefusedAt n p → converted_out wanted file out ≡ out

  -- "there and back gives the same bytes": the way back, of what was written, into an output that is long enough
  pub record SameBytes (n : ℕ) (out' : List ℕ) : Type 0 where
    pub taken : converted (back wanted) (written n) (length out') ≡ Values (length file ∷ [])
    pub bytes : take (length file) (converted_out (back wanted) (written n) out') ≡ file

  -- Of demand 2, where bytes are written.
  pub record ConvertedFile (n : ℕ) : Type 0 where
    -- "The number of bytes written comes back, and bytes beyond are kept."
    pub count : n ≡ output_length wanted file
    pub beyond : drop n (converted_out wanted file out) ≡ drop n out
    pub length_kept : length (converted_out wanted file out) ≡ length out
    -- a vehicle file of the version wanted, "with every number kept"
    pub allowed : AllowedVehicleOf (only (wanted_version wanted)) (written n)
    pub kept : SameNumbers file (written n)
    -- so the same vehicle is read: "A vehicle rates alike in both versions."
    pub alike : read_vehicle (written n) ≡ read_vehicle file
    -- the list is one of bytes, each below 256
    pub there_and_back : Bytes file → (out' : List ℕ) → length file ≤ length out' → SameBytes n out'

  -- bytes are written exactly when no test fails, in plain words
  pub record ConvertTaken : Type 0 where
    pub taken : ((n : ℕ) × Writes n) ↔ MayBeConverted wanted file (length out)
    pub files : (n : ℕ) → Writes n → ConvertedFile n
