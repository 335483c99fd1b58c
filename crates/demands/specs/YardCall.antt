-- What is claimed of the yard's call, each part under the sentence of document 02, request 3/13, that it states. `Demands` has it of every
-- valid session, all bytes and every list.
use Rattle.std.specs.Prelude.{ℕ, ◌*◌, ◌≤◌, ◌<◌, ◌≡◌, List, [], ◌∷◌, ◌⊎◌, ◌↔◌, length, get_or, take}
use Rattle.member.specs.Format.{◌‥◌, In}
use Rattle.rating.specs.Judgement.{judgement_of}
use Rattle.vehicles.specs.Allowed.{AllowedVehicleFile}
use Rattle.vehicles.specs.Refused.{VehicleRefusal}
use Rattle.vehicles.specs.VehicleFile.{vehicle_of}
use Rattle.vehicles.specs.YardFile.{MOST_VEHICLES, AllowedYard, vehicles_of, vehicle_files, left_over}
use Rattle.files.specs.declared.Refusal.{Refusal}
use Rattle.session.specs.Answers.{Values, RefusedAt, judgement_answer}
use Rattle.session.specs.Calls.{members, load_vehicle, judge}
use Rattle.session.specs.Yard.{Entry, passing, judge_yard, yard_list}
use Rattle.session.specs.Loaded.{Session}

-- the file of the vehicle of index i, from 0
abbrev pub file_at : (yard : List ℕ) (i : ℕ) → List ℕ
file_at yard i = get_or (vehicle_files yard) i []

-- the entry of index i, with no values past the end
abbrev pub entry_at : (list : List Entry) (i : ℕ) → Entry
entry_at list i = get_or list i (Values [])

-- the vehicles before index i have no fault
abbrev pub GoodBefore : (yard : List ℕ) (i : ℕ) → Type 0
GoodBefore yard i = (k : ℕ) → k < i → AllowedVehicleFile (file_at yard k)

-- a survey is loaded, and the count is there and in its range
pub record Counted (s : Session) (yard : List ℕ) : Type 0 where
  pub survey : 0 < s.survey.count
  pub byte : 1 ≤ length yard
  pub count : In (1 ‥ MOST_VEHICLES) (vehicles_of yard)

-- "11 comes first, then the missing count byte, 3, the vehicles, bytes left over, 14": that test fails, and those before it hold
pub data YardFault (s : Session) (yard : List ℕ) (room : ℕ) : (number place : ℕ) → Type 0 where
  no_survey : s.survey.count ≡ 0 → YardFault s yard room 11 0
  -- "No count byte gives 1"
  no_count : 0 < s.survey.count → length yard ≡ 0 → YardFault s yard room 1 0
  -- "a count outside 1..32 gives 3"
  wrong_count : 0 < s.survey.count → 1 ≤ length yard → ¬ (In (1 ‥ MOST_VEHICLES) (vehicles_of yard)) → YardFault s yard room 3 0
  -- "The first faulty vehicle refuses the lot with its own refusal and place"
  faulty_vehicle : Counted s yard → (i : ℕ) → i < vehicles_of yard → GoodBefore yard i → (r : Refusal) → VehicleRefusal (file_at yard i) r →
      YardFault s yard room r.number r.place
  -- "bytes left over give 1"
  bytes_left : Counted s yard → GoodBefore yard (vehicles_of yard) → ¬ (left_over yard ≡ []) → YardFault s yard room 1 0
  -- "a list shorter than the count 14"
  short_list : Counted s yard → GoodBefore yard (vehicles_of yard) → left_over yard ≡ [] → room < vehicles_of yard → YardFault s yard room 14 0

module _ (s : Session) (yard : List ℕ) (list : List Entry) where
  -- the yard is judged, and so many vehicles pass
  abbrev pub Passing : ℕ → Type 0
  Passing n = (judge_yard s yard list).answer ≡ Values (n ∷ [])

  -- Of demand 1: the call answers, or is refused by a number of the list, and nothing is touched then.
  pub record YardAnswered : Type 0 where
    pub answered : ((n : ℕ) × Passing n) ⊎ ((n p : ℕ) × ((judge_yard s yard list).answer ≡ RefusedAt n p) × YardFault s yard (length list) n p)
    -- a refusal names one number and one place
    pub named : (n p : ℕ) → YardFault s yard (length list) n p → (judge_yard s yard list).answer ≡ RefusedAt n p
    -- "The survey is the loaded one, and the loaded vehicle is kept."
    pub session_kept : (judge_yard s yard list).session ≡ s
    -- "and nothing is written"
    pub list_kept : (n p : ℕ) → (judge_yard s yard list).answer ≡ RefusedAt n p → yard_list s yard list ≡ list

  -- Of demand 2, where the yard is judged.
  pub record YardFigures (n : ℕ) : Type 0 where
    -- "Every answer is that of loading that vehicle alone and judging."
    pub loaded : (i : ℕ) → i < vehicles_of yard → (load_vehicle s (file_at yard i)).answer ≡ Values []
    pub judged : (i : ℕ) → i < vehicles_of yard → (lent : List ℕ) → 2 * s.survey.count ≤ length lent →
        (judge (load_vehicle s (file_at yard i)).session lent).answer ≡ entry_at (yard_list s yard list) i
    -- so it is demand 2's judgement of that file
    pub figures : (i : ℕ) → i < vehicles_of yard →
        entry_at (yard_list s yard list) i ≡ judgement_answer (judgement_of (members s) (vehicle_of (file_at yard i)))
    -- "The number of passing vehicles comes back too, and is the number of passes written."
    pub passes : n ≡ passing (take (vehicles_of yard) (yard_list s yard list))
    -- "list entries beyond the count are kept"
    pub beyond : (i : ℕ) → vehicles_of yard ≤ i → entry_at (yard_list s yard list) i ≡ entry_at list i
    pub length_kept : length (yard_list s yard list) ≡ length list

  -- the yard is judged exactly when a survey is loaded, the document allows the yard, and the list is long enough
  pub record YardTaken : Type 0 where
    pub taken : ((n : ℕ) × Passing n) ↔ ((0 < s.survey.count) × AllowedYard yard × (vehicles_of yard ≤ length list))
    pub figures : (n : ℕ) → Passing n → YardFigures n
