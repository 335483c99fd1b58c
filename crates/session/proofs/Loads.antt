-- A load by its answer: a file that is taken, or two vehicles that are coupled, are what the session then holds, and a refused one changes nothing.
-- Assumes nothing.
use Rattle.std.specs.Prelude.{Ok, Err}
use Rattle.files.specs.Reading.{Reading}
use Prim.Native.Nat.{ℕ}
use mathlib.Core.Path.{◌≡◌, refl, sym, ap, ◌∙◌}
use mathlib.Core.Bool.{Bool, true, false}
use mathlib.Core.List.{List, [], ◌∷◌}
use mathlib.Core.Logic.{◌⊎◌, inl, inr}
use Rattle.surveys.specs.SurveyFile.{read_survey, survey_of}
use Rattle.vehicles.specs.VehicleFile.{VEHICLE_VERSIONS, read_vehicle, vehicle_of}
use Rattle.member.specs.Format.{AllowedVehicle}
use Rattle.member.specs.declared.record.Vehicle.{Vehicle}
use Rattle.files.specs.declared.Refusal.{Refusal}
use Rattle.files.proofs.Faults.{reading_case}
use Rattle.surveys.proofs.Surveys as surveys
use Rattle.vehicles.proofs.Vehicles as vehicles
use Rattle.session.specs.Answers.{Answer, Values, WithMargin, WithDeflection, RefusedAt, refused_by}
use Rattle.vehicles.specs.VehicleFile.{VehicleRead}
use Rattle.couple.specs.Couple.{coupled_vehicle, couple as coupleFiles}
use Rattle.couple.specs.Fault.{CoupleFault, MayBeCoupled}
use Rattle.couple.proofs.Named.{fault_refused, coupled_read, taken_allowed}
use Rattle.session.specs.Calls.{Valid, load_survey, load_vehicle, stored_survey, stored_vehicle}
use Rattle.session.specs.Coupling.{couple}
use Rattle.session.specs.Loaded.{Session}
use Rattle.session.proofs.State.{valid_with}

-- two answers are never both
abbrev pub is_refusal : Answer → Bool
is_refusal (Values values) = false
is_refusal (WithMargin values margin) = false
is_refusal (WithDeflection values deflection) = false
is_refusal (RefusedAt n p) = true

pub no_refusal : {X : Type 0} (a : Answer) (n p : ℕ) → is_refusal a ≡ false → a ≡ RefusedAt n p → X
no_refusal a n p f e = absurd (mathlib.Core.Bool.false≢true (sym f ∙ ap is_refusal e))

pub never_both : {X : Type 0} (values : List ℕ) (n p : ℕ) → Values values ≡ RefusedAt n p → X
never_both values n p = no_refusal (Values values) n p refl

-- an answer is that of a file that was taken, or not
abbrev is_taken : Answer → Bool
is_taken (Values []) = true
is_taken (Values (n ∷ values)) = false
is_taken (WithMargin values margin) = false
is_taken (WithDeflection values deflection) = false
is_taken (RefusedAt n p) = false

pub taken_or_not : (a : Answer) → (a ≡ Values []) ⊎ (¬ (a ≡ Values []))
taken_or_not (Values []) = inl refl
taken_or_not (Values (n ∷ values)) = inr (λ e. mathlib.Core.Bool.false≢true (ap is_taken e))
taken_or_not (WithMargin values margin) = inr (λ e. mathlib.Core.Bool.false≢true (ap is_taken e))
taken_or_not (WithDeflection values deflection) = inr (λ e. mathlib.Core.Bool.false≢true (ap is_taken e))
taken_or_not (RefusedAt n p) = inr (λ e. mathlib.Core.Bool.false≢true (ap is_taken e))

-- a vehicle that was read, of one file or of two, by the answer: stored where it is taken, else nothing changes
module _ (s : Session) where
  stored_taken : (a : Reading) (v : Vehicle) → (stored_vehicle s a v).answer ≡ Values [] → a ≡ (Ok tt)
  stored_taken (Ok tt) v h = refl
  stored_taken (Err r) v h = never_both [] r.number r.place (sym h)

  stored_left : (a : Reading) (v : Vehicle) → ¬ ((stored_vehicle s a v).answer ≡ Values []) → (stored_vehicle s a v).session.vehicle ≡ s.vehicle
  stored_left (Ok tt) v h = absurd (h refl)
  stored_left (Err r) v h = refl

  stored_survey_lem : (a : Reading) (v : Vehicle) → (stored_vehicle s a v).session.survey ≡ s.survey
  stored_survey_lem (Ok tt) v = refl
  stored_survey_lem (Err r) v = refl

  pub stored_kept : (a : Reading) (v : Vehicle) (n p : ℕ) → (stored_vehicle s a v).answer ≡ RefusedAt n p → (stored_vehicle s a v).session ≡ s
  stored_kept (Ok tt) v n p h = never_both [] n p h
  stored_kept (Err r) v n p h = refl

  pub stored_valid : (a : Reading) (v : Vehicle) → Valid s → (a ≡ (Ok tt) → AllowedVehicle v) → Valid (stored_vehicle s a v).session
  stored_valid (Ok tt) v h allowed = valid_with s v h (allowed refl)
  stored_valid (Err r) v h allowed = h

-- a load that takes its file, by its answer
module _ (s : Session) (bytes : List ℕ) where
  pub survey_read : (load_survey s bytes).answer ≡ Values [] → (read_survey bytes).answer ≡ (Ok tt)
  unfolding load_survey
  survey_read =
      reading_case (read_survey bytes).answer (λ a. (stored_survey s a (read_survey bytes).survey).answer ≡ Values [] → a ≡ (Ok tt)) (λ e h. refl)
      (λ r e h. never_both [] r.number r.place (sym h))

  pub vehicle_read : (load_vehicle s bytes).answer ≡ Values [] → (read_vehicle bytes).answer ≡ (Ok tt)
  unfolding load_vehicle
  vehicle_read = stored_taken s (read_vehicle bytes).answer (read_vehicle bytes).vehicle

  pub survey_load : (read_survey bytes).answer ≡ (Ok tt) → load_survey s bytes ≡ record { session = record { survey = survey_of bytes; vehicle = s.vehicle }; answer = Values [] }
  unfolding load_survey
  survey_load e = rw (e, surveys.taken_survey bytes e)

  pub vehicle_load : (read_vehicle bytes).answer ≡ (Ok tt) → load_vehicle s bytes ≡ record { session = record { survey = s.survey; vehicle = vehicle_of bytes }; answer = Values [] }
  unfolding load_vehicle
  vehicle_load e = rw (e, vehicles.taken_vehicle VEHICLE_VERSIONS bytes e)

  -- and one that refuses it
  pub survey_refused : (r : Refusal) → (read_survey bytes).answer ≡ Err r → (load_survey s bytes).answer ≡ refused_by r
  unfolding load_survey
  survey_refused r e = rw e

  pub vehicle_refused : (r : Refusal) → (read_vehicle bytes).answer ≡ Err r → (load_vehicle s bytes).answer ≡ refused_by r
  unfolding load_vehicle
  vehicle_refused r e = rw e

  -- a load that does not take its file leaves the session; one of the other file leaves this one
  pub survey_left : ¬ ((load_survey s bytes).answer ≡ Values []) → (load_survey s bytes).session.survey ≡ s.survey
  unfolding load_survey
  survey_left =
      reading_case (read_survey bytes).answer (λ a. ¬ ((stored_survey s a (read_survey bytes).survey).answer ≡ Values []) → (stored_survey s a (read_survey bytes).survey).session.survey ≡ s.survey) (λ e h. absurd (h refl))
      (λ r e h. refl)

  pub vehicle_left : ¬ ((load_vehicle s bytes).answer ≡ Values []) → (load_vehicle s bytes).session.vehicle ≡ s.vehicle
  unfolding load_vehicle
  vehicle_left = stored_left s (read_vehicle bytes).answer (read_vehicle bytes).vehicle

  pub other_survey : (load_vehicle s bytes).session.survey ≡ s.survey
  unfolding load_vehicle
  other_survey = stored_survey_lem s (read_vehicle bytes).answer (read_vehicle bytes).vehicle

  pub other_vehicle : (load_survey s bytes).session.vehicle ≡ s.vehicle
  unfolding load_survey
  other_vehicle =
      reading_case (read_survey bytes).answer (λ a. (stored_survey s a (read_survey bytes).survey).session.vehicle ≡ s.vehicle) (λ e. refl) (λ r e. refl)

-- the same of two vehicles that are coupled
module _ (s : Session) (first second : List ℕ) (gap : ℕ) where
  abbrev pair : VehicleRead
  pair = coupleFiles first second gap

  pub couple_read : (couple s first second gap).answer ≡ Values [] → pair.answer ≡ (Ok tt)
  unfolding couple
  couple_read = stored_taken s pair.answer pair.vehicle

  pub couple_left : ¬ ((couple s first second gap).answer ≡ Values []) → (couple s first second gap).session.vehicle ≡ s.vehicle
  unfolding couple
  couple_left = stored_left s pair.answer pair.vehicle

  pub couple_survey : (couple s first second gap).session.survey ≡ s.survey
  unfolding couple
  couple_survey = stored_survey_lem s pair.answer pair.vehicle

  pub couple_kept : (n p : ℕ) → (couple s first second gap).answer ≡ RefusedAt n p → (couple s first second gap).session ≡ s
  unfolding couple
  couple_kept = stored_kept s pair.answer pair.vehicle

  pub couple_load : MayBeCoupled first second gap →
      couple s first second gap ≡ record { session = record { survey = s.survey; vehicle = coupled_vehicle (vehicle_of first) (vehicle_of second) gap }; answer = Values [] }
  unfolding couple
  couple_load g = rw (coupled_read first second gap g)

  pub couple_refused : (n p : ℕ) → CoupleFault first second gap n p → (couple s first second gap).answer ≡ RefusedAt n p
  unfolding couple coupleFiles
  couple_refused n p f = rw (fault_refused first second gap n p f)

  pub couple_valid : Valid s → Valid (couple s first second gap).session
  unfolding couple
  couple_valid h = stored_valid s pair.answer pair.vehicle h (taken_allowed first second gap)
