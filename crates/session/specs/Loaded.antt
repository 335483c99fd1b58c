-- What is loaded: a survey with count 0, or a vehicle with no axles, is not loaded.
use Rattle.std.specs.Prelude.{◌<◌}
use Rattle.member.specs.Format.{AllowedVehicle}
use Rattle.member.specs.declared.record.Survey.{Survey}
use Rattle.member.specs.declared.record.Vehicle.{Vehicle}
use Rattle.rating.specs.Surveyed.{AllowedSurvey}

-- what a contract sees of a session
pub record Session : Type 0 where
  pub survey : Survey
  pub vehicle : Vehicle

-- What every session keeps to: a survey or a vehicle that is loaded is as its file's format allows.
pub record Valid (s : Session) : Type 0 where
  pub survey : 0 < s.survey.count → AllowedSurvey s.survey
  pub vehicle : 0 < s.vehicle.axles → AllowedVehicle s.vehicle
