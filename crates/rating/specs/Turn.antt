-- What one turn of the loop over the members does. Nothing here has to be believed: proofs/Turns.antt ties it to Judgement.
use Rattle.std.specs.Prelude.{ℕ, Bool, ◌||◌, eqb, ltb}
use Rattle.std.specs.Int.Signed.{lt_z}
use Rattle.section.specs.Choose.{choose}
use Rattle.rating.specs.declared.judging.Verdict.{Verdict}
use Rattle.rating.specs.declared.judging.Verdict.TheVariants.{Pass, Refuse}
use Rattle.rating.specs.declared.judging.Rating.{Rating}
use Rattle.rating.specs.declared.judging.Judgement.{Judgement}

abbrev pub both : Verdict → Verdict → Verdict
both Pass w = w
both Refuse w = Refuse

-- the first member's number is the least so far, then each that is less
abbrev pub replaces : {A : Type 0} (less : A → A → Bool) (place : ℕ) (own sofar : A) → Bool
replaces less place own sofar = eqb place 1 || less own sofar

-- the judgement of the members so far and one more, at this place
unfoldable pub with_member : Judgement → Rating → (place : ℕ) → Judgement
with_member j r place =
    record {
      figure = choose (replaces ltb place r.permitted.0 j.figure.0) r.permitted j.figure;
      governing = choose (replaces lt_z place r.margin j.margin) place j.governing;
      verdict = both j.verdict r.verdict;
      margin = choose (replaces lt_z place r.margin j.margin) r.margin j.margin;
    }
