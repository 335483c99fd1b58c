-- `members_of` meets its contract. The invariant: the array holds the first i records, and blank ones after them.
use mathlib.Core.Path.{◌≡◌}
use native.Mathlib.Omega.{arith}
use Rattle.member.specs.Blank.{blank_member}
use Rattle.member.specs.Fields.{MOST_MEMBERS}
use Rattle.surveys.specs.SurveyFile.{record_at}
use Rattle.files.proofs.Each.{store_each}
use Rattle.surveys.proofs.file.members_of.Goals as goal

pub loop-i-init : goal.loop-i-init
loop-i-init c = rw c.blank_member-members.ensures

pub loop-i-preserved : goal.loop-i-preserved
loop-i-preserved c =
    let i = c.loop-i.i in
    rw (c.loop-i.invariant, c.record_at.ensures) (store_each (record_at c.args.bytes.now) MOST_MEMBERS i blank_member (omega arith))

pub returns : goal.returns
returns c = let e : c.loop-i.i ≡ c.args.count = omega arith in rw e at c.loop-i.invariant
