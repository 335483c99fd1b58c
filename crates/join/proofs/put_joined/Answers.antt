-- `put_joined` meets its contract. The loop's invariant: behind the header the first i joined records are put.
-- Assumes nothing.
use mathlib.Core.Path.{◌≡◌, ap₂, ◌∙◌}
use native.Mathlib.Omega.{arith}
use lib.Seq.{paste}
use Rattle.surveys.specs.SurveyFile.{SURVEY_HEADER, count_of}
use Rattle.join.specs.Join.{joined_member, joined_at}
use Rattle.join.specs.SurveyBytes.{head_bytes}
use Rattle.join.proofs.Pairs.{length_output}
use Rattle.join.proofs.Surveys.{record_put, survey_put}
use Rattle.join.proofs.put_joined.Goals as goal

pub loop-i-preserved : goal.loop-i-preserved
loop-i-preserved c =
    let a = c.args in
    let joined = c.joined_member-joined.ensures ∙ ap₂ joined_member c.record_at.ensures c.record_at-in-loop-i.ensures in
    rw (c.put_record.ensures, c.loop-i.invariant, joined) (record_put (joined_at a.first.now a.second.now) c.put_head.new.out c.loop-i.i (omega (arith, c.put_head.auto.out, c.requires.2)))

pub returns : goal.returns
returns c =
    let first = c.args.first.now in
    let second = c.args.second.now in
    let count = c.count_of-count.ensures.0 in
    let ended : c.loop-i.i ≡ count_of first = omega (arith, count) in
    let head : c.put_head.new.out ≡ paste c.args.out.now 0 (head_bytes (count_of first)) SURVEY_HEADER = c.put_head.ensures ∙ rw count in
    record {
      length = omega (arith, count, length_output first second);
      out = rw (c.loop-i.invariant, ended, head) (survey_put (joined_at first second) c.args.out.now (count_of first));
    }
