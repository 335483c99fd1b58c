-- `field_at` meets its contract: the words of a record stand one behind the other from its place on.
use mathlib.Core.Path.{sym, ◌∙◌}
use Rattle.surveys.proofs.Sequences.{record_field}
use Rattle.surveys.proofs.sequence.field_at.Goals as goal

pub returns : goal.returns
returns c =
    let a = c.args in
    c.word_at.ensures ∙ sym (record_field a.bytes.now a.i a.f c.requires.0)
