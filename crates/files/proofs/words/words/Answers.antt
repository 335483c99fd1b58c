-- `words` meets its contract: a store makes the row one word more.
use Prim.Native.Nat.{◌+◌, ◌*◌}
use native.Mathlib.Omega.{arith}
use Rattle.member.specs.Fields.{FIELDS}
use Rattle.files.specs.Words.{word_at}
use Rattle.files.proofs.Each.{store_each}
use Rattle.files.proofs.words.words.Goals as goal

pub loop-i-preserved : goal.loop-i-preserved
loop-i-preserved c =
    let a = c.args in
    rw (c.loop-i.invariant, c.word_at.ensures) (store_each (λ k. word_at a.bytes.now (a.at + 2 * k)) FIELDS c.loop-i.i 0 (omega arith))
