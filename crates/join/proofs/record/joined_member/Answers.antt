-- `joined_member` meets its contract. The loop's invariant: the row holds the first f joined numbers, and 0 after them.
-- Assumes nothing.
use Prim.Native.Nat.{ℕ}
use mathlib.Core.Path.{◌≡◌, ap}
use mathlib.Core.List.{List, append-nil}
use native.Mathlib.Omega.{arith}
use Rattle.member.specs.Fields.{FIELDS}
use Rattle.files.proofs.Each.{store_each}
use Rattle.join.specs.Join.{joined_field, joined_member}
use Rattle.join.proofs.record.joined_member.Goals as goal

pub loop-f-preserved : goal.loop-f-preserved
loop-f-preserved c =
    let a = c.args in
    rw (c.loop-f.invariant, c.joined.ensures, c.rule_at.ensures) (store_each (joined_field a.m a.n) FIELDS c.loop-f.f 0 (omega arith))

pub returns : goal.returns
unfolding joined_member
returns c =
    let ended : c.loop-f.f ≡ FIELDS = omega arith in
    ap (λ (fields : List ℕ). record { fields = fields }) (rw (c.loop-f.invariant, ended, append-nil))
