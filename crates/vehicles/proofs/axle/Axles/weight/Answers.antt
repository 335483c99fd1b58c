-- `weight` meets its contract: the number has as many bytes as the version says.
use mathlib.Core.Path.{◌∙◌}
use native.Mathlib.Omega.{arith}
use Rattle.vehicles.proofs.Axles.{four_bytes, axle_room, weight_of_four, weight_of_two}
use Rattle.vehicles.proofs.axle.Axles.weight.Goals as goal

pub long_at-requires : goal.long_at-requires
long_at-requires c =
    let s = c.args.self in
    let room = axle_room s.bytes.now c.args.axle s.own c.begin-at.ensures c.requires s.whole in
    omega (arith, room, four_bytes _ c.if-self-eq2.true)

pub word_at-requires : goal.word_at-requires
word_at-requires c =
    let s = c.args.self in
    omega (arith, axle_room s.bytes.now c.args.axle s.own c.begin-at.ensures c.requires s.whole)

pub returns-then-self-eq2 : goal.returns-then-self-eq2
returns-then-self-eq2 c =
    let s = c.args.self in
    weight_of_four s.bytes.now c.args.axle s.own c.begin-at.ensures c.if-self-eq2.true c.long_at.ensures

pub returns-else-self-eq2 : goal.returns-else-self-eq2
returns-else-self-eq2 c =
    let s = c.args.self in
    weight_of_two s.bytes.now c.args.axle s.own c.begin-at.ensures c.if-self-eq2.false (c.from.ensures ∙ c.word_at.ensures)
