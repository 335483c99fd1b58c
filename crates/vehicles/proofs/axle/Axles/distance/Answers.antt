-- `distance` meets its contract: the distance stands behind the weight.
use mathlib.Core.Path.{◌∙◌}
use native.Mathlib.Omega.{arith}
use Rattle.vehicles.proofs.Axles.{axle_room, distance_behind}
use Rattle.vehicles.proofs.axle.Axles.distance.Goals as goal

pub overflow_add-at : goal.overflow_add-at
overflow_add-at c =
    let s = c.args.self in
    let room = axle_room s.bytes.now c.args.axle s.own c.begin.ensures c.requires s.whole in
    omega (arith, room, c.weight_bytes.ensures.is, c.well_formed)

pub word_at-requires : goal.word_at-requires
word_at-requires c =
    let s = c.args.self in
    let room = axle_room s.bytes.now c.args.axle s.own c.begin.ensures c.requires s.whole in
    omega (arith, room, c.weight_bytes.ensures.is)

pub returns : goal.returns
returns c =
    let s = c.args.self in
    let at = rw c.weight_bytes.ensures.is at c.word_at.ensures in
    distance_behind s.bytes.now c.args.axle s.own c.begin.ensures (c.from.ensures ∙ at)
