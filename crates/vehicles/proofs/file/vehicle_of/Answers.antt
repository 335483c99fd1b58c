-- `vehicle_of` meets its contract. The invariant: the first i weights and distances are the file's, and 0 stands after them.
use Prim.Native.Nat.{◌<◌}
use mathlib.Core.Path.{◌≡◌, refl}
use native.Mathlib.Omega.{arith}
use Rattle.section.specs.Units.{centimetres, kgf}
use Rattle.member.specs.Fields.{MOST_AXLES}
use Rattle.vehicles.specs.VehicleFile.{axles_of, weight_at, distance_at}
use Rattle.files.proofs.Each.{store_each}
use Rattle.vehicles.proofs.Axles.{weight_field, distance_field}
use Rattle.vehicles.proofs.file.vehicle_of.Goals as goal

pub loop-i-init : goal.loop-i-init
loop-i-init c = (refl, refl)

pub loop-i-preserved : goal.loop-i-preserved
loop-i-preserved c =
    let l = c.loop-i in
    let b = c.args.axles.bytes.now in
    let below : l.i < MOST_AXLES = omega (arith, c.args.axles.few) in (
      rw (l.invariant.0, c.from.ensures, c.field.ensures, weight_field b l.i) (store_each (λ k. kgf (weight_at b k)) MOST_AXLES l.i (kgf 0) below),
      rw (l.invariant.1, c.from-in-loop-i.ensures, c.field-in-loop-i.ensures, distance_field b l.i) (store_each (λ k. centimetres (distance_at b k)) MOST_AXLES l.i (centimetres 0) below),
    )

pub returns : goal.returns
returns c =
    let e : c.loop-i.i ≡ axles_of c.args.axles.bytes.now = omega (arith, c.requires) in
    rw (c.from-2.ensures, c.word_at.ensures, rw e at c.loop-i.invariant.0, rw e at c.loop-i.invariant.1, c.requires)
