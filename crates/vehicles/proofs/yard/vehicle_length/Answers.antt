-- `vehicle_length` meets its contract: an axle has at most six bytes, a count is one byte, so no product is too great.
use Prim.Native.Nat.{◌≤◌}
use native.Mathlib.Omega.{arith}
use Rattle.section.proofs.Products.{product_cap, product_fits}
use Rattle.vehicles.proofs.yard.vehicle_length.Goals as goal

pub overflow_mul-own : goal.overflow_mul-own
overflow_mul-own c = product_fits 6 255 tt c.axle_size-size.ensures.cap (omega (arith, c.from.type_inv))

pub overflow_add-own : goal.overflow_add-own
overflow_add-own c =
    let count : c.from.result ≤ 255 = omega (arith, c.from.type_inv) in
    omega (arith, product_cap 6 255 c.axle_size-size.ensures.cap count)
