-- `section::dowel::least_term` meets its contract: the least of the four terms in hundredths is hundredths of the least term.
-- Assumes nothing.
use Prim.Native.Nat.{◌+◌, ◌*◌, ◌≤◌, min}
use mathlib.Core.Path.{◌≡◌}
use native.Mathlib.Omega.{arith}
use Rattle.section.proofs.Products.{product_cap}
use Rattle.section.proofs.Terms.{least_term_hundredths}
use Rattle.section.proofs.dowel.least_term.Goals as goal

pub returns-clause-is : goal.returns-clause-is
returns-clause-is c =
    let a = c.args in
    let k = a.k in
    let terms : c.min-3.result ≡
    min (10 * k.p * (a.c * a.d))
    (min (10 * k.q * (a.a * a.d)) (min (k.r * (a.d * a.d) + 100 * k.s * (a.a * a.a)) (k.t * (a.d * a.d)))) = cc in
    rw terms (least_term_hundredths k.p k.q k.r k.s k.t a.c a.a a.d)

pub returns-clause-cap : goal.returns-clause-cap
returns-clause-cap c =
    let a = c.args in
    let square : a.d * a.d ≤ 3600 = product_cap 60 60 (omega arith) (omega arith) in
    let stiff : a.k.t * (a.d * a.d) ≤ 1332000 = product_cap 370 3600 a.k.small.4 square in
    omega (arith, c.min-3.ensures, c.min-2.ensures, c.min.ensures)
