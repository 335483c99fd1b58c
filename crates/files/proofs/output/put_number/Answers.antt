-- `put_number` meets its contract. The loop's invariant: the first i bytes are put, and what is left of the number has the bytes that are left.
use Prim.Native.Nat.{suc, ◌-◌, ◌<◌}
use mathlib.Core.Path.{◌≡◌}
use native.Mathlib.Numerals.{add-one}
use native.Mathlib.Omega.{arith}
use lib.ListN.{length}
use lib.Seq.{paste-zero, paste-suc}
use Rattle.files.specs.Words.{bytes_of}
use Rattle.files.proofs.Numbers.{length_bytes, next_byte}
use Rattle.files.proofs.output.put_number.Goals as goal

pub loop-i-init : goal.loop-i-init
loop-i-init c =
    let all : c.args.width - 0 ≡ c.args.width = omega arith in
    (paste-zero c.args.out.now c.args.at (bytes_of c.args.width c.args.number), rw all)

pub loop-i-preserved : goal.loop-i-preserved
loop-i-preserved c =
    let l = c in
    let a = l.args in
    let i = l.loop-i.i in
    let bytes = bytes_of a.width a.number in
    let left = a.width - suc i in
    let more : a.width - i ≡ suc left = omega arith in
    let within : i < length bytes = omega (arith, length_bytes a.width a.number) in
    let next = next_byte bytes i left l.loop-i.rest within (rw more at l.loop-i.invariant.1) in
    let step = paste-suc a.out.now a.at bytes i 0 (omega (arith, l.requires)) within in
    (rw (l.loop-i.invariant.0, ← next.0, add-one) step, rw add-one next.1)

pub returns : goal.returns
returns c =
    let ended : c.loop-i.i ≡ c.args.width = omega arith in
    rw ended at c.loop-i.invariant.0
