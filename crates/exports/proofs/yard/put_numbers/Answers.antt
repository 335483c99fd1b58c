-- `put_numbers` meets its contract. The loop's invariant: the list has the numbers of the answers passed, and then what was there.
use mathlib.Core.Path.{◌≡◌, refl}
use native.Mathlib.Omega.{arith}
use lib.ListN.{length, take, length-set}
use lib.Seq.{take_all}
use Rattle.exports.proofs.Rows.{rows_length, turn}
use Rattle.exports.proofs.yard.put_numbers.Goals as goal
use Rattle.exports.proofs.yard.put_numbers.Goals.{At-loop-i}

-- the list keeps its length
kept : (c : At-loop-i) → length c.loop-i.list ≡ length c.args.list.now
kept c =
    let a = c.args in
    rw c.loop-i.invariant (rows_length a.answers.now a.list.now c.loop-i.i (omega arith) (omega arith))

pub loop-i-init : goal.loop-i-init
loop-i-init c = refl

pub bounds-list-at : goal.bounds-list-at
bounds-list-at c = omega (arith, kept (goal.at.bounds-list-at c).At-loop-i)

pub bounds-list-at-in-loop-i : goal.bounds-list-at-in-loop-i
bounds-list-at-in-loop-i c = simp length-set (omega (arith, kept (goal.at.bounds-list-at-in-loop-i c).At-loop-i))

pub bounds-list-at-in-loop-i-2 : goal.bounds-list-at-in-loop-i-2
bounds-list-at-in-loop-i-2 c = simp length-set (omega (arith, kept (goal.at.bounds-list-at-in-loop-i-2 c).At-loop-i))

pub loop-i-preserved : goal.loop-i-preserved
loop-i-preserved c =
    let a = c.args in
    turn a.answers.now a.list.now c.loop-i.i _ (omega arith) (omega arith) c.loop-i.invariant c.verdict_number.ensures

pub shape_of-list : goal.shape_of-list
shape_of-list c = kept (goal.at.shape_of-list c).At-loop-i

pub returns : goal.returns
returns c =
    let js = c.args.answers.now in
    let ended : c.loop-i.i ≡ length js = omega arith in
    let all : take (length js) js ≡ js = take_all (length js) js (omega arith) in
    rw (ended, all) at c.loop-i.invariant
