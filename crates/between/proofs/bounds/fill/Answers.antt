-- `between::bounds::fill` meets its contract: what the two judgements wrote is copied, and their verdicts are compared.
-- Assumes nothing.
use mathlib.Core.Path.{◌≡◌, ◌∙◌}
use native.Mathlib.Omega.{arith}
use Rattle.between.proofs.Lists.{bounds_length, bounds_same, written_permitted}
use Rattle.between.proofs.bounds.fill.Goals as goal

pub judge-best-requires : goal.judge-best-requires
judge-best-requires c =
    let p = c.requires in
    (p.0, p.2, omega (arith, p.0.count))

pub judge-worst-requires : goal.judge-worst-requires
judge-worst-requires c =
    let p = c.requires in
    (p.1, p.2, omega (arith, p.1.count))

pub shape_of-list : goal.shape_of-list
shape_of-list c =
    let p = c in
    rw p.put_bounds.ensures (bounds_length _ _ _ _ p.requires.4)

pub returns : goal.returns
returns c =
    let p = c in
    let second = p in
    let first = second in
    let pre = first.requires in
    let same : first.args.first.count ≡ first.args.second.count = pre.3 in record {
      is = rw (c.verdict_between.ensures, first.judge-best.ensures.is, second.judge-worst.ensures.is);
      list = p.put_bounds.ensures ∙
          bounds_same _ _ (λ i l. written_permitted _ pre.1 _ second.judge-worst.ensures.list i (omega arith)) (written_permitted _ pre.0 _ first.judge-best.ensures.list);
    }
