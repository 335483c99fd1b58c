-- `between::order::is_ordered` meets its contract: it asks for each field below the last.
-- Assumes nothing.
use mathlib.Core.Path.{◌≡◌, refl}
use mathlib.Core.Bool.{true, false}
use Rattle.std.proofs.Common.{rules}
use Rattle.std.proofs.lemmas.Iterator.{cases_from_all, YieldsList-from_range}
use Rattle.member.specs.Fields.{FIELDS}
use Rattle.between.specs.Order.{field_ordered, ordered}
use Rattle.files.proofs.Tests.{all_indices}
use Rattle.between.proofs.order.is_ordered.Goals as goal

pub returns : goal.returns
unfolding ordered
returns c =
    let test = field_ordered c.args.m c.args.n in
    all_indices test FIELDS c.all.result
    (cases_from_all _ _ c.all.result (λ f. test f ≡ true) (λ f. test f ≡ false) c.all.ensures.ran (YieldsList-from_range 0 FIELDS FIELDS refl refl) (λ x q k. search rules)
    (λ x q k. search rules))
