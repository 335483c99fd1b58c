-- `compared` meets its contract: the difference of two readings is a reading, so its number of 64ths stands for its value.
-- Assumes nothing.
use Rattle.std.specs.Prelude.{Some}
use mathlib.Core.Path.{◌≡◌, sym, ◌∙◌}
use mathlib.Core.Bool.{true}
use native.Mathlib.Omega.{arith}
use Rattle.section.specs.Fraction.{at_most}
use Rattle.gauge.specs.Whole.{count_of, counted_of}
use Rattle.gauge.specs.Fault.{MayBeGauged}
use Rattle.gauge.specs.Gauge.{deflection, deflection_of}
use Rattle.gauge.specs.Limit.{limit}
use Rattle.gauge.specs.Value.{value_of, is_reading}
use Rattle.gauge.specs.declared.Readings.{Readings}
use Rattle.gauge.proofs.Differences.{deflection_reading}
use Rattle.gauge.proofs.Limits.{limit_sound}
use Rattle.gauge.proofs.Values.{reading_counted, count_against}
use Rattle.gauge.proofs.compared.Goals as goal
use Rattle.gauge.proofs.compared.Goals.{After-is_within, After-unwrap-count}

elastic : (r : Readings) → MayBeGauged r → is_reading (deflection r) ≡ true
elastic r g = deflection_reading r.loaded r.after (g.readings 1 (omega arith)) (g.readings 2 (omega arith)) g.order

counted : (r : Readings) → MayBeGauged r → counted_of (deflection r) ≡ Some (count_of (deflection r))
counted r g = rw (elastic r g)

-- the number of 64ths that the code compares
count : (c : After-unwrap-count) → c.unwrap-count.result ≡ count_of (deflection c.args.readings)
count c = let some = counted c.args.readings c.requires.1 in cc

-- the test that it makes is the definition's
test : (c : After-is_within) → let a = c.args in c.is_within.result ≡ at_most (value_of (deflection a.readings)) (limit a.m a.class)
test c =
    let a = c.args in
    c.is_within.ensures ∙
    rw (count c.before) (count_against (deflection a.readings) (limit a.m a.class) (reading_counted _ (elastic a.readings c.requires.1)) (limit_sound a.m a.class))

pub unwrap-count-requires : goal.unwrap-count-requires
unwrap-count-requires c = rw (c.sixty_fourths.ensures, counted c.args.readings c.requires.1)

pub is_within-requires : goal.is_within-requires
is_within-requires c =
    let p = c.requires in
    (rw (count (goal.at.is_within-requires c).After-unwrap-count) (reading_counted _ (elastic c.args.readings p.1)).few, p.0)

pub returns-then-is_within : goal.returns-then-is_within
unfolding deflection_of
returns-then-is_within c = rw (sym (test (goal.at.returns-then-is_within c).After-is_within) ∙ c.if-is_within.true)

pub returns-else-is_within : goal.returns-else-is_within
unfolding deflection_of
returns-else-is_within c = rw (sym (test (goal.at.returns-else-is_within c).After-is_within) ∙ c.if-is_within.false)
