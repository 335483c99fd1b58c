-- `section::crescent::crescent_modulus` meets its contract: the sound log at depth 0, nothing past the last column, and in between the
-- table, which passes the test that it agrees with the definition.
-- Assumes nothing.
use Prim.Native.Nat.{◌≤◌, ◌<◌}
use mathlib.Core.Path.{◌≡◌, refl}
use native.Mathlib.Omega.{arith}
use Rattle.section.specs.Crescent.{crescent_modulus, crescent_row, crescent_table}
use Rattle.section.specs.Log.{log_modulus, log_table}
use Rattle.section.proofs.Crescents.{sound_crescent, past_the_page, crescent_entry}
use Rattle.section.proofs.Sections.{log_modulus_mono}
use Rattle.section.proofs.Table.{at_most_lem}
use Rattle.section.proofs.crescent.crescent_modulus.Goals as goal

sound : (c : goal.After-log_modulus) → c.log_modulus.result ≤ 4580
unfolding log_modulus log_table
sound c = rw c.log_modulus.ensures.is (log_modulus_mono c.args.diameter.0 36 (omega arith) (omega arith))

pub returns-then-depth-eq0 : goal.returns-then-depth-eq0
returns-then-depth-eq0 c =
    let a = c.args in
    let none : a.depth.0 ≡ 0 = omega arith in
    record {
      is = rw (none, sound_crescent a.diameter.0, c.log_modulus.ensures.is) refl;
      cap = omega (arith, sound c);
    }

pub returns-then-depth-gt-DEEPEST : goal.returns-then-depth-gt-DEEPEST
returns-then-depth-gt-DEEPEST c =
    let a = c.args in
    record {
      is = rw (past_the_page a.diameter.0 a.depth.0 (omega arith));
      cap = omega arith;
    }

pub returns : goal.returns
unfolding crescent_modulus crescent_row crescent_table log_modulus log_table
returns c =
    let a = c.args in
    let some : 0 < a.depth.0 = omega arith in
    let printed : a.depth.0 ≤ 17 = omega arith in
    let low : 14 ≤ a.diameter.0 = omega arith in
    let high : a.diameter.0 ≤ 36 = omega arith in
    record {
      is = search crescent_entry;
      cap = search at_most_lem;
    }
