-- A verdict in words. Document 01, 'Calls': "pass or refuse".
use Rattle.std.specs.Prelude.{ℕ, List}
use lib.Chars.{codes}
use Rattle.rating.specs.declared.judging.Verdict.{Verdict}
use Rattle.rating.specs.declared.judging.Verdict.TheVariants.{Pass, Refuse}

abbrev pub verdict_text : Verdict → List ℕ
verdict_text Pass = codes "pass"
verdict_text Refuse = codes "refuse"
