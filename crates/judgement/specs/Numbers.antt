-- The numbers that the host program gets. Document 01, 'Calls': "It gets the number and place of a refusal, the survey's before the
-- vehicle's, or figure, governing place and verdict."
use Rattle.std.specs.Prelude.{get_or}
use Rattle.session.specs.Answers.{Answer, number_of, place_of, values_of}
use Rattle.judgement.specs.declared.Numbers.{Numbers}

-- Number and place of a refusal, 0 and 0 where there is none; figure, governing place and verdict in judge's order, 0 where there
-- is a refusal, which has no values. Document 02, request 6/13: "the new place but no margin", which is none of the values.
abbrev pub numbers_of : Answer → Numbers
numbers_of a =
    record {
      refusal = number_of a;
      place = place_of a;
      figure = get_or (values_of a) 0 0;
      governing = get_or (values_of a) 1 0;
      passes = get_or (values_of a) 2 0;
    }
