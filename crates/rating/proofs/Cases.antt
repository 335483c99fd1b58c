-- The cases of document 01, by one test that antt computes over the whole table.
-- Assumes nothing.
use mathlib.Core.Path.{◌≡◌, refl}
use mathlib.Core.Bool.{true}
use Rattle.section.specs.Fraction.{over, whole, tenths, hundredths, square, lesser, greater, floor, ceiling, ◌·◌, ◌÷◌, ◌⊕◌, ◌⊖◌}
use Rattle.section.specs.Dowel.{least_term, term_of, dowel_capacity}
use Rattle.section.specs.Greatest.{greatest_up_to}
use Rattle.section.specs.Log.{net_diameter, log_table, log_modulus, tiered_modulus}
use Rattle.section.specs.Sawn.{sawn_modulus, sawn_area, area_left}
use Rattle.influence.specs.Influence.{sum, total, height, axle_sum, per_metre, gives, greatest_one_way, greatest, behind, vehicle_load}
use Rattle.member.specs.Formula.{stringer, cross_beam, chord, joint, dowelled, keyed, plates, permitted}
use Rattle.member.specs.PermittedLoad.{distribution, section_modulus, net_area, capacity, joint_front, formula_of, permitted_load}
use Rattle.rating.specs.VehicleLoad.{line_of, vehicle_load_on}
use Rattle.rating.specs.Cases.{cases, all_rows_hold}

pub cases_hold : all_rows_hold cases ≡ true
unfolding over whole tenths hundredths square lesser greater floor ceiling ◌·◌ ◌÷◌ ◌⊕◌ ◌⊖◌ least_term term_of dowel_capacity net_diameter log_table log_modulus tiered_modulus sawn_modulus sawn_area area_left stringer cross_beam chord joint dowelled keyed plates permitted distribution section_modulus net_area capacity joint_front formula_of permitted_load sum total greatest_up_to height axle_sum per_metre gives greatest_one_way greatest behind vehicle_load line_of vehicle_load_on cases
cases_hold = refl
