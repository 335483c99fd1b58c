-- What a file or a call may be refused for, by its number in documents 01 and 02.
use Rattle.std.specs.Prelude.{ℕ, ⊤, Result, Ok, Err}
use Rattle.files.specs.declared.Refusal.{Refusal}
use Rattle.files.specs.declared.fault.Fault.{Fault}
use Rattle.files.specs.declared.fault.Fault.TheVariants.{Length, Mark, Count, Kind, Species, Section, Range, Unused, NoSurvey, NoVehicle, NoPlace, NoRoom, Order, Sequence, Weight, Disagreement, Apart, Gauge}

abbrev pub fault_number : Fault → ℕ
-- "1 length is not what the counts say (or too short to hold them); 2 mark or version; 3 count of members or axles"
fault_number Length = 1
fault_number Mark = 2
fault_number Count = 3
-- "4 kind; 5 species, where used; 6 section code does not suit the kind"
fault_number Kind = 4
fault_number Species = 5
fault_number Section = 6
-- "8 an unused field is not 0 (lost area in bending too); 7 a used number, class or track outside its range"
fault_number Range = 7
fault_number Unused = 8
-- "From the state: 11 no survey; 12 no vehicle; 13 no such place; 14 list shorter than two entries a member"
fault_number NoSurvey = 11
fault_number NoVehicle = 12
fault_number NoPlace = 13
fault_number NoRoom = 14
-- document 02, request 5/13: "15: a different count, place 0, else the first record that is not so ordered"
fault_number Order = 15
-- request 8/13: "16: a record before its predecessor"
fault_number Sequence = 16
-- request 9/13: "17: a weight above 60,000 going back"
fault_number Weight = 17
-- request 10/13: "18: counts differ, place 0, tested first, or fields that must agree do"; "19: sizes too far apart"
fault_number Disagreement = 18
fault_number Apart = 19
-- request 11/13: "20" a reading that is none, or after above loaded
fault_number Gauge = 20

-- the number of what has a fault, 0 where it has none
abbrev pub fault_of : Result ⊤ Fault → ℕ
fault_of (Ok u) = 0
fault_of (Err fault) = fault_number fault

-- "A refusal carries its number and place, nothing else."
abbrev pub refusal_at : Fault → (place : ℕ) → Refusal
refusal_at fault place = record { number = fault_number fault; place = place }
