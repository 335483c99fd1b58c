-- The answer of a reading, and the order of its tests. A test that fails is a refusal's number in documents 01 and 02; 0 is none.
use Rattle.std.specs.Prelude.{ℕ, suc, List, [], ◌∷◌, Bool, ◌&&◌, eqb, leb, Result, Ok, Err, ⊤}
use Rattle.section.specs.Choose.{choose}
use Rattle.member.specs.Format.{Range}
use Rattle.files.specs.declared.Refusal.{Refusal}

-- "taken, or refused by a number of the list with the record named"
abbrev pub Reading : Type 0
Reading = Result ⊤ Refusal

infix 68 ◌unless◌
-- the number where the test fails, 0 where it holds
abbrev pub ◌unless◌ : ℕ → Bool → ℕ
number unless test = choose test 0 number

-- the first fault of a row of tests, 0 where there is none
abbrev pub first_of : List ℕ → ℕ
first_of [] = 0
first_of (n ∷ ns) = choose (eqb n 0) (first_of ns) n

-- "The first fault in record order ends the reading, and its place is given": the faults stand in the order of places, the
-- first at `place`
abbrev pub first_fault : ℕ → List ℕ → Reading
first_fault place [] = Ok tt
first_fault place (n ∷ ns) = choose (eqb n 0) (first_fault (suc place) ns) (Err (record { number = n; place = place }))

-- the earlier answer where it is a refusal
abbrev pub or_else : (earlier later : Reading) → Reading
or_else (Ok tt) later = later
or_else (Err r) later = Err r

-- a test at place 0
abbrev pub test : (number : ℕ) (holds : Bool) → Reading
test number holds = choose holds (Ok tt) (Err (record { number = number; place = 0 }))

-- the first refusal of a row of tests
abbrev pub first_refusal : List Reading → Reading
first_refusal [] = Ok tt
first_refusal (a ∷ row) = or_else a (first_refusal row)

-- a number lies in a range
abbrev pub is_in : Range → ℕ → Bool
is_in r n = leb r.low n && leb n r.high

-- the number and the place of an answer, 0 and 0 where the file is taken
abbrev pub number_of : Reading → ℕ
number_of (Ok tt) = 0
number_of (Err r) = r.number

abbrev pub place_of : Reading → ℕ
place_of (Ok tt) = 0
place_of (Err r) = r.place

-- what was read where the file is taken, else the refusal
abbrev pub taken : {A : Type 0} → Reading → A → Result A Refusal
taken (Ok tt) value = Ok value
taken (Err r) value = Err r
