-- How two readings of a field are joined. Document 02, request 10/13: "Join two surveys of one bridge: spans may differ by 5, section sizes ..,
-- spacing, truss height and rot by 1, and the mean is taken. An odd half goes up for span, spacing, rot, loss and dead load, and down otherwise.
-- Losses and dead load may differ by any amount. Kinds, species, codes, x, tiers, pieces, cuts, dowel type and diameter, A and B (deck rot too)
-- must agree; for kind 7 h must too." What is rot and what is a loss of a section is the table of member/specs/Wear.antt.
use Rattle.std.specs.Prelude.{ℕ, ◌+◌, ◌/◌, Bool, true, ◌&&◌, List, [], ◌∷◌, ◌++◌, eqb, leb}
use Rattle.section.specs.Choose.{choose}
use Rattle.member.specs.Fields.{KIND, SPECIES, SPAN, SPACING, DISTANCE, HEIGHT, DEAD_LOAD, CODE, S1, S2, S3, S4, S5, S6, MU_A, MU_B}
use Rattle.member.specs.Format.{holds}
use Rattle.member.specs.Wear.{rot_fields, lost_fields}
use Rattle.join.specs.declared.rule.Rule.{Rule}
use Rattle.join.specs.declared.rule.Rule.TheVariants.{MustAgree, MeanUp, MeanDown, AnyMeanUp}

-- "section sizes (log diameter, width and height, c and a, the area of code 4)"; code 5, request 1/13, is a log too
unfoldable pub size_fields : (code : ℕ) → List ℕ
size_fields code =
    choose (eqb code 1) (S1 ∷ [])
    (choose (eqb code 2) (S1 ∷ S2 ∷ [])
    (choose (eqb code 3) (S3 ∷ S4 ∷ [])
    (choose (eqb code 4) (S1 ∷ [])
    (choose (eqb code 5) (S1 ∷ []) []))))

-- a section's fields: sizes and rot "by 1", losses "by any amount", and what "must agree"
unfoldable pub section_rule : (code f : ℕ) → Rule
section_rule code f =
    choose (holds f (size_fields code)) (MeanDown 1)
    (choose (holds f (rot_fields code)) (MeanUp 1)
    (choose (holds f (lost_fields code)) AnyMeanUp MustAgree))

-- "truss height .. by 1"; "for kind 7 h must [agree] too"
unfoldable pub height_rule : (kind : ℕ) → Rule
height_rule kind = choose (eqb kind 7) MustAgree (MeanDown 1)

-- the rule of a field, by the record's kind and code
unfoldable pub rule_of : (kind code f : ℕ) → Rule
rule_of kind code f =
    choose (eqb f SPAN) (MeanUp 5)
    (choose (eqb f SPACING) (MeanUp 1)
    (choose (eqb f HEIGHT) (height_rule kind)
    (choose (eqb f DEAD_LOAD) AnyMeanUp (section_rule code f))))

-- "An odd half goes up for span, spacing, rot, loss and dead load, and down otherwise."
unfoldable pub goes_up : (code : ℕ) → List ℕ
goes_up code = SPAN ∷ SPACING ∷ rot_fields code ++ lost_fields code ++ (DEAD_LOAD ∷ [])

-- "Kinds, species, codes, x, tiers, pieces, cuts, dowel type and diameter, A and B (deck rot too) must agree; for kind 7 h must too."
unfoldable pub agreeing : (kind code : ℕ) → List ℕ
agreeing kind code =
    KIND ∷ SPECIES ∷ CODE ∷ DISTANCE ∷ MU_A ∷ MU_B ∷
    choose (eqb code 1) (S3 ∷ [])
    (choose (eqb code 2) (S5 ∷ [])
    (choose (eqb code 3) (S6 ∷ S1 ∷ S2 ∷ [])
    (choose (eqb code 5) (S3 ∷ []) []))) ++
    choose (eqb kind 7) (HEIGHT ∷ []) []

-- where the two readings x and y "must agree", they do
abbrev pub agrees : Rule → (x y : ℕ) → Bool
agrees MustAgree x y = eqb x y
agrees (MeanUp apart) x y = true
agrees (MeanDown apart) x y = true
agrees AnyMeanUp x y = true

-- where they "may differ by" so much, they differ by no more
abbrev pub near : Rule → (x y : ℕ) → Bool
near MustAgree x y = true
near (MeanUp apart) x y = leb x (y + apart) && leb y (x + apart)
near (MeanDown apart) x y = leb x (y + apart) && leb y (x + apart)
near AnyMeanUp x y = true

-- "and the mean is taken. An odd half goes up .. and down"; where they must agree it is the one that both have
abbrev pub joined_number : Rule → (x y : ℕ) → ℕ
joined_number MustAgree x y = x
joined_number (MeanUp apart) x y = (x + y + 1) / 2
joined_number (MeanDown apart) x y = (x + y) / 2
joined_number AnyMeanUp x y = (x + y + 1) / 2
