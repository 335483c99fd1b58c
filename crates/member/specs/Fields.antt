-- The numbers of a member's record by name. Document 01, 'Files': "per member 16 u16: kind, species, l, d, x, h, q in
-- kgf/m, section code, s1 to s6, A, B". Document 02, request 2/13, of kind 7: "The deck fields use x for board count .., h for board
-- thickness .., A for board width .. and B for deck rot".
use Rattle.std.specs.Prelude.{ℕ, get_or}
use Rattle.member.specs.declared.record.Member.{Member}

abbrev pub KIND : ℕ
KIND = 0

abbrev pub SPECIES : ℕ
SPECIES = 1

-- l
abbrev pub SPAN : ℕ
SPAN = 2

-- d
abbrev pub SPACING : ℕ
SPACING = 3

-- x; of kind 7 the board count
abbrev pub DISTANCE : ℕ
DISTANCE = 4

-- h; of kind 7 the board thickness
abbrev pub HEIGHT : ℕ
HEIGHT = 5

-- q
abbrev pub DEAD_LOAD : ℕ
DEAD_LOAD = 6

abbrev pub CODE : ℕ
CODE = 7

abbrev pub S1 : ℕ
S1 = 8

abbrev pub S2 : ℕ
S2 = 9

abbrev pub S3 : ℕ
S3 = 10

abbrev pub S4 : ℕ
S4 = 11

abbrev pub S5 : ℕ
S5 = 12

abbrev pub S6 : ℕ
S6 = 13

-- A and B, of which μ = A/B; of kind 7 the board width and the deck rot
abbrev pub MU_A : ℕ
MU_A = 14

abbrev pub MU_B : ℕ
MU_B = 15

-- the number of fields of a record
abbrev pub FIELDS : ℕ
FIELDS = 16

-- kinds go from 1 to this
abbrev pub LAST_KIND : ℕ
LAST_KIND = 7

-- section codes go from 1 to this
abbrev pub LAST_CODE : ℕ
LAST_CODE = 5

-- the most members of a survey: document 01, 1..64, by document 02, request 12/13, "from 64 to 255"; and the most axles of a vehicle
abbrev pub MOST_MEMBERS : ℕ
MOST_MEMBERS = 255

abbrev pub MOST_AXLES : ℕ
MOST_AXLES = 16

abbrev pub field : Member → ℕ → ℕ
field m f = get_or m.fields f 0
