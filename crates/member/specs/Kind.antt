-- The kinds of member by their numbers. Document 01, 'Permitted load', the table: "4 dowelled joint", "5 keyed joint", "6 steel plates"; kind 7 from
-- document 02, request 2/13: "Closely spaced stringers .. Add kind 7"
use Rattle.std.specs.Prelude.{ℕ, ◌≡◌, Result, MatchResult}
use Rattle.member.specs.Fields.{LAST_KIND}
use Rattle.member.specs.Format.{In, ◌‥◌}
use Rattle.member.specs.declared.kind.Kind.{Kind}
use Rattle.member.specs.declared.kind.Kind.TheVariants.{Stringer, CrossBeam, Chord, DowelledJoint, KeyedJoint, SteelPlates, CloseStringer}
use Rattle.member.specs.declared.kind.UnknownKind.{UnknownKind}

abbrev pub kind_number : Kind → ℕ
kind_number Stringer = 1
kind_number CrossBeam = 2
kind_number Chord = 3
kind_number DowelledJoint = 4
kind_number KeyedJoint = 5
kind_number SteelPlates = 6
kind_number CloseStringer = 7

-- the kind with this number, or the number itself where no kind has it
abbrev pub KindIs : ℕ → Result Kind UnknownKind → Type 0
KindIs number r = MatchResult r (λ kind. kind_number kind ≡ number) (λ e. (e.0 ≡ number) × (In (1 ‥ LAST_KIND) number → ⊥))
