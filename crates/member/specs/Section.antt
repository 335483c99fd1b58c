-- The section of a member as its code reads s1 to s6. Document 01, 'Net section', the table of codes; code 5 from document 02, request 1/13.
use Rattle.std.specs.Prelude.{◌≡◌}
use Rattle.member.specs.Fields.{CODE, S1, S2, S3, S4, S5, S6, field}
use Rattle.member.specs.declared.record.Member.{Member}
use Rattle.member.specs.declared.record.Section.{Section}
use Rattle.member.specs.declared.record.Section.TheVariants.{Log, Sawn, Dowels, Area, Crescent}

abbrev pub SectionIs : Member → Section → Type 0
SectionIs m (Log s) = (field m CODE ≡ 1) × (s.diameter.0 ≡ field m S1) × (s.rot.0 ≡ field m S2) × (s.tiers ≡ field m S3)
SectionIs m (Sawn s) =
    (field m CODE ≡ 2) × (s.width.0 ≡ field m S1) × (s.height.0 ≡ field m S2) × (s.side_rot.0 ≡ field m S3) × (s.top_rot.0 ≡ field m S4) ×
    (s.pieces ≡ field m S5) ×
    (s.lost ≡ field m S6)
SectionIs m (Dowels s) =
    (field m CODE ≡ 3) × (s.material ≡ field m S1) × (s.diameter.0 ≡ field m S2) × (s.middle.0 ≡ field m S3) × (s.outer.0 ≡ field m S4) ×
    (s.rot.0 ≡ field m S5) ×
    (s.cuts ≡ field m S6)
SectionIs m (Area given lost) = (field m CODE ≡ 4) × (given ≡ field m S1) × (lost ≡ field m S2)
SectionIs m (Crescent s) = (field m CODE ≡ 5) × (s.diameter.0 ≡ field m S1) × (s.depth.0 ≡ field m S2) × (s.tiers ≡ field m S3)
