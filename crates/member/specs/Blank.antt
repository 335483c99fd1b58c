-- A record and a survey with nothing in them.
use Rattle.std.specs.Prelude.{replicate}
use Rattle.member.specs.Fields.{FIELDS, MOST_MEMBERS}
use Rattle.member.specs.declared.record.Member.{Member}
use Rattle.member.specs.declared.record.Survey.{Survey}

abbrev pub blank_member : Member
blank_member = record { fields = replicate FIELDS 0 }

-- no members, in as many places as a survey may have
abbrev pub blank_survey : Survey
blank_survey = record { count = 0; members = replicate MOST_MEMBERS blank_member }
