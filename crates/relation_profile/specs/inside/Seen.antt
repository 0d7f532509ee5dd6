-- The visible attributes of a table, as the code has them in hand, and the profile that has those alone.
use Rattle.std.specs.Prelude.{[]}
use Rattle.relation_profile.specs.declared.seen.Seen.{Seen}
use Rattle.relation_profile.specs.Profile.{Profile}

-- a profile with these visible attributes
abbrev pub showing : Seen → Profile
showing seen = record {
  visible_plain = seen.plain.0;
  visible_encrypted = seen.sealed.0;
  implicit_plain = 0;
  implicit_encrypted = 0;
  equivalent = [];
}
