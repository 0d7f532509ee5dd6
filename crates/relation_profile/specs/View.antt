-- A view of a node: the parts of a profile that the node's facts leave open. docs/MODEL.md, "Relation profile", tells it in prose.
use Rattle.base_laws.specs.Sets.{IsWithin, without}
use Rattle.plan_algebra.specs.declared.facts.NodeFacts.{NodeFacts}
use Rattle.relation_profile.specs.declared.view.View.{View}
use Rattle.relation_profile.specs.Profile.{Profile}

-- the view of a profile
abbrev pub view_of : Profile → View
view_of p = record {
  enc = record { 0 = p.visible_encrypted };
  ip = record { 0 = p.implicit_plain };
  ie = record { 0 = p.implicit_encrypted };
}

-- the profile for which a view stands at a node with these facts: what is visible and not encrypted is plaintext
abbrev pub profile_of : NodeFacts → View → Profile
profile_of facts view = record {
  visible_plain = without facts.visible.0 view.enc.0;
  visible_encrypted = view.enc.0;
  implicit_plain = view.ip.0;
  implicit_encrypted = view.ie.0;
  equivalent = facts.eq;
}

-- a view of a node with these facts: what is encrypted is visible there
pub record IsView (facts : NodeFacts) (view : View) : Type 0 where
  pub visible : IsWithin view.enc.0 facts.visible.0
