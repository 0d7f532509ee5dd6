-- The laws that a search for the first fault needs, as one list.
use Rattle.base_laws.proofs.FirstLaws.{first_at-more, first_at-stop, first_at-end}

pub ruleset places = (first_at-more, first_at-stop, first_at-end)
