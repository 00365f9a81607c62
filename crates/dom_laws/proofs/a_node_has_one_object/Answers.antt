use Rattle.dom_laws.proofs.Fits.{one_facet, facets_are_there, facet_is_named, asking_makes_none}
use Rattle.dom_laws.proofs.a_node_has_one_object.Goals as goal

pub returns : goal.returns
returns c = record { one = one_facet; there = facets_are_there; named = facet_is_named; asking = asking_makes_none }
