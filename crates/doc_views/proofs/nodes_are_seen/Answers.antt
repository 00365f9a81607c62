use Rattle.doc_views.proofs.Views.{node_is_seen, count_is_seen, parents_are_seen, numbers_are_seen, parent_is_seen, children_are_seen, attribute_is_seen}
use Rattle.doc_views.proofs.nodes_are_seen.Goals as goal

pub returns : goal.returns
returns c = record { node = node_is_seen; count = count_is_seen; parents = parents_are_seen; numbers = numbers_are_seen; parent = parent_is_seen; children = children_are_seen; attribute = attribute_is_seen }
