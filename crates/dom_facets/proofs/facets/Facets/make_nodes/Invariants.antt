use Rattle.std.proofs.Common.{◌≡◌, ◌-◌, ◌≤◌, length}
use Rattle.doc_nodes.specs.Rows.{nodes_of}
use Rattle.dom_facets.specs.Facets.{made_with, node_facets}
use Rattle.dom_facets.proofs.facets.Facets.make_nodes.Given as goal

abbrev pub invariant-nodes : goal.invariant-nodes
invariant-nodes l = record {
  made : made_with l.h l.self ≡ node_facets l.root l.number l.document (made_with l.fn.h l.fn.self);
  live : length l.fn.h.list ≤ length l.h.list;
  few : l.number ≤ length (nodes_of l.document.roots l.root);
}

abbrev pub decreases-nodes : goal.decreases-nodes
decreases-nodes l = length (nodes_of l.document.roots l.root) - l.number
