use Rattle.std.proofs.Common.{◌≡◌, ◌++◌, ◌≤◌, drop, length}
use Rattle.dom_facets.specs.Facets.{facets}
use Rattle.dom_facets.proofs.facets.Facets.all.Given as goal

abbrev pub invariant-loop-n : goal.invariant-loop-n
invariant-loop-n l = record {
  values : l.values.items ++ (facets (drop l.n-index l.nodes) l.document l.h l.self).values ≡ (facets l.nodes l.document l.fn.h l.fn.self).values;
  heap : (facets (drop l.n-index l.nodes) l.document l.h l.self).heap ≡ (facets l.nodes l.document l.fn.h l.fn.self).heap;
  kept : (facets (drop l.n-index l.nodes) l.document l.h l.self).facets ≡ (facets l.nodes l.document l.fn.h l.fn.self).facets;
  live : length l.fn.h.list ≤ length l.h.list;
}
