use Rattle.std.proofs.Common.{◌≡◌, ◌≤◌, length}
use Rattle.dom_facets.specs.Facets.{made_with, root_facets}
use Rattle.dom_facets.proofs.facets.Facets.make_all.Given as goal

abbrev pub invariant-loop-root : goal.invariant-loop-root
invariant-loop-root l = record {
  made : made_with l.h l.self ≡ root_facets l.root l.document (made_with l.fn.h l.fn.self);
  live : length l.fn.h.list ≤ length l.h.list;
}
