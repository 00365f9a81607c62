use Rattle.std.proofs.Common.{◌≡◌, ◌<◌, ◌≤◌, length, ap, ◌∙◌, sym, arith}
use Rattle.std.proofs.lemmas.Option.{slice_get_within}
use Rattle.doc_nodes.specs.Rows.{nodes_of}
use Rattle.dom_facets.specs.Facets.{made_with, node_facets}
use Rattle.dom_facets.proofs.Made.{no_node_made, one_node_made, no_more}
use Rattle.dom_facets.proofs.facets.Facets.make_nodes.Goals as goal

pub nodes-init : goal.nodes-init
nodes-init c = record { made = no_node_made c.args.root c.args.document.now (made_with c.args.h.now c.args.self.now); live = omega arith; few = omega arith }

pub nodes-smaller : goal.nodes-smaller
nodes-smaller c =
    let less : c.nodes.number < length (nodes_of c.args.document.now.roots c.args.root) = slice_get_within (nodes_of c.args.document.now.roots c.args.root) c.nodes.number c.in-Some.n (sym c.in-Some.ensures) in
    omega (arith, less, c.in_ok-number.ensures)

pub nodes-preserved : goal.nodes-preserved
nodes-preserved c =
    let d = c.args.document.now in
    let m = made_with c.args.h.now c.args.self.now in
    let less : c.nodes.number < length (nodes_of d.roots c.args.root) = slice_get_within (nodes_of d.roots c.args.root) c.nodes.number c.in-Some.n (sym c.in-Some.ensures) in
    record {
      made =
          one_node_made c.args.root c.nodes.number c.in-Some.n d m c.nodes.h c.make.new.h c.nodes.self c.make.new.self c.in-Some.ensures c.nodes.invariant.made c.in_ok-make.ensures.heap c.in_ok-make.ensures.kept
          ∙ ap (λ k. node_facets c.args.root k d m) (sym c.in_ok-number.ensures);
      live = omega (arith, c.in_ok-make.ensures.live, c.nodes.invariant.live);
      few = omega (arith, less, c.in_ok-number.ensures);
    }

pub returns-clause-made : goal.returns-clause-made
returns-clause-made c =
    let d = c.args.document.now in
    let ns = nodes_of d.roots c.args.root in
    let many : length ns ≤ c.nodes.number = no_more ns c.nodes.number c.in_default.ensures in
    let all : c.nodes.number ≡ length ns = omega (arith, many, c.nodes.invariant.few) in
    c.nodes.invariant.made ∙ ap (λ k. node_facets c.args.root k d (made_with c.args.h.now c.args.self.now)) all
