use Rattle.std.proofs.Common.{ap, ◌∙◌, arith, sym, add-one}
use Rattle.dom_facets.specs.Facets.{made_with, root_facets}
use Rattle.dom_facets.proofs.Made.{no_root_made, one_root_made}
use Rattle.dom_facets.proofs.facets.Facets.make_all.Goals as goal

pub loop-root-init : goal.loop-root-init
loop-root-init c = record { made = no_root_made c.args.document.now (made_with c.args.h.now c.args.self.now); live = omega arith }

pub loop-root-preserved : goal.loop-root-preserved
loop-root-preserved c =
    let d = c.args.document.now in
    let m = made_with c.args.h.now c.args.self.now in
    record {
      made =
          one_root_made c.loop-root.root d m (made_with c.loop-root.h c.loop-root.self) (made_with c.make_nodes.new.h c.make_nodes.new.self) c.loop-root.invariant.made c.in_ok-make_nodes.ensures.made
          ∙ ap (λ r. root_facets r d m) (sym (add-one c.loop-root.root));
      live = omega (arith, c.in_ok-make_nodes.ensures.live, c.loop-root.invariant.live);
    }
