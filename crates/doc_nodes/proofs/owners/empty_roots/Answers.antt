use Rattle.std.proofs.Common.{◌-◌, ◌+◌, ◌++◌, ◌∙◌, sym, ap, arith, ℕ, List, [], ◌∷◌}
use Rattle.std.specs.Prelude.{replicate}
use Rattle.doc_nodes.proofs.Places.{one_place, no_place}
use Rattle.doc_nodes.proofs.owners.empty_roots.Goals as goal

pub loop-root-preserved : goal.loop-root-preserved
loop-root-preserved c =
    let one = one_place {X = List ℕ} (c.args.count - c.loop-root._root) (c.args.count - (c.loop-root._root + 1)) [] c.loop-root.roots.items (omega arith) in
    ap (λ xs. xs ++ replicate (c.args.count - (c.loop-root._root + 1)) []) (c.in_ok-push.ensures.items ∙ ap (λ (r : List ℕ). c.loop-root.roots.items ++ r ∷ []) c.new.ensures.items) ∙ (sym one ∙ c.loop-root.invariant)

pub returns : goal.returns
returns c =
    let over = no_place {X = List ℕ} (c.args.count - c.loop-root._root) [] c.loop-root.roots.items (omega arith) in
    sym over ∙ c.loop-root.invariant
