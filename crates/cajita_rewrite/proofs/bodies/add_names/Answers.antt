use Rattle.std.proofs.Common.{refl, sym, ap, ◌∙◌, drop, ◌+◌, arith}
use Rattle.std.specs.List.{list_any}
use Rattle.caja_units.specs.Units.{same_units}
use Rattle.es3_tree.specs.Tree as target
use Rattle.es3_tree.specs.View.{of_items}
use Rattle.cajita_tree.specs.Tree as tree
use Rattle.cajita_tree.specs.View as source
use Rattle.cajita_rewrite.specs.Rewrite.{items_joined, name_items, others, declared}
use Rattle.cajita_rewrite.specs.Table.{with_all}
use Rattle.cajita_rewrite.proofs.Grown.{names-turn, names-passed, names-end}
use Rattle.cajita_rewrite.proofs.Names.{found-all, none_asked}
use Rattle.cajita_rewrite.proofs.bodies.add_names.Goals as goal
use Rattle.cajita_rewrite.proofs.bodies.add_names.Goals.{then-not-has+in_ok-copied_name+in_ok-push, else-not-has}

pub returns-then-is_empty : goal.returns-then-is_empty
returns-then-is_empty c =
    names-end (declared tree.stmts (source.of_stmts c.args.list.now)) c.args.names.now 0 c.args.items.now.items (none_asked c.args.names.now (sym c.is_empty.ensures ∙ c.if-is_empty.true))

pub loop-name-preserved : goal.loop-name-preserved
loop-name-preserved c =
    let names = declared tree.stmts (source.of_stmts c.args.list.now) in
    let all = c.in_ok-add_declared.ensures ∙ ap (λ l. with_all l names) c.in_ok-found.ensures in
    let found = c.has.ensures ∙ ap (list_any (same_units c.name-item.result)) all ∙ found-all c.name-item.result names in
    (elim c.if-not-has.branch [
      | then-not-has+in_ok-copied_name+in_ok-push w ↦
          names-turn names c.args.names.now c.loop-name.name-index c.name-item.result c.loop-name.items.items c.if-not-has.items.items _ (omega arith) c.name-item.is (ap (λ v. v.items) w.items-is ∙ w.in_ok-push.ensures.items)
          w.in_ok-copied_name.ensures refl (sym found ∙ w.if-not-has.true)
      | else-not-has w ↦
          ap (λ v. items_joined (of_items v.items) (name_items (others (drop (c.loop-name.name-index + 1) c.args.names.now) names) target.no_items)) w.items-is
          ∙ names-passed names c.args.names.now c.loop-name.name-index c.name-item.result c.loop-name.items.items (omega arith) c.name-item.is (sym found ∙ w.if-not-has.false)
    ])
    ∙ c.loop-name.invariant

pub returns : goal.returns
returns c =
    names-end (declared tree.stmts (source.of_stmts c.args.list.now)) c.args.names.now c.loop-name.name-index c.loop-name.items.items (omega arith) ∙ c.loop-name.invariant
