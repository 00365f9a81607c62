use Rattle.std.proofs.Common.{refl, ◌∙◌, arith}
use Rattle.es3_tree.specs.Tree as tree
use Rattle.cajita_rewrite.specs.Rewrite.{import_stmts}
use Rattle.cajita_rewrite.proofs.Grown.{stmts-turn, stmts-end, imported}
use Rattle.cajita_rewrite.proofs.load.add_imports.Goals as goal

pub loop-name-preserved : goal.loop-name-preserved
loop-name-preserved c =
    stmts-turn (λ l. import_stmts l tree.no_stmts) c.args.imports.now c.loop-name.name-index c.name-item.result c.loop-name.out.items _ c.in_ok-import.field-0 (omega arith) c.name-item.is c.in_ok-push.ensures.items
    (imported c.name-item.result _ _ c.in_ok-import.ensures)
    ∙ c.loop-name.invariant

pub returns : goal.returns
returns c = stmts-end (λ l. import_stmts l tree.no_stmts) c.args.imports.now c.loop-name.name-index c.loop-name.out.items (omega arith) refl ∙ c.loop-name.invariant
