-- The plain tree of a `try` whose parts are known.
use Rattle.std.proofs.Common.{◌≡◌, Option, ap, ◌∙◌}
use Rattle.std.specs.Global.{Vec}
use Rattle.es3_tree.specs.Tree as t
use Rattle.es3_tree.specs.View as v
use Rattle.es3_tree.specs.declared.Name.{Name}
use Rattle.es3_tree.specs.declared.Stmt.{Stmt}
use Rattle.es3_tree.specs.declared.Stmt.TheVariants.{Try}
use Rattle.es3_tree.proofs.Rows.{view_try}

pub try_tree : (x : Stmt) (xs : Vec Stmt) (h h' : Option (Name × Vec Stmt)) (f f' : Option (Vec Stmt)) → x ≡ Try xs h f → h ≡ h' → f ≡ f' → v.stmt x ≡ t.try (v.of_stmts xs.items) (v.of_handler h') (v.of_maybe_block f')
try_tree x xs h h' f f' e a b =
    ap v.stmt e
    ∙ view_try xs h f
    ∙ ap (λ k. t.try (v.of_stmts xs.items) (v.of_handler k) (v.of_maybe_block f)) a
    ∙ ap (λ k. t.try (v.of_stmts xs.items) (v.of_handler h') (v.of_maybe_block k)) b
