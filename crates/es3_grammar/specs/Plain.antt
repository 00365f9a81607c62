-- The tree without its places, and how deep it is.
use Rattle.std.specs.Prelude.{ℕ, List, map, Option, Some, None}
use Rattle.es3_tree.specs.Tree as t
use Rattle.es3_tree.specs.Placed as tree
use Rattle.es3_tree.specs.Placed.{Placed, Word}
use Rattle.es3_tree.specs.Measure.{nest}

abbrev pub plain_name : Option Word → Option (List ℕ)
plain_name None = None
plain_name (Some n) = Some n.text

abbrev pub plain : (s : t.Sort) → Placed s → t.Tree s
plain _ (tree.this a) = t.this
plain _ tree.null = t.null
plain _ (tree.bool a) = t.bool a
plain _ (tree.num a) = t.num a
plain _ (tree.text a) = t.text a
plain _ (tree.name a) = t.name a.text
plain _ (tree.array a) = t.array (plain _ a)
plain _ (tree.object a) = t.object (plain _ a)
plain _ (tree.function a) = t.function (plain _ a)
plain _ (tree.dot a b) = t.dot (plain _ a) b.text
plain _ (tree.index a b) = t.index (plain _ a) (plain _ b)
plain _ (tree.call a b) = t.call (plain _ a) (plain _ b)
plain _ (tree.new a b) = t.new (plain _ a) (plain _ b)
plain _ (tree.unary a b c) = t.unary a (plain _ b)
plain _ (tree.step a b c) = t.step a b (plain _ c)
plain _ (tree.binary a b c) = t.binary a (plain _ b) (plain _ c)
plain _ (tree.and a b) = t.and (plain _ a) (plain _ b)
plain _ (tree.or a b) = t.or (plain _ a) (plain _ b)
plain _ (tree.choice a b c) = t.choice (plain _ a) (plain _ b) (plain _ c)
plain _ (tree.assign a b c) = t.assign a (plain _ b) (plain _ c)
plain _ (tree.comma a b) = t.comma (plain _ a) (plain _ b)
plain _ tree.no_exprs = t.no_exprs
plain _ (tree.more_exprs a b) = t.more_exprs (plain _ a) (plain _ b)
plain _ tree.no_fields = t.no_fields
plain _ (tree.more_fields a b c) = t.more_fields a.text (plain _ b) (plain _ c)
plain _ tree.no_expr = t.no_expr
plain _ (tree.some_expr a) = t.some_expr (plain _ a)
plain _ (tree.block a) = t.block (plain _ a)
plain _ (tree.var a) = t.var (plain _ a)
plain _ tree.empty = t.empty
plain _ (tree.expression a) = t.expression (plain _ a)
plain _ (tree.branch a b c) = t.branch (plain _ a) (plain _ b) (plain _ c)
plain _ (tree.while_loop a b) = t.while_loop (plain _ a) (plain _ b)
plain _ (tree.do_loop a b) = t.do_loop (plain _ a) (plain _ b)
plain _ (tree.for_loop a b c d) = t.for_loop (plain _ a) (plain _ b) (plain _ c) (plain _ d)
plain _ (tree.for_in a b c) = t.for_in (plain _ a) (plain _ b) (plain _ c)
plain _ (tree.continue a b) = t.continue (plain_name a)
plain _ (tree.break a b) = t.break (plain_name a)
plain _ (tree.return a b) = t.return (plain _ a)
plain _ (tree.with_object a b c) = t.with_object (plain _ a) (plain _ b)
plain _ (tree.switch a b) = t.switch (plain _ a) (plain _ b)
plain _ (tree.label a b) = t.label a.text (plain _ b)
plain _ (tree.throw a) = t.throw (plain _ a)
plain _ (tree.try a b c) = t.try (plain _ a) (plain _ b) (plain _ c)
plain _ (tree.declare a) = t.declare (plain _ a)
plain _ tree.no_stmts = t.no_stmts
plain _ (tree.more_stmts a b) = t.more_stmts (plain _ a) (plain _ b)
plain _ tree.no_items = t.no_items
plain _ (tree.more_items a b c) = t.more_items a.text (plain _ b) (plain _ c)
plain _ tree.no_stmt = t.no_stmt
plain _ (tree.some_stmt a) = t.some_stmt (plain _ a)
plain _ tree.no_block = t.no_block
plain _ (tree.some_block a) = t.some_block (plain _ a)
plain _ tree.no_first = t.no_first
plain _ (tree.first_var a) = t.first_var (plain _ a)
plain _ (tree.first_expr a) = t.first_expr (plain _ a)
plain _ (tree.loop_var a) = t.loop_var a.text
plain _ (tree.loop_expr a) = t.loop_expr (plain _ a)
plain _ tree.no_cases = t.no_cases
plain _ (tree.more_cases a b c) = t.more_cases (plain _ a) (plain _ b) (plain _ c)
plain _ tree.no_handler = t.no_handler
plain _ (tree.some_handler a b) = t.some_handler a.text (plain _ b)
plain _ (tree.fun a b c d) = t.fun (plain_name a) (map (λ w. w.text) b) (plain _ c)
plain _ (tree.script a) = t.script (plain _ a)

-- the greatest number of expressions, statements and functions on one path into the tree
abbrev pub deep : (s : t.Sort) → Placed s → ℕ
deep s x = nest s (plain s x)
