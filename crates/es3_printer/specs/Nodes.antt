-- How much there is to print: a measure that each step of the printer lessens.
use Rattle.std.specs.Prelude.{ℕ, ◌+◌, ◌*◌, List, [], ◌∷◌, length, if◌then◌else◌}
use Rattle.es3_tree.specs.Tree as t
use Rattle.es3_tree.specs.View.{expr, stmt, func, first, loop_target, of_exprs, of_fields, of_items, of_stmts, of_cases, of_maybe_expr, of_handler, of_maybe_block}
use Rattle.es3_printer.specs.declared.piece.Piece.{Piece}
use Rattle.es3_printer.specs.declared.piece.Piece.TheVariants as p

-- how many parts a tree has, lists and what is absent among them
abbrev pub nodes : (s : t.Sort) → t.Tree s → ℕ
nodes _ t.this = 1
nodes _ t.null = 1
nodes _ (t.bool a) = 1
nodes _ (t.num a) = 1
nodes _ (t.text a) = 1
nodes _ (t.name a) = 1
nodes _ (t.array a) = 1 + nodes _ a
nodes _ (t.object a) = 1 + nodes _ a
nodes _ (t.function a) = 1 + nodes _ a
nodes _ (t.dot a b) = 1 + nodes _ a
nodes _ (t.index a b) = 1 + nodes _ a + nodes _ b
nodes _ (t.call a b) = 1 + nodes _ a + nodes _ b
nodes _ (t.new a b) = 1 + nodes _ a + nodes _ b
nodes _ (t.unary a b) = 1 + nodes _ b
nodes _ (t.step a b c) = 1 + nodes _ c
nodes _ (t.binary a b c) = 1 + nodes _ b + nodes _ c
nodes _ (t.and a b) = 1 + nodes _ a + nodes _ b
nodes _ (t.or a b) = 1 + nodes _ a + nodes _ b
nodes _ (t.choice a b c) = 1 + nodes _ a + nodes _ b + nodes _ c
nodes _ (t.assign a b c) = 1 + nodes _ b + nodes _ c
nodes _ (t.comma a b) = 1 + nodes _ a + nodes _ b
nodes _ t.no_exprs = 1
nodes _ (t.more_exprs a b) = 1 + nodes _ a + nodes _ b
nodes _ t.no_fields = 1
nodes _ (t.more_fields a b c) = 1 + nodes _ b + nodes _ c
nodes _ t.no_expr = 1
nodes _ (t.some_expr a) = 1 + nodes _ a
nodes _ (t.block a) = 1 + nodes _ a
nodes _ (t.var a) = 1 + nodes _ a
nodes _ t.empty = 1
nodes _ (t.expression a) = 1 + nodes _ a
nodes _ (t.branch a b c) = 1 + nodes _ a + nodes _ b + nodes _ c
nodes _ (t.while_loop a b) = 1 + nodes _ a + nodes _ b
nodes _ (t.do_loop a b) = 1 + nodes _ a + nodes _ b
nodes _ (t.for_loop a b c d) = 1 + nodes _ a + nodes _ b + nodes _ c + nodes _ d
nodes _ (t.for_in a b c) = 1 + nodes _ a + nodes _ b + nodes _ c
nodes _ (t.continue a) = 1
nodes _ (t.break a) = 1
nodes _ (t.return a) = 1 + nodes _ a
nodes _ (t.with_object a b) = 1 + nodes _ a + nodes _ b
nodes _ (t.switch a b) = 1 + nodes _ a + nodes _ b
nodes _ (t.label a b) = 1 + nodes _ b
nodes _ (t.throw a) = 1 + nodes _ a
nodes _ (t.try a b c) = 1 + nodes _ a + nodes _ b + nodes _ c
nodes _ (t.declare a) = 1 + nodes _ a
nodes _ t.no_stmts = 1
nodes _ (t.more_stmts a b) = 1 + nodes _ a + nodes _ b
nodes _ t.no_items = 1
nodes _ (t.more_items a b c) = 1 + nodes _ b + nodes _ c
nodes _ t.no_stmt = 1
nodes _ (t.some_stmt a) = 1 + nodes _ a
nodes _ t.no_block = 1
nodes _ (t.some_block a) = 1 + nodes _ a
nodes _ t.no_first = 1
nodes _ (t.first_var a) = 1 + nodes _ a
nodes _ (t.first_expr a) = 1 + nodes _ a
nodes _ (t.loop_var a) = 1
nodes _ (t.loop_expr a) = 1 + nodes _ a
nodes _ t.no_cases = 1
nodes _ (t.more_cases a b c) = 1 + nodes _ a + nodes _ b + nodes _ c
nodes _ t.no_handler = 1
nodes _ (t.some_handler a b) = 1 + nodes _ b
nodes _ (t.fun a b c) = 1 + length b + nodes _ c
nodes _ (t.script a) = 1 + nodes _ a

-- no part has as many tokens and parts of its own as twenty
abbrev pub weight_of : Piece → ℕ
weight_of (p.Punct s) = 1
weight_of (p.Word w) = 1
weight_of (p.Name n) = 1
weight_of (p.Key n) = 1
weight_of (p.Text us) = 1
weight_of (p.Number n) = 1
weight_of (p.Part e w b) = 20 * nodes t.expr (expr e.now) + (if w then 3 else 0)
weight_of (p.Exprs es b) = 20 * nodes t.exprs (of_exprs es.now)
weight_of (p.Fields fs b) = 20 * nodes t.fields (of_fields fs.now)
weight_of (p.Items is b) = 20 * nodes t.items (of_items is.now)
weight_of (p.Initialiser m b) = 20 * nodes t.maybe_expr (of_maybe_expr m.now)
weight_of (p.Maybe m) = 20 * nodes t.maybe_expr (of_maybe_expr m.now)
weight_of (p.Names ns) = 1 + 3 * length ns.now
weight_of (p.Function f) = 20 * nodes t.func (func f.now)
weight_of (p.Statement s) = 20 * nodes t.stmt (stmt s.now)
weight_of (p.Statements ss) = 20 * nodes t.stmts (of_stmts ss.now)
weight_of (p.First f) = 20 * nodes t.first (first f.now)
weight_of (p.Target l) = 20 * nodes t.loop_target (loop_target l.now)
weight_of (p.Cases cs) = 20 * nodes t.cases (of_cases cs.now)
weight_of (p.Handler h) = 20 * nodes t.handler (of_handler h.now)
weight_of (p.Finally l) = 20 * nodes t.maybe_block (of_maybe_block l.now)

-- of pieces in order, and of a stack
abbrev pub weights : List Piece → ℕ
weights [] = 0
weights (p ∷ ps) = weight_of p + weights ps

abbrev pub weight : List Piece → ℕ
weight [] = 0
weight (p ∷ ps) = weight ps + weight_of p
