-- How many temporaries a source can ask for: the forms that take some, counted in its tree.
use Rattle.std.specs.Prelude.{ℕ, suc, ◌+◌}
use Rattle.es3_tree.specs.Tree as t
use Rattle.es3_tree.specs.Placed as p
use Rattle.es3_tree.specs.Placed.{Placed}
use Rattle.cajita_tree.specs.Tree as c
use Rattle.cajita_rewrite.specs.Rewrite.{temps}

-- the statements of a program
abbrev pub statements : Placed t.program → Placed t.stmts
statements (p.script ss) = ss

-- how many steps, assignments and `for .. in` loops there are in a part (ES3 11.3.1, 11.4.4, 11.13, 12.6.4): those of its functions are their own
unfoldable pub writes : (s : t.Sort) → Placed s → ℕ
writes _ (p.array es) = writes _ es
writes _ (p.object fs) = writes _ fs
writes _ (p.dot e k) = writes _ e
writes _ (p.index e f) = writes _ e + writes _ f
writes _ (p.call e es) = writes _ e + writes _ es
writes _ (p.new e es) = writes _ e + writes _ es
writes _ (p.unary op e at) = writes _ e
writes _ (p.step up before e) = suc (writes _ e)
writes _ (p.binary op e f) = writes _ e + writes _ f
writes _ (p.and e f) = writes _ e + writes _ f
writes _ (p.or e f) = writes _ e + writes _ f
writes _ (p.choice e f g) = writes _ e + (writes _ f + writes _ g)
writes _ (p.assign op e f) = suc (writes _ e + writes _ f)
writes _ (p.comma e f) = writes _ e + writes _ f
writes _ (p.more_exprs e es) = writes _ e + writes _ es
writes _ (p.more_fields k e fs) = writes _ e + writes _ fs
writes _ (p.some_expr e) = writes _ e
writes _ (p.block ss) = writes _ ss
writes _ (p.var is) = writes _ is
writes _ (p.expression e) = writes _ e
writes _ (p.branch e x m) = writes _ e + (writes _ x + writes _ m)
writes _ (p.while_loop e x) = writes _ e + writes _ x
writes _ (p.do_loop x e) = writes _ x + writes _ e
writes _ (p.for_loop i e f x) = writes _ i + (writes _ e + (writes _ f + writes _ x))
writes _ (p.for_in i e x) = suc (writes _ i + (writes _ e + writes _ x))
writes _ (p.return m at) = writes _ m
writes _ (p.with_object e x at) = writes _ e + writes _ x
writes _ (p.switch e cs) = writes _ e + writes _ cs
writes _ (p.label l x) = writes _ x
writes _ (p.throw e) = writes _ e
writes _ (p.try ss h m) = writes _ ss + (writes _ h + writes _ m)
writes _ (p.more_stmts x ss) = writes _ x + writes _ ss
writes _ (p.more_items x m is) = writes _ m + writes _ is
writes _ (p.some_stmt x) = writes _ x
writes _ (p.some_block ss) = writes _ ss
writes _ (p.first_var is) = writes _ is
writes _ (p.first_expr e) = writes _ e
writes _ (p.loop_expr e) = writes _ e
writes _ (p.more_cases m ss cs) = writes _ m + (writes _ ss + writes _ cs)
writes _ (p.some_handler x ss) = writes _ ss
writes _ (p.script ss) = writes _ ss
writes _ _ = 0

-- how many there are in the functions that are written in a part, and in those within these
unfoldable pub inner_writes : (s : t.Sort) → Placed s → ℕ
inner_writes _ (p.array es) = inner_writes _ es
inner_writes _ (p.object fs) = inner_writes _ fs
inner_writes _ (p.function f) = inner_writes _ f
inner_writes _ (p.dot e k) = inner_writes _ e
inner_writes _ (p.index e f) = inner_writes _ e + inner_writes _ f
inner_writes _ (p.call e es) = inner_writes _ e + inner_writes _ es
inner_writes _ (p.new e es) = inner_writes _ e + inner_writes _ es
inner_writes _ (p.unary op e at) = inner_writes _ e
inner_writes _ (p.step up before e) = inner_writes _ e
inner_writes _ (p.binary op e f) = inner_writes _ e + inner_writes _ f
inner_writes _ (p.and e f) = inner_writes _ e + inner_writes _ f
inner_writes _ (p.or e f) = inner_writes _ e + inner_writes _ f
inner_writes _ (p.choice e f g) = inner_writes _ e + (inner_writes _ f + inner_writes _ g)
inner_writes _ (p.assign op e f) = inner_writes _ e + inner_writes _ f
inner_writes _ (p.comma e f) = inner_writes _ e + inner_writes _ f
inner_writes _ (p.more_exprs e es) = inner_writes _ e + inner_writes _ es
inner_writes _ (p.more_fields k e fs) = inner_writes _ e + inner_writes _ fs
inner_writes _ (p.some_expr e) = inner_writes _ e
inner_writes _ (p.block ss) = inner_writes _ ss
inner_writes _ (p.var is) = inner_writes _ is
inner_writes _ (p.expression e) = inner_writes _ e
inner_writes _ (p.branch e x m) = inner_writes _ e + (inner_writes _ x + inner_writes _ m)
inner_writes _ (p.while_loop e x) = inner_writes _ e + inner_writes _ x
inner_writes _ (p.do_loop x e) = inner_writes _ x + inner_writes _ e
inner_writes _ (p.for_loop i e f x) = inner_writes _ i + (inner_writes _ e + (inner_writes _ f + inner_writes _ x))
inner_writes _ (p.for_in i e x) = inner_writes _ i + (inner_writes _ e + inner_writes _ x)
inner_writes _ (p.return m at) = inner_writes _ m
inner_writes _ (p.with_object e x at) = inner_writes _ e + inner_writes _ x
inner_writes _ (p.switch e cs) = inner_writes _ e + inner_writes _ cs
inner_writes _ (p.label l x) = inner_writes _ x
inner_writes _ (p.throw e) = inner_writes _ e
inner_writes _ (p.try ss h m) = inner_writes _ ss + (inner_writes _ h + inner_writes _ m)
inner_writes _ (p.declare f) = inner_writes _ f
inner_writes _ (p.more_stmts x ss) = inner_writes _ x + inner_writes _ ss
inner_writes _ (p.more_items x m is) = inner_writes _ m + inner_writes _ is
inner_writes _ (p.some_stmt x) = inner_writes _ x
inner_writes _ (p.some_block ss) = inner_writes _ ss
inner_writes _ (p.first_var is) = inner_writes _ is
inner_writes _ (p.first_expr e) = inner_writes _ e
inner_writes _ (p.loop_expr e) = inner_writes _ e
inner_writes _ (p.more_cases m ss cs) = inner_writes _ m + (inner_writes _ ss + inner_writes _ cs)
inner_writes _ (p.some_handler x ss) = inner_writes _ ss
inner_writes _ (p.fun name ps body at) = writes _ body + inner_writes _ body
inner_writes _ (p.script ss) = inner_writes _ ss
inner_writes _ _ = 0

-- the temporaries of a module's own statements
abbrev pub temps_of : c.Tree c.program → ℕ
temps_of (c.a_module imports (c.a_body fs vars ss)) = temps c.stmts ss

-- the temporaries of the functions that are written in a part, and of those within these, all together
unfoldable pub inner_temps : (s : c.Sort) → c.Tree s → ℕ
inner_temps _ (c.array es) = inner_temps _ es
inner_temps _ (c.record_of es) = inner_temps _ es
inner_temps _ (c.function es) = inner_temps _ es
inner_temps _ (c.read e k) = inner_temps _ e + inner_temps _ k
inner_temps _ (c.call e k) = inner_temps _ e + inner_temps _ k
inner_temps _ (c.method e k es) = inner_temps _ e + (inner_temps _ k + inner_temps _ es)
inner_temps _ (c.new e k) = inner_temps _ e + inner_temps _ k
inner_temps _ (c.delete e k) = inner_temps _ e + inner_temps _ k
inner_temps _ (c.step up before x) = inner_temps _ x
inner_temps _ (c.assign op x e) = inner_temps _ x + inner_temps _ e
inner_temps _ (c.unary op e) = inner_temps _ e
inner_temps _ (c.binary op x y) = inner_temps _ x + inner_temps _ y
inner_temps _ (c.and x y) = inner_temps _ x + inner_temps _ y
inner_temps _ (c.or x y) = inner_temps _ x + inner_temps _ y
inner_temps _ (c.choice x y z) = inner_temps _ x + (inner_temps _ y + inner_temps _ z)
inner_temps _ (c.comma x y) = inner_temps _ x + inner_temps _ y
inner_temps _ (c.more_exprs e es) = inner_temps _ e + inner_temps _ es
inner_temps _ (c.more_fields k e es) = inner_temps _ e + inner_temps _ es
inner_temps _ (c.computed e) = inner_temps _ e
inner_temps _ (c.member e k) = inner_temps _ e + inner_temps _ k
inner_temps _ (c.some_expr e) = inner_temps _ e
inner_temps _ (c.block xs) = inner_temps _ xs
inner_temps _ (c.var is) = inner_temps _ is
inner_temps _ (c.expression e) = inner_temps _ e
inner_temps _ (c.branch e x y) = inner_temps _ e + (inner_temps _ x + inner_temps _ y)
inner_temps _ (c.while_loop e x) = inner_temps _ e + inner_temps _ x
inner_temps _ (c.do_loop x e) = inner_temps _ x + inner_temps _ e
inner_temps _ (c.for_loop i e u x) = inner_temps _ i + (inner_temps _ e + (inner_temps _ u + inner_temps _ x))
inner_temps _ (c.for_in x e b) = inner_temps _ x + (inner_temps _ e + inner_temps _ b)
inner_temps _ (c.return e) = inner_temps _ e
inner_temps _ (c.switch e cs) = inner_temps _ e + inner_temps _ cs
inner_temps _ (c.label l x) = inner_temps _ x
inner_temps _ (c.throw e) = inner_temps _ e
inner_temps _ (c.try xs h f) = inner_temps _ xs + (inner_temps _ h + inner_temps _ f)
inner_temps _ (c.more_stmts x xs) = inner_temps _ x + inner_temps _ xs
inner_temps _ (c.more_items x e is) = inner_temps _ e + inner_temps _ is
inner_temps _ (c.some_stmt x) = inner_temps _ x
inner_temps _ (c.some_block xs) = inner_temps _ xs
inner_temps _ (c.first_var is) = inner_temps _ is
inner_temps _ (c.first_expr e) = inner_temps _ e
inner_temps _ (c.more_cases e xs cs) = inner_temps _ e + (inner_temps _ xs + inner_temps _ cs)
inner_temps _ (c.some_handler x xs) = inner_temps _ xs
inner_temps _ (c.fun x ps args body) = temps _ body + inner_temps _ body
inner_temps _ (c.more_funcs f fs) = inner_temps _ f + inner_temps _ fs
inner_temps _ (c.a_body fs vars xs) = inner_temps _ fs + inner_temps _ xs
inner_temps _ (c.a_module imports body) = inner_temps _ body
inner_temps _ _ = 0

-- the temporaries of a module and of all functions in it
abbrev pub temps_everywhere : c.Tree c.program → ℕ
temps_everywhere m = temps_of m + inner_temps c.program m
