-- The word `arguments` in a part (ES3 10.1.8).
use Rattle.std.specs.Prelude.{◌||◌, Bool, false}
use Rattle.es3_tree.specs.Tree as t
use Rattle.es3_tree.specs.Placed as p
use Rattle.es3_tree.specs.Placed.{Placed}
use Rattle.cajita_names.specs.Scope.{is_arguments}

-- whether a part names `arguments` outside the functions within it
unfoldable pub names_arguments : (s : t.Sort) → Placed s → Bool
names_arguments _ (p.name x) = is_arguments x.text
names_arguments _ (p.array es) = names_arguments _ es
names_arguments _ (p.object fs) = names_arguments _ fs
names_arguments _ (p.dot e k) = names_arguments _ e
names_arguments _ (p.index e f) = names_arguments _ e || names_arguments _ f
names_arguments _ (p.call e es) = names_arguments _ e || names_arguments _ es
names_arguments _ (p.new e es) = names_arguments _ e || names_arguments _ es
names_arguments _ (p.unary op e at) = names_arguments _ e
names_arguments _ (p.step up before e) = names_arguments _ e
names_arguments _ (p.binary op e f) = names_arguments _ e || names_arguments _ f
names_arguments _ (p.and e f) = names_arguments _ e || names_arguments _ f
names_arguments _ (p.or e f) = names_arguments _ e || names_arguments _ f
names_arguments _ (p.choice e f g) = (names_arguments _ e || names_arguments _ f) || names_arguments _ g
names_arguments _ (p.assign op e f) = names_arguments _ e || names_arguments _ f
names_arguments _ (p.comma e f) = names_arguments _ e || names_arguments _ f
names_arguments _ (p.more_exprs e es) = names_arguments _ e || names_arguments _ es
names_arguments _ (p.more_fields k e rest) = names_arguments _ e || names_arguments _ rest
names_arguments _ (p.some_expr e) = names_arguments _ e
names_arguments _ (p.block ss) = names_arguments _ ss
names_arguments _ (p.var is) = names_arguments _ is
names_arguments _ (p.expression e) = names_arguments _ e
names_arguments _ (p.branch e x m) = (names_arguments _ e || names_arguments _ x) || names_arguments _ m
names_arguments _ (p.while_loop e x) = names_arguments _ e || names_arguments _ x
names_arguments _ (p.do_loop x e) = names_arguments _ x || names_arguments _ e
names_arguments _ (p.for_loop i e f x) = ((names_arguments _ i || names_arguments _ e) || names_arguments _ f) || names_arguments _ x
names_arguments _ (p.for_in i e x) = (names_arguments _ i || names_arguments _ e) || names_arguments _ x
names_arguments _ (p.return m at) = names_arguments _ m
names_arguments _ (p.with_object e x at) = names_arguments _ e || names_arguments _ x
names_arguments _ (p.switch e cs) = names_arguments _ e || names_arguments _ cs
names_arguments _ (p.label l x) = names_arguments _ x
names_arguments _ (p.throw e) = names_arguments _ e
names_arguments _ (p.try ss h m) = (names_arguments _ ss || names_arguments _ h) || names_arguments _ m
names_arguments _ (p.more_stmts x ss) = names_arguments _ x || names_arguments _ ss
names_arguments _ (p.more_items x m is) = names_arguments _ m || names_arguments _ is
names_arguments _ (p.some_stmt x) = names_arguments _ x
names_arguments _ (p.some_block ss) = names_arguments _ ss
names_arguments _ (p.first_var is) = names_arguments _ is
names_arguments _ (p.first_expr e) = names_arguments _ e
names_arguments _ (p.loop_expr e) = names_arguments _ e
names_arguments _ (p.more_cases m ss cs) = (names_arguments _ m || names_arguments _ ss) || names_arguments _ cs
names_arguments _ (p.some_handler x ss) = names_arguments _ ss
names_arguments _ _ = false
