-- The names that a part imports, as it uses them, in source order.
use Rattle.std.specs.Prelude.{ℕ, List, [], ◌∷◌, ◌++◌, if◌then◌else◌}
use Rattle.es3_tree.specs.Tree as t
use Rattle.es3_tree.specs.Placed as p
use Rattle.es3_tree.specs.Placed.{Placed, Word}
use Rattle.cajita_names.specs.Declarations.{body_declarations}
use Rattle.cajita_names.specs.Scope.{Scope, in_function, in_catch, imports}
use Rattle.cajita_rules.specs.Faults.{within_its_name}

abbrev pub import_at : Scope → Word → List (List ℕ)
import_at s x = if imports s x.text then x.text ∷ [] else []

unfoldable pub free : Scope → (s : t.Sort) → Placed s → List (List ℕ)
free s _ (p.name x) = import_at s x
free s _ (p.array es) = free s _ es
free s _ (p.object fs) = free s _ fs
free s _ (p.function f) = free (within_its_name f s) _ f
free s _ (p.dot e k) = free s _ e
free s _ (p.index e f) = free s _ e ++ free s _ f
free s _ (p.call e es) = free s _ e ++ free s _ es
free s _ (p.new e es) = free s _ e ++ free s _ es
free s _ (p.unary op e at) = free s _ e
free s _ (p.step up before e) = free s _ e
free s _ (p.binary op e f) = free s _ e ++ free s _ f
free s _ (p.and e f) = free s _ e ++ free s _ f
free s _ (p.or e f) = free s _ e ++ free s _ f
free s _ (p.choice e f g) = (free s _ e ++ free s _ f) ++ free s _ g
free s _ (p.assign op e f) = free s _ e ++ free s _ f
free s _ (p.comma e f) = free s _ e ++ free s _ f
free s _ (p.more_exprs e es) = free s _ e ++ free s _ es
free s _ (p.more_fields k e rest) = free s _ e ++ free s _ rest
free s _ (p.some_expr e) = free s _ e
free s _ (p.block ss) = free s _ ss
free s _ (p.var is) = free s _ is
free s _ (p.expression e) = free s _ e
free s _ (p.branch e x m) = (free s _ e ++ free s _ x) ++ free s _ m
free s _ (p.while_loop e x) = free s _ e ++ free s _ x
free s _ (p.do_loop x e) = free s _ x ++ free s _ e
free s _ (p.for_loop i e f x) = ((free s _ i ++ free s _ e) ++ free s _ f) ++ free s _ x
free s _ (p.for_in i e x) = (free s _ i ++ free s _ e) ++ free s _ x
free s _ (p.return m at) = free s _ m
free s _ (p.with_object e x at) = free s _ e ++ free s _ x
free s _ (p.switch e cs) = free s _ e ++ free s _ cs
free s _ (p.label l x) = free s _ x
free s _ (p.throw e) = free s _ e
free s _ (p.try ss h m) = (free s _ ss ++ free s _ h) ++ free s _ m
free s _ (p.declare f) = free s _ f
free s _ (p.more_stmts x ss) = free s _ x ++ free s _ ss
free s _ (p.more_items x m is) = free s _ m ++ free s _ is
free s _ (p.some_stmt x) = free s _ x
free s _ (p.some_block ss) = free s _ ss
free s _ (p.first_var is) = free s _ is
free s _ (p.first_expr e) = free s _ e
free s _ (p.loop_expr e) = free s _ e
free s _ (p.more_cases m ss cs) = (free s _ m ++ free s _ ss) ++ free s _ cs
free s _ (p.some_handler x ss) = free (in_catch x.text s) _ ss
free s _ (p.fun name ps body at) = free (in_function (body_declarations ps body) s) _ body
free s _ (p.script ss) = free s _ ss
free s _ _ = []
