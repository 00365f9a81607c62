-- The resolved module of a tree.
use Rattle.std.specs.Prelude.{ℕ, List, [], Option, Some, None}
use Rattle.es3_tree.specs.Tree as t
use Rattle.es3_tree.specs.Placed as p
use Rattle.es3_tree.specs.Placed.{Placed}
use Rattle.cajita_tree.specs.Tree as c
use Rattle.cajita_tree.specs.Parts.{called, target_of}
use Rattle.cajita_names.specs.Once.{once_after, vars_of}
use Rattle.cajita_rules.specs.Faults.{module_scope}
use Rattle.cajita_forms.specs.Options.{one, both, three, four, from}
use Rattle.cajita_forms.specs.Forms.{text_of, texts_of, name_or_arguments, unary_of}
use Rattle.cajita_forms.specs.Arguments.{names_arguments}
use Rattle.scope_rules.specs.Free.{free}

-- what a resolved part is
abbrev pub of_sort : t.Sort → c.Sort
of_sort t.expr = c.expr
of_sort t.exprs = c.exprs
of_sort t.fields = c.fields
of_sort t.maybe_expr = c.maybe_expr
of_sort t.stmt = c.stmt
of_sort t.stmts = c.stmts
of_sort t.items = c.items
of_sort t.maybe_stmt = c.maybe_stmt
of_sort t.maybe_block = c.maybe_block
of_sort t.first = c.first
of_sort t.loop_target = c.target
of_sort t.cases = c.cases
of_sort t.handler = c.handler
of_sort t.func = c.func
of_sort t.program = c.program

-- what a list of statements begins with: a declared function stands in its body's functions alone
abbrev pub behind : Placed t.stmt → Option (c.Tree c.stmt) → Option (c.Tree c.stmts) → Option (c.Tree c.stmts)
behind (p.declare f) s ss = ss
behind x s ss = both c.more_stmts s ss

-- a part without its places, where each form in it has a resolved form; the functions that statements declare directly, and a body
unfoldable mutual
  pub resolved : (s : t.Sort) → Placed s → Option (c.Tree (of_sort s))
  resolved _ p.null = Some c.null
  resolved _ (p.bool b) = Some (c.bool b)
  resolved _ (p.num n) = Some (c.num n)
  resolved _ (p.text u) = Some (c.text u)
  resolved _ (p.name x) = Some (name_or_arguments x.text)
  resolved _ (p.array es) = one c.array (resolved _ es)
  resolved _ (p.object fs) = one c.record_of (resolved _ fs)
  resolved _ (p.function f) = one c.function (resolved _ f)
  resolved _ (p.dot e k) = one (λ x. c.read x (c.fixed k.text)) (resolved _ e)
  resolved _ (p.index e f) = both (λ x y. c.read x (c.computed y)) (resolved _ e) (resolved _ f)
  resolved _ (p.call e es) = both called (resolved _ e) (resolved _ es)
  resolved _ (p.new e es) = both c.new (resolved _ e) (resolved _ es)
  resolved _ (p.unary op e at) = from (unary_of op) (resolved _ e)
  resolved _ (p.step up before e) = one (c.step up before) (from target_of (resolved _ e))
  resolved _ (p.binary op e f) = both (c.binary op) (resolved _ e) (resolved _ f)
  resolved _ (p.and e f) = both c.and (resolved _ e) (resolved _ f)
  resolved _ (p.or e f) = both c.or (resolved _ e) (resolved _ f)
  resolved _ (p.choice e f g) = three c.choice (resolved _ e) (resolved _ f) (resolved _ g)
  resolved _ (p.assign op e f) = both (c.assign op) (from target_of (resolved _ e)) (resolved _ f)
  resolved _ (p.comma e f) = both c.comma (resolved _ e) (resolved _ f)
  resolved _ p.no_exprs = Some c.no_exprs
  resolved _ (p.more_exprs e es) = both c.more_exprs (resolved _ e) (resolved _ es)
  resolved _ p.no_fields = Some c.no_fields
  resolved _ (p.more_fields k e rest) = both (c.more_fields k.text) (resolved _ e) (resolved _ rest)
  resolved _ p.no_expr = Some c.no_expr
  resolved _ (p.some_expr e) = one c.some_expr (resolved _ e)
  resolved _ (p.block ss) = one c.block (resolved _ ss)
  resolved _ (p.var is) = one c.var (resolved _ is)
  resolved _ p.empty = Some c.empty
  resolved _ (p.expression e) = one c.expression (resolved _ e)
  resolved _ (p.branch e x m) = three c.branch (resolved _ e) (resolved _ x) (resolved _ m)
  resolved _ (p.while_loop e x) = both c.while_loop (resolved _ e) (resolved _ x)
  resolved _ (p.do_loop x e) = both c.do_loop (resolved _ x) (resolved _ e)
  resolved _ (p.for_loop i e f x) = four c.for_loop (resolved _ i) (resolved _ e) (resolved _ f) (resolved _ x)
  resolved _ (p.for_in i e x) = three c.for_in (resolved _ i) (resolved _ e) (resolved _ x)
  resolved _ (p.continue l at) = Some (c.continue (text_of l))
  resolved _ (p.break l at) = Some (c.break (text_of l))
  resolved _ (p.return m at) = one c.return (resolved _ m)
  resolved _ (p.switch e cs) = both c.switch (resolved _ e) (resolved _ cs)
  resolved _ (p.label l x) = one (c.label l.text) (resolved _ x)
  resolved _ (p.throw e) = one c.throw (resolved _ e)
  resolved _ (p.try ss h m) = three c.try (resolved _ ss) (resolved _ h) (resolved _ m)
  resolved _ (p.declare f) = Some c.empty
  resolved _ p.no_stmts = Some c.no_stmts
  resolved _ (p.more_stmts x ss) = behind x (resolved _ x) (resolved _ ss)
  resolved _ p.no_items = Some c.no_items
  resolved _ (p.more_items x m is) = both (c.more_items x.text) (resolved _ m) (resolved _ is)
  resolved _ p.no_stmt = Some c.no_stmt
  resolved _ (p.some_stmt x) = one c.some_stmt (resolved _ x)
  resolved _ p.no_block = Some c.no_block
  resolved _ (p.some_block ss) = one c.some_block (resolved _ ss)
  resolved _ p.no_first = Some c.no_first
  resolved _ (p.first_var is) = one c.first_var (resolved _ is)
  resolved _ (p.first_expr e) = one c.first_expr (resolved _ e)
  resolved _ (p.loop_var x) = Some (c.variable x.text)
  resolved _ (p.loop_expr e) = from target_of (resolved _ e)
  resolved _ p.no_cases = Some c.no_cases
  resolved _ (p.more_cases m ss cs) = three c.more_cases (resolved _ m) (resolved _ ss) (resolved _ cs)
  resolved _ p.no_handler = Some c.no_handler
  resolved _ (p.some_handler x ss) = one (c.some_handler x.text) (resolved _ ss)
  resolved _ (p.fun name ps body at) = both (λ fs ss. c.fun (text_of name) (texts_of ps) (names_arguments t.stmts body) (c.a_body fs (vars_of body) ss)) (declared_functions body) (resolved _ body)
  resolved _ _ = None

  pub declared_functions : Placed t.stmts → Option (c.Tree c.funcs)
  declared_functions p.no_stmts = Some c.no_funcs
  declared_functions (p.more_stmts (p.declare f) ss) = both c.more_funcs (resolved _ f) (declared_functions ss)
  declared_functions (p.more_stmts x ss) = declared_functions ss

-- the body of a module, and what it imports: each name once, in order of first use
abbrev pub body_of : Placed t.stmts → Option (c.Tree c.body)
body_of body = both (λ fs ss. c.a_body fs (vars_of body) ss) (declared_functions body) (resolved t.stmts body)

abbrev pub imports_of : List (List ℕ) → Placed t.stmts → List (List ℕ)
imports_of grants body = once_after [] (free (module_scope grants body) t.stmts body)

-- the module of a program, where these names are granted
abbrev pub module_of : List (List ℕ) → Placed t.stmts → Option (c.Tree c.program)
module_of grants body = one (c.a_module (imports_of grants body)) (body_of body)
