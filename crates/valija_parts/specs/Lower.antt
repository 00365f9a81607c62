-- Valija as Cajita: the source of the module that stands for a program. Each form is itself over lowered parts, or a call of one of the prelude's functions; it
-- takes its temporaries before its parts take theirs.
use Rattle.std.specs.Prelude.{ℕ, ◌+◌, Bool, true, false, List, [], ◌++◌, Some, None, codes}
use Rattle.es3_tree.specs.declared.UnOp.TheVariants.{Delete, Typeof}
use Rattle.es3_tree.specs.declared.BinOp.{BinOp}
use Rattle.es3_tree.specs.declared.BinOp.TheVariants.{InObject, InstanceOf}
use Rattle.es3_tree.specs.Tree as t
use Rattle.es3_tree.specs.Placed as p
use Rattle.es3_tree.specs.Placed.{Placed, Word}
use Rattle.cajita_names.specs.Declarations.{declarations, body_declarations}
use Rattle.cajita_names.specs.Once.{once_after, names_of, is_loop_variable}
use Rattle.cajita_names.specs.Scope.{Scope, in_function, in_catch, in_named}
use Rattle.valija_forms.specs.Numbered.{Numbered, plain, one, both, three, four, taking}
use Rattle.valija_forms.specs.Forms.{word, text_of, label_of, list2, ask, get, set, call_member, call_value, construct, kept, key_now, holds, holds_key, stepped_before, stepped_behind, compounded, joined, declaring, temporaries_from, declares, named, taking_receiver, over_keys}
use Rattle.valija_parts.specs.Names.{receiver, read_name, write_name, type_of_name, op_of_name, stepped_name, name_takes}

-- what is declared around the body of a function
abbrev pub within : Scope → List Word → Placed t.stmts → Scope
within s ps body = in_function (body_declarations ps body) s

-- the names that heads with `in` alone declare, each once: those of other `var` stay where they are
abbrev pub loop_names : Placed t.stmts → List (List ℕ)
loop_names body = once_after [] (names_of is_loop_variable (declarations t.stmts body))

-- a declared function stands in front of its body's statements, and not among them
abbrev pub declares_function : Placed t.stmt → Bool
declares_function (p.declare f) = true
declares_function x = false

-- a lowered body, of its functions, and of its statements with the number of temporaries that they take
abbrev pub body_from : Placed t.stmts → Placed t.stmts → Placed t.stmts × ℕ → Placed t.stmts
body_from body fs ss = declaring (temporaries_from 0 ss.1 ++ loop_names body) (joined fs ss.0)

-- an operator between its operands
abbrev pub lowered_binary : BinOp → Placed t.expr → Placed t.expr → Placed t.expr
lowered_binary InObject a b = ask (codes "h") (list2 a b)
lowered_binary InstanceOf a b = ask (codes "io") (list2 a b)
lowered_binary op a b = p.binary op a b

unfoldable mutual
  pub lowered : Scope → (s : t.Sort) → Placed s → Numbered (Placed s)
  lowered s _ (p.this at) = plain (receiver s)
  lowered s _ (p.name x) = plain (read_name s x)
  lowered s _ (p.array es) = one p.array (lowered s _ es)
  lowered s _ (p.object fs) = one p.object (lowered s _ fs)
  lowered s _ (p.function f) = plain (lowered_function s f)
  lowered s _ (p.dot e k) = one (λ o. get o (text_of k)) (lowered s _ e)
  lowered s _ (p.index e f) = both get (lowered s _ e) (lowered s _ f)
  lowered s _ (p.call (p.dot e k) es) = both (λ o l. call_member o (text_of k) l) (lowered s _ e) (lowered s _ es)
  lowered s _ (p.call (p.index e f) es) = three call_member (lowered s _ e) (lowered s _ f) (lowered s _ es)
  lowered s _ (p.call e es) = both call_value (lowered s _ e) (lowered s _ es)
  lowered s _ (p.new e es) = both construct (lowered s _ e) (lowered s _ es)
  lowered s _ (p.unary Delete (p.dot e k) at) = one (λ o. ask (codes "d") (list2 o (text_of k))) (lowered s _ e)
  lowered s _ (p.unary Delete (p.index e f) at) = both (λ o k. ask (codes "d") (list2 o k)) (lowered s _ e) (lowered s _ f)
  lowered s _ (p.unary Typeof (p.name x) at) = plain (type_of_name s x)
  lowered s _ (p.unary op e at) = one (λ x. p.unary op x 0) (lowered s _ e)
  lowered s _ (p.step up before (p.name x)) = taking (name_takes s before x) (λ a. plain (stepped_name s up before a x))
  lowered s _ (p.step up true (p.dot e k)) = taking 1 (λ a. one (λ o. stepped_before up (holds a o) (kept a) (text_of k)) (lowered s _ e))
  lowered s _ (p.step up false (p.dot e k)) = taking 2 (λ a. one (λ o. stepped_behind up (a + 1) (holds a o) (kept a) (text_of k)) (lowered s _ e))
  lowered s _ (p.step up true (p.index e f)) = taking 2 (λ a. both (λ o k. stepped_before up (holds_key a (a + 1) o k) (kept a) (kept (a + 1))) (lowered s _ e) (lowered s _ f))
  lowered s _ (p.step up false (p.index e f)) = taking 3 (λ a. both (λ o k. stepped_behind up (a + 2) (holds_key a (a + 1) o k) (kept a) (kept (a + 1))) (lowered s _ e) (lowered s _ f))
  lowered s _ (p.step up before e) = one (p.step up before) (lowered s _ e)
  lowered s _ (p.assign None (p.name x) v) = one (write_name s x) (lowered s _ v)
  lowered s _ (p.assign None (p.dot e k) v) = both (λ o x. set o (text_of k) x) (lowered s _ e) (lowered s _ v)
  lowered s _ (p.assign None (p.index e f) v) = three set (lowered s _ e) (lowered s _ f) (lowered s _ v)
  lowered s _ (p.assign (Some op) (p.name x) v) = one (op_of_name s op x) (lowered s _ v)
  lowered s _ (p.assign (Some op) (p.dot e k) v) = taking 1 (λ a. both (λ o x. compounded op (holds a o) (kept a) (text_of k) x) (lowered s _ e) (lowered s _ v))
  lowered s _ (p.assign (Some op) (p.index e f) v) = taking 2 (λ a. three (λ o k x. compounded op (holds_key a (a + 1) o k) (kept a) (kept (a + 1)) x) (lowered s _ e) (lowered s _ f) (lowered s _ v))
  lowered s _ (p.assign op e v) = both (p.assign op) (lowered s _ e) (lowered s _ v)
  lowered s _ (p.binary op e f) = both (lowered_binary op) (lowered s _ e) (lowered s _ f)
  lowered s _ (p.and e f) = both p.and (lowered s _ e) (lowered s _ f)
  lowered s _ (p.or e f) = both p.or (lowered s _ e) (lowered s _ f)
  lowered s _ (p.choice e f g) = three p.choice (lowered s _ e) (lowered s _ f) (lowered s _ g)
  lowered s _ (p.comma e f) = both p.comma (lowered s _ e) (lowered s _ f)
  lowered s _ (p.more_exprs e es) = both p.more_exprs (lowered s _ e) (lowered s _ es)
  lowered s _ (p.more_fields k e rest) = both (p.more_fields (word k.text)) (lowered s _ e) (lowered s _ rest)
  lowered s _ (p.some_expr e) = one p.some_expr (lowered s _ e)
  lowered s _ (p.block ss) = one p.block (lowered s _ ss)
  lowered s _ (p.var is) = one p.var (lowered s _ is)
  lowered s _ (p.expression e) = one p.expression (lowered s _ e)
  lowered s _ (p.branch e x m) = three p.branch (lowered s _ e) (lowered s _ x) (lowered s _ m)
  lowered s _ (p.while_loop e x) = both p.while_loop (lowered s _ e) (lowered s _ x)
  lowered s _ (p.do_loop x e) = both p.do_loop (lowered s _ x) (lowered s _ e)
  lowered s _ (p.for_loop i e f x) = four p.for_loop (lowered s _ i) (lowered s _ e) (lowered s _ f) (lowered s _ x)
  lowered s _ (p.for_in i e x) = taking 3 (λ a. three (over_keys a (a + 1) (a + 2)) (written s i (key_now a)) (lowered s _ e) (lowered s _ x))
  lowered s _ (p.continue l at) = plain (p.continue (label_of l) 0)
  lowered s _ (p.break l at) = plain (p.break (label_of l) 0)
  lowered s _ (p.return m at) = one (λ x. p.return x 0) (lowered s _ m)
  lowered s _ (p.with_object e x at) = both (λ o y. p.with_object o y 0) (lowered s _ e) (lowered s _ x)
  lowered s _ (p.switch e cs) = both p.switch (lowered s _ e) (lowered s _ cs)
  lowered s _ (p.label l x) = one (p.label (word l.text)) (lowered s _ x)
  lowered s _ (p.throw e) = one p.throw (lowered s _ e)
  lowered s _ (p.try ss h m) = three p.try (lowered s _ ss) (lowered s _ h) (lowered s _ m)
  lowered s _ (p.declare f) = plain p.empty
  lowered s _ (p.more_stmts (p.declare f) ss) = lowered s _ ss
  lowered s _ (p.more_stmts x ss) = both p.more_stmts (lowered s _ x) (lowered s _ ss)
  lowered s _ (p.more_items x m is) = both (p.more_items (word x.text)) (lowered s _ m) (lowered s _ is)
  lowered s _ (p.some_stmt x) = one p.some_stmt (lowered s _ x)
  lowered s _ (p.some_block ss) = one p.some_block (lowered s _ ss)
  lowered s _ (p.first_var is) = one p.first_var (lowered s _ is)
  lowered s _ (p.first_expr e) = one p.first_expr (lowered s _ e)
  lowered s _ (p.more_cases m ss cs) = three p.more_cases (lowered s _ m) (lowered s _ ss) (lowered s _ cs)
  lowered s _ (p.some_handler x ss) = one (p.some_handler (word x.text)) (lowered (in_catch x.text s) _ ss)
  lowered s _ x = plain x

  -- the value v for what the head of a `for` .. `in` names
  pub written : Scope → Placed t.loop_target → Placed t.expr → Numbered (Placed t.expr)
  written s (p.loop_var x) v = plain (write_name s x v)
  written s (p.loop_expr (p.name x)) v = plain (write_name s x v)
  written s (p.loop_expr (p.dot e k)) v = one (λ o. set o (text_of k) v) (lowered s _ e)
  written s (p.loop_expr (p.index e f)) v = both (λ o k. set o k v) (lowered s _ e) (lowered s _ f)
  written s (p.loop_expr e) v = lowered s _ e

  pub lowered_function : Scope → Placed t.func → Placed t.expr
  lowered_function s (p.fun None ps body at) = taking_receiver ps (body_from body (functions_before (within s ps body) body) (lowered (within s ps body) _ body 0))
  lowered_function s (p.fun (Some x) ps body at) = named x (taking_receiver ps (body_from body (functions_before (within (in_named x.text s) ps body) body) (lowered (within (in_named x.text s) ps body) _ body 0)))

  -- the functions that statements declare, each as a `var`
  pub functions_before : Scope → Placed t.stmts → Placed t.stmts
  functions_before s (p.more_stmts (p.declare (p.fun (Some f) ps body at)) ss) =
      p.more_stmts (declares f (taking_receiver ps (body_from body (functions_before (within s ps body) body) (lowered (within s ps body) _ body 0)))) (functions_before s ss)
  functions_before s (p.more_stmts x ss) = functions_before s ss
  functions_before s p.no_stmts = p.no_stmts
