-- A part without faults has a resolved form.
use Rattle.std.proofs.Common.{◌≡◌, ℕ, List, [], ◌∷◌, ◌++◌, Bool, true, false, Option, Some, None, cond, refl, ap}
use Rattle.es3_tree.specs.Tree as t
use Rattle.es3_tree.specs.Placed as p
use Rattle.es3_tree.specs.Placed.{Placed, Word}
use Rattle.es3_tree.specs.declared.UnOp.{UnOp}
use Rattle.es3_tree.specs.declared.UnOp.TheVariants.{Delete, Void, Typeof, Plus, Minus, BitNot, Not}
use Rattle.cajita_tree.specs.Tree as c
use Rattle.cajita_tree.specs.Parts as parts
use Rattle.cajita_tree.specs.Parts.{called, target_of}
use Rattle.cajita_names.specs.Declarations.{body_declarations}
use Rattle.cajita_names.specs.Scope.{Scope, in_function, in_catch, is_arguments}
use Rattle.cajita_forms.specs.Options.{one, both, three, four, from}
use Rattle.cajita_forms.specs.Forms.{unary_of, name_or_arguments, text_of}
use Rattle.scope_rules.specs.Resolve.{resolved, declared_functions, behind, body_of, module_of, imports_of}
use Rattle.cajita_rules.specs.Faults.{Fault, faults_in, target, deleted, word_fault, within_its_name}

pub no_front : (fs gs : List Fault) → fs ++ gs ≡ [] → fs ≡ []
no_front [] gs e = refl
no_front (f ∷ fs) gs e = absurd cc

pub no_back : (fs gs : List Fault) → fs ++ gs ≡ [] → gs ≡ []
no_back [] gs e = e
no_back (f ∷ fs) gs e = absurd cc

pub none_there : (n : ℕ) (x : Word) (b : Bool) → word_fault n x b ≡ [] → b ≡ false
none_there n x true e = absurd cc
none_there n x false e = refl

-- what is there
abbrev pub There : {A : Type 0} → Option A → Type 0
There {A} o = (y : A) × (o ≡ Some y)

one_there : {A B : Type 0} (f : A → B) (o : Option A) → There o → There (one f o)
one_there f o g = (f g.0, ap (one f) g.1)

both_there : {A B D : Type 0} (f : A → B → D) (a : Option A) (b : Option B) → There a → There b → There (both f a b)
both_there f a b g h = (f g.0 h.0, cc (g.1, h.1))

three_there : {A B D E : Type 0} (f : A → B → D → E) (a : Option A) (b : Option B) (d : Option D) → There a → There b → There d → There (three f a b d)
three_there f a b d g h i = (f g.0 h.0 i.0, cc (g.1, h.1, i.1))

four_there : {A B D E F : Type 0} (f : A → B → D → E → F) (a : Option A) (b : Option B) (d : Option D) (e : Option E)
    → There a → There b → There d → There e → There (four f a b d e)
four_there f a b d e g h i j = (f g.0 h.0 i.0 j.0, cc (g.1, h.1, i.1, j.1))

-- what follows where it always follows
one_from : {A B D : Type 0} (f : A → B) (g : B → Option D) → ((a : A) → There (g (f a))) → (o : Option A) → There (one f o) → There (from g (one f o))
one_from f g all (Some a) h = all a
one_from f g all None h = let n = h.1 in absurd cc

both_from : {A B D E : Type 0} (f : A → B → D) (g : D → Option E) → ((a : A) (b : B) → There (g (f a b))) → (o : Option A) (r : Option B) → There (both f o r) → There (from g (both f o r))
both_from f g all (Some a) (Some b) h = all a b
both_from f g all (Some a) None h = let n = h.1 in absurd cc
both_from f g all None r h = let n = h.1 in absurd cc

name_is : (x : List ℕ) → is_arguments x ≡ false → name_or_arguments x ≡ c.name x
name_is x e = ap (λ b. cond b c.args (c.name x)) e

-- what is written to
written_there : (s : Scope) (e : Placed t.expr) → target s e ≡ [] → There (resolved t.expr e) → There (from target_of (resolved t.expr e))
unfolding resolved
written_there s (p.name x) e g = (c.variable x.text, ap target_of (name_is x.text (none_there 13 x _ (no_back _ _ e))))
written_there s (p.dot x k) e g = one_from _ target_of (λ a. (c.member a (c.fixed k.text), refl)) (resolved t.expr x) g
written_there s (p.index x y) e g = both_from _ target_of (λ a b. (c.member a (c.computed b), refl)) (resolved t.expr x) (resolved t.expr y) g
written_there s _ e g = absurd cc

-- an operator before its operand
unary_there : (op : UnOp) (at : ℕ) (e : Placed t.expr) → deleted op at e ≡ [] → There (resolved t.expr e) → There (from (unary_of op) (resolved t.expr e))
unfolding resolved
unary_there Delete at (p.dot x k) e g = one_from _ parts.deleted (λ a. (c.delete a (c.fixed k.text), refl)) (resolved t.expr x) g
unary_there Delete at (p.index x y) e g = both_from _ parts.deleted (λ a b. (c.delete a (c.computed b), refl)) (resolved t.expr x) (resolved t.expr y) g
unary_there Delete at _ e g = absurd cc
unary_there Void at x e g = (c.unary Void g.0, ap (from (unary_of Void)) g.1)
unary_there Typeof at x e g = (c.unary Typeof g.0, ap (from (unary_of Typeof)) g.1)
unary_there Plus at x e g = (c.unary Plus g.0, ap (from (unary_of Plus)) g.1)
unary_there Minus at x e g = (c.unary Minus g.0, ap (from (unary_of Minus)) g.1)
unary_there BitNot at x e g = (c.unary BitNot g.0, ap (from (unary_of BitNot)) g.1)
unary_there Not at x e g = (c.unary Not g.0, ap (from (unary_of Not)) g.1)

-- a list of statements, in front of which a declared function leaves nothing
behind_there : (x : Placed t.stmt) (o : Option (c.Tree c.stmt)) (r : Option (c.Tree c.stmts)) → There o → There r → There (behind x o r)
behind_there (p.declare f) o r g h = h
behind_there _ o r g h = both_there c.more_stmts o r g h

-- each sort of part but a program has a resolved form
abbrev pub Given : (s : t.Sort) → Placed s → Type 0
Given t.program x = Unit {0}
Given s x = There (resolved s x)

mutual
  unfolding resolved faults_in

  pub given : (s : Scope) (k : t.Sort) (x : Placed k) → faults_in s k x ≡ [] → Given k x
  given s _ (p.this at) e = absurd cc
  given s _ p.null e = (c.null, refl)
  given s _ (p.bool b) e = (c.bool b, refl)
  given s _ (p.num n) e = (c.num n, refl)
  given s _ (p.text u) e = (c.text u, refl)
  given s _ (p.name x) e = (name_or_arguments x.text, refl)
  given s _ (p.array es) e = one_there c.array _ (given s _ es e)
  given s _ (p.object fs) e = one_there c.record_of _ (given s _ fs (no_front _ _ e))
  given s _ (p.function f) e = one_there c.function _ (given (within_its_name f s) _ f (no_back _ _ e))
  given s _ (p.dot x k) e = one_there _ _ (given s _ x (no_front _ _ e))
  given s _ (p.index x y) e = both_there _ _ _ (given s _ x (no_front _ _ e)) (given s _ y (no_back _ _ e))
  given s _ (p.call x es) e = both_there called _ _ (given s _ x (no_front _ _ e)) (given s _ es (no_back _ _ e))
  given s _ (p.new x es) e = both_there c.new _ _ (given s _ x (no_front _ _ e)) (given s _ es (no_back _ _ e))
  given s _ (p.unary op x at) e = unary_there op at x (no_front _ _ e) (given s _ x (no_back _ _ e))
  given s _ (p.step up before x) e = one_there _ _ (written_there s x (no_back _ _ e) (given s _ x (no_front _ _ e)))
  given s _ (p.binary op x y) e = both_there _ _ _ (given s _ x (no_front _ _ e)) (given s _ y (no_back _ _ e))
  given s _ (p.and x y) e = both_there _ _ _ (given s _ x (no_front _ _ e)) (given s _ y (no_back _ _ e))
  given s _ (p.or x y) e = both_there _ _ _ (given s _ x (no_front _ _ e)) (given s _ y (no_back _ _ e))
  given s _ (p.choice x y z) e = three_there _ _ _ _ (given s _ x (no_front _ _ (no_front _ _ e))) (given s _ y (no_back _ _ (no_front _ _ e))) (given s _ z (no_back _ _ e))
  given s _ (p.assign op x y) e =
      both_there _ _ _ (written_there s x (no_back _ _ (no_front _ _ e)) (given s _ x (no_front _ _ (no_front _ _ e)))) (given s _ y (no_back _ _ e))
  given s _ (p.comma x y) e = both_there _ _ _ (given s _ x (no_front _ _ e)) (given s _ y (no_back _ _ e))
  given s _ p.no_exprs e = (c.no_exprs, refl)
  given s _ (p.more_exprs x es) e = both_there _ _ _ (given s _ x (no_front _ _ e)) (given s _ es (no_back _ _ e))
  given s _ p.no_fields e = (c.no_fields, refl)
  given s _ (p.more_fields k x rest) e = both_there _ _ _ (given s _ x (no_back _ _ (no_front _ _ e))) (given s _ rest (no_back _ _ e))
  given s _ p.no_expr e = (c.no_expr, refl)
  given s _ (p.some_expr x) e = one_there _ _ (given s _ x e)
  given s _ (p.block ss) e = one_there _ _ (given s _ ss e)
  given s _ (p.var is) e = one_there _ _ (given s _ is e)
  given s _ p.empty e = (c.empty, refl)
  given s _ (p.expression x) e = one_there _ _ (given s _ x e)
  given s _ (p.branch x y m) e = three_there _ _ _ _ (given s _ x (no_front _ _ (no_front _ _ e))) (given s _ y (no_back _ _ (no_front _ _ e))) (given s _ m (no_back _ _ e))
  given s _ (p.while_loop x y) e = both_there _ _ _ (given s _ x (no_front _ _ e)) (given s _ y (no_back _ _ e))
  given s _ (p.do_loop x y) e = both_there _ _ _ (given s _ x (no_front _ _ e)) (given s _ y (no_back _ _ e))
  given s _ (p.for_loop i x y z) e =
      four_there _ _ _ _ _ (given s _ i (no_front _ _ (no_front _ _ (no_front _ _ e)))) (given s _ x (no_back _ _ (no_front _ _ (no_front _ _ e))))
      (given s _ y (no_back _ _ (no_front _ _ e))) (given s _ z (no_back _ _ e))
  given s _ (p.for_in i x y) e = three_there _ _ _ _ (given s _ i (no_front _ _ (no_front _ _ e))) (given s _ x (no_back _ _ (no_front _ _ e))) (given s _ y (no_back _ _ e))
  given s _ (p.continue l at) e = (c.continue (text_of l), refl)
  given s _ (p.break l at) e = (c.break (text_of l), refl)
  given s _ (p.return m at) e = one_there _ _ (given s _ m e)
  given s _ (p.with_object x y at) e = absurd cc
  given s _ (p.switch x cs) e = both_there _ _ _ (given s _ x (no_front _ _ e)) (given s _ cs (no_back _ _ e))
  given s _ (p.label l x) e = one_there _ _ (given s _ x (no_back _ _ e))
  given s _ (p.throw x) e = one_there _ _ (given s _ x e)
  given s _ (p.try ss h m) e = three_there _ _ _ _ (given s _ ss (no_front _ _ (no_front _ _ e))) (given s _ h (no_back _ _ (no_front _ _ e))) (given s _ m (no_back _ _ e))
  given s _ (p.declare f) e = (c.empty, refl)
  given s _ p.no_stmts e = (c.no_stmts, refl)
  given s _ (p.more_stmts x ss) e = behind_there x _ _ (given s _ x (no_front _ _ e)) (given s _ ss (no_back _ _ e))
  given s _ p.no_items e = (c.no_items, refl)
  given s _ (p.more_items x m is) e = both_there _ _ _ (given s _ m (no_back _ _ (no_front _ _ e))) (given s _ is (no_back _ _ e))
  given s _ p.no_stmt e = (c.no_stmt, refl)
  given s _ (p.some_stmt x) e = one_there _ _ (given s _ x e)
  given s _ p.no_block e = (c.no_block, refl)
  given s _ (p.some_block ss) e = one_there _ _ (given s _ ss e)
  given s _ p.no_first e = (c.no_first, refl)
  given s _ (p.first_var is) e = one_there _ _ (given s _ is e)
  given s _ (p.first_expr x) e = one_there _ _ (given s _ x e)
  given s _ (p.loop_var x) e = (c.variable x.text, refl)
  given s _ (p.loop_expr x) e = written_there s x (no_back _ _ e) (given s _ x (no_front _ _ e))
  given s _ p.no_cases e = (c.no_cases, refl)
  given s _ (p.more_cases m ss cs) e = three_there _ _ _ _ (given s _ m (no_front _ _ (no_front _ _ e))) (given s _ ss (no_back _ _ (no_front _ _ e))) (given s _ cs (no_back _ _ e))
  given s _ p.no_handler e = (c.no_handler, refl)
  given s _ (p.some_handler x ss) e = one_there _ _ (given (in_catch x.text s) _ ss (no_back _ _ e))
  given s _ (p.fun name ps body at) e =
      let inner = in_function (body_declarations ps body) s in
      both_there _ _ _ (functions inner body (no_back _ _ e)) (given inner _ body (no_back _ _ e))
  given s _ (p.script ss) e = tt

  pub functions : (s : Scope) (ss : Placed t.stmts) → faults_in s t.stmts ss ≡ [] → There (declared_functions ss)
  functions s p.no_stmts e = (c.no_funcs, refl)
  functions s (p.more_stmts (p.declare f) ss) e = both_there _ _ _ (given s _ f (no_back _ _ (no_front _ _ e))) (functions s ss (no_back _ _ e))
  functions s (p.more_stmts x ss) e = functions s ss (no_back (faults_in s t.stmt x) (faults_in s t.stmts ss) e)

-- so has a body, and so has a module
pub body_given : (s : Scope) (body : Placed t.stmts) → faults_in s t.stmts body ≡ [] → There (body_of body)
body_given s body e = both_there _ _ _ (functions s body e) (given s t.stmts body e)

pub module_given : (grants : List (List ℕ)) (s : Scope) (body : Placed t.stmts) → faults_in s t.stmts body ≡ [] → There (module_of grants body)
module_given grants s body e = one_there (c.a_module (imports_of grants body)) _ (body_given s body e)
