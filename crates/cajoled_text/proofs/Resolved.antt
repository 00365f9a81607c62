-- What stands for each form of a source that is made of tokens: it is clean where the parts are.
use Rattle.std.proofs.Common.{◌≡◌, ℕ, Bool, true, false, List, [], ◌∷◌, ◌++◌, Option, Some, None, cond, refl}
use Rattle.std.specs.Prelude.{IfSome}
use Rattle.es3_tree.specs.Token.{Token, name, text}
use Rattle.es3_tree.specs.Tree as t
use Rattle.es3_tree.specs.Placed.{Word}
use Rattle.es3_tree.specs.declared.UnOp.{UnOp}
use Rattle.es3_tree.specs.declared.UnOp.TheVariants as un
use Rattle.es3_tree.specs.declared.BinOp.{BinOp}
use Rattle.es3_tree.specs.declared.BinOp.TheVariants as bin
use Rattle.es3_tokens.specs.Back.{IsToken}
use Rattle.es3_grammar.specs.Spots.{look_up}
use Rattle.es3_grammar.specs.Levels.{E, Join, an_op, an_and, an_or, an_assign, a_comma, joined, Infix, joins, infixes, infix_of}
use Rattle.es3_grammar.proofs.Tables.{looked_up, infix_found}
use Rattle.cajita_tree.specs.Tree as c
use Rattle.cajita_tree.specs.Parts.{called, target_of}
use Rattle.cajita_names.specs.Declarations.{Declaration, declared_as}
use Rattle.cajita_names.specs.Declarations as role
use Rattle.cajita_names.specs.Scope.{Scope, is_arguments}
use Rattle.cajita_names.specs.Scope as scope
use Rattle.cajita_forms.specs.Options.{one, both, three, from}
use Rattle.cajita_forms.specs.Forms.{name_or_arguments, unary_of}
use Rattle.scope_rules.specs.Free.{import_at}
use Rattle.scope_rules.specs.Free as uses
use Rattle.scope_rules.specs.Resolve.{resolved}
use Rattle.cajoled_text.specs.Clean.{AreNames, IsMaybeName, IsAssigning, HasItems, HasName, is_open, one_default, Clean}
use Rattle.cajoled_text.proofs.Sources.{both_names, AreDeclared, both_declared, Fine, Holds, lacking, held, there, from_form, pair_form}

never : {A : Type 0} → false ≡ true → A
never e = absurd cc

-- ---- operators

-- 11.13: the sign of an assignment has an operator that assignments have
abbrev assigns : Option BinOp → Bool
assigns (Some bin.Less) = false
assigns (Some bin.Greater) = false
assigns (Some bin.LessEq) = false
assigns (Some bin.GreaterEq) = false
assigns (Some bin.InstanceOf) = false
assigns (Some bin.InObject) = false
assigns (Some bin.Equal) = false
assigns (Some bin.NotEqual) = false
assigns (Some bin.Same) = false
assigns (Some bin.NotSame) = false
assigns op = true

abbrev has_sign : Token → Infix → Bool
has_sign t (joins (an_assign op)) = assigns op
has_sign t i = true

so_assigning : (op : Option BinOp) → assigns op ≡ true → IsAssigning op
so_assigning (Some bin.Less) e = never e
so_assigning (Some bin.Greater) e = never e
so_assigning (Some bin.LessEq) e = never e
so_assigning (Some bin.GreaterEq) e = never e
so_assigning (Some bin.InstanceOf) e = never e
so_assigning (Some bin.InObject) e = never e
so_assigning (Some bin.Equal) e = never e
so_assigning (Some bin.NotEqual) e = never e
so_assigning (Some bin.Same) e = never e
so_assigning (Some bin.NotSame) e = never e
so_assigning op e = tt

abbrev pub IsJoined : Join → Type 0
IsJoined (an_assign op) = IsAssigning op
IsJoined j = Unit {0}

pub joined_sign : (i : Bool) (t : Token) (j : Join) → infix_of i t ≡ Some (joins j) → IsJoined j
unfolding look_up
joined_sign i t (an_assign op) e = so_assigning op (looked_up has_sign infixes t (joins (an_assign op)) refl (infix_found i t (joins (an_assign op)) e))
joined_sign i t j e = tt

-- ---- expressions

import_names : (around : Scope) (x : Word) → IsToken (name x.text) → AreNames (import_at around x)
import_names around x i = by_import (scope.imports around x.text)
  where
    by_import : (b : Bool) → AreNames (cond b (x.text ∷ []) [])
    by_import true = (i, tt)
    by_import false = tt

pub name_part : (around : Scope) (x : Word) → IsToken (name x.text) → Holds (import_at around x) [] c.expr (Some (name_or_arguments x.text))
unfolding Clean
name_part around x i = held (name_or_arguments x.text) record { clean = by_name (is_arguments x.text); names = import_names around x i; declared = tt }
  where
    by_name : (b : Bool) → Clean c.expr (cond b c.args (c.name x.text))
    by_name true = tt
    by_name false = i

-- an operator before its operand: what is deleted is a member
pub operated : {is : List (List ℕ)} {o : Option (c.Tree c.expr)} (op : UnOp) → Holds is [] c.expr o → Holds is [] c.expr (from (unary_of op) o)
unfolding Clean
operated {is} op a = from_form (unary_of op) (operator op) a
  where
    operator : (op : UnOp) (y : c.Tree c.expr) → Fine is [] c.expr y → Holds is [] c.expr (unary_of op y)
    operator un.Delete (c.read x k) a = held (c.delete x k) record { clean = a.clean; names = a.names; declared = tt }
    operator un.Delete y a = lacking
    operator op y a = held (c.unary op y) record { clean = a.clean; names = a.names; declared = tt }

-- what is written to
pub place : {is : List (List ℕ)} {o : Option (c.Tree c.expr)} → Holds is [] c.expr o → Holds is [] c.target (from target_of o)
unfolding Clean
place {is} a = from_form target_of target a
  where
    target : (y : c.Tree c.expr) → Fine is [] c.expr y → Holds is [] c.target (target_of y)
    target (c.name x) a = held (c.variable x) record { clean = a.clean; names = a.names; declared = tt }
    target (c.read x k) a = held (c.member x k) record { clean = a.clean; names = a.names; declared = tt }
    target y a = lacking

-- 11.2.3: a call of a member is a call of a method
pub call_part : {is js : List (List ℕ)} {o : Option (c.Tree c.expr)} {r : Option (c.Tree c.exprs)} → Holds is [] c.expr o → Holds js [] c.exprs r → Holds (is ++ js) [] c.expr (both called o r)
unfolding Clean
call_part a b = pair_form called clean (λ p q. tt) a b
  where
    clean : (x : c.Tree c.expr) (xs : c.Tree c.exprs) → Clean c.expr x → Clean c.exprs xs → Clean c.expr (called x xs)
    clean (c.read x k) xs g h = (g.0, g.1, h)
    clean x xs g h = (g, h)

pub index_part : {is js : List (List ℕ)} {o r : Option (c.Tree c.expr)} → Holds is [] c.expr o → Holds js [] c.expr r → Holds (is ++ js) [] c.expr (both (λ x y. c.read x (c.computed y)) o r)
unfolding Clean
index_part a b = pair_form (λ x y. c.read x (c.computed y)) (λ x y g h. (g, h)) (λ p q. tt) a b

pub field_part : {is js : List (List ℕ)} {o : Option (c.Tree c.expr)} {r : Option (c.Tree c.fields)} (k : List ℕ) → IsToken (text k) → Holds is [] c.expr o → Holds js [] c.fields r
    → Holds (is ++ js) [] c.fields (both (c.more_fields k) o r)
unfolding Clean
field_part k i a b = pair_form (c.more_fields k) (λ x y g h. (i, g, h)) (λ p q. tt) a b

pub more_part : {is js : List (List ℕ)} {o : Option (c.Tree c.expr)} {r : Option (c.Tree c.exprs)} → Holds is [] c.expr o → Holds js [] c.exprs r → Holds (is ++ js) [] c.exprs (both c.more_exprs o r)
unfolding Clean
more_part a b = pair_form c.more_exprs (λ x y g h. (g, h)) (λ p q. tt) a b

pub join_part : (around : Scope) (j : Join) → IsJoined j → (x y : E) → Holds (uses.free around t.expr x) [] c.expr (resolved t.expr x) → Holds (uses.free around t.expr y) [] c.expr (resolved t.expr y)
    → Holds (uses.free around t.expr (joined j x y)) [] c.expr (resolved t.expr (joined j x y))
unfolding resolved uses.free Clean
join_part around (an_op op) is x y a b = pair_form (c.binary op) (λ x y g h. (g, h)) (λ p q. tt) a b
join_part around an_and is x y a b = pair_form c.and (λ x y g h. (g, h)) (λ p q. tt) a b
join_part around an_or is x y a b = pair_form c.or (λ x y g h. (g, h)) (λ p q. tt) a b
join_part around (an_assign op) is x y a b = pair_form (c.assign op) (λ x y g h. (is, g, h)) (λ p q. tt) (place a) b
join_part around a_comma is x y a b = pair_form c.comma (λ x y g h. (g, h)) (λ p q. tt) a b

-- ---- statements

pub item_part : {is js : List (List ℕ)} {ds : List Declaration} {o : Option (c.Tree c.maybe_expr)} {r : Option (c.Tree c.items)} (x : Word) → IsToken (name x.text)
    → Holds is [] c.maybe_expr o → Holds js ds c.items r → Holds (is ++ js) (declared_as role.variable x ∷ ds) c.items (both (c.more_items x.text) o r)
unfolding Clean
item_part x i a b = pair_form (c.more_items x.text) (λ y z g h. (i, g, h)) (λ p q. (i, q)) a b

-- 12.2: a declaration of variables declares one
pub variables_part : {s : c.Sort} {is : List (List ℕ)} {ds : List Declaration} {o : Option (c.Tree c.items)} (f : c.Tree c.items → c.Tree s)
    → ((y : c.Tree c.items) → HasItems y → Clean c.items y → Clean s (f y)) → IfSome o HasItems → Holds is ds c.items o → Holds is ds s (one f o)
variables_part f clean some lacking = lacking
variables_part f clean some (held y a) = held (f y) record { clean = clean y some a.clean; names = a.names; declared = a.declared }

-- 12.5
pub branch_part : {is js : List (List ℕ)} {ds : List Declaration} {o : Option (c.Tree c.expr)} {r : Option (c.Tree c.stmt)} → Holds is [] c.expr o → Holds js ds c.stmt r
    → Holds ((is ++ js) ++ []) (ds ++ []) c.stmt (three c.branch o r (Some c.no_stmt))
unfolding Clean
branch_part lacking b = lacking
branch_part (held x a) lacking = lacking
branch_part {is} {js} {ds} (held x a) (held y b) =
    held (c.branch x y c.no_stmt) record { clean = (a.clean, b.clean, tt, tt); names = both_names (is ++ js) [] (both_names is js a.names b.names) tt; declared = both_declared ds [] b.declared tt }

pub else_part : {is js ks : List (List ℕ)} {ds es : List Declaration} {o : Option (c.Tree c.expr)} {r q : Option (c.Tree c.stmt)} → IfSome r (λ y. is_open y ≡ false)
    → Holds is [] c.expr o → Holds js ds c.stmt r → Holds ks es c.stmt q → Holds ((is ++ js) ++ ks) (ds ++ es) c.stmt (three c.branch o r (one c.some_stmt q))
unfolding Clean
else_part closed lacking b d = lacking
else_part closed (held x a) lacking d = lacking
else_part closed (held x a) (held y b) lacking = lacking
else_part {is} {js} {ks} {ds} {es} closed (held x a) (held y b) (held z d) = held (c.branch x y (c.some_stmt z)) record {
  clean = (a.clean, b.clean, d.clean, closed);
  names = both_names (is ++ js) ks (both_names is js a.names b.names) d.names;
  declared = both_declared ds es b.declared d.declared;
}

-- 12.11
pub switch_part : {is js : List (List ℕ)} {ds : List Declaration} {o : Option (c.Tree c.expr)} {r : Option (c.Tree c.cases)} → IfSome r (λ y. one_default y ≡ true)
    → Holds is [] c.expr o → Holds js ds c.cases r → Holds (is ++ js) ds c.stmt (both c.switch o r)
unfolding Clean
switch_part i lacking b = lacking
switch_part i (held x a) lacking = lacking
switch_part {is} {js} i (held x a) (held y b) = held (c.switch x y) record { clean = (a.clean, b.clean, i); names = both_names is js a.names b.names; declared = b.declared }

-- 12.14
pub caught_part : {is js : List (List ℕ)} {ds es : List Declaration} {o r : Option (c.Tree c.stmts)} (x : List ℕ) → IsToken (name x) → Holds is ds c.stmts o → Holds js es c.stmts r
    → Holds ((is ++ js) ++ []) ((ds ++ es) ++ []) c.stmt (three c.try o (one (c.some_handler x) r) (Some c.no_block))
unfolding Clean
caught_part x i lacking b = lacking
caught_part x i (held y a) lacking = lacking
caught_part {is} {js} {ds} {es} x i (held y a) (held z b) = held (c.try y (c.some_handler x z) c.no_block) record {
  clean = (a.clean, (i, b.clean), tt, tt);
  names = both_names (is ++ js) [] (both_names is js a.names b.names) tt;
  declared = both_declared (ds ++ es) [] (both_declared ds es a.declared b.declared) tt;
}

pub at_last_part : {is js : List (List ℕ)} {ds es : List Declaration} {o r : Option (c.Tree c.stmts)} → Holds is ds c.stmts o → Holds js es c.stmts r
    → Holds ((is ++ []) ++ js) ((ds ++ []) ++ es) c.stmt (three c.try o (Some c.no_handler) (one c.some_block r))
unfolding Clean
at_last_part lacking b = lacking
at_last_part (held y a) lacking = lacking
at_last_part {is} {js} {ds} {es} (held y a) (held z b) = held (c.try y c.no_handler (c.some_block z)) record {
  clean = (a.clean, tt, b.clean, tt);
  names = both_names (is ++ []) js (both_names is [] a.names tt) b.names;
  declared = both_declared (ds ++ []) es (both_declared ds [] a.declared tt) b.declared;
}

pub caught_at_last_part : {is js ks : List (List ℕ)} {ds es fs : List Declaration} {o r q : Option (c.Tree c.stmts)} (x : List ℕ) → IsToken (name x)
    → Holds is ds c.stmts o → Holds js es c.stmts r → Holds ks fs c.stmts q
    → Holds ((is ++ js) ++ ks) ((ds ++ es) ++ fs) c.stmt (three c.try o (one (c.some_handler x) r) (one c.some_block q))
unfolding Clean
caught_at_last_part x i lacking b d = lacking
caught_at_last_part x i (held y a) lacking d = lacking
caught_at_last_part x i (held y a) (held z b) lacking = lacking
caught_at_last_part {is} {js} {ks} {ds} {es} {fs} x i (held y a) (held z b) (held w d) = held (c.try y (c.some_handler x z) (c.some_block w)) record {
  clean = (a.clean, (i, b.clean), d.clean, tt);
  names = both_names (is ++ js) ks (both_names is js a.names b.names) d.names;
  declared = both_declared (ds ++ es) fs (both_declared ds es a.declared b.declared) d.declared;
}

-- ---- functions: a body, whatever names it declares by `var`

abbrev pub a_plain_body : c.Tree c.funcs → c.Tree c.stmts → c.Tree c.body
a_plain_body fs ss = c.a_body fs [] ss

-- a statement of a body, and a function that it declares, before the rest of it
pub line_part : {is js : List (List ℕ)} {ds es : List Declaration} {s : Option (c.Tree c.stmt)} (o : Option (c.Tree c.funcs)) (r : Option (c.Tree c.stmts))
    → Holds is ds c.stmt s → Holds js es c.body (both a_plain_body o r) → Holds (is ++ js) (ds ++ es) c.body (both a_plain_body o (both c.more_stmts s r))
unfolding Clean
line_part None r a b = lacking
line_part (Some fs) r lacking b = lacking
line_part (Some fs) None (held x a) b = lacking
line_part {is} {js} {ds} {es} (Some fs) (Some ss) (held x a) b =
    let h = there b in
    held (a_plain_body fs (c.more_stmts x ss)) record {
      clean = (h.clean.0, tt, (a.clean, h.clean.2));
      names = both_names is js a.names h.names;
      declared = both_declared ds es a.declared h.declared;
    }

pub declaration_part : {is js : List (List ℕ)} {es : List Declaration} {f : Option (c.Tree c.func)} (x : Word) (o : Option (c.Tree c.funcs)) (r : Option (c.Tree c.stmts)) → IsToken (name x.text)
    → IfSome f HasName → Holds is [] c.func f → Holds js es c.body (both a_plain_body o r)
    → Holds (is ++ js) (declared_as role.function x ∷ es) c.body (both a_plain_body (both c.more_funcs f o) r)
unfolding Clean
declaration_part x o r i named lacking b = lacking
declaration_part x None r i named (held g a) b = lacking
declaration_part x (Some fs) None i named (held g a) b = lacking
declaration_part {is} {js} x (Some fs) (Some ss) i named (held g a) b =
    let h = there b in
    held (a_plain_body (c.more_funcs g fs) ss) record {
      clean = ((named, a.clean, h.clean.0), tt, h.clean.2);
      names = both_names is js a.names h.names;
      declared = (i, h.declared);
    }

pub function_part : {is : List (List ℕ)} {ds : List Declaration} (x : Option (List ℕ)) (ps : List (List ℕ)) (args : Bool) (vars : List (List ℕ)) (o : Option (c.Tree c.funcs)) (r : Option (c.Tree c.stmts))
    → IsMaybeName x → AreNames ps → (AreDeclared ds → AreNames vars) → Holds is ds c.body (both a_plain_body o r)
    → Holds is [] c.func (both (λ fs ss. c.fun x ps args (c.a_body fs vars ss)) o r)
unfolding Clean
function_part x ps args vars None r i names its a = lacking
function_part x ps args vars (Some fs) None i names its a = lacking
function_part x ps args vars (Some fs) (Some ss) i names its a =
    let h = there a in
    held (c.fun x ps args (c.a_body fs vars ss)) record { clean = (i, names, (h.clean.0, its h.declared, h.clean.2)); names = h.names; declared = tt }
