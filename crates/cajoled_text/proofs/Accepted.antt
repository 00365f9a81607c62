-- A module that is accepted is clean where its source is made of tokens.
use Rattle.std.proofs.Common.{◌≡◌, ℕ, Bool, true, false, List, [], ◌++◌, Option, Some, None, refl, sym, subst, arith}
use Rattle.std.specs.Prelude.{ℤ, IfSome}
use Rattle.es3_tree.specs.Tree as t
use Rattle.es3_tree.specs.Token.{name, num, text}
use Rattle.es3_tree.specs.declared.UnOp.{UnOp}
use Rattle.es3_tokens.specs.Back.{IsToken}
use Rattle.es3_tree.specs.Placed as tree
use Rattle.es3_tree.specs.Placed.{Placed, Word}
use Rattle.es3_grammar.specs.Spots.{Spot}
use Rattle.es3_grammar.specs.Levels.{E, Join, joined}
use Rattle.es3_grammar.specs.Grammar.{Bars, free, bars_in, naming, Spells, s_this, s_null, s_true, s_false, s_num, s_text, s_name, s_paren, s_array, s_array_comma, s_object, s_function, s_dot, s_index, s_call, s_new_call, s_new, s_postfix, s_prefix_step, s_prefix, s_join, s_choice, s_no_exprs, s_some_exprs, s_one_expr, s_more_exprs, s_no_fields, s_some_fields, s_one_field, s_more_fields, s_func, s_block, s_var, s_empty, s_expression, s_one_item, s_more_items, s_no_value, s_value, s_if, s_else, s_do, s_while, s_for, s_for_in, s_no_first, s_first_var, s_first_expr, s_loop_var, s_loop_expr, s_no_expr, s_some_expr, s_continue, s_break, s_return, s_with, s_switch, s_no_cases, s_case, s_default, s_label, s_throw, s_catch, s_finally, s_catch_finally, s_no_stmts, s_more_stmts, s_declaration, s_script}
use Rattle.es3_printed.specs.Back.{AreTokens}
use Rattle.es3_printed.proofs.Written.{name_small}
use Rattle.cajita_tree.specs.Tree as c
use Rattle.cajita_names.specs.Declarations.{Declaration, declarations, body_declarations}
use Rattle.cajita_names.specs.Scope.{Scope, in_function, in_catch}
use Rattle.cajita_names.specs.Once.{once_after, vars_of}
use Rattle.cajita_rules.specs.Faults.{module_scope, within_its_name}
use Rattle.cajita_forms.specs.Options.{one, both}
use Rattle.cajita_forms.specs.Forms.{text_of, texts_of}
use Rattle.cajita_forms.specs.Arguments.{names_arguments}
use Rattle.scope_rules.specs.Declaring.{is_declaration}
use Rattle.scope_rules.specs.Free as uses
use Rattle.scope_rules.specs.Resolve.{behind, resolved, declared_functions, imports_of, module_of}
use Rattle.scope_rules.proofs.Declaring.{stands, declares_none}
use Rattle.scope_rules.proofs.Options.{both_any}
use Rattle.cajoled_text.specs.Clean.{AreNames, IsMaybeName, HasItems, HasName, is_open, one_default, Clean}
use Rattle.cajoled_text.proofs.Sources.{Are, head, rest, front, back, key_part, maybe_name, parameters, once_names, AreDeclared, both_declared, variable_names, Holds, lacking, held, there, nothing, one_form, pair_form, three_form, four_form}
use Rattle.cajoled_text.proofs.Ends.{resolved_closed, resolved_one}
use Rattle.cajoled_text.proofs.Resolved.{IsJoined, joined_sign, name_part, operated, place, call_part, index_part, field_part, more_part, join_part, item_part, variables_part, branch_part, else_part, switch_part, caught_part, at_last_part, caught_at_last_part, a_plain_body, line_part, declaration_part, function_part}

-- ---- what derivations say

-- 12.2: a declaration of variables declares one
items_there : {b : Bars} {l : ℕ} {is : Placed t.items} {u : List Spot} → Spells t.items b l is u → IfSome (resolved t.items is) HasItems
unfolding resolved
items_there (s_one_item b n m u p) = both_any (c.more_items n.text) HasItems (λ x y. tt) (resolved t.maybe_expr m) (Some c.no_items)
items_there (s_more_items b a n m is u v p q) = both_any (c.more_items n.text) HasItems (λ x y. tt) (resolved t.maybe_expr m) (resolved t.items is)

-- no statement that stands anywhere declares a function
declares_nothing : {x : Placed t.stmt} {u : List Spot} → Spells t.stmt free 0 x u → false ≡ is_declaration x
declares_nothing (s_empty a) = refl
declares_nothing _ = refl

-- 13: a declared function has a name
has_name : (n : Word) (ps : List Word) (ss : Placed t.stmts) (a : ℕ) → IfSome (resolved t.func (tree.fun (Some n) ps ss a)) HasName
unfolding resolved
has_name n ps ss a = both_any (λ fs list. c.fun (Some n.text) (texts_of ps) (names_arguments t.stmts ss) (c.a_body fs (vars_of ss) list)) HasName (λ x y. tt) (declared_functions ss) (resolved t.stmts ss)

its_name : (n : Option Word) (ps : List Word) (ss : Placed t.stmts) (a : ℕ) (u : List Spot) → Spells t.func free 0 (tree.fun n ps ss a) u → Are u → IsMaybeName (text_of n)
its_name _ _ _ _ _ (s_func a d e f g n ps ss u v k p) h = maybe_name n (front {u = naming n} _ h)

-- a statement that stands before others in a body
before_others : {is js : List (List ℕ)} {ds es : List Declaration} (x : Placed t.stmt) (xs : Placed t.stmts) → false ≡ is_declaration x → Holds is ds c.stmt (resolved t.stmt x)
    → Holds js es c.body (both a_plain_body (declared_functions xs) (resolved t.stmts xs))
    → Holds (is ++ js) (ds ++ es) c.body (both a_plain_body (declared_functions (tree.more_stmts x xs)) (behind x (resolved t.stmt x) (resolved t.stmts xs)))
before_others {is} {js} {ds} {es} x xs plain a b =
    subst (λ r. Holds (is ++ js) (ds ++ es) c.body (both a_plain_body (declared_functions (tree.more_stmts x xs)) r)) (sym (stands x (resolved t.stmt x) (resolved t.stmts xs) plain))
    (subst (λ o. Holds (is ++ js) (ds ++ es) c.body (both a_plain_body o (both c.more_stmts (resolved t.stmt x) (resolved t.stmts xs)))) (sym (declares_none x xs plain))
    (line_part (declared_functions xs) (resolved t.stmts xs) a b))

-- and in a block
before_rest : {is js : List (List ℕ)} {ds es : List Declaration} (x : Placed t.stmt) (xs : Placed t.stmts) → false ≡ is_declaration x → Holds is ds c.stmt (resolved t.stmt x)
    → Holds js es c.stmts (resolved t.stmts xs) → Holds (is ++ js) (ds ++ es) c.stmts (behind x (resolved t.stmt x) (resolved t.stmts xs))
unfolding Clean
before_rest {is} {js} {ds} {es} x xs plain a b =
    subst (Holds (is ++ js) (ds ++ es) c.stmts) (sym (stands x (resolved t.stmt x) (resolved t.stmts xs) plain)) (pair_form c.more_stmts (λ y z g h. (g, h)) (λ p q. both_declared ds es p q) a b)

-- what holds of a part that is spelled at a level: whatever is declared around it, what stands for it is clean; of a list of statements in a block, which is of the
-- level 0, and in a body
pub record Lines (l : ℕ) (xs : Placed t.stmts) : Type 0 where
  pub in_block : l ≡ 0 → (around : Scope) → Holds (uses.free around t.stmts xs) (declarations t.stmts xs) c.stmts (resolved t.stmts xs)
  pub in_body : (around : Scope) → Holds (uses.free around t.stmts xs) (declarations t.stmts xs) c.body (both a_plain_body (declared_functions xs) (resolved t.stmts xs))

abbrev pub Part : (s : t.Sort) → ℕ → Placed s → Type 0
Part t.expr l x = (around : Scope) → Holds (uses.free around t.expr x) [] c.expr (resolved t.expr x)
Part t.exprs l x = (around : Scope) → Holds (uses.free around t.exprs x) [] c.exprs (resolved t.exprs x)
Part t.fields l x = (around : Scope) → Holds (uses.free around t.fields x) [] c.fields (resolved t.fields x)
Part t.maybe_expr l x = (around : Scope) → Holds (uses.free around t.maybe_expr x) [] c.maybe_expr (resolved t.maybe_expr x)
Part t.func l x = (around : Scope) → Holds (uses.free around t.func x) [] c.func (resolved t.func x)
Part t.items l x = (around : Scope) → Holds (uses.free around t.items x) (declarations t.items x) c.items (resolved t.items x)
Part t.first l x = (around : Scope) → Holds (uses.free around t.first x) (declarations t.first x) c.first (resolved t.first x)
Part t.loop_target l x = (around : Scope) → Holds (uses.free around t.loop_target x) (declarations t.loop_target x) c.target (resolved t.loop_target x)
Part t.stmt l x = (around : Scope) → Holds (uses.free around t.stmt x) (declarations t.stmt x) c.stmt (resolved t.stmt x)
Part t.cases l x = (around : Scope) → Holds (uses.free around t.cases x) (declarations t.cases x) c.cases (resolved t.cases x)
Part t.stmts l x = Lines l x
Part s l x = Unit {0}

-- ---- each form

this_form : (a : ℕ) → Part t.expr 0 (tree.this a)
unfolding resolved uses.free declarations Clean
this_form a around = lacking

null_form : Part t.expr 0 tree.null
unfolding resolved uses.free declarations Clean
null_form around = nothing c.null tt

bool_form : (v : Bool) → Part t.expr 0 (tree.bool v)
unfolding resolved uses.free declarations Clean
bool_form v around = nothing (c.bool v) tt

num_form : (n : ℤ) → IsToken (num n) → Part t.expr 0 (tree.num n)
unfolding resolved uses.free declarations Clean
num_form n i around = nothing (c.num n) i

text_form : (us : List ℕ) → IsToken (text us) → Part t.expr 0 (tree.text us)
unfolding resolved uses.free declarations Clean
text_form us i around = nothing (c.text us) i

name_form : (n : Word) → IsToken (name n.text) → Part t.expr 0 (tree.name n)
unfolding resolved uses.free declarations Clean
name_form n i around = name_part around n i

array_form : (xs : Placed t.exprs) → Part t.exprs 0 xs → Part t.expr 0 (tree.array xs)
unfolding resolved uses.free declarations Clean
array_form xs p around = one_form c.array (λ y g. g) (p around)

object_form : (fs : Placed t.fields) → Part t.fields 0 fs → Part t.expr 0 (tree.object fs)
unfolding resolved uses.free declarations Clean
object_form fs p around = one_form c.record_of (λ y g. g) (p around)

function_form : (f : Placed t.func) → Part t.func 0 f → Part t.expr 0 (tree.function f)
unfolding resolved uses.free declarations Clean
function_form f p around = one_form c.function (λ y g. g) (p (within_its_name f around))

dot_form : (x : E) (n : Word) → IsToken (text n.text) → Part t.expr 0 x → Part t.expr 0 (tree.dot x n)
unfolding resolved uses.free declarations Clean
dot_form x n i p around = one_form (λ y. c.read y (c.fixed n.text)) (λ y g. (g, i)) (p around)

index_form : (x y : E) → Part t.expr 0 x → Part t.expr 0 y → Part t.expr 0 (tree.index x y)
unfolding resolved uses.free declarations Clean
index_form x y p q around = index_part (p around) (q around)

call_form : (x : E) (xs : Placed t.exprs) → Part t.expr 0 x → Part t.exprs 0 xs → Part t.expr 0 (tree.call x xs)
unfolding resolved uses.free declarations Clean
call_form x xs p q around = call_part (p around) (q around)

new_form : (x : E) (xs : Placed t.exprs) → Part t.expr 0 x → Part t.exprs 0 xs → Part t.expr 0 (tree.new x xs)
unfolding resolved uses.free declarations Clean
new_form x xs p q around = pair_form c.new (λ y z g h. (g, h)) (λ g h. tt) (p around) (q around)

step_form : (up before : Bool) (x : E) → Part t.expr 0 x → Part t.expr 0 (tree.step up before x)
unfolding resolved uses.free declarations Clean
step_form up before x p around = one_form (c.step up before) (λ y g. g) (place (p around))

prefix_form : (op : UnOp) (x : E) (a : ℕ) → Part t.expr 0 x → Part t.expr 0 (tree.unary op x a)
unfolding resolved uses.free declarations Clean
prefix_form op x a p around = operated op (p around)

join_form : (j : Join) (x y : E) → IsJoined j → Part t.expr 0 x → Part t.expr 0 y → Part t.expr 0 (joined j x y)
unfolding resolved uses.free declarations Clean
join_form j x y i p q around = join_part around j i x y (p around) (q around)

choice_form : (x y z : E) → Part t.expr 0 x → Part t.expr 0 y → Part t.expr 0 z → Part t.expr 0 (tree.choice x y z)
unfolding resolved uses.free declarations Clean
choice_form x y z p q r around = three_form c.choice (λ i j k a b d. (a, b, d)) (λ a b d. tt) (p around) (q around) (r around)

no_exprs_form : Part t.exprs 0 tree.no_exprs
unfolding resolved uses.free declarations Clean
no_exprs_form around = nothing c.no_exprs tt

more_exprs_form : (x : E) (xs : Placed t.exprs) → Part t.expr 0 x → Part t.exprs 0 xs → Part t.exprs 0 (tree.more_exprs x xs)
unfolding resolved uses.free declarations Clean
more_exprs_form x xs p q around = more_part (p around) (q around)

no_fields_form : Part t.fields 0 tree.no_fields
unfolding resolved uses.free declarations Clean
no_fields_form around = nothing c.no_fields tt

more_fields_form : (n : Word) (x : E) (fs : Placed t.fields) → IsToken (text n.text) → Part t.expr 0 x → Part t.fields 0 fs → Part t.fields 0 (tree.more_fields n x fs)
unfolding resolved uses.free declarations Clean
more_fields_form n x fs i p q around = field_part n.text i (p around) (q around)

no_expr_form : Part t.maybe_expr 0 tree.no_expr
unfolding resolved uses.free declarations Clean
no_expr_form around = nothing c.no_expr tt

some_expr_form : (x : E) → Part t.expr 0 x → Part t.maybe_expr 0 (tree.some_expr x)
unfolding resolved uses.free declarations Clean
some_expr_form x p around = one_form c.some_expr (λ y g. g) (p around)

no_items_form : Part t.items 0 tree.no_items
unfolding resolved uses.free declarations Clean
no_items_form around = nothing c.no_items tt

more_items_form : (n : Word) (m : Placed t.maybe_expr) (is : Placed t.items) → IsToken (name n.text) → Part t.maybe_expr 0 m → Part t.items 0 is → Part t.items 0 (tree.more_items n m is)
unfolding resolved uses.free declarations Clean
more_items_form n m is i p q around = item_part n i (p around) (q around)

no_first_form : Part t.first 0 tree.no_first
unfolding resolved uses.free declarations Clean
no_first_form around = nothing c.no_first tt

first_var_form : (is : Placed t.items) → IfSome (resolved t.items is) HasItems → Part t.items 0 is → Part t.first 0 (tree.first_var is)
unfolding resolved uses.free declarations Clean
first_var_form is some p around = variables_part c.first_var (λ y i g. (i, g)) some (p around)

first_expr_form : (x : E) → Part t.expr 0 x → Part t.first 0 (tree.first_expr x)
unfolding resolved uses.free declarations Clean
first_expr_form x p around = one_form c.first_expr (λ y g. g) (p around)

loop_var_form : (n : Word) → IsToken (name n.text) → Part t.loop_target 0 (tree.loop_var n)
unfolding resolved uses.free declarations Clean
loop_var_form n i around = held (c.variable n.text) record { clean = i; names = tt; declared = (i, tt) }

loop_expr_form : (x : E) → Part t.expr 0 x → Part t.loop_target 0 (tree.loop_expr x)
unfolding resolved uses.free declarations Clean
loop_expr_form x p around = place (p around)

block_form : (ss : Placed t.stmts) → Part t.stmts 0 ss → Part t.stmt 0 (tree.block ss)
unfolding resolved uses.free declarations Clean
block_form ss p around = one_form c.block (λ y g. g) (p.in_block refl around)

var_form : (is : Placed t.items) → IfSome (resolved t.items is) HasItems → Part t.items 0 is → Part t.stmt 0 (tree.var is)
unfolding resolved uses.free declarations Clean
var_form is some p around = variables_part c.var (λ y i g. (i, g)) some (p around)

empty_form : Part t.stmt 0 tree.empty
unfolding resolved uses.free declarations Clean
empty_form around = nothing c.empty tt

expression_form : (x : E) → Part t.expr 0 x → Part t.stmt 0 (tree.expression x)
unfolding resolved uses.free declarations Clean
expression_form x p around = one_form c.expression (λ y g. g) (p around)

branch_form : (x : E) (s : Placed t.stmt) → Part t.expr 0 x → Part t.stmt 0 s → Part t.stmt 0 (tree.branch x s tree.no_stmt)
unfolding resolved uses.free declarations Clean
branch_form x s p q around = branch_part (p around) (q around)

else_form : (x : E) (s r : Placed t.stmt) → IfSome (resolved t.stmt s) (λ y. is_open y ≡ false) → Part t.expr 0 x → Part t.stmt 0 s → Part t.stmt 0 r → Part t.stmt 0 (tree.branch x s (tree.some_stmt r))
unfolding resolved uses.free declarations Clean
else_form x s r closed p q k around = else_part closed (p around) (q around) (k around)

do_form : (s : Placed t.stmt) (x : E) → Part t.stmt 0 s → Part t.expr 0 x → Part t.stmt 0 (tree.do_loop s x)
unfolding resolved uses.free declarations Clean
do_form s x p q around = pair_form c.do_loop (λ y z g h. (g, h)) (λ g h. g) (p around) (q around)

while_form : (x : E) (s : Placed t.stmt) → Part t.expr 0 x → Part t.stmt 0 s → Part t.stmt 0 (tree.while_loop x s)
unfolding resolved uses.free declarations Clean
while_form x s p q around = pair_form c.while_loop (λ y z g h. (g, h)) (λ g h. h) (p around) (q around)

for_form : (r : Placed t.first) (m n : Placed t.maybe_expr) (s : Placed t.stmt) → Part t.first 0 r → Part t.maybe_expr 0 m → Part t.maybe_expr 0 n → Part t.stmt 0 s → Part t.stmt 0 (tree.for_loop r m n s)
unfolding resolved uses.free declarations Clean
for_form r m n s i j k o around =
    four_form c.for_loop (λ w x y z a b d e. (a, b, d, e)) (λ a b d e. both_declared (declarations t.first r) (declarations t.stmt s) a e) (i around) (j around) (k around) (o around)

for_in_form : (r : Placed t.loop_target) (x : E) (s : Placed t.stmt) → Part t.loop_target 0 r → Part t.expr 0 x → Part t.stmt 0 s → Part t.stmt 0 (tree.for_in r x s)
unfolding resolved uses.free declarations Clean
for_in_form r x s i j k around =
    three_form c.for_in (λ w y z a b d. (a, b, d)) (λ a b d. both_declared (declarations t.loop_target r) (declarations t.stmt s) a d) (i around) (j around) (k around)

continue_form : (n : Option Word) (a : ℕ) → IsMaybeName (text_of n) → Part t.stmt 0 (tree.continue n a)
unfolding resolved uses.free declarations Clean
continue_form n a i around = nothing (c.continue (text_of n)) i

break_form : (n : Option Word) (a : ℕ) → IsMaybeName (text_of n) → Part t.stmt 0 (tree.break n a)
unfolding resolved uses.free declarations Clean
break_form n a i around = nothing (c.break (text_of n)) i

return_form : (m : Placed t.maybe_expr) (a : ℕ) → Part t.maybe_expr 0 m → Part t.stmt 0 (tree.return m a)
unfolding resolved uses.free declarations Clean
return_form m a p around = one_form c.return (λ y g. g) (p around)

with_form : (x : E) (s : Placed t.stmt) (a : ℕ) → Part t.stmt 0 (tree.with_object x s a)
unfolding resolved uses.free declarations Clean
with_form x s a around = lacking

switch_form : (x : E) (cs : Placed t.cases) → IfSome (resolved t.cases cs) (λ y. one_default y ≡ true) → Part t.expr 0 x → Part t.cases 0 cs → Part t.stmt 0 (tree.switch x cs)
unfolding resolved uses.free declarations Clean
switch_form x cs i p q around = switch_part i (p around) (q around)

label_form : (n : Word) (s : Placed t.stmt) → IsToken (name n.text) → Part t.stmt 0 s → Part t.stmt 0 (tree.label n s)
unfolding resolved uses.free declarations Clean
label_form n s i p around = one_form (c.label n.text) (λ y g. (i, g)) (p around)

throw_form : (x : E) → Part t.expr 0 x → Part t.stmt 0 (tree.throw x)
unfolding resolved uses.free declarations Clean
throw_form x p around = one_form c.throw (λ y g. g) (p around)

catch_form : (ss : Placed t.stmts) (n : Word) (hs : Placed t.stmts) → IsToken (name n.text) → Part t.stmts 0 ss → Part t.stmts 0 hs → Part t.stmt 0 (tree.try ss (tree.some_handler n hs) tree.no_block)
unfolding resolved uses.free declarations Clean
catch_form ss n hs i p q around = caught_part n.text i (p.in_block refl around) (q.in_block refl (in_catch n.text around))

finally_form : (ss ls : Placed t.stmts) → Part t.stmts 0 ss → Part t.stmts 0 ls → Part t.stmt 0 (tree.try ss tree.no_handler (tree.some_block ls))
unfolding resolved uses.free declarations Clean
finally_form ss ls p q around = at_last_part (p.in_block refl around) (q.in_block refl around)

both_form : (ss : Placed t.stmts) (n : Word) (hs ls : Placed t.stmts) → IsToken (name n.text) → Part t.stmts 0 ss → Part t.stmts 0 hs → Part t.stmts 0 ls → Part t.stmt 0 (tree.try ss (tree.some_handler n hs) (tree.some_block ls))
unfolding resolved uses.free declarations Clean
both_form ss n hs ls i p q r around =
    caught_at_last_part n.text i (p.in_block refl around) (q.in_block refl (in_catch n.text around)) (r.in_block refl around)

no_stmts_form : (l : ℕ) → Part t.stmts l tree.no_stmts
unfolding resolved uses.free declarations Clean
no_stmts_form l = record { in_block = λ e around. nothing c.no_stmts tt; in_body = λ around. nothing (a_plain_body c.no_funcs c.no_stmts) (tt, tt, tt) }

more_stmts_form : (l : ℕ) (x : Placed t.stmt) (xs : Placed t.stmts) → false ≡ is_declaration x → Part t.stmt 0 x → Part t.stmts l xs → Part t.stmts l (tree.more_stmts x xs)
unfolding resolved uses.free declarations Clean
more_stmts_form l x xs plain p q = record {
  in_block = λ e around. before_rest x xs plain (p around) (q.in_block e around);
  in_body = λ around. before_others x xs plain (p around) (q.in_body around);
}

declaration_form : (n : Word) (ps : List Word) (ss : Placed t.stmts) (a : ℕ) (xs : Placed t.stmts) → IsToken (name n.text) → Part t.func 0 (tree.fun (Some n) ps ss a) → Part t.stmts 1 xs → Part t.stmts 1 (tree.more_stmts (tree.declare (tree.fun (Some n) ps ss a)) xs)
unfolding resolved uses.free declarations Clean
declaration_form n ps ss a xs i p q = record {
  in_block = λ e. absurd (omega (arith, e));
  in_body = λ around. declaration_part n (declared_functions xs) (resolved t.stmts xs) i (has_name n ps ss a) (p around) (q.in_body around);
}

no_cases_form : Part t.cases 0 tree.no_cases
unfolding resolved uses.free declarations Clean
no_cases_form around = nothing c.no_cases tt

case_form : (x : E) (ss : Placed t.stmts) (cs : Placed t.cases) → Part t.expr 0 x → Part t.stmts 0 ss → Part t.cases 0 cs → Part t.cases 0 (tree.more_cases (tree.some_expr x) ss cs)
unfolding resolved uses.free declarations Clean
case_form x ss cs p q r around =
    three_form c.more_cases (λ w y z a b d. (a, b, d)) (λ a b d. both_declared (declarations t.stmts ss) (declarations t.cases cs) b d)
    (one_form c.some_expr (λ y g. g) (p around)) (q.in_block refl around) (r around)

default_form : (ss : Placed t.stmts) (cs : Placed t.cases) → Part t.stmts 0 ss → Part t.cases 0 cs → Part t.cases 0 (tree.more_cases tree.no_expr ss cs)
unfolding resolved uses.free declarations Clean
default_form ss cs q r around =
    three_form c.more_cases (λ w y z a b d. (a, b, d)) (λ a b d. both_declared (declarations t.stmts ss) (declarations t.cases cs) b d)
    (nothing c.no_expr tt) (q.in_block refl around) (r around)

func_form : (n : Option Word) (ps : List Word) (ss : Placed t.stmts) (a : ℕ) → IsMaybeName (text_of n) → AreNames (texts_of ps) → Part t.stmts 1 ss → Part t.func 0 (tree.fun n ps ss a)
unfolding resolved uses.free declarations Clean
func_form n ps ss a i names p around =
    function_part (text_of n) (texts_of ps) (names_arguments t.stmts ss) (vars_of ss) (declared_functions ss) (resolved t.stmts ss) i names
    (variable_names (declarations t.stmts ss)) (p.in_body (in_function (body_declarations ps ss) around))

-- ---- every part of a source

pub part : {s : t.Sort} {b : Bars} {l : ℕ} {x : Placed s} {u : List Spot} → Spells s b l x u → Are u → Part s l x
part (s_this b l a le) h = this_form a
part (s_null b l a le) h = null_form
part (s_true b l a le) h = bool_form true
part (s_false b l a le) h = bool_form false
part (s_num b l a n le) h = num_form n (head h)
part (s_text b l a us le) h = text_form us (head h)
part (s_name b l n le) h = name_form n (head h)
part (s_paren b l a d x u le p) h = part p (front _ (rest h))
part (s_array b l a d xs u le p) h = array_form xs (part p (front _ (rest h)))
part (s_array_comma b l a d e xs u le p) h = array_form xs (part p (front _ (rest h)))
part (s_object b l a d fs u le p) h = object_form fs (part p (front _ (rest h)))
part (s_function b l a n ps ss u le p) h = function_form (tree.fun n ps ss a) (part p (rest h))
part (s_dot b l a x n u le p) h = dot_form x n (name_small n.text (head (rest (back u h))).0) (part p (front _ h))
part (s_index b l a d x y u v le p q) h = index_form x y (part p (front _ h)) (part q (front _ (rest (back u h))))
part (s_call b l a d x xs u v le k p q) h = call_form x xs (part p (front _ h)) (part q (front _ (rest (back u h))))
part (s_new_call b l a d e x xs u v le p q) h = new_form x xs (part p (front _ (rest h))) (part q (front _ (rest (back u (rest h)))))
part (s_new b l a x u le p) h = new_form x tree.no_exprs (part p (rest h)) no_exprs_form
part (s_postfix b l a up x u le k p) h = step_form up false x (part p (front _ h))
part (s_prefix_step b l a up x u le k p) h = step_form up true x (part p (rest h))
part (s_prefix b l a op x u le p) h = prefix_form op x a (part p (rest h))
part (s_join b l a j k x y u v le i m p q) h = join_form j x y (joined_sign (bars_in b) k j i) (part p (front _ h)) (part q (rest (back u h)))
part (s_choice b l a d x y z u v w le p q r) h = choice_form x y z (part p (front _ h)) (part q (front _ (rest (back u h)))) (part r (rest (back v (rest (back u h)))))
part s_no_exprs h = no_exprs_form
part (s_some_exprs xs u p) h = part p h
part (s_one_expr x u p) h = more_exprs_form x tree.no_exprs (part p h) no_exprs_form
part (s_more_exprs a x xs u v p q) h = more_exprs_form x xs (part p (front _ h)) (part q (rest (back u h)))
part s_no_fields h = no_fields_form
part (s_some_fields fs u p) h = part p h
part (s_one_field a k n x u e p) h = more_fields_form n x tree.no_fields (key_part n x tree.no_fields _ (s_one_field a k n x u e p) h) (part p (rest (rest h))) no_fields_form
part (s_more_fields a d k n x fs u v e p q) h =
    more_fields_form n x fs (key_part n x fs _ (s_more_fields a d k n x fs u v e p q) h) (part p (front _ (rest (rest h)))) (part q (rest (back u (rest (rest h)))))
part (s_func a d e f g n ps ss u v k p) h =
    func_form n ps ss a (maybe_name n (front {u = naming n} _ h)) (parameters ps u k (front _ (rest (back (naming n) h)))) (part p (front _ (rest (rest (back u (rest (back (naming n) h)))))))
part (s_block a d ss u p) h = block_form ss (part p (front _ (rest h)))
part (s_var a k is u p e) h = var_form is (items_there p) (part p (front _ (rest h)))
part (s_empty a) h = empty_form
part (s_expression k x u p i e) h = expression_form x (part p (front _ h))
part (s_one_item b n m u p) h = more_items_form n m tree.no_items (head h) (part p (rest h)) no_items_form
part (s_more_items b a n m is u v p q) h = more_items_form n m is (head h) (part p (front _ (rest h))) (part q (rest (back u (rest h))))
part (s_no_value b) h = no_expr_form
part (s_value b a x u p) h = some_expr_form x (part p (rest h))
part (s_if a d e x s u v p q) h = branch_form x s (part p (front _ (rest (rest h)))) (part q (rest (back u (rest (rest h)))))
part (s_else a d e f x s r u v w p q o k) h =
    else_form x s r (resolved_closed s o) (part p (front _ (rest (rest h)))) (part q (front _ (rest (back u (rest (rest h)))))) (part k (rest (back v (rest (back u (rest (rest h)))))))
part (s_do a d e f k s x u v p q o) h = do_form s x (part p (front _ (rest h))) (part q (front _ (rest (rest (back u (rest h))))))
part (s_while a d e x s u v p q) h = while_form x s (part p (front _ (rest (rest h)))) (part q (rest (back u (rest (rest h)))))
part (s_for a d e f g r m n s u v w z i j k o) h =
    for_form r m n s (part i (front _ (rest (rest h)))) (part j (front _ (rest (back u (rest (rest h)))))) (part k (front _ (rest (back v (rest (back u (rest (rest h))))))))
    (part o (rest (back w (rest (back v (rest (back u (rest (rest h)))))))))
part (s_for_in a d e f r x s u v w i j k) h =
    for_in_form r x s (part i (front _ (rest (rest h)))) (part j (front _ (rest (back u (rest (rest h)))))) (part k (rest (back v (rest (back u (rest (rest h)))))))
part s_no_first h = no_first_form
part (s_first_var a is u p) h = first_var_form is (items_there p) (part p (rest h))
part (s_first_expr x u p) h = first_expr_form x (part p h)
part s_no_expr h = no_expr_form
part (s_some_expr x u p) h = some_expr_form x (part p h)
part (s_loop_var a n) h = loop_var_form n (head (rest h))
part (s_loop_expr x u i p) h = loop_expr_form x (part p h)
part (s_continue a k n e) h = continue_form n a (maybe_name n (front {u = naming n} _ (rest h)))
part (s_break a k n e) h = break_form n a (maybe_name n (front {u = naming n} _ (rest h)))
part (s_return a k m u p e) h = return_form m a (part p (front _ (rest h)))
part (s_with a d e x s u v p q) h = with_form x s a
part (s_switch a d e f g x cs u v p q o) h = switch_form x cs (resolved_one cs o) (part p (front _ (rest (rest h)))) (part q (front _ (rest (rest (back u (rest (rest h)))))))
part s_no_cases h = no_cases_form
part (s_case a d x ss cs u v w p q r) h = case_form x ss cs (part p (front _ (rest h))) (part q (front _ (rest (back u (rest h))))) (part r (back v (rest (back u (rest h)))))
part (s_default a d ss cs v w p q) h = default_form ss cs (part p (front _ (rest (rest h)))) (part q (back v (rest (rest h))))
part (s_label a n s u p) h = label_form n s (head h) (part p (rest (rest h)))
part (s_throw a k x u p e) h = throw_form x (part p (front _ (rest h)))
part (s_catch a d e f g o i j ss n hs u v p q) h =
    catch_form ss n hs (head (rest (rest (rest (back u (rest (rest h))))))) (part p (front _ (rest (rest h)))) (part q (front _ (rest (rest (rest (rest (rest (rest (back u (rest (rest h)))))))))))
part (s_finally a d e f g o ss ls u v p q) h = finally_form ss ls (part p (front _ (rest (rest h)))) (part q (front _ (rest (rest (rest (back u (rest (rest h))))))))
part (s_catch_finally a d e f g o i j k l m ss n hs ls u v w p q r) h =
    both_form ss n hs ls (head (rest (rest (rest (back u (rest (rest h))))))) (part p (front _ (rest (rest h)))) (part q (front _ (rest (rest (rest (rest (rest (rest (back u (rest (rest h)))))))))))
    (part r (front _ (rest (rest (rest (back v (rest (rest (rest (rest (rest (rest (back u (rest (rest h)))))))))))))))
part (s_no_stmts l) h = no_stmts_form l
part (s_more_stmts l x xs u v p q) h = more_stmts_form l x xs (declares_nothing p) (part p (front _ h)) (part q (back u h))
part (s_declaration a n ps ss xs u v p q) h = declaration_form n ps ss a xs (its_name (Some n) ps ss a u p (front _ (rest h))) (part p (front _ (rest h))) (part q (back u (rest h)))
part (s_script ss u p) h = tt

-- ---- modules

of_body : (imports vars : List (List ℕ)) {is : List (List ℕ)} {ds : List Declaration} (o : Option (c.Tree c.funcs)) (r : Option (c.Tree c.stmts)) → imports ≡ once_after [] is → (AreDeclared ds → AreNames vars)
    → Holds is ds c.body (both a_plain_body o r) → IfSome (one (c.a_module imports) (both (λ fs ss. c.a_body fs vars ss) o r)) (Clean c.program)
unfolding Clean
of_body imports vars None r e its a = tt
of_body imports vars (Some fs) None e its a = tt
of_body imports vars {is} {ds} (Some fs) (Some ss) e its a =
    let h = there a in
    (subst AreNames (sym e) (once_names is [] tt h.names), (h.clean.0, its h.declared, h.clean.2))

-- what is accepted is clean, where tokens spell it
pub accepted_is_clean : (grants : List (List ℕ)) (ss : Placed t.stmts) (u : List Spot) (m : c.Tree c.program) → Spells t.program free 0 (tree.script ss) u → AreTokens u → module_of grants ss ≡ Some m
    → Clean c.program m
accepted_is_clean grants ss _ m (s_script _ u p) h is =
    subst (λ o. IfSome o (Clean c.program)) is
    (of_body (imports_of grants ss) (vars_of ss) (declared_functions ss) (resolved t.stmts ss) refl (variable_names (declarations t.stmts ss)) ((part p (record { all = h })).in_body (module_scope grants ss)))
