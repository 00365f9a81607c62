-- Each form of an expression that writes to nothing: how deep what it is lowered to is.
use Rattle.std.proofs.Common.{◌≡◌, ℕ, Bool, true, false, List, Some, None, refl, sym, subst, arith}
use Rattle.std.specs.Prelude.{ℤ, codes}
use Rattle.es3_tree.specs.Tree as t
use Rattle.es3_tree.specs.Placed as p
use Rattle.es3_tree.specs.Placed.{Placed, Word}
use Rattle.es3_tree.specs.declared.UnOp.{UnOp}
use Rattle.es3_tree.specs.declared.UnOp.TheVariants.{Delete, Typeof}
use Rattle.es3_tree.specs.declared.BinOp.{BinOp}
use Rattle.cajita_names.specs.Scope.{Scope, in_named}
use Rattle.valija_forms.specs.Numbered.{one, both}
use Rattle.valija_forms.specs.Forms.{word, text_of, list2, ask, get, call_member, call_value, construct}
use Rattle.valija_parts.specs.Lower.{lowered, lowered_function, lowered_binary}
use Rattle.valija_nesting.proofs.Parts.{Gives, deeper, plain_gives, one_gives, both_gives, three_gives}
use Rattle.valija_nesting.proofs.ExpressionForms.{null_nests, bool_nests, num_nests, text_nests, array_nests, object_nests, unary_nests, and_nests, or_nests, choice_nests, comma_nests, no_exprs_nests, more_exprs_nests, no_fields_nests, more_fields_nests, no_expr_nests, some_expr_nests}
use Rattle.valija_nesting.proofs.Asking.{get_nests, delete_nests, call_member_nests, call_value_nests, construct_nests, lowered_binary_nests}
use Rattle.valija_nesting.proofs.Names.{receiver_nests, read_name_nests, type_of_name_nests}
use Rattle.valija_nesting.proofs.Bodies.{never, named_nests}
use Rattle.valija_nesting.proofs.Lowered.{W, Part, Lines}
use Rattle.valija_nesting.proofs.Functions.{function_nests_so}

pub this_form : (at : ℕ) → Part t.expr (p.this at)
unfolding lowered lowered_function
this_form at = record { gives = λ s. plain_gives (deeper (receiver_nests s) (omega arith)) }

pub null_form : Part t.expr p.null
unfolding lowered lowered_function
null_form = record { gives = λ s. plain_gives (deeper null_nests (omega arith)) }

pub bool_form : (b : Bool) → Part t.expr (p.bool b)
unfolding lowered lowered_function
bool_form b = record { gives = λ s. plain_gives (deeper (bool_nests b) (omega arith)) }

pub num_form : (n : ℤ) → Part t.expr (p.num n)
unfolding lowered lowered_function
num_form n = record { gives = λ s. plain_gives (deeper (num_nests n) (omega arith)) }

pub text_form : (us : List ℕ) → Part t.expr (p.text us)
unfolding lowered lowered_function
text_form us = record { gives = λ s. plain_gives (deeper (text_nests us) (omega arith)) }

pub name_form : (x : Word) → Part t.expr (p.name x)
unfolding lowered lowered_function
name_form x = record { gives = λ s. plain_gives (deeper (read_name_nests s x) (omega arith)) }

pub type_of_form : (x : Word) (at : ℕ) → Part t.expr (p.unary Typeof (p.name x) at)
unfolding lowered lowered_function
type_of_form x at = record { gives = λ s. plain_gives (deeper (type_of_name_nests s x) (omega arith)) }

pub array_form : (es : Placed t.exprs) → Part t.exprs es → Part t.expr (p.array es)
unfolding lowered lowered_function
array_form es es1 = record { gives = λ s. one_gives p.array (es1.gives s) (λ x h. deeper (array_nests h) (omega arith)) }

pub object_form : (fs : Placed t.fields) → Part t.fields fs → Part t.expr (p.object fs)
unfolding lowered lowered_function
object_form fs fs1 = record { gives = λ s. one_gives p.object (fs1.gives s) (λ x h. deeper (object_nests h) (omega arith)) }

pub dot_form : (e : Placed t.expr) (k : Word) → Part t.expr e → Part t.expr (p.dot e k)
unfolding lowered lowered_function
dot_form e k e1 = record { gives = λ s. one_gives (λ o. get o (text_of k)) (e1.gives s) (λ o h. deeper (get_nests h (text_nests k.text)) (omega arith)) }

pub index_form : (e k : Placed t.expr) → Part t.expr e → Part t.expr k → Part t.expr (p.index e k)
unfolding lowered lowered_function
index_form e k e1 k1 = record { gives = λ s. both_gives get (e1.gives s) (k1.gives s) (λ x y h i. deeper (get_nests h i) (omega arith)) }

pub call_dot_form : (e : Placed t.expr) (k : Word) (es : Placed t.exprs) → Part t.expr e → Part t.exprs es → Part t.expr (p.call (p.dot e k) es)
unfolding lowered lowered_function
call_dot_form e k es e1 es1 = record { gives = λ s. both_gives (λ o l. call_member o (text_of k) l) (e1.gives s) (es1.gives s) (λ x y h i. deeper (call_member_nests h (text_nests k.text) i) (omega arith)) }

pub call_index_form : (e k : Placed t.expr) (es : Placed t.exprs) → Part t.expr e → Part t.expr k → Part t.exprs es → Part t.expr (p.call (p.index e k) es)
unfolding lowered lowered_function
call_index_form e k es e1 k1 es1 = record { gives = λ s. three_gives call_member (e1.gives s) (k1.gives s) (es1.gives s) (λ x y z h i j. deeper (call_member_nests h i j) (omega arith)) }

pub new_form : (e : Placed t.expr) (es : Placed t.exprs) → Part t.expr e → Part t.exprs es → Part t.expr (p.new e es)
unfolding lowered lowered_function
new_form e es e1 es1 = record { gives = λ s. both_gives construct (e1.gives s) (es1.gives s) (λ x y h i. deeper (construct_nests h i) (omega arith)) }

pub delete_dot_form : (e : Placed t.expr) (k : Word) (at : ℕ) → Part t.expr e → Part t.expr (p.unary Delete (p.dot e k) at)
unfolding lowered lowered_function
delete_dot_form e k at e1 = record { gives = λ s. one_gives (λ o. ask (codes "d") (list2 o (text_of k))) (e1.gives s) (λ o h. deeper (delete_nests h (text_nests k.text)) (omega arith)) }

pub delete_index_form : (e k : Placed t.expr) (at : ℕ) → Part t.expr e → Part t.expr k → Part t.expr (p.unary Delete (p.index e k) at)
unfolding lowered lowered_function
delete_index_form e k at e1 k1 = record { gives = λ s. both_gives (λ o l. ask (codes "d") (list2 o l)) (e1.gives s) (k1.gives s) (λ x y h i. deeper (delete_nests h i) (omega arith)) }

pub binary_form : (op : BinOp) (e k : Placed t.expr) → Part t.expr e → Part t.expr k → Part t.expr (p.binary op e k)
unfolding lowered lowered_function
binary_form op e k e1 k1 = record { gives = λ s. both_gives (lowered_binary op) (e1.gives s) (k1.gives s) (λ x y h i. deeper (lowered_binary_nests op h i) (omega arith)) }

pub and_form : (e k : Placed t.expr) → Part t.expr e → Part t.expr k → Part t.expr (p.and e k)
unfolding lowered lowered_function
and_form e k e1 k1 = record { gives = λ s. both_gives p.and (e1.gives s) (k1.gives s) (λ x y h i. deeper (and_nests h i) (omega arith)) }

pub or_form : (e k : Placed t.expr) → Part t.expr e → Part t.expr k → Part t.expr (p.or e k)
unfolding lowered lowered_function
or_form e k e1 k1 = record { gives = λ s. both_gives p.or (e1.gives s) (k1.gives s) (λ x y h i. deeper (or_nests h i) (omega arith)) }

pub comma_form : (e k : Placed t.expr) → Part t.expr e → Part t.expr k → Part t.expr (p.comma e k)
unfolding lowered lowered_function
comma_form e k e1 k1 = record { gives = λ s. both_gives p.comma (e1.gives s) (k1.gives s) (λ x y h i. deeper (comma_nests h i) (omega arith)) }

pub choice_form : (e k o : Placed t.expr) → Part t.expr e → Part t.expr k → Part t.expr o → Part t.expr (p.choice e k o)
unfolding lowered lowered_function
choice_form e k o e1 k1 o1 = record { gives = λ s. three_gives p.choice (e1.gives s) (k1.gives s) (o1.gives s) (λ x y z h i j. deeper (choice_nests h i j) (omega arith)) }

pub no_exprs_form : Part t.exprs p.no_exprs
unfolding lowered lowered_function
no_exprs_form = record { gives = λ s. plain_gives (deeper no_exprs_nests (omega arith)) }

pub more_exprs_form : (e : Placed t.expr) (es : Placed t.exprs) → Part t.expr e → Part t.exprs es → Part t.exprs (p.more_exprs e es)
unfolding lowered lowered_function
more_exprs_form e es e1 es1 = record { gives = λ s. both_gives p.more_exprs (e1.gives s) (es1.gives s) (λ x y h i. deeper (more_exprs_nests h i) (omega arith)) }

pub no_fields_form : Part t.fields p.no_fields
unfolding lowered lowered_function
no_fields_form = record { gives = λ s. plain_gives (deeper no_fields_nests (omega arith)) }

pub more_fields_form : (k : Word) (e : Placed t.expr) (rest : Placed t.fields) → Part t.expr e → Part t.fields rest → Part t.fields (p.more_fields k e rest)
unfolding lowered lowered_function
more_fields_form k e rest e1 rest1 = record { gives = λ s. both_gives (p.more_fields (word k.text)) (e1.gives s) (rest1.gives s) (λ x y h i. deeper (more_fields_nests (word k.text) h i) (omega arith)) }

pub no_expr_form : Part t.maybe_expr p.no_expr
unfolding lowered lowered_function
no_expr_form = record { gives = λ s. plain_gives (deeper no_expr_nests (omega arith)) }

pub some_expr_form : (e : Placed t.expr) → Part t.expr e → Part t.maybe_expr (p.some_expr e)
unfolding lowered lowered_function
some_expr_form e e1 = record { gives = λ s. one_gives p.some_expr (e1.gives s) (λ x h. deeper (some_expr_nests h) (omega arith)) }

-- ---- functions

pub function_form : (ps : List Word) (body : Placed t.stmts) (at : ℕ) → Lines body → Part t.expr (p.function (p.fun None ps body at))
unfolding lowered lowered_function
function_form ps body at body1 = record { gives = λ s. plain_gives (deeper (function_nests_so s ps body body1) (omega arith)) }

pub named_form : (x : Word) (ps : List Word) (body : Placed t.stmts) (at : ℕ) → Lines body → Part t.expr (p.function (p.fun (Some x) ps body at))
unfolding lowered lowered_function
named_form x ps body at body1 = record { gives = λ s. plain_gives (deeper (named_nests x (function_nests_so (in_named x.text s) ps body body1)) (omega arith)) }

-- ---- calls of what is no member, and operators

abbrev pub is_member : Placed t.expr → Bool
is_member (p.dot e k) = true
is_member (p.index e k) = true
is_member e = false

lowered_call : (s : Scope) (e : Placed t.expr) (es : Placed t.exprs) → is_member e ≡ false → lowered s t.expr (p.call e es) ≡ both call_value (lowered s t.expr e) (lowered s t.exprs es)
unfolding lowered
lowered_call s (p.dot e k) es other = never (sym other)
lowered_call s (p.index e k) es other = never (sym other)
lowered_call s e es other = refl

pub call_form : (e : Placed t.expr) (es : Placed t.exprs) → is_member e ≡ false → Part t.expr e → Part t.exprs es → Part t.expr (p.call e es)
call_form e es other e1 es1 = record {
  gives = λ s. subst (λ z. Gives t.expr (W t.expr (p.call e es)) z) (sym (lowered_call s e es other)) (both_gives call_value (e1.gives s) (es1.gives s) (λ x y h i. deeper (call_value_nests h i) (omega arith)));
}

abbrev pub is_plain : UnOp → Placed t.expr → Bool
is_plain Delete (p.dot e k) = false
is_plain Delete (p.index e k) = false
is_plain Typeof (p.name x) = false
is_plain op e = true

lowered_unary : (s : Scope) (op : UnOp) (e : Placed t.expr) (at : ℕ) → is_plain op e ≡ true → lowered s t.expr (p.unary op e at) ≡ one (λ x. p.unary op x 0) (lowered s t.expr e)
unfolding lowered
lowered_unary s Delete (p.dot e k) at other = never other
lowered_unary s Delete (p.index e k) at other = never other
lowered_unary s Typeof (p.name x) at other = never other
lowered_unary s op e at other = refl

pub unary_form : (op : UnOp) (e : Placed t.expr) (at : ℕ) → is_plain op e ≡ true → Part t.expr e → Part t.expr (p.unary op e at)
unary_form op e at other e1 = record {
  gives = λ s. subst (λ z. Gives t.expr (W t.expr (p.unary op e at)) z) (sym (lowered_unary s op e at other)) (one_gives (λ x. p.unary op x 0) (e1.gives s) (λ x h. deeper (unary_nests op 0 h) (omega arith)));
}
