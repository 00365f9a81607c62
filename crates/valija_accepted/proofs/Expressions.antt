-- Each form of an expression, but for those that are written to.
use Rattle.std.proofs.Common.{◌≡◌, ℕ, ℤ, Bool, true, false, List, [], ◌∷◌, ◌++◌, None, Some, refl, sym, ◌∙◌, subst}
use Rattle.es3_tree.specs.Tree as t
use Rattle.es3_tree.specs.Placed as p
use Rattle.es3_tree.specs.Placed.{Placed, Word}
use Rattle.es3_tree.specs.declared.UnOp.TheVariants.{Delete, Typeof}
use Rattle.es3_tree.specs.declared.UnOp.{UnOp}
use Rattle.es3_tree.specs.declared.BinOp.{BinOp}
use Rattle.es3_labels.specs.Around.{in_function}
use Rattle.es3_labels.specs.Misplaced.{misplaced}
use Rattle.cajita_names.specs.Declarations as role
use Rattle.cajita_names.specs.Declarations.{Declaration, declared_as, declarations, body_declarations}
use Rattle.cajita_names.specs.Scope.{Scope, Binding, changing, in_catch, in_named, bound, declares, has_own}
use Rattle.cajita_names.specs.Scope as scope
use Rattle.cajita_rules.specs.Faults.{faults_in, hidden, reserved, repeated, form_fault}
use Rattle.valija_rules.specs.Faults as valija
use Rattle.valija_forms.specs.Numbered.{one, both}
use Rattle.valija_forms.specs.Forms.{word, call_value}
use Rattle.valija_parts.specs.Lower.{lowered, lowered_function, within}
use Rattle.valija_accepted.proofs.Lists.{never, no_front, no_back, something}
use Rattle.valija_accepted.proofs.Words.{declarable}
use Rattle.valija_accepted.proofs.Scopes.{around_named}
use Rattle.valija_accepted.proofs.Parts.{Kept, front, back, behind, before, plain_kept, one_kept, both_kept, three_kept}
use Rattle.valija_accepted.proofs.Declared.{taken_by}
use Rattle.valija_accepted.proofs.Bodies.{V, M}
use Rattle.valija_accepted.proofs.Asking.{text_clean, array_clean, get_clean, delete_clean, call_member_clean, call_value_clean, construct_clean, comma_clean, lowered_binary_clean}
use Rattle.valija_accepted.proofs.Names.{read_name_clean, type_of_name_clean, receiver_clean}
use Rattle.valija_accepted.proofs.Forms.{is_delete, unary_clean, and_clean, or_clean, choice_clean, more_exprs_clean, more_fields_clean, some_expr_clean, object_kept}
use Rattle.valija_accepted.proofs.Functions.{GoodFunction, good_inner, inner, inner_fits, receiver_function_clean, named_clean}
use Rattle.valija_accepted.proofs.Standing.{in_the_body, Expr, Lines}

pub this_form : (at : ℕ) → Expr t.expr (p.this at)
unfolding lowered lowered_function valija.faults_in faults_in misplaced
this_form at = record { kept = λ s r total f a b h. plain_kept _ (λ l. receiver_clean f b) }

pub null_form : Expr t.expr p.null
unfolding lowered lowered_function valija.faults_in faults_in misplaced
null_form = record { kept = λ s r total f a b h. plain_kept _ (λ l. record { rules = refl; jumps = refl }) }

pub bool_form : (c : Bool) → Expr t.expr (p.bool c)
unfolding lowered lowered_function valija.faults_in faults_in misplaced
bool_form c = record { kept = λ s r total f a b h. plain_kept _ (λ l. record { rules = refl; jumps = refl }) }

pub num_form : (n : ℤ) → Expr t.expr (p.num n)
unfolding lowered lowered_function valija.faults_in faults_in misplaced
num_form n = record { kept = λ s r total f a b h. plain_kept _ (λ l. record { rules = refl; jumps = refl }) }

pub text_form : (us : List ℕ) → Expr t.expr (p.text us)
unfolding lowered lowered_function valija.faults_in faults_in misplaced
text_form us = record { kept = λ s r total f a b h. plain_kept _ (λ l. text_clean us) }

pub name_form : (x : Word) → Expr t.expr (p.name x)
unfolding lowered lowered_function valija.faults_in faults_in misplaced
name_form x = record { kept = λ s r total f a b h. plain_kept _ (λ l. read_name_clean f b x h.rules) }

pub array_form : (es : Placed t.exprs) → Expr t.exprs es → Expr t.expr (p.array es)
unfolding lowered lowered_function valija.faults_in faults_in misplaced
array_form es es1 = record { kept = λ s r total f a b h. one_kept _ (λ l e c. array_clean c) (es1.kept s r total f a b h) }

pub object_form : (fs : Placed t.fields) → Expr t.fields fs → Expr t.expr (p.object fs)
unfolding lowered lowered_function valija.faults_in faults_in misplaced
object_form fs fs1 = record { kept = λ s r total f a b h. object_kept s fs (no_back (V s t.fields fs) (repeated [] fs) h.rules) (fs1.kept s r total f a b (before (repeated [] fs) h)) }

pub function_form : (ps : List Word) (body : Placed t.stmts) (at : ℕ) → Lines body → Expr t.expr (p.function (p.fun None ps body at))
unfolding lowered lowered_function valija.faults_in faults_in misplaced
function_form ps body at body1 = record { kept = λ s r total f a b h. plain_kept _ (λ l. receiver_function_clean b f.outer ps body h (body1.kept (within s ps body) (inner s r ps body) (taken_by (within s ps body) body) (inner_fits f.outer ps body h) in_function (good_inner s ps body h) (in_the_body s ps body)) (body1.functions (within s ps body) (inner s r ps body) (taken_by (within s ps body) body) (inner_fits f.outer ps body h) in_function (good_inner s ps body h))) }

pub named_form : (x : Word) (ps : List Word) (body : Placed t.stmts) (at : ℕ) → Lines body → Expr t.expr (p.function (p.fun (Some x) ps body at))
unfolding lowered lowered_function valija.faults_in faults_in misplaced
named_form x ps body at body1 = record { kept = λ s r total f a b h. let g : GoodFunction (in_named x.text s) ps body = behind (valija.declared x) h in let o = around_named x.text f.outer in plain_kept _ (λ l. named_clean x (declarable x (no_front (valija.declared x) _ h.rules)) (receiver_function_clean in_function o ps body g (body1.kept (within (in_named x.text s) ps body) (inner (in_named x.text s) (scope.in_function (declared_as role.variable (word x.text) ∷ []) r) ps body) (taken_by (within (in_named x.text s) ps body) body) (inner_fits o ps body g) in_function (good_inner (in_named x.text s) ps body g) (in_the_body (in_named x.text s) ps body)) (body1.functions (within (in_named x.text s) ps body) (inner (in_named x.text s) (scope.in_function (declared_as role.variable (word x.text) ∷ []) r) ps body) (taken_by (within (in_named x.text s) ps body) body) (inner_fits o ps body g) in_function (good_inner (in_named x.text s) ps body g)))) }

pub dot_form : (e : Placed t.expr) (k : Word) → Expr t.expr e → Expr t.expr (p.dot e k)
unfolding lowered lowered_function valija.faults_in faults_in misplaced
dot_form e k e1 = record { kept = λ s r total f a b h. one_kept _ (λ l o c. get_clean f.outer.home c (text_clean k.text)) (e1.kept s r total f a b (before (hidden k) h)) }

pub index_form : (e k : Placed t.expr) → Expr t.expr e → Expr t.expr k → Expr t.expr (p.index e k)
unfolding lowered lowered_function valija.faults_in faults_in misplaced
index_form e k e1 k1 = record { kept = λ s r total f a b h. both_kept _ (λ l x y c d. get_clean f.outer.home c d) (e1.kept s r total f a b (front _ _ h)) (k1.kept s r total f a b (back (V s t.expr e) (M a t.expr e) h)) }

pub call_dot_form : (e : Placed t.expr) (k : Word) (es : Placed t.exprs) → Expr t.expr e → Expr t.exprs es → Expr t.expr (p.call (p.dot e k) es)
unfolding lowered lowered_function valija.faults_in faults_in misplaced
call_dot_form e k es e1 es1 = record { kept = λ s r total f a b h. both_kept _ (λ l o x c d. call_member_clean f.outer.home c (text_clean k.text) d) (e1.kept s r total f a b (before (hidden k) (front _ _ h))) (es1.kept s r total f a b (back (V s t.expr e ++ hidden k) (M a t.expr e) h)) }

pub call_index_form : (e k : Placed t.expr) (es : Placed t.exprs) → Expr t.expr e → Expr t.expr k → Expr t.exprs es → Expr t.expr (p.call (p.index e k) es)
unfolding lowered lowered_function valija.faults_in faults_in misplaced
call_index_form e k es e1 k1 es1 = record { kept = λ s r total f a b h. three_kept _ (λ l x y z c d g. call_member_clean f.outer.home c d g) (e1.kept s r total f a b (front _ _ (front _ _ h))) (k1.kept s r total f a b (back (V s t.expr e) (M a t.expr e) (front _ _ h))) (es1.kept s r total f a b (back (V s t.expr e ++ V s t.expr k) (M a t.expr e ++ M a t.expr k) h)) }

pub new_form : (e : Placed t.expr) (es : Placed t.exprs) → Expr t.expr e → Expr t.exprs es → Expr t.expr (p.new e es)
unfolding lowered lowered_function valija.faults_in faults_in misplaced
new_form e es e1 es1 = record { kept = λ s r total f a b h. both_kept _ (λ l x y c d. construct_clean f.outer.home c d) (e1.kept s r total f a b (front _ _ h)) (es1.kept s r total f a b (back (V s t.expr e) (M a t.expr e) h)) }

pub delete_dot_form : (e : Placed t.expr) (k : Word) (at : ℕ) → Expr t.expr e → Expr t.expr (p.unary Delete (p.dot e k) at)
unfolding lowered lowered_function valija.faults_in faults_in misplaced
delete_dot_form e k at e1 = record { kept = λ s r total f a b h. one_kept _ (λ l o c. delete_clean f.outer.home c (text_clean k.text)) (e1.kept s r total f a b (before (hidden k) h)) }

pub delete_index_form : (e k : Placed t.expr) (at : ℕ) → Expr t.expr e → Expr t.expr k → Expr t.expr (p.unary Delete (p.index e k) at)
unfolding lowered lowered_function valija.faults_in faults_in misplaced
delete_index_form e k at e1 k1 = record { kept = λ s r total f a b h. both_kept _ (λ l x y c d. delete_clean f.outer.home c d) (e1.kept s r total f a b (front _ _ h)) (k1.kept s r total f a b (back (V s t.expr e) (M a t.expr e) h)) }

pub typeof_name_form : (x : Word) (at : ℕ) → Expr t.expr (p.unary Typeof (p.name x) at)
unfolding lowered lowered_function valija.faults_in faults_in misplaced
typeof_name_form x at = record { kept = λ s r total f a b h. plain_kept _ (λ l. type_of_name_clean f b x h.rules) }

pub binary_form : (op : BinOp) (e k : Placed t.expr) → Expr t.expr e → Expr t.expr k → Expr t.expr (p.binary op e k)
unfolding lowered lowered_function valija.faults_in faults_in misplaced
binary_form op e k e1 k1 = record { kept = λ s r total f a b h. both_kept _ (λ l x y c d. lowered_binary_clean op f.outer.home c d) (e1.kept s r total f a b (front _ _ h)) (k1.kept s r total f a b (back (V s t.expr e) (M a t.expr e) h)) }

pub and_form : (e k : Placed t.expr) → Expr t.expr e → Expr t.expr k → Expr t.expr (p.and e k)
unfolding lowered lowered_function valija.faults_in faults_in misplaced
and_form e k e1 k1 = record { kept = λ s r total f a b h. both_kept _ (λ l x y c d. and_clean c d) (e1.kept s r total f a b (front _ _ h)) (k1.kept s r total f a b (back (V s t.expr e) (M a t.expr e) h)) }

pub or_form : (e k : Placed t.expr) → Expr t.expr e → Expr t.expr k → Expr t.expr (p.or e k)
unfolding lowered lowered_function valija.faults_in faults_in misplaced
or_form e k e1 k1 = record { kept = λ s r total f a b h. both_kept _ (λ l x y c d. or_clean c d) (e1.kept s r total f a b (front _ _ h)) (k1.kept s r total f a b (back (V s t.expr e) (M a t.expr e) h)) }

pub choice_form : (e k o : Placed t.expr) → Expr t.expr e → Expr t.expr k → Expr t.expr o → Expr t.expr (p.choice e k o)
unfolding lowered lowered_function valija.faults_in faults_in misplaced
choice_form e k o e1 k1 o1 = record { kept = λ s r total f a b h. three_kept _ (λ l x y z c d g. choice_clean c d g) (e1.kept s r total f a b (front _ _ (front _ _ h))) (k1.kept s r total f a b (back (V s t.expr e) (M a t.expr e) (front _ _ h))) (o1.kept s r total f a b (back (V s t.expr e ++ V s t.expr k) (M a t.expr e ++ M a t.expr k) h)) }

pub comma_form : (e k : Placed t.expr) → Expr t.expr e → Expr t.expr k → Expr t.expr (p.comma e k)
unfolding lowered lowered_function valija.faults_in faults_in misplaced
comma_form e k e1 k1 = record { kept = λ s r total f a b h. both_kept _ (λ l x y c d. comma_clean c d) (e1.kept s r total f a b (front _ _ h)) (k1.kept s r total f a b (back (V s t.expr e) (M a t.expr e) h)) }

pub no_exprs_form : Expr t.exprs p.no_exprs
unfolding lowered lowered_function valija.faults_in faults_in misplaced
no_exprs_form = record { kept = λ s r total f a b h. plain_kept _ (λ l. record { rules = refl; jumps = refl }) }

pub more_exprs_form : (e : Placed t.expr) (es : Placed t.exprs) → Expr t.expr e → Expr t.exprs es → Expr t.exprs (p.more_exprs e es)
unfolding lowered lowered_function valija.faults_in faults_in misplaced
more_exprs_form e es e1 es1 = record { kept = λ s r total f a b h. both_kept _ (λ l x y c d. more_exprs_clean c d) (e1.kept s r total f a b (front _ _ h)) (es1.kept s r total f a b (back (V s t.expr e) (M a t.expr e) h)) }

pub no_fields_form : Expr t.fields p.no_fields
unfolding lowered lowered_function valija.faults_in faults_in misplaced
no_fields_form = record { kept = λ s r total f a b h. plain_kept _ (λ l. record { rules = refl; jumps = refl }) }

pub more_fields_form : (k : Word) (e : Placed t.expr) (rest : Placed t.fields) → Expr t.expr e → Expr t.fields rest → Expr t.fields (p.more_fields k e rest)
unfolding lowered lowered_function valija.faults_in faults_in misplaced
more_fields_form k e rest e1 rest1 = record { kept = λ s r total f a b h. both_kept _ (λ l x y c d. more_fields_clean k (no_front (hidden k ++ reserved k) (V s t.expr e) (no_front ((hidden k ++ reserved k) ++ V s t.expr e) (V s t.fields rest) h.rules)) c d) (e1.kept s r total f a b (behind (hidden k ++ reserved k) (front _ _ h))) (rest1.kept s r total f a b (back ((hidden k ++ reserved k) ++ V s t.expr e) (M a t.expr e) h)) }

pub no_expr_form : Expr t.maybe_expr p.no_expr
unfolding lowered lowered_function valija.faults_in faults_in misplaced
no_expr_form = record { kept = λ s r total f a b h. plain_kept _ (λ l. record { rules = refl; jumps = refl }) }

pub some_expr_form : (e : Placed t.expr) → Expr t.expr e → Expr t.maybe_expr (p.some_expr e)
unfolding lowered lowered_function valija.faults_in faults_in misplaced
some_expr_form e e1 = record { kept = λ s r total f a b h. one_kept _ (λ l x c. some_expr_clean c) (e1.kept s r total f a b h) }

-- ---- calls of what is no member, and operators

abbrev pub is_member : Placed t.expr → Bool
is_member (p.dot e k) = true
is_member (p.index e k) = true
is_member e = false

lowered_call : (s : Scope) (e : Placed t.expr) (es : Placed t.exprs) → is_member e ≡ false → lowered s t.expr (p.call e es) ≡ both call_value (lowered s t.expr e) (lowered s t.exprs es)
unfolding lowered
lowered_call s (p.dot e k) es other = never (sym other)
lowered_call s (p.index e k) es other = never (sym other)
lowered_call s e es other = refl

pub call_form : (e : Placed t.expr) (es : Placed t.exprs) → is_member e ≡ false → Expr t.expr e → Expr t.exprs es → Expr t.expr (p.call e es)
unfolding valija.faults_in misplaced
call_form e es other e1 es1 = record {
  kept = λ s r total f a b h. subst (λ z. Kept r b total 0 t.expr z) (sym (lowered_call s e es other))
      (both_kept call_value (λ l x y c d. call_value_clean f.outer.home c d) (e1.kept s r total f a b (front _ _ h)) (es1.kept s r total f a b (back (V s t.expr e) (M a t.expr e) h)));
}

abbrev pub is_plain : UnOp → Placed t.expr → Bool
is_plain Delete e = false
is_plain Typeof (p.name x) = false
is_plain op e = true

lowered_unary : (s : Scope) (op : UnOp) (e : Placed t.expr) (at : ℕ) → is_plain op e ≡ true → lowered s t.expr (p.unary op e at) ≡ one (λ x. p.unary op x 0) (lowered s t.expr e)
unfolding lowered
lowered_unary s Delete e at other = never other
lowered_unary s Typeof (p.name x) at other = never other
lowered_unary s op e at other = refl

no_delete : (op : UnOp) (e : Placed t.expr) → is_plain op e ≡ true → is_delete op ≡ false
no_delete Delete e other = never other
no_delete op e other = refl

pub unary_form : (op : UnOp) (e : Placed t.expr) (at : ℕ) → is_plain op e ≡ true → Expr t.expr e → Expr t.expr (p.unary op e at)
unfolding valija.faults_in misplaced
unary_form op e at other e1 = record {
  kept = λ s r total f a b h. subst (λ z. Kept r b total 0 t.expr z) (sym (lowered_unary s op e at other))
      (one_kept (λ x. p.unary op x 0) (λ l x c. unary_clean op (no_delete op e other) c) (e1.kept s r total f a b (behind (valija.deleted op at e) h)));
}

-- what is deleted is a member
deleted_other : (at : ℕ) (e : Placed t.expr) → is_member e ≡ false → valija.deleted Delete at e ≡ form_fault 10 at
deleted_other at (p.dot e k) other = never (sym other)
deleted_other at (p.index e k) other = never (sym other)
deleted_other at e other = refl

pub delete_form : (e : Placed t.expr) (at : ℕ) → is_member e ≡ false → Expr t.expr (p.unary Delete e at)
unfolding valija.faults_in
delete_form e at other = record { kept = λ s r total f a b h. something _ [] (sym (deleted_other at e other) ∙ no_front (valija.deleted Delete at e) (V s t.expr e) h.rules) }
