-- Forms that stay as they are, over lowered parts.
use Rattle.std.proofs.Common.{◌≡◌, ℕ, Bool, true, false, List, [], ◌∷◌, ◌++◌, Option, None, Some, refl, sym, subst}
use Rattle.es3_tree.specs.Tree as t
use Rattle.es3_tree.specs.Placed as p
use Rattle.es3_tree.specs.Placed.{Placed, Word}
use Rattle.es3_tree.specs.declared.UnOp.{UnOp}
use Rattle.es3_tree.specs.declared.UnOp.TheVariants.{Delete}
use Rattle.es3_labels.specs.Around.{Around, in_loop, in_switch, in_label, has_label, has_function}
use Rattle.es3_labels.specs.Misplaced.{misplaced, jump, again, is_loop, continues, breaks}
use Rattle.cajita_names.specs.Rules.{is_among}
use Rattle.cajita_names.specs.Scope.{Scope, in_catch, has_own}
use Rattle.cajita_rules.specs.Faults.{word_fault, faults_in, hidden, reserved, repeated, jump_label}
use Rattle.valija_forms.specs.Numbered.{one, both, three, four}
use Rattle.valija_forms.specs.Forms.{word, label_of}
use Rattle.valija_parts.specs.Lower.{lowered}
use Rattle.valija_accepted.proofs.Lists.{never, two, no_front, no_back, no_fault, none_there}
use Rattle.valija_accepted.proofs.Words.{Declarable, declarable_clean, hidden_moved, reserved_moved}
use Rattle.valija_accepted.proofs.Parts.{IsClean, Kept}

abbrev pub is_delete : UnOp → Bool
is_delete Delete = true
is_delete op = false

-- the label of a jump stays, and so does the target
label_moved : (l : Option Word) → jump_label l ≡ [] → jump_label (label_of l) ≡ []
label_moved None e = refl
label_moved (Some x) e = hidden_moved x e

jump_moved : (there : Bool) (at : ℕ) → jump there at ≡ [] → jump there 0 ≡ []
jump_moved true at e = refl
jump_moved false at e = absurd cc

module _ {r : Scope} {a : Around} where
  -- ---- expressions

  pub unary_clean : {x : Placed t.expr} (op : UnOp) → is_delete op ≡ false → IsClean r a t.expr x → IsClean r a t.expr (p.unary op x 0)
  unfolding faults_in misplaced
  unary_clean Delete other h = never (sym other)
  unary_clean op other h = record { rules = h.rules; jumps = h.jumps }

  pub and_clean : {x y : Placed t.expr} → IsClean r a t.expr x → IsClean r a t.expr y → IsClean r a t.expr (p.and x y)
  unfolding faults_in misplaced
  and_clean h k = record { rules = two h.rules k.rules; jumps = two h.jumps k.jumps }

  pub or_clean : {x y : Placed t.expr} → IsClean r a t.expr x → IsClean r a t.expr y → IsClean r a t.expr (p.or x y)
  unfolding faults_in misplaced
  or_clean h k = record { rules = two h.rules k.rules; jumps = two h.jumps k.jumps }

  pub choice_clean : {x y z : Placed t.expr} → IsClean r a t.expr x → IsClean r a t.expr y → IsClean r a t.expr z → IsClean r a t.expr (p.choice x y z)
  unfolding faults_in misplaced
  choice_clean h k l = record { rules = two (two h.rules k.rules) l.rules; jumps = two (two h.jumps k.jumps) l.jumps }

  pub more_exprs_clean : {x : Placed t.expr} {xs : Placed t.exprs} → IsClean r a t.expr x → IsClean r a t.exprs xs → IsClean r a t.exprs (p.more_exprs x xs)
  unfolding faults_in misplaced
  more_exprs_clean h k = record { rules = two h.rules k.rules; jumps = two h.jumps k.jumps }

  pub more_fields_clean : {x : Placed t.expr} {fs : Placed t.fields} (k : Word) → hidden k ++ reserved k ≡ [] → IsClean r a t.expr x → IsClean r a t.fields fs → IsClean r a t.fields (p.more_fields (word k.text) x fs)
  unfolding faults_in misplaced
  more_fields_clean k e h i = record { rules = two (two (two (hidden_moved k (no_front (hidden k) (reserved k) e)) (reserved_moved k (no_back (hidden k) (reserved k) e))) h.rules) i.rules; jumps = two h.jumps i.jumps }

  pub some_expr_clean : {x : Placed t.expr} → IsClean r a t.expr x → IsClean r a t.maybe_expr (p.some_expr x)
  unfolding faults_in misplaced
  some_expr_clean h = record { rules = h.rules; jumps = h.jumps }

  -- ---- statements

  pub block_clean : {ss : Placed t.stmts} → IsClean r a t.stmts ss → IsClean r a t.stmt (p.block ss)
  unfolding faults_in misplaced
  block_clean h = record { rules = h.rules; jumps = h.jumps }

  pub var_clean : {is : Placed t.items} → IsClean r a t.items is → IsClean r a t.stmt (p.var is)
  unfolding faults_in misplaced
  var_clean h = record { rules = h.rules; jumps = h.jumps }

  pub expression_clean : {x : Placed t.expr} → IsClean r a t.expr x → IsClean r a t.stmt (p.expression x)
  unfolding faults_in misplaced
  expression_clean h = record { rules = h.rules; jumps = h.jumps }

  pub throw_clean : {x : Placed t.expr} → IsClean r a t.expr x → IsClean r a t.stmt (p.throw x)
  unfolding faults_in misplaced
  throw_clean h = record { rules = h.rules; jumps = h.jumps }

  pub branch_clean : {x : Placed t.expr} {y : Placed t.stmt} {m : Placed t.maybe_stmt} → IsClean r a t.expr x → IsClean r a t.stmt y → IsClean r a t.maybe_stmt m → IsClean r a t.stmt (p.branch x y m)
  unfolding faults_in misplaced
  branch_clean h k l = record { rules = two (two h.rules k.rules) l.rules; jumps = two (two h.jumps k.jumps) l.jumps }

  pub while_clean : {x : Placed t.expr} {y : Placed t.stmt} → IsClean r a t.expr x → IsClean r (in_loop a) t.stmt y → IsClean r a t.stmt (p.while_loop x y)
  unfolding faults_in misplaced
  while_clean h k = record { rules = two h.rules k.rules; jumps = two h.jumps k.jumps }

  pub do_clean : {y : Placed t.stmt} {x : Placed t.expr} → IsClean r (in_loop a) t.stmt y → IsClean r a t.expr x → IsClean r a t.stmt (p.do_loop y x)
  unfolding faults_in misplaced
  do_clean h k = record { rules = two h.rules k.rules; jumps = two h.jumps k.jumps }

  pub for_clean : {i : Placed t.first} {m n : Placed t.maybe_expr} {y : Placed t.stmt} → IsClean r a t.first i → IsClean r a t.maybe_expr m → IsClean r a t.maybe_expr n → IsClean r (in_loop a) t.stmt y → IsClean r a t.stmt (p.for_loop i m n y)
  unfolding faults_in misplaced
  for_clean h k l o = record { rules = two (two (two h.rules k.rules) l.rules) o.rules; jumps = two (two (two h.jumps k.jumps) l.jumps) o.jumps }

  pub continue_clean : (l : Option Word) (at : ℕ) → jump_label l ≡ [] → jump (continues a l) at ≡ [] → IsClean r a t.stmt (p.continue (label_of l) 0)
  unfolding faults_in misplaced
  continue_clean None at e j = record { rules = refl; jumps = jump_moved (continues a None) at j }
  continue_clean (Some x) at e j = record { rules = label_moved (Some x) e; jumps = jump_moved (continues a (Some x)) at j }

  pub break_clean : (l : Option Word) (at : ℕ) → jump_label l ≡ [] → jump (breaks a l) at ≡ [] → IsClean r a t.stmt (p.break (label_of l) 0)
  unfolding faults_in misplaced
  break_clean None at e j = record { rules = refl; jumps = jump_moved (breaks a None) at j }
  break_clean (Some x) at e j = record { rules = label_moved (Some x) e; jumps = jump_moved (breaks a (Some x)) at j }

  pub return_clean : {m : Placed t.maybe_expr} (at : ℕ) → jump (has_function a) at ≡ [] → IsClean r a t.maybe_expr m → IsClean r a t.stmt (p.return m 0)
  unfolding faults_in misplaced
  return_clean at j h = record { rules = h.rules; jumps = two (jump_moved (has_function a) at j) h.jumps }

  pub switch_clean : {x : Placed t.expr} {cs : Placed t.cases} → IsClean r a t.expr x → IsClean r (in_switch a) t.cases cs → IsClean r a t.stmt (p.switch x cs)
  unfolding faults_in misplaced
  switch_clean h k = record { rules = two h.rules k.rules; jumps = two h.jumps k.jumps }

  pub try_clean : {ss : Placed t.stmts} {c : Placed t.handler} {m : Placed t.maybe_block} → IsClean r a t.stmts ss → IsClean r a t.handler c → IsClean r a t.maybe_block m → IsClean r a t.stmt (p.try ss c m)
  unfolding faults_in misplaced
  try_clean h k l = record { rules = two (two h.rules k.rules) l.rules; jumps = two (two h.jumps k.jumps) l.jumps }

  pub more_stmts_clean : {x : Placed t.stmt} {ss : Placed t.stmts} → IsClean r a t.stmt x → IsClean r a t.stmts ss → IsClean r a t.stmts (p.more_stmts x ss)
  unfolding faults_in misplaced
  more_stmts_clean h k = record { rules = two h.rules k.rules; jumps = two h.jumps k.jumps }

  pub more_items_clean : {m : Placed t.maybe_expr} {is : Placed t.items} (x : Word) → Declarable x.text → IsClean r a t.maybe_expr m → IsClean r a t.items is → IsClean r a t.items (p.more_items (word x.text) m is)
  unfolding faults_in misplaced
  more_items_clean x d h k = record { rules = two (two (declarable_clean x.text d) h.rules) k.rules; jumps = two h.jumps k.jumps }

  pub some_stmt_clean : {x : Placed t.stmt} → IsClean r a t.stmt x → IsClean r a t.maybe_stmt (p.some_stmt x)
  unfolding faults_in misplaced
  some_stmt_clean h = record { rules = h.rules; jumps = h.jumps }

  pub some_block_clean : {ss : Placed t.stmts} → IsClean r a t.stmts ss → IsClean r a t.maybe_block (p.some_block ss)
  unfolding faults_in misplaced
  some_block_clean h = record { rules = h.rules; jumps = h.jumps }

  pub first_var_clean : {is : Placed t.items} → IsClean r a t.items is → IsClean r a t.first (p.first_var is)
  unfolding faults_in misplaced
  first_var_clean h = record { rules = h.rules; jumps = h.jumps }

  pub first_expr_clean : {x : Placed t.expr} → IsClean r a t.expr x → IsClean r a t.first (p.first_expr x)
  unfolding faults_in misplaced
  first_expr_clean h = record { rules = h.rules; jumps = h.jumps }

  pub more_cases_clean : {m : Placed t.maybe_expr} {ss : Placed t.stmts} {cs : Placed t.cases} → IsClean r a t.maybe_expr m → IsClean r a t.stmts ss → IsClean r a t.cases cs → IsClean r a t.cases (p.more_cases m ss cs)
  unfolding faults_in misplaced
  more_cases_clean h k l = record { rules = two (two h.rules k.rules) l.rules; jumps = two (two h.jumps k.jumps) l.jumps }

  pub some_handler_clean : {ss : Placed t.stmts} (x : Word) → Declarable x.text → has_own r x.text ≡ false → IsClean (in_catch x.text r) a t.stmts ss → IsClean r a t.handler (p.some_handler (word x.text) ss)
  unfolding faults_in misplaced
  some_handler_clean x d none h = record { rules = two (two (declarable_clean x.text d) (no_fault 6 (word x.text) (has_own r x.text) none)) h.rules; jumps = h.jumps }

-- ---- object literals: the keys stay

keys_stay : (s : Scope) (fs : Placed t.fields) (seen : List (List ℕ)) (n : ℕ) → repeated seen fs ≡ [] → repeated seen (lowered s t.fields fs n).0 ≡ []
unfolding lowered both
keys_stay s p.no_fields seen n h = refl
keys_stay s (p.more_fields k e rest) seen n h =
    two (no_fault 9 (word k.text) (is_among seen k.text) (none_there 9 k (is_among seen k.text) (no_front (word_fault 9 k (is_among seen k.text)) (repeated (seen ++ k.text ∷ []) rest) h)))
    (keys_stay s rest (seen ++ k.text ∷ []) (lowered s t.expr e n).1 (no_back (word_fault 9 k (is_among seen k.text)) (repeated (seen ++ k.text ∷ []) rest) h))

pub object_kept : {r : Scope} {a : Around} {total : ℕ} (s : Scope) (fs : Placed t.fields) → repeated [] fs ≡ [] → Kept r a total 0 t.fields (lowered s t.fields fs) → Kept r a total 0 t.expr (one p.object (lowered s t.fields fs))
unfolding one faults_in misplaced
object_kept s fs once h = record {
  grows = h.grows;
  clean = λ n l m. let k = h.clean n l m in record { rules = two k.rules (keys_stay s fs [] n once); jumps = k.jumps };
}

-- ---- labels: a loop stays one

loop_stays : (s : Scope) (x : Placed t.stmt) (n : ℕ) → is_loop (lowered s t.stmt x n).0 ≡ is_loop x
unfolding lowered one both three four
loop_stays s (p.label l x) n = loop_stays s x n
loop_stays s x n = refl

pub label_kept : {r : Scope} {a : Around} {total : ℕ} (s : Scope) (l : Word) (x : Placed t.stmt) → hidden l ≡ [] → again (has_label a l.text) l ≡ [] → Kept r (in_label l.text (is_loop x) a) total 0 t.stmt (lowered s t.stmt x)
    → Kept r a total 0 t.stmt (one (p.label (word l.text)) (lowered s t.stmt x))
unfolding one faults_in misplaced
label_kept {a = a} s l x shown unlike h = record {
  grows = h.grows;
  clean = λ n low m.
      let k = h.clean n low m in
      record {
        rules = two (hidden_moved l shown) k.rules;
        jumps = two (moved (has_label a l.text) unlike) (subst (λ b. misplaced (in_label l.text b a) t.stmt (lowered s t.stmt x n).0 ≡ []) (sym (loop_stays s x n)) k.jumps);
      };
}
  where
    moved : (b : Bool) → again b l ≡ [] → again b (word l.text) ≡ []
    moved true e = absurd cc
    moved false e = refl
