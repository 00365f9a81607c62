-- Each form by which a name or a member is written to: how deep what it is lowered to is.
use Rattle.std.proofs.Common.{◌≡◌, ◌+◌, Bool, true, false, Option, Some, None, refl, sym, subst, arith}
use Rattle.es3_tree.specs.Tree as t
use Rattle.es3_tree.specs.Placed as p
use Rattle.es3_tree.specs.Placed.{Placed, Word}
use Rattle.es3_tree.specs.declared.BinOp.{BinOp}
use Rattle.cajita_names.specs.Scope.{Scope}
use Rattle.valija_forms.specs.Numbered.{plain, one, both, three}
use Rattle.valija_forms.specs.Forms.{text_of, set, kept, holds, holds_key, stepped_before, stepped_behind, compounded}
use Rattle.valija_parts.specs.Names.{write_name, op_of_name, stepped_name, name_takes}
use Rattle.valija_parts.specs.Lower.{lowered}
use Rattle.valija_nesting.proofs.Parts.{Gives, deeper, plain_gives, taking_gives, one_gives, both_gives, three_gives}
use Rattle.valija_nesting.proofs.ExpressionForms.{text_nests, step_nests, assign_nests}
use Rattle.valija_nesting.proofs.Asking.{set_nests, kept_nests, holds_nests, holds_key_nests, stepped_before_nests, stepped_behind_nests, compounded_nests}
use Rattle.valija_nesting.proofs.Names.{write_name_nests, op_of_name_nests, stepped_name_nests}
use Rattle.valija_nesting.proofs.Bodies.{never}
use Rattle.valija_nesting.proofs.Lowered.{W, Part}

-- ---- `++` and `--`

pub step_name_form : (up before : Bool) (x : Word) → Part t.expr (p.step up before (p.name x))
unfolding lowered
step_name_form up before x = record { gives = λ s. taking_gives (name_takes s before x) (λ i. plain (stepped_name s up before i x)) (λ i. plain_gives (deeper (stepped_name_nests s up before i x) (omega arith))) }

pub step_dot_form : (up : Bool) (e : Placed t.expr) (k : Word) → Part t.expr e → Part t.expr (p.step up true (p.dot e k))
unfolding lowered
step_dot_form up e k e1 = record {
  gives = λ s. taking_gives 1 (λ i. one (λ o. stepped_before up (holds i o) (kept i) (text_of k)) (lowered s t.expr e))
      (λ i. one_gives (λ o. stepped_before up (holds i o) (kept i) (text_of k)) (e1.gives s)
      (λ o h. deeper (stepped_before_nests up (holds_nests i h) (kept_nests i) (text_nests k.text)) (omega arith)));
}

pub step_dot_behind_form : (up : Bool) (e : Placed t.expr) (k : Word) → Part t.expr e → Part t.expr (p.step up false (p.dot e k))
unfolding lowered
step_dot_behind_form up e k e1 = record {
  gives = λ s. taking_gives 2 (λ i. one (λ o. stepped_behind up (i + 1) (holds i o) (kept i) (text_of k)) (lowered s t.expr e))
      (λ i. one_gives (λ o. stepped_behind up (i + 1) (holds i o) (kept i) (text_of k)) (e1.gives s)
      (λ o h. deeper (stepped_behind_nests up (i + 1) (holds_nests i h) (kept_nests i) (text_nests k.text)) (omega arith)));
}

pub step_index_form : (up : Bool) (e k : Placed t.expr) → Part t.expr e → Part t.expr k → Part t.expr (p.step up true (p.index e k))
unfolding lowered
step_index_form up e k e1 k1 = record {
  gives = λ s. taking_gives 2 (λ i. both (λ o l. stepped_before up (holds_key i (i + 1) o l) (kept i) (kept (i + 1))) (lowered s t.expr e) (lowered s t.expr k))
      (λ i. both_gives (λ o l. stepped_before up (holds_key i (i + 1) o l) (kept i) (kept (i + 1))) (e1.gives s) (k1.gives s)
      (λ o l h j. deeper (stepped_before_nests up (holds_key_nests i (i + 1) h j) (kept_nests i) (kept_nests (i + 1))) (omega arith)));
}

pub step_index_behind_form : (up : Bool) (e k : Placed t.expr) → Part t.expr e → Part t.expr k → Part t.expr (p.step up false (p.index e k))
unfolding lowered
step_index_behind_form up e k e1 k1 = record {
  gives = λ s. taking_gives 3 (λ i. both (λ o l. stepped_behind up (i + 2) (holds_key i (i + 1) o l) (kept i) (kept (i + 1))) (lowered s t.expr e) (lowered s t.expr k))
      (λ i. both_gives (λ o l. stepped_behind up (i + 2) (holds_key i (i + 1) o l) (kept i) (kept (i + 1))) (e1.gives s) (k1.gives s)
      (λ o l h j. deeper (stepped_behind_nests up (i + 2) (holds_key_nests i (i + 1) h j) (kept_nests i) (kept_nests (i + 1))) (omega arith)));
}

-- ---- `=`, and `+=` and its kin

pub assign_name_form : (x : Word) (v : Placed t.expr) → Part t.expr v → Part t.expr (p.assign None (p.name x) v)
unfolding lowered
assign_name_form x v v1 = record { gives = λ s. one_gives (write_name s x) (v1.gives s) (λ y h. deeper (write_name_nests s x h) (omega arith)) }

pub assign_dot_form : (e : Placed t.expr) (k : Word) (v : Placed t.expr) → Part t.expr e → Part t.expr v → Part t.expr (p.assign None (p.dot e k) v)
unfolding lowered
assign_dot_form e k v e1 v1 = record { gives = λ s. both_gives (λ o x. set o (text_of k) x) (e1.gives s) (v1.gives s) (λ o x h i. deeper (set_nests h (text_nests k.text) i) (omega arith)) }

pub assign_index_form : (e k v : Placed t.expr) → Part t.expr e → Part t.expr k → Part t.expr v → Part t.expr (p.assign None (p.index e k) v)
unfolding lowered
assign_index_form e k v e1 k1 v1 = record { gives = λ s. three_gives set (e1.gives s) (k1.gives s) (v1.gives s) (λ o l x h i j. deeper (set_nests h i j) (omega arith)) }

pub operate_name_form : (op : BinOp) (x : Word) (v : Placed t.expr) → Part t.expr v → Part t.expr (p.assign (Some op) (p.name x) v)
unfolding lowered
operate_name_form op x v v1 = record { gives = λ s. one_gives (op_of_name s op x) (v1.gives s) (λ y h. deeper (op_of_name_nests s op x h) (omega arith)) }

pub operate_dot_form : (op : BinOp) (e : Placed t.expr) (k : Word) (v : Placed t.expr) → Part t.expr e → Part t.expr v → Part t.expr (p.assign (Some op) (p.dot e k) v)
unfolding lowered
operate_dot_form op e k v e1 v1 = record {
  gives = λ s. taking_gives 1 (λ i. both (λ o x. compounded op (holds i o) (kept i) (text_of k) x) (lowered s t.expr e) (lowered s t.expr v))
      (λ i. both_gives (λ o x. compounded op (holds i o) (kept i) (text_of k) x) (e1.gives s) (v1.gives s)
      (λ o x h j. deeper (compounded_nests op (holds_nests i h) (kept_nests i) (text_nests k.text) j) (omega arith)));
}

pub operate_index_form : (op : BinOp) (e k v : Placed t.expr) → Part t.expr e → Part t.expr k → Part t.expr v → Part t.expr (p.assign (Some op) (p.index e k) v)
unfolding lowered
operate_index_form op e k v e1 k1 v1 = record {
  gives = λ s. taking_gives 2 (λ i. three (λ o l x. compounded op (holds_key i (i + 1) o l) (kept i) (kept (i + 1)) x) (lowered s t.expr e) (lowered s t.expr k) (lowered s t.expr v))
      (λ i. three_gives (λ o l x. compounded op (holds_key i (i + 1) o l) (kept i) (kept (i + 1)) x) (e1.gives s) (k1.gives s) (v1.gives s)
      (λ o l x h j q. deeper (compounded_nests op (holds_key_nests i (i + 1) h j) (kept_nests i) (kept_nests (i + 1)) q) (omega arith)));
}

-- ---- what is neither a name nor a member

abbrev pub is_place : Placed t.expr → Bool
is_place (p.name x) = true
is_place (p.dot e k) = true
is_place (p.index e k) = true
is_place e = false

lowered_step : (s : Scope) (up before : Bool) (e : Placed t.expr) → is_place e ≡ false → lowered s t.expr (p.step up before e) ≡ one (p.step up before) (lowered s t.expr e)
unfolding lowered
lowered_step s up before (p.name x) other = never (sym other)
lowered_step s up before (p.dot e k) other = never (sym other)
lowered_step s up before (p.index e k) other = never (sym other)
lowered_step s up before e other = refl

pub step_form : (up before : Bool) (e : Placed t.expr) → is_place e ≡ false → Part t.expr e → Part t.expr (p.step up before e)
step_form up before e other e1 = record {
  gives = λ s. subst (λ z. Gives t.expr (W t.expr (p.step up before e)) z) (sym (lowered_step s up before e other)) (one_gives (p.step up before) (e1.gives s) (λ x h. deeper (step_nests up before h) (omega arith)));
}

lowered_assign : (s : Scope) (op : Option BinOp) (e v : Placed t.expr) → is_place e ≡ false → lowered s t.expr (p.assign op e v) ≡ both (p.assign op) (lowered s t.expr e) (lowered s t.expr v)
unfolding lowered
lowered_assign s op (p.name x) v other = never (sym other)
lowered_assign s op (p.dot e k) v other = never (sym other)
lowered_assign s op (p.index e k) v other = never (sym other)
lowered_assign s None e v other = refl
lowered_assign s (Some op) e v other = refl

pub assign_form : (op : Option BinOp) (e v : Placed t.expr) → is_place e ≡ false → Part t.expr e → Part t.expr v → Part t.expr (p.assign op e v)
assign_form op e v other e1 v1 = record {
  gives = λ s. subst (λ z. Gives t.expr (W t.expr (p.assign op e v)) z) (sym (lowered_assign s op e v other)) (both_gives (p.assign op) (e1.gives s) (v1.gives s) (λ x y h i. deeper (assign_nests op h i) (omega arith)));
}
