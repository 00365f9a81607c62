-- Each form by which a name or a member is written to (ES3 11.3.1, 11.4.4, 11.13).
use Rattle.std.proofs.Common.{◌≡◌, Option, ◌+◌, Bool, true, false, [], ◌∷◌, ◌++◌, None, Some, refl, sym, ◌∙◌, arith}
use Rattle.es3_tree.specs.Tree as t
use Rattle.es3_tree.specs.Placed as p
use Rattle.es3_tree.specs.Placed.{Placed, Word}
use Rattle.es3_tree.specs.declared.BinOp.{BinOp}
use Rattle.es3_labels.specs.Misplaced.{misplaced}
use Rattle.cajita_names.specs.Scope.{Scope}
use Rattle.cajita_rules.specs.Faults.{faults_in, hidden, no_target}
use Rattle.valija_rules.specs.Faults as valija
use Rattle.valija_forms.specs.Numbered.{plain, one, both, three}
use Rattle.valija_forms.specs.Forms.{text_of, kept, holds, holds_key, stepped_before, stepped_behind, compounded}
use Rattle.valija_parts.specs.Names.{stepped_name, name_takes}
use Rattle.valija_parts.specs.Lower.{lowered, lowered_function}
use Rattle.valija_accepted.proofs.Lists.{never, no_front, no_back, something}
use Rattle.valija_accepted.proofs.Scopes.{Holds}
use Rattle.valija_accepted.proofs.Parts.{front, back, before, plain_kept, one_kept, both_kept, three_kept, taking_kept, later}
use Rattle.valija_accepted.proofs.Bodies.{V, M}
use Rattle.valija_accepted.proofs.Asking.{text_clean, set_clean, kept_clean}
use Rattle.valija_accepted.proofs.Members.{holds_clean, holds_key_clean, stepped_before_clean, stepped_behind_clean, compounded_clean}
use Rattle.valija_accepted.proofs.Names.{write_name_clean, op_of_name_clean, stepped_name_clean, target_of}
use Rattle.valija_accepted.proofs.Standing.{name_target, Expr}

-- what is written to is a name or a member
abbrev pub is_place : Placed t.expr → Bool
is_place (p.name x) = true
is_place (p.dot e k) = true
is_place (p.index e k) = true
is_place e = false

pub untargeted : (s : Scope) (e : Placed t.expr) → is_place e ≡ false → valija.target s e ≡ no_target ∷ []
untargeted s (p.name x) other = never (sym other)
untargeted s (p.dot e k) other = never (sym other)
untargeted s (p.index e k) other = never (sym other)
untargeted s e other = refl

pub no_place : {A : Type 0} (s : Scope) (e : Placed t.expr) → is_place e ≡ false → V s t.expr e ++ valija.target s e ≡ [] → A
no_place s e other clean = something no_target [] (sym (untargeted s e other) ∙ no_back (V s t.expr e) (valija.target s e) clean)

pub step_form : (up pre : Bool) (e : Placed t.expr) → is_place e ≡ false → Expr t.expr (p.step up pre e)
unfolding valija.faults_in
step_form up pre e other = record { kept = λ s r total f a b h. no_place s e other h.rules }

pub assign_form : (op : Option BinOp) (e v : Placed t.expr) → is_place e ≡ false → Expr t.expr (p.assign op e v)
unfolding valija.faults_in
assign_form op e v other = record { kept = λ s r total f a b h. no_place s e other (no_front (V s t.expr e ++ valija.target s e) (V s t.expr v) h.rules) }

pub step_name_form : (up pre : Bool) (x : Word) → Expr t.expr (p.step up pre (p.name x))
unfolding lowered lowered_function valija.faults_in faults_in misplaced
step_name_form up pre x = record { kept = λ s r total f a b h. let g = target_of s x h.rules in taking_kept (name_takes s pre x) (λ i. plain (stepped_name s up pre i x)) (λ i. plain_kept _ (λ few. stepped_name_clean f b up pre i x g.usable g.no_arguments g.no_import few)) }

pub step_dot_form : (up : Bool) (e : Placed t.expr) (k : Word) → Expr t.expr e → Expr t.expr (p.step up true (p.dot e k))
unfolding lowered lowered_function valija.faults_in faults_in misplaced
step_dot_form up e k e1 = record { kept = λ s r total f a b h. taking_kept 1 (λ i. one (λ o. stepped_before up (holds i o) (kept i) (text_of k)) (lowered s t.expr e)) (λ i. one_kept _ (λ few o c. let i0 : Holds _ i = f.temporaries i (omega arith) in stepped_before_clean up f.outer.home (holds_clean i0 c) (kept_clean i0) (text_clean k.text)) (e1.kept s r total f a b (before (hidden k) (before [] h)))) }

pub step_dot_behind_form : (up : Bool) (e : Placed t.expr) (k : Word) → Expr t.expr e → Expr t.expr (p.step up false (p.dot e k))
unfolding lowered lowered_function valija.faults_in faults_in misplaced
step_dot_behind_form up e k e1 = record { kept = λ s r total f a b h. taking_kept 2 (λ i. one (λ o. stepped_behind up (i + 1) (holds i o) (kept i) (text_of k)) (lowered s t.expr e)) (λ i. one_kept _ (λ few o c. let i0 : Holds _ i = f.temporaries i (omega arith) in let i1 : Holds _ (i + 1) = f.temporaries (i + 1) (omega arith) in stepped_behind_clean up f.outer.home i1 (holds_clean i0 c) (kept_clean i0) (text_clean k.text)) (e1.kept s r total f a b (before (hidden k) (before [] h)))) }

pub step_index_form : (up : Bool) (e k : Placed t.expr) → Expr t.expr e → Expr t.expr k → Expr t.expr (p.step up true (p.index e k))
unfolding lowered lowered_function valija.faults_in faults_in misplaced
step_index_form up e k e1 k1 = record { kept = λ s r total f a b h. taking_kept 2 (λ i. both (λ o x. stepped_before up (holds_key i (i + 1) o x) (kept i) (kept (i + 1))) (lowered s t.expr e) (lowered s t.expr k)) (λ i. both_kept _ (λ few o x c d. let i0 : Holds _ i = f.temporaries i (omega arith) in let i1 : Holds _ (i + 1) = f.temporaries (i + 1) (omega arith) in stepped_before_clean up f.outer.home (holds_key_clean i0 i1 c d) (kept_clean i0) (kept_clean i1)) (e1.kept s r total f a b (front _ _ (before [] h))) (k1.kept s r total f a b (back (V s t.expr e) (M a t.expr e) (before [] h)))) }

pub step_index_behind_form : (up : Bool) (e k : Placed t.expr) → Expr t.expr e → Expr t.expr k → Expr t.expr (p.step up false (p.index e k))
unfolding lowered lowered_function valija.faults_in faults_in misplaced
step_index_behind_form up e k e1 k1 = record { kept = λ s r total f a b h. taking_kept 3 (λ i. both (λ o x. stepped_behind up (i + 2) (holds_key i (i + 1) o x) (kept i) (kept (i + 1))) (lowered s t.expr e) (lowered s t.expr k)) (λ i. both_kept _ (λ few o x c d. let i0 : Holds _ i = f.temporaries i (omega arith) in let i1 : Holds _ (i + 1) = f.temporaries (i + 1) (omega arith) in let i2 : Holds _ (i + 2) = f.temporaries (i + 2) (omega arith) in stepped_behind_clean up f.outer.home i2 (holds_key_clean i0 i1 c d) (kept_clean i0) (kept_clean i1)) (e1.kept s r total f a b (front _ _ (before [] h))) (k1.kept s r total f a b (back (V s t.expr e) (M a t.expr e) (before [] h)))) }

pub assign_name_form : (x : Word) (v : Placed t.expr) → Expr t.expr v → Expr t.expr (p.assign None (p.name x) v)
unfolding lowered lowered_function valija.faults_in faults_in misplaced
assign_name_form x v v1 = record { kept = λ s r total f a b h. let g = name_target s x (V s t.expr v) h.rules in one_kept _ (λ l e c. write_name_clean f b x g.usable g.no_arguments g.no_import c) (v1.kept s r total f a b (back (valija.used s x ++ valija.written s x) [] h)) }

pub assign_dot_form : (e : Placed t.expr) (k : Word) (v : Placed t.expr) → Expr t.expr e → Expr t.expr v → Expr t.expr (p.assign None (p.dot e k) v)
unfolding lowered lowered_function valija.faults_in faults_in misplaced
assign_dot_form e k v e1 v1 = record { kept = λ s r total f a b h. both_kept _ (λ l o x c d. set_clean f.outer.home c (text_clean k.text) d) (e1.kept s r total f a b (before (hidden k) (before [] (front _ _ h)))) (v1.kept s r total f a b (back ((V s t.expr e ++ hidden k) ++ []) (M a t.expr e) h)) }

pub assign_index_form : (e k v : Placed t.expr) → Expr t.expr e → Expr t.expr k → Expr t.expr v → Expr t.expr (p.assign None (p.index e k) v)
unfolding lowered lowered_function valija.faults_in faults_in misplaced
assign_index_form e k v e1 k1 v1 = record { kept = λ s r total f a b h. three_kept _ (λ l o x y c d g. set_clean f.outer.home c d g) (e1.kept s r total f a b (front _ _ (before [] (front _ _ h)))) (k1.kept s r total f a b (back (V s t.expr e) (M a t.expr e) (before [] (front _ _ h)))) (v1.kept s r total f a b (back ((V s t.expr e ++ V s t.expr k) ++ []) (M a t.expr e ++ M a t.expr k) h)) }

pub operate_name_form : (op : BinOp) (x : Word) (v : Placed t.expr) → Expr t.expr v → Expr t.expr (p.assign (Some op) (p.name x) v)
unfolding lowered lowered_function valija.faults_in faults_in misplaced
operate_name_form op x v v1 = record { kept = λ s r total f a b h. let g = name_target s x (V s t.expr v) h.rules in one_kept _ (λ l e c. op_of_name_clean f b op x g.usable g.no_arguments g.no_import c) (v1.kept s r total f a b (back (valija.used s x ++ valija.written s x) [] h)) }

pub operate_dot_form : (op : BinOp) (e : Placed t.expr) (k : Word) (v : Placed t.expr) → Expr t.expr e → Expr t.expr v → Expr t.expr (p.assign (Some op) (p.dot e k) v)
unfolding lowered lowered_function valija.faults_in faults_in misplaced
operate_dot_form op e k v e1 v1 = record { kept = λ s r total f a b h. taking_kept 1 (λ i. both (λ o x. compounded op (holds i o) (kept i) (text_of k) x) (lowered s t.expr e) (lowered s t.expr v)) (λ i. both_kept _ (λ few o x c d. let i0 : Holds _ i = f.temporaries i (omega arith) in compounded_clean op f.outer.home (holds_clean i0 c) (kept_clean i0) (text_clean k.text) d) (e1.kept s r total f a b (before (hidden k) (before [] (front _ _ h)))) (v1.kept s r total f a b (back ((V s t.expr e ++ hidden k) ++ []) (M a t.expr e) h))) }

pub operate_index_form : (op : BinOp) (e k v : Placed t.expr) → Expr t.expr e → Expr t.expr k → Expr t.expr v → Expr t.expr (p.assign (Some op) (p.index e k) v)
unfolding lowered lowered_function valija.faults_in faults_in misplaced
operate_index_form op e k v e1 k1 v1 = record { kept = λ s r total f a b h. taking_kept 2 (λ i. three (λ o x y. compounded op (holds_key i (i + 1) o x) (kept i) (kept (i + 1)) y) (lowered s t.expr e) (lowered s t.expr k) (lowered s t.expr v)) (λ i. three_kept _ (λ few o x y c d g. let i0 : Holds _ i = f.temporaries i (omega arith) in let i1 : Holds _ (i + 1) = f.temporaries (i + 1) (omega arith) in compounded_clean op f.outer.home (holds_key_clean i0 i1 c d) (kept_clean i0) (kept_clean i1) g) (later (e1.kept s r total f a b (front _ _ (before [] (front _ _ h))))) (k1.kept s r total f a b (back (V s t.expr e) (M a t.expr e) (before [] (front _ _ h)))) (v1.kept s r total f a b (back ((V s t.expr e ++ V s t.expr k) ++ []) (M a t.expr e ++ M a t.expr k) h))) }
