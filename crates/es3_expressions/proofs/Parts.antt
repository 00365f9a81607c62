-- What is left of lists of nodes, from a place on.
use Rattle.std.proofs.Common.{◌≡◌, ℕ, zero, suc, ◌+◌, ◌<◌, ◌≤◌, List, [], ◌∷◌, length, get_or, refl, sym, ap, ◌∙◌, arith, Global}
use Rattle.std.specs.declared.rc.Rc.{Rc}
use Rattle.es3_tree.specs.Tree as t
use Rattle.es3_moves.specs.Code.{plain_expr, exprs_at, fields_at}
use Rattle.es3_moves.specs.declared.code.ExprCode.{ExprCode}
use Rattle.es3_moves.specs.declared.code.FieldCode.{FieldCode}

one : (i : ℕ) → i + 1 ≡ suc i
one i = omega arith

exprs_here : (xs : List (Rc ExprCode Global)) (i : ℕ) (x : Rc ExprCode Global) → i < length xs → x ≡ get_or xs i x → exprs_at xs i ≡ t.more_exprs (plain_expr x.value) (exprs_at xs (suc i))
exprs_here [] i x h e = absurd (omega arith)
exprs_here (y ∷ ys) zero x h e = ap (λ k. t.more_exprs (plain_expr k.value) (exprs_at ys 0)) (sym e)
exprs_here (y ∷ ys) (suc i) x h e = exprs_here ys i x (omega arith) e

pub exprs_more : (xs : List (Rc ExprCode Global)) (i : ℕ) (x : Rc ExprCode Global) → i < length xs → x ≡ get_or xs i x → exprs_at xs i ≡ t.more_exprs (plain_expr x.value) (exprs_at xs (i + 1))
exprs_more xs i x h e = exprs_here xs i x h e ∙ ap (λ k. t.more_exprs (plain_expr x.value) (exprs_at xs k)) (sym (one i))

pub exprs_end : (xs : List (Rc ExprCode Global)) (i : ℕ) → length xs ≤ i → exprs_at xs i ≡ t.no_exprs
exprs_end [] zero h = refl
exprs_end [] (suc i) h = refl
exprs_end (y ∷ ys) zero h = absurd (omega arith)
exprs_end (y ∷ ys) (suc i) h = exprs_end ys i (omega arith)

fields_here : (xs : List FieldCode) (i : ℕ) (x : FieldCode) → i < length xs → x ≡ get_or xs i x → fields_at xs i ≡ t.more_fields x.key.value (plain_expr x.value.value) (fields_at xs (suc i))
fields_here [] i x h e = absurd (omega arith)
fields_here (y ∷ ys) zero x h e = ap (λ k. t.more_fields k.key.value (plain_expr k.value.value) (fields_at ys 0)) (sym e)
fields_here (y ∷ ys) (suc i) x h e = fields_here ys i x (omega arith) e

pub fields_more : (xs : List FieldCode) (i : ℕ) (x : FieldCode) → i < length xs → x ≡ get_or xs i x → fields_at xs i ≡ t.more_fields x.key.value (plain_expr x.value.value) (fields_at xs (i + 1))
fields_more xs i x h e = fields_here xs i x h e ∙ ap (λ k. t.more_fields x.key.value (plain_expr x.value.value) (fields_at xs k)) (sym (one i))

pub fields_end : (xs : List FieldCode) (i : ℕ) → length xs ≤ i → fields_at xs i ≡ t.no_fields
fields_end [] zero h = refl
fields_end [] (suc i) h = refl
fields_end (y ∷ ys) zero h = absurd (omega arith)
fields_end (y ∷ ys) (suc i) h = fields_end ys i (omega arith)
