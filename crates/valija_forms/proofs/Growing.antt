-- Variables of a head that grow by one, and what a body is made of.
use Rattle.std.proofs.Common.{◌≡◌, ℕ, zero, suc, true, false, ◌+◌, ◌<◌, ◌≤◌, List, [], ◌∷◌, ◌++◌, length, get_or, take, refl, sym, ap, ◌∙◌, arith}
use Rattle.std.proofs.Math.Seq.{take-suc}
use Rattle.std.proofs.lemmas.Bool.Decides.{nat_tests}
use Rattle.std.proofs.lemmas.List.{append_assoc}
use Rattle.std.specs.Bool.{◌==◌}
use Rattle.std.specs.Global.{Vec}
use Rattle.std.specs.Vec.{vec_len}
use Rattle.es3_tree.specs.declared.Stmt.{Stmt}
use Rattle.es3_tree.specs.declared.VarItem.{VarItem}
use Rattle.es3_tree.specs.Tree as t
use Rattle.es3_tree.specs.Placed as p
use Rattle.es3_tree.specs.Placed.{Placed, Word}
use Rattle.es3_tree.specs.PlacedView as source
use Rattle.valija_forms.specs.Forms.{word, items, temporary, temporaries_from, declaring, joined}

-- variables with one more behind them
abbrev pub with_last : Placed t.items → Word → Placed t.items
with_last p.no_items x = p.more_items x p.no_expr p.no_items
with_last (p.more_items y e is) x = p.more_items y e (with_last is x)

items_last : (xs : List (List ℕ)) (x : List ℕ) → items (xs ++ x ∷ []) ≡ with_last (items xs) (word x)
items_last [] x = refl
items_last (y ∷ ys) x = ap (p.more_items (word y) p.no_expr) (items_last ys x)

pushed_last : (done : List VarItem) (y : VarItem) → source.of_maybe_expr y.value ≡ p.no_expr → source.of_items (done ++ y ∷ []) ≡ with_last (source.of_items done) (source.word y.name)
pushed_last [] y h = ap (λ e. p.more_items (source.word y.name) e p.no_items) h
pushed_last (z ∷ zs) y h = ap (p.more_items (source.word z.name) (source.of_maybe_expr z.value)) (pushed_last zs y h)

pub one_more : (xs : List (List ℕ)) (x : List ℕ) (done more : List VarItem) (y : VarItem) → source.of_items done ≡ items xs → source.word y.name ≡ word x → source.of_maybe_expr y.value ≡ p.no_expr
    → more ≡ done ++ y ∷ [] → source.of_items more ≡ items (xs ++ x ∷ [])
one_more xs x done more y h named none is =
    ap source.of_items is ∙ pushed_last done y none ∙ ap (λ i. with_last i (source.word y.name)) h ∙ ap (with_last (items xs)) named ∙ sym (items_last xs x)

temporaries_last : (k n : ℕ) → temporaries_from k (suc n) ≡ temporaries_from k n ++ temporary (k + n) ∷ []
temporaries_last k zero = ap (λ i. temporary i ∷ []) (omega arith)
temporaries_last k (suc n) = ap (λ xs. temporary k ∷ xs) (temporaries_last (suc k) n ∙ ap (λ i. temporaries_from (suc k) n ++ temporary i ∷ []) (omega arith))

pub temporary_more : (n : ℕ) (done more : List VarItem) (y : VarItem) → source.of_items done ≡ items (temporaries_from 0 n) → source.word y.name ≡ word (temporary n) → source.of_maybe_expr y.value ≡ p.no_expr
    → more ≡ done ++ y ∷ [] → source.of_items more ≡ items (temporaries_from 0 (n + 1))
temporary_more n done more y h named none is =
    let named_last : n ≡ 0 + n = omega arith in
    let counted : suc n ≡ n + 1 = omega arith in
    one_more (temporaries_from 0 n) (temporary n) done more y h named none is
    ∙ ap items (ap (λ k. temporaries_from 0 n ++ temporary k ∷ []) named_last ∙ sym (temporaries_last 0 n) ∙ ap (temporaries_from 0) counted)

pub name_more : (before names : List (List ℕ)) (i : ℕ) (x : List ℕ) (done more : List VarItem) (y : VarItem) → source.of_items done ≡ items (before ++ take i names) → i < length names → x ≡ get_or names i x
    → source.word y.name ≡ word x → source.of_maybe_expr y.value ≡ p.no_expr → more ≡ done ++ y ∷ [] → source.of_items more ≡ items (before ++ take (i + 1) names)
name_more before names i x done more y h in_bounds at named none is =
    let counted : suc i ≡ i + 1 = omega arith in
    one_more (before ++ take i names) x done more y h named none is
    ∙ ap items (append_assoc before (take i names) (x ∷ []) ∙ ap (λ l. before ++ l) (ap (λ z. take i names ++ z ∷ []) at ∙ sym (take-suc names i x in_bounds) ∙ ap (λ k. take k names) counted))

-- a `var` of no variables is none
none_empty : (xs : List VarItem) (n : ℕ) → n ≡ length xs → (n == 0) ≡ true → xs ≡ []
none_empty [] n is h = refl
none_empty (x ∷ xs) n is h = absurd (grind (arith, nat_tests))

some_full : (xs : List VarItem) (n : ℕ) → n ≡ length xs → (n == 0) ≡ false → xs ≡ [] → ⊥
some_full [] n is h e = grind (arith, nat_tests)
some_full (x ∷ xs) n is h e = absurd cc

no_names : (xs : List VarItem) (ns : List (List ℕ)) → source.of_items xs ≡ items ns → xs ≡ [] → ns ≡ []
no_names [] [] h e = refl
no_names [] (n ∷ ns) h e = absurd cc
no_names (x ∷ xs) ns h e = absurd cc

a_name : (xs : List VarItem) (ns : List (List ℕ)) → source.of_items xs ≡ items ns → (xs ≡ [] → ⊥) → declaring ns p.no_stmts ≡ p.more_stmts (p.var (source.of_items xs)) p.no_stmts
a_name [] ns h some = absurd (some refl)
a_name (x ∷ xs) [] h some = absurd cc
a_name (x ∷ xs) (n ∷ ns) h some = ap (λ i. p.more_stmts (p.var i) p.no_stmts) (sym h)

pub no_head : (v : Vec VarItem) (ns : List (List ℕ)) → source.of_items v.items ≡ items ns → (vec_len v == 0) ≡ true → declaring ns p.no_stmts ≡ p.no_stmts
no_head v ns h e = ap (λ l. declaring l p.no_stmts) (no_names v.items ns h (none_empty v.items (vec_len v) v.ok.0 e))

pub a_head : (v : Vec VarItem) (ns : List (List ℕ)) → source.of_items v.items ≡ items ns → (vec_len v == 0) ≡ false → declaring ns p.no_stmts ≡ p.more_stmts (p.var (source.of_items v.items)) p.no_stmts
a_head v ns h e = a_name v.items ns h (some_full v.items (vec_len v) v.ok.0 e)

-- statements behind statements
pub stmts_behind : (xs ys : List Stmt) → source.of_stmts (xs ++ ys) ≡ joined (source.of_stmts xs) (source.of_stmts ys)
stmts_behind [] ys = refl
stmts_behind (x ∷ xs) ys = ap (p.more_stmts (source.stmt x)) (stmts_behind xs ys)

joined_assoc : (a b d : Placed t.stmts) → joined (joined a b) d ≡ joined a (joined b d)
joined_assoc p.no_stmts b d = refl
joined_assoc (p.more_stmts x ss) b d = ap (p.more_stmts x) (joined_assoc ss b d)

declared_before : (ns : List (List ℕ)) (ss : Placed t.stmts) → joined (declaring ns p.no_stmts) ss ≡ declaring ns ss
declared_before [] ss = refl
declared_before (n ∷ ns) ss = refl

pub body_is : (ns : List (List ℕ)) (head functions statements body more : List Stmt) → source.of_stmts head ≡ declaring ns p.no_stmts → body ≡ head ++ functions → more ≡ body ++ statements
    → source.of_stmts more ≡ declaring ns (joined (source.of_stmts functions) (source.of_stmts statements))
body_is ns head functions statements body more h is last =
    ap source.of_stmts last
    ∙ stmts_behind body statements
    ∙ ap (λ b. joined b (source.of_stmts statements)) (ap source.of_stmts is ∙ stmts_behind head functions)
    ∙ joined_assoc (source.of_stmts head) (source.of_stmts functions) (source.of_stmts statements)
    ∙ ap (λ x. joined x (joined (source.of_stmts functions) (source.of_stmts statements))) h
    ∙ declared_before ns (joined (source.of_stmts functions) (source.of_stmts statements))
