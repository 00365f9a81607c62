-- Lists that grow: statements behind statements, variables behind variables.
use Rattle.std.proofs.Common.{◌≡◌, ℕ, zero, suc, ◌+◌, List, [], ◌∷◌, ◌++◌, length, true, refl, sym, ap, ◌∙◌, arith}
use Rattle.std.proofs.lemmas.Bool.Decides.{nat_tests}
use Rattle.std.specs.Bool.{◌==◌}
use Rattle.std.specs.Global.{Vec}
use Rattle.std.specs.Vec.{vec_len}
use Rattle.es3_tree.specs.declared.Stmt.{Stmt}
use Rattle.es3_tree.specs.declared.VarItem.{VarItem}
use Rattle.es3_tree.specs.Tree as t
use Rattle.es3_tree.specs.View as view
use Rattle.rewrite_parts.specs.Parts.{joined, items_joined, name_items, temp_items, temp_name, var_stmts}

pub joined-assoc : (a b d : t.Tree t.stmts) → joined (joined a b) d ≡ joined a (joined b d)
joined-assoc t.no_stmts b d = refl
joined-assoc (t.more_stmts s ss) b d = ap (t.more_stmts s) (joined-assoc ss b d)

pub joined-none : (a : t.Tree t.stmts) → joined a t.no_stmts ≡ a
joined-none t.no_stmts = refl
joined-none (t.more_stmts s ss) = ap (t.more_stmts s) (joined-none ss)

pub items-assoc : (a b d : t.Tree t.items) → items_joined (items_joined a b) d ≡ items_joined a (items_joined b d)
items-assoc t.no_items b d = refl
items-assoc (t.more_items x e is) b d = ap (t.more_items x e) (items-assoc is b d)

pub items-none : (a : t.Tree t.items) → items_joined a t.no_items ≡ a
items-none t.no_items = refl
items-none (t.more_items x e is) = ap (t.more_items x e) (items-none is)

-- with one more at the end
pub stmts-pushed : (xs : List Stmt) (x : Stmt) → view.of_stmts (xs ++ x ∷ []) ≡ joined (view.of_stmts xs) (t.more_stmts (view.stmt x) t.no_stmts)
stmts-pushed [] x = refl
stmts-pushed (y ∷ ys) x = ap (t.more_stmts (view.stmt y)) (stmts-pushed ys x)

pub items-pushed : (xs : List VarItem) (x : VarItem) → view.of_items (xs ++ x ∷ []) ≡ items_joined (view.of_items xs) (t.more_items x.name.text (view.of_maybe_expr x.value) t.no_items)
items-pushed [] x = refl
items-pushed (y ∷ ys) x = ap (t.more_items y.name.text (view.of_maybe_expr y.value)) (items-pushed ys x)

-- what stands behind temporaries and behind names
temps-last : (i n : ℕ) (rest : t.Tree t.items) → temp_items i (suc n) rest ≡ temp_items i n (t.more_items (temp_name (i + n)) t.no_expr rest)
temps-last i zero rest = ap (λ k. t.more_items (temp_name k) t.no_expr rest) (omega arith)
temps-last i (suc n) rest =
    ap (t.more_items (temp_name i) t.no_expr) (temps-last (suc i) n rest ∙ ap (λ k. temp_items (suc i) n (t.more_items (temp_name k) t.no_expr rest)) (omega arith))

pub temps-joined : (i n : ℕ) (rest : t.Tree t.items) → items_joined (temp_items i n t.no_items) rest ≡ temp_items i n rest
temps-joined i zero rest = refl
temps-joined i (suc n) rest = ap (t.more_items (temp_name i) t.no_expr) (temps-joined (suc i) n rest)

pub names-joined : (xs : List (List ℕ)) (rest : t.Tree t.items) → items_joined (name_items xs t.no_items) rest ≡ name_items xs rest
names-joined [] rest = refl
names-joined (x ∷ xs) rest = ap (t.more_items x t.no_expr) (names-joined xs rest)

-- with one variable more, and with one temporary more
pub one-pushed : (done more : List VarItem) (y : VarItem) {name : List ℕ} {value : t.Tree t.maybe_expr} → more ≡ done ++ y ∷ [] → y.name.text ≡ name → view.of_maybe_expr y.value ≡ value
    → view.of_items more ≡ items_joined (view.of_items done) (t.more_items name value t.no_items)
one-pushed done more y {name} {value} pushed named is =
    ap view.of_items pushed
    ∙ items-pushed done y
    ∙ ap (λ n. items_joined (view.of_items done) (t.more_items n (view.of_maybe_expr y.value) t.no_items)) named
    ∙ ap (λ v. items_joined (view.of_items done) (t.more_items name v t.no_items)) is

pub temps-turn : (before : t.Tree t.items) (n : ℕ) (done more : List VarItem) (y : VarItem) → view.of_items done ≡ items_joined before (temp_items 0 n t.no_items)
    → y.name.text ≡ temp_name n → view.of_maybe_expr y.value ≡ t.no_expr → more ≡ done ++ y ∷ [] → view.of_items more ≡ items_joined before (temp_items 0 (n + 1) t.no_items)
temps-turn before n done more y h named is pushed =
    let last = t.more_items (temp_name n) t.no_expr t.no_items in
    let named_last : n ≡ 0 + n = omega arith in
    let counted : suc n ≡ n + 1 = omega arith in
    one-pushed done more y pushed named is
    ∙ ap (λ a. items_joined a last) h
    ∙ items-assoc before (temp_items 0 n t.no_items) last
    ∙ ap (items_joined before)
    (temps-joined 0 n last
    ∙ ap (λ k. temp_items 0 n (t.more_items (temp_name k) t.no_expr t.no_items)) named_last
    ∙ sym (temps-last 0 n t.no_items)
    ∙ ap (λ k. temp_items 0 k t.no_items) counted)

-- a `var` of these variables behind statements
pub var-pushed : (out : List Stmt) (items : List VarItem) (more : List Stmt) (y : Stmt) → (items ≡ [] → ⊥) → view.stmt y ≡ t.var (view.of_items items) → more ≡ out ++ y ∷ []
    → view.of_stmts more ≡ joined (view.of_stmts out) (var_stmts (view.of_items items) t.no_stmts)
var-pushed out [] more y some is pushed = absurd (some refl)
var-pushed out (x ∷ xs) more y some is pushed = ap view.of_stmts pushed ∙ stmts-pushed out y ∙ ap (λ s. joined (view.of_stmts out) (t.more_stmts s t.no_stmts)) is

pub no-var : (out : List Stmt) (items : List VarItem) → items ≡ [] → view.of_stmts out ≡ joined (view.of_stmts out) (var_stmts (view.of_items items) t.no_stmts)
no-var out [] is = sym (joined-none (view.of_stmts out))
no-var out (x ∷ xs) is = absurd (cc)

none_left : (xs : List VarItem) (n : ℕ) → n ≡ length xs → (n == 0) ≡ true → xs ≡ []
none_left [] n is h = refl
none_left (x ∷ xs) n is h = absurd (grind (arith, nat_tests))

pub empty_items : (v : Vec VarItem) → (vec_len v == 0) ≡ true → v.items ≡ []
empty_items v h = none_left v.items (vec_len v) v.ok.0 h
