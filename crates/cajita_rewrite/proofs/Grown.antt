-- Statements and variables that are put behind others one by one.
use Rattle.std.proofs.Common.{◌≡◌, ℕ, ◌+◌, ◌<◌, ◌≤◌, true, false, cond, List, [], ◌∷◌, ◌++◌, Some, None, length, get_or, drop, codes, sym, ap, ◌∙◌}
use Rattle.std.proofs.lemmas.List.{at_drop_more, at_drop_all}
use Rattle.std.specs.List.{list_any}
use Rattle.caja_units.specs.Units.{same_units}
use Rattle.es3_tree.specs.declared.Stmt.{Stmt}
use Rattle.es3_tree.specs.declared.VarItem.{VarItem}
use Rattle.es3_tree.specs.Tree as t
use Rattle.es3_tree.specs.View as view
use Rattle.cajita_tree.specs.declared.CFunc.{CFunc}
use Rattle.cajita_tree.specs.declared.CExpr.TheViews.{out-CFunc}
use Rattle.cajita_tree.specs.Tree as c
use Rattle.cajita_tree.specs.View as source
use Rattle.cajita_tree.proofs.Rows.{view_func}
use Rattle.rewrite_parts.proofs.Joined.{joined-none, items-none, joined-assoc, items-assoc, stmts-pushed, items-pushed}
use Rattle.cajita_rewrite.specs.Rewrite.{joined, items_joined, name_items, others, func_mark, runtime_call, single, import_stmts}

-- with the statement of one element more, and with an element that has none
pub stmts-turn : {A : Type 0} (f : List A → t.Tree t.stmts) (xs : List A) (i : ℕ) (x : A) (done more : List Stmt) (y : Stmt) → i < length xs → x ≡ get_or xs i x → more ≡ done ++ y ∷ []
    → t.more_stmts (view.stmt y) (f (drop (i + 1) xs)) ≡ f (x ∷ drop (i + 1) xs) → joined (view.of_stmts more) (f (drop (i + 1) xs)) ≡ joined (view.of_stmts done) (f (drop i xs))
stmts-turn f xs i x done more y h is pushed made =
    let rest = f (drop (i + 1) xs) in
    ap (λ m. joined (view.of_stmts m) rest) pushed
    ∙ ap (λ s. joined s rest) (stmts-pushed done y)
    ∙ joined-assoc (view.of_stmts done) (t.more_stmts (view.stmt y) t.no_stmts) rest
    ∙ ap (joined (view.of_stmts done)) (made ∙ ap (λ z. f (z ∷ drop (i + 1) xs)) is ∙ sym (at_drop_more f xs i x h))

pub stmts-passed : {A : Type 0} (f : List A → t.Tree t.stmts) (xs : List A) (i : ℕ) (x : A) (done : List Stmt) → i < length xs → x ≡ get_or xs i x
    → f (drop (i + 1) xs) ≡ f (x ∷ drop (i + 1) xs) → joined (view.of_stmts done) (f (drop (i + 1) xs)) ≡ joined (view.of_stmts done) (f (drop i xs))
stmts-passed f xs i x done h is made = ap (joined (view.of_stmts done)) (made ∙ ap (λ z. f (z ∷ drop (i + 1) xs)) is ∙ sym (at_drop_more f xs i x h))

-- with none left
pub stmts-end : {A : Type 0} (f : List A → t.Tree t.stmts) (xs : List A) (i : ℕ) (done : List Stmt) → length xs ≤ i → f [] ≡ t.no_stmts → view.of_stmts done ≡ joined (view.of_stmts done) (f (drop i xs))
stmts-end f xs i done h none = sym (joined-none (view.of_stmts done)) ∙ ap (joined (view.of_stmts done)) (sym (at_drop_all f xs i h ∙ none))

-- the same of names
left-out : (x : List ℕ) (xs names : List (List ℕ)) → list_any (same_units x) names ≡ true → others xs names ≡ others (x ∷ xs) names
left-out x xs names h = sym (ap (λ b. cond b (others xs names) (x ∷ others xs names)) h)

stands : (x : List ℕ) (xs names : List (List ℕ)) → list_any (same_units x) names ≡ false → x ∷ others xs names ≡ others (x ∷ xs) names
stands x xs names h = sym (ap (λ b. cond b (others xs names) (x ∷ others xs names)) h)

pub names-turn : (names xs : List (List ℕ)) (i : ℕ) (x : List ℕ) (done more : List VarItem) (y : VarItem) → i < length xs → x ≡ get_or xs i x → more ≡ done ++ y ∷ [] → y.name.text ≡ x → view.of_maybe_expr y.value ≡ t.no_expr
    → list_any (same_units x) names ≡ false
    → items_joined (view.of_items more) (name_items (others (drop (i + 1) xs) names) t.no_items) ≡ items_joined (view.of_items done) (name_items (others (drop i xs) names) t.no_items)
names-turn names xs i x done more y h is pushed named value new =
    let rest = name_items (others (drop (i + 1) xs) names) t.no_items in
    ap (λ m. items_joined (view.of_items m) rest) pushed
    ∙ ap (λ s. items_joined s rest) (items-pushed done y)
    ∙ items-assoc (view.of_items done) (t.more_items y.name.text (view.of_maybe_expr y.value) t.no_items) rest
    ∙ ap (λ n. items_joined (view.of_items done) (t.more_items n (view.of_maybe_expr y.value) rest)) named
    ∙ ap (λ v. items_joined (view.of_items done) (t.more_items x v rest)) value
    ∙ ap (λ l. items_joined (view.of_items done) (name_items l t.no_items)) (stands x (drop (i + 1) xs) names new ∙ ap (λ z. others (z ∷ drop (i + 1) xs) names) is ∙ sym (at_drop_more (λ l. others l names) xs i x h))

pub names-passed : (names xs : List (List ℕ)) (i : ℕ) (x : List ℕ) (done : List VarItem) → i < length xs → x ≡ get_or xs i x → list_any (same_units x) names ≡ true
    → items_joined (view.of_items done) (name_items (others (drop (i + 1) xs) names) t.no_items) ≡ items_joined (view.of_items done) (name_items (others (drop i xs) names) t.no_items)
names-passed names xs i x done h is old =
    ap (λ l. items_joined (view.of_items done) (name_items l t.no_items)) (left-out x (drop (i + 1) xs) names old ∙ ap (λ z. others (z ∷ drop (i + 1) xs) names) is ∙ sym (at_drop_more (λ l. others l names) xs i x h))

pub names-end : (names xs : List (List ℕ)) (i : ℕ) (done : List VarItem) → length xs ≤ i → view.of_items done ≡ items_joined (view.of_items done) (name_items (others (drop i xs) names) t.no_items)
names-end names xs i done h = sym (items-none (view.of_items done)) ∙ ap (λ l. items_joined (view.of_items done) (name_items l t.no_items)) (sym (at_drop_all (λ l. others l names) xs i h))

-- the mark of a function
pub marked : (f : CFunc) (x : List ℕ) (rest : t.Tree t.stmts) → (out-CFunc f).name ≡ Some x → t.more_stmts (t.expression (runtime_call (codes "func") (single (t.name x)))) rest ≡ func_mark (source.func f) rest
marked f x rest is = sym (ap (λ g. func_mark g rest) (view_func f) ∙ ap (λ n. func_mark (c.fun n (out-CFunc f).params.items (out-CFunc f).args (source.body (out-CFunc f).body)) rest) is)

pub unmarked : (f : CFunc) (rest : t.Tree t.stmts) → (out-CFunc f).name ≡ None → rest ≡ func_mark (source.func f) rest
unmarked f rest is = sym (ap (λ g. func_mark g rest) (view_func f) ∙ ap (λ n. func_mark (c.fun n (out-CFunc f).params.items (out-CFunc f).args (source.body (out-CFunc f).body)) rest) is)

-- the import of one name
pub imported : (x : List ℕ) (xs : List (List ℕ)) (s : t.Tree t.stmt) → t.more_stmts s t.no_stmts ≡ import_stmts (x ∷ []) t.no_stmts → t.more_stmts s (import_stmts xs t.no_stmts) ≡ import_stmts (x ∷ xs) t.no_stmts
imported x xs s h = ap (λ a. joined a (import_stmts xs t.no_stmts)) h
