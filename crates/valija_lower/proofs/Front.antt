-- Lists whose elements are lowered one by one: what is done stands in front of what is left, and the number of the first free temporary goes on.
use Rattle.std.proofs.Common.{◌≡◌, ℕ, ◌+◌, ◌<◌, ◌≤◌, List, [], ◌∷◌, ◌++◌, length, get_or, drop, refl, sym, ap, ◌∙◌}
use Rattle.std.proofs.lemmas.List.{at_drop_more, at_drop_all}
use Rattle.es3_tree.specs.declared.Name.{Name}
use Rattle.es3_tree.specs.declared.Expr.{Expr}
use Rattle.es3_tree.specs.declared.Stmt.{Stmt}
use Rattle.es3_tree.specs.declared.VarItem.{VarItem}
use Rattle.es3_tree.specs.declared.Case.{Case}
use Rattle.es3_tree.specs.Tree as t
use Rattle.es3_tree.specs.Placed as p
use Rattle.es3_tree.specs.Placed.{Placed}
use Rattle.es3_tree.specs.PlacedView as view
use Rattle.valija_forms.specs.Numbered.{Numbered}

abbrev pub in_front : {A T : Type 0} → (A → T → T) → List A → T → T
in_front f [] rest = rest
in_front f (x ∷ xs) rest = f x (in_front f xs rest)

in_front-push : {A T : Type 0} (f : A → T → T) (xs : List A) (x : A) (rest : T) → in_front f (xs ++ x ∷ []) rest ≡ in_front f xs (f x rest)
in_front-push f [] x rest = refl
in_front-push f (y ∷ ys) x rest = ap (f y) (in_front-push f ys x rest)

-- how far a list is lowered: `whole` is its lowering from a number on
pub record Walked {A B T : Type 0} (whole : List A → Numbered T) (front : B → T → T) (done : List B) (n : ℕ) (left : List A) (first : ℕ) (all : List A) : Type 0 where
  pub told : (in_front front done (whole left n).0, (whole left n).1) ≡ whole all first

-- with one element more
pub one_on : {A B T : Type 0} {whole : List A → Numbered T} {front : B → T → T} {done : List B} {n first : ℕ} {all : List A} (xs : List A) (i : ℕ) (x : A) {more : List B} (y : B) (m : ℕ)
    → Walked whole front done n (drop i xs) first all → i < length xs → x ≡ get_or xs i x → more ≡ done ++ y ∷ []
    → (front y (whole (drop (i + 1) xs) m).0, (whole (drop (i + 1) xs) m).1) ≡ whole (x ∷ drop (i + 1) xs) n
    → Walked whole front more m (drop (i + 1) xs) first all
one_on {A} {B} {T} {whole} {front} {done} {n} {first} {all} xs i x {more} y m w h is pushed step =
    let rest = drop (i + 1) xs in
    record {
      told =
          ap (λ d. (in_front front d (whole rest m).0, (whole rest m).1)) pushed
          ∙ ap (λ t. (t, (whole rest m).1)) (in_front-push front done y (whole rest m).0)
          ∙ ap (λ q. (in_front front done q.0, q.1)) (step ∙ ap (λ z. whole (z ∷ rest) n) is ∙ sym (at_drop_more (λ l. whole l n) xs i x h))
          ∙ w.told;
    }

-- with one element that leaves nothing
pub passed : {A B T : Type 0} {whole : List A → Numbered T} {front : B → T → T} {done : List B} {n first : ℕ} {all : List A} (xs : List A) (i : ℕ) (x : A)
    → Walked whole front done n (drop i xs) first all → i < length xs → x ≡ get_or xs i x → whole (drop (i + 1) xs) n ≡ whole (x ∷ drop (i + 1) xs) n
    → Walked whole front done n (drop (i + 1) xs) first all
passed {A} {B} {T} {whole} {front} {done} {n} xs i x w h is same =
    record {
      told =
          ap (λ q. (in_front front done q.0, q.1)) (same ∙ ap (λ z. whole (z ∷ drop (i + 1) xs) n) is ∙ sym (at_drop_more (λ l. whole l n) xs i x h))
          ∙ w.told;
    }

-- with no element left
pub all_done : {A B T : Type 0} {whole : List A → Numbered T} {front : B → T → T} {done : List B} {n first : ℕ} {all : List A} (xs : List A) (i : ℕ) (base made : T)
    → Walked whole front done n (drop i xs) first all → length xs ≤ i → whole [] n ≡ (base, n) → made ≡ in_front front done base → (made, n) ≡ whole all first
all_done {A} {B} {T} {whole} {front} {done} {n} xs i base made w h none is =
    ap (λ t. (t, n)) is
    ∙ ap (λ q. (in_front front done q.0, q.1)) (sym none ∙ sym (at_drop_all (λ l. whole l n) xs i h))
    ∙ w.told

-- an element in front of what is left, for each kind of list
abbrev pub expression : Expr → Placed t.exprs → Placed t.exprs
expression x rest = p.more_exprs (view.expr x) rest

abbrev pub field : Name × Expr → Placed t.fields → Placed t.fields
field x rest = p.more_fields (view.word x.0) (view.expr x.1) rest

abbrev pub item : VarItem → Placed t.items → Placed t.items
item x rest = p.more_items (view.word x.name) (view.of_maybe_expr x.value) rest

abbrev pub clause : Case → Placed t.cases → Placed t.cases
clause x rest = p.more_cases (view.of_maybe_expr x.test) (view.of_stmts x.body.items) rest

abbrev pub statement : Stmt → Placed t.stmts → Placed t.stmts
statement x rest = p.more_stmts (view.stmt x) rest

pub exprs_in_front : (xs : List Expr) → view.of_exprs xs ≡ in_front expression xs p.no_exprs
exprs_in_front [] = refl
exprs_in_front (y ∷ ys) = ap (expression y) (exprs_in_front ys)

pub fields_in_front : (xs : List (Name × Expr)) → view.of_fields xs ≡ in_front field xs p.no_fields
fields_in_front [] = refl
fields_in_front (y ∷ ys) = ap (field y) (fields_in_front ys)

pub items_in_front : (xs : List VarItem) → view.of_items xs ≡ in_front item xs p.no_items
items_in_front [] = refl
items_in_front (y ∷ ys) = ap (item y) (items_in_front ys)

pub cases_in_front : (xs : List Case) → view.of_cases xs ≡ in_front clause xs p.no_cases
cases_in_front [] = refl
cases_in_front (y ∷ ys) = ap (clause y) (cases_in_front ys)

pub stmts_in_front : (xs : List Stmt) → view.of_stmts xs ≡ in_front statement xs p.no_stmts
stmts_in_front [] = refl
stmts_in_front (y ∷ ys) = ap (statement y) (stmts_in_front ys)
