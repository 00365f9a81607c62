-- Lists whose elements are rewritten one by one: what is done stands in front of what is left, and the number of the first free temporary goes on.
use Rattle.std.proofs.Common.{◌≡◌, ℕ, ◌+◌, ◌<◌, ◌≤◌, List, [], ◌∷◌, ◌++◌, length, get_or, drop, refl, sym, ap, ◌∙◌, arith}
use Rattle.std.proofs.lemmas.List.{at_drop_more, at_drop_all}
use Rattle.es3_tree.specs.declared.Expr.{Expr}
use Rattle.es3_tree.specs.declared.Stmt.{Stmt}
use Rattle.es3_tree.specs.declared.VarItem.{VarItem}
use Rattle.es3_tree.specs.declared.Case.{Case}
use Rattle.es3_tree.specs.Tree as t
use Rattle.es3_tree.specs.View as view

abbrev pub in_front : {A T : Type 0} → (A → T → T) → List A → T → T
in_front f [] rest = rest
in_front f (x ∷ xs) rest = f x (in_front f xs rest)

pub in_front-push : {A T : Type 0} (f : A → T → T) (xs : List A) (x : A) (rest : T) → in_front f (xs ++ x ∷ []) rest ≡ in_front f xs (f x rest)
in_front-push f [] x rest = refl
in_front-push f (y ∷ ys) x rest = ap (f y) (in_front-push f ys x rest)

-- how far a list is rewritten: `whole` is its rewriting from a number on, `count` how many temporaries it needs
pub record Walked {A B T : Type 0} (whole : ℕ → List A → T) (count : List A → ℕ) (front : B → T → T) (done : List B) (n : ℕ) (left : List A) (first : ℕ) (all : List A) : Type 0 where
  pub form : in_front front done (whole n left) ≡ whole first all
  pub counted : n + count left ≡ first + count all

-- with one element more, which gives one element or two
pub one_on : {A B T : Type 0} {whole : ℕ → List A → T} {count : List A → ℕ} {front : B → T → T} {done : List B} {n first : ℕ} {all : List A} (xs : List A) (i : ℕ) (x : A) {more : List B} {y : B} {n' : ℕ}
    → Walked whole count front done n (drop i xs) first all → i < length xs → x ≡ get_or xs i x → more ≡ done ++ y ∷ []
    → front y (whole n' (drop (i + 1) xs)) ≡ whole n (x ∷ drop (i + 1) xs) → n' + count (drop (i + 1) xs) ≡ n + count (x ∷ drop (i + 1) xs)
    → Walked whole count front more n' (drop (i + 1) xs) first all
one_on {A} {B} {T} {whole} {count} {front} {done} {n} {first} {all} xs i x {more} {y} {n'} w h is pushed form counted =
    record {
      form =
          ap (λ m. in_front front m (whole n' (drop (i + 1) xs))) pushed
          ∙ in_front-push front done y (whole n' (drop (i + 1) xs))
          ∙ ap (in_front front done) (form ∙ ap (λ z. whole n (z ∷ drop (i + 1) xs)) is ∙ sym (at_drop_more (whole n) xs i x h))
          ∙ w.form;
      counted = counted ∙ ap (λ z. n + count (z ∷ drop (i + 1) xs)) is ∙ sym (at_drop_more (λ l. n + count l) xs i x h) ∙ w.counted;
    }

pub two_on : {A B T : Type 0} {whole : ℕ → List A → T} {count : List A → ℕ} {front : B → T → T} {done : List B} {n first : ℕ} {all : List A} (xs : List A) (i : ℕ) (x : A) {some more : List B} {y z : B} {n' : ℕ}
    → Walked whole count front done n (drop i xs) first all → i < length xs → x ≡ get_or xs i x → some ≡ done ++ y ∷ [] → more ≡ some ++ z ∷ []
    → front y (front z (whole n' (drop (i + 1) xs))) ≡ whole n (x ∷ drop (i + 1) xs) → n' + count (drop (i + 1) xs) ≡ n + count (x ∷ drop (i + 1) xs)
    → Walked whole count front more n' (drop (i + 1) xs) first all
two_on {A} {B} {T} {whole} {count} {front} {done} {n} {first} {all} xs i x {some} {more} {y} {z} {n'} w h is pushed last form counted =
    let rest = whole n' (drop (i + 1) xs) in
    record {
      form =
          ap (λ m. in_front front m rest) last
          ∙ in_front-push front some z rest
          ∙ ap (λ m. in_front front m (front z rest)) pushed
          ∙ in_front-push front done y (front z rest)
          ∙ ap (in_front front done) (form ∙ ap (λ z. whole n (z ∷ drop (i + 1) xs)) is ∙ sym (at_drop_more (whole n) xs i x h))
          ∙ w.form;
      counted = counted ∙ ap (λ z. n + count (z ∷ drop (i + 1) xs)) is ∙ sym (at_drop_more (λ l. n + count l) xs i x h) ∙ w.counted;
    }

-- with no element left
pub all_done : {A B T : Type 0} {whole : ℕ → List A → T} {count : List A → ℕ} {front : B → T → T} {done : List B} {n first : ℕ} {all : List A} (xs : List A) (i : ℕ) {made : T}
    → Walked whole count front done n (drop i xs) first all → length xs ≤ i → made ≡ in_front front done (whole n []) → made ≡ whole first all
all_done {A} {B} {T} {whole} {count} {front} {done} {n} xs i w h made = made ∙ sym (at_drop_all (λ l. in_front front done (whole n l)) xs i h) ∙ w.form

pub all_counted : {A B T : Type 0} {whole : ℕ → List A → T} {count : List A → ℕ} {front : B → T → T} {done : List B} {n first : ℕ} {all : List A} (xs : List A) (i : ℕ)
    → Walked whole count front done n (drop i xs) first all → length xs ≤ i → count [] ≡ 0 → n ≡ first + count all
all_counted {A} {B} {T} {whole} {count} {front} {done} {n} xs i w h none =
    let here : n ≡ n + count [] = omega arith in
    here ∙ sym (at_drop_all (λ l. n + count l) xs i h) ∙ w.counted

-- an element in front of what is left, for each kind of list
abbrev pub expression : Expr → t.Tree t.exprs → t.Tree t.exprs
expression x rest = t.more_exprs (view.expr x) rest

abbrev pub item : VarItem → t.Tree t.items → t.Tree t.items
item x rest = t.more_items x.name.text (view.of_maybe_expr x.value) rest

abbrev pub clause : Case → t.Tree t.cases → t.Tree t.cases
clause x rest = t.more_cases (view.of_maybe_expr x.test) (view.of_stmts x.body.items) rest

abbrev pub statement : Stmt → t.Tree t.stmts → t.Tree t.stmts
statement x rest = t.more_stmts (view.stmt x) rest

pub exprs_in_front : (xs : List Expr) → view.of_exprs xs ≡ in_front expression xs t.no_exprs
exprs_in_front [] = refl
exprs_in_front (y ∷ ys) = ap (expression y) (exprs_in_front ys)

pub items_in_front : (xs : List VarItem) → view.of_items xs ≡ in_front item xs t.no_items
items_in_front [] = refl
items_in_front (y ∷ ys) = ap (item y) (items_in_front ys)

pub cases_in_front : (xs : List Case) → view.of_cases xs ≡ in_front clause xs t.no_cases
cases_in_front [] = refl
cases_in_front (y ∷ ys) = ap (clause y) (cases_in_front ys)

pub stmts_in_front : (xs : List Stmt) → view.of_stmts xs ≡ in_front statement xs t.no_stmts
stmts_in_front [] = refl
stmts_in_front (y ∷ ys) = ap (statement y) (stmts_in_front ys)
