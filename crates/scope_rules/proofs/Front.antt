-- A list whose elements are resolved one by one: what is done stands in front of what is left.
use Rattle.std.proofs.Common.{◌≡◌, ℕ, ◌+◌, ◌<◌, ◌≤◌, List, [], ◌∷◌, ◌++◌, length, get_or, drop, Option, Some, None, option_map, refl, sym, ap, ◌∙◌}
use Rattle.std.proofs.lemmas.List.{at_drop_more, at_drop_all}
use Rattle.cajita_tree.specs.declared.CExpr.{CExpr}
use Rattle.cajita_tree.specs.declared.CVarItem.{CVarItem}
use Rattle.cajita_tree.specs.declared.CCase.{CCase}
use Rattle.cajita_tree.specs.declared.CStmt.{CStmt}
use Rattle.cajita_tree.specs.declared.CFunc.{CFunc}
use Rattle.cajita_tree.specs.Tree as c
use Rattle.cajita_tree.specs.View as view
use Rattle.cajita_forms.specs.Options.{both, three}

abbrev pub in_front : {A T : Type 0} → (A → T → T) → List A → T → T
in_front f [] rest = rest
in_front f (x ∷ xs) rest = f x (in_front f xs rest)

in_front-push : {A T : Type 0} (f : A → T → T) (xs : List A) (x : A) (rest : T) → in_front f (xs ++ x ∷ []) rest ≡ in_front f xs (f x rest)
in_front-push f [] x rest = refl
in_front-push f (y ∷ ys) x rest = ap (f y) (in_front-push f ys x rest)

joined : {A B T : Type 0} (f : A → T → T) (g : B → T → T) (done : List A) (x : A) (b : B) (o : Option T) → g b ≡ f x → option_map (in_front f (done ++ x ∷ [])) o ≡ option_map (in_front f done) (both g (Some b) o)
joined f g done x b None e = refl
joined f g done x b (Some r) e = ap Some (in_front-push f done x r ∙ ap (λ h. in_front f done (h r)) (sym e))

-- with one element more, which is resolved
pub turn : {A B D T : Type 0} (all : List A → Option T) (f : D → T → T) (g : B → T → T) (xs : List A) (i : ℕ) (x : A) (done more : List D) (y : D) (b : B) (o : Option B)
    → i < length xs → x ≡ get_or xs i x → all (x ∷ drop (i + 1) xs) ≡ both g o (all (drop (i + 1) xs)) → g b ≡ f y → Some b ≡ o → more ≡ done ++ y ∷ []
    → option_map (in_front f more) (all (drop (i + 1) xs)) ≡ option_map (in_front f done) (all (drop i xs))
turn all f g xs i x done more y b o h is parts made value items =
    ap (λ m. option_map (in_front f m) (all (drop (i + 1) xs))) items
    ∙ joined f g done y b (all (drop (i + 1) xs)) made
    ∙ ap (λ a. option_map (in_front f done) (both g a (all (drop (i + 1) xs)))) value
    ∙ ap (option_map (in_front f done)) (sym (at_drop_more all xs i x h ∙ ap (λ z. all (z ∷ drop (i + 1) xs)) (sym is) ∙ parts))

-- with one element more, which is left out
pub passed : {A T : Type 0} (all : List A → Option T) (to : Option T → Option T) (xs : List A) (i : ℕ) (x : A)
    → i < length xs → x ≡ get_or xs i x → all (x ∷ drop (i + 1) xs) ≡ all (drop (i + 1) xs) → to (all (drop (i + 1) xs)) ≡ to (all (drop i xs))
passed all to xs i x h is parts = ap to (sym (at_drop_more all xs i x h ∙ ap (λ z. all (z ∷ drop (i + 1) xs)) (sym is) ∙ parts))

-- with no element left
pub ended : {A D T : Type 0} (all : List A → Option T) (f : D → T → T) (of : List D → T) (base : T) (xs : List A) (i : ℕ) (done : List D)
    → length xs ≤ i → all [] ≡ Some base → in_front f done base ≡ of done → Some (of done) ≡ option_map (in_front f done) (all (drop i xs))
ended all f of base xs i done h none e =
    ap Some (sym e) ∙ ap (option_map (in_front f done)) (sym (at_drop_all all xs i h ∙ none))

-- with an element that has no resolved form
pub missing : {A B D T : Type 0} (all : List A → Option T) (f : D → T → T) (g : B → T → T) (xs : List A) (i : ℕ) (x : A) (done : List D) (o : Option B)
    → i < length xs → x ≡ get_or xs i x → all (x ∷ drop (i + 1) xs) ≡ both g o (all (drop (i + 1) xs)) → None ≡ o → None ≡ option_map (in_front f done) (all (drop i xs))
missing all f g xs i x done o h is parts value =
    ap (λ a. option_map (in_front f done) (both g a (all (drop (i + 1) xs)))) value
    ∙ ap (option_map (in_front f done)) (sym (at_drop_more all xs i x h ∙ ap (λ z. all (z ∷ drop (i + 1) xs)) (sym is) ∙ parts))

both_left : {A B D E : Type 0} (f : A → B → D → E) (a : A) (two : Option B) (last : Option D) → three f (Some a) two last ≡ both (f a) two last
both_left f a None last = refl
both_left f a (Some b) None = refl
both_left f a (Some b) (Some d) = refl

-- of three parts the first one is there
pub two_left : {A B D E : Type 0} (f : A → B → D → E) (a : A) {one : Option A} (two : Option B) (last : Option D) → Some a ≡ one → three f one two last ≡ both (f a) two last
two_left f a two last h = ap (λ o. three f o two last) (sym h) ∙ both_left f a two last

-- an element in front of what is left, for each kind of list
abbrev pub expression : CExpr → c.Tree c.exprs → c.Tree c.exprs
expression x rest = c.more_exprs (view.expr x) rest

abbrev pub field : List ℕ × CExpr → c.Tree c.fields → c.Tree c.fields
field x rest = c.more_fields x.0 (view.expr x.1) rest

abbrev pub item : CVarItem → c.Tree c.items → c.Tree c.items
item x rest = c.more_items x.name (view.of_maybe_expr x.value) rest

abbrev pub clause : CCase → c.Tree c.cases → c.Tree c.cases
clause x rest = c.more_cases (view.of_maybe_expr x.test) (view.of_stmts x.body.items) rest

abbrev pub statement : CStmt → c.Tree c.stmts → c.Tree c.stmts
statement x rest = c.more_stmts (view.stmt x) rest

abbrev pub function : CFunc → c.Tree c.funcs → c.Tree c.funcs
function x rest = c.more_funcs (view.func x) rest

pub exprs_in_front : (xs : List CExpr) → in_front expression xs c.no_exprs ≡ view.of_exprs xs
exprs_in_front [] = refl
exprs_in_front (y ∷ ys) = ap (expression y) (exprs_in_front ys)

pub fields_in_front : (xs : List (List ℕ × CExpr)) → in_front field xs c.no_fields ≡ view.of_fields xs
fields_in_front [] = refl
fields_in_front (y ∷ ys) = ap (field y) (fields_in_front ys)

pub items_in_front : (xs : List CVarItem) → in_front item xs c.no_items ≡ view.of_items xs
items_in_front [] = refl
items_in_front (y ∷ ys) = ap (item y) (items_in_front ys)

pub cases_in_front : (xs : List CCase) → in_front clause xs c.no_cases ≡ view.of_cases xs
cases_in_front [] = refl
cases_in_front (y ∷ ys) = ap (clause y) (cases_in_front ys)

pub stmts_in_front : (xs : List CStmt) → in_front statement xs c.no_stmts ≡ view.of_stmts xs
stmts_in_front [] = refl
stmts_in_front (y ∷ ys) = ap (statement y) (stmts_in_front ys)

pub funcs_in_front : (xs : List CFunc) → in_front function xs c.no_funcs ≡ view.of_funcs xs
funcs_in_front [] = refl
funcs_in_front (y ∷ ys) = ap (function y) (funcs_in_front ys)
