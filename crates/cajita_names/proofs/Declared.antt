-- What a list declares, one part after the other, what a `switch` and a `try` declare, and the names of a module.
use Rattle.std.proofs.Common.{◌≡◌, ℕ, ◌+◌, ◌<◌, List, ◌∷◌, ◌++◌, ◌||◌, Option, Some, None, length, get_or, drop, sym, ap, ◌∙◌, append_assoc, append-nil}
use Rattle.std.proofs.lemmas.List.{at_drop_more}
use Rattle.std.proofs.lemmas.List.Folds.{list_any-append}
use Rattle.caja_units.specs.Units.{same_units}
use Rattle.std.specs.Global.{Vec}
use Rattle.es3_tree.specs.declared.Name.{Name}
use Rattle.es3_tree.specs.declared.Expr.{Expr}
use Rattle.es3_tree.specs.declared.Case.{Case}
use Rattle.es3_tree.specs.declared.Stmt.{Stmt}
use Rattle.es3_tree.specs.declared.Stmt.TheVariants as s
use Rattle.es3_tree.specs.Tree as t
use Rattle.es3_tree.specs.PlacedView as source
use Rattle.es3_tree.proofs.PlacedRows.{placed_switch, placed_try}
use Rattle.cajita_names.specs.Rules.{is_among}
use Rattle.cajita_names.specs.Declarations.{Declaration, declarations}

-- a list gone over up to i, with the element there
pub turn : {A : Type 0} (all : List A → List Declaration) (ds : List Declaration) (xs : List A) (i : ℕ) (x : A) (out more : List Declaration) → i < length xs → x ≡ get_or xs i x
    → all (x ∷ drop (i + 1) xs) ≡ ds ++ all (drop (i + 1) xs) → more ≡ out ++ ds
    → more ++ all (drop (i + 1) xs) ≡ out ++ all (drop i xs)
turn all ds xs i x out more h is parts now =
    ap (λ m. m ++ all (drop (i + 1) xs)) now
    ∙ append_assoc out ds (all (drop (i + 1) xs))
    ∙ ap (λ l. out ++ l) (sym parts ∙ ap (λ z. all (z ∷ drop (i + 1) xs)) is ∙ sym (at_drop_more all xs i x h))

pub declared_switch : {x : Stmt} (y : Expr) (z : Vec Case) → x ≡ s.Switch y z → declarations t.stmt (source.stmt x) ≡ declarations t.cases (source.of_cases z.items)
unfolding declarations
declared_switch y z h = ap (λ x. declarations t.stmt (source.stmt x)) h ∙ ap (declarations t.stmt) (placed_switch y z)

-- the block of a `catch`, a last block
pub caught : (out more : List Declaration) (list : List Stmt) {h : Option (Name × Vec Stmt)} (n : Name) (body : Vec Stmt) → h ≡ Some (n, body) → list ≡ body.items
    → more ≡ out ++ declarations t.stmts (source.of_stmts list) → more ≡ out ++ declarations t.handler (source.of_handler h)
unfolding declarations
caught out more list n body h e g =
    g ∙ ap (λ l. out ++ declarations t.stmts (source.of_stmts l)) e ∙ ap (λ o. out ++ declarations t.handler (source.of_handler o)) (sym h)

pub not_caught : (out more : List Declaration) {h : Option (Name × Vec Stmt)} → h ≡ None → more ≡ out → more ≡ out ++ declarations t.handler (source.of_handler h)
unfolding declarations
not_caught out more h g = g ∙ sym (append-nil out) ∙ ap (λ o. out ++ declarations t.handler (source.of_handler o)) (sym h)

pub at_last : (out more : List Declaration) (list : List Stmt) {m : Option (Vec Stmt)} (body : Vec Stmt) → m ≡ Some body → list ≡ body.items
    → more ≡ out ++ declarations t.stmts (source.of_stmts list) → more ≡ out ++ declarations t.maybe_block (source.of_maybe_block m)
unfolding declarations
at_last out more list body h e g =
    g ∙ ap (λ l. out ++ declarations t.stmts (source.of_stmts l)) e ∙ ap (λ o. out ++ declarations t.maybe_block (source.of_maybe_block o)) (sym h)

pub no_last : (out : List Declaration) {m : Option (Vec Stmt)} → m ≡ None → out ≡ out ++ declarations t.maybe_block (source.of_maybe_block m)
unfolding declarations
no_last out h = sym (append-nil out) ∙ ap (λ o. out ++ declarations t.maybe_block (source.of_maybe_block o)) (sym h)

-- the parts of a `try`, each behind the ones before
pub declared_try : {x : Stmt} (body : Vec Stmt) (handler : Option (Name × Vec Stmt)) (last : Option (Vec Stmt)) (list : List Stmt) (out one two three : List Declaration) → x ≡ s.Try body handler last
    → list ≡ body.items → one ≡ out ++ declarations t.stmts (source.of_stmts list)
    → two ≡ one ++ declarations t.handler (source.of_handler handler)
    → three ≡ two ++ declarations t.maybe_block (source.of_maybe_block last)
    → three ≡ out ++ declarations t.stmt (source.stmt x)
unfolding declarations
declared_try body handler last list out one two three h is e f g =
    let bs = declarations t.stmts (source.of_stmts body.items) in
    let hs = declarations t.handler (source.of_handler handler) in
    let ls = declarations t.maybe_block (source.of_maybe_block last) in
    let begun : one ≡ out ++ bs = e ∙ ap (λ l. out ++ declarations t.stmts (source.of_stmts l)) is in
    g ∙ ap (λ l. l ++ ls) (f ∙ ap (λ l. l ++ hs) begun ∙ append_assoc out bs hs) ∙ append_assoc out (bs ++ hs) ls
    ∙ ap (λ l. out ++ l) (sym (ap (λ x. declarations t.stmt (source.stmt x)) h ∙ ap (declarations t.stmt) (placed_try body handler last)))

-- the names that a module may import are of two lists
pub is_among_append : (xs ys : List (List ℕ)) (x : List ℕ) → is_among (xs ++ ys) x ≡ (is_among xs x || is_among ys x)
is_among_append xs ys x = list_any-append (same_units x) xs ys
