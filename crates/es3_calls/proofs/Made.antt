-- The store with scopes that are opened and names that are bound.
use Rattle.std.proofs.Common.{◌≡◌, ℕ, List, [], ◌∷◌, ◌++◌, Some, length, refl, ap, ◌∙◌, Vec, Global}
use Rattle.std.specs.Prelude.{map, slice_get, slice_set}
use Rattle.es3_tree.specs.Tree as t
use Rattle.es3_objects.specs.declared.value.Value.{Value}
use Rattle.es3_objects.specs.declared.value.Value.TheVariants.{Obj}
use Rattle.es3_heap.specs.Objects.{Objects}
use Rattle.es3_language.specs.Store.{Owner, own_name, Scope, Code, Shared, Store, Names, with_name, scope_at, renamed, with_scope, with_slot, with_code}
use Rattle.es3_language.specs.Hoisting.{code_of}
use Rattle.es3_moves.specs.Texts.{plain_code, plain_codes, plain_scopes, plain_share, plain_shared, store_of}
use Rattle.es3_moves.specs.declared.texts.Closure.{Closure}
use Rattle.es3_moves.specs.declared.texts.Shared.{Shared as SharedItems}
use Rattle.es3_moves.specs.declared.texts.Texts.{Texts}
use Rattle.es3_calls.specs.Calls.{innermost, named_function}

abbrev pub stored : Objects → List Scope → List Code → ℕ → List Shared → Store
stored h a b g l = record { heap = h; scopes = a; codes = b; globals = g; shared = l }

pub stored_alike : (h h' : Objects) (a a' : List Scope) (b b' : List Code) (g g' : ℕ) (l l' : List Shared) → h' ≡ h → a' ≡ a → b' ≡ b → g' ≡ g → l' ≡ l → stored h' a' b' g' l' ≡ stored h a b g l
stored_alike h h' a a' b b' g g' l l' p q r u v =
    ap (λ y. stored y a' b' g' l') p ∙ ap (λ y. stored h y b' g' l') q ∙ ap (λ y. stored h a y g' l') r ∙ ap (λ y. stored h a b y l') u ∙ ap (λ y. stored h a b g y) v

abbrev shares_in : Vec SharedItems Global → List Shared
shares_in v = map plain_share v.items

abbrev codes_in : Vec Closure Global → List Code
codes_in v = map plain_code v.items

-- a scope that is opened
pub scope_opened : (h : Objects) (t t' : Texts) (w : Owner) (names : Names) → plain_scopes t' ≡ plain_scopes t ++ record { owner = w; names = names } ∷ [] → plain_codes t' ≡ plain_codes t → t'.globals ≡ t.globals → t'.shared ≡ t.shared → store_of h t' ≡ with_scope w names (store_of h t)
scope_opened h t t' w names scopes codes globals shared =
    stored_alike h h (plain_scopes t ++ record { owner = w; names = names } ∷ []) (plain_scopes t') (plain_codes t) (plain_codes t') t.globals t'.globals (plain_shared t) (plain_shared t') refl scopes codes globals (ap shares_in shared)

-- a name that is bound in the scope of a number
pub name_bound : (h : Objects) (t t' : Texts) (c : ℕ) (x : List ℕ) (v : Value) → plain_scopes t' ≡ slice_set (plain_scopes t) c (renamed (slice_get (plain_scopes t) c) (with_name x v (scope_at (slice_get (plain_scopes t) c)))) → t'.codes ≡ t.codes → t'.globals ≡ t.globals → t'.shared ≡ t.shared → store_of h t' ≡ with_slot c x v (store_of h t)
name_bound h t t' c x v scopes codes globals shared =
    stored_alike h h (slice_set (plain_scopes t) c (renamed (slice_get (plain_scopes t) c) (with_name x v (scope_at (slice_get (plain_scopes t) c))))) (plain_scopes t') (plain_codes t) (plain_codes t') t.globals t'.globals (plain_shared t) (plain_shared t') refl scopes (ap codes_in codes) globals (ap shares_in shared)

-- the own name of a function expression

last-got : (xs : List Scope) (y : Scope) → slice_get (xs ++ y ∷ []) (length xs) ≡ Some y
last-got [] y = refl
last-got (x ∷ xs) y = last-got xs y

last-set : (xs : List Scope) (y z : Scope) → slice_set (xs ++ y ∷ []) (length xs) z ≡ xs ++ z ∷ []
last-set [] y z = refl
last-set (x ∷ xs) y z = ap (λ l. x ∷ l) (last-set xs y z)

abbrev named : Names → Scope
named names = record { owner = own_name; names = names }

own-named : (xs : List Scope) (x : List ℕ) (v : Value) → slice_set (xs ++ named [] ∷ []) (length xs) (renamed (slice_get (xs ++ named [] ∷ []) (length xs)) (with_name x v (scope_at (slice_get (xs ++ named [] ∷ []) (length xs))))) ≡ xs ++ named ((x, v) ∷ []) ∷ []
own-named xs x v = ap (λ o. slice_set (xs ++ named [] ∷ []) (length xs) (renamed o (with_name x v (scope_at o)))) (last-got xs (named [])) ∙ last-set xs (named []) (named ((x, v) ∷ []))

-- a function that is made in the scope of its own name is bound to it afterwards
pub named_last : (f : t.Tree t.func) (x : List ℕ) (chain chain' : List ℕ) (maker c o : ℕ) (s s1 s2 s3 : Store) → s1 ≡ with_scope own_name [] s → chain' ≡ length s.scopes ∷ chain → c ≡ innermost chain' → s2 ≡ with_code (code_of f chain') maker s1 → o ≡ length s.heap.list → s3 ≡ with_slot c x (Obj o) s2 → s3 ≡ named_function f x chain maker s
named_last f x chain chain' maker c o s s1 s2 s3 opened around number made next bound =
    let made_in = λ (l : List ℕ) (y : Store). with_code (code_of f l) maker y in
    let last = with_code (code_of f (length s.scopes ∷ chain)) maker (with_scope own_name ((x, Obj (length s.heap.list)) ∷ []) s) in
    bound
    ∙ ap (λ y. with_slot c x (Obj o) y) (made ∙ ap (made_in chain') opened ∙ ap (λ l. made_in l (with_scope own_name [] s)) around)
    ∙ ap (λ n. with_slot n x (Obj o) (made_in (length s.scopes ∷ chain) (with_scope own_name [] s))) (number ∙ ap innermost around)
    ∙ ap (λ n. with_slot (length s.scopes) x (Obj n) (made_in (length s.scopes ∷ chain) (with_scope own_name [] s))) next
    ∙ ap (λ l. record last { scopes = l }) (own-named s.scopes x (Obj (length s.heap.list)))
