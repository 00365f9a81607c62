-- The store with the arguments object of an activation.
use Rattle.std.proofs.Common.{◌≡◌, ℕ, ◌<◌, ◌+◌, Bool, true, false, cond, Some, None, List, [], ◌∷◌, ◌++◌, length, get_or, refl, sym, ap, ◌∙◌, Vec, Global}
use Rattle.std.specs.Prelude.{map, option_map, slice_get, slice_set}
use Rattle.std.proofs.lemmas.Option.{slice_get_read, slice_get-map}
use Rattle.caja_units.specs.Index.{number_units}
use Rattle.es3_objects.specs.declared.value.Value.{Value}
use Rattle.es3_objects.specs.declared.value.Value.TheVariants.{Obj}
use Rattle.es3_heap.specs.Objects.{Objects}
use Rattle.es3_language.specs.Store as s
use Rattle.es3_language.specs.Store.{activation, with_name, scope_at, renamed}
use Rattle.es3_language.specs.Arguments.{arguments_name, comes_again, with_arguments_object, shared_items, made_for, made_at}
use Rattle.es3_moves.specs.declared.texts.Closure.{Closure}
use Rattle.es3_moves.specs.declared.texts.Owner.{Owner}
use Rattle.es3_moves.specs.declared.texts.Scope.{Scope}
use Rattle.es3_moves.specs.declared.texts.Shared.{Shared}
use Rattle.es3_moves.specs.declared.texts.Texts.{Texts}
use Rattle.es3_moves.specs.Texts.{plain_owner, plain_scope, plain_scopes, plain_code, plain_codes, plain_share, plain_shared, store_of}
use Rattle.es3_references.specs.Shares.{own_parameter, item_of, shared_front}

-- the functions and the arguments objects of the texts
abbrev pub codes_in : Vec Closure Global → List s.Code
codes_in v = map plain_code v.items

abbrev pub shares_in : Vec Shared Global → List s.Shared
shares_in v = map plain_share v.items

-- what is made depends on the owner of the scope
pub made_here : (h : Objects) (t : Texts) (c : ℕ) (x : Scope) (w : Owner) → c < length t.scopes.items → x ≡ get_or t.scopes.items c x → x.owner ≡ w → made_at (slice_get (plain_scopes t) c) c (store_of h t) ≡ made_for (plain_owner w) c x.names (store_of h t)
made_here h t c x w lt is own =
    ap (λ o. made_at o c (store_of h t)) (slice_get-map plain_scope t.scopes.items c ∙ ap (option_map plain_scope) (slice_get_read t.scopes.items (length t.scopes.items) c x refl lt is))
    ∙ ap (λ u. made_for (plain_owner u) c x.names (store_of h t)) own

item-own : (again : Bool) (i : ℕ) (x : List ℕ) (rest : List (List ℕ × List ℕ)) → item_of i (cond again None (Some x)) ++ rest ≡ cond again rest ((number_units i, x) ∷ rest)
item-own true i x rest = refl
item-own false i x rest = refl

front-shared : (i : ℕ) (xs : List (List ℕ)) (vs : List Value) → shared_front i xs (length vs) ≡ shared_items i xs vs
front-shared i [] vs = refl
front-shared i (x ∷ xs) [] = refl
front-shared i (x ∷ xs) (v ∷ vs) = ap (λ l. item_of i (own_parameter (x ∷ xs)) ++ l) (front-shared (i + 1) xs vs) ∙ item-own (comes_again x xs) i x (shared_items (i + 1) xs vs)

abbrev stored : Objects → List s.Scope → List s.Code → ℕ → List s.Shared → s.Store
stored h a b g l = record { heap = h; scopes = a; codes = b; globals = g; shared = l }

stored-alike : (h h' : Objects) (a a' : List s.Scope) (b b' : List s.Code) (g g' : ℕ) (l l' : List s.Shared) → h ≡ h' → a ≡ a' → b ≡ b' → g ≡ g' → l ≡ l' → stored h a b g l ≡ stored h' a' b' g' l'
stored-alike h h' a a' b b' g g' l l' p q r u v =
    ap (λ y. stored y a b g l) p ∙ ap (λ y. stored h' y b g l) q ∙ ap (λ y. stored h' a' y g l) r ∙ ap (λ y. stored h' a' b' y l) u ∙ ap (λ y. stored h' a' b' g' y) v

-- the names of a scope, with one more
abbrev pub bound_name : List s.Scope → ℕ → List ℕ → ℕ → List s.Scope
bound_name a c x o = slice_set a c (renamed (slice_get a c) (with_name x (Obj o) (scope_at (slice_get a c))))

abbrev share : ℕ → ℕ → List (List ℕ × List ℕ) → s.Shared
share o c items = record { object = o; scope = c; items = items }

pub made_bound : (h h' : Objects) (t t' : Texts) (c o : ℕ) (f : Value) (xs : List (List ℕ)) (vs : List Value) (names : s.Names) (name : List ℕ) (items : List (List ℕ × List ℕ)) → made_at (slice_get (plain_scopes t) c) c (store_of h t) ≡ made_for (activation f xs vs) c names (store_of h t) → name ≡ arguments_name → o ≡ length h.list → h' ≡ with_arguments_object f xs vs names h → items ≡ shared_front 0 xs (length vs) → plain_scopes t' ≡ bound_name (plain_scopes t) c name o → t'.codes ≡ t.codes → t'.globals ≡ t.globals → plain_shared t' ≡ plain_shared t ++ record { object = o; scope = c; items = items } ∷ [] → store_of h' t' ≡ made_at (slice_get (plain_scopes t) c) c (store_of h t)
made_bound h h' t t' c o f xs vs names name items here called next made fronts bound codes globals shares =
    let a = plain_scopes t in
    let p = length h.list in
    let scopes = bound ∙ ap (λ x. bound_name a c x o) called ∙ ap (λ q. bound_name a c arguments_name q) next in
    let shared = shares ∙ ap (λ q. plain_shared t ++ share q c items ∷ []) next ∙ ap (λ l. plain_shared t ++ share p c l ∷ []) (fronts ∙ front-shared 0 xs vs) in
    stored-alike h' (with_arguments_object f xs vs names h) (plain_scopes t') (bound_name a c arguments_name p) (plain_codes t') (plain_codes t) t'.globals t.globals (plain_shared t') (plain_shared t ++ share p c (shared_items 0 xs vs) ∷ []) made scopes (ap codes_in codes) globals shared
    ∙ sym here
