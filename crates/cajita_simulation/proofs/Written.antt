-- A scope on both sides after a variable of it was written.
use Rattle.std.proofs.Common.{◌≡◌, ◌≢◌, ℕ, zero, suc, true, false, List, [], ◌∷◌, Option, Some, None, cond, refl, sym, ap, ◌∙◌, subst, arith}
use Rattle.std.specs.Prelude.{slice_get, slice_set, is_some, nat_eq}
use Rattle.std.specs.Cmp.Lexicographic.{same_text}
use Rattle.std.proofs.lemmas.Bool.Decides.{nat_tests}
use Rattle.caja_units.specs.Units.{same_units}
use Rattle.es3_objects.proofs.Keys.{same_key-refl}
use Rattle.es3_language.specs.Store as store
use Rattle.es3_language.specs.Store.{Store, name_value, with_name, with_heap, with_slot}
use Rattle.es3_language.specs.Arguments.{is_fixed, put_shared, write_slot}
use Rattle.cajita_meaning.specs.World.{Value, Pairs, value_at, with_value, scope_at}
use Rattle.cajita_simulation.proofs.Heaps.Lists.{slice_get-set, slice_get-set-other}
use Rattle.cajita_simulation.proofs.Heaps.Names.{name_value-with_name, name_value-with_name-other}
use Rattle.cajita_simulation.proofs.Relation.{EsValue, names_at, IsScope, AreScopes}

-- the same laws of the direct meaning's pairs

pub value_at-with_value : (x : List ℕ) (v : Value) (ps : Pairs) → value_at x (with_value x v ps) ≡ Some v
value_at-with_value x v [] = rw (same_key-refl x) refl
value_at-with_value x v ((y, w) ∷ rest) =
    let cases = elim (same_units x y) as (λ b. same_units x y ≡ b → value_at x (cond b ((y, v) ∷ rest) ((y, w) ∷ with_value x v rest)) ≡ Some v) [
      | true ↦ λ is. rw is refl
      | false ↦ λ is. rw is (value_at-with_value x v rest)
    ] in cases refl

pub value_at-with_value-other : (x y : List ℕ) (v : Value) (ps : Pairs) → same_units y x ≡ false → value_at y (with_value x v ps) ≡ value_at y ps
value_at-with_value-other x y v [] ne = rw ne refl
value_at-with_value-other x y v ((z, w) ∷ rest) ne =
    let cases = elim (same_units x z) as (λ b. same_units x z ≡ b → value_at y (cond b ((z, v) ∷ rest) ((z, w) ∷ with_value x v rest)) ≡ value_at y ((z, w) ∷ rest)) [
      | true ↦ λ is. let other : same_units y z ≡ false = ap (same_units y) (sym (same_text x z (sym is))) ∙ ne in rw other refl
      | false ↦ λ is. ap (λ found. cond (same_units y z) (Some w) found) (value_at-with_value-other x y v rest ne)
    ] in cases refl

-- the scopes after an assignment, at each place

pub same_place : (a b : ℕ) → nat_eq a b ≡ true → a ≡ b
same_place a b h = grind (arith, nat_tests)

pub other_place : (a b : ℕ) → nat_eq a b ≡ false → a ≢ b
other_place a b h = λ e. grind (arith, nat_tests)

slot_there : (names : Option store.Scope) (x : List ℕ) (e : EsValue) → name_value x (store.scope_at names) ≡ Some e → (scope : store.Scope) × (names ≡ Some scope)
slot_there None x e h = cc
slot_there (Some scope) x e h = (scope, refl)

scope_there : (names : Option Pairs) (x : List ℕ) (v : Value) → value_at x (scope_at names) ≡ Some v → (scope : Pairs) × (names ≡ Some scope)
scope_there None x v h = cc
scope_there (Some scope) x v h = (scope, refl)

renamed_names : (scope : Option store.Scope) (names : store.Names) → (store.renamed scope names).names ≡ names
renamed_names None names = refl
renamed_names (Some scope) names = refl

-- the names of a scope, after a name of it was written
pub names_at-written : (s : Store) (c : ℕ) (x : List ℕ) (e v : EsValue) → name_value x (names_at s c) ≡ Some e → names_at (with_slot c x v s) c ≡ with_name x v (names_at s c)
names_at-written s c x e v here =
    let there = slot_there (slice_get s.scopes c) x e here in
    ap store.scope_at (slice_get-set s.scopes c there.0 (store.renamed (slice_get s.scopes c) (with_name x v (names_at s c))) there.1) ∙ renamed_names (slice_get s.scopes c) (with_name x v (names_at s c))

pub names_at-other : (s : Store) (c n : ℕ) (x : List ℕ) (v : EsValue) → n ≢ c → names_at (with_slot c x v s) n ≡ names_at s n
names_at-other s c n x v ne = ap store.scope_at (slice_get-set-other s.scopes c n (store.renamed (slice_get s.scopes c) (with_name x v (names_at s c))) ne)

pub scope_at-written : (scopes : List Pairs) (c : ℕ) (x : List ℕ) (e v : Value) → value_at x (scope_at (slice_get scopes c)) ≡ Some e → scope_at (slice_get (slice_set scopes c (with_value x v (scope_at (slice_get scopes c)))) c) ≡ with_value x v (scope_at (slice_get scopes c))
scope_at-written scopes c x e v here =
    let there = scope_there (slice_get scopes c) x e here in
    ap scope_at (slice_get-set scopes c there.0 (with_value x v (scope_at (slice_get scopes c))) there.1)

pub scope_at-other : (scopes : List Pairs) (c n : ℕ) (names : Pairs) → n ≢ c → scope_at (slice_get (slice_set scopes c names) n) ≡ scope_at (slice_get scopes n)
scope_at-other scopes c n names ne = ap scope_at (slice_get-set-other scopes c n names ne)

-- another name is what it was, in each scope
pub slot_kept : (s : Store) (c n : ℕ) (x y : List ℕ) (e v : EsValue) → name_value x (names_at s c) ≡ Some e → same_units y x ≡ false → name_value y (names_at (with_slot c x v s) n) ≡ name_value y (names_at s n)
slot_kept s c n x y e v here ne =
    let cases = elim (nat_eq n c) as (λ b. nat_eq n c ≡ b → name_value y (names_at (with_slot c x v s) n) ≡ name_value y (names_at s n)) [
      | true ↦ λ is. subst (λ k. name_value y (names_at (with_slot c x v s) k) ≡ name_value y (names_at s k)) (sym (same_place n c is)) (ap (name_value y) (names_at-written s c x e v here) ∙ name_value-with_name-other x y v (names_at s c) ne)
      | false ↦ λ is. ap (name_value y) (names_at-other s c n x v (other_place n c is))
    ] in cases refl

pub variable_kept : (scopes : List Pairs) (c n : ℕ) (x y : List ℕ) (e v : Value) → value_at x (scope_at (slice_get scopes c)) ≡ Some e → same_units y x ≡ false → value_at y (scope_at (slice_get (slice_set scopes c (with_value x v (scope_at (slice_get scopes c)))) n)) ≡ value_at y (scope_at (slice_get scopes n))
variable_kept scopes c n x y e v here ne =
    let after = slice_set scopes c (with_value x v (scope_at (slice_get scopes c))) in
    let cases = elim (nat_eq n c) as (λ b. nat_eq n c ≡ b → value_at y (scope_at (slice_get after n)) ≡ value_at y (scope_at (slice_get scopes n))) [
      | true ↦ λ is. subst (λ k. value_at y (scope_at (slice_get after k)) ≡ value_at y (scope_at (slice_get scopes k))) (sym (same_place n c is)) (ap (value_at y) (scope_at-written scopes c x e v here) ∙ value_at-with_value-other x y v (scope_at (slice_get scopes c)) ne)
      | false ↦ λ is. ap (value_at y) (scope_at-other scopes c n _ (other_place n c is))
    ] in cases refl

-- what scopes belong to, after a name was written

written_at : {X : Type 0} (xs : List X) (c n : ℕ) (y : X) (P : Option X → Type 0) → (n ≡ c → P (Some y)) → P (slice_get xs n) → P (slice_get (slice_set xs c y) n)
written_at [] c n y P new old = old
written_at (z ∷ zs) zero zero y P new old = new refl
written_at (z ∷ zs) zero (suc n) y P new old = old
written_at (z ∷ zs) (suc c) zero y P new old = old
written_at (z ∷ zs) (suc c) (suc n) y P new old = written_at zs c n y P (λ e. new (ap suc e)) old

renamed_is : (scope : Option store.Scope) (names : store.Names) → IsScope scope → IsScope (Some (store.renamed scope names))
renamed_is None names is = tt
renamed_is (Some scope) names is = is

renamed_fixed : (scope : Option store.Scope) (names : store.Names) → is_fixed (Some (store.renamed scope names)) ≡ is_fixed scope
renamed_fixed None names = refl
renamed_fixed (Some scope) names = refl

pub are_written : (s : Store) (c : ℕ) (x : List ℕ) (v : EsValue) → AreScopes s → AreScopes (with_slot c x v s)
are_written s c x v are n =
    let names = with_name x v (names_at s c) in
    written_at s.scopes c n (store.renamed (slice_get s.scopes c) names) IsScope (λ e. renamed_is (slice_get s.scopes c) names (are c)) (are n)

pub fixed_written : (s : Store) (c n : ℕ) (x : List ℕ) (v : EsValue) → is_fixed (slice_get (with_slot c x v s).scopes n) ≡ is_fixed (slice_get s.scopes n)
fixed_written s c n x v =
    let names = with_name x v (names_at s c) in
    written_at s.scopes c n (store.renamed (slice_get s.scopes c) names) (λ scope. is_fixed scope ≡ is_fixed (slice_get s.scopes n)) (λ e. renamed_fixed (slice_get s.scopes c) names ∙ ap (λ k. is_fixed (slice_get s.scopes k)) (sym e)) refl

-- 8.7.2, 10.1.8: a name of a scope is written there, and the items of arguments objects that have its value
abbrev pub shared_store : Store → ℕ → List ℕ → EsValue → Store
shared_store s c x v = with_heap s (put_shared s.shared c x v s.heap)

pub slot_written : (s : Store) (c : ℕ) (x : List ℕ) (v : EsValue) → is_fixed (slice_get s.scopes c) ≡ false → write_slot c x v s ≡ with_slot c x v (shared_store s c x v)
slot_written s c x v free = ap (λ b. cond b s (with_slot c x v (with_heap s (put_shared s.shared c x v s.heap)))) free

-- each scope has the names that it had, after a name that it has was written
pub written_same : (s : Store) (c n : ℕ) (x y : List ℕ) (e v : EsValue) → name_value x (names_at s c) ≡ Some e → is_some (name_value y (names_at (with_slot c x v s) n)) ≡ is_some (name_value y (names_at s n))
written_same s c n x y e v here =
    let cases = elim (same_units y x) as (λ b. same_units y x ≡ b → is_some (name_value y (names_at (with_slot c x v s) n)) ≡ is_some (name_value y (names_at s n))) [
      | true ↦ λ alike. elim (nat_eq n c) as (λ b. nat_eq n c ≡ b → is_some (name_value y (names_at (with_slot c x v s) n)) ≡ is_some (name_value y (names_at s n))) [
        | true ↦ λ at. rw (same_place n c at, same_text y x (sym alike), names_at-written s c x e v here, name_value-with_name x v (names_at s c), here) refl
        | false ↦ λ at. ap (λ names. is_some (name_value y names)) (names_at-other s c n x v (other_place n c at))
      ] refl
      | false ↦ λ other. ap is_some (slot_kept s c n x y e v here other)
    ] in cases refl
