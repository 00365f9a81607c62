-- Variables on both sides: where a name is found, and that it stays found there.
use Rattle.std.proofs.Common.{Bool, ◌≡◌, ℕ, ◌<◌, ◌≤◌, true, false, List, [], ◌∷◌, length, Option, Some, None, cond, refl, sym, ap, ◌∙◌, subst, arith}
use Rattle.std.specs.Prelude.{slice_get, slice_set, is_some}
use Rattle.std.specs.Cmp.Lexicographic.{same_text}
use Rattle.caja_units.specs.Units.{same_units, is_hidden}
use Rattle.es3_language.specs.Arguments.{is_arguments}
use Rattle.es3_language.specs.Store as store
use Rattle.es3_language.specs.Store.{Store, name_value}
use Rattle.es3_language.specs.References.{Ref, slot, unresolved, named, resolve, global_name, in_owner, in_with}
use Rattle.cajita_rewrite.specs.Rewrite.{runtime_name, arguments_copy}
use Rattle.cajita_simulation.specs.Guest.{GuestName}
use Rattle.cajita_simulation.specs.Scopes.{stored_name}
use Rattle.cajita_meaning.specs.World.{Value, Pairs, value_at, with_value, scope_at}
use Rattle.cajita_simulation.proofs.Doing.{lookup, assigned}
use Rattle.cajita_simulation.proofs.Relation.{StandsIn, EsValue, Val, Names, OptVal, tag_of_scope, Tags, Chained, names_at, OwnNames, IsScope, AreScopes, Here, Within, Captured, In, Shaped}

-- a name is at no place where it belongs to the global object, or to nothing
pub global_is_no_slot : (s : Store) (x : List ℕ) (c : ℕ) → global_name s x ≡ slot c x → ⊥
global_is_no_slot s x c e =
    let cases = elim (is_some (Rattle.es3_heap.specs.Properties.lookup s.heap s.globals x)) as (λ b. cond b (named s.globals x) (unresolved x) ≡ slot c x → ⊥) [
      | true ↦ λ h. cc
      | false ↦ λ h. cc
    ] in cases e

-- a scope with names of its own has no others
owner_passes : (w : store.Owner) (s : Store) (x : List ℕ) (r : Ref) → OwnNames w → in_owner w s x r ≡ r
owner_passes (store.with_object_of o) s x r own = absurd own
owner_passes _ s x r own = refl

pub passes : (scope : Option store.Scope) (s : Store) (x : List ℕ) (r : Ref) → IsScope scope → in_with scope s x r ≡ r
passes None s x r own = refl
passes (Some scope) s x r own = owner_passes scope.owner s x r own

-- a name that no scope of the chain lost or won is found where it was
pub resolve_stays : (chain : List ℕ) (s s' : Store) (x : List ℕ) (c : ℕ) → Within chain (length s.scopes) → AreScopes s → AreScopes s' → ((n : ℕ) → n < length s.scopes → is_some (name_value x (names_at s' n)) ≡ is_some (name_value x (names_at s n))) → resolve chain s x ≡ slot c x → resolve chain s' x ≡ slot c x
resolve_stays [] s s' x c within are are' same e = absurd (global_is_no_slot s x c e)
resolve_stays (n ∷ chain) s s' x c within are are' same e =
    let before = passes (slice_get s.scopes n) s x (resolve chain s x) (are n) in
    let after = passes (slice_get s'.scopes n) s' x (resolve chain s' x) (are' n) in
    let cases = elim (is_some (name_value x (names_at s n))) as (λ b. cond b (slot n x) (in_with (slice_get s.scopes n) s x (resolve chain s x)) ≡ slot c x → cond b (slot n x) (in_with (slice_get s'.scopes n) s' x (resolve chain s' x)) ≡ slot c x) [
      | true ↦ λ h. h
      | false ↦ λ h. after ∙ resolve_stays chain s s' x c within.1 are are' same (sym before ∙ h)
    ] in rw (same n within.0) (cases e)

pub within_more : (chain : List ℕ) (n m : ℕ) → n ≤ m → Within chain n → Within chain m
within_more [] n m le w = tt
within_more (c ∷ chain) n m le w = (omega (arith, le, w.0), within_more chain n m le w.1)

chained_stays : {g g' : Tags} {s s' : Store} (m : ℕ) (direct chain : List ℕ) → Shaped g s g' s' → Chained g m direct chain → Chained g' m direct chain
chained_stays m [] [] k p = tt
chained_stays m (n ∷ direct) (c ∷ chain) k p = (k.tags c (tag_of_scope m n) p.0, chained_stays m direct chain k p.1)
chained_stays m [] (c ∷ chain) k p = absurd p
chained_stays m (n ∷ direct) [] k p = absurd p

-- what is known of a chain stays so
pub captured_stays : {vars free : Names} {by : ℕ} {g g' : Tags} {direct chain : List ℕ} {s s' : Store} → Shaped g s g' s' → AreScopes s → AreScopes s' → Captured vars free by g direct chain s → Captured vars free by g' direct chain s'
captured_stays {by = by} {direct = direct} {chain = chain} {s = s} {s' = s'} k are are' p = record {
  chained = chained_stays by direct chain k p.chained;
  within = within_more chain _ _ k.count p.within;
  names = λ x known. let q = p.names x known in record {
    scope = q.scope;
    below = omega (arith, k.count, q.below);
    at = resolve_stays chain s s' x q.scope p.within are are' (λ n lt. k.shape n x lt) q.at;
    written = λ free. k.fixed q.scope q.below ∙ q.written free;
  };
  runtime = p.runtime;
  runtime_below = omega (arith, k.count, p.runtime_below);
  runtime_at = resolve_stays chain s s' runtime_name p.runtime p.within are are' (λ n lt. k.shape n runtime_name lt) p.runtime_at;
  runtime_bound = k.shape p.runtime runtime_name p.runtime_below ∙ p.runtime_bound;
}

pub in_stays : {H : Here} {g g' : Tags} {s s' : Store} → Shaped g s g' s' → AreScopes s → AreScopes s' → In H g s → In H g' s'
in_stays {H = H} {s = s} {s' = s'} k are are' p = record {
  captured = captured_stays k are are' p.captured;
  act = omega (arith, k.count, p.act);
  written = k.fixed H.act p.act ∙ p.written;
  temps = λ x hidden bound. resolve_stays H.chain s s' x H.act p.captured.within are are' (λ n lt. k.shape n x lt) (p.temps x hidden (sym (k.shape H.act x p.act) ∙ bound));
}

pub stands_stays : (form : Bool) (H : Here) {g g' : Tags} {s s' : Store} → Shaped g s g' s' → AreScopes s → AreScopes s' → StandsIn form H g s → StandsIn form H g' s'
stands_stays true H k are are' p = in_stays k are are' p
stands_stays false H k are are' p = tt

pub same_slot : (a b : ℕ) (x : List ℕ) → slot a x ≡ slot b x → a ≡ b
same_slot a b x e = cc

-- the names of a guest's variables are the same on both sides

pub stored_is : (x : List ℕ) → GuestName x → stored_name x ≡ x
stored_is x guest = ap (λ b. cond b arguments_copy x) guest.own_name

hidden_apart : (x y : List ℕ) → is_hidden x ≡ true → is_hidden y ≡ false → same_units x y ≡ false
hidden_apart x y hidden shown =
    let cases = elim (same_units x y) as (λ b. same_units x y ≡ b → b ≡ false) [
      | true ↦ λ is. cc (sym hidden ∙ ap is_hidden (same_text x y (sym is)) ∙ shown)
      | false ↦ λ is. refl
    ] in cases refl

pub stored_same : (x y : List ℕ) → GuestName x → same_units (stored_name y) x ≡ same_units y x
stored_same x y guest =
    let cases = elim (is_arguments y) as (λ b. is_arguments y ≡ b → same_units (cond b arguments_copy y) x ≡ same_units y x) [
      | false ↦ λ own. refl
      | true ↦ λ is. hidden_apart arguments_copy x refl guest.open_name ∙ sym (other is)
    ] in cases refl
  where
    other : is_arguments y ≡ true → same_units y x ≡ false
    other is =
        let cases = elim (same_units y x) as (λ b. same_units y x ≡ b → b ≡ false) [
          | true ↦ λ same. cc (sym is ∙ ap is_arguments (same_text y x (sym same)) ∙ guest.own_name)
          | false ↦ λ same. refl
        ] in cases refl

pub stored_apart : (x y : List ℕ) → GuestName x → same_units y x ≡ false → same_units (stored_name y) x ≡ false
stored_apart x y guest ne = stored_same x y guest ∙ ne

-- a variable that is found in a scope of the store, under a name there, has a value in the scope of its tag
pub record FoundAs (tags : Tags) (m : ℕ) (chain : List ℕ) (w : ℕ → List Pairs) (s : Store) (x x' : List ℕ) (c : ℕ) : Type 0 where
  pub number : ℕ
  pub tag : slice_get tags c ≡ Some (tag_of_scope m number)
  pub known : Value
  pub value : EsValue
  pub looked : lookup chain (w m) x ≡ Some known
  pub there : name_value x' (names_at s c) ≡ Some value
  pub same : Val s.heap known value
  pub here : value_at x (scope_at (slice_get (w m) number)) ≡ Some known
  pub assigns : (u : Value) → assigned chain x u (w m) ≡ slice_set (w m) number (with_value x u (scope_at (slice_get (w m) number)))

-- under its own name
abbrev pub FoundAt : Tags → ℕ → List ℕ → (ℕ → List Pairs) → Store → List ℕ → ℕ → Type 0
FoundAt tags m chain w s x c = FoundAs tags m chain w s x x c

found_here : (tags : Tags) (m n d : ℕ) (chain chain' : List ℕ) (w : ℕ → List Pairs) (s : Store) (x x' : List ℕ) (c : ℕ) (o : Option Value) (o' : Option EsValue) → slice_get tags d ≡ Some (tag_of_scope m n) → IsScope (slice_get s.scopes d) → value_at x (scope_at (slice_get (w m) n)) ≡ o → name_value x' (names_at s d) ≡ o' → OptVal s.heap o o' → cond (is_some o') (slot d x') (in_with (slice_get s.scopes d) s x' (resolve chain' s x')) ≡ slot c x' → (resolve chain' s x' ≡ slot c x' → FoundAs tags m chain w s x x' c) → FoundAs tags m (n ∷ chain) w s x x' c
found_here tags m n d chain chain' w s x x' c (Some u) (Some u') tag own is is' same e further =
    let at : d ≡ c = same_slot d c x' e in
    subst (λ k. FoundAs tags m (n ∷ chain) w s x x' k) at (record { number = n; tag = tag; known = u; value = u'; looked = rw is refl; there = is'; same = same; here = is; assigns = λ q. rw is refl })
found_here tags m n d chain chain' w s x x' c None None tag own is is' same e further =
    let rest = further (sym (passes (slice_get s.scopes d) s x' (resolve chain' s x') own) ∙ e) in
    record { number = rest.number; tag = rest.tag; known = rest.known; value = rest.value; looked = rw is rest.looked; there = rest.there; same = rest.same; here = rest.here; assigns = λ q. rw is (rest.assigns q) }
found_here tags m n d chain chain' w s x x' c None (Some u') tag own is is' same e further = absurd same
found_here tags m n d chain chain' w s x x' c (Some u) None tag own is is' same e further = absurd same

-- a variable that the interpreter finds is the one that the direct meaning finds
pub found_at : (tags : Tags) (m : ℕ) (chain chain' : List ℕ) (w : ℕ → List Pairs) (s : Store) (x x' : List ℕ) (c : ℕ) → Chained tags m chain chain' → AreScopes s → ((d k n : ℕ) → slice_get tags d ≡ Some (tag_of_scope k n) → OptVal s.heap (value_at x (scope_at (slice_get (w k) n))) (name_value x' (names_at s d))) → resolve chain' s x' ≡ slot c x' → FoundAs tags m chain w s x x' c
found_at tags m [] [] w s x x' c same are r e = absurd (global_is_no_slot s x' c e)
found_at tags m (n ∷ chain) (d ∷ chain') w s x x' c same are r e = found_here tags m n d chain chain' w s x x' c _ _ same.0 (are d) refl refl (r d m n same.0) e (found_at tags m chain chain' w s x x' c same.1 are r)
found_at tags m [] (d ∷ chain') w s x x' c same are r e = absurd same
found_at tags m (n ∷ chain) [] w s x x' c same are r e = absurd same
