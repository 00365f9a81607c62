-- A call enters a closure: a new scope on both sides; and goes back.
use Rattle.std.proofs.Common.{◌≡◌, ◌≢◌, ℕ, ◌+◌, ◌<◌, Bool, true, false, List, [], ◌∷◌, ◌++◌, length, Option, Some, None, cond, refl, sym, ap, ◌∙◌, subst, arith}
use Rattle.std.specs.Prelude.{slice_get, is_some, nat_eq}
use Rattle.std.proofs.lemmas.List.{length-append}
use Rattle.std.proofs.lemmas.Option.{none-some}
use Rattle.std.proofs.lemmas.Bool.Decides.{nat_tests}
use Rattle.caja_units.specs.Units.{is_hidden}
use Rattle.es3_language.specs.Store as store
use Rattle.es3_language.specs.Store.{Store, Names, activation, name_value, with_scope}
use Rattle.es3_language.specs.Arguments.{is_fixed}
use Rattle.es3_language.specs.References.{slot, resolve}
use Rattle.cajita_rewrite.specs.Rewrite.{runtime_name, temp_name}
use Rattle.cajita_meaning.specs.World.{Pairs, World as State}
use Rattle.cajita_meaning.specs.Direct.{Item}
use Rattle.page_natives.specs.Natives.{Kept}
use Rattle.cajita_simulation.specs.Guest as Guest
use Rattle.cajita_simulation.proofs.Heaps.Lists.{slice_get-push}
use Rattle.cajita_simulation.proofs.Relation.{StandsIn, RelAt, EsValue, tag_of_scope, Tags, Here, Temps, Slot, unknown, declared, holds, keys, SlotIs, ScopesAre, ScopeIs, names_at, AreScopes, Place, Captured, In, Related, Rel, Stays}
use Rattle.cajita_simulation.proofs.Scopes.{stands_stays, passes, captured_stays}
use Rattle.cajita_simulation.proofs.Written.{same_place}
use Rattle.cajita_simulation.proofs.Writes.{Covers, rel_covers}
use Rattle.cajita_simulation.proofs.Laws.{Room}
use Rattle.cajita_simulation.proofs.Entering.{names_new, shaped_scope, scopes_are, NewScopes}
use Rattle.cajita_simulation.proofs.Load.Bound.{is_temp, temp_is, temp_of}
use Rattle.cajita_simulation.proofs.Calling.Names.{ScopeNames}

-- where the statements of a closure of a module stand, by the numbers of its scope on both sides
abbrev pub inside : Here → ℕ → ℕ → ℕ → Guest.Names → Guest.Names → List ℕ → List ℕ → ℕ → Here
inside H by number act vars free direct chain this = record {
  rules = H.rules;
  turn = H.turn;
  around = record { chain = number ∷ direct; calls = H.around.calls + 1 };
  by = by;
  chain = act ∷ chain;
  vars = vars;
  free = free;
  act = act;
  this = this;
}

-- the temporaries of the new activation are declared, and nothing else is known of its hidden names
abbrev pub declares : ℕ → ℕ → Temps → Temps
declares act q T c x = cond (nat_eq c act) (cond (is_temp q x) declared unknown) (T c x)

same_self : (n : ℕ) → nat_eq n n ≡ true
same_self n = grind (arith, nat_tests)

other_self : (c n : ℕ) → c ≢ n → nat_eq c n ≡ false
other_self c n ne = elim (nat_eq c n) as (λ b. nat_eq c n ≡ b → b ≡ false) [
  | true ↦ λ e. absurd (ne (grind (arith, nat_tests)))
  | false ↦ λ e. refl
] refl

pub declares_room : {H : Here} (q : ℕ) (T : Temps) → q < 18446744073709551616 → Room H (declares H.act q T) 0 q
declares_room {H = H} q T few = record { declared = λ i from to. rw (same_self H.act, temp_is q i (omega (arith, to))) refl; few = omega (arith, few) }

-- nothing is known of a scope that isn't there yet
pub no_slot : (s : Store) (c : ℕ) (x : List ℕ) (q : Slot) → names_at s c ≡ [] → SlotIs s c x q → q ≡ unknown
no_slot s c x unknown bare p = refl
no_slot s c x declared bare p = absurd (none-some p.0 (sym (ap (name_value x) bare) ∙ p.1))
no_slot s c x (holds v) bare p = absurd (none-some p.0 (sym (ap (name_value x) bare) ∙ p.1))
no_slot s c x (keys ks) bare p = absurd (none-some p.0 (sym (ap (name_value x) bare) ∙ p.1))

pub past_end : {A : Type 0} (xs : List A) → slice_get xs (length xs) ≡ None
past_end [] = refl
past_end (y ∷ ys) = past_end ys

-- so what was known before the call is known after it
pub declares_covers : {g : Tags} {scopes : ℕ → List Pairs} {s : Store} (q : ℕ) (T : Temps) → ScopesAre T g scopes s → Covers T (declares (length s.scopes) q T)
declares_covers {s = s0} q T r = record { covers = λ s c x hidden p. one s c x hidden p }
  where
    one : (s : Store) (c : ℕ) (x : List ℕ) → is_hidden x ≡ true → SlotIs s c x (declares (length s0.scopes) q T c x) → SlotIs s c x (T c x)
    one s c x hidden p =
        let cases = elim (nat_eq c (length s0.scopes)) as (λ b. nat_eq c (length s0.scopes) ≡ b → SlotIs s c x (cond b (cond (is_temp q x) declared unknown) (T c x)) → SlotIs s c x (T c x)) [
          | false ↦ λ other p. p
          | true ↦ λ at p.
              let bare : T (length s0.scopes) x ≡ unknown = no_slot s0 (length s0.scopes) x (T (length s0.scopes) x) (ap store.scope_at (past_end s0.scopes)) (r.temps (length s0.scopes) x hidden) in
              subst (λ k. SlotIs s c x (T k x)) (sym (same_place c (length s0.scopes) at)) (subst (λ k. SlotIs s c x k) (sym bare) tt)
        ] in cases refl p

-- names that the new scope has, and those that are found further out

pub here_at : (s' : Store) (act : ℕ) (chain : List ℕ) (x : List ℕ) → is_some (name_value x (names_at s' act)) ≡ true → resolve (act ∷ chain) s' x ≡ slot act x
here_at s' act chain x bound = rw bound refl

pub further_at : (s' : Store) (act : ℕ) (chain : List ℕ) (x : List ℕ) (c : ℕ) → AreScopes s' → is_some (name_value x (names_at s' act)) ≡ false → resolve chain s' x ≡ slot c x → resolve (act ∷ chain) s' x ≡ slot c x
further_at s' act chain x c are bare at = rw bare (passes (slice_get s'.scopes act) s' x (resolve chain s' x) (are act) ∙ at)

-- a scope with these names, the last one
module _ {all : Names} {vars free vars1 free1 : Guest.Names} {q : ℕ} (by number : ℕ) (g : Tags) (s : Store) (f : EsValue) (params : List (List ℕ)) (qs : List EsValue) (new : ScopeNames all vars free vars1 free1 q) where
  abbrev pub after : Store
  after = with_scope (activation f params qs) all s

  abbrev pub tags : Tags
  tags = g ++ tag_of_scope by number ∷ []

  found_in : (x : List ℕ) (b : Bool) → is_some (name_value x all) ≡ b → is_some (name_value x (names_at after (length s.scopes))) ≡ b
  found_in x b e = ap (λ l. is_some (name_value x l)) (names_new (activation f params qs) all s) ∙ e

  longer : length s.scopes < length after.scopes
  longer = omega (arith, length-append s.scopes (record { owner = activation f params qs; names = all } ∷ []))

  fixed_new : is_fixed (slice_get after.scopes (length s.scopes)) ≡ false
  fixed_new = ap is_fixed (slice_get-push s.scopes (record { owner = activation f params qs; names = all }))

  pub captured_enter : {direct chain : List ℕ} → length g ≡ length s.scopes → AreScopes s → Captured vars free by g direct chain s → Captured vars1 free1 by tags (number ∷ direct) (length s.scopes ∷ chain) after
  captured_enter {direct = direct} {chain = chain} count are p =
      let are' : AreScopes after = scopes_are (activation f params qs) all s tt are in
      let old : Captured vars free by tags direct chain after = captured_stays (shaped_scope g (tag_of_scope by number) (activation f params qs) all s) are are' p in
      record {
        chained = (ap (slice_get tags) (sym count) ∙ slice_get-push g (tag_of_scope by number), old.chained);
        within = (longer, old.within);
        names = λ x known. place x are' old known;
        runtime = old.runtime;
        runtime_below = old.runtime_below;
        runtime_at = further_at after (length s.scopes) chain runtime_name old.runtime are' (found_in runtime_name false new.runtime) old.runtime_at;
        runtime_bound = old.runtime_bound;
      }
    where
      place : (x : List ℕ) → AreScopes after → Captured vars free by tags direct chain after → vars1 x ≡ true → Place free1 (length s.scopes ∷ chain) after x
      place x are' old known =
          let cases = elim (is_some (name_value x all)) as (λ b. is_some (name_value x all) ≡ b → Place free1 (length s.scopes ∷ chain) after x) [
            | true ↦ λ e. record { scope = length s.scopes; below = longer; at = here_at after (length s.scopes) chain x (found_in x true e); written = λ may. fixed_new }
            | false ↦ λ e.
                let found = old.names x (new.read x e known) in
                record { scope = found.scope; below = found.below; at = further_at after (length s.scopes) chain x found.scope are' (found_in x false e) found.at; written = λ may. found.written (new.write x e may) }
          ] in cases refl

  -- where its statements stand
  pub in_enter : (H : Here) {direct chain : List ℕ} (this : ℕ) → Captured vars1 free1 by tags (number ∷ direct) (length s.scopes ∷ chain) after → In (inside H by number (length s.scopes) vars1 free1 direct chain this) tags after
  in_enter H {chain = chain} this captured = record { captured = captured; act = longer; written = fixed_new; temps = λ x hidden bound. here_at after (length s.scopes) chain x bound }

  -- what is known of its hidden names
  new_slot : (x : List ℕ) → SlotIs after (length s.scopes) x (cond (is_temp q x) declared unknown)
  new_slot x =
      let cases = elim (is_temp q x) as (λ b. is_temp q x ≡ b → SlotIs after (length s.scopes) x (cond b declared unknown)) [
        | false ↦ λ is. tt
        | true ↦ λ is.
            let p = temp_of q x is in
            subst (λ y. SlotIs after (length s.scopes) y declared) (sym p.is) (some_there _ (found_in (temp_name p.number) true (new.temps p.number p.few)))
      ] in cases refl
    where
      some_there : (o : Option EsValue) → is_some o ≡ true → (e : EsValue) × (o ≡ Some e)
      some_there None is = cc
      some_there (Some e) is = (e, refl)

  none_of : (o : Option EsValue) (e : EsValue) → is_some o ≡ false → o ≡ Some e → ⊥
  none_of None e b is = cc
  none_of (Some u) e b is = cc

  -- beside a scope of the world with the same variables
  pub new_scopes : (T : Temps) (pairs : Pairs) → ScopeIs s.heap pairs all → NewScopes T (declares (length s.scopes) q T) pairs (activation f params qs) all s
  new_scopes T pairs is = record {
    same = is;
    own = tt;
    runtime = λ e at. absurd (none_of (name_value runtime_name all) e new.runtime at);
    here = λ x hidden. subst (λ b. SlotIs after (length s.scopes) x (cond b (cond (is_temp q x) declared unknown) (T (length s.scopes) x))) (sym (same_self (length s.scopes))) (new_slot x);
    others = λ c x ne. ap (λ b. cond b (cond (is_temp q x) declared unknown) (T c x)) (other_self c (length s.scopes) ne);
  }

-- back in the form that called
pub rel_back : {form : Bool} {H J : Here} {T U : Temps} {i k : ℕ} {u w : State} {z : List Item} {n : ℕ} {g g' : Tags} {t s : Store} {y : Kept} {m : ℕ} → J.rules ≡ H.rules → Covers T U → AreScopes t → StandsIn form H g t → Stays u g t i w g' s m → Rel J U k w z n g' s y m → RelAt form H T k w z n g' s y m
rel_back {form = form} {H = H} {T = T} {k = k} {w = w} {z = z} {n = n} {g' = g'} {s = s} {y = y} {m = m} same f are here keep r = record { all = subst (λ l. Related l T k w z n g' s y m) same (rel_covers f r).all; here = stands_stays form H keep.shaped are r.all.scopes.are here }
