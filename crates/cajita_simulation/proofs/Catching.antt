-- A `catch` has a new scope with one name on both sides; the activation stays.
use Rattle.std.proofs.Common.{◌≡◌, ℕ, ◌<◌, Bool, true, false, List, [], ◌∷◌, ◌++◌, length, Option, Some, None, cond, refl, sym, ap, ◌∙◌, subst, arith}
use Rattle.std.specs.Prelude.{slice_get, is_some, ◌||◌}
use Rattle.std.proofs.lemmas.List.{length-append}
use Rattle.caja_units.specs.Units.{same_units, is_hidden}
use Rattle.es3_language.specs.Store as store
use Rattle.es3_language.specs.Store.{Store, caught, name_value}
use Rattle.es3_language.specs.Arguments.{is_fixed}
use Rattle.es3_language.specs.References.{slot, resolve}
use Rattle.cajita_rewrite.specs.Rewrite.{runtime_name}
use Rattle.cajita_meaning.specs.World.{Value, World, with_scope, next_scope, value_at}
use Rattle.cajita_meaning.specs.Direct.{Item}
use Rattle.page_natives.specs.Natives.{Kept}
use Rattle.cajita_simulation.specs.Guest.{GuestName, inner}
use Rattle.cajita_simulation.specs.Scopes.{stored_name}
use Rattle.cajita_simulation.proofs.Heaps.Lists.{slice_get-push}
use Rattle.cajita_simulation.proofs.Relation.{EsValue, Val, OptVal, tag_of_scope, Tags, Here, Temps, Slot, unknown, declared, holds, keys, SlotIs, names_at, AreScopes, Place, In, Related, Rel, Stays, keeps_refl}
use Rattle.cajita_simulation.proofs.Scopes.{passes, stored_same, in_stays}
use Rattle.cajita_simulation.proofs.Writes.{differs}
use Rattle.cajita_simulation.proofs.Entering.{NewScopes, names_new, shaped_scope, scopes_are, related_scope}

abbrev pub catch_store : List ℕ → EsValue → Store → Store
catch_store x e s = store.with_scope caught ((x, e) ∷ []) s

abbrev pub catch_world : ℕ → List ℕ → Value → World → World
catch_world by x v w = with_scope by ((x, v) ∷ []) w

abbrev pub catch_tags : ℕ → World → Tags → Tags
catch_tags by w g = g ++ tag_of_scope by (next_scope by w) ∷ []

-- where the statements of the `catch` stand
abbrev pub catching : Here → World → Store → List ℕ → Here
catching H w s x = record {
  rules = H.rules;
  turn = H.turn;
  around = record { chain = next_scope H.by w ∷ H.around.chain; calls = H.around.calls };
  by = H.by;
  chain = length s.scopes ∷ H.chain;
  vars = inner [] (x ∷ []) H.vars;
  free = inner [] (x ∷ []) H.free;
  act = H.act;
  this = H.this;
}

-- where a name is found in a longer chain

here_at : (s : Store) (scope : ℕ) (chain : List ℕ) (x : List ℕ) → is_some (name_value x (names_at s scope)) ≡ true → resolve (scope ∷ chain) s x ≡ slot scope x
here_at s scope chain x bound = rw bound refl

further_at : (s : Store) (scope : ℕ) (chain : List ℕ) (x : List ℕ) (c : ℕ) → AreScopes s → is_some (name_value x (names_at s scope)) ≡ false → resolve chain s x ≡ slot c x → resolve (scope ∷ chain) s x ≡ slot c x
further_at s scope chain x c are empty at = rw empty (passes (slice_get s.scopes scope) s x (resolve chain s x) (are scope) ∙ at)

-- whether the scope has a name
has_name : (s : Store) (x : List ℕ) (e : EsValue) (y : List ℕ) (b : Bool) → same_units y x ≡ b → is_some (name_value y (names_at (catch_store x e s) (length s.scopes))) ≡ b
has_name s x e y b is = ap (λ names. is_some (name_value y names)) (names_new caught ((x, e) ∷ []) s) ∙ some_of (same_units y x) b is
  where
    some_of : (q b : Bool) → q ≡ b → is_some (cond q (Some e) (name_value y [])) ≡ b
    some_of true b is = is
    some_of false b is = is

past_end : {A : Type 0} (xs : List A) → slice_get xs (length xs) ≡ None
past_end [] = refl
past_end (y ∷ ys) = past_end ys

none_some : (e : EsValue) → (let o : Option EsValue = None in o) ≡ Some e → ⊥
none_some e is = cc

-- nothing is known of the names of a scope that isn't there
no_slot : (s : Store) (c : ℕ) (x : List ℕ) (q : Slot) → names_at s c ≡ [] → SlotIs s c x q → q ≡ unknown
no_slot s c x unknown empty p = refl
no_slot s c x declared empty p = absurd (none_some p.0 (sym (ap (name_value x) empty) ∙ p.1))
no_slot s c x (holds v) empty p = absurd (none_some p.0 (sym (ap (name_value x) empty) ∙ p.1))
no_slot s c x (keys ks) empty p = absurd (none_some p.0 (sym (ap (name_value x) empty) ∙ p.1))

outer : (b c : Bool) → b ≡ false → ((false || (b || false)) || c) ≡ true → c ≡ true
outer true c e f = cc
outer false c e f = f

new_scopes : {T : Temps} (s : Store) (x : List ℕ) (v : Value) (e : EsValue) → GuestName x → Val s.heap v e → ((y : List ℕ) → is_hidden y ≡ true → SlotIs s (length s.scopes) y (T (length s.scopes) y)) → NewScopes T T ((x, v) ∷ []) caught ((x, e) ∷ []) s
new_scopes {T = T} s x v e open_name is temps = record {
  same = λ y guest. one_name y;
  own = tt;
  runtime = λ u at. absurd (none_of (same_units runtime_name x) u (differs x runtime_name refl open_name.open_name) at);
  here = λ y hidden. subst (λ q. SlotIs (catch_store x e s) (length s.scopes) y q) (sym (no_slot s (length s.scopes) y (T (length s.scopes) y) (ap store.scope_at (past_end s.scopes)) (temps y hidden))) tt;
  others = λ c y ne. refl;
}
  where
    alike : (y : List ℕ) → OptVal s.heap (cond (same_units y x) (Some v) None) (cond (same_units y x) (Some e) None)
    alike y = elim (same_units y x) as (λ b. OptVal s.heap (cond b (Some v) None) (cond b (Some e) None)) [
      | true ↦ is
      | false ↦ tt
    ]

    one_name : (y : List ℕ) → OptVal s.heap (value_at y ((x, v) ∷ [])) (name_value (stored_name y) ((x, e) ∷ []))
    one_name y = rw (stored_same x y open_name) (alike y)

    none_of : (b : Bool) (u : EsValue) → b ≡ false → (let o : Option EsValue = cond b (Some e) None in o) ≡ Some u → ⊥
    none_of true u b is = cc
    none_of false u b is = cc

pub rel_catch : {H : Here} {T : Temps} {k : ℕ} {w : World} {z : List Item} {n : ℕ} {g : Tags} {s : Store} {y : Kept} {m : ℕ} (x : List ℕ) (v : Value) (e : EsValue) → GuestName x → Val s.heap v e → Rel H T k w z n g s y m → Rel (catching H w s x) T k (catch_world H.by x v w) z n (catch_tags H.by w g) (catch_store x e s) y m
rel_catch {H = H} {T = T} {w = w} {g = g} {s = s} x v e open_name is r =
    let tag = tag_of_scope H.by (next_scope H.by w) in
    let shaped = shaped_scope g tag caught ((x, e) ∷ []) s in
    let are = scopes_are caught ((x, e) ∷ []) s tt r.all.scopes.are in
    let old = in_stays shaped r.all.scopes.are are r.here in
    let longer = length-append s.scopes (record { owner = caught; names = (x, e) ∷ [] } ∷ []) in
    let below : length s.scopes < length (catch_store x e s).scopes = omega (arith, longer) in
    let hidden_out : (y : List ℕ) → is_hidden y ≡ true → is_some (name_value y (names_at (catch_store x e s) (length s.scopes))) ≡ false = λ y hidden. has_name s x e y false (differs x y hidden open_name.open_name) in
    record {
      all = related_scope H.by (new_scopes s x v e open_name is (λ y hidden. r.all.scopes.temps (length s.scopes) y hidden)) r.all;
      here = record {
        captured = record {
          chained = (subst (λ l. slice_get (catch_tags H.by w g) l ≡ Some tag) r.all.scopes.count (slice_get-push g tag), old.captured.chained);
          within = (below, old.captured.within);
          names = λ y known. place y below are old known;
          runtime = old.captured.runtime;
          runtime_below = old.captured.runtime_below;
          runtime_at = further_at (catch_store x e s) (length s.scopes) H.chain runtime_name old.captured.runtime are (hidden_out runtime_name refl) old.captured.runtime_at;
          runtime_bound = old.captured.runtime_bound;
        };
        act = old.act;
        written = old.written;
        temps = λ y hidden bound. further_at (catch_store x e s) (length s.scopes) H.chain y H.act are (hidden_out y hidden) (old.temps y hidden bound);
      };
    }
  where
    place : (y : List ℕ) → length s.scopes < length (catch_store x e s).scopes → AreScopes (catch_store x e s) → In H (catch_tags H.by w g) (catch_store x e s) → inner [] (x ∷ []) H.vars y ≡ true → Place (inner [] (x ∷ []) H.free) (length s.scopes ∷ H.chain) (catch_store x e s) y
    place y lt are old known =
        let cases = elim (same_units y x) as (λ b. same_units y x ≡ b → Place (inner [] (x ∷ []) H.free) (length s.scopes ∷ H.chain) (catch_store x e s) y) [
          | true ↦ λ same. record { scope = length s.scopes; below = lt; at = here_at (catch_store x e s) (length s.scopes) H.chain y (has_name s x e y true same); written = λ may. ap is_fixed (slice_get-push s.scopes (record { owner = caught; names = (x, e) ∷ [] })) }
          | false ↦ λ other.
              let p = old.captured.names y (outer (same_units y x) (H.vars y) other known) in
              record { scope = p.scope; below = p.below; at = further_at (catch_store x e s) (length s.scopes) H.chain y p.scope are (has_name s x e y false other) p.at; written = λ may. p.written (outer (same_units y x) (H.free y) other may) }
        ] in cases refl

pub stays_catch : {w : World} {g : Tags} {s : Store} {m : ℕ} (by : ℕ) (x : List ℕ) (v : Value) (e : EsValue) → Stays w g s m (catch_world by x v w) (catch_tags by w g) (catch_store x e s) m
stays_catch {w = w} {g = g} {s = s} by x v e = record { heap = keeps_refl; shaped = shaped_scope g (tag_of_scope by (next_scope by w)) caught ((x, e) ∷ []) s; closed = record { closures = λ m n f chain q. q } }

-- what was found along the shorter chain is found there again
pub rel_back : {H J : Here} {T : Temps} {k : ℕ} {w0 w : World} {z : List Item} {n : ℕ} {g0 g : Tags} {s0 s : Store} {y : Kept} {i m : ℕ} → J.rules ≡ H.rules → AreScopes s0 → In H g0 s0 → Stays w0 g0 s0 i w g s m → Rel J T k w z n g s y m → Rel H T k w z n g s y m
rel_back {T = T} {k = k} {w = w} {z = z} {n = n} {g = g} {s = s} {y = y} {m = m} same are here keep r = record { all = subst (λ l. Related l T k w z n g s y m) same r.all; here = in_stays keep.shaped are r.all.scopes.are here }
