-- What a write to a variable and a write to a hidden name leave of the relation.
use Rattle.std.proofs.Common.{◌≡◌, ◌≢◌, ℕ, ◌<◌, true, false, List, length, Option, Some, None, cond, refl, sym, ap, ◌∙◌, subst, arith}
use Rattle.std.specs.Prelude.{slice_get, slice_set, nat_eq, codes}
use Rattle.std.proofs.lemmas.List.{length-set}
use Rattle.std.proofs.lemmas.Bool.Decides.{nat_tests}
use Rattle.std.specs.Cmp.Lexicographic.{same_text}
use Rattle.caja_units.specs.Units.{same_units, is_hidden}
use Rattle.es3_heap.specs.Objects.{Objects}
use Rattle.row_simulation.specs.RowLaw.{IsList}
use Rattle.es3_language.specs.Store.{Store, name_value, with_slot, with_name, renamed}
use Rattle.es3_language.specs.References.{slot, resolve}
use Rattle.es3_language.specs.Arguments.{is_arguments}
use Rattle.cajita_rewrite.specs.Rewrite.{runtime_name, arguments_copy}
use Rattle.cajita_simulation.specs.Guest.{GuestName}
use Rattle.cajita_simulation.specs.Scopes.{stored_name}
use Rattle.cajita_meaning.specs.World.{Value, Pairs, World, value_at, with_value, with_list, scope_at}
use Rattle.cajita_meaning.specs.Direct.{Item}
use Rattle.page_natives.specs.Natives.{Kept}
use Rattle.cajita_simulation.proofs.Doing.{assign}
use Rattle.cajita_simulation.proofs.Heaps.Names.{name_value-with_name}
use Rattle.row_simulation.proofs.Row.{no_node_refl, pages_keep}
use Rattle.cajita_simulation.proofs.Relation.{EsValue, Val, OptVal, ScopeTag, tag_of_scope, Tags, names_at, Temps, Slot, unknown, declared, holds, keys, SlotIs, ScopesAre, Here, Rel, Shaped, Keeps, Stays, same_keeps, keeps_refl, closed_refl, val_keep, list_keep}
use Rattle.cajita_simulation.proofs.Scopes.{FoundAs, FoundAt, found_at, stored_is, stored_apart, in_stays}
use Rattle.cajita_simulation.proofs.Written.{same_place, other_place, value_at-with_value, names_at-written, names_at-other, scope_at-written, scope_at-other, slot_kept, variable_kept, are_written, fixed_written, written_same, shared_store}
use Rattle.cajita_simulation.proofs.Shared.{shared_more, quiet_shared}
use Rattle.cajita_simulation.proofs.Changes.{closures_shaped, rel_quiet, stays_quiet}
use Rattle.cajita_simulation.proofs.Laws.{puts, hold}

-- the items of arguments objects that have the value of a name are written

pub rel_shared : {H : Here} {T : Temps} {k : ℕ} {w : World} {z : List Item} {n : ℕ} {g : Tags} {s : Store} {y : Kept} {m : ℕ} (c : ℕ) (x : List ℕ) (e : EsValue) → Rel H T k w z n g s y m → Rel H T k w z n g (shared_store s c x e) y m
rel_shared {s = s} c x e r = rel_quiet (quiet_shared s.shared (length s.scopes) c x e s.heap r.all.scopes.shared) r

pub stays_shared : {H : Here} {T : Temps} {k : ℕ} {w : World} {z : List Item} {n : ℕ} {g : Tags} {s : Store} {y : Kept} {m : ℕ} (c : ℕ) (x : List ℕ) (e : EsValue) → Rel H T k w z n g s y m → Stays w g s m w g (shared_store s c x e) m
stays_shared {g = g} {s = s} c x e r = stays_quiet g (quiet_shared s.shared (length s.scopes) c x e s.heap r.all.scopes.shared)

-- a guest's variable that the interpreter finds
pub find : {H : Here} {T : Temps} {k : ℕ} {w : World} {z : List Item} {n : ℕ} {g : Tags} {s : Store} {y : Kept} {m : ℕ} (x : List ℕ) (c : ℕ) → resolve H.chain s x ≡ slot c x → GuestName x → Rel H T k w z n g s y m → FoundAt g H.by H.around.chain w.scopes s x c
find {H = H} {w = w} {g = g} {s = s} x c at guest r = found_at g H.by H.around.chain H.chain w.scopes s x x c r.here.captured.chained r.all.scopes.are (λ d k n tag. subst (λ q. OptVal s.heap (value_at x (scope_at (slice_get (w.scopes k) n))) (name_value q (names_at s d))) (stored_is x guest) (r.all.scopes.same d k n tag x guest.open_name)) at

-- and so it finds the array that `arguments` is
pub find_args : {H : Here} {T : Temps} {k : ℕ} {w : World} {z : List Item} {n : ℕ} {g : Tags} {s : Store} {y : Kept} {m : ℕ} (c : ℕ) → resolve H.chain s arguments_copy ≡ slot c arguments_copy → Rel H T k w z n g s y m → FoundAs g H.by H.around.chain w.scopes s (codes "arguments") arguments_copy c
find_args {H = H} {w = w} {g = g} {s = s} c at r = found_at g H.by H.around.chain H.chain w.scopes s (codes "arguments") arguments_copy c r.here.captured.chained r.all.scopes.are (λ d k n tag. r.all.scopes.same d k n tag (codes "arguments") refl) at

-- a name that a scope has is written
pub shaped_slot : (g : Tags) (s : Store) (c : ℕ) (x : List ℕ) (e u : EsValue) → name_value x (names_at s c) ≡ Some u → Shaped g s g (with_slot c x e s)
shaped_slot g s c x e u there = record {
  count = let l = length-set s.scopes c (renamed (slice_get s.scopes c) (with_name x e (names_at s c))) in omega (arith, l);
  shape = λ n y lt. written_same s c n x y u e there;
  fixed = λ n lt. fixed_written s c n x e;
  codes = λ k code q. q;
  tags = λ n t q. q;
}

pub differs : (x y : List ℕ) → is_hidden y ≡ true → is_hidden x ≡ false → same_units y x ≡ false
differs x y hidden guest =
    let cases = elim (same_units y x) as (λ b. same_units y x ≡ b → b ≡ false) [
      | true ↦ λ is. cc (sym hidden ∙ ap is_hidden (same_text y x (sym is)) ∙ guest)
      | false ↦ λ is. refl
    ] in cases refl

slot_kept_in : (s : Store) (c : ℕ) (x : List ℕ) (e u : EsValue) (n : ℕ) (y : List ℕ) (q : Slot) → name_value x (names_at s c) ≡ Some u → same_units y x ≡ false → SlotIs s n y q → SlotIs (with_slot c x e s) n y q
slot_kept_in s c x e u n y unknown there ne p = tt
slot_kept_in s c x e u n y declared there ne p = (p.0, slot_kept s c n x y u e there ne ∙ p.1)
slot_kept_in s c x e u n y (holds v) there ne p = (p.0, slot_kept s c n x y u e there ne ∙ p.1, p.2)
slot_kept_in s c x e u n y (keys ks) there ne p = (p.0, slot_kept s c n x y u e there ne ∙ p.1, p.2)

same_module : (n : ℕ) → nat_eq n n ≡ true
same_module n = grind (arith, nat_tests)

abbrev by_of : Option ScopeTag → ℕ
by_of None = 0
by_of (Some t) = t.by

abbrev number_of : Option ScopeTag → ℕ
number_of None = 0
number_of (Some t) = t.number

same_tag : (m n k l : ℕ) → (let p : Option ScopeTag = Some (tag_of_scope m n) in p) ≡ Some (tag_of_scope k l) → (m ≡ k) × (n ≡ l)
same_tag m n k l e = (ap by_of e, ap number_of e)

-- a write to a guest's variable on both sides leaves the scopes of all modules alike
tagged_assigned : (T : Temps) (tags : Tags) (m n c : ℕ) (x : List ℕ) (u v : Value) (e f : EsValue) (w : ℕ → List Pairs) (s : Store) → slice_get tags c ≡ Some (tag_of_scope m n) → value_at x (scope_at (slice_get (w m) n)) ≡ Some u → name_value x (names_at s c) ≡ Some e → GuestName x → Val s.heap v f → ScopesAre T tags w s → ScopesAre T tags (with_list m (slice_set (w m) n (with_value x v (scope_at (slice_get (w m) n)))) w) (with_slot c x f s)
tagged_assigned T tags m n c x u v e f w s tag here there guest is r = record {
  same = λ d k l at y named. one d k l at y named;
  once = r.once;
  known = λ d k l at. listed d k l at;
  count = let l = length-set s.scopes c (renamed (slice_get s.scopes c) (with_name x f (names_at s c))) in omega (arith, l, r.count);
  temps = λ d y hidden. slot_kept_in s c x f e d y (T d y) there (differs x y hidden guest.open_name) (r.temps d y hidden);
  runtime = λ d q at. r.runtime d q (sym (slot_kept s c d x runtime_name e f there (differs x runtime_name refl guest.open_name)) ∙ at);
  are = are_written s c x f r.are;
  shared = let l = length-set s.scopes c (renamed (slice_get s.scopes c) (with_name x f (names_at s c))) in shared_more s.heap (omega (arith, l)) s.shared r.shared;
}
  where
    written : (y : List ℕ) → is_hidden y ≡ false → OptVal s.heap (value_at y (scope_at (slice_get (slice_set (w m) n (with_value x v (scope_at (slice_get (w m) n)))) n))) (name_value (stored_name y) (names_at (with_slot c x f s) c))
    written y shown =
        let list = slice_set (w m) n (with_value x v (scope_at (slice_get (w m) n))) in
        let cases = elim (same_units y x) as (λ b. same_units y x ≡ b → OptVal s.heap (value_at y (scope_at (slice_get list n))) (name_value (stored_name y) (names_at (with_slot c x f s) c))) [
          | true ↦ λ same. subst (λ q. OptVal s.heap (value_at q (scope_at (slice_get list n))) (name_value (stored_name q) (names_at (with_slot c x f s) c))) (sym (same_text y x (sym same))) (subst (λ q. OptVal s.heap (value_at x (scope_at (slice_get list n))) (name_value q (names_at (with_slot c x f s) c))) (sym (stored_is x guest)) (rw (scope_at-written (w m) n x u v here, names_at-written s c x e f there, value_at-with_value x v (scope_at (slice_get (w m) n)), name_value-with_name x f (names_at s c)) is))
          | false ↦ λ other. rw (variable_kept (w m) n n x y u v here other, slot_kept s c c x (stored_name y) e f there (stored_apart x y guest other)) (r.same c m n tag y shown)
        ] in cases refl

    others : (d k l : ℕ) → slice_get tags d ≡ Some (tag_of_scope k l) → d ≢ c → (y : List ℕ) → is_hidden y ≡ false → OptVal s.heap (value_at y (scope_at (slice_get (with_list m (slice_set (w m) n (with_value x v (scope_at (slice_get (w m) n)))) w k) l))) (name_value (stored_name y) (names_at (with_slot c x f s) d))
    others d k l at ne y shown =
        let list = slice_set (w m) n (with_value x v (scope_at (slice_get (w m) n))) in
        let cases = elim (nat_eq k m) as (λ b. nat_eq k m ≡ b → OptVal s.heap (value_at y (scope_at (slice_get (cond b list (w k)) l))) (name_value (stored_name y) (names_at (with_slot c x f s) d))) [
          | false ↦ λ other. rw (names_at-other s c d x f ne) (r.same d k l at y shown)
          | true ↦ λ same.
              let by : k ≡ m = same_place k m same in
              let apart : l ≢ n = λ q. ne (r.once d c (tag_of_scope m n) (subst (λ j. slice_get tags d ≡ Some (tag_of_scope m j)) q (subst (λ j. slice_get tags d ≡ Some (tag_of_scope j l)) by at)) tag) in
              rw (names_at-other s c d x f ne, scope_at-other (w m) n l (with_value x v (scope_at (slice_get (w m) n))) apart) (subst (λ j. OptVal s.heap (value_at y (scope_at (slice_get (w j) l))) (name_value (stored_name y) (names_at s d))) by (r.same d k l at y shown))
        ] in cases refl

    one : (d k l : ℕ) → slice_get tags d ≡ Some (tag_of_scope k l) → (y : List ℕ) → is_hidden y ≡ false → OptVal s.heap (value_at y (scope_at (slice_get (with_list m (slice_set (w m) n (with_value x v (scope_at (slice_get (w m) n)))) w k) l))) (name_value (stored_name y) (names_at (with_slot c x f s) d))
    one d k l at y shown =
        let list = slice_set (w m) n (with_value x v (scope_at (slice_get (w m) n))) in
        let cases = elim (nat_eq d c) as (λ b. nat_eq d c ≡ b → OptVal s.heap (value_at y (scope_at (slice_get (with_list m list w k) l))) (name_value (stored_name y) (names_at (with_slot c x f s) d))) [
          | false ↦ λ ne. others d k l at (other_place d c ne) y shown
          | true ↦ λ is1.
              let parts = same_tag k l m n (sym at ∙ ap (slice_get tags) (same_place d c is1) ∙ tag) in
              let q : OptVal s.heap (value_at y (scope_at (slice_get (with_list m list w m) n))) (name_value (stored_name y) (names_at (with_slot c x f s) c)) = rw (same_module m) (written y shown) in
              subst (λ j. OptVal s.heap (value_at y (scope_at (slice_get (with_list m list w k) l))) (name_value (stored_name y) (names_at (with_slot c x f s) j))) (sym (same_place d c is1)) (subst (λ j. OptVal s.heap (value_at y (scope_at (slice_get (with_list m list w j) l))) (name_value (stored_name y) (names_at (with_slot c x f s) c))) (sym parts.0) (subst (λ j. OptVal s.heap (value_at y (scope_at (slice_get (with_list m list w m) j))) (name_value (stored_name y) (names_at (with_slot c x f s) c))) (sym parts.1) q))
        ] in cases refl

    listed : (d k l : ℕ) → slice_get tags d ≡ Some (tag_of_scope k l) → l < length (with_list m (slice_set (w m) n (with_value x v (scope_at (slice_get (w m) n)))) w k)
    listed d k l at =
        let list = slice_set (w m) n (with_value x v (scope_at (slice_get (w m) n))) in
        let few = r.known d k l at in
        let cases = elim (nat_eq k m) as (λ b. nat_eq k m ≡ b → l < length (cond b list (w k))) [
          | false ↦ λ other. few
          | true ↦ λ same.
              let long = length-set (w m) n (with_value x v (scope_at (slice_get (w m) n))) in
              let there : l < length (w m) = subst (λ j. l < length (w j)) (same_place k m same) few in
              omega (arith, long, there)
        ] in cases refl

-- the relation after an assignment to a guest's variable
pub rel_assigned : {H : Here} {T : Temps} {k : ℕ} {w : World} {z : List Item} {n : ℕ} {g : Tags} {s : Store} {y : Kept} {m : ℕ} (x : List ℕ) (c : ℕ) (v : Value) (e : EsValue) → GuestName x → FoundAt g H.by H.around.chain w.scopes s x c → Val s.heap v e → Rel H T k w z n g s y m → Rel H T k (assign H x v w) z n g (with_slot c x e s) y m
rel_assigned {H = H} {T = T} {w = w} {g = g} {s = s} x c v e guest f is r =
    let shaped = shaped_slot g s c x e f.value f.there in
    let are = are_written s c x e r.all.scopes.are in
    let scopes = tagged_assigned T g H.by f.number c x f.known v f.value e w.scopes s f.tag f.here f.there guest is r.all.scopes in
    record {
      all = record {
        steps = r.all.steps;
        items = r.all.items;
        objects = r.all.objects;
        pages = pages_keep w (assign H x v w) _ same_keeps no_node_refl (refl, refl, refl, refl) r.all.pages;
        closures = closures_shaped w.objects refl shaped r.all.scopes.are are r.all.closures;
        waiters = r.all.waiters;
        scopes = subst (λ l. ScopesAre T g (with_list H.by l w.scopes) (with_slot c x e s)) (sym (f.assigns v)) scopes;
        globals = r.all.globals;
        kept = r.all.kept;
      };
      here = in_stays shaped r.all.scopes.are are r.here;
    }

pub stays_assigned : (H : Here) {w : World} {g : Tags} {s : Store} {m : ℕ} (x : List ℕ) (c : ℕ) (v : Value) (e u : EsValue) → name_value x (names_at s c) ≡ Some u → Stays w g s m (assign H x v w) g (with_slot c x e s) m
stays_assigned H {g = g} {s = s} x c v e u there = record { heap = keeps_refl; shaped = shaped_slot g s c x e u there; closed = record { closures = λ m n f chain q. q } }

-- a hidden name, on the interpreter's side alone

-- a value that a slot may have
abbrev pub Fits : Objects → Slot → EsValue → Type 0
Fits h unknown e = Unit {0}
Fits h declared e = Unit {0}
Fits h (holds v) e = Val h v e
Fits h (keys ks) e = IsList h ks e

pub fits_keep : {a b : Objects} {i j : ℕ} → Keeps a i b j → (q : Slot) (e : EsValue) → Fits a q e → Fits b q e
fits_keep k unknown e p = tt
fits_keep k declared e p = tt
fits_keep k (holds v) e p = val_keep k v e p
fits_keep k (keys ks) e p = list_keep k.objects ks e p

fitting : (s : Store) (c : ℕ) (x : List ℕ) (q : Slot) (e : EsValue) → name_value x (names_at s c) ≡ Some e → Fits s.heap q e → SlotIs s c x q
fitting s c x unknown e there is = tt
fitting s c x declared e there is = (e, there)
fitting s c x (holds v) e there is = (e, there, is)
fitting s c x (keys ks) e there is = (e, there, is)

held : (s : Store) (c : ℕ) (x : List ℕ) (q : Slot) (e u : EsValue) (T : Temps) (n : ℕ) (y : List ℕ) → name_value x (names_at s c) ≡ Some u → Fits s.heap q e → SlotIs s n y (T n y) → SlotIs (with_slot c x e s) n y (puts c x q T n y)
held s c x q e u T n y there is p =
    let after = with_slot c x e s in
    let written : n ≡ c → y ≡ x → SlotIs after n y q = λ at same. subst (λ k. SlotIs after k y q) (sym at) (subst (λ z. SlotIs after c z q) (sym same) (fitting after c x q e (ap (name_value x) (names_at-written s c x u e there) ∙ name_value-with_name x e (names_at s c)) is)) in
    let cases = elim (nat_eq n c) as (λ b. nat_eq n c ≡ b → SlotIs after n y (cond b (cond (same_units y x) q (T n y)) (T n y))) [
      | false ↦ λ other. here_kept after n y (T n y) (ap (name_value y) (names_at-other s c n x e (other_place n c other))) refl p
      | true ↦ λ at. elim (same_units y x) as (λ b. same_units y x ≡ b → SlotIs after n y (cond b q (T n y))) [
        | true ↦ λ same. written (same_place n c at) (same_text y x (sym same))
        | false ↦ λ other. slot_kept_in s c x e u n y (T n y) there other p
      ] refl
    ] in cases refl
  where
    here_kept : (after : Store) (n : ℕ) (y : List ℕ) (q : Slot) → name_value y (names_at after n) ≡ name_value y (names_at s n) → after.heap ≡ s.heap → SlotIs s n y q → SlotIs after n y q
    here_kept after n y unknown same heap p = tt
    here_kept after n y declared same heap p = (p.0, same ∙ p.1)
    here_kept after n y (holds v) same heap p = (p.0, same ∙ p.1, subst (λ h. Val h v p.0) (sym heap) p.2)
    here_kept after n y (keys ks) same heap p = (p.0, same ∙ p.1, subst (λ h. IsList h ks p.0) (sym heap) p.2)

scopes_put : {T : Temps} {g : Tags} {scopes : ℕ → List Pairs} {s : Store} (c : ℕ) (x : List ℕ) (q : Slot) (e u : EsValue) → name_value x (names_at s c) ≡ Some u → is_hidden x ≡ true → same_units runtime_name x ≡ false → same_units arguments_copy x ≡ false → Fits s.heap q e → ScopesAre T g scopes s → ScopesAre (puts c x q T) g scopes (with_slot c x e s)
scopes_put {T = T} {scopes = scopes} {s = s} c x q e u there hidden other no_copy is r = record {
  same = λ n k l tag y guest. subst (λ o. OptVal s.heap (value_at y (scope_at (slice_get (scopes k) l))) o) (sym (slot_kept s c n x (stored_name y) u e there (stored_differs y guest))) (r.same n k l tag y guest);
  once = r.once;
  known = r.known;
  count = let l = length-set s.scopes c (renamed (slice_get s.scopes c) (with_name x e (names_at s c))) in omega (arith, l, r.count);
  temps = λ n y hid. held s c x q e u T n y there is (r.temps n y hid);
  runtime = λ n q at. r.runtime n q (sym (slot_kept s c n x runtime_name u e there other) ∙ at);
  are = are_written s c x e r.are;
  shared = let l = length-set s.scopes c (renamed (slice_get s.scopes c) (with_name x e (names_at s c))) in shared_more s.heap (omega (arith, l)) s.shared r.shared;
}
  where
    open_differs : (y : List ℕ) → is_hidden y ≡ false → same_units y x ≡ false
    open_differs y guest =
        let cases = elim (same_units y x) as (λ b. same_units y x ≡ b → b ≡ false) [
          | true ↦ λ same. cc (sym guest ∙ ap is_hidden (same_text y x (sym same)) ∙ hidden)
          | false ↦ λ same. refl
        ] in cases refl

    stored_differs : (y : List ℕ) → is_hidden y ≡ false → same_units (stored_name y) x ≡ false
    stored_differs y guest = elim (is_arguments y) as (λ b. same_units (cond b arguments_copy y) x ≡ false) [
      | true ↦ no_copy
      | false ↦ open_differs y guest
    ]

-- the relation after a hidden name of a scope was written, on the interpreter's side alone
pub rel_put : {H : Here} {T : Temps} {k : ℕ} {w : World} {z : List Item} {n : ℕ} {g : Tags} {s : Store} {y : Kept} {m : ℕ} (c : ℕ) (x : List ℕ) (q : Slot) (e u : EsValue) → name_value x (names_at s c) ≡ Some u → is_hidden x ≡ true → same_units runtime_name x ≡ false → same_units arguments_copy x ≡ false → Fits s.heap q e → Rel H T k w z n g s y m → Rel H (puts c x q T) k w z n g (with_slot c x e s) y m
rel_put {w = w} {g = g} {s = s} c x q e u there hidden other no_copy is r =
    let shaped = shaped_slot g s c x e u there in
    let are = are_written s c x e r.all.scopes.are in
    record {
      all = record {
        steps = r.all.steps;
        items = r.all.items;
        objects = r.all.objects;
        pages = r.all.pages;
        closures = closures_shaped w.objects refl shaped r.all.scopes.are are r.all.closures;
        waiters = r.all.waiters;
        scopes = scopes_put c x q e u there hidden other no_copy is r.all.scopes;
        globals = r.all.globals;
        kept = r.all.kept;
      };
      here = in_stays shaped r.all.scopes.are are r.here;
    }

pub stays_held : {w : World} {g : Tags} {s : Store} {m : ℕ} (c : ℕ) (x : List ℕ) (e u : EsValue) → name_value x (names_at s c) ≡ Some u → Stays w g s m w g (with_slot c x e s) m
stays_held {g = g} {s = s} c x e u there = record { heap = keeps_refl; shaped = shaped_slot g s c x e u there; closed = closed_refl }

-- less may be known of each hidden name
pub record Covers (T U : Temps) : Type 0 where
  pub covers : (s : Store) (c : ℕ) (x : List ℕ) → is_hidden x ≡ true → SlotIs s c x (U c x) → SlotIs s c x (T c x)

pub rel_covers : {H : Here} {T U : Temps} {k : ℕ} {w : World} {z : List Item} {n : ℕ} {g : Tags} {s : Store} {y : Kept} {m : ℕ} → Covers T U → Rel H U k w z n g s y m → Rel H T k w z n g s y m
rel_covers {s = s} f r =
    let v = r.all.scopes in
    record {
      all = record {
        steps = r.all.steps;
        items = r.all.items;
        objects = r.all.objects;
        pages = r.all.pages;
        closures = r.all.closures;
        waiters = r.all.waiters;
        scopes = record { same = v.same; once = v.once; known = v.known; count = v.count; temps = λ c x hidden. f.covers s c x hidden (v.temps c x hidden); runtime = v.runtime; are = v.are; shared = v.shared };
        globals = r.all.globals;
        kept = r.all.kept;
      };
      here = r.here;
    }

pub covers_trans : {T U V : Temps} → Covers T U → Covers U V → Covers T V
covers_trans f g = record { covers = λ s c x hidden p. f.covers s c x hidden (g.covers s c x hidden p) }

-- what is known of a name may be forgotten, where it was declared before
pub put_covers : (T : Temps) (c : ℕ) (x : List ℕ) (q : Slot) → ((s : Store) (n : ℕ) (y : List ℕ) → SlotIs s n y q → SlotIs s n y declared) → T c x ≡ declared → Covers T (puts c x q T)
put_covers T c x q fewer is = record { covers = λ s n y hidden p. one s n y p }
  where
    one : (s : Store) (n : ℕ) (y : List ℕ) → SlotIs s n y (puts c x q T n y) → SlotIs s n y (T n y)
    one s n y p =
        let cases = elim (nat_eq n c) as (λ b. nat_eq n c ≡ b → SlotIs s n y (cond b (cond (same_units y x) q (T n y)) (T n y)) → SlotIs s n y (T n y)) [
          | false ↦ λ other p. p
          | true ↦ λ at. elim (same_units y x) as (λ b. same_units y x ≡ b → SlotIs s n y (cond b q (T n y)) → SlotIs s n y (T n y)) [
            | false ↦ λ other p. p
            | true ↦ λ same p.
                let slot : T n y ≡ declared = subst (λ k. T k y ≡ declared) (sym (same_place n c at)) (subst (λ q. T c q ≡ declared) (sym (same_text y x (sym same))) is) in
                subst (λ q. SlotIs s n y q) (sym slot) (fewer s n y p)
          ] refl
        ] in cases refl p

pub held_covers : (T : Temps) (c : ℕ) (x : List ℕ) (v : Value) → T c x ≡ declared → Covers T (hold c x v T)
held_covers T c x v is = put_covers T c x (holds v) (λ s n y p. (p.0, p.1)) is
