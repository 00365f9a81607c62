-- Function expressions with a name of their own, which stands in a scope around the function: `function f(a) {..}` is `___.func(function f(a){..})`.
use Rattle.std.proofs.Common.{◌≡◌, ℕ, suc, ◌+◌, ◌*◌, ◌≤◌, ◌<◌, Bool, true, false, List, [], ◌∷◌, ◌++◌, length, Some, None, cond, refl, sym, ap, ◌∙◌, subst, arith}
use Rattle.std.specs.Prelude.{slice_get, codes, is_some, not, ◌&&◌, ◌||◌}
use Rattle.std.specs.Cmp.Lexicographic.{same_text}
use Rattle.std.proofs.lemmas.List.{length-append}
use Rattle.plans.specs.Plans.{bind}
use Rattle.matching.proofs.Rules.{right_enter, left_told}
use Rattle.caja_units.specs.Units.{same_units, is_hidden}
use Rattle.es3_tree.specs.Tree as t
use Rattle.es3_objects.specs.declared.value.Value.TheVariants as es
use Rattle.es3_heap.specs.Objects as heap
use Rattle.es3_heap.specs.Properties.{find}
use Rattle.es3_heap.specs.Making.{count_at}
use Rattle.es3_language.specs.Store as store
use Rattle.es3_language.specs.Store.{Store, Code, own_name, name_value, with_scope, with_code}
use Rattle.es3_language.specs.Hoisting.{code_of}
use Rattle.rows.specs.Nodes.{Rules}
use Rattle.cajita_tree.specs.Tree as c
use Rattle.cajita_rewrite.specs.Rewrite.{rewritten, runtime_name, runtime_call, single}
use Rattle.cajita_meaning.specs.World as World
use Rattle.cajita_meaning.specs.World.{Pairs, a_closure, World as State, next_name, next_scope}
use Rattle.cajita_meaning.specs.Direct.{Item, made}
use Rattle.heap_rows.specs.Marks.{simple_mark}
use Rattle.page_natives.specs.Natives.{Kept}
use Rattle.row_simulation.proofs.Changes.{room, last_kept}
use Rattle.cajita_simulation.specs.Guest.{Names, GuestName, inner, without, Guest}
use Rattle.cajita_simulation.proofs.Doing as Source
use Rattle.cajita_simulation.proofs.Heaps.Lists.{slice_get-push}
use Rattle.cajita_simulation.proofs.Heaps.Guards.{func-guard}
use Rattle.cajita_simulation.proofs.Heaps.Silent.{func-silent}
use Rattle.cajita_simulation.proofs.Heaps.Functions.{opened_kept-function}
use Rattle.cajita_simulation.proofs.Relation.{closures_wait, EsValue, Named, tag_of_scope, Tags, Temps, OptVal, SlotIs, names_at, AreScopes, Here, env_of, Place, Captured, CodeIs, Related, Rel, Shaped, shaped_trans, Stays, stays_trans, stays_step, rel_pay}
use Rattle.cajita_simulation.proofs.Scopes.{stored_same, captured_stays, in_stays}
use Rattle.cajita_simulation.proofs.Changes.{rel_told, closures_shaped, closures_kept, scopes_keep}
use Rattle.cajita_simulation.proofs.Entering.{names_new, shaped_scope, scopes_are, NewScopes, scopes_more, related_code}
use Rattle.row_simulation.proofs.Row.{pages_keep}
use Rattle.cajita_simulation.proofs.Closures.{coded, closed_store, func_plan, closures_last, shaped_closure, function_there, closure_keeps, closure_no_node, closure_objects, closure_named}
use Rattle.cajita_simulation.proofs.Laws.{ValueBody, M, steps_hold}
use Rattle.cajita_simulation.proofs.Calls.{callee_match, guard_at, opened_of}
use Rattle.cajita_simulation.proofs.Calling.Entering.{here_at, further_at, no_slot, past_end}

-- the scope of the name, on both sides
abbrev own_names : List ℕ → ℕ → store.Names
own_names x place = (x, es.Obj place) ∷ []

abbrev own_pairs : List ℕ → ℕ → State → Pairs
own_pairs x by w = (x, World.object (next_name by w)) ∷ []

or_right : (a b : Bool) → a ≡ false → ((a || false) || b) ≡ true → b ≡ true
or_right true b e f = cc
or_right false b e f = f

module _ {rules : Rules} {g : Tags} {s : Store} {T : Temps} {j : ℕ} {w : State} {z : List Item} {n : ℕ} {y : Kept} {m : ℕ} (by : ℕ) (x : List ℕ) (f : c.Tree c.func) (direct chain : List ℕ) (guest : GuestName x) (below : by < 64) (small : suc m ≤ 4294967295) (r : Related rules T j w z n g s y m) where
  abbrev pub outer : List ℕ
  outer = next_scope by w ∷ direct

  abbrev pub scoped : List ℕ
  scoped = length s.scopes ∷ chain

  abbrev pub code : Code
  code = code_of (rewritten false c.func 0 f) (length s.scopes ∷ chain)

  -- the store with the closure, and then with the scope of its name
  abbrev pub closed : Store
  closed = closed_store (code_of (rewritten false c.func 0 f) (length s.scopes ∷ chain)) by s

  abbrev pub after : Store
  after = with_scope own_name (own_names x (length s.heap.list)) closed

  abbrev pub tags : Tags
  tags = g ++ tag_of_scope by (next_scope by w) ∷ []

  abbrev pub bound : State
  bound = World.with_object by (a_closure f (next_scope by w ∷ direct)) (World.with_scope by (own_pairs x by w) w)

  few : count_at (slice_get s.heap.counts by) < 4294967295
  few = room by below small r.objects

  are : AreScopes after
  are = scopes_are own_name (own_names x (length s.heap.list)) closed tt r.scopes.are

  shaped : Shaped g s tags after
  shaped = shaped_trans (shaped_closure g s by f outer scoped) (shaped_scope g (tag_of_scope by (next_scope by w)) own_name (own_names x (length s.heap.list)) closed)

  named : Named closed.heap (next_name by w) (length s.heap.list)
  named = closure_named g s by f outer scoped below r.objects

  -- the name stands for the closure on both sides, and nothing was known of the scope
  new : NewScopes T T (own_pairs x by w) own_name (own_names x (length s.heap.list)) closed
  new = record {
    same = λ k shown. rw (stored_same x k guest) (alike (same_units k x));
    own = tt;
    runtime = λ e at. absurd (no_runtime e at);
    here = λ k hidden. subst (SlotIs after (length s.scopes) k) (sym (no_slot s (length s.scopes) k (T (length s.scopes) k) (ap store.scope_at (past_end s.scopes)) (r.scopes.temps (length s.scopes) k hidden))) tt;
    others = λ k l ne. refl;
  }
    where
      alike : (b : Bool) → OptVal closed.heap (cond b (Some (World.object (next_name by w))) None) (cond b (Some (es.Obj (length s.heap.list))) None)
      alike true = named
      alike false = tt

      no_runtime : (e : EsValue) → name_value runtime_name (own_names x (length s.heap.list)) ≡ Some e → ⊥
      no_runtime e at =
          let cases = elim (same_units runtime_name x) as (λ b. same_units runtime_name x ≡ b → cond b (Some (es.Obj (length s.heap.list))) None ≡ Some e → ⊥) [
            | true ↦ λ is q. hidden (ap is_hidden (same_text runtime_name x (sym is)) ∙ guest.open_name)
            | false ↦ λ is q. cc
          ] in cases refl at
        where
          hidden : is_hidden runtime_name ≡ false → ⊥
          hidden e = cc

  captured_own : {vars free : Names} → Captured vars free by g direct chain s → Captured (inner [] (x ∷ []) vars) (without x free) by tags outer scoped after
  captured_own {vars = vars} {free = free} p =
      let old : Captured vars free by tags direct chain after = captured_stays shaped r.scopes.are are p in
      record {
        chained = (ap (slice_get tags) (sym r.scopes.count) ∙ slice_get-push g (tag_of_scope by (next_scope by w)), old.chained);
        within = (longer, old.within);
        names = λ k known. place k old known;
        runtime = old.runtime;
        runtime_below = old.runtime_below;
        runtime_at = further_at after (length s.scopes) chain runtime_name old.runtime are (bare runtime_name (not_own runtime_name hidden)) old.runtime_at;
        runtime_bound = old.runtime_bound;
      }
    where
      longer : length s.scopes < length after.scopes
      longer = omega (arith, length-append s.scopes (record { owner = own_name; names = own_names x (length s.heap.list) } ∷ []))

      hidden : is_hidden runtime_name ≡ true
      hidden = refl

      not_own : (k : List ℕ) → is_hidden k ≡ true → same_units k x ≡ false
      not_own k h =
          let cases = elim (same_units k x) as (λ b. same_units k x ≡ b → b ≡ false) [
            | true ↦ λ is. cc (sym h ∙ ap is_hidden (same_text k x (sym is)) ∙ guest.open_name)
            | false ↦ λ is. refl
          ] in cases refl

      names_are : names_at after (length s.scopes) ≡ own_names x (length s.heap.list)
      names_are = names_new own_name (own_names x (length s.heap.list)) closed

      there : (k : List ℕ) → same_units k x ≡ true → is_some (name_value k (names_at after (length s.scopes))) ≡ true
      there k is = ap (λ l. is_some (name_value k l)) names_are ∙ ap (λ b. is_some (cond b (Some (es.Obj (length s.heap.list))) None)) is

      bare : (k : List ℕ) → same_units k x ≡ false → is_some (name_value k (names_at after (length s.scopes))) ≡ false
      bare k is = ap (λ l. is_some (name_value k l)) names_are ∙ ap (λ b. is_some (cond b (Some (es.Obj (length s.heap.list))) None)) is

      place : (k : List ℕ) → Captured vars free by tags direct chain after → inner [] (x ∷ []) vars k ≡ true → Place (without x free) scoped after k
      place k old known =
          let cases = elim (same_units k x) as (λ b. same_units k x ≡ b → Place (without x free) scoped after k) [
            | true ↦ λ is. record { scope = length s.scopes; below = longer; at = here_at after (length s.scopes) chain k (there k is); written = λ may. absurd (never (free k) (sym (ap (λ b. not b && free k) is) ∙ may)) }
            | false ↦ λ is.
                let q = old.names k (or_right (same_units k x) (vars k) is known) in
                record { scope = q.scope; below = q.below; at = further_at after (length s.scopes) chain k q.scope are (bare k is) q.at; written = λ may. q.written (sym (ap (λ b. not b && free k) is) ∙ may) }
          ] in cases refl
        where
          never : (b : Bool) → (not true && b) ≡ true → ⊥
          never b e = cc

  new_code : {vars free : Names} → Captured vars free by g direct chain s → Guest (inner [] (x ∷ []) vars) (without x free) c.func f → CodeIs by tags after f outer (length s.heap.list)
  new_code {vars = vars} {free = free} captured is = record {
    number = length s.codes;
    callable = ap heap.callable_of (function_there g s by f outer scoped);
    chain = scoped;
    code = slice_get-push s.codes code;
    simple = ap (λ o. is_some (find simple_mark (heap.props_of o))) (function_there g s by f outer scoped);
    vars = inner [] (x ∷ []) vars;
    free = without x free;
    captured = captured_own captured;
    guest = is;
  }

  -- the relation with the closure and the scope of its name
  related_own : {vars free : Names} {k : ℕ} → suc m + k ≤ 64 * n → Captured vars free by g direct chain s → Guest (inner [] (x ∷ []) vars) (without x free) c.func f → Related rules T k bound z n tags after y (suc m)
  related_own fits captured is =
      let keeps = closure_keeps g s by f outer scoped few in
      let r1 = related_code code r in
      let objects = closure_objects g s by f outer scoped below small r.objects in
      let old = closures_shaped w.objects {g = g} {s = closed} refl (shaped_scope g (tag_of_scope by (next_scope by w)) own_name (own_names x (length s.heap.list)) closed) r.scopes.are are (closures_kept {s = coded code s} keeps r.scopes.are r.objects r1.closures) in
      record {
        steps = fits;
        items = r.items;
        objects = objects;
        pages = pages_keep w bound _ keeps (closure_no_node g s by f outer scoped) (refl, refl, refl, refl) r.pages;
        closures = closures_last w.objects by f outer (length s.heap.list) below objects named (new_code captured is) old;
        waiters = λ j. closures_wait w.objects bound.objects (λ a l q chain' e. last_kept by a l (a_closure f outer) (a_closure q chain') w.objects e) (w.queues j) (r.waiters j);
        scopes = scopes_more by new (scopes_keep keeps r1.scopes);
        globals = r.globals;
        kept = r.kept;
      }

  stays_own : Stays w g s m bound tags after (suc m)
  stays_own = record {
    heap = record { objects = closure_keeps g s by f outer scoped few; more = omega arith };
    shaped = shaped;
    closed = record { closures = λ a l q chain' e. last_kept by a l (a_closure f outer) (a_closure q chain') w.objects e };
  }

pub own_name_body : {H : Here} {d b : ℕ} → H.by < 64 → (x : List ℕ) (params : List (List ℕ)) (args : Bool) (body : c.Tree c.body) → GuestName x → Guest (inner [] (x ∷ []) H.vars) (without x H.free) c.func (c.fun (Some x) params args body) → ValueBody H d b 0 (c.function (c.fun (Some x) params args body)) (runtime_call (codes "func") (single (t.function (rewritten false c.func 0 (c.fun (Some x) params args body)))))
unfolding rewritten
own_name_body {H = H} below x params args body name guest = record {
  on = λ {T = T} {a = a} {k = k} {w = w} {z = z} {n = n} {g = g} {s = s} {y = y} {m = m} {next = next} {next' = next'} lt room1 r x1.
      let f = c.fun (Some x) params args body in
      let code = code_of (rewritten false c.func 0 f) (length s.scopes ∷ H.chain) in
      let sc = with_scope own_name (own_names x (length s.heap.list)) s in
      let p0 = bind (Source.expr_plan (c.function f) H w) next in
      callee_match (codes "func") (single (t.function (rewritten false c.func 0 f))) next' r (λ r1.
      right_enter (guard_at H func-guard func-silent (es.Obj (length s.heap.list) ∷ []) (with_code code H.by sc) next' (opened_kept-function (length s.codes) (length code.params) H.by s.heap (opened_of r.all.objects)) (steps_hold (rel_pay r1)) r1.all.items (λ small.
      subst (λ q. M H a p0 z n (bind q next') y (suc (suc (suc (suc m))))) (sym (func_plan code (env_of H) sc y))
      (let r2 = rel_pay r1 in
      let all = related_own H.by x f H.around.chain H.chain name below small r2.all {k = suc k} (omega (arith, r2.all.steps)) r.here.captured guest in
      let r3 : Rel H T (suc k) (bound {g = g} {s = s} H.by x f H.around.chain H.chain name below small r2.all) z n (g ++ tag_of_scope H.by (next_scope H.by w) ∷ []) (after {g = g} {s = s} H.by x f H.around.chain H.chain name below small r2.all) y (suc (suc (suc (suc m)))) = record {
        all = all;
        here = in_stays (shaped H.by x f H.around.chain H.chain name below small r2.all) r.all.scopes.are all.scopes.are r.here;
      } in
      left_told (x1.gives.on a (omega arith) (World.object (next_name H.by w)) (es.Obj (length s.heap.list)) _ _ _ _ _ _ _ (named H.by x f H.around.chain H.chain name below small r2.all) (rel_told (made H.by (next_name H.by w) ∷ []) refl r3)
      (stays_trans (stays_step (omega arith)) (stays_own H.by x f H.around.chain H.chain name below small r2.all)))))));
}
