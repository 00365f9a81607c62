-- The relation where the statements of a module begin, whatever ran before.
use Rattle.std.proofs.Common.{◌≡◌, ◌≢◌, ℕ, suc, ◌+◌, ◌*◌, ◌≤◌, ◌<◌, Bool, true, false, List, [], ◌∷◌, ◌++◌, length, Some, cond, refl, sym, ap, ◌∙◌, subst, arith}
use Rattle.std.specs.Prelude.{slice_get, is_some, nat_eq}
use Rattle.std.specs.Cmp.Lexicographic.{same_text}
use Rattle.std.proofs.lemmas.List.{length-append}
use Rattle.std.proofs.lemmas.Bool.Decides.{nat_tests}
use Rattle.caja_units.specs.Units.{same_units}
use Rattle.es3_objects.specs.declared.value.Value.TheVariants as es
use Rattle.es3_language.specs.Store as store
use Rattle.es3_language.specs.Store.{Store, name_value}
use Rattle.es3_language.specs.Arguments.{is_fixed}
use Rattle.es3_language.specs.References.{slot, resolve}
use Rattle.cajita_tree.specs.Tree as c
use Rattle.rows.specs.Nodes.{Rules}
use Rattle.cajita_rewrite.specs.Rewrite.{runtime_name, result_name, temps}
use Rattle.cajita_meaning.specs.World.{Value, Pairs, World, undefined, with_scope, with_vars, with_params, next_scope}
use Rattle.cajita_meaning.specs.Direct.{Item}
use Rattle.heap_rows.specs.Opening.{globals_id, runtime_id}
use Rattle.page_natives.specs.Natives.{Kept}
use Rattle.cajita_simulation.specs.Guest.{module_free, Guest}
use Rattle.cajita_simulation.proofs.Heaps.Lists.{slice_get-push}
use Rattle.row_simulation.proofs.Changes.{by_number}
use Rattle.cajita_simulation.proofs.Relation.{Turn, EsValue, Vals, tag_of_scope, Tags, ScopeIs, names_at, declared, unknown, holds, Temps, no_temps, SlotIs, Here, In, Related, Between, Rel, related_steps}
use Rattle.cajita_simulation.proofs.Laws.{hold}
use Rattle.cajita_simulation.proofs.Scopes.{in_stays}
use Rattle.cajita_simulation.proofs.Entering.{names_new, names_other, scopes_are, NewScopes, related_function}
use Rattle.cajita_simulation.proofs.Declaring.Stores.{named_store}
use Rattle.cajita_simulation.proofs.Declaring.Names.{bound_pairs, objects_world}
use Rattle.cajita_simulation.proofs.Declaring.Relation.{one_each, Few, keeps_all, shaped_named, related_declared}
use Rattle.cajita_simulation.proofs.Load.Names.{Module, Declares}
use Rattle.cajita_simulation.proofs.Load.Bound.{is_temp, known, names_of, Opens, opens, GuestNames, module_alike}
use Rattle.row_simulation.specs.Correspond.{Keeps}
use Rattle.row_simulation.proofs.Row.{keeps_trans}
use Rattle.cajita_simulation.proofs.Load.Entering.{module_code, function_keeps, made_store, functions_store, owner_of, place_first}

-- where the statements of the module stand: it may read what it imports too
abbrev pub here : Rules → Turn → ℕ → Module → World → Store → Here
here rules turn by q w s = record {
  rules = rules;
  turn = turn;
  around = record { chain = next_scope by w ∷ []; calls = 1 };
  by = by;
  chain = length s.scopes ∷ [];
  vars = known q;
  free = module_free q.vars q.funcs;
  act = length s.scopes;
  this = globals_id;
}

-- nothing was evaluated yet: the module's result is undefined, and its temporaries are declared
abbrev temps_only : ℕ → ℕ → Temps
temps_only act count c x = cond (nat_eq c act) (cond (is_temp count x) declared unknown) unknown

abbrev pub first_temps : Module → Store → Temps
first_temps q s = hold (length s.scopes) result_name undefined (temps_only (length s.scopes) (temps c.stmts q.list))

-- the world when the imports, the variables and the functions are bound, and the tags with that of the new scope
abbrev pub outer : ℕ → World → List ℕ
outer by w = next_scope by w ∷ []

abbrev pub first_pairs : Module → List Value → Pairs
first_pairs q vs = with_vars q.vars (with_params q.imports vs [])

abbrev pub module_pairs : ℕ → Module → List Value → World → Pairs
module_pairs by q vs w = bound_pairs q.funcs (next_scope by w ∷ []) by w.objects (with_vars q.vars (with_params q.imports vs []))

abbrev pub bound_world : ℕ → Module → List Value → World → World
bound_world by q vs w = with_scope by (module_pairs by q vs w) (objects_world q.funcs (next_scope by w ∷ []) by w)

abbrev pub bound_tags : ℕ → World → Tags → Tags
bound_tags by w g = g ++ tag_of_scope by (next_scope by w) ∷ []

-- the scope when the imports are read; before the marks, the functions are those of the interpreter alone
abbrev pub scope_names : ℕ → Module → List EsValue → Store → store.Names
scope_names by q us s = names_of q (place_first by q s) us

abbrev pub scoped_store : ℕ → Module → List EsValue → Store → Store
scoped_store by q us s = store.with_scope (owner_of q s) (scope_names by q us s) (made_store by q s)

abbrev pub read_store : ℕ → Module → List EsValue → Store → Store
read_store by q us s = store.with_scope (owner_of q s) (scope_names by q us s) (functions_store by q s)

abbrev pub begun_store : ℕ → Module → List EsValue → Store → Store
begun_store by q us s = named_store q.funcs (length s.scopes ∷ []) by (scoped_store by q us s)

same_number : (n : ℕ) → nat_eq n n ≡ true
same_number n = grind (arith, nat_tests)

other_number : (c n : ℕ) → c ≢ n → nat_eq c n ≡ false
other_number c n ne = elim (nat_eq c n) as (λ b. nat_eq c n ≡ b → b ≡ false) [
  | true ↦ λ e. absurd (ne (grind (arith, nat_tests)))
  | false ↦ λ e. refl
] refl

-- the module's result is undefined, temporaries are declared, and nothing is known of other hidden names
temps_begin : (q : Module) (place : ℕ) (us : List EsValue) (s : Store) (n : ℕ) (x : List ℕ) → names_at s n ≡ names_of q place us → Opens q place us → SlotIs s n x (hold n result_name undefined (temps_only n (temps c.stmts q.list)) n x)
temps_begin q place us s n x at opens =
    let known : (b : Bool) → is_temp (temps c.stmts q.list) x ≡ b → SlotIs s n x (cond b declared unknown) = by_temp in
    let cases = elim (same_units x result_name) as (λ b. same_units x result_name ≡ b → SlotIs s n x (cond b (holds undefined) (cond (is_temp (temps c.stmts q.list) x) declared unknown))) [
      | true ↦ λ is. subst (λ k. SlotIs s n k (holds undefined)) (sym (same_text x result_name (sym is))) (es.Undefined, ap (name_value result_name) at ∙ opens.result, tt)
      | false ↦ λ is. known (is_temp (temps c.stmts q.list) x) refl
    ] in
    subst (λ b. SlotIs s n x (cond b (cond (same_units x result_name) (holds undefined) (cond b (cond (is_temp (temps c.stmts q.list) x) declared unknown) unknown)) (cond b (cond (is_temp (temps c.stmts q.list) x) declared unknown) unknown))) (sym (same_number n)) (cases refl)
  where
    by_temp : (b : Bool) → is_temp (temps c.stmts q.list) x ≡ b → SlotIs s n x (cond b declared unknown)
    by_temp true is = let p = opens.temps x is in (p.0, ap (name_value x) at ∙ p.1)
    by_temp false is = tt

is_runtime : (o : EsValue) (e : EsValue) → Some o ≡ Some e → e ≡ o
is_runtime o e is = cc

new_scopes : (q : Module) (pairs : Pairs) (us : List EsValue) (by : ℕ) (s s1 : Store) → ScopeIs s1.heap pairs (scope_names by q us s) → Opens q (place_first by q s) us → NewScopes no_temps (first_temps q s1) pairs (owner_of q s) (scope_names by q us s) s1
new_scopes q pairs us by s s1 alike opens = record {
  same = alike;
  own = tt;
  runtime = λ e is. is_runtime (es.Obj runtime_id) e (sym opens.runtime ∙ is);
  here = λ x hidden. temps_begin q (place_first by q s) us (store.with_scope (owner_of q s) (scope_names by q us s) s1) (length s1.scopes) x (names_new (owner_of q s) (scope_names by q us s) s1) opens;
  others = λ k x ne. ap (λ b. cond b (cond (same_units x result_name) (holds undefined) (cond b (cond (is_temp (temps c.stmts q.list) x) declared unknown) unknown)) (cond b (cond (is_temp (temps c.stmts q.list) x) declared unknown) unknown)) (other_number k (length s1.scopes) ne);
}

-- a name of the innermost scope is found there
resolve_first : (chain : List ℕ) (s : Store) (c : ℕ) (x : List ℕ) → is_some (name_value x (names_at s c)) ≡ true → resolve (c ∷ chain) s x ≡ slot c x
resolve_first chain s c x there = rw there refl

-- where the names are found, before the marks and behind them
pub in_begins : (rules : Rules) (turn : Turn) (by : ℕ) (q : Module) (us : List EsValue) (w : World) (g : Tags) (s : Store) → length g ≡ length s.scopes → Opens q (place_first by q s) us → In (here rules turn by q w s) (bound_tags by w g) (scoped_store by q us s)
in_begins rules turn by q us w g s count opens = record {
  captured = record {
    chained = (ap (slice_get (bound_tags by w g)) (sym count) ∙ slice_get-push g (tag_of_scope by (next_scope by w)), tt);
    within = (below, tt);
    names = λ x known. record { scope = length s.scopes; below = below; at = resolve_first [] after (length s.scopes) x (ap (λ l. is_some (name_value x l)) names_are ∙ opens.names x known); written = λ free. written };
    runtime = length s.scopes;
    runtime_below = below;
    runtime_at = resolve_first [] after (length s.scopes) runtime_name runtime_bound;
    runtime_bound = runtime_bound;
  };
  act = below;
  written = written;
  temps = λ x hidden there. resolve_first [] after (length s.scopes) x there;
}
  where
    after : Store
    after = scoped_store by q us s

    names_are : names_at (scoped_store by q us s) (length s.scopes) ≡ scope_names by q us s
    names_are = names_new (owner_of q s) (scope_names by q us s) (made_store by q s)

    below : length s.scopes < length (scoped_store by q us s).scopes
    below = omega (arith, length-append s.scopes (record { owner = owner_of q s; names = scope_names by q us s } ∷ []))

    runtime_bound : is_some (name_value runtime_name (names_at (scoped_store by q us s) (length s.scopes))) ≡ true
    runtime_bound = ap (λ l. is_some (name_value runtime_name l)) names_are ∙ ap is_some opens.runtime

    written : is_fixed (slice_get (scoped_store by q us s).scopes (length s.scopes)) ≡ false
    written = ap is_fixed (slice_get-push s.scopes (record { owner = owner_of q s; names = scope_names by q us s }))

pub begins_runtime : (by : ℕ) (q : Module) (us : List EsValue) (s : Store) → Opens q (place_first by q s) us → ((k : ℕ) (e : EsValue) → name_value runtime_name (names_at s k) ≡ Some e → e ≡ es.Obj runtime_id) → (k : ℕ) (e : EsValue) → name_value runtime_name (names_at (scoped_store by q us s) k) ≡ Some e → e ≡ es.Obj runtime_id
begins_runtime by q us s opens was k e is =
    by_number k (length s.scopes) (e ≡ es.Obj runtime_id)
    (λ same. is_runtime (es.Obj runtime_id) e (sym (ap (name_value runtime_name) (ap (names_at (scoped_store by q us s)) same ∙ names_new (owner_of q s) (scope_names by q us s) (made_store by q s)) ∙ opens.runtime) ∙ is))
    (λ other. was k e (sym (ap (name_value runtime_name) (names_other (owner_of q s) (scope_names by q us s) (made_store by q s) k other)) ∙ is))

-- the relation behind the marks, when the direct meaning took a step for each import, each function and one more at least, and the interpreter as many as it takes
pub opening : (rules : Rules) (turn : Turn) (by : ℕ) → by < 64 → (q : Module) (vs : List Value) (us : List EsValue) {w : World} {z : List Item} {n : ℕ} {g : Tags} {s : Store} {y : Kept} {m : ℕ} (n' m' : ℕ) → Guest (known q) (module_free q.vars q.funcs) c.stmts q.list → Declares q → GuestNames q → Guest (known q) (module_free q.vars q.funcs) c.funcs q.funcs → Vals (made_store by q s).heap vs us → length vs ≡ length q.imports → Few q.funcs (suc (suc m)) → one_each q.funcs (suc (suc m)) ≤ m' → m' + 40 ≤ 64 * n' → 64 * n + 2 ≤ 64 * n' → Between rules w z n g s y m
    → Rel (here rules turn by q w s) (first_temps q s) 40 (bound_world by q vs w) z n' (bound_tags by w g) (begun_store by q us s) y m' × Keeps s.heap (begun_store by q us s).heap
opening rules turn by below q vs us {w = w} {z = z} {n = n} {g = g} {s = s} {y = y} {m = m} n' m' guest same guests functions are long few some fits more r =
    let open_names = opens (known q) (module_free q.vars q.funcs) q (place_first by q s) us guest same guests in
    let begun : Related rules no_temps 0 w z n' g s y m = related_steps (omega arith) (omega (arith, more, r.steps)) r in
    let with_function : Related rules no_temps 0 w z n' g (made_store by q s) y (suc (suc m)) = related_function (module_code q) by (omega (arith, more, r.steps)) begun in
    let direct = next_scope by w ∷ [] in
    let chain = length s.scopes ∷ [] in
    let stands = in_begins rules turn by q us w g s r.scopes.count open_names in
    let alike = module_alike (known q) (module_free q.vars q.funcs) q g (made_store by q s) by direct chain below few with_function.objects vs us guest same guests are long in
    let scopes = new_scopes q (module_pairs by q vs w) us by s (named_store q.funcs chain by (made_store by q s)) alike open_names in
    let all = related_declared {k = 0} q.funcs by direct chain below few (omega (arith, some, fits)) scopes stands.captured functions with_function in (
      record {
        all = related_steps some fits all;
        here = in_stays (shaped_named q.funcs chain by (bound_tags by w g) (scoped_store by q us s)) (scopes_are (owner_of q s) (scope_names by q us s) (made_store by q s) tt r.scopes.are) all.scopes.are stands;
      },
      keeps_trans (function_keeps by q s) (keeps_all q.funcs g (made_store by q s) by direct chain below few with_function.objects),
    )
