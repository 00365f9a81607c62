-- The relation when the functions that a body declares have their marks and names, and their scope stands last.
use Rattle.std.proofs.Common.{◌≡◌, ℕ, suc, ◌+◌, ◌*◌, ◌≤◌, ◌<◌, Bool, true, false, List, [], ◌∷◌, ◌++◌, length, Some, cond, refl, sym, ◌∙◌, subst, arith}
use Rattle.std.specs.Prelude.{slice_get, ◌||◌}
use Rattle.std.specs.Cmp.Lexicographic.{same_text}
use Rattle.caja_units.specs.Units.{same_units, is_hidden}
use Rattle.es3_objects.specs.declared.value.Value.TheVariants as es
use Rattle.es3_heap.specs.Objects.{Objects}
use Rattle.es3_language.specs.Store as store
use Rattle.es3_language.specs.Store.{Store, Code, name_value, with_name, with_scope}
use Rattle.rows.specs.Nodes.{Rules}
use Rattle.cajita_tree.specs.Tree as c
use Rattle.cajita_meaning.specs.Asking.{func_name, count_of}
use Rattle.cajita_meaning.specs.World as World
use Rattle.cajita_meaning.specs.World.{Pairs, Object, a_closure, made_name, value_at, with_value, with_last, next_scope, World as State}
use Rattle.cajita_meaning.specs.Direct.{Item}
use Rattle.heap_rows.specs.Opening.{first, place_of}
use Rattle.page_natives.specs.Natives.{Kept}
use Rattle.row_simulation.specs.Correspond as rows
use Rattle.row_simulation.proofs.Relation as row_relation
use Rattle.row_simulation.proofs.Row as row_laws
use Rattle.row_simulation.proofs.Changes.{room, last_kept}
use Rattle.cajita_rewrite.specs.Rewrite.{arguments_copy}
use Rattle.es3_language.specs.Arguments.{is_arguments}
use Rattle.cajita_simulation.specs.Guest.{Names, Guest, NewFuncs, is_declared}
use Rattle.cajita_simulation.specs.Scopes.{stored_name}
use Rattle.cajita_simulation.proofs.Heaps.Lists.{slice_get-push-other}
use Rattle.std.proofs.lemmas.Option.{slice_get_within}
use Rattle.cajita_simulation.proofs.Heaps.Names.{name_value-with_name}
use Rattle.cajita_simulation.proofs.Heaps.Opened.{IsOpened, opened_kept, opened_kept-named}
use Rattle.cajita_simulation.proofs.Heaps.Functions.{marked_object, prototype_object, opened_kept-function}
use Rattle.cajita_simulation.proofs.Heaps.Made.{with_named}
use Rattle.cajita_simulation.proofs.Relation.{closures_wait, ObjectsAre, tag_of_scope, Tags, Temps, OptVal, AreScopes, ClosuresAre, Captured, Related, Shaped, shaped_trans, Stays}
use Rattle.cajita_simulation.proofs.Scopes.{stored_is, captured_stays}
use Rattle.cajita_simulation.proofs.Written.{value_at-with_value}
use Rattle.cajita_simulation.proofs.Changes.{closures_shaped, scopes_keep}
use Rattle.cajita_simulation.proofs.Entering.{NewScopes, scopes_more, scopes_are, shaped_scope, shaped_code, scopes_coded}
use Rattle.cajita_simulation.proofs.Closures.{marked_heap, closed_store, closure_keeps, closure_no_node, closure_objects, closure_named, closures_with, shaped_closure}
use Rattle.cajita_simulation.proofs.Declaring.Stores.{declared_code, all_codes, bare_heap, bare_store, named_store, bound_names, length-marked}
use Rattle.cajita_simulation.proofs.Declaring.Names.{all_objects, bound_pairs, objects_world, declared_name, functions_other, pairs_other}

-- a step more for each function
abbrev pub one_each : c.Tree c.funcs → ℕ → ℕ
one_each c.no_funcs m = m
one_each (c.more_funcs f fs) m = one_each fs (suc m)

pub one_each_is : (fs : c.Tree c.funcs) (m : ℕ) → one_each fs m ≡ m + count_of fs
one_each_is c.no_funcs m = omega arith
one_each_is (c.more_funcs f fs) m = let h = one_each_is fs (suc m) in omega (arith, h)

-- as many more objects can be named
abbrev pub Few : c.Tree c.funcs → ℕ → Type 0
Few fs m = (j : ℕ) → j < count_of fs → m + suc j ≤ 4294967295

few_first : (f : c.Tree c.func) (fs : c.Tree c.funcs) (m : ℕ) → Few (c.more_funcs f fs) m → suc m ≤ 4294967295
few_first f fs m few = let h = few 0 (omega arith) in omega (arith, h)

few_rest : (f : c.Tree c.func) (fs : c.Tree c.funcs) (m : ℕ) → Few (c.more_funcs f fs) m → Few fs (suc m)
few_rest f fs m few j lt = let h = few (suc j) (omega (arith, lt)) in omega (arith, h)

-- codes and objects more, and the same scopes

pub codes_kept : (fs : c.Tree c.funcs) (chain : List ℕ) (codes : List Code) (k : ℕ) (code : Code) → slice_get codes k ≡ Some code → slice_get (all_codes fs chain codes) k ≡ Some code
codes_kept c.no_funcs chain codes k code e = e
codes_kept (c.more_funcs f fs) chain codes k code e = codes_kept fs chain (codes ++ declared_code f chain ∷ []) k code (slice_get-push-other codes k (declared_code f chain) (slice_get_within codes k code e) ∙ e)

pub shaped_bare : (fs : c.Tree c.funcs) (chain : List ℕ) (by : ℕ) (g : Tags) (s : Store) → Shaped g s g (bare_store fs chain by s)
shaped_bare fs chain by g s = record { count = omega arith; shape = λ a x lt. refl; fixed = λ a lt. refl; codes = λ k code e. codes_kept fs chain s.codes k code e; tags = λ a t e. e }

pub shaped_named : (fs : c.Tree c.funcs) (chain : List ℕ) (by : ℕ) (g : Tags) (s : Store) → Shaped g s g (named_store fs chain by s)
shaped_named fs chain by g s = record { count = omega arith; shape = λ a x lt. refl; fixed = λ a lt. refl; codes = λ k code e. codes_kept fs chain s.codes k code e; tags = λ a t e. e }

pub opened_bare : (fs : c.Tree c.funcs) (chain : List ℕ) (by : ℕ) (codes : List Code) (h : Objects) → IsOpened h → IsOpened (bare_heap fs chain by codes h)
opened_bare c.no_funcs chain by codes h is = is
opened_bare (c.more_funcs f fs) chain by codes h is = opened_bare fs chain by (codes ++ declared_code f chain ∷ []) _ (opened_kept-function (length codes) (length (declared_code f chain).params) by h is)

pub opened_marked : (code params by : ℕ) (h : Objects) → IsOpened h → IsOpened (marked_heap code params by h)
opened_marked code params by h is = opened_kept (with_named h (marked_object code params by (suc (length h.list))) by) (prototype_object (length h.list)) (opened_kept-named h (marked_object code params by (suc (length h.list))) by is)

-- objects

objects_all : (fs : c.Tree c.funcs) (g : Tags) (s : Store) (by : ℕ) (direct chain : List ℕ) {objects : ℕ → List Object} {m : ℕ} → by < 64 → Few fs m → ObjectsAre first place_of objects s.heap m → ObjectsAre first place_of (all_objects fs direct by objects) (named_store fs chain by s).heap (one_each fs m)
objects_all c.no_funcs g s by direct chain below few old = old
objects_all (c.more_funcs f fs) g s by direct chain {m = m} below few old =
    objects_all fs g (closed_store (declared_code f chain) by s) by direct chain below (few_rest f fs m few) (closure_objects g s by f direct chain below (few_first f fs m few) old)

pub keeps_all : (fs : c.Tree c.funcs) (g : Tags) (s : Store) (by : ℕ) (direct chain : List ℕ) {objects : ℕ → List Object} {m : ℕ} → by < 64 → Few fs m → ObjectsAre first place_of objects s.heap m → rows.Keeps s.heap (named_store fs chain by s).heap
keeps_all c.no_funcs g s by direct chain below few old = row_laws.keeps_refl
keeps_all (c.more_funcs f fs) g s by direct chain {m = m} below few old =
    row_laws.keeps_trans (closure_keeps g s by f direct chain (room by below (few_first f fs m few) old))
    (keeps_all fs g (closed_store (declared_code f chain) by s) by direct chain below (few_rest f fs m few) (closure_objects g s by f direct chain below (few_first f fs m few) old))

pub no_node_all : (fs : c.Tree c.funcs) (g : Tags) (s : Store) (by : ℕ) (direct chain : List ℕ) → rows.NoNewNode s.heap (named_store fs chain by s).heap
no_node_all c.no_funcs g s by direct chain = row_laws.no_node_refl
no_node_all (c.more_funcs f fs) g s by direct chain = row_laws.no_node_trans (closure_no_node g s by f direct chain) (no_node_all fs g (closed_store (declared_code f chain) by s) by direct chain)

-- closures

closures_all : (fs : c.Tree c.funcs) (g : Tags) (s : Store) (by : ℕ) (direct chain : List ℕ) {objects : ℕ → List Object} {vars free : Names} {m : ℕ} → by < 64 → Few fs m → AreScopes s → ObjectsAre first place_of objects s.heap m → Captured vars free by g direct chain s → Guest vars free c.funcs fs → ClosuresAre objects g s → ClosuresAre (all_objects fs direct by objects) g (named_store fs chain by s)
closures_all c.no_funcs g s by direct chain below few are old captured guest r = r
closures_all (c.more_funcs f fs) g s by direct chain {objects = objects} {m = m} below few are old captured guest r =
    let code = declared_code f chain in
    let small = few_first f fs m few in
    closures_all fs g (closed_store code by s) by direct chain below (few_rest f fs m few) are (closure_objects g s by f direct chain below small old) (captured_stays (shaped_closure g s by f direct chain) are are captured) guest.1
    (closures_with g s by f direct chain below small are old captured guest.0 (closures_shaped objects {g = g} {s = s} refl (shaped_code g code s) are are r))

-- a declared name stands for its closure on both sides
pub declared_alike : (fs : c.Tree c.funcs) (g : Tags) (s : Store) (by : ℕ) (direct chain : List ℕ) {objects : ℕ → List Object} {m : ℕ} → by < 64 → Few fs m → ObjectsAre first place_of objects s.heap m → (x : List ℕ) → is_declared fs x ≡ true → (pairs : Pairs) (names : store.Names) → OptVal (named_store fs chain by s).heap (value_at x (bound_pairs fs direct by objects pairs)) (name_value x (bound_names fs (length s.heap.list) names))
declared_alike c.no_funcs g s by direct chain below few old x is pairs names = cc
declared_alike (c.more_funcs f fs) g s by direct chain {objects = objects} {m = m} below few old x is pairs names =
    let code = declared_code f chain in
    let small = few_first f fs m few in
    let s1 = closed_store code by s in
    let place = length s.heap.list in
    let v = World.object (made_name by (length (objects by))) in
    let objects1 = with_last by (a_closure f direct) objects in
    let pairs1 = with_value (func_name f) v pairs in
    let names1 = with_name (func_name f) (es.Obj place) names in
    let made = closure_objects g s by f direct chain below small old in
    let long : length s1.heap.list ≡ suc (suc place) = length-marked (length s.codes) (length code.params) by s.heap in
    let named : rows.Named (named_store fs chain by s1).heap (made_name by (length (objects by))) place =
    row_relation.val_keep (keeps_all fs g s1 by direct chain below (few_rest f fs m few) made) v (es.Obj place) (closure_named g s by f direct chain below old) in
    let cases = elim (is_declared fs x) as (λ b. is_declared fs x ≡ b → (same_units x (func_name f) || b) ≡ true → OptVal (named_store fs chain by s1).heap (value_at x (bound_pairs fs direct by objects1 pairs1)) (name_value x (bound_names fs (suc (suc place)) names1))) [
      | true ↦ λ later e. subst (λ l. OptVal (named_store fs chain by s1).heap (value_at x (bound_pairs fs direct by objects1 pairs1)) (name_value x (bound_names fs l names1))) long (declared_alike fs g s1 by direct chain below (few_rest f fs m few) made x later pairs1 names1)
      | false ↦ λ out e.
          let same : x ≡ func_name f = same_text x (func_name f) (sym (this_one (same_units x (func_name f)) e)) in
          rw (pairs_other fs direct by objects1 pairs1 x out, functions_other fs (suc (suc place)) names1 x out)
          (subst (λ q. OptVal (named_store fs chain by s1).heap (value_at q pairs1) (name_value q names1)) (sym same)
          (rw (value_at-with_value (func_name f) v pairs, name_value-with_name (func_name f) (es.Obj place) names) named))
    ] in cases refl is
  where
    this_one : (b : Bool) → (b || false) ≡ true → b ≡ true
    this_one true e = refl
    this_one false e = cc

-- no function has the name that `arguments` has in the interpreter
pub stored_out : (params vars : List (List ℕ)) (fs : c.Tree c.funcs) (x : List ℕ) → NewFuncs params vars fs → is_declared fs x ≡ false → is_declared fs (stored_name x) ≡ false
stored_out params vars fs x new out = elim (is_arguments x) as (λ b. is_declared fs (cond b arguments_copy x) ≡ false) [
  | true ↦
      let cases = elim (is_declared fs arguments_copy) as (λ b. is_declared fs arguments_copy ≡ b → b ≡ false) [
        | true ↦ λ is. absurd (no_open (declared_name params vars fs arguments_copy new is).guest.open_name)
        | false ↦ λ is. refl
      ] in cases refl
  | false ↦ out
]
  where
    no_open : is_hidden arguments_copy ≡ false → ⊥
    no_open e = cc

-- names that both scopes have alike, when the functions are bound in both
pub scope_alike : (params vars : List (List ℕ)) (fs : c.Tree c.funcs) (g : Tags) (s : Store) (by : ℕ) (direct chain : List ℕ) {objects : ℕ → List Object} {m : ℕ} → by < 64 → Few fs m → ObjectsAre first place_of objects s.heap m → NewFuncs params vars fs → (x : List ℕ) (pairs : Pairs) (names : store.Names) → OptVal s.heap (value_at x pairs) (name_value (stored_name x) names) → OptVal (named_store fs chain by s).heap (value_at x (bound_pairs fs direct by objects pairs)) (name_value (stored_name x) (bound_names fs (length s.heap.list) names))
scope_alike params vars fs g s by direct chain {objects = objects} below few old new x pairs names was =
    let cases = elim (is_declared fs x) as (λ b. is_declared fs x ≡ b → OptVal (named_store fs chain by s).heap (value_at x (bound_pairs fs direct by objects pairs)) (name_value (stored_name x) (bound_names fs (length s.heap.list) names))) [
      | true ↦ λ is. subst (λ q. OptVal (named_store fs chain by s).heap (value_at x (bound_pairs fs direct by objects pairs)) (name_value q (bound_names fs (length s.heap.list) names))) (sym (stored_is x (declared_name params vars fs x new is).guest)) (declared_alike fs g s by direct chain below few old x is pairs names)
      | false ↦ λ out. rw (pairs_other fs direct by objects pairs x out, functions_other fs (length s.heap.list) names (stored_name x) (stored_out params vars fs x new out)) (Rattle.cajita_simulation.proofs.Relation.optval_keep {i = 0} {j = 0} (record { objects = keeps_all fs g s by direct chain below few old; more = omega arith }) _ _ was)
    ] in cases refl

-- closures that were there are there
pub closures_older : (fs : c.Tree c.funcs) (direct : List ℕ) (by : ℕ) (objects : ℕ → List Object) (a l : ℕ) (o : Object) → slice_get (objects a) l ≡ Some o → slice_get (all_objects fs direct by objects a) l ≡ Some o
closures_older c.no_funcs direct by objects a l o e = e
closures_older (c.more_funcs f fs) direct by objects a l o e = closures_older fs direct by (with_last by (a_closure f direct) objects) a l o (last_kept by a l (a_closure f direct) o objects e)

-- the relation
pub related_declared : {rules : Rules} {T T' : Temps} {j k : ℕ} {w : State} {z : List Item} {n : ℕ} {g : Tags} {s : Store} {y : Kept} {m : ℕ} {pairs : Pairs} {owner : store.Owner} {names : store.Names} {vars free : Names} (fs : c.Tree c.funcs) (by : ℕ) (direct chain : List ℕ) → by < 64 → Few fs m → one_each fs m + k ≤ 64 * n → NewScopes T T' pairs owner names (named_store fs chain by s) → Captured vars free by (g ++ tag_of_scope by (next_scope by w) ∷ []) direct chain (with_scope owner names s) → Guest vars free c.funcs fs → Related rules T j w z n g s y m
    → Related rules T' k (World.with_scope by pairs (objects_world fs direct by w)) z n (g ++ tag_of_scope by (next_scope by w) ∷ []) (with_scope owner names (named_store fs chain by s)) y (one_each fs m)
related_declared {w = w} {g = g} {s = s} {pairs = pairs} {owner = owner} {names = names} fs by direct chain below few fits new captured guest r =
    let keeps = keeps_all fs g s by direct chain below few r.objects in
    let tags = g ++ tag_of_scope by (next_scope by w) ∷ [] in
    let scoped = with_scope owner names s in
    let are : AreScopes scoped = scopes_are owner names s new.own r.scopes.are in
    record {
      steps = fits;
      items = r.items;
      objects = objects_all fs g s by direct chain below few r.objects;
      pages = row_laws.pages_keep w (World.with_scope by pairs (objects_world fs direct by w)) _ keeps (no_node_all fs g s by direct chain) (refl, refl, refl, refl) r.pages;
      closures = closures_all fs tags scoped by direct chain below few are r.objects captured guest (closures_shaped w.objects {g = g} {s = s} refl (shaped_scope g (tag_of_scope by (next_scope by w)) owner names s) r.scopes.are are r.closures);
      waiters = λ j. closures_wait w.objects (objects_world fs direct by w).objects (λ a l q chain' e. closures_older fs direct by w.objects a l (a_closure q chain') e) (w.queues j) (r.waiters j);
      scopes = scopes_more by new (scopes_coded (all_codes fs chain s.codes) (scopes_keep keeps r.scopes));
      globals = r.globals;
      kept = r.kept;
    }

pub stays_declared : {w : State} {g : Tags} {s : Store} {m i j : ℕ} (fs : c.Tree c.funcs) (by : ℕ) (direct chain : List ℕ) (pairs : Pairs) (owner : store.Owner) (names : store.Names) → by < 64 → Few fs m → ObjectsAre first place_of w.objects s.heap m → i ≤ j → Stays w g s i (World.with_scope by pairs (objects_world fs direct by w)) (g ++ tag_of_scope by (next_scope by w) ∷ []) (with_scope owner names (named_store fs chain by s)) j
stays_declared {w = w} {g = g} {s = s} fs by direct chain pairs owner names below few old le = record {
  heap = record { objects = keeps_all fs g s by direct chain below few old; more = le };
  shaped = shaped_trans (shaped_named fs chain by g s) (shaped_scope g (tag_of_scope by (next_scope by w)) owner names (named_store fs chain by s));
  closed = record { closures = λ a l q chain' e. closures_older fs direct by w.objects a l (a_closure q chain') e };
}
