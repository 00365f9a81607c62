-- A body that names `arguments`: what corresponds when its head has made the array, and when its functions have their names too.
use Rattle.std.proofs.Common.{◌≡◌, ℕ, suc, ◌+◌, ◌*◌, ◌≤◌, ◌<◌, true, false, List, [], ◌∷◌, ◌++◌, length, cond, inl, inr, refl, sym, ap, ◌∙◌, subst, arith}
use Rattle.std.specs.Cmp.Lexicographic.{same_text}
use Rattle.std.proofs.lemmas.List.{length-append}
use Rattle.caja_units.specs.Units.{is_hidden}
use Rattle.es3_objects.specs.declared.value.Tag.TheVariants as tag
use Rattle.es3_heap.specs.Objects as heap
use Rattle.es3_heap.specs.Objects.{Objects, with_object}
use Rattle.es3_heap.specs.Making.{count_at}
use Rattle.es3_language.specs.Store as store
use Rattle.es3_language.specs.Store.{Store, Names, activation, name_value, with_name, with_heap, with_scope}
use Rattle.es3_language.specs.Arguments.{is_arguments, arguments_name}
use Rattle.rows.specs.Nodes.{Rules}
use Rattle.cajita_tree.specs.Tree as c
use Rattle.cajita_rewrite.specs.Rewrite.{arguments_copy}
use Rattle.cajita_meaning.specs.Asking.{func_name}
use Rattle.cajita_meaning.specs.World as World
use Rattle.cajita_meaning.specs.World.{Value, Pairs, Object, an_array, a_closure, made_name, value_at, with_value, with_last, next_scope, World as State}
use Rattle.cajita_meaning.specs.Direct.{Item}
use Rattle.heap_rows.specs.Opening.{first, place_of}
use Rattle.page_natives.specs.Natives.{Kept}
use Rattle.row_simulation.specs.Correspond as rows
use Rattle.row_simulation.proofs.Relation as row_relation
use Rattle.row_simulation.proofs.Row as row_laws
use Rattle.row_simulation.proofs.First.{first_is}
use Rattle.row_simulation.proofs.Changes.{last_kept, objects_made, named_keeps, named_no_node, room}
use Rattle.row_simulation.proofs.Added.{objects_with, awaiting_keeps, awaiting_no_node}
use Rattle.row_simulation.proofs.Arrays.{array_new, array_is}
use Rattle.cajita_simulation.specs.Guest.{NewFuncs, is_declared}
use Rattle.cajita_simulation.proofs.Heaps.Names.{name_value-with_name}
use Rattle.cajita_simulation.proofs.Heaps.Made.{with_named, tagged, next_name as next_tag}
use Rattle.cajita_simulation.proofs.Heaps.Grown.{grown_last, grown_kept}
use Rattle.cajita_simulation.proofs.Heaps.Arguments.{arguments_object}
use Rattle.cajita_simulation.proofs.Heaps.ArgumentItems.{arguments_are_new, arguments_plain}
use Rattle.cajita_simulation.proofs.Relation.{closures_wait, EsValue, Vals, ObjectsAre, ScopeTag, tag_of_scope, Tags, Temps, Slot, unknown, declared, holds, keys, SlotIs, ScopeIs, SharedAre, ScopesAre, OptVal, AreScopes, ClosuresAre, Related, Shaped, shaped_trans, optval_keep}
use Rattle.cajita_simulation.proofs.Written.{value_at-with_value, value_at-with_value-other}
use Rattle.cajita_simulation.proofs.Shared.{plain_keep, shared_keep}
use Rattle.cajita_simulation.proofs.Changes.{closures_kept, closures_shaped, scopes_keep}
use Rattle.cajita_simulation.proofs.Entering.{NewScopes, scopes_more, scopes_are, scopes_coded, shaped_scope}
use Rattle.cajita_simulation.proofs.Closures.{last_cases}
use Rattle.cajita_simulation.proofs.Calling.Names.{shown_apart, other_bound}
use Rattle.cajita_simulation.proofs.Calling.Head.{frozen_array, entry_of, args_names, args_store}
use Rattle.cajita_simulation.proofs.Declaring.Stores.{all_codes, bare_store, bound_names}
use Rattle.cajita_simulation.proofs.Declaring.Names.{Placed, name_new, declared_name, all_objects, bound_pairs, objects_world, functions_other, pairs_other}
use Rattle.cajita_simulation.proofs.Declaring.Relation.{closures_older, codes_kept}
use Rattle.cajita_simulation.proofs.Declaring.Awaiting.{AllAwait, await_later, Begun, Granted, granted_alike}
use Rattle.cajita_simulation.proofs.Declaring.Bare.{objects_bare, keeps_bare, no_node_bare, await_bare}

-- an array is no closure
closures_array : (objects : ℕ → List Object) {g : Tags} {s : Store} (by : ℕ) (us : List Value) → ClosuresAre objects g s → ClosuresAre (with_last by (an_array true us) objects) g s
closures_array objects by us r = λ m n q direct known. elim (last_cases by (an_array true us) (a_closure q direct) objects m n known) [
  | inl before ↦ r m n q direct before
  | inr last ↦ absurd (no_closure q direct last.2)
]
  where
    no_closure : (q : c.Tree c.func) (direct : List ℕ) → an_array true us ≡ a_closure q direct → ⊥
    no_closure q direct e = cc

-- other objects that share values with parameters

slot_shared : (l : List store.Shared) (s : Store) (c : ℕ) (x : List ℕ) (t : Slot) → SlotIs s c x t → SlotIs (record s { shared = l }) c x t
slot_shared l s c x unknown p = tt
slot_shared l s c x declared p = p
slot_shared l s c x (holds v) p = p
slot_shared l s c x (keys ks) p = p

scopes_shared : {T : Temps} {g : Tags} {scopes : ℕ → List Pairs} {s : Store} (l : List store.Shared) → SharedAre s.heap (length s.scopes) l → ScopesAre T g scopes s → ScopesAre T g scopes (record s { shared = l })
scopes_shared {s = s} l shared r = record { same = r.same; once = r.once; known = r.known; count = r.count; temps = λ c x hidden. slot_shared l s c x _ (r.temps c x hidden); runtime = r.runtime; are = λ c. r.are c; shared = shared }

shared_last : (h : Objects) (n : ℕ) (l : List store.Shared) (e : store.Shared) → SharedAre h n l → rows.IsPlain first h e.object → e.scope < n → SharedAre h n (l ++ e ∷ [])
shared_last h n [] e p plain lt = (plain, lt, tt)
shared_last h n (x ∷ l) e p plain lt = (p.0, p.1, shared_last h n l e p.2 plain lt)

-- the functions' names are where they were
pub placed_more : (params vars : List (List ℕ)) (fs : c.Tree c.funcs) (place : ℕ) (a b : EsValue) (names : Names) → NewFuncs params vars fs → Placed fs place names → Placed fs place (with_name arguments_copy a (with_name arguments_name b names))
placed_more params vars c.no_funcs place a b names new p = tt
placed_more params vars (c.more_funcs f fs) place a b names new p =
    let guest = (name_new params vars f fs new.0).0 in
    (other_bound (func_name f) a b names (shown_apart (func_name f) guest.open_name) guest.own_name ∙ p.0, placed_more params vars fs (suc (suc place)) a b names new.1 p.1)

module _ (fs : c.Tree c.funcs) (by : ℕ) (direct chain : List ℕ) (f : EsValue) (params : List (List ℕ)) (us : List Value) (qs : List EsValue) (all : Names) (t : ScopeTag) (w : State) (g : Tags) (s : Store) where
  abbrev sb : Store
  sb = bare_store fs chain by s

  abbrev item : heap.Object
  item = arguments_object f params qs all

  abbrev hA : Objects
  hA = with_object (bare_store fs chain by s).heap (arguments_object f params qs all)

  abbrev hB : Objects
  hB = with_named (with_object (bare_store fs chain by s).heap (arguments_object f params qs all)) (frozen_array qs) by

  -- all of the store but the new scope
  abbrev pub inner_store : Store
  inner_store = args_store f params qs all (bare_store fs chain by s) by

  abbrev pub names_here : Names
  names_here = args_names f params qs all (bare_store fs chain by s)

  abbrev pub whole_store : Store
  whole_store = with_scope (activation f params qs) (args_names f params qs all (bare_store fs chain by s)) (args_store f params qs all (bare_store fs chain by s) by)

  abbrev pub objects_here : ℕ → List Object
  objects_here = with_last by (an_array true us) w.objects

  pub shaped_inner : (h : Objects) → Shaped g s g (with_heap inner_store h)
  shaped_inner h = record { count = omega arith; shape = λ a x lt. refl; fixed = λ a lt. refl; codes = λ k code e. codes_kept fs chain s.codes k code e; tags = λ a u e. e }

  pub shaped_whole : (h : Objects) → Shaped g s (g ++ t ∷ []) (with_heap whole_store h)
  shaped_whole h = shaped_trans (shaped_inner h) (shaped_scope g t (activation f params qs) names_here (with_heap inner_store h))

  shaped_behind : Shaped g (with_heap s hB) (g ++ t ∷ []) whole_store
  shaped_behind = shaped_trans (record { count = omega arith; shape = λ a x lt. refl; fixed = λ a lt. refl; codes = λ k code e. codes_kept fs chain s.codes k code e; tags = λ a u e. e }) (shaped_scope g t (activation f params qs) names_here inner_store)

  keeps_bare_here : rows.Keeps s.heap hA
  keeps_bare_here = row_laws.keeps_trans (keeps_bare fs chain by s.codes s.heap) (awaiting_keeps (bare_store fs chain by s).heap item refl)

  no_node_here : rows.NoNewNode s.heap hB
  no_node_here = row_laws.no_node_trans (row_laws.no_node_trans (no_node_bare fs chain by s.codes s.heap) (awaiting_no_node (bare_store fs chain by s).heap item refl)) (named_no_node hA (frozen_array qs) by)

  -- the functions still await their names
  pub await_here : AllAwait fs chain by (length s.heap.list) (all_codes fs chain s.codes) hB
  await_here = await_later fs chain by (length s.heap.list) (all_codes fs chain s.codes) (bare_store fs chain by s).heap hB
      (λ i o le e. grown_kept hA (tagged (frozen_array qs) (next_tag hA by)) hB.counts i o (grown_kept (bare_store fs chain by s).heap item (bare_store fs chain by s).heap.counts i o e))
      (await_bare fs chain by s)

  module _ {m : ℕ} (below : by < 64) (few : suc m ≤ 4294967295) (long : length qs < 4294967296) (args : Vals s.heap us qs) (old : ObjectsAre first place_of w.objects s.heap m) where
    objects_before : ObjectsAre first place_of w.objects hA m
    objects_before = objects_with w.objects (bare_store fs chain by s).heap item (objects_bare fs chain by s.codes s.heap old) (arguments_are_new f params qs all long)

    keeps_here : rows.Keeps s.heap hB
    keeps_here = row_laws.keeps_trans keeps_bare_here (named_keeps hA (frozen_array qs) by (room by below few objects_before))

    objects_after : ObjectsAre first place_of (with_last by (an_array true us) w.objects) hB (suc m)
    objects_after =
        let is = array_is hB true us qs long (row_relation.vals_keep keeps_here us qs args) in
        objects_made by w.objects below objects_before (an_array true us) (frozen_array qs) few (array_new first_is true qs long) (record { class = is.class; no_call = is.no_call; proto = is.proto; items = is.items; props = is.props; few = is.few; are = is.are })

    -- the array has its name
    pub array_named : rows.Named hB (made_name by (length (w.objects by))) (length hA.list)
    array_named = ap heap.tag_of (grown_last hA (tagged (frozen_array qs) (next_tag hA by)) hB.counts) ∙ ap (tag.Made by) (ap count_at (objects_before.count by below))

    -- the arguments object has none
    pub item_plain : rows.IsPlain first hB (length (bare_store fs chain by s).heap.list)
    item_plain = plain_keep (named_keeps hA (frozen_array qs) by (room by below few objects_before)) (arguments_plain f params qs all (bare_store fs chain by s).heap (let l = (keeps_bare fs chain by s.codes s.heap).long in let q = old.large in omega (arith, l, q)))

    pub begun_here : AreScopes s → ClosuresAre w.objects g s → Begun objects_here s.heap (g ++ t ∷ []) whole_store (suc m)
    begun_here are closures = record {
      objects = objects_after;
      keeps = keeps_here;
      no_node = no_node_here;
      closures = closures_array w.objects by us (closures_shaped w.objects {g = g} {g' = g ++ t ∷ []} {s = with_heap s hB} {s' = whole_store} refl shaped_behind are (scopes_are (activation f params qs) names_here inner_store tt are) (closures_kept {s = s} keeps_here are old closures));
    }

  -- variables are the same on both sides, once the functions have their names
  pub alike_here : (params0 vars0 : List (List ℕ)) (place : ℕ) (pairs : Pairs) (firsts : Names) (a : Objects) (v : Value) (e b : EsValue) (h : Objects) → NewFuncs params0 vars0 fs → rows.Keeps a h → rows.Val h v e → ((x : List ℕ) → is_hidden x ≡ false → OptVal a (value_at x pairs) (name_value x firsts)) → Granted fs place by direct objects_here h
      → ScopeIs h (bound_pairs fs direct by objects_here (with_value arguments_name v pairs)) (with_name arguments_copy e (with_name arguments_name b (bound_names fs place firsts)))
  alike_here params0 vars0 place pairs firsts a v e b h new keeps same was given x shown =
      let pairs1 = with_value arguments_name v pairs in
      let all1 = bound_names fs place firsts in
      let names1 = with_name arguments_copy e (with_name arguments_name b all1) in
      let out_of : is_declared fs arguments_name ≡ false = no_function in
      let own_case : is_arguments x ≡ false → OptVal h (value_at x (bound_pairs fs direct by objects_here pairs1)) (name_value x names1) = λ own.
      rw (other_bound x e b all1 (shown_apart x shown) own)
      (let cases = elim (is_declared fs x) as (λ q. is_declared fs x ≡ q → OptVal h (value_at x (bound_pairs fs direct by objects_here pairs1)) (name_value x all1)) [
        | true ↦ λ is. granted_alike fs place by direct objects_here h given x is pairs1 firsts
        | false ↦ λ out. rw (pairs_other fs direct by objects_here pairs1 x out, functions_other fs place firsts x out, value_at-with_value-other arguments_name x v pairs own) (optval_keep {i = 0} {j = 0} (record { objects = keeps; more = omega arith }) _ _ (was x shown))
      ] in cases refl) in
      let cases = elim (is_arguments x) as (λ q. is_arguments x ≡ q → OptVal h (value_at x (bound_pairs fs direct by objects_here pairs1)) (name_value (cond q arguments_copy x) names1)) [
        | false ↦ own_case
        | true ↦ λ is. subst (λ y. OptVal h (value_at y (bound_pairs fs direct by objects_here pairs1)) (name_value arguments_copy names1)) (sym (same_text x arguments_name (sym is)))
            (rw (pairs_other fs direct by objects_here pairs1 arguments_name out_of, value_at-with_value arguments_name v pairs, name_value-with_name arguments_copy e (with_name arguments_name b all1)) same)
      ] in cases refl
    where
      no_function : is_declared fs arguments_name ≡ false
      no_function =
          let cases = elim (is_declared fs arguments_name) as (λ q. is_declared fs arguments_name ≡ q → q ≡ false) [
            | true ↦ λ is. cc (sym (declared_name params0 vars0 fs arguments_name new is).guest.own_name)
            | false ↦ λ is. refl
          ] in cases refl

-- the relation, once the functions have their names
pub related_here : {rules : Rules} {T T' : Temps} {j k : ℕ} {w : State} {z : List Item} {n : ℕ} {g : Tags} {s : Store} {y : Kept} {m mm : ℕ} {pairs : Pairs} (fs : c.Tree c.funcs) (by : ℕ) (direct chain : List ℕ) (f : EsValue) (params : List (List ℕ)) (us : List Value) (qs : List EsValue) (all : Names) (h : Objects)
    → (let tags = g ++ tag_of_scope by (next_scope by w) ∷ [] in let w1 = World.with_object by (an_array true us) w in let sF = with_heap (inner_store fs by direct chain f params us qs all (tag_of_scope by (next_scope by w)) w g s) h in
    mm + k ≤ 64 * n → NewScopes T T' pairs (activation f params qs) (args_names f params qs all (bare_store fs chain by s)) (record s { heap = h; codes = all_codes fs chain s.codes }) → rows.IsPlain first h (length (bare_store fs chain by s).heap.list)
    → Begun (all_objects fs direct by w1.objects) s.heap tags (with_scope (activation f params qs) (args_names f params qs all (bare_store fs chain by s)) sF) mm → Related rules T j w z n g s y m
    → Related rules T' k (World.with_scope by pairs (objects_world fs direct by w1)) z n tags (with_scope (activation f params qs) (args_names f params qs all (bare_store fs chain by s)) sF) y mm)
related_here {w = w} {g = g} {s = s} {pairs = pairs} fs by direct chain f params us qs all h fits new plain begun r =
    let keeps = begun.keeps in
    let before = with_scope (activation f params qs) (args_names f params qs all (bare_store fs chain by s)) (record s { heap = h; codes = all_codes fs chain s.codes }) in
    let owned : store.Scope = record { owner = activation f params qs; names = args_names f params qs all (bare_store fs chain by s) } in
    let more = length-append s.scopes (owned ∷ []) in
    let scopes = scopes_more by new (scopes_coded (all_codes fs chain s.codes) (scopes_keep keeps r.scopes)) in
    let entry = entry_of (length (bare_store fs chain by s).heap.list) (length s.scopes) params qs in
    let shared : SharedAre h (length before.scopes) (s.shared ++ entry ∷ []) = shared_last h (length before.scopes) s.shared entry (shared_keep keeps (omega (arith, more)) s.shared r.scopes.shared) plain (omega (arith, more)) in
    record {
      steps = fits;
      items = r.items;
      objects = begun.objects;
      pages = row_laws.pages_keep w (World.with_scope by pairs (objects_world fs direct by (World.with_object by (an_array true us) w))) _ keeps begun.no_node (refl, refl, refl, refl) r.pages;
      closures = begun.closures;
      waiters = λ j. closures_wait w.objects (objects_world fs direct by (World.with_object by (an_array true us) w)).objects (λ a l q chain' e. closures_older fs direct by (World.with_object by (an_array true us) w).objects a l (World.a_closure q chain') (last_kept by a l (an_array true us) (World.a_closure q chain') w.objects e)) (w.queues j) (r.waiters j);
      scopes = scopes_shared {s = before} (s.shared ++ entry ∷ []) shared scopes;
      globals = r.globals;
      kept = r.kept;
    }
