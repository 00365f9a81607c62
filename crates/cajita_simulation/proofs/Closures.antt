-- A function expression makes a closure: its object with the marks and the next name of its module, its prototype, and its code.
use Rattle.std.proofs.Common.{◌≡◌, ℕ, suc, ◌+◌, ◌*◌, ◌≤◌, ◌<◌, true, false, List, [], ◌∷◌, ◌++◌, length, Some, cond, ◌⊎◌, inl, inr, refl, sym, ap, ◌∙◌, subst, arith}
use Rattle.std.specs.Prelude.{slice_get, codes, nat_eq, is_some, get_or, reverse}
use Rattle.std.specs.Cmp.Lexicographic.{same_text}
use Rattle.std.proofs.lemmas.List.{reverse-append}
use Rattle.caja_units.specs.Units.{same_units}
use Rattle.es3_objects.specs.declared.value.Value.TheVariants as es
use Rattle.es3_objects.specs.declared.value.Class.{Class}
use Rattle.es3_objects.specs.declared.value.Tag.TheVariants as tag
use Rattle.es3_heap.specs.Objects as heap
use Rattle.es3_heap.specs.Objects.{Objects, with_object, object_at, class_of}
use Rattle.es3_heap.specs.Properties.{find}
use Rattle.es3_heap.specs.Making.{count_at, named}
use Rattle.es3_language.specs.Store.{Store, Code, with_heap, with_code, new_function}
use Rattle.es3_language.specs.Hoisting.{code_of}
use Rattle.es3_language.specs.Meaning as Target
use Rattle.rows.specs.Nodes.{Rules}
use Rattle.cajita_tree.specs.Tree as c
use Rattle.cajita_rewrite.specs.Rewrite.{rewritten}
use Rattle.cajita_meaning.specs.World as World
use Rattle.cajita_meaning.specs.World.{made_name, Object, a_closure, World as State, with_last}
use Rattle.cajita_meaning.specs.Direct.{Item}
use Rattle.heap_rows.specs.Marks.{read_mark, set_mark, simple_mark}
use Rattle.heap_rows.specs.Doing.{Done, gives}
use Rattle.heap_rows.specs.Opening.{first, place_of, runtime_id}
use Rattle.guard_runtime.specs.Guards.{func, func_of}
use Rattle.page_natives.specs.Natives.{Kept, page_table}
use Rattle.row_simulation.specs.Correspond as rows
use Rattle.row_simulation.proofs.Row as row_laws
use Rattle.row_simulation.proofs.Keys.{not_true, hidden_read, hidden_set, apart_too, read_frozen, set_frozen}
use Rattle.row_simulation.proofs.Changes.{IsNew, named_keeps, named_no_node, objects_made, last_kept, room}
use Rattle.row_simulation.proofs.Added.{awaiting_keeps, awaiting_no_node, objects_with}
use Rattle.cajita_simulation.specs.Guest.{Names, Guest}
use Rattle.cajita_simulation.proofs.Heaps.Lists.{slice_get-push, slice_get-push-cases}
use Rattle.cajita_simulation.proofs.Heaps.Made.{tagged, next_name as next_tag, with_named}
use Rattle.cajita_simulation.proofs.Heaps.Grown.{grown_last, grown_kept}
use Rattle.cajita_simulation.proofs.Heaps.Functions.{function_object, prototype_object, function_new, marked_object, marked_new, named_before}
use Rattle.cajita_simulation.proofs.Relation.{closures_wait, Named, ObjectsAre, Tags, Temps, AreScopes, Here, Captured, In, CodeIs, ClosuresAre, Related, Shaped, shaped_trans, Stays}
use Rattle.cajita_simulation.proofs.Scopes.{captured_stays, in_stays}
use Rattle.cajita_simulation.proofs.Written.{same_place}
use Rattle.cajita_simulation.proofs.Changes.{shaped_heap, closures_kept, scopes_keep}
use Rattle.cajita_simulation.proofs.Entering.{function_is_new, prototype_is_new, shaped_code, related_code}

-- the objects and the store when the guard has marked the function and named it
abbrev pub marked_heap : ℕ → ℕ → ℕ → Objects → Objects
marked_heap code params by h = with_object (with_named h (marked_object code params by (suc (length h.list))) by) (prototype_object (length h.list))

abbrev pub coded : Code → Store → Store
coded code s = record s { codes = s.codes ++ code ∷ [] }

abbrev pub closed_store : Code → ℕ → Store → Store
closed_store code by s = with_heap (coded code s) (marked_heap (length s.codes) (length code.params) by s.heap)

-- what the guard does

func_named : (code params by : ℕ) (h : Objects) → func by (es.Obj (length h.list)) (new_function code params by h) ≡ gives (es.Obj (length h.list)) (marked_heap code params by h) []
func_named code params by h =
    let i = length h.list in
    let f = function_object code params by (suc i) in
    let bare = with_object (with_object h f) (prototype_object i) in
    let there : object_at bare i ≡ Some f = grown_kept (with_object h f) (prototype_object i) h.counts i f (grown_last h f h.counts) in
    ap (λ (g : Objects). func by (es.Obj i) g) (function_new code params by h)
    ∙ ap (λ (q : Class). func_of q by i bare) (ap class_of there)
    ∙ ap (λ (g : Objects). gives (es.Obj i) (named g i by) []) (marked_new code params by h)
    ∙ ap (λ (g : Objects). gives (es.Obj i) g []) (named_before h (marked_object code params by (suc i)) (prototype_object i) by refl)

pub func_plan : (code : Code) (env : Target.Env) (s : Store) (y : Kept) → Target.task_plan page_table (Target.native_call 66 (es.Obj runtime_id) (es.Obj (length s.heap.list) ∷ []) env) (with_code code env.by s) y ≡ Target.give (es.Obj (length s.heap.list)) (closed_store code env.by s)
func_plan code env s y = ap (λ (d : Done). Target.reply_plan d.reply env (with_heap (coded code s) d.heap)) (func_named (length s.codes) (length code.params) env.by s.heap)

-- the new object

no_simple : (j s : List ℕ) (n : ℕ) → get_or (reverse s ++ reverse j) 3 0 ≡ n → j ++ s ≡ simple_mark → n ≡ 67
no_simple j s n at e = sym at ∙ ap (λ l. get_or l 3 0) (sym (reverse-append j s) ∙ ap reverse e)

read_simple : (k : List ℕ) → same_units (read_mark k) simple_mark ≡ false
read_simple k = not_true _ (λ e. let f : 100 ≡ 67 = no_simple k (codes "_canRead___") 100 refl (same_text (read_mark k) simple_mark (sym e)) in omega (arith, f))

set_simple : (k : List ℕ) → same_units (set_mark k) simple_mark ≡ false
set_simple k = not_true _ (λ e. let f : 116 ≡ 67 = no_simple k (codes "_canSet___") 116 refl (same_text (set_mark k) simple_mark (sym e)) in omega (arith, f))

pub marked_is_new : (code params maker prototype : ℕ) → IsNew first (marked_object code params maker prototype)
marked_is_new code params maker prototype =
    let plain = function_is_new code params maker prototype in
    record {
      bare = refl;
      above = plain.above;
      reads = λ k. rw (apart_too (codes "length") (read_mark k) refl (hidden_read k), apart_too (codes "prototype") (read_mark k) refl (hidden_read k), read_simple k, read_frozen k) refl;
      sets = λ k. rw (apart_too (codes "length") (set_mark k) refl (hidden_set k), apart_too (codes "prototype") (set_mark k) refl (hidden_set k), set_simple k, set_frozen k) refl;
    }

-- the world has one closure more

pub last_cases : (by : ℕ) (o x : Object) (objects : ℕ → List Object) (m n : ℕ) → slice_get (with_last by o objects m) n ≡ Some x → (slice_get (objects m) n ≡ Some x) ⊎ ((m ≡ by) × (n ≡ length (objects m)) × (o ≡ x))
last_cases by o x objects m n e =
    let cases = elim (nat_eq m by) as (λ b. nat_eq m by ≡ b → slice_get (cond b (objects m ++ o ∷ []) (objects m)) n ≡ Some x → (slice_get (objects m) n ≡ Some x) ⊎ ((m ≡ by) × (n ≡ length (objects m)) × (o ≡ x))) [
      | true ↦ λ is e. elim (slice_get-push-cases (objects m) o n x e) [
        | inl before ↦ inl before
        | inr last ↦ inr (same_place m by is, last.0, last.1)
      ]
      | false ↦ λ is e. inl e
    ] in cases refl e

same_closure : (f g : c.Tree c.func) (a b : List ℕ) → a_closure f a ≡ a_closure g b → (f ≡ g) × (a ≡ b)
same_closure f g a b e = (cc, cc)

-- its name is that of one object, which has its code
pub closures_last : (objects : ℕ → List Object) {g : Tags} {s : Store} {m : ℕ} (by : ℕ) (f : c.Tree c.func) (direct : List ℕ) (place : ℕ) → by < 64 → ObjectsAre first place_of (with_last by (a_closure f direct) objects) s.heap m → Named s.heap (made_name by (length (objects by))) place → CodeIs by g s f direct place → ClosuresAre objects g s → ClosuresAre (with_last by (a_closure f direct) objects) g s
closures_last objects {g = g} {s = s} by f direct place below new here is r = λ k n q direct' known.
    elim (last_cases by (a_closure f direct) (a_closure q direct') objects k n known) [
      | inl before ↦ r k n q direct' before
      | inr last ↦ (
        subst (λ j. j < 64) (sym last.0) below,
        λ i named.
            let parts = same_closure f q direct direct' last.2 in
            let number : n ≡ length (objects by) = last.1 ∙ ap (λ j. length (objects j)) last.0 in
            let same : place ≡ i = new.once (made_name by (length (objects by))) place i here (subst (λ j. Named s.heap (made_name j (length (objects by))) i) last.0 (subst (λ j. Named s.heap (made_name k j) i) number named)) in
            subst (λ j. CodeIs j g s q direct' i) (sym last.0)
            (subst (λ j. CodeIs by g s q direct' j) same
            (subst (λ j. CodeIs by g s j direct' place) parts.0
            (subst (λ j. CodeIs by g s f j place) parts.1 is))),
      )
    ]

module _ (g : Tags) (s : Store) (by : ℕ) (f : c.Tree c.func) (direct chain : List ℕ) where
  abbrev pub code : Code
  code = code_of (rewritten false c.func 0 f) chain

  abbrev pub after : Store
  after = closed_store (code_of (rewritten false c.func 0 f) chain) by s

  abbrev pub function : heap.Object
  function = marked_object (length s.codes) (length (code_of (rewritten false c.func 0 f) chain).params) by (suc (length s.heap.list))

  pub shaped_closure : Shaped g s g after
  shaped_closure = shaped_trans (shaped_code g code s) (shaped_heap g (coded code s) (marked_heap (length s.codes) (length code.params) by s.heap))

  pub function_there : object_at after.heap (length s.heap.list) ≡ Some (tagged function (next_tag s.heap by))
  function_there =
      let x = tagged function (next_tag s.heap by) in
      let h = with_named s.heap function by in
      grown_kept h (prototype_object (length s.heap.list)) h.counts (length s.heap.list) x (grown_last s.heap x h.counts)

  pub closure_keeps : count_at (slice_get s.heap.counts by) < 4294967295 → rows.Keeps s.heap after.heap
  closure_keeps few = row_laws.keeps_trans (named_keeps s.heap function by few) (awaiting_keeps (with_named s.heap function by) (prototype_object (length s.heap.list)) refl)

  pub closure_no_node : rows.NoNewNode s.heap after.heap
  closure_no_node = row_laws.no_node_trans (named_no_node s.heap function by) (awaiting_no_node (with_named s.heap function by) (prototype_object (length s.heap.list)) refl)

  pub closure_objects : {objects : ℕ → List Object} {m : ℕ} → by < 64 → suc m ≤ 4294967295 → ObjectsAre first place_of objects s.heap m → ObjectsAre first place_of (with_last by (a_closure f direct) objects) after.heap (suc m)
  closure_objects {objects = objects} below few old =
      objects_with (with_last by (a_closure f direct) objects) (with_named s.heap function by) (prototype_object (length s.heap.list))
      (objects_made by objects below old (a_closure f direct) function few (marked_is_new (length s.codes) (length code.params) by (suc (length s.heap.list))) (record { class = refl; proto = refl; kind = refl; no_text = refl; no_value = refl }))
      (prototype_is_new (length s.heap.list))

  -- its code
  new_code : {vars free : Names} → AreScopes s → Captured vars free by g direct chain s → Guest vars free c.func f → CodeIs by g after f direct (length s.heap.list)
  new_code {vars = vars} {free = free} are captured guest = record {
    number = length s.codes;
    callable = ap heap.callable_of function_there;
    chain = chain;
    code = slice_get-push s.codes code;
    simple = ap (λ o. is_some (find simple_mark (heap.props_of o))) function_there;
    vars = vars;
    free = free;
    captured = captured_stays shaped_closure are are captured;
    guest = guest;
  }

  -- the new function has the name that the world gives
  pub closure_named : {objects : ℕ → List Object} {m : ℕ} → by < 64 → ObjectsAre first place_of objects s.heap m → Named after.heap (made_name by (length (objects by))) (length s.heap.list)
  closure_named below old = ap heap.tag_of function_there ∙ ap (tag.Made by) (ap count_at (old.count by below))

  pub closures_with : {objects : ℕ → List Object} {vars free : Names} {m : ℕ} → by < 64 → suc m ≤ 4294967295 → AreScopes s → ObjectsAre first place_of objects s.heap m → Captured vars free by g direct chain s → Guest vars free c.func f → ClosuresAre objects g (coded code s) → ClosuresAre (with_last by (a_closure f direct) objects) g after
  closures_with {objects = objects} below few are old captured guest r = closures_last objects by f direct (length s.heap.list) below (closure_objects below few old) (closure_named below old) (new_code are captured guest) (closures_kept {s = coded code s} (closure_keeps (room by below few old)) are old r)

  -- the relation with the closure, for which the interpreter takes a step
  pub related_closure : {rules : Rules} {T : Temps} {vars free : Names} {j k : ℕ} {w : State} {z : List Item} {n : ℕ} {y : Kept} {m : ℕ} → by < 64 → suc m ≤ 4294967295 → suc m + k ≤ 64 * n → Captured vars free by g direct chain s → Guest vars free c.func f → Related rules T j w z n g s y m → Related rules T k (World.with_object by (a_closure f direct) w) z n g after y (suc m)
  related_closure {w = w} below few fits captured guest r =
      let keeps = closure_keeps (room by below few r.objects) in
      let r1 = related_code code r in
      record {
        steps = fits;
        items = r.items;
        objects = closure_objects below few r.objects;
        pages = row_laws.pages_keep w (World.with_object by (a_closure f direct) w) _ keeps closure_no_node (refl, refl, refl, refl) r.pages;
        closures = closures_with below few r.scopes.are r.objects captured guest r1.closures;
        waiters = λ j. closures_wait w.objects (World.with_object by (a_closure f direct) w).objects (λ a n q chain' e. last_kept by a n (a_closure f direct) (a_closure q chain') w.objects e) (w.queues j) (r.waiters j);
        scopes = scopes_keep keeps r1.scopes;
        globals = r.globals;
        kept = r.kept;
      }

  pub stays_closure : {w : State} {m : ℕ} → count_at (slice_get s.heap.counts by) < 4294967295 → Stays w g s m (World.with_object by (a_closure f direct) w) g after (suc m)
  stays_closure {w = w} few = record {
    heap = record { objects = closure_keeps few; more = omega arith };
    shaped = shaped_closure;
    closed = record { closures = λ a n q chain' e. last_kept by a n (a_closure f direct) (a_closure q chain') w.objects e };
  }

  pub in_closure : {H : Here} → AreScopes s → In H g s → In H g after
  in_closure are here = in_stays shaped_closure are are here
