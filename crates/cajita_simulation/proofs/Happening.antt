-- A function is told what happens to a node: a closure is called by both sides, anything else by neither.
use Rattle.std.proofs.Common.{◌≡◌, ℕ, zero, suc, ◌+◌, ◌*◌, ◌≤◌, Bool, true, false, List, [], ◌∷◌, ◌++◌, Option, Some, None, cond, refl, sym, ap, ◌∙◌, subst, arith}
use Rattle.std.specs.Prelude.{slice_get, is_some}
use Rattle.plans.specs.Plans.{ends, bind}
use Rattle.plans.proofs.Laws.{bind_ends}
use Rattle.acts.specs.Acts.{replied}
use Rattle.matching.specs.Sides.{Match}
use Rattle.matching.proofs.Turn.{turn_simulated}
use Rattle.matching.proofs.Rules.{left_told}
use Rattle.es3_objects.specs.declared.value.Value.TheVariants as es
use Rattle.es3_objects.specs.declared.value.Class.{Class}
use Rattle.es3_objects.specs.declared.value.Class.TheVariants as class
use Rattle.es3_objects.specs.declared.value.FuncKind.{FuncKind}
use Rattle.es3_objects.specs.Reading as reading
use Rattle.es3_heap.specs.Objects as heap
use Rattle.es3_heap.specs.Objects.{Objects}
use Rattle.es3_heap.specs.Properties.{own}
use Rattle.es3_language.specs.Store.{Store}
use Rattle.es3_language.specs.Expressions.{apply_callable}
use Rattle.es3_language.specs.Meaning as Target
use Rattle.cajita_tree.specs.Tree as c
use Rattle.rows.specs.Rows as r
use Rattle.rows.specs.Nodes.{Rules}
use Rattle.cajita_meaning.specs.World as world
use Rattle.cajita_meaning.specs.World.{Name, made_name, cell_name, own_name, built_name, tools_name, facet_name, forward_name, Value, undefined, object, Object, a_record, an_array, a_closure, an_error, World}
use Rattle.cajita_meaning.specs.Events.{the_page, handler_entry}
use Rattle.cajita_meaning.specs.Direct.{Item, granted}
use Rattle.heap_rows.specs.Marks.{simple_mark}
use Rattle.heap_rows.specs.Natives.{kind_by, number_of}
use Rattle.heap_rows.specs.Opening.{first, place_of}
use Rattle.rows.specs.Names.{sort_of}
use Rattle.guard_marks.specs.Closures.{is_closure_if, is_closure_object, is_closure}
use Rattle.page_natives.specs.Natives.{Kept}
use Rattle.module_loader.specs.Turns.{node_plan}
use Rattle.row_simulation.specs.Correspond.{ObjectsAre, IsNamed, IsNative, Is}
use Rattle.cajita_simulation.specs.Alike.{most_deeds}
use Rattle.cajita_simulation.specs.Related.{BetweenTurns}
use Rattle.cajita_simulation.specs.Turns.{TurnsAlike, call_in, answer_end, node_turn, node_turn'}
use Rattle.cajita_simulation.proofs.Doing as Source
use Rattle.cajita_simulation.proofs.Relation.{EsValue, Named, Val, Turn, env_of, Tags, no_temps, CodeIs, Between, RelAt}
use Rattle.cajita_simulation.proofs.Changes.{rel_told, closure_class}
use Rattle.cajita_simulation.proofs.Laws.{M, sides}
use Rattle.cajita_simulation.proofs.Sentences.{turns_alike}
use Rattle.cajita_simulation.proofs.Calling.Body.{entered_reply}
use Rattle.cajita_simulation.proofs.Simulation.{page_entries}
use Rattle.cajita_simulation.proofs.Turns.{at_event, InCall, end_gave, closure_next, begins_here}

-- what is no closure isn't called

of_class : (h : Objects) (i : ℕ) (k : Class) → heap.class_of (heap.object_at h i) ≡ k → is_closure_object k h i ≡ false → is_closure h (es.Obj i) ≡ false
of_class h i k is shut = ap (λ x. is_closure_object x h i) is ∙ shut

by_sort : (marked : Bool) (n : ℕ) (sort : r.Sort) → is_closure_if marked (Some (kind_by n sort)) ≡ false
by_sort marked n (r.exophoric wanted) = refl
by_sort marked n (r.constructor maker) = refl
by_sort marked n sort = refl

native_silent : (h : Objects) (i : ℕ) {stored : heap.Object} {sort : r.Sort} {k : FuncKind} → heap.object_at h i ≡ Some stored → IsNative sort k stored → ((marked : Bool) → is_closure_if marked (Some k) ≡ false) → is_closure h (es.Obj i) ≡ false
native_silent h i {k = k} there is shut =
    ap (λ x. is_closure_object x h i) (ap heap.class_of there ∙ is.is.class)
    ∙ ap (λ x. is_closure_if (is_some (own h i simple_mark)) (reading.kind_of x)) (ap heap.callable_of there ∙ is.callable)
    ∙ shut (is_some (own h i simple_mark))

-- an object that a module made, and that is no closure
abbrev IsOther : Object → Type 0
IsOther (a_closure f chain) = ⊥
IsOther o = Unit {0}

made_silent : (h : Objects) (i : ℕ) (o : Object) (stored : heap.Object) → heap.object_at h i ≡ Some stored → Is h o stored → IsOther o → is_closure h (es.Obj i) ≡ false
made_silent h i (a_record frozen ps) stored there is other = of_class h i class.Object (ap heap.class_of there ∙ is.class) refl
made_silent h i (an_array frozen vs) stored there is other = of_class h i class.Array (ap heap.class_of there ∙ is.class) refl
made_silent h i (a_closure f chain) stored there is other = absurd other
made_silent h i (an_error maker message) stored there is other = of_class h i class.Error (ap heap.class_of there ∙ is.class) refl

-- a name of what no module made
abbrev IsUnmade : Name → Type 0
IsUnmade (made_name m n) = ⊥
IsUnmade o = Unit {0}

named_silent : (objects : ℕ → List Object) (h : Objects) (o : Name) (i : ℕ) (stored : heap.Object) → IsUnmade o → heap.object_at h i ≡ Some stored → IsNamed objects h o stored → is_closure h (es.Obj i) ≡ false
named_silent objects h (made_name m n) i stored unmade there is = absurd unmade
named_silent objects h (cell_name k zero) i stored unmade there is = of_class h i class.Object (ap heap.class_of there ∙ is.class) refl
named_silent objects h (cell_name k (suc j)) i stored unmade there is = native_silent h i there is.1 (λ marked. refl)
named_silent objects h (own_name m j) i stored unmade there is = native_silent h i there is.1 (λ marked. refl)
named_silent objects h (built_name f) i stored unmade there is = native_silent h i there is.1 (λ marked. by_sort marked (number_of f) (sort_of f))
named_silent objects h (tools_name t) i stored unmade there is = of_class h i class.Object (ap heap.class_of there ∙ is.class) refl
named_silent objects h (facet_name root k) i stored unmade there is = of_class h i class.Node (ap heap.class_of there ∙ ap heap.class_of (ap Some is)) refl
named_silent objects h (forward_name m p k j) i stored unmade there is = absurd is

-- a closure is one by its marks
closure_heard : {objects : ℕ → List Object} {m0 : ℕ} (by : ℕ) (g : Tags) (s : Store) (f : c.Tree c.func) (chain : List ℕ) (i n : ℕ) → ObjectsAre first place_of objects s.heap m0 → slice_get (objects by) n ≡ Some (a_closure f chain) → Named s.heap (made_name by n) i → CodeIs by g s f chain i → is_closure s.heap (es.Obj i) ≡ true
closure_heard by g s f chain i n are known named code =
    let stands = are.each (made_name by n) i named in
    ap (λ x. is_closure_object x s.heap i) (ap heap.class_of stands.there ∙ closure_class known stands.is)
    ∙ ap (λ b. is_closure_if b (reading.kind_of (heap.callable_of (heap.object_at s.heap i)))) code.simple
    ∙ ap (λ x. is_closure_if true (reading.kind_of x)) code.callable

module _ (rules : Rules) (turn : Turn) (d root k : ℕ) (o : EsValue) {w : World} {z : List Item} {n : ℕ} {g : Tags} {s : Store} {y : Kept} {m : ℕ} (in_call : InCall turn s.heap) (at : Val s.heap (object (facet_name root k)) o) (all : Between rules w z n g s y m) where
  abbrev Told : Value → EsValue → Type 0
  Told f e = Match (sides rules turn) d (node_turn (facet_name root k) f w) z n (node_turn' o e s) y m

  silent : (e : EsValue) → is_closure s.heap e ≡ false → Match (sides rules turn) d (ends (Source.gave undefined) w) z n (node_plan o e s) y m
  silent e shut =
      subst (λ b. Match (sides rules turn) d (ends (Source.gave undefined) w) z n (cond b (Target.call_plan e es.Undefined (o ∷ []) 0 s) (ends (Target.gave es.Undefined) s)) y m) (sym shut)
      (end_gave {H = at_event rules turn the_page s} {k = 0} {v = undefined} {e = es.Undefined} in_call tt (record { all = all; here = tt }))

  called : (by q i : ℕ) (f : c.Tree c.func) (chain : List ℕ) → slice_get (w.objects by) q ≡ Some (a_closure f chain) → Named s.heap (made_name by q) i
      → Match (sides rules turn) d (replied (handler_entry by (Some (a_closure f chain)) (facet_name root k) w) answer_end) z n (node_plan o (es.Obj i) s) y m
  called by q i (c.fun name params args body) chain known named =
      let f = c.fun name params args body in
      let H = at_event rules turn the_page s in
      let closures = all.closures by q f chain known in
      let code = closures.1 i named in
      let us : List Value = object (facet_name root k) ∷ [] in
      let qs : List EsValue = o ∷ [] in
      let r0 : RelAt false H no_temps 0 w z n g s y m = record { all = all; here = tt } in
      let r1 = rel_told (granted by (facet_name root k) ∷ []) refl r0 in
      let same : apply_callable (heap.callable_of (heap.object_at s.heap i)) (es.Obj i) es.Undefined qs (env_of H) s ≡ Target.call_plan (es.Obj i) es.Undefined qs 0 s =
      ap (λ x. apply_callable x (es.Obj i) es.Undefined qs (env_of H) s) code.callable ∙ sym (ap (λ x. apply_callable x (es.Obj i) es.Undefined qs (Target.outermost 0 s) s) code.callable) in
      let entered : M H d (bind (replied (entered_reply f chain by us H w) answer_end) ends) (z ++ granted by (facet_name root k) ∷ []) n (bind (Target.call_plan (es.Obj i) es.Undefined qs 0 s) ends) y m =
      subst (λ p. M H d (bind (replied (entered_reply f chain by us H w) answer_end) ends) (z ++ granted by (facet_name root k) ∷ []) n (bind p ends) y m) same
      ((page_entries H (suc d)).on {k = 0} by i f chain es.Undefined us qs answer_end ends ends (omega arith) closures.0 code (at, tt) (λ left. omega arith) refl r1 (closure_next in_call)) in
      subst (λ b. Match (sides rules turn) d (replied (handler_entry by (Some (a_closure f chain)) (facet_name root k) w) answer_end) z n (cond b (Target.call_plan (es.Obj i) es.Undefined qs 0 s) (ends (Target.gave es.Undefined) s)) y m) (sym (closure_heard by g s f chain i q all.objects known named code))
      (subst (λ p. Match (sides rules turn) d p z n (Target.call_plan (es.Obj i) es.Undefined qs 0 s) y m) (bind_ends (replied (handler_entry by (Some (a_closure f chain)) (facet_name root k) w) answer_end))
      (subst (λ p. Match (sides rules turn) d (bind (replied (handler_entry by (Some (a_closure f chain)) (facet_name root k) w) answer_end) ends) z n p y m) (bind_ends (Target.call_plan (es.Obj i) es.Undefined qs 0 s))
      (left_told entered)))

  other_silent : (by q i : ℕ) → Named s.heap (made_name by q) i → (x : Object) → slice_get (w.objects by) q ≡ Some x → IsOther x → is_closure s.heap (es.Obj i) ≡ false
  other_silent by q i named x known is =
      let stands = all.objects.each (made_name by q) i named in
      made_silent s.heap i x stands.stored stands.there (subst (λ p. Is s.heap p stands.stored) (same stands.is.object x (sym stands.is.known ∙ known)) stands.is.is) is
    where
      same : (a b : Object) → (let u : Option Object = Some a in u) ≡ Some b → a ≡ b
      same a b e = cc

  by_object : (by q i : ℕ) → Named s.heap (made_name by q) i → (x : Option Object) → slice_get (w.objects by) q ≡ x → Match (sides rules turn) d (replied (handler_entry by x (facet_name root k) w) answer_end) z n (node_plan o (es.Obj i) s) y m
  by_object by q i named None known = let stands = all.objects.each (made_name by q) i named in absurd (nothing (sym known ∙ stands.is.known))
    where
      nothing : {x : Object} → (let u : Option Object = None in u) ≡ Some x → ⊥
      nothing e = cc
  by_object by q i named (Some (a_closure f chain)) known = called by q i f chain known named
  by_object by q i named (Some (a_record frozen ps)) known = silent (es.Obj i) (other_silent by q i named (a_record frozen ps) known tt)
  by_object by q i named (Some (an_array frozen vs)) known = silent (es.Obj i) (other_silent by q i named (an_array frozen vs) known tt)
  by_object by q i named (Some (an_error maker message)) known = silent (es.Obj i) (other_silent by q i named (an_error maker message) known tt)

  pub node_matches : (f : Value) (e : EsValue) → Val s.heap f e → Told f e
  node_matches (object (made_name by q)) (es.Obj i) is = by_object by q i is (slice_get (w.objects by) q) refl
  node_matches (object x) (es.Obj i) is = silent (es.Obj i) (let stands = all.objects.each x i is in named_silent w.objects s.heap x i stands.stored tt stands.there stands.is)
  node_matches undefined es.Undefined is = silent es.Undefined refl
  node_matches world.null es.Null is = silent es.Null refl
  node_matches (world.truth b) (es.Bool a) is = silent (es.Bool a) refl
  node_matches (world.number j) (es.Num a) is = silent (es.Num a) refl
  node_matches (world.text us) (es.Text vs) is = silent (es.Text vs) refl
  node_matches f e is = absurd is

-- no deed more is done
pub node_alike : (rules : Rules) (root k : ℕ) (f : Value) (o e : EsValue) (d : ℕ) → d ≤ most_deeds → (w : World) (z : List Item) (n : ℕ) (g : Tags) (s : Store) (y : Kept) (i : ℕ) → Val s.heap (object (facet_name root k)) o → Val s.heap f e → BetweenTurns rules d w z n g s y i
    → TurnsAlike rules (call_in s) d (node_turn (facet_name root k) f w) z n (node_turn' o e s) y i
node_alike rules root k f o e d small w z n g s y i at is r =
    turns_alike rules (call_in s) d (n + d) (i + 64 * d) refl refl small (omega (arith, r.steps)) (λ few.
    turn_simulated (sides rules (call_in s)) (n + d) (i + 64 * d) _ z _ y (λ tasks.
    node_matches rules (call_in s) tasks root k o (begins_here s) at r f e is))
