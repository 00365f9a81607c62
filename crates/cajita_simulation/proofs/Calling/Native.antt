-- The law of a call of a function that no module made, by its name.
use Rattle.std.proofs.Common.{◌≡◌, ℕ, zero, suc, ◌≤◌, ◌<◌, Bool, true, false, List, [], ◌∷◌, length, Option, Some, None, cond, inl, inr, refl, sym, ap, ◌∙◌, subst, arith, ◌-◌}
use Rattle.plans.specs.Plans.{bind, ends, enter}
use Rattle.acts.specs.Acts.{replied}
use Rattle.es3_objects.specs.declared.value.Value.TheVariants as es
use Rattle.es3_objects.specs.declared.value.FuncKind.{FuncKind}
use Rattle.es3_objects.specs.declared.value.FuncKind.TheVariants as kind
use Rattle.es3_heap.specs.Objects as heap
use Rattle.es3_heap.specs.Objects.{Objects}
use Rattle.es3_language.specs.Store.{Store}
use Rattle.es3_language.specs.Meaning as Target
use Rattle.rows.specs.Rows as r
use Rattle.rows.specs.Rows.{Native, Row}
use Rattle.rows.specs.Names.{sort_of, is_exophoric}
use Rattle.rows.specs.Nodes.{no_rules}
use Rattle.rows.specs.Table.{row_of}
use Rattle.cajita_meaning.specs.World.{Name, made_name, cell_name, own_name, built_name, tools_name, facet_name, forward_name, Value, object, World as State}
use Rattle.cajita_meaning.specs.Doing as direct
use Rattle.cajita_meaning.specs.Asking.{native_at, native_call}
use Rattle.cajita_meaning.specs.Direct.{Item}
use Rattle.heap_rows.specs.Natives.{number_of, kind_of, own_number, cell_number, is_common}
use Rattle.heap_rows.specs.Doing as es3
use Rattle.heap_rows.specs.Opening.{place_of, empty_page}
use Rattle.row_simulation.specs.Among.{AreAnswersAmong}
use Rattle.row_simulation.specs.Correspond.{IsNative}
use Rattle.row_simulation.proofs.Row.{vals_length}
use Rattle.row_simulation.proofs.Tables.{tables}
use Rattle.page_natives.specs.declared.natives.Callee.TheVariants as callee
use Rattle.page_natives.specs.Answered.{turn_of}
use Rattle.page_natives.specs.Natives.{Kept, page_table}
use Rattle.page_natives.specs.OwnFunctions.{is_of_node}
use Rattle.page_natives.proofs.Numbers.{built_ins_are_their_rows, say_has_its_number, later_has_its_number, get_has_its_number, set_has_its_number}
use Rattle.page_natives.proofs.OwnFunctions.{say_does_its_row, later_does_its_row, get_does_its_row, set_does_its_row}
use Rattle.cajita_simulation.proofs.Doing as Source
use Rattle.cajita_simulation.proofs.Relation.{RelAt, EsValue, Val, Vals, Named, Here, env_of, Tags, Temps, stays_refl}
use Rattle.cajita_simulation.proofs.Laws.{NextAt, value_from, Cont, Cont', M}
use Rattle.cajita_simulation.proofs.Rows.{Going}
use Rattle.cajita_simulation.proofs.Calling.Laws.{NativeAt, ClosureAt, applied, FewValues}
use Rattle.cajita_simulation.proofs.Calling.Receiver.{first_free, no_receiver}
use Rattle.cajita_simulation.proofs.Calling.BuiltIns.{built_in_row}
use Rattle.cajita_simulation.proofs.Calling.Natives.{kind_entered, applied_native, self_of, Entered, native_enters, called_row}
use Rattle.cajita_simulation.proofs.Calling.Nodes.{node_called}
use Rattle.cajita_simulation.proofs.Calling.Own.{say_settled, later_settled, get_settled, set_settled, own_row}

-- the rows of the tables are among objects, under the rules of a page without a document

no_answers : AreAnswersAmong no_rules
no_answers = λ k xs p. tt

-- the value in the place of the receiver: one that is given, or the function itself

abbrev self_in : Native → ℕ → EsValue → EsValue
self_in f i this = cond (is_exophoric (sort_of f)) this (es.Obj i)

self_val : (h : Objects) (b : Bool) (receiver own : Value) (this self : EsValue) → Val h receiver this → Val h own self → Val h (cond b receiver own) (cond b this self)
self_val h true receiver own this self p q = p
self_val h false receiver own this self p q = q

-- a function that wants no receiver comes to the same with itself in its place
self_same : (f : Native) → is_common f ≡ true → (by n i : ℕ) (this : EsValue) (qs : List EsValue) (h : Objects) → es3.does place_of by (row_of no_rules f n) (this ∷ qs) h empty_page [] ≡ es3.does place_of by (row_of no_rules f n) (self_in f i this ∷ qs) h empty_page []
self_same f common by n i this qs h =
    elim (is_exophoric (sort_of f)) as (λ b. is_exophoric (sort_of f) ≡ b → es3.does place_of by (row_of no_rules f n) (this ∷ qs) h empty_page [] ≡ es3.does place_of by (row_of no_rules f n) (cond b this (es.Obj i) ∷ qs) h empty_page []) [
      | true ↦ λ e. refl
      | false ↦ λ e. first_free place_of by this (es.Obj i) (row_of no_rules f n) (no_receiver no_rules f common e n) qs h empty_page []
    ] refl

-- what is called by its number comes to its row
turn_is : (f : Native) → is_common f ≡ true → is_of_node f ≡ false → (by : ℕ) (this : EsValue) (qs : List EsValue) (h : Objects) (y : Kept) (came : es3.Came) → es3.does place_of by (row_of no_rules f (suc (length qs))) (this ∷ qs) h empty_page [] ≡ came
    → page_table.answer (number_of f) by this qs h y ≡ turn_of came.done y
turn_is f common other by this qs h y came same = built_ins_are_their_rows f common other by this qs h y ∙ ap (λ (c : es3.Came). turn_of c.done y) same

-- a built-in function, once both sides have entered it
built_in_called : {form : Bool} {H : Here} {T : Temps} {d k : ℕ} → H.by < 64 → ClosureAt form H d → NativeAt form H d → (b : ℕ) → b < d → (f : Native) → is_common f ≡ true → (i : ℕ) (receiver : Value) (this : EsValue) (us : List Value) (qs : List EsValue) {w : State} {z : List Item} {n : ℕ} {g : Tags} {s : Store} {y : Kept} {m : ℕ} (go : Going) (next : Cont) (next' : Cont') → suc m ≤ 4294967295
    → Named s.heap (built_name f) i → Val s.heap receiver this → Vals s.heap us qs → length qs < 4294967296 → RelAt form H T (suc (suc k)) w z n g s y m → NextAt form H T b k w g s m (Source.called_next go next) next'
    → Entered H b f (self_of f (built_name f) receiver ∷ us) (number_of f) this qs w z n s y m go next next'
built_in_called {form = form} {H = H} {k = k} below closures natives b lt f common i receiver this us qs {w = w} {z = z} {n = n} {s = s} {y = y} {m = m} go next next' few named at args short r x =
    let self = self_of f (built_name f) receiver in
    let vs : List Value = self ∷ us in
    let self' = self_in f i this in
    let is : Val s.heap self self' = self_val s.heap (is_exophoric (sort_of f)) receiver (object (built_name f)) this (es.Obj i) at named in
    let long : length us ≡ length qs = vals_length s.heap us qs args in
    elim (built_in_row f common) [
      | inl p ↦
          let q = row_of no_rules f (suc (length us)) in
          called_row {k = k} below closures natives b lt f vs (number_of f) this qs q (tables.built_ins no_rules no_answers f (suc (length us))) (p.silent (suc (length us))) (suc (length us) - 1) (omega (arith, long, short)) (p.calling (suc (length us))) vs (self' ∷ qs) go next next' few
          (ap (λ c. direct.does H.by c (direct.given vs) w []) (p.any H.rules (suc (length us))))
          (turn_is f common p.other H.by this qs s.heap y (es3.does place_of H.by q (self' ∷ qs) s.heap empty_page []) (self_same f common H.by (suc (length qs)) i this qs s.heap ∙ ap (λ l. es3.does place_of H.by (row_of no_rules f (suc l)) (self' ∷ qs) s.heap empty_page []) (sym long)))
          (is, args) r x
      | inr p ↦
          subst (λ l. Entered H b l (self_of l (built_name f) receiver ∷ us) (number_of l) this qs w z n s y m go next next') p.1
          (node_called {k = k} below b p.0 receiver this us qs go next next' few at args r x (built_name f))
    ]

-- where the function stands, and by what kind it is called
callable_there : (h : Objects) (i : ℕ) {stored : heap.Object} {sort : r.Sort} {k : FuncKind} → heap.object_at h i ≡ Some stored → IsNative sort k stored → heap.callable_of (heap.object_at h i) ≡ Some (record { kind = k; maker = 0 })
callable_there h i there is = ap heap.callable_of there ∙ is.callable

module _ {form : Bool} {H : Here} {T : Temps} {d k : ℕ} (below : H.by < 64) (closures : ClosureAt form H d) (natives : NativeAt form H d) (a : ℕ) (lt : a < suc d) (recorded : Bool) (i : ℕ) (receiver : Value) (this : EsValue) (us : List Value) (qs : List EsValue) {w : State} {z : List Item} {n : ℕ} {g : Tags} {s : Store} {y : Kept} {m : ℕ} (go : Going) (next : Cont) (next' : Cont') (at : Val s.heap receiver this) (args : Vals s.heap us qs) (small : FewValues m qs) (all : RelAt form H T k w z n g s y m) (x : NextAt form H T a k w g s m (Source.called_next go next) next') where
  abbrev Called : Name → Native → Type 0
  Called o f = M H a (bind (replied (native_call H.around.calls recorded (Some f) o receiver us H.by w) go) next) z n (bind (applied H recorded (es.Obj i) this qs s) next') y m

  simple_called : (number : ℕ) → heap.callable_of (heap.object_at s.heap i) ≡ Some (record { kind = kind.Simple number; maker = 0 }) → Target.apply (es.Obj i) this qs (env_of H) s ≡ enter (Target.native_call number this qs (env_of H)) s ends
  simple_called number callable = applied_native i (kind.Simple number) number this qs (env_of H) s callable refl

  say_called : (o : ℕ) → Named s.heap (own_name o 0) i → Called (own_name o 0) r.say
  say_called o named =
      let there = all.all.objects.each (own_name o 0) i named in
      native_enters a k recorded (own_name o 0) r.say i (own_number o 0) receiver this us qs go next next' all named (callable_there s.heap i there.there there.is.1) (simple_called (own_number o 0) (callable_there s.heap i there.there there.is.1)) (λ b z1 y1 less few r1.
      own_row {k = k} below b (callee.Say o) tt r.say (own_number o 0) (own_name o 0) i this us qs (say_does_its_row o) (say_has_its_number o) (tables.built_ins no_rules no_answers r.say (suc (length us))) go next next' few (say_settled H.by (suc (length us)) o us w) named args r1 (value_from {j = k} {k = k} (omega (arith, less)) (omega arith) stays_refl x))

  later_called : (o : ℕ) → Named s.heap (own_name o 1) i → Called (own_name o 1) r.later
  later_called o named =
      let there = all.all.objects.each (own_name o 1) i named in
      native_enters a k recorded (own_name o 1) r.later i (own_number o 1) receiver this us qs go next next' all named (callable_there s.heap i there.there there.is.1) (simple_called (own_number o 1) (callable_there s.heap i there.there there.is.1)) (λ b z1 y1 less few r1.
      own_row {k = k} below b (callee.Later o) tt r.later (own_number o 1) (own_name o 1) i this us qs (later_does_its_row o) (later_has_its_number o) (tables.built_ins no_rules no_answers r.later (suc (length us))) go next next' few (later_settled H.by (suc (length us)) o us w) named args r1 (value_from {j = k} {k = k} (omega (arith, less)) (omega arith) stays_refl x))

  get_called : (c : ℕ) → Named s.heap (cell_name c 1) i → Called (cell_name c 1) r.get
  get_called c named =
      let there = all.all.objects.each (cell_name c 1) i named in
      native_enters a k recorded (cell_name c 1) r.get i (cell_number c 1) receiver this us qs go next next' all named (callable_there s.heap i there.there there.is.1) (simple_called (cell_number c 1) (callable_there s.heap i there.there there.is.1)) (λ b z1 y1 less few r1.
      own_row {k = k} below b (callee.Get c) tt r.get (cell_number c 1) (cell_name c 1) i this us qs (get_does_its_row c) (get_has_its_number c) (tables.built_ins no_rules no_answers r.get (suc (length us))) go next next' few (get_settled H.by c us w) named args r1 (value_from {j = k} {k = k} (omega (arith, less)) (omega arith) stays_refl x))

  set_called : (c : ℕ) → Named s.heap (cell_name c 2) i → Called (cell_name c 2) r.set
  set_called c named =
      let there = all.all.objects.each (cell_name c 2) i named in
      native_enters a k recorded (cell_name c 2) r.set i (cell_number c 2) receiver this us qs go next next' all named (callable_there s.heap i there.there there.is.1) (simple_called (cell_number c 2) (callable_there s.heap i there.there there.is.1)) (λ b z1 y1 less few r1.
      own_row {k = k} below b (callee.Set c) tt r.set (cell_number c 2) (cell_name c 2) i this us qs (set_does_its_row c) (set_has_its_number c) (tables.built_ins no_rules no_answers r.set (suc (length us))) go next next' few (set_settled H.by (suc (length us)) c us w) named args r1 (value_from {j = k} {k = k} (omega (arith, less)) (omega arith) stays_refl x))

  built_called : (f : Native) → Named s.heap (built_name f) i → Called (built_name f) f
  built_called f named =
      let there = all.all.objects.each (built_name f) i named in
      native_enters a k recorded (built_name f) f i (number_of f) receiver this us qs go next next' all named (callable_there s.heap i there.there there.is.1) (applied_native i (kind_of f) (number_of f) this qs (env_of H) s (callable_there s.heap i there.there there.is.1) (kind_entered (number_of f) (sort_of f) (es.Obj i) this qs (env_of H) s)) (λ b z1 y1 less few r1.
      built_in_called {k = k} below closures natives b (omega (arith, less, lt)) f there.is.0 i receiver this us qs go next next' few named at args (small (omega (arith, few))) r1 (value_from {j = k} {k = k} (omega (arith, less)) (omega arith) stays_refl x))

  same_native : (f q : Native) → (let u : Option Native = Some f in u) ≡ Some q → f ≡ q
  same_native f q e = cc

  none : (q : Native) → (let u : Option Native = None in u) ≡ Some q → ⊥
  none q e = cc

  by_name : (o : Name) (f : Native) → native_at o ≡ Some f → Named s.heap o i → Called o f
  by_name (built_name f) q e named = subst (Called (built_name f)) (same_native f q e) (built_called f named)
  by_name (own_name o zero) q e named = subst (Called (own_name o 0)) (same_native r.say q e) (say_called o named)
  by_name (own_name o (suc zero)) q e named = subst (Called (own_name o 1)) (same_native r.later q e) (later_called o named)
  by_name (own_name o (suc (suc j))) q e named = let few = (all.all.objects.each (own_name o (suc (suc j))) i named).is.0 in absurd (omega (arith, few))
  by_name (cell_name c zero) q e named = absurd (none q e)
  by_name (cell_name c (suc zero)) q e named = subst (Called (cell_name c 1)) (same_native r.get q e) (get_called c named)
  by_name (cell_name c (suc (suc zero))) q e named = subst (Called (cell_name c 2)) (same_native r.set q e) (set_called c named)
  by_name (cell_name c (suc (suc (suc j)))) q e named = let few = (all.all.objects.each (cell_name c (suc (suc (suc j)))) i named).is.0 in absurd (omega (arith, few))
  by_name (made_name o j) q e named = absurd (none q e)
  by_name (tools_name t) q e named = absurd (none q e)
  by_name (facet_name root j) q e named = absurd (none q e)
  by_name (forward_name o p c j) q e named = absurd (all.all.objects.each (forward_name o p c j) i named).is

pub native_zero : {form : Bool} {H : Here} → NativeAt form H 0
native_zero = record { on = λ recorded o f i receiver this us qs go next next' lt known named at args small r x. absurd (omega (arith, lt)) }

pub native_law : {form : Bool} {H : Here} {d : ℕ} → H.by < 64 → ClosureAt form H d → NativeAt form H d → NativeAt form H (suc d)
native_law below closures natives = record { on = λ recorded o f i receiver this us qs go next next' lt known named at args small r x. by_name below closures natives _ lt recorded i receiver this us qs go next next' at args small r x o f known named }
