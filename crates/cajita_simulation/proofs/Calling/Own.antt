-- The functions of a module and of a cell: their rows change what a page keeps, and natives keep the same.
use Rattle.std.proofs.Common.{◌≡◌, ℕ, Bool, true, false, zero, suc, ◌≤◌, ◌<◌, List, [], ◌∷◌, ◌++◌, length, Option, Some, None, Result, Ok, Err, cond, refl, sym, ap, ◌∙◌, subst, arith}
use Rattle.std.specs.Prelude.{nat_eq, slice_get}
use Rattle.plans.specs.Plans.{Fault, bind}
use Rattle.acts.specs.Acts.{replied}
use Rattle.es3_objects.specs.declared.value.Value.TheVariants as es
use Rattle.es3_heap.specs.Objects.{Objects}
use Rattle.es3_convert.specs.Conversions.{text_of}
use Rattle.es3_language.specs.Store.{Store, with_heap}
use Rattle.es3_language.specs.Natives.{Turn}
use Rattle.es3_language.specs.Meaning as Target
use Rattle.rows.specs.Rows as r
use Rattle.rows.specs.Rows.{Native, Sight, Row}
use Rattle.rows.specs.Names.{sort_of}
use Rattle.rows.specs.Arguments.{argument}
use Rattle.rows.specs.Core as core
use Rattle.rows.specs.Table.{row_of}
use Rattle.cajita_tree.specs.Tree as c
use Rattle.cajita_meaning.specs.World as World
use Rattle.cajita_meaning.specs.World.{Name, made_name, cell_name, own_name, built_name, tools_name, facet_name, forward_name, Value, undefined, object, Object, a_record, an_array, a_closure, an_error, with_object, with_queue, World as State}
use Rattle.cajita_meaning.specs.Doing as direct
use Rattle.cajita_meaning.specs.Asking.{done_reply}
use Rattle.cajita_meaning.specs.Direct.{Item}
use Rattle.heap_rows.specs.Doing as es3
use Rattle.heap_rows.specs.Doing.{Done, heard}
use Rattle.heap_rows.specs.Opening.{first, place_of}
use Rattle.row_outcomes.specs.Arguments as outcomes
use Rattle.guard_marks.specs.Closures.{is_closure}
use Rattle.row_simulation.specs.Among.{IsAmongObjects}
use Rattle.row_simulation.specs.Correspond.{tag_of_name}
use Rattle.row_simulation.specs.RowLaw.{shown, CameIs}
use Rattle.row_simulation.proofs.First.{first_is}
use Rattle.row_simulation.proofs.Whole.{every_row}
use Rattle.row_simulation.proofs.Row.{vals_length, shown_handed}
use Rattle.page_natives.specs.declared.natives.Callee.{Callee}
use Rattle.page_natives.specs.declared.natives.Callee.TheVariants as callee
use Rattle.page_natives.specs.Natives.{Kept, page_of, page_table, with_said, with_waiting, done_by, kept_by, turn_by}
use Rattle.page_natives.specs.OwnFunctions.{IsKept, DoesItsRow, HasItsNumber}
use Rattle.cajita_simulation.specs.Related.{KnowsPage}
use Rattle.cajita_simulation.proofs.Doing as Source
use Rattle.row_simulation.proofs.Changes.{last_kept}
use Rattle.cajita_simulation.proofs.Relation.{RelAt, IsClosure, AreClosures, WaitersAre, closures_wait, EsValue, Named, Val, Vals, Here, env_of, Tags, Temps, rel_less}
use Rattle.cajita_simulation.proofs.Changes.{knows_still}
use Rattle.cajita_simulation.proofs.Laws.{NextAt, Cont, Cont', M}
use Rattle.cajita_simulation.proofs.Rows.{Going, KeepsRow, settled_on, Anything, gives_anything, ComesPlainly, RowNextAt, reply_goes, converts_text, quiet_from}
use Rattle.cajita_simulation.proofs.Calling.Calls.{value_more}
use Rattle.cajita_simulation.proofs.Calling.Natives.{native_go, native_next, native_gives, Entered}

-- what is told whether touches are asked for or not

abbrev pub AlwaysHeard : List Item → Type 0
AlwaysHeard z = (b : Bool) → heard b (shown z) ≡ shown z

pub quiet_heard : (z : List Item) → shown z ≡ [] → AlwaysHeard z
quiet_heard z quiet b = ap (heard b) quiet ∙ sym quiet

-- what such a row comes to: by itself, with a value or a throw; it touches nothing, and what waits are closures still
pub record IsSettled (w : State) (d : direct.Done) : Type 0 where
  pub plain : ComesPlainly d.outcome
  pub waiters : WaitersAre w → WaitersAre d.world
  pub items : AlwaysHeard d.items

pub say_settled : (by n m : ℕ) (us : List Value) (w : State) → IsSettled w (direct.does by (core.say (argument 0 n)) (direct.given (object (own_name m 0) ∷ us)) w [])
say_settled by n m us w = by_text (direct.text_of w v) (converts_text 32 w v)
  where
    v : Value
    v = direct.value_of (object (own_name m 0) ∷ us) (argument 0 n)

    by_text : (t : Result (List ℕ) Fault) → Rattle.cajita_simulation.proofs.Rows.Converts t → IsSettled w (direct.with_result t w [] (λ text. direct.does by (r.settles (r.says (r.held 0) text)) (direct.given (object (own_name m 0) ∷ us)) w []))
    by_text (Ok text) p = record { plain = tt; waiters = λ f. f; items = λ b. refl }
    by_text (Err e) p = record { plain = p; waiters = λ f. f; items = λ b. refl }

-- a value that is seen to be a closure is one

made_closure : (n : ℕ) (o : Option Object) → (direct.see_made n o).sight ≡ r.a_function r.closure → (f : c.Tree c.func) × (chain : List ℕ) × (o ≡ Some (a_closure f chain))
made_closure n None e = absurd cc
made_closure n (Some (a_record frozen ps)) e = absurd cc
made_closure n (Some (an_array frozen vs)) e = absurd cc
made_closure n (Some (a_closure f chain)) e = (f, chain, refl)
made_closure n (Some (an_error maker message)) e = absurd cc

abbrev sort_in : Sight → r.Sort
sort_in (r.a_function sort) = sort
sort_in s = r.simple

no_closure : (f : Native) → sort_of f ≡ r.closure → ⊥
no_closure (r.makes maker) e = cc
no_closure f e = cc

named_closure : (w : State) (n : ℕ) (o : Name) → (direct.see_object w n o).sight ≡ r.a_function r.closure → IsClosure w.objects (object o)
named_closure w n (made_name m i) e = made_closure n (slice_get (w.objects m) i) e
named_closure w n (built_name f) e = absurd (no_closure f (ap sort_in e))
named_closure w n (tools_name t) e = absurd cc
named_closure w n (facet_name root k) e = absurd cc
named_closure w n (own_name m i) e = absurd cc
named_closure w n (cell_name k zero) e = absurd cc
named_closure w n (cell_name k (suc i)) e = absurd cc
named_closure w n (forward_name m p k zero) e = absurd cc
named_closure w n (forward_name m p k (suc i)) e = absurd cc

closure_seen : (w : State) (n : ℕ) (v : Value) → (direct.see w n v).sight ≡ r.a_function r.closure → IsClosure w.objects v
closure_seen w n undefined e = absurd cc
closure_seen w n World.null e = absurd cc
closure_seen w n (World.truth b) e = absurd cc
closure_seen w n (World.number i) e = absurd cc
closure_seen w n (World.text us) e = absurd cc
closure_seen w n (object o) e = named_closure w n o e

closure_is : (objects : ℕ → List Object) (v : Value) → IsClosure objects v → v ≡ undefined → ⊥
closure_is objects undefined is e = is
closure_is objects v is e = cc

-- one more waits; or an error is made

waits_more : (objects : ℕ → List Object) (vs : List Value) (v : Value) → AreClosures objects vs → IsClosure objects v → AreClosures objects (vs ++ v ∷ [])
waits_more objects [] v are is = (is, tt)
waits_more objects (u ∷ vs) v are is = (are.0, waits_more objects vs v are.1 is)

queue_more : (w : State) (m : ℕ) (v : Value) → IsClosure w.objects v → WaitersAre w → WaitersAre (with_queue m (w.queues m ++ v ∷ []) w)
queue_more w m v is before j = elim (nat_eq j m) as (λ b. AreClosures w.objects (cond b (w.queues m ++ v ∷ []) (w.queues j))) [
  | true ↦ waits_more w.objects (w.queues m) v (before m) is
  | false ↦ before j
]

error_waiters : (by : ℕ) (o : Object) (w : State) → WaitersAre w → WaitersAre (with_object by o w)
error_waiters by o w before j = closures_wait w.objects (with_object by o w).objects (λ a l f chain e. last_kept by a l o (a_closure f chain) w.objects e) (w.queues j) (before j)

pub later_settled : (by n m : ℕ) (us : List Value) (w : State) → IsSettled w (direct.does by (core.later (argument 0 n)) (direct.given (object (own_name m 1) ∷ us)) w [])
later_settled by n m us w = by_sight (direct.see w (length (object (own_name m 1) ∷ us)) (direct.value_of (object (own_name m 1) ∷ us) (argument 0 n))).sight refl
  where
    held : direct.Held
    held = direct.and_seen (direct.given (object (own_name m 1) ∷ us)) (direct.way_into (direct.given (object (own_name m 1) ∷ us)) (argument 0 n)) (direct.see w (length (object (own_name m 1) ∷ us)) (direct.value_of (object (own_name m 1) ∷ us) (argument 0 n))).values

    seen : (direct.see w (length (object (own_name m 1) ∷ us)) (direct.value_of (object (own_name m 1) ∷ us) (argument 0 n))).sight ≡ r.a_function r.closure → IsClosure w.objects (direct.value_of ((object (own_name m 1) ∷ us) ++ (direct.see w (length (object (own_name m 1) ∷ us)) (direct.value_of (object (own_name m 1) ∷ us) (argument 0 n))).values) (argument 0 n))
    seen e =
        let v = direct.value_of (object (own_name m 1) ∷ us) (argument 0 n) in
        let is = closure_seen w (length (object (own_name m 1) ∷ us)) v e in
        subst (IsClosure w.objects) (sym (value_more (object (own_name m 1) ∷ us) (direct.see w (length (object (own_name m 1) ∷ us)) v).values (argument 0 n) (closure_is w.objects v is))) is

    by_sort : (sort : r.Sort) → (direct.see w (length (object (own_name m 1) ∷ us)) (direct.value_of (object (own_name m 1) ∷ us) (argument 0 n))).sight ≡ r.a_function sort → IsSettled w (direct.does by (core.later_row (argument 0 n) (r.a_function sort)) held w [])
    by_sort r.closure e =
        let own = direct.value_of held.values (r.held 0) in
        let way = direct.way_of held (argument 0 n) in
        let f = direct.value_of held.values (argument 0 n) in
        record { plain = tt; waiters = queue_more w m f (seen e); items = quiet_heard (direct.handing_over by own way f) (shown_handed by own way f) }
    by_sort sort e = record { plain = tt; waiters = error_waiters by _ w; items = λ b. refl }

    by_sight : (s : Sight) → (direct.see w (length (object (own_name m 1) ∷ us)) (direct.value_of (object (own_name m 1) ∷ us) (argument 0 n))).sight ≡ s → IsSettled w (direct.does by (core.later_row (argument 0 n) s) held w [])
    by_sight (r.a_function sort) e = by_sort sort e
    by_sight s e = record { plain = tt; waiters = error_waiters by _ w; items = λ b. refl }

pub get_settled : (by c : ℕ) (us : List Value) (w : State) → IsSettled w (direct.does by core.get (direct.given (object (cell_name c 1) ∷ us)) w [])
get_settled by c us w =
    let held = direct.given (object (cell_name c 1) ∷ us) in
    record { plain = tt; waiters = λ f. f; items = quiet_heard (direct.got_from by (direct.way_into held (r.held 0)) (w.cells c)) (quiet_from by (direct.way_into held (r.held 0)) (w.cells c)) }

pub set_settled : (by n c : ℕ) (us : List Value) (w : State) → IsSettled w (direct.does by (core.set (argument 0 n)) (direct.given (object (cell_name c 2) ∷ us)) w [])
set_settled by n c us w = record { plain = tt; waiters = λ f. f; items = λ b. refl }

-- what is lent of the document is left by all callees but the methods of nodes

abbrev pub LeavesDom : Callee → Type 0
LeavesDom (callee.OfNode m) = ⊥
LeavesDom f = Unit {0}

said_dom : (m : ℕ) (t : Result (List ℕ) Fault) (y : Kept) → (with_said m t y).dom ≡ y.dom
said_dom m (Ok us) y = refl
said_dom m (Err f) y = refl

waiting_dom : (m : ℕ) (waits : Bool) (x : EsValue) (y : Kept) → (with_waiting m waits x y).dom ≡ y.dom
waiting_dom m true x y = refl
waiting_dom m false x y = refl

dom_left : (f : Callee) → LeavesDom f → (by : ℕ) (this : EsValue) (qs : List EsValue) (h : Objects) (y : Kept) → (kept_by f by this qs h y).dom ≡ y.dom
dom_left (callee.OfNode m) p by this qs h y = absurd p
dom_left (callee.Say m) p by this qs h y = said_dom m (text_of h (outcomes.argument 0 qs)) y
dom_left (callee.Later m) p by this qs h y = waiting_dom m (is_closure h (outcomes.argument 0 qs)) (outcomes.argument 0 qs) y
dom_left f p by this qs h y = refl

-- both do the row of such a function, with what stands in the place of the receiver; by the rules of the page the row does the same
pub kept_row : {form : Bool} {H : Here} {T : Temps} {k : ℕ} → H.by < 64 → (b : ℕ) (callee : Callee) (f : Native) (number : ℕ) (q : Row) (self : Value) (self' this : EsValue) (us : List Value) (qs : List EsValue) → HasItsNumber callee number → IsAmongObjects q → {w : State} {z : List Item} {n : ℕ} {g : Tags} {s : Store} {y : Kept} {m : ℕ} (go : Going) (next : Cont) (next' : Cont') → suc m ≤ 4294967295
    → IsKept (es3.does place_of H.by q (self' ∷ qs) s.heap (page_of y) []) (done_by callee H.by this qs s.heap y) y (kept_by callee H.by this qs s.heap y)
    → (KnowsPage H.rules y → KnowsPage H.rules (kept_by callee H.by this qs s.heap y))
    → direct.does H.by (row_of H.rules f (suc (length us))) (direct.given (self ∷ us)) w [] ≡ direct.does H.by q (direct.given (self ∷ us)) w []
    → IsSettled w (direct.does H.by q (direct.given (self ∷ us)) w [])
    → Val s.heap self self' → Vals s.heap us qs → RelAt form H T (suc (suc k)) w z n g s y m → NextAt form H T b k w g s m (Source.called_next go next) next'
    → Entered H b f (self ∷ us) number this qs w z n s y m go next next'
kept_row {form = form} {H = H} {T = T} {k = k} below b callee f number q self self' this us qs is among {w = w} {z = z} {n = n} {g = g} {s = s} {y = y} {m = m} go next next' few ok knows same settled own args r x =
    let vs : List Value = self ∷ us in
    let left : direct.Done → Source.Plan = λ d. bind (replied (done_reply H.around.calls H.by d) (native_go H vs)) (native_next go next) in
    let a = direct.does H.by q (direct.given vs) w [] in
    let came = es3.does place_of H.by q (self' ∷ qs) s.heap (page_of y) [] in
    let kept = kept_by callee H.by this qs s.heap y in
    let d = done_by callee H.by this qs s.heap y in
    let c : CameIs first place_of s.heap m a came = every_row first place_of H.by below first_is q among (direct.given vs) (self' ∷ qs) w s.heap (page_of y) [] [] m few (own, args) r.all.objects r.all.pages refl in
    let always : heard y.touching came.done.items ≡ came.done.items = subst (λ l. heard y.touching l ≡ l) c.done.items (settled.items y.touching) in
    let told : kept.told ≡ y.told ++ heard y.touching came.done.items = ok.told ∙ ap (λ l. y.told ++ l) (sym always) in
    let keeps : KeepsRow H.rules y kept came = record { knows = knows; touching = ok.touching; told = told; cells = ok.cells; queues = ok.queues; nodes = ok.nodes; facets = ok.facets; handlers = ok.handlers } in
    let x1 : NextAt form H T b k w g s m (Source.called_next (native_go H vs) (native_next go next)) next' = native_gives go next next' vs (omega arith) x in
    let follows : RowNextAt form Anything H T b (suc k) w n g s m (native_go H vs) (native_next go next) next' = record {
      gives = λ v e w2 z2 s2 known is2 r2 k2. x1.gives.on b (omega arith) v e w2 z2 _ _ s2 _ _ is2 (rel_less (omega arith) r2) k2;
      throws = λ v e w2 z2 s2 is2 r2 k2. x1.throws.on b (omega arith) v e w2 z2 _ _ s2 _ _ is2 (rel_less (omega arith) r2) k2;
    } in
    subst (λ a1. M H b (left a1) z n (bind (Target.task_plan page_table (Target.native_call number this qs (env_of H)) s y) next') (Target.task_state page_table (Target.native_call number this qs (env_of H)) s y) (suc m)) (sym same)
    (subst (λ (t : Turn Kept). M H b (left a) z n (bind (Target.reply_plan t.reply (env_of H) (with_heap s t.heap)) next') t.state (suc m)) (sym (ap (λ l. turn_by l H.by this qs s.heap y) is))
    (subst (λ a1. M H b (left a) z n (bind (Target.reply_plan a1 (env_of H) (with_heap s d.heap)) next') kept (suc m)) ok.reply
    (subst (λ h. M H b (left a) z n (bind (Target.reply_plan came.done.reply (env_of H) (with_heap s h)) next') kept (suc m)) ok.heap
    (settled_on {k = suc k} below q among vs (self' ∷ qs) kept (native_go H vs) (native_next go next) next' few (own, args) r (settled.waiters r.all.waiters) keeps (record { on = λ a1 w1 z1 s1 p r1 k1. reply_goes {form = form} {P = Anything} a.outcome settled.plain (gives_anything a.outcome) follows a1 w1 z1 s1 p r1 k1 })))))

-- a function of a module or of a cell stands there itself, and is known by its name
pub own_row : {form : Bool} {H : Here} {T : Temps} {k : ℕ} → H.by < 64 → (b : ℕ) (callee : Callee) → LeavesDom callee → (f : Native) (number : ℕ) (o : Name) (i : ℕ) (this : EsValue) (us : List Value) (qs : List EsValue) → DoesItsRow callee f (tag_of_name o) → HasItsNumber callee number → IsAmongObjects (row_of H.rules f (suc (length us))) → {w : State} {z : List Item} {n : ℕ} {g : Tags} {s : Store} {y : Kept} {m : ℕ} (go : Going) (next : Cont) (next' : Cont') → suc m ≤ 4294967295
    → IsSettled w (direct.does H.by (row_of H.rules f (suc (length us))) (direct.given (object o ∷ us)) w [])
    → Named s.heap o i → Vals s.heap us qs → RelAt form H T (suc (suc k)) w z n g s y m → NextAt form H T b k w g s m (Source.called_next go next) next'
    → Entered H b f (object o ∷ us) number this qs w z n s y m go next next'
own_row {H = H} {k = k} below b callee leaves f number o i this us qs does is among {s = s} {y = y} go next next' few settled named args r x =
    let kept = kept_by callee H.by this qs s.heap y in
    let d = done_by callee H.by this qs s.heap y in
    let ok : IsKept (es3.does place_of H.by (row_of H.rules f (suc (length us))) (es.Obj i ∷ qs) s.heap (page_of y) []) d y kept =
    subst (λ l. IsKept (es3.does place_of H.by (row_of H.rules f (suc l)) (es.Obj i ∷ qs) s.heap (page_of y) []) d y kept) (sym (vals_length s.heap us qs args)) (does H.rules H.by this (es.Obj i) qs s.heap y named) in
    kept_row {k = k} below b callee f number (row_of H.rules f (suc (length us))) (object o) (es.Obj i) this us qs is among go next next' few ok
    (knows_still ok.runtime ok.imports (dom_left callee leaves H.by this qs s.heap y) ok.answers) refl settled named args r x
