-- The call of a function that no module made: both sides enter it, and come to its row.
use Rattle.std.proofs.Common.{◌≡◌, ℕ, zero, suc, ◌≤◌, ◌<◌, Bool, true, false, List, [], ◌∷◌, ◌++◌, length, Some, cond, refl, sym, ap, ◌∙◌, subst, arith}
use Rattle.std.specs.Prelude.{nat_lt}
use Rattle.std.proofs.lemmas.Bool.Decides.{nat_tests}
use Rattle.plans.specs.Plans.{bind, ends, enter}
use Rattle.acts.specs.Acts.{task, given_at, replied}
use Rattle.matching.proofs.Rules.{both_cut, both_enter, right_past, left_told}
use Rattle.es3_objects.specs.declared.value.Value.TheVariants as es
use Rattle.es3_objects.specs.declared.value.FuncKind.{FuncKind}
use Rattle.es3_heap.specs.Objects as heap
use Rattle.es3_language.specs.Store.{Store, with_heap}
use Rattle.es3_language.specs.Natives.{Turn}
use Rattle.es3_language.specs.Expressions.{apply_kind, apply_callable}
use Rattle.es3_language.specs.Meaning as Target
use Rattle.rows.specs.Rows as r
use Rattle.rows.specs.Rows.{Native, Row, to_call}
use Rattle.rows.specs.Names.{sort_of, is_exophoric}
use Rattle.rows.specs.Table.{row_of}
use Rattle.cajita_meaning.specs.World.{Name, Value, object, World as State}
use Rattle.cajita_meaning.specs.Doing as direct
use Rattle.cajita_meaning.specs.Asking.{native_call, native_reply, done_reply}
use Rattle.cajita_meaning.specs.Direct as Direct
use Rattle.cajita_meaning.specs.Direct.{Item, a_native, touched}
use Rattle.heap_rows.specs.Natives.{kind_by}
use Rattle.heap_rows.specs.Doing as es3
use Rattle.heap_rows.specs.Opening.{place_of, empty_page}
use Rattle.page_natives.specs.Answered.{turn_of}
use Rattle.page_natives.specs.Natives.{Kept, tells, page_table}
use Rattle.row_simulation.specs.Among.{IsAmongObjects}
use Rattle.cajita_simulation.proofs.Doing as Source
use Rattle.cajita_simulation.proofs.Relation.{RelAt, EsValue, Named, Vals, Here, env_of, Tags, Temps, rel_steps}
use Rattle.cajita_simulation.proofs.Told.{tells_nothing}
use Rattle.cajita_simulation.proofs.Laws.{NextAt, Cont, Cont', M, most_steps, steps_hold, begins_there}
use Rattle.cajita_simulation.proofs.Rows.{Going, NoTouches, row_silent}
use Rattle.cajita_simulation.proofs.Forms.Call.{tail_next}
use Rattle.cajita_simulation.proofs.Calling.Laws.{NativeAt, ClosureAt, applied, told_call, noted, rel_called}
use Rattle.cajita_simulation.proofs.Calling.Calls.{IsCalling, calling_settling, calling_match}

-- the interpreter enters it by its number

pub kind_entered : (n : ℕ) (sort : r.Sort) (f this : EsValue) (qs : List EsValue) (env : Target.Env) (s : Store) → apply_kind (kind_by n sort) 0 f this qs env s ≡ enter (Target.native_call n this qs env) s ends
kind_entered n (r.exophoric wanted) f this qs env s = refl
kind_entered n (r.constructor maker) f this qs env s = refl
kind_entered n sort f this qs env s = refl

pub applied_native : (i : ℕ) (k : FuncKind) (number : ℕ) (this : EsValue) (qs : List EsValue) (env : Target.Env) (s : Store) → heap.callable_of (heap.object_at s.heap i) ≡ Some (record { kind = k; maker = 0 }) → apply_kind k 0 (es.Obj i) this qs env s ≡ enter (Target.native_call number this qs env) s ends
    → Target.apply (es.Obj i) this qs env s ≡ enter (Target.native_call number this qs env) s ends
applied_native i k number this qs env s callable entered = ap (λ c. apply_callable c (es.Obj i) this qs env s) callable ∙ entered

-- the value in the place of the receiver, and what the native gives to the form that called it
abbrev pub self_of : Native → Name → Value → Value
self_of f o receiver = cond (is_exophoric (sort_of f)) receiver (object o)

abbrev pub native_go : Here → List Value → Going
native_go H vs = Source.answered H 1 (given_at vs) (Direct.or_throw Direct.give)

abbrev pub native_next : Going → Cont → Cont
native_next go next c w = bind (replied (native_reply c w) go) next

passed_next : {form : Bool} {H : Here} {T : Temps} {d k : ℕ} {w : State} {g : Tags} {s : Store} {i : ℕ} (go : Going) (next : Cont) (next' : Cont') → NextAt form H T d k w g s i (Source.called_next go next) next' → NextAt form H T d k w g s i (native_next go next) next'
passed_next go next next' x = record {
  gives = record { on = λ c le v e w z n g s y m is r k. x.gives.on c le v e w z n g s y m is r k };
  throws = record { on = λ c le v e w z n g s y m is r k. x.throws.on c le v e w z n g s y m is r k };
}

pub native_gives : {form : Bool} {H : Here} {T : Temps} {d c k : ℕ} {w : State} {g : Tags} {s : Store} {i : ℕ} (go : Going) (next : Cont) (next' : Cont') (vs : List Value) → c ≤ d → NextAt form H T d k w g s i (Source.called_next go next) next' → NextAt form H T c k w g s i (Source.called_next (native_go H vs) (native_next go next)) next'
native_gives {form = form} {H = H} {T = T} {c = b} {k = k} {w = w0} {g = g0} {s = s0} {i = i} go next next' vs le x =
    let x1 : NextAt form H T b k w0 g0 s0 i (Source.called_next go next) next' = record {
      gives = record { on = λ c less v e w z n g s y m is r keep. x.gives.on c (omega (arith, le, less)) v e w z n g s y m is r keep };
      throws = record { on = λ c less v e w z n g s y m is r keep. x.throws.on c (omega (arith, le, less)) v e w z n g s y m is r keep };
    } in
    tail_next {next = native_next go next} (given_at vs) (passed_next go next next' x1)

-- the row of the function in the world, and the native among objects, are matched once both sides have entered it
abbrev pub Entered : Here → ℕ → Native → List Value → ℕ → EsValue → List EsValue → State → List Item → ℕ → Store → Kept → ℕ → Going → Cont → Cont' → Type 0
Entered H a f vs number this qs w z n s y m go next next' =
    M H a (bind (replied (done_reply H.around.calls H.by (direct.does H.by (row_of H.rules f (length vs)) (direct.given vs) w [])) (native_go H vs)) (native_next go next)) z n
    (bind (Target.task_plan page_table (Target.native_call number this qs (env_of H)) s y) next') (Target.task_state page_table (Target.native_call number this qs (env_of H)) s y) (suc m)

entering : {form : Bool} {H : Here} {T : Temps} (a k : ℕ) (f : Native) (vs : List Value) (number : ℕ) (this : EsValue) (qs : List EsValue) {w : State} {z : List Item} {n : ℕ} {g : Tags} {s : Store} {y : Kept} {m : ℕ} (go : Going) (next : Cont) (next' : Cont') → RelAt form H T k w z n g s y m
    → ((b : ℕ) → b < a → suc m ≤ 4294967295 → RelAt form H T (suc (suc k)) w z (suc n) g s y m → Entered H b f vs number this qs w z (suc n) s y m go next next')
    → m ≤ 4294967294
    → M H a (enter (task (a_native f H.around.calls) H.by vs) w (native_next go next)) z n (enter (Target.native_call number this qs (env_of H)) s next') y m
entering zero k f vs number this qs go next next' r on few = both_cut (steps_hold r) r.all.items
entering (suc b) k f vs number this qs go next next' r on few = both_enter (on b (omega arith) (omega (arith, few)) (rel_steps (omega arith) (omega (arith, r.all.steps)) r))

-- both enter it
pub native_enters : {form : Bool} {H : Here} {T : Temps} (a k : ℕ) (recorded : Bool) (o : Name) (f : Native) (i number : ℕ) (receiver : Value) (this : EsValue) (us : List Value) (qs : List EsValue) {w : State} {z : List Item} {n : ℕ} {g : Tags} {s : Store} {y : Kept} {m : ℕ} {c : heap.Callable} (go : Going) (next : Cont) (next' : Cont') → RelAt form H T k w z n g s y m → Named s.heap o i → heap.callable_of (heap.object_at s.heap i) ≡ Some c
    → Target.apply (es.Obj i) this qs (env_of H) s ≡ enter (Target.native_call number this qs (env_of H)) s ends
    → ((b : ℕ) (z' : List Item) (y' : Kept) → b < a → suc m ≤ 4294967295 → RelAt form H T (suc (suc k)) w z' (suc n) g s y' m → Entered H b f (self_of f o receiver ∷ us) number this qs w z' (suc n) s y' m go next next')
    → M H a (bind (replied (native_call H.around.calls recorded (Some f) o receiver us H.by w) go) next) z n (bind (applied H recorded (es.Obj i) this qs s) next') y m
native_enters {form = form} {H = H} {T = T} a k recorded o f i number receiver this us qs {w = w} {n = n} {g = g} {s = s} {m = m} go next next' r named callable calls on = by_record recorded r
  where
    vs : List Value
    vs = self_of f o receiver ∷ us

    looked : (z : List Item) (y : Kept) → RelAt form H T k w z n g s y m → (b : Bool) → nat_lt most_steps m ≡ b → M H a (enter (task (a_native f H.around.calls) H.by (self_of f o receiver ∷ us)) w (native_next go next)) z n (enter (Target.native_call number this qs (env_of H)) s next') y m
    looked z y r true past = right_past (grind (arith, nat_tests)) (steps_hold r) (begins_there z y r.all.items)
    looked z y r false few = entering a k f (self_of f o receiver ∷ us) number this qs go next next' r (λ b lt small r1. on b z y lt small r1) (grind (arith, nat_tests))

    called : (z : List Item) (y : Kept) → RelAt form H T k w z n g s y m → M H a (enter (task (a_native f H.around.calls) H.by (self_of f o receiver ∷ us)) w (native_next go next)) z n (bind (Target.apply (es.Obj i) this qs (env_of H) s) next') y m
    called z y r = subst (λ q. M H a (enter (task (a_native f H.around.calls) H.by (self_of f o receiver ∷ us)) w (native_next go next)) z n (bind q next') y m) (sym calls) (looked z y r (nat_lt most_steps m) refl)

    by_record : {z : List Item} {y : Kept} (b : Bool) → RelAt form H T k w z n g s y m → M H a (bind (replied (native_call H.around.calls b (Some f) o receiver us H.by w) go) next) z n (bind (applied H b (es.Obj i) this qs s) next') y m
    by_record {z = z} {y = y} true r = left_told (noted H o i (env_of H) s (Target.apply (es.Obj i) this qs (env_of H) s) next' named callable (called (z ++ touched H.by to_call o [] ∷ []) (told_call H.by o y) (rel_called o r)))
    by_record {z = z} {y = y} false r = called z y r

-- a row that ends by itself or in a call, and touches nothing
pub called_row : {form : Bool} {H : Here} {T : Temps} {d k : ℕ} → H.by < 64 → ClosureAt form H d → NativeAt form H d → (b : ℕ) → b < d → (f : Native) (vs : List Value) (number : ℕ) (this : EsValue) (qs : List EsValue) (q : Row) → IsAmongObjects q → NoTouches q → (c : ℕ) → c < 4294967296 → IsCalling c [] q → (held : List Value) (es : List EsValue) {w : State} {z : List Item} {n : ℕ} {g : Tags} {s : Store} {y : Kept} {m : ℕ} (go : Going) (next : Cont) (next' : Cont') → suc m ≤ 4294967295
    → direct.does H.by (row_of H.rules f (length vs)) (direct.given vs) w [] ≡ direct.does H.by q (direct.given held) w []
    → page_table.answer number H.by this qs s.heap y ≡ turn_of (es3.does place_of H.by q es s.heap empty_page []).done y
    → Vals s.heap held es → RelAt form H T (suc (suc k)) w z n g s y m → NextAt form H T b k w g s m (Source.called_next go next) next'
    → Entered H b f vs number this qs w z n s y m go next next'
called_row {form = form} {H = H} {k = k} below closures natives b lt f vs number this qs q among silent c short calling held es {w = w} {z = z} {n = n} {s = s} {y = y} {m = m} go next next' few same turn is r x =
    let left : direct.Done → Source.Plan = λ d. bind (replied (done_reply H.around.calls H.by d) (native_go H vs)) (native_next go next) in
    subst (λ a. M H b (left a) z n (bind (Target.task_plan page_table (Target.native_call number this qs (env_of H)) s y) next') (Target.task_state page_table (Target.native_call number this qs (env_of H)) s y) (suc m)) (sym same)
    (subst (λ (t : Turn Kept). M H b (left (direct.does H.by q (direct.given held) w [])) z n (bind (Target.reply_plan t.reply (env_of H) (with_heap s t.heap)) next') t.state (suc m)) (sym turn)
    (subst (λ o. M H b (left (direct.does H.by q (direct.given held) w [])) z n (bind (Target.reply_plan (es3.does place_of H.by q es s.heap empty_page []).done.reply (env_of H) (with_heap s (es3.does place_of H.by q es s.heap empty_page []).done.heap)) next') o (suc m)) (ap (λ l. tells l y) (row_silent below q among (calling_settling c q [] calling) silent held es empty_page few is r) ∙ tells_nothing y)
    (calling_match {k = k} below closures natives b lt q among c short calling held es empty_page (native_go H vs) (native_next go next) next' few is r (native_gives go next next' vs (omega arith) x))))
