-- The laws of calls, by what is called: a closure, or a function that no module made; and the call of either.
use Rattle.std.proofs.Common.{◌≡◌, ℕ, ◌≤◌, ◌<◌, Bool, true, false, List, [], ◌∷◌, ◌++◌, length, Some, None, cond, refl, sym, subst}
use Rattle.plans.specs.Plans.{bind}
use Rattle.acts.specs.Acts.{replied}
use Rattle.matching.proofs.Rules.{left_told, right_told}
use Rattle.es3_objects.specs.declared.value.Value.TheVariants as es
use Rattle.es3_objects.specs.declared.value.Tag.{Tag}
use Rattle.es3_objects.specs.declared.value.Tag.TheVariants as tag
use Rattle.es3_heap.specs.Objects as heap
use Rattle.es3_language.specs.Store.{Store}
use Rattle.es3_language.specs.Expressions.{note_of, note_call, function_tag, apply_callable}
use Rattle.es3_language.specs.declared.Touch.TheVariants as touch
use Rattle.es3_language.specs.Meaning as Target
use Rattle.rows.specs.Rows.{Native, to_call}
use Rattle.cajita_tree.specs.Tree as c
use Rattle.cajita_meaning.specs.World.{Name, made_name, cell_name, own_name, built_name, tools_name, facet_name, forward_name, Value, object, a_closure, World as State}
use Rattle.cajita_meaning.specs.Asking.{native_at, entry_reply, closure_call, native_call, call_reply}
use Rattle.cajita_meaning.specs.Direct.{Item, touched}
use Rattle.heap_rows.specs.Doing as told
use Rattle.row_simulation.specs.Correspond.{tag_of_name}
use Rattle.row_simulation.proofs.Names.{name_there}
use Rattle.page_natives.specs.Natives.{Kept, tells}
use Rattle.cajita_simulation.proofs.Doing as Source
use Rattle.cajita_simulation.proofs.Relation.{RelAt, EsValue, Val, Vals, Named, Here, env_of, Tags, Temps, CodeIs}
use Rattle.cajita_simulation.proofs.Changes.{rel_tells}
use Rattle.cajita_simulation.proofs.Laws.{NextAt, Cont, Cont', M}
use Rattle.cajita_simulation.proofs.Rows.{Going}
use Rattle.cajita_simulation.proofs.Calling.Callable.{IsFunctionName, IsCallable}

-- where steps are left, no more values are given than an array may have items
abbrev pub FewValues : ℕ → List EsValue → Type 0
FewValues m qs = m ≤ 4294967295 → length qs < 4294967296

-- a closure's code is called, with fewer than d tasks; a call leaves as many steps in hand as it began with
pub record ClosureAt (form : Bool) (H : Here) (d : ℕ) : Type 0 where
  pub on : {T : Temps} {a k : ℕ} (by i : ℕ) (f : c.Tree c.func) (direct : List ℕ) (this : EsValue) (us : List Value) (qs : List EsValue) {w : State} {z : List Item} {n : ℕ} {g : Tags} {s : Store} {y : Kept} {m : ℕ} (go : Going) (next : Cont) (next' : Cont') → a < d → by < 64 → CodeIs by g s f direct i → Vals s.heap us qs → FewValues m qs → RelAt form H T k w z n g s y m → NextAt form H T a k w g s m (Source.called_next go next) next'
      → M H a (bind (replied (entry_reply f direct by us H.around.calls H.by w) go) next) z n (bind (apply_callable (heap.callable_of (heap.object_at s.heap i)) (es.Obj i) this qs (env_of H) s) next') y m

-- the call of a value in the interpreter, recorded or not
abbrev pub applied : Here → Bool → EsValue → EsValue → List EsValue → Store → Target.Plan
applied H recorded e this qs s = cond recorded (note_call touch.Call e (env_of H) s (Target.apply e this qs (env_of H) s)) (Target.apply e this qs (env_of H) s)

-- so is a function that no module made
pub record NativeAt (form : Bool) (H : Here) (d : ℕ) : Type 0 where
  pub on : {T : Temps} {a k : ℕ} (recorded : Bool) (o : Name) (f : Native) (i : ℕ) (receiver : Value) (this : EsValue) (us : List Value) (qs : List EsValue) {w : State} {z : List Item} {n : ℕ} {g : Tags} {s : Store} {y : Kept} {m : ℕ} (go : Going) (next : Cont) (next' : Cont') → a < d → native_at o ≡ Some f → Named s.heap o i → Val s.heap receiver this → Vals s.heap us qs → FewValues m qs → RelAt form H T k w z n g s y m → NextAt form H T a k w g s m (Source.called_next go next) next'
      → M H a (bind (replied (native_call H.around.calls recorded (Some f) o receiver us H.by w) go) next) z n (bind (applied H recorded (es.Obj i) this qs s) next') y m

-- of calls that a form makes
abbrev pub ClosureLaw : Here → ℕ → Type 0
ClosureLaw H d = ClosureAt true H d

abbrev pub NativeLaw : Here → ℕ → Type 0
NativeLaw H d = NativeAt true H d

-- what a page tells of a call of what stands for a name
abbrev pub told_call : ℕ → Name → Kept → Kept
told_call by o y = tells (told.touched by to_call (tag_of_name o) [] ∷ []) y

-- the call of a function with a name is recorded, and then made
pub noted : (H : Here) {d : ℕ} (o : Name) (i : ℕ) {f : heap.Callable} {p : Source.Plan} {z : List Item} {n : ℕ} (env : Target.Env) (s : Store) (q : Target.Plan) (next' : Cont') {y : Kept} {m : ℕ} → Named s.heap o i → heap.callable_of (heap.object_at s.heap i) ≡ Some f → M H d p z n (bind q next') (told_call env.by o y) m → M H d p z n (bind (note_call touch.Call (es.Obj i) env s q) next') y m
noted H {d = d} o i {p = p} {z = z} {n = n} env s q next' {y = y} {m = m} named callable x =
    subst (λ c. M H d p z n (bind (note_of touch.Call (function_tag c (heap.tag_of (heap.object_at s.heap i))) None env q) next') y m) (sym callable)
    (subst (λ g. M H d p z n (bind (note_of touch.Call g None env q) next') y m) (sym named) (by_tag (tag_of_name o) (name_there o) x))
  where
    by_tag : (g : Tag) → (tag.None ≡ g → ⊥) → M H d p z n (bind q next') (tells (told.touched env.by to_call g [] ∷ []) y) m → M H d p z n (bind (note_of touch.Call g None env q) next') y m
    by_tag tag.None wrong x = absurd (wrong refl)
    by_tag g wrong x = right_told x

-- both sides tell it
pub rel_called : {form : Bool} {H : Here} {T : Temps} {k : ℕ} {w : State} {z : List Item} {n : ℕ} {g : Tags} {s : Store} {y : Kept} {m : ℕ} (o : Name) → RelAt form H T k w z n g s y m → RelAt form H T k w (z ++ touched H.by to_call o [] ∷ []) n g s (told_call H.by o y) m
rel_called {form = form} {H = H} o r = rel_tells (touched H.by to_call o [] ∷ []) (told.touched H.by to_call (tag_of_name o) [] ∷ []) refl r

native_match : {form : Bool} {H : Here} {T : Temps} {d k : ℕ} (natives : NativeAt form H d) (recorded : Bool) (a : ℕ) (o : Name) (i : ℕ) (receiver : Value) (this : EsValue) (us : List Value) (qs : List EsValue) {w : State} {z : List Item} {n : ℕ} {g : Tags} {s : Store} {y : Kept} {m : ℕ} (go : Going) (next : Cont) (next' : Cont') → a < d → (f : Native) × (native_at o ≡ Some f) → Named s.heap o i → Val s.heap receiver this → Vals s.heap us qs → FewValues m qs → RelAt form H T k w z n g s y m → NextAt form H T a k w g s m (Source.called_next go next) next'
    → M H a (bind (replied (native_call H.around.calls recorded (native_at o) o receiver us H.by w) go) next) z n (bind (applied H recorded (es.Obj i) this qs s) next') y m
native_match {form = form} {H = H} natives recorded a o i receiver this us qs {w = w} {z = z} {n = n} {s = s} {y = y} {m = m} go next next' lt is named at args small r x =
    subst (λ f. M H a (bind (replied (native_call H.around.calls recorded f o receiver us H.by w) go) next) z n (bind (applied H recorded (es.Obj i) this qs s) next') y m) (sym is.1)
    (natives.on recorded o is.0 i receiver this us qs go next next' lt is.1 named at args small r x)

closure_match : {form : Bool} {H : Here} {T : Temps} {d k : ℕ} (closures : ClosureAt form H d) (recorded : Bool) (a o i j : ℕ) (receiver : Value) (this : EsValue) (us : List Value) (qs : List EsValue) {w : State} {z : List Item} {n : ℕ} {g : Tags} {s : Store} {y : Kept} {m : ℕ} (go : Going) (next : Cont) (next' : Cont') → a < d → IsFunctionName w (made_name o i) → Named s.heap (made_name o i) j → Vals s.heap us qs → FewValues m qs → RelAt form H T k w z n g s y m → NextAt form H T a k w g s m (Source.called_next go next) next'
    → M H a (bind (replied (call_reply H.around.calls recorded (object (made_name o i)) receiver us H.by w) go) next) z n (bind (applied H recorded (es.Obj j) this qs s) next') y m
closure_match {form = form} {H = H} closures recorded a o i j receiver this us qs {w = w} {z = z} {n = n} {g = g} {s = s} {y = y} {m = m} go next next' lt fun is args small r x =
    let all = r.all.closures o i fun.0 fun.1 fun.2 in
    let code = all.1 j is in
    subst (λ q. M H a (bind (replied (closure_call H.around.calls recorded q o i us H.by w) go) next) z n (bind (applied H recorded (es.Obj j) this qs s) next') y m) (sym fun.2) (by_record recorded all.0 code)
  where
    by_record : (b : Bool) → o < 64 → CodeIs o g s fun.0 fun.1 j → M H a (bind (replied (closure_call H.around.calls b (Some (a_closure fun.0 fun.1)) o i us H.by w) go) next) z n (bind (applied H b (es.Obj j) this qs s) next') y m
    by_record true below code =
        left_told (noted H (made_name o i) j (env_of H) s (Target.apply (es.Obj j) this qs (env_of H) s) next' is code.callable
        (closures.on o j fun.0 fun.1 this us qs go next next' lt below code args small (rel_called (made_name o i) r) x))
    by_record false below code = closures.on o j fun.0 fun.1 this us qs go next next' lt below code args small r x

-- a function is called
pub call_match : {form : Bool} {H : Here} {T : Temps} {d k : ℕ} (closures : ClosureAt form H d) (natives : NativeAt form H d) (recorded : Bool) (a : ℕ) (v receiver : Value) (e this : EsValue) (us : List Value) (qs : List EsValue) {w : State} {z : List Item} {n : ℕ} {g : Tags} {s : Store} {y : Kept} {m : ℕ} (go : Going) (next : Cont) (next' : Cont') → a < d → IsCallable w v → Val s.heap v e → Val s.heap receiver this → Vals s.heap us qs → FewValues m qs → RelAt form H T k w z n g s y m → NextAt form H T a k w g s m (Source.called_next go next) next'
    → M H a (bind (replied (call_reply H.around.calls recorded v receiver us H.by w) go) next) z n (bind (applied H recorded e this qs s) next') y m
call_match closures natives b a (object (made_name o i)) receiver (es.Obj j) this us qs go next next' lt fun is at args small r x = closure_match closures b a o i j receiver this us qs go next next' lt fun is args small r x
call_match closures natives b a (object (built_name f)) receiver (es.Obj j) this us qs go next next' lt fun is at args small r x = native_match natives b a (built_name f) j receiver this us qs go next next' lt fun is at args small r x
call_match closures natives b a (object (tools_name f)) receiver (es.Obj j) this us qs go next next' lt fun is at args small r x = native_match natives b a (tools_name f) j receiver this us qs go next next' lt fun is at args small r x
call_match closures natives b a (object (own_name o f)) receiver (es.Obj j) this us qs go next next' lt fun is at args small r x = native_match natives b a (own_name o f) j receiver this us qs go next next' lt fun is at args small r x
call_match closures natives b a (object (cell_name o f)) receiver (es.Obj j) this us qs go next next' lt fun is at args small r x = native_match natives b a (cell_name o f) j receiver this us qs go next next' lt fun is at args small r x
call_match closures natives b a (object (facet_name o f)) receiver (es.Obj j) this us qs go next next' lt fun is at args small r x = native_match natives b a (facet_name o f) j receiver this us qs go next next' lt fun is at args small r x
call_match closures natives b a (object (forward_name o f c l)) receiver (es.Obj j) this us qs go next next' lt fun is at args small r x = native_match natives b a (forward_name o f c l) j receiver this us qs go next next' lt fun is at args small r x
call_match closures natives b a (object o) receiver e this us qs go next next' lt fun is at args small r x = absurd is
call_match closures natives b a v receiver e this us qs go next next' lt fun is at args small r x = absurd fun
