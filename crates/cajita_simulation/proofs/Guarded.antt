-- A guard that is called with operands that have their values, and the row that both sides then come to: it answers or throws.
use Rattle.std.proofs.Common.{◌≡◌, ℕ, suc, ◌≤◌, ◌<◌, List, [], ◌∷◌, sym, subst, arith}
use Rattle.plans.specs.Plans.{bind}
use Rattle.acts.specs.Acts.{replied}
use Rattle.es3_objects.specs.declared.value.Value.TheVariants as es
use Rattle.es3_language.specs.Store.{Store, with_heap}
use Rattle.es3_language.specs.References.{member}
use Rattle.es3_language.specs.Meaning as Target
use Rattle.rows.specs.Rows.{Row}
use Rattle.cajita_meaning.specs.World.{Value, World}
use Rattle.cajita_meaning.specs.Doing as direct
use Rattle.cajita_meaning.specs.Asking.{good, bad, done_reply}
use Rattle.cajita_meaning.specs.Direct.{Item}
use Rattle.heap_rows.specs.Doing as es3
use Rattle.heap_rows.specs.Opening.{place_of, empty_page, runtime_id}
use Rattle.row_simulation.specs.Among.{IsAmongObjects}
use Rattle.page_natives.specs.Natives.{Kept, tells, page_table}
use Rattle.cajita_simulation.proofs.Doing as Source
use Rattle.cajita_simulation.proofs.Heaps.Guards.{IsGuard}
use Rattle.cajita_simulation.proofs.Relation.{EsValue, Val, Vals, Here, env_of, Tags, Temps, Rel, Stays, rel_less, stays_step, stays_trans}
use Rattle.cajita_simulation.proofs.Laws.{NextValue, Throws, Cont, Cont', M}
use Rattle.cajita_simulation.proofs.Calls.{guard_match}
use Rattle.cajita_simulation.proofs.Rows.{Going, IsPlain, GivesOnly, Anything, gives_anything, row_match_of}

-- a row that a form asks
abbrev pub asks : Here → Row → List Value → World → Going → Source.Plan
asks H q vs w go = replied (done_reply H.around.calls H.by (direct.does H.by q (direct.given vs) w [])) go

-- what a form does with the row's answer: it goes on with the value, or throws it
pub record Passes (go : Going) (on : Value → World → Source.Plan) : Type 0 where
  pub value : (v : Value) (w : World) → go good (v ∷ []) w ≡ on v w
  pub thrown : (v : Value) (w : World) → go bad (v ∷ []) w ≡ Source.throw v w

abbrev pub GivesIt : Going → Type 0
GivesIt go = Passes go Source.give

-- the call of the guard comes to its row, and tells what that tells
pub record IsRow (H : Here) (number : ℕ) (q : Row) (us : List EsValue) (s : Store) (y : Kept) : Type 0 where
  pub plan : Target.task_plan page_table (Target.native_call number (es.Obj runtime_id) us (env_of H)) s y ≡ Target.reply_plan (es3.does place_of H.by q us s.heap empty_page []).done.reply (env_of H) (with_heap s (es3.does place_of H.by q us s.heap empty_page []).done.heap)
  pub kept : Target.task_state page_table (Target.native_call number (es.Obj runtime_id) us (env_of H)) s y ≡ tells (es3.does place_of H.by q us s.heap empty_page []).done.items y

-- both go on with the value, of which this holds
pub guarded_of : {H : Here} {T : Temps} {d k j i : ℕ} {guard : List ℕ} {number : ℕ} → H.by < 64 → (is : IsGuard guard number) (P : Value → Type 0) (q : Row) → IsAmongObjects q → IsPlain q → (vs : List Value) (us : List EsValue) {w : World} {z : List Item} {n : ℕ} {g : Tags} {s : Store} {y : Kept} {m : ℕ} (go : Going) (on : Value → World → Source.Plan) (next : Cont) (next' : Cont')
    → IsRow H number q us s y → Passes go on → GivesOnly P (direct.does H.by q (direct.given vs) w []).outcome → Vals s.heap vs us → Rel H T (suc k) w z n g s y m → j ≤ k → i ≤ m → Throws H T d j w g s i next next'
    → ((y' : Kept) (v : Value) (e : EsValue) (w' : World) (z' : List Item) (s' : Store) → P v → Val s'.heap v e → Rel H T k w' z' n g s' y' (suc m) → Stays w g s m w' g s' (suc m) → M H d (bind (on v w') next) z' n (next' (Target.gave e) s') y' (suc m))
    → M H d (bind (asks H q vs w go) next) z n (bind (Target.do_call (Target.called (member (es.Obj runtime_id) guard)) us (env_of H) s) next') y m
guarded_of {H = H} {d = d} {number = number} below is P q among plain vs us {w = w} {z = z} {n = n} {s = s} {y = y} {m = m} go on next next' row goes known are r less few x f =
    guard_match is us next' r (λ small.
    let p0 = bind (asks H q vs w go) next in
    subst (λ o. M H d p0 z n (bind (Target.task_plan page_table (Target.native_call number (es.Obj runtime_id) us (env_of H)) s y) next') o (suc m)) (sym row.kept)
    (subst (λ o. M H d p0 z n (bind o next') (tells (es3.does place_of H.by q us s.heap empty_page []).done.items y) (suc m)) (sym row.plan)
    (row_match_of below P q among plain vs us empty_page go next next' known small are r (record {
      gives = λ {y = y1} v e w1 z1 s1 holds is1 r1 keep. subst (λ o. M H d (bind o next) z1 n (next' (Target.gave e) s1) y1 (suc m)) (sym (goes.value v w1)) (f y1 v e w1 z1 s1 holds is1 r1 keep);
      throws = λ {y = y1} v e w1 z1 s1 is1 r1 keep. subst (λ o. M H d (bind o next) z1 n (next' (Target.threw e) s1) y1 (suc m)) (sym (goes.thrown v w1)) (x.on d (omega arith) v e w1 z1 _ _ s1 _ _ is1 (rel_less (omega (arith, less)) r1) (stays_trans (stays_step (omega (arith, few))) keep));
    }))))

-- both go on with any value
pub guarded_on : {H : Here} {T : Temps} {d k j i : ℕ} {guard : List ℕ} {number : ℕ} → H.by < 64 → (is : IsGuard guard number) (q : Row) → IsAmongObjects q → IsPlain q → (vs : List Value) (us : List EsValue) {w : World} {z : List Item} {n : ℕ} {g : Tags} {s : Store} {y : Kept} {m : ℕ} (go : Going) (on : Value → World → Source.Plan) (next : Cont) (next' : Cont')
    → IsRow H number q us s y → Passes go on → Vals s.heap vs us → Rel H T (suc k) w z n g s y m → j ≤ k → i ≤ m → Throws H T d j w g s i next next'
    → ((y' : Kept) (v : Value) (e : EsValue) (w' : World) (z' : List Item) (s' : Store) → Val s'.heap v e → Rel H T k w' z' n g s' y' (suc m) → Stays w g s m w' g s' (suc m) → M H d (bind (on v w') next) z' n (next' (Target.gave e) s') y' (suc m))
    → M H d (bind (asks H q vs w go) next) z n (bind (Target.do_call (Target.called (member (es.Obj runtime_id) guard)) us (env_of H) s) next') y m
guarded_on {H = H} below is q among plain vs us {w = w} go on next next' row goes are r less few x f =
    guarded_of below is Anything q among plain vs us go on next next' row goes (gives_anything (direct.does H.by q (direct.given vs) w []).outcome) are r less few x (λ y1 v e w1 z1 s1 holds is1 r1 keep. f y1 v e w1 z1 s1 is1 r1 keep)

-- the value is the form's
pub guarded : {H : Here} {T : Temps} {d k j i : ℕ} {guard : List ℕ} {number : ℕ} → H.by < 64 → (is : IsGuard guard number) (q : Row) → IsAmongObjects q → IsPlain q → (vs : List Value) (us : List EsValue) {w : World} {z : List Item} {n : ℕ} {g : Tags} {s : Store} {y : Kept} {m : ℕ} (go : Going) (next : Cont) (next' : Cont')
    → IsRow H number q us s y → GivesIt go → Vals s.heap vs us → Rel H T (suc k) w z n g s y m → j ≤ k → i ≤ m → NextValue H T d j w g s i next next'
    → M H d (bind (asks H q vs w go) next) z n (bind (Target.do_call (Target.called (member (es.Obj runtime_id) guard)) us (env_of H) s) next') y m
guarded {d = d} below is q among plain vs us go next next' row goes are r less few x =
    guarded_on below is q among plain vs us go Source.give next next' row goes are r less few x.throws (λ y1 v e w1 z1 s1 is1 r1 keep. x.gives.on d (omega arith) v e w1 z1 _ _ s1 _ _ is1 (rel_less (omega (arith, less)) r1) (stays_trans (stays_step (omega (arith, few))) keep))
