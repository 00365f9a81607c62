-- Rows that end in a call: what they call was seen to be a function, and both sides call it.
use Rattle.std.proofs.Common.{◌≡◌, ℕ, zero, suc, ◌+◌, ◌≤◌, ◌<◌, Bool, true, false, List, [], ◌∷◌, ◌++◌, Option, Some, None, Result, Ok, Err, cond, ◌⊎◌, inl, inr, refl, sym, ap, ◌∙◌, subst, arith}
use Rattle.std.specs.Prelude.{ℤ, length, map, nat_lt, slice_get}
use Rattle.std.proofs.lemmas.List.{append_assoc, length-map}
use Rattle.plans.specs.Plans.{Fault, bind}
use Rattle.acts.specs.Acts.{replied}
use Rattle.matching.proofs.Rules.{both_stop}
use Rattle.es3_objects.specs.declared.value.Value.TheVariants as es
use Rattle.es3_heap.specs.Objects as heap
use Rattle.es3_heap.specs.Objects.{Objects}
use Rattle.es3_language.specs.Store.{Store, with_heap}
use Rattle.es3_language.specs.Natives.{Reply, value_reply, throw_reply, invoke_reply, stop_reply}
use Rattle.es3_language.specs.Meaning as Target
use Rattle.rows.specs.Rows as r
use Rattle.rows.specs.Rows.{Handle, Sight, Ending, Row}
use Rattle.cajita_meaning.specs.World as World
use Rattle.cajita_meaning.specs.World.{Value, World as State}
use Rattle.cajita_meaning.specs.Doing as direct
use Rattle.cajita_meaning.specs.Asking.{outcome_reply, done_reply, call_reply}
use Rattle.cajita_meaning.specs.Direct.{Item}
use Rattle.heap_rows.specs.Doing as es3
use Rattle.heap_rows.specs.Opening.{first, place_of}
use Rattle.row_simulation.specs.Correspond as rows
use Rattle.row_simulation.proofs.Row.{vals_append, vals_length, handle_is}
use Rattle.row_simulation.proofs.Sights.{seen_alike, seen_among}
use Rattle.row_simulation.specs.Among.{IsAmongObjects}
use Rattle.row_simulation.specs.RowLaw.{ReplyIs}
use Rattle.page_natives.specs.Natives.{Kept, tells}
use Rattle.cajita_simulation.specs.Alike.{GuestFault}
use Rattle.cajita_simulation.proofs.Doing as Source
use Rattle.cajita_simulation.proofs.Relation.{RelAt, EsValue, Val, Vals, ObjectsAre, Here, env_of, Tags, Temps, rel_less, Stays}
use Rattle.cajita_simulation.proofs.Laws.{NextAt, value_from, Cont, Cont', M, steps_hold}
use Rattle.cajita_simulation.proofs.Rows.{Going, NoSettling, row_on, EndsPlainly, converts_text, converts_number, converts_joined, converts_if, Converts}
use Rattle.cajita_simulation.proofs.Calling.Callable.{IsCallable, IsFunctionSight, callable_seen, callable_stays}
use Rattle.cajita_simulation.proofs.Calling.Laws.{NativeAt, ClosureAt, applied, call_match}

-- what was looked at, the last first, and what was seen of each
abbrev pub Looked : Type 0
Looked = List (Handle × Sight)

-- a call is of what was looked at, and seen to be a function
abbrev pub CallsSeen : Looked → Handle → Type 0
CallsSeen [] f = ⊥
CallsSeen ((x, s) ∷ o) f = ((f ≡ x) × IsFunctionSight s) ⊎ CallsSeen o f

-- it gives no more values than a number, or those of an array that was looked at
abbrev pub AreItems : Sight → List Handle → Type 0
AreItems (r.an_array frozen ys) xs = ys ≡ xs
AreItems s xs = ⊥

abbrev pub GivesSeen : Looked → List Handle → Type 0
GivesSeen [] xs = ⊥
GivesSeen ((x, s) ∷ o) xs = AreItems s xs ⊎ GivesSeen o xs

abbrev pub EndsCalling : ℕ → Looked → Ending → Type 0
EndsCalling b o (r.calls recorded f t xs) = CallsSeen o f × ((length xs ≤ b) ⊎ GivesSeen o xs)
EndsCalling b o e = EndsPlainly e

abbrev pub IsCalling : ℕ → Looked → Row → Type 0
IsCalling b o (r.ends e) = EndsCalling b o e
IsCalling b o (r.settles e) = ⊥
IsCalling b o (r.as_text x go) = (us : List ℕ) → IsCalling b o (go us)
IsCalling b o (r.as_number x go) = (n : ℤ) → IsCalling b o (go n)
IsCalling b o (r.as_joined x sep go) = (us : List ℕ) → IsCalling b o (go us)
IsCalling b o (r.as_same x y go) = (c : Bool) → IsCalling b o (go c)
IsCalling b o (r.looks x go) = (s : Sight) → IsCalling b ((x, s) ∷ o) (go s)
IsCalling b o (r.as_same_root x v go) = ⊥
IsCalling b o (r.branches x go other) = ⊥
IsCalling b o (r.touches t x k next) = IsCalling b o next

pub calling_settling : (b : ℕ) (q : Row) (o : Looked) → IsCalling b o q → NoSettling q
calling_settling b (r.ends e) o p = tt
calling_settling b (r.settles e) o p = absurd p
calling_settling b (r.as_text x go) o p = λ us. calling_settling b (go us) o (p us)
calling_settling b (r.as_number x go) o p = λ n. calling_settling b (go n) o (p n)
calling_settling b (r.as_joined x sep go) o p = λ us. calling_settling b (go us) o (p us)
calling_settling b (r.as_same x y go) o p = λ c. calling_settling b (go c) o (p c)
calling_settling b (r.looks x go) o p = λ s. calling_settling b (go s) ((x, s) ∷ o) (p s)
calling_settling b (r.as_same_root x v go) o p = absurd p
calling_settling b (r.branches x go other) o p = absurd p
calling_settling b (r.touches t x k next) o p = calling_settling b next o p

-- what such a row comes to in a world
abbrev pub ComesCalling : State → direct.Outcome → Type 0
ComesCalling w (direct.gives v) = Unit {0}
ComesCalling w (direct.throws v) = Unit {0}
ComesCalling w (direct.stops f) = GuestFault f
ComesCalling w (direct.lists ks) = ⊥
ComesCalling w (direct.calls recorded f t vs) = IsCallable w f × (length vs < 4294967296)

-- a handle's value is the same behind more values, where it has one

got_more : (vs more : List Value) (n : ℕ) (v : Value) → slice_get vs n ≡ Some v → slice_get (vs ++ more) n ≡ Some v
got_more [] more n v e = cc
got_more (u ∷ vs) more zero v e = e
got_more (u ∷ vs) more (suc n) v e = got_more vs more n v e

held_more : (vs more : List Value) (n : ℕ) (o : Option Value) → slice_get vs n ≡ o → (direct.or_nothing o ≡ World.undefined → ⊥) → direct.or_nothing (slice_get (vs ++ more) n) ≡ direct.or_nothing o
held_more vs more n None e there = absurd (there refl)
held_more vs more n (Some v) e there = ap direct.or_nothing (got_more vs more n v e)

method_more : (u u' : Value) (f : r.Native) → ((u ≡ World.undefined → ⊥) → u' ≡ u) → (direct.method_value u f ≡ World.undefined → ⊥) → direct.method_value u' f ≡ direct.method_value u f
method_more World.undefined u' f same there = absurd (there refl)
method_more World.null u' f same there = absurd (there refl)
method_more (World.truth b) u' f same there = absurd (there refl)
method_more (World.number n) u' f same there = absurd (there refl)
method_more (World.text us) u' f same there = ap (λ u. direct.method_value u f) (same (λ e. cc))
method_more (World.object o) u' f same there = ap (λ u. direct.method_value u f) (same (λ e. cc))

pub value_more : (vs more : List Value) (x : Handle) → (direct.value_of vs x ≡ World.undefined → ⊥) → direct.value_of (vs ++ more) x ≡ direct.value_of vs x
value_more vs more r.undefined there = refl
value_more vs more r.null there = refl
value_more vs more (r.truth b) there = refl
value_more vs more (r.number n) there = refl
value_more vs more (r.text us) there = refl
value_more vs more (r.method_of x f) there = method_more (direct.value_of vs x) (direct.value_of (vs ++ more) x) f (value_more vs more x) there
value_more vs more (r.held n) there = held_more vs more n (slice_get vs n) refl there

callable_there : (w : State) (v : Value) → IsCallable w v → v ≡ World.undefined → ⊥
callable_there w (World.object o) is e = cc
callable_there w World.undefined is e = absurd is
callable_there w World.null is e = absurd is
callable_there w (World.truth b) is e = absurd is
callable_there w (World.number n) is e = absurd is
callable_there w (World.text us) is e = absurd is

-- an array that is seen is as short as arrays are
abbrev pub FewSeen : Sight → Type 0
FewSeen (r.an_array frozen xs) = length xs < 4294967296
FewSeen s = Unit {0}

handles_long : (n : ℕ) (vs : List Value) → length (r.handles n vs) ≡ length vs
handles_long n [] = refl
handles_long n (v ∷ vs) = ap suc (handles_long (n + 1) vs)

made_few : (h : Objects) (n : ℕ) (o : World.Object) (c : heap.Object) → rows.Is h o c → FewSeen (direct.see_made n (Some o)).sight
made_few h n (World.a_record frozen ps) c is = tt
made_few h n (World.an_array frozen vs) c is = let few = is.few in let long = vals_length h vs is.items is.are in omega (arith, few, long, handles_long n vs)
made_few h n (World.a_closure f chain) c is = tt
made_few h n (World.an_error maker message) c is = tt

named_few : (w : State) (h : Objects) (n : ℕ) (k : World.Name) (c : heap.Object) → rows.IsNamed w.objects h k c → FewSeen (direct.see_object w n k).sight
named_few w h n (World.made_name a b) c is = rw is.known (made_few h n is.object c is.is)
named_few w h n (World.cell_name a zero) c is = tt
named_few w h n (World.cell_name a (suc b)) c is = tt
named_few w h n (World.own_name a b) c is = tt
named_few w h n (World.built_name f) c is = tt
named_few w h n (World.tools_name t) c is = tt
named_few w h n (World.facet_name root k) c is = tt
named_few w h n (World.forward_name a b d e) c is = absurd is

seen_few : {m : ℕ} {h : Objects} (w : State) → ObjectsAre first place_of w.objects h m → (n : ℕ) (v : Value) (e : EsValue) → Val h v e → FewSeen (direct.see w n v).sight
seen_few {h = h} w o n (World.object k) (es.Obj i) p = let s = o.each k i p in named_few w h n k s.stored s.is
seen_few w o n World.undefined e p = tt
seen_few w o n World.null e p = tt
seen_few w o n (World.truth a) e p = tt
seen_few w o n (World.number a) e p = tt
seen_few w o n (World.text a) e p = tt
seen_few w o n (World.object k) _ p = absurd p

-- what the row holds begins with what it held when it looked
pub record Saw (w : State) (vs : List Value) (x : Handle) (s : Sight) : Type 0 where
  pub held : List Value
  pub more : List Value
  pub begins : vs ≡ held ++ more
  pub number : ℕ
  pub is : s ≡ (direct.see w number (direct.value_of held x)).sight
  pub few : FewSeen s

abbrev pub SeenIn : State → List Value → Looked → Type 0
SeenIn w vs [] = Unit {0}
SeenIn w vs ((x, s) ∷ o) = Saw w vs x s × SeenIn w vs o

seen_more : (w : State) (vs more : List Value) (o : Looked) → SeenIn w vs o → SeenIn w (vs ++ more) o
seen_more w vs more [] is = tt
seen_more w vs more ((x, s) ∷ o) is =
    let p = is.0 in
    (record { held = p.held; more = p.more ++ more; begins = ap (λ l. l ++ more) p.begins ∙ append_assoc p.held p.more more; number = p.number; is = p.is; few = p.few }, seen_more w vs more o is.1)

call_seen : (w : State) (vs : List Value) (x : Handle) (s : Sight) (f : Handle) → Saw w vs x s → f ≡ x → IsFunctionSight s → IsCallable w (direct.value_of vs f)
call_seen w vs x s f p same is =
    let here : IsCallable w (direct.value_of p.held x) = callable_seen w p.number (direct.value_of p.held x) (subst IsFunctionSight p.is is) in
    let found : direct.value_of vs f ≡ direct.value_of p.held x = ap (direct.value_of vs) same ∙ ap (λ l. direct.value_of l x) p.begins ∙ value_more p.held p.more x (callable_there w (direct.value_of p.held x) here) in
    subst (IsCallable w) (sym found) here

calls_seen : (w : State) (vs : List Value) (o : Looked) (f : Handle) → CallsSeen o f → SeenIn w vs o → IsCallable w (direct.value_of vs f)
calls_seen w vs [] f p is = absurd p
calls_seen w vs ((x, s) ∷ o) f (inl p) is = call_seen w vs x s f is.0 p.0 p.1
calls_seen w vs ((x, s) ∷ o) f (inr p) is = calls_seen w vs o f p is.1

items_few : (s : Sight) (xs : List Handle) → FewSeen s → AreItems s xs → length xs < 4294967296
items_few (r.an_array frozen ys) xs few same = subst (λ l. length l < 4294967296) same few
items_few s xs few same = absurd same

gives_few : (w : State) (vs : List Value) (o : Looked) (xs : List Handle) → GivesSeen o xs → SeenIn w vs o → length xs < 4294967296
gives_few w vs [] xs p is = absurd p
gives_few w vs ((x, s) ∷ o) xs (inl p) is = items_few s xs is.0.few p
gives_few w vs ((x, s) ∷ o) xs (inr p) is = gives_few w vs o xs p is.1

few_given : (w : State) (vs : List Value) (b : ℕ) (o : Looked) (xs : List Handle) → b < 4294967296 → (length xs ≤ b) ⊎ GivesSeen o xs → SeenIn w vs o → length (map (direct.value_of vs) xs) < 4294967296
few_given w vs b o xs few (inl p) is = omega (arith, few, p, length-map xs (direct.value_of vs))
few_given w vs b o xs few (inr p) is = let q = gives_few w vs o xs p is in omega (arith, q, length-map xs (direct.value_of vs))

calling_if : (w0 : State) (b : Bool) (d : direct.Done) (w : State) (z : List Item) → ComesCalling w0 d.outcome → ComesCalling w0 (cond b d (direct.too_long w z)).outcome
calling_if w0 true d w z p = p
calling_if w0 false d w z p = tt

calling_end : (b : ℕ) → b < 4294967296 → (by : ℕ) (e : Ending) (o : Looked) → EndsCalling b o e → (s : direct.Held) (w : State) (z : List Item) → SeenIn w s.values o → ComesCalling w (direct.finish by e s w z).outcome
calling_end b few by (r.answers x) o p s w z is = tt
calling_end b few by (r.throws message) o p s w z is = tt
calling_end b few by (r.faults f) o p s w z is = p
calling_end b few by (r.lists ks) o p s w z is = absurd p
calling_end b few by (r.calls recorded f t xs) o p s w z is = (calls_seen w s.values o f p.0 is, few_given w s.values b o xs few p.1 is)
calling_end b few by (r.makes_array frozen xs) o p s w z is = calling_if w (nat_lt (length xs) r.most_items) _ w z tt
calling_end b few by (r.copies_record frozen x) o p s w z is = tt
calling_end b few by (r.makes_error maker message) o p s w z is = tt
calling_end b few by (r.reads_key o1 k x) o p s w z is = tt
calling_end b few by (r.writes_key o1 k x) o p s w z is = tt
calling_end b few by (r.drops_key o1 k) o p s w z is = tt
calling_end b few by (r.sets_items o1 xs x) o p s w z is = calling_if w (nat_lt (length xs) r.most_items) _ w z tt
calling_end b few by (r.freezes o1) o p s w z is = tt

calling_result : {A : Type 0} (w0 : State) (a : Result A Fault) (w : State) (z : List Item) (go : A → direct.Done) → Converts a → ((x : A) → ComesCalling w0 (go x).outcome) → ComesCalling w0 (direct.with_result a w z go).outcome
calling_result w0 (Ok x) w z go p f = f x
calling_result w0 (Err e) w z go p f = p

pub calling_row : (b : ℕ) → b < 4294967296 → (by : ℕ) (q : Row) (o : Looked) → IsCalling b o q → IsAmongObjects q → (s : direct.Held) (es : List EsValue) (w : State) (h : Objects) {m : ℕ} (z : List Item) → Vals h s.values es → ObjectsAre first place_of w.objects h m → SeenIn w s.values o → ComesCalling w (direct.does by q s w z).outcome
calling_row b few by (r.ends e) o p a s es w h z v k is = calling_end b few by e o p s w z is
calling_row b few by (r.settles e) o p a s es w h z v k is = absurd p
calling_row b few by (r.as_text x go) o p a s es w h z v k is = calling_result w (direct.text_of w (direct.value_of s.values x)) w z _ (converts_text 32 w (direct.value_of s.values x)) (λ us. calling_row b few by (go us) o (p us) (a.1 us) s es w h z v k is)
calling_row b few by (r.as_number x go) o p a s es w h z v k is = calling_result w (direct.number_of w (direct.value_of s.values x)) w z _ (converts_number w (direct.value_of s.values x)) (λ n. calling_row b few by (go n) o (p n) (a.1 n) s es w h z v k is)
calling_row b few by (r.as_joined x sep go) o p a s es w h z v k is =
    let u = direct.value_of s.values x in
    calling_result w (direct.joined_of w u sep) w z _ (converts_if _ (converts_joined (direct.text_within 31 w) (converts_text 31 w) sep (direct.see w 0 u).values) (direct.see w 0 u).sight) (λ us. calling_row b few by (go us) o (p us) (a.1 us) s es w h z v k is)
calling_row b few by (r.as_same x y go) o p a s es w h z v k is = calling_row b few by (go _) o (p _) (a.2 _) s es w h z v k is
calling_row b few by (r.looks x go) o p a s es w h z v k is =
    let n = length s.values in
    let seen = direct.see w n (direct.value_of s.values x) in
    let same = handle_is k x a.0 s.values es v in
    let alike = seen_alike w k n (direct.value_of s.values x) (es3.value_in place_of es x) same in
    calling_row b few by (go seen.sight) ((x, seen.sight) ∷ o) (p seen.sight) (a.1 seen.sight (seen_among w k n (direct.value_of s.values x) (es3.value_in place_of es x) same)) _ (es ++ (es3.see h n (es3.value_in place_of es x)).values) w h z (vals_append h s.values seen.values es (es3.see h n (es3.value_in place_of es x)).values v alike.values) k
    (record { held = s.values; more = seen.values; begins = refl; number = n; is = refl; few = seen_few w k n (direct.value_of s.values x) (es3.value_in place_of es x) same }, seen_more w s.values seen.values o is)
calling_row b few by (r.as_same_root x c go) o p a s es w h z v k is = absurd p
calling_row b few by (r.branches x go other) o p a s es w h z v k is = absurd p
calling_row b few by (r.touches t x j next) o p a s es w h z v k is = calling_row b few by next o p a.1 s es w h _ v k is

-- both go on alike by what the row came to: with a value, a throw, or with the call
reply_calls : {form : Bool} {H : Here} {T : Temps} {d k : ℕ} (closures : ClosureAt form H d) (natives : NativeAt form H d) (a : ℕ) → a < d → {w : State} {n : ℕ} {g : Tags} {s : Store} {y : Kept} {m : ℕ} (go : Going) (next : Cont) (next' : Cont') (e : direct.Outcome) → ComesCalling w e → NextAt form H T a k w g s m (Source.called_next go next) next' → (b : Reply) (w' : State) (z' : List Item) (s' : Store) → ReplyIs s'.heap e b → RelAt form H T (suc k) w' z' n g s' y (suc m) → Stays w g s m w' g s' (suc m)
    → M H a (bind (replied (outcome_reply H.around.calls H.by e w') go) next) z' n (bind (Target.reply_plan b (env_of H) s') next') y (suc m)
reply_calls {form = form} {H = H} {k = k} closures natives a lt go next next' (direct.gives v) p x (value_reply e) w' z' s' is r1 keep = x.gives.on a (omega arith) v e w' z' _ _ s' _ _ is (rel_less (omega arith) r1) keep
reply_calls closures natives a lt go next next' (direct.throws v) p x (throw_reply e) w' z' s' is r1 keep = x.throws.on a (omega arith) v e w' z' _ _ s' _ _ is (rel_less (omega arith) r1) keep
reply_calls closures natives a lt go next next' (direct.stops f) p x (stop_reply g) w' z' s' is r1 keep = both_stop (steps_hold r1) (is, p, r1.all.items)
reply_calls {form = form} {H = H} {k = k} closures natives a lt {n = n} {y = y} {m = m} go next next' (direct.calls recorded f t vs) p x (invoke_reply b f' t' es) w' z' s' is r1 keep =
    subst (λ q. M H a (bind (replied (call_reply H.around.calls recorded f t vs H.by w') go) next) z' n (bind (applied H q f' t' es s') next') y (suc m)) is.0
    (call_match {k = k} closures natives recorded a f t f' t' vs es go next next' lt (callable_stays f keep p.0) is.1 is.2 is.3 (λ left. let n = p.1 in omega (arith, n, vals_length s'.heap vs es is.3)) (rel_less (omega arith) r1) (value_from {j = k} {k = k} (omega arith) (omega arith) keep x))
reply_calls closures natives a lt go next next' (direct.lists ks) p x b w' z' s' is r1 keep = absurd p
reply_calls closures natives a lt go next next' e p x b w' z' s' is r1 keep = absurd is

-- a row that may end in a call, and the guard with the same row
pub calling_match : {form : Bool} {H : Here} {T : Temps} {d k : ℕ} → H.by < 64 → (closures : ClosureAt form H d) (natives : NativeAt form H d) (a : ℕ) → a < d → (q : Row) → IsAmongObjects q → (b : ℕ) → b < 4294967296 → IsCalling b [] q → (vs : List Value) (es : List EsValue) {w : State} {z : List Item} {n : ℕ} {g : Tags} {s : Store} {y : Kept} {m : ℕ} (page : es3.Page) (go : Going) (next : Cont) (next' : Cont') → suc m ≤ 4294967295 → Vals s.heap vs es → RelAt form H T (suc (suc k)) w z n g s y m → NextAt form H T a k w g s m (Source.called_next go next) next'
    → M H a (bind (replied (done_reply H.around.calls H.by (direct.does H.by q (direct.given vs) w [])) go) next) z n (bind (Target.reply_plan (es3.does place_of H.by q es s.heap page []).done.reply (env_of H) (with_heap s (es3.does place_of H.by q es s.heap page []).done.heap)) next') (tells (es3.does place_of H.by q es s.heap page []).done.items y) (suc m)
calling_match {form = form} {H = H} below closures natives a lt q among b short calling vs es {w = w} {s = s} page go next next' few is r1 x =
    row_on below q among (calling_settling b q [] calling) vs es page go next next' few is r1 (record { on = λ e w' z' s' p r2 k2. reply_calls closures natives a lt go next next' (direct.does H.by q (direct.given vs) w []).outcome (calling_row b short H.by q [] calling among (direct.given vs) es w s.heap [] is r1.all.objects tt) x e w' z' s' p r2 k2 })
