-- Rows: what a row comes to on both sides, and how both then go on. One law is for all rows.
use Rattle.std.proofs.Common.{◌≡◌, ℕ, zero, suc, ◌≤◌, ◌<◌, Bool, true, false, List, [], ◌∷◌, ◌++◌, Option, Some, None, Result, Ok, Err, cond, refl, sym, ap, ◌∙◌, subst, arith}
use Rattle.std.specs.Prelude.{ℤ, length, nat_lt, map, codes}
use Rattle.std.proofs.lemmas.List.{append-nil, append_assoc}
use Rattle.plans.specs.Plans.{Fault, depth_fault, bind}
use Rattle.acts.specs.Acts.{replied}
use Rattle.matching.proofs.Rules.{both_stop, left_told}
use Rattle.es3_objects.specs.declared.value.Value.TheVariants as es_value
use Rattle.es3_heap.specs.Objects.{Objects}
use Rattle.es3_convert.specs.Conversions.{text_of}
use Rattle.es3_convert.specs.Numbers.{number_of}
use Rattle.es3_language.specs.Store.{Store, with_heap}
use Rattle.es3_language.specs.Natives.{Reply, value_reply, throw_reply, stop_reply}
use Rattle.es3_language.specs.Meaning as Target
use Rattle.rows.specs.Nodes.{Rules}
use Rattle.rows.specs.Rows as r
use Rattle.rows.specs.Rows.{Handle, Sight, Ending, Row, Native}
use Rattle.cajita_meaning.specs.World.{Name, made_name, facet_name, Object, Value, undefined, null, truth, number, text, object, World, next_name}
use Rattle.cajita_meaning.specs.Doing as direct
use Rattle.cajita_meaning.specs.Asking as Asking
use Rattle.cajita_meaning.specs.Asking.{Shape, good, bad, telling_all, outcome_reply, done_reply}
use Rattle.cajita_meaning.specs.Direct.{Item}
use Rattle.heap_rows.specs.Doing as es3
use Rattle.heap_rows.specs.Doing.{heard}
use Rattle.heap_rows.specs.Opening.{first, place_of}
use Rattle.row_simulation.specs.Among.{IsAmongObjects}
use Rattle.row_simulation.specs.RowLaw.{shown, ReplyIs, AreWithin, HandlersAre, PagesAre, CameIs}
use Rattle.row_simulation.proofs.First.{first_is}
use Rattle.row_simulation.proofs.Whole.{every_row}
use Rattle.row_simulation.proofs.Leaves.{does_leaves}
use Rattle.row_simulation.proofs.Names.{known_name, made_known}
use Rattle.row_simulation.proofs.Relation.{vals_keep}
use Rattle.page_natives.specs.Natives.{Kept, page_of, tells}
use Rattle.cajita_simulation.specs.Alike.{GuestFault, heard_by}
use Rattle.cajita_simulation.specs.Related.{KnowsPage}
use Rattle.cajita_simulation.proofs.Told.{items_told, shown_quiet}
use Rattle.cajita_simulation.proofs.Doing as Source
use Rattle.cajita_simulation.proofs.Relation.{RelAt, IsClosure, AreClosures, WaitersAre, closures_wait, EsValue, Val, Vals, Here, env_of, Tags, Temps, Rel, Stays}
use Rattle.cajita_simulation.proofs.Changes.{Changes, stays_changed, rel_settled, knows_still}
use Rattle.cajita_simulation.proofs.Laws.{Cont, Cont', M, steps_hold}

-- rows that change nothing of what a page keeps beside its objects, and look at nothing of it
abbrev pub NoSettling : Row → Type 0
NoSettling (r.ends e) = Unit {0}
NoSettling (r.settles e) = ⊥
NoSettling (r.as_text x go) = (us : List ℕ) → NoSettling (go us)
NoSettling (r.as_number x go) = (n : ℤ) → NoSettling (go n)
NoSettling (r.as_joined x sep go) = (us : List ℕ) → NoSettling (go us)
NoSettling (r.as_same x y go) = (b : Bool) → NoSettling (go b)
NoSettling (r.looks x go) = (s : Sight) → NoSettling (go s)
NoSettling (r.as_same_root x v go) = ⊥
NoSettling (r.branches x go other) = ⊥
NoSettling (r.touches t x k next) = NoSettling next

-- what they come to doesn't go by it

with_page : {A : Type 0} (a : Result A Fault) (h : Objects) (g g' : es3.Page) (y : List es3.Told) (go go' : A → es3.Came) → ((x : A) → (go x).done ≡ (go' x).done) → (es3.with_result a h g y go).done ≡ (es3.with_result a h g' y go').done
with_page (Ok x) h g g' y go go' f = f x
with_page (Err e) h g g' y go go' f = refl

pub any_page : (fs : Native → ℕ) (by : ℕ) (q : Row) → NoSettling q → (es : List EsValue) (h : Objects) (g g' : es3.Page) (y : List es3.Told) → (es3.does fs by q es h g y).done ≡ (es3.does fs by q es h g' y).done
any_page fs by (r.ends e) none es h g g' y = refl
any_page fs by (r.settles e) none es h g g' y = absurd none
any_page fs by (r.as_text x go) none es h g g' y = with_page (text_of h (es3.value_in fs es x)) h g g' y _ _ (λ us. any_page fs by (go us) (none us) es h g g' y)
any_page fs by (r.as_number x go) none es h g g' y = with_page (number_of h (es3.value_in fs es x)) h g g' y _ _ (λ n. any_page fs by (go n) (none n) es h g g' y)
any_page fs by (r.as_joined x sep go) none es h g g' y = with_page (es3.joined_of h (es3.value_in fs es x) sep) h g g' y _ _ (λ us. any_page fs by (go us) (none us) es h g g' y)
any_page fs by (r.as_same x z go) none es h g g' y = any_page fs by (go _) (none _) es h g g' y
any_page fs by (r.looks x go) none es h g g' y = any_page fs by (go _) (none _) _ h g g' y
any_page fs by (r.as_same_root x v go) none es h g g' y = absurd none
any_page fs by (r.branches x go other) none es h g g' y = absurd none
any_page fs by (r.touches t x k next) none es h g g' y = any_page fs by next none es h g g' _

-- and it stays

page_same : {A : Type 0} (a : Result A Fault) (h : Objects) (g : es3.Page) (y : List es3.Told) (go : A → es3.Came) → ((x : A) → (go x).page ≡ g) → (es3.with_result a h g y go).page ≡ g
page_same (Ok x) h g y go f = f x
page_same (Err e) h g y go f = refl

pub same_page : (fs : Native → ℕ) (by : ℕ) (q : Row) → NoSettling q → (es : List EsValue) (h : Objects) (g : es3.Page) (y : List es3.Told) → (es3.does fs by q es h g y).page ≡ g
same_page fs by (r.ends e) none es h g y = refl
same_page fs by (r.settles e) none es h g y = absurd none
same_page fs by (r.as_text x go) none es h g y = page_same (text_of h (es3.value_in fs es x)) h g y _ (λ us. same_page fs by (go us) (none us) es h g y)
same_page fs by (r.as_number x go) none es h g y = page_same (number_of h (es3.value_in fs es x)) h g y _ (λ n. same_page fs by (go n) (none n) es h g y)
same_page fs by (r.as_joined x sep go) none es h g y = page_same (es3.joined_of h (es3.value_in fs es x) sep) h g y _ (λ us. same_page fs by (go us) (none us) es h g y)
same_page fs by (r.as_same x z go) none es h g y = same_page fs by (go _) (none _) es h g y
same_page fs by (r.looks x go) none es h g y = same_page fs by (go _) (none _) _ h g y
same_page fs by (r.as_same_root x v go) none es h g y = absurd none
same_page fs by (r.branches x go other) none es h g y = absurd none
same_page fs by (r.touches t x k next) none es h g y = same_page fs by next none es h g _

-- rows that touch nothing
abbrev pub NoTouches : Row → Type 0
NoTouches (r.ends e) = Unit {0}
NoTouches (r.settles e) = Unit {0}
NoTouches (r.as_text x go) = (us : List ℕ) → NoTouches (go us)
NoTouches (r.as_number x go) = (n : ℤ) → NoTouches (go n)
NoTouches (r.as_joined x sep go) = (us : List ℕ) → NoTouches (go us)
NoTouches (r.as_same x y go) = (b : Bool) → NoTouches (go b)
NoTouches (r.looks x go) = (s : Sight) → NoTouches (go s)
NoTouches (r.as_same_root x v go) = ⊥
NoTouches (r.branches x go other) = ⊥
NoTouches (r.touches t x k next) = ⊥

-- no page tells anything of what they tell directly

both_quiet : (a b : List Item) → shown a ≡ [] → shown b ≡ [] → shown (a ++ b) ≡ []
both_quiet a b p q = shown_quiet a b q ∙ p

quiet_along : (by : ℕ) (way : List Name) (o : Name) → shown (direct.got_along by way o) ≡ []
quiet_along by [] o = refl
quiet_along by (h ∷ []) o = refl
quiet_along by (h ∷ k ∷ way) o = quiet_along by (k ∷ way) o

pub quiet_from : (by : ℕ) (way : List Name) (v : Value) → shown (direct.got_from by way v) ≡ []
quiet_from by way (object o) = quiet_along by way o
quiet_from by way v = refl

quiet_one : (by : ℕ) (s : direct.Held) (x : Handle) → shown (direct.got_one by s x) ≡ []
quiet_one by s x = quiet_from by (direct.way_of s x) (direct.value_of s.values x)

pub quiet_all : (by : ℕ) (s : direct.Held) (xs : List Handle) → shown (direct.got_all by s xs) ≡ []
quiet_all by s [] = refl
quiet_all by s (x ∷ xs) = both_quiet (direct.got_one by s x) (direct.got_all by s xs) (quiet_one by s x) (quiet_all by s xs)

quiet_values : (by : ℕ) (way : List Name) (vs : List Value) → shown (direct.got_values by way vs) ≡ []
quiet_values by way [] = refl
quiet_values by way (v ∷ vs) = both_quiet (direct.got_from by way v) (direct.got_values by way vs) (quiet_from by way v) (quiet_values by way vs)

quiet_if : (b : Bool) (d : direct.Done) (w : World) (z : List Item) → shown z ≡ [] → shown d.items ≡ [] → shown (cond b d (direct.too_long w z)).items ≡ []
quiet_if true d w z p q = q
quiet_if false d w z p q = p

quiet_finish : (by : ℕ) (e : Ending) (s : direct.Held) (w : World) (z : List Item) → shown z ≡ [] → shown (direct.finish by e s w z).items ≡ []
quiet_finish by (r.answers x) s w z p = both_quiet z (direct.got_one by s x) p (quiet_one by s x)
quiet_finish by (r.throws message) s w z p = both_quiet z (direct.made by (next_name by w) ∷ []) p refl
quiet_finish by (r.faults f) s w z p = p
quiet_finish by (r.lists ks) s w z p = quiet_if (nat_lt (length ks) r.most_items) _ w z p p
quiet_finish by (r.calls recorded f t xs) s w z p = both_quiet z (direct.got_all by s (f ∷ t ∷ xs)) p (quiet_all by s (f ∷ t ∷ xs))
quiet_finish by (r.makes_array frozen xs) s w z p = quiet_if (nat_lt (length xs) r.most_items) _ w z p (both_quiet (z ++ direct.got_all by s xs) _ (both_quiet z (direct.got_all by s xs) p (quiet_all by s xs)) refl)
quiet_finish by (r.copies_record frozen x) s w z p =
    let vs = map (λ (q : List ℕ × Value). q.1) (direct.pairs_of w (direct.value_of s.values x)) in
    both_quiet (z ++ direct.got_values by (direct.way_into s x) vs) _ (both_quiet z (direct.got_values by (direct.way_into s x) vs) p (quiet_values by (direct.way_into s x) vs)) refl
quiet_finish by (r.makes_error maker message) s w z p = both_quiet z (direct.made by (next_name by w) ∷ []) p refl
quiet_finish by (r.reads_key o k x) s w z p = both_quiet z (direct.got_one by s x) p (quiet_one by s x)
quiet_finish by (r.writes_key o k x) s w z p = both_quiet z (direct.got_one by s x) p (quiet_one by s x)
quiet_finish by (r.drops_key o k) s w z p = p
quiet_finish by (r.sets_items o xs x) s w z p = quiet_if (nat_lt (length xs) r.most_items) _ w z p (both_quiet z (direct.got_one by s x) p (quiet_one by s x))
quiet_finish by (r.freezes o) s w z p = both_quiet z (direct.got_one by s o) p (quiet_one by s o)

quiet_result : {A : Type 0} (a : Result A Fault) (w : World) (z : List Item) (go : A → direct.Done) → shown z ≡ [] → ((x : A) → shown (go x).items ≡ []) → shown (direct.with_result a w z go).items ≡ []
quiet_result (Ok x) w z go p f = f x
quiet_result (Err e) w z go p f = p

pub quiet_row : (by : ℕ) (q : Row) → NoSettling q → NoTouches q → (s : direct.Held) (w : World) (z : List Item) → shown z ≡ [] → shown (direct.does by q s w z).items ≡ []
quiet_row by (r.ends e) none calm s w z p = quiet_finish by e s w z p
quiet_row by (r.settles e) none calm s w z p = absurd none
quiet_row by (r.as_text x go) none calm s w z p = quiet_result (direct.text_of w (direct.value_of s.values x)) w z _ p (λ us. quiet_row by (go us) (none us) (calm us) s w z p)
quiet_row by (r.as_number x go) none calm s w z p = quiet_result (direct.number_of w (direct.value_of s.values x)) w z _ p (λ n. quiet_row by (go n) (none n) (calm n) s w z p)
quiet_row by (r.as_joined x sep go) none calm s w z p = quiet_result (direct.joined_of w (direct.value_of s.values x) sep) w z _ p (λ us. quiet_row by (go us) (none us) (calm us) s w z p)
quiet_row by (r.as_same x y go) none calm s w z p = quiet_row by (go _) (none _) (calm _) s w z p
quiet_row by (r.looks x go) none calm s w z p = quiet_row by (go _) (none _) (calm _) _ w z p
quiet_row by (r.as_same_root x v go) none calm s w z p = absurd none
quiet_row by (r.branches x go other) none calm s w z p = absurd none
quiet_row by (r.touches t x k next) none calm s w z p = absurd calm

-- what is done by an answer's shape, with its values
abbrev pub Going : Type 0
Going = Shape → List Value → World → Source.Plan

-- what is told is told, and then
pub left_tell : (H : Here) {d n m : ℕ} (is : List Item) (q : Asking.Reply) (go : Going) (next : Cont) (z : List Item) {p : Target.Plan} {y : Kept} → M H d (bind (replied q go) next) (z ++ is) n p y m → M H d (bind (replied (telling_all is q) go) next) z n p y m
left_tell H {d = d} {n = n} {m = m} [] q go next z {p = p} {y = y} f = subst (λ l. M H d (bind (replied q go) next) l n p y m) (append-nil z) f
left_tell H {d = d} {n = n} {m = m} (i ∷ is) q go next z {p = p} {y = y} f =
    left_told (left_tell H is q go next (z ++ i ∷ []) (subst (λ l. M H d (bind (replied q go) next) l n p y m) (sym (append_assoc z (i ∷ []) is)) f))

-- both have come to the same: how they go on
pub record RowGoesAt (form : Bool) (H : Here) (T : Temps) (d k : ℕ) (w : World) (n : ℕ) (g : Tags) (s : Store) (m : ℕ) (e : direct.Outcome) (go : Going) (next : Cont) (next' : Cont') : Type 0 where
  pub on : {y : Kept} (b : Reply) (w' : World) (z' : List Item) (s' : Store) → ReplyIs s'.heap e b → RelAt form H T k w' z' n g s' y (suc m) → Stays w g s m w' g s' (suc m) → M H d (bind (replied (outcome_reply H.around.calls H.by e w') go) next) z' n (bind (Target.reply_plan b (env_of H) s') next') y (suc m)

-- what natives keep after a row: what the row left of it, and what it told; they know of the page what they knew
pub record KeepsRow (rules : Rules) (y y' : Kept) (came : es3.Came) : Type 0 where
  pub knows : KnowsPage rules y → KnowsPage rules y'
  pub touching : y'.touching ≡ y.touching
  pub told : y'.told ≡ y.told ++ heard y.touching came.done.items
  pub cells : (c : ℕ) → came.page.cells c ≡ (page_of y').cells c
  pub queues : (m : ℕ) → came.page.queues m ≡ (page_of y').queues m
  pub nodes : (root : ℕ) → came.page.nodes root ≡ (page_of y').nodes root
  pub facets : (root : ℕ) → came.page.facets root ≡ (page_of y').facets root
  pub handlers : (root : ℕ) → came.page.handlers root ≡ (page_of y').handlers root

pub pages_moved : {h : Objects} {w : World} {p q : es3.Page} → ((c : ℕ) → p.cells c ≡ q.cells c) → ((m : ℕ) → p.queues m ≡ q.queues m) → ((root : ℕ) → p.nodes root ≡ q.nodes root) → ((root : ℕ) → p.facets root ≡ q.facets root) → ((root : ℕ) → p.handlers root ≡ q.handlers root) → PagesAre h w p → PagesAre h w q
pages_moved {h = h} {w = w} {p = p} {q = q} cells queues nodes facets handlers r = record {
  cells = λ c. subst (Val h (w.cells c)) (cells c) (r.cells c);
  queues = λ m. subst (Vals h (w.queues m)) (queues m) (r.queues m);
  nodes = λ root. r.nodes root ∙ nodes root;
  within = λ root. subst (λ ns. AreWithin (length ns) ns) (nodes root) (r.within root);
  facets = λ root k lt. subst (λ os. Val h (object (facet_name root k)) (es3.facet_at os k)) (facets root) (r.facets root k (subst (λ ns. k < length ns) (sym (nodes root)) lt));
  as_many = λ root. ap length (sym (facets root)) ∙ r.as_many root ∙ ap length (nodes root);
  known = λ root k i t. subst (λ ns. k < length ns) (nodes root) (r.known root k i t);
  handlers = λ root. subst (HandlersAre h (w.handlers root)) (handlers root) (r.handlers root);
}

-- what a row leaves waiting: where it changes nothing of that, the same closures

object_same : (h : Objects) (m n i : ℕ) (u : Value) → Val h (object (made_name m n)) (es_value.Obj i) → Val h u (es_value.Obj i) → u ≡ object (made_name m n)
object_same h m n i (object k) p q = ap object (known_name (made_name m n) k (made_known m n) (sym q ∙ p))
object_same h m n i u p q = absurd q

closure_same : (objects : ℕ → List Object) (h : Objects) (v u : Value) (e : EsValue) → IsClosure objects v → Val h v e → Val h u e → u ≡ v
closure_same objects h (object (made_name m n)) u (es_value.Obj i) is p q = object_same h m n i u p q
closure_same objects h (object (made_name m n)) u e is p q = absurd p
closure_same objects h (object o) u e is p q = absurd is
closure_same objects h v u e is p q = absurd is

waiters_same : (objects : ℕ → List Object) (h : Objects) (vs us : List Value) (es : List EsValue) → AreClosures objects vs → Vals h vs es → Vals h us es → us ≡ vs
waiters_same objects h [] [] [] are p q = refl
waiters_same objects h (v ∷ vs) (u ∷ us) (e ∷ es) are p q = ap (λ a. a ∷ us) (closure_same objects h v u e are.0 p.0 q.0) ∙ ap (λ l. v ∷ l) (waiters_same objects h vs us es are.1 p.1 q.1)
waiters_same objects h [] (u ∷ us) [] are p q = absurd q
waiters_same objects h (v ∷ vs) [] (e ∷ es) are p q = absurd q
waiters_same objects h _ _ _ are p q = absurd p

pub row_waiters : {form : Bool} {H : Here} {T : Temps} {k : ℕ} → H.by < 64 → (q : Row) → IsAmongObjects q → NoSettling q → (vs : List Value) (es : List EsValue) {w : World} {z : List Item} {n : ℕ} {g : Tags} {s : Store} {y : Kept} {m : ℕ} → suc m ≤ 4294967295 → Vals s.heap vs es → RelAt form H T (suc k) w z n g s y m
    → WaitersAre (direct.does H.by q (direct.given vs) w []).world
row_waiters {H = H} below q among none vs es {w = w} {s = s} {y = y} {m = m} few is r =
    let a = direct.does H.by q (direct.given vs) w [] in
    let came = es3.does place_of H.by q es s.heap (page_of y) [] in
    let c : CameIs first place_of s.heap m a came = every_row first place_of H.by below first_is q among (direct.given vs) es w s.heap (page_of y) [] [] m few is r.all.objects r.all.pages refl in
    let l = does_leaves H.by q (direct.given vs) w [] in
    let same : (j : ℕ) → a.world.queues j ≡ w.queues j = λ j.
    waiters_same w.objects came.done.heap (w.queues j) (a.world.queues j) ((page_of y).queues j) (r.all.waiters j) (vals_keep c.done.keeps (w.queues j) ((page_of y).queues j) (r.all.pages.queues j))
    (subst (λ (p : es3.Page). Vals came.done.heap (a.world.queues j) (p.queues j)) (same_page place_of H.by q none es s.heap (page_of y) []) (c.page.queues j)) in
    λ j. subst (AreClosures a.world.objects) (sym (same j)) (closures_wait w.objects a.world.objects l.closed (w.queues j) (r.all.waiters j))

-- from a row that is asked, and the same row of a native: a step was paid for the native's call
pub settled_on : {form : Bool} {H : Here} {T : Temps} {d k : ℕ} → H.by < 64 → (q : Row) → IsAmongObjects q → (vs : List Value) (es : List EsValue) {w : World} {z : List Item} {n : ℕ} {g : Tags} {s : Store} {y : Kept} {m : ℕ} (y' : Kept) (go : Going) (next : Cont) (next' : Cont') → suc m ≤ 4294967295 → Vals s.heap vs es → RelAt form H T (suc k) w z n g s y m
    → WaitersAre (direct.does H.by q (direct.given vs) w []).world → KeepsRow H.rules y y' (es3.does place_of H.by q es s.heap (page_of y) [])
    → RowGoesAt form H T d k w n g s m (direct.does H.by q (direct.given vs) w []).outcome go next next'
    → M H d (bind (replied (done_reply H.around.calls H.by (direct.does H.by q (direct.given vs) w [])) go) next) z n (bind (Target.reply_plan (es3.does place_of H.by q es s.heap (page_of y) []).done.reply (env_of H) (with_heap s (es3.does place_of H.by q es s.heap (page_of y) []).done.heap)) next') y' (suc m)
settled_on {form = form} {H = H} {T = T} {d = d} {k = k} below q among vs es {w = w} {z = z} {n = n} {g = g} {s = s} {y = y} {m = m} y' go next next' few is r waiters kept f =
    let a = direct.does H.by q (direct.given vs) w [] in
    let came = es3.does place_of H.by q es s.heap (page_of y) [] in
    let c : CameIs first place_of s.heap m a came = every_row first place_of H.by below first_is q among (direct.given vs) es w s.heap (page_of y) [] [] m few is r.all.objects r.all.pages refl in
    let l = does_leaves H.by q (direct.given vs) w [] in
    let x : Changes (page_of y') w s a.world came.done.heap (suc m) =
    record { objects = c.done.objects; pages = pages_moved kept.cells kept.queues kept.nodes kept.facets kept.handlers c.page; keeps = c.done.keeps; scopes = l.scopes; older = l.older; closed = record { closures = l.closed }; waiters = λ before. waiters } in
    let items : heard_by y' (z ++ a.items) ≡ y'.told = ap (λ t. heard t (shown (z ++ a.items))) kept.touching ∙ items_told y z a.items came.done.items c.done.items r.all.items ∙ sym kept.told in
    let r1 : RelAt form H T k a.world (z ++ a.items) n g (with_heap s came.done.heap) y' (suc m) = rel_settled x (kept.knows r.all.kept) items (omega arith) (omega (arith, r.all.steps)) r in
    left_tell H a.items (outcome_reply H.around.calls H.by a.outcome a.world) go next z (f.on _ a.world (z ++ a.items) _ c.done.reply r1 (stays_changed g x (omega arith)))

-- the same for one that changes nothing beside objects, whatever is kept
pub row_on : {form : Bool} {H : Here} {T : Temps} {d k : ℕ} → H.by < 64 → (q : Row) → IsAmongObjects q → NoSettling q → (vs : List Value) (es : List EsValue) {w : World} {z : List Item} {n : ℕ} {g : Tags} {s : Store} {y : Kept} {m : ℕ} (page : es3.Page) (go : Going) (next : Cont) (next' : Cont') → suc m ≤ 4294967295 → Vals s.heap vs es → RelAt form H T (suc k) w z n g s y m
    → RowGoesAt form H T d k w n g s m (direct.does H.by q (direct.given vs) w []).outcome go next next'
    → M H d (bind (replied (done_reply H.around.calls H.by (direct.does H.by q (direct.given vs) w [])) go) next) z n (bind (Target.reply_plan (es3.does place_of H.by q es s.heap page []).done.reply (env_of H) (with_heap s (es3.does place_of H.by q es s.heap page []).done.heap)) next') (tells (es3.does place_of H.by q es s.heap page []).done.items y) (suc m)
row_on {form = form} {H = H} {d = d} below q among none vs es {w = w} {z = z} {n = n} {s = s} {y = y} {m = m} page go next next' few is r f =
    let a = direct.does H.by q (direct.given vs) w [] in
    let same = same_page place_of H.by q none es s.heap (page_of y) [] in
    let came = es3.does place_of H.by q es s.heap (page_of y) [] in
    subst (λ b. M H d (bind (replied (done_reply H.around.calls H.by a) go) next) z n (bind (Target.reply_plan b.reply (env_of H) (with_heap s b.heap)) next') (tells b.items y) (suc m)) (any_page place_of H.by q none es s.heap (page_of y) page [])
    (settled_on below q among vs es (tells came.done.items y) go next next' few is r (row_waiters below q among none vs es few is r) (record { knows = knows_still refl refl refl refl; touching = refl; told = refl; cells = λ c. ap (λ p. p.cells c) same; queues = λ m. ap (λ p. p.queues m) same; nodes = λ root. ap (λ p. p.nodes root) same; facets = λ root. ap (λ p. p.facets root) same; handlers = λ root. ap (λ p. p.handlers root) same }) f)

-- where the row touches nothing, a page tells nothing of it
pub row_silent : {form : Bool} {H : Here} {T : Temps} {k : ℕ} → H.by < 64 → (q : Row) → IsAmongObjects q → NoSettling q → NoTouches q → (vs : List Value) (es : List EsValue) {w : World} {z : List Item} {n : ℕ} {g : Tags} {s : Store} {y : Kept} {m : ℕ} (page : es3.Page) → suc m ≤ 4294967295 → Vals s.heap vs es → RelAt form H T k w z n g s y m
    → (es3.does place_of H.by q es s.heap page []).done.items ≡ []
row_silent {form = form} {H = H} below q among none calm vs es {w = w} {s = s} {y = y} {m = m} page few is r =
    let c : CameIs first place_of s.heap m (direct.does H.by q (direct.given vs) w []) (es3.does place_of H.by q es s.heap (page_of y) []) = every_row first place_of H.by below first_is q among (direct.given vs) es w s.heap (page_of y) [] [] m few is r.all.objects r.all.pages refl in
    ap (λ (d : es3.Done). d.items) (any_page place_of H.by q none es s.heap page (page_of y) []) ∙ sym c.done.items ∙ quiet_row H.by q none calm (direct.given vs) w [] refl

-- rows that end by themselves: with a value, with a throw, or by a fault that a module may end by

abbrev pub EndsPlainly : Ending → Type 0
EndsPlainly (r.faults f) = GuestFault f
EndsPlainly (r.lists ks) = ⊥
EndsPlainly (r.calls recorded f t xs) = ⊥
EndsPlainly e = Unit {0}

abbrev pub IsPlain : Row → Type 0
IsPlain (r.ends e) = EndsPlainly e
IsPlain (r.settles e) = ⊥
IsPlain (r.as_text x go) = (us : List ℕ) → IsPlain (go us)
IsPlain (r.as_number x go) = (n : ℤ) → IsPlain (go n)
IsPlain (r.as_joined x sep go) = (us : List ℕ) → IsPlain (go us)
IsPlain (r.as_same x y go) = (b : Bool) → IsPlain (go b)
IsPlain (r.looks x go) = (s : Sight) → IsPlain (go s)
IsPlain (r.as_same_root x v go) = ⊥
IsPlain (r.branches x go other) = ⊥
IsPlain (r.touches t x k next) = IsPlain next

pub plain_settling : (q : Row) → IsPlain q → NoSettling q
plain_settling (r.ends e) p = tt
plain_settling (r.settles e) p = absurd p
plain_settling (r.as_text x go) p = λ us. plain_settling (go us) (p us)
plain_settling (r.as_number x go) p = λ n. plain_settling (go n) (p n)
plain_settling (r.as_joined x sep go) p = λ us. plain_settling (go us) (p us)
plain_settling (r.as_same x y go) p = λ b. plain_settling (go b) (p b)
plain_settling (r.looks x go) p = λ s. plain_settling (go s) (p s)
plain_settling (r.as_same_root x v go) p = absurd p
plain_settling (r.branches x go other) p = absurd p
plain_settling (r.touches t x k next) p = plain_settling next p

abbrev pub ComesPlainly : direct.Outcome → Type 0
ComesPlainly (direct.stops f) = GuestFault f
ComesPlainly (direct.lists ks) = ⊥
ComesPlainly (direct.calls recorded f t vs) = ⊥
ComesPlainly e = Unit {0}

-- no conversion of the direct meaning is one that runs code

abbrev pub Converts : {A : Type 0} → Result A Fault → Type 0
Converts (Ok x) = Unit {0}
Converts (Err f) = GuestFault f

converts_then : {A B : Type 0} (a : Result A Fault) (go : A → Result B Fault) → Converts a → ((x : A) → Converts (go x)) → Converts (direct.and_then a go)
converts_then (Ok x) go p f = f x
converts_then (Err e) go p f = p

converts_item : (t : Value → Result (List ℕ) Fault) → ((v : Value) → Converts (t v)) → (v : Value) → Converts (direct.item_text t v)
converts_item t f undefined = tt
converts_item t f null = tt
converts_item t f (truth b) = f (truth b)
converts_item t f (number n) = f (number n)
converts_item t f (text us) = f (text us)
converts_item t f (object o) = f (object o)

converts_tail : (t : Value → Result (List ℕ) Fault) → ((v : Value) → Converts (t v)) → (sep : List ℕ) (vs : List Value) → Converts (direct.tail_text t sep vs)
converts_tail t f sep [] = tt
converts_tail t f sep (v ∷ vs) = converts_then (direct.item_text t v) _ (converts_item t f v) (λ us. converts_then (direct.tail_text t sep vs) _ (converts_tail t f sep vs) (λ ws. tt))

pub converts_joined : (t : Value → Result (List ℕ) Fault) → ((v : Value) → Converts (t v)) → (sep : List ℕ) (vs : List Value) → Converts (direct.joined t sep vs)
converts_joined t f sep [] = tt
converts_joined t f sep (v ∷ vs) = converts_then (direct.item_text t v) _ (converts_item t f v) (λ us. converts_then (direct.tail_text t sep vs) _ (converts_tail t f sep vs) (λ ws. tt))

converts_sight : (a : Result (List ℕ) Fault) → Converts a → (s : Sight) → Converts (direct.sight_text a s)
converts_sight a p (r.an_array frozen xs) = p
converts_sight a p (r.a_function sort) = tt
converts_sight a p s = tt

pub converts_text : (n : ℕ) (w : World) (v : Value) → Converts (direct.text_within n w v)
unfolding direct.text_within
converts_text zero w undefined = tt
converts_text zero w null = tt
converts_text zero w (truth b) = tt
converts_text zero w (number i) = tt
converts_text zero w (text us) = tt
converts_text zero w (object o) = converts_sight (Err depth_fault) tt (direct.see_object w 0 o).sight
converts_text (suc n) w undefined = tt
converts_text (suc n) w null = tt
converts_text (suc n) w (truth b) = tt
converts_text (suc n) w (number i) = tt
converts_text (suc n) w (text us) = tt
converts_text (suc n) w (object o) = converts_sight (direct.joined (direct.text_within n w) (codes ",") (direct.see_object w 0 o).values) (converts_joined (direct.text_within n w) (converts_text n w) (codes ",") (direct.see_object w 0 o).values) (direct.see_object w 0 o).sight

converts_found : (o : Option ℤ) → Converts (direct.found_number o)
converts_found None = tt
converts_found (Some n) = tt

pub converts_number : (w : World) (v : Value) → Converts (direct.number_of w v)
converts_number w undefined = tt
converts_number w null = tt
converts_number w (truth b) = tt
converts_number w (number n) = tt
converts_number w (text us) = converts_then (direct.text_of w (text us)) _ (converts_text 32 w (text us)) (λ us. converts_found _)
converts_number w (object o) = converts_then (direct.text_of w (object o)) _ (converts_text 32 w (object o)) (λ us. converts_found _)

pub converts_if : (a : Result (List ℕ) Fault) → Converts a → (s : Sight) → Converts (direct.joined_if a s)
converts_if a p (r.an_array frozen xs) = p
converts_if a p s = tt

plain_result : {A : Type 0} (a : Result A Fault) (w : World) (z : List Item) (go : A → direct.Done) → Converts a → ((x : A) → ComesPlainly (go x).outcome) → ComesPlainly (direct.with_result a w z go).outcome
plain_result (Ok x) w z go p f = f x
plain_result (Err e) w z go p f = p

plain_if : (b : Bool) (d : direct.Done) (w : World) (z : List Item) → ComesPlainly d.outcome → ComesPlainly (cond b d (direct.too_long w z)).outcome
plain_if true d w z p = p
plain_if false d w z p = tt

plain_end : (by : ℕ) (e : Ending) → EndsPlainly e → (s : direct.Held) (w : World) (z : List Item) → ComesPlainly (direct.finish by e s w z).outcome
plain_end by (r.answers x) p s w z = tt
plain_end by (r.throws message) p s w z = tt
plain_end by (r.faults f) p s w z = p
plain_end by (r.lists ks) p s w z = absurd p
plain_end by (r.calls recorded f t xs) p s w z = absurd p
plain_end by (r.makes_array frozen xs) p s w z = plain_if (nat_lt (length xs) r.most_items) _ w z tt
plain_end by (r.copies_record frozen x) p s w z = tt
plain_end by (r.makes_error maker message) p s w z = tt
plain_end by (r.reads_key o k x) p s w z = tt
plain_end by (r.writes_key o k x) p s w z = tt
plain_end by (r.drops_key o k) p s w z = tt
plain_end by (r.sets_items o xs x) p s w z = plain_if (nat_lt (length xs) r.most_items) _ w z tt
plain_end by (r.freezes o) p s w z = tt

pub plain_row : (by : ℕ) (q : Row) → IsPlain q → (s : direct.Held) (w : World) (z : List Item) → ComesPlainly (direct.does by q s w z).outcome
plain_row by (r.ends e) p s w z = plain_end by e p s w z
plain_row by (r.settles e) p s w z = absurd p
plain_row by (r.as_text x go) p s w z = plain_result (direct.text_of w (direct.value_of s.values x)) w z _ (converts_text 32 w (direct.value_of s.values x)) (λ us. plain_row by (go us) (p us) s w z)
plain_row by (r.as_number x go) p s w z = plain_result (direct.number_of w (direct.value_of s.values x)) w z _ (converts_number w (direct.value_of s.values x)) (λ n. plain_row by (go n) (p n) s w z)
plain_row by (r.as_joined x sep go) p s w z =
    let v = direct.value_of s.values x in
    plain_result (direct.joined_of w v sep) w z _ (converts_if _ (converts_joined (direct.text_within 31 w) (converts_text 31 w) sep (direct.see w 0 v).values) (direct.see w 0 v).sight) (λ us. plain_row by (go us) (p us) s w z)
plain_row by (r.as_same x y go) p s w z = plain_row by (go _) (p _) s w z
plain_row by (r.looks x go) p s w z = plain_row by (go _) (p _) _ w z
plain_row by (r.as_same_root x v go) p s w z = absurd p
plain_row by (r.branches x go other) p s w z = absurd p
plain_row by (r.touches t x k next) p s w z = plain_row by next p s w _

-- both go on alike after a value of the row, of which this holds, and after a throw
pub record RowNextAt (form : Bool) (P : Value → Type 0) (H : Here) (T : Temps) (d k : ℕ) (w : World) (n : ℕ) (g : Tags) (s : Store) (m : ℕ) (go : Going) (next : Cont) (next' : Cont') : Type 0 where
  pub gives : {y : Kept} (v : Value) (e : EsValue) (w' : World) (z' : List Item) (s' : Store) → P v → Val s'.heap v e → RelAt form H T k w' z' n g s' y (suc m) → Stays w g s m w' g s' (suc m) → M H d (bind (go good (v ∷ []) w') next) z' n (next' (Target.gave e) s') y (suc m)
  pub throws : {y : Kept} (v : Value) (e : EsValue) (w' : World) (z' : List Item) (s' : Store) → Val s'.heap v e → RelAt form H T k w' z' n g s' y (suc m) → Stays w g s m w' g s' (suc m) → M H d (bind (go bad (v ∷ []) w') next) z' n (next' (Target.threw e) s') y (suc m)

abbrev pub RowNextOf : (Value → Type 0) → Here → Temps → ℕ → ℕ → World → ℕ → Tags → Store → ℕ → Going → Cont → Cont' → Type 0
RowNextOf P H T d k w n g s m go next next' = RowNextAt true P H T d k w n g s m go next next'

-- the same after any value
pub record RowNext (H : Here) (T : Temps) (d k : ℕ) (w : World) (n : ℕ) (g : Tags) (s : Store) (m : ℕ) (go : Going) (next : Cont) (next' : Cont') : Type 0 where
  pub gives : {y : Kept} (v : Value) (e : EsValue) (w' : World) (z' : List Item) (s' : Store) → Val s'.heap v e → Rel H T k w' z' n g s' y (suc m) → Stays w g s m w' g s' (suc m) → M H d (bind (go good (v ∷ []) w') next) z' n (next' (Target.gave e) s') y (suc m)
  pub throws : {y : Kept} (v : Value) (e : EsValue) (w' : World) (z' : List Item) (s' : Store) → Val s'.heap v e → Rel H T k w' z' n g s' y (suc m) → Stays w g s m w' g s' (suc m) → M H d (bind (go bad (v ∷ []) w') next) z' n (next' (Target.threw e) s') y (suc m)

-- what is known of the value that a row came to
abbrev pub GivesOnly : (Value → Type 0) → direct.Outcome → Type 0
GivesOnly P (direct.gives v) = P v
GivesOnly P e = Unit {0}

pub reply_goes : {form : Bool} {P : Value → Type 0} {H : Here} {T : Temps} {d k : ℕ} {w : World} {n : ℕ} {g : Tags} {s : Store} {y : Kept} {m : ℕ} {go : Going} {next : Cont} {next' : Cont'} (e : direct.Outcome) → ComesPlainly e → GivesOnly P e → RowNextAt form P H T d k w n g s m go next next' → (b : Reply) (w' : World) (z' : List Item) (s' : Store) → ReplyIs s'.heap e b → RelAt form H T k w' z' n g s' y (suc m) → Stays w g s m w' g s' (suc m) → M H d (bind (replied (outcome_reply H.around.calls H.by e w') go) next) z' n (bind (Target.reply_plan b (env_of H) s') next') y (suc m)
reply_goes (direct.gives v) p known f (value_reply e) w' z' s' is r k = f.gives v e w' z' s' known is r k
reply_goes (direct.throws v) p known f (throw_reply e) w' z' s' is r k = f.throws v e w' z' s' is r k
reply_goes (direct.stops v) p known f (stop_reply e) w' z' s' is r k = both_stop (steps_hold r) (is, p, r.all.items)
reply_goes (direct.lists ks) p known f b w' z' s' is r k = absurd p
reply_goes (direct.calls recorded q t vs) p known f b w' z' s' is r k = absurd p
reply_goes _ p known f _ w' z' s' is r k = absurd is

-- a plain row that is asked, and the guard with the same row
pub row_match_of : {H : Here} {T : Temps} {d k : ℕ} → H.by < 64 → (P : Value → Type 0) (q : Row) → IsAmongObjects q → IsPlain q → (vs : List Value) (es : List EsValue) {w : World} {z : List Item} {n : ℕ} {g : Tags} {s : Store} {y : Kept} {m : ℕ} (page : es3.Page) (go : Going) (next : Cont) (next' : Cont') → GivesOnly P (direct.does H.by q (direct.given vs) w []).outcome → suc m ≤ 4294967295 → Vals s.heap vs es → Rel H T (suc k) w z n g s y m
    → RowNextOf P H T d k w n g s m go next next'
    → M H d (bind (replied (done_reply H.around.calls H.by (direct.does H.by q (direct.given vs) w [])) go) next) z n (bind (Target.reply_plan (es3.does place_of H.by q es s.heap page []).done.reply (env_of H) (with_heap s (es3.does place_of H.by q es s.heap page []).done.heap)) next') (tells (es3.does place_of H.by q es s.heap page []).done.items y) (suc m)
row_match_of {H = H} below P q among plain vs es {w = w} page go next next' known few is r f =
    row_on below q among (plain_settling q plain) vs es page go next next' few is r (record { on = λ b w' z' s' p r1 k1. reply_goes {P = P} (direct.does H.by q (direct.given vs) w []).outcome (plain_row H.by q plain (direct.given vs) w []) known f b w' z' s' p r1 k1 })

abbrev pub Anything : Value → Type 0
Anything v = Unit {0}

pub gives_anything : (e : direct.Outcome) → GivesOnly Anything e
gives_anything (direct.gives v) = tt
gives_anything e = tt

pub row_match : {H : Here} {T : Temps} {d k : ℕ} → H.by < 64 → (q : Row) → IsAmongObjects q → IsPlain q → (vs : List Value) (es : List EsValue) {w : World} {z : List Item} {n : ℕ} {g : Tags} {s : Store} {y : Kept} {m : ℕ} (page : es3.Page) (go : Going) (next : Cont) (next' : Cont') → suc m ≤ 4294967295 → Vals s.heap vs es → Rel H T (suc k) w z n g s y m
    → RowNext H T d k w n g s m go next next'
    → M H d (bind (replied (done_reply H.around.calls H.by (direct.does H.by q (direct.given vs) w [])) go) next) z n (bind (Target.reply_plan (es3.does place_of H.by q es s.heap page []).done.reply (env_of H) (with_heap s (es3.does place_of H.by q es s.heap page []).done.heap)) next') (tells (es3.does place_of H.by q es s.heap page []).done.items y) (suc m)
row_match {H = H} below q among plain vs es {w = w} page go next next' few is r f =
    row_match_of below Anything q among plain vs es page go next next' (gives_anything (direct.does H.by q (direct.given vs) w []).outcome) few is r (record { gives = λ v e w' z' s' known p r1 k1. f.gives v e w' z' s' p r1 k1; throws = f.throws })
