-- The reach of a page, from the laws of turns: the invariant holds between deeds and in their midst.
use Rattle.std.proofs.Common.{◌≡◌, inl, inr, ℕ, Bool, true, false, List, [], ◌∷◌, ◌++◌, Option, Some, None, refl, sym, ap, subst}
use Rattle.std.specs.Prelude.{nat_eq, map, codes, if◌then◌else◌}
use Rattle.std.proofs.Math.Path.{fun_ext}
use Rattle.plans.specs.Plans.{ends, enter, over, stopped, out, run}
use Rattle.acts.specs.Acts.{task, replied}
use Rattle.acts.specs.Laws.{All, IfThere}
use Rattle.acts.proofs.Keeps.{all_append}
use Rattle.page_deeds.specs.Deeds.{Plain, Grants, to_load, to_call, to_tick, to_click, to_input, label_of}
use Rattle.page_deeds.specs.Deeds as deed
use Rattle.page_deeds.specs.Shown.{by_nothing}
use Rattle.pages.specs.Keeping.{Wherever, Keeping, TurnsKeep, TurnsOrNoneKeep, DeedKeeps, DeedsKeep}
use Rattle.pages.proofs.Kept.{page_keeps_cut}
use Rattle.rows.specs.Nodes.{Rules}
use Rattle.cajita_tree.specs.Tree as c
use Rattle.cajita_meaning.specs.World.{Name, facet_name, Value, object, Pairs, World, value_at, with_queue}
use Rattle.cajita_meaning.specs.Doing.{or_nothing}
use Rattle.cajita_meaning.specs.Imports.{fixed_imports, imports_among}
use Rattle.cajita_meaning.specs.Asking.{Reply, Shape, bad}
use Rattle.cajita_meaning.specs.Events.{the_page, key_event, tick_event, node_event}
use Rattle.cajita_meaning.specs.Direct.{Item, passed, granted, ended, Completion, gave, Task, Run, a_load, values_of, direct}
use Rattle.cajita_laws.specs.Reach.{IsIn, have, from_the_start, Known, Waits, IsMore, Invariant, HaveTextMethods}
use Rattle.cajita_laws.specs.Turns.{ended_so, reply_run, Reaches}
use Rattle.cajita_laws.proofs.Had.{gain_new, have_keeps, no_more, more_behind, more_onward, known_more, in_noted}
use Rattle.cajita_laws.proofs.Scopes.{value_at_has}
use Rattle.cajita_laws.proofs.Everybody.{everybody_has}
use Rattle.cajita_laws.proofs.Invariant.{item_told, queue_changed, elsewhere_changed}
use Rattle.cajita_laws.specs.Reach.{Reached, Numbered}
use Rattle.cajita_laws.proofs.Told.{each_lies, each_new}
use Rattle.cajita_laws.proofs.Turns.{at_the_start, load_reaches, key_reaches, tick_reaches, node_reaches}
use Rattle.cajita_page.specs.DirectPage.{Deed, Results, no_results, plain_value, granted_pairs, import_values, imports_of, Plan, granting, ends_so, answers, tick_begun, listeners, node_turns, with_input, first_world, passed_out, value_given, result, evaluator}
use Rattle.cajita_page.specs.Shown.{end_in}
use Rattle.cajita_page.specs.Promises.{objects_in, had_at_first, PagesReach, PageItemsLie, PageNamesAreNew}

-- what everybody has

in_append : (xs ys : List Name) (o : Name) → IsIn o xs → IsIn o (xs ++ ys)
in_append [] ys o h = absurd h
in_append (x ∷ xs) ys o (inl e) = inl e
in_append (x ∷ xs) ys o (inr h) = inr (in_append xs ys o h)

in_behind : (xs ys : List Name) (o : Name) → IsIn o ys → IsIn o (xs ++ ys)
in_behind [] ys o h = h
in_behind (x ∷ xs) ys o h = inr (in_behind xs ys o h)

text_methods : HaveTextMethods had_at_first
text_methods m f is = in_behind (objects_in (fixed_imports m)) (from_the_start m) _ (everybody_has m f is)

-- the objects among values are had, so the values are known
objects_known : (m : ℕ) (z : List Item) (ps : Pairs) → ((o : Name) → IsIn o (objects_in ps) → Known had_at_first z m (object o)) → All (λ p. Known had_at_first z m p.1) ps
objects_known m z [] h = tt
objects_known m z ((x, object o) ∷ ps) h = (h o (inl refl), objects_known m z ps (λ n i. h n (inr i)))
objects_known m z ((x, v) ∷ ps) h = (tt, objects_known m z ps h)

fixed_known : (m : ℕ) (z : List Item) → All (λ p. Known had_at_first z m p.1) (fixed_imports m)
fixed_known m z = objects_known m z (fixed_imports m) (λ o i. have_keeps z had_at_first m o (in_append (objects_in (fixed_imports m)) (from_the_start m) o i))

-- what holds between deeds: the invariant, and each result is had by its module
record Holds (r : Results) (w : World) (z : List Item) : Type 0 where
  pub invariant : Invariant had_at_first w z
  pub results : (m : ℕ) → Known had_at_first z m (r m)

abbrev Cut : World → List Item → Type 0
Cut w z = Invariant had_at_first w z

abbrev keeping : Rules → Keeping Deed Results Task Completion World Item (List Item)
keeping rules = record { evaluator = evaluator rules; Holds = Holds; Cut = Cut; holds_cut = λ r w z h. h.invariant }

results_more : (r : Results) {a b : List Item} → IsMore a b → ((m : ℕ) → Known had_at_first a m (r m)) → (m : ℕ) → Known had_at_first b m (r m)
results_more r {a = a} {b = b} l h m = known_more had_at_first a b m (r m) l (h m)

-- grants

-- what a module is granted it then has
granting_kept : (rules : Rules) (n m : ℕ) (ps : Pairs) (p : Plan) (w : World) (z : List Item) (Q : Run → Type 0) → Invariant had_at_first w z → ((y : List Item) → IsMore z y → Invariant had_at_first w y → All (λ q. Known had_at_first y m q.1) ps → Q (run (direct rules) n p y)) → Q (run (direct rules) n (granting m ps p) z)
granting_kept rules n m [] p w z Q i go = go z (no_more z) i tt
granting_kept rules n m ((x, object o) ∷ ps) p w z Q i go =
    let t = granted m o in
    let y = z ++ t ∷ [] in
    granting_kept rules n m ps p w y Q (item_told had_at_first t tt i tt)
    (λ u l j h. go u (more_onward z y u (more_behind z (t ∷ [])) l) j (known_more had_at_first y u m (object o) l (in_noted had_at_first z t m o (gain_new m o (have had_at_first z))), h))
granting_kept rules n m ((x, v) ∷ ps) p w z Q i go = granting_kept rules n m ps p w z Q i (λ u l j h. go u l j (tt, h))

-- a value that is found is known, and so is undefined
found_known : (m : ℕ) (z : List Item) (o : Option Value) → IfThere (Known had_at_first z m) o → Known had_at_first z m (or_nothing o)
found_known m z None h = tt
found_known m z (Some v) h = h

among_known : (m : ℕ) (z : List Item) (ps : Pairs) → All (λ p. Known had_at_first z m p.1) ps → (xs : List (List ℕ)) → All (Known had_at_first z m) (imports_among ps xs)
among_known m z ps h [] = tt
among_known m z ps h (x ∷ xs) = (found_known m z (value_at x ps) (value_at_has (Known had_at_first z m) x ps h), among_known m z ps h xs)

imports_known : (m : ℕ) (p : c.Tree c.program) (ps : Pairs) (z : List Item) → All (λ q. Known had_at_first z m q.1) ps → All (Known had_at_first z m) (import_values m p ps)
imports_known m p ps z h = among_known m z (fixed_imports m ++ ps) (all_append (λ q. Known had_at_first z m q.1) (fixed_imports m) ps (fixed_known m z) h) (imports_of p)

-- loads

-- what a load came to goes to the page
passed_kept : (m : ℕ) (vs : List Value) (w : World) (z : List Item) → Invariant had_at_first w z → All (Known had_at_first z m) vs → Invariant had_at_first w (z ++ passed_out m vs)
passed_kept m [] w z i h = subst (Invariant had_at_first w) (sym (Rattle.std.proofs.lemmas.List.append-nil z)) i
passed_kept m (object o ∷ vs) w z i h =
    let t = passed m the_page o in
    let y = z ++ t ∷ [] in
    subst (Invariant had_at_first w) (Rattle.std.proofs.lemmas.List.append_assoc z (t ∷ []) (passed_out m vs))
    (passed_kept m vs w y (item_told had_at_first t tt i h.0) (Rattle.acts.proofs.Keeps.all_map (Known had_at_first z m) (Known had_at_first y m) (λ v q. known_more had_at_first z y m v (more_behind z (t ∷ [])) q) vs h.1))
passed_kept m (v ∷ vs) w z i h = passed_kept m vs w z i h.1

given_known : (m : ℕ) (z : List Item) (e : Completion) → All (Known had_at_first z m) (values_of e) → Known had_at_first z m (value_given e)
given_known m z (gave v) h = h.0
given_known m z e h = tt

-- the result of the module that was loaded, among those of the others
result_known : (m : ℕ) (e : Completion) (r : Results) (z : List Item) → Known had_at_first z m (value_given e) → ((k : ℕ) → Known had_at_first z k (r k)) → (k : ℕ) (b : Bool) → nat_eq k m ≡ b → Known had_at_first z k (if b then value_given e else r k)
result_known m e r z g h k true is = subst (λ j. Known had_at_first z j (value_given e)) (sym (Rattle.std.proofs.lemmas.Bool.eqb-true k m is)) g
result_known m e r z g h k false is = h k

load_ended : (m : ℕ) (p : c.Tree c.program) (gs : Grants) (e : Completion) (r : Results) (w : World) (z : List Item) → Invariant had_at_first w z → All (Known had_at_first z m) (values_of e) → ((k : ℕ) → Known had_at_first z k (r k)) → Holds (result (to_load m p gs) e r) w (z ++ (passed_out m (values_of e) ++ ended (deed.of_load m) (end_in w e) ∷ []))
load_ended m p gs e r w z i h known =
    let is = passed_out m (values_of e) in
    let t = ended (deed.of_load m) (end_in w e) in
    let l = more_behind z (is ++ t ∷ []) in
    let y = z ++ (is ++ t ∷ []) in
    record {
      invariant = subst (Invariant had_at_first w) (Rattle.std.proofs.lemmas.List.append_assoc z is (t ∷ [])) (item_told had_at_first t tt (passed_kept m (values_of e) w z i h) tt);
      results = λ k. result_known m e r y (known_more had_at_first z y m (value_given e) l (given_known m z e h)) (results_more r l known) k (nat_eq k m) refl;
    }

load_wherever : (m : ℕ) (p : c.Tree c.program) (gs : Grants) (r : Results) (y : List Item) (q : Run) → ((k : ℕ) → Known had_at_first y k (r k)) → Reaches had_at_first m y q → Wherever (λ e x z. Holds (result (to_load m p gs) e r) x (z ++ (passed_out m (values_of e) ++ ended (deed.of_load m) (end_in x e) ∷ []))) Cut q
load_wherever m p gs r y (over e w z n) known h = load_ended m p gs e r w z h.holds h.has (results_more r h.behind known)
load_wherever m p gs r y (stopped f w z n) known h = h.holds
load_wherever m p gs r y (out w z n) known h = h.holds

load_keeps : (rules : Rules) (m : ℕ) (p : c.Tree c.program) (gs : Grants) → DeedKeeps (keeping rules) (to_load m p gs)
load_keeps rules m p gs r w z h n =
    let ps = granted_pairs r gs in
    let vs = import_values m p ps in
    granting_kept rules n m ps (enter (task (a_load p) m vs) w ends) w z (λ q. Wherever (λ e x y. Holds (result (to_load m p gs) e r) x (y ++ (passed_out m (values_of e) ++ ended (deed.of_load m) (end_in x e) ∷ []))) Cut q) h.invariant
    (λ y l i g. load_wherever m p gs r y (run (direct rules) n (enter (task (a_load p) m vs) w ends) y) (results_more r l h.results) (load_reaches had_at_first text_methods rules p m vs w y i (imports_known m p ps y g) n))

-- events

-- what the page is answered
same_ends : (a : Shape) (vs : List Value) → ends_so a vs ≡ ended_so a vs
same_ends bad vs = refl
same_ends a vs = refl

answers_run : (rules : Rules) (q : Reply) (z : List Item) (n : ℕ) → reply_run rules q z n ≡ run (direct rules) n (answers q) z
answers_run rules q z n = ap (λ f. run (direct rules) n (replied q f) z) (fun_ext (λ a. fun_ext (λ vs. fun_ext (λ w. ap (λ e. ends e w) (sym (same_ends a vs))))))

-- nothing but the end of an event is told behind it
event_wherever : (l : deed.Label) (r : Results) (y : List Item) (q : Run) → ((k : ℕ) → Known had_at_first y k (r k)) → Reaches had_at_first the_page y q → Wherever (λ e x z. Holds r x (z ++ ended l (end_in x e) ∷ [])) Cut q
event_wherever l r y (over e w z n) known h =
    let t = ended l (end_in w e) in
    record { invariant = item_told had_at_first t tt h.holds tt; results = results_more r (more_onward y z (z ++ t ∷ []) h.behind (more_behind z (t ∷ []))) known }
event_wherever l r y (stopped f w z n) known h = h.holds
event_wherever l r y (out w z n) known h = h.holds

answered_wherever : (rules : Rules) (l : deed.Label) (r : Results) (q : Reply) (z : List Item) (n : ℕ) → ((k : ℕ) → Known had_at_first z k (r k)) → Reaches had_at_first the_page z (reply_run rules q z n) → Wherever (λ e x y. Holds r x (y ++ ended l (end_in x e) ∷ [])) Cut (run (direct rules) n (answers q) z)
answered_wherever rules l r q z n known h = subst (Wherever (λ e x y. Holds r x (y ++ ended l (end_in x e) ∷ [])) Cut) (answers_run rules q z n) (event_wherever l r z (reply_run rules q z n) known h)

-- the arguments of an event are no objects
plain_known : (z : List Item) (m : ℕ) (vs : List Plain) → All (Known had_at_first z m) (map plain_value vs)
plain_known z m [] = tt
plain_known z m (deed.null ∷ vs) = (tt, plain_known z m vs)
plain_known z m (deed.truth b ∷ vs) = (tt, plain_known z m vs)
plain_known z m (deed.number n ∷ vs) = (tt, plain_known z m vs)
plain_known z m (deed.text us ∷ vs) = (tt, plain_known z m vs)

call_keeps : (rules : Rules) (k m : ℕ) (key : List ℕ) (args : List Plain) → DeedKeeps (keeping rules) (to_call k m key args)
call_keeps rules k m key args r w z h n =
    answered_wherever rules (deed.of_call k m key) r (key_event m key (r m ∷ map plain_value args) w) z n h.results
    (key_reaches had_at_first text_methods rules m key (r m) (map plain_value args) w z h.invariant (h.results m, plain_known z m args) (plain_known z the_page args) n)

-- what waits is taken from the queue
tick_keeps : (rules : Rules) (k m : ℕ) (q : List Value) (r : Results) (w : World) (z : List Item) → Holds r w z → All (Waits had_at_first z m) q → let b = tick_begun m q w z in TurnsOrNoneKeep (keeping rules) (to_tick k m) b.turns r b.store b.kept
tick_keeps rules k m [] r w z h g =
    let t = ended (deed.of_tick k m) by_nothing in
    record { invariant = item_told had_at_first t tt h.invariant tt; results = results_more r (more_behind z (t ∷ [])) h.results }
tick_keeps rules k m (f ∷ fs) r w z h g = λ n.
    answered_wherever rules (deed.of_tick k m) r (tick_event m f (with_queue m fs w)) z n h.results
    (tick_reaches had_at_first text_methods rules m f (with_queue m fs w) z (queue_changed had_at_first m fs h.invariant g.1) g.0 n)

-- after a turn of a handler the others follow
handler_wherever : (rules : Rules) (d : Deed) (l : deed.Label) (node : Name) (fs : List Value) (r : Results) (z : List Item)
    → ((e : Completion) (x : World) (y : List Item) → (evaluator rules).ended d e x y ≡ y ++ ended l (end_in x e) ∷ []) → ((e : Completion) (q : Results) → result d e q ≡ q)
    → ((w1 : World) (z1 : List Item) → Holds r w1 z1 → TurnsKeep (keeping rules) d (node_turns node fs) r w1 z1)
    → (q : Run) → Wherever (λ e x y. Holds r x (y ++ ended l (end_in x e) ∷ [])) Cut q → Wherever (λ e x y. TurnsKeep (keeping rules) d (node_turns node fs) (result d e r) x ((evaluator rules).ended d e x y)) Cut q
handler_wherever rules d l node fs r z told same go (over e w y n) h =
    subst (λ q. TurnsKeep (keeping rules) d (node_turns node fs) q w ((evaluator rules).ended d e w y)) (sym (same e r)) (subst (λ u. TurnsKeep (keeping rules) d (node_turns node fs) r w u) (sym (told e w y)) (go w (y ++ ended l (end_in w e) ∷ []) h))
handler_wherever rules d l node fs r z told same go (stopped f w y n) h = h
handler_wherever rules d l node fs r z told same go (out w y n) h = h

-- what happens to a node is told each handler in turn
handlers_keep : (rules : Rules) (d : Deed) (l : deed.Label) (node : Name) (fs : List Value) (r : Results) (w : World) (z : List Item)
    → ((e : Completion) (x : World) (y : List Item) → (evaluator rules).ended d e x y ≡ y ++ ended l (end_in x e) ∷ []) → ((e : Completion) (q : Results) → result d e q ≡ q) → Holds r w z → TurnsKeep (keeping rules) d (node_turns node fs) r w z
handlers_keep rules d l node [] r w z told same h = h
handlers_keep rules d l node (f ∷ fs) r w z told same h = λ n.
    handler_wherever rules d l node fs r z told same (λ w1 z1 h1. handlers_keep rules d l node fs r w1 z1 told same h1)
    (run (direct rules) n (answers (node_event node f w)) z) (answered_wherever rules l r (node_event node f w) z n h.results (node_reaches had_at_first text_methods rules node f w z h.invariant n))

node_keeps : (rules : Rules) (d : Deed) (l : deed.Label) (node : Name) (fs : List Value) (r : Results) (w : World) (z : List Item)
    → ((e : Completion) (x : World) (y : List Item) → (evaluator rules).ended d e x y ≡ y ++ ended l (end_in x e) ∷ []) → ((e : Completion) (q : Results) → result d e q ≡ q) → label_of d ≡ l → Holds r w z → TurnsOrNoneKeep (keeping rules) d (node_turns node fs) r w z
node_keeps rules d l node [] r w z told same is h =
    let t = ended (label_of d) by_nothing in
    record { invariant = item_told had_at_first t tt h.invariant tt; results = results_more r (more_behind z (t ∷ [])) h.results }
node_keeps rules d l node (f ∷ fs) r w z told same is h = handlers_keep rules d l node (f ∷ fs) r w z told same h

input_holds : (root n : ℕ) (us : List ℕ) (r : Results) (w : World) (z : List Item) → Holds r w z → Holds r (with_input root n us w) z
input_holds root n us r w z h = record { invariant = elsewhere_changed had_at_first refl refl refl h.invariant; results = h.results }

-- pages

deed_keeps : (rules : Rules) (d : Deed) → DeedKeeps (keeping rules) d
deed_keeps rules (to_load m p gs) = load_keeps rules m p gs
deed_keeps rules (to_call k m key args) = call_keeps rules k m key args
deed_keeps rules (to_tick k m) = λ r w z h. tick_keeps rules k m (w.queues m) r w z h (h.invariant.queues m)
deed_keeps rules (to_click k id root n) = λ r w z h. node_keeps rules (to_click k id root n) (deed.of_click k id root) (facet_name root n) (listeners n (codes "click") (w.handlers root)) r w z (λ e x y. refl) (λ e q. refl) refl h
deed_keeps rules (to_input k id root n us) = λ r w z h. node_keeps rules (to_input k id root n us) (deed.of_input k id root) (facet_name root n) (listeners n (codes "input") (w.handlers root)) r (with_input root n us w) z (λ e x y. refl) (λ e q. refl) refl (input_holds root n us r w z h)

deeds_keep : (rules : Rules) (ds : List Deed) → DeedsKeep (keeping rules) ds
deeds_keep rules [] = tt
deeds_keep rules (d ∷ ds) = (deed_keeps rules d, deeds_keep rules ds)

pub pages_reach : PagesReach
pages_reach rules nodes ds n =
    let i = page_keeps_cut (keeping rules) ds (deeds_keep rules ds) n no_results (first_world nodes) [] (record { invariant = elsewhere_changed had_at_first refl refl refl (at_the_start had_at_first); results = λ m. tt }) in
    record { reached = i.reached; numbered = i.names.numbered }

pub page_items_lie : PageItemsLie
page_items_lie rules nodes ds n a i b is = each_lies had_at_first a i b (subst (Reached had_at_first) is (pages_reach rules nodes ds n).reached)

pub page_names_are_new : PageNamesAreNew
page_names_are_new rules nodes ds n a b c m k o p is = each_new a b c m k o p (subst (Numbered (λ j. 0)) is (pages_reach rules nodes ds n).numbered)
