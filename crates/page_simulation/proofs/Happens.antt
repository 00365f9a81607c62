-- What happens to a node, on both sides of a page: the same functions are told of it, in the same order, each in a turn of its own.
use Rattle.std.proofs.Common.{◌≡◌, ◌⊎◌, ℕ, suc, ◌≤◌, ◌<◌, List, [], ◌∷◌, Option, Some, None, inl, inr, refl, ap, subst, arith}
use Rattle.std.specs.Prelude.{codes}
use Rattle.plans.specs.Plans.{run}
use Rattle.matching.specs.Sentences.{SimulatedTo}
use Rattle.page_deeds.specs.Deeds.{to_click, to_input, label_of}
use Rattle.page_deeds.specs.Shown.{by_nothing}
use Rattle.pages.specs.Pairs.{TurnEnds as NextOf, TurnsPair, TurnsOrNonePair, DeedPair}
use Rattle.pages.proofs.Chain.{simulated_weaker}
use Rattle.es3_heap.specs.Objects.{Objects}
use Rattle.es3_language.specs.Store.{Store}
use Rattle.es3_language.specs.Meaning as Target
use Rattle.doc_nodes.specs.Rows.{Doc, node_with}
use Rattle.doc_views.specs.Came.{IsRuled}
use Rattle.dom_handlers.specs.declared.kinds.EventKind.{EventKind}
use Rattle.dom_handlers.specs.declared.kinds.EventKind.TheVariants.{Click, Input}
use Rattle.tamed_dom.specs.Lent.{object_of}
use Rattle.rows.specs.Nodes.{Rules}
use Rattle.cajita_meaning.specs.World.{object, facet_name, Value, World}
use Rattle.cajita_meaning.specs.Events.{node_event}
use Rattle.cajita_meaning.specs.Direct as Source
use Rattle.cajita_meaning.specs.Direct.{Item, ended, direct as meaning}
use Rattle.heap_rows.specs.Doing as told
use Rattle.row_simulation.specs.Correspond.{EsValue, Val, Vals}
use Rattle.page_natives.specs.Natives.{Kept}
use Rattle.module_loader.specs.Turns.{Results}
use Rattle.cajita_page.specs.DirectPage as direct
use Rattle.page_runner.specs.Page as es3
use Rattle.cajita_simulation.specs.Alike.{most_deeds}
use Rattle.cajita_simulation.specs.Related.{IsBare}
use Rattle.cajita_simulation.specs.Sides.{Lasts}
use Rattle.cajita_simulation.specs.Turns.{TurnEnds, TurnsAlike, call_in, node_turn, node_turn', source_run, target_run}
use Rattle.cajita_simulation.proofs.Sentences.{page_sides, one_more, turns_simulated}
use Rattle.cajita_simulation.proofs.Happening.{node_alike}
use Rattle.cajita_simulation.proofs.Load.Places.{values_last}
use Rattle.page_simulation.specs.Pages.{program_deed}
use Rattle.page_simulation.proofs.Between.{After, after_turn}
use Rattle.page_simulation.proofs.Sides.{no_turn, both_pages}
use Rattle.page_simulation.proofs.Calls.{IsEvent, answers_same, call_ends}
use Rattle.page_simulation.proofs.Nodes.{there_object, listeners_alike, input_is}

-- where functions are told, the node has its object on both sides
abbrev pub NodeIs : Objects → ℕ → ℕ → EsValue → List Value → Type 0
NodeIs h root k o [] = Unit {0}
NodeIs h root k o (f ∷ fs) = Val h (object (facet_name root k)) o

rest_is : (h : Objects) (root k : ℕ) (o : EsValue) (fs : List Value) → Val h (object (facet_name root k)) o → NodeIs h root k o fs
rest_is h root k o [] is = tt
rest_is h root k o (f ∷ fs) is = is

-- values that correspond still do
all_last : (a b : Objects) → Lasts a b → (vs : List Value) (es : List EsValue) → Vals a vs es → Vals b vs es
all_last a b l [] [] are = tt
all_last a b l (v ∷ vs) (e ∷ es) are = (values_last a b l v e are.0, all_last a b l vs es are.1)
all_last a b l _ _ are = absurd are

-- what had a name when a turn began still has it
lasts_of : (rules : Rules) (d : ℕ) (began : Store) (a : Source.Completion) (w : World) (z : List Item) (n : ℕ) (a' : Target.Completion) (s : Store) (y : Kept) (k : ℕ) → TurnEnds rules d (call_in began) a w z n a' s y k → Lasts began.heap s.heap
lasts_of rules d began (Source.gave v) w z n a' s y k h = h.1.1
lasts_of rules d began (Source.threw v) w z n (Target.threw e) s y k h = h.1.1
lasts_of rules d began _ w z n _ s y k h = absurd h

module _ (rules : Rules) (modules cells : ℕ) (doc : Doc) (i : ℕ) (d : direct.Deed) (event : IsEvent rules modules cells doc i d (program_deed d)) (small : i < most_deeds) (root k : ℕ) (o : EsValue) where
  -- as many turns on both sides, where functions that correspond are told
  turns_pair : (fs : List Value) (es : List EsValue) (r : direct.Results) (w : World) (z : List Item) (t : ℕ) (r' : Results) (s : Store) (y : Kept) (m : ℕ) → Vals s.heap fs es → NodeIs s.heap root k o fs → After rules modules cells doc (suc i) r w z t r' s y m
      → TurnsPair (both_pages rules modules cells doc) i d (program_deed d) (direct.node_turns (facet_name root k) fs) (es3.node_turns o es) r w z t r' s y m
  turns_pair [] [] r w z t r' s y m are is a = a
  turns_pair (f ∷ fs) (e ∷ es) r w z t r' s y m are is a =
      let P = both_pages rules modules cells doc in
      let Next = TurnsPair P i d (program_deed d) (direct.node_turns (facet_name root k) fs) (es3.node_turns o es) in
      let alike : TurnsAlike rules (call_in s) (suc i) (node_turn (facet_name root k) f w) z t (node_turn' o e s) y m = node_alike rules root k f o e (suc i) (omega (arith, small)) w z t a.tags s y m is are.0 a.between in
      let sim = simulated_weaker (page_sides rules (no_turn modules cells)) (page_sides rules (no_turn modules cells)) (TurnEnds rules (suc i) (call_in s)) (NextOf P i d (program_deed d) Next r r')
      (λ n j less. less) (omega arith) (λ f x z1 f' x' z1' h. h) (λ q1 z1 h. h)
      (λ c w1 z1 n1 c' s1 y1 m1 h.
      let l = lasts_of rules (suc i) s c w1 z1 n1 c' s1 y1 m1 h in
      turns_pair fs es _ w1 _ n1 _ s1 _ m1 (all_last s.heap s1.heap l fs es are.1) (rest_is s1.heap root k o fs (values_last s.heap s1.heap l (object (facet_name root k)) o is)) (call_ends rules modules cells doc i d (program_deed d) event r r' s a.results a.places c w1 z1 n1 c' s1 y1 m1 h))
      t m (λ n. source_run rules (node_turn (facet_name root k) f w) z n) (λ n. target_run (node_turn' o e s) y n) (turns_simulated rules (no_turn modules cells) (call_in s) alike) in
      subst (λ p. SimulatedTo (page_sides rules (no_turn modules cells)) (NextOf P i d (program_deed d) Next r r') t m (λ n. run (meaning rules) n p z) (λ n. target_run (node_turn' o e s) y n)) (answers_same (node_event (facet_name root k) f w)) sim
  turns_pair _ _ r w z t r' s y m are is a = absurd are

  -- or none on both sides
  pub node_turns_pair : (fs : List Value) (es : List EsValue) (r : direct.Results) (w : World) (z : List Item) (t : ℕ) (r' : Results) (s : Store) (y : Kept) (m : ℕ) → Vals s.heap fs es → NodeIs s.heap root k o fs → After rules modules cells doc i r w z t r' s y m
      → TurnsOrNonePair (both_pages rules modules cells doc) i d (program_deed d) (direct.node_turns (facet_name root k) fs) (es3.node_turns o es) r w z t r' s y m
  node_turns_pair [] [] r w z t r' s y m are is a =
      after_turn (suc i) r r' (ended (label_of d) by_nothing ∷ []) (told.ended (label_of (program_deed d)) by_nothing ∷ []) (ap (λ l. told.ended l by_nothing ∷ []) event.label) (one_more rules i w z t a.tags s y m a.between) a.results a.places
  node_turns_pair (f ∷ fs) (e ∷ es) r w z t r' s y m are is a =
      turns_pair (f ∷ fs) (e ∷ es) r w z t r' s y m are is (record { tags = a.tags; between = one_more rules i w z t a.tags s y m a.between; results = a.results; places = a.places })
  node_turns_pair _ _ r w z t r' s y m are is a = absurd are

-- the object of the node where functions are told
module _ (rules : Rules) (modules cells : ℕ) (doc : Doc) (i : ℕ) (kind : EventKind) (root k : ℕ) {r : direct.Results} {w : World} {z : List Item} {t : ℕ} {r' : Results} {s : Store} {y : Kept} {m : ℕ} (a : After rules modules cells doc i r w z t r' s y m) where
  pub node_is : (fs : List Value) → Vals s.heap fs (es3.listeners kind root k y.dom) → NodeIs s.heap root k (object_of root k y.dom) fs
  node_is fs are = by_node (node_with y.dom.doc root k) refl fs are
    where
      by_node : (o : Option ℕ) → ◌≡◌ {A = Option ℕ} (node_with y.dom.doc root k) o → (fs : List Value) → Vals s.heap fs (es3.listening_at kind o y.dom) → NodeIs s.heap root k (object_of root k y.dom) fs
      by_node None there [] are = tt
      by_node None there (f ∷ fs) are = absurd are
      by_node (Some n) there fs are = rest_is s.heap root k (object_of root k y.dom) fs (there_object s.heap w y a.between.pages a.between.kept.whole root k n there)

-- a click
pub click_pair : (rules : Rules) (modules cells : ℕ) (doc : Doc) → modules ≤ 64 → (i e : ℕ) (id : List ℕ) (root k : ℕ) → i < most_deeds → DeedPair (both_pages rules modules cells doc) i (to_click e id root k) (program_deed (to_click e id root k))
click_pair rules modules cells doc few i e id root k small r w z t r' s y m a =
    let fs = direct.listeners k (codes "click") (w.handlers root) in
    let are : Vals s.heap fs (es3.listeners Click root k y.dom) = listeners_alike s.heap w y a.between.pages a.between.kept.whole Click root k in
    node_turns_pair rules modules cells doc i (to_click e id root k) (record { result = λ c q. refl; result' = λ c q. refl; out = λ c. refl; label = refl }) small root k (object_of root k y.dom) fs (es3.listeners Click root k y.dom) r w z t r' s y m are
    (node_is rules modules cells doc i Click root k a fs are) a

-- an input: a text is put into the node first
pub input_pair : (rules : Rules) (modules cells : ℕ) (doc : Doc) → modules ≤ 64 → (i e : ℕ) (id : List ℕ) (root k : ℕ) (us : List ℕ) → i < most_deeds → DeedPair (both_pages rules modules cells doc) i (to_input e id root k us) (program_deed (to_input e id root k us))
input_pair rules modules cells doc few i e id root k us small r w z t r' s y m a =
    let b = a.between in
    let w1 = direct.with_input root k us w in
    let y1 : Kept = es3.with_input root k us y in
    let put = input_is s.heap w y b.objects b.pages b.kept.whole root k us in
    let a1 : After rules modules cells doc i r w1 z t r' s y1 m = record {
      tags = a.tags;
      between = record { steps = b.steps; items = b.items; objects = b.objects; pages = put.pages; closures = b.closures; waiters = b.waiters; scopes = b.scopes; globals = b.globals; kept = record { runtime = b.kept.runtime; imports = b.kept.imports; whole = put.whole; ruled = still y.dom.doc y1.dom.doc b.kept.ruled put.bare } };
      results = a.results;
      places = a.places;
    } in
    let fs = direct.listeners k (codes "input") (w1.handlers root) in
    let are : Vals s.heap fs (es3.listeners Input root k y1.dom) = listeners_alike s.heap w1 y1 put.pages put.whole Input root k in
    node_turns_pair rules modules cells doc i (to_input e id root k us) (record { result = λ c q. refl; result' = λ c q. refl; out = λ c. refl; label = refl }) small root k (object_of root k y1.dom) fs (es3.listeners Input root k y1.dom) r w1 z t r' s y1 m are
    (node_is rules modules cells doc i Input root k a1 fs are) a1
  where
    still : (p q : Doc) → IsBare p ⊎ IsRuled y.answers rules → (IsBare p → IsBare q) → IsBare q ⊎ IsRuled y.answers rules
    still p q (inl bare) f = inl (f bare)
    still p q (inr ruled) f = inr ruled
