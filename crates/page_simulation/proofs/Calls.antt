-- An event that calls a key of a module's result, on both sides of a page; and how a call by the page ends.
use Rattle.std.proofs.Common.{◌≡◌, ℕ, suc, ◌≤◌, ◌<◌, false, List, [], ◌∷◌, ◌++◌, length, refl, sym, ap, ◌∙◌, subst, arith}
use Rattle.std.specs.Prelude.{map}
use Rattle.std.proofs.lemmas.List.{length-map}
use Rattle.std.proofs.Math.Path.{fun_ext}
use Rattle.plans.specs.Plans.{ends, run}
use Rattle.acts.specs.Acts.{replied}
use Rattle.matching.specs.Sentences.{SimulatedTo}
use Rattle.page_deeds.specs.Deeds.{Plain, to_call, label_of}
use Rattle.page_deeds.specs.Shown.{end_renamed}
use Rattle.pages.specs.Pairs.{TurnEnds as NextOf, TurnsPair, DeedPair}
use Rattle.pages.proofs.Chain.{simulated_weaker}
use Rattle.es3_heap.specs.Objects.{Objects}
use Rattle.es3_language.specs.Store.{Store}
use Rattle.es3_language.specs.Meaning as Target
use Rattle.es3_machine.specs.Machine.{completed}
use Rattle.doc_nodes.specs.Rows.{Doc}
use Rattle.rows.specs.Nodes.{Rules}
use Rattle.cajita_meaning.specs.World.{Value, World}
use Rattle.cajita_meaning.specs.Asking.{Reply, Shape, good, bad, scope_number, decided, keys}
use Rattle.cajita_meaning.specs.Events.{key_event}
use Rattle.cajita_meaning.specs.Direct as Source
use Rattle.cajita_meaning.specs.Direct.{Item, ended, direct as meaning}
use Rattle.heap_rows.specs.Doing.{Told}
use Rattle.heap_rows.specs.Doing as told
use Rattle.row_simulation.specs.Correspond.{Val, Vals, tag_of_name}
use Rattle.page_natives.specs.Natives.{Kept}
use Rattle.module_loader.specs.Turns.{Results, plain_value}
use Rattle.cajita_page.specs.DirectPage as direct
use Rattle.cajita_page.specs.Shown.{end_in}
use Rattle.page_runner.specs.Page as es3
use Rattle.cajita_simulation.specs.Scopes.{Tags}
use Rattle.cajita_simulation.specs.Related.{BetweenTurns}
use Rattle.cajita_simulation.specs.Sides.{Lasts}
use Rattle.cajita_simulation.specs.Places.{PagePlaces}
use Rattle.cajita_simulation.specs.Turns.{TurnEnds, TurnsAlike, call_in, key_turn, key_turn', event_turn, ends_so, source_run, target_run}
use Rattle.cajita_simulation.proofs.Sentences.{page_sides, turns_simulated}
use Rattle.cajita_simulation.proofs.Load.Places.{places_last, values_last}
use Rattle.cajita_simulation.proofs.Turns.{key_alike}
use Rattle.page_simulation.specs.Pages.{program_deed, DeedFits}
use Rattle.page_simulation.proofs.Shown.{given_alike, thrown_alike}
use Rattle.page_simulation.proofs.Between.{After, after_turn, plain_alike}
use Rattle.page_simulation.proofs.Sides.{no_turn, both_pages}

-- what the page is answered is the end of the turn

so_same : (a : Shape) (vs : List Value) → ends_so a vs ≡ direct.ends_so a vs
so_same good vs = refl
so_same bad vs = refl
so_same (scope_number n) vs = refl
so_same (decided b) vs = refl
so_same (keys ks) vs = refl

pub answers_same : (q : Reply) → event_turn q ≡ direct.answers q
answers_same q =
    let plan : Source.Completion → World → direct.Plan = λ e w. ends e w in
    ap (replied q) (fun_ext (λ a. fun_ext (λ vs. fun_ext (λ w. ap (λ e. plan e w) (so_same a vs)))))

plains_alike : (h : Objects) (vs : List Plain) → Vals h (map direct.plain_value vs) (map plain_value vs)
plains_alike h [] = tt
plains_alike h (v ∷ vs) = (plain_alike h v, plains_alike h vs)

-- an event: both call, and the results stay
module _ (rules : Rules) (modules cells : ℕ) (doc : Doc) (i : ℕ) (d : direct.Deed) (d' : es3.Deed) where
  -- what an event's deeds have of the evaluators
  pub record IsEvent : Type 0 where
    pub result : (a : Source.Completion) (r : direct.Results) → direct.result d a r ≡ r
    pub result' : (a' : Target.Completion) (r' : Results) → es3.result d' a' r' ≡ r'
    pub out : (a : Source.Completion) → direct.loaded_out d a ≡ []
    pub label : label_of d ≡ label_of d'

  module _ (event : IsEvent) (r : direct.Results) (r' : Results) (began : Store) (results : (k : ℕ) → Val began.heap (r k) (r' k)) (places : PagePlaces modules cells doc began.heap) where
    gives : (a : Source.Completion) (w : World) (z : List Item) (n : ℕ) (a' : Target.Completion) (s : Store) (y : Kept) (k : ℕ) (g : Tags) → BetweenTurns rules (suc i) w z n g s y k → Lasts began.heap s.heap
        → es3.end_of_turn s.heap (completed a') ≡ end_renamed tag_of_name (end_in w a)
        → After rules modules cells doc (suc i) (direct.result d a r) w ((direct.evaluator rules).ended d a w z) n (es3.result d' a' r') s ((es3.evaluator modules).ended d' a' s y) k
    gives a w z n a' s y k g between lasts same =
        subst (λ q. After rules modules cells doc (suc i) (direct.result d a r) w ((direct.evaluator rules).ended d a w z) n q s ((es3.evaluator modules).ended d' a' s y) k) (sym (event.result' a' r'))
        (subst (λ q. After rules modules cells doc (suc i) q w ((direct.evaluator rules).ended d a w z) n r' s ((es3.evaluator modules).ended d' a' s y) k) (sym (event.result a r))
        (subst (λ l. After rules modules cells doc (suc i) r w (z ++ (l ++ ended (label_of d) (end_in w a) ∷ [])) n r' s ((es3.evaluator modules).ended d' a' s y) k) (sym (event.out a))
        (after_turn (suc i) r r' (ended (label_of d) (end_in w a) ∷ []) (told.ended (label_of d') (es3.end_of_turn s.heap (completed a')) ∷ [])
        (ap (λ l. told.ended l (end_renamed tag_of_name (end_in w a)) ∷ []) event.label ∙ ap (λ x. told.ended (label_of d') x ∷ []) (sym same))
        between (λ j. values_last began.heap s.heap lasts (r j) (r' j) (results j)) (places_last modules cells doc began.heap s.heap lasts places))))

    pub call_ends : (a : Source.Completion) (w : World) (z : List Item) (n : ℕ) (a' : Target.Completion) (s : Store) (y : Kept) (k : ℕ) → TurnEnds rules (suc i) (call_in began) a w z n a' s y k
        → After rules modules cells doc (suc i) (direct.result d a r) w ((direct.evaluator rules).ended d a w z) n (es3.result d' a' r') s ((es3.evaluator modules).ended d' a' s y) k
    call_ends (Source.gave v) w z n (Target.gave e) s y k h =
        gives (Source.gave v) w z n (Target.gave e) s y k h.1.0.0 h.1.0.1 h.1.1 (given_alike w s.heap _ h.1.0.1.objects false v (Target.gave e) h.0)
    call_ends (Source.threw v) w z n (Target.threw e) s y k h =
        gives (Source.threw v) w z n (Target.threw e) s y k h.1.0.0 h.1.0.1 h.1.1 (thrown_alike w s.heap _ h.1.0.1.objects v e h.0)
    call_ends (Source.gave v) w z n _ s y k h = absurd h.0
    call_ends _ w z n _ s y k h = absurd h

    -- so the turns of an event are simulated, from plans that are alike
    pub event_simulated : (p : Source.Plan) (z : List Item) (t : ℕ) (q : Target.Plan) (y : Kept) (k : ℕ) → TurnsAlike rules (call_in began) (suc i) p z t q y k
        → SimulatedTo (page_sides rules (no_turn modules cells)) (NextOf (both_pages rules modules cells doc) i d d' (TurnsPair (both_pages rules modules cells doc) i d d' [] []) r r') t k (λ n. source_run rules p z n) (λ n. target_run q y n)
    event_simulated p z t q y k alike =
        simulated_weaker (page_sides rules (no_turn modules cells)) (page_sides rules (no_turn modules cells)) (TurnEnds rules (suc i) (call_in began)) (NextOf (both_pages rules modules cells doc) i d d' (TurnsPair (both_pages rules modules cells doc) i d d' [] []) r r')
        (λ n j less. less) (omega arith) (λ f x z1 f' x' z1' h. h) (λ q1 z1 h. h) call_ends
        t k (λ n. source_run rules p z n) (λ n. target_run q y n) (turns_simulated rules (no_turn modules cells) (call_in began) alike)

-- where both sides are between two deeds, the key is called on both, and they are between two deeds again where that has ended
pub call_pair : (rules : Rules) (modules cells : ℕ) (doc : Doc) → modules ≤ 64 → (i e m : ℕ) (key : List ℕ) (args : List Plain) → DeedFits modules cells doc i (to_call e m key args) → DeedPair (both_pages rules modules cells doc) i (to_call e m key args) (program_deed (to_call e m key args))
call_pair rules modules cells doc few i e m key args fit r w z t r' s y k a =
    let vs = r m ∷ map direct.plain_value args in
    let us = r' m ∷ map plain_value args in
    let counted : length vs < 4294967296 = omega (arith, length-map args direct.plain_value, fit.2) in
    let alike : TurnsAlike rules (call_in s) (suc i) (key_turn m key vs w) z t (key_turn' m key us s y) y k =
    key_alike rules m (omega (arith, few, fit.1)) key vs us i fit.0 w z t a.tags s y k (a.results m, plains_alike s.heap args) counted a.between in
    let sim = event_simulated rules modules cells doc i (to_call e m key args) (program_deed (to_call e m key args))
    (record { result = λ c q. refl; result' = λ c q. refl; out = λ c. refl; label = refl }) r r' s a.results a.places (key_turn m key vs w) z t (key_turn' m key us s y) y k alike in
    subst (λ p. SimulatedTo (page_sides rules (no_turn modules cells)) (NextOf (both_pages rules modules cells doc) i (to_call e m key args) (program_deed (to_call e m key args)) (TurnsPair (both_pages rules modules cells doc) i (to_call e m key args) (program_deed (to_call e m key args)) [] []) r r') t k (λ n. run (meaning rules) n p z) (λ n. target_run (key_turn' m key us s y) y n))
    (answers_same (key_event m key vs w)) sim
