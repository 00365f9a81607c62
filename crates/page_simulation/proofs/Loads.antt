-- The load of a module, on both sides of a page.
use Rattle.std.proofs.Common.{◌≡◌, ℕ, suc, ◌≤◌, Bool, true, false, cond, List, [], ◌∷◌, ◌++◌, Some, refl, sym, ap, ◌∙◌, subst, arith}
use Rattle.std.specs.Prelude.{nat_eq}
use Rattle.std.proofs.lemmas.List.{append-nil, append_assoc}
use Rattle.std.proofs.Math.Path.{fun_ext}
use Rattle.plans.specs.Plans.{run}
use Rattle.matching.specs.Sentences.{SimulatedTo}
use Rattle.page_deeds.specs.Deeds.{Grants, to_load, label_of}
use Rattle.page_deeds.specs.Shown.{end_renamed}
use Rattle.pages.specs.Pairs.{TurnEnds as NextOf, TurnsPair, DeedPair}
use Rattle.pages.proofs.Chain.{simulated_weaker}
use Rattle.es3_heap.specs.Objects.{Objects}
use Rattle.es3_language.specs.Store.{Store}
use Rattle.es3_language.specs.Meaning as Target
use Rattle.es3_machine.specs.Machine.{completed}
use Rattle.doc_nodes.specs.Rows.{Doc}
use Rattle.rows.specs.Nodes.{Rules}
use Rattle.cajita_tree.specs.Tree as c
use Rattle.cajita_meaning.specs.World as world
use Rattle.cajita_meaning.specs.World.{object, Value, Pairs, World}
use Rattle.cajita_meaning.specs.Direct as Source
use Rattle.cajita_meaning.specs.Direct.{Item, granted, ended, direct as meaning}
use Rattle.heap_rows.specs.Doing.{Told}
use Rattle.heap_rows.specs.Doing as told
use Rattle.row_simulation.specs.RowLaw.{shown}
use Rattle.row_simulation.specs.Correspond.{EsValue, Val, tag_of_name}
use Rattle.page_natives.specs.Natives.{Kept}
use Rattle.module_loader.specs.Turns.{Results, granted_pairs}
use Rattle.cajita_page.specs.DirectPage as direct
use Rattle.cajita_page.specs.Shown.{end_in}
use Rattle.page_runner.specs.Page as es3
use Rattle.cajita_simulation.specs.Scopes.{Tags}
use Rattle.cajita_simulation.specs.Related.{BetweenTurns}
use Rattle.cajita_simulation.specs.Sides.{Lasts}
use Rattle.cajita_simulation.specs.Places.{PagePlaces, load_store, load_kept}
use Rattle.cajita_simulation.specs.Turns.{TurnEnds, load_in, load_turn, load_turn', source_run, target_run}
use Rattle.cajita_simulation.proofs.Told.{tells_nothing}
use Rattle.cajita_simulation.proofs.Sentences.{page_sides, telling, turns_simulated}
use Rattle.cajita_simulation.proofs.Load.Granted.{load_begins}
use Rattle.cajita_simulation.proofs.Load.Places.{places_last, values_last}
use Rattle.cajita_simulation.proofs.Theorem.{loads}
use Rattle.page_simulation.specs.Pages.{program_deed, DeedFits}
use Rattle.page_simulation.proofs.Shown.{given_alike, thrown_alike}
use Rattle.page_simulation.proofs.Between.{After, after_turn, grants_alike}
use Rattle.page_simulation.proofs.Sides.{no_turn, both_pages}

-- a module is told that it gets each object that it is granted; no page tells of that

abbrev granted_items : ℕ → Pairs → List Item
granted_items m [] = []
granted_items m ((x, object o) ∷ rest) = granted m o ∷ granted_items m rest
granted_items m ((x, v) ∷ rest) = granted_items m rest

granted_quiet : (m : ℕ) (ps : Pairs) → shown (granted_items m ps) ≡ []
granted_quiet m [] = refl
granted_quiet m ((x, object o) ∷ ps) = granted_quiet m ps
granted_quiet m ((x, world.undefined) ∷ ps) = granted_quiet m ps
granted_quiet m ((x, world.null) ∷ ps) = granted_quiet m ps
granted_quiet m ((x, world.truth b) ∷ ps) = granted_quiet m ps
granted_quiet m ((x, world.number n) ∷ ps) = granted_quiet m ps
granted_quiet m ((x, world.text us) ∷ ps) = granted_quiet m ps

granting_run : (rules : Rules) (m : ℕ) (ps : Pairs) (q : direct.Plan) (z : List Item) (n : ℕ) → run (meaning rules) n (direct.granting m ps q) z ≡ run (meaning rules) n q (z ++ granted_items m ps)
granting_run rules m [] q z n = ap (run (meaning rules) n q) (sym (append-nil z))
granting_run rules m ((x, object o) ∷ ps) q z n = granting_run rules m ps q (z ++ granted m o ∷ []) n ∙ ap (run (meaning rules) n q) (append_assoc z (granted m o ∷ []) (granted_items m ps))
granting_run rules m ((x, world.undefined) ∷ ps) q z n = granting_run rules m ps q z n
granting_run rules m ((x, world.null) ∷ ps) q z n = granting_run rules m ps q z n
granting_run rules m ((x, world.truth b) ∷ ps) q z n = granting_run rules m ps q z n
granting_run rules m ((x, world.number k) ∷ ps) q z n = granting_run rules m ps q z n
granting_run rules m ((x, world.text us) ∷ ps) q z n = granting_run rules m ps q z n

-- nor of what its load gives to the page
passed_quiet : (m : ℕ) (vs : List Value) (is : List Item) → shown (direct.passed_out m vs ++ is) ≡ shown is
passed_quiet m [] is = refl
passed_quiet m (object o ∷ vs) is = passed_quiet m vs is
passed_quiet m (world.undefined ∷ vs) is = passed_quiet m vs is
passed_quiet m (world.null ∷ vs) is = passed_quiet m vs is
passed_quiet m (world.truth b ∷ vs) is = passed_quiet m vs is
passed_quiet m (world.number n ∷ vs) is = passed_quiet m vs is
passed_quiet m (world.text us ∷ vs) is = passed_quiet m vs is

-- of two results, the one that was given now

either : (b : Bool) (h : Objects) (v u : Value) (e f : EsValue) → Val h v e → Val h u f → Val h (cond b v u) (cond b e f)
either true h v u e f p q = p
either false h v u e f p q = q

module _ (rules : Rules) (modules cells : ℕ) (doc : Doc) (i m : ℕ) (p : c.Tree c.program) (gs : Grants) where
  abbrev the_deed : direct.Deed
  the_deed = to_load m p gs

  module _ (r : direct.Results) (r' : Results) (began : Store) (results : (k : ℕ) → Val began.heap (r k) (r' k)) (places : PagePlaces modules cells doc began.heap) where
    -- both have ended
    gives : (a : Source.Completion) (w : World) (z : List Item) (n : ℕ) (a' : Target.Completion) (s : Store) (y : Kept) (k : ℕ) (g : Tags) → BetweenTurns rules (suc i) w z n g s y k → Lasts began.heap s.heap
        → es3.end_of_turn s.heap (completed a') ≡ end_renamed tag_of_name (end_in w a) → Val s.heap (direct.value_given a) (es3.value_given (completed a'))
        → After rules modules cells doc (suc i) (direct.result the_deed a r) w ((direct.evaluator rules).ended the_deed a w z) n (es3.result (program_deed the_deed) a' r') s ((es3.evaluator modules).ended (program_deed the_deed) a' s y) k
    gives a w z n a' s y k g between lasts same given =
        after_turn (suc i) (direct.result the_deed a r) (es3.result (program_deed the_deed) a' r') _ _
        (passed_quiet m (Source.values_of a) (ended (label_of the_deed) (end_in w a) ∷ []) ∙ ap (λ x. told.ended (label_of the_deed) x ∷ []) (sym same))
        between
        (λ j. either (nat_eq j m) s.heap (direct.value_given a) (r j) (es3.value_given (completed a')) (r' j) given (values_last began.heap s.heap lasts (r j) (r' j) (results j)))
        (places_last modules cells doc began.heap s.heap lasts places)

    ends : (a : Source.Completion) (w : World) (z : List Item) (n : ℕ) (a' : Target.Completion) (s : Store) (y : Kept) (k : ℕ) → TurnEnds rules (suc i) (load_in began) a w z n a' s y k
        → After rules modules cells doc (suc i) (direct.result the_deed a r) w ((direct.evaluator rules).ended the_deed a w z) n (es3.result (program_deed the_deed) a' r') s ((es3.evaluator modules).ended (program_deed the_deed) a' s y) k
    ends (Source.gave v) w z n (Target.normal (Some e)) s y k h =
        gives (Source.gave v) w z n (Target.normal (Some e)) s y k h.1.0.0 h.1.0.1 h.1.1 (given_alike w s.heap _ h.1.0.1.objects true v (Target.normal (Some e)) h.0) h.0
    ends (Source.threw v) w z n (Target.threw e) s y k h =
        gives (Source.threw v) w z n (Target.threw e) s y k h.1.0.0 h.1.0.1 h.1.1 (thrown_alike w s.heap _ h.1.0.1.objects v e h.0) tt
    ends (Source.gave v) w z n _ s y k h = absurd h.0
    ends _ w z n _ s y k h = absurd h

-- where both sides are between two deeds, the load begins on both, and they are between two deeds again where it has ended
pub load_pair : (rules : Rules) (modules cells : ℕ) (doc : Doc) → modules ≤ 64 → (i m : ℕ) (p : c.Tree c.program) (gs : Grants) → DeedFits modules cells doc i (to_load m p gs) → DeedPair (both_pages rules modules cells doc) i (to_load m p gs) (program_deed (to_load m p gs))
load_pair rules modules cells doc few i m (c.a_module names body) gs fit r w z t r' s y k a =
    let the_module : c.Tree c.program = c.a_module names body in
    let ps = direct.granted_pairs r gs in
    let qs = granted_pairs modules r' y.dom gs in
    let b = load_begins rules modules cells doc m fit.1 (omega (arith, few, fit.1)) names ps qs i w z t a.tags s y k a.places (grants_alike modules cells doc s.heap w y a.between.pages a.between.kept.whole r r' a.places a.results gs fit.3) a.between in
    let s1 : Store = load_store m qs s in
    let y1 : Kept = load_kept m s y in
    let items = granted_items m ps in
    let vs = direct.import_values m the_module ps in
    let between : BetweenTurns rules i w (z ++ items) t a.tags s1 y1 k = subst (λ q. BetweenTurns rules i w (z ++ items) t a.tags s1 q k) (tells_nothing y1) (telling rules items [] (granted_quiet m ps) i w z t a.tags s1 y1 k b.between) in
    let alike = loads rules the_module m (omega (arith, few, fit.1)) fit.2 vs i fit.0 w (z ++ items) t a.tags s1 y1 k b.imports between in
    let sim = turns_simulated rules (no_turn modules cells) (load_in s1) alike in
    let next = simulated_weaker (page_sides rules (no_turn modules cells)) (page_sides rules (no_turn modules cells)) (TurnEnds rules (suc i) (load_in s1)) (NextOf (both_pages rules modules cells doc) i (to_load m the_module gs) (program_deed (to_load m the_module gs)) (TurnsPair (both_pages rules modules cells doc) i (to_load m the_module gs) (program_deed (to_load m the_module gs)) [] []) r r')
    (λ n j less. less) (omega arith) (λ f x z1 f' x' z1' h. h) (λ q z1 h. h)
    (λ c1 w1 z1 n1 c1' s2 y2 k1 h. ends rules modules cells doc i m the_module gs r r' s1 (λ j. values_last s.heap s1.heap b.lasts (r j) (r' j) (a.results j)) (places_last modules cells doc s.heap s1.heap b.lasts a.places) c1 w1 z1 n1 c1' s2 y2 k1 h)
    t k (λ n. source_run rules (load_turn the_module m vs w) (z ++ items) n) (λ n. target_run (load_turn' the_module m s1) y1 n) sim in
    subst (λ f. SimulatedTo (page_sides rules (no_turn modules cells)) (NextOf (both_pages rules modules cells doc) i (to_load m the_module gs) (program_deed (to_load m the_module gs)) (TurnsPair (both_pages rules modules cells doc) i (to_load m the_module gs) (program_deed (to_load m the_module gs)) [] []) r r') t k f (λ n. target_run (load_turn' the_module m s1) y1 n))
    (fun_ext (λ n. sym (granting_run rules m ps (load_turn the_module m vs w) z n))) next
