-- An event that calls the first function that waits in a module, on both sides of a page.
use Rattle.std.proofs.Common.{◌≡◌, ℕ, suc, ◌≤◌, List, [], ◌∷◌, refl, sym, subst, arith}
use Rattle.plans.specs.Plans.{run}
use Rattle.matching.specs.Sentences.{SimulatedTo}
use Rattle.page_deeds.specs.Deeds.{to_tick, of_tick}
use Rattle.page_deeds.specs.Shown.{by_nothing}
use Rattle.pages.specs.Pairs.{TurnEnds as NextOf, TurnsPair, TurnsOrNonePair, DeedPair}
use Rattle.es3_language.specs.Store.{Store}
use Rattle.doc_nodes.specs.Rows.{Doc}
use Rattle.rows.specs.Nodes.{Rules}
use Rattle.cajita_meaning.specs.World.{Value, World, with_queue}
use Rattle.cajita_meaning.specs.Events.{tick_event}
use Rattle.cajita_meaning.specs.Direct.{Item, ended, direct as meaning}
use Rattle.heap_rows.specs.Doing as told
use Rattle.row_simulation.specs.Correspond.{EsValue}
use Rattle.page_natives.specs.Natives.{Kept, page_of, without_first}
use Rattle.module_loader.specs.Turns.{Results}
use Rattle.cajita_page.specs.DirectPage as direct
use Rattle.page_runner.specs.Page as es3
use Rattle.cajita_simulation.specs.Turns.{TickBegins, tick_turn, tick_turn', target_run}
use Rattle.cajita_simulation.proofs.Sentences.{page_sides, one_more}
use Rattle.cajita_simulation.proofs.Turns.{tick_alike}
use Rattle.cajita_simulation.proofs.Waiting.{tick_begins, none_waits}
use Rattle.page_simulation.specs.Pages.{program_deed, DeedFits}
use Rattle.page_simulation.proofs.Between.{After, after_turn}
use Rattle.page_simulation.proofs.Sides.{no_turn, both_pages}
use Rattle.page_simulation.proofs.Calls.{answers_same, event_simulated}

module _ (rules : Rules) (modules cells : ℕ) (doc : Doc) (i e m : ℕ) (few : modules ≤ 64) (fit : DeedFits modules cells doc i (to_tick e m)) (r : direct.Results) (w : World) (z : List Item) (t : ℕ) (r' : Results) (s : Store) (y : Kept) (k : ℕ) (a : After rules modules cells doc i r w z t r' s y k) where
  -- how the turns go that begin with these functions in the queue
  abbrev Goes : List Value → List EsValue → Type 0
  Goes q q' =
      let b = direct.tick_begun m q w z in
      let b' = es3.tick_begun m q' s y in
      TurnsOrNonePair (both_pages rules modules cells doc) i (to_tick e m) (program_deed (to_tick e m)) b.turns b'.turns r b.store b.kept t r' b'.store b'.kept k

  -- none waits
  nothing : Goes [] []
  nothing = after_turn (suc i) r r' (ended (of_tick e m) by_nothing ∷ []) (told.ended (of_tick e m) by_nothing ∷ []) refl (one_more rules i w z t a.tags s y k a.between) a.results a.places

  -- the first is called
  called : (f : Value) (fs : List Value) (b : TickBegins rules m f fs i w z t a.tags s y k) → Goes (f ∷ fs) (b.first' ∷ b.behind')
  called f fs b =
      let alike = tick_alike rules m (omega (arith, few, fit.1)) f b.first' i fit.0 (with_queue m fs w) z t a.tags s (without_first m y) k b.closure b.alike b.between in
      let sim = event_simulated rules modules cells doc i (to_tick e m) (program_deed (to_tick e m)) (record { result = λ c q. refl; result' = λ c q. refl; out = λ c. refl; label = refl }) r r' s a.results a.places
      (tick_turn m f (with_queue m fs w)) z t (tick_turn' m b.first' s) (without_first m y) k alike in
      subst (λ p. SimulatedTo (page_sides rules (no_turn modules cells)) (NextOf (both_pages rules modules cells doc) i (to_tick e m) (program_deed (to_tick e m)) (TurnsPair (both_pages rules modules cells doc) i (to_tick e m) (program_deed (to_tick e m)) [] []) r r') t k (λ n. run (meaning rules) n p z) (λ n. target_run (tick_turn' m b.first' s) (without_first m y) n))
      (answers_same (tick_event m f (with_queue m fs w))) sim

  by_queue : (q : List Value) → w.queues m ≡ q → Goes q ((page_of y).queues m)
  by_queue [] is = subst (Goes []) (sym (none_waits rules m i w z t a.tags s y k is a.between)) nothing
  by_queue (f ∷ fs) is = let b = tick_begins rules m f fs i w z t a.tags s y k is a.between in subst (Goes (f ∷ fs)) (sym b.waits') (called f fs b)

-- where both sides are between two deeds, they call the same function, or none; and they are between two deeds again where that has ended
pub tick_pair : (rules : Rules) (modules cells : ℕ) (doc : Doc) → modules ≤ 64 → (i e m : ℕ) → DeedFits modules cells doc i (to_tick e m) → DeedPair (both_pages rules modules cells doc) i (to_tick e m) (program_deed (to_tick e m))
tick_pair rules modules cells doc few i e m fit r w z t r' s y k a = by_queue rules modules cells doc i e m few fit r w z t r' s y k a (w.queues m) refl
