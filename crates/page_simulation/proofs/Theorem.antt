-- From the deeds of a page to the page.
use Rattle.std.proofs.Common.{◌≡◌, ◌⊎◌, ℕ, suc, ◌+◌, ◌*◌, ◌≤◌, Bool, List, [], ◌∷◌, sym, ap, ◌∙◌, subst, arith}
use Rattle.plans.specs.Plans.{over, stopped, out, kept_of}
use Rattle.matching.specs.Sentences.{IsFinished, Together, SimulatedTo}
use Rattle.page_deeds.specs.Deeds.{to_load, to_call, to_tick, to_click, to_input}
use Rattle.pages.specs.Pairs.{DeedsPair, done}
use Rattle.pages.proofs.Steady.{page_grows}
use Rattle.pages.proofs.Whole.{page_simulated}
use Rattle.html_kept.specs.Table.{Answers}
use Rattle.doc_nodes.specs.Rows.{Doc}
use Rattle.doc_laws.specs.Reached.{Reached}
use Rattle.doc_views.specs.Seen.{nodes_seen}
use Rattle.doc_views.specs.Clear.{IsClear}
use Rattle.doc_views.specs.Came.{IsRuled}
use Rattle.rows.specs.Nodes.{Rules}
use Rattle.cajita_meaning.specs.Direct.{Item}
use Rattle.heap_rows.specs.Doing.{heard}
use Rattle.heap_rows.specs.Opening.{runtime_id}
use Rattle.row_simulation.specs.RowLaw.{shown}
use Rattle.page_natives.specs.Natives.{Kept, new_kept}
use Rattle.module_loader.specs.Turns.{page_lent, page_store}
use Rattle.cajita_page.specs.DirectPage as direct
use Rattle.page_runner.specs.Page as es3
use Rattle.cajita_simulation.specs.Alike.{IsPrefix, GuestFault, most_page_steps}
use Rattle.cajita_simulation.specs.Related.{IsBare}
use Rattle.cajita_simulation.proofs.Told.{TellsMore}
use Rattle.cajita_simulation.proofs.Sentences.{page_sides}
use Rattle.cajita_simulation.proofs.Load.Begins as opening
use Rattle.cajita_simulation.proofs.Load.Places.{places_begin}
use Rattle.page_simulation.specs.Pages.{program_deeds, DeedsFit}
use Rattle.page_simulation.specs.Correct.{told_of, EndAlike, ConvertsNothing, source_page, program_page, PageCorrect}
use Rattle.page_simulation.proofs.Between.{After}
use Rattle.page_simulation.proofs.Sides.{no_turn, right_grows, both_pages}
use Rattle.page_simulation.proofs.Loads.{load_pair}
use Rattle.page_simulation.proofs.Calls.{call_pair}
use Rattle.page_simulation.proofs.Ticks.{tick_pair}
use Rattle.page_simulation.proofs.Happens.{click_pair, input_pair}

deeds_pair : (rules : Rules) (modules cells : ℕ) (doc : Doc) → modules ≤ 64 → (i : ℕ) (ds : List direct.Deed) → DeedsFit modules cells doc i ds → DeedsPair (both_pages rules modules cells doc) i ds (program_deeds ds)
deeds_pair rules modules cells doc few i [] fit = tt
deeds_pair rules modules cells doc few i (to_load m p gs ∷ ds) fit = (load_pair rules modules cells doc few i m p gs fit.0, deeds_pair rules modules cells doc few (suc i) ds fit.1)
deeds_pair rules modules cells doc few i (to_call k m key args ∷ ds) fit = (call_pair rules modules cells doc few i k m key args fit.0, deeds_pair rules modules cells doc few (suc i) ds fit.1)
deeds_pair rules modules cells doc few i (to_tick k m ∷ ds) fit = (tick_pair rules modules cells doc few i k m fit.0, deeds_pair rules modules cells doc few (suc i) ds fit.1)
deeds_pair rules modules cells doc few i (to_click k id root n ∷ ds) fit = (click_pair rules modules cells doc few i k id root n fit.0, deeds_pair rules modules cells doc few (suc i) ds fit.1)
deeds_pair rules modules cells doc few i (to_input k id root n us ∷ ds) fit = (input_pair rules modules cells doc few i k id root n us fit.0, deeds_pair rules modules cells doc few (suc i) ds fit.1)

module _ (rules : Rules) (modules cells : ℕ) (few : modules ≤ 64) (doc : Doc) (answers : Answers) (reached : Reached doc) (clear : IsClear doc) (ruled : IsBare doc ⊎ IsRuled answers rules) (touching : Bool) (ds : List direct.Deed) (fit : DeedsFit modules cells doc 0 ds) where
  -- where a page begins
  first : After rules modules cells doc 0 direct.no_results (direct.first_world (nodes_seen doc)) [] 0 es3.no_results (page_store modules cells doc) (new_kept runtime_id touching (page_lent modules cells doc) answers) 0
  first = record { tags = []; between = opening.begins rules modules cells touching doc answers reached clear ruled; results = λ m. tt; places = places_begin modules cells doc reached clear }

  simulated : SimulatedTo (page_sides rules (no_turn modules cells)) (After rules modules cells doc (done 0 ds)) 0 0 (source_page rules doc ds) (program_page modules cells doc answers touching ds)
  simulated = page_simulated (both_pages rules modules cells doc) 0 ds (program_deeds ds) (deeds_pair rules modules cells doc few 0 ds fit) direct.no_results (direct.first_world (nodes_seen doc)) [] 0 es3.no_results (page_store modules cells doc) (new_kept runtime_id touching (page_lent modules cells doc) answers) 0 first

  -- touches are asked for as before
  asked : (k : ℕ) → (kept_of (program_page modules cells doc answers touching ds k)).touching ≡ touching
  asked k = (page_grows (es3.evaluator modules) TellsMore (right_grows modules) (program_deeds ds) k es3.no_results (page_store modules cells doc) (new_kept runtime_id touching (page_lent modules cells doc) answers)).touching

  heard_as : (y : Kept) (z : List Item) → y.touching ≡ touching → told_of touching z ≡ heard y.touching (shown z)
  heard_as y z is = ap (λ b. heard b (shown z)) (sym is)

  alike : (all all' : ℕ) (r : direct.Run) (q : es3.Run) → (kept_of q).touching ≡ touching → Together (page_sides rules (no_turn modules cells)) (After rules modules cells doc (done 0 ds)) all all' r q → EndAlike touching r q
  alike all all' (over r w z n) (over r' s y n') is h = (heard_as y z is ∙ h.ends.between.items, λ root. sym (h.ends.between.pages.nodes root), h.ends.between.kept.whole.doc, h.ends.between.kept.whole.clear)
  alike all all' (stopped f w z n) (stopped g s y n') is h = (h.0, h.1, heard_as y z is ∙ h.2)
  alike all all' _ _ is h = absurd h

  backward : (k : ℕ) → k ≤ most_page_steps → IsFinished (program_page modules cells doc answers touching ds k) → (j : ℕ) × ((n : ℕ) → j ≤ n → EndAlike touching (source_page rules doc ds n) (program_page modules cells doc answers touching ds k))
  backward k le fin = let h = simulated.backward k (omega (arith, le)) fin in (h.0, λ n more. alike (0 + n) (0 + k) _ _ (asked k) (h.1 n more))

  no_conversion : (r : direct.Run) (q : es3.Run) → EndAlike touching r q → ConvertsNothing q
  no_conversion (over r w z n) (over r' s y n') h = tt
  no_conversion (stopped f w z n) (stopped g s y n') h = subst GuestFault h.0 h.1
  no_conversion _ _ h = absurd h

  converts_nothing : (q : es3.Run) → (IsFinished q → (j : ℕ) × ((n : ℕ) → j ≤ n → EndAlike touching (source_page rules doc ds n) q)) → ConvertsNothing q
  converts_nothing (over r s y n) back = tt
  converts_nothing (stopped f s y n) back = let h = back tt in no_conversion (source_page rules doc ds h.0) (stopped f s y n) (h.1 h.0 (omega arith))
  converts_nothing (out s y n) back = tt

  pub correct : PageCorrect rules modules cells doc answers touching ds
  correct = record {
    forward = λ n c k fin is le most.
        let h = simulated.forward n c (64 * c) k (λ a less. omega (arith, less)) fin is (omega (arith, le)) most in
        (alike (0 + n) (0 + k) _ _ (asked k) h.0, omega (arith, h.1));
    backward = backward;
    cut = λ k le. let h = simulated.cut k (omega (arith, le)) in (h.0, λ n more. subst (IsPrefix (kept_of (program_page modules cells doc answers touching ds k)).told) (sym (heard_as (kept_of (program_page modules cells doc answers touching ds k)) (kept_of (source_page rules doc ds n)) (asked k))) (h.1 n more));
    never_converts = λ k le. converts_nothing (program_page modules cells doc answers touching ds k) (backward k le);
  }
