-- The two pages side by side.
use Rattle.std.proofs.Common.{◌≡◌, ℕ, true, List, [], ◌∷◌, refl, sym, ◌∙◌}
use Rattle.std.proofs.lemmas.List.{append-nil}
use Rattle.page_deeds.specs.Deeds.{to_load, to_call, to_tick, to_click, to_input, label_of}
use Rattle.page_deeds.specs.Shown.{by_nothing}
use Rattle.pages.specs.Pages.{GrowsOn}
use Rattle.pages.specs.Pairs.{PageSides}
use Rattle.es3_objects.specs.declared.value.Value as es_value
use Rattle.es3_language.specs.Store.{Store}
use Rattle.es3_language.specs.Natives.{Touched}
use Rattle.es3_language.specs.Meaning as Target
use Rattle.doc_nodes.specs.Rows.{Doc}
use Rattle.rows.specs.Nodes.{Rules}
use Rattle.cajita_meaning.specs.World.{Value, World}
use Rattle.cajita_meaning.specs.Direct as Source
use Rattle.cajita_meaning.specs.Direct.{Item}
use Rattle.es3_machine.specs.Machine.{completed}
use Rattle.heap_rows.specs.Doing as told
use Rattle.heap_rows.specs.Opening.{begun}
use Rattle.page_natives.specs.Natives.{Kept, page_of}
use Rattle.module_loader.specs.Turns.{Results}
use Rattle.cajita_page.specs.DirectPage as direct
use Rattle.page_runner.specs.Page as es3
use Rattle.cajita_simulation.specs.Alike.{IsPrefix}
use Rattle.cajita_simulation.specs.Related.{Turn}
use Rattle.cajita_simulation.proofs.Laws.{prefix_refl, direct_grows, target_grows}
use Rattle.cajita_simulation.proofs.Told.{TellsMore, as_before, tells_more}
use Rattle.cajita_simulation.proofs.Sentences.{page_sides}
use Rattle.page_simulation.proofs.Between.{After, affords, begins}

-- nothing that is told is lost, on either side

tick_kept : (m : ℕ) (q : List Value) (w : World) (z : List Item) → IsPrefix z (direct.tick_begun m q w z).kept
tick_kept m [] w z = prefix_refl z
tick_kept m (f ∷ fs) w z = prefix_refl z

pub begun_kept : (d : direct.Deed) (r : direct.Results) (w : World) (z : List Item) → IsPrefix z (direct.begin d r w z).kept
begun_kept (to_load m p gs) r w z = prefix_refl z
begun_kept (to_call k m key args) r w z = prefix_refl z
begun_kept (to_tick k m) r w z = tick_kept m (w.queues m) w z
begun_kept (to_click k id root n) r w z = prefix_refl z
begun_kept (to_input k id root n us) r w z = prefix_refl z

abbrev pub left_grows : (rules : Rules) → GrowsOn (direct.evaluator rules) IsPrefix
left_grows rules = record {
  runs = direct_grows rules;
  begun = begun_kept;
  none = λ d w z. record { rest = _; is = refl };
  ended = λ d e w z. record { rest = _; is = refl };
}

-- what is told and how touches are asked for are as before
told_before : (a b : Kept) → b.told ≡ a.told → b.touching ≡ a.touching → TellsMore a b
told_before a b told touching = record { more = []; told = told ∙ sym (append-nil a.told); touching = touching }

tick_kept' : (m : ℕ) (q : List es_value.Value) (s : Store) (y : Kept) → TellsMore y (es3.tick_begun m q s y).kept
tick_kept' m [] s y = as_before y
tick_kept' m (f ∷ fs) s y = told_before y (es3.tick_begun m (f ∷ fs) s y).kept refl refl

pub begun_kept' : (modules : ℕ) (d : es3.Deed) (r : Results) (s : Store) (y : Kept) → TellsMore y (es3.begin modules d r s y).kept
begun_kept' modules (to_load m p gs) r s y = told_before y (es3.begin modules (to_load m p gs) r s y).kept refl refl
begun_kept' modules (to_call k m key args) r s y = as_before y
begun_kept' modules (to_tick k m) r s y = tick_kept' m ((page_of y).queues m) s y
begun_kept' modules (to_click k id root n) r s y = as_before y
begun_kept' modules (to_input k id root n us) r s y = told_before y (es3.with_input root n us y) refl refl

abbrev pub right_grows : (modules : ℕ) → GrowsOn (es3.evaluator modules) TellsMore
right_grows modules = record {
  runs = target_grows;
  begun = begun_kept' modules;
  none = λ d s y. tells_more (told.ended (label_of d) by_nothing ∷ []) y;
  ended = λ d e s y. tells_more (told.ended (label_of d) (es3.end_of_turn s.heap (completed e)) ∷ []) y;
}

-- the turns of a page begin in stores of their own: none is named here
abbrev pub no_turn : ℕ → ℕ → Turn
no_turn modules cells = record { load = true; began = begun modules cells }

abbrev pub both_pages : (rules : Rules) (modules cells : ℕ) (doc : Doc) → PageSides direct.Deed direct.Results Source.Task Source.Completion World Item (List Item) es3.Deed Results Target.Task Target.Completion Store Touched Kept
both_pages rules modules cells doc = record {
  sides = page_sides rules (no_turn modules cells);
  left = direct.evaluator rules;
  right = es3.evaluator modules;
  grows = left_grows rules;
  After = After rules modules cells doc;
  after_affords = λ i r w z t r' s y k a. affords a;
  after_begins = λ i r w z t r' s y k a. begins a;
}
