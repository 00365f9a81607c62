-- What a page comes to by the meaning of ECMAScript 3 of its programs: the same deeds, over the natives of a page.
use Rattle.std.specs.Prelude.{ℕ, List, [], ◌∷◌, Option, Some, None, Result, Ok, Err, codes, map, length, nat_eq, if◌then◌else◌}
use Rattle.plans.specs.Plans.{Run as RunOf}
use Rattle.page_deeds.specs.Deeds.{Deed as DeedOf, to_load, to_call, to_tick, to_click, to_input, label_of}
use Rattle.page_deeds.specs.Shown.{Ended, by_return, by_throw, by_nothing}
use Rattle.pages.specs.Pages.{Turn as TurnOf, Begun as BegunOf, Evaluator, page}
use Rattle.es3_tree.specs.Tree as t
use Rattle.es3_objects.specs.declared.value.Value.{Value}
use Rattle.es3_objects.specs.declared.value.Value.TheVariants.{Undefined}
use Rattle.es3_objects.specs.declared.value.Tag.{Tag}
use Rattle.es3_heap.specs.Objects.{Objects}
use Rattle.es3_language.specs.Store.{Store, with_heap}
use Rattle.es3_language.specs.Natives.{Touched}
use Rattle.es3_language.specs.Meaning.{Completion as EsCompletion, Task, es3, program_plan}
use Rattle.es3_moves.specs.declared.natives.Completion.{Completion}
use Rattle.es3_moves.specs.declared.natives.Completion.TheVariants.{Normal, Thrown}
use Rattle.es3_machine.specs.Machine.{completed}
use Rattle.heap_rows.specs.Doing.{ended}
use Rattle.doc_nodes.specs.declared.node.DocError.{DocError}
use Rattle.doc_nodes.specs.Rows.{Doc, row_at, tag_in, node_with}
use Rattle.doc_nodes.specs.Changes.{set_attr}
use Rattle.dom_handlers.specs.declared.kinds.EventKind.{EventKind}
use Rattle.dom_handlers.specs.declared.kinds.EventKind.TheVariants.{Click, Input}
use Rattle.dom_handlers.specs.Handlers.{functions_of}
use Rattle.tamed_dom.specs.Lent.{Lent, object_of}
use Rattle.page_log.specs.Shown.{shown_value}
use Rattle.page_natives.specs.Natives.{Kept, page_table, page_of, importing, tells, without_first}
use Rattle.module_loader.specs.Turns.{Results, plain_value, granted_pairs, with_imports_of, key_plan, tick_plan, node_plan}

abbrev pub Deed : Type 0
Deed = DeedOf (t.Tree t.program)

abbrev pub Begun : Type 0
Begun = BegunOf Task EsCompletion Store Touched Kept

-- the first function that waits is taken, and called
abbrev pub tick_begun : ℕ → List Value → Store → Kept → Begun
tick_begun m [] s z = record { store = s; kept = z; turns = [] }
tick_begun m (f ∷ fs) s z = record { store = s; kept = without_first m z; turns = (λ x y. tick_plan m f x) ∷ [] }

abbrev pub Turn : Type 0
Turn = TurnOf Task EsCompletion Store Touched Kept

-- what is called when this happens to a root's node, by its number there, in the order in which it was registered
abbrev pub listening_at : EventKind → Option ℕ → Lent → List Value
listening_at kind None y = []
listening_at kind (Some n) y = functions_of kind n y.handlers

abbrev pub listeners : EventKind → ℕ → ℕ → Lent → List Value
listeners kind root k y = listening_at kind (node_with y.doc root k) y

-- a turn for each of them, as they stood at the start
abbrev pub node_turns : Value → List Value → List Turn
node_turns node [] = []
node_turns node (f ∷ fs) = (λ x y. node_plan node f x) ∷ node_turns node fs

abbrev pub node_begun : EventKind → ℕ → ℕ → Store → Kept → Begun
node_begun kind root k s z = record { store = s; kept = z; turns = node_turns (object_of root k z.dom) (listeners kind root k z.dom) }

-- a text is the value of a root's node, where there is such a node and it is an element; nothing is told of that
abbrev pub changed_or : Result Doc DocError → Lent → Lent
changed_or (Ok d) y = record { doc = d; facets = y.facets; handlers = y.handlers; change = y.change }
changed_or (Err e) y = y

abbrev pub value_in : Option (List ℕ) → ℕ → List ℕ → Lent → Lent
value_in None n us y = y
value_in (Some tag) n us y = changed_or (set_attr n (codes "value") us y.doc) y

abbrev pub value_put : Option ℕ → List ℕ → Lent → Lent
value_put None us y = y
value_put (Some n) us y = value_in (tag_in (row_at y.doc n)) n us y

abbrev pub with_input : ℕ → ℕ → List ℕ → Kept → Kept
with_input root k us z = record z { dom = value_put (node_with z.dom.doc root k) us z.dom }

-- among so many modules
abbrev pub begin : ℕ → Deed → Results → Store → Kept → Begun
begin modules (to_load m p gs) r s z =
    record { store = with_heap s (with_imports_of m (granted_pairs modules r z.dom gs) s.heap); kept = importing m (length s.heap.list) z; turns = (λ x y. program_plan p m x) ∷ [] }
begin modules (to_call k m key args) r s z = record { store = s; kept = z; turns = (λ x y. key_plan m key (r m ∷ map plain_value args) x y) ∷ [] }
begin modules (to_tick k m) r s z = tick_begun m ((page_of z).queues m) s z
begin modules (to_click k id root n) r s z = node_begun Click root n s z
begin modules (to_input k id root n us) r s z = node_begun Input root n s (with_input root n us z)

abbrev pub end_of_turn : Objects → Completion → Ended Tag
end_of_turn h (Normal x) = by_return (shown_value h x)
end_of_turn h (Thrown x) = by_throw (shown_value h x)

-- a load that threw has no result
abbrev pub value_given : Completion → Value
value_given (Normal x) = x
value_given (Thrown x) = Undefined

abbrev pub result : Deed → EsCompletion → Results → Results
result (to_load m p gs) e r = λ n. if nat_eq n m then value_given (completed e) else r n
result d e r = r

abbrev pub evaluator : ℕ → Evaluator Deed Results Task EsCompletion Store Touched Kept
evaluator modules = record {
  language = es3 page_table;
  begin = begin modules;
  none = λ d s z. tells (ended (label_of d) by_nothing ∷ []) z;
  ended = λ d e s z. tells (ended (label_of d) (end_of_turn s.heap (completed e)) ∷ []) z;
  result = result;
}

abbrev pub Run : Type 0
Run = RunOf Results Store Kept

-- nothing was loaded
abbrev pub no_results : Results
no_results m = Undefined

-- what a page of so many modules comes to, from a store, with so many steps
abbrev pub es3_page : ℕ → List Deed → Store → Kept → ℕ → Run
es3_page modules ds s z n = page (evaluator modules) ds n no_results s z
