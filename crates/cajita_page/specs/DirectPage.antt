-- What a page does, directly: modules are loaded with what they are granted, keys of their results are called, functions that wait are called, and nodes are told what
-- happens to them.
use Rattle.std.specs.Prelude.{ℕ, List, [], ◌∷◌, ◌++◌, ◌&&◌, map, nat_eq, codes, if◌then◌else◌}
use Rattle.plans.specs.Plans.{ends, enter, told, Plan as PlanOf, Run as RunOf}
use Rattle.acts.specs.Acts.{replied, task}
use Rattle.page_deeds.specs.Deeds as deed
use Rattle.page_deeds.specs.Deeds.{Plain, Grant, a_cell, a_result, a_plain, a_root, Grants, Deed as DeedOf, to_load, to_call, to_tick, to_click, to_input, label_of}
use Rattle.page_deeds.specs.Shown.{by_nothing}
use Rattle.pages.specs.Pages.{Turn as TurnOf, Begun as BegunOf, Evaluator, page}
use Rattle.caja_units.specs.Units.{same_units}
use Rattle.rows.specs.Document.{Node, node_at, is_text, changed, sets_attribute}
use Rattle.rows.specs.Nodes.{Rules}
use Rattle.cajita_tree.specs.Tree as c
use Rattle.cajita_meaning.specs.World.{Name, cell_name, facet_name, Value, undefined, null, truth, number, text, object, Pairs, Handler, World, with_queue, with_nodes}
use Rattle.cajita_meaning.specs.Imports.{fixed_imports, imports_among}
use Rattle.cajita_meaning.specs.Asking.{Reply, Shape, bad, first}
use Rattle.cajita_meaning.specs.Events.{the_page, key_event, tick_event, node_event}
use Rattle.cajita_meaning.specs.Direct.{Item, passed, granted, ended, Completion, gave, threw, Task, a_load, values_of, direct}
use Rattle.cajita_page.specs.Shown.{end_in}

abbrev pub Deed : Type 0
Deed = DeedOf (c.Tree c.program)

-- what the loads of modules gave
abbrev pub Results : Type 0
Results = ℕ → Value

abbrev pub plain_value : Plain → Value
plain_value deed.null = null
plain_value (deed.truth b) = truth b
plain_value (deed.number n) = number n
plain_value (deed.text us) = text us

abbrev pub granted_value : Results → Grant → Value
granted_value r (a_cell c) = object (cell_name c 0)
granted_value r (a_result m) = r m
granted_value r (a_plain v) = plain_value v
granted_value r (a_root root) = object (facet_name root 0)

-- what a module is granted, under its names
abbrev pub granted_pairs : Results → Grants → Pairs
granted_pairs r [] = []
granted_pairs r ((x, g) ∷ gs) = (x, granted_value r g) ∷ granted_pairs r gs

abbrev pub imports_of : c.Tree c.program → List (List ℕ)
imports_of (c.a_module xs body) = xs

-- the values of a module's imports
abbrev pub import_values : ℕ → c.Tree c.program → Pairs → List Value
import_values m p pairs = imports_among (fixed_imports m ++ pairs) (imports_of p)

abbrev pub Plan : Type 0
Plan = PlanOf Task Completion World Item

abbrev pub Turn : Type 0
Turn = TurnOf Task Completion World Item (List Item)

abbrev pub Begun : Type 0
Begun = BegunOf Task Completion World Item (List Item)

-- a module gets each object that it is granted
abbrev pub granting : ℕ → Pairs → Plan → Plan
granting m [] p = p
granting m ((x, object o) ∷ rest) p = told (granted m o) (granting m rest p)
granting m ((x, v) ∷ rest) p = granting m rest p

-- the load of a module, with the values of its imports
abbrev pub load_turn : ℕ → c.Tree c.program → Pairs → Turn
load_turn m p pairs w z = granting m pairs (enter (task (a_load p) m (import_values m p pairs)) w ends)

-- what the page is answered
abbrev pub ends_so : Shape → List Value → Completion
ends_so bad vs = threw (first vs)
ends_so a vs = gave (first vs)

abbrev pub answers : Reply → Plan
answers q = replied q (λ a vs w. ends (ends_so a vs) w)

-- the first function that waits is taken, and called
abbrev pub tick_begun : ℕ → List Value → World → List Item → Begun
tick_begun m [] w z = record { store = w; kept = z; turns = [] }
tick_begun m (f ∷ fs) w z = record { store = with_queue m fs w; kept = z; turns = (λ v y. answers (tick_event m f v)) ∷ [] }

-- what is called when this happens to a node, in the order in which it was registered
abbrev pub listeners : ℕ → List ℕ → List Handler → List Value
listeners n what [] = []
listeners n what (h ∷ hs) = if nat_eq h.on n && same_units h.what what then h.does ∷ listeners n what hs else listeners n what hs

-- a turn for each of them, as they stood at the start
abbrev pub node_turns : Name → List Value → List Turn
node_turns node [] = []
node_turns node (f ∷ fs) = (λ w z. answers (node_event node f w)) ∷ node_turns node fs

-- a text stands in an element; what is none has no text in it
abbrev pub put_in : List ℕ → ℕ → List Node → List Node
put_in us n ns = if is_text (node_at ns n) then ns else changed (sets_attribute (codes "value") us) n ns

-- nothing is told of that
abbrev pub with_input : ℕ → ℕ → List ℕ → World → World
with_input root n us w = with_nodes root (put_in us n (w.nodes root)) w

abbrev pub begin : Deed → Results → World → List Item → Begun
begin (to_load m p gs) r w z = record { store = w; kept = z; turns = load_turn m p (granted_pairs r gs) ∷ [] }
begin (to_call k m key args) r w z = record { store = w; kept = z; turns = (λ v y. answers (key_event m key (r m ∷ map plain_value args) v)) ∷ [] }
begin (to_tick k m) r w z = tick_begun m (w.queues m) w z
begin (to_click k id root n) r w z = record { store = w; kept = z; turns = node_turns (facet_name root n) (listeners n (codes "click") (w.handlers root)) }
begin (to_input k id root n us) r w z = record { store = with_input root n us w; kept = z; turns = node_turns (facet_name root n) (listeners n (codes "input") (w.handlers root)) }

-- what a load gave or threw goes to the page; of a call its maker has told that
abbrev pub passed_out : ℕ → List Value → List Item
passed_out m [] = []
passed_out m (object o ∷ vs) = passed m the_page o ∷ passed_out m vs
passed_out m (v ∷ vs) = passed_out m vs

abbrev pub loaded_out : Deed → Completion → List Item
loaded_out (to_load m p gs) e = passed_out m (values_of e)
loaded_out d e = []

-- a load that threw has no result
abbrev pub value_given : Completion → Value
value_given (gave v) = v
value_given e = undefined

abbrev pub result : Deed → Completion → Results → Results
result (to_load m p gs) e r = λ n. if nat_eq n m then value_given e else r n
result d e r = r

abbrev pub evaluator : Rules → Evaluator Deed Results Task Completion World Item (List Item)
evaluator rules = record {
  language = direct rules;
  begin = begin;
  none = λ d w z. z ++ ended (label_of d) by_nothing ∷ [];
  ended = λ d e w z. z ++ (loaded_out d e ++ ended (label_of d) (end_in w e) ∷ []);
  result = result;
}

abbrev pub Run : Type 0
Run = RunOf Results World (List Item)

-- nothing was loaded
abbrev pub no_results : Results
no_results m = undefined

-- nothing was done, and each root has its nodes
abbrev pub first_world : (ℕ → List Node) → World
first_world nodes = record { objects = λ m. []; scopes = λ m. []; cells = λ c. undefined; queues = λ m. []; revoked = λ m. []; nodes = nodes; handlers = λ root. [] }

-- what the direct meaning says of a page with these nodes and with so many steps
abbrev pub direct_page : Rules → (ℕ → List Node) → List Deed → ℕ → Run
direct_page rules nodes ds n = page (evaluator rules) ds n no_results (first_world nodes) []
