-- What is promised: turns and pages do the same with their cells and roots numbered anew.
use Rattle.std.specs.Prelude.{◌≡◌, ℕ, Bool, List}
use Rattle.plans.specs.Plans.{kept_of, count_of}
use Rattle.rows.specs.Document.{Node}
use Rattle.rows.specs.Nodes.{Rules}
use Rattle.cajita_tree.specs.Tree as c
use Rattle.cajita_meaning.specs.World.{Name, Value, World}
use Rattle.cajita_meaning.specs.Asking.{Question}
use Rattle.cajita_meaning.specs.Events.{key_event, tick_event, node_event}
use Rattle.cajita_meaning.specs.Direct.{Item, load_run}
use Rattle.cajita_laws.specs.Parts.{Group, items_of}
use Rattle.cajita_laws.specs.Turns.{reply_run, question_run, call_run}
use Rattle.cajita_page.specs.DirectPage.{Deed, direct_page}
use Rattle.cell_numbers.specs.Renumbering.{Renumbering, name_anew, value_anew, values_anew, world_anew, items_anew, turn_anew, page_anew, deeds_anew, nodes_anew, group_anew}

-- of a load
abbrev pub LoadsAnew : Type 0
LoadsAnew = (f : Renumbering) (rules : Rules) (p : c.Tree c.program) (m : ℕ) (vs : List Value) (w : World) (z : List Item) (n : ℕ) →
    load_run rules p m (values_anew f vs) (world_anew f w) (items_anew f z) n ≡ turn_anew f (load_run rules p m vs w z n)

-- of a turn that begins with a question or a call
abbrev pub QuestionsAnew : Type 0
QuestionsAnew = (f : Renumbering) (rules : Rules) (q : Question) (m : ℕ) (vs : List Value) (w : World) (z : List Item) (n : ℕ) →
    question_run rules q m (values_anew f vs) (world_anew f w) (items_anew f z) n ≡ turn_anew f (question_run rules q m vs w z n)

abbrev pub CallsAnew : Type 0
CallsAnew = (f : Renumbering) (rules : Rules) (calls : ℕ) (recorded : Bool) (g t : Value) (vs : List Value) (m : ℕ) (w : World) (z : List Item) (n : ℕ) →
    call_run rules calls recorded (value_anew f g) (value_anew f t) (values_anew f vs) m (world_anew f w) (items_anew f z) n ≡ turn_anew f (call_run rules calls recorded g t vs m w z n)

-- of an event: a key that is called of a value with arguments, which follow the value; and a function that waits
abbrev pub KeysAnew : Type 0
KeysAnew = (f : Renumbering) (rules : Rules) (m : ℕ) (k : List ℕ) (vs : List Value) (w : World) (z : List Item) (n : ℕ) →
    reply_run rules (key_event m k (values_anew f vs) (world_anew f w)) (items_anew f z) n ≡ turn_anew f (reply_run rules (key_event m k vs w) z n)

abbrev pub TicksAnew : Type 0
TicksAnew = (f : Renumbering) (rules : Rules) (m : ℕ) (g : Value) (w : World) (z : List Item) (n : ℕ) →
    reply_run rules (tick_event m (value_anew f g) (world_anew f w)) (items_anew f z) n ≡ turn_anew f (reply_run rules (tick_event m g w) z n)

-- of what is called when something happens to a node
abbrev pub NodesAnew : Type 0
NodesAnew = (f : Renumbering) (rules : Rules) (node : Name) (g : Value) (w : World) (z : List Item) (n : ℕ) →
    reply_run rules (node_event (name_anew f node) (value_anew f g) (world_anew f w)) (items_anew f z) n ≡ turn_anew f (reply_run rules (node_event node g w) z n)

-- of whole pages: whatever is done, with any rules about nodes and any number of steps
abbrev pub PagesAnew : Type 0
PagesAnew = (f : Renumbering) (rules : Rules) (nodes : ℕ → List Node) (ds : List Deed) (n : ℕ) → direct_page rules (nodes_anew f nodes) (deeds_anew f ds) n ≡ page_anew f (direct_page rules nodes ds n)

-- what such a page tells, in its order, and how many steps are left
abbrev pub PageItemsAnew : Type 0
PageItemsAnew = (f : Renumbering) (rules : Rules) (nodes : ℕ → List Node) (ds : List Deed) (n : ℕ) → kept_of (direct_page rules (nodes_anew f nodes) (deeds_anew f ds) n) ≡ items_anew f (kept_of (direct_page rules nodes ds n))

abbrev pub PageStepsAnew : Type 0
PageStepsAnew = (f : Renumbering) (rules : Rules) (nodes : ℕ → List Node) (ds : List Deed) (n : ℕ) → count_of (direct_page rules (nodes_anew f nodes) (deeds_anew f ds) n) ≡ count_of (direct_page rules nodes ds n)

-- among them what a group did (true), or what others did (false)
abbrev pub GroupItemsAnew : Type 0
GroupItemsAnew = (f : Renumbering) (b : Bool) (g : Group) (z : List Item) → items_of b (group_anew f g) (items_anew f z) ≡ items_anew f (items_of b g z)
