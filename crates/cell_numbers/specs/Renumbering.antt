-- Cells and roots that are numbered anew, and what becomes of all that names one.
use Rattle.std.specs.Prelude.{◌≡◌, ℕ, List, map, option_map}
use Rattle.plans.specs.Plans.{Run, over, stopped, out}
use Rattle.page_deeds.specs.Deeds.{Grant, a_cell, a_result, a_plain, a_root, Grants, Deed, to_load, to_call, to_tick, to_click, to_input, Label, of_load, of_call, of_tick, of_click, of_input}
use Rattle.page_deeds.specs.Shown.{end_renamed}
use Rattle.cajita_meaning.specs.World.{Name, made_name, cell_name, own_name, built_name, tools_name, facet_name, forward_name, Value, undefined, null, truth, number, text, object, Pairs, Object, a_record, an_array, an_error, a_closure, Handler, World}
use Rattle.cajita_meaning.specs.Direct.{Item, made, got, touched, passed, granted, said, was_revoked, changed_node, ended, Completion, gave, normal, broke, continued, returned, threw}
use Rattle.cajita_meaning.specs.Direct as direct
use Rattle.rows.specs.Document.{Node}
use Rattle.cajita_laws.specs.Parts.{Group}
use Rattle.cajita_page.specs.DirectPage.{Results}
use Rattle.cajita_page.specs.DirectPage as page

-- another number for each, and the way back
pub record Numbering : Type 0 where
  pub anew : ℕ → ℕ
  pub back : ℕ → ℕ
  pub back_anew : (c : ℕ) → back (anew c) ≡ c
  pub anew_back : (c : ℕ) → anew (back c) ≡ c

-- of cells, and of roots
pub record Renumbering : Type 0 where
  pub cells : Numbering
  pub roots : Numbering

-- a cell, its functions, and what forwards to it have the cell's new number, a node its root's; other names stay
abbrev pub name_anew : Renumbering → Name → Name
name_anew f (made_name m n) = made_name m n
name_anew f (cell_name c i) = cell_name (f.cells.anew c) i
name_anew f (own_name m i) = own_name m i
name_anew f (built_name b) = built_name b
name_anew f (tools_name t) = tools_name t
name_anew f (facet_name r k) = facet_name (f.roots.anew r) k
name_anew f (forward_name m p c i) = forward_name m p (f.cells.anew c) i

-- an object under its new name; all else stays
abbrev pub value_anew : Renumbering → Value → Value
value_anew f undefined = undefined
value_anew f null = null
value_anew f (truth b) = truth b
value_anew f (number n) = number n
value_anew f (text us) = text us
value_anew f (object o) = object (name_anew f o)

-- each of some values
abbrev pub values_anew : Renumbering → List Value → List Value
values_anew f vs = map (value_anew f) vs

-- the values of keys or of variables
abbrev pub pairs_anew : Renumbering → Pairs → Pairs
pairs_anew f ps = map (λ p. (p.0, value_anew f p.1)) ps

-- what an object has in it
abbrev pub object_anew : Renumbering → Object → Object
object_anew f (a_record frozen ps) = a_record frozen (pairs_anew f ps)
object_anew f (an_array frozen vs) = an_array frozen (values_anew f vs)
object_anew f (an_error maker message) = an_error maker message
object_anew f (a_closure code chain) = a_closure code chain

-- the function that is called
abbrev pub handler_anew : Renumbering → Handler → Handler
handler_anew f h = record { on = h.on; what = h.what; does = value_anew f h.does }

-- a cell keeps under its new number what it kept, anew, and a root its nodes and handlers
abbrev pub world_anew : Renumbering → World → World
world_anew f w = record {
  objects = λ m. map (object_anew f) (w.objects m);
  scopes = λ m. map (pairs_anew f) (w.scopes m);
  cells = λ c. value_anew f (w.cells (f.cells.back c));
  queues = λ m. values_anew f (w.queues m);
  revoked = w.revoked;
  nodes = λ r. w.nodes (f.roots.back r);
  handlers = λ r. map (handler_anew f) (w.handlers (f.roots.back r));
}

-- an event's node is of the root's new number
abbrev pub label_anew : Renumbering → Label → Label
label_anew f (of_load m) = of_load m
label_anew f (of_call k m key) = of_call k m key
label_anew f (of_tick k m) = of_tick k m
label_anew f (of_click k id root) = of_click k id (f.roots.anew root)
label_anew f (of_input k id root) = of_input k id (f.roots.anew root)

-- what is told speaks of objects under their new names
abbrev pub item_anew : Renumbering → Item → Item
item_anew f (made m o) = made m (name_anew f o)
item_anew f (got m h o) = got m (name_anew f h) (name_anew f o)
item_anew f (touched m t o k) = touched m t (name_anew f o) k
item_anew f (passed a b o) = passed a b (name_anew f o)
item_anew f (granted m o) = granted m (name_anew f o)
item_anew f (said m us) = said m us
item_anew f (was_revoked m p) = was_revoked m p
item_anew f (changed_node r k c) = changed_node (f.roots.anew r) k c
item_anew f (ended l e) = ended (label_anew f l) (end_renamed (name_anew f) e)

-- in the same order
abbrev pub items_anew : Renumbering → List Item → List Item
items_anew f z = map (item_anew f) z

-- the value of an ending
abbrev pub completion_anew : Renumbering → Completion → Completion
completion_anew f (gave v) = gave (value_anew f v)
completion_anew f (normal o) = normal (option_map (value_anew f) o)
completion_anew f (broke l) = broke l
completion_anew f (continued l) = continued l
completion_anew f (returned v) = returned (value_anew f v)
completion_anew f (threw v) = threw (value_anew f v)

-- a run, with another end, another world and other items
abbrev pub run_anew : {E : Type 0} → (E → E) → Renumbering → Run E World (List Item) → Run E World (List Item)
run_anew ending f (over e w z n) = over (ending e) (world_anew f w) (items_anew f z) n
run_anew ending f (stopped fault w z n) = stopped fault (world_anew f w) (items_anew f z) n
run_anew ending f (out w z n) = out (world_anew f w) (items_anew f z) n

-- of a turn
abbrev pub turn_anew : Renumbering → direct.Run → direct.Run
turn_anew f r = run_anew (completion_anew f) f r

-- what loads gave
abbrev pub results_anew : Renumbering → Results → Results
results_anew f r m = value_anew f (r m)

-- of a page
abbrev pub page_anew : Renumbering → page.Run → page.Run
page_anew f r = run_anew (results_anew f) f r

-- the same cells and roots are granted, by their new numbers
abbrev pub grant_anew : Renumbering → Grant → Grant
grant_anew f (a_cell c) = a_cell (f.cells.anew c)
grant_anew f (a_result m) = a_result m
grant_anew f (a_plain v) = a_plain v
grant_anew f (a_root r) = a_root (f.roots.anew r)

-- under the same names
abbrev pub grants_anew : Renumbering → Grants → Grants
grants_anew f gs = map (λ g. (g.0, grant_anew f g.1)) gs

-- a load, with what it is granted; what happens to a node, by its root's new number
abbrev pub deed_anew : {P : Type 0} → Renumbering → Deed P → Deed P
deed_anew f (to_load m p gs) = to_load m p (grants_anew f gs)
deed_anew f (to_call k m key args) = to_call k m key args
deed_anew f (to_tick k m) = to_tick k m
deed_anew f (to_click k id root n) = to_click k id (f.roots.anew root) n
deed_anew f (to_input k id root n us) = to_input k id (f.roots.anew root) n us

-- each of some deeds
abbrev pub deeds_anew : {P : Type 0} → Renumbering → List (Deed P) → List (Deed P)
deeds_anew f ds = map (deed_anew f) ds

-- the nodes of each root, by its new number
abbrev pub nodes_anew : Renumbering → (ℕ → List Node) → ℕ → List Node
nodes_anew f nodes root = nodes (f.roots.back root)

-- a group, by the new numbers of its cells and roots
abbrev pub group_anew : Renumbering → Group → Group
group_anew f g = record { modules = g.modules; cells = λ c. g.cells (f.cells.back c); roots = λ r. g.roots (f.roots.back r) }
