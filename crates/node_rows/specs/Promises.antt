-- What methods of nodes do among objects is what their rows do, whatever the page keeps beside its document.
use Rattle.std.specs.Prelude.{◌≡◌, ℕ, suc, List, [], ◌∷◌, Option, Some, None, Ok, length, map, codes}
use Rattle.es3_objects.specs.declared.value.Value.{Value}
use Rattle.es3_heap.specs.Objects.{Objects}
use Rattle.es3_language.specs.Natives.{Turn}
use Rattle.html_kept.specs.Table.{Answers}
use Rattle.doc_nodes.specs.Rows.{Doc, row_at, tag_in}
use Rattle.doc_nodes.specs.Changes.{set_attr}
use Rattle.doc_laws.specs.Reached.{Reached}
use Rattle.node_deeds.specs.declared.told.Change as deeds
use Rattle.node_deeds.specs.declared.told.Change.TheVariants as line
use Rattle.rows.specs.Rows as r
use Rattle.rows.specs.Document.{Node, sets_attribute, sets_text, appends, removes, changed}
use Rattle.rows.specs.Nodes.{Rules}
use Rattle.rows.specs.Table.{row_of}
use Rattle.heap_rows.specs.Doing.{Told, changed_node, Page, Came, does, with_of}
use Rattle.heap_rows.specs.Opening.{place_of, with_roots, empty_page}
use Rattle.heap_rows.specs.Roots.{places_from, page_with_roots}
use Rattle.doc_views.specs.Seen.{nodes_seen, Stands}
use Rattle.doc_views.specs.Clear.{IsClear}
use Rattle.doc_views.specs.Came.{IsRuled}
use Rattle.dom_handlers.specs.declared.kinds.EventKind.{EventKind}
use Rattle.dom_handlers.specs.Handlers.{functions_of}
use Rattle.tamed_dom.specs.declared.methods.NodeMethod.{NodeMethod}
use Rattle.tamed_dom.specs.declared.methods.NodeMethod.TheVariants as m
use Rattle.tamed_dom.specs.Lent.{Lent, Held, begun}
use Rattle.tamed_dom.specs.Methods.{node_turn}
use Rattle.node_rows.specs.View.{kind_name, handlers_seen, page_seen, AreSame, listeners}
use Rattle.node_rows.specs.Whole.{IsWhole}

-- the row of a method
abbrev pub of_method : NodeMethod → r.Native
of_method m.GetTagName = r.get_tag_name
of_method m.GetParentNode = r.get_parent_node
of_method m.GetChildNodes = r.get_child_nodes
of_method m.GetElementById = r.get_element_by_id
of_method m.GetAttribute = r.get_attribute
of_method m.SetAttribute = r.set_attribute
of_method m.GetText = r.get_text
of_method m.SetText = r.set_text
of_method m.CreateElement = r.create_element
of_method m.CreateTextNode = r.create_text_node
of_method m.AppendChild = r.append_child
of_method m.RemoveChild = r.remove_child
of_method m.On = r.on

-- the line of a change, as a row tells it
abbrev pub line_told : deeds.Change → Told
line_told (line.Append root p c) = changed_node root p (appends c)
line_told (line.Remove root p c) = changed_node root p (removes c)
line_told (line.Set root n name v) = changed_node root n (sets_attribute name v)
line_told (line.Text root n us) = changed_node root n (sets_text us)

abbrev pub lines_told : Option deeds.Change → List Told
lines_told None = []
lines_told (Some c) = line_told c ∷ []

-- what a method comes to is what a row comes to, and what is left is whole
pub record DoesItsRow (cells : ℕ → Value) (queues : ℕ → List Value) (t : Turn Lent) (c : Came) : Type 0 where
  pub reply : c.done.reply ≡ t.reply
  pub heap : c.done.heap ≡ t.heap
  pub items : c.done.items ≡ lines_told t.state.change
  pub page : AreSame c.page (page_seen cells queues t.state)
  pub whole : IsWhole t.state

-- with whatever receiver and arguments
abbrev pub NodeMethodsDoTheirRows : Type 0
NodeMethodsDoTheirRows = (a : Answers) (rules : Rules) (method : NodeMethod) (by : ℕ) (this : Value) (args : List Value) (h : Objects) (z : Lent) (cells : ℕ → Value) (queues : ℕ → List Value) → IsRuled a rules → IsWhole z
    → DoesItsRow cells queues (node_turn a method by this args h z) (does place_of by (row_of rules (of_method method) (suc (length args))) (this ∷ args) h (page_seen cells queues z) [])

-- the nodes of each root, in the order of the roots
abbrev pub roots_seen : Doc → List (List Node)
roots_seen d = map (nodes_seen d) (places_from 0 (length d.roots))

-- where a page begins
pub record BeginsSeen (d : Doc) (h : Objects) (b : Held) : Type 0 where
  pub heap : b.heap ≡ with_roots 0 (roots_seen d) h
  pub page : AreSame (page_with_roots 0 (length h.list) (roots_seen d) empty_page) (page_seen empty_page.cells empty_page.queues b.lent)
  pub whole : IsWhole b.lent

abbrev pub PageBeginsSeen : Type 0
PageBeginsSeen = (d : Doc) (h : Objects) → Reached d → IsClear d → BeginsSeen d h (begun (length d.roots) d h)

-- another document in the place of the one that is lent
abbrev pub with_document : Doc → Lent → Lent
with_document d z = record { doc = d; facets = z.facets; handlers = z.handlers; change = z.change }

-- other nodes of a root
abbrev pub with_nodes : ℕ → List Node → Page → Page
with_nodes root ns g = record { cells = g.cells; queues = g.queues; nodes = with_of root ns g.nodes; facets = g.facets; handlers = g.handlers }

-- a text stands in an element
abbrev pub InputIsSeen : Type 0
InputIsSeen = (z : Lent) (e : Doc) (n root k : ℕ) (tag us : List ℕ) (cells : ℕ → Value) (queues : ℕ → List Value) → IsWhole z → Stands z.doc n root k → ◌≡◌ {A = Option (List ℕ)} (tag_in (row_at z.doc n)) (Some tag)
    → set_attr n (codes "value") us z.doc ≡ Ok e
    → AreSame (with_nodes root (changed (sets_attribute (codes "value") us) k (nodes_seen z.doc root)) (page_seen cells queues z)) (page_seen cells queues (with_document e z)) × IsWhole (with_document e z)

-- what is called when something happens to a node of a root
abbrev pub ListenersAreSeen : Type 0
ListenersAreSeen = (z : Lent) (kind : EventKind) (n root k : ℕ) → IsWhole z → Stands z.doc n root k → functions_of kind n z.handlers ≡ listeners k (kind_name kind) (handlers_seen z.doc z.handlers root)
