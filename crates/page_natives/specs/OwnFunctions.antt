-- The functions of a module and of a cell beside the rows that they have among objects: there the function itself stands in the place of the receiver, and is known by
-- its name.
use Rattle.std.specs.Prelude.{◌≡◌, ℕ, suc, Bool, true, false, List, ◌∷◌, [], ◌++◌, length, Some}
use Rattle.es3_objects.specs.declared.value.Value.{Value}
use Rattle.es3_objects.specs.declared.value.Tag.{Tag}
use Rattle.es3_heap.specs.Objects.{Objects}
use Rattle.rows.specs.Rows.{Native, Sort, exophoric, of_node}
use Rattle.rows.specs.Names.{sort_of}
use Rattle.rows.specs.Nodes.{Rules}
use Rattle.rows.specs.Table.{row_of}
use Rattle.heap_rows.specs.Natives.{number_of, is_common}
use Rattle.heap_rows.specs.Doing.{Done, Came, named, does}
use Rattle.heap_rows.specs.Opening.{place_of}
use Rattle.row_outcomes.specs.Comes.{row_done}
use Rattle.page_natives.specs.declared.natives.Callee.{Callee}
use Rattle.page_natives.specs.Answered.{turn_of}
use Rattle.page_natives.specs.Natives.{Kept, page_of, callee_of, done_by, kept_by, turn_by}

-- a row came to what a callee comes to: the same answer and objects; what was told grows by the row's items; the cells, the queues and the nodes are the same afterwards
pub record IsKept (came : Came) (d : Done) (z kept : Kept) : Type 0 where
  pub reply : came.done.reply ≡ d.reply
  pub heap : came.done.heap ≡ d.heap
  pub told : kept.told ≡ z.told ++ came.done.items
  pub cells : (cell : ℕ) → came.page.cells cell ≡ (page_of kept).cells cell
  pub queues : (m : ℕ) → came.page.queues m ≡ (page_of kept).queues m
  pub nodes : (root : ℕ) → came.page.nodes root ≡ (page_of kept).nodes root
  pub facets : (root : ℕ) → came.page.facets root ≡ (page_of kept).facets root
  pub handlers : (root : ℕ) → came.page.handlers root ≡ (page_of kept).handlers root
  pub runtime : kept.runtime ≡ z.runtime
  pub imports : kept.imports ≡ z.imports
  pub touching : kept.touching ≡ z.touching
  pub answers : kept.answers ≡ z.answers

-- a callee does what its row does, for a function of this name
abbrev pub DoesItsRow : Callee → Native → Tag → Type 0
DoesItsRow callee f name =
    (rules : Rules) (by : ℕ) (this self : Value) (args : List Value) (h : Objects) (z : Kept) → named h self ≡ name
    → IsKept (does place_of by (row_of rules f (suc (length args))) (self ∷ args) h (page_of z) []) (done_by callee by this args h z) z (kept_by callee by this args h z)

-- the function of a module or of a cell has its number
abbrev pub HasItsNumber : Callee → ℕ → Type 0
HasItsNumber callee n = callee_of n ≡ Some callee

-- the methods of nodes
abbrev pub is_of_node : Native → Bool
is_of_node f = is_for_nodes (sort_of f)
  where
    is_for_nodes : Sort → Bool
    is_for_nodes (exophoric of_node) = true
    is_for_nodes s = false

-- a built-in function that a page has from its beginning, and that is no method of nodes, comes to its row, by its number
abbrev pub BuiltInsDoTheirRows : Type 0
BuiltInsDoTheirRows = (f : Native) → is_common f ≡ true → is_of_node f ≡ false → (by : ℕ) (this : Value) (args : List Value) (h : Objects) (z : Kept)
    → turn_by (callee_of (number_of f)) by this args h z ≡ turn_of (row_done f by this args h) z
