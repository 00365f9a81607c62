-- The methods of nodes beside their rows, and what is lent of the document as long as the page runs.
use Rattle.std.specs.Prelude.{◌≡◌, ℕ, suc, List, [], ◌∷◌, length, Some}
use Rattle.es3_objects.specs.declared.value.Value.{Value}
use Rattle.es3_heap.specs.Objects.{Objects}
use Rattle.rows.specs.Nodes.{Rules}
use Rattle.rows.specs.Table.{row_of}
use Rattle.heap_rows.specs.Natives.{number_of}
use Rattle.heap_rows.specs.Doing.{does}
use Rattle.heap_rows.specs.Opening.{place_of}
use Rattle.doc_views.specs.Came.{IsRuled}
use Rattle.tamed_dom.specs.declared.methods.NodeMethod.{NodeMethod}
use Rattle.node_rows.specs.Promises.{of_method}
use Rattle.node_rows.specs.Whole.{IsWhole}
use Rattle.page_natives.specs.declared.natives.Callee.{Callee}
use Rattle.page_natives.specs.declared.natives.Callee.TheVariants as c
use Rattle.page_natives.specs.Natives.{Kept, page_of, callee_of, done_by, kept_by}
use Rattle.page_natives.specs.OwnFunctions.{IsKept}

-- a method of nodes does what its row does, where the rule of the page is that of the rows and what is lent of the document is whole
abbrev pub NodeMethodsDoTheirRows : Type 0
NodeMethodsDoTheirRows = (rules : Rules) (m : NodeMethod) (by : ℕ) (this : Value) (args : List Value) (h : Objects) (z : Kept) → IsRuled z.answers rules → IsWhole z.dom
    → IsKept (does place_of by (row_of rules (of_method m) (suc (length args))) (this ∷ args) h (page_of z) []) (done_by (c.OfNode m) by this args h z) z (kept_by (c.OfNode m) by this args h z)

-- it is called by the number of its row
abbrev pub NodeMethodsHaveTheirNumbers : Type 0
NodeMethodsHaveTheirNumbers = (m : NodeMethod) → callee_of (number_of (of_method m)) ≡ Some (c.OfNode m)

-- whatever is called, what is lent of the document stays whole, and the rule is the same
abbrev pub CalleesKeepWhole : Type 0
CalleesKeepWhole = (rules : Rules) (f : Callee) (by : ℕ) (this : Value) (args : List Value) (h : Objects) (z : Kept) → IsRuled z.answers rules → IsWhole z.dom
    → IsWhole (kept_by f by this args h z).dom × ((kept_by f by this args h z).answers ≡ z.answers)
