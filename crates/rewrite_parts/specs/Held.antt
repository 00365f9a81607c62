-- What is written to: a variable, or a member whose parts are worked out where it is written to or are held in temporaries.
use Rattle.std.specs.Prelude.{ℕ, Bool, true, false, List, Some, None, codes}
use Rattle.es3_tree.specs.declared.BinOp.{BinOp}
use Rattle.es3_tree.specs.declared.UnOp.TheVariants as un
use Rattle.es3_tree.specs.Tree as t
use Rattle.es3_tree.specs.Tree.{Tree}
use Rattle.es3_tree.specs.View.{expr}
use Rattle.rewrite_parts.specs.declared.held.Place.{Place}
use Rattle.rewrite_parts.specs.declared.held.Place.TheVariants as place
use Rattle.rewrite_parts.specs.declared.held.HeldKey.{HeldKey}
use Rattle.rewrite_parts.specs.declared.held.HeldKey.TheVariants.{Fixed, Temporary}
use Rattle.rewrite_parts.specs.declared.held.HeldPlace.{HeldPlace}
use Rattle.rewrite_parts.specs.declared.held.HeldPlace.TheVariants as held_place
use Rattle.rewrite_parts.specs.Parts.{runtime_call, pair, triple, temp, set_temp, by_one}

-- a variable by its name, or a member by its object and its key; a value assigned to it
pub data PlaceForm : Type 0 where
  variable : List ℕ → PlaceForm
  member : Tree t.expr → Tree t.expr → PlaceForm

abbrev pub place_form : Place → PlaceForm
place_form (place.Variable x) = variable x.text
place_form (place.Member o k) = member (expr o) (expr k)

abbrev pub assigned : PlaceForm → Tree t.expr → Tree t.expr
assigned (variable x) v = t.assign None (t.name x) v
assigned (member o k) v = runtime_call (codes "setPub") (triple o k v)

-- a member that is held: the assignments that hold it, the temporary of its object, its key, and the first temporary behind them
pub data HeldForm : Type 0 where
  held_variable : List ℕ → HeldForm
  held_member : Tree t.expr → ℕ → Tree t.expr → ℕ → HeldForm

abbrev pub held_key : HeldKey → Tree t.expr
held_key (Fixed k) = t.text k
held_key (Temporary i) = temp i

abbrev pub held_form : HeldPlace → HeldForm
held_form (held_place.Variable x) = held_variable x.text
held_form (held_place.Member h) = held_member (expr h.holding) h.object (held_key h.key) h.next

-- what a held member is, and a value written to it
abbrev pub held_read : ℕ → Tree t.expr → Tree t.expr
held_read o k = runtime_call (codes "readPub") (pair (temp o) k)

abbrev pub held_write : ℕ → Tree t.expr → Tree t.expr → Tree t.expr
held_write o k v = runtime_call (codes "setPub") (triple (temp o) k v)

-- `++` or `--` of it, before it or behind it, and an assignment with an operator
abbrev pub stepped : Bool → Bool → HeldForm → Tree t.expr
stepped up before (held_variable x) = t.step up before (t.name x)
stepped up true (held_member holding o k i) = t.comma holding (held_write o k (by_one up (t.unary un.Plus (held_read o k))))
stepped up false (held_member holding o k i) =
    t.comma (t.comma (t.comma holding (set_temp i (t.unary un.Plus (held_read o k)))) (held_write o k (by_one up (temp i)))) (temp i)

abbrev pub compounded : BinOp → HeldForm → Tree t.expr → Tree t.expr
compounded op (held_variable x) v = t.assign (Some op) (t.name x) v
compounded op (held_member holding o k i) v = t.comma holding (held_write o k (t.binary op (held_read o k) v))
