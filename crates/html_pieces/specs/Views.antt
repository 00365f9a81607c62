-- What the program's tags are in the definition.
use Rattle.std.specs.Prelude.{ℕ, ◌+◌, ◌<◌, ◌^◌, List, Option, Some, None, map}
use Rattle.html_grammar.specs.Tags as t
use Rattle.html_tree.specs.declared.Attr.{Attr}
use Rattle.html_tree.specs.Views.{attr_of, attrs_of}
use Rattle.html_grammar.specs.Point as p
use Rattle.html_pieces.specs.declared.piece.Kind.{Kind}
use Rattle.html_pieces.specs.declared.piece.Kind.TheVariants as k
use Rattle.html_pieces.specs.declared.piece.Refusal.{Refusal}
use Rattle.html_pieces.specs.declared.piece.Refusal.TheVariants as r
use Rattle.html_pieces.specs.declared.piece.Fault.{Fault}
use Rattle.html_pieces.specs.declared.piece.Part.{Part}
use Rattle.html_pieces.specs.declared.piece.Part.TheVariants as q
use Rattle.html_pieces.specs.declared.piece.Inside.{Inside}
use Rattle.html_pieces.specs.declared.piece.Inside.TheVariants as i
use Rattle.html_pieces.specs.declared.piece.Step.{Step}
use Rattle.html_pieces.specs.declared.piece.Step.TheVariants as s

abbrev pub names_of : List Attr → List (List ℕ)
names_of xs = map (λ a. a.name) xs

abbrev pub kind_of : Kind → t.Kind
kind_of k.Element = t.begins_element
kind_of k.Void = t.begins_void
kind_of k.End = t.ends_element

abbrev pub refusal_of : Refusal → t.Refusal
refusal_of r.OpenTag = t.open_tag
refusal_of r.Mismatch = t.mismatch
refusal_of r.BadReference = t.bad_reference
refusal_of r.BadAttr = t.bad_attr
refusal_of r.TooDeep = t.too_deep

abbrev pub fault_of : Option Fault → Option t.Fault
fault_of None = None
fault_of (Some f) = Some (refusal_of f.refusal, f.behind)

abbrev pub IsPlace : ℕ → Option ℕ → Type 0
IsPlace i None = Unit {0}
IsPlace i (Some k) = i + k < 2 ^ 64

abbrev pub part_of : Part → t.Part
part_of (q.Close n) = t.close n
part_of q.Gap = t.gap
part_of (q.Attr a u n) = t.attr (attr_of a) u n
part_of q.Wrong = t.wrong
part_of q.Unclosed = t.unclosed

abbrev pub inside_of : Inside → t.Inside
inside_of (i.Closed xs f n) = t.closed (attrs_of xs.items) (fault_of f) n
inside_of i.Endless = t.endless

abbrev pub step_of : Step → p.Step
step_of (s.Text us n) = p.text us n
step_of (s.Skip n) = p.skip n
step_of (s.Start n xs f k) = p.start n (attrs_of xs.items) (fault_of f) k
step_of (s.End n f k) = p.end n (fault_of f) k
step_of (s.Refuse r k) = p.refuse (refusal_of r) k
