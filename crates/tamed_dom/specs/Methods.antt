-- The methods of nodes among objects: the receiver, then what is taken of the arguments, then the deed on the document, and what is told of it as a value.
use Rattle.std.specs.Prelude.{ℕ, Bool, true, false, List, Option, Some, None, Result, Ok, Err, length, option_map, codes, if◌then◌else◌}
use Rattle.plans.specs.Plans.{Fault}
use Rattle.es3_objects.specs.declared.value.Value.{Value}
use Rattle.es3_objects.specs.declared.value.Value.TheVariants as v
use Rattle.es3_heap.specs.Objects.{Objects}
use Rattle.es3_convert.specs.Conversions.{and_then, text_of}
use Rattle.es3_language.specs.Natives.{Turn}
use Rattle.row_outcomes.specs.Arguments.{argument}
use Rattle.row_outcomes.specs.Arrays.{new_array}
use Rattle.guard_marks.specs.Closures.{is_closure}
use Rattle.html_kept.specs.Table.{Answers}
use Rattle.doc_nodes.specs.Rows.{Doc}
use Rattle.node_deeds.specs.declared.deeds.Asked.{Asked}
use Rattle.node_deeds.specs.declared.deeds.Asked.TheVariants as asked
use Rattle.node_deeds.specs.Told.{Told, told_undefined, told_null, told_argument, told_text, told_node, told_nodes, told_error, message_of, Deed}
use Rattle.node_deeds.specs.Deeds.{deed}
use Rattle.dom_facets.specs.Facets as facets
use Rattle.dom_facets.specs.Facets.{node_of}
use Rattle.dom_handlers.specs.declared.kinds.EventKind.{EventKind}
use Rattle.dom_handlers.specs.Handlers.{kind_of}
use Rattle.tamed_dom.specs.declared.methods.NodeMethod.{NodeMethod}
use Rattle.tamed_dom.specs.declared.methods.NodeMethod.TheVariants as m
use Rattle.tamed_dom.specs.Lent.{Lent, told, with_facets, with_deed, with_handler, Facet, facet, grown}
use Rattle.tamed_dom.specs.Ends.{turn_of, gives, stops, threw}

-- what is told of a deed, as a value; x is the first argument

abbrev pub shown : Facet → Turn Lent
shown f = gives (v.Obj f.object) f.heap f.lent

-- a new array, made by the running module
abbrev pub shown_all : ℕ → facets.Facets → Lent → Turn Lent
shown_all by f z = turn_of (new_array by f.heap f.values) (with_facets f.facets z)

abbrev pub told_turn : Told → Value → ℕ → Objects → Lent → Turn Lent
told_turn told_undefined x by h z = gives v.Undefined h z
told_turn told_null x by h z = gives v.Null h z
told_turn told_argument x by h z = gives x h z
told_turn (told_text us) x by h z = gives (v.Text us) h z
told_turn (told_node n) x by h z = shown (facet n h z)
told_turn (told_nodes ns) x by h z = shown_all by (facets.facets ns z.doc h z.facets) z
told_turn (told_error e) x by h z = threw (message_of e) by h z

-- the node that a deed makes has its object before anything is told
abbrev pub deed_turn : Deed → Value → ℕ → Objects → Lent → Turn Lent
deed_turn e x by h z = let g = grown (length z.doc.rows) h (with_deed e z) in told_turn e.told x by g.heap g.lent

-- what is taken of the arguments: texts are converted from the left; an argument that is to be a node and isn't gives nothing. `on` asks nothing of the document

abbrev pub with_text : (List ℕ → Asked) → Result (List ℕ) Fault → Result (Option Asked) Fault
with_text f t = and_then t (λ us. Ok (Some (f us)))

abbrev pub given : NodeMethod → List Value → Objects → Doc → Result (Option Asked) Fault
given m.GetTagName args h d = Ok (Some asked.TagName)
given m.GetParentNode args h d = Ok (Some asked.ParentNode)
given m.GetChildNodes args h d = Ok (Some asked.ChildNodes)
given m.GetElementById args h d = with_text asked.ElementById (text_of h (argument 0 args))
given m.GetAttribute args h d = with_text asked.Attribute (text_of h (argument 0 args))
given m.SetAttribute args h d = and_then (text_of h (argument 0 args)) (λ name. with_text (asked.SetAttribute name) (text_of h (argument 1 args)))
given m.GetText args h d = Ok (Some asked.Text)
given m.SetText args h d = with_text asked.SetText (text_of h (argument 0 args))
given m.CreateElement args h d = with_text asked.CreateElement (text_of h (argument 0 args))
given m.CreateTextNode args h d = with_text asked.CreateTextNode (text_of h (argument 0 args))
given m.AppendChild args h d = Ok (option_map asked.AppendChild (node_of h d (argument 0 args)))
given m.RemoveChild args h d = Ok (option_map asked.RemoveChild (node_of h d (argument 0 args)))
given m.On args h d = Ok None

-- what is asked of the node n
abbrev pub asked_turn : Answers → Result (Option Asked) Fault → ℕ → Value → ℕ → Objects → Lent → Turn Lent
asked_turn a (Ok (Some q)) n x by h z = deed_turn (deed a q n z.doc) x by h z
asked_turn a (Ok None) n x by h z = threw (codes "bad argument") by h z
asked_turn a (Err f) n x by h z = stops f h z

-- on(k, f)
abbrev pub listens : Option EventKind → Bool → Value → ℕ → ℕ → Objects → Lent → Turn Lent
listens None b f n by h z = threw (codes "bad argument") by h z
listens (Some k) b f n by h z = if b then gives v.Undefined h (with_handler k f n z) else threw (codes "bad argument") by h z

abbrev pub on_turn : Result (List ℕ) Fault → Value → ℕ → ℕ → Objects → Lent → Turn Lent
on_turn (Ok us) f n by h z = listens (kind_of us) (is_closure h f) f n by h z
on_turn (Err e) f n by h z = stops e h z

abbrev pub is_on : NodeMethod → Bool
is_on m.On = true
is_on method = false

abbrev pub method_turn : Answers → NodeMethod → ℕ → List Value → ℕ → Objects → Lent → Turn Lent
method_turn a method n args by h z =
    if is_on method then on_turn (text_of h (argument 0 args)) (argument 1 args) n by h z
    else asked_turn a (given method args h z.doc) n (argument 0 args) by h z

-- a receiver that is no node
abbrev pub received : Answers → NodeMethod → Option ℕ → List Value → ℕ → Objects → Lent → Turn Lent
received a method (Some n) args by h z = method_turn a method n args by h z
received a method None args by h z = threw (codes "bad receiver") by h z

-- a method of a node, called by the running module with a receiver and arguments: the line of an earlier change is gone
abbrev pub node_turn : Answers → NodeMethod → ℕ → Value → List Value → Objects → Lent → Turn Lent
node_turn a method by this args h z = received a method (node_of h z.doc this) args by h (told z)
