-- What each method of a node does: the receiver is the node n of the document d.
use Rattle.std.specs.Prelude.{ℕ, Bool, false, not, ◌||◌, List, [], ◌∷◌, ◌++◌, Option, Some, None, Result, Ok, Err, length, codes, if◌then◌else◌}
use Rattle.caja_units.specs.Units.{same_units}
use Rattle.html_grammar.specs.Tables.{is_in, void}
use Rattle.html_kept.specs.Table.{Answers, listed, attr_value}
use Rattle.doc_nodes.specs.declared.node.DocError.{DocError}
use Rattle.doc_nodes.specs.declared.node.NewNode.{NewNode}
use Rattle.doc_nodes.specs.declared.node.NewNode.TheVariants.{Element, Text}
use Rattle.doc_nodes.specs.Rows.{Doc, row_at, children_in, owner_of, tag_in, text_in, attr_in, parent_of, is_value, is_granted, is_at_or_above, same_root}
use Rattle.doc_nodes.specs.Changes.{create, moved, taken, is_child, set_attr, set_text, root_in}
use Rattle.node_deeds.specs.declared.told.Refusal.{Refusal}
use Rattle.node_deeds.specs.declared.told.Refusal.TheVariants.{BadArgument, OtherRoot, NotAllowed, Cycle}
use Rattle.node_deeds.specs.declared.told.Change.{Change}
use Rattle.node_deeds.specs.declared.told.Change.TheVariants as line
use Rattle.node_deeds.specs.declared.deeds.Asked.{Asked}
use Rattle.node_deeds.specs.declared.deeds.Asked.TheVariants as asked
use Rattle.node_deeds.specs.Told.{Told, told_undefined, told_null, told_argument, told_text, told_node, told_nodes, told_error, Deed}
use Rattle.node_deeds.specs.Walk.{at_and_below}

abbrev pub tells : Told → Doc → Deed
tells t d = record { told = t; doc = d; change = None }

abbrev pub refuses : Refusal → Doc → Deed
refuses e d = tells (told_error e) d

abbrev pub told_or_null : {A : Type 0} → (A → Told) → Option A → Told
told_or_null f None = told_null
told_or_null f (Some x) = f x

-- getTagName()
abbrev pub tag_or_text : Option (List ℕ) → List ℕ
tag_or_text None = codes "#text"
tag_or_text (Some tag) = tag

abbrev pub get_tag_name : ℕ → Doc → Deed
get_tag_name n d = tells (told_text (tag_or_text (tag_in (row_at d n)))) d

-- getParentNode(): what is above a granted root is nothing
abbrev pub lent_parent : Doc → ℕ → Option ℕ
lent_parent d n = if is_granted (owner_of d n) then None else parent_of d n

abbrev pub get_parent_node : ℕ → Doc → Deed
get_parent_node n d = tells (told_or_null told_node (lent_parent d n)) d

-- getChildNodes()
abbrev pub get_child_nodes : ℕ → Doc → Deed
get_child_nodes n d = tells (told_nodes (children_in (row_at d n))) d

-- getElementById(id)
abbrev pub first_with : List ℕ → Doc → List ℕ → Option ℕ
first_with id d [] = None
first_with id d (n ∷ ns) = if is_value id (attr_in (row_at d n) (codes "id")) then Some n else first_with id d ns

abbrev pub get_element_by_id : List ℕ → ℕ → Doc → Deed
get_element_by_id id n d = tells (told_or_null told_node (first_with id d (at_and_below d n))) d

-- getAttribute(name)
abbrev pub get_attribute : List ℕ → ℕ → Doc → Deed
get_attribute name n d = tells (told_or_null told_text (attr_in (row_at d n) name)) d

-- getText()
abbrev pub text_or_empty : Option (List ℕ) → List ℕ
text_or_empty None = []
text_or_empty (Some us) = us

abbrev pub texts : Doc → List ℕ → List ℕ
texts d [] = []
texts d (n ∷ ns) = text_or_empty (text_in (row_at d n)) ++ texts d ns

abbrev pub get_text : ℕ → Doc → Deed
get_text n d = tells (told_text (texts d (at_and_below d n))) d

-- a change, with its line: the root, and the node's number there
abbrev pub changes : (ℕ → ℕ → Change) → Told → Option (ℕ × ℕ) → Doc → Deed
changes line t None d = tells t d
changes line t (Some o) d = record { told = t; doc = d; change = Some (line o.0 o.1) }

-- a change of a node of the document, which nothing refuses
abbrev pub changed : Result Doc DocError → Doc → Doc
changed (Ok e) d = e
changed (Err x) d = d

-- setAttribute(name, value): an element's, no id, and what the table lets it have; the value is the table's
abbrev pub attribute_set : List ℕ → Option (List ℕ) → ℕ → Doc → Deed
attribute_set name None n d = refuses NotAllowed d
attribute_set name (Some v) n d = changes (λ r k. line.Set r k name v) told_undefined (owner_of d n) (changed (set_attr n name v d) d)

abbrev pub value_for : Answers → List ℕ → List ℕ → Option (List ℕ) → Option (List ℕ)
value_for a name v None = None
value_for a name v (Some tag) = if same_units name (codes "id") then None else attr_value a tag name v

abbrev pub set_attribute : Answers → List ℕ → List ℕ → ℕ → Doc → Deed
set_attribute a name v n d = attribute_set name (value_for a name v (tag_in (row_at d n))) n d

-- setText(text)
abbrev pub is_void : Option (List ℕ) → Bool
is_void None = false
is_void (Some tag) = is_in void tag

abbrev pub set_text_of : List ℕ → ℕ → Doc → Deed
set_text_of us n d =
    if is_void (tag_in (row_at d n)) then refuses NotAllowed d
    else changes (λ r k. line.Text r k us) told_undefined (owner_of d n) (changed (set_text n us d) d)

-- a new node of the receiver's root, detached
abbrev pub created : Option ℕ → NewNode → Doc → Deed
created None c d = refuses NotAllowed d
created (Some root) c d = tells (told_node (length d.rows)) (create root c d)

-- createElement(tag), createTextNode(text)
abbrev pub create_element : List ℕ → ℕ → Doc → Deed
create_element tag n d = if is_in listed tag then created (root_in (owner_of d n)) (Element tag) d else refuses NotAllowed d

abbrev pub create_text_node : List ℕ → ℕ → Doc → Deed
create_text_node us n d = created (root_in (owner_of d n)) (Text us) d

-- appendChild(c)
abbrev pub takes_children : Option (List ℕ) → Bool
takes_children None = false
takes_children (Some tag) = not (is_in void tag)

-- why a child isn't appended, the first cause
abbrev pub child_refused : Doc → ℕ → ℕ → Option Refusal
child_refused d n c =
    if not (same_root (owner_of d n) (owner_of d c)) then Some OtherRoot
    else if is_granted (owner_of d c) || not (takes_children (tag_in (row_at d n))) then Some NotAllowed
    else if is_at_or_above d c n then Some Cycle
    else None

abbrev pub number_in : Option (ℕ × ℕ) → ℕ
number_in None = 0
number_in (Some o) = o.1

abbrev pub unless : Option Refusal → Doc → Deed → Deed
unless None d e = e
unless (Some x) d e = refuses x d

abbrev pub append_child : ℕ → ℕ → Doc → Deed
append_child c n d = unless (child_refused d n c) d (changes (λ r k. line.Append r k (number_in (owner_of d c))) told_argument (owner_of d n) (moved n c d))

-- removeChild(c)
abbrev pub remove_child : ℕ → ℕ → Doc → Deed
remove_child c n d = if is_child d n c then changes (λ r k. line.Remove r k (number_in (owner_of d c))) told_argument (owner_of d n) (taken n c d) else refuses BadArgument d

-- what is asked of a node
abbrev pub deed : Answers → Asked → ℕ → Doc → Deed
deed a asked.TagName n d = get_tag_name n d
deed a asked.ParentNode n d = get_parent_node n d
deed a asked.ChildNodes n d = get_child_nodes n d
deed a (asked.ElementById id) n d = get_element_by_id id n d
deed a (asked.Attribute name) n d = get_attribute name n d
deed a (asked.SetAttribute name v) n d = set_attribute a name v n d
deed a asked.Text n d = get_text n d
deed a (asked.SetText us) n d = set_text_of us n d
deed a (asked.CreateElement tag) n d = create_element tag n d
deed a (asked.CreateTextNode us) n d = create_text_node us n d
deed a (asked.AppendChild c) n d = append_child c n d
deed a (asked.RemoveChild c) n d = remove_child c n d
