-- What each method of a node comes to by the rows: the receiver is the node k among the nodes ns of its root.
use Rattle.std.specs.Prelude.{◌≡◌, ◌≢◌, ℕ, Bool, not, ◌||◌, List, [], ◌∷◌, ◌++◌, Option, Some, None, length, nat_eq, codes, if◌then◌else◌}
use Rattle.caja_units.specs.Units.{same_units}
use Rattle.html_grammar.specs.Tables as tables
use Rattle.html_grammar.specs.Tables.{void}
use Rattle.html_kept.specs.Table.{Answers, listed, attr_value}
use Rattle.doc_nodes.specs.Rows.{Doc, owner_of}
use Rattle.doc_laws.specs.Reached.{Reached}
use Rattle.node_deeds.specs.declared.told.Refusal.{Refusal}
use Rattle.node_deeds.specs.declared.told.Change as deeds
use Rattle.node_deeds.specs.declared.told.Change.TheVariants as line
use Rattle.node_deeds.specs.declared.deeds.Asked.{Asked}
use Rattle.node_deeds.specs.declared.deeds.Asked.TheVariants as asked
use Rattle.node_deeds.specs.Told.{Told, told_undefined, told_null, told_argument, told_text, told_node, told_nodes, told_error, message_of, Deed}
use Rattle.node_deeds.specs.Deeds.{deed}
use Rattle.deed_laws.specs.Deeds.{children_given, AreThere}
use Rattle.rows.specs.Document.{Node, Change, sets_attribute, sets_text, appends, removes, changed, node_at, is_text, below, at_and_above, text_of, attribute, text_node, element}
use Rattle.rows.specs.Nodes.{Rules, is_in}
use Rattle.doc_views.specs.Seen.{nodes_seen, Stands, AllStand, first_of}
use Rattle.doc_views.specs.Clear.{IsClear}

-- the rules of the rows are the tables of the document
pub record IsRuled (a : Answers) (rules : Rules) : Type 0 where
  pub cleaned : (tag name v : List ℕ) → ◌≡◌ {A = Option (List ℕ)} (rules.cleaned tag name v) (attr_value a tag name v)
  pub listed_tags : (tag : List ℕ) → rules.listed tag ≡ tables.is_in listed tag
  pub no_content : (tag : List ℕ) → rules.no_content tag ≡ tables.is_in void tag

pub data Came : Type 0 where
  came_null : Came
  came_text : List ℕ → Came
  -- nodes of the root, by their numbers
  came_node : ℕ → Came
  came_nodes : List ℕ → Came
  -- a message
  came_refused : List ℕ → Came
  -- the receiver changes; setters answer nothing, and the others their argument
  came_changed : Change → Came
  -- a new node of the root, which is answered
  came_added : Node → Came

abbrev pub came_or_null : {A : Type 0} → (A → Came) → Option A → Came
came_or_null f None = came_null
came_or_null f (Some x) = f x

abbrev pub came_when : Bool → List ℕ → Came → Came
came_when b message next = if b then came_refused message else next

abbrev pub came_cleaned : List ℕ → Option (List ℕ) → Came
came_cleaned name None = came_refused (codes "not allowed")
came_cleaned name (Some v) = came_changed (sets_attribute name v)

-- the number of a node in the root, where it is of it
abbrev pub in_root : ℕ → Option (ℕ × ℕ) → Option ℕ
in_root r None = None
in_root r (Some o) = if nat_eq o.0 r then Some o.1 else None

abbrev pub came_appended : Rules → List Node → ℕ → Option ℕ → Came
came_appended rules ns k None = came_refused (codes "other root")
came_appended rules ns k (Some j) =
    let o = node_at ns k in
    came_when (nat_eq j 0 || is_text o || rules.no_content o.tag) (codes "not allowed") (came_when (is_in j (at_and_above (length ns) ns k)) (codes "cycle") (came_changed (appends j)))

abbrev pub came_removed : List Node → ℕ → Option ℕ → Came
came_removed ns k None = came_refused (codes "bad argument")
came_removed ns k (Some j) = came_when (not (is_in j (node_at ns k).children)) (codes "bad argument") (came_changed (removes j))

-- what is asked of the node k, with the number of the child that is given, where it is of the root
abbrev pub came : Rules → List Node → ℕ → Option ℕ → Asked → Came
came rules ns k c asked.TagName = came_text (node_at ns k).tag
came rules ns k c asked.ParentNode = came_or_null came_node (node_at ns k).parent
came rules ns k c asked.ChildNodes = came_nodes (node_at ns k).children
came rules ns k c (asked.ElementById id) = came_or_null came_node (first_of id ns (below ns k))
came rules ns k c (asked.Attribute name) = came_or_null came_text (attribute name (node_at ns k).attributes)
came rules ns k c (asked.SetAttribute name v) =
    let o = node_at ns k in
    came_when (is_text o || same_units name (codes "id")) (codes "not allowed") (came_cleaned name (rules.cleaned o.tag name v))
came rules ns k c asked.Text = came_text (text_of ns k)
came rules ns k c (asked.SetText us) = came_when (rules.no_content (node_at ns k).tag) (codes "not allowed") (came_changed (sets_text us))
came rules ns k c (asked.CreateElement tag) = came_when (not (rules.listed tag)) (codes "not allowed") (came_added (element tag))
came rules ns k c (asked.CreateTextNode us) = came_added (text_node us)
came rules ns k c (asked.AppendChild m) = came_appended rules ns k c
came rules ns k c (asked.RemoveChild m) = came_removed ns k c

-- the number of the child that is given
abbrev pub given : ℕ → Doc → Asked → Option ℕ
given r d (asked.AppendChild c) = in_root r (owner_of d c)
given r d (asked.RemoveChild c) = in_root r (owner_of d c)
given r d q = None

-- what is asked of the node k of the root r of the document d
abbrev pub came_at : Rules → ℕ → ℕ → Doc → Asked → Came
came_at rules r k d q = came rules (nodes_seen d r) k (given r d q) q

abbrev pub answer_of : Change → Told
answer_of (sets_attribute name v) = told_undefined
answer_of (sets_text us) = told_undefined
answer_of (appends j) = told_argument
answer_of (removes j) = told_argument

abbrev pub line_of : ℕ → ℕ → Change → deeds.Change
line_of r k (sets_attribute name v) = line.Set r k name v
line_of r k (sets_text us) = line.Text r k us
line_of r k (appends j) = line.Append r k j
line_of r k (removes j) = line.Remove r k j

-- nothing changes
abbrev pub IsQuiet : Doc → Deed → Type 0
IsQuiet d e = (e.doc ≡ d) × (◌≡◌ {A = Option deeds.Change} e.change None)

-- a deed is what a row comes to: it tells the same, and the nodes of the root become the same
abbrev pub IsCame : ℕ → ℕ → Doc → Deed → Came → Type 0
IsCame r k d e came_null = (e.told ≡ told_null) × IsQuiet d e
IsCame r k d e (came_text us) = (e.told ≡ told_text us) × IsQuiet d e
IsCame r k d e (came_node j) = (m : ℕ) × (e.told ≡ told_node m) × Stands d m r j × IsQuiet d e
IsCame r k d e (came_nodes js) = (ms : List ℕ) × (e.told ≡ told_nodes ms) × AllStand d r ms js × IsQuiet d e
IsCame r k d e (came_refused us) = (x : Refusal) × (e.told ≡ told_error x) × (message_of x ≡ us) × IsQuiet d e
IsCame r k d e (came_changed c) = (e.told ≡ answer_of c) × (◌≡◌ {A = Option deeds.Change} e.change (Some (line_of r k c))) × (nodes_seen e.doc r ≡ changed c k (nodes_seen d r))
IsCame r k d e (came_added o) = (e.told ≡ told_node (length d.rows)) × (◌≡◌ {A = Option deeds.Change} e.change None) × Stands e.doc (length d.rows) r (length (nodes_seen d r)) × (nodes_seen e.doc r ≡ nodes_seen d r ++ o ∷ [])

pub record IsSeen (rules : Rules) (q : Asked) (r k : ℕ) (d : Doc) (e : Deed) : Type 0 where
  pub comes : IsCame r k d e (came_at rules r k d q)
  pub others : (s : ℕ) → s ≢ r → nodes_seen e.doc s ≡ nodes_seen d s
  pub clear : IsClear e.doc

-- what is done at a node of a root by the document is what is done by the nodes of the root
abbrev pub DeedsAreSeen : Type 0
DeedsAreSeen = (a : Answers) (rules : Rules) (q : Asked) (n r k : ℕ) (d : Doc) → IsRuled a rules → Reached d → IsClear d → Stands d n r k → AreThere d (children_given q) → IsSeen rules q r k d (deed a q n d)
