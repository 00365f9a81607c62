-- The rows of a node's methods: what is left of each when its receiver is seen and its arguments are taken is what it comes to.
use Rattle.std.specs.Prelude.{◌≡◌, ℕ, ◌+◌, Bool, true, false, not, ◌||◌, ◌&&◌, List, ◌++◌, Option, Some, None, length, slice_get, nat_eq, codes, if◌then◌else◌}
use Rattle.caja_units.specs.Units.{same_units}
use Rattle.node_deeds.specs.declared.deeds.Asked.{Asked}
use Rattle.node_deeds.specs.declared.deeds.Asked.TheVariants as asked
use Rattle.rows.specs.Rows.{Handle, undefined, null, text, held, Branch, answers, throws, makes_array, changes_node, adds_node, Row, ends, settles, as_text, as_same_root, handles}
use Rattle.rows.specs.Document.{Node, Change, sets_attribute, sets_text, appends, removes, attribute, text_node, element}
use Rattle.rows.specs.Arguments.{argument}
use Rattle.rows.specs.Branches.{branch, around}
use Rattle.rows.specs.Nodes as rows
use Rattle.rows.specs.Nodes.{Rules, refused, when, on_node, node_argument, is_text, is_in, text_or_null, first_or_null, of_id, set_cleaned}
use Rattle.doc_views.specs.Came.{Came, came_null, came_text, came_node, came_nodes, came_refused, came_changed, came_added, came}

-- a method gets n values; b is what is seen of its receiver, c of a child that is given with it, and whether that one is of the same root
abbrev pub last : Rules → ℕ → Asked → Bool → Branch → Branch → Row
last rules n asked.TagName same c b = ends (answers (text b.tag))
last rules n asked.ParentNode same c b = ends (answers (first_or_null b.parent))
last rules n asked.ChildNodes same c b = ends (makes_array false b.children)
last rules n (asked.ElementById id) same c b = ends (answers (of_id id b.below))
last rules n (asked.Attribute name) same c b = ends (answers (text_or_null (attribute name b.attributes)))
last rules n (asked.SetAttribute name v) same c b = when (is_text b || same_units name (codes "id")) (codes "not allowed") (set_cleaned name (rules.cleaned b.tag name v))
last rules n asked.Text same c b = ends (answers (text b.text))
last rules n (asked.SetText us) same c b = when (rules.no_content b.tag) (codes "not allowed") (settles (changes_node (held 0) (sets_text us) undefined))
last rules n (asked.CreateElement tag) same c b = when (not (rules.listed tag)) (codes "not allowed") (settles (adds_node (held 0) (element tag)))
last rules n (asked.CreateTextNode us) same c b = settles (adds_node (held 0) (text_node us))
last rules n (asked.AppendChild m) same c b =
    when (not same) (codes "other root")
    (when (nat_eq c.number 0 || is_text b || rules.no_content b.tag) (codes "not allowed")
    (when (is_in c.number b.above) (codes "cycle")
    (settles (changes_node (held 0) (appends c.number) (argument 0 n)))))
last rules n (asked.RemoveChild m) same c b = when (not (same && is_in c.number b.numbers)) (codes "bad argument") (settles (changes_node (held 0) (removes c.number) (argument 0 n)))

-- each row sees its receiver, takes its arguments, and then does this
pub record RowsEndSo (rules : Rules) (n m : ℕ) : Type 0 where
  pub tag_name : rows.get_tag_name ≡ on_node (λ b. last rules n asked.TagName true b b)
  pub parent_node : rows.get_parent_node ≡ on_node (λ b. last rules n asked.ParentNode true b b)
  pub child_nodes : rows.get_child_nodes ≡ on_node (λ b. last rules n asked.ChildNodes true b b)
  pub element_by_id : rows.get_element_by_id n ≡ on_node (λ b. as_text (argument 0 n) (λ id. last rules n (asked.ElementById id) true b b))
  pub attribute : rows.get_attribute n ≡ on_node (λ b. as_text (argument 0 n) (λ name. last rules n (asked.Attribute name) true b b))
  pub set_attribute : rows.set_attribute rules n ≡ on_node (λ b. as_text (argument 0 n) (λ name. as_text (argument 1 n) (λ v. last rules n (asked.SetAttribute name v) true b b)))
  pub text : rows.get_text ≡ on_node (λ b. last rules n asked.Text true b b)
  pub set_text : rows.set_text rules n ≡ on_node (λ b. as_text (argument 0 n) (λ us. last rules n (asked.SetText us) true b b))
  pub create_element : rows.create_element rules n ≡ on_node (λ b. as_text (argument 0 n) (λ tag. last rules n (asked.CreateElement tag) true b b))
  pub create_text_node : rows.create_text_node n ≡ on_node (λ b. as_text (argument 0 n) (λ us. last rules n (asked.CreateTextNode us) true b b))
  pub append_child : rows.append_child rules n ≡ on_node (λ b. node_argument (argument 0 n) (λ c. as_same_root (held 0) (argument 0 n) (λ same. last rules n (asked.AppendChild m) same c b)))
  pub remove_child : rows.remove_child n ≡ on_node (λ b. node_argument (argument 0 n) (λ c. as_same_root (held 0) (argument 0 n) (λ same. last rules n (asked.RemoveChild m) same c b)))

-- a setter answers nothing, and the others their argument
abbrev pub answer_handle : ℕ → Change → Handle
answer_handle n (sets_attribute name v) = undefined
answer_handle n (sets_text us) = undefined
answer_handle n (appends j) = argument 0 n
answer_handle n (removes j) = argument 0 n

-- h values are in hand before those of the nodes around the receiver. A node is answered by its handle, and several by theirs
abbrev pub IsRow : ℕ → ℕ → List Node → ℕ → Came → Row → Type 0
IsRow n h ns k came_null x = x ≡ ends (answers null)
IsRow n h ns k (came_text us) x = x ≡ ends (answers (text us))
IsRow n h ns k (came_node j) x = (i : ℕ) × (◌≡◌ {A = Option ℕ} (slice_get (around ns k) i) (Some j)) × (x ≡ ends (answers (held (h + i))))
IsRow n h ns k (came_nodes js) x = (front : List ℕ) × (back : List ℕ) × (around ns k ≡ front ++ (js ++ back)) × (x ≡ ends (makes_array false (handles (h + length front) js)))
IsRow n h ns k (came_refused us) x = x ≡ ends (throws us)
IsRow n h ns k (came_changed c) x = x ≡ settles (changes_node (held 0) c (answer_handle n c))
IsRow n h ns k (came_added o) x = x ≡ settles (adds_node (held 0) o)

-- the child is seen by its number, where it is of the same root
abbrev pub RowsCome : Type 0
RowsCome = (rules : Rules) (n h : ℕ) (ns : List Node) (k : ℕ) (q : Asked) (same : Bool) (c : Branch) → IsRow n h ns k (came rules ns k (if same then Some c.number else None) q) (last rules n q same c (branch h k ns))

abbrev pub RowsEnd : Type 0
RowsEnd = (rules : Rules) (n m : ℕ) → RowsEndSo rules n m
