-- No node stands above itself, a parent is a node, and the lists of children tell what the parents tell.
use Rattle.std.specs.Prelude.{◌≡◌, ℕ, ◌+◌, ◌<◌, Bool, true, false, List, [], ◌∷◌, Option, Some, None, length, nat_eq, if◌then◌else◌}
use Rattle.doc_nodes.specs.declared.node.Parent.{Parent}
use Rattle.doc_nodes.specs.declared.node.Parent.TheVariants.{Detached, Document, Node}
use Rattle.doc_nodes.specs.Rows.{Doc, row_at, parent_in, children_in, parent_of, is_at_or_above}

-- going up from a node comes to an end
pub data Ends (d : Doc) : ℕ → Type 0 where
  at_top : (n : ℕ) → ◌≡◌ {A = Option ℕ} (parent_of d n) None → Ends d n
  goes_up : (n p : ℕ) → ◌≡◌ {A = Option ℕ} (parent_of d n) (Some p) → Ends d p → Ends d n

-- c is n, or stands above n
pub data Above (d : Doc) (c : ℕ) : ℕ → Type 0 where
  here : (n : ℕ) → c ≡ n → Above d c n
  higher : (n p : ℕ) → ◌≡◌ {A = Option ℕ} (parent_of d n) (Some p) → Above d c p → Above d c n

-- every way up ends, over nodes that there are
pub record Ways (d : Doc) : Type 0 where
  pub ends : (n : ℕ) → Ends d n
  pub within : (n p : ℕ) → ◌≡◌ {A = Option ℕ} (parent_of d n) (Some p) → p < length d.rows

abbrev pub one_if : Bool → ℕ
one_if b = if b then 1 else 0

-- how often a list has a number
abbrev pub times : ℕ → List ℕ → ℕ
times n [] = 0
times n (m ∷ ms) = one_if (nat_eq m n) + times n ms

-- what stands under the document itself, or under a node, in order
abbrev pub list_at : Doc → Parent → List ℕ
list_at d Detached = []
list_at d Document = d.top
list_at d (Node p) = children_in (row_at d p)

-- whether the list of q is the one of a node that stands at p
abbrev pub is_list_of : Parent → Parent → Bool
is_list_of Document Document = true
is_list_of (Node q) (Node p) = nat_eq q p
is_list_of q p = false

-- each list has a node once where it stands there, and else never
abbrev pub Listed : Doc → Type 0
Listed d = (q : Parent) (n : ℕ) → times n (list_at d q) ≡ one_if (is_list_of q (parent_in (row_at d n)))

pub record IsForest (d : Doc) : Type 0 where
  pub ways : Ways d
  pub listed : Listed d

-- the test by so many steps is the relation
abbrev pub AboveIsFound : Type 0
AboveIsFound = (d : Doc) (c n : ℕ) → IsForest d → n < length d.rows → (is_at_or_above d c n ≡ true → Above d c n) × (Above d c n → is_at_or_above d c n ≡ true)
