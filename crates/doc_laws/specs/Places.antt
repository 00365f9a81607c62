-- At which place of its list a node stands, and what each change makes of it.
use Rattle.std.specs.Prelude.{List, ◌≡◌, ◌≢◌, ℕ, ◌-◌, Bool, true, Option, Some, None, length, position, nat_eq, nat_lt, if◌then◌else◌, ◌&&◌, false, Ok}
use Rattle.doc_nodes.specs.declared.node.NewNode.{NewNode}
use Rattle.doc_nodes.specs.Rows.{Doc, row_at, tag_in, has, parent_in, children_in}
use Rattle.doc_nodes.specs.Changes.{without, append_refused, moved, is_child, taken, create, set_attr, set_text}
use Rattle.doc_laws.specs.Forest.{IsForest, list_at, is_list_of}

-- the place of a node among those that stand where it stands, from 0
abbrev pub place_of : Doc → ℕ → Option ℕ
place_of d n = position (nat_eq n) (list_at d (parent_in (row_at d n)))

-- a place, where the one at another place has left the list
abbrev pub closed : Option ℕ → Option ℕ → Option ℕ
closed None o = o
closed (Some i) None = None
closed (Some i) (Some j) = Some (if nat_lt i j then j - 1 else j)

-- whether two nodes stand in one list
abbrev pub are_beside : Doc → ℕ → ℕ → Bool
are_beside d n c = is_list_of (parent_in (row_at d n)) (parent_in (row_at d c))

-- the place of a node, where another has left its list
abbrev pub place_without : Doc → ℕ → ℕ → Option ℕ
place_without d c n = if are_beside d n c then closed (place_of d c) (place_of d n) else place_of d n

-- a node that is appended stands behind all others of its new parent; where it stood, what was behind it moves up
abbrev pub AppendPlaces : Type 0
AppendPlaces = (d : Doc) (p c : ℕ) → IsForest d → append_refused d p c ≡ None
    → (place_of (moved p c d) c ≡ Some (length (without c (children_in (row_at d p))))) × ((n : ℕ) → n ≢ c → place_of (moved p c d) n ≡ place_without d c n)

-- so it is where a child is removed, and the child has no place
abbrev pub RemovePlaces : Type 0
RemovePlaces = (d : Doc) (p c : ℕ) → has d p && has d c && is_child d p c ≡ true
    → (◌≡◌ {A = Option ℕ} (place_of (taken p c d) c) None) × ((n : ℕ) → n ≢ c → place_of (taken p c d) n ≡ place_without d c n)

-- a new node has no place, and all others keep theirs
abbrev pub CreatePlaces : Type 0
CreatePlaces = (d : Doc) (root : ℕ) (c : NewNode) → (◌≡◌ {A = Option ℕ} (place_of (create root c d) (length d.rows)) None) × ((n : ℕ) → n ≢ length d.rows → place_of (create root c d) n ≡ place_of d n)

-- an attribute changes no place
abbrev pub SetAttrPlaces : Type 0
SetAttrPlaces = (n : ℕ) (name v : List ℕ) (d e : Doc) → set_attr n name v d ≡ Ok e → (m : ℕ) → place_of e m ≡ place_of d m

-- another text of an element: the new one stands first, the children that there were have no place, and all others keep theirs
abbrev pub SetTextPlaces : Type 0
SetTextPlaces = (n : ℕ) (tag us : List ℕ) (d e : Doc) → IsForest d → tag_in (row_at d n) ≡ Some tag → set_text n us d ≡ Ok e
    → (place_of e (length d.rows) ≡ Some 0) × ((m : ℕ) → is_child d n m ≡ true → ◌≡◌ {A = Option ℕ} (place_of e m) None) × ((m : ℕ) → m ≢ length d.rows → is_child d n m ≡ false → place_of e m ≡ place_of d m)
