-- Owners and the nodes of the roots tell the same, an owner is for good, and no node stands under one of another root.
use Rattle.std.specs.Prelude.{◌≡◌, ℕ, ◌<◌, ◌≤◌, true, Option, Some, None, length, ◌⊎◌}
use Rattle.doc_nodes.specs.declared.node.Parent.TheVariants.{Document}
use Rattle.doc_nodes.specs.Rows.{Doc, row_at, parent_in, owner_of, node_with, parent_of, same_root, is_granted}

-- so no two nodes have one owner
pub record Owned (d : Doc) : Type 0 where
  pub to : (n r k : ℕ) → ◌≡◌ {A = Option (ℕ × ℕ)} (owner_of d n) (Some (r, k)) → ◌≡◌ {A = Option ℕ} (node_with d r k) (Some n)
  pub back : (n r k : ℕ) → ◌≡◌ {A = Option ℕ} (node_with d r k) (Some n) → ◌≡◌ {A = Option (ℕ × ℕ)} (owner_of d n) (Some (r, k))
  pub many : length d.owners ≡ length d.rows

-- a root that there is, or none
abbrev pub IsRoot : Doc → Option ℕ → Type 0
IsRoot d None = Unit {0}
IsRoot d (Some r) = r < length d.roots

-- the owner of a node, and the one of what it stands under: they are of one root, or a granted root begins within none
abbrev pub Fits : Option (ℕ × ℕ) → Option (ℕ × ℕ) → Type 0
Fits a b = (same_root a b ≡ true) ⊎ ((is_granted a ≡ true) × (◌≡◌ {A = Option (ℕ × ℕ)} b None))

-- a node that stands under another is of its root, and one that stands under the document itself is of none, unless a granted root begins with it
pub record SameRoots (d : Doc) : Type 0 where
  pub under : (n p : ℕ) → ◌≡◌ {A = Option ℕ} (parent_of d n) (Some p) → Fits (owner_of d n) (owner_of d p)
  pub top : (n : ℕ) → parent_in (row_at d n) ≡ Document → Fits (owner_of d n) None

-- no node goes, nor a root, and a node keeps its owner
pub record Grows (d e : Doc) : Type 0 where
  pub more : length d.rows ≤ length e.rows
  pub roots : length e.roots ≡ length d.roots
  pub owners : (n : ℕ) → n < length d.rows → owner_of e n ≡ owner_of d n
