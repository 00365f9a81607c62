-- What is seen of a node with those around it: its parent, its children and all that is at or below it, which are nodes of its root.
use Rattle.std.specs.Prelude.{ℕ, ◌+◌, List, [], ◌∷◌, ◌++◌, Option, length, codes}
use Rattle.rows.specs.Rows.{Handle, held, Branch, handles}
use Rattle.rows.specs.Document.{Node, node_at, of_parent, text_of, attribute, below, at_and_above}

abbrev pub parents : List Node → ℕ → List ℕ
parents ns k = of_parent (λ p. p ∷ []) (node_at ns k).parent

-- those around it, in the order of their handles
abbrev pub around : List Node → ℕ → List ℕ
around ns k = parents ns k ++ ((node_at ns k).children ++ below ns k)

abbrev pub with_ids : List Node → ℕ → List ℕ → List (Option (List ℕ) × Handle)
with_ids ns n [] = []
with_ids ns n (k ∷ ks) = (attribute (codes "id") (node_at ns k).attributes, held n) ∷ with_ids ns (n + 1) ks

-- the node with this number among those of its root; n values are in hand before those of the nodes around it
abbrev pub branch : ℕ → ℕ → List Node → Branch
branch n k ns =
    let o = node_at ns k in
    let c = n + length (parents ns k) in
    let b = c + length o.children in
    record {
      number = k;
      tag = o.tag;
      text = text_of ns k;
      attributes = o.attributes;
      parent = handles n (parents ns k);
      children = handles c o.children;
      below = with_ids ns b (below ns k);
      above = at_and_above (length ns) ns k;
      numbers = o.children;
    }
