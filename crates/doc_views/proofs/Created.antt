-- A new node of a root, as it is seen.
use Rattle.std.proofs.Common.{◌≡◌, ℕ, ◌<◌, Bool, true, false, List, [], ◌∷◌, ◌++◌, Option, Some, None, length, cond, refl, sym, ap, ◌∙◌, subst, arith}
use Rattle.std.specs.Prelude.{map, slice_get}
use Rattle.std.specs.Option.{option_map}
use Rattle.std.proofs.lemmas.List.{map-append, length-map}
use Rattle.doc_nodes.specs.declared.node.Parent.TheVariants.{Detached}
use Rattle.doc_nodes.specs.declared.node.NewNode.{NewNode}
use Rattle.doc_nodes.specs.declared.node.NewNode.TheVariants.{Element, Text}
use Rattle.doc_nodes.specs.Rows.{Doc, owner_in, nodes_of, is_granted}
use Rattle.doc_nodes.specs.Changes.{create, root_in}
use Rattle.doc_laws.specs.Owned.{IsRoot}
use Rattle.doc_laws.specs.Reached.{Reached}
use Rattle.doc_laws.proofs.Edits.{fresh, new-here, new-other}
use Rattle.doc_laws.proofs.Ownership.{next_of, new-owner, old-owner, root-is}
use Rattle.rows.specs.Document.{text_node, element}
use Rattle.doc_views.specs.Seen.{node_from, node_seen, nodes_seen, Stands, number_at}
use Rattle.doc_views.proofs.Lists.{map_same}
use Rattle.doc_views.proofs.Views.{there_in}
use Rattle.doc_views.proofs.Grown.{bare, linked, node_grown}

pub root_there : (d : Doc) (n r k : ℕ) → Reached d → Stands d n r k → IsRoot d (Some r)
root_there d n r k a is = subst (IsRoot d) (ap root_in is) (root-is d n a.owned)

-- a new node is the next of its root
pub created_stands : (r : ℕ) (c : NewNode) (d : Doc) → Reached d → Stands (create r c d) (length d.rows) r (length (nodes_seen d r))
created_stands r c d a = new-owner Detached (Some r) c [] d a.owned.many ∙ ap (λ k. Some (r, k)) (sym (length-map (nodes_of d.roots r) (node_seen d)))

-- nothing is around it
alone : (owners : List (Option (ℕ × ℕ))) (n : ℕ) (c : NewNode) → node_from owners n (Some (fresh Detached c [])) ≡ bare (Some (fresh Detached c []))
alone owners n c = ap (λ p. linked p [] (bare (Some (fresh Detached c [])))) (none (is_granted (owner_in (slice_get owners n))))
  where
    none : (b : Bool) → option_map (number_at owners) (cond b None None) ≡ None
    none true = refl
    none false = refl

pub created_seen : (d : Doc) (n r k : ℕ) (c : NewNode) → Reached d → Stands d n r k → nodes_seen (create r c d) r ≡ nodes_seen d r ++ bare (Some (fresh Detached c [])) ∷ []
created_seen d n r k c a is =
    let e = create r c d in
    let at = length d.rows in
    let xs = nodes_of d.roots r in
    let new : node_seen e at ≡ bare (Some (fresh Detached c [])) = ap (node_from e.owners at) (new-here Detached (Some r) c [] d) ∙ alone e.owners at c in
    let old : map (node_seen e) xs ≡ map (node_seen d) xs =
    map_same (node_seen d) (node_seen e) xs (λ j m stands.
    let less : m < at = there_in d m r j a.owned (a.owned.back m r j stands) in
    node_grown d e m a less (λ o before. old-owner Detached (Some r) c [] d o a.owned.many (λ same. omega (arith, before, same))) (new-other Detached (Some r) c [] d m (λ same. omega (arith, less, same)))) in
    ap (map (node_seen e)) (next_of d.roots r at (root_there d n r k a is))
    ∙ map-append (node_seen e) xs (at ∷ [])
    ∙ ap (λ ys. ys ++ node_seen e at ∷ []) old
    ∙ ap (λ o. map (node_seen d) xs ++ o ∷ []) new

pub create_element_is_seen : (d : Doc) (n r k : ℕ) (tag : List ℕ) → Reached d → Stands d n r k → nodes_seen (create r (Element tag) d) r ≡ nodes_seen d r ++ element tag ∷ []
create_element_is_seen d n r k tag a is = created_seen d n r k (Element tag) a is

pub create_text_is_seen : (d : Doc) (n r k : ℕ) (us : List ℕ) → Reached d → Stands d n r k → nodes_seen (create r (Text us) d) r ≡ nodes_seen d r ++ text_node us ∷ []
create_text_is_seen d n r k us a is = created_seen d n r k (Text us) a is
