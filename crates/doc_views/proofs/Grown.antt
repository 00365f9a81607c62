-- What stays seen as it was: nodes whose rows and owners stay, and so all nodes of other roots.
use Rattle.std.proofs.Common.{◌≡◌, ◌≢◌, ℕ, zero, suc, ◌<◌, Bool, true, false, List, [], ◌∷◌, Option, Some, None, length, cond, refl, sym, ap, ◌∙◌, subst}
use Rattle.std.specs.Prelude.{map, slice_get}
use Rattle.std.specs.Option.{option_map}
use Rattle.std.proofs.lemmas.Option.{slice_get_within}
use Rattle.doc_nodes.specs.declared.node.Parent.TheVariants.{Node as under_node}
use Rattle.doc_nodes.specs.Rows.{Row, Doc, row_at, parent_in, node_in, children_in, owner_in, owner_of, nodes_of, parent_of, tag_in, text_in, is_granted}
use Rattle.doc_nodes.specs.Changes.{root_in}
use Rattle.doc_laws.specs.Forest.{times}
use Rattle.doc_laws.specs.Owned.{Grows}
use Rattle.doc_laws.specs.Reached.{Reached}
use Rattle.doc_laws.specs.Within.{IsWithin}
use Rattle.node_deeds.specs.Deeds.{tag_or_text, text_or_empty, number_in}
use Rattle.deed_laws.proofs.Nodes.{is_there, still_there, stands_there}
use Rattle.rows.specs.Document.{Node}
use Rattle.doc_views.specs.Seen.{number_at, pairs_in, parent_seen, node_from, node_seen, nodes_seen, Stands}
use Rattle.doc_views.proofs.Lists.{map_same}
use Rattle.doc_views.proofs.Views.{there_in}

-- what a node is, without those around it
abbrev pub bare : Option Row → Node
bare x = record { tag = tag_or_text (tag_in x); text = text_or_empty (text_in x); attributes = pairs_in x; parent = None; children = [] }

abbrev pub linked : Option ℕ → List ℕ → Node → Node
linked p cs o = record { tag = o.tag; text = o.text; attributes = o.attributes; parent = p; children = cs }

-- rows that tell the same
pub node_alike : (os : List (Option (ℕ × ℕ))) (n : ℕ) (x y : Option Row) → bare y ≡ bare x → parent_in y ≡ parent_in x → children_in y ≡ children_in x → node_from os n y ≡ node_from os n x
node_alike os n x y same parents children =
    ap (λ o. linked (option_map (number_at os) (parent_seen (owner_in (slice_get os n)) y)) (map (number_at os) (children_in y)) o) same
    ∙ ap (λ p. linked (option_map (number_at os) (cond (is_granted (owner_in (slice_get os n))) None (node_in p))) (map (number_at os) (children_in y)) (bare x)) parents
    ∙ ap (λ cs. linked (option_map (number_at os) (parent_seen (owner_in (slice_get os n)) x)) (map (number_at os) cs) (bare x)) children

-- what stands in a list is in it
pub counted : (xs : List ℕ) (j y : ℕ) → ◌≡◌ {A = Option ℕ} (slice_get xs j) (Some y) → 0 < times y xs
counted [] j y h = cc
counted (x ∷ xs) zero y h = let same : x ≡ y = cc in subst (λ z. 0 < times z (x ∷ xs)) same (is_there x xs)
counted (x ∷ xs) (suc j) y h = still_there y x xs (counted xs j y h)

-- what has a parent is a node of the document
pub has_row : (d : Doc) (m n : ℕ) → parent_in (row_at d m) ≡ under_node n → m < length d.rows
has_row d m n is = at (row_at d m) refl is
  where
    at : (x : Option Row) → row_at d m ≡ x → parent_in x ≡ under_node n → m < length d.rows
    at None h under = cc
    at (Some x) h under = slice_get_within d.rows m x h

-- a node keeps its owner and those around it theirs, where the row stays
pub node_grown : (d e : Doc) (m : ℕ) → Reached d → m < length d.rows → ((n : ℕ) → n < length d.rows → owner_of e n ≡ owner_of d n) → row_at e m ≡ row_at d m → node_seen e m ≡ node_seen d m
node_grown d e m a less owners row =
    ap (node_from e.owners m) row
    ∙ ap (λ o. linked (option_map (number_at e.owners) (parent_seen o (row_at d m))) (map (number_at e.owners) (children_in (row_at d m))) (bare (row_at d m))) (owners m less)
    ∙ ap (λ p. linked p (map (number_at e.owners) (children_in (row_at d m))) (bare (row_at d m))) (parent (is_granted (owner_of d m)) (parent_of d m) refl)
    ∙ ap (λ cs. linked (option_map (number_at d.owners) (parent_seen (owner_of d m) (row_at d m))) cs (bare (row_at d m)))
    (map_same (number_at d.owners) (number_at e.owners) (children_in (row_at d m)) (λ j y at. number y (has_row d y m (stands_there d m y a (counted (children_in (row_at d m)) j y at)))))
  where
    number : (n : ℕ) → n < length d.rows → number_at e.owners n ≡ number_at d.owners n
    number n less = ap number_in (owners n less)

    parent : (b : Bool) (o : Option ℕ) → parent_of d m ≡ o → option_map (number_at e.owners) (cond b None o) ≡ option_map (number_at d.owners) (cond b None o)
    parent true o h = refl
    parent false None h = refl
    parent false (Some p) h = ap (λ x. Some x) (number p (a.forest.ways.within m p h))

pub others_seen : (r s : ℕ) (d e : Doc) → Reached d → Grows d e → IsWithin r d e → s ≢ r → nodes_seen e s ≡ nodes_seen d s
others_seen r s d e a grows within ne =
    ap (map (node_seen e)) (within.numbers s ne)
    ∙ map_same (node_seen d) (node_seen e) (nodes_of d.roots s) (λ j m at.
    let is : Stands d m s j = a.owned.back m s j at in
    let less : m < length d.rows = there_in d m s j a.owned is in
    node_grown d e m a less grows.owners (within.rows m less (λ other. ne (same s r (sym (ap root_in is) ∙ other)))))
  where
    same : (s r : ℕ) → ◌≡◌ {A = Option ℕ} (Some s) (Some r) → s ≡ r
    same s r h = cc
