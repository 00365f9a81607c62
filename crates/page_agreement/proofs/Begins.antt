-- Pages with the same document give each root that both grant the same nodes at the beginning.
use Rattle.std.proofs.Common.{◌≡◌, ℕ, ◌+◌, Bool, List, [], ◌∷◌, Option, Some, cond, refl, ap, ◌∙◌}
use Rattle.std.specs.List.{position_from}
use Rattle.std.proofs.lemmas.Iterator.Adapters.{position_from-zero}
use Rattle.caja_units.specs.Units.{same_units}
use Rattle.html_grammar.specs.Trees.{many, Tree}
use Rattle.doc_nodes.specs.Changes.{granted}
use Rattle.root_texts.proofs.Begins.{roots_begin_alike}
use Rattle.page_manifest.specs.Page.{Page}
use Rattle.page_roots.specs.Roots.{roots_of, granted_roots, number_in}
use Rattle.page_binding.proofs.Names.{same_both}
use Rattle.page_binding.proofs.Bind.{bound_is}
use Rattle.page_documents.specs.Documents.{page_doc, IsDocument}
use Rattle.page_agreement.specs.Agree.{IsRootOf, root_nodes}
use Rattle.page_agreement.proofs.Roots.{root_placed}

-- the same test finds the same
found_same : (f g : List ℕ → Bool) → ((x : List ℕ) → f x ≡ g x) → (k : ℕ) (xs : List (List ℕ)) → position_from f k xs ≡ position_from g k xs
found_same f g same k [] = refl
found_same f g same k (x ∷ xs) = ap (λ b. cond b (Some k) (position_from f (k + 1) xs)) (same x) ∙ ap (λ o. cond (g x) (Some k) o) (found_same f g same (k + 1) xs)

granted_at : (p : Page) (g : List ℕ) (id : List ℕ) → IsRootOf p g id → ◌≡◌ {A = Option ℕ} (granted (granted_roots p) (Some id)) (Some (number_in (roots_of p) id))
granted_at p g id h =
    position_from-zero (λ x. same_units x id) (granted_roots p) ∙ found_same (λ x. same_units x id) (same_units id) (λ x. same_both x id) 0 (granted_roots p)
    ∙ root_placed p h.by h.its_module id h.at h.granted

pub begins_alike : (p q : Page) (ts : Tree many) → IsDocument p ts → IsDocument q ts → (g : List ℕ) (id : List ℕ) → IsRootOf p g id → IsRootOf q g id → root_nodes p (page_doc p ts) id ≡ root_nodes q (page_doc q ts) id
begins_alike p q ts doc doc' g id h k =
    roots_begin_alike (granted_roots p) (granted_roots q) ts id (number_in (roots_of p) id) (number_in (roots_of q) id)
    (bound_is p ts (granted_roots p) doc.bound).grantable (bound_is q ts (granted_roots q) doc'.bound).grantable (granted_at p g id h) (granted_at q g id k)
