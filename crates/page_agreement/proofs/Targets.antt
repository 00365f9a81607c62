-- The events on nodes of two pages that agree on a group: each is at the same node of a root of the group in both, or at nodes of others' roots in both.
use Rattle.std.proofs.Common.{◌≡◌, inl, inr, ℕ, ◌<◌, Bool, true, false, List, [], ◌∷◌, All, refl, sym, ap, ◌∙◌, subst, length}
use Rattle.std.specs.Prelude.{codes}
use Rattle.std.proofs.lemmas.Bool.{true≢false, false_from_ne_true}
use Rattle.std.proofs.lemmas.List.Elements.{All-head, All-tail}
use Rattle.html_grammar.specs.Trees.{many, Tree}
use Rattle.doc_nodes.specs.Rows.{Doc}
use Rattle.doc_views.specs.Seen.{nodes_seen}
use Rattle.rows.specs.Document.{Node, node_at, attribute}
use Rattle.rows.specs.Nodes.{has_id}
use Rattle.event_script.specs.Events.{Asked, a_call, a_click, an_input, a_tick}
use Rattle.page_manifest.specs.Page.{Page}
use Rattle.page_roots.specs.Roots.{roots_of, number_in}
use Rattle.page_binding.specs.Nodes.{node_of}
use Rattle.page_documents.specs.Documents.{page_doc}
use Rattle.page_ids.specs.Ids.{IsTheNode, IsAtNode}
use Rattle.cell_numbers.specs.Renumbering.{Renumbering}
use Rattle.cell_numbers.specs.Names.{BothJoin}
use Rattle.page_agreement.specs.Agree.{AgreeOn}
use Rattle.page_agreement.specs.Lines.{has_root}
use Rattle.page_agreement.proofs.Groups.{the_group, root_true}
use Rattle.page_agreement.proofs.Agrees.{listed, NodesAgree, TargetsAgree, LikeRoot, like_root}

-- the node k of a root has an id
abbrev IsSeenWith : List ℕ → List Node → ℕ → Type 0
IsSeenWith id ns k = (k < length ns) × (has_id id (attribute (codes "id") (node_at ns k).attributes) ≡ true)

module _ (p : Page) (ts : Tree many) (q : Page) (us : Tree many) (g : List ℕ) (agree : AgreeOn p ts q us g) (f : Renumbering) (joins : BothJoin (listed q) (listed p) f) where
  abbrev d : Doc
  d = page_doc p ts

  abbrev e : Doc
  e = page_doc q us

  -- the nodes of a root of the group, here and there
  same_nodes : (r : ℕ) → (l : LikeRoot p ts q us g agree f joins r) → nodes_seen d r ≡ nodes_seen e (number_in (roots_of q) l.id)
  same_nodes r l = ap (nodes_seen d) (sym l.number) ∙ agree.nodes l.id l.here

  asked_alike : (id : List ℕ) (t u : ℕ × ℕ) → IsTheNode p d id t.0 t.1 → IsTheNode q e id u.0 u.1 → NodesAgree (the_group p g) f t u
  asked_alike id t u is is' = at (has_root p g t.0) refl
    where
      own : has_root p g t.0 ≡ true → LikeRoot p ts q us g agree f joins t.0 → NodesAgree (the_group p g) f t u
      own h l =
          let one = is'.only (number_in (roots_of q) l.id) t.1 (subst (λ ns. IsSeenWith id ns t.1) (same_nodes t.0 l) is.has) in
          inl (record { own = h; root = sym l.anew ∙ ap f.roots.anew one.0; number = one.1 })

      not_own : has_root p g t.0 ≡ false → LikeRoot p ts q us g agree f joins (f.roots.anew u.0) → ⊥
      not_own fails l =
          let there : number_in (roots_of q) l.id ≡ u.0 = sym l.back ∙ f.roots.back_anew u.0 in
          let one = is.only (f.roots.anew u.0) u.1 (subst (λ ns. IsSeenWith id ns u.1) (ap (nodes_seen e) (sym there) ∙ sym (same_nodes (f.roots.anew u.0) l)) is'.has) in
          true≢false (sym (root_true p g l.id l.here) ∙ ap (has_root p g) (l.number ∙ one.0) ∙ fails)

      at : (b : Bool) → has_root p g t.0 ≡ b → NodesAgree (the_group p g) f t u
      at true h = own h (like_root p ts q us g agree f joins t.0 h)
      at false fails = inr (record { here = fails; there = false_from_ne_true (has_root p g (f.roots.anew u.0)) (λ h. not_own fails (like_root p ts q us g agree f joins (f.roots.anew u.0) h)) })

  pub targets_agree : (es : List Asked) → All (IsAtNode p d) es → All (IsAtNode q e) es → TargetsAgree (the_group p g) f (node_of d) (node_of e) es
  targets_agree [] h k = tt
  targets_agree (a_call m key args ∷ es) h k = targets_agree es (All-tail (IsAtNode p d) (a_call m key args) es h) (All-tail (IsAtNode q e) (a_call m key args) es k)
  targets_agree (a_click id ∷ es) h k =
      (asked_alike id (node_of d id) (node_of e id) (All-head (IsAtNode p d) (a_click id) es h) (All-head (IsAtNode q e) (a_click id) es k), targets_agree es (All-tail (IsAtNode p d) (a_click id) es h) (All-tail (IsAtNode q e) (a_click id) es k))
  targets_agree (an_input id vs ∷ es) h k =
      (asked_alike id (node_of d id) (node_of e id) (All-head (IsAtNode p d) (an_input id vs) es h).0 (All-head (IsAtNode q e) (an_input id vs) es k).0, targets_agree es (All-tail (IsAtNode p d) (an_input id vs) es h) (All-tail (IsAtNode q e) (an_input id vs) es k))
  targets_agree (a_tick m ∷ es) h k = targets_agree es (All-tail (IsAtNode p d) (a_tick m) es h) (All-tail (IsAtNode q e) (a_tick m) es k)
