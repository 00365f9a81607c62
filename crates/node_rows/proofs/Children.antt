-- How rows take a child that is given.
use Rattle.std.proofs.Common.{◌≡◌, ℕ, suc, ◌<◌, Bool, List, [], ◌∷◌, ◌++◌, Option, None, length, ap, ◌∙◌}
use Rattle.std.specs.Prelude.{nat_eq, codes}
use Rattle.es3_objects.specs.declared.value.Value.{Value}
use Rattle.es3_objects.specs.declared.value.Tag.TheVariants as tag
use Rattle.es3_heap.specs.Objects.{Objects}
use Rattle.doc_laws.proofs.Lists.{flipped}
use Rattle.rows.specs.Rows.{Branch, Row, held, as_same_root}
use Rattle.rows.specs.Arguments as rows
use Rattle.rows.specs.Branches.{branch, around as nodes_around}
use Rattle.rows.specs.Nodes.{refused, node_argument}
use Rattle.heap_rows.specs.Doing.{Page, Around, named, same_root_by, with_branch, around, facets_at, does}
use Rattle.heap_rows.specs.Opening.{place_of}
use Rattle.row_outcomes.specs.Arguments.{argument}
use Rattle.node_rows.proofs.Received.{around_there}
use Rattle.node_rows.proofs.Rows.{argument_is, argument_still}

module _ (by : ℕ) (this : Value) (args : List Value) (h : Objects) (g : Page) where
  -- an argument that is no node
  pub no_child : (more : List Value) (go : Branch → Row) → ((i : ℕ) → ◌≡◌ {A = Option Around} (around h g i (argument 0 args)) None)
      → does place_of by (node_argument (rows.argument 0 (suc (length args))) go) (this ∷ (args ++ more)) h g [] ≡ does place_of by (refused (codes "bad argument")) (this ∷ (args ++ more)) h g []
  no_child more go none =
      let vs = this ∷ (args ++ more) in
      ap (λ y. with_branch (around h g (length vs) y) (λ (b : Around). does place_of by (go b.branch) (vs ++ b.values) h g []) (does place_of by (refused (codes "bad argument")) vs h g [])) (argument_is by this args h g 0 more)
      ∙ ap (λ o. with_branch o (λ (b : Around). does place_of by (go b.branch) (vs ++ b.values) h g []) (does place_of by (refused (codes "bad argument")) vs h g [])) (none (length vs))

  module _ (s j : ℕ) (child : named h (argument 0 args) ≡ tag.Facet s j) (child_there : j < length (g.nodes s)) where
    pub child_row : (more : List Value) (go : Branch → Row)
        → does place_of by (node_argument (rows.argument 0 (suc (length args))) go) (this ∷ (args ++ more)) h g []
        ≡ does place_of by (go (branch (length (this ∷ (args ++ more))) j (g.nodes s))) ((this ∷ (args ++ more)) ++ facets_at (g.facets s) (nodes_around (g.nodes s) j)) h g []
    child_row more go =
        let vs = this ∷ (args ++ more) in
        ap (λ y. with_branch (around h g (length vs) y) (λ (b : Around). does place_of by (go b.branch) (vs ++ b.values) h g []) (does place_of by (refused (codes "bad argument")) vs h g [])) (argument_is by this args h g 0 more)
        ∙ ap (λ o. with_branch o (λ (b : Around). does place_of by (go b.branch) (vs ++ b.values) h g []) (does place_of by (refused (codes "bad argument")) vs h g [])) (around_there h g (length vs) (argument 0 args) s j child child_there)

    module _ (r k : ℕ) (name : named h this ≡ tag.Facet r k) (there : k < length (g.nodes r)) where
      pub same_row : (more extra : List Value) (go : Bool → Row)
          → does place_of by (as_same_root (held 0) (rows.argument 0 (suc (length args))) go) ((this ∷ (args ++ more)) ++ extra) h g [] ≡ does place_of by (go (nat_eq s r)) ((this ∷ (args ++ more)) ++ extra) h g []
      same_row more extra go =
          let vs = (this ∷ (args ++ more)) ++ extra in
          ap (λ y. does place_of by (go (same_root_by (named h this) (named h y))) vs h g []) (argument_still by this args h g 0 more extra)
          ∙ ap (λ t. does place_of by (go (same_root_by t (named h (argument 0 args)))) vs h g []) name
          ∙ ap (λ t. does place_of by (go (same_root_by (tag.Facet r k) t)) vs h g []) child
          ∙ ap (λ b. does place_of by (go b) vs h g []) (flipped r s)
