-- What rows do at a node that stands for the receiver, with those around it in hand behind the arguments.
use Rattle.std.proofs.Common.{◌≡◌, ℕ, suc, ◌<◌, List, [], ◌∷◌, ◌++◌, Option, None, length, sym, ap, subst, append_assoc}
use Rattle.std.specs.Prelude.{codes}
use Rattle.es3_objects.specs.declared.value.Value.{Value}
use Rattle.es3_objects.specs.declared.value.Tag.TheVariants as tag
use Rattle.es3_heap.specs.Objects.{Objects}
use Rattle.es3_convert.specs.Conversions.{text_of}
use Rattle.rows.specs.Rows.{Branch, Row, as_text}
use Rattle.rows.specs.Arguments as rows
use Rattle.rows.specs.Branches.{branch, around as nodes_around}
use Rattle.rows.specs.Nodes.{refused, on_node}
use Rattle.heap_rows.specs.Doing.{Page, Around, value_in, named, with_result, with_branch, around, facets_at, does}
use Rattle.heap_rows.specs.Opening.{place_of}
use Rattle.row_outcomes.specs.Arguments.{argument}
use Rattle.row_outcomes.proofs.Arguments.{argument_held}
use Rattle.node_rows.proofs.Received.{around_there}

module _ (by : ℕ) (this : Value) (args : List Value) (h : Objects) (g : Page) where
  -- an argument by its handle
  pub argument_is : (j : ℕ) (more : List Value) → value_in place_of (this ∷ (args ++ more)) (rows.argument j (suc (length args))) ≡ argument j args
  argument_is j more = argument_held place_of j this args more

  pub argument_still : (j : ℕ) (more extra : List Value) → value_in place_of ((this ∷ (args ++ more)) ++ extra) (rows.argument j (suc (length args))) ≡ argument j args
  argument_still j more extra =
      subst (λ l. value_in place_of (this ∷ l) (rows.argument j (suc (length args))) ≡ argument j args) (sym (append_assoc args more extra)) (argument_is j (more ++ extra))

  -- its text
  pub as_text_row : (j : ℕ) (more : List Value) (go : List ℕ → Row)
      → does place_of by (as_text (rows.argument j (suc (length args))) go) (this ∷ (args ++ more)) h g [] ≡ with_result (text_of h (argument j args)) h g [] (λ us. does place_of by (go us) (this ∷ (args ++ more)) h g [])
  as_text_row j more go = ap (λ y. with_result (text_of h y) h g [] (λ us. does place_of by (go us) (this ∷ (args ++ more)) h g [])) (argument_is j more)

  -- a receiver that is no node
  pub no_receiver : (go : Branch → Row) → ◌≡◌ {A = Option Around} (around h g (suc (length args)) this) None
      → does place_of by (on_node go) (this ∷ args) h g [] ≡ does place_of by (refused (codes "bad receiver")) (this ∷ args) h g []
  no_receiver go none = ap (λ o. with_branch o (λ (b : Around). does place_of by (go b.branch) ((this ∷ args) ++ b.values) h g []) (does place_of by (refused (codes "bad receiver")) (this ∷ args) h g [])) none

  module _ (r k : ℕ) (name : named h this ≡ tag.Facet r k) (there : k < length (g.nodes r)) where
    pub at_node : (go : Branch → Row)
        → does place_of by (on_node go) (this ∷ args) h g [] ≡ does place_of by (go (branch (suc (length args)) k (g.nodes r))) (this ∷ (args ++ facets_at (g.facets r) (nodes_around (g.nodes r) k))) h g []
    at_node go =
        ap (λ o. with_branch o (λ (b : Around). does place_of by (go b.branch) ((this ∷ args) ++ b.values) h g []) (does place_of by (refused (codes "bad receiver")) (this ∷ args) h g [])) (around_there h g (suc (length args)) this r k name there)
