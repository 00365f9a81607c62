-- What holds of what is lent where rows see all of it.
use Rattle.std.specs.Prelude.{◌≡◌, ℕ, ◌<◌, List, [], ◌∷◌, Option, Some, length}
use Rattle.doc_nodes.specs.Rows.{Doc}
use Rattle.doc_laws.specs.Reached.{Reached}
use Rattle.doc_views.specs.Seen.{Stands}
use Rattle.doc_views.specs.Clear.{IsClear}
use Rattle.dom_facets.specs.Facets.{facet_at}
use Rattle.dom_handlers.specs.declared.kinds.Handler.{Handler}
use Rattle.tamed_dom.specs.Lent.{Lent}

-- what handlers are registered for is there
abbrev pub AreAtNodes : Doc → List Handler → Type 0
AreAtNodes d [] = Unit {0}
AreAtNodes d (x ∷ hs) = (x.node < length d.rows) × AreAtNodes d hs

pub record IsWhole (z : Lent) : Type 0 where
  pub doc : Reached z.doc
  pub clear : IsClear z.doc
  -- each node of a root has its object
  pub objects : (n r k : ℕ) → Stands z.doc n r k → (o : ℕ) × (◌≡◌ {A = Option ℕ} (facet_at z.facets n) (Some o))
  pub handlers : AreAtNodes z.doc z.handlers
