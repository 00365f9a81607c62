-- A node that a page finds by an id.
use Rattle.std.specs.Prelude.{◌≡◌, ℕ, true, false, List, Option, Some, Ok, codes}
use Rattle.caja_units.specs.Units.{same_units}
use Rattle.html_kept.specs.Table.{Answers}
use Rattle.doc_nodes.specs.Rows.{Doc, row_at, tag_in, find_id}
use Rattle.doc_nodes.specs.Changes.{set_attr}
use Rattle.doc_laws.specs.Reached.{Reached}
use Rattle.node_deeds.specs.declared.deeds.Asked.{Asked}
use Rattle.node_deeds.specs.Deeds.{deed}
use Rattle.rows.specs.Document.{node_at, attribute}
use Rattle.rows.specs.Nodes.{has_id}
use Rattle.doc_views.specs.Seen.{nodes_seen, Stands}
use Rattle.doc_views.specs.Clear.{IsClear}

-- it is an element, which is seen with this id
abbrev pub FoundIsSeen : Type 0
FoundIsSeen = (d : Doc) (id : List ℕ) (n r k : ℕ) → Reached d → IsClear d → ◌≡◌ {A = Option ℕ} (find_id d id) (Some n) → Stands d n r k
    → (tag : List ℕ) × (◌≡◌ {A = Option (List ℕ)} (tag_in (row_at d n)) (Some tag)) × (has_id id (attribute (codes "id") (node_at (nodes_seen d r) k).attributes) ≡ true)

-- no deed changes what is found, nor does another attribute
abbrev pub FoundStays : Type 0
FoundStays = (a : Answers) (q : Asked) (n : ℕ) (d : Doc) (id : List ℕ) → find_id (deed a q n d).doc id ≡ find_id d id

abbrev pub SetAttrFinds : Type 0
SetAttrFinds = (d e : Doc) (n : ℕ) (name v id : List ℕ) → same_units name (codes "id") ≡ false → set_attr n name v d ≡ Ok e → find_id e id ≡ find_id d id
