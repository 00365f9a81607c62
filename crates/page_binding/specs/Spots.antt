-- Where ids stand in a document.
use Rattle.std.specs.Prelude.{ℕ, List, [], ◌∷◌, ◌++◌, map, Option, None, Some, codes, if◌then◌else◌}
use Rattle.html_grammar.specs.Trees.{Sort, one, many, Tree, text_node, element, none, more}
use Rattle.caja_units.specs.Units.{same_units}
use Rattle.doc_nodes.specs.Rows.{value_at}
use Rattle.doc_tree.specs.Cleaned.{attrs_from}

-- an element with an id: its tag, and the ids of the elements around it, the nearest first
pub record Spot : Type 0 where
  pub id : List ℕ
  pub tag : List ℕ
  pub around : List (List ℕ)

-- an element, where it has an id, and then what stands in it
abbrev pub spot_and : List ℕ → Option (List ℕ) → List (List ℕ) → (List (List ℕ) → List Spot) → List Spot
spot_and tag None around content = content around
spot_and tag (Some id) around content = record { id = id; tag = tag; around = around } ∷ content (id ∷ around)

-- the elements with ids, in document order, where these ids stand around all of them
abbrev pub spots : (s : Sort) → Tree s → List (List ℕ) → List Spot
spots _ (text_node us) around = []
spots _ (element tag xs ts) around = spot_and tag (value_at (codes "id") (attrs_from xs)) around (spots many ts)
spots _ none around = []
spots _ (more t ts) around = spots one t around ++ spots many ts around

abbrev pub spots_in : Tree many → List Spot
spots_in ts = spots many ts []

abbrev pub ids_of : List Spot → List (List ℕ)
ids_of ss = map (λ s. s.id) ss

-- the first element with an id
abbrev pub spot_of : List Spot → List ℕ → Option Spot
spot_of [] id = None
spot_of (s ∷ ss) id = if same_units id s.id then Some s else spot_of ss id

abbrev pub around_it : Option Spot → List (List ℕ)
around_it None = []
around_it (Some s) = s.around

-- the ids around the element with an id
abbrev pub around : List Spot → List ℕ → List (List ℕ)
around ss id = around_it (spot_of ss id)
