-- The node of a document that an id names.
use Rattle.std.specs.Prelude.{ℕ, List, Option, None, Some}
use Rattle.std.specs.Option.{unwrap_or}
use Rattle.doc_nodes.specs.Rows.{Doc, find_id, owner_of}

abbrev pub owner_at : Doc → Option ℕ → Option (ℕ × ℕ)
owner_at d None = None
owner_at d (Some n) = owner_of d n

-- the root and the number there of the first node with an id; one that is in no root has none, and 0 stands for both
abbrev pub node_of : Doc → List ℕ → ℕ × ℕ
node_of d id = unwrap_or (owner_at d (find_id d id)) (0, 0)
