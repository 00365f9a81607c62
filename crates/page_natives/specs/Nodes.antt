-- The methods of nodes of a page, by their numbers, and the lines of what they change.
use Rattle.std.specs.Prelude.{ℕ, ◌-◌, List, [], ◌∷◌, Option, Some, None, slice_get, nat_lt, if◌then◌else◌}
use Rattle.node_deeds.specs.declared.told.Change.{Change}
use Rattle.doc_nodes.specs.Changes.{empty}
use Rattle.heap_rows.specs.Doing.{Told}
use Rattle.page_log.specs.Items.{change_told}
use Rattle.tamed_dom.specs.declared.methods.NodeMethod.{NodeMethod}
use Rattle.tamed_dom.specs.Lent.{Lent, new_lent}
use Rattle.page_natives.specs.declared.nodes.TheConstants.{NODE_METHODS}

-- the method of a number: they have the numbers from 39 on
abbrev pub node_method : ℕ → Option NodeMethod
node_method n = if nat_lt n 39 then None else slice_get NODE_METHODS (n - 39)

abbrev pub changes_told : Option Change → List Told
changes_told None = []
changes_told (Some c) = change_told c ∷ []

-- a document without nodes and without roots
abbrev pub no_nodes : Lent
no_nodes = new_lent (empty 0)
