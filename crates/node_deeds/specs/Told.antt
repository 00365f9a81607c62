-- What a deed tells, and what it leaves.
use Rattle.std.specs.Prelude.{ℕ, List, Option, codes}
use Rattle.doc_nodes.specs.Rows.{Doc}
use Rattle.node_deeds.specs.declared.told.Refusal.{Refusal}
use Rattle.node_deeds.specs.declared.told.Refusal.TheVariants as r
use Rattle.node_deeds.specs.declared.told.Told.{Told as Answer}
use Rattle.node_deeds.specs.declared.told.Told.TheVariants as a
use Rattle.node_deeds.specs.declared.told.Change.{Change}
use Rattle.node_deeds.specs.declared.told.Done.{Done}

-- what a method answers; told_argument is its first argument
pub data Told : Type 0 where
  told_undefined told_null told_argument : Told
  told_text : List ℕ → Told
  told_node : ℕ → Told
  told_nodes : List ℕ → Told
  -- a TypeError
  told_error : Refusal → Told

-- its message
abbrev pub message_of : Refusal → List ℕ
message_of r.BadArgument = codes "bad argument"
message_of r.OtherRoot = codes "other root"
message_of r.NotAllowed = codes "not allowed"
message_of r.Cycle = codes "cycle"

-- a deed: what it tells, the document that it leaves, and the line of its change
pub record Deed : Type 0 where
  pub told : Told
  pub doc : Doc
  pub change : Option Change

abbrev pub as_told : Answer → Told
as_told a.Undefined = told_undefined
as_told a.Null = told_null
as_told a.Argument = told_argument
as_told (a.Text us) = told_text us
as_told (a.Node n) = told_node n
as_told (a.Nodes ns) = told_nodes ns.items
as_told (a.Error e) = told_error e

-- what the program has done, with the document that it left
abbrev pub as_deed : Done → Doc → Deed
as_deed x d = record { told = as_told x.told; doc = d; change = x.change }
