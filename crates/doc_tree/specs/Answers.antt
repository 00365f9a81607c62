-- How what a call answers stands to the change that it makes: a refused call changes nothing, and want of memory is free.
use Rattle.std.specs.Prelude.{◌≡◌, Result, Ok, Err}
use Rattle.doc_nodes.specs.declared.node.DocError.{DocError}
use Rattle.doc_nodes.specs.declared.node.DocError.TheVariants.{Memory}
use Rattle.doc_nodes.specs.Rows.{Doc}

abbrev pub Refused : Result Doc DocError → DocError → Doc → Doc → Type 0
Refused r Memory before after = after ≡ before
Refused r e before after = (r ≡ Err e) × (after ≡ before)

abbrev pub Changes : {A : Type 0} → Result Doc DocError → Result A DocError → Doc → Doc → Type 0
Changes r (Ok u) before after = r ≡ Ok after
Changes r (Err e) before after = Refused r e before after
