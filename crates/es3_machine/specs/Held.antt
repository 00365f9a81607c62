-- What a machine holds: what was started, and what the texts made.
use Rattle.std.specs.Prelude.{ℕ, [], Option, option_map}
use Rattle.es3_tree.specs.Tree as t
use Rattle.es3_heap.specs.Objects.{Objects}
use Rattle.es3_language.specs.Store.{Store}
use Rattle.es3_moves.specs.Code.{plain_stmts}
use Rattle.es3_moves.specs.Texts.{store_of}
use Rattle.es3_moves.specs.declared.texts.Texts.{Texts}
use Rattle.es3_machine.specs.Machine.{Started, a_program, a_call}
use Rattle.es3_machine.specs.declared.machine.Start.{Start}
use Rattle.es3_machine.specs.declared.machine.Start.TheVariants.{Program, Call}

pub record Held : Type 0 where
  pub started : Option Start
  pub texts : Texts

abbrev pub plain_start : Start → Started
plain_start (Program body by) = a_program (t.script (plain_stmts body.value.items)) by
plain_start (Call f this vs by) = a_call f this vs.items by

abbrev pub started_of : Held → Option Started
started_of m = option_map plain_start m.started

-- what a run changes: the objects, and what the texts made
abbrev pub store_in : Objects → Held → Store
store_in h m = store_of h m.texts

-- the store before any text ran
abbrev pub new_store : Objects → ℕ → Store
new_store h globals = record { heap = h; scopes = []; codes = []; globals = globals; shared = [] }
