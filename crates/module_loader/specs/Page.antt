-- The store of a page before anything ran, and what a module's program comes to in it among the natives.
use Rattle.std.specs.Prelude.{ℕ, []}
use Rattle.es3_tree.specs.Tree as t
use Rattle.es3_language.specs.Store.{Store}
use Rattle.es3_language.specs.Meaning.{Run, run_program}
use Rattle.heap_rows.specs.Opening.{opened_for_one, globals_id}
use Rattle.page_natives.specs.Natives.{Kept, page_table, first_kept}

abbrev pub first_store : Store
first_store = record { heap = opened_for_one; scopes = []; codes = []; globals = globals_id; shared = [] }

-- what the program of a module comes to in a page of its own, with so many steps
abbrev pub module_run : t.Tree t.program → ℕ → ℕ → Run Kept
module_run p by steps = run_program page_table p by first_store first_kept steps
