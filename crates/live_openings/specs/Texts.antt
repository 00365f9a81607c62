-- What a text comes to that runs as it stands, the first in its page, with so many modules, so many cells, a document and a rule for URLs in it.
use Rattle.std.specs.Prelude.{ℕ, Bool, []}
use Rattle.html_kept.specs.Table.{Answers}
use Rattle.doc_nodes.specs.Rows.{Doc}
use Rattle.es3_tree.specs.Tree as t
use Rattle.es3_heap.specs.Objects.{Objects}
use Rattle.es3_language.specs.Store.{Store}
use Rattle.es3_language.specs.Meaning.{Run, run_program}
use Rattle.heap_rows.specs.Opening.{runtime_id}
use Rattle.page_natives.specs.Natives.{Kept, new_kept, page_table}
use Rattle.module_loader.specs.Turns.{page_objects, page_lent}
use Rattle.global_names.specs.Opening.{with_global_names, text_globals}

abbrev pub text_store : Objects → Store
text_store h = record { heap = with_global_names h; scopes = []; codes = []; globals = text_globals h; shared = [] }

abbrev pub text_run : ℕ → ℕ → Doc → Bool → Answers → t.Tree t.program → ℕ → ℕ → Run Kept
text_run modules cells d touching a p by n = run_program page_table p by (text_store (page_objects modules cells d)) (new_kept runtime_id touching (page_lent modules cells d) a) n
