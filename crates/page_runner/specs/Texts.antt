-- The store of a page whose modules are texts of ECMAScript 3 that run as they stand, with the global names of the standard, before anything ran.
use Rattle.std.specs.Prelude.{ℕ, []}
use Rattle.doc_nodes.specs.Rows.{Doc}
use Rattle.es3_language.specs.Store.{Store}
use Rattle.global_names.specs.Opening.{with_global_names, text_globals}
use Rattle.module_loader.specs.Turns.{page_objects}

-- with so many modules, so many cells and a document: the global names stand behind all that a page begins with
abbrev pub texts_store : ℕ → ℕ → Doc → Store
texts_store modules cells d =
    record { heap = with_global_names (page_objects modules cells d); scopes = []; codes = []; globals = text_globals (page_objects modules cells d); shared = [] }
