-- The names that the log of a page shows.
use Rattle.std.specs.Prelude.{map}
use Rattle.page_log.specs.Log.{Names}
use Rattle.page_manifest.specs.Page.{Page}
use Rattle.page_roots.specs.Roots.{granted_roots}

abbrev pub page_names : Page → Names
page_names p = record { modules = map (λ m. m.name) p.modules; cells = p.cells; roots = granted_roots p }
