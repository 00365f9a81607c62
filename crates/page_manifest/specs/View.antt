-- Which page a `Page` is.
use Rattle.std.specs.Prelude.{ℕ, List, map}
use Rattle.url_rule.specs.Table.{rows_of}
use Rattle.host_rules.specs.Plain.{plain}
use Rattle.event_script.specs.Events.{asked}
use Rattle.page_manifest.specs.Page as p
use Rattle.page_manifest.specs.declared.Lang.{Lang}
use Rattle.page_manifest.specs.declared.Lang.TheVariants.{Cajita, Valija, Es3}
use Rattle.page_manifest.specs.declared.Grant.{Grant}
use Rattle.page_manifest.specs.declared.Grant.TheVariants.{Root, Cell, Module, Value}
use Rattle.page_manifest.specs.declared.ModuleSpec.{ModuleSpec}
use Rattle.page_manifest.specs.declared.Style.{Style}
use Rattle.page_manifest.specs.declared.Page.{Page}

abbrev pub language : Lang → p.Language
language Cajita = p.cajita
language Valija = p.valija
language Es3 = p.es3

abbrev pub grant : Grant → p.Granted
grant (Root id) = p.the_root id
grant (Cell k) = p.the_cell k
grant (Module k) = p.the_result k
grant (Value v) = p.the_plain (plain v)

abbrev pub grants : List (List ℕ × Grant) → p.Grants
grants gs = map (λ g. (g.0, grant g.1)) gs

abbrev pub module_spec : ModuleSpec → p.Module
module_spec m = record { name = m.name; language = language m.lang; source = m.source.items; grants = grants m.grants.items }

abbrev pub style : Style → p.Style
style s = record { root = s.root; css = s.css.items }

abbrev pub page : Page → p.Page
page q = record { rule = rows_of q.rule.items; base = q.base; html = q.html.items; styles = map style q.styles.items; cells = q.cells.items; modules = map module_spec q.modules.items; events = map asked q.events.items }
