-- The page that `gen` makes: modules in both languages, each of which keeps a sum, and events that add to these sums.
use Rattle.std.specs.Prelude.{ℕ, ◌%◌, min, pos, List, [], ◌∷◌, ◌++◌, map, None, nat_eq, codes, if◌then◌else◌}
use Rattle.std.specs.List.{range_with_len}
use Rattle.caja_units.specs.Index.{number_units}
use Rattle.url_rule.specs.Table.{Row}
use Rattle.page_deeds.specs.Deeds.{number}
use Rattle.event_script.specs.Events.{Asked, a_call}
use Rattle.page_manifest.specs.Page.{Language, cajita, valija, Module, Page}

-- the source of each module
abbrev pub source : List ℕ
source = codes "var n = 0; ({add: function (x) { n = n + x; say(n); return n; }});"

abbrev pub language_of : ℕ → Language
language_of k = if nat_eq (k % 2) 0 then cajita else valija

abbrev pub module_of : ℕ → Module
module_of k = record { name = codes "m" ++ number_units k; language = language_of k; source = source; grants = [] }

-- of a page with so many modules, which are called in turn
abbrev pub event_of : ℕ → ℕ → Asked
event_of modules j = a_call (j % modules) (codes "add") (number (pos j) ∷ [])

abbrev pub most_modules : ℕ
most_modules = 16

-- the page with n events
abbrev pub generated : List Row → ℕ → Page
generated rule n = record {
  rule = rule;
  base = None;
  html = [];
  styles = [];
  cells = [];
  modules = map module_of (range_with_len 0 (min n most_modules));
  events = map (event_of (min n most_modules)) (range_with_len 0 n);
}
