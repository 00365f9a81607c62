-- The page that bytes are the manifest of, or the first fault.
use Rattle.std.specs.Prelude.{ℕ, List, Bool, Option, None, Some, Ok, Err, if◌then◌else◌}
use Rattle.std.specs.Str.{is_utf8}
use Rattle.url_rule.specs.Table.{Row}
use Rattle.serde_json.specs.Data.{Data}
use Rattle.serde_json.specs.Read.{read}
use Rattle.page_manifest.specs.Faults.{Found, chain, not_json}
use Rattle.page_manifest.specs.Page.{Page}
use Rattle.page_manifest.specs.Manifest.{manifest}
use Rattle.page_manifest.specs.Bound.{bound}

abbrev pub read_or_fault : Option Data → Found Data
read_or_fault None = Err (not_json, 0)
read_or_fault (Some d) = Ok d

abbrev pub json : List ℕ → Found Data
json bytes = if is_utf8 bytes then read_or_fault (read bytes) else Err (not_json, 0)

-- of an embedder whose rule has this table; its texts run as they stand, or are Cajita
abbrev pub page_of : List Row → Bool → List ℕ → Found Page
page_of rule runs bytes = chain (json bytes) (λ d. chain (manifest runs d) (bound rule))
