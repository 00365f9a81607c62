-- A row from its parts.
use Rattle.std.specs.Prelude.{ℕ, List, Bool, Option}
use Rattle.url_rule.specs.declared.ask.UriKind.{UriKind}
use Rattle.url_rule.specs.Table.{Row}

abbrev pub row_in : Option UriKind → List ℕ → Option (List ℕ) → Bool → Row
row_in k s h b = record { kind = k; scheme = s; host = h; sub = b }
