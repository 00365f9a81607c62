-- A root without a name.
use Rattle.std.proofs.Common.{◌≡◌, ℕ, ◌<◌, ◌≤◌, List, [], length, ap, ◌∙◌, arith}
use Rattle.std.specs.Prelude.{codes}
use Rattle.std.proofs.lemmas.List.{get_or_past}
use Rattle.std.proofs.lemmas.List.Elements.{All-nil, All-cons}
use Rattle.caja_units.specs.Utf8.{utf8_of}
use Rattle.caja_units.proofs.Ascii.{utf8_of-ascii}
use Rattle.dom_lines.specs.Lines.{root_name}

pub unnamed : (roots : List (List ℕ)) (r : ℕ) → length roots ≤ r → root_name roots r ≡ codes "?"
unnamed roots r past = ap utf8_of (get_or_past roots r (codes "?") past) ∙ utf8_of-ascii (codes "?") (All-cons (λ u. u < 128) 63 [] (omega arith) (All-nil (λ u. u < 128)))
