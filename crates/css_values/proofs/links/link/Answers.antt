use Rattle.std.proofs.Common.{ℕ, ◌-◌, List, length, take, ap, ◌∙◌}
use Rattle.css_kept.specs.Table.{trimmed, unquoted}
use Rattle.css_values.proofs.links.link.Goals as goal

pub returns : goal.returns
returns c =
    c.unquoted.ensures
    ∙ ap (λ (x : List ℕ). unquoted x) (c.trimmed-bare.ensures ∙ ap (λ (x : List ℕ). trimmed x) (c.but_last-inside.ensures ∙ ap (λ (s : List ℕ). take (length s - 1) s) c.behind-rest.ensures))
