-- A host that stands below another.
use Rattle.std.proofs.Common.{◌≡◌, ℕ, ◌+◌, ◌-◌, ◌<◌, suc, List, ◌∷◌, drop, length, get_or, nat_eq, bytes_eq, sym, ap, ◌∙◌, arith}
use Rattle.std.proofs.lemmas.List.{drop_more}
use Rattle.std.specs.Cmp.Lexicographic.{pointwise}
use Rattle.url_rule.specs.Table.{is_below}

-- from a point on it is the other
pub below : (h host : List ℕ) → length h < length host → get_or host (length host - length h - 1) 0 ≡ 46
    → bytes_eq h (drop (length host - length h - 1 + 1) host) ≡ is_below h host
below h host small point =
    let n = length host - length h - 1 in
    let inside : n < length host = omega arith in
    let place : length host - suc (length h) ≡ n = omega arith in
    let front : drop n host ≡ 46 ∷ drop (n + 1) host = drop_more host n 0 inside ∙ ap (λ (c : ℕ). c ∷ drop (n + 1) host) point in
    sym (ap (λ (k : ℕ). pointwise nat_eq (46 ∷ h) (drop k host)) place ∙ ap (pointwise nat_eq (46 ∷ h)) front)
