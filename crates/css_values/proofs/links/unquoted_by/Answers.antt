use Rattle.std.proofs.Common.{◌≡◌, ◌<◌, ℕ, List, length, arith, sym, ap, ◌∙◌}
use Rattle.css_kept.specs.Table.{unquoted}
use Rattle.css_values.proofs.Quoted.{alone, in_quotes, bare}
use Rattle.css_values.proofs.links.unquoted_by.Goals as goal

pub returns-then-length-eq0 : goal.returns-then-length-eq0
returns-then-length-eq0 c =
    let e : length c.args.rest.now ≡ 0 = omega (arith, c.if-length-eq0.true) in
    c.requires ∙ alone c.args.quote c.args.rest.now e ∙ ap (λ (x : List ℕ). unquoted x) (sym c.requires)

pub returns-then-is_closed : goal.returns-then-is_closed
returns-then-is_closed c =
    let some : 0 < length c.args.rest.now = omega (arith, c.if-length-eq0.false) in
    in_quotes c.args.quote c.args.rest.now c.but_last.result.now some (sym c.is_closed.ensures ∙ c.if-is_closed.true) c.but_last.ensures ∙ ap (λ (x : List ℕ). unquoted x) (sym c.requires)

pub returns : goal.returns
returns c =
    let some : 0 < length c.args.rest.now = omega (arith, c.if-length-eq0.false) in
    c.requires ∙ bare c.args.quote c.args.rest.now some (sym c.is_closed.ensures ∙ c.if-is_closed.false) ∙ ap (λ (x : List ℕ). unquoted x) (sym c.requires)
