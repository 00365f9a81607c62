use Rattle.std.proofs.Common.{◌≡◌, vec_len, ap, sym, ◌∙◌, length, true, false, arith}
use Rattle.std.specs.Bool.{◌==◌}
use Rattle.rewrite_parts.proofs.Joined.{var-pushed, no-var, empty_items}
use Rattle.rewrite_parts.proofs.heads.add_var.Goals as goal

pub returns-in_ok-push : goal.returns-in_ok-push
returns-in_ok-push c =
    var-pushed c.args.out.now.items c.args.items.items _ c.make_var.result
    (λ e. let none : vec_len c.args.items ≡ 0 = omega (arith, c.args.items.ok.0, ap length e) in let told : false ≡ true = sym c.if-not-is_empty.true ∙ c.is_empty.ensures ∙ ap (λ n. n == 0) none in cc)
    c.make_var.ensures.plain c.in_ok-push.ensures.items

pub returns-else-not-is_empty : goal.returns-else-not-is_empty
returns-else-not-is_empty c =
    no-var c.args.out.now.items c.args.items.items (empty_items c.args.items (sym c.is_empty.ensures ∙ c.if-not-is_empty.false))
