use Rattle.std.proofs.Common.{◌≡◌, ◌-◌, filter, not, Some, pos, ap, sym, ◌∙◌, arith, rules}
use Rattle.es3_objects.specs.declared.value.Value.TheVariants.{Num}
use Rattle.es3_objects.specs.Objects.{Property, fixed_attrs}
use Rattle.es3_objects.specs.Properties.{defined, length_key}
use Rattle.es3_objects.specs.Items.{is_past}
use Rattle.es3_objects.proofs.Dense.{last-found, shorter-dense}
use Rattle.es3_objects.proofs.properties.Properties.pop_item.Goals as goal

pub returns-clause-answer : goal.returns-clause-answer
returns-clause-answer c = ap Some c.in_ok-last.ensures ∙ sym (last-found c.args.count (c.args.count - 1) c.args.self.now c.requires.dense (omega arith))

pub returns-clause-left : goal.returns-clause-left
returns-clause-left c =
    let left = c.args.count - 1 in
    let ps = c.args.self.now in
    let short = filter (λ (p : Property). not (is_past left p)) ps in
    let count : c.whole.result ≡ pos left = search rules in
    c.in_ok-define.ensures.ok ∙ ap (λ qs. defined c.args.length_key.now (Num c.whole.result) fixed_attrs qs) c.shorten.ensures
    ∙ ap (λ k. defined k (Num c.whole.result) fixed_attrs short) c.requires.name ∙ ap (λ n. defined length_key (Num n) fixed_attrs short) count
    ∙ shorter-dense c.args.count left ps c.requires.dense (omega arith)
