use Rattle.std.proofs.Common.{◌≡◌, ◌∷◌, [], ◌++◌, ◌-◌, ap, sym, ◌∙◌, arith, rules}
use Rattle.std.proofs.lemmas.List.{append-nil}
use Rattle.es3_objects.specs.Properties.{find, value_of, length_of, length_key}
use Rattle.es3_objects.specs.Items.{values_from}
use Rattle.es3_objects.proofs.Values.{values_from-more}
use Rattle.es3_objects.proofs.properties.Properties.items.Goals as goal

pub loop-index-preserved : goal.loop-index-preserved
loop-index-preserved c =
    let pushed : c.push.new.self.items ≡ c.loop-index.items.items ++ c.in_ok-item.item ∷ [] = search rules in
    values_from-more _ c.loop-index.index c.args.self.now c.loop-index.items.items c.push.new.self.items _ c.in_ok-item.item (omega arith) c.loop-index.invariant c.in_ok-item.ensures pushed

pub returns : goal.returns
returns c =
    let ps = c.args.self.now in
    let count = c.length-count.result in
    let none : count - c.loop-index.index ≡ 0 = omega arith in
    let is : count ≡ length_of (value_of (find length_key ps)) = c.length-count.ensures ∙ ap (λ k. length_of (value_of (find k ps))) c.requires in
    sym (append-nil c.loop-index.items.items) ∙ ap (λ n. c.loop-index.items.items ++ values_from n c.loop-index.index ps) (sym none) ∙ c.loop-index.invariant ∙ ap (λ n. values_from n 0 ps) is
