use Rattle.std.proofs.Common.{◌≡◌, ◌+◌, length, pos, refl, ap, ◌∙◌, rules}
use Rattle.std.proofs.lemmas.Result.{on_ok_weaker}
use Rattle.es3_objects.specs.declared.value.Value.TheVariants.{Num}
use Rattle.es3_objects.specs.Objects.{fixed_attrs}
use Rattle.es3_objects.specs.Properties.{defined, length_key}
use Rattle.es3_objects.specs.Items.{with_items}
use Rattle.es3_objects.proofs.Dense.{appended-dense}
use Rattle.es3_objects.proofs.properties.Properties.push_items.Goals as goal

pub returns : goal.returns
returns c =
    let ps = c.args.self.now in
    let ys = c.args.items.items in
    let longer : c.whole.result ≡ pos (c.args.count + length ys) = search rules in
    let set : c.define.new.self ≡ defined length_key (Num (pos (c.args.count + length ys))) fixed_attrs ps =
    c.in_ok-define.ensures.ok ∙ ap (λ k. defined k (Num c.whole.result) fixed_attrs ps) c.requires.name ∙ ap (λ n. defined length_key (Num n) fixed_attrs ps) longer in
    on_ok_weaker c.write_items.result (λ is. is ∙ ap (with_items c.args.count ys) set ∙ appended-dense c.args.count (c.args.count + length ys) ys ps c.requires.dense refl) c.write_items.ensures
