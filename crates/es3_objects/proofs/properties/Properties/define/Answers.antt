use Rattle.std.proofs.Common.{◌≡◌, Some, true, false, ◌&&◌, is_some, ap, sym, ◌∙◌, rules}
use Rattle.std.proofs.lemmas.Result.{on_ok_weaker}
use Rattle.caja_units.specs.Units.{same_units}
use Rattle.caja_units.specs.Index.{array_index}
use Rattle.caja_units.proofs.Indices.{array_index-gives}
use Rattle.property_tables.specs.Indexed.{entries}
use Rattle.es3_objects.specs.Properties.{defined}
use Rattle.es3_objects.specs.Held.{listed, with_length}
use Rattle.es3_objects.proofs.Listed.{asks, defined-listed, defined-length, defined-other}
use Rattle.es3_objects.proofs.properties.Properties.define.Goals as goal

pub returns-then-asks_length-clause-ok : goal.returns-then-asks_length-clause-ok
returns-then-asks_length-clause-ok c =
    let l = c.self.inside.length in
    let es = entries c.self.inside.others in
    let asked : asks l c.args.k.now ≡ true = ap (λ j. is_some l && same_units c.args.k.now j) (sym c.requires) ∙ sym c.asks_length.ensures ∙ c.if-asks_length.true in
    defined-length l c.args.k.now c.args.value c.args.attrs (listed es) asked ∙ ap (defined c.args.k.now c.args.value c.args.attrs) c.self.view_is

pub returns-clause-ok : goal.returns-clause-ok
returns-clause-ok c =
    let l = c.self.inside.length in
    let es = entries c.self.inside.others in
    let asked : asks l c.args.k.now ≡ false = ap (λ j. is_some l && same_units c.args.k.now j) (sym c.requires) ∙ sym c.asks_length.ensures ∙ c.if-asks_length.false in
    ap (λ x. with_length l (listed x)) c.in_ok-insert.ensures.ok ∙ ap (with_length l) (defined-listed c.args.k.now c.args.value c.args.attrs es)
    ∙ defined-other l c.args.k.now c.args.value c.args.attrs (listed es) asked ∙ ap (defined c.args.k.now c.args.value c.args.attrs) c.self.view_is

pub define_item-requires : goal.define_item-requires
define_item-requires c =
    let index : array_index c.args.k.now ≡ Some c.in-Some.i = search rules in
    (array_index-gives c.args.k.now c.in-Some.i index).1

pub returns-in-Some-clause-ok : goal.returns-in-Some-clause-ok
returns-in-Some-clause-ok c =
    let index : array_index c.args.k.now ≡ Some c.in-Some.i = search rules in
    on_ok_weaker c.define_item.result (λ is. is ∙ ap (λ k. defined k c.args.value c.args.attrs c.args.self.now) (sym (array_index-gives c.args.k.now c.in-Some.i index).0)) c.define_item.ensures.ok
