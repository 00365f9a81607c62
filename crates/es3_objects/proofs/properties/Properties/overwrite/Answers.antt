use Rattle.std.proofs.Common.{◌≡◌, true, false, ◌&&◌, is_some, ap, sym, ◌∙◌}
use Rattle.caja_units.specs.Units.{same_units}
use Rattle.property_tables.specs.Indexed.{entries}
use Rattle.es3_objects.specs.Properties.{find, defined}
use Rattle.es3_objects.specs.Held.{listed, with_length}
use Rattle.es3_objects.proofs.Listed.{asks, find-other, replaced-listed, defined-length, defined-other}
use Rattle.es3_objects.proofs.properties.Properties.overwrite.Goals as goal

pub returns-then-asks_length : goal.returns-then-asks_length
returns-then-asks_length c =
    let l = c.self.inside.length in
    let es = entries c.self.inside.others in
    let asked : asks l c.args.k.now ≡ true = ap (λ j. is_some l && same_units c.args.k.now j) (sym c.requires.name) ∙ sym c.asks_length.ensures ∙ c.if-asks_length.true in
    defined-length l c.args.k.now c.args.value c.args.attrs (listed es) asked ∙ ap (defined c.args.k.now c.args.value c.args.attrs) c.self.view_is

pub returns : goal.returns
returns c =
    let l = c.self.inside.length in
    let es = entries c.self.inside.others in
    let asked : asks l c.args.k.now ≡ false = ap (λ j. is_some l && same_units c.args.k.now j) (sym c.requires.name) ∙ sym c.asks_length.ensures ∙ c.if-asks_length.false in
    let there : is_some (find c.args.k.now (listed es)) ≡ true = ap is_some (sym (find-other l c.args.k.now (listed es) asked) ∙ ap (find c.args.k.now) c.self.view_is) ∙ c.requires.there in
    ap (λ x. with_length l (listed x)) c.replace.ensures ∙ ap (with_length l) (replaced-listed c.args.k.now c.args.value c.args.attrs es there)
    ∙ defined-other l c.args.k.now c.args.value c.args.attrs (listed es) asked ∙ ap (defined c.args.k.now c.args.value c.args.attrs) c.self.view_is
