use Rattle.std.proofs.Common.{◌≡◌, ◌∙◌, sym, ap, is_some, true, false, Some, position}
use Rattle.std.specs.Map.{lookup, keys_of, set_value}
use Rattle.caja_units.specs.Units.{same_units}
use Rattle.property_tables.proofs.Entries.{set-at, set-none, set-is_insert}
use Rattle.property_tables.proofs.table.TableProps.replace.Goals as goal

pub returns : goal.returns
returns g c =
    let es = c.self.inside.entries.entries in
    let at : position (same_units c.args.k.now) (keys_of es) ≡ Some c.in-Some.at = sym c.get_index_of.ensures.index ∙ c.in-Some.is in
    let there : is_some (lookup (same_units c.args.k.now) es) ≡ true = sym c.get_index_of.ensures.found ∙ ap is_some c.in-Some.is in
    set-at c.args.k.now c.args.p es c.in-Some.at at ∙ sym (set-is_insert c.args.k.now c.args.p es there) ∙ ap (λ l. set_value (same_units c.args.k.now) l c.args.p) c.self.view_is

pub returns-in_default : goal.returns-in_default
returns-in_default g c =
    let es = c.self.inside.entries.entries in
    let none : is_some (lookup (same_units c.args.k.now) es) ≡ false = sym c.get_index_of.ensures.found ∙ ap is_some c.in_default.is in
    sym (ap (λ l. set_value (same_units c.args.k.now) l c.args.p) (sym c.self.view_is) ∙ set-none (same_units c.args.k.now) c.args.p es none ∙ c.self.view_is)
