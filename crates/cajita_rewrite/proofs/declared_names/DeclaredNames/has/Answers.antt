use Rattle.std.proofs.Common.{is_some, ap, ◌∙◌}
use Rattle.std.proofs.lemmas.Map.Made.{is_some-lookup}
use Rattle.std.specs.List.{list_any}
use Rattle.caja_units.specs.Units.{same_units}
use Rattle.cajita_rewrite.proofs.Names.{copied-found}
use Rattle.cajita_rewrite.proofs.declared_names.DeclaredNames.has.Goals as goal

pub returns : goal.returns
returns c =
    c.is_some.ensures ∙ copied-found c.get.result ∙ ap is_some c.get.ensures
    ∙ is_some-lookup (same_units c.args.name.now) c.self.inside.table
    ∙ ap (list_any (same_units c.args.name.now)) c.self.view_is
