use Rattle.std.proofs.Common.{true, ap, ◌∙◌}
use Rattle.std.proofs.lemmas.Result.{on_ok_weaker}
use Rattle.std.specs.Map.{keys_of}
use Rattle.indexmap.proofs.SetLemmas.{keys_insert_entry}
use Rattle.caja_units.specs.Units.{same_units}
use Rattle.cajita_rewrite.specs.Table.{with_name}
use Rattle.cajita_rewrite.proofs.declared_names.DeclaredNames.add.Goals as goal

pub returns : goal.returns
returns c =
    on_ok_weaker c.insert.result
    (λ done. ap keys_of done ∙ keys_insert_entry same_units c.self.inside.table c.args.name.now true ∙ ap (λ names. with_name names c.args.name.now) c.self.view_is)
    c.insert.ensures.ok
