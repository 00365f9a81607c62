use Rattle.std.proofs.Common.{◌≡◌, map, take}
use Rattle.page_manifest.specs.View.{module_spec}
use Rattle.caja_cli.proofs.page_commands.module_names.Given as goal

abbrev pub invariant-loop-spec : goal.invariant-loop-spec
invariant-loop-spec l = l.names.items ≡ map (λ m. m.name) (map module_spec (take l.spec-index l.spec-items))
