use Rattle.std.proofs.Common.{ap, ◌∙◌, map, arith}
use Rattle.std.proofs.lemmas.List.{take_all}
use Rattle.page_manifest.proofs.Told.{named}
use Rattle.page_manifest.proofs.bound.module_names.Goals as goal

pub returns : goal.returns
returns c = c.loop-module.invariant ∙ ap (map (λ m. m.name)) (take_all c.loop-module.module-index c.args.modules.now (omega arith)) ∙ named c.args.modules.now
