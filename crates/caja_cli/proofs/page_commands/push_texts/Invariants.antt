use Rattle.std.proofs.Common.{◌≡◌, ◌++◌, map}
use Rattle.page_manifest.specs.View.{module_spec}
use Rattle.page_cajole.specs.PageAnswers.{runnable}
use Rattle.caja_cli.specs.Output.{module_parts}
use Rattle.caja_cli.proofs.page_commands.push_texts.Given as goal

abbrev pub invariant-loop-spec : goal.invariant-loop-spec
invariant-loop-spec l = l.out.items ++ module_parts (map module_spec l.spec-iterator.a.rest.now) (map runnable l.spec-iterator.b.rest.now) ≡ l.fn.out.items ++ module_parts (map module_spec l.fn.page.modules.items) (map runnable l.fn.cajoled)
