use Rattle.std.proofs.Common.{ap, ◌∙◌}
use Rattle.global_names.specs.Opening.{with_global_names, text_globals}
use Rattle.page_runner.proofs.running.open_texts.Goals as goal

pub returns-clause-heap : goal.returns-clause-heap
returns-clause-heap c = c.in_ok-opened-2.ensures.store ∙ ap with_global_names c.in_ok-opened.ensures.heap

pub returns-clause-globals : goal.returns-clause-globals
returns-clause-globals c = c.in_ok-opened-2.ensures.id ∙ ap text_globals c.in_ok-opened.ensures.heap
