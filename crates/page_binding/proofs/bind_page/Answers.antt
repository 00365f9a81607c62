use Rattle.std.proofs.Common.{ℕ, List}
use Rattle.std.specs.Map.{keys_of}
use Rattle.page_manifest.specs.View.{page}
use Rattle.page_roots.specs.Roots.{Roots}
use Rattle.page_binding.proofs.Entering.{of_same}
use Rattle.page_binding.proofs.Bind.{walk_stops, by_table}
use Rattle.page_binding.proofs.bind_page.Goals as goal

pub returns-in-Err-clause-answer : goal.returns-in-Err-clause-answer
returns-in-Err-clause-answer c = walk_stops (page c.args.page.now) c.nodes.result.now c.args.html.now c.in_ok-roots.roots c.in-Err.error c.nodes.ensures.same c.in-Err.ensures

pub returns-in-Ok-clause-answer : goal.returns-in-Ok-clause-answer
returns-in-Ok-clause-answer c =
    of_same {A = Roots} {B = List (List ℕ)} keys_of c.checked.result _ _
    (by_table (page c.args.page.now) c.nodes.result.now c.args.html.now c.in_ok-roots.roots c.in-Ok.table c.nodes.ensures.same c.in_ok-roots.ensures c.in-Ok.ensures) c.checked.ensures.answer
