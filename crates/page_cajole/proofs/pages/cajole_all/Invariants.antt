use Rattle.std.proofs.Common.{◌≡◌, map, drop}
use Rattle.page_manifest.specs.View.{module_spec}
use Rattle.page_cajole.specs.Pages.{each}
use Rattle.page_cajole.specs.PageAnswers.{runnable}
use Rattle.page_cajole.proofs.Each.{behind}
use Rattle.page_cajole.proofs.pages.cajole_all.Given as goal

abbrev pub invariant-loop-i : goal.invariant-loop-i
invariant-loop-i l = behind (map runnable l.modules.items) (each l.i (map module_spec (drop l.i l.page.modules.items))) ≡ each 0 (map module_spec l.page.modules.items)
