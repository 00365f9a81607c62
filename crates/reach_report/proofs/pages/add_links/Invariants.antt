-- What was linked, and what the grants that are left link.
use Rattle.std.proofs.Common.{◌≡◌, ◌++◌, drop}
use Rattle.page_manifest.specs.View.{grants}
use Rattle.page_manifest.specs.Deeds.{all_given}
use Rattle.page_roots.specs.Roots.{number_in}
use Rattle.reach_report.specs.Links.{grant_links}
use Rattle.reach_report.proofs.pages.add_links.Given as goal

abbrev pub invariant-loop-grant : goal.invariant-loop-grant
invariant-loop-grant l = l.links.items ++ grant_links l.m (all_given (number_in l.roots) (grants (drop l.grant-index l.grants))) ≡ l.fn.links.items ++ grant_links l.m (all_given (number_in l.roots) (grants l.grants))
