-- What was linked, and what the modules that are left link.
use Rattle.std.proofs.Common.{◌≡◌, ◌++◌, drop}
use Rattle.page_manifest.specs.View.{page}
use Rattle.reach_report.specs.Links.{page_links, links_from}
use Rattle.reach_report.specs.Pages.{grants_by}
use Rattle.reach_report.proofs.Grants.{granted}
use Rattle.reach_report.proofs.pages.links_by.Given as goal

abbrev pub invariant-loop-m : goal.invariant-loop-m
invariant-loop-m l = l.links.items ++ links_from l.m (granted l.roots (drop l.m l.page.modules.items)) ≡ page_links (grants_by l.roots (page l.page))
