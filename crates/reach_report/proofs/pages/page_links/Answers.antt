use Rattle.std.proofs.Common.{◌≡◌, subst}
use Rattle.std.specs.Prelude.{IfOk}
use Rattle.page_manifest.specs.View.{page}
use Rattle.reach_report.specs.Links.{page_links}
use Rattle.reach_report.specs.Pages.{grants_by}
use Rattle.page_roots.specs.Roots.{Roots}
use Rattle.reach_report.proofs.pages.page_links.Goals as goal

pub returns : goal.returns
returns c = subst (λ (roots : Roots). IfOk c.links_by.result (λ v. v.items ≡ page_links (grants_by roots (page c.args.page.now)))) c.in_ok-roots.ensures c.links_by.ensures
