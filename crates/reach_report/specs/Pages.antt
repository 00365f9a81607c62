-- The groups of a page.
use Rattle.std.specs.Prelude.{ℕ, List, map, length}
use Rattle.page_deeds.specs.Deeds.{Grants}
use Rattle.page_manifest.specs.Page.{Module, Page}
use Rattle.page_manifest.specs.Deeds.{all_given}
use Rattle.page_roots.specs.Roots.{Roots, number_in, roots_of}
use Rattle.reach_report.specs.Links.{page_links}
use Rattle.reach_report.specs.Groups.{groups}

-- what its modules are granted, in the order in which they are loaded, where these are the roots
abbrev pub grants_by : Roots → Page → List Grants
grants_by roots p = map (λ (m : Module). all_given (number_in roots) m.grants) p.modules

abbrev pub grants_of : Page → List Grants
grants_of p = grants_by (roots_of p) p

abbrev pub page_groups : Page → List (List ℕ)
page_groups p = groups (page_links (grants_of p)) (length p.modules)
