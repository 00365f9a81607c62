use Rattle.std.proofs.Common.{ap, ◌∙◌}
use Rattle.std.specs.Map.{lookup}
use Rattle.caja_units.specs.Units.{same_units}
use Rattle.page_roots.specs.Roots.{place_of}
use Rattle.page_roots.proofs.Tables.{found}
use Rattle.page_roots.proofs.roots.Roots.number.Goals as goal

pub returns : goal.returns
returns c =
    c.copied.ensures ∙ c.get.ensures ∙ ap (lookup (same_units c.args.id.now)) c.self.invariant.1 ∙ found c.args.id.now c.self.inside.list.items
    ∙ ap (λ rs. place_of rs c.args.id.now) c.self.view_is
