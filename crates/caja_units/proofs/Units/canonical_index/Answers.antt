use Rattle.std.proofs.Common.{length, ap, sym, ◌∙◌, arith}
use Rattle.caja_units.specs.Index.{array_index}
use Rattle.caja_units.proofs.Indices.{array_index-none, not_number-long}
use Rattle.caja_units.proofs.Units.canonical_index.Goals as goal

pub returns-in_err-flat-in-None : goal.returns-in_err-flat-in-None
returns-in_err-flat-in-None c =
    c.from_residual.ensures ∙ sym (array_index-none c.args.self.now (λ n lt e. not_number-long c.args.self.now (omega (arith, c.in_err-flat-in-None.ensures.long, ap length c.self.view_is)) n (omega arith) e))

pub returns-in-Some : goal.returns-in-Some
returns-in-Some c = c.below_max.ensures ∙ ap array_index (sym c.in-Some.ensures ∙ c.self.view_is)
