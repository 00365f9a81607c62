-- A program of a dialect as one of Cajita: where tokens spell the one, tokens spell the other, not many more of them; it breaks no rule where the program breaks none of its dialect;
-- and the program that stands for its module nests little.
use Rattle.std.proofs.Common.{◌≡◌, ◌≤◌, ℕ, List, length, Some, None, arith}
use Rattle.std.proofs.lemmas.List.{length-map}
use Rattle.std.proofs.lemmas.List.Elements.{All-map}
use Rattle.es3_tree.specs.Tree as t
use Rattle.es3_tree.specs.Measure.{nest}
use Rattle.es3_tree.specs.Placed as placed
use Rattle.es3_tree.specs.Placed.{Placed}
use Rattle.es3_tokens.specs.Back.{IsToken}
use Rattle.es3_grammar.specs.Spots.{Spot, spots}
use Rattle.es3_grammar.specs.Plain.{plain}
use Rattle.es3_printed.specs.Back.{AreTokens}
use Rattle.es3_printed.proofs.SourceTokens.{cut_tokens}
use Rattle.cajita_tree.specs.Tree as c
use Rattle.cajita_rules.specs.Faults.{faults, first}
use Rattle.cajita_rewrite.specs.Rewrite.{program_of}
use Rattle.source_sizes.proofs.Cut.{tokens_fit, source_fits}
use Rattle.cajoled_nesting.proofs.Source.{source_nests}
use Rattle.valija_accepted.proofs.Accepted.{accepted}
use Rattle.valija_spelled.specs.Written.{IsWritten}
use Rattle.valija_spelled.proofs.Spelled.{lowered_is_spelled}
use Rattle.valija_nesting.proofs.Module.{lowered_nests}
use Rattle.page_cajole.specs.Source.{Spells, source_limits}
use Rattle.page_cajole.specs.declared.dialects.Dialect.{Dialect}
use Rattle.page_cajole.specs.declared.dialects.Dialect.TheVariants.{Cajita, Valija}
use Rattle.page_cajole.specs.Dialects.{fault_in, in_cajita, module_in}

module _ (granted : List (List ℕ)) (source : List ℕ) (body : Placed t.stmts) (h : Spells source_limits source (placed.script body)) where
  its_tokens : AreTokens (spots h.spelled_by)
  its_tokens = All-map (λ c. IsToken c.0) (λ t. (t.token, t.start)) h.spelled_by (cut_tokens source_limits.longest source h.spelled_by h.cut)

  few_tokens : length (spots h.spelled_by) ≤ 524288
  few_tokens = omega (arith, length-map {B = Spot} h.spelled_by (λ r. (r.token, r.start)), tokens_fit source_limits.longest source h.spelled_by h.cut, source_fits source_limits.longest source h.spelled_by h.cut)

  pub written_in : (dialect : Dialect) → IsWritten (in_cajita dialect granted body) 1099511627776
  written_in Cajita = record { by = spots h.spelled_by; spelled = h.within.spelled; tokens = its_tokens; few = omega (arith, few_tokens) }
  written_in Valija =
      let w = lowered_is_spelled granted body (spots h.spelled_by) h.within.spelled its_tokens in
      record { by = w.by; spelled = w.spelled; tokens = w.tokens; few = omega (arith, w.few, few_tokens) }

  pub unbroken_in : (dialect : Dialect) → fault_in dialect granted body ≡ None → first (faults granted (in_cajita dialect granted body)) ≡ None
  unbroken_in Cajita e = e
  unbroken_in Valija e = accepted granted body (spots h.spelled_by) h.within.spelled e

  pub nests_in : (dialect : Dialect) (m : c.Tree c.program) → module_in dialect granted body ≡ Some m → nest t.program (program_of m) ≤ 1024
  nests_in Cajita m e =
      let shallow : nest t.stmts (plain t.stmts body) ≤ 128 = h.within.shallow in
      let few : nest t.program (program_of m) ≤ 520 = source_nests granted body m e shallow in
      omega (arith, few)
  nests_in Valija m e = let shallow : nest t.stmts (plain t.stmts body) ≤ 128 = h.within.shallow in lowered_nests granted body m e shallow
