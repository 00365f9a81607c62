-- What a program that tokens spell is lowered to, the prelude in front, is spelled by tokens.
use Rattle.std.proofs.Common.{ℕ, ◌+◌, ◌*◌, List, length, arith}
use Rattle.es3_tree.specs.Tree as t
use Rattle.es3_tree.specs.Placed as p
use Rattle.es3_tree.specs.Placed.{Placed}
use Rattle.es3_grammar.specs.Spots.{Spot}
use Rattle.es3_grammar.specs.Grammar.{free, Spells, s_script}
use Rattle.es3_printed.specs.Back.{AreTokens}
use Rattle.cajita_rules.specs.Faults.{module_scope}
use Rattle.valija_lower.specs.Module.{lowered_source}
use Rattle.valija_prelude.specs.Read.{prelude_statements}
use Rattle.valija_spelled.specs.Written.{IsWritten}
use Rattle.valija_spelled.proofs.Lines.{one_behind}
use Rattle.valija_spelled.proofs.Functions.{whole_body}
use Rattle.valija_spelled.proofs.Program.{Part, part}
use Rattle.valija_spelled.proofs.Prelude.{prelude_spelt, prelude_short}

pub lowered_is_spelled : (grants : List (List ℕ)) (body : Placed t.stmts) (u : List Spot) → Spells t.program free 0 (p.script body) u → AreTokens u
    → IsWritten (lowered_source prelude_statements grants body) (64 * length u + 4096)
lowered_is_spelled grants body _ (s_script _ u o) h =
    let q : Part t.stmts free 1 body u = part o (record { all = h }) in
    let lines = q.part in
    let s = one_behind prelude_spelt (whole_body body lines.declared (lines.low (module_scope grants body) 0)) in
    record { by = s.by; spelled = s_script _ s.by s.spelled; tokens = s.are.all; few = omega (arith, s.few, q.room, prelude_short) }
