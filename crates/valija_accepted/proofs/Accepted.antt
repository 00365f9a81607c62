-- A program that breaks no rule of Valija is lowered to a source that breaks none of Cajita, the prelude in front.
use Rattle.std.proofs.Common.{◌≡◌, ℕ, List, map, None, ap}
use Rattle.es3_tree.specs.Tree as t
use Rattle.es3_tree.specs.Placed as p
use Rattle.es3_tree.specs.Placed.{Placed}
use Rattle.es3_labels.specs.Around.{in_program}
use Rattle.es3_labels.specs.Misplaced.{misplaced}
use Rattle.es3_grammar.specs.Spots.{Spot}
use Rattle.es3_grammar.specs.Grammar.{free, Spells}
use Rattle.cajita_rules.specs.Faults as cajita
use Rattle.cajita_rules.specs.Faults.{module_scope, ordered, first}
use Rattle.cajita_rules.proofs.Order.{none_at_all}
use Rattle.valija_rules.specs.Faults as valija
use Rattle.valija_lower.specs.Module.{lowered_source}
use Rattle.valija_prelude.specs.Read.{prelude_statements}
use Rattle.valija_prelude.proofs.Accepted.{prelude_is_accepted}
use Rattle.valija_accepted.proofs.Lists.{no_front, no_back}
use Rattle.valija_accepted.proofs.Formed.{formed_script}
use Rattle.valija_accepted.proofs.Bodies.{GoodBody}
use Rattle.valija_accepted.proofs.Module.{none_mapped, no_faults_after}
use Rattle.valija_accepted.proofs.Prelude.{the_prelude}

pub accepted : (grants : List (List ℕ)) (body : Placed t.stmts) (u : List Spot) → Spells t.program free 0 (p.script body) u → first (valija.faults grants body) ≡ None → first (cajita.faults grants (lowered_source prelude_statements grants body)) ≡ None
accepted grants body u spelled clean =
    let none = none_at_all (valija.all_faults grants body) clean in
    let h : GoodBody (module_scope grants body) in_program body = record {
      formed = formed_script spelled;
      rules = no_front (valija.faults_in (module_scope grants body) t.stmts body) (map valija.bad_label (misplaced in_program t.stmts body)) none;
      jumps = none_mapped valija.bad_label (misplaced in_program t.stmts body) (no_back (valija.faults_in (module_scope grants body) t.stmts body) (map valija.bad_label (misplaced in_program t.stmts body)) none);
    } in
    let prelude = prelude_is_accepted in
    ap (λ fs. first (ordered fs)) (no_faults_after grants body h prelude_statements the_prelude prelude.rules)
