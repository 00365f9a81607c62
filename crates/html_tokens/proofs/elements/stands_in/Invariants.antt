use Rattle.std.proofs.Common.{◌≡◌, drop, map}
use Rattle.html_grammar.specs.Tables.{is_in}
use Rattle.html_tokens.proofs.elements.stands_in.Given as goal

abbrev pub invariant-loop-entry : goal.invariant-loop-entry
invariant-loop-entry l = is_in (map (λ x. x.now) (drop l.entry-index l.table)) l.text ≡ is_in (map (λ x. x.now) l.table) l.text
