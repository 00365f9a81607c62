-- The prelude is spelled by the tokens of its text.
use Rattle.std.proofs.Common.{◌≡◌, ℕ, ◌<◌, List, length, refl, ap, ◌∙◌, arith, lit<}
use Rattle.std.proofs.lemmas.List.{length-map}
use Rattle.std.proofs.lemmas.List.Elements.{All-map}
use Rattle.es3_tree.specs.Tree as t
use Rattle.es3_tree.specs.Placed as p
use Rattle.es3_tree.specs.Placed.{Placed}
use Rattle.es3_tokens.specs.Back.{IsToken}
use Rattle.es3_grammar.specs.Spots.{Spot, spots}
use Rattle.es3_grammar.specs.Grammar.{free, Spells, s_script}
use Rattle.es3_grammar.specs.Limit.{Within}
use Rattle.es3_grammar.specs.Within as within
use Rattle.es3_grammar.specs.Within.{Reading, read_within}
use Rattle.es3_grammar.specs.Answers.{answer_of, read}
use Rattle.es3_grammar.proofs.Limits.{within_sound}
use Rattle.es3_printed.specs.Back.{AreTokens}
use Rattle.es3_printed.proofs.SourceTokens.{cut_tokens}
use Rattle.source_sizes.proofs.Cut.{tokens_fit}
use Rattle.valija_prelude.specs.Text.{prelude_text}
use Rattle.valija_prelude.specs.Read.{prelude_statements}
use Rattle.valija_prelude.proofs.Accepted.{prelude_is_accepted}
use Rattle.valija_spelled.proofs.Pieces.{Spelt}

-- what is read is spelled
read_is_spelled : (end : ℕ) (u : List Spot) (r : Reading) (x : Placed t.program) → read_within 128 u ≡ r → answer_of end r ≡ read x → Within 128 x u
read_is_spelled end u (within.program y) x is e = within_sound 128 x u (is ∙ ap within.program cc)
read_is_spelled end u within.broken x is e = absurd cc
read_is_spelled end u (within.refused v) x is e = absurd cc
read_is_spelled end u (within.too_deep v) x is e = absurd cc

statements_of : {ss : Placed t.stmts} {u : List Spot} → Spells t.program free 0 (p.script ss) u → Spells t.stmts free 1 ss u
statements_of (s_script ss u o) = o

pub prelude_spelt : Spelt t.stmts free 1 prelude_statements (length prelude_text)
prelude_spelt =
    let a = prelude_is_accepted in
    let w = read_is_spelled (length prelude_text) (spots a.spelled_by) (read_within 128 (spots a.spelled_by)) (p.script prelude_statements) refl a.read in
    let tokens : AreTokens (spots a.spelled_by) = All-map (λ c. IsToken c.0) (λ t. (t.token, t.start)) a.spelled_by (cut_tokens (length prelude_text) prelude_text a.spelled_by a.cut) in
    let fit = tokens_fit (length prelude_text) prelude_text a.spelled_by a.cut in
    record { by = spots a.spelled_by; are = record { all = tokens }; spelled = statements_of w.spelled; few = omega (arith, fit, length-map {B = Spot} a.spelled_by (λ r. (r.token, r.start))) }

pub prelude_short : length prelude_text < 4000
prelude_short = lit< tt
