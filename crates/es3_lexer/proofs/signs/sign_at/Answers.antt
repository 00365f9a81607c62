use Rattle.std.proofs.Common.{ℕ, ◌≡◌, ◌<◌, ◌-◌, List, Option, Some, None, take, sym, ap, ◌∙◌, arith}
use Rattle.es3_lexer.specs.Tables.{punct_number}
use Rattle.es3_lexer.proofs.signs.sign_at.Goals as goal
use Rattle.es3_lexer.proofs.SignFronts.{longest_step, longest_zero_none}
use Rattle.es3_tokens.specs.Cut.{Step, token_step}
use Rattle.es3_tokens.specs.Longest.{longest, or_shorter}
use Rattle.es3_tokens.specs.Steps.{sign}
use Rattle.es3_tokens.specs.Tokens.{made, place_in}
use Rattle.es3_tree.specs.Token.{punct, puncts}

step : (s : List ℕ) (n : ℕ) (o : Option ℕ) (x : Step) → 0 < n → o ≡ place_in puncts (take n s) → token_step (longest sign n s) ≡ x → token_step (or_shorter (made punct o) n (longest sign (n - 1) s)) ≡ x
step s n o x lt h e = ap (λ o. token_step (or_shorter (made punct o) n (longest sign (n - 1) s))) h ∙ ap token_step (sym (longest_step sign n s lt)) ∙ e

pub returns-in-Some : goal.returns-in-Some
returns-in-Some c = step c.args.s.now c.loop-n.n (Some (punct_number c.in-Some.punct)) _ c.loop-n-test.true c.in-Some.ensures c.loop-n.invariant.rest

pub loop-n-preserved : goal.loop-n-preserved
loop-n-preserved c = record { rest = step c.args.s.now c.loop-n.n None _ c.loop-n-test.true c.in_default.ensures c.loop-n.invariant.rest; within = omega arith }

pub returns : goal.returns
returns c = let z : c.loop-n.n ≡ 0 = omega arith in sym (ap (λ n. token_step (longest sign n c.args.s.now)) z ∙ ap token_step (longest_zero_none sign c.args.s.now)) ∙ c.loop-n.invariant.rest
