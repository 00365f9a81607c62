-- Texts at their limit.
use Rattle.std.proofs.Common.{◌≡◌, ℕ, zero, suc, List, [], ◌∷◌, Ok, Err, refl}
use Rattle.std.specs.Prelude.{codes}
use Rattle.es3_tree.specs.Token.{punct}
use Rattle.es3_tokens.specs.Longest.{longest}
use Rattle.es3_tokens.specs.Texts.{body}
use Rattle.es3_tokens.specs.Gaps.{comment_end}
use Rattle.es3_tokens.specs.Cut as cut
use Rattle.es3_tokens.specs.Cut.{cut_chars, cut_from, point}
use Rattle.es3_grammar.specs.Spots.{Spot, spots, look_up}
use Rattle.es3_grammar.specs.Machine.{settle, resume, step, all_of, run, finished}
use Rattle.es3_grammar.specs.Within.{Reading, program, broken, refused, too_deep, run_within, read_within}

abbrev within_of : ℕ → cut.Answer → Reading
within_of n (Ok ts) = read_within n (spots ts)
within_of n (Err e) = broken

-- 0 for a program, 1 for a text that breaks off, 2 for a token that is refused, 3 for one that is too deep
abbrev outcome : Reading → ℕ
outcome (program p) = 0
outcome broken = 1
outcome (refused k) = 2
outcome (too_deep k) = 3

abbrev within : ℕ → List ℕ → ℕ
within n s = outcome (within_of n (cut_chars s))

-- so many times the same punctuator
abbrev times : ℕ → ℕ → List Spot
times zero p = []
times (suc n) p = (punct p, n) ∷ times n p

name_statement : within 2 (codes "a;") ≡ 0
unfolding longest body comment_end point cut_from look_up settle resume step all_of finished run run_within
name_statement = refl

name_too_deep : within 1 (codes "a;") ≡ 3
unfolding longest body comment_end point cut_from look_up settle resume step all_of finished run run_within
name_too_deep = refl

operand_forced : within 2 (codes "-") ≡ 3
unfolding longest body comment_end point cut_from look_up settle resume step all_of finished run run_within
operand_forced = refl

sum_fits : within 3 (codes "a + b;") ≡ 0
unfolding longest body comment_end point cut_from look_up settle resume step all_of finished run run_within
sum_fits = refl

sum_is_deep : within 2 (codes "a + b;") ≡ 3
unfolding longest body comment_end point cut_from look_up settle resume step all_of finished run run_within
sum_is_deep = refl

target_forced : within 3 (codes "++a;") ≡ 0
unfolding longest body comment_end point cut_from look_up settle resume step all_of finished run run_within
target_forced = refl

member_forced : within 3 (codes "++1") ≡ 3
unfolding longest body comment_end point cut_from look_up settle resume step all_of finished run run_within
member_forced = refl

member_fits : within 4 (codes "++1 .x;") ≡ 0
unfolding longest body comment_end point cut_from look_up settle resume step all_of finished run run_within
member_fits = refl

brackets_fit : within 1 (codes ";{") ≡ 1
unfolding longest body comment_end point cut_from look_up settle resume step all_of finished run run_within
brackets_fit = refl

block_in_block : within 2 (codes "{ { } }") ≡ 0
unfolding longest body comment_end point cut_from look_up settle resume step all_of finished run run_within
block_in_block = refl

third_block : within 2 (codes "{ { { } } }") ≡ 3
unfolding longest body comment_end point cut_from look_up settle resume step all_of finished run run_within
third_block = refl

parens_fit : within 2 (codes "((((a))));") ≡ 0
unfolding longest body comment_end point cut_from look_up settle resume step all_of finished run run_within
parens_fit = refl

parens_too_many : within 2 (codes "(((((a)))));") ≡ 3
unfolding longest body comment_end point cut_from look_up settle resume step all_of finished run run_within
parens_too_many = refl

condition_needs_room : within 2 (codes "{ { if") ≡ 3
unfolding longest body comment_end point cut_from look_up settle resume step all_of finished run run_within
condition_needs_room = refl

function_is_two : within 2 (codes "function f() {}") ≡ 0
unfolding longest body comment_end point cut_from look_up settle resume step all_of finished run run_within
function_is_two = refl

refused_first : within 2 (codes "a b + c") ≡ 2
unfolding longest body comment_end point cut_from look_up settle resume step all_of finished run run_within
refused_first = refl

declared_three : within 2 (codes "function f() { ; }") ≡ 3
unfolding longest body comment_end point cut_from look_up settle resume step all_of finished run run_within
declared_three = refl

braces_at_the_limit : outcome (read_within 128 (times 128 0)) ≡ 1
unfolding longest body comment_end point cut_from look_up settle resume step all_of finished run run_within
braces_at_the_limit = refl

a_brace_too_many : outcome (read_within 128 (times 129 0)) ≡ 3
unfolding longest body comment_end point cut_from look_up settle resume step all_of finished run run_within
a_brace_too_many = refl

a_paren_too_many : outcome (read_within 128 (times 257 2)) ≡ 3
unfolding longest body comment_end point cut_from look_up settle resume step all_of finished run run_within
a_paren_too_many = refl
