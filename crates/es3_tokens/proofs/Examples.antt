-- Sources and what they are cut into.
use Rattle.std.proofs.Common.{◌≡◌, [], ◌∷◌, Ok, Err, true, false, refl}
use Rattle.std.specs.Prelude.{codes, pos}
use Rattle.es3_tree.specs.Token.{name, word, punct, num, text}
use Rattle.es3_tokens.specs.Back.{stays, spelled}
use Rattle.es3_tokens.specs.Longest.{longest}
use Rattle.es3_tokens.specs.Texts.{body}
use Rattle.es3_tokens.specs.Tokens.{placed}
use Rattle.es3_tokens.specs.Gaps.{comment_end}
use Rattle.es3_tokens.specs.Refusals.{bad_char, open_string, open_comment, bad_escape, number_form, number_too_large, escape_in_name, reg_exp}
use Rattle.es3_tokens.specs.Cut.{cut_chars, cut_from, point}

longest_first : cut_chars (codes "a+++b") ≡ Ok (placed (name (codes "a")) 0 1 false ∷ placed (punct 21) 1 3 false ∷ placed (punct 17) 3 4 false ∷ placed (name (codes "b")) 4 5 false ∷ [])
unfolding longest body comment_end point cut_from
longest_first = refl

leading_zero : cut_chars (codes "010") ≡ Err (number_form, 0)
unfolding longest body comment_end point cut_from
leading_zero = refl

open_text : cut_chars (codes "\"a") ≡ Err (open_string, 0)
unfolding longest body comment_end point cut_from
open_text = refl

expression : cut_chars (codes "a = /b/") ≡ Err (reg_exp, 4)
unfolding longest body comment_end point cut_from
expression = refl

division : cut_chars (codes "a /b//c") ≡ Ok (placed (name (codes "a")) 0 1 false ∷ placed (punct 46) 2 3 false ∷ placed (name (codes "b")) 3 4 false ∷ [])
unfolding longest body comment_end point cut_from
division = refl

line_in_comment : cut_chars (codes "if/*\n*/0x1F 'x\\u0041'") ≡ Ok (placed (word 11) 0 2 false ∷ placed (num (pos 31)) 7 11 true ∷ placed (text (codes "xA")) 12 21 false ∷ [])
unfolding longest body comment_end point cut_from
line_in_comment = refl

too_large : cut_chars (codes "9007199254740991 9007199254740992") ≡ Err (number_too_large, 17)
unfolding longest body comment_end point cut_from
too_large = refl

unended_comment : cut_chars (codes "1 /* x") ≡ Err (open_comment, 2)
unfolding longest body comment_end point cut_from
unended_comment = refl

point_digit : cut_chars (codes "a .5") ≡ Err (number_form, 2)
unfolding longest body comment_end point cut_from
point_digit = refl

no_hex_digit : cut_chars (codes "0x") ≡ Err (number_form, 0)
unfolding longest body comment_end point cut_from
no_hex_digit = refl

escaped_name : cut_chars (codes "foo\\u005f_") ≡ Err (escape_in_name, 3)
unfolding longest body comment_end point cut_from
escaped_name = refl

short_escape : cut_chars (codes "'\\x4'") ≡ Err (bad_escape, 0)
unfolding longest body comment_end point cut_from
short_escape = refl

mark : cut_chars (0xFEFF ∷ 0xA0 ∷ 0x2028 ∷ 97 ∷ []) ≡ Ok (placed (name (codes "a")) 8 9 true ∷ [])
unfolding longest body comment_end point cut_from
mark = refl

past_ascii : cut_chars (97 ∷ 233 ∷ []) ≡ Err (bad_char, 1)
unfolding longest body comment_end point cut_from
past_ascii = refl

-- and what stays before what follows it
point_before_name : stays false (punct 6) (codes "x") ≡ true
point_before_name = refl

point_before_digit : stays false (punct 6) (codes "5") ≡ false
point_before_digit = refl

division_before_name : stays false (punct 46) (codes "b") ≡ true
division_before_name = refl

division_for_an_operand : stays true (punct 46) (codes "b") ≡ false
division_for_an_operand = refl

division_before_slash : stays false (punct 46) (codes "/b/") ≡ false
division_before_slash = refl

division_before_star : stays false (punct 46) (codes "*") ≡ false
division_before_star = refl

division_before_equals : stays false (punct 46) (codes "=") ≡ false
division_before_equals = refl

divided_assignment : stays false (punct 47) (codes "b") ≡ true
divided_assignment = refl

divided_assignment_for_an_operand : stays true (punct 47) (codes "b") ≡ false
divided_assignment_for_an_operand = refl

plus_before_plus : stays false (punct 17) (codes "+") ≡ false
plus_before_plus = refl

plus_before_space : stays false (punct 17) (codes " +") ≡ true
plus_before_space = refl

less_before_not : stays true (punct 9) (codes "!a") ≡ true
less_before_not = refl

name_before_digit : stays false (name (codes "a")) (codes "1") ≡ false
name_before_digit = refl

number_before_point : stays false (num (pos 1)) (codes ".x") ≡ false
number_before_point = refl

written : spelled ((false, word 15) ∷ (true, name (codes "x")) ∷ (false, punct 46) ∷ (false, text (codes "a\n")) ∷ []) ≡ codes "return x/\"a\\n\""
written = refl
