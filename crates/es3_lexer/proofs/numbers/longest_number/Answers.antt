use Rattle.std.proofs.Common.{refl, sym, ap, ◌∙◌, arith}
use Rattle.std.specs.List.{prefix_len}
use Rattle.es3_tokens.specs.Characters.{begins, is_digit}
use Rattle.es3_tokens.specs.Numbers.{is_x}
use Rattle.es3_lexer.proofs.Fronts.{rest_is}
use Rattle.es3_lexer.proofs.NumberFronts.{decimal_digits, decimal_front, hex_digits_all, hex_front, no_hex_front, zero_front}
use Rattle.es3_lexer.proofs.numbers.longest_number.Goals as goal

pub value-requires-clause-digits : goal.value-requires-clause-digits
value-requires-clause-digits c = decimal_digits c.args.s.now c.digit_len-n.result _ c.requires (c.digit_len-n.ensures.is ∙ ap (prefix_len is_digit) (rest_is 1 c.args.s.now)) refl

pub returns-then-not-begins_with-clause-is : goal.returns-then-not-begins_with-clause-is
returns-then-not-begins_with-clause-is c = decimal_front c.args.s.now c.digit_len-n.result _ _ c.requires (sym c.begins_with.ensures ∙ c.if-not-begins_with.true) (c.digit_len-n.ensures.is ∙ ap (prefix_len is_digit) (rest_is 1 c.args.s.now)) refl c.value.ensures

pub returns-then-not-begins_with_x-clause-is : goal.returns-then-not-begins_with_x-clause-is
returns-then-not-begins_with_x-clause-is c = zero_front c.args.s.now (sym c.begins_with.ensures ∙ c.if-not-begins_with.false) (ap (begins is_x) (sym (rest_is 1 c.args.s.now)) ∙ sym c.begins_with_x.ensures ∙ c.if-not-begins_with_x.true)

pub returns-then-n-eq0-clause-is : goal.returns-then-n-eq0-clause-is
returns-then-n-eq0-clause-is c = no_hex_front c.args.s.now _ c.hex_len-n.result (sym c.begins_with.ensures ∙ c.if-not-begins_with.false) (ap (begins is_x) (sym (rest_is 1 c.args.s.now)) ∙ sym c.begins_with_x.ensures ∙ c.if-not-begins_with_x.false) (rest_is 2 c.args.s.now) c.hex_len-n.ensures.is c.if-n-eq0.true

pub value-requires-2-clause-digits : goal.value-requires-2-clause-digits
value-requires-2-clause-digits c = hex_digits_all _ c.hex_len-n.result c.hex_len-n.ensures.is

pub returns-clause-is : goal.returns-clause-is
returns-clause-is c = hex_front c.args.s.now _ c.hex_len-n.result _ _ (sym c.begins_with.ensures ∙ c.if-not-begins_with.false) (ap (begins is_x) (sym (rest_is 1 c.args.s.now)) ∙ sym c.begins_with_x.ensures ∙ c.if-not-begins_with_x.false) (rest_is 2 c.args.s.now) c.hex_len-n.ensures.is (omega arith) refl c.value-2.ensures
