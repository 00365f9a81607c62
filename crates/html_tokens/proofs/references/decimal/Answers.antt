use Rattle.html_grammar.specs.Characters.{is_digit, is_hex}
use Rattle.html_tokens.proofs.Fronts.{front_all, digit_is_hex}
use Rattle.html_tokens.proofs.references.decimal.Goals as goal

pub value-requires-clause-digits : goal.value-requires-clause-digits
value-requires-clause-digits c = front_all is_digit is_hex c.args.s.now c.digit_len-n.result digit_is_hex c.digit_len-n.ensures.is
