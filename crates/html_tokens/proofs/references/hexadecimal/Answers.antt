use Rattle.html_grammar.specs.Characters.{is_hex}
use Rattle.html_tokens.proofs.Fronts.{front_all}
use Rattle.html_tokens.proofs.references.hexadecimal.Goals as goal

pub value-requires-clause-digits : goal.value-requires-clause-digits
value-requires-clause-digits c = front_all is_hex is_hex c.args.s.now c.hex_len-n.result (λ c h. h) c.hex_len-n.ensures.is
