use Rattle.std.proofs.Common.{◌-◌, take, length, sym, ap, ◌∙◌, drop, drop-drop}
use Rattle.html_grammar.specs.Characters.{is_digit, is_hex, begins, is}
use Rattle.html_grammar.specs.References.{numbered}
use Rattle.html_grammar.proofs.References.{reference_named, reference_hexadecimal, reference_decimal}
use Rattle.html_tokens.proofs.Fronts.{rest_is}
use Rattle.html_tokens.proofs.references.reference_at.Goals as goal

pub returns-then-not-begins_with-clause-is : goal.returns-then-not-begins_with-clause-is
returns-then-not-begins_with-clause-is c = c.named_at.ensures.is ∙ sym (reference_named c.args.s.now (sym c.begins_with.ensures ∙ c.if-not-begins_with.true))

pub returns-then-begins_with-clause-is : goal.returns-then-begins_with-clause-is
returns-then-begins_with-clause-is c =
    let s = c.args.s.now in
    c.hexadecimal.ensures.is ∙ ap (numbered is_hex 16 3) (rest_is 1 (take (length s - 1) (drop 1 s)) ∙ ap (drop 1) (rest_is 1 s) ∙ drop-drop 1 1 s)
    ∙ sym (reference_hexadecimal s (sym c.begins_with.ensures ∙ c.if-not-begins_with.false) (ap (begins (is 120)) (sym (rest_is 1 s)) ∙ sym c.begins_with-2.ensures ∙ c.if-begins_with.true))

pub returns-else-begins_with-clause-is : goal.returns-else-begins_with-clause-is
returns-else-begins_with-clause-is c =
    let s = c.args.s.now in
    c.decimal.ensures.is ∙ ap (numbered is_digit 10 2) (rest_is 1 s)
    ∙ sym (reference_decimal s (sym c.begins_with.ensures ∙ c.if-not-begins_with.false) (ap (begins (is 120)) (sym (rest_is 1 s)) ∙ sym c.begins_with-2.ensures ∙ c.if-begins_with.false))
