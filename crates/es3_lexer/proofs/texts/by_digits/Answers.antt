use Rattle.std.proofs.Common.{◌∙◌, sym, arith}
use Rattle.es3_lexer.proofs.HexDigits.{hex_small, hex_reading}
use Rattle.es3_lexer.proofs.texts.by_digits.Goals as goal

pub overflow_cast-result : goal.overflow_cast-result
overflow_cast-result c = let h = hex_small c.args.n c.args.s.now c.requires c.if-s-n.false (sym c.all_hex.ensures ∙ c.if-not-all_hex.false) in omega (arith, h, c.value.ensures)

pub returns-clause-is : goal.returns-clause-is
returns-clause-is c =
    let q = sym c.all_hex.ensures ∙ c.if-not-all_hex.false in
    let h = hex_small c.args.n c.args.s.now c.requires c.if-s-n.false q in
    hex_reading c.args.n c.value.result c.args.s.now c.if-s-n.false q (omega (arith, h, c.value.ensures))
