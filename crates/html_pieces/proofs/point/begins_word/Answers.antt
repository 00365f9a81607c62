use Rattle.std.proofs.Common.{◌∙◌, arith, ap}
use Rattle.html_grammar.specs.Characters.{lower}
use Rattle.html_pieces.proofs.Points.{word_more, word_other}
use Rattle.html_pieces.proofs.point.begins_word.Goals as goal

pub returns-then-from : goal.returns-then-from
returns-then-from c =
    word_other c.args.s.now c.args.word.now c.loop-i.i c.from.result c.from-in-loop-i.result _ _ (omega arith) c.loop-i.invariant.enough (c.from.ensures ∙ c.lower.ensures ∙ ap lower c.index-s-i.is) c.from-in-loop-i.ensures c.if-from.true c.loop-i.invariant.rest

pub loop-i-preserved : goal.loop-i-preserved
loop-i-preserved c = record {
  rest = word_more c.args.s.now c.args.word.now c.loop-i.i c.from.result c.from-in-loop-i.result _ _ (omega arith) c.loop-i.invariant.enough (c.from.ensures ∙ c.lower.ensures ∙ ap lower c.index-s-i.is) c.from-in-loop-i.ensures c.if-from.false c.loop-i.invariant.rest;
  enough = c.loop-i.invariant.enough;
}
