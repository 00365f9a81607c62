use Rattle.std.proofs.Common.{◌∙◌, sym, arith}
use Rattle.command_words.proofs.Digits.{number_unread}
use Rattle.command_words.proofs.numbers.number_of.Goals as goal

pub returns-in-Err : goal.returns-in-Err
returns-in-Err c = number_unread _ c.args.most c.args.text.now c.in-Err._error (omega arith) c.in-Err.ensures.value.0 (sym c.are_digits.ensures ∙ c.if-not-are_digits.false) (omega arith)
