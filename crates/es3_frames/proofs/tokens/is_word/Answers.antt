use Rattle.std.proofs.Common.{sym, ap, ◌∙◌}
use Rattle.es3_tree.specs.Token.{word}
use Rattle.es3_grammar.specs.Spots.{same_token}
use Rattle.es3_lexer.specs.Tables.{word_number}
use Rattle.es3_lexer.specs.Views.{token_of}
use Rattle.es3_frames.proofs.Tags.{same_word}
use Rattle.es3_frames.proofs.tokens.is_word.Goals as goal

pub returns-in-Word : goal.returns-in-Word
returns-in-Word c =
    c.eq.ensures ∙ same_word c.in-Word.other c.args.word ∙ sym (ap (λ k. same_token (word (word_number c.args.word)) (token_of k)) c.in-Word.is)
