use Rattle.std.proofs.Common.{ap, ◌∙◌, refl}
use Rattle.es3_lexer.proofs.words.word_of.Goals as goal
use Rattle.es3_lexer.proofs.Tables.{found_place}
use Rattle.es3_lexer.specs.Tables.{word_number, word_numbers}

pub returns : goal.returns
returns c = ap word_numbers c.find_in.ensures ∙ found_place word_number word_numbers refl (λ x. refl) 0 _ c.args.s.now refl
