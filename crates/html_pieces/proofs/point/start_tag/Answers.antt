use Rattle.html_grammar.specs.Characters.{is_attr, is_word}
use Rattle.html_pieces.proofs.Points.{word_is_attr}
use Rattle.html_pieces.proofs.point.start_tag.Goals as goal
use Rattle.html_tokens.proofs.Fronts.{front_all}

pub lowered-requires : goal.lowered-requires
lowered-requires c = front_all is_word is_attr c.args.s.now c.word_len-n.result word_is_attr c.word_len-n.ensures.is
