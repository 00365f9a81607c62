use Rattle.std.proofs.Common.{sym, ap, ◌∙◌}
use Rattle.es3_tree.specs.Token.{punct}
use Rattle.es3_grammar.specs.Spots.{same_token}
use Rattle.es3_lexer.specs.Tables.{punct_number}
use Rattle.es3_lexer.specs.Views.{token_of}
use Rattle.es3_frames.proofs.Tags.{same_punct}
use Rattle.es3_frames.proofs.tokens.is_punct.Goals as goal

pub returns-in-Punct : goal.returns-in-Punct
returns-in-Punct c =
    c.eq.ensures ∙ same_punct c.in-Punct.other c.args.punct ∙ sym (ap (λ k. same_token (punct (punct_number c.args.punct)) (token_of k)) c.in-Punct.is)
