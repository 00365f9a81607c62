use Rattle.std.proofs.Common.{ap, ◌∙◌, refl}
use Rattle.es3_lexer.proofs.puncts.punct_of.Goals as goal
use Rattle.es3_lexer.proofs.Tables.{found_place}
use Rattle.es3_lexer.specs.Tables.{punct_number, punct_numbers}

pub returns : goal.returns
returns c = ap punct_numbers c.find_in.ensures ∙ found_place punct_number punct_numbers refl (λ x. refl) 0 _ c.args.s.now refl
