-- Punctuators and words are told apart by their numbers in the tables.
use Rattle.std.proofs.Common.{◌≡◌, nat_eq, refl, ap, ◌∙◌}
use denote.Enum.Bare.{sameb}
use denote.Enum.Declared.{tag_of}
use Rattle.es3_lexer.specs.Tables.{punct_number, word_number}
use Rattle.es3_lexer.specs.declared.puncts.Punct.{Punct}
use Rattle.es3_lexer.specs.declared.puncts.Punct.TheVariants as p
use Rattle.es3_lexer.specs.declared.words.Word.{Word}
use Rattle.es3_lexer.specs.declared.words.Word.TheVariants as w
use Rattle.es3_lexer.specs.contracts.puncts.Punct as puncts
use Rattle.es3_lexer.specs.contracts.words.Word as words

punct_tag : (a : Punct) → tag_of puncts.the_type a ≡ punct_number a
punct_tag p.OpenBrace = refl
punct_tag a = refl

pub same_punct : (a b : Punct) → sameb puncts.the_type a b ≡ nat_eq (punct_number a) (punct_number b)
same_punct a b = ap (λ n. nat_eq n (tag_of puncts.the_type b)) (punct_tag a) ∙ ap (nat_eq (punct_number a)) (punct_tag b)

word_tag : (a : Word) → tag_of words.the_type a ≡ word_number a
word_tag w.Break = refl
word_tag a = refl

pub same_word : (a b : Word) → sameb words.the_type a b ≡ nat_eq (word_number a) (word_number b)
same_word a b = ap (λ n. nat_eq n (tag_of words.the_type b)) (word_tag a) ∙ ap (nat_eq (word_number a)) (word_tag b)
