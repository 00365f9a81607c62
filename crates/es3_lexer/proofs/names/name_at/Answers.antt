use Rattle.std.proofs.Common.{ℕ, ◌≡◌, ◌+◌, sym, ap, ◌∙◌, refl, Option, Some, None, take, List, Bool, true, drop}
use Rattle.std.specs.List.{prefix_len}
use Rattle.es3_tree.specs.Token.{Token, name, word, words}
use Rattle.es3_tokens.specs.Characters.{begins, is_letter, is_part}
use Rattle.es3_tokens.specs.Cut.{accept, point}
use Rattle.es3_tokens.specs.Tokens.{name_or_word, place_in}
use Rattle.es3_lexer.specs.Tables.{word_number}
use Rattle.es3_lexer.proofs.Fronts.{rest_is}
use Rattle.es3_lexer.proofs.NameFronts.{name_front, name_small}
use Rattle.es3_lexer.proofs.names.name_at.Goals as goal

pub letters-requires : goal.letters-requires
letters-requires c = name_small c.args.s.now c.part_len-n.result _ c.requires (c.part_len-n.ensures.is ∙ ap (prefix_len is_part) (rest_is 1 c.args.s.now)) refl

named_step : (o : Bool) (s w : List ℕ) (m : ℕ) (x : Option ℕ) (r : Token) → begins is_letter s ≡ true → m ≡ prefix_len is_part w → w ≡ drop 1 s → x ≡ place_in words (take (1 + m) s) → r ≡ name_or_word (take (1 + m) s) x → accept r (1 + m) ≡ point o s
named_step o s w m x r h e i f g = ap (λ r. accept r (1 + m)) (g ∙ ap (name_or_word (take (1 + m) s)) f) ∙ sym (name_front o s m (1 + m) h (e ∙ ap (prefix_len is_part) i) refl)

pub returns-in-Some : goal.returns-in-Some
returns-in-Some c = λ o. named_step o c.args.s.now _ c.part_len-n.result (Some (word_number c.in-Some.word)) (word (word_number c.in-Some.word)) c.requires c.part_len-n.ensures.is (rest_is 1 c.args.s.now) c.in-Some.ensures refl

pub returns-in_ok-letters-in-None : goal.returns-in_ok-letters-in-None
returns-in_ok-letters-in-None c = λ o. named_step o c.args.s.now _ c.part_len-n.result None _ c.requires c.part_len-n.ensures.is (rest_is 1 c.args.s.now) c.in-None.ensures (ap name c.in_ok-letters-in-None.ensures)
