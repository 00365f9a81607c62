-- The text of a token: its characters, its first one and its last one.
use Rattle.std.proofs.Common.{◌≡◌, ℕ, ◌<◌, Bool, true, false, List, [], ◌∷◌, refl, sym, subst, arith, nat_lt, nat_eq}
use Rattle.std.specs.Prelude.{not, ◌&&◌, Option, Some, None}
use Rattle.std.specs.List.{All, list_all}
use Rattle.std.proofs.lemmas.List.Elements.{All-nil, All-cons}
use Rattle.std.proofs.lemmas.Bool.{and_parts, agree_below_at, ltb-true}
use Rattle.std.proofs.lemmas.Bool.Decides.{nat_tests}
use Rattle.caja_units.specs.Utf8.{utf8_of}
use Rattle.caja_units.proofs.Ascii.{utf8_of-ascii}
use Rattle.es3_tree.specs.Token.{Token, name, word, punct, num, text, words, puncts}
use Rattle.es3_tokens.specs.Characters.{is_part, begins}
use Rattle.es3_tokens.specs.Tokens.{entry}
use Rattle.es3_printed.specs.Text.{last_of, token_text}
use Rattle.es3_printed.specs.Safe.{is_safe, is_word, IsWord}
use Rattle.es3_printed.proofs.Sides.{Behind, an_operator, a_point, a_number, an_end, after, may, may_punct, only_joins, is_settled}
use Rattle.es3_printed.proofs.Quiet.{is_quiet, is_tame, is_filled, is_such, last_such, quiet_safe, IsParts, IsTame, parts_tame, literal_tame, number_tame}

abbrev pub is_less : ℕ → Bool
is_less c = nat_eq c 60

abbrev pub is_operator : Behind → Bool
is_operator an_operator = true
is_operator a_point = false
is_operator a_number = false
is_operator an_end = false

-- where an operand is wanted, only tame texts begin, and after a `<` one is wanted
pub record IsText (t : Token) : Type 0 where
  pub safe : is_safe (token_text t) ≡ true
  pub filled : is_filled (token_text t) ≡ true
  pub first : may an_operator t ≡ true → begins is_tame (token_text t) ≡ true
  pub last : is_such is_less (last_of (token_text t)) ≡ true → is_operator (after t) ≡ true

quiet_last : (s : List ℕ) → is_such is_quiet (last_of s) ≡ true → is_such is_less (last_of s) ≡ true → false ≡ true
quiet_last s = go (last_of s)
  where
    go : (o : Option ℕ) → is_such is_quiet o ≡ true → is_such is_less o ≡ true → false ≡ true
    go None h g = h
    go (Some c) h g = grind (arith, nat_tests)

tame_text : (t : Token) → IsTame (token_text t) → IsText t
tame_text t h = record {
  safe = quiet_safe (token_text t) h.quiet;
  filled = h.filled;
  first = λ _. h.first;
  last = λ l. let no : false ≡ true = quiet_last (token_text t) (last_such is_quiet (token_text t) h.filled h.quiet) l in absurd cc;
}

-- a name is its own text

pub word_parts : (us : List ℕ) → is_word us ≡ true → IsParts us
word_parts [] h = absurd cc
word_parts (c ∷ s) h = record { filled = refl; parts = h }

all_ascii : (us : List ℕ) → list_all is_part us ≡ true → All (λ u. u < 128) us
all_ascii [] h = All-nil (λ u. u < 128)
all_ascii (c ∷ s) h = let p = and_parts (is_part c) (list_all is_part s) h in All-cons (λ u. u < 128) c s (low c p.0) (all_ascii s p.1)
  where
    low : (c : ℕ) → is_part c ≡ true → c < 128
    low c h = grind (arith, nat_tests)

pub name_text : (us : List ℕ) → is_word us ≡ true → utf8_of us ≡ us
name_text us h = utf8_of-ascii us (all_ascii us (word_parts us h).parts)

-- words and punctuators, by their tables

abbrev is_plain_word : ℕ → Bool
is_plain_word n = is_filled (entry words n) && list_all is_part (entry words n)

pub table_word : (n : ℕ) → nat_lt n 59 ≡ true → IsParts (entry words n)
table_word n lt =
    let p = and_parts (is_filled (entry words n)) (list_all is_part (entry words n)) (agree_below_at is_plain_word (λ _. true) 59 n refl (ltb-true n 59 lt)) in
    record { filled = p.0; parts = p.1 }

-- a implies b
abbrev pub implies : Bool → Bool → Bool
implies true b = b
implies false b = true

pub implied : (a b : Bool) → implies a b ≡ true → a ≡ true → b ≡ true
implied true b h g = h
implied false b h g = absurd cc

abbrev is_punct_text : ℕ → Bool
is_punct_text n =
    is_safe (entry puncts n) && (is_filled (entry puncts n)
    && (implies (not (only_joins n)) (begins is_tame (entry puncts n)) && implies (is_such is_less (last_of (entry puncts n))) (is_operator (after (punct n)))))

punct_text : (n : ℕ) → nat_lt n 48 ≡ true → IsText (punct n)
punct_text n lt =
    let w = entry puncts n in
    let p = and_parts (is_safe w) _ (agree_below_at is_punct_text (λ _. true) 48 n refl (ltb-true n 48 lt)) in
    let q = and_parts (is_filled w) _ p.1 in
    let r = and_parts (implies (not (only_joins n)) (begins is_tame w)) (implies (is_such is_less (last_of w)) (is_operator (after (punct n)))) q.1 in
    record {
      safe = p.0;
      filled = q.0;
      first = λ h. implied (not (only_joins n)) (begins is_tame w) r.0 (and_parts (nat_lt n 48) (not (only_joins n)) h).1;
      last = implied (is_such is_less (last_of w)) (is_operator (after (punct n))) r.1;
    }

pub text_of : (t : Token) (a : Behind) → may a t ≡ true → IsWord t → IsText t
text_of (name us) a h w = tame_text (name us) (subst IsTame (sym (name_text us w)) (parts_tame (word_parts us w)))
text_of (word n) a h w = tame_text (word n) (parts_tame (table_word n (and_parts (nat_lt n 59) (is_settled a) h).0))
text_of (punct n) a h w = punct_text n (and_parts (nat_lt n 48) (may_punct a n) h).0
text_of (num n) a h w = tame_text (num n) (number_tame n)
text_of (text us) a h w = tame_text (text us) (literal_tame us)
