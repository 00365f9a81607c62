-- The text of tokens is cut into them: a space stands where it is asked, and each token stays before what follows it.
use Rattle.std.proofs.Common.{◌≡◌, ℕ, ℤ, ◌<◌, ◌≤◌, Bool, true, false, List, [], ◌∷◌, ◌++◌, Ok, Err, map, length, refl, sym, ap, subst, ◌∙◌, append-nil, append_assoc, arith, nat_lt, nat_eq}
use Rattle.std.specs.Prelude.{not, ◌&&◌, ◌||◌, Option, Some, None, slice_get, if◌then◌else◌}
use Rattle.std.specs.List.{All, list_all}
use Rattle.std.proofs.lemmas.List.Elements.{All-nil, All-cons, All-head, All-tail}
use Rattle.std.proofs.lemmas.Bool.{and_parts, and_from, and_right, or_parts, or_from, agree_below, agree_below_at, ltb-true, lt-ltb, not-true}
use Rattle.std.proofs.lemmas.Bool.Decides.{nat_tests}
use Rattle.caja_units.specs.Number.{number_text}
use Rattle.es3_tree.specs.Token.{Token, name, word, punct, num, text, words, puncts}
use Rattle.es3_tokens.specs.Characters.{is_part, is_letter, is_digit, begins}
use Rattle.es3_tokens.specs.Tokens as tokens
use Rattle.es3_tokens.specs.Tokens.{entry, is_name, wants_operand}
use Rattle.es3_tokens.specs.Steps.{is_sign}
use Rattle.es3_tokens.specs.Back.{spelling, IsToken, is_apart, stays, spaced, spelled, AllStay, tokens_in}
use Rattle.es3_tokens.specs.Cut as cut
use Rattle.es3_tokens.proofs.BackTokens.{back_tokens}
use Rattle.es3_tokens.proofs.BackSources.{cut_ascii}
use Rattle.es3_printed.specs.Text.{runs_together, last_of, gap_between, token_text, then_text, onto}
use Rattle.es3_printed.specs.Safe.{is_markup, is_safe, is_word, IsWord, AreWords}
use Rattle.es3_printed.proofs.Sides.{Behind, an_operator, a_point, a_number, an_end, after, may, may_punct, only_joins, sides}
use Rattle.es3_printed.proofs.Quiet.{is_tame, is_filled, is_such, IsParts, all_such, first_such, last_such, decimal_parts}
use Rattle.es3_printed.proofs.TokenTexts.{text_of, name_text, word_parts, table_word, implies, implied}
use Rattle.es3_printed.proofs.SafeText.{last_of-then, safe_text}

-- whether a space is asked between two characters
abbrev pub asked : Option ℕ → Option ℕ → Bool
asked (Some a) (Some b) = runs_together a b
asked a b = false

-- tokens with marks where a space is asked, behind this last character
abbrev pub marked : Option ℕ → List Token → List (Bool × Token)
marked l [] = []
marked l (t ∷ ts) = (asked l (slice_get (token_text t) 0), t) ∷ marked (last_of (token_text t)) ts

-- what may be the first character there, where no space is asked
abbrev near : Behind → ℕ → Bool
near an_operator d = is_tame d
near a_point d = not (is_digit d)
near a_number d = not (nat_eq d 46)
near an_end d = true

abbrev wants : Behind → Bool
wants an_operator = true
wants a_point = true
wants a_number = false
wants an_end = false

-- behind a punctuator, before this character

abbrev clear : ℕ → ℕ → Bool
clear n d = near (after (punct n)) d && not (asked (last_of (entry puncts n)) (Some d))

abbrev both_stay : ℕ → List ℕ → Bool
both_stay n r = is_apart (entry puncts n) r && (is_sign false (entry puncts n ++ r) && implies (not (only_joins n)) (is_sign true (entry puncts n ++ r)))

abbrev stays_here : ℕ → ℕ → Bool
stays_here n d = implies (clear n d) (both_stay n (d ∷ []))

abbrev row : ℕ → Bool
row n = agree_below (stays_here n) (λ _. true) 128

stays_before : (n d : ℕ) → n < 48 → d < 128 → clear n d ≡ true → both_stay n (d ∷ []) ≡ true
stays_before n d lt low h =
    implied (clear n d) (both_stay n (d ∷ []))
    (agree_below_at (stays_here n) (λ _. true) 128 d (agree_below_at row (λ _. true) 48 n refl lt) low) h

stays_last : (n : ℕ) → n < 48 → both_stay n [] ≡ true
stays_last n lt = agree_below_at (λ n. both_stay n []) (λ _. true) 48 n refl lt

-- as that stands where it may
one_stays : (a : Behind) (n : ℕ) (r : List ℕ) → may_punct a n ≡ true → both_stay n r ≡ true → stays (wants a) (punct n) r ≡ true
one_stays a n r m h =
    let w = entry puncts n in
    let p = and_parts (is_apart w r) (is_sign false (w ++ r) && implies (not (only_joins n)) (is_sign true (w ++ r))) h in
    let q = and_parts (is_sign false (w ++ r)) (implies (not (only_joins n)) (is_sign true (w ++ r))) p.1 in
    and_from (is_apart w r) (is_sign (wants a) (w ++ r)) p.0 (signs a m q.0 q.1)
  where
    signs : (a : Behind) → may_punct a n ≡ true → is_sign false (entry puncts n ++ r) ≡ true
        → implies (not (only_joins n)) (is_sign true (entry puncts n ++ r)) ≡ true → is_sign (wants a) (entry puncts n ++ r) ≡ true
    signs an_operator m p q = implied (not (only_joins n)) (is_sign true (entry puncts n ++ r)) q m
    signs a_point m p q = absurd cc
    signs a_number m p q = p
    signs an_end m p q = p

-- what follows begins with a character that may stand there, and before which no space is asked
record IsNext (l : Option ℕ) (b : Behind) (r : List ℕ) : Type 0 where
  first : ℕ
  rest : List ℕ
  is : r ≡ first ∷ rest
  ascii : first < 128
  near : near b first ≡ true
  apart : asked l (Some first) ≡ false

-- only the first character of what follows counts

sign_front : (o : Bool) (w r : List ℕ) (d : ℕ) → is_filled w ≡ true → is_sign o (w ++ d ∷ r) ≡ is_sign o (w ++ d ∷ [])
sign_front o [] r d f = absurd cc
sign_front o (c ∷ []) r d f = refl
sign_front o (c ∷ e ∷ w) r d f = refl

no_part : (s : List ℕ) (d : ℕ) → IsParts s → asked (last_of s) (Some d) ≡ false → is_part d ≡ false
no_part s d h = go (last_of s) (last_such is_part s h.filled h.parts)
  where
    go : (o : Option ℕ) → is_such is_part o ≡ true → asked o (Some d) ≡ false → is_part d ≡ false
    go None p q = absurd cc
    go (Some c) p q = part_apart c d p q
      where
        part_apart : (c d : ℕ) → is_part c ≡ true → runs_together c d ≡ false → is_part d ≡ false
        part_apart c d p q = false_second (is_part c) (is_part d) p (or_parts (is_part c && is_part d) _ (or_parts _ _ (or_parts _ _ (or_parts _ _ q).0).0).0).0
          where
            false_second : (x y : Bool) → x ≡ true → (x && y) ≡ false → y ≡ false
            false_second true y p q = q
            false_second false y p q = absurd cc

-- a token's text, where it is one of a source

word_of : (t : Token) → IsToken t → IsWord t
word_of (name us) h = of_name us h.0
  where
    of_name : (us : List ℕ) → is_name us ≡ true → is_word us ≡ true
    of_name [] h = absurd cc
    of_name (c ∷ s) h = let p = and_parts (is_letter c) (list_all is_part s) h in and_from (is_part c) (list_all is_part s) (ap (λ b. b || is_digit c) p.0) p.1
word_of (word n) h = tt
word_of (punct n) h = tt
word_of (num n) h = tt
word_of (text us) h = tt

written : (t : Token) → IsToken t → token_text t ≡ spelling t
written (name us) h = name_text us (word_of (name us) h)
written (word n) h = refl
written (punct n) h = refl
written (num n) h = refl
written (text us) h = refl

number_parts : (n : ℤ) → IsToken (num n) → IsParts (number_text n)
number_parts n h = subst (λ z. IsParts (number_text z)) (sym h.1) (decimal_parts h.0)

stays_there : (a : Behind) (t : Token) (r : List ℕ) → IsToken t → may a t ≡ true → IsNext (last_of (token_text t)) (after t) r → stays (wants a) t r ≡ true
stays_there a t r h m x = subst (λ r. stays (wants a) t r ≡ true) (sym x.is) (before t h m x.apart x.near)
  where
    before : (t : Token) → IsToken t → may a t ≡ true → asked (last_of (token_text t)) (Some x.first) ≡ false
        → near (after t) x.first ≡ true → stays (wants a) t (x.first ∷ x.rest) ≡ true
    before (name us) h m p q =
        ap not (no_part us x.first (word_parts us (word_of (name us) h))
        (ap (λ s. asked (last_of s) (Some x.first)) (sym (written (name us) h)) ∙ p))
    before (word n) h m p q = ap not (no_part (entry words n) x.first (table_word n (lt-ltb n 59 h)) p)
    before (punct n) h m p q =
        ap (λ b. is_apart (entry puncts n) (x.first ∷ []) && b) (sign_front (wants a) (entry puncts n) x.rest x.first (text_of (punct n) a m tt).filled)
        ∙ one_stays a n (x.first ∷ []) (and_parts (nat_lt n 48) (may_punct a n) m).1
        (stays_before n x.first h x.ascii (and_from (near (after (punct n)) x.first) _ q (ap not p)))
    before (num n) h m p q =
        ap not (or_from (nat_eq x.first 46) (is_part x.first) (not-true (nat_eq x.first 46) q)
        (no_part (number_text n) x.first (number_parts n h) p))
    before (text us) h m p q = refl

stays_at_end : (a : Behind) (t : Token) → IsToken t → may a t ≡ true → stays (wants a) t [] ≡ true
stays_at_end a (name us) h m = refl
stays_at_end a (word n) h m = refl
stays_at_end a (punct n) h m = one_stays a n [] (and_parts (nat_lt n 48) (may_punct a n) m).1 (stays_last n h)
stays_at_end a (num n) h m = refl
stays_at_end a (text us) h m = refl

-- the first character of what may stand there

abbrev no_point : ℕ → Bool
no_point d = not (nat_eq d 46)

part_no_point : (d : ℕ) → is_part d ≡ true → no_point d ≡ true
part_no_point d h = grind (arith, nat_tests)

parts_no_point : (s : List ℕ) → IsParts s → begins no_point s ≡ true
parts_no_point s h = first_such no_point s h.filled (all_such is_part no_point part_no_point s h.parts)

abbrev only_point : ℕ → Bool
only_point n = implies (not (nat_eq n 6)) (begins no_point (entry puncts n))

behind_number : (u : Token) → IsToken u → may a_number u ≡ true → begins no_point (spelling u) ≡ true
behind_number (name us) h m = parts_no_point us (word_parts us (word_of (name us) h))
behind_number (word n) h m = parts_no_point (entry words n) (table_word n (lt-ltb n 59 h))
behind_number (punct n) h m =
    implied (not (nat_eq n 6)) (begins no_point (entry puncts n))
    (agree_below_at only_point (λ _. true) 48 n refl h) (and_parts (nat_lt n 48) (not (nat_eq n 6)) m).1
behind_number (num n) h m = parts_no_point (number_text n) (number_parts n h)
behind_number (text us) h m = refl

behind_point : (u : Token) → IsToken u → may a_point u ≡ true → begins (near a_point) (spelling u) ≡ true
behind_point (name us) h m = letter us h.0
  where
    no_digit : (c : ℕ) → is_letter c ≡ true → not (is_digit c) ≡ true
    no_digit c h = grind (arith, nat_tests)

    letter : (us : List ℕ) → is_name us ≡ true → begins (near a_point) us ≡ true
    letter [] h = absurd cc
    letter (c ∷ s) h = no_digit c (and_parts (is_letter c) (list_all is_part s) h).0
behind_point (word n) h m = let p = and_parts (nat_lt n 59) false m in absurd cc
behind_point (punct n) h m = let p = and_parts (nat_lt n 48) false m in absurd cc
behind_point (num n) h m = absurd cc
behind_point (text us) h m = absurd cc

near_first : (b : Behind) (u : Token) → IsToken u → may b u ≡ true → begins (near b) (spelling u) ≡ true
near_first an_operator u h m = ap (begins is_tame) (sym (written u h)) ∙ (text_of u an_operator m (word_of u h)).first m
near_first a_point u h m = behind_point u h m
near_first a_number u h m = behind_number u h m
near_first an_end u h m = any_first (spelling u) (ap is_filled (sym (written u h)) ∙ (text_of u an_end m (word_of u h)).filled)
  where
    any_first : (s : List ℕ) → is_filled s ≡ true → begins (λ _. true) s ≡ true
    any_first [] f = f
    any_first (c ∷ s) f = refl

asked_space : (l : Option ℕ) → asked l (Some 32) ≡ false
asked_space None = refl
asked_space (Some a) = no_space (is_part a) (nat_eq a 43) (nat_eq a 45) (nat_eq a 60) (nat_eq a 93)
  where
    no_space : (p q r s u : Bool) → (p && false || q && false || r && false || s && false || u && false) ≡ false
    no_space p q r s u =
        or_from (p && false || q && false || r && false || s && false) (u && false)
        (or_from (p && false || q && false || r && false) (s && false)
        (or_from (p && false || q && false) (r && false)
        (or_from (p && false) (q && false) (and_right p false refl) (and_right q false refl)) (and_right r false refl)) (and_right s false refl)) (and_right u false refl)

near_space : (b : Behind) → near b 32 ≡ true
near_space an_operator = refl
near_space a_point = refl
near_space a_number = refl
near_space an_end = refl

first_ascii : (d : ℕ) (w : List ℕ) → is_safe (d ∷ w) ≡ true → d < 128
first_ascii d [] a = ltb-true d 128 a
first_ascii d (e ∷ w) a = ltb-true d 128 (and_parts (nat_lt d 128) _ (and_parts (nat_lt d 128 && _) (is_safe (e ∷ w)) a).0).0

next_of : (l : Option ℕ) (b : Behind) (m : Bool) (w s : List ℕ) → is_safe w ≡ true → is_filled w ≡ true → begins (near b) w ≡ true
    → asked l (slice_get w 0) ≡ m → IsNext l b (spaced m (w ++ s))
next_of l b m [] s a f n e = absurd cc
next_of l b true (d ∷ w) s a f n e = record { first = 32; rest = d ∷ (w ++ s); is = refl; ascii = omega arith; near = near_space b; apart = asked_space l }
next_of l b false (d ∷ w) s a f n e = record { first = d; rest = w ++ s; is = refl; ascii = first_ascii d w a; near = n; apart = e }

-- each token stays before what follows it

stays_then : (a : Behind) (t : Token) (ts : List Token) → sides a (t ∷ ts) ≡ true → All IsToken (t ∷ ts)
    → stays (wants a) t (spelled (marked (last_of (token_text t)) ts)) ≡ true
stays_then a t [] s h = stays_at_end a t (All-head IsToken t [] h) (and_parts (may a t) true s).0
stays_then a t (u ∷ us) s h =
    let l = last_of (token_text t) in
    let p = and_parts (may a t) (may (after t) u && sides (after u) us) s in
    let q = and_parts (may (after t) u) (sides (after u) us) p.1 in
    let i = All-head IsToken u us (All-tail IsToken t (u ∷ us) h) in
    let x = text_of u (after t) q.0 (word_of u i) in
    stays_there a t (spelled (marked l (u ∷ us))) (All-head IsToken t (u ∷ us) h) p.0
    (next_of l (after t) (asked l (slice_get (token_text u) 0)) (spelling u) (spelled (marked (last_of (token_text u)) us))
    (subst (λ w. is_safe w ≡ true) (written u i) x.safe) (subst (λ w. is_filled w ≡ true) (written u i) x.filled) (near_first (after t) u i q.0)
    (ap (λ w. asked l (slice_get w 0)) (sym (written u i))))

wants_after : (t : Token) → IsToken t → wants (after t) ≡ wants_operand t
wants_after (name us) h = refl
wants_after (word n) h = agree_below_at (λ n. wants (after (word n))) (λ n. wants_operand (word n)) 59 n refl h
wants_after (punct n) h = agree_below_at (λ n. wants (after (punct n))) (λ n. wants_operand (punct n)) 48 n refl h
wants_after (num n) h = refl
wants_after (text us) h = refl

all_stay : (ts : List Token) (a : Behind) (l : Option ℕ) → sides a ts ≡ true → All IsToken ts → AllStay (wants a) (marked l ts)
all_stay [] a l s h = tt
all_stay (t ∷ ts) a l s h =
    let i = All-head IsToken t ts h in
    let k = last_of (token_text t) in (
      i,
      stays_then a t ts s h,
      subst (λ o. AllStay o (marked k ts)) (wants_after t i) (all_stay ts (after t) k (and_parts (may a t) (sides (after t) ts) s).1 (All-tail IsToken t ts h)),
    )

-- the text is what is spelled with these marks

gap_spaced : (o p : Option ℕ) (s : List ℕ) → gap_between o p ++ s ≡ spaced (asked o p) s
gap_spaced None None s = refl
gap_spaced None (Some b) s = refl
gap_spaced (Some a) None s = refl
gap_spaced (Some a) (Some b) s = by_test (runs_together a b)
  where
    by_test : (m : Bool) → (if m then 32 ∷ [] else []) ++ s ≡ spaced m s
    by_test true = refl
    by_test false = refl

onto_spelled : (ts : List Token) (out : List ℕ) (a : Behind) → sides a ts ≡ true → All IsToken ts → onto out ts ≡ out ++ spelled (marked (last_of out) ts)
onto_spelled [] out a s h = sym (append-nil out)
onto_spelled (t ∷ ts) out a s h =
    let p = and_parts (may a t) (sides (after t) ts) s in
    let i = All-head IsToken t ts h in
    let w = token_text t in
    let g : List ℕ = gap_between (last_of out) (slice_get w 0) in
    let rest : List ℕ = spelled (marked (last_of w) ts) in
    onto_spelled ts (then_text out w) (after t) p.1 (All-tail IsToken t ts h)
    ∙ ap (λ l. then_text out w ++ spelled (marked l ts)) (last_of-then out w (text_of t a p.0 (word_of t i)).filled)
    ∙ append_assoc out (g ++ w) rest
    ∙ ap (λ r. out ++ r) (append_assoc g w rest ∙ gap_spaced (last_of out) (slice_get w 0) (w ++ rest))
    ∙ ap (λ v. out ++ spaced (asked (last_of out) (slice_get w 0)) (v ++ rest)) (written t i)

unmarked : (ts : List Token) (l : Option ℕ) → map (λ x. x.1) (marked l ts) ≡ ts
unmarked [] l = refl
unmarked (t ∷ ts) l = ap (λ us. t ∷ us) (unmarked ts (last_of (token_text t)))

pub all_words : (ts : List Token) → All IsToken ts → AreWords ts
all_words [] h = All-nil IsWord
all_words (t ∷ ts) h = All-cons IsWord t ts (word_of t (All-head IsToken t ts h)) (all_words ts (All-tail IsToken t ts h))

safe_ascii : (s : List ℕ) → is_safe s ≡ true → All (λ b. b < 128) s
safe_ascii [] h = All-nil (λ b. b < 128)
safe_ascii (c ∷ []) h = All-cons (λ b. b < 128) c [] (first_ascii c [] h) (All-nil (λ b. b < 128))
safe_ascii (c ∷ d ∷ s) h =
    All-cons (λ b. b < 128) c (d ∷ s) (first_ascii c (d ∷ s) h)
    (safe_ascii (d ∷ s) (and_parts (nat_lt c 128 && not (is_markup c d)) (is_safe (d ∷ s)) h).1)

-- the tokens that a text is cut into, at their places, within any limit that it doesn't pass
pub record IsCutBack (ts : List Token) : Type 0 where
  pub by : List tokens.Placed
  pub cut : (limit : ℕ) → length (onto [] ts) ≤ limit → cut.cut limit (onto [] ts) ≡ Ok by
  pub same : map (λ t. t.token) by ≡ ts

pub cut_back : (ts : List Token) → sides an_operator ts ≡ true → All IsToken ts → IsCutBack ts
cut_back ts s h = go (cut.cut_from 0 0 false true (onto [] ts)) refl told
  where
    told : tokens_in (cut.cut_from 0 0 false true (onto [] ts)) ≡ Some ts
    told =
        ap (λ r. tokens_in (cut.cut_from 0 0 false true r)) (onto_spelled ts [] an_operator s h)
        ∙ back_tokens 0 false true (marked None ts) (all_stay ts an_operator None s h) ∙ ap (λ us. Some us) (unmarked ts None)

    go : (a : cut.Answer) → cut.cut_from 0 0 false true (onto [] ts) ≡ a → tokens_in a ≡ Some ts → IsCutBack ts
    go (Ok us) e f = record {
      by = us;
      cut = λ limit le. cut_ascii limit (onto [] ts) le (safe_ascii (onto [] ts) (safe_text ts (all_words ts h) s)) ∙ e;
      same = cc;
    }
    go (Err r) e f = absurd cc
