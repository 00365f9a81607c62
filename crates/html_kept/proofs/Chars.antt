-- What is read of characters is made of characters.
use Rattle.std.proofs.Common.{◌≡◌, ℕ, zero, suc, ◌+◌, Bool, true, false, ◌&&◌, ◌||◌, List, [], ◌∷◌, ◌++◌, Option, None, Some, refl, ap, ◌∙◌, nat_eq, nat_lt, nat_le, take, drop}
use Rattle.std.specs.Prelude.{if◌then◌else◌}
use Rattle.std.specs.List.{list_all, prefix_len}
use Rattle.std.specs.Str.{all_scalars}
use Rattle.std.specs.Str.Parse.{digits_value}
use Rattle.std.specs.Char.Escape.{encode_utf16}
use Rattle.std.proofs.Math.Utf8.{scalar}
use Rattle.caja_units.specs.Units.{same_units}
use Rattle.html_grammar.specs.Characters.{is_hex, is_digit, is_word, begins, is}
use Rattle.html_grammar.specs.Tables.{names, found}
use Rattle.html_grammar.specs.References.{Reference, stands_for, unknown, absent, reference, is_closed, is_character, character, numbered, known, named}
use Rattle.html_grammar.specs.Runs.{Run, units, unknown_at, after, at_first, referred, run}
use Rattle.html_kept.specs.Texts.{OfChars}

pub and_left : (a b : Bool) → (a && b) ≡ true → a ≡ true
and_left true b e = refl
and_left false b e = absurd cc

pub and_right : (a b : Bool) → (a && b) ≡ true → b ≡ true
and_right true b e = e
and_right false b e = absurd cc

pub and_both : (a b : Bool) → a ≡ true → b ≡ true → (a && b) ≡ true
and_both a b e f = ap (λ x. x && b) e ∙ f

-- a test of two, by what holds where it passes and where it doesn't
pub by_test : {X : Type 0} (P : X → Type 0) (b : Bool) (x y : X) → (b ≡ true → P x) → (b ≡ false → P y) → P (if b then x else y)
by_test P true x y f g = f refl
by_test P false x y f g = g refl

pub no_chars : OfChars []
no_chars = ([], refl, refl)

pub one_char : (c : ℕ) (us : List ℕ) → scalar c ≡ true → OfChars us → OfChars (encode_utf16 c ++ us)
one_char c us e h = (c ∷ h.0, ap (λ (vs : List ℕ). encode_utf16 c ++ vs) h.1, and_both (scalar c) (all_scalars h.0) e h.2)

pub scalars_drop : (n : ℕ) (s : List ℕ) → all_scalars s ≡ true → all_scalars (drop n s) ≡ true
scalars_drop zero s e = e
scalars_drop (suc n) [] e = refl
scalars_drop (suc n) (c ∷ s) e = scalars_drop n s (and_right (scalar c) (all_scalars s) e)

pub scalars_take : (n : ℕ) (s : List ℕ) → all_scalars s ≡ true → all_scalars (take n s) ≡ true
scalars_take zero s e = refl
scalars_take (suc n) [] e = refl
scalars_take (suc n) (c ∷ s) e = and_both (scalar c) (all_scalars (take n s)) (and_left (scalar c) (all_scalars s) e) (scalars_take n s (and_right (scalar c) (all_scalars s) e))

-- ---- references

abbrev ReferenceOfChars : Reference → Type 0
ReferenceOfChars (stands_for c n) = scalar c ≡ true
ReferenceOfChars unknown = Unit {0}
ReferenceOfChars absent = Unit {0}

character_is : (v : ℕ) → is_character v ≡ true → scalar v ≡ true
character_is v e = low (nat_lt v 0xD800) refl (and_right (nat_lt 0 v) (nat_lt v 0xD800 || (nat_le 0xE000 v && nat_lt v 0x110000)) e)
  where
    low : (b : Bool) → nat_lt v 0xD800 ≡ b → (b || (nat_le 0xE000 v && nat_lt v 0x110000)) ≡ true → (if b then true else (nat_le 0xE000 v && nat_lt v 0x110000)) ≡ true
    low true h f = refl
    low false h f = f

numbered_chars : (p : ℕ → Bool) (b k : ℕ) (s : List ℕ) → ReferenceOfChars (numbered p b k s)
numbered_chars p b k s =
    by_test ReferenceOfChars (is_closed (prefix_len p s) s) (character (digits_value b (take (prefix_len p s) s)) (prefix_len p s + k)) absent
    (λ _. by_test ReferenceOfChars (is_character (digits_value b (take (prefix_len p s) s))) (stands_for (digits_value b (take (prefix_len p s) s)) (prefix_len p s + k)) absent (character_is (digits_value b (take (prefix_len p s) s))) (λ _. tt))
    (λ _. tt)

IsChar : Option ℕ → Type 0
IsChar None = Unit {0}
IsChar (Some c) = scalar c ≡ true

found_chars : (t : List (List ℕ × ℕ)) (s : List ℕ) → list_all (λ x. scalar x.1) t ≡ true → IsChar (found t s)
unfolding found IsChar
found_chars [] s e = tt
found_chars (x ∷ t) s e = by_test IsChar (same_units s x.0) (Some x.1) (found t s) (λ _. and_left (scalar x.1) (list_all (λ x. scalar x.1) t) e) (λ _. found_chars t s (and_right (scalar x.1) (list_all (λ x. scalar x.1) t) e))

known_chars : (o : Option ℕ) (n : ℕ) → IsChar o → ReferenceOfChars (known o n)
unfolding IsChar
known_chars None n h = tt
known_chars (Some c) n h = h

all_names : list_all (λ x. scalar x.1) names ≡ true
all_names = refl

named_chars : (s : List ℕ) → ReferenceOfChars (named s)
named_chars s =
    by_test ReferenceOfChars (is_closed (prefix_len is_word s) s) (known (found names (take (prefix_len is_word s) s)) (prefix_len is_word s + 1)) absent
    (λ _. known_chars (found names (take (prefix_len is_word s) s)) (prefix_len is_word s + 1) (found_chars names (take (prefix_len is_word s) s) all_names)) (λ _. tt)

reference_chars : (s : List ℕ) → ReferenceOfChars (reference s)
unfolding reference
reference_chars s =
    by_test ReferenceOfChars (begins (is 35) s) _ (named s)
    (λ _. by_test ReferenceOfChars (begins (is 120) (drop 1 s)) (numbered is_hex 16 3 (drop 2 s)) (numbered is_digit 10 2 (drop 1 s)) (λ _. numbered_chars is_hex 16 3 (drop 2 s)) (λ _. numbered_chars is_digit 10 2 (drop 1 s)))
    (λ _. named_chars s)

-- ---- runs

abbrev pub RunOfChars : Run → Type 0
RunOfChars (units us n) = OfChars us
RunOfChars (unknown_at k n) = Unit {0}

after_chars : (c n : ℕ) (x : Run) → scalar c ≡ true → RunOfChars x → RunOfChars (after (encode_utf16 c) n x)
after_chars c n (units us m) e h = one_char c us e h
after_chars c n (unknown_at k m) e h = tt

passed_chars : (n : ℕ) (x : Run) → RunOfChars x → RunOfChars (after [] n x)
passed_chars n (units us m) h = h
passed_chars n (unknown_at k m) h = tt

first_chars : (x : Run) → RunOfChars (at_first x)
first_chars (units us n) = tt
first_chars (unknown_at k n) = tt

referred_chars : (f : ℕ → Run) (r : Reference) → ((n : ℕ) → RunOfChars (f n)) → ReferenceOfChars r → RunOfChars (referred f r)
referred_chars f (stands_for c n) g h = after_chars c 1 (f n) h (g n)
referred_chars f unknown g h = first_chars (f 0)
referred_chars f absent g h = after_chars 38 1 (f 0) refl (g 0)

pub run_chars : (e : List ℕ → Bool) (n : ℕ) (s : List ℕ) → all_scalars s ≡ true → RunOfChars (run e n s)
unfolding run
run_chars e n [] h = no_chars
run_chars e (suc n) (c ∷ s) h = passed_chars 1 (run e n s) (run_chars e n s (and_right (scalar c) (all_scalars s) h))
run_chars e zero (c ∷ s) h =
    let rest = and_right (scalar c) (all_scalars s) h in
    by_test RunOfChars (e (c ∷ s)) (units [] 0) _ (λ _. no_chars)
    (λ _. by_test RunOfChars (nat_eq c 38) (referred (λ n. run e n s) (reference s)) (after (encode_utf16 c) 1 (run e 0 s)) (λ _. referred_chars (λ n. run e n s) (reference s) (λ n. run_chars e n s rest) (reference_chars s))
    (λ _. after_chars c 1 (run e 0 s) (and_left (scalar c) (all_scalars s) h) (run_chars e 0 s rest)))
