-- What is written is the UTF-8 of characters.
use Rattle.std.proofs.Common.{◌≡◌, ℕ, ◌+◌, ◌/◌, ◌%◌, ◌<◌, ◌≤◌, Bool, true, false, ◌&&◌, List, [], ◌∷◌, ◌++◌, refl, sym, ap, ◌∙◌, arith, nat_eq, nat_lt, codes, append_assoc}
use Rattle.std.specs.Prelude.{if◌then◌else◌, Ok}
use Rattle.std.specs.List.{list_all, flat_map}
use Rattle.std.specs.Str.{all_scalars, encode_utf8_all, IsUtf8}
use Rattle.std.proofs.Math.Utf8.{scalar, encode, encodes}
use Rattle.std.proofs.lemmas.Str.{chars-encodes, encode_ascii, encodes-append}
use Rattle.std.proofs.lemmas.Bool.Decides.{nat_tests}
use Rattle.caja_units.specs.Utf8.{units_of_chars, utf8_of}
use Rattle.caja_units.proofs.Decoded.{decoded-IsUtf8}
use Rattle.caja_units.proofs.Ascii.{utf8_of-decoded}
use Rattle.html_kept.specs.Printed.{shown, shown_value}
use Rattle.html_kept.proofs.Chars.{and_left, and_right, and_both, by_test}

-- the UTF-8 of the units of characters is that of the characters
pub utf8_chars : (cs : List ℕ) → all_scalars cs ≡ true → utf8_of (units_of_chars cs) ≡ encode_utf8_all cs
utf8_chars cs h =
    let good : IsUtf8 (encode_utf8_all cs) = (cs, (h, refl)) in
    utf8_of-decoded (encode_utf8_all cs) (units_of_chars cs) (decoded-IsUtf8 (encode_utf8_all cs) good ∙ ap (λ (s : List ℕ). Ok (units_of_chars s)) (chars-encodes cs h))

-- bytes of which each stands for itself
plain : (f : ℕ → List ℕ) (bs : List ℕ) → list_all (λ b. nat_lt 127 b) bs ≡ true → ((b : ℕ) → 127 < b → f b ≡ b ∷ []) → flat_map f bs ≡ bs
plain f [] e h = refl
plain f (b ∷ bs) e h =
    let big : 127 < b = let t = and_left (nat_lt 127 b) (list_all (λ b. nat_lt 127 b) bs) e in grind (arith, nat_tests) in
    ap (λ (x : List ℕ). x ++ flat_map f bs) (h b big) ∙ ap (λ (x : List ℕ). b ∷ x) (plain f bs (and_right (nat_lt 127 b) (list_all (λ b. nat_lt 127 b) bs) e) h)

above : (b : ℕ) → 127 < b → nat_lt 127 b ≡ true
above b h = grind (arith, nat_tests)

-- the bytes of a character that is not of ASCII are all large
large_bytes : (c : ℕ) → 128 ≤ c → list_all (λ b. nat_lt 127 b) (encode c) ≡ true
unfolding encode
large_bytes c h = by_test Large (nat_lt c 128) (c ∷ []) _ (λ e. absurd (let t : c < 128 = grind (arith, nat_tests) in omega arith))
    (λ _. by_test Large (nat_lt c 2048) _ _ (λ _. two (192 + c / 64) (128 + c % 64) (omega arith) (omega arith))
    (λ _. by_test Large (nat_lt c 65536) _ _ (λ _. three (224 + c / 4096) (128 + c / 64 % 64) (128 + c % 64) (omega arith) (omega arith) (omega arith))
    (λ _. four (240 + c / 262144) (128 + c / 4096 % 64) (128 + c / 64 % 64) (128 + c % 64) (omega arith) (omega arith) (omega arith) (omega arith))))
  where
    Large : List ℕ → Type 0
    Large bs = list_all (λ b. nat_lt 127 b) bs ≡ true

    two : (a b : ℕ) → 127 < a → 127 < b → list_all (λ b. nat_lt 127 b) (a ∷ b ∷ []) ≡ true
    two a b h k = and_both (nat_lt 127 a) (nat_lt 127 b && true) (above a h) (and_both (nat_lt 127 b) true (above b k) refl)

    three : (a b d : ℕ) → 127 < a → 127 < b → 127 < d → list_all (λ b. nat_lt 127 b) (a ∷ b ∷ d ∷ []) ≡ true
    three a b d h k l = and_both (nat_lt 127 a) (list_all (λ b. nat_lt 127 b) (b ∷ d ∷ [])) (above a h) (two b d k l)

    four : (a b d e : ℕ) → 127 < a → 127 < b → 127 < d → 127 < e → list_all (λ b. nat_lt 127 b) (a ∷ b ∷ d ∷ e ∷ []) ≡ true
    four a b d e h k l m = and_both (nat_lt 127 a) (list_all (λ b. nat_lt 127 b) (b ∷ d ∷ e ∷ [])) (above a h) (three b d e k l m)

other : (b d : ℕ) → 127 < b → d ≤ 127 → nat_eq b d ≡ false
other b d h k = grind (arith, nat_tests)

pub shown_large : (b : ℕ) → 127 < b → shown b ≡ b ∷ []
shown_large b h =
    ap (λ t. if t then codes "&amp;" else if nat_eq b 60 then codes "&lt;" else if nat_eq b 62 then codes "&gt;" else b ∷ []) (other b 38 h (omega arith))
    ∙ ap (λ t. if t then codes "&lt;" else if nat_eq b 62 then codes "&gt;" else b ∷ []) (other b 60 h (omega arith))
    ∙ ap (λ t. if t then codes "&gt;" else b ∷ []) (other b 62 h (omega arith))

pub value_large : (b : ℕ) → 127 < b → shown_value b ≡ b ∷ []
value_large b h = ap (λ t. if t then codes "&quot;" else shown b) (other b 34 h (omega arith)) ∙ shown_large b h

-- what may be written of a character: characters of ASCII for one of ASCII, and any other for itself
pub record Escapes (f : ℕ → List ℕ) : Type 0 where
  pub large : (b : ℕ) → 127 < b → f b ≡ b ∷ []
  pub small : (b : ℕ) → b < 128 → encodes (f b) ≡ f b

append_nil : (xs : List ℕ) → xs ++ [] ≡ xs
append_nil [] = refl
append_nil (x ∷ xs) = ap (λ (ys : List ℕ). x ∷ ys) (append_nil xs)

one_escaped : (f : ℕ → List ℕ) (c : ℕ) → Escapes f → flat_map f (encode c) ≡ encodes (f c)
one_escaped f c g = by_size (nat_lt c 128) refl
  where
    by_size : (b : Bool) → nat_lt c 128 ≡ b → flat_map f (encode c) ≡ encodes (f c)
    by_size true e =
        let lt : c < 128 = grind (arith, nat_tests) in
        ap (flat_map f) (encode_ascii c lt) ∙ append_nil (f c) ∙ sym (g.small c lt)
    by_size false e =
        let le : 128 ≤ c = grind (arith, nat_tests) in
        plain f (encode c) (large_bytes c le) g.large ∙ sym (append_nil (encode c)) ∙ ap encodes (sym (g.large c (omega arith)))

flat_append : (f : ℕ → List ℕ) (xs ys : List ℕ) → flat_map f (xs ++ ys) ≡ flat_map f xs ++ flat_map f ys
flat_append f [] ys = refl
flat_append f (x ∷ xs) ys = ap (λ (zs : List ℕ). f x ++ zs) (flat_append f xs ys) ∙ sym (append_assoc (f x) (flat_map f xs) (flat_map f ys))

-- escapes of the bytes are the bytes of escapes
pub escaped : (f : ℕ → List ℕ) (cs : List ℕ) → Escapes f → flat_map f (encodes cs) ≡ encodes (flat_map f cs)
escaped f [] g = refl
escaped f (c ∷ cs) g =
    flat_append f (encode c) (encodes cs) ∙ ap (λ (x : List ℕ). x ++ flat_map f (encodes cs)) (one_escaped f c g) ∙ ap (λ (x : List ℕ). encodes (f c) ++ x) (escaped f cs g)
    ∙ sym (encodes-append (f c) (flat_map f cs))

ascii_byte : (b : ℕ) → b < 128 → encodes (b ∷ []) ≡ b ∷ []
ascii_byte b lt = append_nil (encode b) ∙ encode_ascii b lt

shown_small : (b : ℕ) → b < 128 → encodes (shown b) ≡ shown b
unfolding encode
shown_small b lt =
    by_test Same (nat_eq b 38) (codes "&amp;") _ (λ _. refl)
    (λ _. by_test Same (nat_eq b 60) (codes "&lt;") _ (λ _. refl) (λ _. by_test Same (nat_eq b 62) (codes "&gt;") (b ∷ []) (λ _. refl) (λ _. ascii_byte b lt)))
  where
    Same : List ℕ → Type 0
    Same x = encodes x ≡ x

value_small : (b : ℕ) → b < 128 → encodes (shown_value b) ≡ shown_value b
unfolding encode
value_small b lt = by_test Same (nat_eq b 34) (codes "&quot;") (shown b) (λ _. refl) (λ _. shown_small b lt)
  where
    Same : List ℕ → Type 0
    Same x = encodes x ≡ x

pub shown_escapes : Escapes shown
shown_escapes = record { large = shown_large; small = shown_small }

pub value_escapes : Escapes shown_value
value_escapes = record { large = value_large; small = value_small }

-- ---- scalars

scalars_append : (cs ds : List ℕ) → all_scalars cs ≡ true → all_scalars ds ≡ true → all_scalars (cs ++ ds) ≡ true
scalars_append [] ds e f = f
scalars_append (c ∷ cs) ds e f = and_both (scalar c) (all_scalars (cs ++ ds)) (and_left (scalar c) (all_scalars cs) e) (scalars_append cs ds (and_right (scalar c) (all_scalars cs) e) f)

shown_scalars : (c : ℕ) → scalar c ≡ true → all_scalars (shown c) ≡ true
shown_scalars c h =
    by_test Good (nat_eq c 38) (codes "&amp;") _ (λ _. refl)
    (λ _. by_test Good (nat_eq c 60) (codes "&lt;") _ (λ _. refl) (λ _. by_test Good (nat_eq c 62) (codes "&gt;") (c ∷ []) (λ _. refl) (λ _. and_both (scalar c) true h refl)))
  where
    Good : List ℕ → Type 0
    Good x = all_scalars x ≡ true

value_scalars : (c : ℕ) → scalar c ≡ true → all_scalars (shown_value c) ≡ true
value_scalars c h = by_test Good (nat_eq c 34) (codes "&quot;") (shown c) (λ _. refl) (λ _. shown_scalars c h)
  where
    Good : List ℕ → Type 0
    Good x = all_scalars x ≡ true

flat_scalars : (f : ℕ → List ℕ) (cs : List ℕ) → ((c : ℕ) → scalar c ≡ true → all_scalars (f c) ≡ true) → all_scalars cs ≡ true → all_scalars (flat_map f cs) ≡ true
flat_scalars f [] g h = refl
flat_scalars f (c ∷ cs) g h = scalars_append (f c) (flat_map f cs) (g c (and_left (scalar c) (all_scalars cs) h)) (flat_scalars f cs g (and_right (scalar c) (all_scalars cs) h))

pub text_scalars : (cs : List ℕ) → all_scalars cs ≡ true → all_scalars (flat_map shown cs) ≡ true
text_scalars cs h = flat_scalars shown cs shown_scalars h

pub value_is_scalars : (cs : List ℕ) → all_scalars cs ≡ true → all_scalars (flat_map shown_value cs) ≡ true
value_is_scalars cs h = flat_scalars shown_value cs value_scalars h

pub both_scalars : (cs ds : List ℕ) → all_scalars cs ≡ true → all_scalars ds ≡ true → all_scalars (cs ++ ds) ≡ true
both_scalars cs ds e f = scalars_append cs ds e f
