-- Reading back texts: a literal in double quotes is its units, whatever stands behind it.
use Rattle.std.proofs.Common.{◌≡◌, ℕ, suc, ◌+◌, ◌*◌, ◌/◌, ◌%◌, ◌<◌, Bool, true, false, List, [], ◌∷◌, ◌++◌, refl, sym, ap, ◌∙◌, arith, nat_eq, nat_lt, nat_le, length, append_assoc, append-nil}
use Rattle.std.specs.Prelude.{if◌then◌else◌}
use Rattle.std.specs.List.{flat_map, All}
use Rattle.std.specs.Char.{digit_value}
use Rattle.std.specs.Char.Escape.{encode_utf16}
use Rattle.std.specs.Str.Parse.{digits_value}
use Rattle.std.proofs.lemmas.List.{length-append}
use Rattle.std.proofs.lemmas.List.Elements.{All-head, All-tail}
use Rattle.std.proofs.lemmas.Bool.Decides.{nat_tests}
use Rattle.caja_units.specs.Literal.{hex_char, is_plain, unit_text, literal}
use Rattle.es3_tree.specs.Token.{text}
use Rattle.es3_tokens.specs.Characters.{is_hex, is_line}
use Rattle.es3_tokens.specs.Texts.{closed, body, after, escape, escaped, by_digits}
use Rattle.es3_tokens.specs.Cut.{accept, point}
use Rattle.es3_tokens.specs.Steps.{text_step}
use Rattle.es3_tokens.proofs.BackNames.{drop_seam}
use Rattle.es3_tokens.proofs.Texts.{point_text, at_char, body_cons, body_pass, after_after}
use Rattle.es3_tokens.proofs.Tests.{eq_of, le_test}

hex_char_value : (d : ℕ) → d < 16 → digit_value (hex_char d) ≡ d
hex_char_value d lt = grind (arith, nat_tests)

hex_char_hex : (d : ℕ) → d < 16 → is_hex (hex_char d) ≡ true
hex_char_hex d lt = grind (arith, nat_tests)

-- two or four digits read as what they write
two_read : (a b : ℕ) (s : List ℕ) → a < 16 → b < 16 → by_digits 2 (hex_char a ∷ hex_char b ∷ s) ≡ closed ((16 * a + b) ∷ []) 3
two_read a b s la lb =
    let le : nat_le 2 (length (hex_char a ∷ hex_char b ∷ s)) ≡ true = le_test 2 (length (hex_char a ∷ hex_char b ∷ s)) (omega arith) in
    let v : digits_value 16 (hex_char a ∷ hex_char b ∷ []) ≡ 16 * a + b = rw (hex_char_value a la, hex_char_value b lb) (omega arith) in
    rw (le, hex_char_hex a la, hex_char_hex b lb) (ap (λ (k : ℕ). closed (k ∷ []) 3) v)

four_read : (a b d e : ℕ) (s : List ℕ) → a < 16 → b < 16 → d < 16 → e < 16 → by_digits 4 (hex_char a ∷ hex_char b ∷ hex_char d ∷ hex_char e ∷ s) ≡ closed ((4096 * a + 256 * b + 16 * d + e) ∷ []) 5
four_read a b d e s la lb ld le =
    let l : nat_le 4 (length (hex_char a ∷ hex_char b ∷ hex_char d ∷ hex_char e ∷ s)) ≡ true = le_test 4 (length (hex_char a ∷ hex_char b ∷ hex_char d ∷ hex_char e ∷ s)) (omega arith) in
    let v : digits_value 16 (hex_char a ∷ hex_char b ∷ hex_char d ∷ hex_char e ∷ []) ≡ 4096 * a + 256 * b + 16 * d + e = rw (hex_char_value a la, hex_char_value b lb, hex_char_value d ld, hex_char_value e le) (omega arith) in
    rw (l, hex_char_hex a la, hex_char_hex b lb, hex_char_hex d ld, hex_char_hex e le) (ap (λ (k : ℕ). closed (k ∷ []) 5) v)

-- an escape in a text
by_escape : (t s us : List ℕ) → escape (t ++ s) ≡ closed us (length t) → body 34 0 (92 ∷ (t ++ s)) ≡ after us (suc (length t)) (body 34 0 s)
by_escape t s us e =
    body_cons 34 92 (t ++ s) ∙ ap (escaped (λ n. body 34 n (t ++ s))) e
    ∙ ap (after us 1) (body_pass 34 (length t) (t ++ s) ∙ ap (λ (w : List ℕ). after [] (length t) (body 34 0 w)) (drop_seam t s))
    ∙ after_after us [] 1 (length t) (body 34 0 s)
    ∙ ap (λ (w : List ℕ). after w (1 + length t) (body 34 0 s)) (append-nil us)
    ∙ (let e : 1 + length t ≡ suc (length t) = omega arith in ap (λ n. after us n (body 34 0 s)) e)

-- the text w reads as the unit u
abbrev Reads : ℕ → List ℕ → List ℕ → Type 0
Reads u s w = body 34 0 (w ++ s) ≡ after (u ∷ []) (length w) (body 34 0 s)

pick : (u : ℕ) (s : List ℕ) (b : Bool) (x y : List ℕ) → (b ≡ true → Reads u s x) → (b ≡ false → Reads u s y) → Reads u s (if b then x else y)
pick u s true x y f g = f refl
pick u s false x y f g = g refl

simple : (u k c : ℕ) (s : List ℕ) → nat_eq u k ≡ true → escape (c ∷ s) ≡ closed (k ∷ []) 1 → Reads u s (92 ∷ c ∷ [])
simple u k c s h e = by_escape (c ∷ []) s (u ∷ []) (e ∙ ap (λ (j : ℕ). closed (j ∷ []) 1) (sym (eq_of u k h)))

plain_units : (u : ℕ) → u < 65536 → encode_utf16 u ≡ u ∷ []
plain_units u lt = let e : nat_lt u 65536 ≡ true = grind (arith, nat_tests) in rw e refl

plain_line : (u : ℕ) → is_plain u ≡ true → is_line u ≡ false
plain_line u h = grind (arith, nat_tests)

plain_text : (u : ℕ) (s : List ℕ) → u < 65536 → nat_eq u 34 ≡ false → nat_eq u 92 ≡ false → is_line u ≡ false → Reads u s (u ∷ [])
plain_text u s lt q b l =
    at_char 34 u s _ (λ e. absurd (let f : nat_eq u 34 ≡ true = grind (arith, nat_tests) in cc (f, q))) l refl
    ∙ ap (λ x. if x then escaped (λ n. body 34 n s) (escape s) else after (encode_utf16 u) 1 (body 34 0 s)) b
    ∙ ap (λ (w : List ℕ). after w 1 (body 34 0 s)) (plain_units u lt)

by_two : (u : ℕ) (s : List ℕ) → u < 256 → Reads u s (92 ∷ 120 ∷ hex_char (u / 16) ∷ hex_char (u % 16) ∷ [])
by_two u s lt =
    let e : 16 * (u / 16) + u % 16 ≡ u = omega arith in
    by_escape (120 ∷ hex_char (u / 16) ∷ hex_char (u % 16) ∷ []) s (u ∷ []) (two_read (u / 16) (u % 16) s (omega arith) (omega arith) ∙ ap (λ (k : ℕ). closed (k ∷ []) 3) e)

by_four : (u : ℕ) (s : List ℕ) → u < 65536 → Reads u s (92 ∷ 117 ∷ hex_char (u / 4096 % 16) ∷ hex_char (u / 256 % 16) ∷ hex_char (u / 16 % 16) ∷ hex_char (u % 16) ∷ [])
by_four u s lt =
    let e : 4096 * (u / 4096 % 16) + 256 * (u / 256 % 16) + 16 * (u / 16 % 16) + u % 16 ≡ u = omega arith in
    by_escape (117 ∷ hex_char (u / 4096 % 16) ∷ hex_char (u / 256 % 16) ∷ hex_char (u / 16 % 16) ∷ hex_char (u % 16) ∷ []) s (u ∷ [])
    (four_read (u / 4096 % 16) (u / 256 % 16) (u / 16 % 16) (u % 16) s (omega arith) (omega arith) (omega arith) (omega arith) ∙ ap (λ (k : ℕ). closed (k ∷ []) 5) e)

back_unit : (u : ℕ) (s : List ℕ) → u < 65536 → Reads u s (unit_text u)
back_unit u s lt =
    pick u s (nat_eq u 8) _ _ (λ h. simple u 8 98 s h refl) (λ _.
    pick u s (nat_eq u 9) _ _ (λ h. simple u 9 116 s h refl) (λ _.
    pick u s (nat_eq u 10) _ _ (λ h. simple u 10 110 s h refl) (λ _.
    pick u s (nat_eq u 11) _ _ (λ h. simple u 11 118 s h refl) (λ _.
    pick u s (nat_eq u 12) _ _ (λ h. simple u 12 102 s h refl) (λ _.
    pick u s (nat_eq u 13) _ _ (λ h. simple u 13 114 s h refl) (λ _.
    pick u s (nat_eq u 34) _ _ (λ h. simple u 34 34 s h refl) (λ q.
    pick u s (nat_eq u 92) _ _ (λ h. simple u 92 92 s h refl) (λ b.
    pick u s (is_plain u) _ _ (λ h. plain_text u s lt q b (plain_line u h)) (λ _.
    pick u s (nat_lt u 256) _ _ (λ h. by_two u s (let l : u < 256 = grind (arith, nat_tests) in l)) (λ _. by_four u s lt))))))))))

back_units : (us r : List ℕ) → All (λ u. u < 65536) us → body 34 0 ((flat_map unit_text us ++ 34 ∷ []) ++ r) ≡ closed us (length (flat_map unit_text us ++ 34 ∷ []))
back_units [] r h = body_cons 34 34 r
back_units (u ∷ us) r h =
    ap (body 34 0) (ap (λ (w : List ℕ). w ++ r) (append_assoc (unit_text u) (flat_map unit_text us) (34 ∷ [])) ∙ append_assoc (unit_text u) (flat_map unit_text us ++ 34 ∷ []) r)
    ∙ back_unit u ((flat_map unit_text us ++ 34 ∷ []) ++ r) (All-head (λ u. u < 65536) u us h)
    ∙ ap (after (u ∷ []) (length (unit_text u))) (back_units us r (All-tail (λ u. u < 65536) u us h))
    ∙ (let e : length (unit_text u) + length (flat_map unit_text us ++ 34 ∷ []) ≡ length ((unit_text u ++ flat_map unit_text us) ++ 34 ∷ [])
    = sym (length-append (unit_text u) (flat_map unit_text us ++ 34 ∷ [])) ∙ ap length (sym (append_assoc (unit_text u) (flat_map unit_text us) (34 ∷ []))) in ap (λ n. closed (u ∷ us) n) e)

pub back_text : (o : Bool) (us r : List ℕ) → All (λ u. u < 65536) us → point o (literal us ++ r) ≡ accept (text us) (length (literal us))
back_text o us r h = point_text o 34 ((flat_map unit_text us ++ 34 ∷ []) ++ r) refl ∙ ap text_step (back_units us r h)
