-- A value that is kept is a value as it is printed.
use Rattle.std.proofs.Common.{◌≡◌, ◌≢◌, ◌⊎◌, inl, inr, ℕ, suc, ◌+◌, Bool, true, false, ◌&&◌, ◌||◌, cond, List, [], ◌∷◌, ◌++◌, Option, None, Some, refl, sym, ap, subst, ◌∙◌, nat_eq, nat_lt, nat_le, not, length, take, drop, codes, arith, append_assoc, append-nil}
use Rattle.std.specs.Prelude.{if◌then◌else◌}
use Rattle.std.specs.List.{list_all, prefix_len, starts_with}
use Rattle.std.proofs.lemmas.Bool.Decides.{nat_tests}
use Rattle.std.proofs.lemmas.List.{take-append-drop}
use Rattle.caja_units.specs.Units.{same_units}
use Rattle.css_grammar.specs.Characters.{Class, letter, digit, space, dot, number_sign, percent, open_parenthesis, close_parenthesis, quote, backslash, class, lower, is_more, is_plain}
use Rattle.css_grammar.specs.Sheets.{Text, lowered}
use Rattle.css_grammar.specs.Tokens as k
use Rattle.css_grammar.specs.Tokens.{Word, w_letter, w_more, Whole, n_digit, n_more, s_whole, Fraction, b_point, b_more, Hash, h_one, h_more, Quoted, q_opens, q_more, Inside, i_none, i_text, Value, Tail}
use Rattle.css_kept.specs.Table.{is_in, Answers, Values, colour, image, a_length, lengths, one_of, Row, rows, colours, units, is_hash, is_hex_digit, is_colour, is_digit, is_digit_class, digits, is_fraction, is_length, is_without, link, printed_link, one, image_of, kept_values, values_in}
use Rattle.css_kept.specs.OfTable.{Each}
use Rattle.css_kept.specs.Back.{is_quotable, is_quotable_class, Quotable}
use Rattle.css_kept.proofs.Classes.{and_left, and_right, or_parts}
use Rattle.css_kept.proofs.Links.{same_is, some_is}
use Rattle.css_kept.proofs.Lists.{front_all}
use Rattle.css_kept.proofs.Unescaped.{Unescaped, link_unescaped}

-- a text that is written as it is printed, as a value
abbrev pub Stands : Text → Type 0
Stands v = (j : Tail) × Value v v j

-- ---- words in lower case

abbrev pub is_small : ℕ → Bool
is_small c = nat_le 97 c && nat_le c 122

abbrev pub is_word_part : ℕ → Bool
is_word_part c = is_small c || nat_eq c 45

abbrev pub plain_word : Text → Bool
plain_word [] = false
plain_word (c ∷ w) = is_small c && list_all is_word_part w

small_class : (c : ℕ) → is_small c ≡ true → (h : Bool) × (class c ≡ letter h)
unfolding class
small_class c e = by_hex (nat_le c 102) refl
  where
    by_hex : (b : Bool) → nat_le c 102 ≡ b → (h : Bool) × (class c ≡ letter h)
    by_hex true f = (true, grind (arith, nat_tests))
    by_hex false f = (false, grind (arith, nat_tests))

small_lower : (c : ℕ) → is_small c ≡ true → lower c ≡ c
unfolding lower
small_lower c e = grind (arith, nat_tests)

part_more : (c : ℕ) → is_word_part c ≡ true → is_more (class c) ≡ true
unfolding class
part_more c e = by_parts (or_parts (is_small c) (nat_eq c 45) e)
  where
    by_parts : (is_small c ≡ true) ⊎ (nat_eq c 45 ≡ true) → is_more (class c) ≡ true
    by_parts (inl h) = let s = small_class c h in ap is_more s.1
    by_parts (inr h) = let f : c ≡ 45 = grind (arith, nat_tests) in ap (λ n. is_more (class n)) f

part_lower : (c : ℕ) → is_word_part c ≡ true → lower c ≡ c
unfolding lower
part_lower c e = grind (arith, nat_tests)

more_word : (w v : Text) → Word w → list_all is_word_part v ≡ true → Word (w ++ v)
more_word w [] x e = subst Word (sym (append-nil w)) x
more_word w (c ∷ v) x e =
    subst Word (append_assoc w (c ∷ []) v) (more_word (w ++ c ∷ []) v (w_more w c x (part_more c (and_left (is_word_part c) (list_all is_word_part v) e))) (and_right (is_word_part c) (list_all is_word_part v) e))

pub plain_is_word : (w : Text) → plain_word w ≡ true → Word w
plain_is_word [] e = absurd cc
plain_is_word (c ∷ w) e = let s = small_class c (and_left (is_small c) (list_all is_word_part w) e) in more_word (c ∷ []) w (w_letter c s.0 s.1) (and_right (is_small c) (list_all is_word_part w) e)

parts_lower : (w : Text) → list_all is_word_part w ≡ true → lowered w ≡ w
parts_lower [] e = refl
parts_lower (c ∷ w) e = ap (λ n. n ∷ lowered w) (part_lower c (and_left (is_word_part c) (list_all is_word_part w) e)) ∙ ap (λ (z : Text). c ∷ z) (parts_lower w (and_right (is_word_part c) (list_all is_word_part w) e))

pub plain_lower : (w : Text) → plain_word w ≡ true → lowered w ≡ w
plain_lower [] e = refl
plain_lower (c ∷ w) e = ap (λ n. n ∷ lowered w) (small_lower c (and_left (is_small c) (list_all is_word_part w) e)) ∙ ap (λ (z : Text). c ∷ z) (parts_lower w (and_right (is_small c) (list_all is_word_part w) e))

word_stands : (w : Text) → plain_word w ≡ true → Stands w
word_stands w e = (k.a_word, subst (λ (z : Text). Value z w k.a_word) (plain_lower w e) (k.v_word w (plain_is_word w e)))

-- what holds of each text of a table holds of one that is in it
in_is : (P : Text → Type 0) (ws : List Text) (v : Text) → Each P ws → is_in ws v ≡ true → P v
unfolding is_in
in_is P [] v h e = absurd cc
in_is P (w ∷ ws) v h e = by_test (λ g. in_is P ws v h.1 g) (same_units v w) refl e
  where
    by_test : (is_in ws v ≡ true → P v) → (b : Bool) → same_units v w ≡ b → (if b then true else is_in ws v) ≡ true → P v
    by_test r true f g = subst P (sym (same_is v w f)) h.0
    by_test r false f g = r g

words_stand : (ws : List Text) → list_all plain_word ws ≡ true → Each Stands ws
words_stand [] e = tt
words_stand (w ∷ ws) e = (word_stands w (and_left (plain_word w) (list_all plain_word ws) e), words_stand ws (and_right (plain_word w) (list_all plain_word ws) e))

in_stands : (ws : List Text) (v : Text) → list_all plain_word ws ≡ true → is_in ws v ≡ true → Stands v
in_stands ws v h e = in_is Stands ws v (words_stand ws h) e

-- ---- colours

more_hash : (w v : Text) → Hash w → list_all is_hex_digit v ≡ true → Hash (w ++ v)
more_hash w [] x e = subst Hash (sym (append-nil w)) x
more_hash w (c ∷ v) x e = subst Hash (append_assoc w (c ∷ []) v) (more_hash (w ++ c ∷ []) v (h_more w c x (and_left (is_hex_digit c) (list_all is_hex_digit v) e)) (and_right (is_hex_digit c) (list_all is_hex_digit v) e))

sign_class : (c : ℕ) → nat_eq c 35 ≡ true → class c ≡ number_sign
unfolding class
sign_class c e = let f : c ≡ 35 = grind (arith, nat_tests) in ap class f

hash_stands : (v : Text) → is_hash v ≡ true → Stands v
hash_stands [] e = absurd cc
hash_stands (c ∷ []) e = absurd (let h : false ≡ true = and_right (nat_eq c 35 && true) false e in cc)
hash_stands (c ∷ d ∷ s) e =
    let f = and_left (nat_eq c 35 && list_all is_hex_digit (d ∷ s)) (nat_eq (length (d ∷ s)) 3 || nat_eq (length (d ∷ s)) 6) e in
    let g = and_left (nat_eq c 35) (list_all is_hex_digit (d ∷ s)) f in
    let h = and_right (nat_eq c 35) (list_all is_hex_digit (d ∷ s)) f in
    (k.a_hash, k.v_hash (c ∷ d ∷ s) (more_hash (c ∷ d ∷ []) s (h_one c d (sign_class c g) (and_left (is_hex_digit d) (list_all is_hex_digit s) h)) (and_right (is_hex_digit d) (list_all is_hex_digit s) h)))

colour_stands : (v : Text) → is_colour v ≡ true → Stands v
colour_stands v e = by_parts (or_parts (is_in colours v) (is_hash v) e)
  where
    by_parts : (is_in colours v ≡ true) ⊎ (is_hash v ≡ true) → Stands v
    by_parts (inl h) = in_stands colours v refl h
    by_parts (inr h) = hash_stands v h

-- ---- lengths

digit_class : (c : ℕ) → is_digit c ≡ true → class c ≡ digit
digit_class c e = by_class (class c) e
  where
    by_class : (k : Class) → is_digit_class k ≡ true → k ≡ digit
    by_class digit f = refl
    by_class _ f = absurd cc

more_whole : (w v : Text) → Whole w → list_all is_digit v ≡ true → Whole (w ++ v)
more_whole w [] x e = subst Whole (sym (append-nil w)) x
more_whole w (c ∷ v) x e = subst Whole (append_assoc w (c ∷ []) v) (more_whole (w ++ c ∷ []) v (n_more w c x (digit_class c (and_left (is_digit c) (list_all is_digit v) e))) (and_right (is_digit c) (list_all is_digit v) e))

more_fraction : (w v : Text) → Fraction w → list_all is_digit v ≡ true → Fraction (w ++ v)
more_fraction w [] x e = subst Fraction (sym (append-nil w)) x
more_fraction w (c ∷ v) x e =
    subst Fraction (append_assoc w (c ∷ []) v) (more_fraction (w ++ c ∷ []) v (b_more w c x (digit_class c (and_left (is_digit c) (list_all is_digit v) e))) (and_right (is_digit c) (list_all is_digit v) e))

-- so many digits at the front, one at least
whole_front : (d : Text) → list_all is_digit d ≡ true → 0 ≢ length d → Whole d
whole_front [] e h = absurd (h refl)
whole_front (c ∷ d) e h = more_whole (c ∷ []) d (n_digit c (digit_class c (and_left (is_digit c) (list_all is_digit d) e))) (and_right (is_digit c) (list_all is_digit d) e)

some_digits : (s : Text) → nat_lt 0 (digits s) ≡ true → 0 ≢ length (take (digits s) s)
some_digits [] e h = cc
some_digits (x ∷ xs) e h = by_test (is_digit x) e h
  where
    by_test : (b : Bool) → nat_lt 0 (cond b (1 + prefix_len is_digit xs) 0) ≡ true → 0 ≢ length (take (cond b (1 + prefix_len is_digit xs) 0) (x ∷ xs))
    by_test true f h = let k : 1 + prefix_len is_digit xs ≡ suc (prefix_len is_digit xs) = omega arith in absurd (omega (arith, subst (λ n. 0 ≡ length (take n (x ∷ xs))) k h))
    by_test false f h = cc

-- a number and a unit
percent_class : class 37 ≡ percent
unfolding class
percent_class = refl

unit_stands : (w v : Text) → ((x : Text) → Word x → Value (w ++ lowered x) (w ++ x) k.a_word) → plain_word v ≡ true → Stands (w ++ v)
unit_stands w v f e = (k.a_word, subst (λ (z : Text). Value (w ++ z) (w ++ v) k.a_word) (plain_lower v e) (f v (plain_is_word v e)))

in_units : (w u : Text) → ((x : Text) → Word x → Value (w ++ lowered x) (w ++ x) k.a_word) → ((c : ℕ) → class c ≡ percent → Value (w ++ c ∷ []) (w ++ c ∷ []) k.closed) → is_in units u ≡ true → Stands (w ++ u)
in_units w u f g e =
    in_is (λ (v : Text). Stands (w ++ v)) units u
    (unit_stands w (codes "px") f refl, (unit_stands w (codes "em") f refl, (unit_stands w (codes "ex") f refl, (unit_stands w (codes "pt") f refl, ((k.closed, g 37 percent_class), tt))))) e

whole_stands : (w u : Text) → Whole w → is_in units u ≡ true → Stands (w ++ u)
whole_stands w u x e = in_units w u (λ v y. k.v_unit_whole w v x y) (λ c y. k.v_percent_whole w c x y) e

fraction_stands : (w u : Text) → Fraction w → is_in units u ≡ true → Stands (w ++ u)
fraction_stands w u x e = in_units w u (λ v y. k.v_unit_fraction w v x y) (λ c y. k.v_percent_fraction w c x y) e

dot_class : (c : ℕ) → nat_eq c 46 ≡ true → class c ≡ dot
unfolding class
dot_class c e = let f : c ≡ 46 = grind (arith, nat_tests) in ap class f

-- digits behind a point
fraction_of : (w : Text) (c : ℕ) (d : Text) → Whole w → class c ≡ dot → list_all is_digit d ≡ true → 0 ≢ length d → Fraction (w ++ c ∷ d)
fraction_of w c [] x e h n = absurd (n refl)
fraction_of w c (b ∷ d) x e h n =
    subst Fraction (append_assoc w (c ∷ b ∷ []) d)
    (more_fraction (w ++ c ∷ b ∷ []) d (b_point w c b (s_whole w x) e (digit_class b (and_left (is_digit b) (list_all is_digit d) h))) (and_right (is_digit b) (list_all is_digit d) h))

behind_whole : (w r : Text) → Whole w → is_fraction r ≡ true → Stands (w ++ r)
behind_whole w [] x e = absurd cc
behind_whole w (c ∷ s) x e =
    let j = and_left (nat_eq c 46 && nat_lt 0 (digits s)) (is_in units (drop (digits s) s)) e in
    let h = and_left (nat_eq c 46) (nat_lt 0 (digits s)) j in
    let some = some_digits s (and_right (nat_eq c 46) (nat_lt 0 (digits s)) j) in
    let u = and_right (nat_eq c 46 && nat_lt 0 (digits s)) (is_in units (drop (digits s) s)) e in
    let f = fraction_of w c (take (digits s) s) x (dot_class c h) (front_all is_digit s) some in
    subst Stands (append_assoc w (c ∷ take (digits s) s) (drop (digits s) s) ∙ ap (λ (z : Text). w ++ c ∷ z) (take-append-drop (digits s) s)) (fraction_stands (w ++ c ∷ take (digits s) s) (drop (digits s) s) f u)

zero_class : class 48 ≡ digit
unfolding class
zero_class = refl

length_stands : (v : Text) → is_length v ≡ true → Stands v
length_stands v e = by_parts (or_parts (same_units v (codes "0")) (nat_lt 0 (digits v) && (is_in units (drop (digits v) v) || is_fraction (drop (digits v) v))) e)
  where
    by_rest : Whole (take (digits v) v) → (is_in units (drop (digits v) v) ≡ true) ⊎ (is_fraction (drop (digits v) v) ≡ true) → Stands v
    by_rest x (inl h) = subst Stands (take-append-drop (digits v) v) (whole_stands (take (digits v) v) (drop (digits v) v) x h)
    by_rest x (inr h) = subst Stands (take-append-drop (digits v) v) (behind_whole (take (digits v) v) (drop (digits v) v) x h)

    by_parts : (same_units v (codes "0") ≡ true) ⊎ ((nat_lt 0 (digits v) && (is_in units (drop (digits v) v) || is_fraction (drop (digits v) v))) ≡ true) → Stands v
    by_parts (inl h) = subst Stands (sym (same_is v (codes "0") h)) (k.a_whole, k.v_whole (48 ∷ []) (n_digit 48 zero_class))
    by_parts (inr h) =
        by_rest (whole_front (take (digits v) v) (front_all is_digit v) (some_digits v (and_left (nat_lt 0 (digits v)) (is_in units (drop (digits v) v) || is_fraction (drop (digits v) v)) h)))
        (or_parts (is_in units (drop (digits v) v)) (is_fraction (drop (digits v) v)) (and_right (nat_lt 0 (digits v)) (is_in units (drop (digits v) v) || is_fraction (drop (digits v) v)) h))

-- ---- answers of the rule

quote_class : class 34 ≡ quote
unfolding class
quote_class = refl

open_class : class 40 ≡ open_parenthesis
unfolding class
open_class = refl

close_class : class 41 ≡ close_parenthesis
unfolding class
close_class = refl

plain_unit : (c : ℕ) → is_quotable c ≡ true → nat_eq c 34 ≡ false → is_plain 34 (class c) c ≡ true
plain_unit c e f = by_class (class c) e
  where
    by_class : (k : Class) → is_quotable_class k ≡ true → is_plain 34 k c ≡ true
    by_class (space true) h = absurd cc
    by_class backslash h = absurd cc
    by_class quote h = ap (λ b. if b then false else true) f
    by_class _ h = refl

no_quote : (b : Bool) → not b ≡ true → b ≡ false
no_quote true e = absurd cc
no_quote false e = refl

more_quoted : (w u : Text) → Quoted 34 w → list_all is_quotable u ≡ true → is_without 34 u ≡ true → Quoted 34 (w ++ u)
more_quoted w [] x e f = subst (Quoted 34) (sym (append-nil w)) x
more_quoted w (c ∷ u) x e f =
    subst (Quoted 34) (append_assoc w (c ∷ []) u)
    (more_quoted (w ++ c ∷ []) u (q_more 34 c w x (plain_unit c (and_left (is_quotable c) (list_all is_quotable u) e) (no_quote (nat_eq c 34) (and_left (not (nat_eq c 34)) (is_without 34 u) f))))
    (and_right (is_quotable c) (list_all is_quotable u) e) (and_right (not (nat_eq c 34)) (is_without 34 u) f))

url_stands : (u : Text) → list_all is_quotable u ≡ true → is_without 34 u ≡ true → Stands (codes "url(\"" ++ u ++ codes "\")")
url_stands u e f =
    let inner : Inside 0 ((34 ∷ u) ++ 34 ∷ []) = i_text 0 34 [] (34 ∷ u) i_none (more_quoted (34 ∷ []) u (q_opens 34 quote_class) e f) in
    let v : Value (lowered (codes "url") ++ 40 ∷ (((34 ∷ u) ++ 34 ∷ []) ++ 41 ∷ [])) (codes "url" ++ 40 ∷ (((34 ∷ u) ++ 34 ∷ []) ++ 41 ∷ [])) k.closed = k.v_call (codes "url") ((34 ∷ u) ++ 34 ∷ []) 40 41 (plain_is_word (codes "url") refl) open_class inner close_class in
    let low : Value (codes "url" ++ 40 ∷ (((34 ∷ u) ++ 34 ∷ []) ++ 41 ∷ [])) (codes "url" ++ 40 ∷ (((34 ∷ u) ++ 34 ∷ []) ++ 41 ∷ [])) k.closed =
    subst (λ (z : Text). Value (z ++ 40 ∷ (((34 ∷ u) ++ 34 ∷ []) ++ 41 ∷ [])) (codes "url" ++ 40 ∷ (((34 ∷ u) ++ 34 ∷ []) ++ 41 ∷ [])) k.closed) (plain_lower (codes "url") refl) v in
    subst Stands (ap (λ (z : Text). codes "url" ++ 40 ∷ 34 ∷ z) (append_assoc u (34 ∷ []) (41 ∷ []))) (k.closed, low)

-- ---- values

one_stands : (p : Text → Bool) → ((v : Text) → p v ≡ true → Stands v) → (vs : List Text) → one p vs ≡ true → Each Stands vs
one_stands p g [] e = absurd cc
one_stands p g (v ∷ []) e = (g v e, tt)
one_stands p g (v ∷ w ∷ vs) e = absurd cc

all_stand : (vs : List Text) → list_all is_length vs ≡ true → Each Stands vs
all_stand [] e = tt
all_stand (v ∷ vs) e = (length_stands v (and_left (is_length v) (list_all is_length vs) e), all_stand vs (and_right (is_length v) (list_all is_length vs) e))

answer_stands : (a : Answers) (t : Text) (o : Option Text) (ws : List Text) → Quotable a → Unescaped t → a.for_style t ≡ o → printed_link o ≡ Some ws → Each Stands ws
answer_stands a t None ws q x f e = absurd cc
answer_stands a t (Some u) ws q x f e = by_test (is_without 34 u) refl e
  where
    by_test : (b : Bool) → is_without 34 u ≡ b → (if b then Some ((codes "url(\"" ++ u ++ codes "\")") ∷ []) else None) ≡ Some ws → Each Stands ws
    by_test true h g = let i : ((codes "url(\"" ++ u ++ codes "\")") ∷ []) ≡ ws = cc in subst (Each Stands) i (url_stands u (q t u x f).0 h, tt)
    by_test false h g = absurd cc

image_stands : (a : Answers) (vs ws : List Text) → Quotable a → Each Unescaped vs → image_of a vs ≡ Some ws → Each Stands ws
image_stands a [] ws q x e = absurd cc
image_stands a (v ∷ w ∷ vs) ws q x e = absurd cc
image_stands a (v ∷ []) ws q x e = by_none (same_units v (codes "none")) refl e
  where
    by_url : (b : Bool) → (if b then printed_link (a.for_style (link v)) else None) ≡ Some ws → Each Stands ws
    by_url true g = answer_stands a (link v) (a.for_style (link v)) ws q (link_unescaped v x.0) refl g
    by_url false g = absurd cc

    by_none : (b : Bool) → same_units v (codes "none") ≡ b → (if b then Some (v ∷ []) else if starts_with nat_eq v (codes "url(") then printed_link (a.for_style (link v)) else None) ≡ Some ws → Each Stands ws
    by_none true f g = let h : (v ∷ []) ≡ ws = cc in subst (Each Stands) h (subst Stands (sym (same_is v (codes "none") f)) (word_stands (codes "none") refl), tt)
    by_none false f g = by_url (starts_with nat_eq v (codes "url(")) g

-- the words of a row are words in lower case
abbrev pub WordsStand : Values → Bool
WordsStand (one_of ws) = list_all plain_word ws
WordsStand _ = true

values_stand : (a : Answers) (x : Values) (vs ws : List Text) → Quotable a → Each Unescaped vs → WordsStand x ≡ true → kept_values a x vs ≡ Some ws → Each Stands ws
values_stand a colour vs ws q y p e = let h = some_is (one is_colour vs) vs ws e in subst (Each Stands) h.1 (one_stands is_colour colour_stands vs h.0)
values_stand a image vs ws q y p e = image_stands a vs ws q y e
values_stand a a_length vs ws q y p e = let h = some_is (one is_length vs) vs ws e in subst (Each Stands) h.1 (one_stands is_length length_stands vs h.0)
values_stand a lengths vs ws q y p e =
    let h = some_is (nat_lt 0 (length vs) && nat_le (length vs) 4 && list_all is_length vs) vs ws e in
    subst (Each Stands) h.1 (all_stand vs (and_right (nat_lt 0 (length vs) && nat_le (length vs) 4) (list_all is_length vs) h.0))
values_stand a (one_of ns) vs ws q y p e = let h = some_is (one (is_in ns) vs) vs ws e in subst (Each Stands) h.1 (one_stands (is_in ns) (λ v. in_stands ns v p) vs h.0)

-- there is a value
abbrev pub has_some : List Text → Bool
has_some [] = false
has_some (w ∷ ws) = true

one_some : (p : Text → Bool) (vs : List Text) → one p vs ≡ true → has_some vs ≡ true
one_some p [] e = absurd cc
one_some p (v ∷ vs) e = refl

many_some : (vs : List Text) (b c : Bool) → ((nat_lt 0 (length vs) && b) && c) ≡ true → has_some vs ≡ true
many_some [] b c e = absurd cc
many_some (v ∷ vs) b c e = refl

link_some : (o : Option Text) (ws : List Text) → printed_link o ≡ Some ws → has_some ws ≡ true
link_some None ws e = absurd cc
link_some (Some u) ws e = by_test (is_without 34 u) e
  where
    by_test : (b : Bool) → (if b then Some ((codes "url(\"" ++ u ++ codes "\")") ∷ []) else None) ≡ Some ws → has_some ws ≡ true
    by_test true g = let i : ((codes "url(\"" ++ u ++ codes "\")") ∷ []) ≡ ws = cc in ap has_some (sym i)
    by_test false g = absurd cc

image_some : (a : Answers) (vs ws : List Text) → image_of a vs ≡ Some ws → has_some ws ≡ true
image_some a [] ws e = absurd cc
image_some a (v ∷ w ∷ vs) ws e = absurd cc
image_some a (v ∷ []) ws e = by_none (same_units v (codes "none")) (starts_with nat_eq v (codes "url(")) e
  where
    by_none : (b c : Bool) → (if b then Some (v ∷ []) else if c then printed_link (a.for_style (link v)) else None) ≡ Some ws → has_some ws ≡ true
    by_none true c g = let h : (v ∷ []) ≡ ws = cc in ap has_some (sym h)
    by_none false true g = link_some (a.for_style (link v)) ws g
    by_none false false g = absurd cc

values_some : (a : Answers) (x : Values) (vs ws : List Text) → kept_values a x vs ≡ Some ws → has_some ws ≡ true
values_some a colour vs ws e = let h = some_is (one is_colour vs) vs ws e in ap has_some (sym h.1) ∙ one_some is_colour vs h.0
values_some a image vs ws e = image_some a vs ws e
values_some a a_length vs ws e = let h = some_is (one is_length vs) vs ws e in ap has_some (sym h.1) ∙ one_some is_length vs h.0
values_some a lengths vs ws e = let h = some_is (nat_lt 0 (length vs) && nat_le (length vs) 4 && list_all is_length vs) vs ws e in ap has_some (sym h.1) ∙ many_some vs (nat_le (length vs) 4) (list_all is_length vs) h.0
values_some a (one_of ns) vs ws e = let h = some_is (one (is_in ns) vs) vs ws e in ap has_some (sym h.1) ∙ one_some (is_in ns) vs h.0

-- the property is a word, there is a value, and each value is written as it is printed
pub record Written (n : Text) (ws : List Text) : Type 0 where
  pub plain : plain_word n ≡ true
  pub some : has_some ws ≡ true
  pub values : Each Stands ws

abbrev pub RowStands : Row → Bool
RowStands r = plain_word r.property && WordsStand r.values

rows_written : (rs : List Row) (a : Answers) (n : Text) (vs ws : List Text) → Quotable a → Each Unescaped vs → list_all RowStands rs ≡ true → values_in rs a n vs ≡ Some ws → Written n ws
rows_written [] a n vs ws q y p e = absurd cc
rows_written (r ∷ rs) a n vs ws q y p e = by_test (λ g. rows_written rs a n vs ws q y (and_right (RowStands r) (list_all RowStands rs) p) g) (same_units n r.property) refl e
  where
    by_test : (values_in rs a n vs ≡ Some ws → Written n ws) → (b : Bool) → same_units n r.property ≡ b → (if b then kept_values a r.values vs else values_in rs a n vs) ≡ Some ws → Written n ws
    by_test k true f g =
        let h = and_left (RowStands r) (list_all RowStands rs) p in
        record {
          plain = subst (λ (z : Text). plain_word z ≡ true) (sym (same_is n r.property f)) (and_left (plain_word r.property) (WordsStand r.values) h);
          some = values_some a r.values vs ws g;
          values = values_stand a r.values vs ws q y (and_right (plain_word r.property) (WordsStand r.values) h) g;
        }
    by_test k false f g = k g

pub kept_written : (a : Answers) (n : Text) (vs ws : List Text) → Quotable a → Each Unescaped vs → values_in rows a n vs ≡ Some ws → Written n ws
kept_written a n vs ws q y e = rows_written rows a n vs ws q y refl e
