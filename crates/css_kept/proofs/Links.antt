-- No value that is kept has a parenthesis but what the rule answered.
use Rattle.std.proofs.Common.{◌≡◌, ◌⊎◌, inl, inr, ℕ, ◌<◌, Bool, true, false, ◌&&◌, ◌||◌, List, [], ◌∷◌, ◌++◌, Option, None, Some, refl, sym, ap, subst, ◌∙◌, nat_eq, nat_lt, nat_le, length, take, drop, codes, arith}
use Rattle.std.specs.Prelude.{if◌then◌else◌}
use Rattle.std.specs.List.{list_all, starts_with}
use Rattle.std.proofs.lemmas.Bool.Decides.{nat_tests}
use Rattle.std.proofs.lemmas.List.{take-append-drop}
use Rattle.caja_units.specs.Units.{same_units}
use Rattle.css_grammar.specs.Characters.{Class, other, class, is_hex}
use Rattle.css_grammar.specs.Sheets.{Text}
use Rattle.css_kept.specs.Table.{is_in, Answers, Values, colour, image, a_length, lengths, one_of, Row, rows, colours, units, is_hash, is_hex_digit, is_colour, is_digit, is_digit_class, digits, is_fraction, is_length, is_without, link, printed_link, if_so, one, image_of, kept_values, values_in}
use Rattle.css_kept.specs.OfTable.{Each}
use Rattle.css_kept.specs.Links.{IsPlain, is_simple}
use Rattle.css_kept.proofs.Classes.{and_left, and_right, and_both, or_parts, is_ascii, is_other, ascii_class, below, below_is, all_both, all_are}
use Rattle.css_kept.proofs.Lists.{front_all}

abbrev pub all_simple : Text → Bool
all_simple v = list_all is_simple v

abbrev pub Without : Text → Type 0
Without v = all_simple v ≡ true

pub same_is : (s t : Text) → same_units s t ≡ true → s ≡ t
same_is [] [] e = refl
same_is [] (b ∷ t) e = absurd cc
same_is (a ∷ s) [] e = absurd cc
same_is (a ∷ s) (b ∷ t) e =
    let l = and_left (nat_eq a b) (same_units s t) e in
    let f : a ≡ b = grind (arith, nat_tests) in
    ap (λ n. n ∷ s) f ∙ ap (λ (z : Text). b ∷ z) (same_is s t (and_right (nat_eq a b) (same_units s t) e))

in_without : (ws : List Text) (v : Text) → list_all all_simple ws ≡ true → is_in ws v ≡ true → Without v
unfolding is_in
in_without [] v h e = absurd cc
in_without (w ∷ ws) v h e = by_test (λ g. in_without ws v (and_right (all_simple w) (list_all all_simple ws) h) g) (same_units v w) refl e
  where
    by_test : (is_in ws v ≡ true → Without v) → (b : Bool) → same_units v w ≡ b → (if b then true else is_in ws v) ≡ true → Without v
    by_test r true f g = subst Without (sym (same_is v w f)) (and_left (all_simple w) (list_all all_simple ws) h)
    by_test r false f g = r g

hex_test : below 128 (λ c. if is_hex_digit c then is_simple c else true) ≡ true
unfolding class
hex_test = refl

digit_test : below 128 (λ c. if is_digit c then is_simple c else true) ≡ true
unfolding class
digit_test = refl

hex_is : (c : ℕ) → is_hex_digit c ≡ true → is_simple c ≡ true
hex_is c e =
    let small : is_ascii c ≡ true = ascii_class c (class c) refl (by_class (class c) e) in
    let lt : c < 128 = grind (arith, nat_tests) in
    sym (ap (λ b. if b then is_simple c else true) e) ∙ below_is 128 (λ c. if is_hex_digit c then is_simple c else true) c hex_test lt
  where
    by_class : (k : Class) → is_hex k ≡ true → is_other k ≡ false
    by_class other h = absurd cc
    by_class _ h = refl

digit_is : (c : ℕ) → is_digit c ≡ true → is_simple c ≡ true
digit_is c e =
    let small : is_ascii c ≡ true = ascii_class c (class c) refl (by_class (class c) e) in
    let lt : c < 128 = grind (arith, nat_tests) in
    sym (ap (λ b. if b then is_simple c else true) e) ∙ below_is 128 (λ c. if is_digit c then is_simple c else true) c digit_test lt
  where
    by_class : (k : Class) → is_digit_class k ≡ true → is_other k ≡ false
    by_class other h = absurd cc
    by_class _ h = refl

-- digits, and what stands behind them
behind_digits : (s : Text) → Without (drop (digits s) s) → Without s
behind_digits s h = subst Without (take-append-drop (digits s) s) (all_both is_simple (take (digits s) s) (drop (digits s) s) (all_are is_digit is_simple digit_is (take (digits s) s) (front_all is_digit s)) h)

hash_is : (v : Text) → is_hash v ≡ true → Without v
hash_is [] e = refl
hash_is (c ∷ s) e =
    let f = and_left (nat_eq c 35 && list_all is_hex_digit s) (nat_eq (length s) 3 || nat_eq (length s) 6) e in
    let h = and_left (nat_eq c 35) (list_all is_hex_digit s) f in
    let k = and_right (nat_eq c 35) (list_all is_hex_digit s) f in
    and_both (is_simple c) (all_simple s) (let f : c ≡ 35 = grind (arith, nat_tests) in ap (λ n. is_simple n) f) (all_are is_hex_digit is_simple hex_is s k)

colour_is : (v : Text) → is_colour v ≡ true → Without v
colour_is v e = by_parts (or_parts (is_in colours v) (is_hash v) e)
  where
    by_parts : (is_in colours v ≡ true) ⊎ (is_hash v ≡ true) → Without v
    by_parts (inl h) = in_without colours v refl h
    by_parts (inr h) = hash_is v h

fraction_is : (v : Text) → is_fraction v ≡ true → Without v
fraction_is [] e = refl
fraction_is (c ∷ s) e =
    let h = and_left (nat_eq c 46) (nat_lt 0 (digits s)) (and_left (nat_eq c 46 && nat_lt 0 (digits s)) (is_in units (drop (digits s) s)) e) in
    let k = and_right (nat_eq c 46 && nat_lt 0 (digits s)) (is_in units (drop (digits s) s)) e in
    and_both (is_simple c) (all_simple s) (let f : c ≡ 46 = grind (arith, nat_tests) in ap (λ n. is_simple n) f) (behind_digits s (in_without units (drop (digits s) s) refl k))

length_is : (v : Text) → is_length v ≡ true → Without v
length_is v e = by_parts (or_parts (same_units v (codes "0")) (nat_lt 0 (digits v) && (is_in units (drop (digits v) v) || is_fraction (drop (digits v) v))) e)
  where
    by_rest : (is_in units (drop (digits v) v) ≡ true) ⊎ (is_fraction (drop (digits v) v) ≡ true) → Without v
    by_rest (inl h) = behind_digits v (in_without units (drop (digits v) v) refl h)
    by_rest (inr h) = behind_digits v (fraction_is (drop (digits v) v) h)

    by_parts : (same_units v (codes "0") ≡ true) ⊎ ((nat_lt 0 (digits v) && (is_in units (drop (digits v) v) || is_fraction (drop (digits v) v))) ≡ true) → Without v
    by_parts (inl h) = subst Without (sym (same_is v (codes "0") h)) refl
    by_parts (inr h) = by_rest (or_parts (is_in units (drop (digits v) v)) (is_fraction (drop (digits v) v)) (and_right (nat_lt 0 (digits v)) (is_in units (drop (digits v) v) || is_fraction (drop (digits v) v)) h))

-- ---- values

pub some_is : (b : Bool) (vs ws : List Text) → if_so b vs ≡ Some ws → (b ≡ true) × (vs ≡ ws)
some_is true vs ws e = (refl, cc)
some_is false vs ws e = absurd cc

one_is : (a : Answers) (xs : List Text) (p : Text → Bool) → ((v : Text) → p v ≡ true → Without v) → (vs : List Text) → one p vs ≡ true → Each (IsPlain a xs) vs
one_is a xs p g [] e = absurd cc
one_is a xs p g (v ∷ []) e = (inl (g v e), tt)
one_is a xs p g (v ∷ w ∷ vs) e = absurd cc

all_lengths : (a : Answers) (xs vs : List Text) → list_all is_length vs ≡ true → Each (IsPlain a xs) vs
all_lengths a xs [] e = tt
all_lengths a xs (v ∷ vs) e = (inl (length_is v (and_left (is_length v) (list_all is_length vs) e)), all_lengths a xs vs (and_right (is_length v) (list_all is_length vs) e))

answer_is : (a : Answers) (v : Text) (o : Option Text) (ws : List Text) → a.for_style (link v) ≡ o → printed_link o ≡ Some ws → Each (IsPlain a (v ∷ [])) ws
answer_is a v None ws f e = absurd cc
answer_is a v (Some u) ws f e = by_test (is_without 34 u) e
  where
    by_test : (b : Bool) → (if b then Some ((codes "url(\"" ++ u ++ codes "\")") ∷ []) else None) ≡ Some ws → Each (IsPlain a (v ∷ [])) ws
    by_test true g = let h : ((codes "url(\"" ++ u ++ codes "\")") ∷ []) ≡ ws = cc in subst (Each (IsPlain a (v ∷ []))) h (inr (v, u, refl, f, refl), tt)
    by_test false g = absurd cc

image_is : (a : Answers) (vs ws : List Text) → image_of a vs ≡ Some ws → Each (IsPlain a vs) ws
image_is a [] ws e = absurd cc
image_is a (v ∷ w ∷ vs) ws e = absurd cc
image_is a (v ∷ []) ws e = by_none (same_units v (codes "none")) refl e
  where
    by_url : (b : Bool) → (if b then printed_link (a.for_style (link v)) else None) ≡ Some ws → Each (IsPlain a (v ∷ [])) ws
    by_url true g = answer_is a v (a.for_style (link v)) ws refl g
    by_url false g = absurd cc

    by_none : (b : Bool) → same_units v (codes "none") ≡ b → (if b then Some (v ∷ []) else if starts_with nat_eq v (codes "url(") then printed_link (a.for_style (link v)) else None) ≡ Some ws → Each (IsPlain a (v ∷ [])) ws
    by_none true f g = let h : (v ∷ []) ≡ ws = cc in subst (Each (IsPlain a (v ∷ []))) h (inl (subst Without (sym (same_is v (codes "none") f)) refl), tt)
    by_none false f g = by_url (starts_with nat_eq v (codes "url(")) g

-- the words of a row have no parenthesis
abbrev pub WordsPlain : Values → Bool
WordsPlain (one_of ws) = list_all all_simple ws
WordsPlain _ = true

values_plain : (a : Answers) (x : Values) (vs ws : List Text) → WordsPlain x ≡ true → kept_values a x vs ≡ Some ws → Each (IsPlain a vs) ws
values_plain a colour vs ws p e = let h = some_is (one is_colour vs) vs ws e in subst (Each (IsPlain a vs)) h.1 (one_is a vs is_colour colour_is vs h.0)
values_plain a image vs ws p e = image_is a vs ws e
values_plain a a_length vs ws p e = let h = some_is (one is_length vs) vs ws e in subst (Each (IsPlain a vs)) h.1 (one_is a vs is_length length_is vs h.0)
values_plain a lengths vs ws p e =
    let h = some_is (nat_lt 0 (length vs) && nat_le (length vs) 4 && list_all is_length vs) vs ws e in
    subst (Each (IsPlain a vs)) h.1 (all_lengths a vs vs (and_right (nat_lt 0 (length vs) && nat_le (length vs) 4) (list_all is_length vs) h.0))
values_plain a (one_of ns) vs ws p e = let h = some_is (one (is_in ns) vs) vs ws e in subst (Each (IsPlain a vs)) h.1 (one_is a vs (is_in ns) (λ v. in_without ns v p) vs h.0)

rows_plain : (rs : List Row) (a : Answers) (n : Text) (vs ws : List Text) → list_all (λ r. WordsPlain r.values) rs ≡ true → values_in rs a n vs ≡ Some ws → Each (IsPlain a vs) ws
rows_plain [] a n vs ws p e = absurd cc
rows_plain (r ∷ rs) a n vs ws p e = by_test (λ f. rows_plain rs a n vs ws (and_right (WordsPlain r.values) (list_all (λ r. WordsPlain r.values) rs) p) f) (same_units n r.property) e
  where
    by_test : (values_in rs a n vs ≡ Some ws → Each (IsPlain a vs) ws) → (b : Bool) → (if b then kept_values a r.values vs else values_in rs a n vs) ≡ Some ws → Each (IsPlain a vs) ws
    by_test h true f = values_plain a r.values vs ws (and_left (WordsPlain r.values) (list_all (λ r. WordsPlain r.values) rs) p) f
    by_test h false f = h f

pub plain : (a : Answers) (n : Text) (vs ws : List Text) → values_in rows a n vs ≡ Some ws → Each (IsPlain a vs) ws
plain a n vs ws e = rows_plain rows a n vs ws refl e
