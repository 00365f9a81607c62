-- The names of the table are spelled as names are in tags.
use Rattle.std.proofs.Common.{◌≡◌, ℕ, suc, ◌+◌, ◌<◌, Bool, true, false, ◌&&◌, not, List, [], ◌∷◌, ◌++◌, None, Some, refl, ap, ◌∙◌, arith, nat_eq, nat_lt, get_or, length, take, drop, map, codes, cond}
use Rattle.std.specs.Prelude.{if◌then◌else◌}
use Rattle.std.specs.List.{list_all, prefix_len, starts_with}
use Rattle.std.specs.Str.{all_scalars}
use Rattle.std.proofs.Math.Utf8.{scalar, low_scalar, encodes}
use Rattle.std.proofs.lemmas.Bool.Decides.{nat_tests}
use Rattle.std.proofs.lemmas.List.Sums.{AllPass-from_list_all}
use Rattle.std.proofs.lemmas.Str.{encode_ascii}
use Rattle.caja_units.specs.Utf8.{utf8_of}
use Rattle.caja_units.proofs.Ascii.{utf8_of-ascii}
use Rattle.caja_units.specs.Units.{same_units}
use Rattle.html_grammar.specs.Characters.{is_space, is_letter, is_word, is_attr, lower, begins}
use Rattle.html_grammar.specs.Tables.{is_in, raw}
use Rattle.html_grammar.proofs.Complete.{same_is}
use Rattle.html_kept.specs.Table.{Answers, Row, listed, rows, is_on, kept_value, value_in, attr_value}
use Rattle.html_kept.specs.OfTable.{attr_names}
use Rattle.html_kept.proofs.Chars.{and_left, and_right, and_both}

-- a list of tests, each of which passes
abbrev pub all_pass : (List ℕ → Bool) → List (List ℕ) → Bool
all_pass p [] = true
all_pass p (x ∷ xs) = p x && all_pass p xs

in_passes : (p : List ℕ → Bool) (t : List (List ℕ)) (n : List ℕ) → all_pass p t ≡ true → is_in t n ≡ true → p n ≡ true
unfolding is_in
in_passes p [] n e f = absurd cc
in_passes p (x ∷ xs) n e f = by_same (same_units n x) refl f (in_passes p xs n (and_right (p x) (all_pass p xs) e))
  where
    by_same : (b : Bool) → same_units n x ≡ b → (if b then true else is_in xs n) ≡ true → (is_in xs n ≡ true → p n ≡ true) → p n ≡ true
    by_same true h g k = ap p (same_is n x h) ∙ and_left (p x) (all_pass p xs) e
    by_same false h g k = k g

-- ---- elements

-- a letter first, which is no mark, and then letters and digits, in lower case, of ASCII; and not the name of raw content
abbrev pub is_tag_name : List ℕ → Bool
is_tag_name n = begins is_letter n && list_all is_word n && same_units (map lower n) n && list_all (λ c. nat_lt c 128) n && not (is_in raw n) && begins (λ c. not (nat_eq c 47) && not (nat_eq c 33)) n

listed_pass : all_pass is_tag_name listed ≡ true
unfolding is_in
listed_pass = refl

pub listed_names : (n : List ℕ) → is_in listed n ≡ true → is_tag_name n ≡ true
listed_names n e = in_passes is_tag_name listed n listed_pass e

-- ---- attributes

-- characters of names alone, in lower case, of which the first ends no tag
abbrev pub is_attr_name : List ℕ → Bool
is_attr_name n = begins (λ c. is_attr c && not (nat_eq c 62) && not (nat_eq c 47) && not (is_space c)) n && list_all is_attr n && same_units (map lower n) n && list_all (λ c. nat_lt c 128) n && not (starts_with nat_eq n (codes "on"))

names_pass : all_pass is_attr_name attr_names ≡ true
names_pass = refl

value_names : (rs : List Row) (a : Answers) (n x us vs : List ℕ) → value_in rs a n x us ≡ Some vs → is_in (map (λ r. r.attr) rs) x ≡ true
unfolding is_in
value_names [] a n x us vs e = absurd cc
value_names (r ∷ rs) a n x us vs e = by_name (same_units x r.attr) e (value_names rs a n x us vs)
  where
    by_name : (b : Bool) → (if b then (if is_on r.on n then kept_value a r.values us else None) else value_in rs a n x us) ≡ Some vs → (value_in rs a n x us ≡ Some vs → is_in (map (λ r. r.attr) rs) x ≡ true) → (if b then true else is_in (map (λ r. r.attr) rs) x) ≡ true
    by_name true f k = refl
    by_name false f k = k f

-- a kept attribute is one of the table
pub kept_named : (a : Answers) (n x us vs : List ℕ) → attr_value a n x us ≡ Some vs → is_in attr_names x ≡ true
kept_named a n x us vs e = value_names rows a n x us vs e

pub attr_name_is : (x : List ℕ) → is_in attr_names x ≡ true → is_attr_name x ≡ true
attr_name_is x e = in_passes is_attr_name attr_names x names_pass e

-- ---- the front of a text that is a name

pub prefix_name : (p : ℕ → Bool) (n r : List ℕ) → list_all p n ≡ true → begins p r ≡ false → prefix_len p (n ++ r) ≡ length n
prefix_name p [] [] e f = refl
prefix_name p [] (c ∷ r) e f = ap (λ b. cond b (1 + prefix_len p r) 0) f
prefix_name p (c ∷ n) r e f =
    ap (λ b. cond b (1 + prefix_len p (n ++ r)) 0) (and_left (p c) (list_all p n) e)
    ∙ (let h = prefix_name p n r (and_right (p c) (list_all p n) e) f in let z : 1 + prefix_len p (n ++ r) ≡ suc (length n) = omega (arith, h) in z)

pub take_name : (n r : List ℕ) → take (length n) (n ++ r) ≡ n
take_name [] r = refl
take_name (c ∷ n) r = ap (λ (x : List ℕ). c ∷ x) (take_name n r)

pub drop_name : (n r : List ℕ) → drop (length n) (n ++ r) ≡ r
drop_name [] r = refl
drop_name (c ∷ n) r = drop_name n r

pub drop_behind : (n : List ℕ) (c : ℕ) (r : List ℕ) → drop (length n + 1) (n ++ c ∷ r) ≡ r
drop_behind [] c r = refl
drop_behind (d ∷ n) c r = let e : length (d ∷ n) + 1 ≡ suc (length n + 1) = omega arith in ap (λ k. drop k (d ∷ n ++ c ∷ r)) e ∙ drop_behind n c r

-- ---- names of ASCII

few : (n m : ℕ) → nat_lt n m ≡ true → n < m
few n m h = grind (arith, nat_tests)

low : (c : ℕ) → nat_lt c 128 ≡ true → scalar c ≡ true
low c e = let lt = few c 128 e in low_scalar c (omega arith)

pub ascii_scalars : (n : List ℕ) → list_all (λ c. nat_lt c 128) n ≡ true → all_scalars n ≡ true
ascii_scalars [] e = refl
ascii_scalars (c ∷ n) e = and_both (scalar c) (all_scalars n) (low c (and_left (nat_lt c 128) (list_all (λ c. nat_lt c 128) n) e)) (ascii_scalars n (and_right (nat_lt c 128) (list_all (λ c. nat_lt c 128) n) e))

pub ascii_encodes : (n : List ℕ) → list_all (λ c. nat_lt c 128) n ≡ true → encodes n ≡ n
ascii_encodes [] e = refl
ascii_encodes (c ∷ n) e =
    ap (λ (x : List ℕ). x ++ encodes n) (encode_ascii c (few c 128 (and_left (nat_lt c 128) (list_all (λ c. nat_lt c 128) n) e)))
    ∙ ap (λ (x : List ℕ). c ∷ x) (ascii_encodes n (and_right (nat_lt c 128) (list_all (λ c. nat_lt c 128) n) e))

pub ascii_utf8 : (n : List ℕ) → list_all (λ c. nat_lt c 128) n ≡ true → utf8_of n ≡ n
ascii_utf8 n e = utf8_of-ascii n (λ k d lt. few (get_or n k d) 128 (AllPass-from_list_all (λ c. nat_lt c 128) n e k d lt))

-- no attribute that is kept begins with `on`
pub no_event : (a : Answers) (n x us vs : List ℕ) → attr_value a n x us ≡ Some vs → starts_with nat_eq x (codes "on") ≡ false
no_event a n x us vs e = not_so (starts_with nat_eq x (codes "on")) (and_right _ (not (starts_with nat_eq x (codes "on"))) (attr_name_is x (kept_named a n x us vs e)))
  where
    not_so : (b : Bool) → not b ≡ true → b ≡ false
    not_so true f = absurd cc
    not_so false f = refl
