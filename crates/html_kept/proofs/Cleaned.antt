-- What is kept is of the table, and is as well read as what it is kept of.
use Rattle.std.proofs.Common.{◌≡◌, ℕ, ◌-◌, Bool, true, false, ◌||◌, List, [], ◌∷◌, ◌++◌, Option, None, Some, refl, sym, ap, subst, ◌∙◌, arith}
use Rattle.std.specs.Prelude.{if◌then◌else◌}
use Rattle.std.specs.Char.Escape.{encode_utf16}
use Rattle.std.specs.Str.{all_scalars}
use Rattle.std.proofs.Math.Utf8.{scalar}
use Rattle.std.proofs.Common.{append_assoc}
use Rattle.caja_units.specs.Units.{same_units}
use Rattle.caja_units.specs.Utf8.{units_of_chars}
use Rattle.html_grammar.specs.Tables.{is_in}
use Rattle.html_grammar.specs.Tags.{Attr}
use Rattle.html_grammar.specs.Trees.{Sort, one, many, Tree, text_node, element, none, more}
use Rattle.html_kept.specs.Table.{Answers, Values, any, word, words, language, size, one_of, link, image, Row, dropped, listed, rows, if_so, is_word, are_words, is_language, is_size, is_on, kept_value, value_in, attr_value}
use Rattle.html_kept.specs.Kept.{with_value, kept_attrs, joined, kept}
use Rattle.html_kept.specs.Texts.{OfChars, OfTexts, Apart, ValuesOfChars, WellRead}
use Rattle.html_kept.specs.OfTable.{AreKept, OfTable}
use Rattle.html_kept.proofs.Chars.{and_left, and_right, and_both, by_test}

-- ---- of the table

joined_of_table : (a : Answers) (us : List ℕ) (r : Tree many) → OfTable a many r → OfTable a many (joined us r)
joined_of_table a [] r h = h
joined_of_table a (c ∷ us) none h = (omega arith, tt, tt)
joined_of_table a (c ∷ us) (more (text_node vs) r) h = (omega arith, h.1, h.2)
joined_of_table a (c ∷ us) (more (element n xs ts) r) h = (omega arith, h, tt)

attrs_of_table : (a : Answers) (n : List ℕ) (xs : List Attr) → AreKept a n (kept_attrs a n xs)
attrs_of_table a n [] = tt
attrs_of_table a n (x ∷ xs) = by_value (attr_value a n x.name x.value) refl (kept_attrs a n xs) (attrs_of_table a n xs)
  where
    by_value : (o : Option (List ℕ)) → attr_value a n x.name x.value ≡ o → (ys : List Attr) → AreKept a n ys → AreKept a n (with_value x.name o ys)
    by_value None e ys h = h
    by_value (Some us) e ys h = ((x.value, e), h)

pub kept_of_table : (a : Answers) (s : Sort) (t : Tree s) (r : Tree many) → OfTable a many r → OfTable a many (kept a s t r)
kept_of_table a _ (text_node us) r h = joined_of_table a us r h
kept_of_table a _ (element n xs ts) r h =
    by_test (OfTable a many) (is_in dropped n) r _ (λ _. h)
    (λ _. by_test (OfTable a many) (is_in listed n) (more (element n (kept_attrs a n xs) (kept a many ts none)) r) (kept a many ts r)
    (λ e. ((e, attrs_of_table a n xs, kept_of_table a many ts none tt), h, tt)) (λ _. kept_of_table a many ts r h))
kept_of_table a _ none r h = h
kept_of_table a _ (more t ts) r h = kept_of_table a one t (kept a many ts r) (kept_of_table a many ts r h)

-- ---- well read

scalars_append : (cs ds : List ℕ) → all_scalars cs ≡ true → all_scalars ds ≡ true → all_scalars (cs ++ ds) ≡ true
scalars_append [] ds e f = f
scalars_append (c ∷ cs) ds e f = and_both (scalar c) (all_scalars (cs ++ ds)) (and_left (scalar c) (all_scalars cs) e) (scalars_append cs ds (and_right (scalar c) (all_scalars cs) e) f)

units_append : (cs ds : List ℕ) → units_of_chars (cs ++ ds) ≡ units_of_chars cs ++ units_of_chars ds
units_append [] ds = refl
units_append (c ∷ cs) ds = ap (λ (us : List ℕ). encode_utf16 c ++ us) (units_append cs ds) ∙ sym (append_assoc (encode_utf16 c) (units_of_chars cs) (units_of_chars ds))

chars_append : (us vs : List ℕ) → OfChars us → OfChars vs → OfChars (us ++ vs)
chars_append us vs h k =
    (h.0 ++ k.0, ap (λ (x : List ℕ). x ++ vs) h.1 ∙ ap (λ (x : List ℕ). units_of_chars h.0 ++ x) k.1 ∙ sym (units_append h.0 k.0), scalars_append h.0 k.0 h.2 k.2)

joined_well : (m : ℕ) (us : List ℕ) (r : Tree many) → OfChars us → WellRead m many r → WellRead m many (joined us r)
joined_well m [] r c h = h
joined_well m (c ∷ us) none e h = (e, tt)
joined_well m (c ∷ us) (more (text_node vs) r) e h = (chars_append (c ∷ us) vs e h.0, h.1)
joined_well m (c ∷ us) (more (element n xs ts) r) e h = (e, h)

-- a value that is kept of characters is of characters
if_so_chars : (b : Bool) (us vs : List ℕ) → OfChars us → if_so b us ≡ Some vs → OfChars vs
if_so_chars true us vs h e = let i : us ≡ vs = cc in subst OfChars i h
if_so_chars false us vs h e = absurd cc

value_chars : (a : Answers) (v : Values) (us vs : List ℕ) → OfTexts a → OfChars us → kept_value a v us ≡ Some vs → OfChars vs
value_chars a any us vs g h e = if_so_chars true us vs h e
value_chars a word us vs g h e = if_so_chars (is_word us) us vs h e
value_chars a words us vs g h e = if_so_chars (are_words true us) us vs h e
value_chars a language us vs g h e = if_so_chars (is_language us) us vs h e
value_chars a size us vs g h e = if_so_chars (is_size us) us vs h e
value_chars a (one_of ws) us vs g h e = if_so_chars (is_in ws us) us vs h e
value_chars a link us vs g h e = g.links us vs h e
value_chars a image us vs g h e = g.images us vs h e

row_chars : (rs : List Row) (a : Answers) (n x us vs : List ℕ) → OfTexts a → OfChars us → value_in rs a n x us ≡ Some vs → OfChars vs
row_chars [] a n x us vs g h e = absurd cc
row_chars (r ∷ rs) a n x us vs g h e = by_name (same_units x r.attr) e (row_chars rs a n x us vs g h)
  where
    by_on : (b : Bool) → (if b then kept_value a r.values us else None) ≡ Some vs → OfChars vs
    by_on true f = value_chars a r.values us vs g h f
    by_on false f = absurd cc

    by_name : (b : Bool) → (if b then (if is_on r.on n then kept_value a r.values us else None) else value_in rs a n x us) ≡ Some vs → (value_in rs a n x us ≡ Some vs → OfChars vs) → OfChars vs
    by_name true f k = by_on (is_on r.on n) f
    by_name false f k = k f

attrs_chars : (a : Answers) (n : List ℕ) (xs : List Attr) → OfTexts a → ValuesOfChars xs → ValuesOfChars (kept_attrs a n xs)
attrs_chars a n [] g h = tt
attrs_chars a n (x ∷ xs) g h = by_value (attr_value a n x.name x.value) refl (kept_attrs a n xs) (attrs_chars a n xs g h.1)
  where
    by_value : (o : Option (List ℕ)) → attr_value a n x.name x.value ≡ o → (ys : List Attr) → ValuesOfChars ys → ValuesOfChars (with_value x.name o ys)
    by_value None e ys k = k
    by_value (Some us) e ys k = (row_chars rows a n x.name x.value us g h.0 e, k)

-- ---- names apart

in_more : (seen : List (List ℕ)) (y n : List ℕ) → is_in (seen ++ y ∷ []) n ≡ (is_in seen n || same_units n y)
unfolding is_in
in_more [] y n = by_same (same_units n y)
  where
    by_same : (b : Bool) → (if b then true else false) ≡ (false || b)
    by_same true = refl
    by_same false = refl
in_more (x ∷ seen) y n = by_same (same_units n x) (is_in (seen ++ y ∷ []) n) (is_in seen n) (in_more seen y n)
  where
    by_same : (b c d : Bool) → c ≡ (d || same_units n y) → (if b then true else c) ≡ ((if b then true else d) || same_units n y)
    by_same true c d e = refl
    by_same false c d e = e

or_left : (a b : Bool) → (a || b) ≡ false → a ≡ false
or_left true b e = e
or_left false b e = refl

or_right : (a b : Bool) → (a || b) ≡ false → b ≡ false
or_right true b e = absurd cc
or_right false b e = e

or_both : (a b : Bool) → a ≡ false → b ≡ false → (a || b) ≡ false
or_both a b e f = ap (λ x. x || b) e ∙ f

-- what isn't among these names isn't among those
abbrev Fewer : List (List ℕ) → List (List ℕ) → Type 0
Fewer seen less = (n : List ℕ) → is_in seen n ≡ false → is_in less n ≡ false

fewer_left : (seen less : List (List ℕ)) (y : List ℕ) → Fewer seen less → Fewer (seen ++ y ∷ []) less
fewer_left seen less y f n e = f n (or_left (is_in seen n) (same_units n y) (sym (in_more seen y n) ∙ e))

fewer_both : (seen less : List (List ℕ)) (y : List ℕ) → Fewer seen less → Fewer (seen ++ y ∷ []) (less ++ y ∷ [])
fewer_both seen less y f n e =
    let g = sym (in_more seen y n) ∙ e in
    in_more less y n ∙ or_both (is_in less n) (same_units n y) (f n (or_left (is_in seen n) (same_units n y) g)) (or_right (is_in seen n) (same_units n y) g)

attrs_apart : (a : Answers) (n : List ℕ) (xs : List Attr) (seen less : List (List ℕ)) → Fewer seen less → Apart seen xs → Apart less (kept_attrs a n xs)
attrs_apart a n [] seen less f h = tt
attrs_apart a n (x ∷ xs) seen less f h = by_value (attr_value a n x.name x.value) (attrs_apart a n xs (seen ++ x.name ∷ []) less (fewer_left seen less x.name f) h.1) (attrs_apart a n xs (seen ++ x.name ∷ []) (less ++ x.name ∷ []) (fewer_both seen less x.name f) h.1)
  where
    by_value : (o : Option (List ℕ)) → Apart less (kept_attrs a n xs) → Apart (less ++ x.name ∷ []) (kept_attrs a n xs) → Apart less (with_value x.name o (kept_attrs a n xs))
    by_value None k l = k
    by_value (Some us) k l = (f x.name h.0, l)

deeper : (m : ℕ) (s : Sort) (t : Tree s) → WellRead (m - 1) s t → WellRead m s t
deeper m _ (text_node us) h = h
deeper m _ (element n xs ts) h = (let a = h.0 in omega arith, h.1, h.2, h.3, deeper (m - 1) many ts h.4)
deeper m _ none h = tt
deeper m _ (more t ts) h = (deeper m one t h.0, deeper m many ts h.1)

none_kept : (a : Answers) (ts : Tree many) → ts ≡ none → kept a many ts none ≡ none
none_kept a ts e = ap (λ ts. kept a many ts none) e

pub kept_well : (a : Answers) (m : ℕ) (s : Sort) (t : Tree s) (r : Tree many) → OfTexts a → WellRead m s t → WellRead m many r → WellRead m many (kept a s t r)
kept_well a m _ (text_node us) r g h k = joined_well m us r h k
kept_well a m _ (element n xs ts) r g h k =
    by_test (WellRead m many) (is_in dropped n) r _ (λ _. k)
    (λ _. by_test (WellRead m many) (is_in listed n) (more (element n (kept_attrs a n xs) (kept a many ts none)) r) (kept a many ts r)
    (λ _. ((h.0, attrs_apart a n xs [] [] (λ _ e. e) h.1, attrs_chars a n xs g h.2, (λ v. none_kept a ts (h.3 v)), kept_well a (m - 1) many ts none g h.4 tt), k))
    (λ _. kept_well a m many ts r g (deeper m many ts h.4) k))
kept_well a m _ none r g h k = k
kept_well a m _ (more t ts) r g h k = kept_well a m one t (kept a many ts r) g h.0 (kept_well a m many ts r g h.1 k)
