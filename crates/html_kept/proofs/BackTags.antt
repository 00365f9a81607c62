-- What is written of a tag is read as that tag.
use Rattle.std.proofs.Common.{◌≡◌, ℕ, suc, ◌+◌, ◌-◌, ◌<◌, ◌≤◌, Bool, true, false, ◌&&◌, ◌||◌, not, List, [], ◌∷◌, ◌++◌, None, Some, refl, sym, ap, ◌∙◌, arith, nat_eq, nat_lt, length, take, drop, map, codes, append_assoc}
use Rattle.std.specs.Prelude.{if◌then◌else◌}
use Rattle.std.specs.List.{list_all, flat_map, prefix_len, starts_with}
use Rattle.std.specs.Char.Escape.{encode_utf16}
use Rattle.std.specs.Str.{all_scalars}
use Rattle.std.proofs.Math.Utf8.{encode, encodes}
use Rattle.std.proofs.lemmas.Bool.Decides.{nat_tests}
use Rattle.std.proofs.lemmas.List.{length-append}
use Rattle.std.proofs.lemmas.Str.{encodes-append}
use Rattle.caja_units.specs.Units.{same_units}
use Rattle.caja_units.specs.Utf8.{units_of_chars, utf8_of}
use Rattle.html_grammar.specs.Characters.{is_space, is_letter, is_word, is_attr, is_mark, lower, begins, begins_markup, is}
use Rattle.html_grammar.specs.Tables.{is_in, void, raw}
use Rattle.html_grammar.specs.References.{reference}
use Rattle.html_grammar.specs.Runs.{units, after, referred, run}
use Rattle.html_grammar.specs.Tags.{Attr, bad_attr, open_tag, close, gap, attr, wrong, unclosed, attribute, quoted, value, attr_at, Kind, begins_element, begins_void, ends_element, is_void_tag, is_end_tag, part, closed, before, is_fault, inside}
use Rattle.html_grammar.specs.Point.{text, start, end, refuse, text_step, start_step, end_step, lowered, start_kind, start_tag, end_tag, declaration, raw_len, markup, point}
use Rattle.html_grammar.proofs.Complete.{same_is}
use Rattle.html_grammar.proofs.Insides.{going}
use Rattle.html_grammar.proofs.Runs.{run_cons}
use Rattle.html_kept.specs.Table.{Answers}
use Rattle.html_kept.specs.Texts.{Apart, ValuesOfChars}
use Rattle.html_kept.specs.OfTable.{AreKept}
use Rattle.html_kept.specs.Printed.{shown, shown_value, printed_value, printed_attrs}
use Rattle.html_kept.proofs.BackRuns.{Quiet, Shows, shows, by_name, quot, is_it, back_run, back_text}
use Rattle.html_kept.proofs.Chars.{and_left, and_right}
use Rattle.html_kept.proofs.Names.{is_tag_name, is_attr_name, kept_named, attr_name_is, prefix_name, take_name, drop_name, drop_behind, ascii_scalars, ascii_encodes, ascii_utf8}
use Rattle.html_kept.proofs.Written.{escaped, value_escapes, value_is_scalars, both_scalars, utf8_chars}

append_nil : (xs : List ℕ) → xs ++ [] ≡ xs
append_nil [] = refl
append_nil (x ∷ xs) = ap (λ (ys : List ℕ). x ∷ ys) (append_nil xs)

-- ---- values

not_quote : (c : ℕ) → nat_eq c 34 ≡ false → Quiet (begins (is 34)) c
not_quote c h s = h

value_shows : (c : ℕ) → Shows (begins (is 34)) shown_value c
value_shows c = by_quote (nat_eq c 34) refl
  where
    by_quote : (b : Bool) → nat_eq c 34 ≡ b → (r : List ℕ) → run (begins (is 34)) 0 ((if b then codes "&quot;" else shown c) ++ r) ≡ after (encode_utf16 c) (length (if b then codes "&quot;" else shown c)) (run (begins (is 34)) 0 r)
    by_quote true h = λ r. by_name (begins (is 34)) (λ s. refl) 34 5 (113 ∷ 117 ∷ 111 ∷ 116 ∷ 59 ∷ r) r (quot r) (omega arith) refl ∙ ap (λ x. after (encode_utf16 x) 6 (run (begins (is 34)) 0 r)) (is_it c 34 h)
    by_quote false h = shows (begins (is 34)) (λ s. refl) c (λ _. not_quote c h)

-- a value is read up to its quote
at_quote : (cs r : List ℕ) → run (begins (is 34)) 0 (flat_map shown_value cs ++ 34 ∷ r) ≡ units (units_of_chars cs) (length (flat_map shown_value cs))
at_quote cs r =
    back_run (begins (is 34)) shown_value cs (34 ∷ r) value_shows ∙ ap (after (units_of_chars cs) (length (flat_map shown_value cs))) (run_cons (begins (is 34)) 34 r)
    ∙ ap (λ (us : List ℕ). units us (length (flat_map shown_value cs) + 0)) (append_nil (units_of_chars cs)) ∙ ap (units (units_of_chars cs)) (let e : length (flat_map shown_value cs) + 0 ≡ length (flat_map shown_value cs) = omega arith in e)

not_all : (n m : ℕ) → n < m → nat_eq n m ≡ false
not_all n m h = grind (arith, nat_tests)

quoted_back : (n : List ℕ) (k : ℕ) (cs r : List ℕ) → value n k (34 ∷ (flat_map shown_value cs ++ 34 ∷ r)) ≡ attribute n (units_of_chars cs) None (k + 1 + length (flat_map shown_value cs) + 1)
quoted_back n k cs r =
    let l = length (flat_map shown_value cs) in
    let all = length-append (flat_map shown_value cs) (34 ∷ r) in
    ap (quoted n (k + 1) (length (flat_map shown_value cs ++ 34 ∷ r))) (at_quote cs r)
    ∙ ap (λ b. if b then unclosed else attribute n (units_of_chars cs) None (k + 1 + l + 1)) (not_all l (length (flat_map shown_value cs ++ 34 ∷ r)) (omega (arith, all)))

-- ---- attributes

not_true : (b : Bool) → not b ≡ true → b ≡ false
not_true true e = absurd cc
not_true false e = refl

part_attr : (t : Kind) (c : ℕ) (s : List ℕ) → (is_attr c && not (nat_eq c 62) && not (nat_eq c 47) && not (is_space c)) ≡ true → part t (c ∷ s) ≡ attr_at (c ∷ s)
unfolding part
part_attr t c s e =
    let space = not_true (is_space c) (and_right (is_attr c && not (nat_eq c 62) && not (nat_eq c 47)) (not (is_space c)) e) in
    let e1 = and_left (is_attr c && not (nat_eq c 62) && not (nat_eq c 47)) (not (is_space c)) e in
    let slash = not_true (nat_eq c 47) (and_right (is_attr c && not (nat_eq c 62)) (not (nat_eq c 47)) e1) in
    let e2 = and_left (is_attr c && not (nat_eq c 62)) (not (nat_eq c 47)) e1 in
    let greater = not_true (nat_eq c 62) (and_right (is_attr c) (not (nat_eq c 62)) e2) in
    ap (λ b. if b then close 1 else if nat_eq c 47 && is_void_tag t && begins (is 62) s then close 2 else if is_space c then gap else if is_attr c then attr_at (c ∷ s) else wrong) greater
    ∙ ap (λ b. if b && is_void_tag t && begins (is 62) s then close 2 else if is_space c then gap else if is_attr c then attr_at (c ∷ s) else wrong) slash
    ∙ ap (λ b. if b then gap else if is_attr c then attr_at (c ∷ s) else wrong) space
    ∙ ap (λ b. if b then attr_at (c ∷ s) else wrong) (and_left (is_attr c) (not (nat_eq c 62)) e2)

attr_named : (name q : List ℕ) → list_all is_attr name ≡ true → map lower name ≡ name → attr_at (name ++ 61 ∷ q) ≡ value name (length name + 1) q
attr_named name q e f =
    let s = name ++ 61 ∷ q in
    let k = length name in
    ap (λ p. if begins (is 61) (drop p s) then value (map lower (take p s)) (p + 1) (drop (p + 1) s) else attribute (map lower (take p s)) [] None p) (prefix_name is_attr name (61 ∷ q) e refl)
    ∙ ap (λ (r : List ℕ). if begins (is 61) r then value (map lower (take k s)) (k + 1) (drop (k + 1) s) else attribute (map lower (take k s)) [] None k) (drop_name name (61 ∷ q))
    ∙ ap (λ (n : List ℕ). value n (k + 1) (drop (k + 1) s)) (ap (map lower) (take_name name (61 ∷ q)) ∙ f) ∙ ap (value name (k + 1)) (drop_behind name 61 q)

-- what the test of a name says
pub record AttrName (n : List ℕ) : Type 0 where
  pub first : begins (λ c. is_attr c && not (nat_eq c 62) && not (nat_eq c 47) && not (is_space c)) n ≡ true
  pub chars_of : list_all is_attr n ≡ true
  pub small : map lower n ≡ n
  pub ascii : list_all (λ c. nat_lt c 128) n ≡ true

attr_name : (n : List ℕ) → is_attr_name n ≡ true → AttrName n
attr_name n e =
    let f = begins (λ c. is_attr c && not (nat_eq c 62) && not (nat_eq c 47) && not (is_space c)) n in
    let on = not (starts_with nat_eq n (codes "on")) in
    let e1 = and_left (f && list_all is_attr n && same_units (map lower n) n && list_all (λ c. nat_lt c 128) n) on e in
    let e2 = and_left (f && list_all is_attr n && same_units (map lower n) n) (list_all (λ c. nat_lt c 128) n) e1 in
    let e3 = and_left (f && list_all is_attr n) (same_units (map lower n) n) e2 in
    record {
      first = and_left f (list_all is_attr n) e3;
      chars_of = and_right f (list_all is_attr n) e3;
      small = same_is (map lower n) n (and_right (f && list_all is_attr n) (same_units (map lower n) n) e2);
      ascii = and_right (f && list_all is_attr n && same_units (map lower n) n) (list_all (λ c. nat_lt c 128) n) e1;
    }

part_back : (t : Kind) (name cs r : List ℕ) → AttrName name → part t (name ++ 61 ∷ 34 ∷ (flat_map shown_value cs ++ 34 ∷ r)) ≡ attribute name (units_of_chars cs) None (length name + 1 + 1 + length (flat_map shown_value cs) + 1)
part_back t [] cs r h = absurd (let e = h.first in cc)
part_back t (c ∷ name) cs r h =
    part_attr t c (name ++ 61 ∷ 34 ∷ (flat_map shown_value cs ++ 34 ∷ r)) h.first ∙ attr_named (c ∷ name) (34 ∷ (flat_map shown_value cs ++ 34 ∷ r)) h.chars_of h.small ∙ quoted_back (c ∷ name) (length (c ∷ name) + 1) cs r

not_fault : (t : Kind) (seen : List (List ℕ)) (n : List ℕ) → is_end_tag t ≡ false → is_in seen n ≡ false → is_fault t seen n ≡ false
not_fault begins_element seen n e f = f
not_fault begins_void seen n e f = f
not_fault ends_element seen n e f = absurd cc

-- an attribute in a tag, and what follows it
attr_goes : (t : Kind) (seen : List (List ℕ)) (i n : ℕ) (x : Attr) (s : List ℕ) → part t s ≡ attr x None n → 0 < n → n ≤ length s → is_end_tag t ≡ false → is_in seen x.name ≡ false
    → inside t seen 0 i s ≡ before (x ∷ []) None (inside t (seen ++ x.name ∷ []) 0 (i + n) (drop n s))
attr_goes t seen i n x s e pos le f g =
    going t seen i 0 s (attr x None n) (x ∷ []) None n (seen ++ x.name ∷ []) (omega arith) e pos le
    (λ h. ap (λ b. before (x ∷ []) (if b then Some (bad_attr, i) else None) (h (seen ++ x.name ∷ []) (n - 1))) (not_fault t seen x.name f g))
    ∙ ap (λ k. before (x ∷ []) None (inside t (seen ++ x.name ∷ []) 0 (i + n) (drop k s))) (let z : 0 + n ≡ n = omega arith in z)

gap_goes : (t : Kind) (seen : List (List ℕ)) (i : ℕ) (s : List ℕ) → inside t seen 0 i (32 ∷ s) ≡ inside t seen 0 (i + 1) s
unfolding inside part
gap_goes t seen i s = refl

close_goes : (t : Kind) (seen : List (List ℕ)) (i : ℕ) (s : List ℕ) → inside t seen 0 i (62 ∷ s) ≡ closed [] None (i + 1)
unfolding inside part
close_goes t seen i s = refl

-- the characters that are written of attributes, and what is read of them
pub record WrittenAttrs (xs : List Attr) : Type 0 where
  pub chars_of : List ℕ
  pub same : encodes chars_of ≡ printed_attrs xs
  pub scalar_values : all_scalars chars_of ≡ true
  pub stops : (r : List ℕ) → begins is_word (chars_of ++ 62 ∷ r) ≡ false
  pub reads : (t : Kind) (seen : List (List ℕ)) (i : ℕ) (r : List ℕ) → is_end_tag t ≡ false → Apart seen xs → inside t seen 0 i (chars_of ++ 62 ∷ r) ≡ closed xs None (i + length chars_of + 1)

no_attrs : WrittenAttrs []
no_attrs = record {
  chars_of = [];
  same = refl;
  scalar_values = refl;
  stops = λ r. refl;
  reads = λ t seen i r e h. close_goes t seen i r ∙ ap (closed [] None) (let z : i + 1 ≡ i + 0 + 1 = omega arith in z);
}

-- an attribute as it is written, in characters, before others
abbrev written : List ℕ → List ℕ → List ℕ → List ℕ
written n v r = 32 ∷ (n ++ 61 ∷ 34 ∷ (v ++ 34 ∷ r))

written_before : (n v r q : List ℕ) → written n v r ++ q ≡ written n v (r ++ q)
written_before n v r q = ap (λ (x : List ℕ). 32 ∷ x) (append_assoc n (61 ∷ 34 ∷ (v ++ 34 ∷ r)) q ∙ ap (λ (x : List ℕ). n ++ 61 ∷ 34 ∷ x) (append_assoc v (34 ∷ r) q))

written_bytes : (n v r : List ℕ) → encodes n ≡ n → encodes (written n v r) ≡ written n (encodes v) (encodes r)
unfolding encode
written_bytes n v r e =
    ap (λ (x : List ℕ). 32 ∷ x) (encodes-append n (61 ∷ 34 ∷ (v ++ 34 ∷ r)) ∙ ap (λ (x : List ℕ). x ++ encodes (61 ∷ 34 ∷ (v ++ 34 ∷ r))) e
    ∙ ap (λ (x : List ℕ). n ++ 61 ∷ 34 ∷ x) (encodes-append v (34 ∷ r)))

printed_written : (n v : List ℕ) (xs : List Attr) → utf8_of n ≡ n → printed_attrs (record { name = n; value = v } ∷ xs) ≡ written n (printed_value v) (printed_attrs xs)
printed_written n v xs e =
    ap (λ (m : List ℕ). (32 ∷ (m ++ 61 ∷ 34 ∷ (printed_value v ++ 34 ∷ []))) ++ printed_attrs xs) e
    ∙ written_before n (printed_value v) [] (printed_attrs xs)

written_length : (n v r : List ℕ) → length (written n v r) ≡ 1 + (length n + (2 + (length v + (1 + length r))))
written_length n v r = let a = length-append n (61 ∷ 34 ∷ (v ++ 34 ∷ r)) in let b = length-append v (34 ∷ r) in omega (arith, a, b)

written_scalars : (n v r : List ℕ) → all_scalars n ≡ true → all_scalars v ≡ true → all_scalars r ≡ true → all_scalars (written n v r) ≡ true
written_scalars n v r e f g = both_scalars n (61 ∷ 34 ∷ (v ++ 34 ∷ r)) e (both_scalars v (34 ∷ r) f g)

-- what stands behind an attribute
behind : (n v r : List ℕ) → drop (length n + 1 + 1 + length v + 1) (n ++ 61 ∷ 34 ∷ (v ++ 34 ∷ r)) ≡ r
behind n v r =
    let e : length n + 1 + 1 + length v + 1 ≡ length n + (1 + (1 + (length v + 1))) = omega arith in
    ap (λ k. drop k (n ++ 61 ∷ 34 ∷ (v ++ 34 ∷ r))) e ∙ over n (1 + (1 + (length v + 1))) (61 ∷ 34 ∷ (v ++ 34 ∷ r))
    ∙ (let f : 1 + (1 + (length v + 1)) ≡ suc (suc (length v + 1)) = omega arith in ap (λ k. drop k (61 ∷ 34 ∷ (v ++ 34 ∷ r))) f) ∙ drop_behind v 34 r
  where
    over : (xs : List ℕ) (k : ℕ) (ys : List ℕ) → drop (length xs + k) (xs ++ ys) ≡ drop k ys
    over [] k ys = let e : 0 + k ≡ k = omega arith in ap (λ j. drop j ys) e
    over (x ∷ xs) k ys = let e : length (x ∷ xs) + k ≡ suc (length xs + k) = omega arith in ap (λ j. drop j (x ∷ xs ++ ys)) e ∙ over xs k ys

one_attr : (n us cs : List ℕ) (xs : List Attr) → AttrName n → us ≡ units_of_chars cs → all_scalars cs ≡ true → WrittenAttrs xs → WrittenAttrs (record { name = n; value = us } ∷ xs)
one_attr n us cs xs h e good w =
    let v = flat_map shown_value cs in
    let x : Attr = record { name = n; value = us } in
    let k = length n + 1 + 1 + length v + 1 in
    record {
      chars_of = written n v w.chars_of;
      same = written_bytes n v w.chars_of (ascii_encodes n h.ascii)
          ∙ ap (λ (y : List ℕ). written n y (encodes w.chars_of)) (sym (escaped shown_value cs value_escapes) ∙ ap (flat_map shown_value) (sym (utf8_chars cs good) ∙ ap utf8_of (sym e)))
          ∙ ap (written n (printed_value us)) w.same ∙ sym (printed_written n us xs (ascii_utf8 n h.ascii));
      scalar_values = written_scalars n v w.chars_of (ascii_scalars n h.ascii) (value_is_scalars cs good) w.scalar_values;
      stops = λ r. refl;
      reads = λ t seen i r f g.
          ap (inside t seen 0 i) (written_before n v w.chars_of (62 ∷ r)) ∙ gap_goes t seen i (n ++ 61 ∷ 34 ∷ (v ++ 34 ∷ (w.chars_of ++ 62 ∷ r)))
          ∙ attr_goes t seen (i + 1) k x (n ++ 61 ∷ 34 ∷ (v ++ 34 ∷ (w.chars_of ++ 62 ∷ r)))
          (part_back t n cs (w.chars_of ++ 62 ∷ r) h ∙ ap (λ (y : List ℕ). attribute n y None k) (sym e)) (omega arith)
          (let a = written_length n v (w.chars_of ++ 62 ∷ r) in omega (arith, a)) f g.0
          ∙ ap (λ (y : List ℕ). before (x ∷ []) None (inside t (seen ++ n ∷ []) 0 (i + 1 + k) y)) (behind n v (w.chars_of ++ 62 ∷ r))
          ∙ ap (before (x ∷ []) None) (w.reads t (seen ++ n ∷ []) (i + 1 + k) r f g.1)
          ∙ ap (closed (x ∷ xs) None) (let a = written_length n v w.chars_of in let z : i + 1 + k + length w.chars_of + 1 ≡ i + length (written n v w.chars_of) + 1 = omega (arith, a) in z);
    }

pub attrs_back : (a : Answers) (n : List ℕ) (xs : List Attr) → AreKept a n xs → ValuesOfChars xs → WrittenAttrs xs
attrs_back a n [] h g = no_attrs
attrs_back a n (x ∷ xs) h g = one_attr x.name x.value g.0.0 xs (attr_name x.name (attr_name_is x.name (kept_named a n x.name h.0.0 x.value h.0.1))) g.0.1 g.0.2 (attrs_back a n xs h.1 g.1)

-- ---- tags

-- what the test of a name says
pub record TagName (n : List ℕ) : Type 0 where
  pub letter : begins is_letter n ≡ true
  pub chars_of : list_all is_word n ≡ true
  pub small : map lower n ≡ n
  pub ascii : list_all (λ c. nat_lt c 128) n ≡ true
  pub not_raw : is_in raw n ≡ false
  pub no_mark : begins (λ c. not (nat_eq c 47) && not (nat_eq c 33)) n ≡ true

pub tag_name : (n : List ℕ) → is_tag_name n ≡ true → TagName n
tag_name n e =
    let f = begins (λ c. not (nat_eq c 47) && not (nat_eq c 33)) n in
    let e1 = and_left (begins is_letter n && list_all is_word n && same_units (map lower n) n && list_all (λ c. nat_lt c 128) n && not (is_in raw n)) f e in
    let e2 = and_left (begins is_letter n && list_all is_word n && same_units (map lower n) n && list_all (λ c. nat_lt c 128) n) (not (is_in raw n)) e1 in
    let e3 = and_left (begins is_letter n && list_all is_word n && same_units (map lower n) n) (list_all (λ c. nat_lt c 128) n) e2 in
    let e4 = and_left (begins is_letter n && list_all is_word n) (same_units (map lower n) n) e3 in
    record {
      letter = and_left (begins is_letter n) (list_all is_word n) e4;
      chars_of = and_right (begins is_letter n) (list_all is_word n) e4;
      small = same_is (map lower n) n (and_right (begins is_letter n && list_all is_word n) (same_units (map lower n) n) e3);
      ascii = and_right (begins is_letter n && list_all is_word n && same_units (map lower n) n) (list_all (λ c. nat_lt c 128) n) e2;
      not_raw = not_true (is_in raw n) (and_right (begins is_letter n && list_all is_word n && same_units (map lower n) n && list_all (λ c. nat_lt c 128) n) (not (is_in raw n)) e1);
      no_mark = and_right (begins is_letter n && list_all is_word n && same_units (map lower n) n && list_all (λ c. nat_lt c 128) n && not (is_in raw n)) f e;
    }

-- outside of raw content
plain_point : (b : Bool) (m s : List ℕ) → is_in raw m ≡ false → point b m s ≡ (if begins_markup s then markup b s else text_step (run begins_markup 0 s))
unfolding point
plain_point b m s e =
    ap (λ t. let n = if t then raw_len m s else 0 in if nat_lt 0 n then text (units_of_chars (take n s)) n else if begins_markup s then markup b s else text_step (run begins_markup 0 s)) e

letter_marks : (c : ℕ) → is_letter c ≡ true → is_mark c ≡ true
letter_marks c e = ap (λ b. b || nat_eq c 47 || nat_eq c 33) e

begins_kind : (n : List ℕ) → is_end_tag (start_kind n) ≡ false
begins_kind n = by_void (is_in void n)
  where
    by_void : (b : Bool) → is_end_tag (if b then begins_void else begins_element) ≡ false
    by_void true = refl
    by_void false = refl

start_named : (n q : List ℕ) (xs : List Attr) (k : ℕ) → list_all is_word n ≡ true → map lower n ≡ n → begins is_word q ≡ false → inside (start_kind n) [] 0 (length n + 1) q ≡ closed xs None k → start_tag (n ++ q) ≡ start n xs None k
start_named n q xs k e f g h =
    ap (λ p. start_step (lowered p (n ++ q)) (inside (start_kind (lowered p (n ++ q))) [] 0 (p + 1) (drop p (n ++ q)))) (prefix_name is_word n q e g)
    ∙ ap (λ (m : List ℕ). start_step m (inside (start_kind m) [] 0 (length n + 1) (drop (length n) (n ++ q)))) (ap (map lower) (take_name n q) ∙ f)
    ∙ ap (λ (r : List ℕ). start_step n (inside (start_kind n) [] 0 (length n + 1) r)) (drop_name n q) ∙ ap (start_step n) h

pub start_back : (b : Bool) (m n : List ℕ) (xs : List Attr) (r : List ℕ) → is_in raw m ≡ false → TagName n → (w : WrittenAttrs xs) → Apart [] xs
    → (begins_markup (60 ∷ (n ++ (w.chars_of ++ 62 ∷ r))) ≡ true) × (point b m (60 ∷ (n ++ (w.chars_of ++ 62 ∷ r))) ≡ start n xs None (length n + 1 + length w.chars_of + 1))
start_back b m [] xs r e h w g = absurd (let f = h.letter in cc)
start_back b m (c ∷ n) xs r e h w g =
    let q = w.chars_of ++ 62 ∷ r in
    let s = 60 ∷ (c ∷ n ++ q) in
    let i : begins_markup s ≡ true = letter_marks c h.letter in
    let slash = not_true (nat_eq c 47) (and_left (not (nat_eq c 47)) (not (nat_eq c 33)) h.no_mark) in
    let bang = not_true (nat_eq c 33) (and_right (not (nat_eq c 47)) (not (nat_eq c 33)) h.no_mark) in (
      i,
      plain_point b m s e ∙ ap (λ t. if t then markup b s else text_step (run begins_markup 0 s)) i
          ∙ ap (λ t. if t then end_tag (drop 1 (c ∷ n ++ q)) else if nat_eq c 33 then declaration b (drop 1 (c ∷ n ++ q)) else start_tag (c ∷ n ++ q)) slash
          ∙ ap (λ t. if t then declaration b (drop 1 (c ∷ n ++ q)) else start_tag (c ∷ n ++ q)) bang
          ∙ start_named (c ∷ n) q xs (length (c ∷ n) + 1 + length w.chars_of + 1) h.chars_of h.small (w.stops r) (w.reads (start_kind (c ∷ n)) [] (length (c ∷ n) + 1) r (begins_kind (c ∷ n)) g),
    )

end_named : (n r : List ℕ) → list_all is_word n ≡ true → map lower n ≡ n → end_step (lowered (prefix_len is_word (n ++ 62 ∷ r)) (n ++ 62 ∷ r)) (inside ends_element [] 0 (prefix_len is_word (n ++ 62 ∷ r) + 2) (drop (prefix_len is_word (n ++ 62 ∷ r)) (n ++ 62 ∷ r))) ≡ end n None (length n + 2 + 1)
end_named n r e f =
    let s = n ++ 62 ∷ r in
    ap (λ p. end_step (lowered p s) (inside ends_element [] 0 (p + 2) (drop p s))) (prefix_name is_word n (62 ∷ r) e refl)
    ∙ ap (λ (m : List ℕ). end_step m (inside ends_element [] 0 (length n + 2) (drop (length n) s))) (ap (map lower) (take_name n (62 ∷ r)) ∙ f)
    ∙ ap (λ (q : List ℕ). end_step n (inside ends_element [] 0 (length n + 2) q)) (drop_name n (62 ∷ r)) ∙ ap (end_step n) (close_goes ends_element [] (length n + 2) r)

begins_front : (p : ℕ → Bool) (n q : List ℕ) → begins p n ≡ true → begins p (n ++ q) ≡ true
begins_front p [] q e = absurd cc
begins_front p (c ∷ n) q e = e

pub end_back : (b : Bool) (m n r : List ℕ) → is_in raw m ≡ false → TagName n → point b m (60 ∷ 47 ∷ (n ++ 62 ∷ r)) ≡ end n None (length n + 2 + 1)
end_back b m n r e h =
    let s = n ++ 62 ∷ r in
    plain_point b m (60 ∷ 47 ∷ s) e
    ∙ ap (λ t. if t then end_step (lowered (prefix_len is_word s) s) (inside ends_element [] 0 (prefix_len is_word s + 2) (drop (prefix_len is_word s) s)) else refuse open_tag 0) (begins_front is_letter n (62 ∷ r) h.letter)
    ∙ end_named n r h.chars_of h.small

-- ---- texts

-- markup begins here, or the text ends
abbrev pub ends_text : List ℕ → Bool
ends_text [] = true
ends_text (c ∷ s) = begins_markup (c ∷ s)

run_ends : (r : List ℕ) → ends_text r ≡ true → run begins_markup 0 r ≡ units [] 0
unfolding run
run_ends [] e = refl
run_ends (c ∷ r) e = ap (λ t. if t then units [] 0 else if nat_eq c 38 then referred (λ n. run begins_markup n r) (reference r) else after (encode_utf16 c) 1 (run begins_markup 0 r)) e

first_shown : (c : ℕ) (r : List ℕ) → begins_markup (shown c ++ r) ≡ false
first_shown c r = by_amp (nat_eq c 38)
  where
    by_gt : (b : Bool) → nat_eq c 60 ≡ false → begins_markup ((if b then codes "&gt;" else c ∷ []) ++ r) ≡ false
    by_gt true e = refl
    by_gt false e = ap (λ b. b && begins is_mark r) e

    by_lt : (b : Bool) → nat_eq c 60 ≡ b → begins_markup ((if b then codes "&lt;" else if nat_eq c 62 then codes "&gt;" else c ∷ []) ++ r) ≡ false
    by_lt true e = refl
    by_lt false e = by_gt (nat_eq c 62) e

    by_amp : (b : Bool) → begins_markup ((if b then codes "&amp;" else if nat_eq c 60 then codes "&lt;" else if nat_eq c 62 then codes "&gt;" else c ∷ []) ++ r) ≡ false
    by_amp true = refl
    by_amp false = by_lt (nat_eq c 60) refl

some_shown : (cs r : List ℕ) → 0 < length (units_of_chars cs) → begins_markup (flat_map shown cs ++ r) ≡ false
some_shown [] r lt = absurd (omega arith)
some_shown (c ∷ cs) r lt = ap begins_markup (append_assoc (shown c) (flat_map shown cs) r) ∙ first_shown c (flat_map shown cs ++ r)

pub text_back : (b : Bool) (m cs r : List ℕ) → is_in raw m ≡ false → 0 < length (units_of_chars cs) → ends_text r ≡ true → point b m (flat_map shown cs ++ r) ≡ text (units_of_chars cs) (length (flat_map shown cs))
text_back b m cs r e lt f =
    let s = flat_map shown cs ++ r in
    plain_point b m s e ∙ ap (λ t. if t then markup b s else text_step (run begins_markup 0 s)) (some_shown cs r lt)
    ∙ ap text_step (back_text cs r ∙ ap (after (units_of_chars cs) (length (flat_map shown cs))) (run_ends r f))
    ∙ ap (λ (us : List ℕ). text us (length (flat_map shown cs) + 0)) (append_nil (units_of_chars cs)) ∙ ap (text (units_of_chars cs)) (let z : length (flat_map shown cs) + 0 ≡ length (flat_map shown cs) = omega arith in z)
