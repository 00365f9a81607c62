-- What is written of trees that are well read and of the table spells them.
use Rattle.std.proofs.Common.{◌≡◌, ℕ, suc, ◌+◌, ◌-◌, ◌<◌, Bool, true, false, ◌&&◌, List, [], ◌∷◌, ◌++◌, None, refl, sym, ap, subst, ◌∙◌, arith, nat_eq, length, take, codes, append_assoc}
use Rattle.std.specs.Prelude.{if◌then◌else◌}
use Rattle.std.specs.List.{list_all, flat_map}
use Rattle.std.specs.Str.{all_scalars}
use Rattle.std.proofs.Math.Utf8.{encode, encodes}
use Rattle.std.proofs.lemmas.List.{length-append}
use Rattle.std.proofs.lemmas.Str.{encodes-append}
use Rattle.caja_units.specs.Utf8.{units_of_chars, utf8_of}
use Rattle.html_grammar.specs.Characters.{is_space, begins_markup}
use Rattle.html_grammar.specs.Tables.{is_in, void, raw}
use Rattle.html_grammar.specs.Tags.{Attr}
use Rattle.html_grammar.specs.Point.{text, start, end, point}
use Rattle.html_grammar.specs.Trees.{many, Tree, text_node, element, none, more, most}
use Rattle.html_grammar.specs.Document.{Reads, nothing, a_text, an_empty, an_element, Front}
use Rattle.html_kept.specs.Table.{Answers}
use Rattle.html_kept.specs.Texts.{Apart, WellRead}
use Rattle.html_kept.specs.OfTable.{NoTextFirst, OfTable}
use Rattle.html_kept.specs.Printed as p
use Rattle.html_kept.specs.Printed.{shown, printed, printed_attrs}
use Rattle.html_kept.proofs.BackTags.{TagName, tag_name, WrittenAttrs, attrs_back, start_back, end_back, text_back, ends_text}
use Rattle.html_kept.proofs.Names.{listed_names, drop_name, ascii_scalars, ascii_encodes, ascii_utf8}
use Rattle.html_kept.proofs.Written.{escaped, shown_escapes, text_scalars, both_scalars, utf8_chars}

-- the characters that are written of trees, and what they spell where so many elements are open and the innermost has this name
pub record WrittenTrees (d : ℕ) (m : List ℕ) (t : Tree many) : Type 0 where
  pub chars_of : List ℕ
  pub same : encodes chars_of ≡ printed many t
  pub scalar_values : all_scalars chars_of ≡ true
  pub ends : (r : List ℕ) → NoTextFirst t → ends_text r ≡ true → ends_text (chars_of ++ r) ≡ true
  pub reads : (b : Bool) (r : List ℕ) → ends_text r ≡ true → (c : Bool) × Reads d m t b (chars_of ++ r) c r

no_trees : (d : ℕ) (m : List ℕ) → WrittenTrees d m none
no_trees d m = record {
  chars_of = [];
  same = refl;
  scalar_values = refl;
  ends = λ r h e. e;
  reads = λ b r e. (b, nothing d m b r);
}

front : (cs r : List ℕ) → 0 < length cs → Front (length cs) (cs ++ r)
front cs r lt = (lt, (let a = length-append cs r in omega (arith, a)))

-- ---- texts

some_written : (cs : List ℕ) → 0 < length (units_of_chars cs) → 0 < length (flat_map shown cs)
some_written [] lt = absurd (omega arith)
some_written (c ∷ cs) lt = let a = length-append (shown c) (flat_map shown cs) in let h = one_shown c in omega (arith, a, h)
  where
    by_gt : (c : ℕ) (b : Bool) → 0 < length (if b then codes "&gt;" else c ∷ [])
    by_gt c true = omega arith
    by_gt c false = omega arith

    by_lt : (c : ℕ) (b : Bool) → 0 < length (if b then codes "&lt;" else if nat_eq c 62 then codes "&gt;" else c ∷ [])
    by_lt c true = omega arith
    by_lt c false = by_gt c (nat_eq c 62)

    by_amp : (c : ℕ) (b : Bool) → 0 < length (if b then codes "&amp;" else if nat_eq c 60 then codes "&lt;" else if nat_eq c 62 then codes "&gt;" else c ∷ [])
    by_amp c true = omega arith
    by_amp c false = by_lt c (nat_eq c 60)

    one_shown : (c : ℕ) → 0 < length (shown c)
    one_shown c = by_amp c (nat_eq c 38)

text_bytes : (us cs : List ℕ) → us ≡ units_of_chars cs → all_scalars cs ≡ true → encodes (flat_map shown cs) ≡ p.printed_text us
text_bytes us cs e good = sym (escaped shown cs shown_escapes) ∙ ap (flat_map shown) (sym (utf8_chars cs good) ∙ ap utf8_of (sym e))

a_text_back : (d : ℕ) (m us cs : List ℕ) (t : Tree many) → is_in raw m ≡ false → us ≡ units_of_chars cs → all_scalars cs ≡ true → 0 < length us → NoTextFirst t → WrittenTrees d m t → WrittenTrees d m (more (text_node us) t)
a_text_back d m us cs t raw_not e good lt side w =
    let v = flat_map shown cs in
    let some : 0 < length (units_of_chars cs) = subst (λ (us : List ℕ). 0 < length us) e lt in
    record {
      chars_of = v ++ w.chars_of;
      same = encodes-append v w.chars_of ∙ ap (λ (x : List ℕ). x ++ encodes w.chars_of) (text_bytes us cs e good) ∙ ap (λ (x : List ℕ). p.printed_text us ++ x) w.same;
      scalar_values = both_scalars v w.chars_of (text_scalars cs good) w.scalar_values;
      ends = λ r h f. absurd h;
      reads = λ b r f.
          let q = w.chars_of ++ r in
          let at : point b m (v ++ q) ≡ text us (length v) = text_back b m cs q raw_not some (w.ends r side f) ∙ ap (λ (us : List ℕ). text us (length v)) (sym e) in
          let rest = w.reads (b && list_all is_space (take (length v) (v ++ q))) r f in
          let whole : Reads d m (more (text_node us) t) b (v ++ q) rest.0 r =
          a_text d m t b rest.0 (v ++ q) r us (length v) at (front v q (some_written cs some)) (subst (λ (s : List ℕ). Reads d m t (b && list_all is_space (take (length v) (v ++ q))) s rest.0 r) (sym (drop_name v q)) rest.1) in
          (rest.0, subst (λ (s : List ℕ). Reads d m (more (text_node us) t) b s rest.0 r) (sym (append_assoc v w.chars_of r)) whole);
    }

-- ---- tags

-- the tag that begins an element, in characters
abbrev opening : List ℕ → List ℕ → List ℕ
opening n w = 60 ∷ (n ++ (w ++ 62 ∷ []))

opening_before : (n w r : List ℕ) → opening n w ++ r ≡ 60 ∷ (n ++ (w ++ 62 ∷ r))
opening_before n w r = ap (λ (x : List ℕ). 60 ∷ x) (append_assoc n (w ++ 62 ∷ []) r ∙ ap (λ (x : List ℕ). n ++ x) (append_assoc w (62 ∷ []) r))

opening_bytes : (n w : List ℕ) → encodes n ≡ n → encodes (opening n w) ≡ 60 ∷ (n ++ (encodes w ++ 62 ∷ []))
unfolding encode
opening_bytes n w e =
    ap (λ (x : List ℕ). 60 ∷ x) (encodes-append n (w ++ 62 ∷ []) ∙ ap (λ (x : List ℕ). x ++ encodes (w ++ 62 ∷ [])) e ∙ ap (λ (x : List ℕ). n ++ x) (encodes-append w (62 ∷ [])))

opening_length : (n w : List ℕ) → length (opening n w) ≡ length n + 1 + length w + 1
opening_length n w = let a = length-append n (w ++ 62 ∷ []) in let b = length-append w (62 ∷ []) in omega (arith, a, b)

-- and the one that ends it
abbrev closing : List ℕ → List ℕ
closing n = 60 ∷ 47 ∷ (n ++ 62 ∷ [])

closing_before : (n r : List ℕ) → closing n ++ r ≡ 60 ∷ 47 ∷ (n ++ 62 ∷ r)
closing_before n r = ap (λ (x : List ℕ). 60 ∷ 47 ∷ x) (append_assoc n (62 ∷ []) r)

closing_bytes : (n : List ℕ) → encodes n ≡ n → encodes (closing n) ≡ 60 ∷ 47 ∷ (n ++ 62 ∷ [])
unfolding encode
closing_bytes n e = ap (λ (x : List ℕ). 60 ∷ 47 ∷ x) (encodes-append n (62 ∷ []) ∙ ap (λ (x : List ℕ). x ++ 62 ∷ []) e)

closing_length : (n : List ℕ) → length (closing n) ≡ length n + 2 + 1
closing_length n = let a = length-append n (62 ∷ []) in omega (arith, a)

start_bytes : (n : List ℕ) (xs : List Attr) (w : WrittenAttrs xs) → TagName n → encodes (opening n w.chars_of) ≡ p.start_tag n xs
start_bytes n xs w h =
    opening_bytes n w.chars_of (ascii_encodes n h.ascii) ∙ ap (λ (x : List ℕ). 60 ∷ (n ++ (x ++ 62 ∷ []))) w.same ∙ ap (λ (m : List ℕ). 60 ∷ (m ++ (printed_attrs xs ++ 62 ∷ []))) (sym (ascii_utf8 n h.ascii))

end_bytes : (n : List ℕ) → TagName n → encodes (closing n) ≡ p.end_tag n
end_bytes n h = closing_bytes n (ascii_encodes n h.ascii) ∙ ap (λ (m : List ℕ). 60 ∷ 47 ∷ (m ++ 62 ∷ [])) (sym (ascii_utf8 n h.ascii))

opening_scalars : (n w : List ℕ) → all_scalars n ≡ true → all_scalars w ≡ true → all_scalars (opening n w) ≡ true
opening_scalars n w e f = both_scalars n (w ++ 62 ∷ []) e (both_scalars w (62 ∷ []) f refl)

closing_scalars : (n : List ℕ) → all_scalars n ≡ true → all_scalars (closing n) ≡ true
closing_scalars n e = both_scalars n (62 ∷ []) e refl

-- the tag that begins an element is read, where something follows it
opened : (b : Bool) (m n : List ℕ) (xs : List Attr) (r : List ℕ) → is_in raw m ≡ false → TagName n → (w : WrittenAttrs xs) → Apart [] xs
    → (begins_markup (opening n w.chars_of ++ r) ≡ true) × (point b m (opening n w.chars_of ++ r) ≡ start n xs None (length (opening n w.chars_of)))
opened b m n xs r e h w g =
    let z = start_back b m n xs r e h w g in
    (ap begins_markup (opening_before n w.chars_of r) ∙ z.0, ap (point b m) (opening_before n w.chars_of r) ∙ z.1 ∙ ap (start n xs None) (sym (opening_length n w.chars_of)))

closed_back : (b : Bool) (m n r : List ℕ) → is_in raw m ≡ false → TagName n → point b m (closing n ++ r) ≡ end n None (length (closing n))
closed_back b m n r e h = ap (point b m) (closing_before n r) ∙ end_back b m n r e h ∙ ap (end n None) (sym (closing_length n))

closing_ends : (n r : List ℕ) → ends_text (closing n ++ r) ≡ true
closing_ends n r = refl

-- ---- elements

if_is : {A : Type 0} (b c : Bool) (x y : A) → b ≡ c → (if b then x else y) ≡ (if c then x else y)
if_is b c x y e = ap (λ b. if b then x else y) e

empty_back : (d : ℕ) (m n : List ℕ) (xs : List Attr) (t : Tree many) → d < most → is_in raw m ≡ false → TagName n → is_in void n ≡ true → Apart [] xs → WrittenAttrs xs → WrittenTrees d m t → WrittenTrees d m (more (element n xs none) t)
empty_back d m n xs t lt raw_not h v apart a w =
    let o = opening n a.chars_of in
    record {
      chars_of = o ++ w.chars_of;
      same = encodes-append o w.chars_of ∙ ap (λ (x : List ℕ). x ++ encodes w.chars_of) (start_bytes n xs a h) ∙ ap (λ (x : List ℕ). p.start_tag n xs ++ x) w.same
          ∙ ap (λ (x : List ℕ). x ++ printed many t) (sym (ap (λ (x : List ℕ). p.start_tag n xs ++ x) (if_is (is_in void n) true [] ([] ++ p.end_tag n) v) ∙ nil (p.start_tag n xs)));
      scalar_values = both_scalars o w.chars_of (opening_scalars n a.chars_of (ascii_scalars n h.ascii) a.scalar_values) w.scalar_values;
      ends = λ r k f. ap ends_text (append_assoc o w.chars_of r) ∙ (opened true m n xs (w.chars_of ++ r) raw_not h a apart).0;
      reads = λ b r f.
          let q = w.chars_of ++ r in
          let at = (opened b m n xs q raw_not h a apart).1 in
          let rest = w.reads false r f in
          let whole : Reads d m (more (element n xs none) t) b (o ++ q) rest.0 r =
          an_empty d m t b rest.0 (o ++ q) r n xs (length o) lt v at (front o q (omega arith)) (subst (λ (s : List ℕ). Reads d m t false s rest.0 r) (sym (drop_name o q)) rest.1) in
          (rest.0, subst (λ (s : List ℕ). Reads d m (more (element n xs none) t) b s rest.0 r) (sym (append_assoc o w.chars_of r)) whole);
    }
  where
    nil : (xs : List ℕ) → xs ++ [] ≡ xs
    nil [] = refl
    nil (x ∷ xs) = ap (λ (ys : List ℕ). x ∷ ys) (nil xs)

element_back : (d : ℕ) (m n : List ℕ) (xs : List Attr) (u t : Tree many) → d < most → is_in raw m ≡ false → TagName n → is_in void n ≡ false → Apart [] xs → WrittenAttrs xs → WrittenTrees (suc d) n u → WrittenTrees d m t → WrittenTrees d m (more (element n xs u) t)
element_back d m n xs u t lt raw_not h v apart a x w =
    let o = opening n a.chars_of in
    let k = closing n in
    record {
      chars_of = o ++ (x.chars_of ++ (k ++ w.chars_of));
      same = encodes-append o (x.chars_of ++ (k ++ w.chars_of)) ∙ ap (λ (y : List ℕ). encodes o ++ y) (encodes-append x.chars_of (k ++ w.chars_of) ∙ ap (λ (y : List ℕ). encodes x.chars_of ++ y) (encodes-append k w.chars_of))
          ∙ ap (λ (y : List ℕ). y ++ (encodes x.chars_of ++ (encodes k ++ encodes w.chars_of))) (start_bytes n xs a h)
          ∙ ap (λ (y : List ℕ). p.start_tag n xs ++ (y ++ (encodes k ++ encodes w.chars_of))) x.same
          ∙ ap (λ (y : List ℕ). p.start_tag n xs ++ (printed many u ++ (y ++ encodes w.chars_of))) (end_bytes n h)
          ∙ ap (λ (y : List ℕ). p.start_tag n xs ++ (printed many u ++ (p.end_tag n ++ y))) w.same
          ∙ ap (λ (y : List ℕ). p.start_tag n xs ++ y) (sym (append_assoc (printed many u) (p.end_tag n) (printed many t)))
          ∙ sym (append_assoc (p.start_tag n xs) (printed many u ++ p.end_tag n) (printed many t))
          ∙ ap (λ (y : List ℕ). (p.start_tag n xs ++ y) ++ printed many t) (sym (if_is (is_in void n) false [] (printed many u ++ p.end_tag n) v));
      scalar_values = both_scalars o (x.chars_of ++ (k ++ w.chars_of)) (opening_scalars n a.chars_of (ascii_scalars n h.ascii) a.scalar_values)
          (both_scalars x.chars_of (k ++ w.chars_of) x.scalar_values (both_scalars k w.chars_of (closing_scalars n (ascii_scalars n h.ascii)) w.scalar_values));
      ends = λ r j f. ap ends_text (append_assoc o (x.chars_of ++ (k ++ w.chars_of)) r) ∙ (opened true m n xs ((x.chars_of ++ (k ++ w.chars_of)) ++ r) raw_not h a apart).0;
      reads = λ b r f.
          let q3 = w.chars_of ++ r in
          let q2 = k ++ q3 in
          let q1 = x.chars_of ++ q2 in
          let at = (opened b m n xs q1 raw_not h a apart).1 in
          let inner = x.reads false q2 (closing_ends n q3) in
          let rest = w.reads false r f in
          let whole : Reads d m (more (element n xs u) t) b (o ++ q1) rest.0 r =
          an_element d m t u b rest.0 inner.0 (o ++ q1) q2 r n xs (length o) (length k) lt v at (front o q1 (omega arith))
          (subst (λ (s : List ℕ). Reads (suc d) n u false s inner.0 q2) (sym (drop_name o q1)) inner.1) (closed_back inner.0 n n q3 h.not_raw h) (front k q3 (omega arith))
          (subst (λ (s : List ℕ). Reads d m t false s rest.0 r) (sym (drop_name k q3)) rest.1) in
          let e : (o ++ (x.chars_of ++ (k ++ w.chars_of))) ++ r ≡ o ++ q1 =
          append_assoc o (x.chars_of ++ (k ++ w.chars_of)) r ∙ ap (λ (y : List ℕ). o ++ y) (append_assoc x.chars_of (k ++ w.chars_of) r ∙ ap (λ (y : List ℕ). x.chars_of ++ y) (append_assoc k w.chars_of r)) in
          (rest.0, subst (λ (s : List ℕ). Reads d m (more (element n xs u) t) b s rest.0 r) (sym e) whole);
    }

-- ---- all trees

trees_back : (a : Answers) (k d : ℕ) (m : List ℕ) (t : Tree many) → d + k ≡ most → is_in raw m ≡ false → OfTable a many t → WellRead k many t → WrittenTrees d m t
trees_back a k d m none e raw_not h g = no_trees d m
trees_back a k d m (more (text_node us) t) e raw_not h g = a_text_back d m us g.0.0 t raw_not g.0.1 g.0.2 h.0 h.2 (trees_back a k d m t e raw_not h.1 g.1)
trees_back a k d m (more (element n xs u) t) e raw_not h g =
    let name = tag_name n (listed_names n h.0.0) in
    let attrs = attrs_back a n xs h.0.1 g.0.2 in
    let lt : d < most = let z = g.0.0 in omega (arith, e, z) in
    let i : suc d + (k - 1) ≡ most = let z = g.0.0 in omega (arith, e, z) in
    by_void (is_in void n) refl name attrs lt (trees_back a (k - 1) (suc d) n u i name.not_raw h.0.2 g.0.4) (trees_back a k d m t e raw_not h.1 g.1)
  where
    by_void : (b : Bool) → is_in void n ≡ b → TagName n → WrittenAttrs xs → d < most → WrittenTrees (suc d) n u → WrittenTrees d m t → WrittenTrees d m (more (element n xs u) t)
    by_void true v name attrs lt x w = subst (λ u. WrittenTrees d m (more (element n xs u) t)) (sym (g.0.3 v)) (empty_back d m n xs t lt raw_not name v g.0.1 attrs w)
    by_void false v name attrs lt x w = element_back d m n xs u t lt raw_not name v g.0.1 attrs x w

pub written_back : (a : Answers) (t : Tree many) → OfTable a many t → WellRead most many t → WrittenTrees 0 [] t
unfolding is_in
written_back a t h g = trees_back a most 0 [] t refl refl h g
