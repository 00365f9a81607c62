-- Parts of a tag, tags and pieces have no more characters than there are.
use Rattle.std.proofs.Common.{◌≡◌, ℕ, zero, suc, ◌+◌, ◌-◌, ◌≤◌, ◌<◌, Bool, true, false, ◌&&◌, List, [], ◌∷◌, Option, None, Some, refl, sym, ap, ◌∙◌, arith, nat_eq, nat_lt, length, drop, take, map, codes}
use Rattle.std.specs.Prelude.{if◌then◌else◌, position}
use Rattle.std.specs.List.{prefix_len, starts_with}
use Rattle.std.proofs.lemmas.List.{length-drop, length-take}
use Rattle.std.proofs.lemmas.List.Sums.{prefix_len-le-length}
use Rattle.std.proofs.lemmas.List.Quantifiers.{position-Some}
use Rattle.std.proofs.lemmas.Bool.Decides.{nat_tests}
use Rattle.caja_units.specs.Units.{same_units}
use Rattle.caja_units.specs.Utf8.{units_of_chars}
use Rattle.html_grammar.specs.Characters.{is_space, is_attr, is_word, is_letter, is_quote, begins, begins_markup, is, lower}
use Rattle.html_grammar.specs.Tables.{is_in, raw}
use Rattle.std.specs.Char.Escape.{encode_utf16}
use Rattle.html_grammar.specs.References.{Reference, stands_for, unknown, absent, reference}
use Rattle.html_grammar.specs.Runs.{Run, units, unknown_at, run, run_length, after, at_first, referred}
use Rattle.html_grammar.specs.Tags.{Attr, Fault, bad_attr, open_tag, Part, close, gap, attr, wrong, unclosed, attribute, valued, ends_bare, quoted, value, attr_at, Kind, is_void_tag, part, Inside, closed, endless, before, unknown_fault, is_fault, attr_fault, goes, inside}
use Rattle.html_grammar.specs.Point.{Step, text, skip, start, end, refuse, text_step, start_step, end_step, lowered, start_kind, start_tag, end_tag, one_more, comment_end, dropped, declaration, begins_end, raw_len, raw_here, markup, point}
use Rattle.html_grammar.specs.Fits.{RunFits, PlaceFits, PartFits, FaultFits, InsideFits, StepFits}
use Rattle.html_grammar.proofs.Bounds.{run_fits, begins_left}

-- both branches of a test
pub by_test : {X : Type 0} (P : X → Type 0) (b : Bool) (x y : X) → (b ≡ true → P x) → (b ≡ false → P y) → P (if b then x else y)
by_test P true x y f g = f refl
by_test P false x y f g = g refl

and_left : (a b : Bool) → (a && b) ≡ true → a ≡ true
and_left true b e = refl
and_left false b e = absurd cc

and_right : (a b : Bool) → (a && b) ≡ true → b ≡ true
and_right true b e = e
and_right false b e = absurd cc

-- ---- parts of a tag

valued_fits : (m k j : ℕ) (n : List ℕ) (r : Run) → 0 < k → RunFits (run_length r) r → k + run_length r + j ≤ m → PartFits m (valued n k j r)
valued_fits m k j n (units us i) pos f le = (omega arith, le, tt)
valued_fits m k j n (unknown_at u i) pos f le = (omega arith, le, (let a = f.0 in omega arith))

own_fits : (m : ℕ) (r : Run) → RunFits m r → RunFits (run_length r) r
own_fits m (units us n) h = omega arith
own_fits m (unknown_at k n) h = (h.0, omega arith)

length_fits : (m : ℕ) (r : Run) → RunFits m r → run_length r ≤ m
length_fits m (units us n) h = h
length_fits m (unknown_at k n) h = h.1

not_eq : (a b : ℕ) → nat_eq a b ≡ false → a ≤ b → a < b
not_eq a b e le = grind (arith, nat_tests)

quoted_fits : (m k left : ℕ) (n : List ℕ) (r : Run) → 0 < k → RunFits left r → k + left ≤ m → PartFits m (quoted n k left r)
quoted_fits m k left n r pos f le =
    by_test (PartFits m) (nat_eq (run_length r) left) unclosed (valued n k 1 r) (λ _. tt)
    (λ e. valued_fits m k 1 n r pos (own_fits left r f) (let l = length_fits left r f in let d = not_eq (run_length r) left e l in omega arith))

value_fits : (m k : ℕ) (n s : List ℕ) → 0 < k → k + length s ≤ m → PartFits m (value n k s)
value_fits m k n [] pos le = (pos, omega arith, tt)
value_fits m k n (q ∷ s) pos le =
    by_test (PartFits m) (is_quote q) (quoted n (k + 1) (length s) (run (begins (is q)) 0 s)) (valued n k 0 (run ends_bare 0 (q ∷ s)))
    (λ _. quoted_fits m (k + 1) (length s) n (run (begins (is q)) 0 s) (omega arith) (run_fits (begins (is q)) 0 s (omega arith)) (omega arith))
    (λ _. let f = run_fits ends_bare 0 (q ∷ s) (omega arith) in
    valued_fits m k 0 n (run ends_bare 0 (q ∷ s)) pos (own_fits (length (q ∷ s)) (run ends_bare 0 (q ∷ s)) f) (let l = length_fits (length (q ∷ s)) (run ends_bare 0 (q ∷ s)) f in omega arith))

front_pos : (p : ℕ → Bool) (c : ℕ) (s : List ℕ) → p c ≡ true → 0 < prefix_len p (c ∷ s)
front_pos p c s e = by_one (p c) e
  where
    by_one : (b : Bool) → b ≡ true → 0 < (if b then 1 + prefix_len p s else 0)
    by_one true e = omega arith
    by_one false e = absurd cc

attr_fits : (c : ℕ) (s : List ℕ) → is_attr c ≡ true → PartFits (length (c ∷ s)) (attr_at (c ∷ s))
attr_fits c s e =
    let n = prefix_len is_attr (c ∷ s) in
    let pos = front_pos is_attr c s e in
    let le = prefix_len-le-length is_attr (c ∷ s) in
    by_test (PartFits (length (c ∷ s))) (begins (is 61) (drop n (c ∷ s))) (value (map lower (take n (c ∷ s))) (n + 1) (drop (n + 1) (c ∷ s))) (attribute (map lower (take n (c ∷ s))) [] None n)
    (λ h. let l = begins_left (is 61) n (c ∷ s) h in
    value_fits (length (c ∷ s)) (n + 1) (map lower (take n (c ∷ s))) (drop (n + 1) (c ∷ s)) (omega arith) (let d = length-drop (n + 1) (c ∷ s) in omega (arith, d, l)))
    (λ h. (pos, le, tt))

pub part_fits : (t : Kind) (s : List ℕ) → PartFits (length s) (part t s)
unfolding part
part_fits t [] = tt
part_fits t (c ∷ s) =
    by_test (PartFits (length (c ∷ s))) (nat_eq c 62) (close 1) _ (λ _. (omega arith, omega arith))
    (λ _. by_test (PartFits (length (c ∷ s))) (nat_eq c 47 && is_void_tag t && begins (is 62) s) (close 2) _ (λ e. (omega arith, (let l = begins_left (is 62) 0 s (and_right (nat_eq c 47 && is_void_tag t) (begins (is 62) s) e) in omega arith)))
    (λ _. by_test (PartFits (length (c ∷ s))) (is_space c) gap _ (λ _. omega arith)
    (λ _. by_test (PartFits (length (c ∷ s))) (is_attr c) (attr_at (c ∷ s)) wrong (λ e. attr_fits c s e) (λ _. omega arith))))

-- ---- tags

before_fits : (i m : ℕ) (xs : List Attr) (f : Option Fault) (x : Inside) → FaultFits (i + suc m) f → InsideFits (i + 1) m x → InsideFits i (suc m) (before xs f x)
before_fits i m xs None (closed bs None n) g h = (let a = h.0 in omega arith, let a = h.1 in omega arith, tt)
before_fits i m xs None (closed bs (Some k) n) g h = (let a = h.0 in omega arith, let a = h.1 in omega arith, let a = h.2 in omega arith)
before_fits i m xs (Some k) (closed bs f n) g h = (let a = h.0 in omega arith, let a = h.1 in omega arith, g)
before_fits i m xs f endless g h = tt

unknown_fits : (i m : ℕ) (u : Option ℕ) → PlaceFits m u → FaultFits (i + m) (unknown_fault i u)
unknown_fits i m None h = tt
unknown_fits i m (Some k) h = omega arith

place_more : (n m : ℕ) (u : Option ℕ) → n ≤ m → PlaceFits n u → PlaceFits m u
place_more n m None le h = tt
place_more n m (Some k) le h = omega arith

attr_fault_fits : (t : Kind) (seen : List (List ℕ)) (i m : ℕ) (a : Attr) (u : Option ℕ) → PlaceFits m u → FaultFits (i + m) (attr_fault t seen i a u)
attr_fault_fits t seen i m a u h = by_test (FaultFits (i + m)) (is_fault t seen a.name) (Some (bad_attr, i)) (unknown_fault i u) (λ _. omega arith) (λ _. unknown_fits i m u h)

later : (i m : ℕ) (x : Inside) → InsideFits (i + 1) m x → InsideFits i (suc m) x
later i m (closed xs None n) h = (let a = h.0 in omega arith, let a = h.1 in omega arith, tt)
later i m (closed xs (Some k) n) h = (let a = h.0 in omega arith, let a = h.1 in omega arith, let a = h.2 in omega arith)
later i m endless h = tt

goes_fits : (t : Kind) (f : List (List ℕ) → ℕ → Inside) (seen : List (List ℕ)) (i m : ℕ) (x : Part) → PartFits (suc m) x → ((seen : List (List ℕ)) (n : ℕ) → n ≤ m → InsideFits (i + 1) m (f seen n)) → InsideFits i (suc m) (goes t f seen i x)
goes_fits t f seen i m (close n) h g = (let a = h.0 in omega arith, let a = h.1 in omega arith, tt)
goes_fits t f seen i m gap h g = later i m (f seen 0) (g seen 0 (omega arith))
goes_fits t f seen i m (attr a u n) h g =
    before_fits i m (a ∷ []) (attr_fault t seen i a u) _ (attr_fault_fits t seen i (suc m) a u (place_more n (suc m) u h.1 h.2)) (g _ (n - 1) (let l = h.1 in omega arith))
goes_fits t f seen i m wrong h g = before_fits i m [] (Some (bad_attr, i)) (f seen 0) (omega arith) (g seen 0 (omega arith))
goes_fits t f seen i m unclosed h g = tt

pub inside_fits : (t : Kind) (seen : List (List ℕ)) (n i : ℕ) (s : List ℕ) → n ≤ length s → InsideFits i (length s) (inside t seen n i s)
unfolding inside
inside_fits t seen n i [] le = tt
inside_fits t seen (suc n) i (c ∷ s) le = later i (length s) (inside t seen n (i + 1) s) (inside_fits t seen n (i + 1) s (omega arith))
inside_fits t seen zero i (c ∷ s) le = goes_fits t (λ seen n. inside t seen n (i + 1) s) seen i (length s) (part t (c ∷ s)) (part_fits t (c ∷ s)) (λ seen n l. inside_fits t seen n (i + 1) s l)

-- ---- pieces

start_fits : (i m : ℕ) (n : List ℕ) (x : Inside) → InsideFits i m x → StepFits (i + m) (start_step n x)
start_fits i m n (closed xs f k) h = (let a = h.0 in omega arith, h.1, h.2)
start_fits i m n endless h = omega arith

end_fits : (i m : ℕ) (n : List ℕ) (x : Inside) → InsideFits i m x → StepFits (i + m) (end_step n x)
end_fits i m n (closed xs f k) h = (let a = h.0 in omega arith, h.1, h.2)
end_fits i m n endless h = omega arith

fault_more : (n m : ℕ) (f : Option Fault) → n ≤ m → FaultFits n f → FaultFits m f
fault_more n m None le h = tt
fault_more n m (Some f) le h = omega arith

more_fits : (n m : ℕ) (x : Step) → n ≤ m → StepFits n x → StepFits m x
more_fits n m (text us k) le h = (h.0, let a = h.1 in omega arith)
more_fits n m (skip k) le h = (h.0, let a = h.1 in omega arith)
more_fits n m (start a xs f k) le h = (h.0, (let a = h.1 in omega arith), fault_more n m f le h.2)
more_fits n m (end a f k) le h = (h.0, (let a = h.1 in omega arith), fault_more n m f le h.2)
more_fits n m (refuse r k) le h = omega arith

start_tag_fits : (m : ℕ) (s : List ℕ) → 1 + length s ≤ m → StepFits m (start_tag s)
start_tag_fits m s le =
    let n = prefix_len is_word s in
    let l = prefix_len-le-length is_word s in
    let d = length-drop n s in
    more_fits (n + 1 + length (drop n s)) m _ (omega (arith, l, d, le)) (start_fits (n + 1) (length (drop n s)) (lowered n s) _ (inside_fits (start_kind (lowered n s)) [] 0 (n + 1) (drop n s) (omega arith)))

end_tag_fits : (m : ℕ) (s : List ℕ) → 2 + length s ≤ m → StepFits m (end_tag s)
end_tag_fits m s le =
    let n = prefix_len is_word s in
    let l = prefix_len-le-length is_word s in
    let d = length-drop n s in
    by_test (StepFits m) (begins is_letter s) (end_step (lowered n s) (inside _ [] 0 (n + 2) (drop n s))) (refuse open_tag 0)
    (λ _. more_fits (n + 2 + length (drop n s)) m _ (omega (arith, l, d, le)) (end_fits (n + 2) (length (drop n s)) (lowered n s) _ (inside_fits _ [] 0 (n + 2) (drop n s) (omega arith))))
    (λ _. omega arith)

same_length : (us vs : List ℕ) → same_units us vs ≡ true → length us ≡ length vs
same_length [] [] e = refl
same_length [] (v ∷ vs) e = absurd cc
same_length (u ∷ us) [] e = absurd cc
same_length (u ∷ us) (v ∷ vs) e = ap suc (same_length us vs (and_right (nat_eq u v) (same_units us vs) e))

begins_with_fits : (s p : List ℕ) → starts_with nat_eq s p ≡ true → length p ≤ length s
begins_with_fits s p e = let h = same_length p (take (length p) s) e in let l = length-take (length p) s in omega (arith, h, l)

abbrev PlaceIn : ℕ → Option ℕ → Type 0
PlaceIn m None = Unit {0}
PlaceIn m (Some n) = (0 < n) × (n ≤ m)

one_more_in : (m : ℕ) (o : Option ℕ) → PlaceIn m o → PlaceIn (suc m) (one_more o)
one_more_in m None h = tt
one_more_in m (Some n) h = (omega arith, let a = h.1 in omega arith)

comment_in : (s : List ℕ) → PlaceIn (length s) (comment_end s)
unfolding comment_end
comment_in [] = tt
comment_in (c ∷ s) =
    by_test (PlaceIn (length (c ∷ s))) (starts_with nat_eq (c ∷ s) (codes "-->")) (Some 3) (one_more (comment_end s))
    (λ e. (omega arith, begins_with_fits (c ∷ s) (codes "-->") e)) (λ _. one_more_in (length s) (comment_end s) (comment_in s))

dropped_fits : (m k j : ℕ) (o : Option ℕ) → 0 < k → PlaceIn j o → j + k ≤ m → StepFits m (dropped k o)
dropped_fits m k j None pos h le = omega arith
dropped_fits m k j (Some n) pos h le = (omega arith, (let a = h.1 in omega arith))

type_fits : (m : ℕ) (s : List ℕ) (o : Option ℕ) → position (is 62) s ≡ o → 2 + length s ≤ m → StepFits m (dropped 3 o)
type_fits m s None e le = omega arith
type_fits m s (Some n) e le = let h = position-Some (is 62) s n 0 e in (omega arith, (let a = h.0 in omega arith))

declaration_fits : (m : ℕ) (b : Bool) (s : List ℕ) → 2 + length s ≤ m → StepFits m (declaration b s)
declaration_fits m b s le =
    by_test (StepFits m) (starts_with nat_eq s (codes "--")) (dropped 4 (comment_end (drop 2 s))) _
    (λ e. let l = begins_with_fits s (codes "--") e in let d = length-drop 2 s in dropped_fits m 4 (length (drop 2 s)) (comment_end (drop 2 s)) (omega arith) (comment_in (drop 2 s)) (omega (arith, l, d, le)))
    (λ _. by_test (StepFits m) (b && same_units (lowered 7 s) (codes "doctype")) (dropped 3 (position (is 62) s)) (refuse open_tag 0)
    (λ _. type_fits m s (position (is 62) s) refl le) (λ _. omega arith))

markup_front : (s : List ℕ) → begins_markup s ≡ true → 2 ≤ length s
markup_front [] e = absurd cc
markup_front (c ∷ []) e = absurd (let g : false ≡ true = and_right (nat_eq c 60) false e in cc)
markup_front (c ∷ d ∷ s) e = omega arith

markup_fits : (b : Bool) (s : List ℕ) → begins_markup s ≡ true → StepFits (length s) (markup b s)
markup_fits b s e =
    let l = markup_front s e in
    let d1 = length-drop 1 s in
    let d2 = length-drop 2 s in
    by_test (StepFits (length s)) (begins (is 47) (drop 1 s)) (end_tag (drop 2 s)) _ (λ _. end_tag_fits (length s) (drop 2 s) (omega (arith, l, d2)))
    (λ _. by_test (StepFits (length s)) (begins (is 33) (drop 1 s)) (declaration b (drop 2 s)) (start_tag (drop 1 s))
    (λ _. declaration_fits (length s) b (drop 2 s) (omega (arith, l, d2))) (λ _. start_tag_fits (length s) (drop 1 s) (omega (arith, l, d1))))

raw_within : (name s : List ℕ) → raw_len name s ≤ length s
unfolding raw_len
raw_within name [] = omega arith
raw_within name (c ∷ s) = by_test (λ n. n ≤ length (c ∷ s)) (begins_end name (c ∷ s)) 0 (suc (raw_len name s)) (λ _. omega arith) (λ _. let h = raw_within name s in omega arith)

raw_here_within : (name s : List ℕ) → raw_here name s ≤ length s
raw_here_within name s = by_test (λ n. n ≤ length s) (is_in raw name) (raw_len name s) 0 (λ _. raw_within name s) (λ _. omega arith)

-- a run that doesn't end at once has some characters
abbrev HasSome : Run → Type 0
HasSome (units us n) = 0 < n
HasSome (unknown_at k n) = Unit {0}

behind_one : (us : List ℕ) (x : Run) → HasSome (after us 1 x)
behind_one us (units vs n) = omega arith
behind_one us (unknown_at k n) = tt

reference_some : (f : ℕ → Run) (r : Reference) → HasSome (referred f r)
reference_some f (stands_for c n) = behind_one (encode_utf16 c) (f n)
reference_some f unknown = first_some (f 0)
  where
    first_some : (x : Run) → HasSome (at_first x)
    first_some (units us n) = tt
    first_some (unknown_at k n) = tt
reference_some f absent = behind_one (38 ∷ []) (f 0)

run_some : (e : List ℕ → Bool) (s : List ℕ) → 0 < length s → e s ≡ false → HasSome (run e 0 s)
unfolding run
run_some e [] lt h = absurd (omega arith)
run_some e (c ∷ s) lt h =
    by_test HasSome (e (c ∷ s)) (units [] 0) _ (λ t. absurd (let f : true ≡ false = sym t ∙ h in cc))
    (λ _. by_test HasSome (nat_eq c 38) (referred (λ n. run e n s) (reference s)) (after (encode_utf16 c) 1 (run e 0 s)) (λ _. reference_some (λ n. run e n s) (reference s)) (λ _. behind_one (encode_utf16 c) (run e 0 s)))

text_fits : (m : ℕ) (x : Run) → HasSome x → RunFits m x → StepFits m (text_step x)
text_fits m (units us n) h f = (h, f)
text_fits m (unknown_at k n) h f = (let a = f.0 in let c = f.1 in omega arith)

above : (n : ℕ) → nat_lt 0 n ≡ true → 0 < n
above n e = grind (arith, nat_tests)

-- what stands at a point has some characters, and no more than there are
pub point_fits : (b : Bool) (name s : List ℕ) → 0 < length s → StepFits (length s) (point b name s)
unfolding point
point_fits b name s lt =
    by_test (StepFits (length s)) (nat_lt 0 (raw_here name s)) (text (units_of_chars (take (raw_here name s) s)) (raw_here name s)) _ (λ e. (above (raw_here name s) e, raw_here_within name s))
    (λ _. by_test (StepFits (length s)) (begins_markup s) (markup b s) (text_step (run begins_markup 0 s)) (markup_fits b s)
    (λ e. text_fits (length s) (run begins_markup 0 s) (run_some begins_markup s lt e) (run_fits begins_markup 0 s (omega arith))))
