-- References and runs have no more characters than there are.
use Rattle.std.proofs.Common.{◌≡◌, ℕ, zero, suc, ◌+◌, ◌≤◌, ◌<◌, Bool, true, false, ◌&&◌, List, [], ◌∷◌, Option, None, Some, refl, arith, nat_eq, nat_lt, length, drop, take}
use Rattle.std.specs.Prelude.{if◌then◌else◌}
use Rattle.std.specs.List.{prefix_len}
use Rattle.std.specs.Char.Escape.{encode_utf16}
use Rattle.std.specs.Str.Parse.{digits_value}
use Rattle.std.proofs.lemmas.List.{length-drop}
use Rattle.html_grammar.specs.Characters.{is_digit, is_hex, is_word, begins, is}
use Rattle.html_grammar.specs.Tables.{names, found}
use Rattle.html_grammar.specs.References.{Reference, stands_for, unknown, absent, reference, is_closed, is_character, character, numbered, known, named}
use Rattle.html_grammar.specs.Runs.{Run, units, unknown_at, after, at_first, referred, run}
use Rattle.html_grammar.specs.Fits.{ReferenceFits, RunFits}

and_right : (a b : Bool) → (a && b) ≡ true → b ≡ true
and_right true b e = e
and_right false b e = absurd cc

pub begins_left : (p : ℕ → Bool) (n : ℕ) (s : List ℕ) → begins p (drop n s) ≡ true → n < length s
begins_left p zero [] e = absurd cc
begins_left p zero (c ∷ s) e = omega arith
begins_left p (suc n) [] e = absurd cc
begins_left p (suc n) (c ∷ s) e = let h = begins_left p n s e in omega (arith, h)

closed_left : (n : ℕ) (s : List ℕ) → is_closed n s ≡ true → n < length s
closed_left n s e = begins_left (is 59) n s (and_right (nat_lt 0 n) (begins (is 59) (drop n s)) e)

where_true : (m : ℕ) (b : Bool) (x : Reference) → (b ≡ true → ReferenceFits m x) → ReferenceFits m (if b then x else absent)
where_true m true x f = f refl
where_true m false x f = tt

either : (m : ℕ) (b : Bool) (x y : Reference) → ReferenceFits m x → ReferenceFits m y → ReferenceFits m (if b then x else y)
either m true x y f g = f
either m false x y f g = g

known_fits : (m n : ℕ) (o : Option ℕ) → n ≤ m → ReferenceFits m (known o n)
known_fits m n None h = tt
known_fits m n (Some c) h = h

character_fits : (m v n : ℕ) → n ≤ m → ReferenceFits m (character v n)
character_fits m v n h = where_true m (is_character v) (stands_for v n) (λ _. h)

numbered_fits : (p : ℕ → Bool) (b j k : ℕ) (s : List ℕ) → k ≡ suc j → ReferenceFits (length s) (numbered p b k (drop j s))
numbered_fits p b j k s e =
    where_true (length s) (is_closed (prefix_len p (drop j s)) (drop j s)) (character (digits_value b (take (prefix_len p (drop j s)) (drop j s))) (prefix_len p (drop j s) + k))
    (λ h. character_fits (length s) (digits_value b (take (prefix_len p (drop j s)) (drop j s))) (prefix_len p (drop j s) + k) (let l = closed_left (prefix_len p (drop j s)) (drop j s) h in omega (arith, l, length-drop j s)))

named_fits : (s : List ℕ) → ReferenceFits (length s) (named s)
named_fits s = where_true (length s) (is_closed (prefix_len is_word s) s) (known (found names (take (prefix_len is_word s) s)) (prefix_len is_word s + 1))
    (λ h. known_fits (length s) (prefix_len is_word s + 1) (found names (take (prefix_len is_word s) s)) (let l = closed_left (prefix_len is_word s) s h in omega (arith, l)))

pub reference_fits : (s : List ℕ) → ReferenceFits (length s) (reference s)
unfolding reference
reference_fits s = either (length s) (begins (is 35) s) _ _ (either (length s) (begins (is 120) (drop 1 s)) _ _ (numbered_fits is_hex 16 2 3 s refl) (numbered_fits is_digit 10 1 2 s refl)) (named_fits s)

one_more : (m : ℕ) (us : List ℕ) (x : Run) → RunFits m x → RunFits (suc m) (after us 1 x)
one_more m us (units vs n) h = omega arith
one_more m us (unknown_at k n) h = ((let a = h.0 in omega arith), (let b = h.1 in omega arith))

first_fits : (m : ℕ) (x : Run) → RunFits m x → RunFits (suc m) (at_first x)
first_fits m (units vs n) h = (omega arith, omega arith)
first_fits m (unknown_at k n) h = (omega arith, (let b = h.1 in omega arith))

referred_fits : (f : ℕ → Run) (m : ℕ) (r : Reference) → ((n : ℕ) → n ≤ m → RunFits m (f n)) → ReferenceFits m r → RunFits (suc m) (referred f r)
referred_fits f m (stands_for c n) g h = one_more m (encode_utf16 c) (f n) (g n h)
referred_fits f m unknown g h = first_fits m (f 0) (g 0 (omega arith))
referred_fits f m absent g h = one_more m (38 ∷ []) (f 0) (g 0 (omega arith))

by_test : (m : ℕ) (b : Bool) (x y : Run) → RunFits m x → RunFits m y → RunFits m (if b then x else y)
by_test m true x y f g = f
by_test m false x y f g = g

pub run_fits : (e : List ℕ → Bool) (n : ℕ) (s : List ℕ) → n ≤ length s → RunFits (length s) (run e n s)
unfolding run
run_fits e n [] le = omega arith
run_fits e (suc n) (c ∷ s) le = one_more (length s) [] (run e n s) (run_fits e n s (omega arith))
run_fits e zero (c ∷ s) le =
    by_test (suc (length s)) (e (c ∷ s)) (units [] 0) _ (omega arith)
    (by_test (suc (length s)) (nat_eq c 38) _ _ (referred_fits (λ n. run e n s) (length s) (reference s) (λ n l. run_fits e n s l) (reference_fits s)) (one_more (length s) (encode_utf16 c) (run e 0 s) (run_fits e 0 s (omega arith))))
