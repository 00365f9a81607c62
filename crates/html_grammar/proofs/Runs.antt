-- Laws of runs, as a loop over the characters uses them.
use Rattle.std.proofs.Common.{◌≡◌, ◌≢◌, ℕ, zero, suc, ◌+◌, ◌≤◌, ◌<◌, Bool, true, false, List, [], ◌∷◌, ◌++◌, Option, None, Some, refl, sym, ap, ◌∙◌, arith, nat_eq, length, drop, get_or, append_assoc, append-nil, drop-drop, add-one}
use Rattle.std.specs.Prelude.{if◌then◌else◌}
use Rattle.std.specs.Char.Escape.{encode_utf16}
use Rattle.std.proofs.Math.Seq.{drop-cons}
use Rattle.std.proofs.lemmas.List.{drop_all}
use Rattle.std.proofs.lemmas.Bool.Decides.{nat_tests}
use Rattle.html_grammar.specs.References.{Reference, stands_for, unknown, absent, reference}
use Rattle.html_grammar.specs.Runs.{Run, units, unknown_at, after, at_first, referred, run}
use Rattle.html_grammar.specs.ReadSoFar.{joined, told, first_of}

run_nil : (e : List ℕ → Bool) → run e 0 [] ≡ units [] 0
unfolding run
run_nil e = refl

pub run_cons : (e : List ℕ → Bool) (c : ℕ) (s : List ℕ) → run e 0 (c ∷ s) ≡ (if e (c ∷ s) then units [] 0 else if nat_eq c 38 then referred (λ n. run e n s) (reference s) else after (encode_utf16 c) 1 (run e 0 s))
unfolding run
run_cons e c s = refl

after_nothing : (x : Run) → after [] 0 x ≡ x
after_nothing (units us m) = ap (units us) (let z : 0 + m ≡ m = omega arith in z)
after_nothing (unknown_at k m) =
    let a : 0 + k ≡ k = omega arith in
    let b : 0 + m ≡ m = omega arith in
    ap (λ j. unknown_at j (0 + m)) a ∙ ap (unknown_at k) b

-- so many characters are passed
pub run_pass : (e : List ℕ → Bool) (n : ℕ) (s : List ℕ) → n ≤ length s → run e n s ≡ after [] n (run e 0 (drop n s))
unfolding run
run_pass e zero s le = sym (after_nothing (run e 0 s))
run_pass e (suc n) [] le = absurd (omega arith)
run_pass e (suc n) (c ∷ s) le = ap (after [] 1) (run_pass e n s (omega arith)) ∙ once n (run e 0 (drop n s))
  where
    once : (n : ℕ) (x : Run) → after [] 1 (after [] n x) ≡ after [] (suc n) x
    once n (units us m) = ap (units us) (let z : 1 + (n + m) ≡ suc n + m = omega arith in z)
    once n (unknown_at k m) =
        let a : 1 + (n + k) ≡ suc n + k = omega arith in
        let b : 1 + (n + m) ≡ suc n + m = omega arith in
        ap (λ j. unknown_at j (1 + (n + m))) a ∙ ap (unknown_at (suc n + k)) b

joined_after : (w : Option ℕ) (us vs : List ℕ) (i n j : ℕ) (x : Run) → j ≡ i + n → joined w us i (after vs n x) ≡ joined w (us ++ vs) j x
joined_after None us vs i n j (units ts m) e = let a : i + (n + m) ≡ j + m = omega arith in ap (λ k. units (us ++ (vs ++ ts)) k) a ∙ ap (λ (t : List ℕ). units t (j + m)) (sym (append_assoc us vs ts))
joined_after None us vs i n j (unknown_at k m) e =
    let a : i + (n + m) ≡ j + m = omega arith in
    let b : i + (n + k) ≡ j + k = omega arith in
    ap (λ h. unknown_at h (i + (n + m))) b ∙ ap (unknown_at (j + k)) a
joined_after (Some h) us vs i n j (units ts m) e = let a : i + (n + m) ≡ j + m = omega arith in ap (unknown_at h) a
joined_after (Some h) us vs i n j (unknown_at k m) e = let a : i + (n + m) ≡ j + m = omega arith in ap (unknown_at h) a

joined_first : (w : Option ℕ) (us : List ℕ) (i : ℕ) (x : Run) → joined w us i (at_first x) ≡ joined (first_of w i) us (i + 1) x
joined_first None us i (units ts m) =
    let a : i + 0 ≡ i = omega arith in
    let b : i + (1 + m) ≡ i + 1 + m = omega arith in
    ap (λ h. unknown_at h (i + (1 + m))) a ∙ ap (unknown_at i) b
joined_first None us i (unknown_at k m) =
    let a : i + 0 ≡ i = omega arith in
    let b : i + (1 + m) ≡ i + 1 + m = omega arith in
    ap (λ h. unknown_at h (i + (1 + m))) a ∙ ap (unknown_at i) b
joined_first (Some h) us i (units ts m) = ap (unknown_at h) (let b : i + (1 + m) ≡ i + 1 + m = omega arith in b)
joined_first (Some h) us i (unknown_at k m) = ap (unknown_at h) (let b : i + (1 + m) ≡ i + 1 + m = omega arith in b)

joined_none : (w : Option ℕ) (us : List ℕ) (i : ℕ) → joined w us i (units [] 0) ≡ told w us i
joined_none None us i = let a : i + 0 ≡ i = omega arith in ap (units (us ++ [])) a ∙ ap (λ (t : List ℕ). units t i) (append-nil us)
joined_none (Some k) us i = let a : i + 0 ≡ i = omega arith in ap (unknown_at k) a

at_drop : (e : List ℕ → Bool) (s : List ℕ) (i d : ℕ) → i < length s → drop i s ≡ get_or s i d ∷ drop (i + 1) s
at_drop e s i d lt = drop-cons s i d lt ∙ ap (λ j. get_or s i d ∷ drop j s) (sym (add-one i))

-- what stands at the ith character, where the run doesn't end
going : (e : List ℕ → Bool) (s : List ℕ) (i c d : ℕ) → i < length s → c ≡ get_or s i d → e (drop i s) ≡ false
    → run e 0 (drop i s) ≡ (if nat_eq c 38 then referred (λ n. run e n (drop (i + 1) s)) (reference (drop (i + 1) s)) else after (encode_utf16 c) 1 (run e 0 (drop (i + 1) s)))
going e s i c d lt is other =
    let f = at_drop e s i d lt ∙ ap (λ x. x ∷ drop (i + 1) s) (sym is) in
    ap (run e 0) f ∙ run_cons e c (drop (i + 1) s) ∙ ap (λ b. if b then units [] 0 else if nat_eq c 38 then referred (λ n. run e n (drop (i + 1) s)) (reference (drop (i + 1) s)) else after (encode_utf16 c) 1 (run e 0 (drop (i + 1) s))) (sym (ap e f) ∙ other)

not_amp : (c : ℕ) → c ≢ 38 → nat_eq c 38 ≡ false
not_amp c h = grind (arith, nat_tests)

is_amp : (c : ℕ) → c ≡ 38 → nat_eq c 38 ≡ true
is_amp c h = grind (arith, nat_tests)

pub loop_start : (x : Run) → joined None [] 0 x ≡ x
loop_start x = after_nothing x

pub loop_stop : (e : List ℕ → Bool) (s us : List ℕ) (w : Option ℕ) (i d : ℕ) (x : Run) → i < length s → e (drop i s) ≡ true → joined w us i (run e 0 (drop i s)) ≡ x → told w us i ≡ x
loop_stop e s us w i d x lt ends h =
    let f = at_drop e s i d lt in
    sym (joined_none w us i) ∙ sym (ap (joined w us i) (ap (run e 0) f ∙ run_cons e (get_or s i d) (drop (i + 1) s)
    ∙ ap (λ b. if b then units [] 0 else if nat_eq (get_or s i d) 38 then referred (λ n. run e n (drop (i + 1) s)) (reference (drop (i + 1) s)) else after (encode_utf16 (get_or s i d)) 1 (run e 0 (drop (i + 1) s))) (sym (ap e f) ∙ ends))) ∙ h

pub loop_end : (e : List ℕ → Bool) (s us : List ℕ) (w : Option ℕ) (i : ℕ) (x : Run) → length s ≤ i → joined w us i (run e 0 (drop i s)) ≡ x → told w us i ≡ x
loop_end e s us w i x le h = sym (joined_none w us i) ∙ sym (ap (joined w us i) (ap (run e 0) (drop_all i s le) ∙ run_nil e)) ∙ h

pub loop_char : (e : List ℕ → Bool) (s us : List ℕ) (w : Option ℕ) (i c d : ℕ) (x : Run) → i < length s → c ≡ get_or s i d → e (drop i s) ≡ false → c ≢ 38
    → joined w us i (run e 0 (drop i s)) ≡ x → joined w (us ++ encode_utf16 c) (i + 1) (run e 0 (drop (i + 1) s)) ≡ x
loop_char e s us w i c d x lt is other ne h =
    sym (joined_after w us (encode_utf16 c) i 1 (i + 1) (run e 0 (drop (i + 1) s)) refl)
    ∙ ap (joined w us i) (sym (going e s i c d lt is other ∙ ap (λ b. if b then referred (λ n. run e n (drop (i + 1) s)) (reference (drop (i + 1) s)) else after (encode_utf16 c) 1 (run e 0 (drop (i + 1) s))) (not_amp c ne))) ∙ h

at_amp : (e : List ℕ → Bool) (s : List ℕ) (i c d : ℕ) (r : Reference) → i < length s → c ≡ get_or s i d → e (drop i s) ≡ false → c ≡ 38 → reference (drop (i + 1) s) ≡ r
    → run e 0 (drop i s) ≡ referred (λ n. run e n (drop (i + 1) s)) r
at_amp e s i c d r lt is other am f =
    going e s i c d lt is other ∙ ap (λ b. if b then referred (λ n. run e n (drop (i + 1) s)) (reference (drop (i + 1) s)) else after (encode_utf16 c) 1 (run e 0 (drop (i + 1) s))) (is_amp c am)
    ∙ ap (referred (λ n. run e n (drop (i + 1) s))) f

pub loop_reference : (e : List ℕ → Bool) (s us : List ℕ) (w : Option ℕ) (i c d a n : ℕ) (x : Run) → i < length s → c ≡ get_or s i d → e (drop i s) ≡ false → c ≡ 38
    → reference (drop (i + 1) s) ≡ stands_for a n → n ≤ length (drop (i + 1) s) → joined w us i (run e 0 (drop i s)) ≡ x
    → joined w (us ++ encode_utf16 a) (i + 1 + n) (run e 0 (drop (i + 1 + n) s)) ≡ x
loop_reference e s us w i c d a n x lt is other am f le h =
    let g : drop n (drop (i + 1) s) ≡ drop (i + 1 + n) s = drop-drop n (i + 1) s in
    let p : i + 1 + n ≡ i + (1 + n) = omega arith in
    sym (joined_after w us (encode_utf16 a) i (1 + n) (i + 1 + n) (run e 0 (drop (i + 1 + n) s)) p
    ∙ refl) ∙ ap (joined w us i) (split (encode_utf16 a) n (run e 0 (drop (i + 1 + n) s)) ∙ ap (λ (t : List ℕ). after (encode_utf16 a) 1 (after [] n (run e 0 t))) (sym g) ∙ ap (after (encode_utf16 a) 1) (sym (run_pass e n (drop (i + 1) s) le))
    ∙ sym (at_amp e s i c d (stands_for a n) lt is other am f)) ∙ h
  where
    split : (us : List ℕ) (n : ℕ) (x : Run) → after us (1 + n) x ≡ after us 1 (after [] n x)
    split us n (units ts m) = ap (units (us ++ ts)) (let z : 1 + n + m ≡ 1 + (n + m) = omega arith in z)
    split us n (unknown_at k m) =
        let a : 1 + n + k ≡ 1 + (n + k) = omega arith in
        let b : 1 + n + m ≡ 1 + (n + m) = omega arith in
        ap (λ j. unknown_at j (1 + n + m)) a ∙ ap (unknown_at (1 + (n + k))) b

pub loop_unknown : (e : List ℕ → Bool) (s us : List ℕ) (w : Option ℕ) (i c d : ℕ) (x : Run) → i < length s → c ≡ get_or s i d → e (drop i s) ≡ false → c ≡ 38
    → reference (drop (i + 1) s) ≡ unknown → joined w us i (run e 0 (drop i s)) ≡ x → joined (first_of w i) us (i + 1) (run e 0 (drop (i + 1) s)) ≡ x
loop_unknown e s us w i c d x lt is other am f h = sym (joined_first w us i (run e 0 (drop (i + 1) s))) ∙ ap (joined w us i) (sym (at_amp e s i c d unknown lt is other am f)) ∙ h

pub loop_absent : (e : List ℕ → Bool) (s us : List ℕ) (w : Option ℕ) (i c d : ℕ) (x : Run) → i < length s → c ≡ get_or s i d → e (drop i s) ≡ false → c ≡ 38
    → reference (drop (i + 1) s) ≡ absent → joined w us i (run e 0 (drop i s)) ≡ x → joined w (us ++ encode_utf16 c) (i + 1) (run e 0 (drop (i + 1) s)) ≡ x
loop_absent e s us w i c d x lt is other am f h =
    ap (λ (t : List ℕ). joined w (us ++ t) (i + 1) (run e 0 (drop (i + 1) s))) (ap encode_utf16 am)
    ∙ sym (joined_after w us (38 ∷ []) i 1 (i + 1) (run e 0 (drop (i + 1) s)) refl) ∙ ap (joined w us i) (sym (at_amp e s i c d absent lt is other am f)) ∙ h
