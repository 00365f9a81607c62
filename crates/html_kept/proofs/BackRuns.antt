-- Reading back: what is printed of characters is a run of their units.
use Rattle.std.proofs.Common.{◌≡◌, ℕ, suc, ◌+◌, ◌≤◌, ◌&&◌, Bool, true, false, List, [], ◌∷◌, ◌++◌, refl, sym, ap, ◌∙◌, arith, nat_eq, length, drop, codes, append_assoc}
use Rattle.std.specs.Prelude.{if◌then◌else◌}
use Rattle.std.specs.List.{flat_map}
use Rattle.std.specs.Char.Escape.{encode_utf16}
use Rattle.std.proofs.lemmas.Bool.Decides.{nat_tests}
use Rattle.std.proofs.lemmas.List.{length-append}
use Rattle.caja_units.specs.Utf8.{units_of_chars}
use Rattle.html_grammar.specs.Characters.{begins, begins_markup, is_mark}
use Rattle.html_grammar.specs.Tables.{found}
use Rattle.html_grammar.specs.References.{stands_for, reference}
use Rattle.html_grammar.specs.Runs.{Run, units, unknown_at, after, referred, run}
use Rattle.html_kept.specs.Printed.{shown}
use Rattle.html_grammar.proofs.Runs.{run_cons, run_pass}

-- a run doesn't end before this character
abbrev pub Quiet : (List ℕ → Bool) → ℕ → Type 0
Quiet e c = (s : List ℕ) → e (c ∷ s) ≡ false

-- what f prints of a character is read back
abbrev pub Shows : (List ℕ → Bool) → (ℕ → List ℕ) → ℕ → Type 0
Shows e f c = (r : List ℕ) → run e 0 (f c ++ r) ≡ after (encode_utf16 c) (length (f c)) (run e 0 r)

after_after : (us vs : List ℕ) (n m : ℕ) (x : Run) → after us n (after vs m x) ≡ after (us ++ vs) (n + m) x
after_after us vs n m (units ts k) = ap (λ (t : List ℕ). units t (n + (m + k))) (sym (append_assoc us vs ts)) ∙ ap (units ((us ++ vs) ++ ts)) (let z : n + (m + k) ≡ n + m + k = omega arith in z)
after_after us vs n m (unknown_at j k) =
    let a : n + (m + j) ≡ n + m + j = omega arith in
    let b : n + (m + k) ≡ n + m + k = omega arith in
    ap (λ i. unknown_at i (n + (m + k))) a ∙ ap (unknown_at (n + m + j)) b

pub plain : (e : List ℕ → Bool) (c : ℕ) → Quiet e c → nat_eq c 38 ≡ false → (r : List ℕ) → run e 0 (c ∷ r) ≡ after (encode_utf16 c) 1 (run e 0 r)
plain e c q h r =
    run_cons e c r ∙ ap (λ b. if b then units [] 0 else if nat_eq c 38 then referred (λ n. run e n r) (reference r) else after (encode_utf16 c) 1 (run e 0 r)) (q r)
    ∙ ap (λ b. if b then referred (λ n. run e n r) (reference r) else after (encode_utf16 c) 1 (run e 0 r)) h

-- a character by its name
split : (us : List ℕ) (n : ℕ) (x : Run) → after us 1 (after [] n x) ≡ after us (suc n) x
split us n (units ts m) = ap (units (us ++ ts)) (let z : 1 + (n + m) ≡ suc n + m = omega arith in z)
split us n (unknown_at k m) =
    let a : 1 + (n + k) ≡ suc n + k = omega arith in
    let b : 1 + (n + m) ≡ suc n + m = omega arith in
    ap (λ j. unknown_at j (1 + (n + m))) a ∙ ap (unknown_at (suc n + k)) b

pub by_name : (e : List ℕ → Bool) → Quiet e 38 → (c n : ℕ) (s r : List ℕ) → reference s ≡ stands_for c n → n ≤ length s → drop n s ≡ r → run e 0 (38 ∷ s) ≡ after (encode_utf16 c) (suc n) (run e 0 r)
by_name e q c n s r h le d =
    run_cons e 38 s ∙ ap (λ b. if b then units [] 0 else referred (λ n. run e n s) (reference s)) (q s) ∙ ap (referred (λ n. run e n s)) h
    ∙ ap (after (encode_utf16 c) 1) (run_pass e n s le ∙ ap (λ (t : List ℕ). after [] n (run e 0 t)) d) ∙ split (encode_utf16 c) n (run e 0 r)

amp : (r : List ℕ) → reference (97 ∷ 109 ∷ 112 ∷ 59 ∷ r) ≡ stands_for 38 4
unfolding reference found
amp r = refl

lt : (r : List ℕ) → reference (108 ∷ 116 ∷ 59 ∷ r) ≡ stands_for 60 3
unfolding reference found
lt r = refl

gt : (r : List ℕ) → reference (103 ∷ 116 ∷ 59 ∷ r) ≡ stands_for 62 3
unfolding reference found
gt r = refl

pub quot : (r : List ℕ) → reference (113 ∷ 117 ∷ 111 ∷ 116 ∷ 59 ∷ r) ≡ stands_for 34 5
unfolding reference found
quot r = refl

pub is_it : (c d : ℕ) → nat_eq c d ≡ true → d ≡ c
is_it c d h = grind (arith, nat_tests)

-- of a text: where no run ends before a `&`, nor before a character that stands for itself
pub shows : (e : List ℕ → Bool) → Quiet e 38 → (c : ℕ) → (nat_eq c 60 ≡ false → Quiet e c) → Shows e shown c
shows e q c p = by_amp (nat_eq c 38) refl
  where
    by_gt : (b d : Bool) → nat_eq c 38 ≡ false → nat_eq c 60 ≡ false → nat_eq c 62 ≡ b → (r : List ℕ) → run e 0 ((if b then codes "&gt;" else c ∷ []) ++ r) ≡ after (encode_utf16 c) (length (if b then codes "&gt;" else c ∷ [])) (run e 0 r)
    by_gt true d h i j = λ r. by_name e q 62 3 (103 ∷ 116 ∷ 59 ∷ r) r (gt r) (omega arith) refl ∙ ap (λ x. after (encode_utf16 x) 4 (run e 0 r)) (is_it c 62 j)
    by_gt false d h i j = λ r. plain e c (p i) h r

    by_lt : (b : Bool) → nat_eq c 38 ≡ false → nat_eq c 60 ≡ b → (r : List ℕ) → run e 0 ((if b then codes "&lt;" else if nat_eq c 62 then codes "&gt;" else c ∷ []) ++ r) ≡ after (encode_utf16 c) (length (if b then codes "&lt;" else if nat_eq c 62 then codes "&gt;" else c ∷ [])) (run e 0 r)
    by_lt true h i = λ r. by_name e q 60 3 (108 ∷ 116 ∷ 59 ∷ r) r (lt r) (omega arith) refl ∙ ap (λ x. after (encode_utf16 x) 4 (run e 0 r)) (is_it c 60 i)
    by_lt false h i = by_gt (nat_eq c 62) true h i refl

    by_amp : (b : Bool) → nat_eq c 38 ≡ b → (r : List ℕ) → run e 0 ((if b then codes "&amp;" else if nat_eq c 60 then codes "&lt;" else if nat_eq c 62 then codes "&gt;" else c ∷ []) ++ r) ≡ after (encode_utf16 c) (length (if b then codes "&amp;" else if nat_eq c 60 then codes "&lt;" else if nat_eq c 62 then codes "&gt;" else c ∷ [])) (run e 0 r)
    by_amp true h = λ r. by_name e q 38 4 (97 ∷ 109 ∷ 112 ∷ 59 ∷ r) r (amp r) (omega arith) refl ∙ ap (λ x. after (encode_utf16 x) 5 (run e 0 r)) (is_it c 38 h)
    by_amp false h = by_lt (nat_eq c 60) h refl

-- all of some characters
pub back_run : (e : List ℕ → Bool) (f : ℕ → List ℕ) (cs r : List ℕ) → ((c : ℕ) → Shows e f c) → run e 0 (flat_map f cs ++ r) ≡ after (units_of_chars cs) (length (flat_map f cs)) (run e 0 r)
back_run e f [] r h = none (run e 0 r)
  where
    none : (x : Run) → x ≡ after [] 0 x
    none (units us n) = ap (units us) (let z : n ≡ 0 + n = omega arith in z)
    none (unknown_at k n) = ap (λ j. unknown_at j n) (let z : k ≡ 0 + k = omega arith in z) ∙ ap (unknown_at (0 + k)) (let z : n ≡ 0 + n = omega arith in z)
back_run e f (c ∷ cs) r h =
    ap (run e 0) (append_assoc (f c) (flat_map f cs) r) ∙ h c (flat_map f cs ++ r) ∙ ap (after (encode_utf16 c) (length (f c))) (back_run e f cs r h)
    ∙ after_after (encode_utf16 c) (units_of_chars cs) (length (f c)) (length (flat_map f cs)) (run e 0 r)
    ∙ ap (λ n. after (encode_utf16 c ++ units_of_chars cs) n (run e 0 r)) (sym (length-append (f c) (flat_map f cs)))

not_markup : (c : ℕ) → nat_eq c 60 ≡ false → Quiet begins_markup c
not_markup c h s = ap (λ b. b && begins is_mark s) h

-- a printed text is read back up to markup or the end
pub back_text : (cs r : List ℕ) → run begins_markup 0 (flat_map shown cs ++ r) ≡ after (units_of_chars cs) (length (flat_map shown cs)) (run begins_markup 0 r)
back_text cs r = back_run begins_markup shown cs r (λ c. shows begins_markup (λ s. refl) c (not_markup c))
