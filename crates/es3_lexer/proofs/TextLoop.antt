-- The loop over a text in quotes: what was read so far, and what is read of the rest.
use Rattle.std.proofs.Common.{◌≡◌, ℕ, suc, ◌+◌, ◌≤◌, ◌<◌, ◌≢◌, true, false, List, [], ◌∷◌, ◌++◌, sym, ap, ◌∙◌, arith, nat_eq, length, drop, append-nil, drop-drop, get_or, add-one}
use Rattle.std.specs.Prelude.{if◌then◌else◌}
use Rattle.std.specs.Char.Escape.{encode_utf16}
use Rattle.std.proofs.Math.Seq.{drop-cons}
use Rattle.std.proofs.lemmas.Bool.Decides.{nat_tests}
use Rattle.std.proofs.lemmas.List.{drop_all}
use Rattle.es3_tokens.proofs.Tests.{ne_test}
use Rattle.es3_tokens.proofs.Texts.{after_after, at_char, body_cons, body_nil, body_pass}
use Rattle.es3_tokens.specs.Characters.{is_line}
use Rattle.es3_tokens.specs.Cut.{accept, refuse}
use Rattle.es3_tokens.specs.Refusals.{open_string}
use Rattle.es3_tokens.specs.Steps.{text_step}
use Rattle.es3_tokens.specs.Texts.{Reading, after, body, closed, escape, escaped, unclosed}
use Rattle.es3_tree.specs.Token.{text}

at_drop : (q : ℕ) (s : List ℕ) (i d : ℕ) → i < length s → body q 0 (drop i s) ≡ body q 0 (get_or s i d ∷ drop (i + 1) s)
at_drop q s i d lt = ap (body q 0) (drop-cons s i d lt ∙ ap (λ j. get_or s i d ∷ drop j s) (sym (add-one i)))

pub text_start : (q : ℕ) (s : List ℕ) → after [] 0 (body q 0 s) ≡ body q 0 s
text_start q s = sym (body_pass q 0 s)

pub text_char : (q : ℕ) (s us : List ℕ) (i c d : ℕ) (x : Reading) → i < length s → c ≡ get_or s i d → c ≢ q → is_line c ≡ false → c ≢ 92 → after us i (body q 0 (drop i s)) ≡ x → after (us ++ encode_utf16 c) (i + 1) (body q 0 (drop (i + 1) s)) ≡ x
text_char q s us i c d x lt is h g n e =
    sym (after_after us (encode_utf16 c) i 1 (body q 0 (drop (i + 1) s)))
    ∙ ap (after us i) (sym (at_char q c (drop (i + 1) s) _ h g (ap (λ b. if b then escaped (λ n. body q n (drop (i + 1) s)) (escape (drop (i + 1) s)) else after (encode_utf16 c) 1 (body q 0 (drop (i + 1) s))) (ne_test c 92 n))))
    ∙ ap (λ k. after us i (body q 0 (k ∷ drop (i + 1) s))) is ∙ ap (after us i) (sym (at_drop q s i d lt)) ∙ e

pub text_escape : (q : ℕ) (s us vs : List ℕ) (i n c d : ℕ) (x r : Reading) → i < length s → c ≡ get_or s i d → c ≢ q → is_line c ≡ false → c ≡ 92 → escape (drop (i + 1) s) ≡ r → after us i (body q 0 (drop i s)) ≡ x → after us i (escaped (λ n. body q n (drop (i + 1) s)) r) ≡ x
text_escape q s us vs i n c d x r lt is h g m f e =
    ap (λ r. after us i (escaped (λ n. body q n (drop (i + 1) s)) r)) (sym f)
    ∙ ap (after us i) (sym (at_char q c (drop (i + 1) s) _ h g (ap (λ k. if nat_eq k 92 then escaped (λ n. body q n (drop (i + 1) s)) (escape (drop (i + 1) s)) else after (encode_utf16 k) 1 (body q 0 (drop (i + 1) s))) m)))
    ∙ ap (λ k. after us i (body q 0 (k ∷ drop (i + 1) s))) is ∙ ap (after us i) (sym (at_drop q s i d lt)) ∙ e

pub text_past : (q : ℕ) (s us vs : List ℕ) (i n j : ℕ) (x : Reading) → j ≡ i + 1 + n → after us i (escaped (λ n. body q n (drop (i + 1) s)) (closed vs n)) ≡ x → after (us ++ vs) j (body q 0 (drop j s)) ≡ x
text_past q s us vs i n j x is e =
    let f : i + (1 + n) ≡ j = omega arith in
    let g : i + 1 + n ≡ j = sym is in
    let h : drop n (drop (i + 1) s) ≡ drop j s = drop-drop n (i + 1) s ∙ ap (λ k. drop k s) (let z : i + 1 + n ≡ j = g in z) in
    sym (ap (after us i) (ap (after vs 1) (body_pass q n (drop (i + 1) s)) ∙ after_after vs [] 1 n (body q 0 (drop n (drop (i + 1) s)))) ∙ after_after us (vs ++ []) i (1 + n) (body q 0 (drop n (drop (i + 1) s)))
    ∙ ap (λ (w : List ℕ). after (us ++ w) (i + (1 + n)) (body q 0 (drop n (drop (i + 1) s)))) (append-nil vs)
    ∙ ap (λ k. after (us ++ vs) k (body q 0 (drop n (drop (i + 1) s)))) f ∙ ap (λ (w : List ℕ). after (us ++ vs) j (body q 0 w)) h) ∙ e

pub text_closed : (q : ℕ) (s us : List ℕ) (i c d n : ℕ) (x : Reading) → i < length s → c ≡ get_or s i d → c ≡ q → n ≡ i + 2 → after us i (body q 0 (drop i s)) ≡ x → accept (text us) n ≡ text_step x
text_closed q s us i c d n x lt is h f e =
    let g : nat_eq c q ≡ true = grind (arith, nat_tests) in
    let m : n ≡ suc (i + 1) = omega arith in
    ap (accept (text us)) m ∙ ap (λ (w : List ℕ). accept (text w) (suc (i + 1))) (sym (append-nil us))
    ∙ ap text_step (sym (ap (after us i) (at_drop q s i d lt ∙ ap (λ k. body q 0 (k ∷ drop (i + 1) s)) (sym is) ∙ body_cons q c (drop (i + 1) s) ∙ ap (λ b. if b then closed [] 1 else if is_line c then unclosed else if nat_eq c 92 then escaped (λ n. body q n (drop (i + 1) s)) (escape (drop (i + 1) s)) else after (encode_utf16 c) 1 (body q 0 (drop (i + 1) s))) g)) ∙ e)

pub text_lined : (q : ℕ) (s us : List ℕ) (i c d : ℕ) (x : Reading) → i < length s → c ≡ get_or s i d → c ≢ q → is_line c ≡ true → after us i (body q 0 (drop i s)) ≡ x → refuse open_string ≡ text_step x
text_lined q s us i c d x lt is h g e =
    ap text_step (sym (ap (after us i) (at_drop q s i d lt ∙ ap (λ k. body q 0 (k ∷ drop (i + 1) s)) (sym is) ∙ body_cons q c (drop (i + 1) s)
    ∙ ap (λ b. if b then closed [] 1 else if is_line c then unclosed else if nat_eq c 92 then escaped (λ n. body q n (drop (i + 1) s)) (escape (drop (i + 1) s)) else after (encode_utf16 c) 1 (body q 0 (drop (i + 1) s))) (ne_test c q h)
    ∙ ap (λ b. if b then unclosed else if nat_eq c 92 then escaped (λ n. body q n (drop (i + 1) s)) (escape (drop (i + 1) s)) else after (encode_utf16 c) 1 (body q 0 (drop (i + 1) s))) g)) ∙ e)

pub text_ended : (q : ℕ) (s us : List ℕ) (i : ℕ) (x : Reading) → length s ≤ i → after us i (body q 0 (drop i s)) ≡ x → refuse open_string ≡ text_step x
text_ended q s us i x le e = ap text_step (sym (ap (after us i) (ap (body q 0) (drop_all i s le) ∙ body_nil q 0)) ∙ e)
