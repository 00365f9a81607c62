-- Texts (ES3 7.8.4): where a quote stands, what is read up to the closing one is the token, or the first fault is the refusal.
use Rattle.std.proofs.Common.{◌≡◌, ℕ, zero, suc, ◌+◌, ◌≤◌, ◌<◌, ◌&&◌, ◌||◌, ◌≢◌, Bool, true, false, List, [], ◌∷◌, ◌++◌, Some, None, refl, sym, ap, ◌∙◌, arith, nat_eq, nat_le, length, take, drop, append_assoc}
use Rattle.std.specs.List.{list_all}
use Rattle.std.specs.Str.Parse.{digits_value}
use Rattle.std.specs.Prelude.{if◌then◌else◌}
use Rattle.std.specs.Char.Escape.{encode_utf16}
use Rattle.std.proofs.lemmas.List.{length-take, length-take-le}
use Rattle.es3_tokens.proofs.Classes.{no_digit_no_zero, no_place, quote_other, quote_solid}
use Rattle.es3_tokens.proofs.Gaps.{at_solid}
use Rattle.es3_tokens.proofs.Longest.{begins_take, longest_is, or_else_none}
use Rattle.es3_tokens.proofs.Tests.{and_parts, eq_test, le_of, le_test, ne_test}
use Rattle.es3_tokens.specs.Characters.{begins, is_digit, is_hex, is_line, is_quote}
use Rattle.es3_tokens.specs.Cut.{Step, point, refusal_step, token_step}
use Rattle.es3_tokens.specs.Longest.{longest}
use Rattle.es3_tokens.specs.Refusals.{refusal_at, text_fault}
use Rattle.es3_tokens.specs.Steps.{text_step}
use Rattle.es3_tokens.specs.Texts.{Reading, after, body, broken, by_digits, closed, escape, escaped, unclosed, units_of}
use Rattle.es3_tokens.specs.Tokens.{made, whole_token}
use Rattle.es3_tree.specs.Token.{puncts, text}

-- what is closed in x is the same in y
abbrev pub Keeps : List ℕ → ℕ → Reading → Reading → Type 0
Keeps us k x y = x ≡ closed us k → y ≡ closed us k

keeps_if : (us : List ℕ) (k : ℕ) (b : Bool) (x y v w : Reading) → Keeps us k x y → Keeps us k v w → Keeps us k (if b then x else v) (if b then y else w)
keeps_if us k true x y v w f g = f
keeps_if us k false x y v w f g = g

same_read : (us : List ℕ) (k : ℕ) (x : Reading) → Keeps us k x x
same_read us k x e = e

closed_size : (us vs : List ℕ) (k n : ℕ) → closed us k ≡ closed vs n → k ≡ n
closed_size us vs k n e = cc

closed_units : (us vs : List ℕ) (k n : ℕ) → closed us k ≡ closed vs n → us ≡ vs
closed_units us vs k n e = cc

-- what stands behind a backslash is a matter of the characters that it takes and one more
take_front : (n j : ℕ) (s : List ℕ) → n ≤ j → take n (take j s) ≡ take n s
take_front zero j s le = refl
take_front (suc n) zero s le = absurd (omega arith)
take_front (suc n) (suc j) [] le = refl
take_front (suc n) (suc j) (c ∷ s) le = ap (λ (w : List ℕ). c ∷ w) (take_front n j s (omega arith))

digits_take : (us : List ℕ) (k n : ℕ) (s : List ℕ) (j : ℕ) → k < suc j → Keeps us k (by_digits n s) (by_digits n (take j s))
digits_take us k n s j lt e = by_test us k n s j lt (nat_le n (length s) && list_all is_hex (take n s)) refl e
  where
    by_test : (us : List ℕ) (k n : ℕ) (s : List ℕ) (j : ℕ) → k < suc j → (b : Bool) → (nat_le n (length s) && list_all is_hex (take n s)) ≡ b → by_digits n s ≡ closed us k → by_digits n (take j s) ≡ closed us k
    by_test us k n s j lt false h e = absurd (let q = ap (λ b. if b then closed (digits_value 16 (take n s) ∷ []) (n + 1) else broken) (sym h) ∙ e in cc q)
    by_test us k n s j lt true h e =
        let q : n + 1 ≡ k = closed_size (digits_value 16 (take n s) ∷ []) us (n + 1) k (ap (λ b. if b then closed (digits_value 16 (take n s) ∷ []) (n + 1) else broken) (sym h) ∙ e) in
        let p = and_parts (nat_le n (length s)) (list_all is_hex (take n s)) h in
        let l : nat_le n (length (take j s)) ≡ true = le_test n (length (take j s)) (omega (arith, length-take j s, le_of n (length s) p.0)) in
        ap (λ (w : List ℕ). if nat_le n (length (take j s)) && list_all is_hex w then closed (digits_value 16 w ∷ []) (n + 1) else broken) (take_front n j s (omega arith))
        ∙ ap (λ b. if b && list_all is_hex (take n s) then closed (digits_value 16 (take n s) ∷ []) (n + 1) else broken) (l ∙ sym p.0) ∙ e

abbrev zero_escape : Bool → Reading
zero_escape b = if b then broken else closed (0 ∷ []) 1

zero_take : (us : List ℕ) (k : ℕ) (s : List ℕ) (j : ℕ) → k < suc j → Keeps us k (zero_escape (begins is_digit s)) (zero_escape (begins is_digit (take j s)))
zero_take us k s (suc j) lt e = ap zero_escape (begins_take is_digit s j) ∙ e
zero_take us k s zero lt e = absurd (by_test (begins is_digit s) us k e (omega arith))
  where
    by_test : (b : Bool) (us : List ℕ) (k : ℕ) → zero_escape b ≡ closed us k → k ≡ 0 → ⊥
    by_test true us k e z = absurd cc
    by_test false us k e z = absurd (let q = closed_size (0 ∷ []) us 1 k e in omega arith)

pub escape_take : (us : List ℕ) (k : ℕ) (s : List ℕ) (j : ℕ) → k < j → Keeps us k (escape s) (escape (take j s))
escape_take us k s zero lt = absurd (omega arith)
escape_take us k [] (suc j) lt = λ e. e
escape_take us k (c ∷ s) (suc j) lt =
    keeps_if us k (nat_eq c 98) _ _ _ _ (same_read us k (closed (8 ∷ []) 1))
    (keeps_if us k (nat_eq c 116) _ _ _ _ (same_read us k (closed (9 ∷ []) 1))
    (keeps_if us k (nat_eq c 110) _ _ _ _ (same_read us k (closed (10 ∷ []) 1))
    (keeps_if us k (nat_eq c 118) _ _ _ _ (same_read us k (closed (11 ∷ []) 1))
    (keeps_if us k (nat_eq c 102) _ _ _ _ (same_read us k (closed (12 ∷ []) 1))
    (keeps_if us k (nat_eq c 114) _ _ _ _ (same_read us k (closed (13 ∷ []) 1))
    (keeps_if us k (nat_eq c 120) _ _ _ _ (digits_take us k 2 s j lt)
    (keeps_if us k (nat_eq c 117) _ _ _ _ (digits_take us k 4 s j lt)
    (keeps_if us k (nat_eq c 48) _ _ _ _ (zero_take us k s j lt)
    (same_read us k (if is_digit c || is_line c then broken else closed (encode_utf16 c) 1))))))))))

-- one step of a text
abbrev pub chosen : ℕ → ℕ → Reading → Reading → Reading
chosen q c e r = if nat_eq c q then closed [] 1 else if is_line c then unclosed else if nat_eq c 92 then e else r

pub body_cons : (q c : ℕ) (s : List ℕ) → body q 0 (c ∷ s) ≡ chosen q c (escaped (λ n. body q n s) (escape s)) (after (encode_utf16 c) 1 (body q 0 s))
unfolding body
body_cons q c s = refl

pub body_skip : (q n c : ℕ) (s : List ℕ) → body q (suc n) (c ∷ s) ≡ after [] 1 (body q n s)
unfolding body
body_skip q n c s = refl

pub body_nil : (q n : ℕ) → body q n [] ≡ unclosed
unfolding body
body_nil q n = refl

-- what follows
record Rest (us : List ℕ) (n : ℕ) (r : Reading) (vs : List ℕ) (m : ℕ) : Type 0 where
  units : List ℕ
  size : ℕ
  is : r ≡ closed units size
  all : us ++ units ≡ vs
  sum : n + size ≡ m

rest_of : (us : List ℕ) (n : ℕ) (r : Reading) (vs : List ℕ) (m : ℕ) → after us n r ≡ closed vs m → Rest us n r vs m
rest_of us n (closed ws k) vs m e = record { units = ws; size = k; is = refl; all = closed_units (us ++ ws) vs (n + k) m e; sum = closed_size (us ++ ws) vs (n + k) m e }
rest_of us n unclosed vs m e = absurd cc
rest_of us n broken vs m e = absurd cc

-- a text that is closed has more characters than were to be passed, and no more than there are
abbrev pub Bounds : ℕ → ℕ → Reading → Type 0
Bounds n l (closed us m) = (n < m) × (m ≤ l)
Bounds n l unclosed = Unit {0}
Bounds n l broken = Unit {0}

bounds_if : (n l : ℕ) (b : Bool) (x y : Reading) → Bounds n l x → Bounds n l y → Bounds n l (if b then x else y)
bounds_if n l true x y f g = f
bounds_if n l false x y f g = g

bounds_after : (n m l : ℕ) (us : List ℕ) (r : Reading) → Bounds n l r → m ≤ n → Bounds m (suc l) (after us 1 r)
bounds_after n m l us (closed vs k) h le = (omega (arith, h.0), omega (arith, h.1))
bounds_after n m l us unclosed h le = tt
bounds_after n m l us broken h le = tt

bounds_more : (n l : ℕ) (us : List ℕ) (r : Reading) → Bounds n l r → Bounds (suc n) (suc l) (after us 1 r)
bounds_more n l us (closed vs k) h = (omega (arith, h.0), omega (arith, h.1))
bounds_more n l us unclosed h = tt
bounds_more n l us broken h = tt

bounds_escaped : (l : ℕ) (f : ℕ → Reading) (r : Reading) → ((n : ℕ) → Bounds n l (f n)) → Bounds 0 (suc l) (escaped f r)
bounds_escaped l f (closed us n) h = bounds_after n 0 l us (f n) (h n) (omega arith)
bounds_escaped l f unclosed h = tt
bounds_escaped l f broken h = tt

pub body_bounds : (q n : ℕ) (s : List ℕ) → Bounds n (length s) (body q n s)
unfolding body
body_bounds q n [] = tt
body_bounds q (suc n) (c ∷ s) = bounds_more n (length s) [] (body q n s) (body_bounds q n s)
body_bounds q zero (c ∷ s) =
    bounds_if 0 (suc (length s)) (nat_eq c q) (closed [] 1) _ (omega arith, omega arith)
    (bounds_if 0 (suc (length s)) (is_line c) unclosed _ tt
    (bounds_if 0 (suc (length s)) (nat_eq c 92) _ _ (bounds_escaped (length s) (λ n. body q n s) (escape s) (λ n. body_bounds q n s))
    (bounds_after 0 0 (length s) (encode_utf16 c) (body q 0 s) (body_bounds q 0 s) (omega arith))))

bounds_of : (n l : ℕ) (r : Reading) (us : List ℕ) (m : ℕ) → r ≡ closed us m → Bounds n l r → (n < m) × (m ≤ l)
bounds_of n l (closed vs k) us m e h = let q : k ≡ m = closed_size vs us k m e in (omega (arith, h.0), omega (arith, h.1))
bounds_of n l unclosed us m e h = absurd cc
bounds_of n l broken us m e h = absurd cc

keeps_after : (us : List ℕ) (r t : Reading) (vs : List ℕ) (m j : ℕ) → ((ws : List ℕ) (k : ℕ) → k ≤ j → Keeps ws k r t) → m ≤ suc j → Keeps vs m (after us 1 r) (after us 1 t)
keeps_after us r t vs m j f le e =
    let p = rest_of us 1 r vs m e in
    let l : p.size ≤ j = omega (arith, p.sum) in
    ap (after us 1) (f p.units p.size l p.is ∙ sym p.is) ∙ e

keeps_escaped : (f g : ℕ → Reading) (s : List ℕ) (l : ℕ) (vs : List ℕ) (m j : ℕ) → ((n : ℕ) → Bounds n l (f n)) → ((n : ℕ) (ws : List ℕ) (k : ℕ) → k ≤ j → Keeps ws k (f n) (g n)) → m ≤ suc j → Keeps vs m (escaped f (escape s)) (escaped g (escape (take j s)))
keeps_escaped f g s l vs m j b h le e = by_escape f g s l vs m j b h le (escape s) refl e
  where
    by_escape : (f g : ℕ → Reading) (s : List ℕ) (l : ℕ) (vs : List ℕ) (m j : ℕ) → ((n : ℕ) → Bounds n l (f n)) → ((n : ℕ) (ws : List ℕ) (k : ℕ) → k ≤ j → Keeps ws k (f n) (g n)) → m ≤ suc j → (x : Reading) → escape s ≡ x → escaped f (escape s) ≡ closed vs m → escaped g (escape (take j s)) ≡ closed vs m
    by_escape f g s l vs m j b h le (closed us n) i e =
        let a : after us 1 (f n) ≡ closed vs m = ap (escaped f) (sym i) ∙ e in
        let p = rest_of us 1 (f n) vs m a in
        let q = bounds_of n l (f n) p.units p.size p.is (b n) in
        let lt : n < j = omega (arith, p.sum, q.0) in
        ap (escaped g) (escape_take us n s j lt i) ∙ keeps_after us (f n) (g n) vs m j (h n) le a
    by_escape f g s l vs m j b h le unclosed i e = absurd (let q = ap (escaped f) (sym i) ∙ e in cc q)
    by_escape f g s l vs m j b h le broken i e = absurd (let q = ap (escaped f) (sym i) ∙ e in cc q)

-- a text that is closed is so within its own characters
pub body_take : (q n : ℕ) (s : List ℕ) (j : ℕ) (us : List ℕ) (m : ℕ) → m ≤ j → Keeps us m (body q n s) (body q n (take j s))
body_take q n s zero us m le = λ e. absurd (let p = bounds_of n (length s) (body q n s) us m e (body_bounds q n s) in omega (arith, p.0))
body_take q n [] (suc j) us m le = λ e. e
body_take q (suc n) (c ∷ s) (suc j) us m le = λ e. body_skip q n c (take j s) ∙ keeps_after [] (body q n s) (body q n (take j s)) us m j (λ ws k l. body_take q n s j ws k l) le (sym (body_skip q n c s) ∙ e)
body_take q zero (c ∷ s) (suc j) us m le = λ e.
    body_cons q c (take j s)
    ∙ keeps_if us m (nat_eq c q) _ _ _ _ (same_read us m (closed [] 1))
    (keeps_if us m (is_line c) _ _ _ _ (same_read us m unclosed)
    (keeps_if us m (nat_eq c 92) _ _ _ _ (keeps_escaped (λ n. body q n s) (λ n. body q n (take j s)) s (length s) us m j (λ n. body_bounds q n s) (λ n ws k l. body_take q n s j ws k l) le)
    (keeps_after (encode_utf16 c) (body q 0 s) (body q 0 (take j s)) us m j (λ ws k l. body_take q 0 s j ws k l) le)))
    (sym (body_cons q c s) ∙ e)

text_token : (q : ℕ) (w : List ℕ) → is_quote q ≡ true → whole_token (q ∷ w) ≡ made text (units_of (length w) (body q 0 w))
text_token q w h =
    let p = quote_other q h in
    rw (p.1) (rw (no_digit_no_zero q p.2, p.2, h) (rw (no_place is_quote 0 q w puncts h refl) (or_else_none (made text (units_of (length w) (body q 0 w))))))

longest_text : (q : ℕ) (s us : List ℕ) (n : ℕ) → is_quote q ≡ true → body q 0 s ≡ closed us n → longest whole_token (length (q ∷ s)) (q ∷ s) ≡ Some (text us, suc n)
longest_text q s us n h e =
    let b = bounds_of 0 (length s) (body q 0 s) us n e (body_bounds q 0 s) in
    longest_is whole_token q s n (length (q ∷ s)) (text us) (omega (arith, b.1))
    (text_token q (take n s) h ∙ ap (λ r. made text (units_of (length (take n s)) r)) (body_take q 0 s n us n (omega arith) e) ∙ ap (λ k. made text (if nat_eq k n then Some us else None)) (length-take-le n s b.1) ∙ ap (λ b. made text (if b then Some us else None)) (eq_test n))
    (λ j lt le. text_token q (take j s) h ∙ ap (λ r. made text (units_of (length (take j s)) r)) (body_take q 0 s j us n (omega arith) e) ∙ ap (λ k. made text (if nat_eq k n then Some us else None)) (length-take-le j s (omega arith)) ∙ ap (λ b. made text (if b then Some us else None)) (ne_test j n (λ e. omega (arith, e))))

pub point_text : (o : Bool) (q : ℕ) (s : List ℕ) → is_quote q ≡ true → point o (q ∷ s) ≡ text_step (body q 0 s)
point_text o q s h = at_solid o q s (quote_solid q h) ∙ by_body o q s h (body q 0 s) refl
  where
    text_row : (o : Bool) (q : ℕ) (s : List ℕ) (r : Reading) → is_quote q ≡ true → body q 0 s ≡ r → (x : Step) → refusal_step (refusal_at o (q ∷ s)) x ≡ refusal_step (text_fault r) x
    text_row o q s r h e x = let p = quote_other q h in rw (p.0, h, e) refl

    by_body : (o : Bool) (q : ℕ) (s : List ℕ) → is_quote q ≡ true → (r : Reading) → body q 0 s ≡ r → refusal_step (refusal_at o (q ∷ s)) (token_step (longest whole_token (length (q ∷ s)) (q ∷ s))) ≡ text_step (body q 0 s)
    by_body o q s h (closed us n) e = text_row o q s (closed us n) h e (token_step (longest whole_token (length (q ∷ s)) (q ∷ s))) ∙ ap token_step (longest_text q s us n h e) ∙ ap text_step (sym e)
    by_body o q s h unclosed e = text_row o q s unclosed h e (token_step (longest whole_token (length (q ∷ s)) (q ∷ s))) ∙ ap text_step (sym e)
    by_body o q s h broken e = text_row o q s broken h e (token_step (longest whole_token (length (q ∷ s)) (q ∷ s))) ∙ ap text_step (sym e)

pub after_after : (us vs : List ℕ) (n m : ℕ) (r : Reading) → after us n (after vs m r) ≡ after (us ++ vs) (n + m) r
after_after us vs n m (closed ws k) = let e : n + (m + k) ≡ n + m + k = omega arith in rw (append_assoc us vs ws, e) refl
after_after us vs n m unclosed = refl
after_after us vs n m broken = refl

pub body_pass : (q n : ℕ) (s : List ℕ) → body q n s ≡ after [] n (body q 0 (drop n s))
body_pass q zero s = none (body q 0 s)
  where
    none : (r : Reading) → r ≡ after [] 0 r
    none (closed us n) = let e : 0 + n ≡ n = omega arith in rw e refl
    none unclosed = refl
    none broken = refl
body_pass q (suc n) [] = body_nil q (suc n) ∙ ap (after [] (suc n)) (sym (body_nil q 0))
body_pass q (suc n) (c ∷ s) = body_skip q n c s ∙ ap (after [] 1) (body_pass q n s) ∙ after_after [] [] 1 n (body q 0 (drop n s)) ∙ ap (λ k. after [] k (body q 0 (drop n s))) (let e : 1 + n ≡ suc n = omega arith in e)

pub at_char : (q c : ℕ) (t : List ℕ) (x : Reading) → c ≢ q → is_line c ≡ false → (if nat_eq c 92 then escaped (λ n. body q n t) (escape t) else after (encode_utf16 c) 1 (body q 0 t)) ≡ x → body q 0 (c ∷ t) ≡ x
at_char q c t x h g e = body_cons q c t ∙ ap (λ b. if b then closed [] 1 else if is_line c then unclosed else if nat_eq c 92 then escaped (λ n. body q n t) (escape t) else after (encode_utf16 c) 1 (body q 0 t)) (ne_test c q h)
    ∙ ap (λ b. if b then unclosed else if nat_eq c 92 then escaped (λ n. body q n t) (escape t) else after (encode_utf16 c) 1 (body q 0 t)) g ∙ e
