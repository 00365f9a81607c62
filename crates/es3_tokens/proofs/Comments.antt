-- Comments (ES3 7.4).
use Rattle.std.proofs.Common.{◌≡◌, ℕ, zero, suc, ◌≤◌, ◌<◌, ◌&&◌, ◌||◌, not, Bool, true, false, List, [], ◌∷◌, Option, Some, None, refl, sym, ap, ◌∙◌, arith, nat_eq, length, take}
use Rattle.std.specs.Prelude.{if◌then◌else◌}
use Rattle.std.specs.List.{list_all, list_any, prefix_len}
use Rattle.std.proofs.lemmas.List.{length-take-le}
use Rattle.es3_tokens.proofs.Longest.{begins_take, longest_is, longest_none, passes, prefix_within, stops}
use Rattle.es3_tokens.proofs.Tests.{and_false, and_parts, eq_test, ne_test}
use Rattle.es3_tokens.specs.Characters.{begins, is_line, is_slash}
use Rattle.es3_tokens.specs.Cut.{gap_step, point, refusal_step, refuse, skip, token_step}
use Rattle.es3_tokens.specs.Gaps.{comment_end, gap, is_count, not_line, one_more}
use Rattle.es3_tokens.specs.Longest.{longest}
use Rattle.es3_tokens.specs.Refusals.{open_comment, refusal_at}
use Rattle.es3_tokens.specs.Tokens.{whole_token}

no_line : (w : List ℕ) → list_all not_line w ≡ true → list_any is_line w ≡ false
no_line [] h = refl
no_line (c ∷ w) h = by_first (is_line c) (list_all not_line w) (list_any is_line w) h (no_line w)
  where
    by_first : (a b x : Bool) → (not a && b) ≡ true → (b ≡ true → x ≡ false) → (a || x) ≡ false
    by_first true b x h f = absurd cc
    by_first false b x h f = f h

line_gap : (w : List ℕ) → (b : Bool) → list_all not_line w ≡ b → gap (47 ∷ 47 ∷ w) ≡ (if b then Some (list_any is_line w) else None)
line_gap w b e = rw e refl

line_past : (r : List ℕ) (j : ℕ) → suc (prefix_len not_line r) < j → j < suc (suc (length r)) → gap (47 ∷ take j (47 ∷ r)) ≡ None
line_past r zero lt le = absurd (omega arith)
line_past r (suc j) lt le = line_gap (take j r) false (stops not_line r j (omega arith) (omega arith))

pub point_line_comment : (o : Bool) (r : List ℕ) → point o (47 ∷ 47 ∷ r) ≡ skip false (suc (suc (prefix_len not_line r)))
unfolding point
point_line_comment o r =
    let k = prefix_within not_line r in
    ap (λ g. gap_step g (refusal_step (refusal_at o (47 ∷ 47 ∷ r)) (token_step (longest whole_token (length (47 ∷ 47 ∷ r)) (47 ∷ 47 ∷ r)))))
    (longest_is gap 47 (47 ∷ r) (suc (prefix_len not_line r)) (length (47 ∷ 47 ∷ r)) false (omega (arith, k))
    (line_gap (take (prefix_len not_line r) r) true (passes not_line r) ∙ ap (λ b. Some b) (no_line (take (prefix_len not_line r) r) (passes not_line r)))
    (λ j lt le. line_past r j lt (omega arith)))

-- the end of a comment
pub end_cons : (c : ℕ) (s : List ℕ) → comment_end (c ∷ s) ≡ (if nat_eq c 42 && begins is_slash s then Some 2 else one_more (comment_end s))
unfolding comment_end
end_cons c s = refl

pub end_nil : comment_end [] ≡ None
unfolding comment_end
end_nil = refl

some_of : (x y : ℕ) → Some x ≡ Some y → x ≡ y
some_of x y e = cc

-- a comment that ends has its two characters, and ends within what there is
pub end_within : (s : List ℕ) (k : ℕ) → comment_end s ≡ Some k → (2 ≤ k) × (k ≤ length s)
end_within [] k e = absurd (let h = end_nil in cc (e, h))
end_within (c ∷ s) k e = by_test c s k (nat_eq c 42 && begins is_slash s) refl (sym (end_cons c s) ∙ e) (end_within s)
  where
    some_length : (s : List ℕ) → begins is_slash s ≡ true → 1 ≤ length s
    some_length [] h = absurd cc
    some_length (d ∷ s) h = omega arith

    by_rest : (s : List ℕ) (k : ℕ) (o : Option ℕ) → comment_end s ≡ o → one_more o ≡ Some k → ((k : ℕ) → comment_end s ≡ Some k → (2 ≤ k) × (k ≤ length s)) → (2 ≤ k) × (k ≤ suc (length s))
    by_rest s k None i e f = absurd cc
    by_rest s k (Some m) i e f = let p = f m i in let q : suc m ≡ k = some_of (suc m) k e in (omega (arith, p.0), omega (arith, p.1))

    by_test : (c : ℕ) (s : List ℕ) (k : ℕ) (b : Bool) → (nat_eq c 42 && begins is_slash s) ≡ b → (if nat_eq c 42 && begins is_slash s then Some 2 else one_more (comment_end s)) ≡ Some k → ((k : ℕ) → comment_end s ≡ Some k → (2 ≤ k) × (k ≤ length s)) → (2 ≤ k) × (k ≤ suc (length s))
    by_test c s k true h e f =
        let q : 2 ≡ k = some_of 2 k (ap (λ b. if b then Some 2 else one_more (comment_end s)) (sym h) ∙ e) in
        let l = some_length s (and_parts (nat_eq c 42) (begins is_slash s) h).1 in
        (omega arith, omega (arith, l))
    by_test c s k false h e f = by_rest s k (comment_end s) refl (ap (λ b. if b then Some 2 else one_more (comment_end s)) (sym h) ∙ e) f

-- the test at the front of a part is the one at the front of the whole
abbrev test : ℕ → List ℕ → Bool
test c s = nat_eq c 42 && begins is_slash s

test_take : (c : ℕ) (s : List ℕ) (j : ℕ) → test c s ≡ false → test c (take j s) ≡ false
test_take c s zero h = and_false (nat_eq c 42) false refl
test_take c s (suc j) h = ap (λ b. nat_eq c 42 && b) (begins_take is_slash s j) ∙ h

pub end_none : (s : List ℕ) (j : ℕ) → comment_end s ≡ None → comment_end (take j s) ≡ None
end_none s zero e = end_nil
end_none [] (suc j) e = end_nil
end_none (c ∷ s) (suc j) e = end_cons c (take j s) ∙ by_test c s j (test c s) refl (sym (end_cons c s) ∙ e) (end_none s j)
  where
    none_of : (o : Option ℕ) → one_more o ≡ None → o ≡ None
    none_of None e = refl
    none_of (Some n) e = absurd cc

    by_test : (c : ℕ) (s : List ℕ) (j : ℕ) (b : Bool) → test c s ≡ b → (if test c s then Some 2 else one_more (comment_end s)) ≡ None → (comment_end s ≡ None → comment_end (take j s) ≡ None) → (if test c (take j s) then Some 2 else one_more (comment_end (take j s))) ≡ None
    by_test c s j true h e f = absurd (let q = ap (λ b. if b then Some 2 else one_more (comment_end s)) (sym h) ∙ e in cc q)
    by_test c s j false h e f =
        let q = ap (λ b. if b then Some 2 else one_more (comment_end s)) (sym h) ∙ e in
        ap (λ b. if b then Some 2 else one_more (comment_end (take j s))) (test_take c s j h) ∙ ap one_more (f (none_of (comment_end s) q))

pub end_take : (s : List ℕ) (k j : ℕ) → comment_end s ≡ Some k → k ≤ j → comment_end (take j s) ≡ Some k
end_take s k zero e le = absurd (let w = end_within s k e in omega (arith, w.0))
end_take [] k (suc j) e le = absurd (let h = end_nil in cc (e, h))
end_take (c ∷ s) k (suc j) e le = end_cons c (take j s) ∙ by_test c s k j (test c s) refl le (sym (end_cons c s) ∙ e) (λ m. end_take s m j)
  where
    by_rest : (s : List ℕ) (k j : ℕ) (o : Option ℕ) → comment_end s ≡ o → one_more o ≡ Some k → k ≤ suc j → ((m : ℕ) → comment_end s ≡ Some m → m ≤ j → comment_end (take j s) ≡ Some m) → one_more (comment_end (take j s)) ≡ Some k
    by_rest s k j None i e le f = absurd cc
    by_rest s k j (Some m) i e le f = let q : suc m ≡ k = some_of (suc m) k e in ap one_more (f m i (omega arith)) ∙ ap (λ n. Some n) q

    by_test : (c : ℕ) (s : List ℕ) (k j : ℕ) (b : Bool) → test c s ≡ b → k ≤ suc j → (if test c s then Some 2 else one_more (comment_end s)) ≡ Some k → ((m : ℕ) → comment_end s ≡ Some m → m ≤ j → comment_end (take j s) ≡ Some m) → (if test c (take j s) then Some 2 else one_more (comment_end (take j s))) ≡ Some k
    by_test c s k zero true h le e f = absurd (let q : 2 ≡ k = some_of 2 k (ap (λ b. if b then Some 2 else one_more (comment_end s)) (sym h) ∙ e) in omega arith)
    by_test c s k (suc j) true h le e f =
        let q = ap (λ b. if b then Some 2 else one_more (comment_end s)) (sym h) ∙ e in
        ap (λ b. if nat_eq c 42 && b then Some 2 else one_more (comment_end (take (suc j) s))) (begins_take is_slash s j)
        ∙ ap (λ b. if b then Some 2 else one_more (comment_end (take (suc j) s))) h ∙ q
    by_test c s k j false h le e f =
        ap (λ b. if b then Some 2 else one_more (comment_end (take j s))) (test_take c s j h)
        ∙ by_rest s k j (comment_end s) refl (ap (λ b. if b then Some 2 else one_more (comment_end s)) (sym h) ∙ e) le f

block_gap : (w : List ℕ) (b : Bool) → is_count (length w) (comment_end w) ≡ b → gap (47 ∷ 42 ∷ w) ≡ (if b then Some (list_any is_line w) else None)
block_gap w b e = rw e refl

block_past : (r : List ℕ) (k j : ℕ) → comment_end r ≡ Some k → suc k < j → j < suc (suc (length r)) → gap (47 ∷ take j (42 ∷ r)) ≡ None
block_past r k zero e lt le = absurd (omega arith)
block_past r k (suc j) e lt le =
    block_gap (take j r) false (ap (is_count (length (take j r))) (end_take r k j e (omega arith)) ∙ ap (λ n. nat_eq n k) (length-take-le j r (omega arith)) ∙ ne_test j k (λ e. omega (arith, e)))

pub point_block : (o : Bool) (r : List ℕ) (k : ℕ) → comment_end r ≡ Some k → point o (47 ∷ 42 ∷ r) ≡ skip (list_any is_line (take k r)) (suc (suc k))
unfolding point
point_block o r k e =
    let w = end_within r k e in
    ap (λ g. gap_step g (refusal_step (refusal_at o (47 ∷ 42 ∷ r)) (token_step (longest whole_token (length (47 ∷ 42 ∷ r)) (47 ∷ 42 ∷ r)))))
    (longest_is gap 47 (42 ∷ r) (suc k) (length (47 ∷ 42 ∷ r)) (list_any is_line (take k r)) (omega (arith, w.1))
    (block_gap (take k r) true (ap (is_count (length (take k r))) (end_take r k k e (omega arith)) ∙ ap (λ n. nat_eq n k) (length-take-le k r w.1) ∙ eq_test k))
    (λ j lt le. block_past r k j e lt (omega arith)))

block_none : (r : List ℕ) (j : ℕ) → comment_end r ≡ None → gap (47 ∷ take j (42 ∷ r)) ≡ None
block_none r zero e = refl
block_none r (suc j) e = block_gap (take j r) false (ap (is_count (length (take j r))) (end_none r j e))

pub point_open : (o : Bool) (r : List ℕ) → comment_end r ≡ None → point o (47 ∷ 42 ∷ r) ≡ refuse open_comment
unfolding point
point_open o r e =
    ap (λ g. gap_step g (refusal_step (refusal_at o (47 ∷ 42 ∷ r)) (token_step (longest whole_token (length (47 ∷ 42 ∷ r)) (47 ∷ 42 ∷ r)))))
    (longest_none gap 47 (42 ∷ r) (length (47 ∷ 42 ∷ r)) (λ j lt. block_none r j e))
