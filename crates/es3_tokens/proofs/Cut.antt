-- From one point of a source to the next.
use Rattle.std.proofs.Common.{◌≡◌, ℕ, zero, suc, ◌+◌, ◌-◌, ◌<◌, ◌||◌, Bool, true, false, List, [], ◌∷◌, Option, Some, None, Ok, Err, refl, sym, ap, ◌∙◌, arith, length, take, drop}
use Rattle.std.specs.Prelude.{if◌then◌else◌, nat_eq}
use Rattle.std.specs.Char.{len_utf8}
use Rattle.std.proofs.lemmas.List.Sums.{sum_by-cons}
use Rattle.es3_tokens.proofs.Longest.{Within, longest_within}
use Rattle.es3_tokens.specs.Characters.{begins}
use Rattle.es3_tokens.specs.Cut.{Step, accept, cut_chars, cut_from, front, gap_step, goes, point, refusal_step, refuse, skip, token_step, width}
use Rattle.es3_tokens.specs.Gaps.{gap}
use Rattle.es3_tokens.specs.Longest.{longest}
use Rattle.es3_tokens.specs.Refusals.{Refusal, refusal_at}
use Rattle.es3_tokens.specs.Steps.{Fits}
use Rattle.es3_tokens.specs.Tokens.{placed, wants_operand, whole_token}
use Rattle.es3_tree.specs.Token.{Token}

pub cut_pass : (n p : ℕ) (l o : Bool) (s : List ℕ) → cut_from n p l o s ≡ cut_from 0 (p + width (take n s)) l o (drop n s)
unfolding cut_from
cut_pass zero p l o s = let e : p + 0 ≡ p = omega arith in ap (λ k. cut_from 0 k l o s) (sym e)
cut_pass (suc n) p l o [] = refl
cut_pass (suc n) p l o (c ∷ s) =
    let e : p + len_utf8 c + width (take n s) ≡ p + width (c ∷ take n s) = omega (arith, sum_by-cons len_utf8 c (take n s)) in
    cut_pass n (p + len_utf8 c) l o s ∙ ap (λ k. cut_from 0 k l o (drop n s)) e

pub cut_nil : (p : ℕ) (l o : Bool) → cut_from 0 p l o [] ≡ Ok []
unfolding cut_from
cut_nil p l o = refl

cut_cons : (p : ℕ) (l o : Bool) (c : ℕ) (s : List ℕ) (k : ℕ) → 0 < k → (m q : Bool) → cut_from (k - 1) (p + len_utf8 c) m q s ≡ cut_from 0 (p + width (take k (c ∷ s))) m q (drop k (c ∷ s))
cut_cons p l o c s zero lt m q = absurd (omega arith)
cut_cons p l o c s (suc k) lt m q =
    let d : suc k - 1 ≡ k = omega arith in
    let e : p + len_utf8 c + width (take k s) ≡ p + width (c ∷ take k s) = omega (arith, sum_by-cons len_utf8 c (take k s)) in
    ap (λ j. cut_from j (p + len_utf8 c) m q s) d ∙ cut_pass k (p + len_utf8 c) m q s ∙ ap (λ j. cut_from 0 j m q (drop k s)) e

pub cut_skip : (p : ℕ) (l o : Bool) (c : ℕ) (s : List ℕ) (m : Bool) (k : ℕ) → point o (c ∷ s) ≡ skip m k → 0 < k → cut_from 0 p l o (c ∷ s) ≡ cut_from 0 (p + width (take k (c ∷ s))) (l || m) o (drop k (c ∷ s))
unfolding cut_from
cut_skip p l o c s m k e lt = ap (goes (λ n m q. cut_from n (p + len_utf8 c) m q s) p l o (c ∷ s)) e ∙ cut_cons p l o c s k lt (l || m) o

pub cut_accept : (p : ℕ) (l o : Bool) (c : ℕ) (s : List ℕ) (t : Token) (k : ℕ) → point o (c ∷ s) ≡ accept t k → 0 < k → cut_from 0 p l o (c ∷ s) ≡ front (placed t p (p + width (take k (c ∷ s))) l) (cut_from 0 (p + width (take k (c ∷ s))) false (wants_operand t) (drop k (c ∷ s)))
unfolding cut_from
cut_accept p l o c s t k e lt = ap (goes (λ n m q. cut_from n (p + len_utf8 c) m q s) p l o (c ∷ s)) e ∙ ap (front (placed t p (p + width (take k (c ∷ s))) l)) (cut_cons p l o c s k lt false (wants_operand t))

pub cut_refuse : (p : ℕ) (l o : Bool) (c : ℕ) (s : List ℕ) (r : Refusal) → point o (c ∷ s) ≡ refuse r → cut_from 0 p l o (c ∷ s) ≡ Err (r, p)
unfolding cut_from
cut_refuse p l o c s r e = ap (goes (λ n m q. cut_from n (p + len_utf8 c) m q s) p l o (c ∷ s)) e

fits_token : (n : ℕ) (o : Option (Token × ℕ)) → Within n o → Fits n (token_step o)
fits_token n None h = tt
fits_token n (Some r) h = h

fits_refusal : (n : ℕ) (o : Option Refusal) (x : Step) → Fits n x → Fits n (refusal_step o x)
fits_refusal n None x h = h
fits_refusal n (Some r) x h = tt

fits_gap : (n : ℕ) (o : Option (Bool × ℕ)) (x : Step) → Within n o → Fits n x → Fits n (gap_step o x)
fits_gap n None x h f = f
fits_gap n (Some r) x h f = h

pub point_fits : (o : Bool) (s : List ℕ) → Fits (length s) (point o s)
unfolding point
point_fits o s = fits_gap (length s) (longest gap (length s) s) _ (longest_within gap (length s) s) (fits_refusal (length s) (refusal_at o s) _ (fits_token (length s) (longest whole_token (length s) s) (longest_within whole_token (length s) s)))

-- where no mark stands at the beginning
pub unmarked : (s : List ℕ) → begins (λ c. nat_eq c 0xFEFF) s ≡ false → cut_from 0 0 false true s ≡ cut_chars s
unmarked [] h = cut_nil 0 false true
unmarked (c ∷ s) h = ap (λ b. if b then cut_from 0 3 false true s else cut_from 0 0 false true (c ∷ s)) (sym h)
