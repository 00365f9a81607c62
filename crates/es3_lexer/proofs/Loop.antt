-- The loop over a source: what was cut so far, and what is cut of the rest.
use Rattle.std.proofs.Common.{◌≡◌, ℕ, ◌+◌, ◌<◌, ◌||◌, Bool, false, List, [], ◌∷◌, ◌++◌, Ok, Err, refl, sym, ap, ◌∙◌, arith, length, take, drop, append_assoc, append-nil, drop-drop}
use Rattle.std.specs.Char.{len_utf8}
use Rattle.std.proofs.lemmas.List.Sums.{sum_by-take-drop}
use Rattle.std.proofs.lemmas.List.{length-drop}
use Rattle.std.proofs.Math.Seq.{drop-length}
use Rattle.es3_tokens.proofs.Cut.{cut_accept, cut_nil, cut_refuse, cut_skip}
use Rattle.es3_tokens.specs.Cut.{Answer, accept, cut_from, front, point, refuse, skip, width}
use Rattle.es3_tokens.specs.Refusals.{Refusal}
use Rattle.es3_tokens.specs.Steps.{fronts}
use Rattle.es3_tokens.specs.Tokens.{Placed, placed, wants_operand}
use Rattle.es3_tree.specs.Token.{Token}

fronts_none : (a : Answer) → fronts [] a ≡ a
fronts_none (Ok us) = refl
fronts_none (Err e) = refl

pub fronts_front : (ts : List Placed) (t : Placed) (a : Answer) → fronts ts (front t a) ≡ fronts (ts ++ t ∷ []) a
fronts_front ts t (Ok us) = ap (λ (w : List Placed). Ok w) (sym (append_assoc ts (t ∷ []) us))
fronts_front ts t (Err e) = refl

pub loop_skip : (ts : List Placed) (s w : List ℕ) (i p q k : ℕ) (l o m : Bool) (a : Answer) → w ≡ drop i s → i < length s → point o w ≡ skip m k → 0 < k → q ≡ p + width (take k w)
    → fronts ts (cut_from 0 p l o (drop i s)) ≡ a → fronts ts (cut_from 0 q (l || m) o (drop (i + k) s)) ≡ a
loop_skip ts s w i p q k l o m a e lt h pos f g = by_rest ts s (drop i s) i p q k l o m a refl (omega (arith, length-drop i s)) (ap (point o) (sym e) ∙ h) pos (f ∙ ap (λ (w : List ℕ). p + width (take k w)) e) g
  where
    by_rest : (ts : List Placed) (s r : List ℕ) (i p q k : ℕ) (l o m : Bool) (a : Answer) → drop i s ≡ r → 0 < length r → point o r ≡ skip m k → 0 < k → q ≡ p + width (take k r)
        → fronts ts (cut_from 0 p l o r) ≡ a → fronts ts (cut_from 0 q (l || m) o (drop (i + k) s)) ≡ a
    by_rest ts s [] i p q k l o m a e lt h pos f g = absurd (omega arith)
    by_rest ts s (c ∷ r) i p q k l o m a e lt h pos f g =
        ap (fronts ts) (ap (λ j. cut_from 0 j (l || m) o (drop (i + k) s)) f ∙ ap (cut_from 0 (p + width (take k (c ∷ r))) (l || m) o) (sym (drop-drop k i s) ∙ ap (drop k) e) ∙ sym (cut_skip p l o c r m k h pos)) ∙ g

pub loop_accept : (ts : List Placed) (s w : List ℕ) (i p q k : ℕ) (l o : Bool) (t : Token) (b : Bool) (a : Answer) → w ≡ drop i s → i < length s → point o w ≡ accept t k → 0 < k → q ≡ p + width (take k w) → b ≡ wants_operand t
    → fronts ts (cut_from 0 p l o (drop i s)) ≡ a → fronts (ts ++ placed t p q l ∷ []) (cut_from 0 q false b (drop (i + k) s)) ≡ a
loop_accept ts s w i p q k l o t b a e lt h pos f j g = by_rest ts s (drop i s) i p q k l o t b a refl (omega (arith, length-drop i s)) (ap (point o) (sym e) ∙ h) pos (f ∙ ap (λ (w : List ℕ). p + width (take k w)) e) j g
  where
    by_rest : (ts : List Placed) (s r : List ℕ) (i p q k : ℕ) (l o : Bool) (t : Token) (b : Bool) (a : Answer) → drop i s ≡ r → 0 < length r → point o r ≡ accept t k → 0 < k → q ≡ p + width (take k r) → b ≡ wants_operand t
        → fronts ts (cut_from 0 p l o r) ≡ a → fronts (ts ++ placed t p q l ∷ []) (cut_from 0 q false b (drop (i + k) s)) ≡ a
    by_rest ts s [] i p q k l o t b a e lt h pos f j g = absurd (omega arith)
    by_rest ts s (c ∷ r) i p q k l o t b a e lt h pos f j g =
        sym (fronts_front ts (placed t p q l) (cut_from 0 q false b (drop (i + k) s)))
        ∙ ap (fronts ts) (ap (λ n. front (placed t p n l) (cut_from 0 n false b (drop (i + k) s))) f
        ∙ ap (λ b. front (placed t p (p + width (take k (c ∷ r))) l) (cut_from 0 (p + width (take k (c ∷ r))) false b (drop (i + k) s))) j
        ∙ ap (λ (w : List ℕ). front (placed t p (p + width (take k (c ∷ r))) l) (cut_from 0 (p + width (take k (c ∷ r))) false (wants_operand t) w)) (sym (drop-drop k i s) ∙ ap (drop k) e)
        ∙ sym (cut_accept p l o c r t k h pos)) ∙ g

pub loop_refuse : (ts : List Placed) (s w : List ℕ) (i p : ℕ) (l o : Bool) (r : Refusal) (a : Answer) → w ≡ drop i s → i < length s → point o w ≡ refuse r → fronts ts (cut_from 0 p l o (drop i s)) ≡ a → a ≡ Err (r, p)
loop_refuse ts s w i p l o r a e lt h g = by_rest ts s (drop i s) i p l o r a (omega (arith, length-drop i s)) (ap (point o) (sym e) ∙ h) g
  where
    by_rest : (ts : List Placed) (s t : List ℕ) (i p : ℕ) (l o : Bool) (r : Refusal) (a : Answer) → 0 < length t → point o t ≡ refuse r → fronts ts (cut_from 0 p l o t) ≡ a → a ≡ Err (r, p)
    by_rest ts s [] i p l o r a lt h g = absurd (omega arith)
    by_rest ts s (c ∷ t) i p l o r a lt h g = sym g ∙ ap (fronts ts) (cut_refuse p l o c t r h)

pub loop_end : (ts : List Placed) (s : List ℕ) (i p : ℕ) (l o : Bool) (a : Answer) → i ≡ length s → fronts ts (cut_from 0 p l o (drop i s)) ≡ a → a ≡ Ok ts
loop_end ts s i p l o a is g = sym g ∙ ap (λ (w : List ℕ). fronts ts (cut_from 0 p l o w)) (ap (λ n. drop n s) is ∙ drop-length s) ∙ ap (fronts ts) (cut_nil p l o) ∙ ap (λ (w : List Placed). Ok w) (append-nil ts)

-- the width of what is passed and of what is left
pub width_split : (s w : List ℕ) (i k : ℕ) → w ≡ drop i s → width (take k w) + width (drop (i + k) s) ≡ width (drop i s)
width_split s w i k e = ap (λ (v : List ℕ). width (take k v) + width (drop (i + k) s)) e ∙ ap (λ (v : List ℕ). width (take k (drop i s)) + width v) (sym (drop-drop k i s)) ∙ sum_by-take-drop len_utf8 (drop i s) k
