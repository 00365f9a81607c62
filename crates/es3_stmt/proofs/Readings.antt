-- Reading the tokens that are left, from a state.
use Rattle.std.proofs.Common.{◌≡◌, ℕ, ◌+◌, ◌*◌, ◌<◌, ◌≤◌, Bool, true, false, cond, ◌&&◌, List, [], ◌∷◌, suc, length, map, drop, drop-cons, add-one, get_or, Option, Some, None, nat_le, refl, ap, sym, ◌∙◌, arith}
use Rattle.std.proofs.lemmas.Bool.{leb-true}
use Rattle.std.proofs.Math.ListN.{drop_of_length-le}
use Rattle.es3_grammar.specs.Spots.{Spot, spots}
use Rattle.es3_grammar.specs.Frames.{State}
use Rattle.es3_grammar.specs.Machine.{step, ending, beginning}
use Rattle.es3_grammar.specs.Answers.{answer, answer_of, syntax, deep}
use Rattle.es3_grammar.specs.Ends.{height}
use Rattle.es3_grammar.specs.Limit.{turn}
use Rattle.es3_grammar.specs.Sums.{one_more, peak, within_by, goes_quickly, run_quickly, read_quickly}
use Rattle.es3_grammar.specs.Within.{Reading, reading_of, too_deep, read_within}
use Rattle.es3_grammar.proofs.Quickly.{read_same}
use Rattle.es3_lexer.specs.declared.token.Token.{Token}
use Rattle.es3_lexer.specs.Views.{placed_of}
use Rattle.es3_frames.specs.Views.{spot_of}

-- the tokens from the i-th on are read from the state as all of them are from the beginning
pub record ReadingOn (n o i : ℕ) (ts : List Token) (s : State) : Type 0 where
  pub same : run_quickly n o (map spot_of (drop i ts)) s ≡ read_quickly n (map spot_of ts)

spotted : (ts : List Token) → spots (map placed_of ts) ≡ map spot_of ts
spotted [] = refl
spotted (t ∷ ts) = ap (λ (u : List Spot). spot_of t ∷ u) (spotted ts)

answered : (n end : ℕ) (ts : List Token) (r : Reading) → r ≡ read_quickly n (map spot_of ts) → answer n end (map placed_of ts) ≡ answer_of end r
answered n end ts r e = ap (answer_of end) (ap (read_within n) (spotted ts) ∙ sym (read_same n (map spot_of ts)) ∙ sym e)

most_open : (b : Bool) (o m : ℕ) → one_more b o ≤ m → o ≤ m
most_open true o m h = omega arith
most_open false o m h = h

and_true : (a b : Bool) → (a && b) ≡ true → b ≡ true
and_true true b e = e
and_true false b e = absurd cc

-- what is within the limit has at most twice as many brackets open
pub few : (n o : ℕ) (s : State) → within_by n o s ≡ true → o ≤ 2 * n
few n o s e = most_open (peak s) o (2 * n) (leb-true (one_more (peak s) o) (2 * n) (and_true (nat_le (height s) n) _ e))

pub begun : (n : ℕ) (ts : List Token) (s : State) → s ≡ beginning → ReadingOn n 0 0 ts s
begun n ts s e = record { same = ap (run_quickly n 0 (map spot_of ts)) e }

module _ (n o i : ℕ) (ts : List Token) (x : Token) (s : State) (below : i < length ts) (item : x ≡ get_or ts i x) (h : ReadingOn n o i ts s) where
  abbrev after : List Spot
  after = map spot_of (drop (i + 1) ts)

  abbrev pub now : ℕ
  now = turn o (spot_of x)

  here : drop i ts ≡ x ∷ drop (i + 1) ts
  here = drop-cons ts i x below ∙ ap (λ (y : Token). y ∷ drop (suc i) ts) (sym item) ∙ ap (λ (j : ℕ). x ∷ drop j ts) (sym (add-one i))

  from_here : (q : Option State) → q ≡ step s (spot_of x) → goes_quickly (run_quickly n now after) n now (spot_of x ∷ after) q ≡ read_quickly n (map spot_of ts)
  unfolding run_quickly
  from_here q e =
      ap (goes_quickly (run_quickly n now after) n now (spot_of x ∷ after)) e
      ∙ ap (λ (u : List Token). run_quickly n o (map spot_of u) s) (sym here)
      ∙ h.same

  tested : (r : State) (b : Bool) → within_by n now r ≡ b → Some r ≡ step s (spot_of x) → cond b (run_quickly n now after r) (too_deep (spot_of x ∷ after)) ≡ read_quickly n (map spot_of ts)
  tested r b w e = ap (λ (v : Bool). cond v (run_quickly n now after r) (too_deep (spot_of x ∷ after))) (sym w) ∙ from_here (Some r) e

  -- no program goes on with the token
  pub stops : (end : ℕ) → None ≡ step s (spot_of x) → answer n end (map placed_of ts) ≡ syntax x.start
  stops end e = answered n end ts _ (from_here None e)

  -- only deeper programs do
  pub deepens : (end k : ℕ) (r : State) → k ≡ now → within_by n k r ≡ false → Some r ≡ step s (spot_of x) → answer n end (map placed_of ts) ≡ deep
  deepens end k r c w e = answered n end ts _ (tested r false (rw c at w) e)

  pub goes_on : (k : ℕ) (r : State) → k ≡ now → within_by n k r ≡ true → Some r ≡ step s (spot_of x) → ReadingOn n k (i + 1) ts r
  goes_on k r c w e = record { same = rw c (tested r true (rw c at w) e) }

-- the tokens end
pub ends : (n o i end : ℕ) (ts : List Token) (s : State) → length ts ≤ i → ReadingOn n o i ts s → answer n end (map placed_of ts) ≡ answer_of end (reading_of (ending s))
unfolding run_quickly
ends n o i end ts s b h = answered n end ts _ (ap (λ (u : List Token). run_quickly n o (map spot_of u) s) (sym (drop_of_length-le ts b)) ∙ h.same)
