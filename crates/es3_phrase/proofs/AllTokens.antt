-- Reading all of the tokens as an expression.
use Rattle.std.specs.Prelude.{Result, Ok, Err, IfOk}
use Rattle.std.specs.Option.{is_some}
use Rattle.std.proofs.Common.{◌≡◌, ℕ, ◌+◌, ◌<◌, ◌≤◌, true, false, List, [], ◌∷◌, length, map, take, drop, get_or, Option, Some, None, refl, ap, sym, subst, ◌∙◌}
use Rattle.std.proofs.lemmas.List.{take-map}
use Rattle.std.proofs.Math.ListN.{drop_of_length-le}
use Rattle.es3_tree.specs.PlacedView.{expr}
use Rattle.es3_tree.specs.declared.Expr.{Expr}
use Rattle.es3_grammar.specs.Spots.{Spot}
use Rattle.es3_grammar.specs.Levels.{E}
use Rattle.es3_grammar.specs.Frames.{State, want}
use Rattle.es3_grammar.specs.Machine.{step, ending, goes, run, read_phrase}
use Rattle.es3_grammar.specs.Longest.{is_phrase, Longest}
use Rattle.es3_grammar.proofs.Longest.{longest_reads}
use Rattle.es3_grammar.proofs.Phrases.{phrase_is}
use Rattle.es3_lexer.specs.declared.token.Token.{Token}
use Rattle.es3_frames.specs.Views.{spot_of}
use Rattle.es3_phrase.specs.ReadsExpr.{Phrased}
use Rattle.es3_phrase.proofs.Fronts.{here}

-- the tokens from the i-th on are read from the state as all of them are from the beginning
pub record WholeOn (i : ℕ) (ts : List Token) (s : State) : Type 0 where
  pub same : run (map spot_of (drop i ts)) s ≡ read_phrase (map spot_of ts)

pub begins : (ts : List Token) (s : State) → s ≡ want [] → WholeOn 0 ts s
begins ts s e = record { same = ap (run (map spot_of ts)) e }

module _ (i : ℕ) (ts : List Token) (x : Token) (s : State) (below : i < length ts) (item : x ≡ get_or ts i x) (h : WholeOn i ts s) where
  abbrev after : List Spot
  after = map spot_of (drop (i + 1) ts)

  from_here : (q : Option State) → q ≡ step s (spot_of x) → goes (run after) (spot_of x ∷ after) q ≡ read_phrase (map spot_of ts)
  unfolding run
  from_here q e = ap (goes (run after) (spot_of x ∷ after)) e ∙ ap (λ (u : List Token). run (map spot_of u) s) (sym (here i ts x below item)) ∙ h.same

  -- no expression goes on with the token
  pub breaks : None ≡ step s (spot_of x) → is_phrase (read_phrase (map spot_of ts)) ≡ false
  breaks e = sym (ap is_phrase (from_here None e))

  pub goes_further : (r : State) → Some r ≡ step s (spot_of x) → WholeOn (i + 1) ts r
  goes_further r e = record { same = from_here (Some r) e }

-- the tokens end
pub ended : (i : ℕ) (ts : List Token) (s : State) (r : Option Expr) → length ts ≤ i → WholeOn i ts s → Phrased r (ending s) → Phrased r (read_phrase (map spot_of ts))
unfolding run
ended i ts s r b h p = subst (Phrased r) (ap (λ (u : List Token). run (map spot_of u) s) (sym (drop_of_length-le ts b)) ∙ h.same) p

-- ---- the tokens of the longest expression are read as that expression

some_read : (n : ℕ) (ts : List Token) (x : E) (m : ℕ) (r : Option Expr) → Longest n (map spot_of ts) x m → Phrased r (read_phrase (map spot_of (take m ts))) → (t : Expr) × (r ≡ Some t) × (expr t ≡ x)
some_read n ts x m None l p = absurd (let e = ap is_phrase (ap read_phrase (sym (take-map spot_of m ts)) ∙ longest_reads n (map spot_of ts) x m l) in cc (p, e))
some_read n ts x m (Some t) l p = (t, refl, phrase_is (expr t) x (sym p ∙ ap read_phrase (sym (take-map spot_of m ts)) ∙ longest_reads n (map spot_of ts) x m l))

pub is_read : (n : ℕ) (ts : List Token) (x : E) (m : ℕ) (r : Option Expr) → Longest n (map spot_of ts) x m → Phrased r (read_phrase (map spot_of (take m ts))) → is_some r ≡ true
is_read n ts x m r l p = let s = some_read n ts x m r l p in rw s.1 refl

pub read_as : (n : ℕ) (ts : List Token) (x : E) (m : ℕ) (r : Option Expr) (v : Expr) → Longest n (map spot_of ts) x m → Phrased r (read_phrase (map spot_of (take m ts))) → r ≡ Some v → Longest n (map spot_of ts) (expr v) m
read_as n ts x m r v l p e = let s = some_read n ts x m r l p in subst (λ (y : E). Longest n (map spot_of ts) y m) (sym s.2 ∙ ap expr (same s.0 (sym s.1 ∙ e))) l
  where
    same : (t : Expr) → Some t ≡ Some v → t ≡ v
    same t i = cc

pub if_ok_on : {A F : Type 0} (P Q : A → Type 0) (r : Result A F) → ((x : A) → P x → Q x) → IfOk r P → IfOk r Q
if_ok_on P Q (Ok x) f h = f x h
if_ok_on P Q (Err e) f h = tt
