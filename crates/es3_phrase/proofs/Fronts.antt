-- The longest expression of the tokens before one, and of all of them.
use Rattle.std.specs.Prelude.{Result}
use Rattle.std.specs.Option.{ok_or}
use Rattle.std.proofs.Common.{◌≡◌, ℕ, zero, ◌+◌, ◌<◌, ◌≤◌, Bool, true, false, cond, List, [], ◌∷◌, ◌++◌, suc, length, map, take, drop, drop-cons, add-one, get_or, Option, Some, None, refl, ap, sym, subst, ◌∙◌, arith}
use Rattle.std.proofs.lemmas.List.{take_more, take-append-drop, map-append, length-map, length-take-le, take_all}
use Rattle.es3_grammar.specs.Spots.{Spot}
use Rattle.es3_grammar.specs.Frames.{State, want}
use Rattle.es3_grammar.specs.Machine.{step, ending}
use Rattle.es3_grammar.specs.Limit.{turn, counted}
use Rattle.es3_grammar.specs.Sums.{within_by}
use Rattle.es3_grammar.specs.Longest.{Best, NoExpr, ExprRefusedAt, ExprDeepAt, BeginsExprWithin, KnownExpr, known_first, known_on, is_phrase, better}
use Rattle.es3_grammar.proofs.Known.{counted_on}
use Rattle.es3_grammar.proofs.Longest.{best_first, best_on, best_refused, best_deep, expr_begins, expr_reached}
use Rattle.es3_lexer.specs.declared.token.Token.{Token}
use Rattle.es3_frames.specs.Views.{spot_of}
use Rattle.es3_stmt.specs.declared.read.ReadError.{ReadError}
use Rattle.es3_phrase.specs.ReadsExpr.{Refuses, Counts}

-- the tokens before the i-th
abbrev pub front : ℕ → List Token → List Spot
front i ts = map spot_of (take i ts)

-- one token more
pub here : (i : ℕ) (ts : List Token) (x : Token) → i < length ts → x ≡ get_or ts i x → drop i ts ≡ x ∷ drop (i + 1) ts
here i ts x below item = drop-cons ts i x below ∙ ap (λ (y : Token). y ∷ drop (suc i) ts) (sym item) ∙ ap (λ (j : ℕ). x ∷ drop j ts) (sym (add-one i))

-- read up to there, with so many brackets open
pub record LongestOn (n o i : ℕ) (ts : List Token) (best : Option ℕ) (s : State) : Type 0 where
  pub known : KnownExpr n (front i ts) s
  pub longest : Best n (front i ts) best
  pub brackets : o ≡ counted 0 (front i ts)

pub begun : (n : ℕ) (ts : List Token) (s : State) → 1 ≤ n → s ≡ want [] → LongestOn n 0 0 ts None s
begun n ts s h e = record { known = rw e (known_first h); longest = best_first n; brackets = refl }

-- behind the next token
module _ (n o i : ℕ) (ts : List Token) (x : Token) (best : Option ℕ) (s : State) (below : i < length ts) (item : x ≡ get_or ts i x) (h : LongestOn n o i ts best s) where
  abbrev after : List Spot
  after = map spot_of (drop (i + 1) ts)

  one_more : front (i + 1) ts ≡ front i ts ++ spot_of x ∷ []
  one_more = ap (map spot_of) (take_more ts i x below) ∙ map-append spot_of (take i ts) (get_or ts i x ∷ []) ∙ ap (λ (y : Token). front i ts ++ spot_of y ∷ []) (sym item)

  parts : front i ts ++ spot_of x ∷ after ≡ map spot_of ts
  parts = ap (λ (u : List Token). front i ts ++ map spot_of u) (sym (here i ts x below item)) ∙ sym (map-append spot_of (take i ts) (drop i ts)) ∙ ap (map spot_of) (take-append-drop i ts)

  counts : length (front i ts) ≡ i
  counts = length-map (take i ts) spot_of ∙ length-take-le i ts (omega arith)

  -- no expression goes on with the token
  pub stops : None ≡ step s (spot_of x) → Best n (map spot_of ts) best × ExprRefusedAt n (map spot_of ts) (spot_of x) after
  stops e = subst (λ (u : List Spot). Best n u best × ExprRefusedAt n u (spot_of x) after) parts (best_refused n (front i ts) s (spot_of x) after best h.known (sym e) h.longest)

  -- only deeper expressions do
  pub deepens : (k : ℕ) (r : State) → k ≡ turn o (spot_of x) → within_by n k r ≡ false → Some r ≡ step s (spot_of x) → Best n (map spot_of ts) best × ExprDeepAt n (map spot_of ts) (spot_of x) after
  deepens k r c w e = subst (λ (u : List Spot). Best n u best × ExprDeepAt n u (spot_of x) after) parts
      (best_deep n (front i ts) s r (spot_of x) after best h.known (sym e) (ap (λ (j : ℕ). within_by n j r) (ap (λ (j : ℕ). turn j (spot_of x)) (sym h.brackets) ∙ sym c) ∙ w) h.longest)

  pub goes_on : (k : ℕ) (r : State) (b : Bool) (better_one : Option ℕ) → k ≡ turn o (spot_of x) → within_by n k r ≡ true → Some r ≡ step s (spot_of x) → b ≡ is_phrase (ending r) → better_one ≡ cond b (Some (i + 1)) best → LongestOn n k (i + 1) ts better_one r
  goes_on k r b better_one c w e p q =
      let turned : turn (counted 0 (front i ts)) (spot_of x) ≡ k = ap (λ (j : ℕ). turn j (spot_of x)) (sym h.brackets) ∙ sym c in
      let on = known_on (front i ts) s r (spot_of x) h.known (sym e) (ap (λ (j : ℕ). within_by n j r) turned ∙ w) in
      let same : better r (length (front i ts) + 1) best ≡ better_one = ap (λ (j : ℕ). better r (j + 1) best) counts ∙ ap (λ (v : Bool). cond v (Some (i + 1)) best) (sym p) ∙ sym q in
      record {
        known = subst (λ (u : List Spot). KnownExpr n u r) (sym one_more) on;
        longest = subst (λ (u : List Spot). Best n u better_one) (sym one_more) (subst (Best n (front i ts ++ spot_of x ∷ [])) same (best_on n (front i ts) (spot_of x) r best on h.longest));
        brackets = sym turned ∙ sym (counted_on (front i ts) (spot_of x) 0) ∙ ap (counted 0) (sym one_more);
      }

-- the tokens end
pub ends : (n o i : ℕ) (ts : List Token) (best : Option ℕ) (s : State) → length ts ≤ i → LongestOn n o i ts best s → Best n (map spot_of ts) best × BeginsExprWithin n (map spot_of ts)
ends n o i ts best s b h = subst (λ (u : List Token). Best n (map spot_of u) best × BeginsExprWithin n (map spot_of u)) (take_all i ts b) (h.longest, expr_begins n (front i ts) s h.known)

-- ---- the answer

known_positive : (n : ℕ) (u : List Spot) (s : State) → KnownExpr n u s → 1 ≤ n
known_positive n _ _ (known_first h) = h
known_positive n _ _ (known_on u s r c k e w) = known_positive n u s k

pub positive : (n : ℕ) → (n ≡ 0 → ⊥) → 1 ≤ n
positive zero h = absurd (h refl)
positive (suc n) h = omega arith

-- nothing is within no nesting at all
pub no_room : (n : ℕ) (u : List Spot) → n ≡ 0 → NoExpr n u
no_room n u e y v w p i = let r = expr_reached n v y i in let h = known_positive n v r.0 r.1 in omega (arith, e, h)

pub counted_best : (n end : ℕ) (u : List Spot) (best : Option ℕ) (e : ReadError) (r : Result ℕ ReadError) → r ≡ ok_or best e → Best n u best → (NoExpr n u → Refuses n end u e) → Counts n end u r
counted_best n end u None e r q b f = rw q (f b)
counted_best n end u (Some m) e r q b f = rw q b
