-- The longest expression at the front of tokens is found, and reading stops at its exact place.
use Rattle.std.proofs.Common.{◌≡◌, ℕ, zero, suc, ◌+◌, ◌*◌, ◌≤◌, ◌⊎◌, Bool, true, false, cond, List, [], ◌∷◌, ◌++◌, length, take, Option, Some, None, refl, sym, ap, subst, inl, inr, ◌∙◌, arith, append_assoc, length-append}
use Rattle.std.proofs.lemmas.Bool.{lt-leb}
use Rattle.std.proofs.lemmas.List.{append-nil}
use Rattle.std.proofs.Math.Seq.{take-append_seam}
use Rattle.es3_tree.specs.Tree as t
use Rattle.es3_tree.specs.Placed.{Placed}
use Rattle.es3_grammar.specs.Spots.{Spot}
use Rattle.es3_grammar.specs.Levels.{E}
use Rattle.es3_grammar.specs.Plain.{deep}
use Rattle.es3_grammar.specs.Frames.{State, want}
use Rattle.es3_grammar.specs.Machine.{Answer, whole, phrase, part, stopped, ending, step, run, read_phrase}
use Rattle.es3_grammar.specs.Ends.{height}
use Rattle.es3_grammar.specs.Limit.{turn, most, counted}
use Rattle.es3_grammar.specs.Within.{is_within}
use Rattle.es3_grammar.specs.Sums.{brackets_in, Steady, within_by}
use Rattle.es3_grammar.specs.Longest.{ExprWithin, BeginsExpr, BeginsExprWithin, Longest, NoExpr, Best, ExprRefusedAt, ExprDeepAt, used_up, deep_at, StopsExpr, KnownExpr, known_first, known_on, is_phrase, better, Found, found, goes_longest, run_longest, read_longest}
use Rattle.es3_grammar.proofs.Texts.{phrases, programs}
use Rattle.es3_grammar.proofs.Phrases.{phrase_is, phrase_read}
use Rattle.es3_grammar.proofs.Fits.{step_fits}
use Rattle.es3_grammar.proofs.Viable.{viable}
use Rattle.es3_grammar.proofs.Stops.{never}
use Rattle.es3_grammar.proofs.Least.{step_least}
use Rattle.es3_grammar.proofs.Known.{SpelledWithin, went_on, state_ends, counted_on, passes, run_least, Known, known_more, known_begins, known_ending, known_whole, known_stops, known_deepens, known_passes}
use Rattle.es3_grammar.proofs.Turns.{step_turned}
use Rattle.es3_grammar.proofs.Quickly.{within_same}

-- ---- what is known of a state

record Held (n : ℕ) (u : List Spot) (s : State) : Type 0 where
  pub known : Known phrases n u s
  pub steady : Steady s
  pub count : counted 0 u ≡ brackets_in s

turned : (n : ℕ) (u : List Spot) (s r : State) (c : Spot) → Held n u s → step s c ≡ Some r → Steady r × (turn (counted 0 u) c ≡ brackets_in r)
turned n u s r c h e = let m = step_turned s c r h.steady e in (m.steady, ap (λ (x : ℕ). turn x c) h.count ∙ sym m.counted)

same_test : (n : ℕ) (u : List Spot) (s r : State) (c : Spot) → Held n u s → step s c ≡ Some r → is_within n (turn (counted 0 u) c) r ≡ within_by n (turn (counted 0 u) c) r
same_test n u s r c h e = let m = turned n u s r c h e in within_same n (turn (counted 0 u) c) r m.0 m.1

held : (n : ℕ) (u : List Spot) (s : State) → KnownExpr n u s → Held n u s
held n _ _ (known_first h) = record { known = record { come = λ z. refl; fits = refl; shallow = h; few = omega arith; fewer = omega arith }; steady = tt; count = refl }
held n _ _ (known_on u s r c k e w) = let h = held n u s k in let m = turned n u s r c h e in
    record { known = known_more phrases n u s r c h.known e (same_test n u s r c h e ∙ w); steady = m.0; count = counted_on u c 0 ∙ m.1 }

expr_of : {n : ℕ} {x : E} {u : List Spot} → SpelledWithin phrases n x u → ExprWithin n x u
expr_of w = record { spelled = w.spelled; shallow = w.shallow; few = w.few }

of_expr : {n : ℕ} {x : E} {u : List Spot} → ExprWithin n x u → SpelledWithin phrases n x u
of_expr w = record { spelled = w.spelled; shallow = w.shallow; few = w.few }

pub expr_whole : (n : ℕ) (u : List Spot) (s : State) (x : E) → KnownExpr n u s → ending s ≡ phrase x → ExprWithin n x u
expr_whole n u s x k e = expr_of (known_whole phrases n u s x (held n u s k).known e)

pub expr_ends : (n : ℕ) (u : List Spot) (s : State) (x : E) → KnownExpr n u s → ExprWithin n x u → ending s ≡ phrase x
expr_ends n u s x k w = sym (known_ending phrases n u s (held n u s k).known) ∙ phrase_read x u w.spelled

pub expr_alone : (n : ℕ) (u : List Spot) (s : State) (p : Placed t.program) → KnownExpr n u s → ending s ≡ whole p → ⊥
unfolding run
expr_alone n u s p k e =
    let v = viable phrases s (held n u s k).known.fits in
    let i : whole p ≡ phrase v.made = sym e ∙ ap (λ (w : List Spot). run w s) (sym (state_ends programs s p e).nothing) ∙ v.reads in
    absurd cc

pub expr_begins : (n : ℕ) (u : List Spot) (s : State) → KnownExpr n u s → BeginsExprWithin n u
expr_begins n u s k = let b = known_begins phrases n u s (held n u s k).known in (b.0, b.1, expr_of b.2)

pub expr_stops : (n : ℕ) (u : List Spot) (s : State) (c : Spot) → KnownExpr n u s → step s c ≡ None → BeginsExpr (u ++ c ∷ []) → ⊥
expr_stops n u s c k e b = known_stops phrases n u s c (held n u s k).known e b

pub expr_deepens : (n : ℕ) (u : List Spot) (s r : State) (c : Spot) → KnownExpr n u s → step s c ≡ Some r → within_by n (turn (counted 0 u) c) r ≡ false → BeginsExpr (u ++ c ∷ []) × (BeginsExprWithin n (u ++ c ∷ []) → ⊥)
expr_deepens n u s r c k e w = let h = held n u s k in
    (known_deepens phrases n u s r c h.known e, λ b. known_passes phrases n u s r c h.known e (same_test n u s r c h e ∙ w) b.0 b.1 (of_expr b.2))

-- an expression within the limit is come to
pub expr_comes : (k : List Spot) (n : ℕ) (u : List Spot) (s : State) (x : E) → KnownExpr n u s → run k s ≡ phrase x → deep t.expr x ≤ n → most (counted 0 u) k ≤ 2 * n → (r : State) × KnownExpr n (u ++ k) r × (ending r ≡ phrase x)
unfolding run
expr_comes [] n u s x g e d m = (s, subst (λ (z : List Spot). KnownExpr n z s) (sym (append-nil u)) g, e)
expr_comes (c ∷ k) n u s x g e d m =
    let w = went_on phrases (run k) (c ∷ k) (step s c) x e in
    let h = held n u s g in
    let l = run_least phrases k w.0 x (step_fits phrases s c w.0 h.known.fits w.1) w.2 in
    let few = l.few (turn (counted 0 u) c) in
    let p = passes n (turn (counted 0 u) c) w.0 (let a = l.shallow in omega arith) (omega arith) in
    let r = expr_comes k n (u ++ c ∷ []) w.0 x (known_on u s w.0 c g w.1 (sym (same_test n u s w.0 c h w.1) ∙ p)) w.2 d (subst (λ (y : ℕ). most y k ≤ 2 * n) (sym (counted_on u c 0)) (omega arith)) in
    (r.0, subst (λ (z : List Spot). KnownExpr n z r.0) (append_assoc u (c ∷ []) k) r.1, r.2)

pub expr_reached : (n : ℕ) (u : List Spot) (x : E) → ExprWithin n x u → (s : State) × KnownExpr n u s × (ending s ≡ phrase x)
expr_reached n u x w = let l = run_least phrases u (want []) x refl (phrase_read x u w.spelled) in
    expr_comes u n [] (want []) x (known_first (let a = l.shallow in let b = w.shallow in omega arith)) (phrase_read x u w.spelled) w.shallow w.few

-- ---- fronts of the same tokens

-- of two fronts one goes on where the other ends
fronts : (u k v w : List Spot) → u ++ k ≡ v ++ w → ((z : List Spot) × (u ≡ v ++ z)) ⊎ ((d : Spot) × (z : List Spot) × (v ≡ u ++ d ∷ z) × (k ≡ d ∷ (z ++ w)))
fronts u k [] w e = inl (u, refl)
fronts [] k (d ∷ v) w e = inr (d, v, refl, e)
fronts (c ∷ u) k (d ∷ v) w e = elim (fronts u k v w cc) [
  | inl p ↦ (let i = p.1 in inl (p.0, cc))
  | inr q ↦ (let i = q.2 in inr (q.0, q.1, cc, q.3))
]

same_front : (u k v w : List Spot) → u ++ k ≡ v ++ w → length u ≡ length v → u ≡ v
same_front u k v w e l = sym (take-append_seam u k) ∙ ap (λ (n : ℕ). take n (u ++ k)) l ∙ ap (take (length v)) e ∙ take-append_seam v w

-- ---- the longest so far

no_tokens : (y : E) → read_phrase [] ≡ phrase y → ⊥
unfolding run
no_tokens y e = cc

pub best_first : (n : ℕ) → Best n [] None
best_first n y [] w e i = no_tokens y (phrase_read y [] i.spelled)
best_first n y (d ∷ v) w e i = cc

-- no longer front is an expression
best_stays : (n : ℕ) (u k : List Spot) (best : Option ℕ) → ((y : E) (d : Spot) (v w : List Spot) → k ≡ d ∷ (v ++ w) → ExprWithin n y (u ++ d ∷ v) → ⊥) → Best n u best → Best n (u ++ k) best
best_stays n u k None none b = λ y v w e i. elim (fronts u k v w e) [
  | inl p ↦ b y v p.0 p.1 i
  | inr q ↦ none y q.0 q.1 w q.3 (subst (ExprWithin n y) q.2 i)
]
best_stays n u k (Some m) none b = let l = b.1 in (
  b.0,
  record {
    front = l.front;
    rest = l.rest ++ k;
    parts = ap (λ (z : List Spot). z ++ k) l.parts ∙ append_assoc l.front l.rest k;
    counted = l.counted;
    is = l.is;
    longest = λ y v w e i. elim (fronts u k v w e) [
      | inl p ↦ l.longest y v p.0 p.1 i
      | inr q ↦ absurd (none y q.0 q.1 w q.3 (subst (ExprWithin n y) q.2 i))
    ];
  },
)

-- with this token no expression within the limit goes on
best_at : (n : ℕ) (u : List Spot) (c : Spot) (k : List Spot) (best : Option ℕ) → (BeginsExprWithin n (u ++ c ∷ []) → ⊥) → Best n u best → Best n (u ++ c ∷ k) best
best_at n u c k best none b = best_stays n u (c ∷ k) best (λ y d v w e i. none (y, v, subst (ExprWithin n y) (behind d v w e) i)) b
  where
    behind : (d : Spot) (v w : List Spot) → c ∷ k ≡ d ∷ (v ++ w) → u ++ d ∷ v ≡ (u ++ c ∷ []) ++ v
    behind d v w e = ap (λ (z : Spot). u ++ z ∷ v) (let i : d ≡ c = cc in i) ∙ sym (append_assoc u (c ∷ []) v)

pub best_on : (n : ℕ) (u : List Spot) (c : Spot) (r : State) (best : Option ℕ) → KnownExpr n (u ++ c ∷ []) r → Best n u best → Best n (u ++ c ∷ []) (better r (length u + 1) best)
best_on n u c r best k b = go (ending r) refl
  where
    only : (y : E) (d : Spot) (v w : List Spot) → ending r ≡ part → c ∷ [] ≡ d ∷ (v ++ w) → ExprWithin n y (u ++ d ∷ v) → ⊥
    only y d [] w p e i = absurd (let one : ending r ≡ phrase y = expr_ends n (u ++ c ∷ []) r y k (subst (λ (z : Spot). ExprWithin n y (u ++ z ∷ [])) (let i : d ≡ c = cc in i) i) in cc (p, one))
    only y d (g ∷ v) w p e i = cc

    go : (a : Answer) → ending r ≡ a → Best n (u ++ c ∷ []) (cond (is_phrase a) (Some (length u + 1)) best)
    go (phrase x) e = (
      x,
      record {
        front = u ++ c ∷ [];
        rest = [];
        parts = sym (append-nil (u ++ c ∷ []));
        counted = length-append u (c ∷ []);
        is = expr_whole n (u ++ c ∷ []) r x k e;
        longest = λ y v w e i. omega (arith, ap length e, length-append v w, length-append u (c ∷ []));
      },
    )
    go part e = best_stays n u (c ∷ []) best (λ y d v w i j. only y d v w e i j) b
    go (whole p) e = absurd (expr_alone n (u ++ c ∷ []) r p k e)
    go (stopped z) e = absurd (never r z e)

-- ---- where reading stops

pub best_refused : (n : ℕ) (u : List Spot) (s : State) (c : Spot) (k : List Spot) (best : Option ℕ) → KnownExpr n u s → step s c ≡ None → Best n u best → Best n (u ++ c ∷ k) best × ExprRefusedAt n (u ++ c ∷ k) c k
best_refused n u s c k best g e b = (
  best_at n u c k best (λ i. expr_stops n u s c g e (i.0, i.1, i.2.spelled)) b,
  record { front = u; parts = refl; within = expr_begins n u s g; ends = expr_stops n u s c g e },
)

pub best_deep : (n : ℕ) (u : List Spot) (s r : State) (c : Spot) (k : List Spot) (best : Option ℕ) → KnownExpr n u s → step s c ≡ Some r → within_by n (turn (counted 0 u) c) r ≡ false → Best n u best → Best n (u ++ c ∷ k) best × ExprDeepAt n (u ++ c ∷ k) c k
best_deep n u s r c k best g e w b = let m = expr_deepens n u s r c g e w in (
  best_at n u c k best m.1 b,
  record { front = u; parts = refl; within = expr_begins n u s g; begins = m.0; ends = m.1 },
)

abbrev Finds : ℕ → List Spot → Found → Type 0
Finds n u f = Best n u f.best × StopsExpr n u f.stop

-- what a state behind the tokens u finds in them and in k
abbrev FindsOn : ℕ → List Spot → List Spot → Type 0
FindsOn n u k = (r : State) (best : Option ℕ) → KnownExpr n u r → Best n u best → Finds n (u ++ k) (run_longest n (counted 0 u) (length u) best k r)

one_on : (n : ℕ) (u : List Spot) (c : Spot) (k : List Spot) → FindsOn n (u ++ c ∷ []) k
    → (r : State) (best : Option ℕ) → KnownExpr n (u ++ c ∷ []) r → Best n (u ++ c ∷ []) best → Finds n (u ++ c ∷ k) (run_longest n (turn (counted 0 u) c) (length u + 1) best k r)
one_on n u c k rec r best h b =
    subst (λ (z : List Spot). Finds n z (run_longest n (turn (counted 0 u) c) (length u + 1) best k r)) (append_assoc u (c ∷ []) k)
    (subst (λ (m : ℕ). Finds n ((u ++ c ∷ []) ++ k) (run_longest n (turn (counted 0 u) c) m best k r)) (length-append u (c ∷ []))
    (subst (λ (o : ℕ). Finds n ((u ++ c ∷ []) ++ k) (run_longest n o (length (u ++ c ∷ [])) best k r)) (counted_on u c 0) (rec r best h b)))

finds : (k : List Spot) (n : ℕ) (u : List Spot) → FindsOn n u k
unfolding run_longest
finds [] n u s best g b = subst (λ (z : List Spot). Finds n z (found best used_up)) (sym (append-nil u)) (b, expr_begins n u s g)
finds (c ∷ k) n u s best g b = go (finds k n (u ++ c ∷ [])) (step s c) refl
  where
    tested : FindsOn n (u ++ c ∷ []) k → (r : State) → step s c ≡ Some r → (t : Bool) → within_by n (turn (counted 0 u) c) r ≡ t
        → Finds n (u ++ c ∷ k) (cond t (run_longest n (turn (counted 0 u) c) (length u + 1) (better r (length u + 1) best) k r) (found best (deep_at c k)))
    tested rec r e true w = let h = known_on u s r c g e w in one_on n u c k rec r (better r (length u + 1) best) h (best_on n u c r best h b)
    tested rec r e false w = best_deep n u s r c k best g e w b

    go : FindsOn n (u ++ c ∷ []) k → (q : Option State) → step s c ≡ q
        → Finds n (u ++ c ∷ k) (goes_longest (λ r. run_longest n (turn (counted 0 u) c) (length u + 1) (better r (length u + 1) best) k r) n (turn (counted 0 u) c) best c k q)
    go rec None e = best_refused n u s c k best g e b
    go rec (Some r) e = tested rec r e (within_by n (turn (counted 0 u) c) r) refl

pub found_stop : (n : ℕ) (u : List Spot) → 1 ≤ n → StopsExpr n u (read_longest n u).stop
found_stop n u h = (finds u n [] (want []) None (known_first h) (best_first n)).1

-- nothing is within no nesting at all
no_room : (u : List Spot) → NoExpr 0 u
no_room u y v w e i = let l = run_least phrases v (want []) y refl (phrase_read y v i.spelled) in let a = l.shallow in let b = i.shallow in omega arith

none_found : (u : List Spot) → (read_longest 0 u).best ≡ None
unfolding run_longest
none_found [] = refl
none_found (c ∷ k) = go (step (want []) c) refl
  where
    go : (q : Option State) → step (want []) c ≡ q → (goes_longest (λ r. run_longest 0 (turn 0 c) (0 + 1) (better r (0 + 1) None) k r) 0 (turn 0 c) None c k q).best ≡ None
    go None e = refl
    go (Some r) e = let m = step_least phrases (want []) c r refl e in rw (lt-leb (height r) 0 (let a = m.higher in omega arith)) refl

pub found_best : (n : ℕ) (u : List Spot) → Best n u (read_longest n u).best
found_best zero u = rw (none_found u) (no_room u)
found_best (suc n) u = (finds u (suc n) [] (want []) None (known_first (omega arith)) (best_first (suc n))).0

-- ---- there is one longest

pub one_longest : (n : ℕ) (u : List Spot) (x y : E) (a b : ℕ) → Longest n u x a → Longest n u y b → (x ≡ y) × (a ≡ b)
one_longest n u x y a b l m =
    let low = m.longest x l.front l.rest l.parts l.is in
    let high = l.longest y m.front m.rest m.parts m.is in
    let i = l.counted in let j = m.counted in
    let f : l.front ≡ m.front = same_front l.front l.rest m.front m.rest (sym l.parts ∙ m.parts) (omega arith) in
    (phrase_is x y (sym (phrase_read x l.front l.is.spelled) ∙ ap read_phrase f ∙ phrase_read y m.front m.is.spelled), omega arith)

pub longest_reads : (n : ℕ) (u : List Spot) (x : E) (a : ℕ) → Longest n u x a → read_phrase (take a u) ≡ phrase x
longest_reads n u x a l =
    ap read_phrase (ap (λ (m : ℕ). take m u) (sym l.counted) ∙ ap (take (length l.front)) l.parts ∙ take-append_seam l.front l.rest)
    ∙ phrase_read x l.front l.is.spelled

pub longest_counts : (n : ℕ) (u : List Spot) (x : E) (a : ℕ) → Longest n u x a → (read_longest n u).best ≡ Some a
longest_counts n u x a l = go (read_longest n u).best (found_best n u)
  where
    go : (b : Option ℕ) → Best n u b → b ≡ Some a
    go None none = absurd (none x l.front l.rest l.parts l.is)
    go (Some m) (y, k) = ap (λ (z : ℕ). Some z) (one_longest n u y x m a k l).1
