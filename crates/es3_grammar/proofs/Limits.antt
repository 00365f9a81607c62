-- What is read within a limit is what is spelled within it, and each refusal comes at its exact place.
use Rattle.std.proofs.Common.{◌≡◌, ℕ, ◌*◌, ◌≤◌, Bool, true, false, cond, List, [], ◌∷◌, ◌++◌, Option, Some, None, refl, sym, ap, subst, ◌∙◌, arith, append_assoc}
use Rattle.std.proofs.lemmas.List.{append-nil}
use Rattle.es3_tree.specs.Tree as t
use Rattle.es3_tree.specs.Placed.{Placed}
use Rattle.es3_grammar.specs.Spots.{Spot}
use Rattle.es3_grammar.specs.Plain.{deep}
use Rattle.es3_grammar.specs.Frames.{State}
use Rattle.es3_grammar.specs.Machine.{Answer, whole, phrase, part, stopped, ending, step, run, beginning}
use Rattle.es3_grammar.specs.Limit.{turn, most, counted, Within, BeginsWithin}
use Rattle.es3_grammar.specs.Within.{Reading, program, broken, refused, too_deep, reading_of, is_within, goes_within, run_within, read_within, DeepAt, RefusedAt}
use Rattle.es3_grammar.proofs.Texts.{programs}
use Rattle.es3_grammar.proofs.OneTree.{spots_read}
use Rattle.es3_grammar.proofs.Fits.{Fits, step_fits}
use Rattle.es3_grammar.proofs.Stops.{never}
use Rattle.es3_grammar.proofs.Known.{SpelledWithin, went_on, counted_on, passes, run_least, Known, known_more, known_begins, known_whole, known_stops, known_deepens, known_passes}

pub reads_within : (k : List Spot) (s : State) (n o : ℕ) (p : Placed t.program) → Fits programs s → run k s ≡ whole p → deep t.program p ≤ n → most o k ≤ 2 * n → run_within n o k s ≡ program p
unfolding run run_within
reads_within [] s n o p h e d m = ap reading_of e
reads_within (c ∷ k) s n o p h e d m =
    let w = went_on programs (run k) (c ∷ k) (step s c) p e in
    let f = step_fits programs s c w.0 h w.1 in
    let l = run_least programs k w.0 p f w.2 in
    let few = l.few (turn o c) in
    ap (goes_within (run_within n (turn o c) k) n (turn o c) (c ∷ k)) w.1
    ∙ taken (run_within n (turn o c) k w.0) (too_deep (c ∷ k)) (is_within n (turn o c) w.0) (passes n (turn o c) w.0 (let a = l.shallow in omega arith) (omega arith))
    ∙ reads_within k w.0 n (turn o c) p f w.2 d (omega arith)
  where
    taken : (x y : Reading) (b : Bool) → b ≡ true → cond b x y ≡ x
    taken x y true e = refl
    taken x y false e = absurd cc

within_of : {n : ℕ} {p : Placed t.program} {u : List Spot} → SpelledWithin programs n p u → Within n p u
within_of w = record { spelled = w.spelled; shallow = w.shallow; few = w.few }

of_within : {n : ℕ} {p : Placed t.program} {u : List Spot} → Within n p u → SpelledWithin programs n p u
of_within w = record { spelled = w.spelled; shallow = w.shallow; few = w.few }

begins_known : (n : ℕ) (u : List Spot) (s : State) → Known programs n u s → BeginsWithin n u
begins_known n u s k = let b = known_begins programs n u s k in (b.0, b.1, within_of b.2)

-- what is found, from the tokens u on
abbrev pub Found : ℕ → List Spot → List Spot → Reading → Type 0
Found n u k (program p) = Within n p (u ++ k)
Found n u k broken = BeginsWithin n (u ++ k)
Found n u k (refused []) = ⊥
Found n u k (refused (c ∷ r)) = RefusedAt n (u ++ k) c r
Found n u k (too_deep []) = ⊥
Found n u k (too_deep (c ∷ r)) = DeepAt n (u ++ k) c r

found_end : (n : ℕ) (u : List Spot) (s : State) (a : Answer) → ending s ≡ a → Known programs n u s → Found n u [] (reading_of a)
found_end n u s (whole p) e k = subst (λ (z : List Spot). Within n p z) (sym (append-nil u)) (within_of (known_whole programs n u s p k e))
found_end n u s part e k = subst (BeginsWithin n) (sym (append-nil u)) (begins_known n u s k)
found_end n u s (phrase x) e k = subst (BeginsWithin n) (sym (append-nil u)) (begins_known n u s k)
found_end n u s (stopped r) e k = absurd (never s r e)

refuses : (n : ℕ) (u : List Spot) (s : State) (c : Spot) (r : List Spot) → Known programs n u s → step s c ≡ None → RefusedAt n (u ++ c ∷ r) c r
refuses n u s c r k e = record { front = u; parts = refl; within = begins_known n u s k; ends = known_stops programs n u s c k e }

deepens : (n : ℕ) (u : List Spot) (s r : State) (c : Spot) (k : List Spot) → Known programs n u s → step s c ≡ Some r → is_within n (turn (counted 0 u) c) r ≡ false → DeepAt n (u ++ c ∷ k) c k
deepens n u s r c k g e w = record {
  front = u;
  parts = refl;
  within = begins_known n u s g;
  begins = known_deepens programs n u s r c g e;
  ends = λ b. known_passes programs n u s r c g e w b.0 b.1 (of_within b.2);
}

pub finds : (k : List Spot) (n : ℕ) (u : List Spot) (s : State) → Known programs n u s → Found n u k (run_within n (counted 0 u) k s)
unfolding run_within
finds [] n u s g = found_end n u s (ending s) refl g
finds (c ∷ k) n u s g = go (λ r e. finds k n (u ++ c ∷ []) r e) (step s c) refl
  where
    moved : (x : Reading) → Found n (u ++ c ∷ []) k x → Found n u (c ∷ k) x
    moved (program p) f = subst (λ (z : List Spot). Within n p z) (append_assoc u (c ∷ []) k) f
    moved broken f = subst (BeginsWithin n) (append_assoc u (c ∷ []) k) f
    moved (refused []) f = f
    moved (refused (d ∷ r)) f = subst (λ (z : List Spot). RefusedAt n z d r) (append_assoc u (c ∷ []) k) f
    moved (too_deep []) f = f
    moved (too_deep (d ∷ r)) f = subst (λ (z : List Spot). DeepAt n z d r) (append_assoc u (c ∷ []) k) f

    tested : ((r : State) → Known programs n (u ++ c ∷ []) r → Found n (u ++ c ∷ []) k (run_within n (counted 0 (u ++ c ∷ [])) k r)) → (r : State) → step s c ≡ Some r → (b : Bool) → is_within n (turn (counted 0 u) c) r ≡ b
        → Found n u (c ∷ k) (cond b (run_within n (turn (counted 0 u) c) k r) (too_deep (c ∷ k)))
    tested rec r e true w = moved (run_within n (turn (counted 0 u) c) k r) (subst (λ (x : ℕ). Found n (u ++ c ∷ []) k (run_within n x k r)) (counted_on u c 0) (rec r (known_more programs n u s r c g e w)))
    tested rec r e false w = deepens n u s r c k g e w

    go : ((r : State) → Known programs n (u ++ c ∷ []) r → Found n (u ++ c ∷ []) k (run_within n (counted 0 (u ++ c ∷ [])) k r)) → (q : Option State) → step s c ≡ q
        → Found n u (c ∷ k) (goes_within (run_within n (turn (counted 0 u) c) k) n (turn (counted 0 u) c) (c ∷ k) q)
    go rec None e = refuses n u s c k g e
    go rec (Some r) e = tested rec r e (is_within n (turn (counted 0 u) c) r) refl

at_first : (n : ℕ) → Known programs n [] beginning
at_first n = record { come = λ z. refl; fits = refl; shallow = omega arith; few = omega arith; fewer = omega arith }

found : (n : ℕ) (u : List Spot) (r : Reading) → read_within n u ≡ r → Found n [] u r
found n u r e = subst (λ (x : Reading). Found n [] u x) e (finds u n [] beginning (at_first n))

pub within_sound : (n : ℕ) (p : Placed t.program) (u : List Spot) → read_within n u ≡ program p → Within n p u
within_sound n p u e = found n u (program p) e

pub within_complete : (n : ℕ) (p : Placed t.program) (u : List Spot) → Within n p u → read_within n u ≡ program p
within_complete n p u w = reads_within u beginning n 0 p refl (spots_read p u w.spelled) w.shallow w.few

pub refused_at : (n : ℕ) (u : List Spot) (c : Spot) (k : List Spot) → read_within n u ≡ refused (c ∷ k) → RefusedAt n u c k
refused_at n u c k e = found n u (refused (c ∷ k)) e

pub deep_at : (n : ℕ) (u : List Spot) (c : Spot) (k : List Spot) → read_within n u ≡ too_deep (c ∷ k) → DeepAt n u c k
deep_at n u c k e = found n u (too_deep (c ∷ k)) e

pub broken_off : (n : ℕ) (u : List Spot) → read_within n u ≡ broken → BeginsWithin n u
broken_off n u e = found n u broken e

-- a refusal has a token
pub refused_some : (n : ℕ) (u : List Spot) → ((read_within n u ≡ refused [] → ⊥) × (read_within n u ≡ too_deep [] → ⊥))
refused_some n u = (λ e. found n u (refused []) e, λ e. found n u (too_deep []) e)
