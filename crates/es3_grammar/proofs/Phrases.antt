-- The expressions that are read are those that are spelled.
use Rattle.std.proofs.Common.{◌≡◌, ◌↔◌, ℕ, ◌≤◌, List, [], ◌∷◌, ◌++◌, Option, Some, None, refl, sym, ap, subst, ◌∙◌, arith, append_assoc}
use Rattle.std.proofs.lemmas.List.{append-nil}
use Rattle.es3_tree.specs.Tree as t
use Rattle.es3_grammar.specs.Spots.{Spot}
use Rattle.es3_grammar.specs.Levels.{E}
use Rattle.es3_grammar.specs.Grammar.{free, Spells}
use Rattle.es3_grammar.specs.Frames.{a_program, body, Stack, State, want, have, past, start, ended, caught, asked}
use Rattle.es3_grammar.specs.Machine.{phrase, part, filled, finished, ending, goes, step, run, read_phrase}
use Rattle.es3_grammar.proofs.Follow.{bars_of}
use Rattle.es3_grammar.proofs.Complete.{complete}
use Rattle.es3_grammar.proofs.Stands.{Over, StandsFor, makes}
use Rattle.es3_grammar.proofs.SoundParts.{Part, part_of, inward, asked_within, over_as, asked_fits, plug}
use Rattle.es3_grammar.proofs.SoundExpr.{as_part}
use Rattle.es3_grammar.proofs.Sound.{step_sound}
use Rattle.es3_grammar.proofs.Stops.{no_phrase_all}

pub phrase_is : (x y : E) → phrase x ≡ phrase y → x ≡ y
phrase_is x y e = cc

pub phrase_read : (x : E) (u : List Spot) → Spells t.expr free 0 x u → read_phrase u ≡ phrase x
unfolding run finished
phrase_read x u p = ap (λ (v : List Spot). run v (want [])) (sym (append-nil u)) ∙ complete t.expr free 0 x u p [] [] (omega arith) refl tt

finished_sound : (f : Stack) (n : ℕ) (x y : E) (u : List Spot) → Over f (Part (bars_of f) n x) u → asked f ≤ n → finished f x ≡ phrase y → Spells t.expr free 0 y u
unfolding finished
finished_sound [] n x y u o le e = subst (λ z. Spells t.expr free 0 z u) (phrase_is x y e) (subst (λ (w : List Spot). Spells t.expr free 0 x w) (sym (o.5 ∙ ap (λ z. z ++ o.1) o.2)) (part_of free n 0 x o.1 o.4 (omega arith)))
finished_sound (g ∷ f) n x y u o le e = go (λ z q i k. finished_sound f (makes g) z y u q i k) (filled g x) refl e
  where
    go : ((z : E) → Over f (Part (bars_of f) (makes g) z) u → asked f ≤ makes g → finished f z ≡ phrase y → Spells t.expr free 0 y u) → (q : Option E) → filled g x ≡ q → elim q [ Some z ↦ finished f z | None ↦ part ] ≡ phrase y → Spells t.expr free 0 y u
    go rec None q e = absurd cc
    go rec (Some z) q e = rec z (inward g f (Part (bars_of (g ∷ f)) n x) (Part (bars_of f) (makes g) z) u o (λ v w j p. plug g f n x z v w q j p le (asked_within g f _ u o))) (asked_within g f _ u o) e

phrase_ends : (s : State) (y : E) (u : List Spot) → StandsFor s u → ending s ≡ phrase y → Spells t.expr free 0 y u
phrase_ends (have x f) y u st e = finished_sound f 16 x y u (over_as f _ _ u st (λ w p. as_part (bars_of f) x w p)) (let a = asked_fits f in omega arith) e
phrase_ends (past x f) y u st e = finished_sound f 14 x y u (over_as f _ _ u st.0 (λ w p. record { spelled = p.0; high = λ h. absurd (cc (h, p.1)) })) st.1 e
phrase_ends (ended x f) y u st e = absurd (no_phrase_all f x y e)
phrase_ends (caught ss n hs f) y u st e = absurd (no_phrase_all f _ y e)
phrase_ends (start (body a_program ss ∷ [])) y u st e = absurd cc
phrase_ends _ y u st e = absurd cc

phrase_sound : (k : List Spot) (s : State) (u : List Spot) (y : E) → StandsFor s u → run k s ≡ phrase y → Spells t.expr free 0 y (u ++ k)
unfolding run
phrase_sound [] s u y st e = rw (append-nil u) (phrase_ends s y u st e)
phrase_sound (c ∷ k) s u y st e = go (λ n q i. phrase_sound k n (u ++ c ∷ []) y q i) (step s c) refl e
  where
    go : ((n : State) → StandsFor n (u ++ c ∷ []) → run k n ≡ phrase y → Spells t.expr free 0 y ((u ++ c ∷ []) ++ k)) → (o : Option State) → step s c ≡ o → goes (run k) (c ∷ k) o ≡ phrase y → Spells t.expr free 0 y (u ++ c ∷ k)
    go rec None q e = absurd cc
    go rec (Some n) q e = subst (λ (z : List Spot). Spells t.expr free 0 y z) (append_assoc u (c ∷ []) k) (rec n (step_sound s c n u st q) e)

pub phrase_spelled : (x : E) (u : List Spot) → read_phrase u ≡ phrase x → Spells t.expr free 0 x u
phrase_spelled x u e = phrase_sound u (want []) [] x (refl, tt) e

pub phrases : (x : E) (u : List Spot) → (read_phrase u ≡ phrase x) ↔ Spells t.expr free 0 x u
phrases x u = (phrase_spelled x u, phrase_read x u)
