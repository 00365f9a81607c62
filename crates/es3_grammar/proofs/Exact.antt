-- The tokens that are read are those that are spelled.
use Rattle.es3_grammar.specs.Levels.{E}
use Rattle.std.proofs.Common.{◌≡◌, ◌↔◌, List, [], ◌∷◌, ◌++◌, Option, Some, None, refl, sym, ap, subst, ◌∙◌, arith, append_assoc}
use Rattle.std.proofs.lemmas.List.{append-nil}
use Rattle.es3_tree.specs.Tree as t
use Rattle.es3_tree.specs.Placed as tree
use Rattle.es3_tree.specs.Placed.{Placed}
use Rattle.es3_tokens.specs.Tokens as tokens
use Rattle.es3_grammar.specs.Spots.{Spot, spots}
use Rattle.es3_grammar.specs.Grammar.{S, free, Spells, s_script, s_no_stmts, spells}
use Rattle.es3_grammar.specs.Frames.{stmts_of, a_program, then_of, else_of, while_body, for_body, in_body, with_body, label_of, body, Stack, State, start, ended, caught, have, past}
use Rattle.es3_grammar.specs.Machine.{caught_made, Answer, whole, all_of, ending, goes, step, run, beginning, read, finished, filled, part}
use Rattle.es3_grammar.proofs.Longer.{stmts_so}
use Rattle.es3_grammar.proofs.Stands.{Leads, Stands, Over, StandsFor}
use Rattle.es3_grammar.proofs.SoundParts.{over_as, inward}
use Rattle.es3_grammar.proofs.Sound.{step_sound, caught_spelled, then_spelled, else_spelled, while_spelled, for_spelled, in_spelled, with_spelled, label_spelled}
use Rattle.es3_grammar.proofs.OneTree.{whole_is, spots_read}

program_sound : (ss : List S) (u : List Spot) (p : Placed t.program) → Stands (body a_program ss ∷ []) u → whole (tree.script (stmts_of ss)) ≡ whole p → Spells t.program free 0 p u
program_sound ss u p st e = let i = st.3 in subst (λ p. Spells t.program free 0 p u) (whole_is _ p e)
    (s_script (stmts_of ss) u (subst (λ (z : List Spot). Spells t.stmts free 1 (stmts_of ss) z) (sym (st.6 ∙ ap (λ z. z ++ st.1) st.2 ∙ i.4 ∙ ap (λ z. z ++ i.1) i.2)) i.3))

all_sound : (f : Stack) (x : S) (p : Placed t.program) (u : List Spot) → Over f (Spells t.stmt free 0 x) u → all_of f x ≡ whole p → Spells t.program free 0 p u
unfolding all_of
all_sound (then_of y ∷ f) x p u o e = all_sound f _ p u (inward (then_of y) f _ _ u o (then_spelled f y x)) e
all_sound (else_of y r ∷ f) x p u o e = all_sound f _ p u (inward (else_of y r) f _ _ u o (else_spelled f y r x)) e
all_sound (while_body y ∷ f) x p u o e = all_sound f _ p u (inward (while_body y) f _ _ u o (while_spelled f y x)) e
all_sound (for_body r m n ∷ f) x p u o e = all_sound f _ p u (inward (for_body r m n) f _ _ u o (for_spelled f r m n x)) e
all_sound (in_body r y ∷ f) x p u o e = all_sound f _ p u (inward (in_body r y) f _ _ u o (in_spelled f r y x)) e
all_sound (with_body y a ∷ f) x p u o e = all_sound f _ p u (inward (with_body y a) f _ _ u o (with_spelled f y a x)) e
all_sound (label_of n ∷ f) x p u o e = all_sound f _ p u (inward (label_of n) f _ _ u o (label_spelled f n x)) e
all_sound (body a_program ss ∷ []) x p u o e = program_sound (ss ++ x ∷ []) u p
    (let m = inward (body a_program ss) [] (Spells t.stmt free 0 x) (Leads [] (body a_program (ss ++ x ∷ []))) u o (λ v w i q. (i.0, i.1 ++ w, i.2, stmts_so 1 ss i.1 x w i.3 q, ap (λ z. z ++ w) i.4 ∙ append_assoc i.0 i.1 w)) in (m.0, m.1, m.2, m.4, omega arith, m.3, m.5)) e
all_sound _ x p u o e = absurd cc

-- an expression alone is no program
pub never_whole : (f : Stack) (x : E) (p : Placed t.program) → finished f x ≡ whole p → ⊥
unfolding finished
never_whole [] x p e = cc
never_whole (g ∷ f) x p e = go (λ y k. never_whole f y p k) (filled g x) e
  where
    go : ((y : E) → finished f y ≡ whole p → ⊥) → (o : Option E) → elim o [ Some y ↦ finished f y | None ↦ part ] ≡ whole p → ⊥
    go rec None e = cc
    go rec (Some y) e = rec y e

ending_sound : (s : State) (u : List Spot) (p : Placed t.program) → StandsFor s u → ending s ≡ whole p → Spells t.program free 0 p u
ending_sound (start (body a_program ss ∷ [])) u p st e = program_sound ss u p st.0 e
ending_sound (ended x f) u p st e = all_sound f x p u (over_as f _ _ u st (λ w i. i.0)) e
ending_sound (caught ss n hs f) u p st e = all_sound f (caught_made ss n hs) p u (over_as f _ _ u st (λ w i. caught_spelled ss n (stmts_of hs) w i)) e
ending_sound (have x f) u p st e = absurd (never_whole f x p e)
ending_sound (past x f) u p st e = absurd (never_whole f x p e)
ending_sound _ u p st e = absurd cc

pub went : (f : State → Answer) (k : List Spot) (o : Option State) (p : Placed t.program) → goes f k o ≡ whole p → (s : State) × (o ≡ Some s) × (f s ≡ whole p)
went f k None p e = absurd cc
went f k (Some s) p e = (s, refl, e)

pub sound : (k : List Spot) (s : State) (u : List Spot) (p : Placed t.program) → StandsFor s u → run k s ≡ whole p → Spells t.program free 0 p (u ++ k)
unfolding run
sound [] s u p st e = rw (append-nil u) (ending_sound s u p st e)
sound (c ∷ k) s u p st e =
    let w = went (run k) (c ∷ k) (step s c) p e in
    rw (sym (append_assoc u (c ∷ []) k)) (sound k w.0 (u ++ c ∷ []) p (step_sound s c w.0 u st w.1) w.2)

pub spots_spelled : (p : Placed t.program) (u : List Spot) → read u ≡ whole p → Spells t.program free 0 p u
spots_spelled p u e = sound u beginning [] p (([], [], refl, ([], [], refl, s_no_stmts 1, refl), omega arith, tt, refl), tt) e

pub reading : (p : Placed t.program) (ts : List tokens.Placed) → (read (spots ts) ≡ whole p) ↔ spells p ts
reading p ts = (spots_spelled p (spots ts), spots_read p (spots ts))
