-- What is known of a state behind tokens that are read within a limit, of a program or of an expression alone.
use Rattle.std.proofs.Common.{◌≡◌, ℕ, ◌*◌, ◌≤◌, ◌<◌, ◌⊎◌, max, Bool, true, false, cond, ◌&&◌, List, [], ◌∷◌, ◌++◌, Option, Some, None, nat_le, refl, sym, ap, subst, inl, inr, ◌∙◌, arith, append_assoc}
use Rattle.std.proofs.lemmas.Bool.{leb-true, leb-false, le-leb}
use Rattle.std.proofs.lemmas.List.{append-nil}
use Rattle.es3_tree.specs.Tree as t
use Rattle.es3_tree.specs.Placed as tree
use Rattle.es3_tree.specs.Placed.{Placed}
use Rattle.es3_grammar.specs.Spots.{Spot}
use Rattle.es3_grammar.specs.Levels.{E, is_target}
use Rattle.es3_grammar.specs.Grammar.{S, free, Spells}
use Rattle.es3_grammar.specs.Plain.{deep}
use Rattle.es3_grammar.specs.Frames.{stmts_of, a_program, new_of, prefix_step, then_of, else_of, while_body, for_body, in_body, with_body, label_of, body, Stack, State, start, ended, caught, have, past}
use Rattle.es3_grammar.specs.Machine.{caught_made, Answer, whole, phrase, part, stopped, all_of, filled, finished, ending, goes, step, run}
use Rattle.es3_grammar.specs.Ends.{stepped, height_at, height_behind, close, close_statement, height, tail}
use Rattle.es3_grammar.specs.Limit.{turn, most, counted}
use Rattle.es3_grammar.specs.Within.{is_within}
use Rattle.es3_grammar.proofs.Texts.{Kind, programs, phrases, sort, outset, said, said_is}
use Rattle.es3_grammar.proofs.OneTree.{whole_is, spots_read}
use Rattle.es3_grammar.proofs.Exact.{spots_spelled, never_whole}
use Rattle.es3_grammar.proofs.Phrases.{phrase_is, phrase_read, phrase_spelled}
use Rattle.es3_grammar.proofs.Fits.{Fits, step_fits}
use Rattle.es3_grammar.proofs.Viable.{viable}
use Rattle.es3_grammar.proofs.Stops.{goes_by, no_phrase_all}
use Rattle.es3_grammar.proofs.Heights.{stmts_deep, more_behind}
use Rattle.es3_grammar.proofs.Least.{most_low, fill_same, step_least}

-- ---- what is read is what is spelled

-- the tokens spell the text within the limit
pub record SpelledWithin (kind : Kind) (n : ℕ) (x : Placed (sort kind)) (u : List Spot) : Type 0 where
  pub spelled : Spells (sort kind) free 0 x u
  pub shallow : deep (sort kind) x ≤ n
  pub few : most 0 u ≤ 2 * n

-- further tokens make a text of them
abbrev pub Goes : Kind → List Spot → Type 0
Goes kind u = (x : Placed (sort kind)) × (z : List Spot) × Spells (sort kind) free 0 x (u ++ z)

pub spelled_said : (kind : Kind) (x : Placed (sort kind)) (u : List Spot) → Spells (sort kind) free 0 x u → run u (outset kind) ≡ said kind x
spelled_said programs p u h = spots_read p u h
spelled_said phrases x u h = phrase_read x u h

said_spelled : (kind : Kind) (x : Placed (sort kind)) (u : List Spot) → run u (outset kind) ≡ said kind x → Spells (sort kind) free 0 x u
said_spelled programs p u e = spots_spelled p u e
said_spelled phrases x u e = phrase_spelled x u e

said_goes : (kind : Kind) (x : Placed (sort kind)) (k : List Spot) → stopped k ≡ said kind x → ⊥
said_goes programs p k e = cc
said_goes phrases x k e = cc

pub went_on : (kind : Kind) (f : State → Answer) (k : List Spot) (o : Option State) (x : Placed (sort kind)) → goes f k o ≡ said kind x → (s : State) × (o ≡ Some s) × (f s ≡ said kind x)
went_on kind f k None x e = absurd (said_goes kind x k e)
went_on kind f k (Some s) x e = (s, refl, e)

-- ---- a text that is whole ends where it stands

pub record Ending (kind : Kind) (h : ℕ) (z : List Spot) (x : Placed (sort kind)) : Type 0 where
  pub shallow : h ≤ deep (sort kind) x
  pub nothing : z ≡ []

all_ends : (f : Stack) (x : S) (p : Placed t.program) → all_of f x ≡ whole p → Ending programs (height_behind f (deep t.stmt x)) (close_statement f) p
unfolding all_of
all_ends (then_of y ∷ f) x p e = further f _ _ _ p (omega arith) (all_ends f _ p e)
  where
    further : (f : Stack) (h k : ℕ) (z : List Spot) (p : Placed t.program) → h ≤ k → Ending programs (height_behind f k) z p → Ending programs (height_behind f h) z p
    further f h k z p le g = record { shallow = (let m = more_behind f h k le in let s = g.shallow in omega arith); nothing = g.nothing }
all_ends (else_of y r ∷ f) x p e = all_ends f (tree.branch y r (tree.some_stmt x)) p e
all_ends (while_body y ∷ f) x p e = all_ends f (tree.while_loop y x) p e
all_ends (for_body r m n ∷ f) x p e = all_ends f (tree.for_loop r m n x) p e
all_ends (in_body r y ∷ f) x p e = all_ends f (tree.for_in r y x) p e
all_ends (with_body y a ∷ f) x p e = all_ends f (tree.with_object y x a) p e
all_ends (label_of n ∷ f) x p e = all_ends f (tree.label n x) p e
all_ends (body a_program ss ∷ []) x p e = subst (λ p. Ending programs (max (deep t.stmts (stmts_of ss)) (deep t.stmt x)) [] p) (whole_is _ p e) (record { shallow = omega (arith, stmts_deep ss x); nothing = refl })
all_ends _ x p e = absurd cc

program_ends : (s : State) (p : Placed t.program) → ending s ≡ whole p → Ending programs (height s) (tail s) p
program_ends (start (body a_program ss ∷ [])) p e = subst (λ p. Ending programs (max (deep t.stmts (stmts_of ss)) 0) [] p) (whole_is _ p e) (record { shallow = omega arith; nothing = refl })
program_ends (ended x f) p e = all_ends f x p e
program_ends (caught ss n hs f) p e = again f _ _ _ p (omega arith) (all_ends f (caught_made ss n hs) p e)
  where
    again : (f : Stack) (h k : ℕ) (z : List Spot) (p : Placed t.program) → h ≤ k → Ending programs (height_behind f k) z p → Ending programs (height_behind f h) z p
    again f h k z p le g = record { shallow = (let m = more_behind f h k le in let s = g.shallow in omega arith); nothing = g.nothing }
program_ends (have x f) p e = absurd (never_whole f x p e)
program_ends (past x f) p e = absurd (never_whole f x p e)
program_ends _ p e = absurd cc

-- behind `new` within a prefix `++` no part that is no target is whole
stuck_end : (f : Stack) (y z : E) → stepped f ≡ true → is_target y ≡ false → finished f y ≡ phrase z → ⊥
unfolding finished
stuck_end [] y z h g e = cc
stuck_end (new_of ∷ f) y z h g e = stuck_end f (tree.new y tree.no_exprs) z h refl e
stuck_end (prefix_step up ∷ f) y z h g e = no_target (is_target y) g e
  where
    no_target : (b : Bool) → b ≡ false → elim (cond b (Some (tree.step up true y)) None) [ Some x ↦ finished f x | None ↦ part ] ≡ phrase z → ⊥
    no_target true g e = cc
    no_target false g e = cc
stuck_end (_ ∷ f) y z h g e = absurd cc

part_ends : (f : Stack) (x y : E) → finished f x ≡ phrase y → Ending phrases (height_at (is_target x) f (deep t.expr x)) (close (is_target x) f) y
unfolding finished
part_ends [] x y e = subst (λ z. Ending phrases (deep t.expr x) [] z) (phrase_is x y e) (record { shallow = omega arith; nothing = refl })
part_ends (g ∷ f) x y e = go (λ z k. part_ends f z y k) (filled g x) refl e
  where
    go : ((z : E) → finished f z ≡ phrase y → Ending phrases (height_at (is_target z) f (deep t.expr z)) (close (is_target z) f) y) → (o : Option E) → filled g x ≡ o → elim o [ Some z ↦ finished f z | None ↦ part ] ≡ phrase y
        → Ending phrases (height_at (is_target x) (g ∷ f) (deep t.expr x)) (close (is_target x) (g ∷ f)) y
    go rec None q e = absurd cc
    go rec (Some z) q e = let m = fill_same g f x z q (λ h i. stuck_end f z y h i e) in let r = rec z e in record { shallow = (let a = m.higher in let b = r.shallow in omega arith); nothing = m.same ∙ r.nothing }

phrase_ends : (s : State) (y : E) → ending s ≡ phrase y → Ending phrases (height s) (tail s) y
phrase_ends (have x f) y e = part_ends f x y e
phrase_ends (past x f) y e = part_ends f x y e
phrase_ends (ended x f) y e = absurd (no_phrase_all f x y e)
phrase_ends (caught ss n hs f) y e = absurd (no_phrase_all f _ y e)
phrase_ends (start (body a_program ss ∷ [])) y e = absurd cc
phrase_ends _ y e = absurd cc

pub state_ends : (kind : Kind) (s : State) (x : Placed (sort kind)) → ending s ≡ said kind x → Ending kind (height s) (tail s) x
state_ends programs s p e = program_ends s p e
state_ends phrases s y e = phrase_ends s y e

-- ---- brackets along a text

pub most_split : (u z : List Spot) (o : ℕ) → most o (u ++ z) ≡ max (most o u) (most (counted o u) z)
most_split [] z o = omega (arith, most_low z o)
most_split (c ∷ u) z o = omega (arith, most_split u z (turn o c))

pub counted_on : (u : List Spot) (c : Spot) (o : ℕ) → counted o (u ++ c ∷ []) ≡ turn (counted o u) c
counted_on [] c o = refl
counted_on (d ∷ u) c o = counted_on u c (turn o d)

pub counted_low : (u : List Spot) (o : ℕ) → counted o u ≤ most o u
counted_low [] o = omega arith
counted_low (c ∷ u) o = omega (arith, counted_low u (turn o c))

-- ---- within the limit

pub passes : (n o : ℕ) (s : State) → height s ≤ n → most o (tail s) ≤ 2 * n → is_within n o s ≡ true
passes n o s h m = rw (le-leb (height s) n h, le-leb (most o (tail s)) (2 * n) m) refl

passed : (n o : ℕ) (s : State) → is_within n o s ≡ true → (height s ≤ n) × (most o (tail s) ≤ 2 * n)
passed n o s e = let g = both (nat_le (height s) n) (nat_le (most o (tail s)) (2 * n)) e in (leb-true (height s) n g.0, leb-true (most o (tail s)) (2 * n) g.1)
  where
    both : (a b : Bool) → (a && b) ≡ true → (a ≡ true) × (b ≡ true)
    both true b e = (refl, e)
    both false b e = absurd cc

failed : (n o : ℕ) (s : State) → is_within n o s ≡ false → (n < height s) ⊎ (2 * n < most o (tail s))
failed n o s e = either_fails (nat_le (height s) n) refl (nat_le (most o (tail s)) (2 * n)) refl e
  where
    either_fails : (a : Bool) → nat_le (height s) n ≡ a → (b : Bool) → nat_le (most o (tail s)) (2 * n) ≡ b → (a && b) ≡ false → (n < height s) ⊎ (2 * n < most o (tail s))
    either_fails false p b q e = inl (leb-false (height s) n p)
    either_fails true p false q e = inr (leb-false (most o (tail s)) (2 * n) q)
    either_fails true p true q e = absurd cc

module _ (kind : Kind) where
  -- ---- the shortest end is the least

  pub record Least (s : State) (z : List Spot) (x : Placed (sort kind)) : Type 0 where
    pub shallow : height s ≤ deep (sort kind) x
    pub few : (o : ℕ) → most o (tail s) ≤ most o z

  pub run_least : (z : List Spot) (s : State) (x : Placed (sort kind)) → Fits kind s → run z s ≡ said kind x → Least s z x
  unfolding run
  run_least [] s x h e = let g = state_ends kind s x e in record { shallow = g.shallow; few = λ o. subst (λ (w : List Spot). most o w ≤ o) (sym g.nothing) (omega arith) }
  run_least (c ∷ z) s x h e = let w = went_on kind (run z) (c ∷ z) (step s c) x e in
      let m = step_least kind s c w.0 h w.1 in let r = run_least z w.0 x (step_fits kind s c w.0 h w.1) w.2 in
      record { shallow = (let a = m.higher in let b = r.shallow in omega arith); few = λ o. (let a = m.wider o in let b = r.few (turn o c) in omega arith) }

  -- a text that stands is as deep as its state says
  end_deep : (s : State) (x : Placed (sort kind)) → Fits kind s → ending s ≡ said kind x → deep (sort kind) x ≤ height s
  unfolding run
  end_deep s x h e = let v = viable kind s h in let g = state_ends kind s x e in
      let i : said kind v.made ≡ said kind x = sym v.reads ∙ ap (λ (w : List Spot). run w s) g.nothing ∙ e in
      subst (λ y. deep (sort kind) y ≤ height s) (said_is kind v.made x i) v.fits

  -- what is known behind the tokens u
  pub record Known (n : ℕ) (u : List Spot) (s : State) : Type 0 where
    pub come : (z : List Spot) → run (u ++ z) (outset kind) ≡ run z s
    pub fits : Fits kind s
    pub shallow : height s ≤ n
    pub few : most 0 u ≤ 2 * n
    pub fewer : most (counted 0 u) (tail s) ≤ 2 * n

  come_on : (u : List Spot) (s r : State) (c : Spot) → ((z : List Spot) → run (u ++ z) (outset kind) ≡ run z s) → step s c ≡ Some r → (z : List Spot) → run ((u ++ c ∷ []) ++ z) (outset kind) ≡ run z r
  come_on u s r c come e z = ap (λ (v : List Spot). run v (outset kind)) (append_assoc u (c ∷ []) z) ∙ come (c ∷ z) ∙ goes_by c z s r e

  pub known_more : (n : ℕ) (u : List Spot) (s r : State) (c : Spot) → Known n u s → step s c ≡ Some r → is_within n (turn (counted 0 u) c) r ≡ true → Known n (u ++ c ∷ []) r
  known_more n u s r c k e w = let g = passed n (turn (counted 0 u) c) r w in record {
    come = come_on u s r c k.come e;
    fits = step_fits kind s c r k.fits e;
    shallow = g.0;
    few = (let a = k.few in let b = counted_low u 0 in let d = most_low (tail r) (turn (counted 0 u) c) in let i = g.1 in omega (arith, most_split u (c ∷ []) 0));
    fewer = subst (λ (x : ℕ). most x (tail r) ≤ 2 * n) (sym (counted_on u c 0)) g.1;
  }

  pub known_begins : (n : ℕ) (u : List Spot) (s : State) → Known n u s → (x : Placed (sort kind)) × (z : List Spot) × SpelledWithin kind n x (u ++ z)
  known_begins n u s k = let v = viable kind s k.fits in (
    v.made,
    tail s,
    record {
      spelled = said_spelled kind v.made (u ++ tail s) (k.come (tail s) ∙ v.reads);
      shallow = (let a = v.fits in let b = k.shallow in omega arith);
      few = (let a = k.few in let b = k.fewer in omega (arith, most_split u (tail s) 0));
    },
  )

  pub known_ending : (n : ℕ) (u : List Spot) (s : State) → Known n u s → run u (outset kind) ≡ ending s
  unfolding run
  known_ending n u s k = ap (λ (z : List Spot). run z (outset kind)) (sym (append-nil u)) ∙ k.come []

  pub known_whole : (n : ℕ) (u : List Spot) (s : State) (x : Placed (sort kind)) → Known n u s → ending s ≡ said kind x → SpelledWithin kind n x u
  known_whole n u s x k e = record {
    spelled = said_spelled kind x u (known_ending n u s k ∙ e);
    shallow = (let d = end_deep s x k.fits e in let b = k.shallow in omega arith);
    few = k.few;
  }

  -- no text goes on with a token that is refused
  pub known_stops : (n : ℕ) (u : List Spot) (s : State) (c : Spot) → Known n u s → step s c ≡ None → Goes kind (u ++ c ∷ []) → ⊥
  unfolding run
  known_stops n u s c k e b =
      let one : run ((u ++ c ∷ []) ++ b.1) (outset kind) ≡ said kind b.0 = spelled_said kind b.0 _ b.2 in
      let two : run ((u ++ c ∷ []) ++ b.1) (outset kind) ≡ stopped (c ∷ b.1) = ap (λ (w : List Spot). run w (outset kind)) (append_assoc u (c ∷ []) b.1) ∙ k.come (c ∷ b.1) ∙ stops s e b.1 in
      said_goes kind b.0 (c ∷ b.1) (sym two ∙ one)
    where
      stops : (s : State) → step s c ≡ None → (z : List Spot) → run (c ∷ z) s ≡ stopped (c ∷ z)
      stops s e z = rw e refl

  -- with one that leads to a state past the limit only deeper texts do
  pub known_deepens : (n : ℕ) (u : List Spot) (s r : State) (c : Spot) → Known n u s → step s c ≡ Some r → Goes kind (u ++ c ∷ [])
  known_deepens n u s r c k e = let v = viable kind r (step_fits kind s c r k.fits e) in
      (v.made, tail r, said_spelled kind v.made ((u ++ c ∷ []) ++ tail r) (come_on u s r c k.come e (tail r) ∙ v.reads))

  pub known_passes : (n : ℕ) (u : List Spot) (s r : State) (c : Spot) → Known n u s → step s c ≡ Some r → is_within n (turn (counted 0 u) c) r ≡ false
      → (x : Placed (sort kind)) (z : List Spot) → SpelledWithin kind n x ((u ++ c ∷ []) ++ z) → ⊥
  known_passes n u s r c k e w x z i =
      let l = run_least z r x (step_fits kind s c r k.fits e) (sym (come_on u s r c k.come e z) ∙ spelled_said kind x _ i.spelled) in
      let few = i.few in let shallow = i.shallow in let less = l.few (turn (counted 0 u) c) in
      elim (failed n (turn (counted 0 u) c) r w) [
        | inl q ↦ (let a = l.shallow in omega arith)
        | inr q ↦ omega (arith, most_split (u ++ c ∷ []) z 0, ap (λ (x : ℕ). most x z) (counted_on u c 0))
      ]
