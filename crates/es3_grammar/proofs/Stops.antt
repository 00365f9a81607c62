-- Reading stops at the first token that no program has after the tokens before it.
use Rattle.es3_grammar.specs.Levels.{E}
use Rattle.es3_grammar.specs.Ends.{tail}
use Rattle.std.proofs.Common.{◌≡◌, ◌⊎◌, List, [], ◌∷◌, ◌++◌, Option, Some, None, refl, sym, ap, subst, inl, inr, ◌∙◌, append_assoc}
use Rattle.es3_grammar.specs.Spots.{Spot}
use Rattle.es3_grammar.specs.Grammar.{S}
use Rattle.es3_grammar.specs.Frames.{a_program, then_of, else_of, while_body, for_body, in_body, with_body, label_of, body, Stack, State, start, ended, caught, have, past}
use Rattle.es3_grammar.specs.Machine.{Answer, whole, part, stopped, all_of, ending, goes, step, run, beginning, read, finished, filled, phrase}
use Rattle.es3_grammar.specs.Begins.{Begins, StopsAt}
use Rattle.es3_grammar.proofs.OneTree.{spots_read}
use Rattle.es3_grammar.proofs.Exact.{spots_spelled}
use Rattle.es3_grammar.proofs.Texts.{programs}
use Rattle.es3_grammar.proofs.Fits.{Fits, step_fits, Expects, filled_fits}
use Rattle.es3_grammar.proofs.Viable.{viable}

-- where reading goes no further
pub record Halt (s : State) (u r : List Spot) : Type 0 where
  pub front : List Spot
  pub token : Spot
  pub rest : List Spot
  pub last : State
  pub parts : u ≡ front ++ token ∷ rest
  pub at : r ≡ token ∷ rest
  pub fits : Fits programs last
  pub come : (z : List Spot) → run (front ++ z) s ≡ run z last
  pub refused : step last token ≡ None

halts_here : (f : State → Answer) (c : Spot) (k r : List Spot) (o : Option State) → goes f (c ∷ k) o ≡ stopped r → ((o ≡ None) × (r ≡ c ∷ k)) ⊎ ((s : State) × (o ≡ Some s) × (f s ≡ stopped r))
halts_here f c k r None e = inl (refl, cc)
halts_here f c k r (Some s) e = inr (s, refl, e)

never_all : (f : Stack) (x : S) (r : List Spot) → all_of f x ≡ stopped r → ⊥
unfolding all_of
never_all (then_of y ∷ f) x r e = never_all f _ r e
never_all (else_of y z ∷ f) x r e = never_all f _ r e
never_all (while_body y ∷ f) x r e = never_all f _ r e
never_all (for_body i m n ∷ f) x r e = never_all f _ r e
never_all (in_body i y ∷ f) x r e = never_all f _ r e
never_all (with_body y a ∷ f) x r e = never_all f _ r e
never_all (label_of n ∷ f) x r e = never_all f _ r e
never_all (body a_program ss ∷ []) x r e = cc
never_all _ x r e = cc

never_part : (f : Stack) (x : E) (r : List Spot) → finished f x ≡ stopped r → ⊥
unfolding finished
never_part [] x r e = cc
never_part (g ∷ f) x r e = go (λ y k. never_part f y r k) (filled g x) e
  where
    go : ((y : E) → finished f y ≡ stopped r → ⊥) → (o : Option E) → elim o [ Some y ↦ finished f y | None ↦ part ] ≡ stopped r → ⊥
    go rec None e = cc
    go rec (Some y) e = rec y e

pub never : (s : State) (r : List Spot) → ending s ≡ stopped r → ⊥
never (ended x f) r e = never_all f x r e
never (caught ss n hs f) r e = never_all f _ r e
never (start (body a_program ss ∷ [])) r e = cc
never (have x f) r e = never_part f x r e
never (past x f) r e = never_part f x r e
never _ r e = cc

pub goes_by : (c : Spot) (k : List Spot) (s n : State) → step s c ≡ Some n → run (c ∷ k) s ≡ run k n
unfolding run
goes_by c k s n e = rw e refl

pub halt : (u : List Spot) (s : State) (r : List Spot) → Fits programs s → run u s ≡ stopped r → Halt s u r
unfolding run
halt [] s r h e = absurd (never s r e)
halt (c ∷ u) s r h e =
    elim (halts_here (run u) c u r (step s c) e) [
      | inl p ↦ record { front = []; token = c; rest = u; last = s; parts = refl; at = p.1; fits = h; come = λ z. refl; refused = p.0 }
      | inr p ↦ (let q = halt u p.0 r (step_fits programs s c p.0 h p.1) p.2 in record { front = c ∷ q.front; token = q.token; rest = q.rest; last = q.last; parts = ap (λ (v : List Spot). c ∷ v) q.parts; at = q.at; fits = q.fits; come = λ z. goes_by c (q.front ++ z) s p.0 p.1 ∙ q.come z; refused = q.refused })
    ]

stopped_is : (c d : Spot) (k l : List Spot) → c ∷ k ≡ d ∷ l → (c ≡ d) × (k ≡ l)
stopped_is c d k l e = (cc, cc)

-- what a state that is reached goes on to
pub begins_at : (u : List Spot) (s : State) → Fits programs s → ((z : List Spot) → run (u ++ z) beginning ≡ run z s) → Begins u
begins_at u s h come = let y = viable programs s h in (y.made, tail s, spots_spelled y.made (u ++ tail s) (come (tail s) ∙ y.reads))

pub stops_exactly : (u : List Spot) (c : Spot) (k : List Spot) → read u ≡ stopped (c ∷ k) → StopsAt u c k
unfolding run
stops_exactly u c k e =
    let q = halt u beginning (c ∷ k) refl e in
    let i = stopped_is c q.token k q.rest q.at in
    record {
      front = q.front;
      parts = q.parts ∙ ap (λ (z : Spot). q.front ++ z ∷ q.rest) (sym i.0) ∙ ap (λ (z : List Spot). q.front ++ c ∷ z) (sym i.1);
      begins = begins_at q.front q.last q.fits q.come;
      ends = λ b. (let one : run ((q.front ++ c ∷ []) ++ b.1) beginning ≡ whole b.0 = spots_read b.0 _ b.2 in
          let two : run ((q.front ++ c ∷ []) ++ b.1) beginning ≡ stopped (c ∷ b.1) = ap (λ (w : List Spot). run w beginning) (append_assoc q.front (c ∷ []) b.1) ∙ q.come (c ∷ b.1) ∙ refused_so q.last (subst (λ (z : Spot). step q.last z ≡ None) (sym i.0) q.refused) b.1 in
          absurd (cc (one, two)));
    }
  where
    refused_so : (s : State) → step s c ≡ None → (z : List Spot) → run (c ∷ z) s ≡ stopped (c ∷ z)
    refused_so s e z = rw e refl

-- tokens that break off begin a program
pub part_begins : (u : List Spot) (s : State) → Fits programs s → (r : Answer) → run u s ≡ r → r ≡ part → (n : State) × Fits programs n × ((z : List Spot) → run (u ++ z) s ≡ run z n)
unfolding run
part_begins [] s h r e p = (s, h, λ z. refl)
part_begins (c ∷ u) s h r e p = go (λ n k q. part_begins u n k part q refl) (step s c) refl (e ∙ p)
  where
    go : ((n : State) → Fits programs n → run u n ≡ part → (m : State) × Fits programs m × ((z : List Spot) → run (u ++ z) n ≡ run z m)) → (o : Option State) → step s c ≡ o → goes (run u) (c ∷ u) o ≡ part → (n : State) × Fits programs n × ((z : List Spot) → run ((c ∷ u) ++ z) s ≡ run z n)
    go rec None i e = absurd cc
    go rec (Some n) i e = let m = rec n (step_fits programs s c n h i) e in (m.0, m.1, λ z. goes_by c (u ++ z) s n i ∙ m.2 z)

pub breaks_off : (u : List Spot) → read u ≡ part → Begins u
breaks_off u e = let m = part_begins u beginning refl part e refl in begins_at u m.0 m.1 m.2

-- a program's tokens are never an expression alone
no_phrase : (f : Stack) (x y : E) → Expects programs f → finished f x ≡ phrase y → ⊥
unfolding finished
no_phrase [] x y h e = cc
no_phrase (g ∷ f) x y h e = go (λ z k i. no_phrase f z y k i) (filled g x) refl e
  where
    go : ((z : E) → Expects programs f → finished f z ≡ phrase y → ⊥) → (o : Option E) → filled g x ≡ o → elim o [ Some z ↦ finished f z | None ↦ part ] ≡ phrase y → ⊥
    go rec None q e = cc
    go rec (Some z) q e = rec z (filled_fits programs g f x z q h) e

pub no_phrase_all : (f : Stack) (x : S) (y : E) → all_of f x ≡ phrase y → ⊥
unfolding all_of
no_phrase_all (then_of z ∷ f) x y e = no_phrase_all f _ y e
no_phrase_all (else_of z q ∷ f) x y e = no_phrase_all f _ y e
no_phrase_all (while_body z ∷ f) x y e = no_phrase_all f _ y e
no_phrase_all (for_body i m n ∷ f) x y e = no_phrase_all f _ y e
no_phrase_all (in_body i z ∷ f) x y e = no_phrase_all f _ y e
no_phrase_all (with_body z a ∷ f) x y e = no_phrase_all f _ y e
no_phrase_all (label_of n ∷ f) x y e = no_phrase_all f _ y e
no_phrase_all (body a_program ss ∷ []) x y e = cc
no_phrase_all _ x y e = cc

no_phrase_ends : (s : State) (y : E) → Fits programs s → ending s ≡ phrase y → ⊥
no_phrase_ends (have x f) y h e = no_phrase f x y h e
no_phrase_ends (past x f) y h e = no_phrase f x y h.0 e
no_phrase_ends (ended x f) y h e = no_phrase_all f x y e
no_phrase_ends (caught ss n hs f) y h e = no_phrase_all f _ y e
no_phrase_ends (start (body a_program ss ∷ [])) y h e = cc
no_phrase_ends _ y h e = cc

no_phrase_run : (u : List Spot) (s : State) (y : E) → Fits programs s → run u s ≡ phrase y → ⊥
unfolding run
no_phrase_run [] s y h e = no_phrase_ends s y h e
no_phrase_run (c ∷ u) s y h e = go (λ n k i. no_phrase_run u n y k i) (step s c) refl e
  where
    go : ((n : State) → Fits programs n → run u n ≡ phrase y → ⊥) → (o : Option State) → step s c ≡ o → goes (run u) (c ∷ u) o ≡ phrase y → ⊥
    go rec None q e = cc
    go rec (Some n) q e = rec n (step_fits programs s c n h q) e

pub no_program_is_a_phrase : (u : List Spot) (y : E) → read u ≡ phrase y → ⊥
no_program_is_a_phrase u y e = no_phrase_run u beginning y refl e
