-- How the machine ends, and how it goes on.
use Rattle.std.proofs.Common.{◌≡◌, ℕ, suc, ◌+◌, ◌<◌, ◌≤◌, true, false, Some, None, List, [], ◌∷◌, refl, sym, ap, ◌∙◌, length, drop, arith}
use Rattle.std.specs.Prelude.{if◌then◌else◌, get_or}
use Rattle.std.proofs.Math.Seq.{drop-cons}
use Rattle.std.proofs.lemmas.List.{length-drop}
use Rattle.css_grammar.specs.Characters.{class}
use Rattle.css_grammar.specs.Sheets as s
use Rattle.css_grammar.specs.Grammar as g
use Rattle.css_grammar.specs.Machine as m
use Rattle.css_reader.specs.Gives.{both_empty, Ends, Gives}
use Rattle.css_reader.specs.declared.reading.Answer.{Answer}
use Rattle.css_reader.specs.declared.reading.Answer.TheVariants as a

pub ending_by : (rs : List s.Rule) (ss : List (List ℕ)) (t : List ℕ) → m.ending (m.at (g.selecting g.wanted rs ss t)) ≡ (if both_empty ss t then m.sheet rs else m.part)
ending_by rs [] [] = refl
ending_by rs [] (c ∷ t) = refl
ending_by rs (x ∷ ss) t = refl

pub ending_yes : (rs : List s.Rule) (ss : List (List ℕ)) (t : List ℕ) → both_empty ss t ≡ true → m.ending (m.at (g.selecting g.wanted rs ss t)) ≡ m.sheet rs
ending_yes rs ss t e = ending_by rs ss t ∙ ap (λ b. if b then m.sheet rs else m.part) e

pub ending_no : (rs : List s.Rule) (ss : List (List ℕ)) (t : List ℕ) → both_empty ss t ≡ false → m.ending (m.at (g.selecting g.wanted rs ss t)) ≡ m.part
ending_no rs ss t e = ending_by rs ss t ∙ ap (λ b. if b then m.sheet rs else m.part) e

pub goes_on : (i c d : ℕ) (u : List ℕ) (x y : m.State) (a : m.Answer) → i < length u → c ≡ get_or u i d → m.run (drop i u) x ≡ a → Some y ≡ m.step x (class c) c → m.run (drop (i + 1) u) y ≡ a
unfolding m.run
goes_on i c d u x y a lt e f h =
    let j : suc i ≡ i + 1 = omega arith in
    sym (ap (λ k. m.run (drop k u) y) j) ∙ (ap (m.goes (m.run (drop (suc i) u)) (c ∷ drop (suc i) u)) h
    ∙ (sym (ap (λ v. m.run v x) (drop-cons u i d lt ∙ ap (λ z. z ∷ drop (suc i) u) (sym e))) ∙ f))

pub stops : (i c d : ℕ) (u : List ℕ) (x : m.State) (a : m.Answer) → i < length u → c ≡ get_or u i d → m.run (drop i u) x ≡ a → None ≡ m.step x (class c) c → a ≡ m.stopped (drop i u)
unfolding m.run
stops i c d u x a lt e f h =
    let q : drop i u ≡ c ∷ drop (suc i) u = drop-cons u i d lt ∙ ap (λ z. z ∷ drop (suc i) u) (sym e) in
    sym f ∙ (ap (λ v. m.run v x) q ∙ (sym (ap (m.goes (m.run (drop (suc i) u)) (c ∷ drop (suc i) u)) h) ∙ ap m.stopped (sym q)))

run_ended : (x : m.State) (v : List ℕ) → length v ≡ 0 → m.run v x ≡ m.ending x
unfolding m.run
run_ended x [] e = refl
run_ended x (c ∷ v) e = absurd (omega arith)

pub gives_end : (r : Answer) (i : ℕ) (u : List ℕ) (x : m.State) → length u ≤ i → Ends r (m.ending x) → m.run (drop i u) x ≡ m.read u → Gives r u
gives_end (a.Sheet rs) i u x le e f = sym f ∙ (run_ended x (drop i u) (omega (arith, length-drop i u)) ∙ e)
gives_end a.Part i u x le e f = sym f ∙ (run_ended x (drop i u) (omega (arith, length-drop i u)) ∙ e)
gives_end (a.Stopped j) i u x le e f = absurd e
