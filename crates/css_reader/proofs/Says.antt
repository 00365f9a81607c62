-- What the reading from left to right says of a text, in the words of the grammar.
use Rattle.std.proofs.Common.{◌≡◌, inr, ℕ, ◌+◌, List, [], ◌∷◌, ◌++◌, sym, ap, subst, ◌∙◌, length, take, drop, arith, append_assoc}
use Rattle.std.specs.Prelude.{get_or}
use Rattle.std.proofs.lemmas.List.{length-drop, length-append}
use Rattle.std.proofs.Math.Seq.{take-append_seam}
use Rattle.css_grammar.specs.Grammar.{Begins}
use Rattle.css_grammar.specs.Refusals.{width}
use Rattle.css_grammar.proofs.Sound.{read_spelled}
use Rattle.css_grammar.proofs.Viable.{stops_exactly}
use Rattle.css_grammar.proofs.Refusals.{refused_part}
use Rattle.css_tree.specs.Views.{rules_of}
use Rattle.css_tree.specs.declared.CssError.{CssError}
use Rattle.css_tree.specs.declared.CssError.TheVariants as e
use Rattle.css_reader.specs.Gives.{Gives, Says, StopsIn, Refuses, Fails}
use Rattle.css_reader.specs.declared.reading.Answer.{Answer}
use Rattle.css_reader.specs.declared.reading.Answer.TheVariants as a

place_of : (i : ℕ) (u w z : List ℕ) (c : ℕ) → u ≡ w ++ c ∷ z → drop i u ≡ c ∷ z → i ≡ length w
place_of i u w z c e f = omega (arith, ap length e, ap length f, length-drop i u, length-append w (c ∷ z))

pub gives_says : (r : Answer) (u : List ℕ) → Gives r u → Says r u
gives_says (a.Sheet rs) u e = read_spelled u (rules_of rs.items) e
gives_says a.Part u e = refused_part u e
gives_says (a.Stopped i) u e =
    let x = stops_exactly u (drop i u) e in
    let p : i ≡ length x.0 = place_of i u x.0 x.2 x.1 x.3 x.4 in
    let front : take i u ≡ x.0 = ap (λ j. take j u) p ∙ (ap (take (length x.0)) x.3 ∙ take-append_seam x.0 (x.1 ∷ x.2)) in
    let more : take (i + 1) u ≡ x.0 ++ x.1 ∷ [] =
    ap (λ j. take j u) (let q : i + 1 ≡ length (x.0 ++ x.1 ∷ []) = omega (arith, length-append x.0 (x.1 ∷ [])) in q) ∙ (ap (take (length (x.0 ++ x.1 ∷ []))) (x.3 ∙ sym (append_assoc x.0 (x.1 ∷ []) x.2)) ∙ take-append_seam (x.0 ++ x.1 ∷ []) x.2) in
    (omega (arith, p, ap length x.3, length-append x.0 (x.1 ∷ x.2)), subst Begins (sym front) x.5.0, λ b. x.5.1 (subst Begins more b))

-- the refusal of the unit at i is told of its byte
pub fails_at : (r : CssError) (u : List ℕ) (i q : ℕ) → StopsIn u i → q ≡ width (take i u) → Refuses r (get_or u i 0) q → Fails r u
fails_at (e.Syntax p) u i q s f h = inr (i, s, subst (Refuses (e.Syntax p) (get_or u i 0)) f h)
fails_at (e.Escape p) u i q s f h = (i, s, subst (Refuses (e.Escape p) (get_or u i 0)) f h)
fails_at (e.AtRule p) u i q s f h = (i, s, subst (Refuses (e.AtRule p) (get_or u i 0)) f h)
fails_at e.Memory u i q s f h = absurd h
