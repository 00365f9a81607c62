-- Each text spells a sheet or is refused, and that once.
use Rattle.std.proofs.Common.{◌≡◌, ◌⊎◌, inl, inr, ℕ, List, [], ◌∷◌, ◌++◌, refl, sym, ap, subst, ◌∙◌, append_assoc}
use Rattle.css_grammar.specs.Sheets.{Text, Rule}
use Rattle.css_grammar.specs.Grammar.{Spells, Begins}
use Rattle.css_grammar.specs.Refusals.{Refusal, reason, width, Refused, at_unit, at_end}
use Rattle.css_grammar.specs.Machine.{Answer, sheet, part, stopped, read}
use Rattle.css_grammar.proofs.Sound.{read_spelled}
use Rattle.css_grammar.proofs.Exact.{spelled_read}
use Rattle.css_grammar.proofs.Viable.{stops_exactly, breaks_off}

not_part : (rs : List Rule) → part ≡ sheet rs → ⊥
not_part rs e = cc

pub refused_part : (s : Text) → read s ≡ part → Begins s × ((rs : List Rule) → Spells rs s → ⊥)
refused_part s e = (breaks_off s e, λ rs d. not_part rs (sym e ∙ spelled_read s rs d))

pub either : (s : Text) → ((rs : List Rule) × Spells rs s) ⊎ ((x : Refusal) × (p : ℕ) × Refused s x p)
either s = by_answer (read s) refl
  where
    by_answer : (a : Answer) → read s ≡ a → ((rs : List Rule) × Spells rs s) ⊎ ((x : Refusal) × (p : ℕ) × Refused s x p)
    by_answer (sheet rs) e = inl (rs, read_spelled s rs e)
    by_answer part e = let h = refused_part s e in inr (_, _, at_end h.0 h.1)
    by_answer (stopped r) e = let h = stops_exactly s r e in inr (_, _, at_unit h.0 h.1 h.2 h.3 h.5)

-- what a sheet goes on behind has fronts that it goes on behind
shorter : (u x : Text) → Begins (u ++ x) → Begins u
shorter u x b = (b.0, x ++ b.1, subst (Spells b.0) (append_assoc u x b.1) b.2)

whole : (s : Text) (rs : List Rule) → Spells rs s → Begins s
whole s rs d = (rs, [], subst (Spells rs) (sym (ends s)) d)
  where
    ends : (t : Text) → t ++ [] ≡ t
    ends [] = refl
    ends (c ∷ t) = ap (λ (z : Text). c ∷ z) (ends t)

front : (s u : Text) (c : ℕ) (z : Text) → s ≡ u ++ c ∷ z → Begins s → Begins (u ++ c ∷ [])
front s u c z e b = shorter (u ++ c ∷ []) z (subst Begins (e ∙ sym (append_assoc u (c ∷ []) z)) b)

pub apart : (s : Text) (rs : List Rule) (x : Refusal) (p : ℕ) → Spells rs s → Refused s x p → ⊥
apart s rs _ _ d (at_unit u c z e h) = h.1 (front s u c z e (whole s rs d))
apart s rs _ _ d (at_end b n) = n rs d

-- two cuts of a text: the same, or one within the other's front
abbrev Cut : Text → ℕ → Text → ℕ → Type 0
Cut u c v d = ((u ≡ v) × (c ≡ d)) ⊎ (((x : Text) × (v ≡ (u ++ c ∷ []) ++ x)) ⊎ ((x : Text) × (u ≡ (v ++ d ∷ []) ++ x)))

longer : (a : ℕ) (u : Text) (c : ℕ) (v : Text) (d : ℕ) → Cut u c v d → Cut (a ∷ u) c (a ∷ v) d
longer a u c v d (inl h) = inl (ap (λ (z : Text). a ∷ z) h.0, h.1)
longer a u c v d (inr (inl h)) = inr (inl (h.0, ap (λ (z : Text). a ∷ z) h.1))
longer a u c v d (inr (inr h)) = inr (inr (h.0, ap (λ (z : Text). a ∷ z) h.1))

cut : (u : Text) (c : ℕ) (z v : Text) (d : ℕ) (y : Text) → u ++ c ∷ z ≡ v ++ d ∷ y → Cut u c v d
cut [] c z [] d y e = inl (refl, cc)
cut [] c z (b ∷ v) d y e = inr (inl (v, let f : b ≡ c = cc in ap (λ n. n ∷ v) f))
cut (a ∷ u) c z [] d y e = inr (inr (u, let f : a ≡ d = cc in ap (λ n. n ∷ u) f))
cut (a ∷ u) c z (b ∷ v) d y e = let f : a ≡ b = cc in subst (λ n. Cut (a ∷ u) c (n ∷ v) d) f (longer a u c v d (cut u c z v d y (let g : u ++ c ∷ z ≡ v ++ d ∷ y = cc in g)))

pub once : (s : Text) (x y : Refusal) (p q : ℕ) → Refused s x p → Refused s y q → (x ≡ y) × (p ≡ q)
once s _ _ _ _ (at_unit u c z e h) (at_unit v d y f k) = by_cut (cut u c z v d y (sym e ∙ f))
  where
    by_cut : Cut u c v d → (reason c ≡ reason d) × (width u ≡ width v)
    by_cut (inl g) = (ap reason g.1, ap width g.0)
    by_cut (inr (inl g)) = absurd (h.1 (shorter (u ++ c ∷ []) g.0 (subst Begins g.1 k.0)))
    by_cut (inr (inr g)) = absurd (k.1 (shorter (v ++ d ∷ []) g.0 (subst Begins g.1 h.0)))
once s _ _ _ _ (at_unit u c z e h) (at_end b n) = absurd (h.1 (front s u c z e b))
once s _ _ _ _ (at_end b n) (at_unit u c z e h) = absurd (h.1 (front s u c z e b))
once s _ _ _ _ (at_end b n) (at_end a m) = (refl, refl)
