-- Words in lower case are words.
use Rattle.std.proofs.Common.{◌≡◌, ℕ, [], ◌∷◌, ◌++◌, refl, sym, ap, subst, ◌∙◌, arith}
use Rattle.std.proofs.lemmas.Bool.Decides.{nat_tests}
use Rattle.css_grammar.specs.Characters.{class, lower, is_more}
use Rattle.css_grammar.specs.Sheets.{Text, lowered}
use Rattle.css_grammar.specs.Tokens.{Word, w_letter, w_dash, w_more}

pub lower_class : (c : ℕ) → class (lower c) ≡ class c
unfolding class lower
lower_class c = grind (arith, nat_tests)

pub lower_twice : (c : ℕ) → lower (lower c) ≡ lower c
unfolding lower
lower_twice c = grind (arith, nat_tests)

pub lowered_twice : (w : Text) → lowered (lowered w) ≡ lowered w
lowered_twice [] = refl
lowered_twice (c ∷ w) = ap (λ n. n ∷ lowered (lowered w)) (lower_twice c) ∙ ap (λ (z : Text). lower c ∷ z) (lowered_twice w)

lowered_more : (w : Text) (c : ℕ) → lowered (w ++ c ∷ []) ≡ lowered w ++ lower c ∷ []
lowered_more [] c = refl
lowered_more (d ∷ w) c = ap (λ (z : Text). lower d ∷ z) (lowered_more w c)

pub lowered_word : (w : Text) → Word w → Word (lowered w)
lowered_word _ (w_letter c h e) = w_letter (lower c) h (lower_class c ∙ e)
lowered_word _ (w_dash d c h e f) = w_dash (lower d) (lower c) h (lower_class d ∙ e) (lower_class c ∙ f)
lowered_word _ (w_more w c x e) = subst Word (sym (lowered_more w c)) (w_more (lowered w) (lower c) (lowered_word w x) (ap is_more (lower_class c) ∙ e))
