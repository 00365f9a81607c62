-- Names and words (ES3 7.5, 7.6): where a letter stands, all that goes on is one name or word.
use Rattle.std.proofs.Common.{◌≡◌, ℕ, suc, Bool, true, false, List, ◌∷◌, refl, ap, ◌∙◌, length, take}
use Rattle.std.specs.List.{list_all, prefix_len}
use Rattle.es3_tokens.proofs.Classes.{letter_no_digit, letter_no_zero, letter_plain, letter_solid, no_place}
use Rattle.es3_tokens.proofs.Gaps.{at_solid, no_refusal}
use Rattle.es3_tokens.proofs.Longest.{longest_while, where_all}
use Rattle.es3_tokens.specs.Characters.{is_letter, is_part}
use Rattle.es3_tokens.specs.Cut.{accept, point, refusal_step, token_step}
use Rattle.es3_tokens.specs.Longest.{longest}
use Rattle.es3_tokens.specs.Tokens.{made, named, whole_token}
use Rattle.es3_tree.specs.Token.{punct, puncts}

name_token : (c : ℕ) (w : List ℕ) → is_letter c ≡ true → whole_token (c ∷ w) ≡ where_all is_part (λ w. named (c ∷ w)) w
name_token c w h = by_all c w h (list_all is_part w) refl
  where
    by_all : (c : ℕ) (w : List ℕ) → is_letter c ≡ true → (b : Bool) → list_all is_part w ≡ b → whole_token (c ∷ w) ≡ where_all is_part (λ w. named (c ∷ w)) w
    by_all c w h true e = rw (h, e) refl
    by_all c w h false e =
        let q = letter_plain c h in
        rw (h, e) (rw (letter_no_zero c h, letter_no_digit c h, q.quote) (ap (made punct) (no_place is_letter 0 c w puncts h refl)))

pub point_name : (o : Bool) (c : ℕ) (s : List ℕ) → is_letter c ≡ true → point o (c ∷ s) ≡ accept (named (c ∷ take (prefix_len is_part s) s)) (suc (prefix_len is_part s))
point_name o c s h =
    at_solid o c s (letter_solid c h)
    ∙ ap (λ r. refusal_step r (token_step (longest whole_token (length (c ∷ s)) (c ∷ s)))) (no_refusal o c s (letter_plain c h) (letter_no_digit c h))
    ∙ ap token_step (longest_while whole_token is_part (λ w. named (c ∷ w)) c s (λ w. name_token c w h))
