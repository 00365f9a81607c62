-- One queue is changed, and all others stay.
use Rattle.std.proofs.Common.{◌≡◌, ℕ, ◌<◌, List, [], length, map, get_or, ◌∷◌, ◌++◌, drop, Option, None, Some, Result, Ok, Err, refl, sym, ap, subst, ◌∙◌, arith}
use Rattle.std.specs.List.{slice_get}
use Rattle.std.specs.Option.{option_to_list}
use Rattle.std.specs.Prelude.{OnErr}
use Rattle.std.proofs.Math.ListN.{set}
use Rattle.std.proofs.lemmas.List.{map-set, get_or-map, length-map}

-- the queue m of a list of them
module _ {A X : Type 0} (items : A → List X) (qs : List A) (shown : List (List X)) (is_shown : map items qs ≡ shown) (m : ℕ) (within : m < length shown) (q : A) (is : q ≡ get_or qs m q) where
  there : m < length qs
  there = subst (λ n. m < n) (sym (ap length is_shown) ∙ length-map qs items) within

  pub queue_is : items q ≡ get_or shown m []
  queue_is = ap items is ∙ sym (get_or-map items qs m q [] there) ∙ ap (λ s. get_or s m []) is_shown

  pub edited : (after : A) (g : List X → List X) → items after ≡ g (items q) → map items (set qs m after) ≡ set shown m (g (get_or shown m []))
  edited after g e = map-set items qs m after ∙ ap (λ s. set s m (items after)) is_shown ∙ ap (set shown m) (e ∙ ap g queue_is)

pub on_any : {A E P : Type 0} (r : Result A E) → P → OnErr r P
on_any (Ok a) p = tt
on_any (Err e) p = p

-- what was taken out in front, with what is left behind it
pub first_taken : {X : Type 0} (o : Option X) (before after : List X) → before ≡ option_to_list o ++ after → after ≡ drop 1 before → o ≡ slice_get before 0
first_taken None [] after e d = refl
first_taken None (x ∷ before) after e d = absurd (omega (arith, ap length (e ∙ d)))
first_taken (Some x) before after e d = sym (ap (λ l. slice_get l 0) e)
