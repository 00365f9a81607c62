-- What words give behind those that gave something already.
use Rattle.std.proofs.Common.{◌≡◌, ◌||◌, ℕ, Bool, cond, true, false, not, List, [], ◌∷◌, ◌++◌, Option, Some, None, refl, sym, ap, subst, true≢false, is_some}
use Rattle.std.specs.Prelude.{codes, option_map, option_and_then}
use Rattle.std.specs.List.{list_any}
use Rattle.std.specs.Option.{option_map_or}
use Rattle.std.specs.Str.{bytes_eq}
use Rattle.std.proofs.lemmas.Slice.Eq.{bytes_eq-Decides}
use Rattle.command_words.specs.Words.{Given, steps_are, touched, given_alone, beside, given, numbers, touches, steps_of, touch_of, most_steps, number_of, options, chosen, options_of}
use Rattle.command_words.specs.Matched.{is_dashes}
use Rattle.command_words.specs.declared.Options.{Options}

abbrev pub Text : Type 0
Text = List ℕ

-- what was told so far: nothing twice
pub data Told : Type 0 where
  nothing : Told
  of_steps : Text → Told
  of_touch : Told
  steps_touch : Text → Told
  touch_steps : Text → Told

abbrev pub all_of : Told → List Given
all_of nothing = []
all_of (of_steps v) = steps_are v ∷ []
all_of of_touch = touched ∷ []
all_of (steps_touch v) = steps_are v ∷ touched ∷ []
all_of (touch_steps v) = touched ∷ steps_are v ∷ []

abbrev pub with_steps : Text → Told → Option Told
with_steps v nothing = Some (of_steps v)
with_steps v (of_steps w) = None
with_steps v of_touch = Some (touch_steps v)
with_steps v (steps_touch w) = None
with_steps v (touch_steps w) = None

abbrev pub with_touch : Told → Option Told
with_touch nothing = Some of_touch
with_touch (of_steps w) = Some (steps_touch w)
with_touch of_touch = None
with_touch (steps_touch w) = None
with_touch (touch_steps w) = None

-- the options, where so much was told and the words give more
abbrev pub chosen_with : Told → Option (List Given) → Option Options
chosen_with s more = option_and_then (λ gs. chosen (all_of s ++ gs)) more

abbrev pub chosen_then : Option (List Given) → Option Told → Option Options
chosen_then more s = option_and_then (λ t. chosen_with t more) s

and_none : {X Y : Type 0} (o : Option X) → option_and_then {U = Y} (λ x. None) o ≡ None
and_none None = refl
and_none (Some x) = refl

pub told_touch : (s : Told) (more : Option (List Given)) → chosen_with s (beside (Some touched) more) ≡ chosen_then more (with_touch s)
told_touch nothing None = refl
told_touch nothing (Some gs) = refl
told_touch (of_steps v) None = refl
told_touch (of_steps v) (Some gs) = refl
told_touch of_touch None = refl
told_touch of_touch (Some gs) = and_none (steps_of (numbers gs))
told_touch (steps_touch v) None = refl
told_touch (steps_touch v) (Some gs) = and_none (steps_of (v ∷ numbers gs))
told_touch (touch_steps v) None = refl
told_touch (touch_steps v) (Some gs) = and_none (steps_of (v ∷ numbers gs))

pub told_steps : (s : Told) (v : Text) (more : Option (List Given)) → chosen_with s (beside (Some (steps_are v)) more) ≡ chosen_then more (with_steps v s)
told_steps nothing v None = refl
told_steps nothing v (Some gs) = refl
told_steps (of_steps w) v None = refl
told_steps (of_steps w) v (Some gs) = refl
told_steps of_touch v None = refl
told_steps of_touch v (Some gs) = refl
told_steps (steps_touch w) v None = refl
told_steps (steps_touch w) v (Some gs) = refl
told_steps (touch_steps w) v None = refl
told_steps (touch_steps w) v (Some gs) = refl

pub or_right : (a : Bool) {b : Bool} → b ≡ true → (a || b) ≡ true
or_right true e = refl
or_right false e = e

-- a text that is no number
abbrev no_number : Given → Bool
no_number (steps_are n) = not (is_some (number_of most_steps n))
no_number touched = false

and_of_none : {X Y : Type 0} (f : X → Option Y) (o : Option X) → o ≡ None → option_and_then f o ≡ None
and_of_none f o none = ap (option_and_then f) none

none_of : (o : Option ℕ) → not (is_some o) ≡ true → o ≡ None
none_of None is = refl
none_of (Some n) is = absurd (true≢false (sym is))

more_bad : (n : Text) (ns : List Text) → steps_of ns ≡ None → steps_of (n ∷ ns) ≡ None
more_bad n [] none = absurd (true≢false (ap is_some none))
more_bad n (m ∷ ms) none = refl

first_bad : (n : Text) (ns : List Text) → number_of most_steps n ≡ None → steps_of (n ∷ ns) ≡ None
first_bad n [] none = none
first_bad n (m ∷ ms) none = refl

bad_steps : (gs : List Given) → list_any no_number gs ≡ true → steps_of (numbers gs) ≡ None
bad_steps [] bad = absurd (true≢false (sym bad))
bad_steps (touched ∷ gs) bad = bad_steps gs bad
bad_steps (steps_are n ∷ gs) bad = go (not (is_some (number_of most_steps n))) refl (λ h. bad_steps gs h) bad
  where
    go : (b : Bool) → not (is_some (number_of most_steps n)) ≡ b → (list_any no_number gs ≡ true → steps_of (numbers gs) ≡ None) → (b || list_any no_number gs) ≡ true
        → steps_of (n ∷ numbers gs) ≡ None
    go true is rest h = first_bad n (numbers gs) (none_of (number_of most_steps n) is)
    go false is rest h = more_bad n (numbers gs) (rest h)

-- a text that is no number spoils all
pub bad_chosen : (gs : List Given) → list_any no_number gs ≡ true → chosen gs ≡ None
bad_chosen gs bad = and_of_none (λ n. option_map (options n) (touch_of (touches gs))) (steps_of (numbers gs)) (bad_steps gs bad)

any_mid : {X : Type 0} (p : X → Bool) (xs : List X) (y : X) (ys : List X) → p y ≡ true → list_any p (xs ++ y ∷ ys) ≡ true
any_mid p [] y ys is = ap (λ b. b || list_any p ys) is
any_mid p (x ∷ xs) y ys is = or_right (p x) (any_mid p xs y ys is)

pub told_bad : (s : Told) (n : Text) (more : Option (List Given)) → number_of most_steps n ≡ None → chosen_with s (beside (Some (steps_are n)) more) ≡ None
told_bad s n None bad = refl
told_bad s n (Some gs) bad = bad_chosen (all_of s ++ steps_are n ∷ gs) (any_mid no_number (all_of s) (steps_are n) gs (ap (λ o. not (is_some o)) bad))

-- a word that isn't `--steps` gives what it gives by itself
pub given_first : (w : Text) (ws : List Text) → bytes_eq w (codes "--steps") ≡ false → given (w ∷ ws) ≡ beside (given_alone w) (given ws)
given_first w [] other = refl
given_first w (n ∷ ws) other = rw other refl

-- words with a `--` give nothing, or a text that is no number
abbrev is_bad : Option (List Given) → Bool
is_bad gs = option_map_or (list_any no_number) gs true

beside_bad : (g : Option Given) (gs : Option (List Given)) → is_bad gs ≡ true → is_bad (beside g gs) ≡ true
beside_bad None gs bad = refl
beside_bad (Some g) None bad = refl
beside_bad (Some g) (Some gs) bad = or_right (no_number g) bad

steps_bad : (n : Text) (gs : Option (List Given)) → number_of most_steps n ≡ None → is_bad (beside (Some (steps_are n)) gs) ≡ true
steps_bad n None bad = refl
steps_bad n (Some gs) bad = ap (λ (o : Option ℕ). not (is_some o) || list_any no_number gs) bad

are_dashes : (w : Text) → is_dashes w ≡ true → w ≡ codes "--"
are_dashes w is = (bytes_eq-Decides w (codes "--")).0 is

dashes_first : (ws : List Text) → is_bad (given (codes "--" ∷ ws)) ≡ true
dashes_first [] = refl
dashes_first (w ∷ ws) = refl

dashes_given : (ws : List Text) → list_any is_dashes ws ≡ true → is_bad (given ws) ≡ true
dashes_given [] has = absurd (true≢false (sym has))
dashes_given (w ∷ []) has = go (is_dashes w) refl has
  where
    go : (b : Bool) → is_dashes w ≡ b → (b || false) ≡ true → is_bad (given (w ∷ [])) ≡ true
    go true is h = subst (λ v. is_bad (given (v ∷ [])) ≡ true) (sym (are_dashes w is)) refl
    go false is h = absurd (true≢false (sym h))
dashes_given (w ∷ n ∷ ws) has = go (is_dashes w) refl (λ h. dashes_given ws h) (λ h. dashes_given (n ∷ ws) h) has
  where
    spaced : (b : Bool) → is_dashes n ≡ b → (list_any is_dashes ws ≡ true → is_bad (given ws) ≡ true) → (b || list_any is_dashes ws) ≡ true
        → is_bad (beside (Some (steps_are n)) (given ws)) ≡ true
    spaced true is rest h = steps_bad n (given ws) (subst (λ v. number_of most_steps v ≡ None) (sym (are_dashes n is)) refl)
    spaced false is rest h = beside_bad (Some (steps_are n)) (given ws) (rest h)

    first : (b : Bool) → (list_any is_dashes ws ≡ true → is_bad (given ws) ≡ true)
        → (list_any is_dashes (n ∷ ws) ≡ true → is_bad (given (n ∷ ws)) ≡ true) → list_any is_dashes (n ∷ ws) ≡ true
        → is_bad (cond b (beside (Some (steps_are n)) (given ws)) (beside (given_alone w) (given (n ∷ ws)))) ≡ true
    first true rest more h = spaced (is_dashes n) refl rest h
    first false rest more h = beside_bad (given_alone w) (given (n ∷ ws)) (more h)

    go : (b : Bool) → is_dashes w ≡ b → (list_any is_dashes ws ≡ true → is_bad (given ws) ≡ true)
        → (list_any is_dashes (n ∷ ws) ≡ true → is_bad (given (n ∷ ws)) ≡ true) → (b || list_any is_dashes (n ∷ ws)) ≡ true
        → is_bad (given (w ∷ n ∷ ws)) ≡ true
    go true is rest more h = subst (λ v. is_bad (given (v ∷ n ∷ ws)) ≡ true) (sym (are_dashes w is)) (dashes_first (n ∷ ws))
    go false is rest more h = first (bytes_eq w (codes "--steps")) rest more h

-- and so no options
pub dashes_none : (ws : List Text) → list_any is_dashes ws ≡ true → options_of ws ≡ None
dashes_none ws has = go (given ws) (dashes_given ws has)
  where
    go : (gs : Option (List Given)) → is_bad gs ≡ true → option_and_then chosen gs ≡ None
    go None bad = refl
    go (Some gs) bad = bad_chosen gs bad
