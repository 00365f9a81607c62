-- What the words of `gen` are once its number is taken out of copies of them.
use Rattle.std.proofs.Common.{◌≡◌, ◌∙◌, ℕ, ◌<◌, suc, List, [], ◌∷◌, ◌++◌, Option, Some, refl, sym, ap, ap₂, map, take, drop, length, get_or}
use Rattle.std.specs.Prelude.{option_map, slice_get}
use Rattle.std.specs.List.{AllZip, remove}
use Rattle.std.proofs.lemmas.List.{map-append, take-map, drop-map}
use Rattle.std.proofs.lemmas.Option.{slice_get-map, slice_get_read}
use Rattle.command_words.specs.Words.{gen_at, generated, most_events, number_of, options_of}
use Rattle.command_words.specs.declared.Options.{Options}

abbrev Text : Type 0
Text = List ℕ

module _ {X : Type 0} (f : X → Text) where
  -- copies have the same texts
  copied : (xs ys : List X) → AllZip (λ x y. f y ≡ f x) xs ys → map f ys ≡ map f xs
  copied [] [] same = refl
  copied [] (y ∷ ys) same = absurd same
  copied (x ∷ xs) [] same = absurd same
  copied (x ∷ xs) (y ∷ ys) same = ap₂ (λ (t : Text) (ts : List Text). t ∷ ts) same.0 (copied xs ys same.1)

  text_at : (xs : List X) (i : ℕ) (x : X) → i < length xs → x ≡ get_or xs i x → slice_get (map f xs) i ≡ Some (f x)
  text_at xs i x below at = slice_get-map f xs i ∙ ap (option_map f) (slice_get_read xs (length xs) i x refl below at)

  texts_left : (xs : List X) (i : ℕ) → map f (remove xs i) ≡ remove (map f xs) i
  texts_left xs i = map-append f (take i xs) (drop (suc i) xs) ∙ sym (ap₂ (λ (us vs : List Text). us ++ vs) (take-map f i xs) (drop-map f (suc i) xs))

  -- the number is read, and the other words are
  pub taken_out : (xs ys : List X) (i : ℕ) (x : X) (n : Option ℕ) (o : Option Options) → AllZip (λ x y. f y ≡ f x) xs ys → i < length ys → x ≡ get_or ys i x
      → n ≡ number_of most_events (f x) → o ≡ options_of (map f (remove ys i)) → generated n o ≡ gen_at i (map f xs)
  taken_out xs ys i x n o same below at reads chosen =
      let texts = copied xs ys same in
      let there : slice_get (map f xs) i ≡ Some (f x) = ap (λ (ts : List Text). slice_get ts i) (sym texts) ∙ text_at ys i x below at in
      let others : options_of (remove (map f xs) i) ≡ o = ap (λ (ts : List Text). options_of (remove ts i)) (sym texts) ∙ sym (ap options_of (texts_left ys i)) ∙ sym chosen in
      rw (there, others, ← reads) refl
