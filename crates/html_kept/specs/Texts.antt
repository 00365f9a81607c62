-- Trees whose texts are made of characters, and which were read.
use Rattle.std.specs.Prelude.{◌≡◌, ℕ, ◌-◌, ◌<◌, true, false, List, [], ◌∷◌, ◌++◌, Some}
use Rattle.std.specs.Str.{all_scalars}
use Rattle.caja_units.specs.Utf8.{units_of_chars}
use Rattle.html_grammar.specs.Tables.{is_in, void}
use Rattle.html_grammar.specs.Tags.{Attr}
use Rattle.html_grammar.specs.Trees.{Sort, one, many, Tree, text_node, element, none, more}
use Rattle.html_kept.specs.Table.{Answers}

-- the units are those of characters: no surrogate stands alone
abbrev pub OfChars : List ℕ → Type 0
OfChars us = (cs : List ℕ) × (us ≡ units_of_chars cs) × (all_scalars cs ≡ true)

-- what a rule answers for a text of characters is one
pub record OfTexts (a : Answers) : Type 0 where
  pub links : (us vs : List ℕ) → OfChars us → a.for_link us ≡ Some vs → OfChars vs
  pub images : (us vs : List ℕ) → OfChars us → a.for_image us ≡ Some vs → OfChars vs

-- no attribute has one of these names, and no two have the same
abbrev pub Apart : List (List ℕ) → List Attr → Type 0
Apart seen [] = Unit {0}
Apart seen (x ∷ xs) = (is_in seen x.name ≡ false) × Apart (seen ++ x.name ∷ []) xs

abbrev pub ValuesOfChars : List Attr → Type 0
ValuesOfChars [] = Unit {0}
ValuesOfChars (x ∷ xs) = OfChars x.value × ValuesOfChars xs

-- Trees in which at most m elements nest, one within another; no element has an attribute twice, and those without content have none; and all texts and values
-- are of characters.
abbrev pub WellRead : ℕ → (s : Sort) → Tree s → Type 0
WellRead m _ (text_node us) = OfChars us
WellRead m _ (element n xs ts) = (0 < m) × Apart [] xs × ValuesOfChars xs × (is_in void n ≡ true → ts ≡ none) × WellRead (m - 1) many ts
WellRead m _ none = Unit {0}
WellRead m _ (more t ts) = WellRead m one t × WellRead m many ts
