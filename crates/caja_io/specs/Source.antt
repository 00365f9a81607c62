-- What a source has left to read: `Some` of those bytes, or `None` where it doesn't tell them.
use Rattle.std.specs.Prelude.{◌≡◌, ℕ, ◌≤◌, List, [], ◌++◌, length, Option, Some, None, ⊤}

-- These bytes were the first of what was left, and the rest is left now. A source goes on telling.
abbrev pub Takes : Option (List ℕ) → Option (List ℕ) → List ℕ → Type 0
Takes (Some left) (Some rest) bytes = left ≡ bytes ++ rest
Takes None None bytes = ⊤
Takes _ _ bytes = ⊥

-- some bytes were taken, at most so many, from the first on
pub record TakesUpTo (most : ℕ) (old new : Option (List ℕ)) : Type 0 where
  pub bytes : List ℕ
  pub takes : Takes old new bytes
  pub at_most : length bytes ≤ most

-- nothing is left, where the source tells that
abbrev pub IsEmptied : Option (List ℕ) → Option (List ℕ) → Type 0
IsEmptied (Some left) new = new ≡ Some []
IsEmptied None new = new ≡ None
