-- A set that has the names of attributes.
use Rattle.std.specs.Prelude.{◌≡◌, ℕ, List, nat_eq}
use Rattle.std.specs.Global.{Vec}
use Rattle.std.specs.Cmp.Lexicographic.{pointwise}
use Rattle.std.specs.HashSet.{HashSet, contains}
use Rattle.std.specs.declared.hash.FoldHasher.{FoldHasher}
use Rattle.std.specs.declared.hash.BuildHasherDefault.{BuildHasherDefault}
use Rattle.html_grammar.specs.Tables.{is_in}

-- a set of lists of units
abbrev pub Set : Type 0
Set = HashSet (Vec ℕ) (BuildHasherDefault FoldHasher)

-- the set has just these names
abbrev pub Tracks : Set → List (List ℕ) → Type 0
Tracks s names = (v : Vec ℕ) → contains (λ x y. pointwise nat_eq x.items y.items) s v ≡ is_in names v.items
