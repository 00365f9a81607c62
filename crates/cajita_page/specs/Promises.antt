-- What is promised of a page, wherever it is cut: what its modules do lies in what they have, and each name is new.
use Rattle.std.specs.Prelude.{◌≡◌, ℕ, List, [], ◌∷◌, ◌++◌}
use Rattle.plans.specs.Plans.{kept_of}
use Rattle.rows.specs.Document.{Node}
use Rattle.rows.specs.Nodes.{Rules}
use Rattle.cajita_meaning.specs.World.{Name, object, Pairs}
use Rattle.cajita_meaning.specs.Imports.{fixed_imports}
use Rattle.cajita_meaning.specs.Direct.{Item, made}
use Rattle.cajita_laws.specs.Reach.{Had, have, from_the_start, Lies, Reached, Numbered}
use Rattle.cajita_page.specs.DirectPage.{Deed, direct_page}

-- the objects among values
abbrev pub objects_in : Pairs → List Name
objects_in [] = []
objects_in ((x, object o) ∷ ps) = o ∷ objects_in ps
objects_in ((x, v) ∷ ps) = objects_in ps

-- what a module has from the start: the objects of the fixed names, its own `say` and `later` among them, and the methods of texts
abbrev pub had_at_first : Had
had_at_first m = objects_in (fixed_imports m) ++ from_the_start m

-- each item lies in what was had before it, and the n-th object that a module makes has the number n
pub record PageReaches (z : List Item) : Type 0 where
  pub reached : Reached had_at_first z
  pub numbered : Numbered (λ m. 0) z

-- of every page, with any number of steps
abbrev pub PagesReach : Type 0
PagesReach = (rules : Rules) (nodes : ℕ → List Node) (ds : List Deed) (n : ℕ) → PageReaches (kept_of (direct_page rules nodes ds n))

-- what that says of each item: it lies in what was had before it
abbrev pub PageItemsLie : Type 0
PageItemsLie = (rules : Rules) (nodes : ℕ → List Node) (ds : List Deed) (n : ℕ) (a : List Item) (i : Item) (b : List Item) → kept_of (direct_page rules nodes ds n) ≡ a ++ i ∷ b → Lies (have had_at_first a) i

-- and of two objects that were made: their names are not the same
abbrev pub PageNamesAreNew : Type 0
PageNamesAreNew = (rules : Rules) (nodes : ℕ → List Node) (ds : List Deed) (n : ℕ) (a b c : List Item) (m k : ℕ) (o p : Name) → kept_of (direct_page rules nodes ds n) ≡ a ++ made m o ∷ (b ++ made k p ∷ c) → o ≡ p → ⊥
