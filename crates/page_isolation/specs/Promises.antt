-- What is promised of two pages that agree on a group, where both came to their end: the group had the same, whatever others did.
use Rattle.std.specs.Prelude.{◌≡◌, ℕ, true, List}
use Rattle.plans.specs.Plans.{over}
use Rattle.rows.specs.Document.{Node}
use Rattle.rows.specs.Nodes.{Rules}
use Rattle.cajita_laws.specs.Parts.{Group, items_of, SamePart}
use Rattle.cajita_page.specs.DirectPage.{Deed, Results, Run, direct_page}
use Rattle.page_isolation.specs.Agree.{Agrees, SameNodes}

-- the group has the same items; nothing is said of a page that a fault, or the want of a step, ended
abbrev pub SameLines : Group → Run → Run → Type 0
SameLines g (over r w z n) (over r' v y m) = items_of true g z ≡ items_of true g y
SameLines g p q = Unit {0}

-- a group's modules have the same results
abbrev pub SameResults : Group → Results → Results → Type 0
SameResults g r r' = (m : ℕ) → g.modules m ≡ true → r m ≡ r' m

-- the group has the same part of the world, and the same results
abbrev pub SameWorlds : Group → Run → Run → Type 0
SameWorlds g (over r w z n) (over r' v y m) = SamePart true g w v z y × SameResults g r r'
SameWorlds g p q = Unit {0}

-- every two pages that agree on a group, each with any number of steps, give it the same items
abbrev pub PagesIsolate : Type 0
PagesIsolate = (rules : Rules) (g : Group) (nodes nodes' : ℕ → List Node) → SameNodes g nodes nodes' → (ds ds' : List Deed) → Agrees g ds ds' → (n m : ℕ) → SameLines g (direct_page rules nodes ds n) (direct_page rules nodes' ds' m)

-- and leave it with the same part of the world
abbrev pub PagesKeepApart : Type 0
PagesKeepApart = (rules : Rules) (g : Group) (nodes nodes' : ℕ → List Node) → SameNodes g nodes nodes' → (ds ds' : List Deed) → Agrees g ds ds' → (n m : ℕ) → SameWorlds g (direct_page rules nodes ds n) (direct_page rules nodes' ds' m)
