-- What is together on a page: the least partition of its modules, cells and granted roots in which a module is together with what it is granted.
use Rattle.std.specs.Prelude.{◌≡◌, ◌⊎◌, ℕ, suc, Bool, false, List, [], ◌∷◌, ◌++◌, nat_eq, if◌then◌else◌}
use Rattle.page_deeds.specs.Deeds.{a_cell, a_result, a_plain, a_root, Grants}
use Rattle.reach_report.specs.declared.Node.{Node}
use Rattle.reach_report.specs.declared.Node.TheVariants.{Module, Cell, Root}

abbrev pub Links : Type 0
Links = List (Node × Node)

-- a module is linked with each cell and each root that it is granted, and with each module whose result it is granted
abbrev pub grant_links : ℕ → Grants → Links
grant_links m [] = []
grant_links m ((name, a_cell k) ∷ gs) = (Module m, Cell k) ∷ grant_links m gs
grant_links m ((name, a_result n) ∷ gs) = (Module m, Module n) ∷ grant_links m gs
grant_links m ((name, a_plain v) ∷ gs) = grant_links m gs
grant_links m ((name, a_root r) ∷ gs) = (Module m, Root r) ∷ grant_links m gs

-- the links of the modules from m on, by the grants of each
abbrev pub links_from : ℕ → List Grants → Links
links_from m [] = []
links_from m (gs ∷ rest) = grant_links m gs ++ links_from (suc m) rest

abbrev pub page_links : List Grants → Links
page_links = links_from 0

abbrev pub IsLink : Node → Node → Links → Type 0
IsLink a b [] = ⊥
IsLink a b ((c, d) ∷ ls) = ((a ≡ c) × (b ≡ d)) ⊎ IsLink a b ls

-- the least partition: each is together with itself; where two are linked, or one is together with the other, or both are with a third, they are together; and
-- no others are
pub data Linked (ls : Links) : Node → Node → Type 0 where
  itself : (a : Node) → Linked ls a a
  linked : (a b : Node) → IsLink a b ls → Linked ls a b
  back : (a b : Node) → Linked ls a b → Linked ls b a
  onward : (a b c : Node) → Linked ls a b → Linked ls b c → Linked ls a c

-- the same, computed: each class has a representative, and each link gives the class of its second the representative of its first

abbrev pub same_node : Node → Node → Bool
same_node (Module m) (Module n) = nat_eq m n
same_node (Cell j) (Cell k) = nat_eq j k
same_node (Root q) (Root r) = nat_eq q r
same_node a b = false

-- what stands for x, once the class of b has joined that of a
abbrev pub joined : Node → Node → Node → Node
joined a b x = if same_node x b then a else x

abbrev pub representative : Links → Node → Node
representative [] x = x
representative ((a, b) ∷ ls) x = joined (representative ls a) (representative ls b) (representative ls x)
