-- A group of modules, what belongs to it, and when its part of two worlds is the same.
use Rattle.std.specs.Prelude.{◌≡◌, ℕ, Bool, true, false, not, List, [], ◌∷◌, if◌then◌else◌}
use Rattle.acts.specs.Laws.{All}
use Rattle.page_deeds.specs.Deeds.{Owner, of_module, of_root, labelled}
use Rattle.cajita_meaning.specs.World.{Name, made_name, cell_name, own_name, built_name, tools_name, facet_name, forward_name, Value, object, Pairs, Object, a_record, an_array, an_error, a_closure, World, empty_world}
use Rattle.cajita_meaning.specs.Direct.{Item, made, got, touched, passed, granted, said, was_revoked, changed_node, ended}

-- which modules, cells and roots are the group's
pub record Group : Type 0 where
  pub modules : ℕ → Bool
  pub cells : ℕ → Bool
  pub roots : ℕ → Bool

-- whether something is the group's
abbrev pub owns : Group → Owner → Bool
owns g (of_module m) = g.modules m
owns g (of_root root) = g.roots root

-- all others
abbrev pub others : Group → Group
others g = record { modules = λ m. not (g.modules m); cells = λ c. not (g.cells c); roots = λ r. not (g.roots r) }

-- what belongs to the group; built-ins belong to everybody
abbrev pub OwnName : Group → Name → Type 0
OwnName g (made_name m n) = g.modules m ≡ true
OwnName g (cell_name c i) = g.cells c ≡ true
OwnName g (own_name m i) = g.modules m ≡ true
OwnName g (built_name f) = Unit {0}
OwnName g (tools_name t) = Unit {0}
OwnName g (facet_name root k) = g.roots root ≡ true
OwnName g (forward_name m p c i) = (g.modules m ≡ true) × (g.cells c ≡ true)

abbrev pub Own : Group → Value → Type 0
Own g (object o) = OwnName g o
Own g v = Unit {0}

abbrev pub OwnPairs : Group → Pairs → Type 0
OwnPairs g ps = All (λ p. Own g p.1) ps

abbrev pub OwnObject : Group → Object → Type 0
OwnObject g (a_record frozen ps) = OwnPairs g ps
OwnObject g (an_array frozen vs) = All (Own g) vs
OwnObject g (an_error n t) = Unit {0}
OwnObject g (a_closure f chain) = Unit {0}

-- it tells what the group's modules do, or what becomes of its nodes
abbrev pub tells : Group → Item → Bool
tells g (made m o) = g.modules m
tells g (got m h o) = g.modules m
tells g (touched m t o k) = g.modules m
tells g (passed a b o) = g.modules a
tells g (granted m o) = g.modules m
tells g (said m us) = g.modules m
tells g (was_revoked m p) = g.modules m
tells g (changed_node root k c) = g.roots root
tells g (ended l e) = owns g (labelled l)

abbrev pub side : Bool → Bool → Bool
side true own = own
side false own = not own

-- the items that the group did, or those that others did
abbrev pub items_of : Bool → Group → List Item → List Item
items_of b g [] = []
items_of b g (i ∷ z) = if side b (tells g i) then i ∷ items_of b g z else items_of b g z

-- two worlds, and what was told of them, have the same part: the group's, or the others'
pub record SamePart (b : Bool) (g : Group) (w v : World) (z y : List Item) : Type 0 where
  pub objects : (m : ℕ) → g.modules m ≡ b → w.objects m ≡ v.objects m
  pub scopes : (m : ℕ) → g.modules m ≡ b → w.scopes m ≡ v.scopes m
  pub cells : (c : ℕ) → g.cells c ≡ b → w.cells c ≡ v.cells c
  pub queues : (m : ℕ) → g.modules m ≡ b → w.queues m ≡ v.queues m
  pub revoked : (m : ℕ) → g.modules m ≡ b → w.revoked m ≡ v.revoked m
  pub nodes : (r : ℕ) → g.roots r ≡ b → w.nodes r ≡ v.nodes r
  pub handlers : (r : ℕ) → g.roots r ≡ b → w.handlers r ≡ v.handlers r
  pub items : items_of b g z ≡ items_of b g y

-- the group's part refers to nothing but what is the group's
pub record Closed (g : Group) (w : World) : Type 0 where
  pub objects : (m : ℕ) → g.modules m ≡ true → All (OwnObject g) (w.objects m)
  pub scopes : (m : ℕ) → g.modules m ≡ true → All (OwnPairs g) (w.scopes m)
  pub cells : (c : ℕ) → g.cells c ≡ true → Own g (w.cells c)
  pub queues : (m : ℕ) → g.modules m ≡ true → All (Own g) (w.queues m)
  pub handlers : (r : ℕ) → g.roots r ≡ true → All (λ h. Own g h.does) (w.handlers r)

-- w and v have the same part for the group, which is closed; and w has the others' part of u
pub record Alike (g : Group) (u : World) (x : List Item) (w : World) (z : List Item) (v : World) (y : List Item) : Type 0 where
  pub same : SamePart true g w v z y
  pub closed : Closed g w
  pub others : SamePart false g u w x z

-- nothing was done
abbrev pub StartsClosed : Type 0
StartsClosed = (g : Group) → Closed g empty_world

-- worlds with the same part are alike, where it is closed
abbrev pub ClosedAlike : Type 0
ClosedAlike = (g : Group) (w v : World) (z y : List Item) → Closed g w → SamePart true g w v z y → Alike g w z w z v y
