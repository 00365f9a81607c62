-- The group's part of worlds: the same as itself, in either order, and in turn.
use Rattle.std.proofs.Common.{Bool, true, false, List, refl, sym, ◌∙◌, subst}
use Rattle.acts.specs.Laws.{All}
use Rattle.cajita_meaning.specs.World.{World}
use Rattle.cajita_meaning.specs.Direct.{Item}
use Rattle.cajita_laws.specs.Parts.{Group, Own, OwnPairs, OwnObject, SamePart, Closed, StartsClosed, ClosedAlike}

pub closed_at_the_start : StartsClosed
closed_at_the_start g = record { objects = λ m own. tt; scopes = λ m own. tt; cells = λ c own. tt; queues = λ m own. tt; handlers = λ r own. tt }

-- a part is the same as itself; back; and onward
pub same_self : (b : Bool) (g : Group) (w : World) (z : List Item) → SamePart b g w w z z
same_self b g w z = record { objects = λ m is. refl; scopes = λ m is. refl; cells = λ c is. refl; queues = λ m is. refl; revoked = λ m is. refl; nodes = λ r is. refl; handlers = λ r is. refl; items = refl }

pub same_back : (b : Bool) (g : Group) (w v : World) (z y : List Item) → SamePart b g w v z y → SamePart b g v w y z
same_back b g w v z y s = record {
  objects = λ m is. sym (s.objects m is);
  scopes = λ m is. sym (s.scopes m is);
  cells = λ c is. sym (s.cells c is);
  queues = λ m is. sym (s.queues m is);
  revoked = λ m is. sym (s.revoked m is);
  nodes = λ r is. sym (s.nodes r is);
  handlers = λ r is. sym (s.handlers r is);
  items = sym s.items;
}

pub same_onward : (b : Bool) (g : Group) (u w v : World) (x z y : List Item) → SamePart b g u w x z → SamePart b g w v z y → SamePart b g u v x y
same_onward b g u w v x z y s t = record {
  objects = λ m is. s.objects m is ∙ t.objects m is;
  scopes = λ m is. s.scopes m is ∙ t.scopes m is;
  cells = λ c is. s.cells c is ∙ t.cells c is;
  queues = λ m is. s.queues m is ∙ t.queues m is;
  revoked = λ m is. s.revoked m is ∙ t.revoked m is;
  nodes = λ r is. s.nodes r is ∙ t.nodes r is;
  handlers = λ r is. s.handlers r is ∙ t.handlers r is;
  items = s.items ∙ t.items;
}

-- what refers to nothing else does so in each world with the same part
pub closed_same : (g : Group) (w v : World) (z y : List Item) → SamePart true g w v z y → Closed g w → Closed g v
closed_same g w v z y s c = record {
  objects = λ m own. subst (All (OwnObject g)) (s.objects m own) (c.objects m own);
  scopes = λ m own. subst (All (OwnPairs g)) (s.scopes m own) (c.scopes m own);
  cells = λ k own. subst (Own g) (s.cells k own) (c.cells k own);
  queues = λ m own. subst (All (Own g)) (s.queues m own) (c.queues m own);
  handlers = λ r own. subst (All (λ h. Own g h.does)) (s.handlers r own) (c.handlers r own);
}

pub closed_alike : ClosedAlike
closed_alike g w v z y c s = record { same = s; closed = c; others = same_self false g w z }
