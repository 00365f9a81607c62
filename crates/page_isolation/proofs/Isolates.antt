-- Isolation of pages: what holds between their deeds, where the deeds go in pairs that agree on a group.
use Rattle.std.proofs.Common.{inl, inr, ℕ, true, false, List, [], ◌∷◌, refl, sym, ap, ◌∙◌, subst}
use Rattle.std.specs.Prelude.{not}
use Rattle.plans.specs.Plans.{over, stopped, out}
use Rattle.pages.specs.Pages.{deed}
use Rattle.rows.specs.Document.{Node}
use Rattle.rows.specs.Nodes.{Rules}
use Rattle.cajita_meaning.specs.World.{World}
use Rattle.cajita_meaning.specs.Direct.{Item}
use Rattle.cajita_laws.specs.Parts.{Group, others, Own, SamePart, Closed}
use Rattle.cajita_laws.proofs.Parts.{same_self, same_back, same_onward, closed_same, closed_alike}
use Rattle.cajita_page.specs.DirectPage.{Deed, Results, no_results, Run, evaluator, first_world, direct_page}
use Rattle.page_isolation.specs.Agree.{IsDeedOf, DeedsAgree, Agrees, SameNodes}
use Rattle.page_isolation.specs.Promises.{SameLines, SameWorlds, PagesIsolate, PagesKeepApart}
use Rattle.page_isolation.proofs.Both.{BothOver, DeedsHold, PairsHold, pages_hold}
use Rattle.page_isolation.proofs.Sides.{is_not, others_part, others_closed, others_deed}
use Rattle.page_isolation.proofs.Deeds.{OwnResults, After, deed_after}

-- the others of a group refer to nothing of it, in the world and by their results
record Away (g : Group) (r : Results) (w : World) : Type 0 where
  pub closed : Closed (others g) w
  pub results : OwnResults (others g) r r

-- two pages, between deeds: the group has the same, which refers to nothing else; and in neither page the others refer to the group
record Apart (g : Group) (r : Results) (w : World) (z : List Item) (r' : Results) (v : World) (y : List Item) : Type 0 where
  pub same : SamePart true g w v z y
  pub closed : Closed g w
  pub results : OwnResults g r r'
  pub left : Away g r w
  pub right : Away g r' v

apart_back : (g : Group) (r : Results) (w : World) (z : List Item) (r' : Results) (v : World) (y : List Item) → Apart g r w z r' v y → Apart g r' v y r w z
apart_back g r w z r' v y a = record {
  same = same_back true g w v z y a.same;
  closed = closed_same g w v z y a.same a.closed;
  results = λ m mine. (sym (a.results m mine).0, subst (Own g) (a.results m mine).0 (a.results m mine).1);
  left = a.right;
  right = a.left;
}

-- a deed of the group

-- it leaves the others where they were
still_away : (rules : Rules) (g : Group) (r : Results) (w : World) (z : List Item) (r1 : Results) (w1 : World) (z1 : List Item) (r2 : Results) (v1 : World) (y1 : List Item) → After rules g w z r r1 w1 z1 r2 v1 y1 → Away g r w → Away g r1 w1
still_away rules g r w z r1 w1 z1 r2 v1 y1 h a = record {
  closed = others_closed g w w1 z z1 h.alike.others a.closed;
  results = λ m other. (refl, subst (Own (others g)) (sym (h.rest m (is_not (g.modules m) other))) (a.results m other).1);
}

group_holds : (rules : Rules) (g : Group) (d : Deed) → IsDeedOf true g d → DeedsHold (evaluator rules) (Apart g) d d
group_holds rules g d is n m r w z r' v y a =
    let back = apart_back g r w z r' v y a in
    at (deed (evaluator rules) d n r w z) (deed (evaluator rules) d m r' v y)
    (deed_after rules g w z d r r' n m w z v y is a.results (closed_alike g w v z y a.closed a.same))
    (deed_after rules g v y d r' r' m m v y v y is (λ k mine. (refl, (back.results k mine).1)) (closed_alike g v v y y back.closed (same_self true g v y)))
  where
    at : (p q : Run) → BothOver (After rules g w z r) p q → BothOver (After rules g v y r') q q → BothOver (Apart g) p q
    at (over r1 w1 z1 i) (over r2 v1 y1 j) h k = record {
      same = h.alike.same;
      closed = h.alike.closed;
      results = h.results;
      left = still_away rules g r w z r1 w1 z1 r2 v1 y1 h a.left;
      right = still_away rules g r' v y r2 v1 y1 r2 v1 y1 k a.right;
    }
    at (over r1 w1 z1 i) (stopped f v1 y1 j) h k = tt
    at (over r1 w1 z1 i) (out v1 y1 j) h k = tt
    at (stopped f w1 z1 i) q h k = tt
    at (out w1 z1 i) q h k = tt

-- a deed of others, in one page

abbrev OneApart : Group → Results → World → List Item → Run → Type 0
OneApart g r' v y (over r w z n) = Apart g r w z r' v y
OneApart g r' v y (stopped f w z n) = Unit {0}
OneApart g r' v y (out w z n) = Unit {0}

other_holds : (rules : Rules) (g : Group) (d : Deed) → IsDeedOf false g d → (n : ℕ) (r : Results) (w : World) (z : List Item) (r' : Results) (v : World) (y : List Item) → Apart g r w z r' v y → OneApart g r' v y (deed (evaluator rules) d n r w z)
other_holds rules g d is n r w z r' v y a =
    at (deed (evaluator rules) d n r w z) (deed_after rules (others g) w z d r r n n w z w z (others_deed g d is) a.left.results (closed_alike (others g) w w z z a.left.closed (same_self true (others g) w z)))
  where
    at : (p : Run) → BothOver (After rules (others g) w z r) p p → OneApart g r' v y p
    at (over r1 w1 z1 i) h =
        let s = others_part g w w1 z z1 h.alike.others in
        record {
          same = same_onward true g w1 w v z1 z y (same_back true g w w1 z z1 s) a.same;
          closed = closed_same g w w1 z z1 s a.closed;
          results = λ m mine. let e = h.rest m (ap not mine) in (e ∙ (a.results m mine).0, subst (Own g) (sym e) (a.results m mine).1);
          left = record { closed = h.alike.closed; results = h.results };
          right = a.right;
        }
    at (stopped f w1 z1 i) h = tt
    at (out w1 z1 i) h = tt

-- first in the one page, and then in the other
others_hold : (rules : Rules) (g : Group) (d d' : Deed) → IsDeedOf false g d → IsDeedOf false g d' → DeedsHold (evaluator rules) (Apart g) d d'
others_hold rules g d d' is is' n m r w z r' v y a = at (deed (evaluator rules) d n r w z) (other_holds rules g d is n r w z r' v y a)
  where
    then : (r1 : Results) (w1 : World) (z1 : List Item) (i : ℕ) (q : Run) → OneApart g r1 w1 z1 q → BothOver (Apart g) (over r1 w1 z1 i) q
    then r1 w1 z1 i (over r2 v1 y1 j) h = apart_back g r2 v1 y1 r1 w1 z1 h
    then r1 w1 z1 i (stopped f v1 y1 j) h = tt
    then r1 w1 z1 i (out v1 y1 j) h = tt

    at : (p : Run) → OneApart g r' v y p → BothOver (Apart g) p (deed (evaluator rules) d' m r' v y)
    at (over r1 w1 z1 i) h = then r1 w1 z1 i (deed (evaluator rules) d' m r' v y) (other_holds rules g d' is' m r' v y r1 w1 z1 (apart_back g r1 w1 z1 r' v y h))
    at (stopped f w1 z1 i) h = tt
    at (out w1 z1 i) h = tt

-- pages

deeds_hold : (rules : Rules) (g : Group) (d d' : Deed) → DeedsAgree g d d' → DeedsHold (evaluator rules) (Apart g) d d'
deeds_hold rules g d d' (inl h) = subst (λ e. DeedsHold (evaluator rules) (Apart g) d e) h.1 (group_holds rules g d h.0)
deeds_hold rules g d d' (inr h) = others_hold rules g d d' h.0 h.1

pairs_hold : (rules : Rules) (g : Group) (ds ds' : List Deed) → Agrees g ds ds' → PairsHold (evaluator rules) (Apart g) ds ds'
pairs_hold rules g [] [] h = tt
pairs_hold rules g (d ∷ ds) (d' ∷ ds') h = (deeds_hold rules g d d' h.0, pairs_hold rules g ds ds' h.1)
pairs_hold rules g ds ds' h = absurd h

-- at first nothing refers to anything
closed_at_first : (g : Group) (nodes : ℕ → List Node) → Closed g (first_world nodes)
closed_at_first g nodes = record { objects = λ m own. tt; scopes = λ m own. tt; cells = λ c own. tt; queues = λ m own. tt; handlers = λ r own. tt }

first_part : (g : Group) (nodes nodes' : ℕ → List Node) → SameNodes g nodes nodes' → SamePart true g (first_world nodes) (first_world nodes') [] []
first_part g nodes nodes' same = record { objects = λ m own. refl; scopes = λ m own. refl; cells = λ c own. refl; queues = λ m own. refl; revoked = λ m own. refl; nodes = same; handlers = λ r own. refl; items = refl }

away_at_first : (g : Group) (nodes : ℕ → List Node) → Away g no_results (first_world nodes)
away_at_first g nodes = record { closed = closed_at_first (others g) nodes; results = λ m other. (refl, tt) }

apart_at_first : (g : Group) (nodes nodes' : ℕ → List Node) → SameNodes g nodes nodes' → Apart g no_results (first_world nodes) [] no_results (first_world nodes') []
apart_at_first g nodes nodes' same = record { same = first_part g nodes nodes' same; closed = closed_at_first g nodes; results = λ m mine. (refl, tt); left = away_at_first g nodes; right = away_at_first g nodes' }

pages_apart : (rules : Rules) (g : Group) (nodes nodes' : ℕ → List Node) → SameNodes g nodes nodes' → (ds ds' : List Deed) → Agrees g ds ds' → (n m : ℕ) → BothOver (Apart g) (direct_page rules nodes ds n) (direct_page rules nodes' ds' m)
pages_apart rules g nodes nodes' same ds ds' h n m = pages_hold (evaluator rules) (Apart g) ds ds' (pairs_hold rules g ds ds' h) n m no_results (first_world nodes) [] no_results (first_world nodes') [] (apart_at_first g nodes nodes' same)

worlds : (g : Group) (p q : Run) → BothOver (Apart g) p q → SameWorlds g p q
worlds g (over r w z n) (over r' v y m) a = (a.same, λ k mine. (a.results k mine).0)
worlds g p q a = tt

lines : (g : Group) (p q : Run) → SameWorlds g p q → SameLines g p q
lines g (over r w z n) (over r' v y m) h = h.0.items
lines g p q h = tt

pub pages_keep_apart : PagesKeepApart
pages_keep_apart rules g nodes nodes' same ds ds' h n m = worlds g (direct_page rules nodes ds n) (direct_page rules nodes' ds' m) (pages_apart rules g nodes nodes' same ds ds' h n m)

pub pages_isolate : PagesIsolate
pages_isolate rules g nodes nodes' same ds ds' h n m = lines g (direct_page rules nodes ds n) (direct_page rules nodes' ds' m) (pages_keep_apart rules g nodes nodes' same ds ds' h n m)
