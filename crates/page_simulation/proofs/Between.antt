-- Where both sides of a page are between two deeds, and what leaves them there.
use Rattle.std.proofs.Common.{◌≡◌, ℕ, ◌*◌, ◌≤◌, List, [], ◌∷◌, ◌++◌, refl, arith}
use Rattle.doc_nodes.specs.Rows.{Doc}
use Rattle.rows.specs.Nodes.{Rules}
use Rattle.page_deeds.specs.Deeds.{Plain, Grant, a_cell, a_result, a_plain, a_root, Grants}
use Rattle.page_deeds.specs.Deeds as deed
use Rattle.es3_heap.specs.Objects.{Objects}
use Rattle.es3_language.specs.Store.{Store}
use Rattle.cajita_meaning.specs.World.{World}
use Rattle.cajita_meaning.specs.Direct.{Item}
use Rattle.heap_rows.specs.Doing.{Told}
use Rattle.row_simulation.specs.RowLaw.{shown, PagesAre}
use Rattle.row_simulation.specs.Correspond.{Val}
use Rattle.node_rows.specs.Whole.{IsWhole}
use Rattle.page_natives.specs.Natives.{Kept, page_of, tells}
use Rattle.cajita_page.specs.DirectPage as direct
use Rattle.cajita_simulation.specs.Scopes.{Tags}
use Rattle.cajita_simulation.specs.Related.{BetweenTurns}
use Rattle.cajita_simulation.specs.Sides.{Begins}
use Rattle.module_loader.specs.Turns.{Results, plain_value, granted_value, granted_pairs}
use Rattle.cajita_simulation.specs.Places.{PagePlaces, GrantsAre}
use Rattle.page_simulation.specs.Pages.{IsThere, GrantsFit}
use Rattle.cajita_simulation.proofs.Laws.{begins_there}
use Rattle.cajita_simulation.proofs.Sentences.{telling}
use Rattle.page_simulation.proofs.Nodes.{node_object}

-- after i deeds of a page of so many modules and so many cells
pub record After (rules : Rules) (modules cells : ℕ) (doc : Doc) (i : ℕ) (r : direct.Results) (w : World) (z : List Item) (t : ℕ) (r' : Results) (s : Store) (y : Kept) (k : ℕ) : Type 0 where
  pub tags : Tags
  pub between : BetweenTurns rules i w z t tags s y k
  pub results : (m : ℕ) → Val s.heap (r m) (r' m)
  pub places : PagePlaces modules cells doc s.heap

pub affords : {rules : Rules} {modules cells : ℕ} {doc : Doc} {i : ℕ} {r : direct.Results} {w : World} {z : List Item} {t : ℕ} {r' : Results} {s : Store} {y : Kept} {k : ℕ} → After rules modules cells doc i r w z t r' s y k → k ≤ 64 * t
affords {i = i} {t = t} {k = k} a = omega (arith, a.between.steps)

pub begins : {rules : Rules} {modules cells : ℕ} {doc : Doc} {i : ℕ} {r : direct.Results} {w : World} {z : List Item} {t : ℕ} {r' : Results} {s : Store} {y : Kept} {k : ℕ} → After rules modules cells doc i r w z t r' s y k → Begins y z
begins {z = z} {y = y} a = begins_there z y a.between.items

-- where both sides are when a turn has ended, with what is told of it
module _ {rules : Rules} {modules cells : ℕ} {doc : Doc} {w : World} {z : List Item} {n : ℕ} {g : Tags} {s : Store} {y : Kept} {m : ℕ} where
  pub after_turn : (i : ℕ) (r : direct.Results) (r' : Results) (is : List Item) (items : List Told) → shown is ≡ items → BetweenTurns rules i w z n g s y m → ((k : ℕ) → Val s.heap (r k) (r' k)) → PagePlaces modules cells doc s.heap → After rules modules cells doc i r w (z ++ is) n r' s (tells items y) m
  after_turn i r r' is items same between results places = record { tags = g; between = telling rules is items same i w z n g s y m between; results = results; places = places }

-- what a module is granted and what an event passes correspond

pub plain_alike : (h : Objects) (v : Plain) → Val h (direct.plain_value v) (plain_value v)
plain_alike h deed.null = tt
plain_alike h (deed.truth b) = refl
plain_alike h (deed.number n) = refl
plain_alike h (deed.text us) = refl

module _ (modules cells : ℕ) (doc : Doc) (h : Objects) (w : World) (y : Kept) (pages : PagesAre h w (page_of y)) (whole : IsWhole y.dom) (r : direct.Results) (r' : Results) (places : PagePlaces modules cells doc h) (results : (m : ℕ) → Val h (r m) (r' m)) where
  granted_alike : (g : Grant) → IsThere cells doc g → Val h (direct.granted_value r g) (granted_value modules r' y.dom g)
  granted_alike (a_cell c) there = places.records c there
  granted_alike (a_result m) there = results m
  granted_alike (a_plain v) there = plain_alike h v
  granted_alike (a_root root) there = let named = places.roots root there in node_object h w y pages whole root 0 named.0 named.1

  pub grants_alike : (gs : Grants) → GrantsFit cells doc gs → GrantsAre h (direct.granted_pairs r gs) (granted_pairs modules r' y.dom gs)
  grants_alike [] fit = tt
  grants_alike ((x, g) ∷ gs) fit = (refl, fit.0, granted_alike g fit.1, grants_alike gs fit.2)
