-- Where a page begins, its roots have their nodes with their objects, on both sides.
use Rattle.std.proofs.Common.{◌≡◌, ℕ, zero, suc, ◌+◌, ◌≤◌, ◌<◌, Bool, true, false, List, [], ◌∷◌, length, Option, Some, None, cond, ◌⊎◌, inl, inr, refl, sym, ap, ◌∙◌, subst, arith}
use Rattle.std.specs.Prelude.{nat_eq, nat_lt, map, slice_get, if◌then◌else◌}
use Rattle.std.specs.Option.{option_map}
use Rattle.std.proofs.Math.Path.{fun_ext}
use Rattle.std.proofs.lemmas.Bool.Decides.{nat_tests}
use Rattle.std.proofs.lemmas.Option.{slice_get_past}
use Rattle.html_kept.specs.Table.{Answers}
use Rattle.doc_nodes.specs.Rows.{Doc, row_at, nodes_in, nodes_of, children_in}
use Rattle.doc_laws.specs.Reached.{Reached}
use Rattle.doc_views.specs.Seen.{number_at, local, node_seen, nodes_seen, Stands, AllStand}
use Rattle.doc_views.specs.Clear.{IsClear}
use Rattle.doc_views.proofs.Views.{at_number, number_within, parent_is_seen, children_are_seen}
use Rattle.node_deeds.specs.Deeds.{lent_parent}
use Rattle.rows.specs.Document.{Node}
use Rattle.cajita_meaning.specs.World.{empty_world, World}
use Rattle.heap_rows.specs.Opening.{first, place_of, begun, runtime_id, empty_page, with_roots}
use Rattle.heap_rows.specs.Roots.{places_from, page_with_roots}
use Rattle.node_rows.specs.Whole.{IsWhole}
use Rattle.node_rows.specs.Promises.{roots_seen}
use Rattle.node_rows.proofs.Begun.{page_begins_seen}
use Rattle.page_natives.specs.Natives.{new_kept, page_of}
use Rattle.module_loader.specs.Turns.{page_objects, page_lent}
use Rattle.row_simulation.specs.Correspond.{ObjectsAre, Keeps}
use Rattle.row_simulation.specs.RowLaw.{AreBelow, IsBelow, AreWithin, PagesAre}
use Rattle.row_simulation.specs.Roots.{KeptIs, world_with_roots, AreRoots}
use Rattle.row_simulation.proofs.First.{first_is}
use Rattle.row_simulation.proofs.Begun.{begun_corresponds, page_corresponds}
use Rattle.row_simulation.proofs.Roots.{roots_law}
use Rattle.cajita_simulation.specs.Places.{world_of}
use Rattle.cajita_simulation.proofs.Rows.{pages_moved}

-- the parent and the children of a node are of its root

module _ (d : Doc) (a : Reached d) (r : ℕ) where
  abbrev Below : Option ℕ → Type 0
  Below o = IsBelow (length (nodes_seen d r)) (option_map (number_at d.owners) o)

  parent_below : (n k : ℕ) → Stands d n r k → (o : Option ℕ) → ◌≡◌ {A = Option ℕ} (lent_parent d n) o → Below o
  parent_below n k is None e = tt
  parent_below n k is (Some p) e = number_within d p r (local d p) a.owned (parent_is_seen d n r k p a is e)

  all_below : (ns ks : List ℕ) → AllStand d r ns ks → AreBelow (length (nodes_seen d r)) ks
  all_below [] [] all = tt
  all_below (n ∷ ns) (k ∷ ks) all = (number_within d n r k a.owned all.0, all_below ns ks all.1)
  all_below _ _ all = absurd all

  children_below : (n k : ℕ) → Stands d n r k → AreBelow (length (nodes_seen d r)) (node_seen d n).children
  children_below n k is =
      subst (λ (o : Node). AreBelow (length (nodes_seen d r)) o.children) (at_number d n r k a.owned is) (all_below (children_in (row_at d n)) _ (children_are_seen d n r k a is))

  within_from : (ns : List ℕ) (at : ℕ) → ((j n : ℕ) → ◌≡◌ {A = Option ℕ} (slice_get ns j) (Some n) → Stands d n r (at + j)) → AreWithin (length (nodes_seen d r)) (map (node_seen d) ns)
  within_from [] at f = tt
  within_from (n ∷ ns) at f =
      let is = f 0 n refl in
      (parent_below n (at + 0) is (lent_parent d n) refl, children_below n (at + 0) is, within_from ns (suc at) (λ j k e. subst (Stands d k r) (let same : at + suc j ≡ suc at + j = omega arith in same) (f (suc j) k e)))

  within_seen : AreWithin (length (nodes_seen d r)) (nodes_seen d r)
  within_seen = within_from (nodes_of d.roots r) 0 (λ j n e. subst (Stands d n r) (let same : j ≡ 0 + j = omega arith in same) (a.owned.back n r j e))

roots_fit : (d : Doc) → Reached d → (at count : ℕ) → AreRoots (map (nodes_seen d) (places_from at count))
roots_fit d a at zero = tt
roots_fit d a at (suc count) = (within_seen d a at, roots_fit d a (suc at) count)

-- the world in which each root has its nodes

nodes_from : ℕ → List (List Node) → (ℕ → List Node) → ℕ → List Node
nodes_from root [] f = f
nodes_from root (ns ∷ rest) f = nodes_from (suc root) rest (λ r. if nat_eq r root then ns else f r)

worlds_same : (root : ℕ) (nss : List (List Node)) (f : ℕ → List Node) → world_with_roots root nss (world_of f) ≡ world_of (nodes_from root nss f)
unfolding nodes_from
worlds_same root [] f = refl
worlds_same root (ns ∷ rest) f = worlds_same (suc root) rest (λ r. if nat_eq r root then ns else f r)

nodes_there : (F : ℕ → List Node) (root count : ℕ) (f : ℕ → List Node) (r : ℕ) → (f r ≡ F r) ⊎ ((root ≤ r) × (r < root + count)) → nodes_from root (map F (places_from root count)) f r ≡ F r
unfolding nodes_from
nodes_there F root zero f r (inl e) = e
nodes_there F root zero f r (inr p) = absurd (let least = p.0 in let less = p.1 in omega (arith, least, less))
nodes_there F root (suc count) f r known = nodes_there F (suc root) count (λ s. if nat_eq s root then F root else f s) r (by_test (nat_eq r root) refl)
  where
    by_test : (b : Bool) → nat_eq r root ≡ b → (cond b (F root) (f r) ≡ F r) ⊎ ((suc root ≤ r) × (r < suc root + count))
    by_test true e = inl (ap F (let same : root ≡ r = grind (arith, nat_tests) in same))
    by_test false e = elim known as (λ k. (f r ≡ F r) ⊎ ((suc root ≤ r) × (r < suc root + count))) [
      | inl x ↦ inl x
      | inr p ↦ inr (let least = p.0 in grind (arith, nat_tests, least, e), let less = p.1 in omega (arith, less))
    ]

all_nodes : (d : Doc) → nodes_from 0 (roots_seen d) (λ r. []) ≡ nodes_seen d
all_nodes d = fun_ext (λ r. nodes_there (nodes_seen d) 0 (length d.roots) (λ s. []) r (by_test r (nat_lt r (length d.roots)) refl))
  where
    by_test : (r : ℕ) (b : Bool) → nat_lt r (length d.roots) ≡ b → ((let none : List Node = [] in none) ≡ nodes_seen d r) ⊎ ((0 ≤ r) × (r < 0 + length d.roots))
    by_test r true e = inr (omega arith, grind (arith, nat_tests, e))
    by_test r false e = inl (ap (λ o. map (node_seen d) (nodes_in o)) (sym (slice_get_past d.roots r (grind (arith, nat_tests, e)))))

begun_world : (d : Doc) → world_with_roots 0 (roots_seen d) empty_world ≡ world_of (nodes_seen d)
begun_world d = worlds_same 0 (roots_seen d) (λ r. []) ∙ ap world_of (all_nodes d)

-- where a page begins

pub record PageIs (modules cells : ℕ) (d : Doc) : Type 0 where
  pub objects : ObjectsAre first place_of (world_of (nodes_seen d)).objects (page_objects modules cells d) 0
  pub keeps : Keeps (begun modules cells) (page_objects modules cells d)
  pub pages : (touching : Bool) (a : Answers) → PagesAre (page_objects modules cells d) (world_of (nodes_seen d)) (page_of (new_kept runtime_id touching (page_lent modules cells d) a))
  pub whole : IsWhole (page_lent modules cells d)

pub page_is : (modules cells : ℕ) (d : Doc) → Reached d → IsClear d → PageIs modules cells d
page_is modules cells d reached clear =
    let h = begun modules cells in
    let seen = page_begins_seen d h reached clear in
    let page = page_with_roots 0 (length h.list) (roots_seen d) empty_page in
    let k : KeptIs first place_of 0 h (world_with_roots 0 (roots_seen d) empty_world) (record { heap = with_roots 0 (roots_seen d) h; page = page }) =
    roots_law first place_of first_is 0 (roots_seen d) empty_world h empty_page 0 (roots_fit d reached 0 (length d.roots)) (begun_corresponds modules cells) (page_corresponds modules cells) (λ r le. refl) in
    let at : page_objects modules cells d ≡ with_roots 0 (roots_seen d) h = seen.heap in
    record {
      objects = subst (λ (w : World). ObjectsAre first place_of w.objects (page_objects modules cells d) 0) (begun_world d) (subst (λ g. ObjectsAre first place_of (world_with_roots 0 (roots_seen d) empty_world).objects g 0) (sym at) k.objects);
      keeps = subst (λ g. Keeps h g) (sym at) k.keeps;
      pages = λ touching a.
          pages_moved seen.page.cells seen.page.queues seen.page.nodes seen.page.facets seen.page.handlers
          (subst (λ w. PagesAre (page_objects modules cells d) w page) (begun_world d) (subst (λ g. PagesAre g (world_with_roots 0 (roots_seen d) empty_world) page) (sym at) k.pages));
      whole = seen.whole;
    }
