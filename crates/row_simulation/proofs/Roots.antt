-- Roots get their nodes, each with its object.
use Rattle.std.proofs.Common.{◌≡◌, ℕ, zero, suc, ◌+◌, ◌≤◌, ◌<◌, List, [], ◌∷◌, length, refl, sym, ap, ◌∙◌, subst, ◌⊎◌, inl, inr, arith}
use Rattle.std.proofs.lemmas.List.{length-append}
use Rattle.es3_objects.specs.declared.value.Value.TheVariants as es
use Rattle.es3_objects.specs.declared.value.Tag.TheVariants as tag
use Rattle.es3_heap.specs.Objects as heap
use Rattle.es3_heap.specs.Objects.{Objects}
use Rattle.rows.specs.Rows.{Native}
use Rattle.rows.specs.Document.{Node}
use Rattle.cajita_meaning.specs.World.{facet_name, object, Object, World, with_nodes}
use Rattle.heap_rows.specs.Doing as es3
use Rattle.heap_rows.specs.Doing.{facet_object}
use Rattle.heap_rows.specs.Opening.{with_facets, with_roots}
use Rattle.heap_rows.specs.Roots.{places_from, page_with_roots}
use Rattle.row_simulation.specs.RowLaw.{AreWithin, PagesAre, IsFirst}
use Rattle.row_simulation.specs.Roots.{KeptIs, world_with_roots, AreRoots, RootsLaw}
use Rattle.row_simulation.proofs.Names.{name_there}
use Rattle.row_simulation.proofs.Relation.{Named, Val, ObjectsAre, Keeps, val_keep, vals_keep}
use Rattle.row_simulation.proofs.Row.{keeps_refl, keeps_trans, handlers_keep}
use Rattle.row_simulation.proofs.Changes.{by_number, cases_at}
use Rattle.row_simulation.proofs.Nodes.{by_root, facet_apart, facet_keeps, facet_added, facet_here}

-- a root's first nodes

record Faceted (first : Objects) (places : Native → ℕ) (world : ℕ → List Object) (m : ℕ) (h : Objects) (root k : ℕ) : Type 0 where
  objects : ObjectsAre first places world (with_facets root k h) m
  keeps : Keeps h (with_facets root k h)
  long : length (with_facets root k h).list ≡ length h.list + k
  there : (j : ℕ) → j < k → Named (with_facets root k h) (facet_name root j) (length h.list + j)
  known : (r j i : ℕ) → Named (with_facets root k h) (facet_name r j) i → ((r ≡ root) × (j < k)) ⊎ Named h (facet_name r j) i

faceted : {first : Objects} {places : Native → ℕ} {objects : ℕ → List Object} {m : ℕ} {h : Objects} → IsFirst first → ObjectsAre first places objects h m → (root : ℕ) → ((j i : ℕ) → Named h (facet_name root j) i → ⊥) → (k : ℕ) → Faceted first places objects m h root k
faceted f o root none zero = record { objects = o; keeps = keeps_refl; long = omega arith; there = λ j lt. absurd (omega (arith, lt)); known = λ r j i t. inr t }
faceted {h = h} f o root none (suc k) =
    let p = faceted f o root none k in
    let g = with_facets root k h in
    let more = facet_keeps g root k in
    record {
      objects = facet_added f p.objects root k (λ i t. elim (p.known root k i t) as (λ q. ⊥) [
        | inl x ↦ let lt = x.1 in absurd (omega (arith, lt))
        | inr t ↦ none k i t
      ]);
      keeps = keeps_trans p.keeps more;
      long = let l = length-append g.list (facet_object root k ∷ []) in let q = p.long in omega (arith, l, q);
      there = λ j lt. by_number j k (Named (with_facets root (suc k) h) (facet_name root j) (length h.list + j))
          (λ same. subst (λ x. Named (with_facets root (suc k) h) (facet_name root x) (length h.list + x)) (sym same) (subst (Named (with_facets root (suc k) h) (facet_name root k)) p.long (facet_here g root k)))
          (λ other. more.named (facet_name root j) _ (p.there j (omega (arith, lt, other))));
      known = λ r j i t. cases_at g.list (facet_object root k) i (λ q. heap.tag_of q ≡ tag.Facet r j → ((r ≡ root) × (j < suc k)) ⊎ Named h (facet_name r j) i)
          (λ lt t. elim (p.known r j i t) as (λ q. ((r ≡ root) × (j < suc k)) ⊎ Named h (facet_name r j) i) [
            | inl x ↦ let less = x.1 in inl (x.0, omega (arith, less))
            | inr t ↦ inr t
          ])
          (λ at t. let x = facet_apart root k r j t in let e = x.1 in inl (sym x.0, omega (arith, e)))
          (λ t. absurd (name_there (facet_name r j) t))
          t;
    }

-- where their objects stand

count_places : (at n : ℕ) → length (places_from at n) ≡ n
count_places at zero = refl
count_places at (suc n) = ap suc (count_places (suc at) n)

place_at : (at n k : ℕ) → k < n → es3.facet_at (places_from at n) k ≡ es.Obj (at + k)
place_at at zero k lt = absurd (omega (arith, lt))
place_at at (suc n) zero lt = ap (λ x. es.Obj x) (let e : at ≡ at + 0 = omega arith in e)
place_at at (suc n) (suc k) lt = place_at (suc at) n k (omega (arith, lt)) ∙ ap (λ x. es.Obj x) (let e : suc at + k ≡ at + suc k = omega arith in e)

-- one root, which had none

root_added : {first : Objects} {places : Native → ℕ} {m : ℕ} (h : Objects) (w : World) (g : es3.Page) → IsFirst first → ObjectsAre first places w.objects h m → PagesAre h w g → (root : ℕ) (ns : List Node) → AreWithin (length ns) ns → g.nodes root ≡ []
    → KeptIs first places m h (with_nodes root ns w) (record { heap = with_facets root (length ns) h; page = record { cells = g.cells; queues = g.queues; nodes = es3.with_of root ns g.nodes; facets = es3.with_of root (places_from (length h.list) (length ns)) g.facets; handlers = g.handlers } })
root_added {first = first} {places = places} {m = m} h w g f o p root ns within none = record {
  objects = all.objects;
  keeps = all.keeps;
  pages = record {
    cells = λ c. val_keep all.keeps (w.cells c) (g.cells c) (p.cells c);
    queues = λ c. vals_keep all.keeps (w.queues c) (g.queues c) (p.queues c);
    nodes = λ r. by_root r root ns (w.nodes r) ns (g.nodes r) (λ x y. x ≡ y) (λ same. refl) (λ other. p.nodes r);
    within = λ r. by_root r root ns (g.nodes r) ns (g.nodes r) (λ x y. AreWithin (length x) x) (λ same. within) (λ other. p.within r);
    facets = λ r k. by_root r root ns (g.nodes r) os (g.facets r) (λ x y. k < length x → Val h' (object (facet_name r k)) (es3.facet_at y k))
        (λ same lt. subst (λ x. Val h' (object (facet_name x k)) (es3.facet_at os k)) (sym same) (subst (Val h' (object (facet_name root k))) (sym (place_at (length h.list) (length ns) k lt)) (all.there k lt)))
        (λ other lt. val_keep all.keeps (object (facet_name r k)) (es3.facet_at (g.facets r) k) (p.facets r k lt));
    as_many = λ r. by_root r root ns (g.nodes r) os (g.facets r) (λ x y. length y ≡ length x) (λ same. count_places (length h.list) (length ns)) (λ other. p.as_many r);
    known = λ r k i t. by_root r root ns (g.nodes r) ns (g.nodes r) (λ x y. k < length x)
        (λ same. elim (all.known r k i t) as (λ q. k < length ns) [
          | inl x ↦ x.1
          | inr t ↦ absurd (empty k i (subst (λ x. Named h (facet_name x k) i) same t))
        ])
        (λ other. elim (all.known r k i t) as (λ q. k < length (g.nodes r)) [
          | inl x ↦ absurd (other x.0)
          | inr t ↦ p.known r k i t
        ]);
    handlers = λ r. handlers_keep all.keeps (w.handlers r) (g.handlers r) (p.handlers r);
  };
}
  where
    empty : (k i : ℕ) → Named h (facet_name root k) i → ⊥
    empty k i t = let lt : k < length (g.nodes root) = p.known root k i t in let e = ap length none in omega (arith, lt, e)

    all : Faceted first places w.objects m h root (length ns)
    all = faceted f o root empty (length ns)

    os : List ℕ
    os = places_from (length h.list) (length ns)

    h' : Objects
    h' = with_facets root (length ns) h

-- a root that comes has no node of another one
others_none : (root : ℕ) (ns : List Node) (g : es3.Page) → ((r : ℕ) → root ≤ r → g.nodes r ≡ []) → (r : ℕ) → suc root ≤ r → es3.with_of root ns g.nodes r ≡ []
others_none root ns g none r le = by_root r root ns (g.nodes r) ns (g.nodes r) (λ x y. x ≡ []) (λ same. absurd (omega (arith, same, le))) (λ other. none r (omega (arith, le)))

roots_from : {first : Objects} {places : Native → ℕ} → IsFirst first → (root at : ℕ) (roots : List (List Node)) (w : World) (h : Objects) (g : es3.Page) (m : ℕ) → at ≡ length h.list → AreRoots roots → ObjectsAre first places w.objects h m → PagesAre h w g → ((r : ℕ) → root ≤ r → g.nodes r ≡ [])
    → KeptIs first places m h (world_with_roots root roots w) (record { heap = with_roots root roots h; page = page_with_roots root at roots g })
roots_from f root at [] w h g m e a o p none = record { objects = o; keeps = keeps_refl; pages = p }
roots_from {first = first} {places = places} f root at (ns ∷ rest) w h g m e a o p none =
    let one = root_added h w g f o p root ns a.0 (none root (omega arith)) in
    let long : length (with_facets root (length ns) h).list ≡ length h.list + length ns = facets_long root (length ns) h in
    let more = roots_from f (suc root) (length h.list + length ns) rest (with_nodes root ns w) (with_facets root (length ns) h) _ m (sym long) a.1 one.objects one.pages (others_none root ns g none) in
    subst (λ x. KeptIs first places m h (world_with_roots root (ns ∷ rest) w) (record { heap = with_roots root (ns ∷ rest) h; page = page_with_roots root x (ns ∷ rest) g })) (sym e) (record { objects = more.objects; keeps = keeps_trans one.keeps more.keeps; pages = more.pages })
  where
    facets_long : (root k : ℕ) (h : Objects) → length (with_facets root k h).list ≡ length h.list + k
    facets_long root zero h = omega arith
    facets_long root (suc k) h = let l = length-append (with_facets root k h).list (facet_object root k ∷ []) in let q = facets_long root k h in omega (arith, l, q)

pub roots_law : (first : Objects) (places : Native → ℕ) → IsFirst first → RootsLaw first places
roots_law first places f root roots w h g m a o p none = roots_from f root (length h.list) roots w h g m refl a o p none
