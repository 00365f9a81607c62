-- Where a page begins: each node's object stands where the rows have it.
use Rattle.std.proofs.Common.{◌≡◌, ◌≢◌, ℕ, zero, suc, ◌+◌, ◌<◌, ◌≤◌, true, false, List, [], ◌∷◌, ◌++◌, Option, Some, length, cond, refl, sym, ap, ◌∙◌, subst, append_assoc, arith}
use Rattle.std.specs.Prelude.{slice_get, map, nat_lt}
use Rattle.std.proofs.Math.Dec.{eqb}
use Rattle.std.proofs.lemmas.Bool.{eqb-true, eq-eqb}
use Rattle.std.proofs.lemmas.Bool.Decides.{nat_tests}
use Rattle.std.proofs.lemmas.List.{length-append, length-map}
use Rattle.std.proofs.lemmas.Option.{slice_get_within, slice_get_past}
use Rattle.es3_heap.specs.Objects.{Objects, with_object}
use Rattle.doc_nodes.specs.Rows.{Doc, owner_of, nodes_in, nodes_of}
use Rattle.doc_nodes.specs.Changes.{root_in}
use Rattle.node_deeds.specs.Deeds.{number_in}
use Rattle.doc_laws.specs.Owned.{Owned}
use Rattle.doc_laws.specs.Reached.{Reached}
use Rattle.doc_laws.proofs.Lists.{there, apart, not_same}
use Rattle.rows.specs.Document.{Node}
use Rattle.heap_rows.specs.Doing.{Page, facet_object, with_of}
use Rattle.heap_rows.specs.Opening.{empty_page}
use Rattle.heap_rows.specs.Roots.{places_from, page_with_roots}
use Rattle.doc_views.specs.Seen.{node_seen, nodes_seen, Stands}
use Rattle.doc_views.specs.Clear.{IsClear}
use Rattle.doc_views.proofs.Views.{one_node}
use Rattle.doc_views.proofs.Created.{root_there}
use Rattle.dom_facets.specs.Facets.{facet_at, with_facet, new_facet, Made, made_with, with_new, node_facets, root_facets}
use Rattle.tamed_dom.specs.Lent.{begun}
use Rattle.dom_laws.specs.Objects.{nodes_before}
use Rattle.dom_laws.proofs.Begun.{new_object, begins_as_rows}
use Rattle.dom_laws.proofs.Fits.{facet_here, facet_other}
use Rattle.node_rows.specs.View.{place_or, facet_seen, facets_seen, page_seen, AreSame}
use Rattle.node_rows.specs.Promises.{roots_seen, BeginsSeen}
use Rattle.node_rows.proofs.Lists.{get_first}

number_same : (a c : ℕ) → ◌≡◌ {A = Option ℕ} (Some a) (Some c) → a ≡ c
number_same a c h = cc

pair_same : (a b c e : ℕ) → ◌≡◌ {A = Option (ℕ × ℕ)} (Some (a, b)) (Some (c, e)) → (a ≡ c) × (b ≡ e)
pair_same a b c e h = (number_same a c (ap root_in h), ap number_in h)

-- so many objects are made, for the nodes of the roots before one and for so many of its own
record Placed (start : ℕ) (d : Doc) (r j : ℕ) (m : Made) : Type 0 where
  many : length m.heap.list ≡ start + nodes_before r d + j
  before : (n s i : ℕ) → Stands d n s i → s < r → facet_at m.facets n ≡ Some (start + nodes_before s d + i)
  here : (n i : ℕ) → Stands d n r i → i < j → facet_at m.facets n ≡ Some (start + nodes_before r d + i)

module _ (start : ℕ) (d : Doc) (own : Owned d) where
  one_more : (r k n : ℕ) (m : Made) → Stands d n r k → Placed start d r k m → Placed start d r (suc k) (with_new (Some n) d m)
  one_more r k n m is p =
      let o = length m.heap.list in
      let heap : (new_facet n d m.heap m.facets).heap ≡ with_object m.heap (facet_object r k) = new_object n r k d m.heap m.facets is in
      let other = λ (q s i : ℕ) (has : Stands d q s i) (ne : (s ≡ r) × (i ≡ k) → ⊥) (same : q ≡ n). ne (pair_same s i r k (sym has ∙ ap (owner_of d) same ∙ is)) in
      record {
        many = ap (λ (h : Objects). length h.list) heap ∙ length-append m.heap.list (facet_object r k ∷ []) ∙ omega (arith, p.many);
        before = λ q s i has less. facet_other n q o m.facets (other q s i has (λ both. let same = both.0 in omega (arith, less, same))) ∙ p.before q s i has less;
        here = λ q i has less.
            let cases = elim (eqb i k) as (λ b. eqb i k ≡ b → facet_at (with_facet n o m.facets) q ≡ Some (start + nodes_before r d + i)) [
              | true ↦ λ yes.
                  let last : i ≡ k = eqb-true i k yes in
                  let at : q ≡ n = one_node d q n r k own (subst (λ x. Stands d q r x) last has) is in
                  ap (facet_at (with_facet n o m.facets)) at ∙ facet_here n o m.facets ∙ ap (λ x. Some x) (p.many ∙ ap (λ x. start + nodes_before r d + x) (sym last))
              | false ↦ λ no.
                  let ne : i ≢ k = apart i k no in
                  facet_other n q o m.facets (other q r i has (λ both. ne both.1)) ∙ p.here q i has (omega (arith, less, ne))
            ] in cases refl;
      }

  nodes_placed : (r k : ℕ) (m : Made) → k ≤ length (nodes_of d.roots r) → Placed start d r 0 m → Placed start d r k (node_facets r k d m)
  unfolding node_facets
  nodes_placed r zero m few p = p
  nodes_placed r (suc k) m few p =
      let n = there (nodes_of d.roots r) k (omega (arith, few)) in
      subst (λ o. Placed start d r (suc k) (with_new o d (node_facets r k d m))) (sym n.1)
      (one_more r k n.0 (node_facets r k d m) (own.back n.0 r k n.1) (nodes_placed r k m (omega (arith, few)) p))

  next_root : (r : ℕ) (m : Made) → Placed start d r (length (nodes_of d.roots r)) m → Placed start d (suc r) 0 m
  next_root r m p = record {
    many = p.many ∙ omega arith;
    before = λ n s i is less.
        let cases = elim (eqb s r) as (λ b. eqb s r ≡ b → facet_at m.facets n ≡ Some (start + nodes_before s d + i)) [
          | true ↦ λ yes.
              let same : s ≡ r = eqb-true s r yes in
              let at : Stands d n r i = subst (λ x. Stands d n x i) same is in
              p.here n i at (slice_get_within (nodes_of d.roots r) i n (own.to n r i at)) ∙ ap (λ x. Some (start + nodes_before x d + i)) (sym same)
          | false ↦ λ no. let ne : s ≢ r = apart s r no in p.before n s i is (omega (arith, less, ne))
        ] in cases refl;
    here = λ n i is less. absurd (omega (arith, less));
  }

  roots_placed : (r : ℕ) (m : Made) → Placed start d 0 0 m → Placed start d r 0 (root_facets r d m)
  unfolding root_facets
  roots_placed zero m p = p
  roots_placed (suc r) m p =
      let k = length (nodes_of d.roots r) in
      next_root r (node_facets r k d (root_facets r d m)) (nodes_placed r k (root_facets r d m) (omega arith) (roots_placed r m p))

pub begun_placed : (d : Doc) (h : Objects) (n r k : ℕ) → Reached d → Stands d n r k → facet_at (begun (length d.roots) d h).lent.facets n ≡ Some (length h.list + nodes_before r d + k)
begun_placed d h n r k a is =
    let start : Placed (length h.list) d 0 0 (made_with h []) = record { many = omega arith; before = λ n s i has less. absurd (omega (arith, less)); here = λ n i has less. absurd (omega (arith, less)) } in
    (roots_placed (length h.list) d a.owned (length d.roots) (made_with h []) start).before n r k is (root_there d n r k a is)

-- numbers that follow one another
map_places : (f : ℕ → ℕ) (xs : List ℕ) (at : ℕ) → ((j n : ℕ) → ◌≡◌ {A = Option ℕ} (slice_get xs j) (Some n) → f n ≡ at + j) → map f xs ≡ places_from at (length xs)
map_places f [] at each = refl
map_places f (x ∷ xs) at each =
    ap (λ y. y ∷ map f xs) (each 0 x refl ∙ omega arith)
    ∙ ap (λ ys. at ∷ ys) (map_places f xs (suc at) (λ j n is. each (suc j) n is ∙ omega arith))

facets_placed : (d : Doc) (h : Objects) (r : ℕ) → Reached d → facets_seen d (begun (length d.roots) d h).lent.facets r ≡ places_from (length h.list + nodes_before r d) (length (nodes_seen d r))
facets_placed d h r a =
    let start = length h.list + nodes_before r d in
    map_places (facet_seen (begun (length d.roots) d h).lent.facets) (nodes_of d.roots r) start (λ j n is. ap place_or (begun_placed d h n r j a (a.owned.back n r j is)))
    ∙ ap (places_from start) (sym (length-map (nodes_of d.roots r) (node_seen d)))

-- no root is behind the last one
no_root : (d : Doc) (r : ℕ) → length d.roots ≤ r → nodes_of d.roots r ≡ []
no_root d r past = ap nodes_in (slice_get_past d.roots r past)

-- the page has the nodes of the roots before one
record Filled (d : Doc) (fs : List (Option ℕ)) (r : ℕ) (g : Page) : Type 0 where
  cells : (c : ℕ) → g.cells c ≡ empty_page.cells c
  queues : (m : ℕ) → g.queues m ≡ []
  handlers : (s : ℕ) → g.handlers s ≡ []
  nodes : (s : ℕ) → s < r → g.nodes s ≡ nodes_seen d s
  facets : (s : ℕ) → s < r → g.facets s ≡ facets_seen d fs s
  no_nodes : (s : ℕ) → r ≤ s → g.nodes s ≡ []
  no_facets : (s : ℕ) → r ≤ s → g.facets s ≡ []

-- what a root has, and another one
root_has : {A : Type 0} (r s : ℕ) (a : A) (f : ℕ → A) → s ≡ r → with_of r a f s ≡ a
root_has {A = A} r s a f same = let yes : eqb s r ≡ true = eq-eqb s r same in ap (λ b. cond b a (f s)) yes

root_lacks : {A : Type 0} (r s : ℕ) (a : A) (f : ℕ → A) → s ≢ r → with_of r a f s ≡ f s
root_lacks {A = A} r s a f ne = ap (λ b. cond b a (f s)) (not_same s r ne)

-- a number below another or not
below_or : {P : Type 0} (s r : ℕ) → (s < r → P) → (r ≤ s → P) → P
below_or {P = P} s r less more =
    let cases = elim (nat_lt s r) as (λ b. nat_lt s r ≡ b → P) [ true ↦ λ yes. less (grind (arith, nat_tests)) | false ↦ λ no. more (grind (arith, nat_tests)) ] in cases refl

module _ (d : Doc) (h : Objects) (a : Reached d) where
  next_filled : (r at : ℕ) (g : Page) → at ≡ length h.list + nodes_before r d → Filled d (begun (length d.roots) d h).lent.facets r g
      → Filled d (begun (length d.roots) d h).lent.facets (suc r)
      (record { cells = g.cells; queues = g.queues; nodes = with_of r (nodes_seen d r) g.nodes; facets = with_of r (places_from at (length (nodes_seen d r))) g.facets; handlers = g.handlers })
  next_filled r at g place f =
      let fs = (begun (length d.roots) d h).lent.facets in
      let ns = nodes_seen d r in
      let os = places_from at (length ns) in
      let own : os ≡ facets_seen d fs r = ap (λ x. places_from x (length ns)) place ∙ sym (facets_placed d h r a) in
      record {
        cells = f.cells;
        queues = f.queues;
        handlers = f.handlers;
        nodes = λ s less.
            let cases = elim (eqb s r) as (λ b. eqb s r ≡ b → with_of r ns g.nodes s ≡ nodes_seen d s) [
              | true ↦ λ yes. let same : s ≡ r = eqb-true s r yes in root_has r s ns g.nodes same ∙ ap (nodes_seen d) (sym same)
              | false ↦ λ no. let ne : s ≢ r = apart s r no in root_lacks r s ns g.nodes ne ∙ f.nodes s (omega (arith, less, ne))
            ] in cases refl;
        facets = λ s less.
            let cases = elim (eqb s r) as (λ b. eqb s r ≡ b → with_of r os g.facets s ≡ facets_seen d fs s) [
              | true ↦ λ yes. let same : s ≡ r = eqb-true s r yes in root_has r s os g.facets same ∙ own ∙ ap (facets_seen d fs) (sym same)
              | false ↦ λ no. let ne : s ≢ r = apart s r no in root_lacks r s os g.facets ne ∙ f.facets s (omega (arith, less, ne))
            ] in cases refl;
        no_nodes = λ s past. root_lacks r s ns g.nodes (λ same. omega (arith, past, same)) ∙ f.no_nodes s (omega (arith, past));
        no_facets = λ s past. root_lacks r s os g.facets (λ same. omega (arith, past, same)) ∙ f.no_facets s (omega (arith, past));
      }

  all_filled : (m r at : ℕ) (g : Page) → r + m ≡ length d.roots → at ≡ length h.list + nodes_before r d → Filled d (begun (length d.roots) d h).lent.facets r g
      → AreSame (page_with_roots r at (map (nodes_seen d) (places_from r m)) g) (page_seen empty_page.cells empty_page.queues (begun (length d.roots) d h).lent)
  all_filled zero r at g all place f = record {
    cells = f.cells;
    queues = f.queues;
    nodes = λ s. below_or s r (f.nodes s) (λ past. f.no_nodes s past ∙ sym (ap (map (node_seen d)) (no_root d s (omega (arith, all, past)))));
    facets = λ s. below_or s r (f.facets s) (λ past. f.no_facets s past ∙ sym (ap (map (facet_seen (begun (length d.roots) d h).lent.facets)) (no_root d s (omega (arith, all, past)))));
    handlers = f.handlers;
  }
  all_filled (suc m) r at g all place f =
      let long = length-map (nodes_of d.roots r) (node_seen d) in
      all_filled m (suc r) (at + length (nodes_seen d r))
      (record { cells = g.cells; queues = g.queues; nodes = with_of r (nodes_seen d r) g.nodes; facets = with_of r (places_from at (length (nodes_seen d r))) g.facets; handlers = g.handlers })
      (omega (arith, all)) (omega (arith, place, long)) (next_filled r at g place f)

-- the lists of roots are as long
as_long : (mss before : List (List ℕ)) (r : ℕ) (d : Doc) → d.roots ≡ before ++ mss → length before ≡ r → map (λ (ns : List Node). length ns) (map (nodes_seen d) (places_from r (length mss))) ≡ map (λ (ms : List ℕ). length ms) mss
as_long [] before r d whole at = refl
as_long (ms ∷ mss) before r d whole at =
    let here : slice_get d.roots r ≡ Some ms = ap (λ l. slice_get l r) whole ∙ get_first before ms mss r at in
    let one : length (nodes_seen d r) ≡ length ms = length-map (nodes_of d.roots r) (node_seen d) ∙ ap (λ o. length (nodes_in o)) here in
    let next : length (before ++ ms ∷ []) ≡ suc r = omega (arith, at, length-append before (ms ∷ [])) in
    ap (λ n. n ∷ map (λ (ns : List Node). length ns) (map (nodes_seen d) (places_from (suc r) (length mss)))) one
    ∙ ap (λ l. length ms ∷ l) (as_long mss (before ++ ms ∷ []) (suc r) d (whole ∙ sym (append_assoc before (ms ∷ []) mss)) next)

pub page_begins_seen : (d : Doc) (h : Objects) → Reached d → IsClear d → BeginsSeen d h (begun (length d.roots) d h)
page_begins_seen d h a clear = record {
  heap = begins_as_rows d h (roots_seen d) a.owned (as_long d.roots [] 0 d refl refl);
  page = all_filled d h a (length d.roots) 0 (length h.list) empty_page (omega arith) (omega arith)
      (record { cells = λ c. refl; queues = λ m. refl; handlers = λ s. refl; nodes = λ s less. absurd (omega (arith, less)); facets = λ s less. absurd (omega (arith, less)); no_nodes = λ s past. refl; no_facets = λ s past. refl });
  whole = record { doc = a; clear = clear; objects = λ n r k is. (_, begun_placed d h n r k a is); handlers = tt };
}
