-- What a page keeps after a deed at a node of a root, where the new node has its object.
use Rattle.std.proofs.Common.{◌≡◌, ◌≢◌, inl, inr, ℕ, suc, ◌<◌, ◌≤◌, true, false, List, [], ◌∷◌, ◌++◌, Option, Some, length, cond, refl, sym, ap, ◌∙◌, subst, arith}
use Rattle.std.specs.Prelude.{nat_eq, nat_lt, map}
use Rattle.std.proofs.Math.Dec.{eqb}
use Rattle.std.proofs.lemmas.Bool.{eqb-true}
use Rattle.std.proofs.lemmas.Bool.Decides.{nat_tests}
use Rattle.std.proofs.lemmas.List.{length-append, length-map, map-append}
use Rattle.es3_objects.specs.declared.value.Value.{Value}
use Rattle.es3_heap.specs.Objects.{Objects, with_object}
use Rattle.doc_nodes.specs.Rows.{Doc, owner_of, nodes_of}
use Rattle.doc_laws.specs.Owned.{Grows}
use Rattle.doc_laws.specs.Reached.{Reached}
use Rattle.doc_laws.specs.Within.{IsWithin}
use Rattle.doc_laws.proofs.Lists.{apart}
use Rattle.node_deeds.specs.declared.told.Change.{Change}
use Rattle.rows.specs.Document.{Node}
use Rattle.heap_rows.specs.Doing.{Page, Kept, facet_object, with_of, renoded}
use Rattle.doc_views.specs.Seen.{node_seen, nodes_seen, Stands}
use Rattle.doc_views.specs.Clear.{IsClear}
use Rattle.doc_views.proofs.Lists.{map_same}
use Rattle.doc_views.proofs.Views.{there_in}
use Rattle.doc_views.proofs.Grown.{others_seen}
use Rattle.dom_facets.specs.Facets.{facet_at, with_facet}
use Rattle.dom_handlers.specs.declared.kinds.Handler.{Handler}
use Rattle.tamed_dom.specs.Lent.{Lent, Held, with_object_of, grown}
use Rattle.dom_laws.proofs.Begun.{new_object}
use Rattle.dom_laws.proofs.Fits.{facet_here, facet_other}
use Rattle.node_rows.specs.View.{place_or, facet_seen, facets_seen, seen_at, handlers_seen, page_seen, AreSame}
use Rattle.node_rows.specs.Whole.{AreAtNodes, IsWhole}
use Rattle.node_rows.proofs.Growth.{Even, Longer, growth}

-- a document in the place of the one that was lent, with the line of its change
abbrev pub left : Doc → Option Change → Lent → Lent
left e c z = record { doc = e; facets = z.facets; handlers = z.handlers; change = c }

-- a row leaves what the deed leaves
pub record IsKept (cells : ℕ → Value) (queues : ℕ → List Value) (c : Option Change) (k : Kept) (g : Held) : Type 0 where
  pub heap : k.heap ≡ g.heap
  pub page : AreSame k.page (page_seen cells queues g.lent)
  pub whole : IsWhole g.lent
  pub change : g.lent.change ≡ c

-- a root has something else, and the others what they had
pub of_root : {A : Type 0} (root : ℕ) (a : A) (f g : ℕ → A) → a ≡ g root → ((s : ℕ) → s ≢ root → f s ≡ g s) → (s : ℕ) → with_of root a f s ≡ g s
of_root {A = A} root a f g here others s =
    let cases = elim (nat_eq s root) as (λ b. nat_eq s root ≡ b → ◌≡◌ {A = A} (cond b a (f s)) (g s)) [
      | true ↦ λ yes. here ∙ ap g (sym (eqb-true s root yes))
      | false ↦ λ no. others s (apart s root no)
    ] in cases refl

-- handlers are for old nodes
pub handlers_stay : (d e : Doc) (hs : List Handler) (r : ℕ) → AreAtNodes d hs → ((n : ℕ) → n < length d.rows → owner_of e n ≡ owner_of d n) → handlers_seen e hs r ≡ handlers_seen d hs r
handlers_stay d e [] r are owners = refl
handlers_stay d e (x ∷ hs) r are owners =
    ap (λ o. seen_at r o x ++ handlers_seen e hs r) (owners x.node are.0)
    ∙ ap (λ l. seen_at r (owner_of d x.node) x ++ l) (handlers_stay d e hs r are.1 owners)

pub at_nodes_stay : (d e : Doc) (hs : List Handler) → AreAtNodes d hs → length d.rows ≤ length e.rows → AreAtNodes e hs
at_nodes_stay d e [] are more = tt
at_nodes_stay d e (x ∷ hs) are more = (omega (arith, are.0, more), at_nodes_stay d e hs are.1 more)

-- no node more
renoded_even : (root : ℕ) (ns : List Node) (h : Objects) (g : Page) → nat_lt (length (g.nodes root)) (length ns) ≡ false
    → renoded root ns h g ≡ record { heap = h; page = record { cells = g.cells; queues = g.queues; nodes = with_of root ns g.nodes; facets = g.facets; handlers = g.handlers } }
renoded_even root ns h g is = rw is refl

pub grown_even : (n : ℕ) (h : Objects) (z : Lent) → nat_lt n (length z.doc.rows) ≡ false → grown n h z ≡ record { heap = h; lent = z }
unfolding grown
grown_even n h z is = ap (λ b. cond b (with_object_of n h z) (record { heap = h; lent = z })) is

-- one node more
renoded_more : (root : ℕ) (ns : List Node) (h : Objects) (g : Page) → nat_lt (length (g.nodes root)) (length ns) ≡ true
    → renoded root ns h g ≡ record { heap = with_object h (facet_object root (length (g.nodes root))); page = record { cells = g.cells; queues = g.queues; nodes = with_of root ns g.nodes; facets = with_of root (g.facets root ++ length h.list ∷ []) g.facets; handlers = g.handlers } }
renoded_more root ns h g is = rw is refl

grown_more : (n : ℕ) (h : Objects) (z : Lent) → nat_lt n (length z.doc.rows) ≡ true → grown n h z ≡ with_object_of n h z
unfolding grown
grown_more n h z is = ap (λ b. cond b (with_object_of n h z) (record { heap = h; lent = z })) is

module _ (cells : ℕ → Value) (queues : ℕ → List Value) (r : ℕ) (e : Doc) (c : Option Change) (z : Lent)
    (w : IsWhole z) (reached : Reached e) (clear : IsClear e) (grows : Grows z.doc e) (within : IsWithin r z.doc e) where
  others : (s : ℕ) → s ≢ r → nodes_seen z.doc s ≡ nodes_seen e s
  others s ne = sym (others_seen r s z.doc e w.doc grows within ne)

  old_object : (n s j : ℕ) → n < length z.doc.rows → Stands e n s j → (o : ℕ) × (◌≡◌ {A = Option ℕ} (facet_at z.facets n) (Some o))
  old_object n s j less is = w.objects n s j (sym (grows.owners n less) ∙ is)

  pub even_whole : Even z.doc e → IsWhole (left e c z)
  even_whole even = record {
    doc = reached;
    clear = clear;
    objects = λ n s j is. let less = there_in e n s j reached.owned is in old_object n s j (omega (arith, less, even.rows)) is;
    handlers = at_nodes_stay z.doc e z.handlers w.handlers grows.more;
  }

  pub even_same : Even z.doc e → AreSame (record { cells = cells; queues = queues; nodes = with_of r (nodes_seen e r) (nodes_seen z.doc); facets = facets_seen z.doc z.facets; handlers = handlers_seen z.doc z.handlers }) (page_seen cells queues (left e c z))
  even_same even = record {
    cells = λ i. refl;
    queues = λ m. refl;
    nodes = of_root r (nodes_seen e r) (nodes_seen z.doc) (nodes_seen e) refl others;
    facets = λ s. ap (map (facet_seen z.facets)) (sym (even.numbers s));
    handlers = λ s. sym (handlers_stay z.doc e z.handlers s w.handlers grows.owners);
  }

module _ (cells : ℕ → Value) (queues : ℕ → List Value) (r : ℕ) (e : Doc) (c : Option Change) (h : Objects) (z : Lent)
    (w : IsWhole z) (reached : Reached e) (clear : IsClear e) (grows : Grows z.doc e) (within : IsWithin r z.doc e) where
  even_kept : Even z.doc e → IsKept cells queues c (renoded r (nodes_seen e r) h (page_seen cells queues z)) (grown (length z.doc.rows) h (left e c z))
  even_kept even =
      let long : length (nodes_seen e r) ≡ length (nodes_seen z.doc r) = length-map (nodes_of e.roots r) (node_seen e) ∙ ap (λ (l : List ℕ). length l) (even.numbers r) ∙ sym (length-map (nodes_of z.doc.roots r) (node_seen z.doc)) in
      let no_node : nat_lt (length (nodes_seen z.doc r)) (length (nodes_seen e r)) ≡ false = grind (arith, nat_tests, long) in
      let few = even.rows in
      let no_row : nat_lt (length z.doc.rows) (length e.rows) ≡ false = grind (arith, nat_tests, few) in
      subst (λ k. IsKept cells queues c k (grown (length z.doc.rows) h (left e c z))) (sym (renoded_even r (nodes_seen e r) h (page_seen cells queues z) no_node))
      (subst (IsKept cells queues c (record { heap = h; page = record { cells = cells; queues = queues; nodes = with_of r (nodes_seen e r) (nodes_seen z.doc); facets = facets_seen z.doc z.facets; handlers = handlers_seen z.doc z.handlers } })) (sym (grown_even (length z.doc.rows) h (left e c z) no_row))
      (record { heap = refl; page = even_same cells queues r e c z w reached clear grows within even; whole = even_whole cells queues r e c z w reached clear grows within even; change = refl }))

  more_whole : Longer r z.doc e → IsWhole (record { doc = e; facets = with_facet (length z.doc.rows) (length h.list) z.facets; handlers = z.handlers; change = c })
  more_whole longer = record {
    doc = reached;
    clear = clear;
    objects = λ n s j is.
        let at = length z.doc.rows in
        let cases = elim (eqb n at) as (λ b. eqb n at ≡ b → (o : ℕ) × (◌≡◌ {A = Option ℕ} (facet_at (with_facet at (length h.list) z.facets) n) (Some o))) [
          | true ↦ λ yes. (length h.list, ap (facet_at (with_facet at (length h.list) z.facets)) (eqb-true n at yes) ∙ facet_here at (length h.list) z.facets)
          | false ↦ λ other.
              let ne : n ≢ at = apart n at other in
              let less = there_in e n s j reached.owned is in
              let rows = longer.rows in
              let a = old_object cells queues r e c z w reached clear grows within n s j (omega (arith, less, rows, ne)) is in
              (a.0, facet_other at n (length h.list) z.facets ne ∙ a.1)
        ] in cases refl;
    handlers = at_nodes_stay z.doc e z.handlers w.handlers grows.more;
  }

  old_facets : (s : ℕ) → map (facet_seen (with_facet (length z.doc.rows) (length h.list) z.facets)) (nodes_of z.doc.roots s) ≡ facets_seen z.doc z.facets s
  old_facets s =
      let at = length z.doc.rows in
      map_same (facet_seen z.facets) (facet_seen (with_facet at (length h.list) z.facets)) (nodes_of z.doc.roots s) (λ j n stands.
      let less : n < at = there_in z.doc n s j w.doc.owned (w.doc.owned.back n s j stands) in
      ap place_or (facet_other at n (length h.list) z.facets (λ same. omega (arith, less, same))))

  new_facets : Longer r z.doc e → facets_seen z.doc z.facets r ++ length h.list ∷ [] ≡ facets_seen e (with_facet (length z.doc.rows) (length h.list) z.facets) r
  new_facets longer =
      let at = length z.doc.rows in
      let f = facet_seen (with_facet at (length h.list) z.facets) in
      ap (λ l. l ++ length h.list ∷ []) (sym (old_facets r))
      ∙ ap (λ o. map f (nodes_of z.doc.roots r) ++ place_or o ∷ []) (sym (facet_here at (length h.list) z.facets))
      ∙ sym (map-append f (nodes_of z.doc.roots r) (at ∷ []))
      ∙ ap (map f) (sym longer.numbers)

  more_same : Longer r z.doc e
      → AreSame (record { cells = cells; queues = queues; nodes = with_of r (nodes_seen e r) (nodes_seen z.doc); facets = with_of r (facets_seen z.doc z.facets r ++ length h.list ∷ []) (facets_seen z.doc z.facets); handlers = handlers_seen z.doc z.handlers })
      (page_seen cells queues (record { doc = e; facets = with_facet (length z.doc.rows) (length h.list) z.facets; handlers = z.handlers; change = c }))
  more_same longer = record {
    cells = λ i. refl;
    queues = λ m. refl;
    nodes = of_root r (nodes_seen e r) (nodes_seen z.doc) (nodes_seen e) refl (others cells queues r e c z w reached clear grows within);
    facets =
        let gs = with_facet (length z.doc.rows) (length h.list) z.facets in
        of_root r (facets_seen z.doc z.facets r ++ length h.list ∷ []) (facets_seen z.doc z.facets) (facets_seen e gs) (new_facets longer)
        (λ s ne. sym (old_facets s) ∙ ap (map (facet_seen gs)) (sym (within.numbers s ne)));
    handlers = λ s. sym (handlers_stay z.doc e z.handlers s w.handlers grows.owners);
  }

  more_kept : Longer r z.doc e → IsKept cells queues c (renoded r (nodes_seen e r) h (page_seen cells queues z)) (grown (length z.doc.rows) h (left e c z))
  more_kept longer =
      let old = length-map (nodes_of z.doc.roots r) (node_seen z.doc) in
      let long : length (nodes_seen e r) ≡ suc (length (nodes_seen z.doc r)) = length-map (nodes_of e.roots r) (node_seen e) ∙ ap (λ (l : List ℕ). length l) longer.numbers ∙ omega (arith, old, length-append (nodes_of z.doc.roots r) (length z.doc.rows ∷ [])) in
      let one_node : nat_lt (length (nodes_seen z.doc r)) (length (nodes_seen e r)) ≡ true = grind (arith, nat_tests, long) in
      let rows = longer.rows in
      let one_row : nat_lt (length z.doc.rows) (length e.rows) ≡ true = grind (arith, nat_tests, rows) in
      let heap : with_object h (facet_object r (length (nodes_seen z.doc r))) ≡ (with_object_of (length z.doc.rows) h (left e c z)).heap =
      ap (λ k. with_object h (facet_object r k)) old ∙ sym (new_object (length z.doc.rows) r (length (nodes_of z.doc.roots r)) e h z.facets longer.stands) in
      let page : Page = record { cells = cells; queues = queues; nodes = with_of r (nodes_seen e r) (nodes_seen z.doc); facets = with_of r (facets_seen z.doc z.facets r ++ length h.list ∷ []) (facets_seen z.doc z.facets); handlers = handlers_seen z.doc z.handlers } in
      subst (λ k. IsKept cells queues c k (grown (length z.doc.rows) h (left e c z))) (sym (renoded_more r (nodes_seen e r) h (page_seen cells queues z) one_node))
      (subst (IsKept cells queues c (record { heap = with_object h (facet_object r (length (nodes_seen z.doc r))); page = page })) (sym (grown_more (length z.doc.rows) h (left e c z) one_row))
      (record { heap = heap; page = more_same longer; whole = more_whole longer; change = refl }))

  pub kept : length (nodes_of e.roots r) ≤ suc (length (nodes_of z.doc.roots r)) → IsKept cells queues c (renoded r (nodes_seen e r) h (page_seen cells queues z)) (grown (length z.doc.rows) h (left e c z))
  kept few = elim (growth r z.doc e w.doc reached grows within few) [ inl even ↦ even_kept even | inr longer ↦ more_kept longer ]

  -- the object of the new node
  pub new_is : length (nodes_of e.roots r) ≡ suc (length (nodes_of z.doc.roots r)) → facet_at (grown (length z.doc.rows) h (left e c z)).lent.facets (length z.doc.rows) ≡ Some (length h.list)
  new_is one = elim (growth r z.doc e w.doc reached grows within (omega (arith, one))) [
    | inl even ↦ let same = ap (λ (l : List ℕ). length l) (even.numbers r) in absurd (omega (arith, one, same))
    | inr longer ↦
        let rows = longer.rows in
        let one_row : nat_lt (length z.doc.rows) (length e.rows) ≡ true = grind (arith, nat_tests, rows) in
        ap (λ (g : Held). facet_at g.lent.facets (length z.doc.rows)) (grown_more (length z.doc.rows) h (left e c z) one_row) ∙ facet_here (length z.doc.rows) (length h.list) z.facets
  ]
