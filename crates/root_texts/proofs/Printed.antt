-- A node is printed as the nodes of its root tell: the bound by the nodes of the root cuts nothing off.
use Rattle.std.proofs.Common.{◌≡◌, ℕ, zero, suc, ◌+◌, ◌<◌, ◌≤◌, Bool, true, false, List, [], ◌∷◌, ◌++◌, Option, Some, None, length, cond, zero-add, refl, sym, ap, ◌∙◌, subst, arith}
use Rattle.std.specs.Prelude.{map, slice_get}
use Rattle.std.specs.Option.{option_map}
use Rattle.caja_units.specs.Units.{same_units}
use Rattle.html_grammar.specs.Tables.{is_in, void}
use Rattle.html_grammar.specs.Tags as t
use Rattle.html_kept.specs.Printed.{start_tag}
use Rattle.html_tree.specs.declared.Attr.{Attr}
use Rattle.html_tree.specs.Views.{attrs_of}
use Rattle.doc_nodes.specs.declared.node.NewNode.{NewNode}
use Rattle.doc_nodes.specs.declared.node.NewNode.TheVariants.{Element, Text}
use Rattle.doc_nodes.specs.Rows.{Row, Doc, row_at, node_in, children_in, nodes_of, tag_in}
use Rattle.doc_nodes.specs.Changes.{root_in}
use Rattle.doc_tree.specs.Printing.{opening, ending, shown, shown_in, under_content, printed}
use Rattle.doc_laws.specs.Forest.{times}
use Rattle.doc_laws.specs.Reached.{Reached}
use Rattle.doc_laws.proofs.Climbs.{Steps, steps_are_few}
use Rattle.doc_laws.proofs.Lists.{there}
use Rattle.deed_laws.specs.Deeds.{AreOf}
use Rattle.deed_laws.proofs.Nodes.{is_there, still_there, stands_there, children-of}
use Rattle.rows.specs.Document.{Node, text_tag, node_at}
use Rattle.doc_views.specs.Seen.{local, pair_of, node_from, node_seen, nodes_seen, Stands}
use Rattle.doc_views.specs.Clear.{IsClear}
use Rattle.doc_views.proofs.Views.{there_in, number_is, at_number, stands_in, child_in}
use Rattle.doc_views.proofs.Grown.{has_row}
use Rattle.doc_views.proofs.Ways.{within, within-parent, few_within}
use Rattle.doc_views.proofs.Below.{child_up}
use Rattle.root_texts.specs.Texts.{attr_of, opening_of, ending_of, shown_of, printed_of, text_at, first_text, NodesArePrinted, RootsArePrinted}

-- a level more prints no more

-- what tells how deep a node is: no node is deeper than so many levels, and a child is a level deeper
record IsMeasure (d : Doc) (many : ℕ) (P : ℕ → ℕ → Type 0) : Type 0 where
  few : (j n : ℕ) → P j n → j < many
  deeper : (j n m : ℕ) → P j n → 0 < times m (children_in (row_at d n)) → P (suc j) m

abbrev Each : (ℕ → Type 0) → List ℕ → Type 0
Each P [] = Unit {0}
Each P (n ∷ ns) = P n × Each P ns

each_of : (P : ℕ → Type 0) (ns : List ℕ) → ((m : ℕ) → 0 < times m ns → P m) → Each P ns
each_of P [] all = tt
each_of P (n ∷ ns) all = (all n (is_there n ns), each_of P ns (λ m more. all m (still_there m n ns more)))

-- what holds of children holds of those that are shown
each_under : (P : ℕ → Type 0) (c : NewNode) (ns : List ℕ) → Each P ns → Each P (under_content c ns)
each_under P (Text us) ns each = tt
each_under P (Element tag) ns each = at (is_in void tag)
  where
    at : (b : Bool) → Each P (cond b [] ns)
    at true = tt
    at false = each

each_shown : (P : ℕ → Type 0) (d : Doc) (n : ℕ) → Each P (children_in (row_at d n)) → Each P (shown d n)
each_shown P d n each = at (row_at d n) each
  where
    at : (o : Option Row) → Each P (children_in o) → Each P (shown_in o)
    at None h = tt
    at (Some x) h = each_under P x.content x.children h

one_level : (d : Doc) (many : ℕ) (P : ℕ → ℕ → Type 0) → IsMeasure d many P → (k j : ℕ) (ns : List ℕ) → many ≤ j + k → Each (P j) ns → printed (suc k) d ns ≡ printed k d ns
unfolding printed
one_level d many P m zero j [] less each = refl
one_level d many P m zero j (n ∷ ns) less each = absurd (omega (arith, less, m.few j n each.0))
one_level d many P m (suc k) j [] less each = refl
one_level d many P m (suc k) j (n ∷ ns) less each =
    let cs = shown d n in
    let under : Each (P (suc j)) cs = each_shown (P (suc j)) d n (each_of (P (suc j)) (children_in (row_at d n)) (λ c more. m.deeper j n c each.0 more)) in
    ap (λ xs. (opening (row_at d n) ++ (xs ++ ending (row_at d n))) ++ printed (suc (suc k)) d ns) (one_level d many P m k (suc j) cs (omega (arith, less)) under)
    ∙ ap (λ xs. (opening (row_at d n) ++ (printed k d cs ++ ending (row_at d n))) ++ xs) (one_level d many P m (suc k) j ns less each.1)

more_levels : (d : Doc) (many : ℕ) (P : ℕ → ℕ → Type 0) → IsMeasure d many P → (i k : ℕ) (ns : List ℕ) → many ≤ k → Each (P 0) ns → printed (i + k) d ns ≡ printed k d ns
more_levels d many P m zero k ns less each = ap (λ l. printed l d ns) (zero-add k)
more_levels d many P m (suc i) k ns less each =
    let next : suc i + k ≡ suc (i + k) = omega arith in
    ap (λ l. printed l d ns) next ∙ one_level d many P m (i + k) 0 ns (omega (arith, less)) each ∙ more_levels d many P m i k ns less each

-- two bounds that cut nothing off
same_printed : (d : Doc) (many few : ℕ) (P Q : ℕ → ℕ → Type 0) (ns : List ℕ) → IsMeasure d many P → IsMeasure d few Q → Each (P 0) ns → Each (Q 0) ns → printed many d ns ≡ printed few d ns
same_printed d many few P Q ns m f each other =
    let turn : few + many ≡ many + few = omega arith in
    sym (more_levels d many P m few many ns (omega arith) each) ∙ ap (λ l. printed l d ns) turn ∙ more_levels d few Q f many few ns (omega arith) other

-- steps in the document, and within the root
abbrev Deep : Doc → ℕ → ℕ → Type 0
Deep d j n = (n < length d.rows) × Steps j d n

abbrev DeepIn : Doc → ℕ → ℕ → ℕ → Type 0
DeepIn d r j n = Stands d n r (local d n) × Steps j (within d r) (local d n)

deep_measure : (d : Doc) → Reached d → IsMeasure d (length d.rows) (Deep d)
deep_measure d a = record {
  few = λ j n deep. steps_are_few j d n a.forest.ways deep.0 deep.1;
  deeper = λ j n m deep more. let at = stands_there d n m a more in (has_row d m n at, (n, ap node_in at, deep.1));
}

deep_measure_in : (d : Doc) (r : ℕ) → Reached d → IsClear d → IsMeasure d (length (nodes_seen d r)) (DeepIn d r)
deep_measure_in d r a clear = record {
  few = λ j n deep. few_within j d n r (local d n) a deep.0 deep.1;
  deeper = λ j n m deep more.
      let it : Stands d m r (local d m) = child_in d n r (local d n) m a deep.0 more in
      (it, (local d n, within-parent d m r (local d m) a.owned it ∙ ap (option_map (local d)) (child_up d n m r (local d n) a clear deep.0 more), deep.1));
}

-- a node by itself

attrs_seen : (attrs : List Attr) → attrs_of attrs ≡ map attr_of (map pair_of attrs)
attrs_seen [] = refl
attrs_seen (x ∷ attrs) = let a : t.Attr = record { name = x.name; value = x.value } in ap (λ (l : List t.Attr). a ∷ l) (attrs_seen attrs)

record IsAlike (d : Doc) (o : Option Row) (n : Node) : Type 0 where
  begins : opening o ≡ opening_of n
  ends : ending o ≡ ending_of n
  under : map (local d) (shown_in o) ≡ shown_of n

element_alike : (d : Doc) (n : ℕ) (tag : List ℕ) (x : Row) → x.content ≡ Element tag → same_units tag text_tag ≡ false → IsAlike d (Some x) (node_from d.owners n (Some x))
element_alike d n tag x is fails = record { begins = begins; ends = ends; under = under }
  where
    begins : opening (Some x) ≡ opening_of (node_from d.owners n (Some x))
    begins = rw (is, fails) (ap (start_tag tag) (attrs_seen x.attrs))

    ends : ending (Some x) ≡ ending_of (node_from d.owners n (Some x))
    ends = rw (is, fails) refl

    kept : (b : Bool) (cs : List ℕ) → map (local d) (cond b [] cs) ≡ cond b [] (map (local d) cs)
    kept true cs = refl
    kept false cs = refl

    under : map (local d) (shown_in (Some x)) ≡ shown_of (node_from d.owners n (Some x))
    under = rw (is, fails) (kept (is_in void tag) x.children)

text_alike : (d : Doc) (n : ℕ) (us : List ℕ) (x : Row) → x.content ≡ Text us → IsAlike d (Some x) (node_from d.owners n (Some x))
text_alike d n us x is = record { begins = rw is refl; ends = rw is refl; under = rw is refl }

node_alike : (d : Doc) (n : ℕ) → IsClear d → n < length d.rows → IsAlike d (row_at d n) (node_seen d n)
node_alike d n clear less = let x = there d.rows n less in subst (λ o. IsAlike d o (node_from d.owners n o)) (sym x.1) (of_content x.0 x.0.content refl x.1)
  where
    of_content : (x : Row) (c : NewNode) → x.content ≡ c → row_at d n ≡ Some x → IsAlike d (Some x) (node_from d.owners n (Some x))
    of_content x (Element tag) is here = element_alike d n tag x is (clear.named n tag (ap tag_in here ∙ (let q : tag_in (Some x) ≡ Some tag = rw is refl in q)))
    of_content x (Text us) is here = text_alike d n us x is

-- level by level

shown-of : (r : ℕ) (d : Doc) (n : ℕ) → AreOf r d (children_in (row_at d n)) → AreOf r d (shown d n)
shown-of r d n of = at (row_at d n) of
  where
    under : (c : NewNode) (ns : List ℕ) → AreOf r d ns → AreOf r d (under_content c ns)
    under (Text us) ns h = tt
    under (Element tag) ns h = by (is_in void tag)
      where
        by : (b : Bool) → AreOf r d (cond b [] ns)
        by true = tt
        by false = h

    at : (o : Option Row) → AreOf r d (children_in o) → AreOf r d (shown_in o)
    at None h = tt
    at (Some x) h = under x.content x.children h

all_printed : (l : ℕ) (d : Doc) (r : ℕ) (xs : List ℕ) → Reached d → IsClear d → AreOf r d xs → printed l d xs ≡ printed_of l (nodes_seen d r) (map (local d) xs)
unfolding printed printed_of
all_printed zero d r xs a clear of = refl
all_printed (suc l) d r [] a clear of = refl
all_printed (suc l) d r (x ∷ xs) a clear of =
    let ns = nodes_seen d r in
    let cs = shown d x in
    let here : Stands d x r (local d x) = stands_in d x r of.0 in
    let alike = node_alike d x clear (there_in d x r (local d x) a.owned here) in
    let it : node_at ns (local d x) ≡ node_seen d x = at_number d x r (local d x) a.owned here in
    let rest = printed_of (suc l) ns (map (local d) xs) in
    ap (λ ys. (opening (row_at d x) ++ (ys ++ ending (row_at d x))) ++ printed (suc l) d xs) (all_printed l d r cs a clear (shown-of r d x (children-of r d x a of.0)) ∙ ap (printed_of l ns) alike.under)
    ∙ ap (λ ys. (opening (row_at d x) ++ (printed_of l ns (shown_of (node_seen d x)) ++ ending (row_at d x))) ++ ys) (all_printed (suc l) d r xs a clear of.1)
    ∙ ap (λ ys. (ys ++ (printed_of l ns (shown_of (node_seen d x)) ++ ending (row_at d x))) ++ rest) alike.begins
    ∙ ap (λ ys. (opening_of (node_seen d x) ++ (printed_of l ns (shown_of (node_seen d x)) ++ ys)) ++ rest) alike.ends
    ∙ ap (λ (o : Node). (opening_of o ++ (printed_of l ns (shown_of o) ++ ending_of o)) ++ rest) (sym it)

pub nodes_are_printed : NodesArePrinted
nodes_are_printed d n r k a clear is =
    let ns = nodes_seen d r in
    let number : local d n ≡ k = number_is d n r k is in
    let here : Stands d n r (local d n) = is ∙ ap (λ x. Some (r, x)) (sym number) in
    same_printed d (length d.rows) (length ns) (Deep d) (DeepIn d r) (n ∷ []) (deep_measure d a) (deep_measure_in d r a clear) ((there_in d n r k a.owned is, tt), tt) ((here, tt), tt)
    ∙ all_printed (length ns) d r (n ∷ []) a clear (ap root_in is, tt)
    ∙ ap (text_at ns) number

root_from : (d : Doc) (r : ℕ) → Reached d → IsClear d → (ns : List ℕ) → nodes_of d.roots r ≡ ns → first_text d ns ≡ text_at (map (node_seen d) ns) 0
unfolding printed_of
root_from d r a clear [] are = refl
root_from d r a clear (n ∷ ns) are = nodes_are_printed d n r 0 a clear (a.owned.back n r 0 (ap (λ l. slice_get l 0) are)) ∙ ap (λ l. text_at (map (node_seen d) l) 0) are

pub roots_are_printed : RootsArePrinted
roots_are_printed d r a clear = root_from d r a clear (nodes_of d.roots r) refl
