-- What is at and below a node, as it is seen: the bound by the nodes of the root cuts nothing off.
use Rattle.std.proofs.Common.{◌≡◌, ℕ, zero, suc, ◌+◌, ◌<◌, ◌≤◌, true, false, List, [], ◌∷◌, ◌++◌, Option, Some, None, length, cond, zero-add, append-nil, refl, sym, ap, ◌∙◌, arith}
use Rattle.std.specs.Prelude.{map, codes}
use Rattle.std.specs.Option.{option_map}
use Rattle.std.proofs.lemmas.List.{map-append}
use Rattle.doc_nodes.specs.Rows.{Doc, row_at, node_in, children_in, parent_of, attr_in, is_value}
use Rattle.doc_nodes.specs.Changes.{root_in}
use Rattle.doc_laws.specs.Forest.{times}
use Rattle.doc_laws.specs.Reached.{Reached}
use Rattle.doc_laws.proofs.Climbs.{Steps, steps_are_few}
use Rattle.node_deeds.specs.Walk.{walk, at_and_below}
use Rattle.node_deeds.specs.Deeds.{lent_parent, first_with, texts}
use Rattle.deed_laws.specs.Deeds.{AreOf}
use Rattle.deed_laws.proofs.Nodes.{is_there, still_there, stands_there, children-of, walk-of}
use Rattle.rows.specs.Document as doc
use Rattle.rows.specs.Document.{Node, node_at, all_of, below, text_of, attribute}
use Rattle.rows.specs.Nodes.{has_id}
use Rattle.doc_views.specs.Seen.{local, node_seen, nodes_seen, Stands, first_of}
use Rattle.doc_views.specs.Clear.{IsClear}
use Rattle.doc_views.proofs.Views.{there_in, number_is, at_number, stands_in, child_in, same_units-sym, attribute_is_seen}
use Rattle.doc_views.proofs.Grown.{has_row}
use Rattle.doc_views.proofs.Removed.{not_first}
use Rattle.doc_views.proofs.Ways.{within, within-parent, few_within}

-- what tells how deep a node is: no node is deeper than so many levels, and a child is a level deeper
record IsMeasure (d : Doc) (many : ℕ) (P : ℕ → ℕ → Type 0) : Type 0 where
  pub few : (j n : ℕ) → P j n → j < many
  pub deeper : (j n m : ℕ) → P j n → 0 < times m (children_in (row_at d n)) → P (suc j) m

abbrev Each : (ℕ → Type 0) → List ℕ → Type 0
Each P [] = Unit {0}
Each P (n ∷ ns) = P n × Each P ns

each_of : (P : ℕ → Type 0) (ns : List ℕ) → ((m : ℕ) → 0 < times m ns → P m) → Each P ns
each_of P [] all = tt
each_of P (n ∷ ns) all = (all n (is_there n ns), each_of P ns (λ m more. all m (still_there m n ns more)))

-- a level more visits no more
one_level : (d : Doc) (many : ℕ) (P : ℕ → ℕ → Type 0) → IsMeasure d many P → (k j : ℕ) (ns : List ℕ) → many ≤ j + k → Each (P j) ns → walk (suc k) d ns ≡ walk k d ns
unfolding walk
one_level d many P m zero j [] less each = refl
one_level d many P m zero j (n ∷ ns) less each = absurd (omega (arith, less, m.few j n each.0))
one_level d many P m (suc k) j [] less each = refl
one_level d many P m (suc k) j (n ∷ ns) less each =
    let cs = children_in (row_at d n) in
    ap (λ xs. (n ∷ xs) ++ walk (suc (suc k)) d ns) (one_level d many P m k (suc j) cs (omega (arith, less)) (each_of (P (suc j)) cs (λ c more. m.deeper j n c each.0 more)))
    ∙ ap (λ xs. (n ∷ walk k d cs) ++ xs) (one_level d many P m (suc k) j ns less each.1)

more_levels : (d : Doc) (many : ℕ) (P : ℕ → ℕ → Type 0) → IsMeasure d many P → (i k : ℕ) (ns : List ℕ) → many ≤ k → Each (P 0) ns → walk (i + k) d ns ≡ walk k d ns
more_levels d many P m zero k ns less each = ap (λ l. walk l d ns) (zero-add k)
more_levels d many P m (suc i) k ns less each =
    let next : suc i + k ≡ suc (i + k) = omega arith in
    ap (λ l. walk l d ns) next ∙ one_level d many P m (i + k) 0 ns (omega (arith, less)) each ∙ more_levels d many P m i k ns less each

-- two bounds that cut nothing off
same_walk : (d : Doc) (many few : ℕ) (P Q : ℕ → ℕ → Type 0) (ns : List ℕ) → IsMeasure d many P → IsMeasure d few Q → Each (P 0) ns → Each (Q 0) ns → walk many d ns ≡ walk few d ns
same_walk d many few P Q ns m f each other =
    let turn : few + many ≡ many + few = omega arith in
    sym (more_levels d many P m few many ns (omega arith) each) ∙ ap (λ l. walk l d ns) turn ∙ more_levels d few Q f many few ns (omega arith) other

-- steps in the document, and within the root
abbrev Deep : Doc → ℕ → ℕ → Type 0
Deep d j n = (n < length d.rows) × Steps j d n

abbrev DeepIn : Doc → ℕ → ℕ → ℕ → Type 0
DeepIn d r j n = Stands d n r (local d n) × Steps j (within d r) (local d n)

deep_measure : (d : Doc) → Reached d → IsMeasure d (length d.rows) (Deep d)
deep_measure d a = record {
  few = λ j n deep. steps_are_few j d n a.forest.ways deep.0 deep.1;
  deeper = λ j n m deep more. let at = stands_there d n m a more in (has_row d m n at, (n, ap node_in at, deep.1));
}

-- a child is seen under its parent
pub child_up : (d : Doc) (n m r k : ℕ) → Reached d → IsClear d → Stands d n r k → 0 < times m (children_in (row_at d n)) → lent_parent d m ≡ Some n
child_up d n m r k a clear is more =
    let under = stands_there d n m a more in
    ap (λ b. cond b None (parent_of d m)) (not_first d n m r k clear is under) ∙ ap node_in under

deep_measure_in : (d : Doc) (r : ℕ) → Reached d → IsClear d → IsMeasure d (length (nodes_seen d r)) (DeepIn d r)
deep_measure_in d r a clear = record {
  few = λ j n deep. few_within j d n r (local d n) a deep.0 deep.1;
  deeper = λ j n m deep more.
      let it : Stands d m r (local d m) = child_in d n r (local d n) m a deep.0 more in
      (it, (local d n, within-parent d m r (local d m) a.owned it ∙ ap (option_map (local d)) (child_up d n m r (local d n) a clear deep.0 more), deep.1));
}

-- level by level
all_below : (l : ℕ) (d : Doc) (r : ℕ) (xs : List ℕ) → Reached d → AreOf r d xs → all_of (doc.at_and_below l (nodes_seen d r)) (map (local d) xs) ≡ map (local d) (walk l d xs)
unfolding walk
all_below zero d r [] a of = refl
all_below zero d r (x ∷ xs) a of = all_below zero d r xs a of.1
all_below (suc l) d r [] a of = refl
all_below (suc l) d r (x ∷ xs) a of =
    let ns = nodes_seen d r in
    let cs = children_in (row_at d x) in
    let here : Stands d x r (local d x) = stands_in d x r of.0 in
    ap (λ (o : Node). (local d x ∷ all_of (doc.at_and_below l ns) o.children) ++ all_of (doc.at_and_below (suc l) ns) (map (local d) xs)) (at_number d x r (local d x) a.owned here)
    ∙ ap (λ ys. (local d x ∷ ys) ++ all_of (doc.at_and_below (suc l) ns) (map (local d) xs)) (all_below l d r cs a (children-of r d x a of.0))
    ∙ ap (λ ys. (local d x ∷ map (local d) (walk l d cs)) ++ ys) (all_below (suc l) d r xs a of.1)
    ∙ sym (map-append (local d) (x ∷ walk l d cs) (walk (suc l) d xs))

pub below_is_seen : (d : Doc) (n r k : ℕ) → Reached d → IsClear d → Stands d n r k → below (nodes_seen d r) k ≡ map (local d) (at_and_below d n)
below_is_seen d n r k a clear is =
    let ns = nodes_seen d r in
    let number : local d n ≡ k = number_is d n r k is in
    let here : Stands d n r (local d n) = is ∙ ap (λ x. Some (r, x)) (sym number) in
    ap (λ x. doc.at_and_below (length ns) ns x) (sym number)
    ∙ sym (append-nil (doc.at_and_below (length ns) ns (local d n)))
    ∙ all_below (length ns) d r (n ∷ []) a (ap root_in is, tt)
    ∙ ap (map (local d)) (sym (same_walk d (length d.rows) (length ns) (Deep d) (DeepIn d r) (n ∷ []) (deep_measure d a) (deep_measure_in d r a clear) ((there_in d n r k a.owned is, tt), tt) ((here, tt), tt)))

-- those below are of the root
below_of : (d : Doc) (n r k : ℕ) → Reached d → Stands d n r k → AreOf r d (at_and_below d n)
below_of d n r k a is = walk-of (length d.rows) r d (n ∷ []) a (ap root_in is, tt)

texts_seen : (d : Doc) (r : ℕ) (xs : List ℕ) → Reached d → AreOf r d xs → all_of (λ j. (node_at (nodes_seen d r) j).text) (map (local d) xs) ≡ texts d xs
texts_seen d r [] a of = refl
texts_seen d r (x ∷ xs) a of =
    ap (λ (o : Node). o.text ++ all_of (λ j. (node_at (nodes_seen d r) j).text) (map (local d) xs)) (at_number d x r (local d x) a.owned (stands_in d x r of.0))
    ∙ ap (λ us. (node_seen d x).text ++ us) (texts_seen d r xs a of.1)

pub text_is_seen : (d : Doc) (n r k : ℕ) → Reached d → IsClear d → Stands d n r k → text_of (nodes_seen d r) k ≡ texts d (at_and_below d n)
text_is_seen d n r k a clear is =
    ap (all_of (λ j. (node_at (nodes_seen d r) j).text)) (below_is_seen d n r k a clear is) ∙ texts_seen d r (at_and_below d n) a (below_of d n r k a is)

pub same_id : (id : List ℕ) (o : Option (List ℕ)) → has_id id o ≡ is_value id o
same_id id None = refl
same_id id (Some us) = same_units-sym id us

first_seen : (d : Doc) (r : ℕ) (id xs : List ℕ) → Reached d → AreOf r d xs → first_of id (nodes_seen d r) (map (local d) xs) ≡ option_map (local d) (first_with id d xs)
first_seen d r id [] a of = refl
first_seen d r id (x ∷ xs) a of =
    let rest = first_of id (nodes_seen d r) (map (local d) xs) in
    let test : has_id id (attribute (codes "id") (node_at (nodes_seen d r) (local d x)).attributes) ≡ is_value id (attr_in (row_at d x) (codes "id")) =
    ap (λ (o : Node). has_id id (attribute (codes "id") o.attributes)) (at_number d x r (local d x) a.owned (stands_in d x r of.0))
    ∙ ap (has_id id) (attribute_is_seen d x (codes "id"))
    ∙ same_id id (attr_in (row_at d x) (codes "id")) in
    let cases = elim (is_value id (attr_in (row_at d x) (codes "id"))) as (λ b. cond b (Some (local d x)) rest ≡ option_map (local d) (cond b (Some x) (first_with id d xs))) [
      | true ↦ refl
      | false ↦ first_seen d r id xs a of.1
    ] in ap (λ b. cond b (Some (local d x)) rest) test ∙ cases

pub first_is_seen : (d : Doc) (n r k : ℕ) (id : List ℕ) → Reached d → IsClear d → Stands d n r k → first_of id (nodes_seen d r) (below (nodes_seen d r) k) ≡ option_map (local d) (first_with id d (at_and_below d n))
first_is_seen d n r k id a clear is =
    ap (first_of id (nodes_seen d r)) (below_is_seen d n r k a clear is) ∙ first_seen d r id (at_and_below d n) a (below_of d n r k a is)
