-- Where a page begins: each node of a root gets its object, of one root after another.
use Rattle.std.proofs.Common.{◌≡◌, ◌≢◌, ◌⊎◌, inl, inr, ℕ, zero, suc, ◌+◌, ◌<◌, ◌≤◌, true, false, List, [], ◌∷◌, ◌++◌, Option, Some, None, length, map, refl, sym, ap, ◌∙◌, subst, append_assoc, arith, length-append}
use Rattle.std.specs.Prelude.{slice_get}
use Rattle.std.proofs.Math.Dec.{eqb}
use Rattle.std.proofs.lemmas.Bool.{eqb-true}
use Rattle.std.proofs.lemmas.List.{length-map}
use Rattle.std.proofs.lemmas.Option.{slice_get_within}
use Rattle.es3_objects.specs.declared.value.Class.TheVariants as class
use Rattle.es3_objects.specs.declared.value.Tag.{Tag}
use Rattle.es3_objects.specs.declared.value.Tag.TheVariants as tag
use Rattle.es3_heap.specs.Objects.{Objects, with_object}
use Rattle.rows.specs.Document.{Node}
use Rattle.heap_rows.specs.Doing.{facet_object}
use Rattle.heap_rows.specs.Opening.{with_facets as with_node_objects, with_roots}
use Rattle.heap_rows.proofs.Made.{tagged_last}
use Rattle.doc_nodes.specs.Rows.{Doc, owner_of, nodes_in, nodes_of}
use Rattle.doc_nodes.specs.Changes.{root_in}
use Rattle.node_deeds.specs.Deeds.{number_in}
use Rattle.doc_laws.specs.Owned.{Owned}
use Rattle.doc_laws.specs.Reached.{Reached}
use Rattle.doc_laws.proofs.Lists.{there, apart}
use Rattle.dom_facets.specs.Facets.{facet_at, with_facet, facet_tag, new_facet, Made, made_with, with_new, node_facets, root_facets}
use Rattle.tamed_dom.specs.Lent.{new_lent, with_facets, begun}
use Rattle.dom_laws.specs.Fits.{Fits, HasNoNodes}
use Rattle.dom_laws.specs.Objects.{nodes_before}
use Rattle.dom_laws.proofs.Fits.{with_node, Partly, all_there, new_keeps, facet_here, facet_other}

-- a new object for a node

node_made : (h : Objects) (t : Tag) → with_node h t ≡ with_object h (record { class = class.Node; proto = Some 9; callable = None; tag = t; props = [] })
node_made h t = tagged_last h.counts h.list class.Node (Some 9) None [] t

pub new_object : (n root k : ℕ) (d : Doc) (h : Objects) (fs : List (Option ℕ)) → owner_of d n ≡ Some (root, k) → (new_facet n d h fs).heap ≡ with_object h (facet_object root k)
new_object n root k d h fs own = node_made h (facet_tag (owner_of d n)) ∙ ap (λ o. with_object h (record { class = class.Node; proto = Some 9; callable = None; tag = facet_tag o; props = [] })) own

-- the rows' own words for it

node_heap : (root k : ℕ) (d : Doc) (m : Made) → Owned d → k ≤ length (nodes_of d.roots root) → (node_facets root k d m).heap ≡ with_node_objects root k m.heap
unfolding node_facets
node_heap root zero d m own few = refl
node_heap root (suc k) d m own few =
    let n = there (nodes_of d.roots root) k (omega (arith, few)) in
    let g = node_facets root k d m in
    ap (λ o. (with_new o d g).heap) n.1
    ∙ new_object n.0 root k d g.heap g.facets (own.back n.0 root k n.1)
    ∙ ap (λ h. with_object h (facet_object root k)) (node_heap root k d m own (omega (arith, few)))

-- lists are as long as those of the roots from one on
AreAsLong : ℕ → List (List Node) → Doc → Type 0
AreAsLong r [] d = Unit {0}
AreAsLong r (ns ∷ rest) d = (length ns ≡ length (nodes_of d.roots r)) × AreAsLong (suc r) rest d

root_heap : (nss : List (List Node)) (r : ℕ) (d : Doc) (m : Made) (h : Objects) → Owned d → AreAsLong r nss d → (root_facets r d m).heap ≡ h → (root_facets (r + length nss) d m).heap ≡ with_roots r nss h
unfolding root_facets AreAsLong
root_heap [] r d m h own long is = let none : r + 0 ≡ r = omega arith in ap (λ i. (root_facets i d m).heap) none ∙ is
root_heap (ns ∷ rest) r d m h own long is =
    let g = root_facets r d m in
    let all = length (nodes_of d.roots r) in
    let next : r + suc (length rest) ≡ suc r + length rest = omega arith in
    let here : (node_facets r all d g).heap ≡ with_node_objects r (length ns) h =
    node_heap r all d g own (omega arith) ∙ ap (λ k. with_node_objects r k g.heap) (sym long.0) ∙ ap (with_node_objects r (length ns)) is in
    ap (λ i. (root_facets i d m).heap) next ∙ root_heap rest (suc r) d m (with_node_objects r (length ns) h) own long.1 here

get_behind : (before : List (List ℕ)) (ms : List ℕ) (rest : List (List ℕ)) (r : ℕ) → length before ≡ r → slice_get (before ++ ms ∷ rest) r ≡ Some ms
get_behind [] ms rest zero is = refl
get_behind [] ms rest (suc r) is = absurd (omega (arith, is))
get_behind (b ∷ before) ms rest zero is = absurd (omega (arith, is))
get_behind (b ∷ before) ms rest (suc r) is = get_behind before ms rest r (omega (arith, is))

head_same : (a b : ℕ) (xs ys : List ℕ) → a ∷ xs ≡ b ∷ ys → a ≡ b
head_same a b xs ys h = cc (h)

tail_same : (a b : ℕ) (xs ys : List ℕ) → a ∷ xs ≡ b ∷ ys → xs ≡ ys
tail_same a b xs ys h = cc (h)

as_long : (nss : List (List Node)) (before mss : List (List ℕ)) (r : ℕ) (d : Doc) → d.roots ≡ before ++ mss → length before ≡ r → map length nss ≡ map length mss → AreAsLong r nss d
unfolding AreAsLong
as_long [] before mss r d whole at same = tt
as_long (ns ∷ rest) before [] r d whole at same = cc (same)
as_long (ns ∷ rest) before (ms ∷ more) r d whole at same =
    let here : slice_get d.roots r ≡ Some ms = ap (λ l. slice_get l r) whole ∙ get_behind before ms more r at in
    let long : length (before ++ ms ∷ []) ≡ suc r = omega (arith, at, length-append before (ms ∷ [])) in
    let one : length ns ≡ length ms = head_same (length ns) (length ms) (map length rest) (map length more) same in
    let others : map length rest ≡ map length more = tail_same (length ns) (length ms) (map length rest) (map length more) same in
    (one ∙ sym (ap (λ o. length (nodes_in o)) here), as_long rest (before ++ ms ∷ []) more (suc r) d (whole ∙ sym (append_assoc before (ms ∷ []) more)) long others)

pub begins_as_rows : (d : Doc) (h : Objects) (nss : List (List Node)) → Owned d → map length nss ≡ map length d.roots → (begun (length d.roots) d h).heap ≡ with_roots 0 nss h
unfolding root_facets
begins_as_rows d h nss own same =
    let many : length d.roots ≡ 0 + length nss = omega (arith, sym (length-map nss length) ∙ ap length same ∙ length-map d.roots length) in
    ap (λ r. (root_facets r d (made_with h [])).heap) many ∙ root_heap nss 0 d (made_with h []) h own (as_long nss [] d.roots 0 d refl refl same) refl

-- which nodes have their objects

-- a node of a root comes before another place
Earlier : ℕ → ℕ → ℕ → ℕ → Type 0
Earlier s i r j = (s < r) ⊎ ((s ≡ r) × (i < j))

-- the nodes before a place have their objects, in order, and no other has one
record Going (start : ℕ) (d : Doc) (r j : ℕ) (m : Made) : Type 0 where
  partly : Partly m.heap (with_facets m.facets (new_lent d))
  many : length m.heap.list ≡ start + nodes_before r d + j
  stand : (n s i : ℕ) → owner_of d n ≡ Some (s, i) → Earlier s i r j → facet_at m.facets n ≡ Some (start + nodes_before s d + i)
  free : (n s i : ℕ) → owner_of d n ≡ Some (s, i) → (Earlier s i r j → ⊥) → facet_at m.facets n ≡ None

none_kept : (n o : ℕ) → ◌≡◌ {A = Option ℕ} (facet_at [] n) (Some o) → ⊥
none_kept zero o is = cc
none_kept (suc n) o is = cc

none_there : (n : ℕ) → ◌≡◌ {A = Option ℕ} (facet_at [] n) None
none_there zero = refl
none_there (suc n) = refl

not_before : (s i : ℕ) → Earlier s i 0 0 → ⊥
unfolding Earlier
not_before s i (inl less) = omega arith
not_before s i (inr same) = omega (arith, same.1)

going_begins : (d : Doc) (h : Objects) → Reached d → HasNoNodes h → Going (length h.list) d 0 0 (made_with h [])
going_begins d h a none = record {
  partly = record {
    doc = a;
    kept = λ n o is. absurd (none_kept n o is);
    named = λ o r k is. absurd (none.names o r k is);
    nodes = λ o is. absurd (none.nodes o is);
    handlers = tt;
  };
  many = omega arith;
  stand = λ n s i own early. absurd (not_before s i early);
  free = λ n s i own late. none_there n;
}

-- the next node of a root

later : (s i r j : ℕ) → Earlier s i r j → Earlier s i r (suc j)
unfolding Earlier
later s i r j (inl less) = inl less
later s i r j (inr same) = inr (same.0, omega (arith, same.1))

earlier_or : (s i r j : ℕ) → Earlier s i r (suc j) → Earlier s i r j ⊎ ((s ≡ r) × (i ≡ j))
unfolding Earlier
earlier_or s i r j (inl less) = inl (inl less)
earlier_or s i r j (inr same) =
    let cases = elim (eqb i j) as (λ b. eqb i j ≡ b → ((s < r) ⊎ ((s ≡ r) × (i < j))) ⊎ ((s ≡ r) × (i ≡ j))) [
      | true ↦ λ yes. inr (same.0, eqb-true i j yes)
      | false ↦ λ other. let ne : i ≢ j = apart i j other in inl (inr (same.0, omega (arith, ne, same.1)))
    ] in cases refl

itself : (r j : ℕ) → Earlier r j r j → ⊥
unfolding Earlier
itself r j (inl less) = omega arith
itself r j (inr same) = omega (arith, same.1)

just_now : (r j : ℕ) → Earlier r j r (suc j)
unfolding Earlier
just_now r j = inr (refl, omega arith)

place_same : (start : ℕ) (d : Doc) (s r i j : ℕ) → s ≡ r → i ≡ j → ◌≡◌ {A = Option ℕ} (Some (start + nodes_before r d + j)) (Some (start + nodes_before s d + i))
place_same start d s r i j one two = rw (one, two) refl

some_same : (a b : ℕ) → ◌≡◌ {A = Option ℕ} (Some a) (Some b) → a ≡ b
some_same a b h = cc (h)

numbers_same : (a b c e : ℕ) → ◌≡◌ {A = Option (ℕ × ℕ)} (Some (a, b)) (Some (c, e)) → (a ≡ c) × (b ≡ e)
numbers_same a b c e h = (some_same a c (ap root_in h), ap number_in h)

owner_same : (s r i j : ℕ) → s ≡ r → i ≡ j → ◌≡◌ {A = Option (ℕ × ℕ)} (Some (s, i)) (Some (r, j))
owner_same s r i j one two = rw (one, two) refl

going_on : (start : ℕ) (d : Doc) (r j n : ℕ) (m : Made) → Owned d → Going start d r j m → owner_of d n ≡ Some (r, j) → Going start d r (suc j) (made_with (with_node m.heap (tag.Facet r j)) (with_facet n (length m.heap.list) m.facets))
going_on start d r j n m owned g own =
    let o = length m.heap.list in
    let fs = with_facet n o m.facets in
    let none : facet_at m.facets n ≡ None = g.free n r j own (itself r j) in
    let more : length (with_node m.heap (tag.Facet r j)).list ≡ suc o = ap (λ h. length h.list) (node_made m.heap (tag.Facet r j)) ∙ omega (arith, length-append m.heap.list (facet_object r j ∷ [])) in
    record {
      partly = new_keeps n r j m.heap (with_facets m.facets (new_lent d)) g.partly own none;
      many = more ∙ omega (arith, g.many);
      stand = λ q s i has early.
          let cases = elim (eqb q n) as (λ b. eqb q n ≡ b → facet_at fs q ≡ Some (start + nodes_before s d + i)) [
            | true ↦ λ yes.
                let at : q ≡ n = eqb-true q n yes in
                let both = numbers_same s i r j (sym has ∙ ap (owner_of d) at ∙ own) in
                ap (facet_at fs) at ∙ facet_here n o m.facets ∙ ap (λ x. Some x) g.many ∙ place_same start d s r i j both.0 both.1
            | false ↦ λ other.
                facet_other n q o m.facets (apart q n other)
                ∙ elim (earlier_or s i r j early) [
                  | inl before ↦ g.stand q s i has before
                  | inr both ↦ absurd (apart q n other (some_same q n (sym (owned.to q s i has) ∙ owned.to n s i (own ∙ sym (owner_same s r i j both.0 both.1)))))
                ]
          ] in cases refl;
      free = λ q s i has late.
          let cases = elim (eqb q n) as (λ b. eqb q n ≡ b → facet_at fs q ≡ None) [
            | true ↦ λ yes.
                let at : q ≡ n = eqb-true q n yes in
                let both = numbers_same s i r j (sym has ∙ ap (owner_of d) at ∙ own) in
                absurd (late (subst (λ x. Earlier x i r (suc j)) (sym both.0) (subst (λ y. Earlier r y r (suc j)) (sym both.1) (just_now r j))))
            | false ↦ λ other. facet_other n q o m.facets (apart q n other) ∙ g.free q s i has (λ early. late (later s i r j early))
          ] in cases refl;
    }

going_nodes : (start : ℕ) (d : Doc) (r k : ℕ) (m : Made) → Owned d → k ≤ length (nodes_of d.roots r) → Going start d r 0 m → Going start d r k (node_facets r k d m)
unfolding node_facets
going_nodes start d r zero m owned few g = g
going_nodes start d r (suc k) m owned few g =
    let n = there (nodes_of d.roots r) k (omega (arith, few)) in
    let own = owned.back n.0 r k n.1 in
    let now = node_facets r k d m in
    let next = going_on start d r k n.0 now owned (going_nodes start d r k m owned (omega (arith, few)) g) own in
    subst (λ o. Going start d r (suc k) (with_new o d now)) (sym n.1)
    (subst (λ w. Going start d r (suc k) (made_with (with_node now.heap (facet_tag w)) (with_facet n.0 (length now.heap.list) now.facets))) (sym own) next)

-- the next root

number_there : (d : Doc) (n s i : ℕ) → Owned d → owner_of d n ≡ Some (s, i) → i < length (nodes_of d.roots s)
number_there d n s i owned own = slice_get_within (nodes_of d.roots s) i n (owned.to n s i own)

none_at : (i n : ℕ) → ◌≡◌ {A = Option ℕ} (slice_get [] i) (Some n) → ⊥
none_at zero n h = cc (h)
none_at (suc i) n h = cc (h)

root_there : (d : Doc) (n s i : ℕ) → Owned d → owner_of d n ≡ Some (s, i) → s < length d.roots
root_there d n s i owned own = at (slice_get d.roots s) refl (owned.to n s i own)
  where
    at : (o : Option (List ℕ)) → slice_get d.roots s ≡ o → slice_get (nodes_in o) i ≡ Some n → s < length d.roots
    at None is h = absurd (none_at i n h)
    at (Some ns) is h = slice_get_within d.roots s ns is

before_next : (s i r : ℕ) → Earlier s i (suc r) 0 → (s ≡ r) ⊎ (s < r)
unfolding Earlier
before_next s i r (inl less) =
    let cases = elim (eqb s r) as (λ b. eqb s r ≡ b → (s ≡ r) ⊎ (s < r)) [
      | true ↦ λ yes. inl (eqb-true s r yes)
      | false ↦ λ other. let ne : s ≢ r = apart s r other in inr (omega (arith, ne, less))
    ] in cases refl
before_next s i r (inr same) = absurd (omega (arith, same.1))

up_to : (s i r k : ℕ) → Earlier s i r k → Earlier s i (suc r) 0
unfolding Earlier
up_to s i r k (inl less) = inl (omega arith)
up_to s i r k (inr same) = inl (omega (arith, same.0))

within_root : (s i r k : ℕ) → s ≡ r → i < k → Earlier s i r k
unfolding Earlier
within_root s i r k same less = inr (same, less)

of_before : (s i r k : ℕ) → s < r → Earlier s i r k
unfolding Earlier
of_before s i r k less = inl less

going_up : (start : ℕ) (d : Doc) (r : ℕ) (m : Made) → Owned d → Going start d r (length (nodes_of d.roots r)) m → Going start d (suc r) 0 m
going_up start d r m owned g =
    let k = length (nodes_of d.roots r) in
    record {
      partly = g.partly;
      many = g.many ∙ omega arith;
      stand = λ n s i own early. g.stand n s i own (elim (before_next s i r early) [
        | inl same ↦ within_root s i r k same (subst (λ x. i < length (nodes_of d.roots x)) same (number_there d n s i owned own))
        | inr less ↦ of_before s i r k less
      ]);
      free = λ n s i own late. g.free n s i own (λ early. late (up_to s i r k early));
    }

going_roots : (start : ℕ) (d : Doc) (r : ℕ) (m : Made) → Owned d → Going start d 0 0 m → Going start d r 0 (root_facets r d m)
unfolding root_facets
going_roots start d zero m owned g = g
going_roots start d (suc r) m owned g =
    let now = root_facets r d m in
    let k = length (nodes_of d.roots r) in
    going_up start d r (node_facets r k d now) owned (going_nodes start d r k now owned (omega arith) (going_roots start d r m owned g))

pub begins_fit : (h : Objects) (d : Doc) → Reached d → HasNoNodes h → let b = begun (length d.roots) d h in Fits b.heap b.lent
begins_fit h d a none =
    let g = going_roots (length h.list) d (length d.roots) (made_with h []) a.owned (going_begins d h a none) in
    let b = begun (length d.roots) d h in
    all_there b.heap b.lent g.partly (λ n r k own. (_, g.stand n r k own (of_before r k (length d.roots) 0 (root_there d n r k a.owned own))))

pub begins_in_order : (d : Doc) (h : Objects) (n r k : ℕ) → Reached d → HasNoNodes h → owner_of d n ≡ Some (r, k) → facet_at (begun (length d.roots) d h).lent.facets n ≡ Some (length h.list + nodes_before r d + k)
begins_in_order d h n r k a none own =
    let g = going_roots (length h.list) d (length d.roots) (made_with h []) a.owned (going_begins d h a none) in
    g.stand n r k own (of_before r k (length d.roots) 0 (root_there d n r k a.owned own))
