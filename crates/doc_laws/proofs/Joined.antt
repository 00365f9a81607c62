-- The document that cleaned HTML gives: what holds as each node joins it.
use Rattle.std.proofs.Common.{◌≡◌, ◌≢◌, ℕ, zero, suc, ◌<◌, ◌≤◌, true, List, [], ◌∷◌, ◌++◌, Option, Some, None, length, nat_eq, slice_get, replicate, refl, sym, ap, ◌∙◌, subst, arith, inl, inr}
use Rattle.std.specs.Prelude.{codes, is_some, ◌+◌, ◌&&◌}
use Rattle.std.proofs.Math.Dec.{eqb}
use Rattle.std.proofs.lemmas.Bool.{eq-eqb}
use Rattle.std.proofs.lemmas.Option.{slice_get_within}
use Rattle.std.proofs.lemmas.List.{length-replicate}
use Rattle.std.proofs.lemmas.List.Quantifiers.{position-Some}
use Rattle.caja_units.specs.Units.{same_units}
use Rattle.html_grammar.specs.Tags as t
use Rattle.html_grammar.specs.Trees.{Sort, one, many, Tree, text_node, element, none, more}
use Rattle.html_tree.specs.declared.Attr.{Attr}
use Rattle.doc_nodes.specs.declared.node.Parent.{Parent}
use Rattle.doc_nodes.specs.declared.node.Parent.TheVariants.{Detached, Document, Node}
use Rattle.doc_nodes.specs.declared.node.NewNode.{NewNode}
use Rattle.doc_nodes.specs.declared.node.NewNode.TheVariants.{Element, Text}
use Rattle.doc_nodes.specs.Rows.{Doc, node_in, owner_of, owner_in, node_with, nodes_in, nodes_of, same_root, value_at}
use Rattle.doc_nodes.specs.Changes.{empty, root_in, next_owner, with_owned, with_node, joined, granted, or_around, root_at, is_node}
use Rattle.doc_tree.specs.Cleaned.{attrs_from, add, from_clean}
use Rattle.doc_laws.specs.Forest.{at_top, one_if, times, list_at, is_list_of, IsForest}
use Rattle.doc_laws.specs.Owned.{Owned, IsRoot, Fits, SameRoots, Grows}
use Rattle.doc_laws.specs.Reached.{Reached, begins, inside, IsGrantable}
use Rattle.doc_laws.proofs.Edits.{Same, same-listed, listed-parents, Stands, new-length}
use Rattle.doc_laws.proofs.Forests.{joined-forest, listed-fewer}
use Rattle.doc_laws.proofs.Ownership.{node_keeps, owned-same, grows-same, grows-then, grows-new, new-owner, next-root, next-same, next_of, other_root, roots-fewer, roots-new}

-- what holds without a word about ids
pub record Sound (d : Doc) : Type 0 where
  pub forest : IsForest d
  pub owned : Owned d

-- a parent, and the root around what stands under it
pub record Fit (d : Doc) (p : Parent) (around : Option ℕ) : Type 0 where
  pub stands : Stands d (node_in p)
  pub root : IsRoot d around
  pub owner : (q : ℕ) → node_in p ≡ Some q → root_in (owner_of d q) ≡ around
  pub top : p ≡ Document → ◌≡◌ {A = Option ℕ} around None

pub grows-same_doc : (d : Doc) → Grows d d
grows-same_doc d = grows-same d d (refl, refl, refl)

is_root-grows : (d e : Doc) (root : Option ℕ) → Grows d e → IsRoot d root → IsRoot e root
is_root-grows d e None g w = tt
is_root-grows d e (Some r) g w = omega (arith, w, g.roots)

stands-grows : (d e : Doc) (o : Option ℕ) → Grows d e → Stands d o → Stands e o
stands-grows d e None g w = tt
stands-grows d e (Some q) g w = omega (arith, w, g.more)

stands-less : (d : Doc) (o : Option ℕ) (q : ℕ) → Stands d o → o ≡ Some q → q < length d.rows
stands-less d None q w h = cc
stands-less d (Some x) q w h = let same : x ≡ q = cc in omega (arith, w, same)

fit-grows : (d e : Doc) (p : Parent) (around : Option ℕ) → Grows d e → Fit d p around → Fit e p around
fit-grows d e p around g f = record {
  stands = stands-grows d e (node_in p) g f.stands;
  root = is_root-grows d e around g f.root;
  owner = λ q h. ap root_in (g.owners q (stands-less d (node_in p) q f.stands h)) ∙ f.owner q h;
  top = f.top;
}

-- a node joins
join-same : (p : Parent) (root : Option ℕ) (c : NewNode) (attrs : List Attr) (d : Doc) → Same (with_node p root c attrs d) (joined p root c attrs d)
join-same p root c attrs d = same-listed p (length d.rows) (with_node p root c attrs d)

pub join-sound : (p : Parent) (root : Option ℕ) (c : NewNode) (attrs : List Attr) (d : Doc) → Sound d → Stands d (node_in p) → IsRoot d root → Sound (joined p root c attrs d)
join-sound p root c attrs d s w r = record {
  forest = joined-forest p root c attrs d s.forest w;
  owned = owned-same (with_node p root c attrs d) (joined p root c attrs d) (join-same p root c attrs d) (node_keeps p root c attrs d s.owned r);
}

pub join-grows : (p : Parent) (root : Option ℕ) (c : NewNode) (attrs : List Attr) (d : Doc) → Owned d → Grows d (joined p root c attrs d)
join-grows p root c attrs d o = grows-then d (with_node p root c attrs d) (joined p root c attrs d) (grows-new p root c attrs d o.many) (grows-same (with_node p root c attrs d) (joined p root c attrs d) (join-same p root c attrs d))

pub join-length : (p : Parent) (root : Option ℕ) (c : NewNode) (attrs : List Attr) (d : Doc) → length (joined p root c attrs d).rows ≡ suc (length d.rows)
join-length p root c attrs d = (join-same p root c attrs d).2 ∙ new-length p root c attrs d

no_top : (n : ℕ) → Node n ≡ Document → ⊥
no_top n h = cc

-- what stands under the new node
fit-under : (p : Parent) (root : Option ℕ) (c : NewNode) (attrs : List Attr) (d : Doc) → Owned d → IsRoot d root → Fit (joined p root c attrs d) (Node (length d.rows)) root
fit-under p root c attrs d o w =
    let e = joined p root c attrs d in
    record {
      stands = omega (arith, join-length p root c attrs d);
      root = is_root-grows d e root (join-grows p root c attrs d o) w;
      owner = λ q h.
          let it : length d.rows ≡ q = cc in
          let mine : owner_of e (length d.rows) ≡ next_owner d.roots root = same_owner ∙ new-owner p root c attrs d o.many in
          ap (λ x. root_in (owner_of e x)) (sym it) ∙ ap root_in mine ∙ next-root d.roots root;
      top = λ h. absurd (no_top (length d.rows) h);
    }
  where
    same_owner : owner_of (joined p root c attrs d) (length d.rows) ≡ owner_of (with_node p root c attrs d) (length d.rows)
    same_owner = (grows-same (with_node p root c attrs d) (joined p root c attrs d) (join-same p root c attrs d)).owners (length d.rows) (omega (arith, new-length p root c attrs d))

-- the root of an element is one that there is
granted-within : (ids : List (List ℕ)) (id : Option (List ℕ)) (r : ℕ) → granted ids id ≡ Some r → r < length ids
granted-within ids None r h = cc
granted-within ids (Some id) r h = (position-Some (λ granted. same_units granted id) ids r [] h).0

root-at : (ids : List (List ℕ)) (around : Option ℕ) (attrs : List Attr) (d : Doc) → length d.roots ≡ length ids → IsRoot d around → IsRoot d (root_at ids around attrs)
root-at ids around attrs d count w = at (granted ids (value_at (codes "id") attrs)) refl
  where
    at : (o : Option ℕ) → granted ids (value_at (codes "id") attrs) ≡ o → IsRoot d (or_around around o)
    at None h = w
    at (Some r) h = omega (arith, count, granted-within ids (value_at (codes "id") attrs) r h)

abbrev pub SoundThen : Doc → Doc → Type 0
SoundThen d e = Sound e × Grows d e

pub add-sound : (ids : List (List ℕ)) (s : Sort) (t : Tree s) (p : Parent) (around : Option ℕ) (d : Doc) → length d.roots ≡ length ids → Sound d → Fit d p around → SoundThen d (add ids s t p around d)
add-sound ids _ (text_node us) p around d count s f = (join-sound p around (Text us) [] d s f.stands f.root, join-grows p around (Text us) [] d s.owned)
add-sound ids _ (element tag xs ts) p around d count s f =
    let attrs = attrs_from xs in
    let root = root_at ids around attrs in
    let w = root-at ids around attrs d count f.root in
    let j = joined p root (Element tag) attrs d in
    let g = join-grows p root (Element tag) attrs d s.owned in
    let under = add-sound ids many ts (Node (length d.rows)) root j (g.roots ∙ count) (join-sound p root (Element tag) attrs d s f.stands w) (fit-under p root (Element tag) attrs d s.owned w) in
    (under.0, grows-then d j (add ids many ts (Node (length d.rows)) root j) g under.1)
add-sound ids _ none p around d count s f = (s, grows-same_doc d)
add-sound ids _ (more t ts) p around d count s f =
    let e = add ids one t p around d in
    let first = add-sound ids one t p around d count s f in
    let rest = add-sound ids many ts p around e (first.1.roots ∙ count) first.0 (fit-grows d e p around first.1 f) in
    (rest.0, grows-then d e (add ids many ts p around e) first.1 rest.1)

-- the document that it begins with
no_nodes : (k r : ℕ) → nodes_in (slice_get (replicate k []) r) ≡ []
no_nodes zero r = refl
no_nodes (suc k) zero = refl
no_nodes (suc k) (suc r) = no_nodes k r

none_there : (k r i n : ℕ) → slice_get (nodes_in (slice_get (replicate k []) r)) i ≡ Some n → ⊥
none_there k r i n h = let no : slice_get (nodes_in (slice_get (replicate k []) r)) i ≡ None = ap (λ ns. slice_get ns i) (no_nodes k r) in cc

empty-sound : (k : ℕ) → Sound (empty k)
empty-sound k = record {
  forest = record { ways = record { ends = λ n. at_top n refl; within = λ n p h. cc }; listed = listed };
  owned = record { to = λ n r i h. cc; back = λ n r i h. absurd (none_there k r i n h); many = refl };
}
  where
    listed : (q : Parent) (n : ℕ) → times n (list_at (empty k) q) ≡ one_if (is_list_of q Detached)
    listed Detached n = refl
    listed Document n = refl
    listed (Node q) n = refl

empty-roots : (k : ℕ) → SameRoots (empty k)
empty-roots k = record { under = λ n p h. cc; top = λ n h. cc }

empty-fit : (k : ℕ) → Fit (empty k) Document None
empty-fit k = record { stands = tt; root = tt; owner = λ q h. cc; top = λ h. refl }

clean-sound : (ids : List (List ℕ)) (ts : Tree many) → SoundThen (empty (length ids)) (from_clean ids ts)
clean-sound ids ts = add-sound ids many ts Document None (empty (length ids)) (length-replicate (length ids) []) (empty-sound (length ids)) (empty-fit (length ids))

pub clean-forest : (ids : List (List ℕ)) (ts : Tree many) → IsForest (from_clean ids ts) × Owned (from_clean ids ts)
clean-forest ids ts = let s = (clean-sound ids ts).0 in (s.forest, s.owned)

-- the ids that are still to come: none twice, and none of a root that has begun
record Fresh (ids : List (List ℕ)) (d : Doc) (s : Sort) (t : Tree s) : Type 0 where
  pub once : (r : ℕ) → begins ids r s t ≤ 1
  pub clear : (r : ℕ) → begins ids r s t ≡ 1 → ◌≡◌ {A = Option ℕ} (node_with d r 0) None

-- the root around has begun
abbrev Begun : Doc → Option ℕ → Type 0
Begun d around = (r : ℕ) → ◌≡◌ {A = Option ℕ} around (Some r) → (n : ℕ) × (◌≡◌ {A = Option ℕ} (node_with d r 0) (Some n))

not_around : (ids : List (List ℕ)) (d : Doc) (around : Option ℕ) (s : Sort) (t : Tree s) (r : ℕ) → Fresh ids d s t → Begun d around → begins ids r s t ≡ 1 → around ≢ Some r
not_around ids d around s t r f b h e = let no : ◌≡◌ {A = Option ℕ} (node_with d r 0) None = f.clear r h in let yes = (b r e).1 in cc

-- the nodes of other roots stay
join-nodes : (p : Parent) (root : Option ℕ) (c : NewNode) (attrs : List Attr) (d : Doc) (r : ℕ) → root ≢ Some r → nodes_of (joined p root c attrs d).roots r ≡ nodes_of d.roots r
join-nodes p root c attrs d r ne = ap (λ roots. nodes_of roots r) (join-same p root c attrs d).1 ∙ at root ne
  where
    at : (root : Option ℕ) → root ≢ Some r → nodes_of (with_owned root (length d.rows) d.roots) r ≡ nodes_of d.roots r
    at None ne = refl
    at (Some q) ne = other_root d.roots q r (length d.rows) (λ e. ne (ap (λ x. Some x) (sym e)))

root-other : (ids : List (List ℕ)) (around : Option ℕ) (attrs : List Attr) (r : ℕ) → one_if (is_node r (granted ids (value_at (codes "id") attrs))) ≡ 0 → around ≢ Some r → root_at ids around attrs ≢ Some r
root-other ids around attrs r nil ne = at (granted ids (value_at (codes "id") attrs)) nil
  where
    at : (o : Option ℕ) → one_if (is_node r o) ≡ 0 → or_around around o ≢ Some r
    at None h = ne
    at (Some q) h = λ e. let same : q ≡ r = cc in let yes : nat_eq q r ≡ true = eq-eqb q r same in let one : one_if (nat_eq q r) ≡ 1 = ap one_if yes in omega (arith, h, one)

untouched : (ids : List (List ℕ)) (s : Sort) (t : Tree s) (p : Parent) (around : Option ℕ) (d : Doc) (r : ℕ) → begins ids r s t ≡ 0 → around ≢ Some r → nodes_of (add ids s t p around d).roots r ≡ nodes_of d.roots r
untouched ids _ (text_node us) p around d r h ne = join-nodes p around (Text us) [] d r ne
untouched ids _ (element tag xs ts) p around d r h ne =
    let attrs = attrs_from xs in
    let root = root_at ids around attrs in
    let other : root ≢ Some r = root-other ids around attrs r (omega (arith, h)) ne in
    untouched ids many ts (Node (length d.rows)) root (joined p root (Element tag) attrs d) r (omega (arith, h)) other ∙ join-nodes p root (Element tag) attrs d r other
untouched ids _ none p around d r h ne = refl
untouched ids _ (more t ts) p around d r h ne =
    untouched ids many ts p around (add ids one t p around d) r (omega (arith, h)) ne ∙ untouched ids one t p around d r (omega (arith, h)) ne

-- the new node is of the root of its parent, or a granted root begins with it
join-roots : (p : Parent) (root : Option ℕ) (c : NewNode) (attrs : List Attr) (d : Doc) → Sound d → Stands d (node_in p) → ((q : ℕ) → node_in p ≡ Some q → Fits (next_owner d.roots root) (owner_of d q)) → (p ≡ Document → Fits (next_owner d.roots root) None) → SameRoots d → SameRoots (joined p root c attrs d)
join-roots p root c attrs d s w fits fits_top r =
    let e = with_node p root c attrs d in
    roots-fewer e (joined p root c attrs d) (join-same p root c attrs d) (listed-fewer p (length d.rows) e) (λ n h. sym (listed-parents p (length d.rows) n e) ∙ h) (roots-new p root c attrs d s.forest.ways s.owned.many w fits fits_top r)

of_parent : (roots : List (List ℕ)) (o : Option (ℕ × ℕ)) (around : Option ℕ) → root_in o ≡ around → Fits (next_owner roots around) o
of_parent roots o around is = inl (subst (λ a. same_root (next_owner roots a) o ≡ true) is (next-same roots o))

first_of : (ns : List ℕ) → ◌≡◌ {A = Option ℕ} (slice_get ns 0) None → length ns ≡ 0
first_of [] h = refl
first_of (n ∷ ns) h = cc

of_top : (roots : List (List ℕ)) (around : Option ℕ) → ◌≡◌ {A = Option ℕ} around None → Fits (next_owner roots around) None
of_top roots None is = inl refl
of_top roots (Some r) is = cc

no_root : (o : Option (ℕ × ℕ)) (around : Option ℕ) → root_in o ≡ around → ◌≡◌ {A = Option ℕ} around None → ◌≡◌ {A = Option (ℕ × ℕ)} o None
no_root None around is h = refl
no_root (Some o) around is h = cc

-- an element with the id of a root stands within none
not_inside : (around id : Option ℕ) (k r : ℕ) → id ≡ Some r → one_if (is_some around && is_some id) + k ≡ 0 → ◌≡◌ {A = Option ℕ} around None
not_inside None id k r is h = refl
not_inside (Some x) None k r is h = cc
not_inside (Some x) (Some y) k r is h = absurd (omega arith)

-- an element: of the root of what it stands under, or a root begins with it
fits-element : (ids : List (List ℕ)) (tag : List ℕ) (xs : List t.Attr) (ts : Tree many) (p : Parent) (around : Option ℕ) (d : Doc) (b : Option (ℕ × ℕ)) → Fresh ids d one (element tag xs ts) → inside ids around one (element tag xs ts) ≡ 0 → Fits (next_owner d.roots around) b → (◌≡◌ {A = Option ℕ} around None → ◌≡◌ {A = Option (ℕ × ℕ)} b None) → Fits (next_owner d.roots (root_at ids around (attrs_from xs))) b
fits-element ids tag xs ts p around d b new out same above = at (granted ids (value_at (codes "id") (attrs_from xs))) refl
  where
    at : (o : Option ℕ) → granted ids (value_at (codes "id") (attrs_from xs)) ≡ o → Fits (next_owner d.roots (or_around around o)) b
    at None is = same
    at (Some r) is =
        let self : is_node r (granted ids (value_at (codes "id") (attrs_from xs))) ≡ true = ap (is_node r) is ∙ eq-eqb r r refl in
        let it : one_if (is_node r (granted ids (value_at (codes "id") (attrs_from xs)))) ≡ 1 = ap one_if self in
        let whole : begins ids r _ (element tag xs ts) ≡ 1 = omega (arith, it, new.once r) in
        let alone = not_inside around (granted ids (value_at (codes "id") (attrs_from xs))) (inside ids (root_at ids around (attrs_from xs)) many ts) r is out in
        inr (eq-eqb (length (nodes_of d.roots r)) 0 (first_of (nodes_of d.roots r) (new.clear r whole)), above alone)

fresh-under : (ids : List (List ℕ)) (tag : List ℕ) (xs : List t.Attr) (ts : Tree many) (p : Parent) (around : Option ℕ) (d : Doc) → Fresh ids d one (element tag xs ts) → Begun d around → Fresh ids (joined p (root_at ids around (attrs_from xs)) (Element tag) (attrs_from xs) d) many ts
fresh-under ids tag xs ts p around d new b = record {
  once = λ r. omega (arith, new.once r);
  clear = λ r h.
      let nil : one_if (is_node r (granted ids (value_at (codes "id") (attrs_from xs)))) ≡ 0 = omega (arith, h, new.once r) in
      let whole : begins ids r _ (element tag xs ts) ≡ 1 = omega (arith, h, nil) in
      let ne = not_around ids d around one (element tag xs ts) r new b whole in
      ap (λ ns. slice_get ns 0) (join-nodes p (root_at ids around (attrs_from xs)) (Element tag) (attrs_from xs) d r (root-other ids around (attrs_from xs) r nil ne)) ∙ new.clear r whole;
}

some_first : (xs : List ℕ) (y : ℕ) → (n : ℕ) × (◌≡◌ {A = Option ℕ} (slice_get (xs ++ y ∷ []) 0) (Some n))
some_first [] y = (y, refl)
some_first (x ∷ xs) y = (x, refl)

begun-under : (p : Parent) (root : Option ℕ) (c : NewNode) (attrs : List Attr) (d : Doc) → IsRoot d root → Begun (joined p root c attrs d) root
begun-under p None c attrs d w r h = cc
begun-under p (Some q) c attrs d w r h =
    let same : q ≡ r = cc in
    let it = some_first (nodes_of d.roots q) (length d.rows) in
    let nodes : nodes_of (joined p (Some q) c attrs d).roots q ≡ nodes_of d.roots q ++ length d.rows ∷ [] = ap (λ roots. nodes_of roots q) (join-same p (Some q) c attrs d).1 ∙ next_of d.roots q (length d.rows) w in
    (it.0, ap (λ x. node_with (joined p (Some q) c attrs d) x 0) (sym same) ∙ (ap (λ ns. slice_get ns 0) nodes ∙ it.1))

begun-grows : (d e : Doc) (around : Option ℕ) → Owned d → Owned e → Grows d e → Begun d around → Begun e around
begun-grows d e around o u g b r h =
    let it = b r h in
    let mine : owner_of d it.0 ≡ Some (r, 0) = o.back it.0 r 0 it.1 in
    let less : it.0 < length d.rows = rw (← o.many) (within d.owners it.0 mine) in
    (it.0, u.to it.0 r 0 (g.owners it.0 less ∙ mine))
  where
    within : (os : List (Option (ℕ × ℕ))) (n : ℕ) → owner_in (slice_get os n) ≡ Some (r, 0) → n < length os
    within os n is = at (slice_get os n) refl is
      where
        at : (o : Option (Option (ℕ × ℕ))) → slice_get os n ≡ o → owner_in o ≡ Some (r, 0) → n < length os
        at None h is = cc
        at (Some x) h is = slice_get_within os n x h

add-roots : (ids : List (List ℕ)) (s : Sort) (t : Tree s) (p : Parent) (around : Option ℕ) (d : Doc) → length d.roots ≡ length ids → Sound d → Fit d p around → Fresh ids d s t → inside ids around s t ≡ 0 → Begun d around → SameRoots d → SameRoots (add ids s t p around d)
add-roots ids _ (text_node us) p around d count s f new out b r =
    join-roots p around (Text us) [] d s f.stands (λ q h. of_parent d.roots (owner_of d q) around (f.owner q h)) (λ h. of_top d.roots around (f.top h)) r
add-roots ids _ (element tag xs ts) p around d count s f new out b r =
    let attrs = attrs_from xs in
    let root = root_at ids around attrs in
    let w = root-at ids around attrs d count f.root in
    let j = joined p root (Element tag) attrs d in
    let g = join-grows p root (Element tag) attrs d s.owned in
    let fits : (q : ℕ) → node_in p ≡ Some q → Fits (next_owner d.roots root) (owner_of d q) = λ q h.
    fits-element ids tag xs ts p around d (owner_of d q) new out (of_parent d.roots (owner_of d q) around (f.owner q h)) (λ nil. no_root (owner_of d q) around (f.owner q h) nil) in
    let fits_top : p ≡ Document → Fits (next_owner d.roots root) None = λ h. fits-element ids tag xs ts p around d None new out (of_top d.roots around (f.top h)) (λ nil. refl) in
    add-roots ids many ts (Node (length d.rows)) root j (g.roots ∙ count) (join-sound p root (Element tag) attrs d s f.stands w) (fit-under p root (Element tag) attrs d s.owned w)
    (fresh-under ids tag xs ts p around d new b) (omega (arith, out)) (begun-under p root (Element tag) attrs d w) (join-roots p root (Element tag) attrs d s f.stands fits fits_top r)
add-roots ids _ none p around d count s f new out b r = r
add-roots ids _ (more t ts) p around d count s f new out b r =
    let e = add ids one t p around d in
    let first = add-sound ids one t p around d count s f in
    let before : Fresh ids d one t = record { once = λ r. omega (arith, new.once r); clear = λ r h. new.clear r (omega (arith, h, new.once r)) } in
    let behind : Fresh ids e many ts = record {
      once = λ r. omega (arith, new.once r);
      clear = λ r h.
          let nil : begins ids r one t ≡ 0 = omega (arith, h, new.once r) in
          let whole : begins ids r many (more t ts) ≡ 1 = omega (arith, h, nil) in
          ap (λ ns. slice_get ns 0) (untouched ids one t p around d r nil (not_around ids d around many (more t ts) r new b whole)) ∙ new.clear r whole;
    } in
    add-roots ids many ts p around e (first.1.roots ∙ count) first.0 (fit-grows d e p around first.1 f) behind (omega (arith, out)) (begun-grows d e around s.owned first.0.owned first.1 b) (add-roots ids one t p around d count s f before (omega (arith, out)) b r)

pub clean-reached : (ids : List (List ℕ)) (ts : Tree many) → IsGrantable ids ts → Reached (from_clean ids ts)
clean-reached ids ts grants =
    let k = length ids in
    let s = (clean-sound ids ts).0 in
    record {
      forest = s.forest;
      owned = s.owned;
      roots = add-roots ids many ts Document None (empty k) (length-replicate k []) (empty-sound k) (empty-fit k) (record { once = grants.once; clear = λ r h. ap (λ ns. slice_get ns 0) (no_nodes k r) }) grants.apart (λ r h. cc) (empty-roots k);
    }
