-- At which place of its list a node stands after each change.
use Rattle.std.proofs.Common.{◌≡◌, ◌≢◌, ℕ, suc, ◌+◌, ◌-◌, ◌<◌, Bool, true, false, ◌&&◌, List, [], ◌∷◌, ◌++◌, Option, Some, None, length, cond, nat_eq, nat_lt, position, refl, sym, ap, ◌∙◌, arith, Ok, subst}
use Rattle.std.proofs.Math.Dec.{eqb}
use Rattle.std.proofs.lemmas.Bool.{eqb-true, eq-eqb}
use Rattle.std.proofs.lemmas.Bool.Decides.{nat_tests}
use Rattle.doc_nodes.specs.declared.node.Parent.{Parent}
use Rattle.doc_nodes.specs.declared.node.Parent.TheVariants.{Detached, Document, Node}
use Rattle.doc_nodes.specs.declared.node.NewNode.{NewNode}
use Rattle.doc_nodes.specs.Rows.{Doc, row_at, has, parent_in, children_in, Row, node_in, owner_of, tag_in, tag_in_content}
use Rattle.doc_nodes.specs.Changes.{without, append_refused, moved, is_child, taken, create, is_node, set_attr, with_value, marked, edited, over, set_text, with_text, filled, root_in}
use Rattle.doc_laws.proofs.Forests.{with_text_in, swapped, refreshed, no_list}
use Rattle.doc_nodes.specs.declared.node.NewNode.TheVariants.{Element, Text}
use Rattle.doc_nodes.specs.declared.node.DocError.TheVariants.{NoNode}
use Rattle.std.proofs.lemmas.Option.{slice_get_within}
use Rattle.doc_laws.specs.Forest.{one_if, times, list_at, is_list_of, IsForest}
use Rattle.doc_laws.specs.Places.{place_of, closed, are_beside, place_without}
use Rattle.doc_laws.proofs.Lists.{not_same, flipped, without-here, without-behind, without_none, times-without, position-here, position-behind, next_place}
use Rattle.doc_laws.proofs.Edits.{with_last, without_if, moved-here, moved-other, taken-here, taken-other, new-here, new-other, list-moved, list-taken, list-new, edited-same, list-edited, freed-in, freed-out, list-freed, list-over, new-length}
use Rattle.doc_laws.proofs.Changed.{append-tested, third, child-at, passed}

abbrev first : ℕ → List ℕ → Option ℕ
first n xs = position (nat_eq n) xs

-- a number behind a list changes no place but its own
first-push_other : (n c : ℕ) (xs : List ℕ) → n ≢ c → first n (xs ++ c ∷ []) ≡ first n xs
first-push_other n c [] ne = let no : nat_eq n c ≡ false = not_same n c ne in position-behind n c [] no
first-push_other n c (x ∷ xs) ne =
    let cases = elim (nat_eq n x) as (λ b. nat_eq n x ≡ b → first n (x ∷ (xs ++ c ∷ [])) ≡ first n (x ∷ xs)) [
      | true ↦ λ same. position-here n x (xs ++ c ∷ []) same ∙ sym (position-here n x xs same)
      | false ↦ λ other. position-behind n x (xs ++ c ∷ []) other ∙ ap next_place (first-push_other n c xs ne) ∙ sym (position-behind n x xs other)
    ] in cases refl

-- one that isn't in a list stands behind it
first-push : (c : ℕ) (xs : List ℕ) → times c xs ≡ 0 → first c (xs ++ c ∷ []) ≡ Some (length xs)
first-push c [] h = position-here c c [] (eq-eqb c c refl)
first-push c (x ∷ xs) h =
    let cases = elim (nat_eq c x) as (λ b. nat_eq c x ≡ b → one_if b + times c xs ≡ 0 → first c (x ∷ (xs ++ c ∷ [])) ≡ Some (suc (length xs))) [
      | true ↦ λ same no. absurd (omega arith)
      | false ↦ λ other no. position-behind c x (xs ++ c ∷ []) other ∙ ap next_place (first-push c xs (omega arith))
    ] in cases refl (rw (← (flipped x c)) h)

next-closed : (i o : Option ℕ) → closed (next_place i) (next_place o) ≡ next_place (closed i o)
next-closed None o = refl
next-closed (Some i) None = refl
next-closed (Some i) (Some j) =
    let cases = elim (nat_lt i j) as (λ b. nat_lt i j ≡ b → closed (Some (suc i)) (Some (suc j)) ≡ Some (suc (cond b (j - 1) j))) [
      | true ↦ λ yes.
          let less : nat_lt (suc i) (suc j) ≡ true = grind (arith, nat_tests) in
          let one : suc (j - 1) ≡ suc j - 1 = grind (arith, nat_tests) in
          rw (less, one) refl
      | false ↦ λ no. let past : nat_lt (suc i) (suc j) ≡ false = grind (arith, nat_tests) in rw past refl
    ] in cases refl

-- the place where the list begins: all others move up
closed-first : (o : Option ℕ) → closed (Some 0) (next_place o) ≡ o
closed-first None = refl
closed-first (Some j) =
    let yes : nat_lt 0 (suc j) ≡ true = grind (arith, nat_tests) in
    let one : suc j - 1 ≡ j = omega arith in
    rw (yes, one) refl

-- one that stands first isn't moved
closed-here : (i : Option ℕ) → closed (next_place i) (Some 0) ≡ Some 0
closed-here None = refl
closed-here (Some i) = let no : nat_lt (suc i) 0 ≡ false = grind (arith, nat_tests) in rw no refl

first-without : (n c : ℕ) (xs : List ℕ) → n ≢ c → first n (without c xs) ≡ closed (first c xs) (first n xs)
first-without n c [] ne = refl
first-without n c (x ∷ xs) ne =
    let here = elim (nat_eq c x) as (λ b. nat_eq c x ≡ b → first n (without c (x ∷ xs)) ≡ closed (first c (x ∷ xs)) (first n (x ∷ xs))) [
      | true ↦ λ same.
          let other : nat_eq n x ≡ false = not_same n x (λ e. ne (e ∙ sym (eqb-true c x same))) in
          rw (without-here c x xs same, position-here c x xs same, position-behind n x xs other) (sym (closed-first (first n xs)))
      | false ↦ λ behind.
          let cases = elim (nat_eq n x) as (λ b. nat_eq n x ≡ b → first n (x ∷ without c xs) ≡ closed (next_place (first c xs)) (first n (x ∷ xs))) [
            | true ↦ λ same. rw (position-here n x (without c xs) same, position-here n x xs same) (sym (closed-here (first c xs)))
            | false ↦ λ other. rw (position-behind n x (without c xs) other, position-behind n x xs other, first-without n c xs ne) (sym (next-closed (first c xs) (first n xs)))
          ] in rw (without-behind c x xs behind, position-behind c x xs behind) (cases refl)
    ] in here refl

-- the same, in the list that is left or in another
first-without_if : (b : Bool) (n c : ℕ) (xs : List ℕ) → n ≢ c → first n (without_if b c xs) ≡ cond b (closed (first c xs) (first n xs)) (first n xs)
first-without_if true n c xs ne = first-without n c xs ne
first-without_if false n c xs ne = refl

first-moved : (b a : Bool) (n c : ℕ) (xs : List ℕ) → n ≢ c → times c xs ≡ one_if b → first n (without_if b c (with_last a c xs)) ≡ cond b (closed (first c xs) (first n xs)) (first n xs)
first-moved b false n c xs ne h = first-without_if b n c xs ne
first-moved false true n c xs ne h = first-push_other n c xs ne
first-moved true true n c xs ne h = first-without n c (xs ++ c ∷ []) ne ∙ ap (closed (first c (xs ++ c ∷ []))) (first-push_other n c xs ne) ∙ ap (λ o. closed o (first n xs)) (first-there c xs (omega (arith, h)))
  where
    first-there : (c : ℕ) (xs : List ℕ) → 0 < times c xs → first c (xs ++ c ∷ []) ≡ first c xs
    first-there c [] h = absurd (omega arith)
    first-there c (x ∷ xs) h =
        let cases = elim (nat_eq c x) as (λ b. nat_eq c x ≡ b → 0 < one_if b + times c xs → first c (x ∷ (xs ++ c ∷ [])) ≡ first c (x ∷ xs)) [
          | true ↦ λ same less. position-here c x (xs ++ c ∷ []) same ∙ sym (position-here c x xs same)
          | false ↦ λ other less. position-behind c x (xs ++ c ∷ []) other ∙ ap next_place (first-there c xs (omega arith)) ∙ sym (position-behind c x xs other)
        ] in cases refl (rw (← (flipped x c)) h)

-- where c comes to stand
without-push : (c : ℕ) (xs : List ℕ) → times c xs ≡ 1 → without c (xs ++ c ∷ []) ≡ without c xs ++ c ∷ []
without-push c [] h = absurd (omega arith)
without-push c (x ∷ xs) h =
    let cases = elim (nat_eq c x) as (λ b. nat_eq c x ≡ b → one_if b + times c xs ≡ 1 → without c (x ∷ (xs ++ c ∷ [])) ≡ without c (x ∷ xs) ++ c ∷ []) [
      | true ↦ λ same one. rw (without-here c x (xs ++ c ∷ []) same, without-here c x xs same) refl
      | false ↦ λ other one. rw (without-behind c x (xs ++ c ∷ []) other, without-behind c x xs other, without-push c xs (omega arith)) refl
    ] in cases refl (rw (← (flipped x c)) h)

first-last : (b : Bool) (c : ℕ) (xs : List ℕ) → times c xs ≡ one_if b → first c (without_if b c (xs ++ c ∷ [])) ≡ Some (length (without c xs))
first-last true c xs h = ap (first c) (without-push c xs h) ∙ first-push c (without c xs) (times-without c xs ∙ omega (arith, h))
first-last false c xs h = first-push c xs h ∙ ap (λ ys. Some (length ys)) (sym (without_none c xs h))

-- two nodes of one list
one-list : (q x : Parent) → is_list_of q x ≡ true → q ≡ x
one-list Detached x h = cc
one-list Document Detached h = cc
one-list Document Document h = refl
one-list Document (Node x) h = cc
one-list (Node q) Detached h = cc
one-list (Node q) Document h = cc
one-list (Node q) (Node x) h = ap (λ y. Node y) (eqb-true q x h)

beside : (d : Doc) (c n : ℕ) (b : Bool) → are_beside d n c ≡ b → cond b (closed (first c (list_at d (parent_in (row_at d n)))) (place_of d n)) (place_of d n) ≡ place_without d c n
beside d c n true is =
    let same : parent_in (row_at d n) ≡ parent_in (row_at d c) = one-list (parent_in (row_at d n)) (parent_in (row_at d c)) is in
    ap (λ q. closed (first c (list_at d q)) (place_of d n)) same ∙ ap (λ b. cond b (closed (place_of d c) (place_of d n)) (place_of d n)) (sym is)
beside d c n false is = ap (λ b. cond b (closed (place_of d c) (place_of d n)) (place_of d n)) (sym is)

pub append-places : (d : Doc) (p c : ℕ) → IsForest d → append_refused d p c ≡ None
    → (place_of (moved p c d) c ≡ Some (length (without c (children_in (row_at d p))))) × ((n : ℕ) → n ≢ c → place_of (moved p c d) n ≡ place_without d c n)
append-places d p c f h =
    let t = append-tested d p c h in
    let old = parent_in (row_at d c) in
    let self : is_list_of (Node p) (Node p) ≡ true = eq-eqb p p refl in (
      ap (λ q. first c (list_at (moved p c d) q)) (moved-here p c d t.1) ∙ ap (first c) (list-moved p c d (Node p) t.0) ∙ ap (λ b. first c (without_if (is_list_of (Node p) old) c (with_last b c (list_at d (Node p))))) self
          ∙ first-last (is_list_of (Node p) old) c (list_at d (Node p)) (f.listed (Node p) c),
      λ n ne.
          let q = parent_in (row_at d n) in
          ap (λ q. first n (list_at (moved p c d) q)) (moved-other p c n d ne) ∙ ap (first n) (list-moved p c d q t.0) ∙ first-moved (is_list_of q old) (is_list_of q (Node p)) n c (list_at d q) ne (f.listed q c) ∙ beside d c n (is_list_of q old) refl,
    )

pub remove-places : (d : Doc) (p c : ℕ) → (has d p && has d c && is_child d p c) ≡ true
    → (◌≡◌ {A = Option ℕ} (place_of (taken p c d) c) None) × ((n : ℕ) → n ≢ c → place_of (taken p c d) n ≡ place_without d c n)
remove-places d p c h =
    let at : parent_in (row_at d c) ≡ Node p = child-at (parent_in (row_at d c)) p (third (has d p) (has d c) (is_child d p c) h) in (
      ap (λ q. first c (list_at (taken p c d) q)) (taken-here p c d),
      λ n ne.
          let q = parent_in (row_at d n) in
          ap (λ q. first n (list_at (taken p c d) q)) (taken-other p c n d ne) ∙ ap (first n) (list-taken p c d q) ∙ first-without_if (is_list_of q (Node p)) n c (list_at d q) ne
          ∙ ap (λ x. cond (is_list_of q x) (closed (first c (list_at d q)) (first n (list_at d q))) (first n (list_at d q))) (sym at) ∙ beside d c n (is_list_of q (parent_in (row_at d c))) refl,
    )

pub create-places : (d : Doc) (root : ℕ) (c : NewNode) → (◌≡◌ {A = Option ℕ} (place_of (create root c d) (length d.rows)) None) × ((n : ℕ) → n ≢ length d.rows → place_of (create root c d) n ≡ place_of d n)
create-places d root c = (
  ap (λ o. first (length d.rows) (list_at (create root c d) (parent_in o))) (new-here Detached (Some root) c [] d),
  λ n ne. ap (λ o. first n (list_at (create root c d) (parent_in o))) (new-other Detached (Some root) c [] d n ne) ∙ ap (first n) (list-new Detached (Some root) c [] d (parent_in (row_at d n))),
)

pub set_attr-places : (n : ℕ) (name v : List ℕ) (d e : Doc) → set_attr n name v d ≡ Ok e → (m : ℕ) → place_of e m ≡ place_of d m
set_attr-places n name v d e h m =
    let g : Row → Row = λ r. marked (with_value name v r.attrs) r in
    let o = passed (has d n) (edited d n g) e NoNode h in
    let same : place_of (edited d n g) m ≡ place_of d m = ap (λ q. first m (list_at (edited d n g) q)) (edited-same parent_in d n m g (λ r. refl)) ∙ ap (first m) (list-edited d n g (parent_in (row_at d m)) (λ r. refl)) in
    subst (λ x. place_of x m ≡ place_of d m) o.1 same

child-list : (n : ℕ) (x : Parent) → is_list_of (Node n) x ≡ is_node n (node_in x)
child-list n Detached = refl
child-list n Document = refl
child-list n (Node q) = flipped n q

abbrev After : ℕ → List ℕ → Doc → Doc
After n us d = refreshed n (root_in (owner_of d n)) us d

abbrev TextPlaces : ℕ → Doc → Doc → Type 0
TextPlaces n d e = (place_of e (length d.rows) ≡ Some 0) × ((m : ℕ) → is_child d n m ≡ true → ◌≡◌ {A = Option ℕ} (place_of e m) None) × ((m : ℕ) → m ≢ length d.rows → is_child d n m ≡ false → place_of e m ≡ place_of d m)

refreshed-places : (n : ℕ) (us : List ℕ) (d : Doc) → IsForest d → n < length d.rows → TextPlaces n d (After n us d)
refreshed-places n us d f w = (
  ap (λ q. first at (list_at (After n us d) q)) new ∙ ap (first at) (list (Node n)) ∙ ap (λ b. first at (cond b (at ∷ []) (list_at d (Node n)))) (eq-eqb n n refl) ∙ position-here at at [] (eq-eqb at at refl),
  λ m h. ap (λ q. first m (list_at (After n us d) q)) (freed-in ns m g (omega (arith, once m (is_child d n m) refl, ap one_if h))),
  λ m ne h.
      let q = parent_in (row_at d m) in
      let nil : times m ns ≡ 0 = once m (is_child d n m) refl ∙ ap one_if h in
      let stands : parent_in (row_at (After n us d) m) ≡ q = freed-out ns m g nil ∙ edited-same parent_in e n m (over (at ∷ [])) (λ r. refl) ∙ ap parent_in (new-other (Node n) root (Text us) [] d m ne) in
      ap (λ q. first m (list_at (After n us d) q)) stands ∙ ap (first m) (list q) ∙ ap (λ b. first m (cond b (at ∷ []) (list_at d q))) (other q (child-list n q ∙ h)),
)
  where
    at : ℕ
    at = length d.rows

    root : Option ℕ
    root = root_in (owner_of d n)

    e : Doc
    e = with_text_in n root us d

    g : Doc
    g = swapped n root us d

    ns : List ℕ
    ns = children_in (row_at e n)

    children : ns ≡ list_at d (Node n)
    children = list-new (Node n) root (Text us) [] d (Node n)

    once : (m : ℕ) (b : Bool) → is_child d n m ≡ b → times m ns ≡ one_if b
    once m b is = ap (times m) children ∙ f.listed (Node n) m ∙ ap one_if (child-list n (parent_in (row_at d m)) ∙ is)

    list : (q : Parent) → list_at (After n us d) q ≡ cond (is_list_of q (Node n)) (at ∷ []) (list_at d q)
    list q = list-freed ns g q ∙ list-over n (at ∷ []) e q (omega (arith, w, new-length (Node n) root (Text us) [] d)) ∙ ap (cond (is_list_of q (Node n)) (at ∷ [])) (list-new (Node n) root (Text us) [] d q)

    nowhere : times at ns ≡ 0
    nowhere = ap (times at) children ∙ no_list d (Node n) f.listed

    new : parent_in (row_at (After n us d) at) ≡ Node n
    new = freed-out ns at g nowhere ∙ edited-same parent_in e n at (over (at ∷ [])) (λ r. refl) ∙ ap parent_in (new-here (Node n) root (Text us) [] d)

    -- the list of n is that of its children alone
    other : (q : Parent) → is_list_of (Node n) q ≡ false → is_list_of q (Node n) ≡ false
    other Detached h = refl
    other Document h = refl
    other (Node x) h = flipped x n ∙ h

pub set_text-places : (n : ℕ) (tag us : List ℕ) (d e : Doc) → IsForest d → tag_in (row_at d n) ≡ Some tag → set_text n us d ≡ Ok e → TextPlaces n d e
set_text-places n tag us d e f is h = at (row_at d n) refl is h
  where
    filled-places : (c : NewNode) → tag_in_content c ≡ Some tag → n < length d.rows → TextPlaces n d (filled n us c d)
    filled-places (Element x) h w = refreshed-places n us d f w
    filled-places (Text x) h w = cc

    at : (o : Option Row) → row_at d n ≡ o → tag_in o ≡ Some tag → with_text n us o d ≡ Ok e → TextPlaces n d e
    at None there is h = cc
    at (Some r) there is h = let same : filled n us r.content d ≡ e = cc in subst (TextPlaces n d) same (filled-places r.content is (slice_get_within d.rows n r there))
