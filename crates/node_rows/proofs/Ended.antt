-- How a row ends at the node of a root that stands for the receiver, by what it comes to.
use Rattle.std.proofs.Common.{◌≡◌, ℕ, suc, ◌+◌, List, [], ◌∷◌, ◌++◌, Option, Some, length, cond, refl, sym, ap, ◌∙◌, subst, append_assoc, append-nil, arith}
use Rattle.std.specs.Prelude.{slice_get, map, nat_lt}
use Rattle.std.specs.Option.{option_map}
use Rattle.std.proofs.lemmas.List.{length-map, length-append, map-append}
use Rattle.std.proofs.lemmas.Option.{slice_get-map, slice_get_within}
use Rattle.es3_objects.specs.declared.value.Value.{Value}
use Rattle.es3_objects.specs.declared.value.Tag.TheVariants as tag
use Rattle.es3_heap.specs.Objects.{Objects}
use Rattle.es3_heap.specs.Making.{array_object}
use Rattle.es3_language.specs.Natives.{value_reply}
use Rattle.rows.specs.Rows.{Handle, Row, settles, held, handles, changes_node, adds_node, most_items}
use Rattle.rows.specs.Branches.{around as nodes_around}
use Rattle.rows.specs.Document.{Node, Change, sets_attribute, sets_text, appends, removes, changed}
use Rattle.heap_rows.specs.Doing.{Page, value_in, or_nothing, named, gives, makes, too_long, facet_at, facets_at, noding_by, node_told_by, new_node_by, does}
use Rattle.heap_rows.specs.Opening.{place_of}
use Rattle.row_outcomes.specs.Arguments.{argument}
use Rattle.doc_views.specs.Came.{Came, came_null, came_text, came_node, came_nodes, came_refused, came_changed, came_added}
use Rattle.doc_views.specs.Rowed.{answer_handle, IsRow}
use Rattle.node_rows.proofs.Lists.{get_first, get_behind, get_before}
use Rattle.node_rows.proofs.Ends.{answered, end_of}
use Rattle.node_rows.proofs.Rows.{argument_is}

-- what handles one after another stand for
held_all : (f : ℕ → Value) (ks : List ℕ) (before more : List Value) (n : ℕ) → length before ≡ n → map (value_in place_of (before ++ (map f ks ++ more))) (handles n ks) ≡ map f ks
held_all f [] before more n long = refl
held_all f (k ∷ ks) before more n long =
    let vs = before ++ (f k ∷ (map f ks ++ more)) in
    ap (λ y. or_nothing y ∷ map (value_in place_of vs) (handles (n + 1) ks)) (get_first before (f k) (map f ks ++ more) n long)
    ∙ ap (λ l. f k ∷ l) (subst (λ l. map (value_in place_of l) (handles (n + 1) ks) ≡ map f ks) (append_assoc before (f k ∷ []) (map f ks ++ more))
    (held_all f ks (before ++ f k ∷ []) more (n + 1) (length-append before (f k ∷ []) ∙ omega (arith, long))))

-- the values in hand, by those of some of the nodes around the receiver
split_held : (f : ℕ → Value) (this : Value) (args : List Value) (front ks back all : List ℕ) (more : List Value) → all ≡ front ++ (ks ++ back)
    → this ∷ (args ++ (map f all ++ more)) ≡ (this ∷ (args ++ map f front)) ++ (map f ks ++ (map f back ++ more))
split_held f this args front ks back all more split =
    let inner : map f all ++ more ≡ map f front ++ (map f ks ++ (map f back ++ more)) =
    ap (λ l. map f l ++ more) split
    ∙ ap (λ l. l ++ more) (map-append f front (ks ++ back) ∙ ap (λ l. map f front ++ l) (map-append f ks back))
    ∙ append_assoc (map f front) (map f ks ++ map f back) more
    ∙ ap (λ l. map f front ++ l) (append_assoc (map f ks) (map f back) more) in
    ap (λ l. this ∷ (args ++ l)) inner ∙ ap (λ l. this ∷ l) (sym (append_assoc args (map f front) (map f ks ++ (map f back ++ more))))

-- one of them
one_held : (f : ℕ → Value) (this : Value) (args : List Value) (all : List ℕ) (more : List Value) (i j : ℕ) → ◌≡◌ {A = Option ℕ} (slice_get all i) (Some j)
    → slice_get (this ∷ (args ++ (map f all ++ more))) (suc (length args) + i) ≡ Some (f j)
one_held f this args all more i j at =
    let long = length-map all f in
    let within = slice_get_within all i j at in
    get_behind (this ∷ args) (map f all ++ more) i (suc (length args) + i) refl
    ∙ get_before (map f all) more i (omega (arith, long, within))
    ∙ slice_get-map f all i
    ∙ ap (option_map f) at

-- several, and how many they are
several_held : (f : ℕ → Value) (this : Value) (args : List Value) (front ks back all : List ℕ) (more : List Value) → all ≡ front ++ (ks ++ back)
    → map (value_in place_of (this ∷ (args ++ (map f all ++ more)))) (handles (suc (length args) + length front) ks) ≡ map f ks
several_held f this args front ks back all more split =
    let c = suc (length args) + length front in
    let long : length (this ∷ (args ++ map f front)) ≡ c = omega (arith, length-append args (map f front), length-map front f) in
    ap (λ l. map (value_in place_of l) (handles c ks)) (split_held f this args front ks back all more split) ∙ held_all f ks (this ∷ (args ++ map f front)) (map f back ++ more) c long

as_many : (n : ℕ) (ks : List ℕ) (f : Handle → Value) (ys : List Value) → map f (handles n ks) ≡ ys → length (handles n ks) ≡ length ys
as_many n ks f ys is = sym (length-map (handles n ks) f) ∙ ap (λ (l : List Value). length l) is

module _ (by : ℕ) (this : Value) (args : List Value) (h : Objects) (g : Page) (r k : ℕ) (name : named h this ≡ tag.Facet r k) where
  -- the receiver changes
  changes_does : (c : Change) (z : Handle) (more : List Value) → value_in place_of (this ∷ more) z ≡ answered c (argument 0 args) → does place_of by (settles (changes_node (held 0) c z)) (this ∷ more) h g [] ≡ end_of (argument 0 args) by r k h g (came_changed c)
  changes_does c z more is =
      ap (λ t. let e = noding_by t (changed c) h g in record { done = gives (value_in place_of (this ∷ more) z) e.heap ([] ++ node_told_by t c); page = e.page }) name
      ∙ ap (λ y. let e = noding_by (tag.Facet r k) (changed c) h g in record { done = gives y e.heap ([] ++ node_told_by (tag.Facet r k) c); page = e.page }) is

  answer_is : (c : Change) (more : List Value) → value_in place_of (this ∷ (args ++ more)) (answer_handle (suc (length args)) c) ≡ answered c (argument 0 args)
  answer_is (sets_attribute m v) more = refl
  answer_is (sets_text us) more = refl
  answer_is (appends j) more = argument_is by this args h g 0 more
  answer_is (removes j) more = argument_is by this args h g 0 more

  -- a new node of its root
  adds_does : (o : Node) (more : List Value) → does place_of by (settles (adds_node (held 0) o)) (this ∷ more) h g [] ≡ end_of (argument 0 args) by r k h g (came_added o)
  adds_does o more = ap (λ t. let e = noding_by t (λ i ns. ns ++ o ∷ []) h g in record { done = gives (new_node_by t h) e.heap []; page = e.page }) name

  ended : (more : List Value) (c : Came) (row : Row) → IsRow (suc (length args)) (suc (length args)) (g.nodes r) k c row
      → does place_of by row (this ∷ (args ++ (facets_at (g.facets r) (nodes_around (g.nodes r) k) ++ more))) h g [] ≡ end_of (argument 0 args) by r k h g c
  ended more came_null row is = ap (λ (x : Row). does place_of by x (this ∷ (args ++ (facets_at (g.facets r) (nodes_around (g.nodes r) k) ++ more))) h g []) is
  ended more (came_text us) row is = ap (λ (x : Row). does place_of by x (this ∷ (args ++ (facets_at (g.facets r) (nodes_around (g.nodes r) k) ++ more))) h g []) is
  ended more (came_node j) row is =
      let all = nodes_around (g.nodes r) k in
      ap (λ (x : Row). does place_of by x (this ∷ (args ++ (facets_at (g.facets r) all ++ more))) h g []) is.2
      ∙ ap (λ y. record { done = gives (or_nothing y) h []; page = g }) (one_held (facet_at (g.facets r)) this args all more is.0 j is.1)
  ended more (came_nodes js) row is =
      let f = facet_at (g.facets r) in
      let all = nodes_around (g.nodes r) k in
      let vs = this ∷ (args ++ (map f all ++ more)) in
      let c = suc (length args) + length is.0 in
      let values = several_held f this args is.0 js is.1 all more is.2 in
      ap (λ (x : Row). does place_of by x vs h g []) is.3
      ∙ ap (λ ys. record { done = cond (nat_lt (length (handles c js)) most_items) (makes value_reply by (array_object ys) h []) (too_long h []); page = g }) values
      ∙ ap (λ n. record { done = cond (nat_lt n most_items) (makes value_reply by (array_object (map f js)) h []) (too_long h []); page = g }) (as_many c js (value_in place_of vs) (map f js) values)
  ended more (came_refused us) row is = ap (λ (x : Row). does place_of by x (this ∷ (args ++ (facets_at (g.facets r) (nodes_around (g.nodes r) k) ++ more))) h g []) is
  ended more (came_changed c) row is =
      let seen = facets_at (g.facets r) (nodes_around (g.nodes r) k) in
      ap (λ (x : Row). does place_of by x (this ∷ (args ++ (seen ++ more))) h g []) is
      ∙ changes_does c (answer_handle (suc (length args)) c) (args ++ (seen ++ more)) (answer_is c (seen ++ more))
  ended more (came_added o) row is =
      let seen = facets_at (g.facets r) (nodes_around (g.nodes r) k) in
      ap (λ (x : Row). does place_of by x (this ∷ (args ++ (seen ++ more))) h g []) is ∙ adds_does o (args ++ (seen ++ more))

  -- no child is given
  pub ends_alone : (c : Came) (row : Row) → IsRow (suc (length args)) (suc (length args)) (g.nodes r) k c row
      → does place_of by row (this ∷ (args ++ facets_at (g.facets r) (nodes_around (g.nodes r) k))) h g [] ≡ end_of (argument 0 args) by r k h g c
  ends_alone c row is =
      let seen = facets_at (g.facets r) (nodes_around (g.nodes r) k) in
      ap (λ l. does place_of by row (this ∷ (args ++ l)) h g []) (sym (append-nil seen)) ∙ ended [] c row is

  -- what is around a child is in hand too
  pub ends_with_child : (more : List Value) (c : Came) (row : Row) → IsRow (suc (length args)) (suc (length args)) (g.nodes r) k c row
      → does place_of by row ((this ∷ (args ++ facets_at (g.facets r) (nodes_around (g.nodes r) k))) ++ more) h g [] ≡ end_of (argument 0 args) by r k h g c
  ends_with_child more c row is =
      let seen = facets_at (g.facets r) (nodes_around (g.nodes r) k) in
      ap (λ l. does place_of by row (this ∷ l) h g []) (append_assoc args seen more) ∙ ended more c row is
