-- What is lent of a page's document beside the nodes of the direct meaning: the objects of nodes, what is called when something happens to them, and a text that is put into an element.
use Rattle.std.proofs.Common.{◌≡◌, ℕ, zero, suc, ◌<◌, Bool, true, false, ◌&&◌, List, [], ◌∷◌, ◌++◌, length, Option, Some, None, Result, Ok, Err, cond, refl, sym, ap, ◌∙◌, subst, arith}
use Rattle.std.specs.Prelude.{nat_eq, nat_lt, codes, get_or, slice_get, slice_set}
use Rattle.std.specs.Option.{option_map}
use Rattle.std.proofs.lemmas.Bool.Decides.{nat_tests}
use Rattle.std.proofs.lemmas.Option.{none-some, slice_get-map, slice_get-get_or}
use Rattle.caja_units.specs.Units.{same_units}
use Rattle.es3_objects.specs.declared.value.Value.TheVariants as es
use Rattle.es3_heap.specs.Objects.{Objects}
use Rattle.doc_nodes.specs.declared.node.DocError.{DocError}
use Rattle.doc_nodes.specs.declared.node.DocError.TheVariants.{NoNode}
use Rattle.doc_nodes.specs.Rows.{Doc, has, row_at, tag_in, nodes_of, node_with, owner_of}
use Rattle.doc_nodes.specs.Changes.{set_attr, edited, marked, with_value}
use Rattle.doc_views.specs.Seen.{node_seen, nodes_seen, Stands}
use Rattle.doc_views.proofs.Views.{there_in, at_number, number_within, count_is_seen}
use Rattle.node_deeds.specs.Deeds.{tag_or_text}
use Rattle.dom_handlers.specs.declared.kinds.EventKind.{EventKind}
use Rattle.dom_handlers.specs.declared.kinds.Handler.{Handler as Registered}
use Rattle.tamed_dom.specs.Lent.{Lent, as_value, object_in, object_of}
use Rattle.node_rows.specs.View as view
use Rattle.node_rows.specs.View.{kind_name, place_or, facet_seen, seen_at, handlers_seen, AreSame}
use Rattle.node_rows.specs.Whole.{IsWhole}
use Rattle.node_rows.specs.Promises.{with_document}
use Rattle.node_rows.proofs.Events.{input_is_seen, listeners_are_seen}
use Rattle.rows.specs.Document.{Node, or_no_node, node_at, is_text, text_tag, with_attribute, sets_attribute, changed}
use Rattle.cajita_meaning.specs.World.{object, facet_name, with_nodes, Handler, World}
use Rattle.cajita_page.specs.DirectPage as direct
use Rattle.heap_rows.specs.Doing as rows
use Rattle.page_natives.specs.Natives.{Kept, page_of, queue_of, cell_value}
use Rattle.page_runner.specs.Page as es3
use Rattle.heap_rows.specs.Opening.{first, place_of}
use Rattle.row_simulation.specs.Correspond.{Named, Val, Vals, ObjectsAre}
use Rattle.row_simulation.specs.RowLaw.{HandlersAre, PagesAre}
use Rattle.row_simulation.proofs.First.{first_is}
use Rattle.row_simulation.proofs.Nodes.{as_many_are}
use Rattle.row_simulation.proofs.Within.{changed_fits}
use Rattle.cajita_simulation.specs.Related.{IsBare}
use Rattle.cajita_simulation.proofs.Rows.{pages_moved}

-- the object of a node

-- among so many nodes there is one of each number below
among : (xs : List ℕ) (k : ℕ) → k < length xs → ◌≡◌ {A = Option ℕ} (slice_get xs k) (Some (get_or xs k 0))
among xs k less = slice_get-get_or xs k 0 less

module _ (h : Objects) (w : World) (y : Kept) (pages : PagesAre h w (page_of y)) (whole : IsWhole y.dom) where
  object_same : (root k n : ℕ) → ◌≡◌ {A = Option ℕ} (node_with y.dom.doc root k) (Some n) → rows.facet_at ((page_of y).facets root) k ≡ object_of root k y.dom
  object_same root k n there =
      let o = whole.objects n root k (whole.doc.owned.back n root k there) in
      ap (λ x. rows.or_nothing (option_map es.Obj x)) (slice_get-map (facet_seen y.dom.facets) (nodes_of y.dom.doc.roots root) k ∙ ap (option_map (facet_seen y.dom.facets)) there)
      ∙ ap (λ x. es.Obj (place_or x)) o.1
      ∙ sym (ap (λ x. object_in x y.dom) there ∙ ap as_value o.1)

  pub node_object : (root k i : ℕ) → Named h (facet_name root k) i → Val h (object (facet_name root k)) (object_of root k y.dom)
  node_object root k i named =
      let lt : k < length ((page_of y).nodes root) = pages.known root k i named in
      let many : k < length (nodes_of y.dom.doc.roots root) = let count = count_is_seen y.dom.doc root in omega (arith, count, lt) in
      subst (Val h (object (facet_name root k))) (object_same root k (get_or (nodes_of y.dom.doc.roots root) k 0) (among (nodes_of y.dom.doc.roots root) k many)) (pages.facets root k lt)

  -- of a node that is there
  pub there_object : (root k n : ℕ) → ◌≡◌ {A = Option ℕ} (node_with y.dom.doc root k) (Some n) → Val h (object (facet_name root k)) (object_of root k y.dom)
  there_object root k n there =
      let lt : k < length (nodes_seen y.dom.doc root) = let count = count_is_seen y.dom.doc root in let less = within (nodes_of y.dom.doc.roots root) k n there in omega (arith, count, less) in
      subst (Val h (object (facet_name root k))) (object_same root k n there) (pages.facets root k lt)
    where
      within : (xs : List ℕ) (i x : ℕ) → ◌≡◌ {A = Option ℕ} (slice_get xs i) (Some x) → i < length xs
      within [] i x e = absurd (none-some x e)
      within (u ∷ us) zero x e = omega arith
      within (u ∷ us) (suc i) x e = let less = within us i x e in omega (arith, less)

-- what is called

-- of handlers that correspond, those of a node correspond
handlers_alike : (h : Objects) (k : ℕ) (what : List ℕ) (xs : List Handler) (ys : List rows.Handler) → HandlersAre h xs ys → Vals h (direct.listeners k what xs) (view.listeners k what ys)
handlers_alike h k what [] [] are = tt
handlers_alike h k what (x ∷ xs) (y ∷ ys) are =
    let rest = handlers_alike h k what xs ys are.1 in
    let same : (nat_eq x.on k && same_units x.what what) ≡ (nat_eq y.on k && same_units y.what what) = ap (λ j. nat_eq j k && same_units x.what what) are.0.on ∙ ap (λ us. nat_eq y.on k && same_units us what) are.0.what in
    subst (λ b. Vals h (cond b (x.does ∷ direct.listeners k what xs) (direct.listeners k what xs)) (cond (nat_eq y.on k && same_units y.what what) (y.does ∷ view.listeners k what ys) (view.listeners k what ys))) (sym same)
    (elim (nat_eq y.on k && same_units y.what what) as (λ b. Vals h (cond b (x.does ∷ direct.listeners k what xs) (direct.listeners k what xs)) (cond b (y.does ∷ view.listeners k what ys) (view.listeners k what ys))) [
      | true ↦ (are.0.does, rest)
      | false ↦ rest
    ])
handlers_alike h k what _ _ are = absurd are

-- no handler is registered for a node that isn't there
none_registered : (d : Doc) (r k : ℕ) (what : List ℕ) (hs : List Registered) → ((n : ℕ) → Stands d n r k → ⊥) → view.listeners k what (handlers_seen d hs r) ≡ []
none_registered d r k what [] none = refl
none_registered d r k what (x ∷ hs) none = passed (owner_of d x.node) refl ∙ none_registered d r k what hs none
  where
    rest : List rows.Handler
    rest = handlers_seen d hs r

    passed : (o : Option (ℕ × ℕ)) → ◌≡◌ {A = Option (ℕ × ℕ)} (owner_of d x.node) o → view.listeners k what (seen_at r o x ++ rest) ≡ view.listeners k what rest
    passed None own = refl
    passed (Some p) own =
        let one : rows.Handler = record { on = p.1; what = kind_name x.kind; does = x.function } in
        let cases = elim (nat_eq p.0 r) as (λ b. nat_eq p.0 r ≡ b → view.listeners k what (cond b (one ∷ []) [] ++ rest) ≡ view.listeners k what rest) [
          | false ↦ λ other. refl
          | true ↦ λ here. apart p.0 p.1 own here (nat_eq p.1 k) refl
        ] in cases refl
      where
        apart : (s j : ℕ) → ◌≡◌ {A = Option (ℕ × ℕ)} (owner_of d x.node) (Some (s, j)) → nat_eq s r ≡ true → (b : Bool) → nat_eq j k ≡ b
            → cond (nat_eq j k && same_units (kind_name x.kind) what) (x.function ∷ view.listeners k what rest) (view.listeners k what rest) ≡ view.listeners k what rest
        apart s j own here true e =
            let root : s ≡ r = grind (arith, nat_tests) in
            let number : j ≡ k = grind (arith, nat_tests) in
            absurd (none x.node (subst (λ i. Stands d x.node i k) root (subst (λ i. Stands d x.node s i) number own)))
        apart s j own here false e = ap (λ b. cond (b && same_units (kind_name x.kind) what) (x.function ∷ view.listeners k what rest) (view.listeners k what rest)) e

module _ (h : Objects) (w : World) (y : Kept) (pages : PagesAre h w (page_of y)) (whole : IsWhole y.dom) (kind : EventKind) (root k : ℕ) where
  listeners_same : (o : Option ℕ) → ◌≡◌ {A = Option ℕ} (node_with y.dom.doc root k) o → view.listeners k (kind_name kind) (handlers_seen y.dom.doc y.dom.handlers root) ≡ es3.listening_at kind o y.dom
  listeners_same (Some n) there = sym (listeners_are_seen y.dom kind n root k whole (whole.doc.owned.back n root k there))
  listeners_same None there = none_registered y.dom.doc root k (kind_name kind) y.dom.handlers (λ n is. none-some n (sym there ∙ whole.doc.owned.to n root k is))

  pub listeners_alike : Vals h (direct.listeners k (kind_name kind) (w.handlers root)) (es3.listeners kind root k y.dom)
  listeners_alike = subst (Vals h (direct.listeners k (kind_name kind) (w.handlers root))) (listeners_same (node_with y.dom.doc root k) refl) (handlers_alike h k (kind_name kind) (w.handlers root) (handlers_seen y.dom.doc y.dom.handlers root) (pages.handlers root))

-- a text that is put into an element

long_set : (os : List Node) (k : ℕ) (o : Node) → length (slice_set os k o) ≡ length os
long_set [] k o = refl
long_set (x ∷ os) zero o = refl
long_set (x ∷ os) (suc k) o = ap suc (long_set os k o)

long_if : (b : Bool) (os : List Node) (k : ℕ) (o : Node) → length (cond b (slice_set os k o) os) ≡ length os
long_if true os k o = long_set os k o
long_if false os k o = refl

attribute_long : (name us : List ℕ) (k : ℕ) (ns : List Node) → length (changed (sets_attribute name us) k ns) ≡ length ns
attribute_long name us k ns =
    let o = node_at ns k in
    long_if (nat_lt k (length ns)) ns k (record { tag = o.tag; text = o.text; attributes = with_attribute name us o.attributes; parent = o.parent; children = o.children })

-- the nodes of a root in the place of themselves
same_nodes : (root : ℕ) (w : World) (r : ℕ) → cond (nat_eq r root) (w.nodes root) (w.nodes r) ≡ w.nodes r
same_nodes root w r = elim (nat_eq r root) as (λ b. nat_eq r root ≡ b → cond b (w.nodes root) (w.nodes r) ≡ w.nodes r) [
  | true ↦ λ e. ap w.nodes (let same : root ≡ r = grind (arith, nat_tests) in same)
  | false ↦ λ e. refl
] refl

-- what a text that an event puts into a node leaves on both sides
pub record InputIs (h : Objects) (w : World) (y y' : Kept) : Type 0 where
  pub pages : PagesAre h w (page_of y')
  pub whole : IsWhole y'.dom
  pub bare : IsBare y.dom.doc → IsBare y'.dom.doc

module _ {m : ℕ} (h : Objects) (w : World) (y : Kept) (objects : ObjectsAre first place_of w.objects h m) (pages : PagesAre h w (page_of y)) (whole : IsWhole y.dom) (root k : ℕ) (us : List ℕ) where
  abbrev Put : Lent → Type 0
  Put l = InputIs h (direct.with_input root k us w) y (record y { dom = l })

  -- nothing changes where no element stands
  unchanged : is_text (node_at (w.nodes root) k) ≡ true → Put y.dom
  unchanged text =
      let same : direct.put_in us k (w.nodes root) ≡ w.nodes root = ap (λ b. cond b (w.nodes root) (changed (sets_attribute (codes "value") us) k (w.nodes root))) text in
      record {
        pages = record {
          cells = pages.cells;
          queues = pages.queues;
          nodes = λ r. ap (λ ns. cond (nat_eq r root) ns (w.nodes r)) same ∙ same_nodes root w r ∙ pages.nodes r;
          within = pages.within;
          facets = pages.facets;
          as_many = pages.as_many;
          known = pages.known;
          handlers = pages.handlers;
        };
        whole = whole;
        bare = λ b. b;
      }

  -- what stands in the root is what the direct meaning has there
  node_there : (n : ℕ) → Stands y.dom.doc n root k → node_at (w.nodes root) k ≡ node_seen y.dom.doc n
  node_there n is = ap (λ ns. node_at ns k) (pages.nodes root) ∙ at_number y.dom.doc n root k whole.doc.owned is

  put_there : (n : ℕ) (tag : List ℕ) (e : Doc) → Stands y.dom.doc n root k → ◌≡◌ {A = Option (List ℕ)} (tag_in (row_at y.dom.doc n)) (Some tag) → set_attr n (codes "value") us y.dom.doc ≡ Ok e → Put (with_document e y.dom)
  put_there n tag e is element set =
      let c = sets_attribute (codes "value") us in
      let ms = changed c k (nodes_seen y.dom.doc root) in
      let seen = input_is_seen y.dom e n root k tag us (λ cell. cell_value cell y.cells) (λ q. queue_of q y.waiting) whole is element set in
      let more = as_many_are h w (page_of y) first_is objects pages root ms (changed_fits c k (nodes_seen y.dom.doc root) (pages.within root)) (attribute_long (codes "value") us k (nodes_seen y.dom.doc root)) in
      let no_text : is_text (node_at (w.nodes root) k) ≡ false = ap is_text (node_there n is) ∙ ap (λ t. same_units (tag_or_text t) text_tag) element ∙ whole.clear.named n tag element in
      let same : direct.put_in us k (w.nodes root) ≡ ms = ap (λ b. cond b (w.nodes root) (changed c k (w.nodes root))) no_text ∙ ap (changed c k) (pages.nodes root) in
      record {
        pages = subst (λ ns. PagesAre h (with_nodes root ns w) (page_of (record y { dom = with_document e y.dom }))) (sym same)
            (pages_moved seen.0.cells seen.0.queues seen.0.nodes seen.0.facets seen.0.handlers more.pages);
        whole = seen.1;
        bare = λ b. absurd (let less = number_within y.dom.doc n root k whole.doc.owned is in let none = ap length (b root) in omega (arith, less, none));
      }

  by_result : (n : ℕ) (tag : List ℕ) → Stands y.dom.doc n root k → ◌≡◌ {A = Option (List ℕ)} (tag_in (row_at y.dom.doc n)) (Some tag) → (q : Result Doc DocError) → set_attr n (codes "value") us y.dom.doc ≡ q → Put (es3.changed_or q y.dom)
  by_result n tag is element (Ok e) set = put_there n tag e is element set
  by_result n tag is element (Err f) set =
      let less = there_in y.dom.doc n root k whole.doc.owned is in
      let there : has y.dom.doc n ≡ true = grind (arith, nat_tests, less) in
      absurd (wrong (sym (ap (λ b. cond b (Ok (edited y.dom.doc n (λ x. marked (with_value (codes "value") us x.attrs) x))) (Err NoNode)) there) ∙ set))
    where
      wrong : {d : Doc} {f : DocError} → (let q : Result Doc DocError = Ok d in q) ≡ Err f → ⊥
      wrong e = cc

  by_tag : (n : ℕ) → Stands y.dom.doc n root k → (t : Option (List ℕ)) → ◌≡◌ {A = Option (List ℕ)} (tag_in (row_at y.dom.doc n)) t → Put (es3.value_in t n us y.dom)
  by_tag n is None text = unchanged (ap is_text (node_there n is) ∙ ap (λ t. same_units (tag_or_text t) text_tag) text)
  by_tag n is (Some tag) element = by_result n tag is element (set_attr n (codes "value") us y.dom.doc) refl

  by_node : (o : Option ℕ) → ◌≡◌ {A = Option ℕ} (node_with y.dom.doc root k) o → Put (es3.value_put o us y.dom)
  by_node None there = unchanged (ap (λ ns. is_text (node_at ns k)) (pages.nodes root) ∙ ap (λ o. is_text (or_no_node o)) (slice_get-map (node_seen y.dom.doc) (nodes_of y.dom.doc.roots root) k ∙ ap (option_map (node_seen y.dom.doc)) there))
  by_node (Some n) there = by_tag n (whole.doc.owned.back n root k there) (tag_in (row_at y.dom.doc n)) refl

  pub input_is : InputIs h (direct.with_input root k us w) y (es3.with_input root k us y)
  input_is = by_node (node_with y.dom.doc root k) refl
