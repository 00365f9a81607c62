-- `on`: a function of a text that modules may use is registered, behind all others.
use Rattle.std.proofs.Common.{◌≡◌, ◌⊎◌, inl, inr, ℕ, suc, ◌<◌, Bool, true, false, ◌||◌, List, [], ◌∷◌, ◌++◌, Option, Some, None, Result, Ok, Err, length, cond, refl, sym, ap, ◌∙◌, subst, append_assoc, append-nil}
use Rattle.std.specs.Prelude.{codes, is_some}
use Rattle.std.proofs.lemmas.Bool.{eq-eqb}
use Rattle.plans.specs.Plans.{Fault}
use Rattle.caja_units.specs.Units.{same_units}
use Rattle.caja_units.proofs.Texts.{same_units-equal}
use Rattle.es3_objects.specs.declared.value.Value.{Value}
use Rattle.es3_objects.specs.declared.value.Value.TheVariants as v
use Rattle.es3_objects.specs.declared.value.Class.{Class}
use Rattle.es3_objects.specs.declared.value.Class.TheVariants as class
use Rattle.es3_objects.specs.declared.value.FuncKind.TheVariants as kind
use Rattle.es3_objects.specs.declared.value.Tag.TheVariants as tag
use Rattle.es3_objects.specs.Reading.{kind_of as kind_in}
use Rattle.es3_heap.specs.Objects.{Objects, Callable, object_at, class_of, callable_of}
use Rattle.es3_heap.specs.Properties.{own}
use Rattle.es3_convert.specs.Conversions.{text_of}
use Rattle.doc_nodes.specs.Rows.{Doc, owner_of}
use Rattle.doc_laws.proofs.Lists.{not_same}
use Rattle.rows.specs.Rows as r
use Rattle.rows.specs.Rows.{Handle, Sight, Row, held, looks, as_text}
use Rattle.rows.specs.Arguments as rows
use Rattle.rows.specs.Branches.{around as nodes_around}
use Rattle.rows.specs.Nodes as nodes
use Rattle.rows.specs.Nodes.{refused, is_event, listen_row}
use Rattle.heap_rows.specs.Marks.{simple_mark}
use Rattle.heap_rows.specs.Doing.{Page, Came, value_in, see, see_object, sort_seen, named, listening_by, with_result, facets_at, does}
use Rattle.heap_rows.specs.Doing as store
use Rattle.heap_rows.specs.Opening.{place_of}
use Rattle.row_outcomes.specs.Arguments.{argument}
use Rattle.doc_views.specs.Seen.{nodes_seen, Stands}
use Rattle.doc_views.proofs.Views.{there_in}
use Rattle.dom_handlers.specs.declared.kinds.EventKind.{EventKind}
use Rattle.dom_handlers.specs.declared.kinds.EventKind.TheVariants.{Click, Input}
use Rattle.dom_handlers.specs.declared.kinds.Handler.{Handler}
use Rattle.dom_handlers.specs.Handlers.{kind_of, registered}
use Rattle.guard_marks.specs.Closures.{is_closure_if, is_closure_object, is_closure}
use Rattle.tamed_dom.specs.Lent.{Lent, told, with_handler}
use Rattle.tamed_dom.specs.Ends.{gives}
use Rattle.tamed_dom.specs.Methods.{listens, on_turn}
use Rattle.node_rows.specs.View.{kind_name, facets_seen, seen_at, handlers_seen, page_seen}
use Rattle.node_rows.specs.Whole.{AreAtNodes, IsWhole}
use Rattle.node_rows.specs.Promises.{DoesItsRow}
use Rattle.node_rows.proofs.Pages.{of_root}
use Rattle.node_rows.proofs.Ends.{throws_too, stops_too}
use Rattle.node_rows.proofs.Rows.{argument_is, argument_still, as_text_row, at_node}

-- what is no function of a text for modules

abbrev IsOther : Sight → Type 0
IsOther (r.a_function r.closure) = ⊥
IsOther s = Unit {0}

refuses : (s : Sight) → IsOther s → (b : Bool) (us : List ℕ) (f : Handle) → listen_row b us f s ≡ refused (codes "bad argument")
refuses (r.a_function r.closure) is b us f = absurd is
refuses s is true us f = refl
refuses s is false us f = refl

-- it may listen where it is seen as one
Listens : Bool → Sight → Type 0
Listens may s = ((may ≡ true) × (s ≡ r.a_function r.closure)) ⊎ ((may ≡ false) × IsOther s)

function_listens : (marked : Bool) (c : Option Callable) → Listens (is_closure_if marked (kind_in c)) (sort_seen marked c)
unfolding Listens
function_listens marked None = inr (refl, tt)
function_listens marked (Some c) =
    elim c.kind as (λ q. let d : Callable = record { kind = q; maker = c.maker } in ((is_closure_if marked (kind_in (Some d)) ≡ true) × (sort_seen marked (Some d) ≡ r.a_function r.closure)) ⊎ ((is_closure_if marked (kind_in (Some d)) ≡ false) × IsOther (sort_seen marked (Some d)))) [
      | kind.Code n ↦ elim marked as (λ b. let d : Callable = record { kind = kind.Code n; maker = c.maker } in ((is_closure_if b (kind_in (Some d)) ≡ true) × (sort_seen b (Some d) ≡ r.a_function r.closure)) ⊎ ((is_closure_if b (kind_in (Some d)) ≡ false) × IsOther (sort_seen b (Some d)))) [
        | true ↦ inl (refl, refl)
        | false ↦ inr (refl, tt)
      ]
      | kind.Simple n ↦ inr (refl, tt)
      | kind.Constructor n ↦ inr (refl, tt)
      | kind.Exophoric n w ↦ inr (refl, tt)
    ]

object_listens : (h : Objects) (i o : ℕ) (c : Class) → Listens (is_closure_object c h o) (see_object i h o c).sight
unfolding Listens
object_listens h i o class.Function = function_listens (is_some (own h o simple_mark)) (callable_of (object_at h o))
object_listens h i o class.Object = inr (refl, tt)
object_listens h i o class.Array = inr (refl, tt)
object_listens h i o class.Error = inr (refl, tt)
object_listens h i o class.Node = inr (refl, tt)

value_listens : (h : Objects) (i : ℕ) (x : Value) → Listens (is_closure h x) (see h i x).sight
unfolding Listens
value_listens h i (v.Obj o) = object_listens h i o (class_of (object_at h o))
value_listens h i v.Undefined = inr (refl, tt)
value_listens h i v.Null = inr (refl, tt)
value_listens h i (v.Bool b) = inr (refl, tt)
value_listens h i (v.Num n) = inr (refl, tt)
value_listens h i (v.Text us) = inr (refl, tt)

-- a handler more

handlers_push : (d : Doc) (hs : List Handler) (x : Handler) (s : ℕ) → handlers_seen d (hs ++ x ∷ []) s ≡ handlers_seen d hs s ++ seen_at s (owner_of d x.node) x
handlers_push d [] x s = append-nil (seen_at s (owner_of d x.node) x)
handlers_push d (y ∷ hs) x s =
    ap (λ l. seen_at s (owner_of d y.node) y ++ l) (handlers_push d hs x s)
    ∙ sym (append_assoc (seen_at s (owner_of d y.node) y) (handlers_seen d hs s) (seen_at s (owner_of d x.node) x))

at_nodes_push : (d : Doc) (hs : List Handler) (x : Handler) → AreAtNodes d hs → x.node < length d.rows → AreAtNodes d (hs ++ x ∷ [])
at_nodes_push d [] x are less = (less, tt)
at_nodes_push d (y ∷ hs) x are less = (are.0, at_nodes_push d hs x are.1 less)

module _ (cells : ℕ → Value) (queues : ℕ → List Value) (by : ℕ) (this : Value) (h : Objects) (z : Lent) (w : IsWhole z) (n root k : ℕ) (name : named h this ≡ tag.Facet root k) (stands : Stands z.doc n root k) where
  with_one_more : (what : EventKind) (f : Value) (s : ℕ)
      → store.with_of root (handlers_seen z.doc z.handlers root ++ record { on = k; what = kind_name what; does = f } ∷ []) (handlers_seen z.doc z.handlers) s ≡ handlers_seen z.doc (registered n what f z.handlers) s
  with_one_more what f =
      let x : Handler = record { node = n; kind = what; function = f } in
      let hs = z.handlers in
      let one : seen_at root (owner_of z.doc n) x ≡ record { on = k; what = kind_name what; does = f } ∷ [] =
      ap (λ o. seen_at root o x) stands ∙ ap (λ b. cond b (record { on = k; what = kind_name what; does = f } ∷ []) []) (eq-eqb root root refl) in
      of_root root (handlers_seen z.doc hs root ++ record { on = k; what = kind_name what; does = f } ∷ []) (handlers_seen z.doc hs) (handlers_seen z.doc (registered n what f hs))
      (sym (handlers_push z.doc hs x root ∙ ap (λ l. handlers_seen z.doc hs root ++ l) one))
      (λ s ne.
      let none : seen_at s (owner_of z.doc n) x ≡ [] =
      ap (λ o. seen_at s o x) stands ∙ ap (λ b. cond b (record { on = k; what = kind_name what; does = f } ∷ []) []) (not_same root s (λ e. ne (sym e))) in
      sym (handlers_push z.doc hs x s ∙ ap (λ l. handlers_seen z.doc hs s ++ l) none ∙ append-nil (handlers_seen z.doc hs s)))

  registers : (what : EventKind) (us : List ℕ) (f y : Value) → us ≡ kind_name what → y ≡ f
      → DoesItsRow cells queues (gives v.Undefined h (with_handler what f n (told z))) (record { done = store.gives v.Undefined h []; page = listening_by (named h this) us y (page_seen cells queues z) })
  registers what us f y same value =
      let g = page_seen cells queues z in
      let d = store.gives v.Undefined h [] in
      subst (λ t. DoesItsRow cells queues (gives v.Undefined h (with_handler what f n (told z))) (record { done = d; page = listening_by t us y g })) (sym name)
      (subst (λ u. DoesItsRow cells queues (gives v.Undefined h (with_handler what f n (told z))) (record { done = d; page = listening_by (tag.Facet root k) u y g })) (sym same)
      (subst (λ q. DoesItsRow cells queues (gives v.Undefined h (with_handler what f n (told z))) (record { done = d; page = listening_by (tag.Facet root k) (kind_name what) q g })) (sym value)
      (record {
        reply = refl;
        heap = refl;
        items = refl;
        page = record { cells = λ i. refl; queues = λ m. refl; nodes = λ s. refl; facets = λ s. refl; handlers = with_one_more what f };
        whole = record { doc = w.doc; clear = w.clear; objects = w.objects; handlers = at_nodes_push z.doc z.handlers (record { node = n; kind = what; function = f }) w.handlers (there_in z.doc n root k w.doc.owned stands) };
      })))

  -- by what is seen of the function, and what it listens to
  heard : (us : List ℕ) (f : Value) (x : Handle) (more : List Value) (s : Sight) → value_in place_of (this ∷ more) x ≡ f → Listens (is_closure h f) s
      → DoesItsRow cells queues (listens (kind_of us) (is_closure h f) f n by h (told z)) (does place_of by (listen_row (is_event us) us x s) (this ∷ more) h (page_seen cells queues z) [])
  unfolding Listens
  heard us f x more s value (inr other) =
      subst (λ row. DoesItsRow cells queues (listens (kind_of us) (is_closure h f) f n by h (told z)) (does place_of by row (this ∷ more) h (page_seen cells queues z) [])) (sym (refuses s other.1 (is_event us) us x))
      (subst (λ b. DoesItsRow cells queues (listens (kind_of us) b f n by h (told z)) (does place_of by (refused (codes "bad argument")) (this ∷ more) h (page_seen cells queues z) [])) (sym other.0)
      (any_kind (kind_of us)))
    where
      any_kind : (o : Option EventKind) → DoesItsRow cells queues (listens o false f n by h (told z)) (does place_of by (refused (codes "bad argument")) (this ∷ more) h (page_seen cells queues z) [])
      any_kind None = throws_too cells queues root k f by h z w (codes "bad argument")
      any_kind (Some what) = throws_too cells queues root k f by h z w (codes "bad argument")
  heard us f x more s value (inl closure) =
      subst (λ t. DoesItsRow cells queues (listens (kind_of us) (is_closure h f) f n by h (told z)) (does place_of by (listen_row (is_event us) us x t) (this ∷ more) h (page_seen cells queues z) [])) (sym closure.1)
      (subst (λ b. DoesItsRow cells queues (listens (kind_of us) b f n by h (told z)) (does place_of by (listen_row (is_event us) us x (r.a_function r.closure)) (this ∷ more) h (page_seen cells queues z) [])) (sym closure.0)
      (of_kind (same_units us (codes "click")) (same_units us (codes "input")) refl refl))
    where
      of_kind : (click input : Bool) → same_units us (codes "click") ≡ click → same_units us (codes "input") ≡ input
          → DoesItsRow cells queues (listens (cond click (Some Click) (cond input (Some Input) None)) true f n by h (told z)) (does place_of by (listen_row (click || input) us x (r.a_function r.closure)) (this ∷ more) h (page_seen cells queues z) [])
      of_kind true input is also = registers Click us f (value_in place_of (this ∷ more) x) (same_units-equal us (codes "click") is) value
      of_kind false true is also = registers Input us f (value_in place_of (this ∷ more) x) (same_units-equal us (codes "input") also) value
      of_kind false false is also = throws_too cells queues root k f by h z w (codes "bad argument")

  pub on_does : (args : List Value) (there : k < length (nodes_seen z.doc root)) → DoesItsRow cells queues (on_turn (text_of h (argument 0 args)) (argument 1 args) n by h (told z)) (does place_of by (nodes.on (suc (length args))) (this ∷ args) h (page_seen cells queues z) [])
  on_does args there =
      let g = page_seen cells queues z in
      let i = suc (length args) in
      let seen = facets_at (facets_seen z.doc z.facets root) (nodes_around (nodes_seen z.doc root) k) in
      let f = argument 1 args in
      let row : does place_of by (nodes.on i) (this ∷ args) h g [] ≡ with_result (text_of h (argument 0 args)) h g [] (λ us. let s = see h (length (this ∷ (args ++ seen))) f in does place_of by (listen_row (is_event us) us (rows.argument 1 i) s.sight) ((this ∷ (args ++ seen)) ++ s.values) h g []) =
      at_node by this args h g root k name there (λ b. as_text (rows.argument 0 i) (λ us. looks (rows.argument 1 i) (listen_row (is_event us) us (rows.argument 1 i))))
      ∙ as_text_row by this args h g 0 seen (λ us. looks (rows.argument 1 i) (listen_row (is_event us) us (rows.argument 1 i)))
      ∙ ap (λ y. with_result (text_of h (argument 0 args)) h g [] (λ us. let s = see h (length (this ∷ (args ++ seen))) y in does place_of by (listen_row (is_event us) us (rows.argument 1 i) s.sight) ((this ∷ (args ++ seen)) ++ s.values) h g [])) (argument_is by this args h g 1 seen) in
      subst (DoesItsRow cells queues (on_turn (text_of h (argument 0 args)) f n by h (told z))) (sym row) (at (text_of h (argument 0 args)) seen)
    where
      at : (t : Result (List ℕ) Fault) (seen : List Value) → DoesItsRow cells queues (on_turn t (argument 1 args) n by h (told z))
          (with_result t h (page_seen cells queues z) [] (λ us. let s = see h (length (this ∷ (args ++ seen))) (argument 1 args) in does place_of by (listen_row (is_event us) us (rows.argument 1 (suc (length args))) s.sight) ((this ∷ (args ++ seen)) ++ s.values) h (page_seen cells queues z) []))
      at (Err e) seen = stops_too cells queues root k this by h z w e
      at (Ok us) seen =
          let f = argument 1 args in
          let s = see h (length (this ∷ (args ++ seen))) f in
          heard us f (rows.argument 1 (suc (length args))) ((args ++ seen) ++ s.values) s.sight (argument_still by this args h (page_seen cells queues z) 1 seen s.values) (value_listens h (length (this ∷ (args ++ seen))) f)
