-- What a page keeps beside its objects stays live, where a row ends in it.
use Rattle.std.proofs.Common.{◌≡◌, ℕ, ◌≤◌, ◌<◌, Bool, true, false, List, [], ◌∷◌, ◌++◌, All, length, cond, refl, arith}
use Rattle.std.specs.Prelude.{nat_eq, nat_lt}
use Rattle.std.proofs.lemmas.Bool.Decides.{nat_tests}
use Rattle.std.proofs.lemmas.List.{length-append}
use Rattle.std.proofs.lemmas.List.Elements.{All-nil, All-cons, All-append, All-weaker}
use Rattle.es3_objects.specs.declared.value.Value.{Value}
use Rattle.es3_objects.specs.declared.value.Value.TheVariants as v
use Rattle.es3_objects.specs.declared.value.Tag.{Tag}
use Rattle.es3_objects.specs.declared.value.Tag.TheVariants as tag
use Rattle.es3_objects.specs.declared.value.Proto.TheVariants as proto
use Rattle.es3_heap.specs.Objects.{Property, Objects, with_object}
use Rattle.es3_live.specs.Live.{IsLive, AreClosed}
use Rattle.es3_live.proofs.Growth.{live_more, all_more}
use Rattle.es3_live.proofs.Writing.{Grown, same_objects}
use Rattle.es3_live.proofs.Making.{with_object_grown, new_within, proto_there}
use Rattle.rows.specs.Rows as r
use Rattle.rows.specs.Rows.{Native}
use Rattle.rows.specs.Document as doc
use Rattle.rows.specs.Document.{Node}
use Rattle.heap_rows.specs.Doing.{Handler, Page, Kept, Told, value_in, gives, kept_by, keeping_by, queueing_by, facet_object, renoded, noding_by, node_told_by, new_node_by, listening_by, named, settle}
use Rattle.heap_rows.specs.Opening.{empty_page}
use Rattle.live_rows.specs.Named.{SettlingNames}
use Rattle.live_rows.specs.Live.{IsThere, LivePage, LiveCame}
use Rattle.live_rows.proofs.Values.{live_if, value_live}
use Rattle.live_rows.proofs.Ends.{gives_live}

pub page_more : {n m : ℕ} (g : Page) → n ≤ m → LivePage n g → LivePage m g
page_more {n = n} {m = m} g le live = record {
  cells = λ c. live_more (g.cells c) le (live.cells c);
  queues = λ m. all_more (g.queues m) le (live.queues m);
  facets = λ root. All-weaker (λ (o : ℕ). o < n) (λ (o : ℕ). o < m) (λ o lt. omega (arith, lt, le)) (g.facets root) (live.facets root);
  handlers = λ root. All-weaker (λ (x : Handler). IsLive n x.does) (λ (x : Handler). IsLive m x.does) (λ x d. live_more x.does le d) (g.handlers root) (live.handlers root);
}

-- a page that keeps cells and queues alone
pub plain_live : (n : ℕ) (cells : ℕ → Value) (queues : ℕ → List Value) → ((c : ℕ) → IsLive n (cells c)) → ((m : ℕ) → All (IsLive n) (queues m)) → LivePage n (record { cells = cells; queues = queues; nodes = λ root. []; facets = λ root. []; handlers = λ root. [] })
plain_live n cells queues kept waiting = record { cells = kept; queues = waiting; facets = λ root. All-nil (λ (o : ℕ). o < n); handlers = λ root. All-nil (λ (x : Handler). IsLive n x.does) }

pub empty_live : (n : ℕ) → LivePage n empty_page
empty_live n = plain_live n (λ c. v.Undefined) (λ m. []) (λ c. tt) (λ m. All-nil (IsLive n))

kept_live : (n : ℕ) (t : Tag) (g : Page) → LivePage n g → IsLive n (kept_by t g)
kept_live n (tag.Cell c i) g live = live.cells c
kept_live n t g live = tt

keeping_live : (n : ℕ) (t : Tag) (x : Value) (g : Page) → IsLive n x → LivePage n g → LivePage n (keeping_by t x g)
keeping_live n (tag.Cell c i) x g value live = record { cells = λ m. live_if n (nat_eq m c) x (g.cells m) value (live.cells m); queues = live.queues; facets = live.facets; handlers = live.handlers }
keeping_live n t x g value live = live

all_if : (n : ℕ) (b : Bool) (vs ws : List Value) → All (IsLive n) vs → All (IsLive n) ws → All (IsLive n) (cond b vs ws)
all_if n true vs ws first second = first
all_if n false vs ws first second = second

queueing_live : (n : ℕ) (t : Tag) (f : Value) (g : Page) → IsLive n f → LivePage n g → LivePage n (queueing_by t f g)
queueing_live n (tag.Own m i) f g value live = record {
  cells = live.cells;
  queues = λ k. all_if n (nat_eq k m) (g.queues m ++ f ∷ []) (g.queues k) (All-append (IsLive n) (g.queues m) (f ∷ []) (live.queues m) (All-cons (IsLive n) f [] value (All-nil (IsLive n)))) (live.queues k);
  facets = live.facets;
  handlers = live.handlers;
}
queueing_live n t f g value live = live

-- nodes, and their objects

record LiveKept (h : Objects) (k : Kept) : Type 0 where
  grown : Grown h k.heap
  page : LivePage (length k.heap.list) k.page

facet_grown : (h : Objects) (root k : ℕ) → AreClosed h → Grown h (with_object h (facet_object root k))
facet_grown h root k closed = with_object_grown h (facet_object root k) closed (record { proto = proto_there h proto.Node closed; values = All-nil (λ (p : Property). IsLive (length h.list) p.value) })

all_of_if : {A : Type 0} (P : A → Type 0) (b : Bool) (xs zs : List A) → All P xs → All P zs → All P (cond b xs zs)
all_of_if P true xs zs first second = first
all_of_if P false xs zs first second = second

renoded_live : (root : ℕ) (ns : List Node) (h : Objects) (g : Page) → AreClosed h → LivePage (length h.list) g → LiveKept h (renoded root ns h g)
renoded_live root ns h g closed live = elim (nat_lt (length (g.nodes root)) (length ns)) as (λ b. nat_lt (length (g.nodes root)) (length ns) ≡ b → LiveKept h (renoded root ns h g)) [
  | true ↦ λ e. rw e (let o = facet_object root (length (g.nodes root)) in
      let grown = facet_grown h root (length (g.nodes root)) closed in
      let n = length (with_object h o).list in
      let more = page_more g grown.later.more live in
      record {
        grown = grown;
        page = record {
          cells = more.cells;
          queues = more.queues;
          facets = λ r. all_of_if (λ (i : ℕ). i < n) (nat_eq r root) (g.facets root ++ length h.list ∷ []) (g.facets r) (All-append (λ (i : ℕ). i < n) (g.facets root) (length h.list ∷ []) (more.facets root) (All-cons (λ (i : ℕ). i < n) (length h.list) [] (new_within h o) (All-nil (λ (i : ℕ). i < n)))) (more.facets r);
          handlers = more.handlers;
        };
      })
  | false ↦ λ e. rw e (record { grown = same_objects h closed; page = record { cells = live.cells; queues = live.queues; facets = live.facets; handlers = live.handlers } })
] refl

noding_live : (t : Tag) (f : ℕ → List Node → List Node) (h : Objects) (g : Page) → AreClosed h → LivePage (length h.list) g → LiveKept h (noding_by t f h g)
noding_live (tag.Facet root k) f h g closed live = renoded_live root (f k (g.nodes root)) h g closed live
noding_live t f h g closed live = record { grown = same_objects h closed; page = live }

less_is : (a b : ℕ) → a < b → nat_lt a b ≡ true
less_is a b lt = grind (arith, nat_tests)

longer : (ns : List Node) (o : Node) → nat_lt (length ns) (length (ns ++ o ∷ [])) ≡ true
longer ns o = let l = length-append ns (o ∷ []) in less_is (length ns) (length (ns ++ o ∷ [])) (omega (arith, l))

new_live : (t : Tag) (o : Node) (h : Objects) (g : Page) → IsLive (length (noding_by t (λ i ns. ns ++ o ∷ []) h g).heap.list) (new_node_by t h)
new_live (tag.Facet root k) o h g = rw (longer (g.nodes root) o) (new_within h (facet_object root (length (g.nodes root))))
new_live t o h g = tt

listening_live : (n : ℕ) (t : Tag) (us : List ℕ) (f : Value) (g : Page) → IsLive n f → LivePage n g → LivePage n (listening_by t us f g)
listening_live n (tag.Facet root k) us f g value live = record {
  cells = live.cells;
  queues = live.queues;
  facets = live.facets;
  handlers = λ r. all_of_if (λ (x : Handler). IsLive n x.does) (nat_eq r root) _ (g.handlers r) (All-append (λ (x : Handler). IsLive n x.does) (g.handlers root) _ (live.handlers root) (All-cons (λ (x : Handler). IsLive n x.does) (record { on = k; what = us; does = f }) [] value (All-nil (λ (x : Handler). IsLive n x.does)))) (live.handlers r);
}
listening_live n t us f g value live = live

settled : (x : Value) (h : Objects) (g : Page) (y : List Told) → AreClosed h → IsLive (length h.list) x → LivePage (length h.list) g → LiveCame h (record { done = gives x h y; page = g })
settled x h g y closed value live = record { done = gives_live x h h y (same_objects h closed) value; page = live }

pub settle_live : (fs : Native → ℕ) (e : r.Settling) (vs : List Value) (h : Objects) (g : Page) (y : List Told) → SettlingNames (IsThere fs h) e → AreClosed h → All (IsLive (length h.list)) vs → LivePage (length h.list) g → LiveCame h (settle fs e vs h g y)
settle_live fs (r.answers_kept x) vs h g y names closed live page = settled _ h g y closed (kept_live (length h.list) (named h (value_in fs vs x)) g page) page
settle_live fs (r.keeps x z) vs h g y names closed live page = settled v.Undefined h _ y closed tt (keeping_live (length h.list) (named h (value_in fs vs x)) (value_in fs vs z) g (value_live (length h.list) fs vs z names live) page)
settle_live fs (r.says x us) vs h g y names closed live page = settled v.Undefined h g _ closed tt page
settle_live fs (r.queues x f) vs h g y names closed live page = settled v.Undefined h _ y closed tt (queueing_live (length h.list) (named h (value_in fs vs x)) (value_in fs vs f) g (value_live (length h.list) fs vs f names live) page)
settle_live fs (r.changes_node x c z) vs h g y names closed live page =
    let k = noding_live (named h (value_in fs vs x)) (doc.changed c) h g closed page in
    record { done = gives_live (value_in fs vs z) h _ (y ++ node_told_by (named h (value_in fs vs x)) c) k.grown (value_live (length h.list) fs vs z names live); page = k.page }
settle_live fs (r.adds_node x o) vs h g y names closed live page =
    let k = noding_live (named h (value_in fs vs x)) (λ i ns. ns ++ o ∷ []) h g closed page in
    record { done = record { later = k.grown.later; closed = k.grown.closed; answer = new_live (named h (value_in fs vs x)) o h g }; page = k.page }
settle_live fs (r.listens x us f) vs h g y names closed live page = settled v.Undefined h _ y closed tt (listening_live (length h.list) (named h (value_in fs vs x)) us (value_in fs vs f) g (value_live (length h.list) fs vs f names live) page)
