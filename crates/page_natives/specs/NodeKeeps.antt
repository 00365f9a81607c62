-- A method of a node names live objects alone, and so does what is lent of the document afterwards.
use Rattle.std.proofs.Common.{ℕ, zero, suc, ◌+◌, ◌-◌, ◌<◌, ◌≤◌, Bool, true, false, List, [], ◌∷◌, ◌++◌, All, length, cond, Option, Some, None, Result, Ok, Err, lt_of_lt_of_le}
use Rattle.std.specs.Prelude.{codes, nat_lt, slice_index_or}
use Rattle.std.proofs.lemmas.List.Elements.{All-nil, All-cons, All-head, All-tail, All-push, All-append, All-set, All-replicate, All-weaker}
use Rattle.plans.specs.Plans.{Fault}
use Rattle.es3_objects.specs.declared.value.Value.{Value}
use Rattle.es3_objects.specs.declared.value.Value.TheVariants as v
use Rattle.es3_objects.specs.declared.value.Class.TheVariants as class
use Rattle.es3_objects.specs.declared.value.Proto.TheVariants as proto
use Rattle.es3_heap.specs.Objects.{Objects}
use Rattle.es3_heap.specs.Making.{proto_id, made, plain_object, array_object}
use Rattle.es3_convert.specs.Conversions.{text_of}
use Rattle.es3_language.specs.Natives.{value_reply, Turn}
use Rattle.es3_live.specs.Live.{IsLive, IsLiveId, AreClosed}
use Rattle.es3_live.proofs.Growth.{live_more, id_more, later_refl, later_trans}
use Rattle.es3_live.proofs.Writing.{Grown, same_objects, grown_trans, tagged_grown}
use Rattle.es3_live.proofs.Making.{made_grown, new_within, proto_there}
use Rattle.rows.specs.Rows.{most_items}
use Rattle.heap_rows.specs.Doing.{Done, makes, too_long}
use Rattle.live_rows.specs.Live.{LiveDone}
use Rattle.live_rows.proofs.Made.{throws_live, array_live}
use Rattle.row_outcomes.specs.Arguments.{argument}
use Rattle.row_outcomes.specs.Arrays.{new_array}
use Rattle.html_kept.specs.Table.{Answers}
use Rattle.doc_nodes.specs.Rows.{Doc, owner_of}
use Rattle.node_deeds.specs.declared.deeds.Asked.{Asked}
use Rattle.node_deeds.specs.Told.{Told, told_undefined, told_null, told_argument, told_text, told_node, told_nodes, told_error, message_of, Deed}
use Rattle.node_deeds.specs.Deeds.{deed}
use Rattle.dom_facets.specs.Places.{padded, put_at}
use Rattle.dom_facets.specs.Facets as facets
use Rattle.dom_facets.specs.Facets.{facet_at, facet_tag, new_facet, facet_or_new, facet}
use Rattle.dom_handlers.specs.declared.kinds.EventKind.{EventKind}
use Rattle.dom_handlers.specs.declared.kinds.Handler.{Handler}
use Rattle.dom_handlers.specs.Handlers.{kind_of}
use Rattle.guard_marks.specs.Closures.{is_closure}
use Rattle.dom_facets.specs.Facets.{node_of}
use Rattle.tamed_dom.specs.declared.methods.NodeMethod.{NodeMethod}
use Rattle.tamed_dom.specs.Lent.{Lent, told, with_deed, grown, with_object_of}
use Rattle.tamed_dom.specs.Ends as ends
use Rattle.tamed_dom.specs.Methods.{given, told_turn, deed_turn, asked_turn, listens, on_turn, is_on, method_turn, received, node_turn}

-- what is lent of the document, where there are so many objects
pub record LiveLent (n : ℕ) (z : Lent) : Type 0 where
  pub facets : All (IsLiveId n) z.facets
  pub handlers : All (λ (x : Handler). IsLive n x.function) z.handlers

pub lent_more : {n m : ℕ} (z : Lent) → n ≤ m → LiveLent n z → LiveLent m z
lent_more {n = n} {m = m} z more live = record {
  facets = All-weaker (IsLiveId n) (IsLiveId m) (λ o. id_more o more) z.facets live.facets;
  handlers = All-weaker (λ (x : Handler). IsLive n x.function) (λ (x : Handler). IsLive m x.function) (λ x. live_more x.function more) z.handlers live.handlers;
}

-- a method came to this, with this lent
pub record AfterNode (h : Objects) (t : Turn Lent) : Type 0 where
  pub done : LiveDone h (ends.done_of t)
  pub lent : LiveLent (length t.heap.list) t.state

-- what holds of all that stands in a list, and of what was put there, and of what is new beside that
pub put_holds : {A : Type 0} (P : A → Type 0) (d : A) (i : ℕ) (x : A) (xs : List A) → P d → P x → All P xs → All P (put_at d i x xs)
put_holds P d i x xs new here all = All-set P (padded d (i + 1) xs) i x here (All-append P xs _ all (All-replicate P (i + 1 - length xs) d new))

pub new_array_live : (by : ℕ) (h : Objects) (vs : List Value) → AreClosed h → All (IsLive (length h.list)) vs → LiveDone h (new_array by h vs)
new_array_live by h vs closed live = elim (nat_lt (length vs) most_items) as (λ few. LiveDone h (cond few (makes value_reply by (array_object vs) h []) (too_long h []))) [
  | true ↦ array_live false by vs h [] closed live
  | false ↦ record { later = later_refl h; closed = closed; answer = tt }
]

-- objects of nodes

facet_live : (n : ℕ) (fs : List (Option ℕ)) (i : ℕ) → All (IsLiveId n) fs → IsLiveId n (facet_at fs i)
facet_live n [] i live = tt
facet_live n (o ∷ fs) zero live = All-head (IsLiveId n) o fs live
facet_live n (o ∷ fs) (suc i) live = facet_live n fs i (All-tail (IsLiveId n) o fs live)

pub record LiveFacet (h : Objects) (f : facets.Facet) : Type 0 where
  pub grown : Grown h f.heap
  pub object : f.object < length f.heap.list
  pub facets : All (IsLiveId (length f.heap.list)) f.facets

ids_more : {n m : ℕ} (fs : List (Option ℕ)) → n ≤ m → All (IsLiveId n) fs → All (IsLiveId m) fs
ids_more {n = n} {m = m} fs more live = All-weaker (IsLiveId n) (IsLiveId m) (λ o. id_more o more) fs live

pub new_facet_live : (n : ℕ) (d : Doc) (h : Objects) (fs : List (Option ℕ)) → AreClosed h → All (IsLiveId (length h.list)) fs → LiveFacet h (new_facet n d h fs)
new_facet_live n d h fs closed live =
    let first = made_grown h class.Node (Some (proto_id proto.Node)) closed (proto_there h proto.Node closed) in
    let one = made class.Node (Some (proto_id proto.Node)) h in
    let second = tagged_grown one (length h.list) (facet_tag (owner_of d n)) first.closed in
    let both = grown_trans first second in
    let there = lt_of_lt_of_le (new_within h (plain_object class.Node (Some (proto_id proto.Node)))) second.later.more in
    record {
      grown = both;
      object = there;
      facets = put_holds (IsLiveId (length (new_facet n d h fs).heap.list)) None n (Some (length h.list)) fs tt there (ids_more fs both.later.more live);
    }

facet_or_new_live : (o : Option ℕ) (n : ℕ) (d : Doc) (h : Objects) (fs : List (Option ℕ)) → IsLiveId (length h.list) o → AreClosed h → All (IsLiveId (length h.list)) fs → LiveFacet h (facet_or_new o n d h fs)
facet_or_new_live None n d h fs here closed live = new_facet_live n d h fs closed live
facet_or_new_live (Some o) n d h fs here closed live = record { grown = same_objects h closed; object = here; facets = live }

record LiveFacets (h : Objects) (f : facets.Facets) : Type 0 where
  pub grown : Grown h f.heap
  pub values : All (IsLive (length f.heap.list)) f.values
  pub facets : All (IsLiveId (length f.heap.list)) f.facets

facets_live : (ns : List ℕ) (d : Doc) (h : Objects) (fs : List (Option ℕ)) → AreClosed h → All (IsLiveId (length h.list)) fs → LiveFacets h (facets.facets ns d h fs)
unfolding facets.facets
facets_live [] d h fs closed live = record { grown = same_objects h closed; values = All-nil (IsLive (length h.list)); facets = live }
facets_live (n ∷ ns) d h fs closed live =
    let f = facet n d h fs in
    let first = facet_or_new_live (facet_at fs n) n d h fs (facet_live (length h.list) fs n live) closed live in
    let rest = facets_live ns d f.heap f.facets first.grown.closed first.facets in
    record {
      grown = grown_trans first.grown rest.grown;
      values = All-cons (IsLive (length (facets.facets ns d f.heap f.facets).heap.list)) (v.Obj f.object) (facets.facets ns d f.heap f.facets).values (lt_of_lt_of_le first.object rest.grown.later.more) rest.values;
      facets = rest.facets;
    }

-- answers

gave : (x : Value) (h : Objects) (z : Lent) → AreClosed h → IsLive (length h.list) x → LiveLent (length h.list) z → AfterNode h (ends.gives x h z)
gave x h z closed live lent = record { done = record { later = later_refl h; closed = closed; answer = live }; lent = lent }

threw : (message : List ℕ) (by : ℕ) (h : Objects) (z : Lent) → AreClosed h → LiveLent (length h.list) z → AfterNode h (ends.threw message by h z)
threw message by h z closed lent =
    let d = throws_live by message h [] closed in
    record { done = record { later = d.later; closed = d.closed; answer = d.answer }; lent = lent_more z d.later.more lent }

stopped : (f : Fault) (h : Objects) (z : Lent) → AreClosed h → LiveLent (length h.list) z → AfterNode h (ends.stops f h z)
stopped f h z closed lent = record { done = record { later = later_refl h; closed = closed; answer = tt }; lent = lent }

after_grown : {h g : Objects} (t : Turn Lent) → Grown h g → AfterNode g t → AfterNode h t
after_grown t grown after = record { done = record { later = later_trans grown.later after.done.later; closed = after.done.closed; answer = after.done.answer }; lent = after.lent }

told_live : (t : Told) (x : Value) (by : ℕ) (h : Objects) (z : Lent) → AreClosed h → IsLive (length h.list) x → LiveLent (length h.list) z → AfterNode h (told_turn t x by h z)
told_live told_undefined x by h z closed live lent = gave v.Undefined h z closed tt lent
told_live told_null x by h z closed live lent = gave v.Null h z closed tt lent
told_live told_argument x by h z closed live lent = gave x h z closed live lent
told_live (told_text us) x by h z closed live lent = gave (v.Text us) h z closed tt lent
told_live (told_node n) x by h z closed live lent =
    let f = facet_or_new_live (facet_at z.facets n) n z.doc h z.facets (facet_live (length h.list) z.facets n lent.facets) closed lent.facets in
    let more = lent_more z f.grown.later.more lent in
    record { done = record { later = f.grown.later; closed = f.grown.closed; answer = f.object }; lent = record { facets = f.facets; handlers = more.handlers } }
told_live (told_nodes ns) x by h z closed live lent =
    let all = facets.facets ns z.doc h z.facets in
    let f = facets_live ns z.doc h z.facets closed lent.facets in
    let d = new_array_live by all.heap all.values f.grown.closed f.values in
    let later = later_trans f.grown.later d.later in
    let more = lent_more z later.more lent in
    record { done = record { later = later; closed = d.closed; answer = d.answer }; lent = record { facets = ids_more all.facets d.later.more f.facets; handlers = more.handlers } }
told_live (told_error e) x by h z closed live lent = threw (message_of e) by h z closed lent

-- a node that a deed makes

record LiveHeld (h g : Objects) (z : Lent) : Type 0 where
  pub grown : Grown h g
  pub lent : LiveLent (length g.list) z

grown_live : (n : ℕ) (h : Objects) (z : Lent) → AreClosed h → LiveLent (length h.list) z → LiveHeld h (grown n h z).heap (grown n h z).lent
unfolding grown
grown_live n h z closed lent = elim (nat_lt n (length z.doc.rows)) as (λ b. let g = cond b (with_object_of n h z) (record { heap = h; lent = z }) in LiveHeld h g.heap g.lent) [
  | true ↦
      let f = new_facet_live n z.doc h z.facets closed lent.facets in
      let more = lent_more z f.grown.later.more lent in
      record { grown = f.grown; lent = record { facets = f.facets; handlers = more.handlers } }
  | false ↦ record { grown = same_objects h closed; lent = lent }
]

deed_live : (e : Deed) (x : Value) (by : ℕ) (h : Objects) (z : Lent) → AreClosed h → IsLive (length h.list) x → LiveLent (length h.list) z → AfterNode h (deed_turn e x by h z)
deed_live e x by h z closed live lent =
    let g = grown (length z.doc.rows) h (with_deed e z) in
    let held = grown_live (length z.doc.rows) h (with_deed e z) closed (record { facets = lent.facets; handlers = lent.handlers }) in
    after_grown (told_turn e.told x by g.heap g.lent) held.grown (told_live e.told x by g.heap g.lent held.grown.closed (live_more x held.grown.later.more live) held.lent)

asked_live : (a : Answers) (q : Result (Option Asked) Fault) (n : ℕ) (x : Value) (by : ℕ) (h : Objects) (z : Lent) → AreClosed h → IsLive (length h.list) x → LiveLent (length h.list) z → AfterNode h (asked_turn a q n x by h z)
asked_live a (Ok (Some q)) n x by h z closed live lent = deed_live (deed a q n z.doc) x by h z closed live lent
asked_live a (Ok None) n x by h z closed live lent = threw (codes "bad argument") by h z closed lent
asked_live a (Err f) n x by h z closed live lent = stopped f h z closed lent

-- handlers

listens_live : (k : Option EventKind) (b : Bool) (f : Value) (n by : ℕ) (h : Objects) (z : Lent) → AreClosed h → IsLive (length h.list) f → LiveLent (length h.list) z → AfterNode h (listens k b f n by h z)
listens_live None b f n by h z closed live lent = threw (codes "bad argument") by h z closed lent
listens_live (Some k) true f n by h z closed live lent = record {
  done = record { later = later_refl h; closed = closed; answer = tt };
  lent = record { facets = lent.facets; handlers = All-push (λ (x : Handler). IsLive (length h.list) x.function) z.handlers (record { node = n; kind = k; function = f }) lent.handlers live };
}
listens_live (Some k) false f n by h z closed live lent = threw (codes "bad argument") by h z closed lent

on_live : (t : Result (List ℕ) Fault) (f : Value) (n by : ℕ) (h : Objects) (z : Lent) → AreClosed h → IsLive (length h.list) f → LiveLent (length h.list) z → AfterNode h (on_turn t f n by h z)
on_live (Ok us) f n by h z closed live lent = listens_live (kind_of us) (is_closure h f) f n by h z closed live lent
on_live (Err e) f n by h z closed live lent = stopped e h z closed lent

-- all methods

pub argument_live : (n i : ℕ) (vs : List Value) → All (IsLive n) vs → IsLive n (argument i vs)
argument_live n i [] live = tt
argument_live n zero (x ∷ vs) live = All-head (IsLive n) x vs live
argument_live n (suc i) (x ∷ vs) live = argument_live n i vs (All-tail (IsLive n) x vs live)

method_live : (a : Answers) (m : NodeMethod) (n : ℕ) (args : List Value) (by : ℕ) (h : Objects) (z : Lent) → AreClosed h → All (IsLive (length h.list)) args → LiveLent (length h.list) z → AfterNode h (method_turn a m n args by h z)
method_live a m n args by h z closed live lent =
    elim (is_on m) as (λ b. AfterNode h (cond b (on_turn (text_of h (argument 0 args)) (argument 1 args) n by h z) (asked_turn a (given m args h z.doc) n (argument 0 args) by h z))) [
      | true ↦ on_live (text_of h (argument 0 args)) (argument 1 args) n by h z closed (argument_live (length h.list) 1 args live) lent
      | false ↦ asked_live a (given m args h z.doc) n (argument 0 args) by h z closed (argument_live (length h.list) 0 args live) lent
    ]

received_live : (a : Answers) (m : NodeMethod) (o : Option ℕ) (args : List Value) (by : ℕ) (h : Objects) (z : Lent) → AreClosed h → All (IsLive (length h.list)) args → LiveLent (length h.list) z → AfterNode h (received a m o args by h z)
received_live a m (Some n) args by h z closed live lent = method_live a m n args by h z closed live lent
received_live a m None args by h z closed live lent = threw (codes "bad receiver") by h z closed lent

pub node_live : (a : Answers) (m : NodeMethod) (by : ℕ) (this : Value) (args : List Value) (h : Objects) (z : Lent) → AreClosed h → All (IsLive (length h.list)) args → LiveLent (length h.list) z → AfterNode h (node_turn a m by this args h z)
node_live a m by this args h z closed live lent = received_live a m (node_of h z.doc this) args by h (told z) closed live (record { facets = lent.facets; handlers = lent.handlers })
