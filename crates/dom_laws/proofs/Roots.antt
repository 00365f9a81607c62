-- A call of a method at a node of a root stays within the root.
use Rattle.std.proofs.Common.{◌≡◌, inl, inr, ℕ, Bool, true, false, List, [], ◌∷◌, ◌++◌, append-nil, Option, Some, None, Result, Ok, Err, length, cond, refl, sym, ap, ◌∙◌, subst, arith}
use Rattle.std.specs.Prelude.{nat_lt, codes}
use Rattle.plans.specs.Plans.{Fault}
use Rattle.es3_objects.specs.declared.value.Value.{Value}
use Rattle.es3_objects.specs.declared.value.Value.TheVariants as v
use Rattle.es3_objects.specs.declared.value.Tag.TheVariants as tag
use Rattle.es3_heap.specs.Objects.{Objects, tag_of}
use Rattle.es3_heap.specs.Making.{array_object}
use Rattle.es3_convert.specs.Conversions.{text_of}
use Rattle.es3_language.specs.Natives.{Reply, value_reply, stop_reply}
use Rattle.rows.specs.Rows.{most_items}
use Rattle.heap_rows.specs.Doing.{makes, too_long}
use Rattle.row_outcomes.specs.Comes.{throws}
use Rattle.row_outcomes.specs.Arguments.{argument}
use Rattle.row_outcomes.specs.Arrays.{new_array}
use Rattle.html_kept.specs.Table.{Answers}
use Rattle.doc_nodes.specs.Rows.{Doc, owner_of}
use Rattle.doc_nodes.specs.Changes.{root_in}
use Rattle.doc_laws.specs.Owned.{Owned, Grows}
use Rattle.doc_laws.specs.Within.{IsWithin}
use Rattle.doc_laws.proofs.Joined.{grows-same_doc}
use Rattle.doc_laws.proofs.Lists.{get_past}
use Rattle.node_deeds.specs.declared.told.Change.{Change}
use Rattle.node_deeds.specs.declared.deeds.Asked.{Asked}
use Rattle.node_deeds.specs.Told.{Told, told_undefined, told_null, told_argument, told_text, told_node, told_nodes, told_error, message_of}
use Rattle.node_deeds.specs.Deeds.{deed}
use Rattle.deed_laws.specs.Deeds.{children_given, AreThere, IsToldOf}
use Rattle.deed_laws.proofs.Deeds.{deed_is_of_root, within_same}
use Rattle.dom_facets.specs.Facets as facets
use Rattle.dom_facets.specs.Facets.{node_of}
use Rattle.dom_handlers.specs.declared.kinds.EventKind.{EventKind}
use Rattle.dom_handlers.specs.declared.kinds.Handler.{Handler}
use Rattle.dom_handlers.specs.Handlers.{kind_of, listening}
use Rattle.guard_marks.specs.Closures.{is_closure}
use Rattle.tamed_dom.specs.declared.methods.NodeMethod.{NodeMethod}
use Rattle.tamed_dom.specs.Lent.{Lent, told, with_facets, with_deed, facet, grown}
use Rattle.tamed_dom.specs.Methods.{told_turn, given, asked_turn, listens, on_turn, is_on, method_turn, received, node_turn}
use Rattle.dom_laws.specs.Store.{tag_at, Keeps}
use Rattle.dom_laws.specs.Fits.{Fits}
use Rattle.dom_laws.specs.Roots.{StaysWithin}
use Rattle.dom_laws.proofs.Store.{keeps-same}
use Rattle.dom_laws.proofs.Fits.{asking_makes_none, facet_is_named}
use Rattle.dom_laws.proofs.Grown.{rooted, grown_lent, grown_names}
use Rattle.dom_laws.proofs.Turns.{keeps-thrown, keeps-array, line_fits, facets_same, deed_fits, deed_told, node_tag, Gives, given_there, given_node, other_listening}

-- what is seen of the store after a turn that makes no node: which objects stand for nodes, and what is answered
record Shows (r : ℕ) (h g : Objects) (reply : Reply) : Type 0 where
  pub names : (o s k : ℕ) → tag_at g o ≡ tag.Facet s k → tag_at h o ≡ tag.Facet s k
  pub answer : (o s k : ℕ) → reply ≡ value_reply (v.Obj o) → tag_at g o ≡ tag.Facet s k → s ≡ r

-- nothing new stands for a node, and no object is answered
quiet : (r : ℕ) (h g : Objects) (reply : Reply) → Keeps h g → ((o : ℕ) → reply ≡ value_reply (v.Obj o) → ⊥) → Shows r h g reply
quiet r h g reply keeps none = record { names = λ o s k is. (keeps o).no_name s k is; answer = λ o s k e is. absurd (none o e) }

-- the root in the name of a node's object
same_name : (r k s j : ℕ) → tag.Facet r k ≡ tag.Facet s j → s ≡ r
same_name r k s j h = let one : r ≡ s = cc (h) in sym one

-- a new array stands for no node
array_shows : (r by : ℕ) (h g : Objects) (xs : List Value) → g ≡ h → Shows r h (new_array by g xs).heap (new_array by g xs).reply
array_shows r by h g xs same = record {
  names = λ o s k is. ap (λ i. tag_at i o) (sym same) ∙ (keeps-array by g xs o).no_name s k is;
  answer = λ o s k e is. absurd (at (nat_lt (length xs) most_items) o s k e ((keeps-array by g xs o).no_name s k is));
}
  where
    at : (b : Bool) (o s k : ℕ) → (cond b (makes value_reply by (array_object xs) g []) (too_long g [])).reply ≡ value_reply (v.Obj o) → tag_at g o ≡ tag.Facet s k → ⊥
    at true o s k e is =
        let last : length g.list ≡ o = cc (e) in
        let none : tag_at g o ≡ tag.None = ap (tag_at g) (sym last) ∙ ap tag_of (get_past g.list) in
        cc (none, is)
    at false o s k e is = cc (e)

-- what is told, as a value
told_shows : (r : ℕ) (q : Asked) (t : Told) (x : Value) (by : ℕ) (h : Objects) (z : Lent) → Fits h z → IsToldOf r q z.doc t
    → ((c o s k : ℕ) → children_given q ≡ c ∷ [] → root_in (owner_of z.doc c) ≡ Some r → x ≡ v.Obj o → tag_at h o ≡ tag.Facet s k → s ≡ r)
    → Shows r h (told_turn t x by h z).heap (told_turn t x by h z).reply
told_shows r q told_undefined x by h z f of mine = quiet r h h (value_reply v.Undefined) (keeps-same h) (λ o e. cc)
told_shows r q told_null x by h z f of mine = quiet r h h (value_reply v.Null) (keeps-same h) (λ o e. cc)
told_shows r q (told_text us) x by h z f of mine = quiet r h h (value_reply (v.Text us)) (keeps-same h) (λ o e. cc)
told_shows r q told_argument x by h z f of mine = record { names = λ o s k is. is; answer = λ o s k e is. mine of.0 o s k of.1 of.2 (cc (e)) is }
told_shows r q (told_node n) x by h z f of mine =
    let own = rooted (owner_of z.doc n) r of in
    record {
      names = λ o s k is. ap (λ i. tag_at i o) (sym (asking_makes_none h z n r own.0 f own.1).0) ∙ is;
      answer = λ o s k e is.
          let same : (facet n h z).object ≡ o = cc (e) in
          same_name r own.0 s k (sym (facet_is_named h z n r own.0 f own.1) ∙ (ap (tag_at (facet n h z).heap) same ∙ is));
    }
told_shows r q (told_nodes ns) x by h z f of mine = let g = facets.facets ns z.doc h z.facets in array_shows r by h g.heap g.values (facets_same r ns h z f of).0
told_shows r q (told_error e) x by h z f of mine = quiet r h (throws (message_of e) by h).heap (throws (message_of e) by h).reply (keeps-thrown (message_of e) by h) (λ o k. cc)

-- what is told changes nothing of what is lent
told_state : (r : ℕ) (q : Asked) (t : Told) (x : Value) (by : ℕ) (h : Objects) (z : Lent) → Fits h z → IsToldOf r q z.doc t → (told_turn t x by h z).state ≡ z
told_state r q told_undefined x by h z f of = refl
told_state r q told_null x by h z f of = refl
told_state r q told_argument x by h z f of = refl
told_state r q (told_text us) x by h z f of = refl
told_state r q (told_node n) x by h z f of = let own = rooted (owner_of z.doc n) r of in (asking_makes_none h z n r own.0 f own.1).1
told_state r q (told_nodes ns) x by h z f of = ap (λ fs. with_facets fs z) (facets_same r ns h z f of).1
told_state r q (told_error e) x by h z f of = refl

no_more : (hs : List Handler) → hs ≡ hs ++ []
no_more hs = sym (append-nil hs)

-- nothing of what is lent changes
still : (r : ℕ) (h g : Objects) (z y : Lent) (reply : Reply) → y.doc ≡ z.doc → y.handlers ≡ z.handlers → ◌≡◌ {A = Option Change} y.change None → Shows r h g reply → StaysWithin r h z (record { reply = reply; heap = g; state = y })
still r h g z y reply doc handlers line shows = record {
  grows = subst (Grows z.doc) (sym doc) (grows-same_doc z.doc);
  within = subst (IsWithin r z.doc) (sym doc) (within_same r z.doc);
  line = λ c is. cc (line, is);
  handlers = λ j ne. ap (listening j) handlers;
  registered = ([], handlers ∙ no_more z.handlers, tt);
  names = λ o s k is. inl (shows.names o s k is);
  answer = shows.answer;
}

thrown_within : (r : ℕ) (message : List ℕ) (by : ℕ) (h : Objects) (z : Lent) → StaysWithin r h z (record { reply = (throws message by h).reply; heap = (throws message by h).heap; state = told z })
thrown_within r message by h z = still r h (throws message by h).heap z (told z) (throws message by h).reply refl refl refl (quiet r h (throws message by h).heap (throws message by h).reply (keeps-thrown message by h) (λ o k. cc))

-- the child that was given is the value that is answered
child_named : (method : NodeMethod) (args : List Value) (h : Objects) (d : Doc) (q : Asked) (r c o s k : ℕ) → Owned d → Gives (given method args h d) q → children_given q ≡ c ∷ [] → root_in (owner_of d c) ≡ Some r
    → argument 0 args ≡ v.Obj o → tag_at h o ≡ tag.Facet s k → s ≡ r
child_named method args h d q r c o s k own g child of at is =
    let node : node_of h d (argument 0 args) ≡ Some c = given_node method args h d q c g child in
    let b = node_tag h d (argument 0 args) c o s k own node at is in
    let root : root_in (Some (s, k)) ≡ Some r = ap root_in (sym b) ∙ of in
    cc (root)

-- what is asked of a node of the root
asked_within : (a : Answers) (g : Result (Option Asked) Fault) (n r : ℕ) (x : Value) (by : ℕ) (h : Objects) (z : Lent) → Fits h z → root_in (owner_of z.doc n) ≡ Some r → ((q : Asked) → Gives g q → AreThere z.doc (children_given q))
    → ((q : Asked) (c o s k : ℕ) → Gives g q → children_given q ≡ c ∷ [] → root_in (owner_of z.doc c) ≡ Some r → x ≡ v.Obj o → tag_at h o ≡ tag.Facet s k → s ≡ r)
    → StaysWithin r h z (asked_turn a g n x by h (told z))
asked_within a (Ok (Some q)) n r x by h z f is there mine =
    let e = deed a q n z.doc in
    let of = deed_is_of_root a q n r z.doc f.doc is (there q refl) in
    let y = with_deed e (told z) in
    let new = length z.doc.rows in
    let g = grown new h y in
    let left = grown_lent new h y in
    let fits : Fits g.heap g.lent = deed_fits a q n r h (told z) (line_fits h z None f) of in
    let tells = deed_told a q n r h (told z) of in
    let names = grown_names new r h y (λ more. of.within.new new (omega arith) more) in
    let child : (c o s k : ℕ) → children_given q ≡ c ∷ [] → root_in (owner_of g.lent.doc c) ≡ Some r → x ≡ v.Obj o → tag_at g.heap o ≡ tag.Facet s k → s ≡ r = λ c o s k given root at name.
    let here : AreThere z.doc (c ∷ []) = subst (AreThere z.doc) given (there q refl) in
    let was : root_in (owner_of z.doc c) ≡ Some r = ap root_in (sym (of.grows.owners c here.0)) ∙ ap (λ (w : Lent). root_in (owner_of w.doc c)) (sym left.1) ∙ root in
    elim (names o s k name) [
      | inl before ↦ mine q c o s k refl given was at before
      | inr next ↦ next.0
    ] in
    let shows = told_shows r q e.told x by g.heap g.lent fits tells child in
    let all = told_state r q e.told x by g.heap g.lent fits tells ∙ left.1 in
    record {
      grows = subst (λ (w : Lent). Grows z.doc w.doc) (sym all) of.grows;
      within = subst (λ (w : Lent). IsWithin r z.doc w.doc) (sym all) of.within;
      line = λ c l. of.line c (ap (λ (w : Lent). w.change) (sym all) ∙ l);
      handlers = λ j ne. ap (λ (w : Lent). listening j w.handlers) all;
      registered = ([], ap (λ (w : Lent). w.handlers) all ∙ no_more z.handlers, tt);
      names = λ o s k named. elim (names o s k (shows.names o s k named)) [
        | inl before ↦ inl before
        | inr next ↦ inr (next.0, next.1, ap (λ (w : Lent). owner_of w.doc new) all ∙ next.2)
      ];
      answer = shows.answer;
    }
asked_within a (Ok None) n r x by h z f is there mine = thrown_within r (codes "bad argument") by h z
asked_within a (Err e) n r x by h z f is there mine = still r h h z (told z) (stop_reply e) refl refl refl (quiet r h h (stop_reply e) (keeps-same h) (λ o k. cc))

-- on(k, f)
listens_within : (o : Option EventKind) (b : Bool) (x : Value) (n r by : ℕ) (h : Objects) (z : Lent) → root_in (owner_of z.doc n) ≡ Some r → StaysWithin r h z (listens o b x n by h (told z))
listens_within (Some k) true x n r by h z is = record {
  grows = grows-same_doc z.doc;
  within = within_same r z.doc;
  line = λ c l. cc;
  handlers = λ j ne. other_listening n j k x z.handlers (λ e. ne (ap (λ i. root_in (owner_of z.doc i)) e ∙ is));
  registered = (record { node = n; kind = k; function = x } ∷ [], refl, (is, tt));
  names = λ o s i l. inl l;
  answer = λ o s i e l. cc (e);
}
listens_within (Some k) false x n r by h z is = thrown_within r (codes "bad argument") by h z
listens_within None true x n r by h z is = thrown_within r (codes "bad argument") by h z
listens_within None false x n r by h z is = thrown_within r (codes "bad argument") by h z

on_within : (t : Result (List ℕ) Fault) (x : Value) (n r by : ℕ) (h : Objects) (z : Lent) → root_in (owner_of z.doc n) ≡ Some r → StaysWithin r h z (on_turn t x n by h (told z))
on_within (Ok us) x n r by h z is = listens_within (kind_of us) (is_closure h x) x n r by h z is
on_within (Err e) x n r by h z is = still r h h z (told z) (stop_reply e) refl refl refl (quiet r h h (stop_reply e) (keeps-same h) (λ o k. cc))

at_node : (a : Answers) (method : NodeMethod) (n r : ℕ) (args : List Value) (by : ℕ) (h : Objects) (z : Lent) → Fits h z → root_in (owner_of z.doc n) ≡ Some r → StaysWithin r h z (method_turn a method n args by h (told z))
at_node a method n r args by h z f is =
    let on = on_turn (text_of h (argument 0 args)) (argument 1 args) n by h (told z) in
    let other = asked_turn a (given method args h z.doc) n (argument 0 args) by h (told z) in
    elim (is_on method) as (λ b. StaysWithin r h z (cond b on other)) [
      | true ↦ on_within (text_of h (argument 0 args)) (argument 1 args) n r by h z is
      | false ↦ asked_within a (given method args h z.doc) n r (argument 0 args) by h z f is (λ q g. given_there method args h z.doc q f.doc.owned g)
          (λ q c o s k g child of at name. child_named method args h z.doc q r c o s k f.doc.owned g child of at name)
    ]

pub methods_stay_within : (a : Answers) (method : NodeMethod) (by n r : ℕ) (this : Value) (args : List Value) (h : Objects) (z : Lent) → Fits h z → node_of h z.doc this ≡ Some n → root_in (owner_of z.doc n) ≡ Some r
    → StaysWithin r h z (node_turn a method by this args h z)
methods_stay_within a method by n r this args h z f at is = subst (λ o. StaysWithin r h z (received a method o args by h (told z))) (sym at) (at_node a method n r args by h z f is)
