-- A call of a method of a node keeps what holds between the store and what is lent.
use Rattle.std.proofs.Common.{◌≡◌, ◌≢◌, ℕ, ◌<◌, Bool, true, false, List, [], ◌∷◌, ◌++◌, Option, Some, None, Result, Ok, Err, length, cond, refl, sym, ap, ◌∙◌, subst, arith}
use Rattle.std.specs.Prelude.{nat_lt, nat_eq, codes, option_map, is_some}
use Rattle.std.proofs.lemmas.Bool.{eqb-true}
use Rattle.plans.specs.Plans.{Fault}
use Rattle.es3_objects.specs.declared.value.Value.{Value}
use Rattle.es3_objects.specs.declared.value.Value.TheVariants as v
use Rattle.es3_objects.specs.declared.value.Class.{Class}
use Rattle.es3_objects.specs.declared.value.Class.TheVariants as class
use Rattle.es3_objects.specs.declared.value.FuncKind.{FuncKind}
use Rattle.es3_objects.specs.declared.value.FuncKind.TheVariants as kind
use Rattle.es3_objects.specs.declared.value.Tag.{Tag}
use Rattle.es3_objects.specs.declared.value.Tag.TheVariants as tag
use Rattle.es3_objects.specs.declared.value.Proto.TheVariants as proto
use Rattle.es3_objects.specs.Reading.{kind_of as kind_in}
use Rattle.es3_heap.specs.Objects.{Object, Objects, object_at, class_of, callable_of, with_object}
use Rattle.es3_heap.specs.Properties.{own}
use Rattle.es3_heap.specs.Making.{array_object, error_object, named}
use Rattle.es3_convert.specs.Conversions.{and_then, text_of}
use Rattle.es3_language.specs.Natives.{value_reply}
use Rattle.rows.specs.Rows.{most_items}
use Rattle.heap_rows.specs.Marks.{simple_mark}
use Rattle.heap_rows.specs.Doing.{makes, too_long}
use Rattle.row_outcomes.specs.Comes.{throws}
use Rattle.row_outcomes.specs.Arguments.{argument}
use Rattle.row_outcomes.specs.Arrays.{new_array}
use Rattle.html_kept.specs.Table.{Answers}
use Rattle.doc_nodes.specs.Rows.{Doc, owner_of}
use Rattle.doc_nodes.specs.Changes.{root_in}
use Rattle.doc_laws.specs.Owned.{Owned}
use Rattle.node_deeds.specs.declared.told.Change.{Change}
use Rattle.node_deeds.specs.declared.deeds.Asked.{Asked}
use Rattle.node_deeds.specs.declared.deeds.Asked.TheVariants as asked
use Rattle.node_deeds.specs.Told.{Told, told_undefined, told_null, told_argument, told_text, told_node, told_nodes, told_error, message_of}
use Rattle.node_deeds.specs.Deeds.{deed}
use Rattle.deed_laws.specs.Deeds.{children_given, AreThere, AreOf, IsToldOf, IsOfRoot}
use Rattle.deed_laws.proofs.Deeds.{deed_is_of_root, owner_there}
use Rattle.dom_facets.specs.Facets as facets
use Rattle.dom_facets.specs.Facets.{node_in_tag, node_of}
use Rattle.dom_handlers.specs.declared.kinds.EventKind.{EventKind}
use Rattle.dom_handlers.specs.declared.kinds.Handler.{Handler}
use Rattle.dom_handlers.specs.Handlers.{kind_of, listening, registered}
use Rattle.guard_marks.specs.Closures.{is_closure_if, is_closure_object, is_closure}
use Rattle.tamed_dom.specs.declared.methods.NodeMethod.{NodeMethod}
use Rattle.tamed_dom.specs.declared.methods.NodeMethod.TheVariants as m
use Rattle.tamed_dom.specs.Lent.{Lent, told, with_facets, with_deed, with_handler, grown}
use Rattle.tamed_dom.specs.Ends.{threw}
use Rattle.tamed_dom.specs.Methods.{told_turn, with_text, given, asked_turn, listens, on_turn, is_on, method_turn, received, node_turn}
use Rattle.dom_laws.specs.Store.{tag_at, is_code, runs_code, IsOfText, Keeps}
use Rattle.dom_laws.specs.Fits.{AreOfTexts, Fits}
use Rattle.dom_laws.proofs.Store.{keeps-same, keeps-then, keeps-new, keeps-named}
use Rattle.dom_laws.proofs.Fits.{facet_is, facet_keeps, others_keep}
use Rattle.dom_laws.proofs.Grown.{deed_makes_one, rooted, grown_lent, grown_fits}

-- a new object that is no node, made by a module
pub keeps-made : (h : Objects) (x : Object) (by : ℕ) → x.tag ≡ tag.None → (x.class ≡ class.Node → ⊥) → Keeps h (named (with_object h x) (length h.list) by)
keeps-made h x by untagged no_node = keeps-then h (with_object h x) (named (with_object h x) (length h.list) by) (keeps-new h x untagged no_node) (keeps-named (with_object h x) (length h.list) by)

pub keeps-thrown : (message : List ℕ) (by : ℕ) (h : Objects) → Keeps h (throws message by h).heap
keeps-thrown message by h = keeps-made h (error_object proto.TypeError (codes "TypeError") message) by refl (λ e. cc)

pub keeps-array : (by : ℕ) (h : Objects) (xs : List Value) → Keeps h (new_array by h xs).heap
keeps-array by h xs = elim (nat_lt (length xs) most_items) as (λ b. Keeps h (cond b (makes value_reply by (array_object xs) h []) (too_long h [])).heap) [
  | true ↦ keeps-made h (array_object xs) by refl (λ e. cc)
  | false ↦ keeps-same h
]

-- the line is another
pub line_fits : (h : Objects) (z : Lent) (c : Option Change) → Fits h z → Fits h (record { doc = z.doc; facets = z.facets; handlers = z.handlers; change = c })
line_fits h z c f = record { doc = f.doc; kept = f.kept; named = f.named; nodes = f.nodes; there = f.there; handlers = f.handlers }

-- the objects of some nodes are there
pub facets_same : (r : ℕ) (ns : List ℕ) (h : Objects) (z : Lent) → Fits h z → AreOf r z.doc ns → ((facets.facets ns z.doc h z.facets).heap ≡ h) × ((facets.facets ns z.doc h z.facets).facets ≡ z.facets)
unfolding facets.facets
facets_same r [] h z f of = (refl, refl)
facets_same r (n ∷ ns) h z f of =
    let own = rooted (owner_of z.doc n) r of.0 in
    let first = facet_is n r own.0 h z f own.1 in
    let rest = facets_same r ns h z f of.1 in
    (ap (λ g. (facets.facets ns z.doc g.heap g.facets).heap) first.2 ∙ rest.0, ap (λ g. (facets.facets ns z.doc g.heap g.facets).facets) first.2 ∙ rest.1)

threw_fits : (message : List ℕ) (by : ℕ) (h : Objects) (z : Lent) → Fits h z → Fits (threw message by h z).heap (threw message by h z).state
threw_fits message by h z f = others_keep h (throws message by h).heap z f (keeps-thrown message by h)

-- what is told, as a value
told_fits : (r : ℕ) (q : Asked) (t : Told) (x : Value) (by : ℕ) (h : Objects) (z : Lent) → Fits h z → IsToldOf r q z.doc t → Fits (told_turn t x by h z).heap (told_turn t x by h z).state
told_fits r q told_undefined x by h z f of = f
told_fits r q told_null x by h z f of = f
told_fits r q told_argument x by h z f of = f
told_fits r q (told_text us) x by h z f of = f
told_fits r q (told_node n) x by h z f of = let own = rooted (owner_of z.doc n) r of in facet_keeps n r own.0 h z f own.1
told_fits r q (told_nodes ns) x by h z f of =
    let g = facets.facets ns z.doc h z.facets in
    let same = facets_same r ns h z f of in
    let before : Fits g.heap (with_facets g.facets z) = subst (λ k. Fits k (with_facets g.facets z)) (sym same.0) (subst (λ fs. Fits h (with_facets fs z)) (sym same.1) f) in
    others_keep g.heap (new_array by g.heap g.values).heap (with_facets g.facets z) before (keeps-array by g.heap g.values)
told_fits r q (told_error e) x by h z f of = threw_fits (message_of e) by h z f

-- a value that stands for a node
tag_owner : (d : Doc) (t : Tag) (n : ℕ) → Owned d → node_in_tag d t ≡ Some n → (r : ℕ) × (k : ℕ) × (owner_of d n ≡ Some (r, k)) × (t ≡ tag.Facet r k)
tag_owner d (tag.Facet r k) n o is = (r, k, o.back n r k is, refl)
tag_owner d t n o is = cc

pub node_owner : (h : Objects) (d : Doc) (x : Value) (n : ℕ) → Owned d → node_of h d x ≡ Some n → (r : ℕ) × (k : ℕ) × (owner_of d n ≡ Some (r, k))
node_owner h d (v.Obj o) n own is = let a = tag_owner d (tag_at h o) n own is in (a.0, a.1, a.2)
node_owner h d v.Undefined n own is = cc
node_owner h d v.Null n own is = cc
node_owner h d (v.Bool b) n own is = cc
node_owner h d (v.Num i) n own is = cc
node_owner h d (v.Text us) n own is = cc

-- the owner of the node that an object stands for is told by its name
pub node_tag : (h : Objects) (d : Doc) (x : Value) (n o s k : ℕ) → Owned d → node_of h d x ≡ Some n → x ≡ v.Obj o → tag_at h o ≡ tag.Facet s k → owner_of d n ≡ Some (s, k)
node_tag h d x n o s k own is at name =
    let there : node_of h d (v.Obj o) ≡ Some n = ap (node_of h d) (sym at) ∙ is in
    own.back n s k (ap (node_in_tag d) (sym name) ∙ there)

-- a child that is given is a node of the document

abbrev pub Gives : Result (Option Asked) Fault → Asked → Type 0
Gives g q = ◌≡◌ {A = Result (Option Asked) Fault} g (Ok (Some q))

of_same : (d : Doc) (p q : Asked) → Gives (Ok (Some p)) q → AreThere d (children_given p) → AreThere d (children_given q)
of_same d p q is there = let same : p ≡ q = cc in subst (λ x. AreThere d (children_given x)) same there

of_text : (d : Doc) (f : List ℕ → Asked) (t : Result (List ℕ) Fault) (q : Asked) → ((us : List ℕ) → AreThere d (children_given (f us))) → Gives (with_text f t) q → AreThere d (children_given q)
of_text d f (Ok us) q there is = of_same d (f us) q is (there us)
of_text d f (Err e) q there is = cc

of_texts : (d : Doc) (t u : Result (List ℕ) Fault) (q : Asked) → Gives (and_then t (λ name. with_text (asked.SetAttribute name) u)) q → AreThere d (children_given q)
of_texts d (Ok name) u q is = of_text d (asked.SetAttribute name) u q (λ us. tt) is
of_texts d (Err e) u q is = cc

of_node : (h : Objects) (d : Doc) (x : Value) (f : ℕ → Asked) (o : Option ℕ) (q : Asked) → Owned d → node_of h d x ≡ o → ((c : ℕ) → c < length d.rows → AreThere d (children_given (f c))) → Gives (Ok (option_map f o)) q → AreThere d (children_given q)
of_node h d x f None q own at there is = cc
of_node h d x f (Some c) q own at there is =
    let a = node_owner h d x c own at in
    of_same d (f c) q is (there c (owner_there d c a.0 own (ap root_in a.2)))

pub given_there : (method : NodeMethod) (args : List Value) (h : Objects) (d : Doc) (q : Asked) → Owned d → Gives (given method args h d) q → AreThere d (children_given q)
given_there m.GetTagName args h d q own is = of_same d asked.TagName q is tt
given_there m.GetParentNode args h d q own is = of_same d asked.ParentNode q is tt
given_there m.GetChildNodes args h d q own is = of_same d asked.ChildNodes q is tt
given_there m.GetElementById args h d q own is = of_text d asked.ElementById (text_of h (argument 0 args)) q (λ us. tt) is
given_there m.GetAttribute args h d q own is = of_text d asked.Attribute (text_of h (argument 0 args)) q (λ us. tt) is
given_there m.SetAttribute args h d q own is = of_texts d (text_of h (argument 0 args)) (text_of h (argument 1 args)) q is
given_there m.GetText args h d q own is = of_same d asked.Text q is tt
given_there m.SetText args h d q own is = of_text d asked.SetText (text_of h (argument 0 args)) q (λ us. tt) is
given_there m.CreateElement args h d q own is = of_text d asked.CreateElement (text_of h (argument 0 args)) q (λ us. tt) is
given_there m.CreateTextNode args h d q own is = of_text d asked.CreateTextNode (text_of h (argument 0 args)) q (λ us. tt) is
given_there m.AppendChild args h d q own is = of_node h d (argument 0 args) asked.AppendChild (node_of h d (argument 0 args)) q own refl (λ c less. (less, tt)) is
given_there m.RemoveChild args h d q own is = of_node h d (argument 0 args) asked.RemoveChild (node_of h d (argument 0 args)) q own refl (λ c less. (less, tt)) is
given_there m.On args h d q own is = cc

-- a child is the node that the first argument stands for

given_of : (p q : Asked) (c : ℕ) → Gives (Ok (Some p)) q → children_given q ≡ c ∷ [] → children_given p ≡ c ∷ []
given_of p q c is child = let same : p ≡ q = cc (is) in ap children_given same ∙ child

no_child : (p q : Asked) (c : ℕ) (A : Type 0) → children_given p ≡ [] → Gives (Ok (Some p)) q → children_given q ≡ c ∷ [] → A
no_child p q c A none is child = let one = given_of p q c is child in cc (none, one)

no_text_child : (f : List ℕ → Asked) (t : Result (List ℕ) Fault) (q : Asked) (c : ℕ) (A : Type 0) → ((us : List ℕ) → children_given (f us) ≡ []) → Gives (with_text f t) q → children_given q ≡ c ∷ [] → A
no_text_child f (Ok us) q c A none is child = no_child (f us) q c A (none us) is child
no_text_child f (Err e) q c A none is child = cc (is)

no_texts_child : (t u : Result (List ℕ) Fault) (q : Asked) (c : ℕ) (A : Type 0) → Gives (and_then t (λ name. with_text (asked.SetAttribute name) u)) q → children_given q ≡ c ∷ [] → A
no_texts_child (Ok name) u q c A is child = no_text_child (asked.SetAttribute name) u q c A (λ us. refl) is child
no_texts_child (Err e) u q c A is child = cc (is)

node_child : (f : ℕ → Asked) (o : Option ℕ) (q : Asked) (c : ℕ) → ((i : ℕ) → children_given (f i) ≡ i ∷ []) → Gives (Ok (option_map f o)) q → children_given q ≡ c ∷ [] → o ≡ Some c
node_child f None q c of is child = cc (is)
node_child f (Some i) q c of is child =
    let both : i ∷ [] ≡ c ∷ [] = sym (of i) ∙ given_of (f i) q c is child in
    let same : i ≡ c = cc (both) in
    ap (λ j. Some j) same

pub given_node : (method : NodeMethod) (args : List Value) (h : Objects) (d : Doc) (q : Asked) (c : ℕ) → Gives (given method args h d) q → children_given q ≡ c ∷ [] → node_of h d (argument 0 args) ≡ Some c
given_node m.GetTagName args h d q c is child = no_child asked.TagName q c _ refl is child
given_node m.GetParentNode args h d q c is child = no_child asked.ParentNode q c _ refl is child
given_node m.GetChildNodes args h d q c is child = no_child asked.ChildNodes q c _ refl is child
given_node m.GetElementById args h d q c is child = no_text_child asked.ElementById (text_of h (argument 0 args)) q c _ (λ us. refl) is child
given_node m.GetAttribute args h d q c is child = no_text_child asked.Attribute (text_of h (argument 0 args)) q c _ (λ us. refl) is child
given_node m.SetAttribute args h d q c is child = no_texts_child (text_of h (argument 0 args)) (text_of h (argument 1 args)) q c _ is child
given_node m.GetText args h d q c is child = no_child asked.Text q c _ refl is child
given_node m.SetText args h d q c is child = no_text_child asked.SetText (text_of h (argument 0 args)) q c _ (λ us. refl) is child
given_node m.CreateElement args h d q c is child = no_text_child asked.CreateElement (text_of h (argument 0 args)) q c _ (λ us. refl) is child
given_node m.CreateTextNode args h d q c is child = no_text_child asked.CreateTextNode (text_of h (argument 0 args)) q c _ (λ us. refl) is child
given_node m.AppendChild args h d q c is child = node_child asked.AppendChild (node_of h d (argument 0 args)) q c (λ i. refl) is child
given_node m.RemoveChild args h d q c is child = node_child asked.RemoveChild (node_of h d (argument 0 args)) q c (λ i. refl) is child
given_node m.On args h d q c is child = cc (is)

-- a deed at a node of a root, with the object of the node that it makes

pub deed_fits : (a : Answers) (q : Asked) (n r : ℕ) (h : Objects) (z : Lent) → Fits h z → IsOfRoot r q z.doc (deed a q n z.doc) → let g = grown (length z.doc.rows) h (with_deed (deed a q n z.doc) z) in Fits g.heap g.lent
deed_fits a q n r h z f of =
    let e = deed a q n z.doc in
    grown_fits h z e.doc e.change f of.reached of.grows r (deed_makes_one a q n z.doc) (λ more. of.within.new (length z.doc.rows) (omega arith) more)

pub deed_told : (a : Answers) (q : Asked) (n r : ℕ) (h : Objects) (z : Lent) → IsOfRoot r q z.doc (deed a q n z.doc)
    → IsToldOf r q (grown (length z.doc.rows) h (with_deed (deed a q n z.doc) z)).lent.doc (deed a q n z.doc).told
deed_told a q n r h z of =
    let e = deed a q n z.doc in
    let left = grown_lent (length z.doc.rows) h (with_deed e z) in
    subst (λ (w : Lent). IsToldOf r q w.doc e.told) (sym left.1) of.told

-- what is asked of a node
asked_fits : (a : Answers) (g : Result (Option Asked) Fault) (n r : ℕ) (x : Value) (by : ℕ) (h : Objects) (z : Lent) → Fits h z → root_in (owner_of z.doc n) ≡ Some r → ((q : Asked) → Gives g q → AreThere z.doc (children_given q))
    → Fits (asked_turn a g n x by h z).heap (asked_turn a g n x by h z).state
asked_fits a (Ok (Some q)) n r x by h z f is there =
    let e = deed a q n z.doc in
    let of = deed_is_of_root a q n r z.doc f.doc is (there q refl) in
    let g = grown (length z.doc.rows) h (with_deed e z) in
    told_fits r q e.told x by g.heap g.lent (deed_fits a q n r h z f of) (deed_told a q n r h z of)
asked_fits a (Ok None) n r x by h z f is there = threw_fits (codes "bad argument") by h z f
asked_fits a (Err e) n r x by h z f is there = f

-- a function that may listen is one of a text
code_of : (b : Bool) (k : Option FuncKind) → is_closure_if b k ≡ true → is_code k ≡ true
code_of b (Some (kind.Code n)) is = refl
code_of b (Some (kind.Simple n)) is = cc
code_of b (Some (kind.Constructor n)) is = cc
code_of b (Some (kind.Exophoric n w)) is = cc
code_of b None is = cc

object_of_text : (h : Objects) (o : ℕ) (c : Class) → is_closure_object c h o ≡ true → runs_code (object_at h o) ≡ true
object_of_text h o class.Function is = code_of (is_some (own h o simple_mark)) (kind_in (callable_of (object_at h o))) is
object_of_text h o class.Object is = cc
object_of_text h o class.Array is = cc
object_of_text h o class.Error is = cc
object_of_text h o class.Node is = cc

of_a_text : (h : Objects) (x : Value) → is_closure h x ≡ true → IsOfText h x
of_a_text h (v.Obj o) is = object_of_text h o (class_of (object_at h o)) is
of_a_text h v.Undefined is = cc
of_a_text h v.Null is = cc
of_a_text h (v.Bool b) is = cc
of_a_text h (v.Num n) is = cc
of_a_text h (v.Text us) is = cc

texts-append : (h : Objects) (xs : List Handler) (x : Handler) → AreOfTexts h xs → IsOfText h x.function → AreOfTexts h (xs ++ x ∷ [])
texts-append h [] x are is = (is, tt)
texts-append h (y ∷ ys) x are is = (are.0, texts-append h ys x are.1 is)

-- the handlers of another node
pub other_listening : (n j : ℕ) (k : EventKind) (x : Value) (hs : List Handler) → j ≢ n → listening j (registered n k x hs) ≡ listening j hs
other_listening n j k x [] ne =
    let new : Handler = record { node = n; kind = k; function = x } in
    let cases = elim (nat_eq n j) as (λ b. nat_eq n j ≡ b → cond b (new ∷ []) [] ≡ []) [
      | true ↦ λ yes. absurd (ne (sym (eqb-true n j yes)))
      | false ↦ λ other. refl
    ] in cases refl
other_listening n j k x (y ∷ ys) ne =
    let rest = other_listening n j k x ys ne in
    elim (nat_eq y.node j) as (λ b. cond b (y ∷ listening j (registered n k x ys)) (listening j (registered n k x ys)) ≡ cond b (y ∷ listening j ys) (listening j ys)) [ true ↦ ap (λ hs. y ∷ hs) rest | false ↦ rest ]

handler_fits : (k : EventKind) (x : Value) (n : ℕ) (h : Objects) (z : Lent) → Fits h z → IsOfText h x → Fits h (with_handler k x n z)
handler_fits k x n h z f is = record {
  doc = f.doc;
  kept = f.kept;
  named = f.named;
  nodes = f.nodes;
  there = f.there;
  handlers = texts-append h z.handlers (record { node = n; kind = k; function = x }) f.handlers is;
}

listens_fits : (o : Option EventKind) (b : Bool) (x : Value) (n by : ℕ) (h : Objects) (z : Lent) → Fits h z → is_closure h x ≡ b → Fits (listens o b x n by h z).heap (listens o b x n by h z).state
listens_fits (Some k) true x n by h z f is = handler_fits k x n h z f (of_a_text h x is)
listens_fits (Some k) false x n by h z f is = threw_fits (codes "bad argument") by h z f
listens_fits None true x n by h z f is = threw_fits (codes "bad argument") by h z f
listens_fits None false x n by h z f is = threw_fits (codes "bad argument") by h z f

on_fits : (t : Result (List ℕ) Fault) (x : Value) (n by : ℕ) (h : Objects) (z : Lent) → Fits h z → Fits (on_turn t x n by h z).heap (on_turn t x n by h z).state
on_fits (Ok us) x n by h z f = listens_fits (kind_of us) (is_closure h x) x n by h z f refl
on_fits (Err e) x n by h z f = f

at_node : (a : Answers) (method : NodeMethod) (n r : ℕ) (args : List Value) (by : ℕ) (h : Objects) (z : Lent) → Fits h z → root_in (owner_of z.doc n) ≡ Some r
    → Fits (method_turn a method n args by h z).heap (method_turn a method n args by h z).state
at_node a method n r args by h z f is =
    let on = on_turn (text_of h (argument 0 args)) (argument 1 args) n by h z in
    let other = asked_turn a (given method args h z.doc) n (argument 0 args) by h z in
    elim (is_on method) as (λ b. Fits (cond b on other).heap (cond b on other).state) [
      | true ↦ on_fits (text_of h (argument 0 args)) (argument 1 args) n by h z f
      | false ↦ asked_fits a (given method args h z.doc) n r (argument 0 args) by h z f is (λ q g. given_there method args h z.doc q f.doc.owned g)
    ]

pub method_keeps : (a : Answers) (method : NodeMethod) (by : ℕ) (this : Value) (args : List Value) (h : Objects) (z : Lent) → Fits h z → Fits (node_turn a method by this args h z).heap (node_turn a method by this args h z).state
method_keeps a method by this args h z f = at (node_of h z.doc this) refl
  where
    at : (o : Option ℕ) → node_of h z.doc this ≡ o → Fits (received a method o args by h (told z)).heap (received a method o args by h (told z)).state
    at None is = threw_fits (codes "bad receiver") by h (told z) (line_fits h z None f)
    at (Some n) is =
        let own = node_owner h z.doc this n f.doc.owned is in
        at_node a method n own.0 args by h (told z) (line_fits h z None f) (ap root_in own.2)
