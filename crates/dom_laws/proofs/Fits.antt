-- The store and what is lent fit one another: a new node with its object keeps this, asking for the object of a node, and what leaves names and owners.
use Rattle.std.proofs.Common.{◌≡◌, ◌≢◌, ℕ, zero, suc, ◌<◌, true, false, List, [], ◌∷◌, Option, Some, None, length, refl, sym, ap, ◌∙◌, subst, arith, length-append}
use Rattle.std.specs.Prelude.{slice_get}
use Rattle.std.proofs.Math.Dec.{eqb}
use Rattle.std.proofs.lemmas.Bool.{eqb-true}
use Rattle.es3_objects.specs.declared.value.Value.{Value}
use Rattle.es3_objects.specs.declared.value.Value.TheVariants as v
use Rattle.es3_objects.specs.declared.value.Class.TheVariants as class
use Rattle.es3_objects.specs.declared.value.Tag.{Tag}
use Rattle.es3_objects.specs.declared.value.Tag.TheVariants as tag
use Rattle.es3_heap.specs.Objects.{Object, Objects, object_at, tag_of, class_of}
use Rattle.es3_heap.specs.Making.{made, plain_object, tagged}
use Rattle.doc_nodes.specs.Rows.{owner_of}
use Rattle.doc_nodes.specs.Changes.{root_in}
use Rattle.node_deeds.specs.Deeds.{number_in}
use Rattle.doc_laws.specs.Reached.{Reached}
use Rattle.doc_laws.proofs.Lists.{get_push, get_push_other, get_past, get_set, get_set_other, apart}
use Rattle.dom_facets.specs.Facets as facets
use Rattle.dom_facets.specs.Facets.{facet_at, with_facet}
use Rattle.dom_facets.proofs.Padded.{put_there, put_elsewhere}
use Rattle.dom_handlers.specs.declared.kinds.Handler.{Handler}
use Rattle.tamed_dom.specs.Lent.{Lent, with_facets, facet}
use Rattle.dom_laws.specs.Store.{tag_at, class_at, runs_code, IsOfText, Keeps}
use Rattle.dom_laws.specs.Fits.{Stands, AreOfTexts, Fits}

-- a store with a new object for a node, with its name
abbrev pub with_node : Objects → Tag → Objects
with_node h t = tagged (made class.Node (Some 9) h) (length h.list) t

at_here : (h : Objects) (t : Tag) → object_at (with_node h t) (length h.list) ≡ Some (record { class = class.Node; proto = Some 9; callable = None; tag = t; props = [] })
at_here h t =
    let new : object_at (made class.Node (Some 9) h) (length h.list) ≡ Some (plain_object class.Node (Some 9)) = get_push h.list (plain_object class.Node (Some 9)) in
    let less : length h.list < length (made class.Node (Some 9) h).list = omega (arith, length-append h.list (plain_object class.Node (Some 9) ∷ [])) in
    rw new (get_set (made class.Node (Some 9) h).list (length h.list) (record { class = class.Node; proto = Some 9; callable = None; tag = t; props = [] }) less)

pub at_other : (h : Objects) (t : Tag) (o : ℕ) → o ≢ length h.list → object_at (with_node h t) o ≡ object_at h o
at_other h t o ne =
    let new : object_at (made class.Node (Some 9) h) (length h.list) ≡ Some (plain_object class.Node (Some 9)) = get_push h.list (plain_object class.Node (Some 9)) in
    rw new (get_set_other (made class.Node (Some 9) h).list o (length h.list) (record { class = class.Node; proto = Some 9; callable = None; tag = t; props = [] }) ne ∙ get_push_other h.list o (plain_object class.Node (Some 9)) ne)

pub name_here : (h : Objects) (t : Tag) → tag_at (with_node h t) (length h.list) ≡ t
name_here h t = ap tag_of (at_here h t)

-- an object of class Node is there
pub node_there : (h : Objects) (o : ℕ) → class_at h o ≡ class.Node → o < length h.list
node_there h o is = at h.list o is
  where
    at : (xs : List Object) (n : ℕ) → class_of (slice_get xs n) ≡ class.Node → n < length xs
    at [] n is = cc
    at (x ∷ xs) zero is = omega arith
    at (x ∷ xs) (suc n) is = omega (arith, at xs n is)

no_text_there : (h : Objects) (o : ℕ) → o ≡ length h.list → runs_code (object_at h o) ≡ true → ⊥
no_text_there h o last is =
    let none : object_at h o ≡ None = ap (slice_get h.list) last ∙ get_past h.list in
    let no : runs_code (object_at h o) ≡ false = ap runs_code none in
    cc (no, is)

text_stays : (h : Objects) (t : Tag) (x : Value) → IsOfText h x → IsOfText (with_node h t) x
text_stays h t (v.Obj o) is = ap runs_code (at_other h t o (λ last. no_text_there h o last is)) ∙ is
text_stays h t v.Undefined is = absurd is
text_stays h t v.Null is = absurd is
text_stays h t (v.Bool b) is = absurd is
text_stays h t (v.Num n) is = absurd is
text_stays h t (v.Text us) is = absurd is

pub texts_stay : (h g : Objects) (xs : List Handler) → ((x : Value) → IsOfText h x → IsOfText g x) → AreOfTexts h xs → AreOfTexts g xs
texts_stay h g [] on are = tt
texts_stay h g (x ∷ xs) on are = (on x.function are.0, texts_stay h g xs on are.1)

pub facet_here : (n o : ℕ) (fs : List (Option ℕ)) → facet_at (with_facet n o fs) n ≡ Some o
facet_here n o fs = put_there None n (Some o) fs

pub facet_other : (n m o : ℕ) (fs : List (Option ℕ)) → m ≢ n → facet_at (with_facet n o fs) m ≡ facet_at fs m
facet_other n m o fs ne = put_elsewhere None n m (Some o) fs ne

missing : (o : Option ℕ) (q : ℕ) → o ≡ None → o ≡ Some q → ⊥
missing o q a b = cc

pair : (a b c d : ℕ) → a ≡ b → c ≡ d → ◌≡◌ {A = Option (ℕ × ℕ)} (Some (a, c)) (Some (b, d))
pair a b c d x y = rw (x, y) refl

same_some : (a b : ℕ) → ◌≡◌ {A = Option ℕ} (Some a) (Some b) → a ≡ b
same_some a b h = cc

-- all of it but that each node has its object
pub record Partly (h : Objects) (z : Lent) : Type 0 where
  pub doc : Reached z.doc
  pub kept : (n o : ℕ) → facet_at z.facets n ≡ Some o → (r : ℕ) × (k : ℕ) × (owner_of z.doc n ≡ Some (r, k)) × Stands h o r k
  pub named : (o r k : ℕ) → tag_at h o ≡ tag.Facet r k → (n : ℕ) × (owner_of z.doc n ≡ Some (r, k)) × (facet_at z.facets n ≡ Some o)
  pub nodes : (o : ℕ) → class_at h o ≡ class.Node → (r : ℕ) × (k : ℕ) × (tag_at h o ≡ tag.Facet r k)
  pub handlers : AreOfTexts h z.handlers

pub all_there : (h : Objects) (z : Lent) → Partly h z → ((n r k : ℕ) → owner_of z.doc n ≡ Some (r, k) → (o : ℕ) × (facet_at z.facets n ≡ Some o)) → Fits h z
all_there h z p there = record { doc = p.doc; kept = p.kept; named = p.named; nodes = p.nodes; there = there; handlers = p.handlers }

-- a new object for a node of a root
pub new_keeps : (n r k : ℕ) (h : Objects) (z : Lent) → Partly h z → owner_of z.doc n ≡ Some (r, k) → facet_at z.facets n ≡ None
    → Partly (with_node h (tag.Facet r k)) (with_facets (with_facet n (length h.list) z.facets) z)
new_keeps n r k h z f own none =
    let o = length h.list in
    let g = with_node h (tag.Facet r k) in
    record {
      doc = f.doc;
      kept = λ m q is.
          let cases = elim (eqb m n) as (λ b. eqb m n ≡ b → (s : ℕ) × (j : ℕ) × (owner_of z.doc m ≡ Some (s, j)) × Stands g q s j) [
            | true ↦ λ yes.
                let at : m ≡ n = eqb-true m n yes in
                let it : facet_at (with_facet n o z.facets) m ≡ Some o = ap (facet_at (with_facet n o z.facets)) at ∙ facet_here n o z.facets in
                let same : q ≡ o = same_some q o (sym is ∙ it) in
                (r, k, ap (owner_of z.doc) at ∙ own, record { name = ap (tag_at g) same ∙ name_here h (tag.Facet r k); node = ap (class_at g) same ∙ ap class_of (at_here h (tag.Facet r k)) })
            | false ↦ λ other.
                let a = f.kept m q (sym (facet_other n m o z.facets (apart m n other)) ∙ is) in
                let less : q < o = node_there h q a.3.node in
                let stays : object_at g q ≡ object_at h q = at_other h (tag.Facet r k) q (λ e. omega (arith, less, e)) in
                (a.0, a.1, a.2, record { name = ap tag_of stays ∙ a.3.name; node = ap class_of stays ∙ a.3.node })
          ] in cases refl;
      named = λ q s j is.
          let cases = elim (eqb q o) as (λ b. eqb q o ≡ b → (m : ℕ) × (owner_of z.doc m ≡ Some (s, j)) × (facet_at (with_facet n o z.facets) m ≡ Some q)) [
            | true ↦ λ yes.
                let at : q ≡ o = eqb-true q o yes in
                let both : tag.Facet r k ≡ tag.Facet s j = sym (name_here h (tag.Facet r k)) ∙ (ap (tag_at g) (sym at) ∙ is) in
                let one : r ≡ s = cc (both) in
                let two : k ≡ j = cc (both) in
                (n, own ∙ pair r s k j one two, facet_here n o z.facets ∙ ap (λ x. Some x) (sym at))
            | false ↦ λ other.
                let a = f.named q s j (ap tag_of (sym (at_other h (tag.Facet r k) q (apart q o other))) ∙ is) in
                let ne : a.0 ≢ n = λ e. missing (facet_at z.facets a.0) q (ap (facet_at z.facets) e ∙ none) a.2 in
                (a.0, a.1, facet_other n a.0 o z.facets ne ∙ a.2)
          ] in cases refl;
      nodes = λ q is.
          let cases = elim (eqb q o) as (λ b. eqb q o ≡ b → (s : ℕ) × (j : ℕ) × (tag_at g q ≡ tag.Facet s j)) [
            | true ↦ λ yes. (r, k, ap (tag_at g) (eqb-true q o yes) ∙ name_here h (tag.Facet r k))
            | false ↦ λ other.
                let stays : object_at g q ≡ object_at h q = at_other h (tag.Facet r k) q (apart q o other) in
                let a = f.nodes q (ap class_of (sym stays) ∙ is) in
                (a.0, a.1, ap tag_of stays ∙ a.2)
          ] in cases refl;
      handlers = texts_stay h g z.handlers (text_stays h (tag.Facet r k)) f.handlers;
    }

-- the object of a node is there

pub facet_is : (n r k : ℕ) (h : Objects) (z : Lent) → Fits h z → owner_of z.doc n ≡ Some (r, k) → (o : ℕ) × (facet_at z.facets n ≡ Some o) × (facets.facet n z.doc h z.facets ≡ record { object = o; heap = h; facets = z.facets })
facet_is n r k h z f own = let a = f.there n r k own in (a.0, a.1, ap (λ x. facets.facet_or_new x n z.doc h z.facets) a.1)

pub asking_makes_none : (h : Objects) (z : Lent) (n r k : ℕ) → Fits h z → owner_of z.doc n ≡ Some (r, k) → ((facet n h z).heap ≡ h) × ((facet n h z).lent ≡ z)
asking_makes_none h z n r k f own = let a = facet_is n r k h z f own in (ap (λ g. g.heap) a.2, ap (λ g. with_facets g.facets z) a.2)

pub facet_keeps : (n r k : ℕ) (h : Objects) (z : Lent) → Fits h z → owner_of z.doc n ≡ Some (r, k) → Fits (facet n h z).heap (facet n h z).lent
facet_keeps n r k h z f own = subst (λ g. Fits g.heap (with_facets g.facets z)) (sym (facet_is n r k h z f own).2) f

-- what leaves the objects that stand for nodes, and functions of texts
text_kept : (h g : Objects) → Keeps h g → (x : Value) → IsOfText h x → IsOfText g x
text_kept h g keeps (v.Obj o) is = (keeps o).code is
text_kept h g keeps v.Undefined is = absurd is
text_kept h g keeps v.Null is = absurd is
text_kept h g keeps (v.Bool b) is = absurd is
text_kept h g keeps (v.Num n) is = absurd is
text_kept h g keeps (v.Text us) is = absurd is

pub others_keep : (h g : Objects) (z : Lent) → Fits h z → Keeps h g → Fits g z
others_keep h g z f keeps = record {
  doc = f.doc;
  kept = λ n o is. let a = f.kept n o is in (a.0, a.1, a.2, record { name = (keeps o).name a.0 a.1 a.3.name; node = (keeps o).node a.3.node });
  named = λ o r k is. f.named o r k ((keeps o).no_name r k is);
  nodes = λ o is. let a = f.nodes o ((keeps o).no_node is) in (a.0, a.1, (keeps o).name a.0 a.1 a.2);
  there = f.there;
  handlers = texts_stay h g z.handlers (text_kept h g keeps) f.handlers;
}

pub one_facet : (h : Objects) (z : Lent) (o p r k : ℕ) → Fits h z → tag_at h o ≡ tag.Facet r k → tag_at h p ≡ tag.Facet r k → o ≡ p
one_facet h z o p r k f so sp =
    let a = f.named o r k so in
    let b = f.named p r k sp in
    let same : a.0 ≡ b.0 = same_some a.0 b.0 (sym (f.doc.owned.to a.0 r k a.1) ∙ f.doc.owned.to b.0 r k b.1) in
    same_some o p (sym a.2 ∙ (ap (facet_at z.facets) same ∙ b.2))

pub facets_are_there : (h : Objects) (z : Lent) (n o : ℕ) → Fits h z → facet_at z.facets n ≡ Some o → o < length h.list
facets_are_there h z n o f is = node_there h o (f.kept n o is).3.node

pub facet_is_named : (h : Objects) (z : Lent) (n r k : ℕ) → Fits h z → owner_of z.doc n ≡ Some (r, k) → tag_at (facet n h z).heap (facet n h z).object ≡ tag.Facet r k
facet_is_named h z n r k f own =
    let x = facet_is n r k h z f own in
    let a = f.kept n x.0 x.1 in
    let both : ◌≡◌ {A = Option (ℕ × ℕ)} (Some (a.0, a.1)) (Some (r, k)) = sym a.2 ∙ own in
    let one : a.0 ≡ r = same_some a.0 r (ap root_in both) in
    let two : a.1 ≡ k = ap number_in both in
    ap (λ g. tag_at g.heap g.object) x.2 ∙ a.3.name ∙ ap (λ s. tag.Facet s a.1) one ∙ ap (λ j. tag.Facet r j) two
