-- No change names an element as a text is named, or puts a granted root under a node of a root.
use Rattle.std.proofs.Common.{◌≡◌, ◌≢◌, ℕ, ◌<◌, Bool, true, false, List, [], ◌∷◌, Option, Some, None, Ok, length, refl, sym, ap, ◌∙◌, subst, arith, inl, inr}
use Rattle.std.specs.Prelude.{slice_get}
use Rattle.std.proofs.Math.Dec.{eqb}
use Rattle.std.proofs.lemmas.Bool.{eqb-true}
use Rattle.caja_units.specs.Units.{same_units}
use Rattle.caja_units.proofs.Texts.{same_units-equal}
use Rattle.html_grammar.specs.Tables.{is_in}
use Rattle.html_kept.specs.Table.{listed}
use Rattle.html_tree.specs.declared.Attr.{Attr}
use Rattle.doc_nodes.specs.declared.node.DocError.TheVariants.{NoNode}
use Rattle.doc_nodes.specs.declared.node.Parent.{Parent}
use Rattle.doc_nodes.specs.declared.node.Parent.TheVariants.{Detached, Node as under_node}
use Rattle.doc_nodes.specs.declared.node.NewNode.{NewNode}
use Rattle.doc_nodes.specs.declared.node.NewNode.TheVariants.{Element, Text}
use Rattle.doc_nodes.specs.Rows.{Row, Doc, row_at, has, parent_in, node_in, children_in, owner_in, owner_of, nodes_of, parent_of, tag_in, tag_in_content, is_granted}
use Rattle.doc_nodes.specs.Changes.{set_attr, moved, taken, edited, marked, with_value, holding, create, filled, refilled, freed, with_node, over, root_in}
use Rattle.doc_laws.specs.Reached.{Reached}
use Rattle.doc_laws.proofs.Lists.{apart, not_same}
use Rattle.doc_laws.proofs.Edits.{Same, Stands as IsThere, same-edited, same-taken, same-moved, same-freed, edited-same, edited-other, edited-here, moved-other, new-here, new-other}
use Rattle.doc_laws.proofs.Forests.{Fewer, edited-fewer, taken-fewer, freed-fewer, with_text_in, swapped}
use Rattle.doc_laws.proofs.Ownership.{new-owner, old-owner}
use Rattle.doc_laws.proofs.Changed.{passed}
use Rattle.rows.specs.Document.{text_tag}
use Rattle.doc_views.specs.Seen.{Stands}
use Rattle.doc_views.specs.Clear.{stray_in, stray_in_content, IsClear}
use Rattle.doc_views.proofs.Views.{there_in}
use Rattle.doc_views.proofs.Appended.{moved_part, taken_part, freed_part}
use Rattle.std.proofs.lemmas.Option.{slice_get_within}

-- parents that are as they were, or none, and tags that are as they were
clear_fewer : (d e : Doc) → Same d e → Fewer d e → ((m : ℕ) → tag_in (row_at e m) ≡ tag_in (row_at d m)) → ((m : ℕ) → stray_in (row_at e m) ≡ stray_in (row_at d m)) → IsClear d → IsClear e
clear_fewer d e s fewer tags strays clear = record {
  named = λ n tag h. clear.named n tag (sym (tags n) ∙ h);
  texts = λ n. strays n ∙ clear.texts n;
  first = λ n p granted h. elim (fewer n) [
    | inl same ↦ owners p ∙ clear.first n p (ap is_granted (sym (owners n)) ∙ granted) (sym same ∙ h)
    | inr none ↦ absurd (apart_from (parent_of e n) p none h)
  ];
}
  where
    owners : (m : ℕ) → owner_of e m ≡ owner_of d m
    owners m = ap (λ os. owner_in (slice_get os m)) s.0

    apart_from : (o : Option ℕ) (p : ℕ) → o ≡ None → ◌≡◌ {A = Option ℕ} o (Some p) → ⊥
    apart_from o p a b = cc

-- an edit of a node that keeps a part of its row
edited-part : {X : Type 0} (part : Option Row → X) (d : Doc) (n : ℕ) (f : Row → Row) (x : Row) → ◌≡◌ {A = Option Row} (row_at d n) (Some x) → part (Some (f x)) ≡ part (Some x) → (m : ℕ) → part (row_at (edited d n f) m) ≡ part (row_at d m)
edited-part part d n f x here keeps m =
    let cases = elim (eqb m n) as (λ b. eqb m n ≡ b → part (row_at (edited d n f) m) ≡ part (row_at d m)) [
      | true ↦ λ same. subst (λ y. part (row_at (edited d n f) y) ≡ part (row_at d y)) (sym (eqb-true m n same)) (ap part (edited-here d n f x here) ∙ keeps ∙ sym (ap part here))
      | false ↦ λ other. ap part (edited-other d n m f (apart m n other))
    ] in cases refl

-- an attribute of an element
pub clear_marked : (d : Doc) (n : ℕ) (tag name v : List ℕ) (x : Row) → ◌≡◌ {A = Option Row} (row_at d n) (Some x) → ◌≡◌ {A = Option (List ℕ)} (tag_in (row_at d n)) (Some tag) → IsClear d → IsClear (edited d n (λ x. marked (with_value name v x.attrs) x))
clear_marked d n tag name v x here element clear =
    let f : Row → Row = λ x. marked (with_value name v x.attrs) x in
    clear_fewer d (edited d n f) (same-edited d n f) (edited-fewer d n f (λ x. refl)) (λ m. edited-same tag_in d n m f (λ x. refl))
    (edited-part stray_in d n f x here (none x.content (with_value name v x.attrs) x.attrs (sym (ap tag_in here) ∙ element))) clear
  where
    none : (c : NewNode) (xs ys : List Attr) → ◌≡◌ {A = Option (List ℕ)} (tag_in_content c) (Some tag) → stray_in_content c xs ≡ stray_in_content c ys
    none (Element t) xs ys h = refl
    none (Text us) xs ys h = cc

pub set_attr_keeps_clear : (d e : Doc) (n : ℕ) (tag name v : List ℕ) → IsClear d → ◌≡◌ {A = Option (List ℕ)} (tag_in (row_at d n)) (Some tag) → set_attr n name v d ≡ Ok e → IsClear e
set_attr_keeps_clear d e n tag name v clear element h = at (row_at d n) refl
  where
    at : (o : Option Row) → row_at d n ≡ o → IsClear e
    at None none = let no : tag_in (row_at d n) ≡ None = ap tag_in none in cc (no, element)
    at (Some x) here = subst IsClear (passed (has d n) (edited d n (λ x. marked (with_value name v x.attrs) x)) e NoNode h).1 (clear_marked d n tag name v x here element clear)

pub clear_taken : (d : Doc) (p c : ℕ) → IsClear d → IsClear (taken p c d)
clear_taken d p c clear = clear_fewer d (taken p c d) (same-taken p c d) (taken-fewer p c d) (λ m. taken_part tag_in p c m d (λ ns x. refl) (λ q x. refl)) (λ m. taken_part stray_in p c m d (λ ns x. refl) (λ q x. refl)) clear

-- a node that no root begins with may stand anywhere
pub clear_moved : (d : Doc) (p c : ℕ) → is_granted (owner_of d c) ≡ false → IsClear d → IsClear (moved p c d)
clear_moved d p c lent clear = record {
  named = λ n tag h. clear.named n tag (sym (moved_part tag_in p c n d (λ ns x. refl) (λ q x. refl)) ∙ h);
  texts = λ n. moved_part stray_in p c n d (λ ns x. refl) (λ q x. refl) ∙ clear.texts n;
  first = first;
}
  where
    owners : (m : ℕ) → owner_of (moved p c d) m ≡ owner_of d m
    owners m = ap (λ os. owner_in (slice_get os m)) (same-moved p c d).0

    both : (b : Bool) → b ≡ true → b ≡ false → ⊥
    both b x y = cc

    first : (n q : ℕ) → is_granted (owner_of (moved p c d) n) ≡ true → ◌≡◌ {A = Option ℕ} (parent_of (moved p c d) n) (Some q) → ◌≡◌ {A = Option (ℕ × ℕ)} (owner_of (moved p c d) q) None
    first n q granted h =
        let was : is_granted (owner_of d n) ≡ true = ap is_granted (sym (owners n)) ∙ granted in
        let cases = elim (eqb n c) as (λ b. eqb n c ≡ b → owner_of (moved p c d) q ≡ None) [
          | true ↦ λ same. absurd (both (is_granted (owner_of d c)) (subst (λ x. is_granted (owner_of d x) ≡ true) (eqb-true n c same) was) lent)
          | false ↦ λ other. owners q ∙ clear.first n q was (sym (ap node_in (moved-other p c n d (apart n c other))) ∙ h)
        ] in cases refl

-- another text of a text
pub clear_held : (d : Doc) (n : ℕ) (old us : List ℕ) (x : Row) → ◌≡◌ {A = Option Row} (row_at d n) (Some x) → x.content ≡ Text old → IsClear d → IsClear (edited d n (holding (Text us)))
clear_held d n old us x here text clear =
    let f : Row → Row = holding (Text us) in
    clear_fewer d (edited d n f) (same-edited d n f) (edited-fewer d n f (λ y. refl))
    (edited-part tag_in d n f x here (sym (ap tag_in_content text)))
    (edited-part stray_in d n f x here (sym (ap (λ c. stray_in_content c x.attrs) text))) clear

-- a new node of a root that has a node
abbrev pub IsPlain : NewNode → Type 0
IsPlain c = (tag : List ℕ) → ◌≡◌ {A = Option (List ℕ)} (tag_in_content c) (Some tag) → same_units tag text_tag ≡ false

pub clear_new : (p : Parent) (r : ℕ) (c : NewNode) (d : Doc) → Reached d → 0 < length (nodes_of d.roots r) → IsThere d (node_in p) → IsPlain c → IsClear d → IsClear (with_node p (Some r) c [] d)
clear_new p r c d a some stands plain clear = record { named = named; texts = texts; first = first }
  where
    e : Doc
    e = with_node p (Some r) c [] d

    at : ℕ
    at = length d.rows

    many : length d.owners ≡ length d.rows
    many = a.owned.many

    named : (n : ℕ) (tag : List ℕ) → ◌≡◌ {A = Option (List ℕ)} (tag_in (row_at e n)) (Some tag) → same_units tag text_tag ≡ false
    named n tag h =
        let cases = elim (eqb n at) as (λ b. eqb n at ≡ b → same_units tag text_tag ≡ false) [
          | true ↦ λ same. plain tag (sym (ap (λ m. tag_in (row_at e m)) (eqb-true n at same) ∙ ap tag_in (new-here p (Some r) c [] d)) ∙ h)
          | false ↦ λ other. clear.named n tag (sym (ap tag_in (new-other p (Some r) c [] d n (apart n at other))) ∙ h)
        ] in cases refl

    both : (b : Bool) → b ≡ true → b ≡ false → ⊥
    both b x y = cc

    no_attrs : (c : NewNode) → stray_in_content c [] ≡ []
    no_attrs (Element tag) = refl
    no_attrs (Text us) = refl

    texts : (n : ℕ) → stray_in (row_at e n) ≡ []
    texts n =
        let cases = elim (eqb n at) as (λ b. eqb n at ≡ b → stray_in (row_at e n) ≡ []) [
          | true ↦ λ same. ap (λ m. stray_in (row_at e m)) (eqb-true n at same) ∙ ap stray_in (new-here p (Some r) c [] d) ∙ no_attrs c
          | false ↦ λ other. ap stray_in (new-other p (Some r) c [] d n (apart n at other)) ∙ clear.texts n
        ] in cases refl

    not_granted : is_granted (owner_of e at) ≡ false
    not_granted = ap is_granted (new-owner p (Some r) c [] d many) ∙ not_same (length (nodes_of d.roots r)) 0 (λ h. omega (arith, some, h))

    first : (n q : ℕ) → is_granted (owner_of e n) ≡ true → ◌≡◌ {A = Option ℕ} (parent_of e n) (Some q) → ◌≡◌ {A = Option (ℕ × ℕ)} (owner_of e q) None
    first n q granted h =
        let cases = elim (eqb n at) as (λ b. eqb n at ≡ b → owner_of e q ≡ None) [
          | true ↦ λ same. absurd (both (is_granted (owner_of e at)) (subst (λ x. is_granted (owner_of e x) ≡ true) (eqb-true n at same) granted) not_granted)
          | false ↦ λ other.
              let ne : n ≢ at = apart n at other in
              let up : ◌≡◌ {A = Option ℕ} (parent_of d n) (Some q) = sym (ap (λ o. node_in (parent_in o)) (new-other p (Some r) c [] d n ne)) ∙ h in
              let less : q < length d.rows = a.forest.ways.within n q up in
              old-owner p (Some r) c [] d q many (λ x. omega (arith, less, x)) ∙ clear.first n q (ap is_granted (sym (old-owner p (Some r) c [] d n many ne)) ∙ granted) up
        ] in cases refl

pub some_nodes : (d : Doc) (n r k : ℕ) → Reached d → Stands d n r k → 0 < length (nodes_of d.roots r)
some_nodes d n r k a is = omega (arith, slice_get_within (nodes_of d.roots r) k n (a.owned.to n r k is))

pub plain_text : (us : List ℕ) → IsPlain (Text us)
plain_text us tag h = cc

-- a listed element isn't named as a text
pub plain_listed : (tag : List ℕ) → is_in listed tag ≡ true → IsPlain (Element tag)
unfolding is_in
plain_listed tag there other h = at (same_units other text_tag) refl
  where
    none : is_in listed text_tag ≡ false
    none = refl

    at : (b : Bool) → same_units other text_tag ≡ b → b ≡ false
    at false is = refl
    at true is =
        let one : tag ≡ other = cc in
        let same : tag ≡ text_tag = one ∙ same_units-equal other text_tag is in
        let yes : is_in listed text_tag ≡ true = ap (is_in listed) (sym same) ∙ there in
        cc (yes, none)

pub clear_created : (d : Doc) (n r k : ℕ) (c : NewNode) → Reached d → Stands d n r k → IsPlain c → IsClear d → IsClear (create r c d)
clear_created d n r k c a is plain clear = clear_new Detached r c d a (some_nodes d n r k a is) tt plain clear

-- another text of an element
pub clear_refilled : (d : Doc) (n r k : ℕ) (us : List ℕ) → Reached d → Stands d n r k → IsClear d → IsClear (refilled n us d)
clear_refilled d n r k us a is clear =
    let root = root_in (owner_of d n) in
    let e = with_text_in n root us d in
    let g = swapped n root us d in
    let ns = children_in (row_at e n) in
    let f : Row → Row = over (length d.rows ∷ []) in
    let new : IsClear e = subst (λ o. IsClear (with_text_in n o us d)) (sym (ap root_in is)) (clear_new (under_node n) r (Text us) d a (some_nodes d n r k a is) (there_in d n r k a.owned is) (plain_text us) clear) in
    clear_fewer g (freed ns g) (same-freed ns g) (freed-fewer ns g) (λ m. freed_part tag_in ns m g (λ q x. refl)) (λ m. freed_part stray_in ns m g (λ q x. refl))
    (clear_fewer e g (same-edited e n f) (edited-fewer e n f (λ x. refl)) (λ m. edited-same tag_in e n m f (λ x. refl)) (λ m. edited-same stray_in e n m f (λ x. refl)) new)

pub clear_filled : (d : Doc) (n r k : ℕ) (us : List ℕ) (x : Row) (c : NewNode) → Reached d → Stands d n r k → ◌≡◌ {A = Option Row} (row_at d n) (Some x) → x.content ≡ c → IsClear d → IsClear (filled n us c d)
clear_filled d n r k us x (Element tag) a is here element clear = clear_refilled d n r k us a is clear
clear_filled d n r k us x (Text old) a is here text clear = clear_held d n old us x here text clear
