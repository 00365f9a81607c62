-- Each deed at a node of a root is of the root.
use Rattle.std.proofs.Common.{◌≡◌, ℕ, ◌<◌, Bool, true, false, ◌||◌, ◌&&◌, List, [], ◌∷◌, Option, Some, None, Result, Ok, Err, length, cond, refl, sym, ap, ◌∙◌, subst, arith}
use Rattle.std.specs.Prelude.{not, slice_get}
use Rattle.std.proofs.lemmas.Bool.Decides.{nat_tests}
use Rattle.std.proofs.lemmas.Option.{slice_get_within}
use Rattle.html_grammar.specs.Tables.{is_in}
use Rattle.html_kept.specs.Table.{Answers, listed}
use Rattle.doc_nodes.specs.declared.node.DocError.{DocError}
use Rattle.doc_nodes.specs.declared.node.DocError.TheVariants.{NoNode}
use Rattle.doc_nodes.specs.declared.node.Parent.TheVariants.{Detached}
use Rattle.doc_nodes.specs.declared.node.NewNode.{NewNode}
use Rattle.doc_nodes.specs.declared.node.NewNode.TheVariants.{Element, Text}
use Rattle.doc_nodes.specs.Rows.{Doc, has, row_at, parent_in, children_in, owner_of, owner_in, tag_in, attr_in, is_granted, same_root, is_at_or_above}
use Rattle.doc_nodes.specs.Changes.{append, append_refused, unless, moved, remove, taken, is_child, create, set_attr, set_text, root_in}
use Rattle.doc_laws.specs.Owned.{Owned, IsRoot, Grows}
use Rattle.doc_laws.specs.Reached.{Reached}
use Rattle.doc_laws.specs.Within.{IsWithin}
use Rattle.doc_laws.proofs.Joined.{grows-same_doc}
use Rattle.doc_laws.proofs.Ownership.{new-owner, next-root, root-is}
use Rattle.doc_laws.proofs.Changed.{append_keeps, remove_keeps, set_attr_keeps, set_text_keeps, create_keeps, child-at}
use Rattle.doc_laws.proofs.Within.{same_of, under-of, append-within, remove-within, set_attr-within, set_text-within, create-within}
use Rattle.node_deeds.specs.declared.told.Refusal.{Refusal}
use Rattle.node_deeds.specs.declared.told.Refusal.TheVariants.{BadArgument, OtherRoot, NotAllowed, Cycle}
use Rattle.node_deeds.specs.declared.told.Change.{Change}
use Rattle.node_deeds.specs.declared.told.Change.TheVariants as line
use Rattle.node_deeds.specs.declared.deeds.Asked.{Asked}
use Rattle.node_deeds.specs.declared.deeds.Asked.TheVariants as asked
use Rattle.node_deeds.specs.Told.{Told, told_undefined, told_argument, told_text, told_node, told_nodes, told_error}
use Rattle.node_deeds.specs.Walk.{at_and_below}
use Rattle.node_deeds.specs.Deeds as deeds
use Rattle.node_deeds.specs.Deeds.{deed, tells, refuses, changes, changed, attribute_set, value_for, is_void, created, takes_children, child_refused, number_in}
use Rattle.deed_laws.specs.Deeds.{children_given, AreThere, IsToldOf, line_root, IsOfRoot}
use Rattle.deed_laws.proofs.Nodes.{children-of, walk-of, first-of, parent-of, no_nodes}

-- what is left of a document by a change of a root
record Kept (r : ℕ) (d e : Doc) : Type 0 where
  pub reached : Reached e
  pub grows : Grows d e
  pub within : IsWithin r d e

pub within_same : (r : ℕ) (d : Doc) → IsWithin r d d
within_same r d = record { rows = λ m less ne. refl; top = refl; numbers = λ q ne. refl; new = λ m old less. absurd (omega (arith, old, less)) }

same : (r : ℕ) (d : Doc) → Reached d → Kept r d d
same r d a = record { reached = a; grows = grows-same_doc d; within = within_same r d }

-- nothing changes
quiet : (r : ℕ) (q : Asked) (d : Doc) (t : Told) → Reached d → IsToldOf r q d t → IsOfRoot r q d (tells t d)
quiet r q d t a told = record { reached = a; grows = grows-same_doc d; within = within_same r d; told = told; line = λ c h. cc }

refused : (r : ℕ) (q : Asked) (d : Doc) (x : Refusal) → Reached d → IsOfRoot r q d (refuses x d)
refused r q d x a = quiet r q d (told_error x) a tt

some_root : (o : ℕ × ℕ) (r : ℕ) → root_in (Some o) ≡ Some r → o.0 ≡ r
some_root o r is = cc

-- a change, with its line
told_change : (r : ℕ) (q : Asked) (d e : Doc) (f : ℕ → ℕ → Change) (t : Told) (o : Option (ℕ × ℕ)) → ((s k : ℕ) → line_root (f s k) ≡ s) → root_in o ≡ Some r → Kept r d e → IsToldOf r q e t → IsOfRoot r q d (changes f t o e)
told_change r q d e f t None of is kept told = record { reached = kept.reached; grows = kept.grows; within = kept.within; told = told; line = λ c h. cc }
told_change r q d e f t (Some o) of is kept told = record {
  reached = kept.reached;
  grows = kept.grows;
  within = kept.within;
  told = told;
  line = λ c h. let at : f o.0 o.1 ≡ c = cc in ap line_root (sym at) ∙ of o.0 o.1 ∙ some_root o r is;
}

done : (r : ℕ) (d : Doc) (x : Result Doc DocError) → Reached d → ((e : Doc) → x ≡ Ok e → Kept r d e) → Kept r d (changed x d)
done r d (Ok e) a keeps = keeps e refl
done r d (Err x) a keeps = same r d a

-- setAttribute
set_attribute : (q : Asked) (name : List ℕ) (o : Option (List ℕ)) (n r : ℕ) (d : Doc) → Reached d → root_in (owner_of d n) ≡ Some r → IsOfRoot r q d (attribute_set name o n d)
set_attribute q name None n r d a is = refused r q d NotAllowed a
set_attribute q name (Some v) n r d a is =
    told_change r q d (changed (set_attr n name v d) d) (λ s k. line.Set s k name v) told_undefined (owner_of d n) (λ s k. refl) is
    (done r d (set_attr n name v d) a (λ e h. let k = set_attr_keeps n name v d e a h in record { reached = k.0; grows = k.1; within = set_attr-within n r name v d e a is h }))
    tt

-- setText
set_text_of : (q : Asked) (us : List ℕ) (n r : ℕ) (d : Doc) (b : Bool) → Reached d → root_in (owner_of d n) ≡ Some r
    → IsOfRoot r q d (cond b (refuses NotAllowed d) (changes (λ s k. line.Text s k us) told_undefined (owner_of d n) (changed (set_text n us d) d)))
set_text_of q us n r d true a is = refused r q d NotAllowed a
set_text_of q us n r d false a is =
    told_change r q d (changed (set_text n us d) d) (λ s k. line.Text s k us) told_undefined (owner_of d n) (λ s k. refl) is
    (done r d (set_text n us d) a (λ e h. let k = set_text_keeps n us d e a h in record { reached = k.0; grows = k.1; within = set_text-within n r us d e a is h }))
    tt

-- createElement, createTextNode
created_of : (q : Asked) (c : NewNode) (n r : ℕ) (d : Doc) (o : Option ℕ) → Reached d → root_in (owner_of d n) ≡ o → o ≡ Some r → IsOfRoot r q d (created o c d)
created_of q c n r d None a h is = cc
created_of q c n r d (Some s) a h is =
    let one : s ≡ r = cc in
    let there : IsRoot d (Some s) = subst (IsRoot d) h (root-is d n a.owned) in
    let k = create_keeps s c d a there in
    record {
      reached = k.0;
      grows = k.1;
      within = subst (λ x. IsWithin x d (create s c d)) one (create-within s c d a there);
      told = ap root_in (new-owner Detached (Some s) c [] d a.owned.many) ∙ next-root d.roots (Some s) ∙ ap (λ x. Some x) one;
      line = λ x l. cc;
    }

element_of : (q : Asked) (tag : List ℕ) (n r : ℕ) (d : Doc) (b : Bool) → Reached d → root_in (owner_of d n) ≡ Some r → IsOfRoot r q d (cond b (created (root_in (owner_of d n)) (Element tag) d) (refuses NotAllowed d))
element_of q tag n r d true a is = created_of q (Element tag) n r d (root_in (owner_of d n)) a refl is
element_of q tag n r d false a is = refused r q d NotAllowed a

-- what has an owner is a node of the document
pub owner_there : (d : Doc) (n r : ℕ) → Owned d → root_in (owner_of d n) ≡ Some r → n < length d.rows
owner_there d n r o is = at (slice_get d.owners n) refl is
  where
    at : (x : Option (Option (ℕ × ℕ))) → slice_get d.owners n ≡ x → root_in (owner_in x) ≡ Some r → n < length d.rows
    at None h s = cc
    at (Some x) h s = omega (arith, slice_get_within d.owners n x h, o.many)

-- appendChild
free : (s g t c : Bool) → cond (not s) (Some OtherRoot) (cond (g || not t) (Some NotAllowed) (cond c (Some Cycle) None)) ≡ None → (s ≡ true) × (g ≡ false) × (c ≡ false)
free true false true false h = (refl, refl, refl)
free true false true true h = cc
free true false false c h = cc
free true true t c h = cc
free false g t c h = cc

tests : (a b s c : Bool) → a ≡ true → b ≡ true → s ≡ true → c ≡ false → cond (not (a && b)) (Some NoNode) (cond (not s) (Some Rattle.doc_nodes.specs.declared.node.DocError.TheVariants.OtherRoot) (cond c (Some Rattle.doc_nodes.specs.declared.node.DocError.TheVariants.Cycle) None)) ≡ None
tests a b s c x y z w = rw (x, y, z, w) refl

there_is : (d : Doc) (n : ℕ) → n < length d.rows → has d n ≡ true
there_is d n less = grind (arith, nat_tests)

append_of : (c n r : ℕ) (d : Doc) (o : Option Refusal) → Reached d → root_in (owner_of d n) ≡ Some r → c < length d.rows → child_refused d n c ≡ o
    → IsOfRoot r (asked.AppendChild c) d (deeds.unless o d (changes (λ s k. line.Append s k (number_in (owner_of d c))) told_argument (owner_of d n) (moved n c d)))
append_of c n r d (Some x) a is less h = refused r (asked.AppendChild c) d x a
append_of c n r d None a is less h =
    let f = free (same_root (owner_of d n) (owner_of d c)) (is_granted (owner_of d c)) (takes_children (tag_in (row_at d n))) (is_at_or_above d c n) h in
    let child : root_in (owner_of d c) ≡ Some r = same_of (owner_of d n) (owner_of d c) r f.0 is in
    let none : append_refused d n c ≡ None = tests (has d n) (has d c) (same_root (owner_of d n) (owner_of d c)) (is_at_or_above d c n) (there_is d n (owner_there d n r a.owned is)) (there_is d c less) f.0 f.2 in
    let ok : append n c d ≡ Ok (moved n c d) = ap (λ x. unless x (moved n c d)) none in
    let k = append_keeps n c d (moved n c d) a ok in
    told_change r (asked.AppendChild c) d (moved n c d) (λ s j. line.Append s j (number_in (owner_of d c))) told_argument (owner_of d n) (λ s j. refl) is
    (record { reached = k.0; grows = k.1; within = append-within n c r d (moved n c d) a is f.1 ok })
    (c, refl, ap root_in (k.1.owners c less) ∙ child)

-- removeChild
remove_of : (c n r : ℕ) (d : Doc) (b : Bool) → Reached d → root_in (owner_of d n) ≡ Some r → c < length d.rows → is_child d n c ≡ b
    → IsOfRoot r (asked.RemoveChild c) d (cond b (changes (λ s k. line.Remove s k (number_in (owner_of d c))) told_argument (owner_of d n) (taken n c d)) (refuses BadArgument d))
remove_of c n r d false a is less h = refused r (asked.RemoveChild c) d BadArgument a
remove_of c n r d true a is less h =
    let child : root_in (owner_of d c) ≡ Some r = under-of d c n r a (child-at (parent_in (row_at d c)) n h) is in
    let one = there_is d n (owner_there d n r a.owned is) in
    let other = there_is d c less in
    let all : (has d n && has d c && is_child d n c) ≡ true = rw (one, other, h) refl in
    let ok : remove n c d ≡ Ok (taken n c d) = ap (λ x. cond x (Ok (taken n c d)) (Err NoNode)) all in
    let k = remove_keeps n c d (taken n c d) a ok in
    told_change r (asked.RemoveChild c) d (taken n c d) (λ s j. line.Remove s j (number_in (owner_of d c))) told_argument (owner_of d n) (λ s j. refl) is
    (record { reached = k.0; grows = k.1; within = remove-within n c r d (taken n c d) a is ok })
    (c, refl, ap root_in (k.1.owners c less) ∙ child)

pub deed_is_of_root : (a : Answers) (q : Asked) (n r : ℕ) (d : Doc) → Reached d → root_in (owner_of d n) ≡ Some r → AreThere d (children_given q) → IsOfRoot r q d (deed a q n d)
deed_is_of_root a asked.TagName n r d ok is there = quiet r asked.TagName d (told_text (deeds.tag_or_text (tag_in (row_at d n)))) ok tt
deed_is_of_root a asked.ParentNode n r d ok is there = quiet r asked.ParentNode d (deeds.told_or_null told_node (deeds.lent_parent d n)) ok (parent-of r d asked.ParentNode n ok is)
deed_is_of_root a asked.ChildNodes n r d ok is there = quiet r asked.ChildNodes d (told_nodes (children_in (row_at d n))) ok (children-of r d n ok is)
deed_is_of_root a (asked.ElementById id) n r d ok is there = quiet r (asked.ElementById id) d (deeds.told_or_null told_node (deeds.first_with id d (at_and_below d n))) ok (first-of r d (asked.ElementById id) id (at_and_below d n) (walk-of (length d.rows) r d (n ∷ []) ok (is, tt)))
deed_is_of_root a (asked.Attribute name) n r d ok is there = quiet r (asked.Attribute name) d (deeds.told_or_null told_text (attr_in (row_at d n) name)) ok (no_nodes r d (asked.Attribute name) (attr_in (row_at d n) name))
deed_is_of_root a (asked.SetAttribute name v) n r d ok is there = set_attribute (asked.SetAttribute name v) name (value_for a name v (tag_in (row_at d n))) n r d ok is
deed_is_of_root a asked.Text n r d ok is there = quiet r asked.Text d (told_text (deeds.texts d (at_and_below d n))) ok tt
deed_is_of_root a (asked.SetText us) n r d ok is there = set_text_of (asked.SetText us) us n r d (is_void (tag_in (row_at d n))) ok is
deed_is_of_root a (asked.CreateElement tag) n r d ok is there = element_of (asked.CreateElement tag) tag n r d (is_in listed tag) ok is
deed_is_of_root a (asked.CreateTextNode us) n r d ok is there = created_of (asked.CreateTextNode us) (Text us) n r d (root_in (owner_of d n)) ok refl is
deed_is_of_root a (asked.AppendChild c) n r d ok is there = append_of c n r d (child_refused d n c) ok is there.0 refl
deed_is_of_root a (asked.RemoveChild c) n r d ok is there = remove_of c n r d (is_child d n c) ok is there.0 refl
