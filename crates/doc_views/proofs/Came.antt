-- Each deed at a node of a root is what its row comes to.
use Rattle.std.proofs.Common.{◌≡◌, ℕ, Bool, true, false, ◌||◌, List, [], ◌∷◌, ◌++◌, Option, Some, None, Ok, Err, length, cond, refl, sym, ap, ◌∙◌, subst}
use Rattle.std.specs.Prelude.{not, nat_eq, codes}
use Rattle.std.specs.Option.{option_map}
use Rattle.std.proofs.lemmas.Bool.{eqb-true, eq-eqb}
use Rattle.caja_units.specs.Units.{same_units}
use Rattle.caja_units.proofs.Texts.{same_units-from_equal}
use Rattle.html_grammar.specs.Tables as tables
use Rattle.html_grammar.specs.Tables.{void}
use Rattle.html_kept.specs.Table.{Answers, listed, attr_value}
use Rattle.doc_nodes.specs.declared.node.DocError.TheVariants.{NoNode}
use Rattle.doc_nodes.specs.declared.node.NewNode.{NewNode}
use Rattle.doc_nodes.specs.declared.node.NewNode.TheVariants.{Element, Text}
use Rattle.doc_nodes.specs.Rows.{Doc, row_at, has, children_in, owner_of, parent_in, tag_in, attr_in, is_granted, same_root, is_at_or_above}
use Rattle.doc_nodes.specs.Changes.{create, moved, taken, is_child, set_attr, set_text, with_text, filled, root_in, edited, marked, with_value}
use Rattle.doc_laws.specs.Reached.{Reached}
use Rattle.doc_laws.proofs.Lists.{there, flipped}
use Rattle.doc_laws.proofs.Within.{under-of}
use Rattle.doc_laws.proofs.Changed.{child-at}
use Rattle.node_deeds.specs.declared.told.Refusal.{Refusal}
use Rattle.node_deeds.specs.declared.told.Refusal.TheVariants.{BadArgument, OtherRoot, NotAllowed, Cycle}
use Rattle.node_deeds.specs.declared.told.Change as deeds
use Rattle.node_deeds.specs.declared.told.Change.TheVariants as line
use Rattle.node_deeds.specs.declared.deeds.Asked.{Asked}
use Rattle.node_deeds.specs.declared.deeds.Asked.TheVariants as asked
use Rattle.node_deeds.specs.Told.{told_undefined, told_argument, told_text, told_node, message_of, Deed}
use Rattle.node_deeds.specs.Walk.{at_and_below}
use Rattle.node_deeds.specs.Deeds as node
use Rattle.node_deeds.specs.Deeds.{deed, tells, refuses, told_or_null, tag_or_text, lent_parent, first_with, texts, changes, changed, attribute_set, value_for, is_void, created, takes_children, child_refused, number_in}
use Rattle.deed_laws.specs.Deeds.{children_given, AreThere, IsToldOf}
use Rattle.deed_laws.proofs.Nodes.{walk-of, first-of, parent-of}
use Rattle.deed_laws.proofs.Deeds.{deed_is_of_root}
use Rattle.rows.specs.Document as doc
use Rattle.rows.specs.Document.{Node, Change, sets_attribute, sets_text, appends, removes, node_at, is_text, text_tag, below, at_and_above, text_of, attribute, text_node, element}
use Rattle.rows.specs.Nodes.{Rules, is_in}
use Rattle.doc_views.specs.Seen.{local, nodes_seen, Stands}
use Rattle.doc_views.specs.Clear.{IsClear}
use Rattle.doc_views.specs.Came.{IsRuled, Came, came_text, came_node, came_refused, came_changed, came_added, came_or_null, came_when, came_cleaned, in_root, came_appended, came_removed, came_at, answer_of, line_of, IsCame, IsSeen}
use Rattle.doc_views.proofs.Views.{there_in, number_is, at_number, stands_in, children_are_seen, attribute_is_seen}
use Rattle.doc_views.proofs.Grown.{others_seen}
use Rattle.doc_views.proofs.Removed.{within_test, taken_changed}
use Rattle.doc_views.proofs.Marked.{set_attr_is_seen}
use Rattle.doc_views.proofs.Created.{created_stands, create_element_is_seen, create_text_is_seen}
use Rattle.doc_views.proofs.Appended.{moved_changed}
use Rattle.doc_views.proofs.Texted.{set_text_is_seen}
use Rattle.doc_views.proofs.Below.{text_is_seen, first_is_seen}
use Rattle.doc_views.proofs.Above.{parent_of_node, above_is_seen, child_is_seen}
use Rattle.doc_views.proofs.Clear.{clear_marked, clear_taken, clear_moved, clear_created, clear_filled, plain_text, plain_listed}

-- what a deed comes to, and what holds after it
record Comes (r k : ℕ) (d : Doc) (e : Deed) (c : Came) : Type 0 where
  pub comes : IsCame r k d e c
  pub clear : IsClear e.doc

quiet_node : (r k : ℕ) (q : Asked) (d : Doc) (o : Option ℕ) → IsClear d → IsToldOf r q d (told_or_null told_node o) → Comes r k d (tells (told_or_null told_node o) d) (came_or_null came_node (option_map (local d) o))
quiet_node r k q d None clear of = record { comes = (refl, (refl, refl)); clear = clear }
quiet_node r k q d (Some m) clear of = record { comes = (m, refl, stands_in d m r of, (refl, refl)); clear = clear }

quiet_text : (r k : ℕ) (d : Doc) (o : Option (List ℕ)) → IsClear d → Comes r k d (tells (told_or_null told_text o) d) (came_or_null came_text o)
quiet_text r k d None clear = record { comes = (refl, (refl, refl)); clear = clear }
quiet_text r k d (Some us) clear = record { comes = (refl, (refl, refl)); clear = clear }

refused : (r k : ℕ) (d : Doc) (x : Refusal) (us : List ℕ) → message_of x ≡ us → IsClear d → Comes r k d (refuses x d) (came_refused us)
refused r k d x us is clear = record { comes = (x, refl, is, (refl, refl)); clear = clear }

-- a change, with its line
done : (d e : Doc) (n r k : ℕ) (c : Change) (f : ℕ → ℕ → deeds.Change) → Stands d n r k → f r k ≡ line_of r k c → nodes_seen e r ≡ doc.changed c k (nodes_seen d r) → IsClear e
    → Comes r k d (changes f (answer_of c) (owner_of d n) e) (came_changed c)
done d e n r k c f is at seen clear = subst (λ o. Comes r k d (changes f (answer_of c) o e) (came_changed c)) (sym is) (record { comes = (refl, ap (λ x. Some x) at, seen); clear = clear })

-- the tag that is seen
tag_seen : (d : Doc) (n r k : ℕ) → Reached d → Stands d n r k → (node_at (nodes_seen d r) k).tag ≡ tag_or_text (tag_in (row_at d n))
tag_seen d n r k a is = ap (λ (o : Node). o.tag) (at_number d n r k a.owned is)

text_test : (d : Doc) (n r k : ℕ) → Reached d → Stands d n r k → (o : Option (List ℕ)) → tag_in (row_at d n) ≡ o → is_text (node_at (nodes_seen d r) k) ≡ same_units (tag_or_text o) text_tag
text_test d n r k a is o at = ap (λ us. same_units us text_tag) (tag_seen d n r k a is) ∙ ap (λ x. same_units (tag_or_text x) text_tag) at

-- setAttribute
attribute_came : (d : Doc) (n r k : ℕ) (tag name : List ℕ) (o : Option (List ℕ)) → Reached d → IsClear d → Stands d n r k → tag_in (row_at d n) ≡ Some tag → Comes r k d (attribute_set name o n d) (came_cleaned name o)
attribute_came d n r k tag name None a clear is element = refused r k d NotAllowed (codes "not allowed") refl clear
attribute_came d n r k tag name (Some v) a clear is element =
    let e = edited d n (λ x. marked (with_value name v x.attrs) x) in
    let yes : has d n ≡ true = within_test n (length d.rows) (there_in d n r k a.owned is) in
    let x = there d.rows n (there_in d n r k a.owned is) in
    let ok : set_attr n name v d ≡ Ok e = ap (λ b. cond b (Ok e) (Err NoNode)) yes in
    subst (λ x. Comes r k d (changes (λ s i. line.Set s i name v) told_undefined (owner_of d n) (changed x d)) (came_changed (sets_attribute name v))) (sym ok)
    (done d e n r k (sets_attribute name v) (λ s i. line.Set s i name v) is refl (set_attr_is_seen d e n r k tag name v a is element ok) (clear_marked d n tag name v x.0 x.1 element clear))

set_attribute_came : (a : Answers) (rules : Rules) (d : Doc) (n r k : ℕ) (name v : List ℕ) → IsRuled a rules → Reached d → IsClear d → Stands d n r k → Comes r k d (node.set_attribute a name v n d) (came_at rules r k d (asked.SetAttribute name v))
set_attribute_came a rules d n r k name v ruled ok clear is = at (tag_in (row_at d n)) refl
  where
    o : Node
    o = node_at (nodes_seen d r) k

    of : (tag : List ℕ) (b : Bool) → tag_in (row_at d n) ≡ Some tag → Comes r k d (attribute_set name (cond b None (attr_value a tag name v)) n d) (came_when b (codes "not allowed") (came_cleaned name (attr_value a tag name v)))
    of tag true element = refused r k d NotAllowed (codes "not allowed") refl clear
    of tag false element = attribute_came d n r k tag name (attr_value a tag name v) ok clear is element

    at : (x : Option (List ℕ)) → tag_in (row_at d n) ≡ x → Comes r k d (attribute_set name (value_for a name v x) n d) (came_when (is_text o || same_units name (codes "id")) (codes "not allowed") (came_cleaned name (rules.cleaned o.tag name v)))
    at None text =
        let yes : is_text o ≡ true = text_test d n r k ok is None text ∙ same_units-from_equal text_tag text_tag refl in
        subst (λ b. Comes r k d (refuses NotAllowed d) (came_when (b || same_units name (codes "id")) (codes "not allowed") (came_cleaned name (rules.cleaned o.tag name v)))) (sym yes) (refused r k d NotAllowed (codes "not allowed") refl clear)
    at (Some tag) element =
        let no : is_text o ≡ false = text_test d n r k ok is (Some tag) element ∙ clear.named n tag element in
        let cleaned : rules.cleaned o.tag name v ≡ attr_value a tag name v = ap (λ us. rules.cleaned us name v) (tag_seen d n r k ok is ∙ ap tag_or_text element) ∙ ruled.cleaned tag name v in
        subst (λ b. Comes r k d (attribute_set name (value_for a name v (Some tag)) n d) (came_when (b || same_units name (codes "id")) (codes "not allowed") (came_cleaned name (rules.cleaned o.tag name v)))) (sym no)
        (subst (λ x. Comes r k d (attribute_set name (value_for a name v (Some tag)) n d) (came_when (same_units name (codes "id")) (codes "not allowed") (came_cleaned name x))) (sym cleaned) (of tag (same_units name (codes "id")) element))

-- what has no content
void_text : tables.is_in void (codes "#text") ≡ false
unfolding tables.is_in
void_text = refl

void_seen : (o : Option (List ℕ)) → tables.is_in void (tag_or_text o) ≡ is_void o
void_seen None = void_text
void_seen (Some tag) = refl

no_content_seen : (a : Answers) (rules : Rules) (d : Doc) (n r k : ℕ) → IsRuled a rules → Reached d → Stands d n r k → rules.no_content (node_at (nodes_seen d r) k).tag ≡ is_void (tag_in (row_at d n))
no_content_seen a rules d n r k ruled ok is = ruled.no_content (node_at (nodes_seen d r) k).tag ∙ ap (tables.is_in void) (tag_seen d n r k ok is) ∙ void_seen (tag_in (row_at d n))

-- setText
set_text_came : (a : Answers) (rules : Rules) (d : Doc) (n r k : ℕ) (us : List ℕ) → IsRuled a rules → Reached d → IsClear d → Stands d n r k → Comes r k d (node.set_text_of us n d) (came_at rules r k d (asked.SetText us))
set_text_came a rules d n r k us ruled ok clear is =
    subst (λ b. Comes r k d (node.set_text_of us n d) (came_when b (codes "not allowed") (came_changed (sets_text us)))) (sym (no_content_seen a rules d n r k ruled ok is)) (at (is_void (tag_in (row_at d n))))
  where
    at : (b : Bool) → Comes r k d (cond b (refuses NotAllowed d) (changes (λ s i. line.Text s i us) told_undefined (owner_of d n) (changed (set_text n us d) d))) (came_when b (codes "not allowed") (came_changed (sets_text us)))
    at true = refused r k d NotAllowed (codes "not allowed") refl clear
    at false =
        let x = there d.rows n (there_in d n r k ok.owned is) in
        let e = filled n us x.0.content d in
        let now : set_text n us d ≡ Ok e = ap (λ o. with_text n us o d) x.1 in
        subst (λ y. Comes r k d (changes (λ s i. line.Text s i us) told_undefined (owner_of d n) (changed y d)) (came_changed (sets_text us))) (sym now)
        (done d e n r k (sets_text us) (λ s i. line.Text s i us) is refl (set_text_is_seen d e n r k us ok clear is now) (clear_filled d n r k us x.0 x.0.content ok is x.1 refl clear))

-- createElement, createTextNode
added : (d : Doc) (n r k : ℕ) (c : NewNode) (o : Node) → Reached d → Stands d n r k → nodes_seen (create r c d) r ≡ nodes_seen d r ++ o ∷ [] → IsClear (create r c d) → Comes r k d (created (root_in (owner_of d n)) c d) (came_added o)
added d n r k c o ok is seen clear =
    subst (λ x. Comes r k d (created x c d) (came_added o)) (sym (ap root_in is)) (record { comes = (refl, refl, created_stands r c d ok, seen); clear = clear })

create_element_came : (a : Answers) (rules : Rules) (d : Doc) (n r k : ℕ) (tag : List ℕ) → IsRuled a rules → Reached d → IsClear d → Stands d n r k → Comes r k d (node.create_element tag n d) (came_at rules r k d (asked.CreateElement tag))
create_element_came a rules d n r k tag ruled ok clear is =
    subst (λ b. Comes r k d (node.create_element tag n d) (came_when (not b) (codes "not allowed") (came_added (element tag)))) (sym (ruled.listed_tags tag)) (at (tables.is_in listed tag) refl)
  where
    at : (b : Bool) → tables.is_in listed tag ≡ b → Comes r k d (cond b (created (root_in (owner_of d n)) (Element tag) d) (refuses NotAllowed d)) (came_when (not b) (codes "not allowed") (came_added (element tag)))
    at true there = added d n r k (Element tag) (element tag) ok is (create_element_is_seen d n r k tag ok is) (clear_created d n r k (Element tag) ok is (plain_listed tag there) clear)
    at false none = refused r k d NotAllowed (codes "not allowed") refl clear

-- a node of the root, or of none or another
in_root-stands : (d : Doc) (c r j : ℕ) → in_root r (owner_of d c) ≡ Some j → Stands d c r j
in_root-stands d c r j h = at (owner_of d c) h
  where
    pair : (x y : ℕ) → x ≡ r → y ≡ j → ◌≡◌ {A = Option (ℕ × ℕ)} (Some (x, y)) (Some (r, j))
    pair x y a b = rw (a, b) refl

    at : (o : Option (ℕ × ℕ)) → in_root r o ≡ Some j → o ≡ Some (r, j)
    at None h = cc
    at (Some o) h =
        let cases = elim (nat_eq o.0 r) as (λ b. nat_eq o.0 r ≡ b → ◌≡◌ {A = Option ℕ} (cond b (Some o.1) None) (Some j) → ◌≡◌ {A = Option (ℕ × ℕ)} (Some o) (Some (r, j))) [
          | true ↦ λ same some. pair o.0 o.1 (eqb-true o.0 r same) (cc (some))
          | false ↦ λ other none. cc (none)
        ] in cases refl h

in_root-self : (r j : ℕ) → in_root r (Some (r, j)) ≡ Some j
in_root-self r j = ap (λ b. cond b (Some j) None) (eq-eqb r r refl)

-- whether it is of the root
same_seen : (r k : ℕ) (o : Option (ℕ × ℕ)) → in_root r o ≡ None → same_root (Some (r, k)) o ≡ false
same_seen r k None h = refl
same_seen r k (Some o) h =
    let cases = elim (nat_eq o.0 r) as (λ b. nat_eq o.0 r ≡ b → ◌≡◌ {A = Option ℕ} (cond b (Some o.1) None) None → nat_eq r o.0 ≡ false) [
      | true ↦ λ same some. cc (some)
      | false ↦ λ other none. flipped r o.0 ∙ other
    ] in cases refl h

-- appendChild
takes_seen : (d : Doc) (n r k : ℕ) → Reached d → IsClear d → Stands d n r k → (is_text (node_at (nodes_seen d r) k) || is_void (tag_in (row_at d n))) ≡ not (takes_children (tag_in (row_at d n)))
takes_seen d n r k ok clear is = at (tag_in (row_at d n)) refl
  where
    twice : (b : Bool) → b ≡ not (not b)
    twice true = refl
    twice false = refl

    at : (o : Option (List ℕ)) → tag_in (row_at d n) ≡ o → (is_text (node_at (nodes_seen d r) k) || is_void o) ≡ not (takes_children o)
    at None text = ap (λ b. b || is_void None) (text_test d n r k ok is None text ∙ same_units-from_equal text_tag text_tag refl)
    at (Some tag) element = ap (λ b. b || is_void (Some tag)) (text_test d n r k ok is (Some tag) element ∙ clear.named n tag element) ∙ twice (tables.is_in void tag)

append_came : (a : Answers) (rules : Rules) (d : Doc) (n c r k : ℕ) → IsRuled a rules → Reached d → IsClear d → Stands d n r k → Comes r k d (node.append_child c n d) (came_at rules r k d (asked.AppendChild c))
append_came a rules d n c r k ruled ok clear is = at (in_root r (owner_of d c)) refl
  where
    ns : List Node
    ns = nodes_seen d r

    e : Deed
    e = changes (λ s i. line.Append s i (number_in (owner_of d c))) told_argument (owner_of d n) (moved n c d)

    -- the tests in their order
    tested : (j : ℕ) → Stands d c r j → (g t u : Bool) → is_granted (owner_of d c) ≡ g
        → Comes r k d (node.unless (cond (g || t) (Some NotAllowed) (cond u (Some Cycle) None)) d e) (came_when (g || t) (codes "not allowed") (came_when u (codes "cycle") (came_changed (appends j))))
    tested j it true t u first = refused r k d NotAllowed (codes "not allowed") refl clear
    tested j it false true u lent = refused r k d NotAllowed (codes "not allowed") refl clear
    tested j it false false true lent = refused r k d Cycle (codes "cycle") refl clear
    tested j it false false false lent =
        done d (moved n c d) n r k (appends j) (λ s i. line.Append s i (number_in (owner_of d c))) is (ap (λ x. line.Append r k x) (number_is d c r j it)) (moved_changed d n c r k j ok is it lent) (clear_moved d n c lent clear)

    order : (g x y : Bool) → (g || x || y) ≡ (g || (x || y))
    order true x y = refl
    order false x y = refl

    at : (o : Option ℕ) → in_root r (owner_of d c) ≡ o → Comes r k d (node.append_child c n d) (came_appended rules ns k o)
    at None out =
        let other : same_root (owner_of d n) (owner_of d c) ≡ false = ap (λ x. same_root x (owner_of d c)) is ∙ same_seen r k (owner_of d c) out in
        subst (λ b. Comes r k d (node.unless (cond (not b) (Some OtherRoot) (cond (is_granted (owner_of d c) || not (takes_children (tag_in (row_at d n)))) (Some NotAllowed) (cond (is_at_or_above d c n) (Some Cycle) None))) d e) (came_refused (codes "other root"))) (sym other)
        (refused r k d OtherRoot (codes "other root") refl clear)
    at (Some j) within =
        let it : Stands d c r j = in_root-stands d c r j within in
        let same : same_root (owner_of d n) (owner_of d c) ≡ true = ap (λ x. same_root x (owner_of d c)) is ∙ ap (same_root (Some (r, k))) it ∙ eq-eqb r r refl in
        let first : nat_eq j 0 ≡ is_granted (owner_of d c) = sym (ap is_granted it) in
        let o = node_at ns k in
        let refuses_it : (nat_eq j 0 || is_text o || rules.no_content o.tag) ≡ (is_granted (owner_of d c) || not (takes_children (tag_in (row_at d n)))) =
        order (nat_eq j 0) (is_text o) (rules.no_content o.tag)
        ∙ ap (λ b. b || (is_text o || rules.no_content o.tag)) first
        ∙ ap (λ b. is_granted (owner_of d c) || (is_text o || b)) (no_content_seen a rules d n r k ruled ok is)
        ∙ ap (λ b. is_granted (owner_of d c) || b) (takes_seen d n r k ok clear is) in
        let circle : is_in j (at_and_above (length ns) ns k) ≡ is_at_or_above d c n = above_is_seen d n c r k j ok clear is it in
        subst (λ b. Comes r k d (node.append_child c n d) (came_when b (codes "not allowed") (came_when (is_in j (at_and_above (length ns) ns k)) (codes "cycle") (came_changed (appends j))))) (sym refuses_it)
        (subst (λ b. Comes r k d (node.append_child c n d) (came_when (is_granted (owner_of d c) || not (takes_children (tag_in (row_at d n)))) (codes "not allowed") (came_when b (codes "cycle") (came_changed (appends j))))) (sym circle)
        (subst (λ b. Comes r k d (node.unless (cond (not b) (Some OtherRoot) (cond (is_granted (owner_of d c) || not (takes_children (tag_in (row_at d n)))) (Some NotAllowed) (cond (is_at_or_above d c n) (Some Cycle) None))) d e) (came_when (is_granted (owner_of d c) || not (takes_children (tag_in (row_at d n)))) (codes "not allowed") (came_when (is_at_or_above d c n) (codes "cycle") (came_changed (appends j))))) (sym same)
        (tested j it (is_granted (owner_of d c)) (not (takes_children (tag_in (row_at d n)))) (is_at_or_above d c n) refl)))

-- removeChild
remove_came : (rules : Rules) (d : Doc) (n c r k : ℕ) → Reached d → IsClear d → Stands d n r k → Comes r k d (node.remove_child c n d) (came_at rules r k d (asked.RemoveChild c))
remove_came rules d n c r k ok clear is = at (in_root r (owner_of d c)) refl
  where
    ns : List Node
    ns = nodes_seen d r

    e : Deed
    e = changes (λ s i. line.Remove s i (number_in (owner_of d c))) told_argument (owner_of d n) (taken n c d)

    -- a child is of the root
    no_child : in_root r (owner_of d c) ≡ None → (b : Bool) → is_child d n c ≡ b → b ≡ false
    no_child out true child =
        let it : Stands d c r (local d c) = stands_in d c r (under-of d c n r ok (child-at (parent_in (row_at d c)) n child) (ap root_in is)) in
        let within : ◌≡◌ {A = Option ℕ} (in_root r (owner_of d c)) (Some (local d c)) = ap (in_root r) it ∙ in_root-self r (local d c) in cc (within, out)
    no_child out false none = refl

    tested : (j : ℕ) → Stands d c r j → (b : Bool) → is_child d n c ≡ b → Comes r k d (cond b e (refuses BadArgument d)) (came_when (not b) (codes "bad argument") (came_changed (removes j)))
    tested j it true child =
        done d (taken n c d) n r k (removes j) (λ s i. line.Remove s i (number_in (owner_of d c))) is (ap (λ x. line.Remove r k x) (number_is d c r j it)) (taken_changed d n c r k j ok clear is it child) (clear_taken d n c clear)
    tested j it false none = refused r k d BadArgument (codes "bad argument") refl clear

    at : (o : Option ℕ) → in_root r (owner_of d c) ≡ o → Comes r k d (node.remove_child c n d) (came_removed ns k o)
    at None out =
        subst (λ b. Comes r k d (cond b e (refuses BadArgument d)) (came_refused (codes "bad argument"))) (sym (no_child out (is_child d n c) refl)) (refused r k d BadArgument (codes "bad argument") refl clear)
    at (Some j) within =
        let it : Stands d c r j = in_root-stands d c r j within in
        subst (λ b. Comes r k d (node.remove_child c n d) (came_when (not b) (codes "bad argument") (came_changed (removes j)))) (sym (child_is_seen d n c r k j ok is it)) (tested j it (is_child d n c) refl)

comes_to : (a : Answers) (rules : Rules) (q : Asked) (n r k : ℕ) (d : Doc) → IsRuled a rules → Reached d → IsClear d → Stands d n r k → Comes r k d (deed a q n d) (came_at rules r k d q)
comes_to a rules asked.TagName n r k d ruled ok clear is = record { comes = (ap (λ us. told_text us) (sym (tag_seen d n r k ok is)), (refl, refl)); clear = clear }
comes_to a rules asked.ParentNode n r k d ruled ok clear is =
    subst (λ o. Comes r k d (node.get_parent_node n d) (came_or_null came_node o)) (sym (parent_of_node d n r k ok.owned is (lent_parent d n) refl))
    (quiet_node r k asked.ParentNode d (lent_parent d n) clear (parent-of r d asked.ParentNode n ok (ap root_in is)))
comes_to a rules asked.ChildNodes n r k d ruled ok clear is = record { comes = (children_in (row_at d n), refl, children_are_seen d n r k ok is, (refl, refl)); clear = clear }
comes_to a rules (asked.ElementById id) n r k d ruled ok clear is =
    subst (λ o. Comes r k d (node.get_element_by_id id n d) (came_or_null came_node o)) (sym (first_is_seen d n r k id ok clear is))
    (quiet_node r k (asked.ElementById id) d (first_with id d (at_and_below d n)) clear (first-of r d (asked.ElementById id) id (at_and_below d n) (walk-of (length d.rows) r d (n ∷ []) ok (ap root_in is, tt))))
comes_to a rules (asked.Attribute name) n r k d ruled ok clear is =
    subst (λ o. Comes r k d (node.get_attribute name n d) (came_or_null came_text o)) (sym (ap (λ (o : Node). attribute name o.attributes) (at_number d n r k ok.owned is) ∙ attribute_is_seen d n name))
    (quiet_text r k d (attr_in (row_at d n) name) clear)
comes_to a rules (asked.SetAttribute name v) n r k d ruled ok clear is = set_attribute_came a rules d n r k name v ruled ok clear is
comes_to a rules asked.Text n r k d ruled ok clear is = record { comes = (ap (λ us. told_text us) (sym (text_is_seen d n r k ok clear is)), (refl, refl)); clear = clear }
comes_to a rules (asked.SetText us) n r k d ruled ok clear is = set_text_came a rules d n r k us ruled ok clear is
comes_to a rules (asked.CreateElement tag) n r k d ruled ok clear is = create_element_came a rules d n r k tag ruled ok clear is
comes_to a rules (asked.CreateTextNode us) n r k d ruled ok clear is = added d n r k (Text us) (text_node us) ok is (create_text_is_seen d n r k us ok is) (clear_created d n r k (Text us) ok is (plain_text us) clear)
comes_to a rules (asked.AppendChild c) n r k d ruled ok clear is = append_came a rules d n c r k ruled ok clear is
comes_to a rules (asked.RemoveChild c) n r k d ruled ok clear is = remove_came rules d n c r k ok clear is

pub deed_is_seen : (a : Answers) (rules : Rules) (q : Asked) (n r k : ℕ) (d : Doc) → IsRuled a rules → Reached d → IsClear d → Stands d n r k → AreThere d (children_given q) → IsSeen rules q r k d (deed a q n d)
deed_is_seen a rules q n r k d ruled ok clear is there =
    let c = comes_to a rules q n r k d ruled ok clear is in
    let of = deed_is_of_root a q n r d ok (ap root_in is) there in
    record { comes = c.comes; others = λ s ne. others_seen r s d (deed a q n d).doc ok of.grows of.within ne; clear = c.clear }
