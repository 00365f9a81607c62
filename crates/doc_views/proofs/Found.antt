-- Ids stay, so what is found by them does.
use Rattle.std.proofs.Common.{◌≡◌, ℕ, suc, ◌+◌, Bool, true, false, List, [], ◌∷◌, Option, Some, None, Ok, Err, length, cond, refl, sym, ap, ◌∙◌, subst, arith}
use Rattle.std.specs.Prelude.{not, slice_get, nat_lt, codes}
use Rattle.std.specs.List.{position, position_or_len}
use Rattle.std.proofs.Math.Dec.{eqb}
use Rattle.std.proofs.lemmas.Bool.{eqb-true}
use Rattle.std.proofs.lemmas.Bool.Decides.{nat_tests}
use Rattle.caja_units.specs.Units.{same_units}
use Rattle.caja_units.proofs.Texts.{same_units-equal}
use Rattle.html_tree.specs.declared.Attr.{Attr}
use Rattle.html_grammar.specs.Tables.{is_in}
use Rattle.html_kept.specs.Table.{Answers, listed, attr_value}
use Rattle.doc_nodes.specs.declared.node.DocError.TheVariants.{NoNode}
use Rattle.doc_nodes.specs.declared.node.Parent.{Parent}
use Rattle.doc_nodes.specs.declared.node.Parent.TheVariants.{Detached, Node as under_node}
use Rattle.doc_nodes.specs.declared.node.NewNode.{NewNode}
use Rattle.doc_nodes.specs.declared.node.NewNode.TheVariants.{Element, Text}
use Rattle.doc_nodes.specs.Rows.{Row, Doc, row_at, has, owner_of, children_in, tag_in, tag_in_content, value_at, is_named, is_value, has_id, find_id, attr_in, attr_in_content}
use Rattle.doc_nodes.specs.Changes.{set_attr, set_text, with_text, filled, with_value, marked, holding, edited, over, with_node, moved, taken, refilled, is_child, root_in}
use Rattle.doc_laws.specs.Reached.{Reached}
use Rattle.doc_laws.proofs.Lists.{get_past, apart, next_place}
use Rattle.doc_laws.proofs.Edits.{edited-same, new-here, new-other}
use Rattle.doc_laws.proofs.Forests.{with_text_in, swapped}
use Rattle.doc_laws.proofs.Changed.{passed}
use Rattle.node_deeds.specs.declared.told.Refusal.{Refusal}
use Rattle.node_deeds.specs.declared.told.Refusal.TheVariants.{NotAllowed, BadArgument}
use Rattle.node_deeds.specs.declared.told.Change as deeds
use Rattle.node_deeds.specs.declared.told.Change.TheVariants as line
use Rattle.node_deeds.specs.declared.deeds.Asked.{Asked}
use Rattle.node_deeds.specs.declared.deeds.Asked.TheVariants as asked
use Rattle.node_deeds.specs.Told.{Told, told_undefined, told_argument}
use Rattle.node_deeds.specs.Deeds as node
use Rattle.node_deeds.specs.Deeds.{deed, refuses, changes, changed, attribute_set, value_for, is_void, created, takes_children, child_refused, number_in}
use Rattle.rows.specs.Document.{Node, node_at, attribute}
use Rattle.rows.specs.Nodes as rows
use Rattle.doc_views.specs.Seen.{nodes_seen, Stands}
use Rattle.doc_views.specs.Clear.{stray_in, stray_in_content, IsClear}
use Rattle.doc_views.proofs.Views.{at_number, attribute_is_seen}
use Rattle.doc_views.proofs.Below.{same_id}
use Rattle.doc_views.proofs.Appended.{moved_part, taken_part, freed_part}

-- the first place of a test, item by item
position_here : (f : Row → Bool) (x : Row) (xs : List Row) → f x ≡ true → position f (x ∷ xs) ≡ Some 0
position_here f x xs h = at (f x) h
  where
    at : (b : Bool) → b ≡ true → cond (nat_lt (cond (not b) (1 + position_or_len f xs) 0) (suc (length xs))) (Some (cond (not b) (1 + position_or_len f xs) 0)) None ≡ Some 0
    at true h = let yes : nat_lt 0 (suc (length xs)) ≡ true = grind (arith, nat_tests) in rw yes refl
    at false h = cc

position_behind : (f : Row → Bool) (x : Row) (xs : List Row) → f x ≡ false → position f (x ∷ xs) ≡ next_place (position f xs)
position_behind f x xs h = at (f x) h
  where
    further : (i k : ℕ) → cond (nat_lt (1 + i) (suc k)) (Some (1 + i)) None ≡ next_place (cond (nat_lt i k) (Some i) None)
    further i k =
        let one : 1 + i ≡ suc i = omega arith in
        let cases = elim (nat_lt i k) as (λ b. nat_lt i k ≡ b → cond (nat_lt (1 + i) (suc k)) (Some (1 + i)) None ≡ next_place (cond b (Some i) None)) [
          | true ↦ λ yes. let less : nat_lt (1 + i) (suc k) ≡ true = grind (arith, nat_tests) in rw (less, one) refl
          | false ↦ λ no. let past : nat_lt (1 + i) (suc k) ≡ false = grind (arith, nat_tests) in rw past refl
        ] in cases refl

    at : (b : Bool) → b ≡ false → cond (nat_lt (cond (not b) (1 + position_or_len f xs) 0) (suc (length xs))) (Some (cond (not b) (1 + position_or_len f xs) 0)) None ≡ next_place (position f xs)
    at true h = cc
    at false h = further (position_or_len f xs) (length xs)

-- the id of a row
abbrev id_in : Option Row → Option (List ℕ)
id_in None = None
id_in (Some x) = value_at (codes "id") x.attrs

-- rows of the same ids
same_place : (id : List ℕ) (xs ys : List Row) → ((m : ℕ) → id_in (slice_get ys m) ≡ id_in (slice_get xs m)) → position (has_id id) ys ≡ position (has_id id) xs
same_place id [] [] same = refl
same_place id [] (y ∷ ys) same = position_behind (has_id id) y ys (ap (is_value id) (same 0)) ∙ ap next_place (same_place id [] ys (λ m. same (suc m)))
same_place id (x ∷ xs) [] same = sym (position_behind (has_id id) x xs (ap (is_value id) (sym (same 0))) ∙ ap next_place (sym (same_place id xs [] (λ m. same (suc m)))))
same_place id (x ∷ xs) (y ∷ ys) same = at (has_id id x) refl (ap (is_value id) (same 0)) (same_place id xs ys (λ m. same (suc m)))
  where
    at : (b : Bool) → has_id id x ≡ b → has_id id y ≡ has_id id x → position (has_id id) ys ≡ position (has_id id) xs → position (has_id id) (y ∷ ys) ≡ position (has_id id) (x ∷ xs)
    at true is also rest = position_here (has_id id) y ys (also ∙ is) ∙ sym (position_here (has_id id) x xs is)
    at false is also rest = position_behind (has_id id) y ys (also ∙ is) ∙ ap next_place rest ∙ sym (position_behind (has_id id) x xs is)

abbrev IdsStay : Doc → Doc → Type 0
IdsStay d e = (m : ℕ) → id_in (row_at e m) ≡ id_in (row_at d m)

ids_moved : (p c : ℕ) (d : Doc) → IdsStay d (moved p c d)
ids_moved p c d m = moved_part id_in p c m d (λ ns x. refl) (λ q x. refl)

ids_taken : (p c : ℕ) (d : Doc) → IdsStay d (taken p c d)
ids_taken p c d m = taken_part id_in p c m d (λ ns x. refl) (λ q x. refl)

ids_new : (p : Parent) (root : Option ℕ) (c : NewNode) (d : Doc) → IdsStay d (with_node p root c [] d)
ids_new p root c d m =
    let e = with_node p root c [] d in
    let cases = elim (eqb m (length d.rows)) as (λ b. eqb m (length d.rows) ≡ b → id_in (row_at e m) ≡ id_in (row_at d m)) [
      | true ↦ λ same. subst (λ x. id_in (row_at e x) ≡ id_in (row_at d x)) (sym (eqb-true m (length d.rows) same)) (ap id_in (new-here p root c [] d) ∙ sym (ap id_in (get_past d.rows)))
      | false ↦ λ other. ap id_in (new-other p root c [] d m (apart m (length d.rows) other))
    ] in cases refl

ids_refilled : (n : ℕ) (us : List ℕ) (d : Doc) → IdsStay d (refilled n us d)
ids_refilled n us d m =
    let root = root_in (owner_of d n) in
    let e = with_text_in n root us d in
    freed_part id_in (children_in (row_at e n)) m (swapped n root us d) (λ q x. refl) ∙ edited-same id_in e n m (over (length d.rows ∷ [])) (λ x. refl) ∙ ids_new (under_node n) root (Text us) d m

ids_filled : (n : ℕ) (us : List ℕ) (c : NewNode) (d : Doc) → IdsStay d (filled n us c d)
ids_filled n us (Element tag) d m = ids_refilled n us d m
ids_filled n us (Text old) d m = edited-same id_in d n m (holding (Text us)) (λ x. refl)

-- another attribute
other_value : (name v : List ℕ) (attrs : List Attr) → same_units name (codes "id") ≡ false → value_at (codes "id") (with_value name v attrs) ≡ value_at (codes "id") attrs
other_value name v [] other = ap (λ b. cond b (Some v) None) other
other_value name v (x ∷ attrs) other = at (is_named name x) refl (other_value name v attrs other)
  where
    at : (b : Bool) → same_units x.name name ≡ b → value_at (codes "id") (with_value name v attrs) ≡ value_at (codes "id") attrs → value_at (codes "id") (cond b (record { name = x.name; value = v } ∷ attrs) (x ∷ with_value name v attrs)) ≡ value_at (codes "id") (x ∷ attrs)
    at true same rest =
        let not_id : same_units x.name (codes "id") ≡ false = ap (λ us. same_units us (codes "id")) (same_units-equal x.name name same) ∙ other in
        ap (λ b. cond b (Some v) (value_at (codes "id") attrs)) not_id ∙ sym (ap (λ b. cond b (Some x.value) (value_at (codes "id") attrs)) not_id)
    at false apart_from rest = ap (λ o. cond (same_units x.name (codes "id")) (Some x.value) o) rest

ids_marked : (n : ℕ) (name v : List ℕ) (d : Doc) → same_units name (codes "id") ≡ false → IdsStay d (edited d n (λ x. marked (with_value name v x.attrs) x))
ids_marked n name v d other m = edited-same id_in d n m (λ x. marked (with_value name v x.attrs) x) (λ x. other_value name v x.attrs other)

ids_set : (n : ℕ) (name v : List ℕ) (d : Doc) → same_units name (codes "id") ≡ false → IdsStay d (changed (set_attr n name v d) d)
ids_set n name v d other = at (has d n)
  where
    at : (b : Bool) → IdsStay d (changed (cond b (Ok (edited d n (λ x. marked (with_value name v x.attrs) x))) (Err NoNode)) d)
    at true m = ids_marked n name v d other m
    at false m = refl

ids_text : (n : ℕ) (us : List ℕ) (d : Doc) → IdsStay d (changed (set_text n us d) d)
ids_text n us d = at (row_at d n)
  where
    at : (o : Option Row) → IdsStay d (changed (with_text n us o d) d)
    at None m = refl
    at (Some x) m = ids_filled n us x.content d m

-- what a change leaves, with or without a line
ids_change : (f : ℕ → ℕ → deeds.Change) (t : Told) (o : Option (ℕ × ℕ)) (d e : Doc) → IdsStay d e → IdsStay d (changes f t o e).doc
ids_change f t None d e stay = stay
ids_change f t (Some o) d e stay = stay

ids_attribute : (name : List ℕ) (o : Option (List ℕ)) (n : ℕ) (d : Doc) → same_units name (codes "id") ≡ false → IdsStay d (attribute_set name o n d).doc
ids_attribute name None n d other m = refl
ids_attribute name (Some v) n d other m = ids_change (λ r k. line.Set r k name v) told_undefined (owner_of d n) d (changed (set_attr n name v d) d) (ids_set n name v d other) m

ids_created : (o : Option ℕ) (c : NewNode) (d : Doc) → IdsStay d (created o c d).doc
ids_created None c d m = refl
ids_created (Some r) c d m = ids_new Detached (Some r) c d m

ids_stay : (a : Answers) (q : Asked) (n : ℕ) (d : Doc) → IdsStay d (deed a q n d).doc
ids_stay a asked.TagName n d m = refl
ids_stay a asked.ParentNode n d m = refl
ids_stay a asked.ChildNodes n d m = refl
ids_stay a (asked.ElementById id) n d m = refl
ids_stay a (asked.Attribute name) n d m = refl
ids_stay a (asked.SetAttribute name v) n d m = at (tag_in (row_at d n)) m
  where
    of : (tag : List ℕ) (b : Bool) → same_units name (codes "id") ≡ b → IdsStay d (attribute_set name (cond b None (attr_value a tag name v)) n d).doc
    of tag true is m = refl
    of tag false other m = ids_attribute name (attr_value a tag name v) n d other m

    at : (o : Option (List ℕ)) → IdsStay d (attribute_set name (value_for a name v o) n d).doc
    at None m = refl
    at (Some tag) m = of tag (same_units name (codes "id")) refl m
ids_stay a asked.Text n d m = refl
ids_stay a (asked.SetText us) n d m = at (is_void (tag_in (row_at d n))) m
  where
    at : (b : Bool) → IdsStay d (cond b (refuses NotAllowed d) (changes (λ r k. line.Text r k us) told_undefined (owner_of d n) (changed (set_text n us d) d))).doc
    at true m = refl
    at false m = ids_change (λ r k. line.Text r k us) told_undefined (owner_of d n) d (changed (set_text n us d) d) (ids_text n us d) m
ids_stay a (asked.CreateElement tag) n d m = at (is_in listed tag) m
  where
    at : (b : Bool) → IdsStay d (cond b (created (root_in (owner_of d n)) (Element tag) d) (refuses NotAllowed d)).doc
    at true m = ids_created (root_in (owner_of d n)) (Element tag) d m
    at false m = refl
ids_stay a (asked.CreateTextNode us) n d m = ids_created (root_in (owner_of d n)) (Text us) d m
ids_stay a (asked.AppendChild c) n d m = at (child_refused d n c) m
  where
    at : (o : Option Refusal) → IdsStay d (node.unless o d (changes (λ r k. line.Append r k (number_in (owner_of d c))) told_argument (owner_of d n) (moved n c d))).doc
    at None m = ids_change (λ r k. line.Append r k (number_in (owner_of d c))) told_argument (owner_of d n) d (moved n c d) (ids_moved n c d) m
    at (Some x) m = refl
ids_stay a (asked.RemoveChild c) n d m = at (is_child d n c) m
  where
    at : (b : Bool) → IdsStay d (cond b (changes (λ r k. line.Remove r k (number_in (owner_of d c))) told_argument (owner_of d n) (taken n c d)) (refuses BadArgument d)).doc
    at true m = ids_change (λ r k. line.Remove r k (number_in (owner_of d c))) told_argument (owner_of d n) d (taken n c d) (ids_taken n c d) m
    at false m = refl

pub found_stays : (a : Answers) (q : Asked) (n : ℕ) (d : Doc) (id : List ℕ) → find_id (deed a q n d).doc id ≡ find_id d id
found_stays a q n d id = same_place id d.rows (deed a q n d).doc.rows (ids_stay a q n d)

pub set_attr_finds : (d e : Doc) (n : ℕ) (name v id : List ℕ) → same_units name (codes "id") ≡ false → set_attr n name v d ≡ Ok e → find_id e id ≡ find_id d id
set_attr_finds d e n name v id other h =
    let f : Row → Row = λ x. marked (with_value name v x.attrs) x in
    ap (λ x. find_id x id) (sym (passed (has d n) (edited d n f) e NoNode h).1) ∙ same_place id d.rows (edited d n f).rows (ids_marked n name v d other)

-- the row at the place that is found has the id
before : (o : Option ℕ) (n : ℕ) → next_place o ≡ Some n → (i : ℕ) × (o ≡ Some i) × (n ≡ suc i)
before None n h = cc
before (Some i) n h = (i, refl, (let same : suc i ≡ n = cc in sym same))

row_found : (id : List ℕ) (xs : List Row) (n : ℕ) → ◌≡◌ {A = Option ℕ} (position (has_id id) xs) (Some n) → (x : Row) × (◌≡◌ {A = Option Row} (slice_get xs n) (Some x)) × (has_id id x ≡ true)
row_found id [] n h = cc
row_found id (x ∷ xs) n h = at (has_id id x) refl (λ i is. row_found id xs i is)
  where
    at : (b : Bool) → has_id id x ≡ b → ((i : ℕ) → ◌≡◌ {A = Option ℕ} (position (has_id id) xs) (Some i) → (y : Row) × (◌≡◌ {A = Option Row} (slice_get xs i) (Some y)) × (has_id id y ≡ true))
        → (y : Row) × (◌≡◌ {A = Option Row} (slice_get (x ∷ xs) n) (Some y)) × (has_id id y ≡ true)
    at true is go =
        let both : ◌≡◌ {A = Option ℕ} (Some 0) (Some n) = sym (position_here (has_id id) x xs is) ∙ h in
        let zeroth : 0 ≡ n = cc (both) in (x, ap (slice_get (x ∷ xs)) (sym zeroth), is)
    at false is go =
        let i = before (position (has_id id) xs) n (sym (position_behind (has_id id) x xs is) ∙ h) in
        let y = go i.0 i.1 in (y.0, ap (slice_get (x ∷ xs)) i.2 ∙ y.1, y.2)

pub found_is_seen : (d : Doc) (id : List ℕ) (n r k : ℕ) → Reached d → IsClear d → ◌≡◌ {A = Option ℕ} (find_id d id) (Some n) → Stands d n r k
    → (tag : List ℕ) × (◌≡◌ {A = Option (List ℕ)} (tag_in (row_at d n)) (Some tag)) × (rows.has_id id (attribute (codes "id") (node_at (nodes_seen d r) k).attributes) ≡ true)
found_is_seen d id n r k a clear h is =
    let found = row_found id d.rows n h in
    let x = found.0 in
    let at : row_at d n ≡ Some x = found.1 in
    let tag = element x.content x.attrs (sym (ap stray_in at) ∙ clear.texts n) found.2 in (
      tag.0,
      ap tag_in at ∙ tag.1,
      ap (λ (o : Node). rows.has_id id (attribute (codes "id") o.attributes)) (at_number d n r k a.owned is)
          ∙ ap (rows.has_id id) (attribute_is_seen d n (codes "id"))
          ∙ same_id id (attr_in (row_at d n) (codes "id"))
          ∙ ap (λ o. is_value id (attr_in o (codes "id"))) at
          ∙ value x.content tag.0 x.attrs tag.1 found.2,
    )
  where
    -- a text has none
    element : (c : NewNode) (attrs : List Attr) → stray_in_content c attrs ≡ [] → is_value id (value_at (codes "id") attrs) ≡ true → (tag : List ℕ) × (◌≡◌ {A = Option (List ℕ)} (tag_in_content c) (Some tag))
    element (Element tag) attrs none has = (tag, refl)
    element (Text us) attrs none has = let no : is_value id (value_at (codes "id") attrs) ≡ false = ap (λ xs. is_value id (value_at (codes "id") xs)) none in cc (no, has)

    value : (c : NewNode) (tag : List ℕ) (attrs : List Attr) → ◌≡◌ {A = Option (List ℕ)} (tag_in_content c) (Some tag) → is_value id (value_at (codes "id") attrs) ≡ true → is_value id (attr_in_content c (codes "id") attrs) ≡ true
    value (Element t) tag attrs is has = has
    value (Text us) tag attrs is has = cc
