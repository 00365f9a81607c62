-- What is left of each row is what it comes to.
use Rattle.std.proofs.Common.{◌≡◌, ℕ, suc, ◌+◌, Bool, true, false, ◌||◌, List, [], ◌∷◌, ◌++◌, Option, Some, None, length, cond, refl, ap, ◌∙◌, arith}
use Rattle.std.specs.Prelude.{not, slice_get, nat_eq, codes}
use Rattle.caja_units.specs.Units.{same_units}
use Rattle.node_deeds.specs.declared.deeds.Asked.{Asked}
use Rattle.node_deeds.specs.declared.deeds.Asked.TheVariants as asked
use Rattle.rows.specs.Rows.{undefined, held, Branch, answers, changes_node, adds_node, Row, ends, settles, handles}
use Rattle.rows.specs.Document.{Node, sets_text, appends, removes, node_at, of_parent, below, attribute, element, is_text}
use Rattle.rows.specs.Arguments.{argument}
use Rattle.rows.specs.Branches.{parents, with_ids, branch}
use Rattle.rows.specs.Nodes.{Rules, when, is_in, text_or_null, first_or_null, of_id, set_cleaned}
use Rattle.doc_views.specs.Seen.{first_of}
use Rattle.doc_views.specs.Came.{Came, came_text, came_node, came_changed, came_added, came_or_null, came_when, came_cleaned, came_appended, came_removed, came}
use Rattle.doc_views.specs.Rowed.{last, RowsEndSo, IsRow}
use Rattle.doc_views.proofs.Above.{answer_by_id}

pub rows_end : (rules : Rules) (n m : ℕ) → RowsEndSo rules n m
rows_end rules n m = record {
  tag_name = refl;
  parent_node = refl;
  child_nodes = refl;
  element_by_id = refl;
  attribute = refl;
  set_attribute = refl;
  text = refl;
  set_text = refl;
  create_element = refl;
  create_text_node = refl;
  append_child = refl;
  remove_child = refl;
}

row_when : (n h : ℕ) (ns : List Node) (k : ℕ) (b : Bool) (us : List ℕ) (c : Came) (x : Row) → IsRow n h ns k c x → IsRow n h ns k (came_when b us c) (when b us x)
row_when n h ns k true us c x is = refl
row_when n h ns k false us c x is = is

behind : (xs ys : List ℕ) (i : ℕ) → slice_get (xs ++ ys) (length xs + i) ≡ slice_get ys i
behind [] ys i = let e : 0 + i ≡ i = omega arith in ap (slice_get ys) e
behind (x ∷ xs) ys i = let e : suc (length xs) + i ≡ suc (length xs + i) = omega arith in ap (slice_get (x ∷ (xs ++ ys))) e ∙ behind xs ys i

row_parent : (n h : ℕ) (ns : List Node) (k : ℕ) → IsRow n h ns k (came_or_null came_node (node_at ns k).parent) (ends (answers (first_or_null (handles h (parents ns k)))))
row_parent n h ns k = at (node_at ns k).parent refl
  where
    at : (o : Option ℕ) → (node_at ns k).parent ≡ o → IsRow n h ns k (came_or_null came_node o) (ends (answers (first_or_null (handles h (of_parent (λ p. p ∷ []) o)))))
    at None is = refl
    at (Some p) is = (0, ap (λ o. slice_get (of_parent (λ p. p ∷ []) o ++ ((node_at ns k).children ++ below ns k)) 0) is, (let e : h ≡ h + 0 = omega arith in ap (λ i. ends (answers (held i))) e))

row_by_id : (n h : ℕ) (ns : List Node) (k : ℕ) (id : List ℕ) → IsRow n h ns k (came_or_null came_node (first_of id ns (below ns k))) (ends (answers (of_id id (with_ids ns (h + length (parents ns k) + length (node_at ns k).children) (below ns k)))))
row_by_id n h ns k id = at (first_of id ns (below ns k)) refl
  where
    b : ℕ
    b = h + length (parents ns k) + length (node_at ns k).children

    at : (o : Option ℕ) → first_of id ns (below ns k) ≡ o → IsRow n h ns k (came_or_null came_node o) (ends (answers (of_id id (with_ids ns b (below ns k)))))
    at None is = ap (λ x. ends (answers x)) ((answer_by_id id ns b (below ns k)).0 is)
    at (Some j) is =
        let found = (answer_by_id id ns b (below ns k)).1 j is in
        let i = found.0 in
        let ps = parents ns k in
        let cs = (node_at ns k).children in
        let place : b + i ≡ h + (length ps + (length cs + i)) = omega arith in
        (length ps + (length cs + i), behind ps (cs ++ below ns k) (length cs + i) ∙ (behind cs (below ns k) i ∙ found.1), ap (λ x. ends (answers x)) (found.2 ∙ ap (λ x. held x) place))

row_text : (n h : ℕ) (ns : List Node) (k : ℕ) (o : Option (List ℕ)) → IsRow n h ns k (came_or_null came_text o) (ends (answers (text_or_null o)))
row_text n h ns k None = refl
row_text n h ns k (Some us) = refl

row_cleaned : (n h : ℕ) (ns : List Node) (k : ℕ) (name : List ℕ) (o : Option (List ℕ)) → IsRow n h ns k (came_cleaned name o) (set_cleaned name o)
row_cleaned n h ns k name None = refl
row_cleaned n h ns k name (Some v) = refl

row_appended : (rules : Rules) (n h : ℕ) (ns : List Node) (k m : ℕ) (same : Bool) (c : Branch) → IsRow n h ns k (came_appended rules ns k (cond same (Some c.number) None)) (last rules n (asked.AppendChild m) same c (branch h k ns))
row_appended rules n h ns k m false c = refl
row_appended rules n h ns k m true c =
    let b = branch h k ns in
    let x : Row = settles (changes_node (held 0) (appends c.number) (argument 0 n)) in
    row_when n h ns k (nat_eq c.number 0 || is_text (node_at ns k) || rules.no_content (node_at ns k).tag) (codes "not allowed") (came_when (is_in c.number b.above) (codes "cycle") (came_changed (appends c.number))) (when (is_in c.number b.above) (codes "cycle") x)
    (row_when n h ns k (is_in c.number b.above) (codes "cycle") (came_changed (appends c.number)) x refl)

row_removed : (rules : Rules) (n h : ℕ) (ns : List Node) (k m : ℕ) (same : Bool) (c : Branch) → IsRow n h ns k (came_removed ns k (cond same (Some c.number) None)) (last rules n (asked.RemoveChild m) same c (branch h k ns))
row_removed rules n h ns k m false c = refl
row_removed rules n h ns k m true c = row_when n h ns k (not (is_in c.number (node_at ns k).children)) (codes "bad argument") (came_changed (removes c.number)) (settles (changes_node (held 0) (removes c.number) (argument 0 n))) refl

pub rows_come : (rules : Rules) (n h : ℕ) (ns : List Node) (k : ℕ) (q : Asked) (same : Bool) (c : Branch) → IsRow n h ns k (came rules ns k (cond same (Some c.number) None) q) (last rules n q same c (branch h k ns))
rows_come rules n h ns k asked.TagName same c = refl
rows_come rules n h ns k asked.ParentNode same c = row_parent n h ns k
rows_come rules n h ns k asked.ChildNodes same c = (parents ns k, below ns k, refl, refl)
rows_come rules n h ns k (asked.ElementById id) same c = row_by_id n h ns k id
rows_come rules n h ns k (asked.Attribute name) same c = row_text n h ns k (attribute name (node_at ns k).attributes)
rows_come rules n h ns k (asked.SetAttribute name v) same c =
    let o = node_at ns k in
    let cleaned = rules.cleaned o.tag name v in
    row_when n h ns k (is_text o || same_units name (codes "id")) (codes "not allowed") (came_cleaned name cleaned) (set_cleaned name cleaned) (row_cleaned n h ns k name cleaned)
rows_come rules n h ns k asked.Text same c = refl
rows_come rules n h ns k (asked.SetText us) same c = row_when n h ns k (rules.no_content (node_at ns k).tag) (codes "not allowed") (came_changed (sets_text us)) (settles (changes_node (held 0) (sets_text us) undefined)) refl
rows_come rules n h ns k (asked.CreateElement tag) same c = row_when n h ns k (not (rules.listed tag)) (codes "not allowed") (came_added (element tag)) (settles (adds_node (held 0) (element tag))) refl
rows_come rules n h ns k (asked.CreateTextNode us) same c = refl
rows_come rules n h ns k (asked.AppendChild m) same c = row_appended rules n h ns k m same c
rows_come rules n h ns k (asked.RemoveChild m) same c = row_removed rules n h ns k m same c
