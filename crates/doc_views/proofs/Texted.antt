-- Another text of a node, as it is seen: of an element, its children leave it one by one, and a new text stands under it.
use Rattle.std.proofs.Common.{◌≡◌, ◌≢◌, ℕ, zero, suc, ◌+◌, ◌<◌, Bool, true, false, List, [], ◌∷◌, ◌++◌, Option, Some, None, Ok, length, cond, refl, sym, ap, ◌∙◌, subst, arith}
use Rattle.std.specs.Prelude.{map, slice_get, slice_set, nat_lt, nat_eq}
use Rattle.std.proofs.Math.Dec.{eqb}
use Rattle.std.proofs.lemmas.Bool.{eqb-true, eq-eqb}
use Rattle.std.proofs.lemmas.List.{length-map}
use Rattle.caja_units.specs.Units.{same_units}
use Rattle.caja_units.proofs.Texts.{same_units-from_equal}
use Rattle.doc_nodes.specs.declared.node.Parent.{Parent}
use Rattle.doc_nodes.specs.declared.node.Parent.TheVariants.{Detached, Node as under_node}
use Rattle.doc_nodes.specs.declared.node.NewNode.{NewNode}
use Rattle.doc_nodes.specs.declared.node.NewNode.TheVariants.{Element, Text}
use Rattle.doc_nodes.specs.Rows.{Row, Doc, row_at, parent_in, node_in, children_in, owner_in, owner_of, nodes_of, is_granted, tag_in, tag_in_content}
use Rattle.doc_nodes.specs.Changes.{set_text, with_text, filled, refilled, holding, edited, over, placed, with_child, taken, create, root_in, next_owner, with_owned, without, is_child, is_node, remove}
use Rattle.doc_laws.specs.Forest.{times, one_if}
use Rattle.doc_laws.specs.Reached.{Reached}
use Rattle.doc_laws.proofs.Lists.{apart, not_same, without-here}
use Rattle.doc_laws.proofs.Edits.{Same, same-then, same-edited, same-taken, same-freed, edited-same, with_last, without_if, new-here, new-other, new-length, placed-here, placed-other, listed-parents, taken-here, taken-other, freed-in, freed-out, list-edited, list-listed, list-freed, list-over, list-new, list-taken, fresh}
use Rattle.doc_laws.proofs.Forests.{with_text_in, swapped, no_list}
use Rattle.doc_laws.proofs.Changed.{remove_keeps, create_keeps}
use Rattle.deed_laws.proofs.Nodes.{is_there, still_there, stands_there}
use Rattle.rows.specs.Document as doc
use Rattle.rows.specs.Document.{Node, node_at, is_text, text_tag, text_node, all_detached, detached, attached, changed, sets_text}
use Rattle.doc_views.specs.Seen.{local, number_at, node_from, node_seen, nodes_seen, Stands, pairs_in_content}
use Rattle.doc_views.specs.Clear.{IsClear}
use Rattle.doc_views.proofs.Views.{there_in, at_number, number_within, child_in}
use Rattle.doc_views.proofs.Edited.{stands-same, edited_node}
use Rattle.doc_views.proofs.Grown.{bare}
use Rattle.doc_views.proofs.Removed.{not_first, taken_seen, within_test}
use Rattle.doc_views.proofs.Created.{root_there, created_stands, create_text_is_seen}
use Rattle.doc_views.proofs.Appended.{put, same-put, put_seen, put_part, taken_part, freed_part, seen_alike}
use Rattle.node_deeds.specs.Deeds.{tag_or_text}

-- a text
held_text : (d : Doc) (n r k : ℕ) (old us : List ℕ) → Reached d → Stands d n r k → (x : Row) → ◌≡◌ {A = Option Row} (row_at d n) (Some x) → x.content ≡ Text old
    → nodes_seen (edited d n (holding (Text us))) r ≡ changed (sets_text us) k (nodes_seen d r)
held_text d n r k old us a is x at text =
    let ns = nodes_seen d r in
    let one : nat_lt k (length ns) ≡ true = within_test k (length ns) (number_within d n r k a.owned is) in
    let seen : node_at ns k ≡ node_from d.owners n (Some x) = at_number d n r k a.owned is ∙ ap (node_from d.owners n) at in
    let yes : is_text (node_at ns k) ≡ true = ap (λ (o : Node). is_text o) seen ∙ ap (λ c. same_units (tag_or_text (tag_in_content c)) text_tag) text ∙ same_units-from_equal text_tag text_tag refl in
    edited_node d n r k (holding (Text us)) (doc.with_text us) a.owned is (λ y here. held d.owners y (same y here))
    ∙ ap (λ b. cond b (slice_set ns k (doc.with_text us (node_at ns k))) (attached k (length ns) (all_detached (node_at ns k).children ns ++ text_node us ∷ []))) (sym yes)
    ∙ ap (λ b. cond b (cond (is_text (node_at ns k)) (slice_set ns k (doc.with_text us (node_at ns k))) (attached k (length ns) (all_detached (node_at ns k).children ns ++ text_node us ∷ []))) ns) (sym one)
  where
    same : (y : Row) → ◌≡◌ {A = Option Row} (row_at d n) (Some y) → y.content ≡ Text old
    same y here = let one : ◌≡◌ {A = Option Row} (Some y) (Some x) = sym here ∙ at in let both : y ≡ x = cc (one) in ap (λ (z : Row). z.content) both ∙ text

    held : (os : List (Option (ℕ × ℕ))) (y : Row) → y.content ≡ Text old → node_from os n (Some (holding (Text us) y)) ≡ doc.with_text us (node_from os n (Some y))
    held os y h = ap (λ c. record {
      tag = tag_or_text (tag_in_content c);
      text = us;
      attributes = pairs_in_content c y.attrs;
      parent = (node_from os n (Some y)).parent;
      children = (node_from os n (Some y)).children;
    }) (sym h)

-- all children of a node are taken from it, one by one
abbrev all_taken : ℕ → List ℕ → Doc → Doc
all_taken n [] d = d
all_taken n (c ∷ cs) d = all_taken n cs (taken n c d)

same-all_taken : (n : ℕ) (cs : List ℕ) (d : Doc) → Same d (all_taken n cs d)
same-all_taken n [] d = (refl, refl, refl)
same-all_taken n (c ∷ cs) d = same-then d (taken n c d) (all_taken n cs (taken n c d)) (same-taken n c d) (same-all_taken n cs (taken n c d))

all_taken-part : {X : Type 0} (part : Option Row → X) (n : ℕ) (cs : List ℕ) (m : ℕ) (d : Doc) → ((ns : List ℕ) (r : Row) → part (Some (over ns r)) ≡ part (Some r)) → ((q : Parent) (r : Row) → part (Some (placed q r)) ≡ part (Some r))
    → part (row_at (all_taken n cs d) m) ≡ part (row_at d m)
all_taken-part part n [] m d lists parents = refl
all_taken-part part n (c ∷ cs) m d lists parents = all_taken-part part n cs m (taken n c d) lists parents ∙ taken_part part n c m d lists parents

all_taken-keeps : (n : ℕ) (cs : List ℕ) (m : ℕ) (d : Doc) → parent_in (row_at d m) ≡ Detached → parent_in (row_at (all_taken n cs d) m) ≡ Detached
all_taken-keeps n [] m d h = h
all_taken-keeps n (c ∷ cs) m d h =
    let cases = elim (eqb m c) as (λ b. eqb m c ≡ b → parent_in (row_at (taken n c d) m) ≡ Detached) [
      | true ↦ λ same. subst (λ x. parent_in (row_at (taken n c d) x) ≡ Detached) (sym (eqb-true m c same)) (taken-here n c d)
      | false ↦ λ other. taken-other n c m d (apart m c other) ∙ h
    ] in all_taken-keeps n cs m (taken n c d) (cases refl)

all_taken-in : (n : ℕ) (cs : List ℕ) (m : ℕ) (d : Doc) → 0 < times m cs → parent_in (row_at (all_taken n cs d) m) ≡ Detached
all_taken-in n [] m d h = absurd (omega arith)
all_taken-in n (c ∷ cs) m d h =
    let cases = elim (nat_eq c m) as (λ b. nat_eq c m ≡ b → 0 < one_if b + times m cs → parent_in (row_at (all_taken n cs (taken n c d)) m) ≡ Detached) [
      | true ↦ λ same less. all_taken-keeps n cs m (taken n c d) (subst (λ x. parent_in (row_at (taken n c d) x) ≡ Detached) (eqb-true c m same) (taken-here n c d))
      | false ↦ λ other less. all_taken-in n cs m (taken n c d) (omega (arith, less))
    ] in cases refl h

all_taken-out : (n : ℕ) (cs : List ℕ) (m : ℕ) (d : Doc) → times m cs ≡ 0 → parent_in (row_at (all_taken n cs d) m) ≡ parent_in (row_at d m)
all_taken-out n [] m d h = refl
all_taken-out n (c ∷ cs) m d h =
    let cases = elim (nat_eq c m) as (λ b. nat_eq c m ≡ b → one_if b + times m cs ≡ 0 → parent_in (row_at (all_taken n cs (taken n c d)) m) ≡ parent_in (row_at d m)) [
      | true ↦ λ same none. absurd (omega (arith, none))
      | false ↦ λ other none. all_taken-out n cs m (taken n c d) (omega (arith, none)) ∙ taken-other n c m d (λ e. apart c m other (sym e))
    ] in cases refl h

-- the lists of other nodes stay
all_taken-list : (n : ℕ) (cs : List ℕ) (m : ℕ) (d : Doc) → m ≢ n → children_in (row_at (all_taken n cs d) m) ≡ children_in (row_at d m)
all_taken-list n [] m d ne = refl
all_taken-list n (c ∷ cs) m d ne =
    let other : nat_eq m n ≡ false = not_same m n ne in
    all_taken-list n cs m (taken n c d) ne ∙ list-taken n c d (under_node m) ∙ ap (λ b. without_if b c (children_in (row_at d m))) other

-- what is left when all are taken
record IsEmptied (d : Doc) (n r : ℕ) (cs ks : List ℕ) : Type 0 where
  pub reached : Reached (all_taken n cs d)
  pub none : children_in (row_at (all_taken n cs d) n) ≡ []
  pub seen : nodes_seen (all_taken n cs d) r ≡ all_detached ks (nodes_seen d r)

-- no root begins with a child
abbrev AreLent : Doc → List ℕ → Type 0
AreLent d cs = (m : ℕ) → 0 < times m cs → is_granted (owner_of d m) ≡ false

emptied : (n r k : ℕ) (cs : List ℕ) (d : Doc) → Reached d → Stands d n r k → AreLent d cs → children_in (row_at d n) ≡ cs → IsEmptied d n r cs (map (local d) cs)
emptied n r k [] d a is lent children = record { reached = a; none = children; seen = refl }
emptied n r k (c ∷ cs) d a is lent children =
    let first : 0 < times c (children_in (row_at d n)) = subst (λ xs. 0 < times c xs) (sym children) (is_there c cs) in
    let under : parent_in (row_at d c) ≡ under_node n = stands_there d n c a first in
    let it : Stands d c r (local d c) = child_in d n r k c a is first in
    let t = taken n c d in
    let s = same-taken n c d in
    let kept : Reached t = (remove_keeps n c d t a (removed under (there_in d n r k a.owned is) (there_in d c r (local d c) a.owned it))).0 in
    let self : nat_eq n n ≡ true = eq-eqb n n refl in
    let fewer : children_in (row_at t n) ≡ cs =
    list-taken n c d (under_node n) ∙ ap (λ b. without_if b c (children_in (row_at d n))) self ∙ ap (without c) children ∙ without-here c c cs (eq-eqb c c refl) in
    let rest = emptied n r k cs t kept (stands-same d t n r k s is) (λ m more. ap (λ os. is_granted (owner_in (slice_get os m))) s.0 ∙ lent m (still_there m c cs more)) fewer in
    record {
      reached = rest.reached;
      none = rest.none;
      seen = rest.seen
          ∙ ap (λ os. all_detached (map (number_at os) cs) (nodes_seen t r)) s.0
          ∙ ap (all_detached (map (local d) cs)) (taken_seen d n c r k (local d c) a is it (lent c (is_there c cs)) under);
    }
  where
    removed : parent_in (row_at d c) ≡ under_node n → n < length d.rows → c < length d.rows → remove n c d ≡ Ok (taken n c d)
    removed under ln lc =
        let one : nat_lt n (length d.rows) ≡ true = within_test n (length d.rows) ln in
        let other : nat_lt c (length d.rows) ≡ true = within_test c (length d.rows) lc in
        let child : is_child d n c ≡ true = ap (λ x. is_node n (node_in x)) under ∙ eq-eqb n n refl in
        rw (one, other, child) refl

-- the document in the order of the rows
abbrev retold : ℕ → ℕ → List ℕ → List ℕ → Doc → Doc
retold n r us cs d = put n (length d.rows) (create r (Text us) (all_taken n cs d))

refilled_alike : (d : Doc) (n r k : ℕ) (us : List ℕ) → Reached d → Stands d n r k → children_in (row_at (all_taken n (children_in (row_at d n)) d) n) ≡ [] → nodes_seen (refilled n us d) r ≡ nodes_seen (retold n r us (children_in (row_at d n)) d) r
refilled_alike d n r k us a is none_left = seen_alike v f r owners roots what parents children
  where
    at : ℕ
    at = length d.rows

    root : Option ℕ
    root = root_in (owner_of d n)

    e : Doc
    e = with_text_in n root us d

    g : Doc
    g = swapped n root us d

    f : Doc
    f = refilled n us d

    cs : List ℕ
    cs = children_in (row_at d n)

    ns : List ℕ
    ns = children_in (row_at e n)

    t : Doc
    t = all_taken n cs d

    u : Doc
    u = create r (Text us) t

    v : Doc
    v = put n at u

    s : Same d t
    s = same-all_taken n cs d

    less : n < length d.rows
    less = there_in d n r k a.owned is

    same_list : ns ≡ cs
    same_list = list-new (under_node n) root (Text us) [] d (under_node n)

    se : Same e f
    se = same-then e g f (same-edited e n (over (at ∷ []))) (same-freed ns g)

    sv : Same u v
    sv = same-put n at u

    owners : f.owners ≡ v.owners
    owners =
        se.0 ∙ ap (λ o. d.owners ++ next_owner d.roots o ∷ []) (ap root_in is)
        ∙ sym (sv.0 ∙ ap (λ os. os ++ next_owner t.roots (Some r) ∷ []) s.0 ∙ ap (λ rs. d.owners ++ next_owner rs (Some r) ∷ []) s.1)

    roots : f.roots ≡ v.roots
    roots =
        se.1 ∙ ap (λ o. with_owned o at d.roots) (ap root_in is)
        ∙ sym (sv.1 ∙ ap (λ rs. with_owned (Some r) (length t.rows) rs) s.1 ∙ ap (λ i. with_owned (Some r) i d.roots) s.2)

    -- the new row, and an old one
    new_in_u : row_at u at ≡ Some (fresh Detached (Text us) [])
    new_in_u = ap (row_at u) (sym s.2) ∙ new-here Detached (Some r) (Text us) [] t

    old_in_u : (m : ℕ) → m ≢ at → row_at u m ≡ row_at t m
    old_in_u m ne = new-other Detached (Some r) (Text us) [] t m (λ h. ne (h ∙ s.2))

    what : (m : ℕ) → bare (row_at f m) ≡ bare (row_at v m)
    what m =
        let first = freed_part bare ns m g (λ q x. refl) ∙ edited-same bare e n m (over (at ∷ [])) (λ r. refl) in
        let second = put_part bare n at m u (λ ns x. refl) (λ o x. refl) in
        let cases = elim (eqb m at) as (λ b. eqb m at ≡ b → bare (row_at e m) ≡ bare (row_at u m)) [
          | true ↦ λ same. subst (λ x. bare (row_at e x) ≡ bare (row_at u x)) (sym (eqb-true m at same)) (ap bare (new-here (under_node n) root (Text us) [] d) ∙ sym (ap bare new_in_u))
          | false ↦ λ other. let ne = apart m at other in ap bare (new-other (under_node n) root (Text us) [] d m ne) ∙ sym (ap bare (old_in_u m ne) ∙ all_taken-part bare n cs m d (λ ns x. refl) (λ o x. refl))
        ] in first ∙ cases refl ∙ sym second

    swapped_parents : (m : ℕ) → parent_in (row_at g m) ≡ parent_in (row_at e m)
    swapped_parents m = edited-same parent_in e n m (over (at ∷ [])) (λ r. refl)

    put_other : (m : ℕ) → m ≢ at → parent_in (row_at v m) ≡ parent_in (row_at t m)
    put_other m ne = placed-other at m (under_node n) (with_child n at u) ne ∙ listed-parents (under_node n) at m u ∙ ap parent_in (old_in_u m ne)

    at_there : at < length (with_child n at u).rows
    at_there = let more = same-edited u n (λ x. over (x.children ++ at ∷ []) x) in omega (arith, more.2, new-length Detached (Some r) (Text us) [] t, s.2)

    not_in : times at cs ≡ 0
    not_in = no_list d (under_node n) a.forest.listed

    parents : (m : ℕ) → parent_in (row_at f m) ≡ parent_in (row_at v m)
    parents m =
        let cases = elim (eqb m at) as (λ b. eqb m at ≡ b → parent_in (row_at f m) ≡ parent_in (row_at v m)) [
          | true ↦ λ same. subst (λ x. parent_in (row_at f x) ≡ parent_in (row_at v x)) (sym (eqb-true m at same)) new
          | false ↦ λ other. old m (apart m at other) (times m cs) refl
        ] in cases refl
      where
        new : parent_in (row_at f at) ≡ parent_in (row_at v at)
        new = freed-out ns at g (ap (times at) same_list ∙ not_in) ∙ swapped_parents at ∙ ap parent_in (new-here (under_node n) root (Text us) [] d) ∙ sym (placed-here at (under_node n) (with_child n at u) at_there)

        old : (m : ℕ) → m ≢ at → (i : ℕ) → times m cs ≡ i → parent_in (row_at f m) ≡ parent_in (row_at v m)
        old m ne zero h =
            freed-out ns m g (ap (times m) same_list ∙ h) ∙ swapped_parents m ∙ ap parent_in (new-other (under_node n) root (Text us) [] d m ne)
            ∙ sym (put_other m ne ∙ all_taken-out n cs m d h)
        old m ne (suc i) h =
            let many : 0 < times m ns = subst (λ xs. 0 < times m xs) (sym same_list) (omega (arith, h)) in
            freed-in ns m g many ∙ sym (put_other m ne ∙ all_taken-in n cs m d (omega (arith, h)))

    children : (m : ℕ) → children_in (row_at f m) ≡ children_in (row_at v m)
    children m =
        let first = list-freed ns g (under_node m) ∙ list-over n (at ∷ []) e (under_node m) (omega (arith, less, new-length (under_node n) root (Text us) [] d)) ∙ ap (cond (nat_eq m n) (at ∷ [])) (list-new (under_node n) root (Text us) [] d (under_node m)) in
        let second =
        list-edited (with_child n at u) at (placed (under_node n)) (under_node m) (λ x. refl)
        ∙ list-listed (under_node n) at u (under_node m) (omega (arith, less, s.2, new-length Detached (Some r) (Text us) [] t))
        ∙ ap (with_last (nat_eq m n) at) (list-new Detached (Some r) (Text us) [] t (under_node m)) in
        first ∙ cases (nat_eq m n) refl ∙ sym second
      where
        cases : (b : Bool) → nat_eq m n ≡ b → cond b (at ∷ []) (children_in (row_at d m)) ≡ with_last b at (children_in (row_at t m))
        cases true same = ap (λ xs. xs ++ at ∷ []) (sym (ap (λ x. children_in (row_at t x)) (eqb-true m n same) ∙ none_left))
        cases false other = sym (all_taken-list n cs m d (apart m n other))

refilled_seen : (d : Doc) (n r k : ℕ) (us : List ℕ) → Reached d → IsClear d → Stands d n r k
    → nodes_seen (refilled n us d) r ≡ attached k (length (nodes_seen d r)) (all_detached (node_at (nodes_seen d r) k).children (nodes_seen d r) ++ text_node us ∷ [])
refilled_seen d n r k us a clear is =
    let cs = children_in (row_at d n) in
    let at = length d.rows in
    let t = all_taken n cs d in
    let u = create r (Text us) t in
    let s = same-all_taken n cs d in
    let ns = nodes_seen d r in
    let x = emptied n r k cs d a is (λ m more. not_first d n m r k clear is (stands_there d n m a more)) refl in
    let here : Stands t n r k = stands-same d t n r k s is in
    let kept = create_keeps r (Text us) t x.reached (root_there t n r k x.reached here) in
    let many : length (nodes_seen t r) ≡ length ns = length-map (nodes_of t.roots r) (node_seen t) ∙ ap (λ rs. length (nodes_of rs r)) s.1 ∙ sym (length-map (nodes_of d.roots r) (node_seen d)) in
    let new : Stands u at r (length ns) = ap (owner_of u) (sym s.2) ∙ created_stands r (Text us) t x.reached ∙ ap (λ i. Some (r, i)) many in
    let within : k < length ns = number_within d n r k a.owned is in
    let lent : is_granted (owner_of u at) ≡ false = ap is_granted new ∙ not_same (length ns) 0 (λ h. omega (arith, within, h)) in
    let still : Stands u n r k = kept.1.owners n (there_in t n r k x.reached.owned here) ∙ here in
    refilled_alike d n r k us a is x.none
    ∙ put_seen u n at r k (length ns) kept.0.owned still new lent
    ∙ ap (attached k (length ns)) (create_text_is_seen t n r k us x.reached here ∙ ap (λ ys. ys ++ text_node us ∷ []) x.seen)
    ∙ ap (λ (o : Node). attached k (length ns) (all_detached o.children ns ++ text_node us ∷ [])) (sym (at_number d n r k a.owned is))

pub set_text_is_seen : (d e : Doc) (n r k : ℕ) (us : List ℕ) → Reached d → IsClear d → Stands d n r k → set_text n us d ≡ Ok e → nodes_seen e r ≡ changed (sets_text us) k (nodes_seen d r)
set_text_is_seen d e n r k us a clear is h = at (row_at d n) refl h
  where
    ns : List Node
    ns = nodes_seen d r

    of : (x : Row) (c : NewNode) → ◌≡◌ {A = Option Row} (row_at d n) (Some x) → x.content ≡ c → filled n us c d ≡ e → nodes_seen e r ≡ changed (sets_text us) k ns
    of x (Text old) here text done = ap (λ y. nodes_seen y r) (sym done) ∙ held_text d n r k old us a is x here text
    of x (Element tag) here element done =
        let one : nat_lt k (length ns) ≡ true = within_test k (length ns) (number_within d n r k a.owned is) in
        let tags : ◌≡◌ {A = Option (List ℕ)} (tag_in (row_at d n)) (Some tag) = ap tag_in here ∙ ap tag_in_content element in
        let no : is_text (node_at ns k) ≡ false = ap (λ (o : Node). is_text o) (at_number d n r k a.owned is) ∙ ap (λ o. same_units (tag_or_text o) text_tag) tags ∙ clear.named n tag tags in
        ap (λ y. nodes_seen y r) (sym done)
        ∙ refilled_seen d n r k us a clear is
        ∙ ap (λ b. cond b (slice_set ns k (doc.with_text us (node_at ns k))) (attached k (length ns) (all_detached (node_at ns k).children ns ++ text_node us ∷ []))) (sym no)
        ∙ ap (λ b. cond b (cond (is_text (node_at ns k)) (slice_set ns k (doc.with_text us (node_at ns k))) (attached k (length ns) (all_detached (node_at ns k).children ns ++ text_node us ∷ []))) ns) (sym one)

    at : (o : Option Row) → row_at d n ≡ o → with_text n us o d ≡ Ok e → nodes_seen e r ≡ changed (sets_text us) k ns
    at None here h = cc
    at (Some x) here h = of x x.content here refl (cc)
