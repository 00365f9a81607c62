-- What is at and above a node, as it is seen, and whether a node is a child.
use Rattle.std.proofs.Common.{◌≡◌, ℕ, zero, suc, ◌+◌, ◌<◌, Bool, true, false, ◌||◌, List, [], ◌∷◌, Option, Some, None, length, cond, refl, sym, ap, ◌∙◌, subst, arith, inl, inr}
use Rattle.std.specs.Prelude.{map, nat_eq, slice_get, codes}
use Rattle.std.specs.Option.{option_map}
use Rattle.std.proofs.Math.Dec.{eqb}
use Rattle.std.proofs.lemmas.Bool.{eqb-true, eq-eqb}
use Rattle.doc_nodes.specs.declared.node.Parent.TheVariants.{Node as under_node}
use Rattle.doc_nodes.specs.Rows.{Doc, row_at, parent_in, node_in, children_in, owner_of, parent_of, same_root, is_granted, is_at_or_above}
use Rattle.doc_nodes.specs.Changes.{is_child, is_node}
use Rattle.doc_laws.specs.Forest.{Above, here, higher, times, one_if, is_list_of}
use Rattle.doc_laws.specs.Owned.{Owned}
use Rattle.doc_laws.specs.Reached.{Reached}
use Rattle.doc_laws.proofs.Climbs.{Steps, above_is_found}
use Rattle.doc_laws.proofs.Changed.{child-at}
use Rattle.node_deeds.specs.Deeds.{lent_parent}
use Rattle.deed_laws.proofs.Nodes.{is_there, still_there, stands_there}
use Rattle.rows.specs.Rows.{null, held}
use Rattle.rows.specs.Document.{Node, node_at, of_parent, at_and_above, attribute}
use Rattle.rows.specs.Branches.{with_ids}
use Rattle.rows.specs.Nodes.{is_in, has_id, of_id}
use Rattle.doc_views.specs.Seen.{local, nodes_seen, Stands, first_of}
use Rattle.doc_views.specs.Clear.{IsClear}
use Rattle.doc_views.proofs.Views.{there_in, number_is, at_number, parent_is_seen, child_in, one_node}
use Rattle.doc_views.proofs.Ways.{within, within-parent, few_within}

-- what stands above a node of no root is of none
none_above : (d : Doc) (c p : ℕ) → Reached d → Above d c p → owner_of d p ≡ None → owner_of d c ≡ None
none_above d c p a (here _ s) none = ap (owner_of d) s ∙ none
none_above d c p a (higher _ q h up) none = none_above d c q a up (elim (a.roots.under p q h) [
  | inl same ↦ other (owner_of d q) (subst (λ o. same_root o (owner_of d q) ≡ true) none same)
  | inr alone ↦ alone.1
])
  where
    other : (o : Option (ℕ × ℕ)) → same_root None o ≡ true → o ≡ None
    other None h = refl
    other (Some x) h = cc

pub parent_of_node : (d : Doc) (n r k : ℕ) → Owned d → Stands d n r k → (o : Option ℕ) → lent_parent d n ≡ o → (node_at (nodes_seen d r) k).parent ≡ option_map (local d) o
parent_of_node d n r k owned is o up = ap (λ (x : Node). x.parent) (at_number d n r k owned is) ∙ ap (option_map (local d)) up

-- it is found at some level, so many steps up
record IsFound (d : Doc) (r j k : ℕ) : Type 0 where
  pub level : ℕ
  pub steps : Steps level (within d r) k
  pub found : (l : ℕ) → level < l → is_in j (at_and_above l (nodes_seen d r) k) ≡ true

or_true : (b : Bool) → (b || true) ≡ true
or_true true = refl
or_true false = refl

found_above : (d : Doc) (c n r k j : ℕ) → Reached d → IsClear d → Stands d n r k → Stands d c r j → Above d c n → IsFound d r j k
found_above d c n r k j a clear is it (here _ s) = record { level = 0; steps = tt; found = found }
  where
    same : j ≡ k
    same = sym (number_is d c r j it) ∙ ap (local d) s ∙ number_is d n r k is

    found : (l : ℕ) → 0 < l → is_in j (at_and_above l (nodes_seen d r) k) ≡ true
    found zero less = absurd (omega (arith, less))
    found (suc l) less = rw (eq-eqb j k same) refl
found_above d c n r k j a clear is it (higher _ p h up) = at (λ q stands. found_above d c p r q j a clear stands it up) (is_granted (owner_of d n)) refl
  where
    none : (o : Option (ℕ × ℕ)) → o ≡ None → o ≡ Some (r, j) → ⊥
    none o x y = cc

    at : ((q : ℕ) → Stands d p r q → IsFound d r j q) → (b : Bool) → is_granted (owner_of d n) ≡ b → IsFound d r j k
    at go true first = absurd (none (owner_of d c) (none_above d c p a up (clear.first n p first h)) it)
    at go false lent = record { level = suc rest.level; steps = (local d p, within-parent d n r k a.owned is ∙ ap (option_map (local d)) above, rest.steps); found = found }
      where
        above : lent_parent d n ≡ Some p
        above = ap (λ b. cond b None (parent_of d n)) lent ∙ h

        rest : IsFound d r j (local d p)
        rest = go (local d p) (parent_is_seen d n r k p a is above)

        found : (l : ℕ) → suc rest.level < l → is_in j (at_and_above l (nodes_seen d r) k) ≡ true
        found zero less = absurd (omega (arith, less))
        found (suc l) less =
            ap (λ o. nat_eq j k || is_in j (of_parent (at_and_above l (nodes_seen d r)) o)) (parent_of_node d n r k a.owned is (Some p) above)
            ∙ ap (λ b. nat_eq j k || b) (rest.found l (omega (arith, less))) ∙ or_true (nat_eq j k)

lent_is : (d : Doc) (n p : ℕ) → ◌≡◌ {A = Option ℕ} (lent_parent d n) (Some p) → ◌≡◌ {A = Option ℕ} (parent_of d n) (Some p)
lent_is d n p h = at (is_granted (owner_of d n)) h
  where
    at : (b : Bool) → ◌≡◌ {A = Option ℕ} (cond b None (parent_of d n)) (Some p) → ◌≡◌ {A = Option ℕ} (parent_of d n) (Some p)
    at true h = cc
    at false h = h

sound_above : (l : ℕ) (d : Doc) (c n r k j : ℕ) → Reached d → Stands d n r k → Stands d c r j → is_in j (at_and_above l (nodes_seen d r) k) ≡ true → Above d c n
sound_above zero d c n r k j a is it h = cc
sound_above (suc l) d c n r k j a is it h =
    let cases = elim (nat_eq j k) as (λ b. nat_eq j k ≡ b → (b || is_in j (of_parent (at_and_above l (nodes_seen d r)) (node_at (nodes_seen d r) k).parent)) ≡ true → Above d c n) [
      | true ↦ λ same found. here n (one_node d c n r k a.owned (it ∙ ap (λ x. Some (r, x)) (eqb-true j k same)) is)
      | false ↦ λ other found. up (λ p stands is_found. sound_above l d c p r (local d p) j a stands it is_found) (lent_parent d n) refl found
    ] in cases refl h
  where
    up : ((p : ℕ) → Stands d p r (local d p) → is_in j (at_and_above l (nodes_seen d r) (local d p)) ≡ true → Above d c p) → (o : Option ℕ) → lent_parent d n ≡ o → is_in j (of_parent (at_and_above l (nodes_seen d r)) (node_at (nodes_seen d r) k).parent) ≡ true → Above d c n
    up go None above found =
        let none : is_in j (of_parent (at_and_above l (nodes_seen d r)) (option_map (local d) None)) ≡ true = subst (λ o. is_in j (of_parent (at_and_above l (nodes_seen d r)) o) ≡ true) (parent_of_node d n r k a.owned is None above) found in cc (none)
    up go (Some p) above found =
        higher n p (lent_is d n p above) (go p (parent_is_seen d n r k p a is above) (subst (λ o. is_in j (of_parent (at_and_above l (nodes_seen d r)) o) ≡ true) (parent_of_node d n r k a.owned is (Some p) above) found))

-- two tests of one fact
same_test : (A : Type 0) (b c : Bool) → (b ≡ true → A) → (A → b ≡ true) → (c ≡ true → A) → (A → c ≡ true) → b ≡ c
same_test A true c b_is is_b c_is is_c = sym (is_c (b_is refl))
same_test A false true b_is is_b c_is is_c = is_b (c_is refl)
same_test A false false b_is is_b c_is is_c = refl

pub above_is_seen : (d : Doc) (n c r k j : ℕ) → Reached d → IsClear d → Stands d n r k → Stands d c r j → is_in j (at_and_above (length (nodes_seen d r)) (nodes_seen d r) k) ≡ is_at_or_above d c n
above_is_seen d n c r k j a clear is it =
    let test = above_is_found d c n a.forest (there_in d n r k a.owned is) in
    same_test (Above d c n) (is_in j (at_and_above (length (nodes_seen d r)) (nodes_seen d r) k)) (is_at_or_above d c n)
    (λ found. sound_above (length (nodes_seen d r)) d c n r k j a is it found)
    (λ up. let f = found_above d c n r k j a clear is it up in f.found (length (nodes_seen d r)) (few_within f.level d n r k a is f.steps))
    test.0 test.1

-- a number in a list of numbers
in_map : (f : ℕ → ℕ) (c : ℕ) (xs : List ℕ) → 0 < times c xs → is_in (f c) (map f xs) ≡ true
in_map f c [] more = absurd (omega (arith, more))
in_map f c (x ∷ xs) more =
    let cases = elim (nat_eq x c) as (λ b. nat_eq x c ≡ b → 0 < one_if b + times c xs → (nat_eq (f c) (f x) || is_in (f c) (map f xs)) ≡ true) [
      | true ↦ λ same some. rw (eq-eqb (f c) (f x) (ap f (sym (eqb-true x c same)))) refl
      | false ↦ λ other some. rw (in_map f c xs (omega (arith, some))) (or_true (nat_eq (f c) (f x)))
    ] in cases refl more

of_map : (f : ℕ → ℕ) (j : ℕ) (xs : List ℕ) → is_in j (map f xs) ≡ true → (m : ℕ) × (0 < times m xs) × (f m ≡ j)
of_map f j [] h = cc
of_map f j (x ∷ xs) h =
    let cases = elim (nat_eq j (f x)) as (λ b. nat_eq j (f x) ≡ b → (b || is_in j (map f xs)) ≡ true → (m : ℕ) × (0 < times m (x ∷ xs)) × (f m ≡ j)) [
      | true ↦ λ same found. (x, is_there x xs, sym (eqb-true j (f x) same))
      | false ↦ λ other found. let rest = of_map f j xs found in (rest.0, still_there rest.0 x xs rest.1, rest.2)
    ] in cases refl h

pub child_is_seen : (d : Doc) (n c r k j : ℕ) → Reached d → Stands d n r k → Stands d c r j → is_in j (node_at (nodes_seen d r) k).children ≡ is_child d n c
child_is_seen d n c r k j a is it =
    let cs = children_in (row_at d n) in
    ap (λ (x : Node). is_in j x.children) (at_number d n r k a.owned is)
    ∙ same_test (0 < times c cs) (is_in j (map (local d) cs)) (is_child d n c)
    (λ found.
    let m = of_map (local d) j cs found in
    let stands : Stands d m.0 r j = child_in d n r k m.0 a is m.1 ∙ ap (λ x. Some (r, x)) m.2 in
    subst (λ x. 0 < times x cs) (one_node d m.0 c r j a.owned stands it) m.1)
    (λ more. ap (λ x. is_in x (map (local d) cs)) (sym (number_is d c r j it)) ∙ in_map (local d) c cs more)
    (λ child. let once = a.forest.listed (under_node n) c ∙ ap (λ x. one_if (is_list_of (under_node n) x)) (child-at (parent_in (row_at d c)) n child) ∙ ap one_if (eq-eqb n n refl) in omega (arith, once))
    (λ more. ap (λ x. is_node n (node_in x)) (stands_there d n c a more) ∙ eq-eqb n n refl)

-- what a row answers by an id
pub answer_by_id : (id : List ℕ) (ns : List Node) (b : ℕ) (ks : List ℕ)
    → (first_of id ns ks ≡ None → of_id id (with_ids ns b ks) ≡ null)
    × ((k : ℕ) → first_of id ns ks ≡ Some k → (i : ℕ) × (◌≡◌ {A = Option ℕ} (slice_get ks i) (Some k)) × (of_id id (with_ids ns b ks) ≡ held (b + i)))
answer_by_id id ns b [] = (λ h. refl, λ k h. cc)
answer_by_id id ns b (x ∷ ks) = at (has_id id (attribute (codes "id") (node_at ns x).attributes)) (answer_by_id id ns (b + 1) ks)
  where
    at : (t : Bool)
        → ((first_of id ns ks ≡ None → of_id id (with_ids ns (b + 1) ks) ≡ null) × ((k : ℕ) → first_of id ns ks ≡ Some k → (i : ℕ) × (◌≡◌ {A = Option ℕ} (slice_get ks i) (Some k)) × (of_id id (with_ids ns (b + 1) ks) ≡ held (b + 1 + i))))
        → (cond t (Some x) (first_of id ns ks) ≡ None → cond t (held b) (of_id id (with_ids ns (b + 1) ks)) ≡ null)
        × ((k : ℕ) → cond t (Some x) (first_of id ns ks) ≡ Some k → (i : ℕ) × (◌≡◌ {A = Option ℕ} (slice_get (x ∷ ks) i) (Some k)) × (cond t (held b) (of_id id (with_ids ns (b + 1) ks)) ≡ held (b + i)))
    at true rest = (λ h. cc, λ k h. (0, h, ap (λ y. held y) (let e : b ≡ b + 0 = omega arith in e)))
    at false rest = (rest.0, λ k h. let r = rest.1 k h in (suc r.0, r.1, r.2 ∙ ap (λ y. held y) (let e : b + 1 + r.0 ≡ b + suc r.0 = omega arith in e)))
