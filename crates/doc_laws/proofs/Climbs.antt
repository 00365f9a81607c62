-- Chains of parents: they are no longer than the rows are many, and stay so.
use Rattle.std.proofs.Common.{◌≡◌, ℕ, zero, suc, ◌<◌, ◌≤◌, Bool, true, false, ◌||◌, cond, inl, inr, ◌∙◌, List, [], ◌∷◌, Option, Some, None, length, refl, sym, ap, subst, arith}
use Rattle.std.specs.Prelude.{nat_eq, ◌⊎◌}
use Rattle.std.specs.List.{IsDistinct, list_any, AllByRecursion}
use Rattle.std.proofs.Math.Dec.{eqb}
use Rattle.std.proofs.lemmas.Bool.{eqb-true, eq-eqb}
use Rattle.std.proofs.lemmas.Map.Keys.{IsDistinct-cons}
use Rattle.std.proofs.lemmas.Map.Steps.{length-le_from_distinct_below}
use Rattle.doc_nodes.specs.Rows.{Doc, row_at, parent_in, children_in, node_in, parent_of, is_leaf, climbs, is_at_or_above}
use Rattle.doc_nodes.specs.declared.node.Parent.{Parent}
use Rattle.doc_nodes.specs.declared.node.Parent.TheVariants.{Detached, Document, Node}
use Rattle.doc_laws.specs.Forest.{Ends, at_top, goes_up, Above, here, higher, Ways, IsForest, one_if, times, is_list_of}

-- the nodes on the way up
chain : (d : Doc) (n : ℕ) → Ends d n → List ℕ
chain d n (at_top _ h) = n ∷ []
chain d n (goes_up _ p h e) = n ∷ chain d p e

-- a node has one chain
unique : (d : Doc) (n m : ℕ) → n ≡ m → (e : Ends d n) (f : Ends d m) → length (chain d n e) ≡ length (chain d m f)
unfolding chain
unique d n m s (at_top _ h) (at_top _ k) = refl
unique d n m s (at_top _ h) (goes_up _ q k f) = cc
unique d n m s (goes_up _ p h e) (at_top _ k) = cc
unique d n m s (goes_up _ p h e) (goes_up _ q k f) = ap suc (unique d p q (cc) e f)

abbrev Inner : Doc → ℕ → ℕ → Type 0
Inner d m k = (f : Ends d m) × (length (chain d m f) ≤ k)

longer : (d : Doc) (m k j : ℕ) → k ≤ j → Inner d m k → Inner d m j
longer d m k j h i = (i.0, omega (arith, i.1))

equal : (d : Doc) (n m k : ℕ) → m ≡ n → Inner d n k → Inner d m k
equal d n m k s i = subst (λ x. Inner d x k) (sym s) i

-- what stands in a chain has a chain that is no longer
inner : (d : Doc) (n m : ℕ) (e : Ends d n) → list_any (eqb m) (chain d n e) ≡ true → Inner d m (length (chain d n e))
unfolding chain
inner d n m (at_top _ h) is =
    let cases = elim (eqb m n) as (λ b. eqb m n ≡ b → (b || false) ≡ true → Inner d m 1) [
      | true ↦ λ same _. equal d n m 1 (eqb-true m n same) (at_top n h, omega arith)
      | false ↦ λ other no. cc
    ] in cases refl is
inner d n m (goes_up _ p h e) is =
    let cases = elim (eqb m n) as (λ b. eqb m n ≡ b → (b || list_any (eqb m) (chain d p e)) ≡ true → Inner d m (suc (length (chain d p e)))) [
      | true ↦ λ same _. equal d n m (suc (length (chain d p e))) (eqb-true m n same) (goes_up n p h e, omega arith)
      | false ↦ λ other in_rest. longer d m (length (chain d p e)) (suc (length (chain d p e))) (omega arith) (inner d p m e in_rest)
    ] in cases refl is

-- no node stands above itself
not_again : (d : Doc) (n p : ℕ) (h : ◌≡◌ {A = Option ℕ} (parent_of d n) (Some p)) (e : Ends d p) → list_any (eqb n) (chain d p e) ≡ true → ⊥
unfolding chain
not_again d n p h e is =
    let i = inner d p n e is in
    let same : length (chain d n i.0) ≡ suc (length (chain d p e)) = unique d n n refl i.0 (goes_up n p h e) in
    omega (arith, i.1, same)

all_other : (n : ℕ) (xs : List ℕ) → (list_any (eqb n) xs ≡ true → ⊥) → AllByRecursion (λ y. eqb n y ≡ false) xs
all_other n [] h = tt
all_other n (x ∷ xs) h =
    let cases = elim (eqb n x) as (λ b. eqb n x ≡ b → ((b || list_any (eqb n) xs) ≡ true → ⊥) → (eqb n x ≡ false) × AllByRecursion (λ y. eqb n y ≡ false) xs) [
      | true ↦ λ same no. absurd (no refl)
      | false ↦ λ other no. (other, all_other n xs no)
    ] in cases refl h

distinct : (d : Doc) (n : ℕ) (e : Ends d n) → IsDistinct eqb (chain d n e)
unfolding chain IsDistinct
distinct d n (at_top _ h) = (tt, tt)
distinct d n (goes_up _ p h e) = IsDistinct-cons eqb n (chain d p e) (all_other n (chain d p e) (not_again d n p h e)) (distinct d p e)

below : (d : Doc) (n q : ℕ) → Ways d → n < length d.rows → (e : Ends d n) → list_any (eqb q) (chain d n e) ≡ true → q < length d.rows
unfolding chain
below d n q f less (at_top _ h) is =
    let cases = elim (eqb q n) as (λ b. eqb q n ≡ b → (b || false) ≡ true → q < length d.rows) [
      | true ↦ λ same _. let at : q ≡ n = eqb-true q n same in omega arith
      | false ↦ λ other no. cc
    ] in cases refl is
below d n q f less (goes_up _ p h e) is =
    let cases = elim (eqb q n) as (λ b. eqb q n ≡ b → (b || list_any (eqb q) (chain d p e)) ≡ true → q < length d.rows) [
      | true ↦ λ same _. let at : q ≡ n = eqb-true q n same in omega arith
      | false ↦ λ other in_rest. below d p q f (f.within n p h) e in_rest
    ] in cases refl is

-- a chain is no longer than the rows are many
short : (d : Doc) (n : ℕ) → Ways d → n < length d.rows → (e : Ends d n) → length (chain d n e) ≤ length d.rows
short d n f less e = length-le_from_distinct_below (chain d n e) (length d.rows) (distinct d n e) (λ q. below d n q f less e)

-- so many steps go up from a node
abbrev pub Steps : ℕ → Doc → ℕ → Type 0
Steps zero d n = Unit {0}
Steps (suc k) d n = (p : ℕ) × (◌≡◌ {A = Option ℕ} (parent_of d n) (Some p)) × Steps k d p

steps_in : (k : ℕ) (d : Doc) (n : ℕ) (e : Ends d n) → Steps k d n → k < length (chain d n e)
unfolding chain
steps_in zero d n (at_top _ h) s = omega arith
steps_in zero d n (goes_up _ p h e) s = omega arith
steps_in (suc k) d n (at_top _ h) s = let both : ◌≡◌ {A = Option ℕ} None (Some s.0) = sym h ∙ s.1 in cc (both)
steps_in (suc k) d n (goes_up _ p h e) s =
    let same : s.0 ≡ p = let both : ◌≡◌ {A = Option ℕ} (Some s.0) (Some p) = sym s.1 ∙ h in cc (both) in
    omega (arith, steps_in k d p e (subst (Steps k d) same s.2))

-- fewer than the rows are many
pub steps_are_few : (k : ℕ) (d : Doc) (n : ℕ) → Ways d → n < length d.rows → Steps k d n → k < length d.rows
steps_are_few k d n f less s = omega (arith, steps_in k d n (f.ends n) s, short d n f less (f.ends n))

or_true : (b : Bool) → (b || true) ≡ true
or_true true = refl
or_true false = refl

-- what stands above is found within the length of the chain
found : (k : ℕ) (d : Doc) (c n : ℕ) (e : Ends d n) → Above d c n → length (chain d n e) ≤ k → climbs k d c (Some n) ≡ true
unfolding chain
found zero d c n (at_top _ h) a less = absurd (omega arith)
found zero d c n (goes_up _ p h e) a less = absurd (omega arith)
found (suc k) d c n e (here _ s) less = rw (eq-eqb n c (sym s)) refl
found (suc k) d c n (at_top _ h) (higher _ q g a) less = cc
found (suc k) d c n (goes_up _ p h e) (higher _ q g a) less =
    let same : q ≡ p = cc in
    let up : Above d c p = subst (λ x. Above d c x) same a in
    rw (h, found k d c p e up (omega arith)) (or_true (nat_eq n c))

-- what is found stands above
sound : (k : ℕ) (d : Doc) (c : ℕ) (o : Option ℕ) (n : ℕ) → o ≡ Some n → climbs k d c o ≡ true → Above d c n
sound k d c None n s is = cc
sound zero d c (Some m) n s is = cc
sound (suc k) d c (Some m) n s is =
    let at : m ≡ n = cc in
    let cases = elim (nat_eq m c) as (λ b. nat_eq m c ≡ b → (b || climbs k d c (parent_of d m)) ≡ true → Above d c m) [
      | true ↦ λ same _. here m (sym (eqb-true m c same))
      | false ↦ λ other up. above k d c m (parent_of d m) (λ p. sound k d c (Some p) p refl) refl up
    ] in subst (λ x. Above d c x) at (cases refl is)
  where
    above : (k : ℕ) (d : Doc) (c m : ℕ) (o : Option ℕ) → ((p : ℕ) → climbs k d c (Some p) ≡ true → Above d c p) → parent_of d m ≡ o → climbs k d c o ≡ true → Above d c m
    above k d c m None go h up = cc
    above k d c m (Some p) go h up = higher m p h (go p up)

-- what stands above another node has a child
has_child : (d : Doc) (c n : ℕ) → Above d c n → (c ≡ n) ⊎ ((m : ℕ) × (◌≡◌ {A = Option ℕ} (parent_of d m) (Some c)))
has_child d c n (here _ s) = inl s
has_child d c n (higher _ p h a) = elim (has_child d c p a) [ inl same ↦ inr (n, h ∙ ap (λ x. Some x) (sym same)) | inr child ↦ inr child ]

-- a parent that is a node
pub stands_under : (p : Parent) (c : ℕ) → node_in p ≡ Some c → p ≡ Node c
stands_under Detached c h = cc
stands_under Document c h = cc
stands_under (Node q) c h = let same : q ≡ c = cc in ap (λ x. Node x) same

none_in : (n : ℕ) (xs : List ℕ) → length xs ≡ 0 → times n xs ≡ 0
none_in n [] h = refl
none_in n (x ∷ xs) h = absurd (omega arith)

-- what has no child is the parent of nothing
no_child : (d : Doc) (c m : ℕ) → IsForest d → is_leaf d c ≡ true → ◌≡◌ {A = Option ℕ} (parent_of d m) (Some c) → ⊥
no_child d c m f leaf h =
    let none : times m (children_in (row_at d c)) ≡ 0 = none_in m (children_in (row_at d c)) (eqb-true (length (children_in (row_at d c))) 0 leaf) in
    let once : times m (children_in (row_at d c)) ≡ one_if (is_list_of (Node c) (parent_in (row_at d m))) = f.listed (Node c) m in
    let at : is_list_of (Node c) (parent_in (row_at d m)) ≡ true = ap (is_list_of (Node c)) (stands_under (parent_in (row_at d m)) c h) ∙ eq-eqb c c refl in
    let one : times m (children_in (row_at d c)) ≡ 1 = once ∙ ap one_if at in
    omega (arith, none, one)

abbrev Same : Bool → Type 0 → Type 0
Same b A = (b ≡ true → A) × (A → b ≡ true)

pub above_is_found : (d : Doc) (c n : ℕ) → IsForest d → n < length d.rows → Same (is_at_or_above d c n) (Above d c n)
above_is_found d c n f less =
    let cases = elim (is_leaf d c) as (λ b. is_leaf d c ≡ b → Same (cond b (nat_eq n c) (climbs (length d.rows) d c (Some n))) (Above d c n)) [
      | true ↦ λ leaf. (λ is. here n (sym (eqb-true n c is)), λ a. elim (has_child d c n a) [ inl same ↦ eq-eqb n c (sym same) | inr child ↦ absurd (no_child d c child.0 f leaf child.1) ])
      | false ↦ λ other. (sound (length d.rows) d c (Some n) n refl, λ a. found (length d.rows) d c n (f.ways.ends n) a (short d n f.ways less (f.ways.ends n)))
    ] in cases refl
