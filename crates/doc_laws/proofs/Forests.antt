-- No change closes a circle, and lists go on telling what parents tell.
use Rattle.std.proofs.Common.{◌≡◌, ◌≢◌, ℕ, zero, suc, ◌<◌, Bool, true, false, List, [], ◌∷◌, ◌++◌, Option, Some, None, length, cond, nat_eq, refl, sym, ap, ◌∙◌, subst, arith, inl, inr}
use Rattle.std.specs.Prelude.{◌⊎◌}
use Rattle.std.proofs.Math.Dec.{eqb}
use Rattle.std.proofs.lemmas.Bool.{eqb-true, eq-eqb}
use Rattle.html_tree.specs.declared.Attr.{Attr}
use Rattle.doc_nodes.specs.declared.node.Parent.{Parent}
use Rattle.doc_nodes.specs.declared.node.Parent.TheVariants.{Detached, Document, Node}
use Rattle.doc_nodes.specs.declared.node.NewNode.{NewNode}
use Rattle.doc_nodes.specs.declared.node.NewNode.TheVariants.{Text}
use Rattle.doc_nodes.specs.Rows.{Row, Doc, row_at, parent_in, parent_of, node_in, children_in, is_at_or_above}
use Rattle.doc_nodes.specs.Changes.{edited, over, listed, moved, taken, freed, with_node, joined}
use Rattle.doc_laws.specs.Forest.{Ends, at_top, goes_up, Above, here, higher, Ways, one_if, times, list_at, is_list_of, Listed, IsForest}
use Rattle.doc_laws.proofs.Lists.{get_past, apart, not_same, times-push, times-without, times-without_other}
use Rattle.doc_laws.proofs.Edits.{same-moved, same-taken, same-edited, same-freed, same-listed, edited-same, listed-parents, moved-here, moved-other, taken-here, taken-other, new-here, new-other, new-length, freed-in, freed-out, with_last, without_if, Stands, list-edited, list-listed, list-over, list-freed, list-new, list-moved, list-taken}
use Rattle.doc_laws.proofs.Climbs.{above_is_found}

-- c stands under p, and every other node where it stood
moved-up : (p c : ℕ) (d : Doc) → c < length d.rows → parent_of (moved p c d) c ≡ Some p
moved-up p c d less = ap node_in (moved-here p c d less)

moved-stay : (p c m : ℕ) (d : Doc) → m ≢ c → parent_of (moved p c d) m ≡ parent_of d m
moved-stay p c m d ne = ap node_in (moved-other p c m d ne)

-- the way up from where c isn't above stays
unmoved : (d : Doc) (p c n : ℕ) → (Above d c n → ⊥) → Ends d n → Ends (moved p c d) n
unmoved d p c n not_above (at_top _ h) = at_top n (moved-stay p c n d (λ e. not_above (here n (sym e))) ∙ h)
unmoved d p c n not_above (goes_up _ q h e) =
    goes_up n q (moved-stay p c n d (λ s. not_above (here n (sym s))) ∙ h) (unmoved d p c q (λ a. not_above (higher n q h a)) e)

-- every way up ends: it is as it was, or it comes to c and then to p
moved-ends : (d : Doc) (p c n : ℕ) → c < length d.rows → Ends (moved p c d) p → Ends d n → Ends (moved p c d) n
moved-ends d p c n less up (at_top _ h) =
    let cases = elim (eqb n c) as (λ b. eqb n c ≡ b → Ends (moved p c d) n) [
      | true ↦ λ same. let e : n ≡ c = eqb-true n c same in goes_up n p (ap (parent_of (moved p c d)) e ∙ moved-up p c d less) up
      | false ↦ λ other. at_top n (moved-stay p c n d (apart n c other) ∙ h)
    ] in cases refl
moved-ends d p c n less up (goes_up _ q h e) =
    let cases = elim (eqb n c) as (λ b. eqb n c ≡ b → Ends (moved p c d) n) [
      | true ↦ λ same. let e : n ≡ c = eqb-true n c same in goes_up n p (ap (parent_of (moved p c d)) e ∙ moved-up p c d less) up
      | false ↦ λ other. goes_up n q (moved-stay p c n d (apart n c other) ∙ h) (moved-ends d p c q less up e)
    ] in cases refl

moved-within : (d : Doc) (p c n q : ℕ) → Ways d → p < length d.rows → c < length d.rows → parent_of (moved p c d) n ≡ Some q → q < length d.rows
moved-within d p c n q f lp lc h =
    let cases = elim (eqb n c) as (λ b. eqb n c ≡ b → q < length d.rows) [
      | true ↦ λ same. let e : n ≡ c = eqb-true n c same in let now : parent_of (moved p c d) n ≡ Some p = ap (parent_of (moved p c d)) e ∙ moved-up p c d lc in let it : p ≡ q = cc in omega arith
      | false ↦ λ other. f.within n q (sym (moved-stay p c n d (apart n c other)) ∙ h)
    ] in cases refl

moved-ways : (d : Doc) (p c : ℕ) → IsForest d → p < length d.rows → c < length d.rows → is_at_or_above d c p ≡ false → Ways (moved p c d)
moved-ways d p c f lp lc clear =
    let not_above : Above d c p → ⊥ = λ a. let yes : is_at_or_above d c p ≡ true = (above_is_found d c p f lp).1 a in cc in
    let up = unmoved d p c p not_above (f.ways.ends p) in
    record { ends = λ n. moved-ends d p c n lc up (f.ways.ends n); within = λ n q h. rw ((same-moved p c d).2) (moved-within d p c n q f.ways lp lc h) }

-- c in the lists that it left and came to
came : (b a : Bool) (c : ℕ) (xs : List ℕ) → times c xs ≡ one_if b → times c (without_if b c (with_last a c xs)) ≡ one_if a
came true true c xs h = let push = times-push c c xs in let self : nat_eq c c ≡ true = eq-eqb c c refl in times-without c (xs ++ c ∷ []) ∙ rw (push, self) (omega (arith, h))
came true false c xs h = times-without c xs ∙ omega (arith, h)
came false true c xs h = let self : nat_eq c c ≡ true = eq-eqb c c refl in times-push c c xs ∙ rw self (omega (arith, h))
came false false c xs h = h

others : (b a : Bool) (n c : ℕ) (xs : List ℕ) → n ≢ c → times n (without_if b c (with_last a c xs)) ≡ times n xs
others true true n c xs ne = times-without_other n c (xs ++ c ∷ []) ne ∙ pushed n c xs ne
  where
    pushed : (n c : ℕ) (xs : List ℕ) → n ≢ c → times n (xs ++ c ∷ []) ≡ times n xs
    pushed n c xs ne = let no : nat_eq c n ≡ false = not_same c n (λ e. ne (sym e)) in times-push n c xs ∙ rw no (omega arith)
others true false n c xs ne = times-without_other n c xs ne
others false true n c xs ne = let no : nat_eq c n ≡ false = not_same c n (λ e. ne (sym e)) in times-push n c xs ∙ rw no (omega arith)
others false false n c xs ne = refl

moved-listed : (d : Doc) (p c : ℕ) → Listed d → p < length d.rows → c < length d.rows → Listed (moved p c d)
moved-listed d p c l lp lc q n =
    let from = is_list_of q (parent_in (row_at d c)) in
    let to = is_list_of q (Node p) in
    let now = ap (times n) (list-moved p c d q lp) in
    let cases = elim (eqb n c) as (λ b. eqb n c ≡ b → times n (list_at (moved p c d) q) ≡ one_if (is_list_of q (parent_in (row_at (moved p c d) n)))) [
      | true ↦ λ same. subst (λ x. times x (list_at (moved p c d) q) ≡ one_if (is_list_of q (parent_in (row_at (moved p c d) x)))) (sym (eqb-true n c same))
          (ap (times c) (list-moved p c d q lp) ∙ came from to c (list_at d q) (l q c) ∙ ap (λ x. one_if (is_list_of q x)) (sym (moved-here p c d lc)))
      | false ↦ λ other. let ne = apart n c other in now ∙ others from to n c (list_at d q) ne ∙ l q n ∙ ap (λ x. one_if (is_list_of q x)) (sym (moved-other p c n d ne))
    ] in cases refl

pub moved-forest : (d : Doc) (p c : ℕ) → IsForest d → p < length d.rows → c < length d.rows → is_at_or_above d c p ≡ false → IsForest (moved p c d)
moved-forest d p c f lp lc clear = record { ways = moved-ways d p c f lp lc clear; listed = moved-listed d p c f.listed lp lc }

-- parents that are as they were, or none now
abbrev pub Fewer : Doc → Doc → Type 0
Fewer d e = (n : ℕ) → (parent_of e n ≡ parent_of d n) ⊎ (◌≡◌ {A = Option ℕ} (parent_of e n) None)

fewer-ends : (d e : Doc) → Fewer d e → (n : ℕ) → Ends d n → Ends e n
fewer-ends d e less n (at_top _ h) = elim (less n) [ inl same ↦ at_top n (same ∙ h) | inr none ↦ at_top n none ]
fewer-ends d e less n (goes_up _ p h x) = elim (less n) [ inl same ↦ goes_up n p (same ∙ h) (fewer-ends d e less p x) | inr none ↦ at_top n none ]

fewer-within : (d e : Doc) (n p : ℕ) → Ways d → Fewer d e → ◌≡◌ {A = Option ℕ} (parent_of e n) (Some p) → p < length d.rows
fewer-within d e n p f less h = elim (less n) [ inl same ↦ f.within n p (sym same ∙ h) | inr none ↦ absurd (apart_from (parent_of e n) p none h) ]
  where
    apart_from : (o : Option ℕ) (p : ℕ) → o ≡ None → o ≡ Some p → ⊥
    apart_from o p a b = cc

fewer-ways : (d e : Doc) → Ways d → Fewer d e → length e.rows ≡ length d.rows → Ways e
fewer-ways d e f less many = record { ends = λ n. fewer-ends d e less n (f.ends n); within = λ n p h. rw many (fewer-within d e n p f less h) }

-- an edit that keeps parents and lists
pub edited-fewer : (d : Doc) (n : ℕ) (g : Row → Row) → ((r : Row) → (g r).parent ≡ r.parent) → Fewer d (edited d n g)
edited-fewer d n g keeps m = inl (ap node_in (edited-same parent_in d n m g keeps))

pub edited-forest : (d : Doc) (n : ℕ) (g : Row → Row) → ((r : Row) → (g r).parent ≡ r.parent) → ((r : Row) → (g r).children ≡ r.children) → IsForest d → IsForest (edited d n g)
edited-forest d n g parents children f = record {
  ways = fewer-ways d (edited d n g) f.ways (edited-fewer d n g parents) (same-edited d n g).2;
  listed = λ q m. ap (times m) (list-edited d n g q children) ∙ f.listed q m ∙ ap (λ x. one_if (is_list_of q x)) (sym (edited-same parent_in d n m g parents));
}

-- a node that is detached
is_list_of-none : (q : Parent) → is_list_of q Detached ≡ false
is_list_of-none Detached = refl
is_list_of-none Document = refl
is_list_of-none (Node q) = refl

pub taken-fewer : (p c : ℕ) (d : Doc) → Fewer d (taken p c d)
taken-fewer p c d n =
    let cases = elim (eqb n c) as (λ b. eqb n c ≡ b → (parent_of (taken p c d) n ≡ parent_of d n) ⊎ (◌≡◌ {A = Option ℕ} (parent_of (taken p c d) n) None)) [
      | true ↦ λ same. inr (ap (parent_of (taken p c d)) (eqb-true n c same) ∙ ap node_in (taken-here p c d))
      | false ↦ λ other. inl (ap node_in (taken-other p c n d (apart n c other)))
    ] in cases refl

gone : (b : Bool) (c : ℕ) (xs : List ℕ) → times c xs ≡ one_if b → times c (without_if b c xs) ≡ 0
gone true c xs h = times-without c xs ∙ omega (arith, h)
gone false c xs h = h

taken-listed : (d : Doc) (p c : ℕ) → Listed d → parent_in (row_at d c) ≡ Node p → Listed (taken p c d)
taken-listed d p c l under q n =
    let from = is_list_of q (Node p) in
    let once : times c (list_at d q) ≡ one_if from = l q c ∙ ap (λ x. one_if (is_list_of q x)) under in
    let cases = elim (eqb n c) as (λ b. eqb n c ≡ b → times n (list_at (taken p c d) q) ≡ one_if (is_list_of q (parent_in (row_at (taken p c d) n)))) [
      | true ↦ λ same. subst (λ x. times x (list_at (taken p c d) q) ≡ one_if (is_list_of q (parent_in (row_at (taken p c d) x)))) (sym (eqb-true n c same))
          (ap (times c) (list-taken p c d q) ∙ gone from c (list_at d q) once ∙ sym (ap (λ x. one_if (is_list_of q x)) (taken-here p c d) ∙ ap one_if (is_list_of-none q)))
      | false ↦ λ other. let ne = apart n c other in ap (times n) (list-taken p c d q) ∙ others from false n c (list_at d q) ne ∙ l q n ∙ ap (λ x. one_if (is_list_of q x)) (sym (taken-other p c n d ne))
    ] in cases refl

pub taken-forest : (d : Doc) (p c : ℕ) → IsForest d → parent_in (row_at d c) ≡ Node p → IsForest (taken p c d)
taken-forest d p c f under = record { ways = fewer-ways d (taken p c d) f.ways (taken-fewer p c d) (same-taken p c d).2; listed = taken-listed d p c f.listed under }

-- a new node
old-ends : (p : Parent) (root : Option ℕ) (c : NewNode) (attrs : List Attr) (d : Doc) (n : ℕ) → Ways d → n ≢ length d.rows → Ends d n → Ends (with_node p root c attrs d) n
old-ends p root c attrs d n f ne (at_top _ h) = at_top n (ap (λ o. node_in (parent_in o)) (new-other p root c attrs d n ne) ∙ h)
old-ends p root c attrs d n f ne (goes_up _ q h x) =
    let less : q < length d.rows = f.within n q h in
    goes_up n q (ap (λ o. node_in (parent_in o)) (new-other p root c attrs d n ne) ∙ h) (old-ends p root c attrs d q f (λ e. omega (arith, e)) x)

new-ends : (p : Parent) (root : Option ℕ) (c : NewNode) (attrs : List Attr) (d : Doc) (o : Option ℕ) → Ways d → node_in p ≡ o → Stands d o → Ends (with_node p root c attrs d) (length d.rows)
new-ends p root c attrs d None f is w = at_top (length d.rows) (ap (λ o. node_in (parent_in o)) (new-here p root c attrs d) ∙ is)
new-ends p root c attrs d (Some q) f is w = goes_up (length d.rows) q (ap (λ o. node_in (parent_in o)) (new-here p root c attrs d) ∙ is) (old-ends p root c attrs d q f (λ e. omega (arith, w, e)) (f.ends q))

pub new-within : (p : Parent) (root : Option ℕ) (c : NewNode) (attrs : List Attr) (d : Doc) (o : Option ℕ) (n q : ℕ) → Ways d → node_in p ≡ o → Stands d o → parent_of (with_node p root c attrs d) n ≡ Some q → q < length d.rows
new-within p root c attrs d o n q f is w h =
    let cases = elim (eqb n (length d.rows)) as (λ b. eqb n (length d.rows) ≡ b → q < length d.rows) [
      | true ↦ λ same. stands o (sym (ap (parent_of (with_node p root c attrs d)) (eqb-true n (length d.rows) same) ∙ ap (λ o. node_in (parent_in o)) (new-here p root c attrs d) ∙ is) ∙ h) w
      | false ↦ λ other. f.within n q (sym (ap (λ o. node_in (parent_in o)) (new-other p root c attrs d n (apart n (length d.rows) other))) ∙ h)
    ] in cases refl
  where
    stands : (o : Option ℕ) → o ≡ Some q → Stands d o → q < length d.rows
    stands None e w = cc
    stands (Some x) e w = let same : x ≡ q = cc in omega (arith, w, same)

pub new-ways : (p : Parent) (root : Option ℕ) (c : NewNode) (attrs : List Attr) (d : Doc) → Ways d → Stands d (node_in p) → Ways (with_node p root c attrs d)
new-ways p root c attrs d f w = record {
  ends = λ n.
      let cases = elim (eqb n (length d.rows)) as (λ b. eqb n (length d.rows) ≡ b → Ends (with_node p root c attrs d) n) [
        | true ↦ λ same. subst (λ x. Ends (with_node p root c attrs d) x) (sym (eqb-true n (length d.rows) same)) (new-ends p root c attrs d (node_in p) f refl w)
        | false ↦ λ other. old-ends p root c attrs d n f (apart n (length d.rows) other) (f.ends n)
      ] in cases refl;
  within = λ n q h. let less : q < length d.rows = new-within p root c attrs d (node_in p) n q f refl w h in omega (arith, less, new-length p root c attrs d);
}

-- a new node stands in no list as yet
pub no_list : (d : Doc) (q : Parent) → Listed d → times (length d.rows) (list_at d q) ≡ 0
no_list d q l = l q (length d.rows) ∙ ap (λ o. one_if (is_list_of q (parent_in o))) (get_past d.rows) ∙ ap one_if (is_list_of-none q)

pub created-forest : (root : Option ℕ) (c : NewNode) (attrs : List Attr) (d : Doc) → IsForest d → IsForest (with_node Detached root c attrs d)
created-forest root c attrs d f = record {
  ways = new-ways Detached root c attrs d f.ways tt;
  listed = λ q n.
      let e = with_node Detached root c attrs d in
      let cases = elim (eqb n (length d.rows)) as (λ b. eqb n (length d.rows) ≡ b → times n (list_at d q) ≡ one_if (is_list_of q (parent_in (row_at e n)))) [
        | true ↦ λ same. subst (λ x. times x (list_at d q) ≡ one_if (is_list_of q (parent_in (row_at e x)))) (sym (eqb-true n (length d.rows) same)) (no_list d q f.listed ∙ sym (ap (λ o. one_if (is_list_of q (parent_in o))) (new-here Detached root c attrs d) ∙ ap one_if (is_list_of-none q)))
        | false ↦ λ other. f.listed q n ∙ ap (λ o. one_if (is_list_of q (parent_in o))) (sym (new-other Detached root c attrs d n (apart n (length d.rows) other)))
      ] in ap (times n) (list-new Detached root c attrs d q) ∙ cases refl;
}

pub listed-fewer : (p : Parent) (c : ℕ) (d : Doc) → Fewer d (listed p c d)
listed-fewer p c d m = inl (ap node_in (listed-parents p c m d))

-- a new node that stands last in the list of its parent
last_one : (b : Bool) (n : ℕ) (xs : List ℕ) → times n xs ≡ 0 → times n (with_last b n xs) ≡ one_if b
last_one true n xs h = let self : nat_eq n n ≡ true = eq-eqb n n refl in times-push n n xs ∙ rw self (omega (arith, h))
last_one false n xs h = h

pub joined-forest : (p : Parent) (root : Option ℕ) (c : NewNode) (attrs : List Attr) (d : Doc) → IsForest d → Stands d (node_in p) → IsForest (joined p root c attrs d)
joined-forest p root c attrs d f w = record {
  ways = fewer-ways e (joined p root c attrs d) (new-ways p root c attrs d f.ways w) (listed-fewer p at e) (same-listed p at e).2;
  listed = λ q n.
      let list = list-listed p at e q (later (node_in p) w) ∙ ap (with_last (is_list_of q p) at) (list-new p root c attrs d q) in
      let stands = ap (λ x. one_if (is_list_of q x)) (listed-parents p at n e) in
      let cases = elim (eqb n at) as (λ b. eqb n at ≡ b → times n (with_last (is_list_of q p) at (list_at d q)) ≡ one_if (is_list_of q (parent_in (row_at e n)))) [
        | true ↦ λ same. subst (λ x. times x (with_last (is_list_of q p) at (list_at d q)) ≡ one_if (is_list_of q (parent_in (row_at e x)))) (sym (eqb-true n at same))
            (last_one (is_list_of q p) at (list_at d q) (no_list d q f.listed) ∙ sym (ap (λ o. one_if (is_list_of q (parent_in o))) (new-here p root c attrs d)))
        | false ↦ λ other. let ne = apart n at other in others false (is_list_of q p) n at (list_at d q) ne ∙ f.listed q n ∙ ap (λ o. one_if (is_list_of q (parent_in o))) (sym (new-other p root c attrs d n ne))
      ] in ap (times n) list ∙ cases refl ∙ sym stands;
}
  where
    at : ℕ
    at = length d.rows

    e : Doc
    e = with_node p root c attrs d

    later : (o : Option ℕ) → Stands d o → Stands e o
    later None w = tt
    later (Some x) w = omega (arith, w, new-length p root c attrs d)

-- another text of an element: the new text is its only child, and the old ones are detached
abbrev pub with_text_in : ℕ → Option ℕ → List ℕ → Doc → Doc
with_text_in n root us d = with_node (Node n) root (Text us) [] d

abbrev pub swapped : ℕ → Option ℕ → List ℕ → Doc → Doc
swapped n root us d = edited (with_text_in n root us d) n (over (length d.rows ∷ []))

abbrev pub refreshed : ℕ → Option ℕ → List ℕ → Doc → Doc
refreshed n root us d = freed (children_in (row_at (with_text_in n root us d) n)) (swapped n root us d)

swapped-parents : (n : ℕ) (root : Option ℕ) (us : List ℕ) (d : Doc) (m : ℕ) → parent_in (row_at (swapped n root us d) m) ≡ parent_in (row_at (with_text_in n root us d) m)
swapped-parents n root us d m = edited-same parent_in (with_text_in n root us d) n m (over (length d.rows ∷ [])) (λ r. refl)

pub freed-fewer : (ns : List ℕ) (d : Doc) → Fewer d (freed ns d)
freed-fewer ns d m = at (times m ns) refl
  where
    at : (k : ℕ) → times m ns ≡ k → (parent_of (freed ns d) m ≡ parent_of d m) ⊎ (◌≡◌ {A = Option ℕ} (parent_of (freed ns d) m) None)
    at zero h = inl (ap node_in (freed-out ns m d h))
    at (suc k) h = inr (ap node_in (freed-in ns m d (omega (arith, h))))

pub refreshed-ways : (n : ℕ) (root : Option ℕ) (us : List ℕ) (d : Doc) → Ways d → n < length d.rows → Ways (refreshed n root us d)
refreshed-ways n root us d f w =
    let e = with_text_in n root us d in
    let g = swapped n root us d in
    let ns = children_in (row_at e n) in
    fewer-ways g (freed ns g) (fewer-ways e g (new-ways (Node n) root (Text us) [] d f w) (edited-fewer e n (over (length d.rows ∷ [])) (λ r. refl)) (same-edited e n (over (length d.rows ∷ []))).2) (freed-fewer ns g) (same-freed ns g).2

-- where a node stands after it: the new text under the element, its old children nowhere, all others where they stood
refreshed-stands : (n : ℕ) (root : Option ℕ) (us : List ℕ) (d : Doc) (l : Listed d) (q : Parent) (m : ℕ) → n < length d.rows → one_if (is_list_of q (parent_in (row_at (refreshed n root us d) m))) ≡ times m (cond (is_list_of q (Node n)) (length d.rows ∷ []) (list_at d q))
refreshed-stands n root us d l q m w =
    let cases = elim (eqb m at) as (λ b. eqb m at ≡ b → Goal m) [
      | true ↦ λ same. subst Goal (sym (eqb-true m at same)) new
      | false ↦ λ other. old (apart m at other)
    ] in cases refl
  where
    at : ℕ
    at = length d.rows

    e : Doc
    e = with_text_in n root us d

    ns : List ℕ
    ns = children_in (row_at e n)

    Goal : ℕ → Type 0
    Goal m = one_if (is_list_of q (parent_in (row_at (refreshed n root us d) m))) ≡ times m (cond (is_list_of q (Node n)) (at ∷ []) (list_at d q))

    children : ns ≡ list_at d (Node n)
    children = list-new (Node n) root (Text us) [] d (Node n)

    only : (b : Bool) → times at (list_at d q) ≡ 0 → one_if b ≡ times at (cond b (at ∷ []) (list_at d q))
    only true h = let self : nat_eq at at ≡ true = eq-eqb at at refl in rw self (omega arith)
    only false h = sym h

    new : Goal at
    new =
        let none : times at ns ≡ 0 = ap (times at) children ∙ no_list d (Node n) l in
        let stands : parent_in (row_at (refreshed n root us d) at) ≡ Node n = freed-out ns at (swapped n root us d) none ∙ swapped-parents n root us d at ∙ ap parent_in (new-here (Node n) root (Text us) [] d) in
        ap (λ x. one_if (is_list_of q x)) stands ∙ only (is_list_of q (Node n)) (no_list d q l)

    was : m ≢ at → parent_in (row_at (swapped n root us d) m) ≡ parent_in (row_at d m)
    was ne = swapped-parents n root us d m ∙ ap parent_in (new-other (Node n) root (Text us) [] d m ne)

    list_is : (q : Parent) (n : ℕ) → is_list_of q (Node n) ≡ true → q ≡ Node n
    list_is Detached n h = cc
    list_is Document n h = cc
    list_is (Node x) n h = ap (λ y. Node y) (eqb-true x n h)

    stands_at : (p : Parent) (n : ℕ) → is_list_of (Node n) p ≡ true → p ≡ Node n
    stands_at Detached n h = cc
    stands_at Document n h = cc
    stands_at (Node x) n h = ap (λ y. Node y) (sym (eqb-true n x h))

    -- one that stood under n
    under : m ≢ at → parent_in (row_at d m) ≡ Node n → (b : Bool) → is_list_of q (Node n) ≡ b → 0 ≡ times m (cond b (at ∷ []) (list_at d q))
    under ne h true is = let no : nat_eq at m ≡ false = not_same at m (λ e. ne (sym e)) in rw no refl
    under ne h false is = sym (l q m ∙ ap (λ x. one_if (is_list_of q x)) h ∙ ap one_if is)

    -- one that stood elsewhere
    elsewhere : m ≢ at → is_list_of (Node n) (parent_in (row_at d m)) ≡ false → (b : Bool) → is_list_of q (Node n) ≡ b → one_if (is_list_of q (parent_in (row_at d m))) ≡ times m (cond b (at ∷ []) (list_at d q))
    elsewhere ne h true is = let no : nat_eq at m ≡ false = not_same at m (λ e. ne (sym e)) in rw no (ap (λ x. one_if (is_list_of x (parent_in (row_at d m)))) (list_is q n is) ∙ ap one_if h)
    elsewhere ne h false is = sym (l q m)

    old : m ≢ at → Goal m
    old ne =
        let once : times m ns ≡ one_if (is_list_of (Node n) (parent_in (row_at d m))) = ap (times m) children ∙ l (Node n) m in
        let cases = elim (is_list_of (Node n) (parent_in (row_at d m))) as (λ b. is_list_of (Node n) (parent_in (row_at d m)) ≡ b → times m ns ≡ one_if b → Goal m) [
          | true ↦ λ is one. ap (λ x. one_if (is_list_of q x)) (freed-in ns m (swapped n root us d) (omega (arith, one))) ∙ ap one_if (is_list_of-none q) ∙ under ne (stands_at (parent_in (row_at d m)) n is) (is_list_of q (Node n)) refl
          | false ↦ λ is none. ap (λ x. one_if (is_list_of q x)) (freed-out ns m (swapped n root us d) none ∙ was ne) ∙ elsewhere ne is (is_list_of q (Node n)) refl
        ] in cases refl once

pub refreshed-forest : (n : ℕ) (root : Option ℕ) (us : List ℕ) (d : Doc) → IsForest d → n < length d.rows → IsForest (refreshed n root us d)
refreshed-forest n root us d f w = record {
  ways = refreshed-ways n root us d f.ways w;
  listed = λ q m.
      let e = with_text_in n root us d in
      let less : n < length e.rows = omega (arith, w, new-length (Node n) root (Text us) [] d) in
      let list = list-freed (children_in (row_at e n)) (swapped n root us d) q ∙ list-over n (length d.rows ∷ []) e q less ∙ ap (cond (is_list_of q (Node n)) (length d.rows ∷ [])) (list-new (Node n) root (Text us) [] d q) in
      ap (times m) list ∙ sym (refreshed-stands n root us d f.listed q m w);
}
