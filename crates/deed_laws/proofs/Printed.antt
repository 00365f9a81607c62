-- What is written of a root stays where only nodes of another root change.
use Rattle.std.proofs.Common.{◌≡◌, ◌≢◌, ℕ, zero, suc, ◌+◌, ◌-◌, ◌<◌, ◌≤◌, true, false, List, [], ◌∷◌, ◌++◌, Option, Some, None, length, cond, zero-add, refl, sym, ap, ◌∙◌, arith}
use Rattle.std.specs.Prelude.{slice_get}
use Rattle.std.specs.Option.{option_to_list}
use Rattle.std.proofs.lemmas.Option.{slice_get_within}
use Rattle.html_grammar.specs.Tables.{is_in, void}
use Rattle.doc_nodes.specs.declared.node.Parent.TheVariants.{Node}
use Rattle.doc_nodes.specs.declared.node.NewNode.{NewNode}
use Rattle.doc_nodes.specs.declared.node.NewNode.TheVariants.{Element, Text}
use Rattle.doc_nodes.specs.Rows.{Row, Doc, row_at, parent_in, node_in, children_in, owner_of, node_with}
use Rattle.doc_nodes.specs.Changes.{root_in}
use Rattle.doc_tree.specs.Printing.{opening, ending, under_content, shown_in, shown, printed}
use Rattle.doc_laws.specs.Forest.{times}
use Rattle.doc_laws.specs.Owned.{Grows}
use Rattle.doc_laws.specs.Reached.{Reached}
use Rattle.doc_laws.specs.Within.{IsWithin}
use Rattle.doc_laws.proofs.Climbs.{Steps, steps_are_few}
use Rattle.deed_laws.specs.Deeds.{AreOf}
use Rattle.deed_laws.specs.Printed.{root_printed}
use Rattle.deed_laws.proofs.Nodes.{is_there, still_there, stands_there, children-of}
use Rattle.deed_laws.proofs.Deeds.{owner_there}

-- what is shown under a node is nothing, or its children
under : (P : List ℕ → Type 0) (c : NewNode) (ns : List ℕ) → P [] → P ns → P (under_content c ns)
under P (Text us) ns none all = none
under P (Element tag) ns none all = elim (is_in void tag) as (λ b. P (cond b [] ns)) [ true ↦ none | false ↦ all ]

under_row : (P : List ℕ → Type 0) (x : Option Row) → P [] → P (children_in x) → P (shown_in x)
under_row P None none all = none
under_row P (Some x) none all = under P x.content x.children none all

-- the rows of a root, and so what is written of nodes of it
same_row : (q r : ℕ) (d e : Doc) → Reached d → IsWithin r d e → q ≢ r → (n : ℕ) → root_in (owner_of d n) ≡ Some q → row_at e n ≡ row_at d n
same_row q r d e a w ne n is = w.rows n (owner_there d n q a.owned is) (λ other. let both : ◌≡◌ {A = Option ℕ} (Some q) (Some r) = sym is ∙ other in ne (cc (both)))

same_printed : (q r : ℕ) (d e : Doc) → Reached d → IsWithin r d e → q ≢ r → (k : ℕ) (ns : List ℕ) → AreOf q d ns → printed k e ns ≡ printed k d ns
unfolding printed
same_printed q r d e a w ne zero ns of = refl
same_printed q r d e a w ne (suc k) [] of = refl
same_printed q r d e a w ne (suc k) (n ∷ ns) of =
    let row = same_row q r d e a w ne n of.0 in
    let below : AreOf q d (shown d n) = under_row (AreOf q d) (row_at d n) tt (children-of q d n a of.0) in
    ap (λ x. (opening x ++ (printed k e (shown_in x) ++ ending x)) ++ printed (suc k) e ns) row
    ∙ ap (λ y. (opening (row_at d n) ++ (y ++ ending (row_at d n))) ++ printed (suc k) e ns) (same_printed q r d e a w ne k (shown d n) below)
    ∙ ap (λ y. (opening (row_at d n) ++ (printed k d (shown d n) ++ ending (row_at d n))) ++ y) (same_printed q r d e a w ne (suc k) ns of.1)

-- nodes from which so many steps go up
abbrev AreDeep : ℕ → Doc → List ℕ → Type 0
AreDeep j d [] = Unit {0}
AreDeep j d (n ∷ ns) = (n < length d.rows) × Steps j d n × AreDeep j d ns

deep_each : (j : ℕ) (d : Doc) (ns : List ℕ) → ((m : ℕ) → 0 < times m ns → (m < length d.rows) × Steps j d m) → AreDeep j d ns
deep_each j d [] each = tt
deep_each j d (n ∷ ns) each = let one = each n (is_there n ns) in (one.0, one.1, deep_each j d ns (λ m more. each m (still_there m n ns more)))

row_there : (d : Doc) (m n : ℕ) → parent_in (row_at d m) ≡ Node n → m < length d.rows
row_there d m n is = at (row_at d m) refl is
  where
    at : (x : Option Row) → row_at d m ≡ x → parent_in x ≡ Node n → m < length d.rows
    at None h under = cc
    at (Some x) h under = slice_get_within d.rows m x h

deeper : (j : ℕ) (d : Doc) (n : ℕ) → Reached d → Steps j d n → AreDeep (suc j) d (children_in (row_at d n))
deeper j d n a steps = deep_each (suc j) d (children_in (row_at d n)) (λ m more. let at = stands_there d n m a more in (row_there d m n at, (n, ap node_in at, steps)))

-- a level more writes no more
one_level : (k j : ℕ) (d : Doc) (ns : List ℕ) → Reached d → length d.rows ≤ j + k → AreDeep j d ns → printed (suc k) d ns ≡ printed k d ns
unfolding printed
one_level zero j d [] a many deep = refl
one_level zero j d (n ∷ ns) a many deep = absurd (omega (arith, many, steps_are_few j d n a.forest.ways deep.0 deep.1))
one_level (suc k) j d [] a many deep = refl
one_level (suc k) j d (n ∷ ns) a many deep =
    let below : AreDeep (suc j) d (shown d n) = under_row (AreDeep (suc j) d) (row_at d n) tt (deeper j d n a deep.1) in
    ap (λ y. (opening (row_at d n) ++ (y ++ ending (row_at d n))) ++ printed (suc (suc k)) d ns) (one_level k (suc j) d (shown d n) a (omega (arith, many)) below)
    ∙ ap (λ y. (opening (row_at d n) ++ (printed k d (shown d n) ++ ending (row_at d n))) ++ y) (one_level (suc k) j d ns a many deep.2)

more_levels : (i k : ℕ) (d : Doc) (ns : List ℕ) → Reached d → length d.rows ≤ k → AreDeep 0 d ns → printed (i + k) d ns ≡ printed k d ns
more_levels zero k d ns a many deep = ap (λ l. printed l d ns) (zero-add k)
more_levels (suc i) k d ns a many deep =
    let next : suc i + k ≡ suc (i + k) = omega arith in
    ap (λ l. printed l d ns) next ∙ one_level (i + k) 0 d ns a (omega (arith, many)) deep ∙ more_levels i k d ns a many deep

-- the node that a root begins with is of it
root_of : (q : ℕ) (d : Doc) (o : Option ℕ) → Reached d → node_with d q 0 ≡ o → AreOf q d (option_to_list o)
root_of q d None a is = tt
root_of q d (Some n) a is = (ap root_in (a.owned.back n q 0 is), tt)

of_deep : (q : ℕ) (d : Doc) (ns : List ℕ) → Reached d → AreOf q d ns → AreDeep 0 d ns
of_deep q d [] a of = tt
of_deep q d (n ∷ ns) a of = (owner_there d n q a.owned of.0, tt, of_deep q d ns a of.1)

pub others_stay : (q r : ℕ) (d e : Doc) → Reached d → Grows d e → IsWithin r d e → q ≢ r → root_printed q e ≡ root_printed q d
others_stay q r d e a grows w ne =
    let ns = option_to_list (node_with d q 0) in
    let of = root_of q d (node_with d q 0) a refl in
    let node : node_with e q 0 ≡ node_with d q 0 = ap (λ ms. slice_get ms 0) (w.numbers q ne) in
    let more : length e.rows ≡ (length e.rows - length d.rows) + length d.rows = omega (arith, grows.more) in
    ap (λ o. printed (length e.rows) e (option_to_list o)) node
    ∙ same_printed q r d e a w ne (length e.rows) ns of
    ∙ ap (λ k. printed k d ns) more
    ∙ more_levels (length e.rows - length d.rows) (length d.rows) d ns a (omega arith) (of_deep q d ns a of)
