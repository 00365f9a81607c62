-- Representatives tell the classes of the least partition.
use Rattle.std.proofs.Common.{◌≡◌, Bool, true, false, [], ◌∷◌, inl, inr, refl, sym, ap, ◌∙◌, subst, ⊎_elim, eqb-true, eq-eqb}
use Rattle.std.specs.Prelude.{◌↔◌, if◌then◌else◌}
use Rattle.std.proofs.lemmas.Bool.{false≢true}
use Rattle.reach_report.specs.declared.Node.{Node}
use Rattle.reach_report.specs.declared.Node.TheVariants.{Module, Cell, Root}
use Rattle.reach_report.specs.Links.{Links, IsLink, Linked, itself, linked, back, onward, same_node, joined, representative}

pub node_true : (a b : Node) → same_node a b ≡ true → a ≡ b
node_true (Module m) (Module n) h = ap Module (eqb-true m n h)
node_true (Cell m) (Cell n) h = ap Cell (eqb-true m n h)
node_true (Root m) (Root n) h = ap Root (eqb-true m n h)
node_true (Module m) (Cell n) h = absurd (false≢true h)
node_true (Module m) (Root n) h = absurd (false≢true h)
node_true (Cell m) (Module n) h = absurd (false≢true h)
node_true (Cell m) (Root n) h = absurd (false≢true h)
node_true (Root m) (Module n) h = absurd (false≢true h)
node_true (Root m) (Cell n) h = absurd (false≢true h)

pub node_itself : (a : Node) → same_node a a ≡ true
node_itself (Module m) = eq-eqb m m refl
node_itself (Cell m) = eq-eqb m m refl
node_itself (Root m) = eq-eqb m m refl

more_links : (ls : Links) (l : Node × Node) (a b : Node) → Linked ls a b → Linked (l ∷ ls) a b
more_links ls l a b (itself c) = itself a
more_links ls l a b (linked c d h) = linked a b (inr h)
more_links ls l a b (back c d h) = back b a (more_links ls l b a h)
more_links ls l a b (onward c d e h k) = onward a d b (more_links ls l a d h) (more_links ls l d b k)

-- each is together with its representative
to_representative : (ls : Links) (x : Node) → Linked ls x (representative ls x)
to_representative [] x = itself x
to_representative ((a, b) ∷ ls) x = by_test (λ y. to_representative ls y) (same_node (representative ls x) (representative ls b)) refl
  where
    by_test : ((y : Node) → Linked ls y (representative ls y)) → (c : Bool) → same_node (representative ls x) (representative ls b) ≡ c → Linked ((a, b) ∷ ls) x (if c then representative ls a else representative ls x)
    by_test before true h =
        let l : Node × Node = (a, b) in
        onward x (representative ls x) (representative ls a) (more_links ls l x (representative ls x) (before x))
        (subst (λ y. Linked ((a, b) ∷ ls) y (representative ls a)) (sym (node_true (representative ls x) (representative ls b) h))
        (onward (representative ls b) b (representative ls a) (back b (representative ls b) (more_links ls l b (representative ls b) (before b)))
        (onward b a (representative ls a) (back a b (linked a b (inl (refl, refl)))) (more_links ls l a (representative ls a) (before a)))))
    by_test before false h = more_links ls (a, b) x (representative ls x) (before x)

-- a link joins
of_link : (ls : Links) (a b : Node) → IsLink a b ls → representative ls a ≡ representative ls b
of_link [] a b h = absurd h
of_link ((c, d) ∷ ls) a b h =
    ⊎_elim (λ e. subst (λ x. representative ((c, d) ∷ ls) x ≡ representative ((c, d) ∷ ls) b) (sym e.0) (subst (λ y. representative ((c, d) ∷ ls) c ≡ representative ((c, d) ∷ ls) y) (sym e.1) (joins ls c d))) (λ k. ap (joined (representative ls c) (representative ls d)) (of_link ls a b k)) h
  where
    alike : (b : Bool) (p : Node) → (if b then p else p) ≡ p
    alike true p = refl
    alike false p = refl

    joins : (ls : Links) (c d : Node) → representative ((c, d) ∷ ls) c ≡ representative ((c, d) ∷ ls) d
    joins ls c d = alike (same_node (representative ls c) (representative ls d)) (representative ls c) ∙ sym (ap (λ b. if b then representative ls c else representative ls d) (node_itself (representative ls d)))

of_linked : (ls : Links) (a b : Node) → Linked ls a b → representative ls a ≡ representative ls b
of_linked ls a b (itself c) = refl
of_linked ls a b (linked c d h) = of_link ls a b h
of_linked ls a b (back c d h) = sym (of_linked ls b a h)
of_linked ls a b (onward c d e h k) = of_linked ls a d h ∙ of_linked ls d b k

pub groups_are_classes : (ls : Links) (a b : Node) → (representative ls a ≡ representative ls b) ↔ Linked ls a b
groups_are_classes ls a b = (λ e. onward a (representative ls a) b (to_representative ls a) (subst (λ x. Linked ls x b) (sym e) (back b (representative ls b) (to_representative ls b))), of_linked ls a b)
