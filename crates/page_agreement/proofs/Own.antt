-- What is told of a group speaks of no cell and no root but the group's: it stays, however the others are numbered.
use Rattle.std.proofs.Common.{◌≡◌, inl, inr, ℕ, suc, ◌+◌, ◌<◌, Bool, true, false, List, [], ◌∷◌, Some, Contains, refl, sym, ap, ◌∙◌, subst, arith, length, if◌then◌else◌}
use Rattle.std.proofs.lemmas.Bool.{false≢true, false_from_ne_true}
use Rattle.plans.specs.Plans.{over, stopped, out, kept_of}
use Rattle.acts.specs.Laws as acts
use Rattle.page_deeds.specs.Deeds.{Owner, of_module, of_root, labelled, Grant, a_cell, a_result, a_plain, a_root, to_load}
use Rattle.rows.specs.Document.{Node}
use Rattle.rows.specs.Nodes.{Rules}
use Rattle.cajita_meaning.specs.Direct.{Item, made, got, touched, passed, granted, said, was_revoked, changed_node, ended}
use Rattle.cajita_laws.specs.Parts.{Group, owns, tells, side, items_of}
use Rattle.cajita_page.specs.DirectPage.{Deed, Run, direct_page}
use Rattle.event_script.specs.Events.{Asked, a_call, a_click, an_input, a_tick}
use Rattle.page_isolation.specs.Agree.{IsGrantOf, DeedsAgree, Agrees, SameNodes}
use Rattle.page_isolation.specs.Promises.{SameLines}
use Rattle.page_isolation.proofs.Isolates.{pages_isolate}
use Rattle.cell_numbers.specs.Renumbering.{Renumbering, grant_anew, grants_anew, deeds_anew, items_anew, page_anew, nodes_anew, group_anew}
use Rattle.cell_numbers.specs.Cells.{cells_in, roots_in, KeepsApart, HasOthers}
use Rattle.cell_numbers.proofs.Pages.{pages_anew, page_items_anew, group_items_anew}
use Rattle.cell_numbers.proofs.Cells.{names_own_cells, names_own_roots}
use Rattle.page_manifest.specs.Page.{Module, Page}
use Rattle.page_manifest.specs.Valid.{IsValid}
use Rattle.page_roots.specs.Roots.{granted_roots, roots_of, number_in}
use Rattle.reach_report.specs.Pages.{page_groups}
use Rattle.page_agreement.specs.Agree.{IsAt}
use Rattle.page_agreement.specs.Lines.{is_among, given_in, has_root}
use Rattle.page_agreement.proofs.Groups.{among_true, among_from, all_granted, the_group, cell_below, root_below, own_grants, other_grants}
use Rattle.page_agreement.proofs.Agrees.{Program, all_anew, fixed_grants, Named, NodesAgree, TargetsAgree, InStep, EachAgrees, page_deeds, deeds_agree}

-- a page that did all its deeds
abbrev pub IsOver : Run → Type 0
IsOver (over r w z n) = Unit {0}
IsOver (stopped f w z n) = ⊥
IsOver (out w z n) = ⊥

pub over_anew : (f : Renumbering) (r : Run) → IsOver r → IsOver (page_anew f r)
over_anew f (over r w z n) h = tt
over_anew f (stopped fault w z n) h = absurd h
over_anew f (out w z n) h = absurd h

same_items : (g : Group) (a b : Run) → IsOver a → IsOver b → SameLines g a b → items_of true g (kept_of a) ≡ items_of true g (kept_of b)
same_items g (over r w z n) (over r' v y m) h k same = same
same_items g (over r w z n) (stopped f v y m) h k same = absurd k
same_items g (over r w z n) (out v y m) h k same = absurd k
same_items g (stopped f w z n) b h k same = absurd h
same_items g (out w z n) b h k same = absurd h

-- what a group tells hangs on its modules and roots, and not on its cells

pub record TellAlike (g h : Group) : Type 0 where
  pub modules : (m : ℕ) → g.modules m ≡ h.modules m
  pub roots : (r : ℕ) → g.roots r ≡ h.roots r

owned : (g h : Group) → TellAlike g h → (o : Owner) → owns g o ≡ owns h o
owned g h same (of_module m) = same.modules m
owned g h same (of_root r) = same.roots r

told_by : (g h : Group) → TellAlike g h → (i : Item) → tells g i ≡ tells h i
told_by g h same (made m o) = same.modules m
told_by g h same (got m x o) = same.modules m
told_by g h same (touched m t o k) = same.modules m
told_by g h same (passed a b o) = same.modules a
told_by g h same (granted m o) = same.modules m
told_by g h same (said m us) = same.modules m
told_by g h same (was_revoked m p) = same.modules m
told_by g h same (changed_node r k c) = same.roots r
told_by g h same (ended l e) = owned g h same (labelled l)

items_by : (g h : Group) → TellAlike g h → (z : List Item) → items_of true g z ≡ items_of true h z
items_by g h same [] = refl
items_by g h same (i ∷ z) =
    ap (λ b. if side true b then i ∷ items_of true g z else items_of true g z) (told_by g h same i)
    ∙ ap (λ l. if side true (tells h i) then i ∷ l else l) (items_by g h same z)

-- of a page, and of a page whose cells and roots are numbered anew, for groups that are the same by the new numbers
pub items_joined : (g h : Group) (f : Renumbering) → TellAlike g (group_anew f h) → (rules : Rules) (nodes : ℕ → List Node) (a : Run) (n : ℕ) (ds : List Deed) → IsOver a → IsOver (direct_page rules nodes ds n)
    → SameLines g a (direct_page rules (nodes_anew f nodes) (deeds_anew f ds) n) → items_of true g (kept_of a) ≡ items_anew f (items_of true h (kept_of (direct_page rules nodes ds n)))
items_joined g h f alike rules nodes a n ds o k same =
    let also : IsOver (direct_page rules (nodes_anew f nodes) (deeds_anew f ds) n) = subst IsOver (sym (pages_anew f rules nodes ds n)) (over_anew f (direct_page rules nodes ds n) k) in
    let z : List Item = kept_of (direct_page rules nodes ds n) in
    same_items g a (direct_page rules (nodes_anew f nodes) (deeds_anew f ds) n) o also same ∙ ap (items_of true g) (page_items_anew f rules nodes ds n) ∙ items_by g (group_anew f h) alike (items_anew f z) ∙ group_items_anew f true h z

-- a page, with the others' cells and roots numbered anew

module _ (p : Page) (valid : IsValid p) (g : List ℕ) (here : Contains (page_groups p) g) where
  -- the cells that the page doesn't have are all of the others, and so are such roots
  has_other_cells : HasOthers (the_group p g).cells
  has_other_cells d other =
      let e : ℕ = suc (d + length p.cells) in
      (e, false_from_ne_true ((the_group p g).cells e) (λ own. let l : e < length p.cells = cell_below p valid g here e own in absurd (omega arith)), λ same. absurd (omega arith))

  has_other_roots : HasOthers (the_group p g).roots
  has_other_roots d other =
      let e : ℕ = suc (d + length (granted_roots p)) in
      (e, false_from_ne_true ((the_group p g).roots e) (λ own. let l : e < length (granted_roots p) = root_below p g e own in absurd (omega arith)), λ same. absurd (omega arith))

  module _ (f : Renumbering) (apart : KeepsApart (the_group p g) f) where
    stays_alike : TellAlike (the_group p g) (group_anew f (the_group p g))
    stays_alike = record { modules = λ m. refl; roots = λ r. ap (has_root p g) (sym (f.roots.anew_back r)) ∙ apart.roots.others (f.roots.back r) }

    grant_stays : (t : Grant) → IsGrantOf true (the_group p g) t → grant_anew f t ≡ t
    grant_stays (a_cell e) h = ap a_cell (apart.cells.own e h)
    grant_stays (a_result n) h = refl
    grant_stays (a_plain v) h = refl
    grant_stays (a_root r) h = ap a_root (apart.roots.own r h)

    grant_other : (t : Grant) → IsGrantOf false (the_group p g) t → IsGrantOf false (the_group p g) (grant_anew f t)
    grant_other (a_cell e) h = apart.cells.others e ∙ h
    grant_other (a_result n) h = h
    grant_other (a_plain v) h = tt
    grant_other (a_root r) h = apart.roots.others r ∙ h

    node_stays : (t : ℕ × ℕ) → NodesAgree (the_group p g) f t t
    node_stays t = at (has_root p g t.0) refl
      where
        at : (b : Bool) → has_root p g t.0 ≡ b → NodesAgree (the_group p g) f t t
        at true h = inl (record { own = h; root = sym (apart.roots.own t.0 h); number = refl })
        at false h = inr (record { here = h; there = apart.roots.others t.0 ∙ h })

    targets_stay : (at : Named) (es : List Asked) → TargetsAgree (the_group p g) f at at es
    targets_stay at [] = tt
    targets_stay at (a_call m key args ∷ es) = targets_stay at es
    targets_stay at (a_click id ∷ es) = (node_stays (at id), targets_stay at es)
    targets_stay at (an_input id us ∷ es) = (node_stays (at id), targets_stay at es)
    targets_stay at (a_tick m ∷ es) = targets_stay at es

    load_agrees : (j : ℕ) (m : Module) (s : Program) → IsAt p j m → DeedsAgree (the_group p g) (to_load j s (given_in p m)) (to_load j s (grants_anew f (given_in p m)))
    load_agrees j m s at = by_test (is_among g j) refl
      where
        by_test : (b : Bool) → is_among g j ≡ b → DeedsAgree (the_group p g) (to_load j s (given_in p m)) (to_load j s (grants_anew f (given_in p m)))
        by_test true e =
            let own = own_grants p valid g here j m (among_from g j e) at in
            inl (record { by = e; grants = all_granted (IsGrantOf true (the_group p g)) (given_in p m) own }, ap (to_load j s) (sym (fixed_grants f (given_in p m) (λ t h. grant_stays t (own t h)))))
        by_test false e =
            let away = other_grants p g here j m (λ member. false≢true (sym e ∙ among_true g j member)) at in
            inr (
              record { by = e; grants = all_granted (IsGrantOf false (the_group p g)) (given_in p m) away },
              record { by = e; grants = all_anew (IsGrantOf false (the_group p g)) f (given_in p m) (λ t h. grant_other t (away t h)) },
            )

    each_agrees : (ss : List Program) → EachAgrees (the_group p g) f (number_in (roots_of p)) (number_in (roots_of p)) 0 p.modules p.modules ss ss
    each_agrees ss j m n s r at at' is is' =
        let module_same : m ≡ n = let e : Some m ≡ Some n = sym at ∙ at' in cc in
        let program_same : s ≡ r = let e : Some s ≡ Some r = sym is ∙ is' in cc in
        subst (λ k. DeedsAgree (the_group p g) (to_load k s (given_in p m)) (to_load k r (grants_anew f (given_in p n)))) (omega arith)
        (subst (λ (x : Program). DeedsAgree (the_group p g) (to_load j s (given_in p m)) (to_load j x (grants_anew f (given_in p n)))) program_same
        (subst (λ (k : Module). DeedsAgree (the_group p g) (to_load j s (given_in p m)) (to_load j s (grants_anew f (given_in p k)))) module_same (load_agrees j m s at)))

    nodes_stay : (nodes : ℕ → List Node) → SameNodes (the_group p g) nodes (nodes_anew f nodes)
    nodes_stay nodes r own = let back : f.roots.back r ≡ r = ap f.roots.back (sym (apart.roots.own r own)) ∙ f.roots.back_anew r in ap nodes (sym back)

    items_stay : (rules : Rules) (nodes : ℕ → List Node) (at : Named) (ss : List Program) → InStep p.modules p.modules ss ss → (n : ℕ) → IsOver (direct_page rules nodes (page_deeds p at ss) n)
        → items_anew f (items_of true (the_group p g) (kept_of (direct_page rules nodes (page_deeds p at ss) n))) ≡ items_of true (the_group p g) (kept_of (direct_page rules nodes (page_deeds p at ss) n))
    items_stay rules nodes at ss step n h =
        let ds : List Deed = page_deeds p at ss in
        let agrees : Agrees (the_group p g) ds (deeds_anew f ds) = deeds_agree (the_group p g) f p p at at ss ss refl (targets_stay at p.events) step (each_agrees ss) in
        sym (items_joined (the_group p g) (the_group p g) f stays_alike rules nodes (direct_page rules nodes ds n) n ds h h (pages_isolate rules (the_group p g) nodes (nodes_anew f nodes) (nodes_stay nodes) ds (deeds_anew f ds) agrees n n))

  -- in what is told of the group, with any nodes at the beginning
  pub record SpeaksOfOwn (z : List Item) : Type 0 where
    pub cells : acts.All (λ c. (the_group p g).cells c ≡ true) (cells_in z)
    pub roots : acts.All (λ r. has_root p g r ≡ true) (roots_in z)

  pub speaks_of_own : (rules : Rules) (nodes : ℕ → List Node) (at : Named) (ss : List Program) → InStep p.modules p.modules ss ss → (n : ℕ) → IsOver (direct_page rules nodes (page_deeds p at ss) n)
      → SpeaksOfOwn (items_of true (the_group p g) (kept_of (direct_page rules nodes (page_deeds p at ss) n)))
  speaks_of_own rules nodes at ss step n h =
      let z : List Item = items_of true (the_group p g) (kept_of (direct_page rules nodes (page_deeds p at ss) n)) in
      record {
        cells = names_own_cells (the_group p g) has_other_cells z (λ f apart. items_stay f apart rules nodes at ss step n h);
        roots = names_own_roots (the_group p g) has_other_roots z (λ f apart. items_stay f apart rules nodes at ss step n h);
      }
