-- What a renumbering that leaves items as they are says of the cells and roots that they name.
use Rattle.std.proofs.Common.{◌≡◌, ℕ, Bool, true, false, List, [], ◌∷◌, refl, sym, ap, ◌∙◌}
use Rattle.std.specs.Prelude.{nat_eq}
use Rattle.std.proofs.lemmas.Bool.{eqb-true}
use Rattle.acts.specs.Laws.{All}
use Rattle.acts.proofs.Keeps.{all_append}
use Rattle.page_deeds.specs.Deeds.{Label, of_click, of_input}
use Rattle.page_deeds.specs.Shown.{Shown, thing, error, Ended, by_return, by_throw, by_nothing, renamed, end_renamed}
use Rattle.cajita_meaning.specs.World.{Name, cell_name, facet_name, forward_name}
use Rattle.cajita_meaning.specs.Direct.{Item, made, got, touched, passed, granted, changed_node, ended}
use Rattle.cajita_laws.specs.Parts.{Group}
use Rattle.cell_numbers.specs.Renumbering.{Numbering, Renumbering, name_anew, label_anew, item_anew, items_anew}
use Rattle.cell_numbers.specs.Cells.{cells_of, cells_shown, cells_ended, cells_told, cells_in, roots_of, roots_shown, roots_ended, roots_labelled, roots_told, roots_in, StaysUnmoved, IsApart, KeepsApart, HasOthers, NamesOwnCells, NamesOwnRoots}
use Rattle.cell_numbers.proofs.Exchanges.{exchanged, at_first, at_second, at_other, not_same, the_same, and_exchanged}

-- what stays is not moved

module _ (f : Renumbering) where
  abbrev Unmoved : List ℕ → Type 0
  Unmoved cs = All (λ c. f.cells.anew c ≡ c) cs

  abbrev InPlace : List ℕ → Type 0
  InPlace rs = All (λ r. f.roots.anew r ≡ r) rs

  name_unmoved : (n : Name) → name_anew f n ≡ n → Unmoved (cells_of n) × InPlace (roots_of n)
  name_unmoved (cell_name c i) h = ((cc, tt), tt)
  name_unmoved (forward_name m p c i) h = ((cc, tt), tt)
  name_unmoved (facet_name r k) h = (tt, (cc, tt))
  name_unmoved n h = (tt, tt)

  shown_unmoved : (v : Shown Name) → renamed (name_anew f) v ≡ v → Unmoved (cells_shown v) × InPlace (roots_shown v)
  shown_unmoved (thing s n) h = name_unmoved n (cc)
  shown_unmoved (error n name message) h = name_unmoved n (cc)
  shown_unmoved v h = (tt, tt)

  ended_unmoved : (e : Ended Name) → end_renamed (name_anew f) e ≡ e → Unmoved (cells_ended e) × InPlace (roots_ended e)
  ended_unmoved (by_return v) h = shown_unmoved v (cc)
  ended_unmoved (by_throw v) h = shown_unmoved v (cc)
  ended_unmoved by_nothing h = (tt, tt)

  label_unmoved : (l : Label) → label_anew f l ≡ l → InPlace (roots_labelled l)
  label_unmoved (of_click k id root) h = (cc, tt)
  label_unmoved (of_input k id root) h = (cc, tt)
  label_unmoved l h = tt

  item_unmoved : (i : Item) → item_anew f i ≡ i → Unmoved (cells_told i) × InPlace (roots_told i)
  item_unmoved (made m o) h = name_unmoved o (cc)
  item_unmoved (got m o p) h =
      let a = name_unmoved o (cc) in
      let b = name_unmoved p (cc) in
      (all_append (λ c. f.cells.anew c ≡ c) (cells_of o) (cells_of p) a.0 b.0, all_append (λ r. f.roots.anew r ≡ r) (roots_of o) (roots_of p) a.1 b.1)
  item_unmoved (touched m t o k) h = name_unmoved o (cc)
  item_unmoved (passed a b o) h = name_unmoved o (cc)
  item_unmoved (granted m o) h = name_unmoved o (cc)
  item_unmoved (changed_node r k c) h = (tt, (cc, tt))
  item_unmoved (ended l e) h =
      let a = ended_unmoved e (cc) in
      (a.0, all_append (λ r. f.roots.anew r ≡ r) (roots_labelled l) (roots_ended e) (label_unmoved l (cc)) a.1)
  item_unmoved i h = (tt, tt)

pub stays_unmoved : StaysUnmoved
stays_unmoved f [] h = (tt, tt)
stays_unmoved f (i ∷ z) h =
    let a = item_unmoved f i (cc) in
    let b = stays_unmoved f z (cc) in
    (all_append (λ c. f.cells.anew c ≡ c) (cells_told i) (cells_in z) a.0 b.0, all_append (λ r. f.roots.anew r ≡ r) (roots_told i) (roots_in z) a.1 b.1)

-- two of the others are exchanged

module _ (own : ℕ → Bool) (c e : ℕ) (no : own c ≡ false) (nor : own e ≡ false) where
  own_stay : (k : ℕ) → own k ≡ true → exchanged c e k ≡ k
  own_stay k mine = at_other c e k (not_same k c (λ p. apart c no p)) (not_same k e (λ p. apart e nor p))
    where
      apart : (n : ℕ) → own n ≡ false → k ≡ n → ⊥
      apart n other p = Rattle.std.proofs.lemmas.Bool.true≢false (sym mine ∙ ap own p ∙ other)

  others_stay : (k : ℕ) → own (exchanged c e k) ≡ own k
  others_stay k = at (nat_eq k c) (nat_eq k e) refl refl
    where
      at : (s t : Bool) → nat_eq k c ≡ s → nat_eq k e ≡ t → own (exchanged c e k) ≡ own k
      at true t p q = ap own (at_first c e k (eqb-true k c p)) ∙ nor ∙ sym no ∙ ap own (sym (eqb-true k c p))
      at false true p q = ap own (at_second c e k (eqb-true k e q)) ∙ no ∙ sym nor ∙ ap own (sym (eqb-true k e q))
      at false false p q = ap own (at_other c e k p q)

  keeps_apart : IsApart own (and_exchanged c e the_same)
  keeps_apart = record { own = own_stay; others = others_stay }

-- so one that stays, however the others are numbered, is the group's
own_numbers : (own : ℕ → Bool) → HasOthers own → (cs : List ℕ) → ((f : Numbering) → IsApart own f → All (λ c. f.anew c ≡ c) cs) → All (λ c. own c ≡ true) cs
own_numbers own more [] h = tt
own_numbers own more (c ∷ cs) h = (at (own c) refl, own_numbers own more cs (λ f k. (h f k).1))
  where
    at : (b : Bool) → own c ≡ b → own c ≡ true
    at true is = is
    at false is =
        let e = more c is in
        absurd (e.2 (sym ((h (and_exchanged c e.0 the_same) (keeps_apart own c e.0 is e.1)).0) ∙ at_first c e.0 c refl))

none_moved : (own : ℕ → Bool) → IsApart own the_same
none_moved own = record { own = λ c h. refl; others = λ c. refl }

pub names_own_cells : NamesOwnCells
names_own_cells g more z h =
    own_numbers g.cells more (cells_in z) (λ f k. let all : Renumbering = record { cells = f; roots = the_same } in (stays_unmoved all z (h all (record { cells = k; roots = none_moved g.roots }))).0)

pub names_own_roots : NamesOwnRoots
names_own_roots g more z h =
    own_numbers g.roots more (roots_in z) (λ f k. let all : Renumbering = record { cells = the_same; roots = f } in (stays_unmoved all z (h all (record { cells = none_moved g.cells; roots = k }))).1)
