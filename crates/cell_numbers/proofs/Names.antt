-- A renumbering that joins two lists of names: name by name, the number that the first list's cell has got so far and its number in the second list are exchanged.
use Rattle.std.proofs.Common.{◌≡◌, ◌⊎◌, inl, inr, ℕ, zero, suc, ◌<◌, Bool, true, false, List, [], ◌∷◌, Option, Some, None, refl, sym, ap, ◌∙◌, subst, arith}
use Rattle.std.specs.Prelude.{nat_eq, slice_get, length}
use Rattle.std.specs.Cmp.Lexicographic.{same_text, other_text}
use Rattle.std.proofs.lemmas.Bool.{eqb-true, eqb-false}
use Rattle.std.proofs.lemmas.Option.{slice_get_within}
use Rattle.caja_units.specs.Units.{same_units}
use Rattle.page_deeds.specs.Deeds.{Grant, a_cell, a_result, a_plain, a_root, Grants, to_load, to_call, to_tick, to_click, to_input}
use Rattle.cajita_page.specs.DirectPage.{Deed, direct_page}
use Rattle.cell_numbers.specs.Renumbering.{Numbering, Renumbering, grant_anew, grants_anew, deeds_anew, nodes_anew}
use Rattle.cell_numbers.specs.Names.{IsNamed, AreNamedOnce, Joins, NumbersJoin, Listed, BothJoin, SameGrant, SameGrants, SameDeeds, DeedsJoin, PagesJoin}
use Rattle.cell_numbers.proofs.Exchanges.{exchanged, at_first, at_other, not_same, the_same, and_exchanged, one_number}
use Rattle.cell_numbers.proofs.Pages.{pages_anew}

-- where a name stands

-- a name at a place, or at none
abbrev Found : List (List ℕ) → List ℕ → Type 0
Found names x = ((c : ℕ) × IsNamed names c x) ⊎ ((c : ℕ) → IsNamed names c x → ⊥)

the_name : {x y : List ℕ} → Some x ≡ Some y → x ≡ y
the_name e = cc

found : (names : List (List ℕ)) (x : List ℕ) → Found names x
found [] x = inr (λ c e. cc)
found (y ∷ names) x = at (same_units x y) refl (found names x)
  where
    none : same_units x y ≡ false → ((c : ℕ) → IsNamed names c x → ⊥) → (c : ℕ) → IsNamed (y ∷ names) c x → ⊥
    none e h zero g = other_text x y (sym e) (sym (the_name g))
    none e h (suc c) g = h c g

    at : (t : Bool) → same_units x y ≡ t → ((c : ℕ) × IsNamed names c x) ⊎ ((c : ℕ) → IsNamed names c x → ⊥) → ((c : ℕ) × IsNamed (y ∷ names) c x) ⊎ ((c : ℕ) → IsNamed (y ∷ names) c x → ⊥)
    at true e h = inl (0, ap Some (sym (same_text x y (sym e))))
    at false e (inl h) = inl (suc h.0, h.1)
    at false e (inr h) = inr (none e h)

-- the first cells of a list are joined

module _ (names others : List (List ℕ)) (once : AreNamedOnce names) (also : AreNamedOnce others) where
  -- the first k cells
  abbrev JoinsBelow : ℕ → Numbering → Type 0
  JoinsBelow k f = (c e : ℕ) (x : List ℕ) → c < k → IsNamed names c x → IsNamed others e x → f.anew c ≡ e

  -- a cell that comes to its number, and leaves the cells before it where they are
  one_more : (k e : ℕ) (x : List ℕ) (f : Numbering) → IsNamed names k x → IsNamed others e x → JoinsBelow k f → JoinsBelow (suc k) (and_exchanged (f.anew k) e f)
  one_more k e x f is has h c d y le named too = at (nat_eq c k) refl
    where
      at : (t : Bool) → nat_eq c k ≡ t → exchanged (f.anew k) e (f.anew c) ≡ d
      at true g =
          let same = eqb-true c k g in
          let text = the_name (sym named ∙ ap (slice_get names) same ∙ is) in
          at_first (f.anew k) e (f.anew c) (ap f.anew same) ∙ also e d y (subst (IsNamed others e) (sym text) has) too
      at false g =
          let less : c < k = omega (arith, eqb-false c k g) in
          let there = h c d y less named too in
          at_other (f.anew k) e (f.anew c) (not_same (f.anew c) (f.anew k) (λ p. eqb-false c k g (one_number f c k p)))
          (not_same (f.anew c) e (λ p. eqb-false c k g (once c k y named (subst (IsNamed names k) (the_name (sym has ∙ ap (slice_get others) (sym p ∙ there) ∙ too)) is))))
          ∙ there

  -- a cell whose name the other list doesn't have, and none
  no_more : (k : ℕ) (f : Numbering) → ((e : ℕ) (x : List ℕ) → IsNamed names k x → IsNamed others e x → ⊥) → JoinsBelow k f → JoinsBelow (suc k) f
  no_more k f none h c d y le named too = at (nat_eq c k) refl
    where
      at : (t : Bool) → nat_eq c k ≡ t → f.anew c ≡ d
      at true g = absurd (none d y (subst (λ n. IsNamed names n y) (eqb-true c k g) named) too)
      at false g =
          let less : c < k = omega (arith, eqb-false c k g) in
          h c d y less named too

  next : (k : ℕ) (o : Option (List ℕ)) → slice_get names k ≡ o → (f : Numbering) → JoinsBelow k f → (g : Numbering) × JoinsBelow (suc k) g
  next k None is f h = (f, no_more k f (λ e x named too. absurd (nothing (sym is ∙ named))) h)
    where
      nothing : {x : List ℕ} → None ≡ Some x → ⊥
      nothing e = cc
  next k (Some x) is f h = at (found others x)
    where
      at : Found others x → (g : Numbering) × JoinsBelow (suc k) g
      at (inl p) = (and_exchanged (f.anew k) p.0 f, one_more k p.0 x f is p.1 h)
      at (inr none) = (f, no_more k f (λ e y named too. none e (subst (IsNamed others e) (the_name (sym named ∙ is)) too)) h)

  joined : (k : ℕ) → (f : Numbering) × JoinsBelow k f
  joined zero = (the_same, λ c e x le named too. absurd (omega arith))
  joined (suc k) = let f = joined k in next k (slice_get names k) refl f.0 f.1

pub numbers_join : NumbersJoin
numbers_join names others once also =
    let f = joined names others once also (length names) in
    (f.0, λ c e x named too. f.1 c e x (slice_get_within names c x named) named too)

-- deeds that are the same but for the numbers of cells and roots

grant_joins : (a b : Listed) (f : Renumbering) → BothJoin a b f → (g h : Grant) → SameGrant a b g h → grant_anew f g ≡ h
grant_joins a b f joins (a_cell c) (a_cell e) s = ap a_cell (joins.cells c e s.0 s.1 s.2)
grant_joins a b f joins (a_cell c) (a_result m) s = absurd (cc)
grant_joins a b f joins (a_cell c) (a_plain v) s = absurd (cc)
grant_joins a b f joins (a_cell c) (a_root r) s = absurd (cc)
grant_joins a b f joins (a_root r) (a_root e) s = ap a_root (joins.roots r e s.0 s.1 s.2)
grant_joins a b f joins (a_root r) (a_cell e) s = absurd (cc)
grant_joins a b f joins (a_root r) (a_result m) s = absurd (cc)
grant_joins a b f joins (a_root r) (a_plain v) s = absurd (cc)
grant_joins a b f joins (a_result m) h s = s
grant_joins a b f joins (a_plain v) h s = s

grants_join : (a b : Listed) (f : Renumbering) → BothJoin a b f → (gs hs : Grants) → SameGrants a b gs hs → grants_anew f gs ≡ hs
grants_join a b f joins [] [] s = refl
grants_join a b f joins ((x, g) ∷ gs) ((y, h) ∷ hs) s =
    ap (λ (k : List ℕ). (k, grant_anew f g) ∷ grants_anew f gs) s.0 ∙ ap (λ (k : Grant). (y, k) ∷ grants_anew f gs) (grant_joins a b f joins g h s.1) ∙ ap (λ (l : Grants). (y, h) ∷ l) (grants_join a b f joins gs hs s.2)
grants_join a b f joins gs hs s = absurd s

pub deeds_join : DeedsJoin
deeds_join a b f joins (to_load m p gs) (to_load k q hs) s =
    ap (λ m. to_load m p (grants_anew f gs)) s.0 ∙ ap (λ p. to_load k p (grants_anew f gs)) s.1 ∙ ap (to_load k q) (grants_join a b f joins gs hs s.2)
deeds_join a b f joins (to_load m p gs) (to_call i k key args) s = absurd (cc)
deeds_join a b f joins (to_load m p gs) (to_tick i k) s = absurd (cc)
deeds_join a b f joins (to_load m p gs) (to_click i id root n) s = absurd (cc)
deeds_join a b f joins (to_load m p gs) (to_input i id root n us) s = absurd (cc)
deeds_join a b f joins (to_click k id root n) (to_click i other r j) s = rw (s.0, s.1, joins.roots root r s.2.0 s.2.1 s.2.2, s.3) refl
deeds_join a b f joins (to_click k id root n) (to_load m p gs) s = absurd (cc)
deeds_join a b f joins (to_click k id root n) (to_call i m key args) s = absurd (cc)
deeds_join a b f joins (to_click k id root n) (to_tick i m) s = absurd (cc)
deeds_join a b f joins (to_click k id root n) (to_input i other r j us) s = absurd (cc)
deeds_join a b f joins (to_input k id root n us) (to_input i other r j ws) s = rw (s.0, s.1, joins.roots root r s.2.0 s.2.1 s.2.2, s.3, s.4) refl
deeds_join a b f joins (to_input k id root n us) (to_load m p gs) s = absurd (cc)
deeds_join a b f joins (to_input k id root n us) (to_call i m key args) s = absurd (cc)
deeds_join a b f joins (to_input k id root n us) (to_tick i m) s = absurd (cc)
deeds_join a b f joins (to_input k id root n us) (to_click i other r j) s = absurd (cc)
deeds_join a b f joins (to_call i k key args) e s = s
deeds_join a b f joins (to_tick i k) e s = s

all_join : (a b : Listed) (f : Renumbering) → BothJoin a b f → (ds es : List Deed) → SameDeeds a b ds es → deeds_anew f ds ≡ es
all_join a b f joins [] [] s = refl
all_join a b f joins (d ∷ ds) (e ∷ es) s = ap (λ k. k ∷ deeds_anew f ds) (deeds_join a b f joins d e s.0) ∙ ap (λ l. e ∷ l) (all_join a b f joins ds es s.1)
all_join a b f joins ds es s = absurd s

pub pages_join : PagesJoin
pages_join a b once also ds es s =
    let c = numbers_join a.cells b.cells once.cells also.cells in
    let r = numbers_join a.roots b.roots once.roots also.roots in
    let f : Renumbering = record { cells = c.0; roots = r.0 } in
    let joins : BothJoin a b f = record { cells = c.1; roots = r.1 } in
    (f, joins, λ rules nodes n. ap (λ l. direct_page rules (nodes_anew f nodes) l n) (sym (all_join a b f joins ds es s)) ∙ pages_anew f rules nodes ds n)
