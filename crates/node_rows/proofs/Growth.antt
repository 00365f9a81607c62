-- A document after a deed at a node of a root: no node is new, or one, which is the root's next.
use Rattle.std.proofs.Common.{◌≡◌, ◌⊎◌, inl, inr, ℕ, suc, ◌<◌, ◌≤◌, true, false, [], ◌∷◌, ◌++◌, Option, Some, length, refl, sym, ap, ◌∙◌, subst, arith}
use Rattle.std.specs.Prelude.{nat_lt}
use Rattle.std.proofs.Math.Dec.{eqb}
use Rattle.std.proofs.lemmas.Bool.{eqb-true}
use Rattle.std.proofs.lemmas.Bool.Decides.{nat_tests}
use Rattle.std.proofs.lemmas.Option.{slice_get_within}
use Rattle.doc_nodes.specs.Rows.{Doc, nodes_of, node_with}
use Rattle.doc_laws.specs.Owned.{Grows}
use Rattle.doc_laws.specs.Reached.{Reached}
use Rattle.doc_laws.specs.Within.{IsWithin}
use Rattle.doc_laws.proofs.Lists.{there, apart}
use Rattle.doc_views.specs.Seen.{local, Stands}
use Rattle.doc_views.proofs.Views.{there_in, stands_in}
use Rattle.node_rows.proofs.Lists.{same_places, one_behind}

pub record Even (d e : Doc) : Type 0 where
  pub rows : length e.rows ≤ length d.rows
  pub numbers : (s : ℕ) → nodes_of e.roots s ≡ nodes_of d.roots s

pub record Longer (r : ℕ) (d e : Doc) : Type 0 where
  pub rows : length e.rows ≡ suc (length d.rows)
  pub numbers : nodes_of e.roots r ≡ nodes_of d.roots r ++ length d.rows ∷ []
  pub stands : Stands e (length d.rows) r (length (nodes_of d.roots r))

both : (o : Option ℕ) (a b : ℕ) → o ≡ Some a → o ≡ Some b → a ≡ b
both o a b is also = cc

module _ (r : ℕ) (d e : Doc) (before : Reached d) (reached : Reached e) (grows : Grows d e) (within : IsWithin r d e) where
  -- old nodes keep their numbers
  kept : (j m : ℕ) → ◌≡◌ {A = Option ℕ} (node_with d r j) (Some m) → ◌≡◌ {A = Option ℕ} (node_with e r j) (Some m)
  kept j m at =
      let is = before.owned.back m r j at in
      reached.owned.to m r j (grows.owners m (there_in d m r j before.owned is) ∙ is)

  -- the number of a new one is behind theirs
  behind : (m j : ℕ) → length d.rows ≤ m → Stands e m r j → length (nodes_of d.roots r) ≤ j
  behind m j new is =
      let cases = elim (nat_lt j (length (nodes_of d.roots r))) as (λ b. nat_lt j (length (nodes_of d.roots r)) ≡ b → length (nodes_of d.roots r) ≤ j) [
        | true ↦ λ yes.
            let less : j < length (nodes_of d.roots r) = grind (arith, nat_tests) in
            let old = there (nodes_of d.roots r) j less in
            let same : m ≡ old.0 = both (node_with e r j) m old.0 (reached.owned.to m r j is) (kept j old.0 old.1) in
            let early : old.0 < length d.rows = there_in d old.0 r j before.owned (before.owned.back old.0 r j old.1) in
            absurd (omega (arith, same, early, new))
        | false ↦ λ no. grind (arith, nat_tests)
      ] in cases refl

  new_number : (m : ℕ) → length d.rows ≤ m → m < length e.rows → (j : ℕ) × Stands e m r j × (length (nodes_of d.roots r) ≤ j) × (j < length (nodes_of e.roots r))
  new_number m new less =
      let is = stands_in e m r (within.new m new less) in
      (local e m, is, behind m (local e m) new is, slice_get_within (nodes_of e.roots r) (local e m) m (reached.owned.to m r (local e m) is))

  no_more : length (nodes_of e.roots r) ≤ length (nodes_of d.roots r) → Even d e
  no_more few = record {
    rows =
        let cases = elim (nat_lt (length d.rows) (length e.rows)) as (λ b. nat_lt (length d.rows) (length e.rows) ≡ b → length e.rows ≤ length d.rows) [
          | true ↦ λ yes.
              let less : length d.rows < length e.rows = grind (arith, nat_tests) in
              let a = new_number (length d.rows) (omega arith) less in
              absurd (omega (arith, a.2, a.3, few))
          | false ↦ λ no. grind (arith, nat_tests)
        ] in cases refl;
    numbers = λ s.
        let cases = elim (eqb s r) as (λ b. eqb s r ≡ b → nodes_of e.roots s ≡ nodes_of d.roots s) [
          | true ↦ λ yes.
              let same : s ≡ r = eqb-true s r yes in
              ap (nodes_of e.roots) same ∙ same_places (nodes_of d.roots r) (nodes_of e.roots r) kept few ∙ sym (ap (nodes_of d.roots) same)
          | false ↦ λ other. within.numbers s (apart s r other)
        ] in cases refl;
  }

  -- the next number is that of the next node
  next : length (nodes_of e.roots r) ≤ suc (length (nodes_of d.roots r)) → (m : ℕ) → length d.rows ≤ m → m < length e.rows → Stands e m r (length (nodes_of d.roots r))
  next few m new less =
      let a = new_number m new less in
      let last : a.0 ≡ length (nodes_of d.roots r) = omega (arith, a.2, a.3, few) in
      subst (Stands e m r) last a.1

  one_more : length (nodes_of d.roots r) < length (nodes_of e.roots r) → length (nodes_of e.roots r) ≤ suc (length (nodes_of d.roots r)) → Longer r d e
  one_more more few =
      let last = there (nodes_of e.roots r) (length (nodes_of d.roots r)) more in
      let is : Stands e last.0 r (length (nodes_of d.roots r)) = reached.owned.back last.0 r (length (nodes_of d.roots r)) last.1 in
      let less : last.0 < length e.rows = there_in e last.0 r (length (nodes_of d.roots r)) reached.owned is in
      let late : length d.rows ≤ last.0 = old_or_new last.0 is in
      let stands : Stands e (length d.rows) r (length (nodes_of d.roots r)) = next few (length d.rows) (omega arith) (omega (arith, less, late)) in
      record {
        rows = omega (arith, all stands, less, late);
        numbers = one_behind (nodes_of d.roots r) (nodes_of e.roots r) (length d.rows) kept (reached.owned.to (length d.rows) r (length (nodes_of d.roots r)) stands) few;
        stands = stands;
      }
    where
      old_or_new : (m : ℕ) → Stands e m r (length (nodes_of d.roots r)) → length d.rows ≤ m
      old_or_new m is =
          let cases = elim (nat_lt m (length d.rows)) as (λ b. nat_lt m (length d.rows) ≡ b → length d.rows ≤ m) [
            | true ↦ λ yes.
                let less : m < length d.rows = grind (arith, nat_tests) in
                let was = before.owned.to m r (length (nodes_of d.roots r)) (sym (grows.owners m less) ∙ is) in
                let within = slice_get_within (nodes_of d.roots r) (length (nodes_of d.roots r)) m was in
                absurd (omega (arith, within))
            | false ↦ λ no. grind (arith, nat_tests)
          ] in cases refl

      all : Stands e (length d.rows) r (length (nodes_of d.roots r)) → length e.rows ≤ suc (length d.rows)
      all is =
          let cases = elim (nat_lt (suc (length d.rows)) (length e.rows)) as (λ b. nat_lt (suc (length d.rows)) (length e.rows) ≡ b → length e.rows ≤ suc (length d.rows)) [
            | true ↦ λ yes.
                let less : suc (length d.rows) < length e.rows = grind (arith, nat_tests) in
                let two = next few (suc (length d.rows)) (omega arith) less in
                let same : length d.rows ≡ suc (length d.rows) = both (node_with e r (length (nodes_of d.roots r))) (length d.rows) (suc (length d.rows)) (reached.owned.to (length d.rows) r (length (nodes_of d.roots r)) is) (reached.owned.to (suc (length d.rows)) r (length (nodes_of d.roots r)) two) in
                absurd (omega (arith, same))
            | false ↦ λ no. grind (arith, nat_tests)
          ] in cases refl

  pub growth : length (nodes_of e.roots r) ≤ suc (length (nodes_of d.roots r)) → Even d e ⊎ Longer r d e
  growth few =
      let cases = elim (nat_lt (length (nodes_of d.roots r)) (length (nodes_of e.roots r))) as (λ b. nat_lt (length (nodes_of d.roots r)) (length (nodes_of e.roots r)) ≡ b → Even d e ⊎ Longer r d e) [
        | true ↦ λ yes. inr (one_more (grind (arith, nat_tests)) few)
        | false ↦ λ no. inl (no_more (grind (arith, nat_tests)))
      ] in cases refl
