-- Freezing deletes each mark for writing: where none of them is DontDelete, what is left are the other properties, in order.
use Rattle.std.proofs.Common.{◌≡◌, ℕ, Bool, true, false, List, [], ◌∷◌, Some, None, cond, refl, sym, ap, ◌∙◌}
use Rattle.std.specs.Prelude.{not}
use Rattle.std.specs.List.{filter}
use Rattle.std.specs.Cmp.Lexicographic.{same_text}
use Rattle.std.proofs.lemmas.Option.{none-some}
use Rattle.caja_units.specs.Units.{same_units}
use Rattle.es3_heap.specs.Objects.{Property}
use Rattle.es3_heap.specs.Properties.{find, without}
use Rattle.es3_objects.proofs.Keys.{same_key-refl}
use Rattle.heap_rows.specs.Marks.{is_set_mark, set_marks, without_keys, without_set_marks}
use Rattle.row_simulation.proofs.Keys.{not_true}
use Rattle.row_simulation.proofs.Relation.{Once}

abbrev pub stays : Property → Bool
stays p = not (is_set_mark p.key)

-- no mark for writing is DontDelete
abbrev pub MarksGo : List Property → Type 0
MarksGo [] = Unit {0}
MarksGo (p ∷ ps) = (is_set_mark p.key ≡ true → p.attrs.dont_delete ≡ false) × MarksGo ps

abbrev AreSetMarks : List (List ℕ) → Type 0
AreSetMarks [] = Unit {0}
AreSetMarks (k ∷ ks) = (is_set_mark k ≡ true) × AreSetMarks ks

are_set_marks : (ps : List Property) → AreSetMarks (set_marks ps)
are_set_marks [] = tt
are_set_marks (p ∷ ps) =
    let cases = elim (is_set_mark p.key) as (λ b. is_set_mark p.key ≡ b → AreSetMarks (cond b (p.key ∷ set_marks ps) (set_marks ps))) [
      | true ↦ λ e. (e, are_set_marks ps)
      | false ↦ λ e. are_set_marks ps
    ] in cases refl

-- a mark is no other key
another : (k j : List ℕ) → is_set_mark k ≡ true → is_set_mark j ≡ false → same_units k j ≡ false
another k j set free = not_true _ (λ e. cc (sym free ∙ ap is_set_mark (sym (same_text k j (sym e))) ∙ set))

-- a property that is no mark stays, whatever marks are deleted
kept_first : (ks : List (List ℕ)) (p : Property) (ps : List Property) → AreSetMarks ks → is_set_mark p.key ≡ false → without_keys ks (p ∷ ps) ≡ p ∷ without_keys ks ps
kept_first [] p ps set free = refl
kept_first (k ∷ ks) p ps set free = rw (another k p.key set.0 free) (kept_first ks p (without k ps) set.1 free)

-- a mark that may be deleted goes
gone_first : (p : Property) (ps : List Property) → p.attrs.dont_delete ≡ false → without p.key (p ∷ ps) ≡ ps
gone_first p ps goes = rw (same_key-refl p.key, goes) refl

pub others_stay : (ps : List Property) → MarksGo ps → without_set_marks ps ≡ filter stays ps
others_stay [] go = refl
others_stay (p ∷ ps) go =
    let cases = elim (is_set_mark p.key) as (λ b. is_set_mark p.key ≡ b → without_keys (cond b (p.key ∷ set_marks ps) (set_marks ps)) (p ∷ ps) ≡ cond (not b) (p ∷ filter stays ps) (filter stays ps)) [
      | true ↦ λ set. ap (without_keys (set_marks ps)) (gone_first p ps (go.0 set)) ∙ others_stay ps go.1
      | false ↦ λ free. kept_first (set_marks ps) p ps (are_set_marks ps) free ∙ ap (λ l. p ∷ l) (others_stay ps go.1)
    ] in cases refl

-- by what is found of each mark, where each key stands once
pub marks_go : (ps : List Property) → Once ps → ((k : List ℕ) (p : Property) → is_set_mark k ≡ true → find k ps ≡ Some p → p.attrs.dont_delete ≡ false) → MarksGo ps
marks_go [] once each = tt
marks_go (p ∷ ps) once each = (
  (λ set. each p.key p set (rw (same_key-refl p.key) refl)),
  marks_go ps once.1 (λ k q set found. each k q set (rw (behind k q found) found)),
)
  where
    behind : (k : List ℕ) (q : Property) → find k ps ≡ Some q → same_units k p.key ≡ false
    behind k q found = not_true _ (λ e. none-some q (sym once.0 ∙ ap (λ i. find i ps) (sym (same_text k p.key (sym e))) ∙ found))

none_rest : (p : Property) (ps : List Property) (k : List ℕ) → find k (p ∷ ps) ≡ None → find k ps ≡ None
none_rest p ps k e = elim (same_units k p.key) as (λ b. cond b (Some p) (find k ps) ≡ None → find k ps ≡ None) [
  | true ↦ λ x. absurd (none-some p (sym x))
  | false ↦ λ x. x
] e

-- where no mark stands, all stay
pub all_stay : (ps : List Property) → ((k : List ℕ) → is_set_mark k ≡ true → find k ps ≡ None) → without_set_marks ps ≡ ps
all_stay ps none = ap (λ ks. without_keys ks ps) (no_marks ps none)
  where
    no_marks : (ps : List Property) → ((k : List ℕ) → is_set_mark k ≡ true → find k ps ≡ None) → set_marks ps ≡ []
    no_marks [] none = refl
    no_marks (p ∷ ps) none =
        let cases = elim (is_set_mark p.key) as (λ b. is_set_mark p.key ≡ b → cond b (p.key ∷ set_marks ps) (set_marks ps) ≡ []) [
          | true ↦ λ set. absurd (none-some p (sym (none p.key set) ∙ rw (same_key-refl p.key) refl))
          | false ↦ λ free. no_marks ps (λ k set. none_rest p ps k (none k set))
        ] in cases refl
