-- A frozen record that no module made: what stands at these places, by its keys.
use Rattle.std.proofs.Common.{◌≡◌, ℕ, Bool, true, false, List, [], ◌∷◌, Some, None, cond, refl, sym, ap, ◌∙◌, subst}
use Rattle.std.specs.Prelude.{is_some, codes}
use Rattle.std.proofs.lemmas.Option.{none-some}
use Rattle.caja_units.specs.Units.{same_units, is_hidden}
use Rattle.es3_objects.specs.declared.value.Value.TheVariants as es
use Rattle.es3_heap.specs.Objects.{Property, Objects, plain_attrs, hidden_attrs}
use Rattle.es3_heap.specs.Properties.{find}
use Rattle.cajita_meaning.specs.World.{Pairs}
use Rattle.heap_rows.specs.Marks.{read_mark, set_mark, frozen_mark}
use Rattle.heap_rows.specs.Doing.{guests}
use Rattle.row_simulation.proofs.Keys.{apart, apart_too, hidden_read, hidden_set, read_frozen, set_frozen}
use Rattle.row_simulation.proofs.Relation.{PairsAre, Once, PropsAre, closing}

unfoldable pub frozen_props : List (List ℕ × ℕ) → List Property
frozen_props [] = closing true
frozen_props ((k, at) ∷ rest) = record { key = k; value = es.Obj at; attrs = plain_attrs } ∷ frozen_props rest

unfoldable pub all_guests : List (List ℕ × ℕ) → Bool
all_guests [] = true
all_guests ((k, at) ∷ rest) = cond (is_hidden k) false (all_guests rest)

pub first_guest : (b : Bool) (rest : Bool) → cond b false rest ≡ true → (b ≡ false) × (rest ≡ true)
first_guest true rest e = cc
first_guest false rest e = (refl, e)

find_closing : (l : List (List ℕ × ℕ)) → all_guests l ≡ true → (k : List ℕ) → is_hidden k ≡ true → find k (frozen_props l) ≡ find k (closing true)
unfolding all_guests frozen_props
find_closing [] a k hidden = refl
find_closing ((j, at) ∷ rest) a k hidden = let q = first_guest (is_hidden j) (all_guests rest) a in rw (apart_too j k q.0 hidden) (find_closing rest q.1 k hidden)

closing_marks : (k : List ℕ) (p : Property) → find k (closing true) ≡ Some p → p.attrs ≡ hidden_attrs
closing_marks k p e = elim (same_units k frozen_mark) as (λ b. cond b (Some (record { key = frozen_mark; value = es.Bool true; attrs = hidden_attrs })) None ≡ Some p → p.attrs ≡ hidden_attrs) [
  | true ↦ λ e. let same : record { key = frozen_mark; value = es.Bool true; attrs = hidden_attrs } ≡ p = cc in ap (λ q. q.attrs) (sym same)
  | false ↦ λ e. absurd (none-some p e)
] e

find_plain : (l : List (List ℕ × ℕ)) (k : List ℕ) (p : Property) → is_hidden k ≡ false → find k (frozen_props l) ≡ Some p → p.attrs ≡ plain_attrs
unfolding frozen_props
find_plain [] k p guest e = absurd (none-some p (subst (λ b. cond b (Some (record { key = frozen_mark; value = es.Bool true; attrs = hidden_attrs })) None ≡ Some p) (apart k frozen_mark guest refl) e))
find_plain ((j, at) ∷ rest) k p guest e = elim (same_units k j) as (λ b. cond b (Some (record { key = j; value = es.Obj at; attrs = plain_attrs })) (find k (frozen_props rest)) ≡ Some p → p.attrs ≡ plain_attrs) [
  | true ↦ λ e. let same : record { key = j; value = es.Obj at; attrs = plain_attrs } ≡ p = cc in ap (λ q. q.attrs) (sym same)
  | false ↦ λ e. find_plain rest k p guest e
] e

pub no_read : (l : List (List ℕ × ℕ)) → all_guests l ≡ true → (k : List ℕ) → find (read_mark k) (frozen_props l) ≡ None
no_read l a k = find_closing l a (read_mark k) (hidden_read k) ∙ rw (read_frozen k) refl

pub no_set : (l : List (List ℕ × ℕ)) → all_guests l ≡ true → (k : List ℕ) → find (set_mark k) (frozen_props l) ≡ None
no_set l a k = find_closing l a (set_mark k) (hidden_set k) ∙ rw (set_frozen k) refl

pub frozen_are : (h : Objects) (ps : Pairs) (l : List (List ℕ × ℕ)) → all_guests l ≡ true → Once (frozen_props l) → find (codes "toString") (frozen_props l) ≡ None → find (codes "valueOf") (frozen_props l) ≡ None → PairsAre h ps (guests (frozen_props l)) → PropsAre h true ps (frozen_props l)
frozen_are h ps l a once text value pairs = record {
  pairs = pairs;
  closed = ap is_some (find_closing l a frozen_mark refl);
  reads = λ k p e. absurd (none-some p (sym (no_read l a k) ∙ e));
  sets = λ k p e. absurd (none-some p (sym (no_set l a k) ∙ e));
  plain = λ k p guest e. find_plain l k p guest e;
  marks = λ k p hidden e. closing_marks k p (sym (find_closing l a k hidden) ∙ e);
  once = once;
  no_text = text;
  no_value = value;
}
