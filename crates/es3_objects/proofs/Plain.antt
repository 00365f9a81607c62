-- Slots that are full of values without attributes: what keeps them so, and the array that they are.
use Rattle.std.proofs.Common.{◌≡◌, ℕ, zero, suc, ◌<◌, ◌≤◌, true, false, not, filter, List, [], ◌∷◌, ◌++◌, length, set, take, Option, Some, None, slice_get, nat_lt, pos, refl, ap, sym, ◌∙◌, subst, arith}
use Rattle.std.proofs.lemmas.Bool.Decides.{nat_tests}
use Rattle.std.proofs.lemmas.List.{length-map, append-nil}
use Rattle.property_tables.specs.declared.field.Field.{Field}
use Rattle.property_tables.specs.Indexed.{Indexed, IsNext, is_full, is_index_from, present}
use Rattle.es3_objects.specs.declared.value.Value.{Value}
use Rattle.es3_objects.specs.declared.value.Value.TheVariants.{Num}
use Rattle.es3_objects.specs.declared.value.Attrs.{Attrs}
use Rattle.es3_objects.specs.Objects.{Property, plain_attrs, fixed_attrs}
use Rattle.es3_objects.specs.Items.{IsDense}
use Rattle.es3_objects.specs.Making.{length_property}
use Rattle.es3_objects.specs.Held.{listed, held, plain_held, filled, ArePlain, IsPlain}
use Rattle.es3_objects.proofs.Listed.{field, items-listed}

set-plain : (xs : List (Option (Field Value Attrs))) (i : ℕ) (f : Field Value Attrs) → f.attrs ≡ plain_attrs → ArePlain xs → ArePlain (set xs i (Some f))
set-plain [] i f is all = all
set-plain (None ∷ xs) i f is all = absurd all
set-plain (Some g ∷ xs) zero f is all = (is, all.1)
set-plain (Some g ∷ xs) (suc i) f is all = (all.0, set-plain xs i f is all.1)

push-plain : (xs : List (Option (Field Value Attrs))) (f : Field Value Attrs) → f.attrs ≡ plain_attrs → ArePlain xs → ArePlain (xs ++ Some f ∷ [])
push-plain [] f is all = (is, tt)
push-plain (None ∷ xs) f is all = absurd all
push-plain (Some g ∷ xs) f is all = (all.0, push-plain xs f is all.1)

take-plain : (n : ℕ) (xs : List (Option (Field Value Attrs))) → ArePlain xs → ArePlain (take n xs)
take-plain zero xs all = tt
take-plain (suc n) [] all = tt
take-plain (suc n) (None ∷ xs) all = absurd all
take-plain (suc n) (Some f ∷ xs) all = (all.0, take-plain n xs all.1)

full-plain : (xs : List (Option (Field Value Attrs))) (i : ℕ) → ArePlain xs → i < length xs → is_full (slice_get xs i) ≡ true
full-plain [] i all within = absurd (omega arith)
full-plain (None ∷ xs) i all within = absurd all
full-plain (Some f ∷ xs) zero all within = refl
full-plain (Some f ∷ xs) (suc i) all within = full-plain xs i all.1 (omega arith)

pub filled-plain : (vs : List Value) → ArePlain (filled vs)
filled-plain [] = tt
filled-plain (v ∷ vs) = (refl, filled-plain vs)

-- an item that is put at a slot's place, or at the next one
pub item-plain : (x after : Indexed (Field Value Attrs)) (i : ℕ) (f : Field Value Attrs)
    → (is_full (slice_get x.slots i) ≡ true → after ≡ record { slots = set x.slots i (Some f); others = x.others })
    → (IsNext i x → after ≡ record { slots = x.slots ++ Some f ∷ []; others = [] })
    → i < 4294967295 → i ≤ length x.slots → f.attrs ≡ plain_attrs → IsPlain x → IsPlain after
item-plain x after i f there next small near is plain =
    let cases = elim (nat_lt i (length x.slots)) as (λ b. nat_lt i (length x.slots) ≡ b → IsPlain after) [
      | true ↦ λ less.
          let full = full-plain x.slots i plain.slots (grind (arith, nat_tests)) in
          subst IsPlain (sym (there full)) (record { slots = set-plain x.slots i f is plain.slots; alone = plain.alone })
      | false ↦ λ less.
          let last : i ≡ length x.slots = grind (arith, nat_tests) in
          subst IsPlain (sym (next (record { small = small; last = last; alone = plain.alone }))) (record { slots = push-plain x.slots f is plain.slots; alone = refl })
    ] in cases refl

-- the slots below an index
pub shortened-plain : (x after : Indexed (Field Value Attrs)) (n : ℕ) → after ≡ record { slots = take n x.slots; others = filter (λ (e : List ℕ × Field Value Attrs). not (is_index_from n e.0)) x.others } → IsPlain x → IsPlain after
shortened-plain x after n is plain =
    subst IsPlain (sym is) (record { slots = take-plain n x.slots plain.slots; alone = ap (filter (λ (e : List ℕ × Field Value Attrs). not (is_index_from n e.0))) plain.alone })

-- the values that such slots hold

values_of : List (Option (Field Value Attrs)) → List Value
values_of [] = []
values_of (None ∷ xs) = values_of xs
values_of (Some f ∷ xs) = f.value ∷ values_of xs

are-filled : (xs : List (Option (Field Value Attrs))) → ArePlain xs → xs ≡ filled (values_of xs)
unfolding values_of
are-filled [] all = refl
are-filled (None ∷ xs) all = absurd all
are-filled (Some f ∷ xs) all =
    ap (λ a. Some (field f.value a) ∷ xs) all.0 ∙ ap (λ l. Some (plain_held f.value) ∷ l) (are-filled xs all.1)

pub held-dense : (l : Option (Field Value Attrs)) (f : Field Value Attrs) (x : Indexed (Field Value Attrs)) (n : ℕ) (ps : List Property)
    → l ≡ Some f → f ≡ field (Num (pos n)) fixed_attrs → IsPlain x → length x.slots ≡ n → n ≤ 4294967295 → held l x ≡ ps → IsDense n ps
held-dense l f x n ps some is plain count few same =
    let vs = values_of x.slots in
    let slots : x.slots ≡ filled vs = are-filled x.slots plain.slots in
    record {
      items = vs;
      count = sym (length-map vs (λ v. Some (plain_held v))) ∙ ap length (sym slots) ∙ count;
      few = few;
      are = sym same ∙ ap (λ o. held o x) (some ∙ ap Some is)
          ∙ ap (λ es. length_property n ∷ listed es) (ap (λ os. present 0 x.slots ++ os) plain.alone ∙ append-nil (present 0 x.slots) ∙ ap (present 0) slots)
          ∙ ap (λ qs. length_property n ∷ qs) (items-listed 0 vs);
    }
