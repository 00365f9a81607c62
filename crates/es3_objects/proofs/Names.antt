-- The names of properties, slot by slot and place by place.
use Rattle.std.proofs.Common.{◌≡◌, ℕ, zero, suc, ◌+◌, ◌<◌, List, [], ◌∷◌, ◌++◌, length, get_or, take, Option, Some, None, slice_get, option_to_list, refl, ap, sym, ◌∙◌, append_assoc, arith}
use Rattle.std.proofs.lemmas.List.{take_more, length-take-le}
use Rattle.property_tables.specs.declared.field.Field.{Field}
use Rattle.property_tables.specs.Indexed.{present}
use Rattle.es3_objects.specs.declared.value.Value.{Value}
use Rattle.es3_objects.specs.declared.value.Attrs.{Attrs}
use Rattle.es3_objects.specs.declared.properties.Name.{Name}
use Rattle.es3_objects.specs.Held.{listed, names_of}

present-append : (i : ℕ) (xs ys : List (Option (Field Value Attrs))) → present i (xs ++ ys) ≡ present i xs ++ present (i + length xs) ys
present-append i [] ys = let same : i + 0 ≡ i = omega arith in rw same refl
present-append i (None ∷ xs) ys = let there : i + suc (length xs) ≡ i + 1 + length xs = omega arith in rw there (present-append (i + 1) xs ys)
present-append i (Some f ∷ xs) ys = let there : i + suc (length xs) ≡ i + 1 + length xs = omega arith in rw there (ap (λ l. (Rattle.caja_units.specs.Index.number_units i, f) ∷ l) (present-append (i + 1) xs ys))

names-append : (xs ys : List (List ℕ × Field Value Attrs)) → names_of (listed (xs ++ ys)) ≡ names_of (listed xs) ++ names_of (listed ys)
names-append [] ys = refl
names-append (x ∷ xs) ys = ap (λ ns. record { key = x.0; attrs = x.1.attrs } ∷ ns) (names-append xs ys)

pub slot-named : (ns : List Name) (xs : List (Option (Field Value Attrs))) (i : ℕ) (x d : Option (Field Value Attrs)) → i < length xs → x ≡ get_or xs i d → (ns ++ names_of (listed (present 0 (take i xs)))) ++ names_of (listed (present i (x ∷ []))) ≡ ns ++ names_of (listed (present 0 (take (i + 1) xs)))
slot-named ns xs i x d within read =
    let count : 0 + length (take i xs) ≡ i = omega (arith, length-take-le i xs (omega arith)) in
    let more : take (i + 1) xs ≡ take i xs ++ x ∷ [] = take_more xs i d within ∙ ap (λ y. take i xs ++ y ∷ []) (sym read) in
    append_assoc ns (names_of (listed (present 0 (take i xs)))) (names_of (listed (present i (x ∷ []))))
    ∙ ap (λ l. ns ++ l) (sym (ap (λ l. names_of (listed (present 0 l))) more ∙ ap (λ l. names_of (listed l)) (present-append 0 (take i xs) (x ∷ []) ∙ ap (λ n. present 0 (take i xs) ++ present n (x ∷ [])) count)
    ∙ names-append (present 0 (take i xs)) (present i (x ∷ []))))

take-next : {X : Type 0} (xs : List X) (i : ℕ) → take (suc i) xs ≡ take i xs ++ option_to_list (slice_get xs i)
take-next [] zero = refl
take-next [] (suc i) = refl
take-next (x ∷ xs) zero = refl
take-next (x ∷ xs) (suc i) = ap (λ l. x ∷ l) (take-next xs i)

pub other-named : (ns : List Name) (os : List (List ℕ × Field Value Attrs)) (at : ℕ) → (ns ++ names_of (listed (take at os))) ++ names_of (listed (option_to_list (slice_get os at))) ≡ ns ++ names_of (listed (take (at + 1) os))
other-named ns os at =
    let next : at + 1 ≡ suc at = omega arith in
    append_assoc ns (names_of (listed (take at os))) (names_of (listed (option_to_list (slice_get os at))))
    ∙ ap (λ l. ns ++ l) (sym (ap (λ n. names_of (listed (take n os))) next ∙ ap (λ l. names_of (listed l)) (take-next os at) ∙ names-append (take at os) (option_to_list (slice_get os at))))
