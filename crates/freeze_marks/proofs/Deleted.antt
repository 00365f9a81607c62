-- An object that is marked as frozen and then loses its marks for writing, one after another, is frozen.
use Rattle.std.proofs.Common.{◌≡◌, ℕ, zero, suc, true, false, List, [], ◌∷◌, ◌++◌, length, Option, Some, None, set, cond, refl, sym, ap, ◌∙◌, append-nil, arith}
use Rattle.std.specs.Prelude.{slice_get, map}
use Rattle.std.specs.List.{filter}
use Rattle.std.specs.Cmp.Lexicographic.{same_text}
use Rattle.caja_units.specs.Units.{same_units}
use Rattle.es3_objects.specs.declared.value.Value.{Value}
use Rattle.es3_objects.specs.declared.value.Value.TheVariants.{Bool}
use Rattle.es3_objects.specs.declared.value.Attrs.{Attrs}
use Rattle.es3_heap.specs.Objects.{Property, Object, Objects, hidden_attrs, object_at, props_of}
use Rattle.es3_heap.specs.Properties.{defined, without, with_props}
use Rattle.heap_rows.specs.Marks.{frozen_mark, marked, is_set_mark, set_marks, without_keys, without_set_marks, freeze}
use Rattle.freeze_marks.specs.Freezing.{deleted}

-- the keys of marks for writing, by the keys alone
pub set_marks-is : (ps : List Property) → set_marks ps ≡ filter is_set_mark (map (λ p. p.key) ps)
set_marks-is [] = refl
set_marks-is (p ∷ ps) =
    elim (is_set_mark p.key) as (λ b. cond b (p.key ∷ set_marks ps) (set_marks ps) ≡ cond b (p.key ∷ filter is_set_mark (map (λ p. p.key) ps)) (filter is_set_mark (map (λ p. p.key) ps))) [
      | true ↦ ap (λ ks. p.key ∷ ks) (set_marks-is ps)
      | false ↦ set_marks-is ps
    ]

-- where no key is left
pub all_found : (found keys : List (List ℕ)) (all : List (List ℕ)) → length keys ≡ 0 → found ++ filter is_set_mark keys ≡ all → found ≡ all
all_found found [] all none is = sym (append-nil found) ∙ is
all_found found (k ∷ keys) all none is = absurd (omega (arith, none))

-- an object that was changed is changed again

get_set : (xs : List Object) (i : ℕ) (x y : Object) → slice_get xs i ≡ Some x → slice_get (set xs i y) i ≡ Some y
get_set [] i x y is = cc
get_set (z ∷ zs) zero x y is = refl
get_set (z ∷ zs) (suc i) x y is = get_set zs i x y is

set_twice : (xs : List Object) (i : ℕ) (x y : Object) → set (set xs i x) i y ≡ set xs i y
set_twice [] i x y = refl
set_twice (z ∷ zs) zero x y = refl
set_twice (z ∷ zs) (suc i) x y = ap (λ l. z ∷ l) (set_twice zs i x y)

abbrev stored : List ℕ → List Object → Objects
stored counts l = record { list = l; counts = counts }

abbrev with_these : Object → List Property → Object
with_these x ps = record { class = x.class; proto = x.proto; callable = x.callable; tag = x.tag; props = ps }

again : (h : Objects) (o : ℕ) (x : Option Object) (qs : List Property) (f : List Property → List Property) → object_at h o ≡ x →
    let g = with_props h o x qs in
    with_props g o (object_at g o) (f (props_of (object_at g o))) ≡ with_props h o x (f qs)
again h o None qs f is = rw is refl
again h o (Some x) qs f is =
    let g = with_props h o (Some x) qs in
    ap (λ z. with_props g o z (f (props_of z))) (get_set h.list o x (with_these x qs) is)
    ∙ ap (stored h.counts) (set_twice h.list o (with_these x qs) (with_these x (f qs)))

deleted-is : (ks : List (List ℕ)) (h : Objects) (o : ℕ) (qs : List Property) → deleted ks o (with_props h o (object_at h o) qs) ≡ with_props h o (object_at h o) (without_keys ks qs)
deleted-is [] h o qs = refl
deleted-is (k ∷ ks) h o qs = ap (deleted ks o) (again h o (object_at h o) qs (without k) refl) ∙ deleted-is ks h o (without k qs)

-- the mark is none for writing, so that it may be there before

mark_stays : (k : List ℕ) → is_set_mark k ≡ true → same_units k frozen_mark ≡ false
mark_stays k is =
    let cases = elim (same_units k frozen_mark) as (λ b. same_units k frozen_mark ≡ b → b ≡ false) [
      | true ↦ λ e. let wrong : is_set_mark frozen_mark ≡ true = ap is_set_mark (sym (same_text k frozen_mark (sym e))) ∙ is in cc
      | false ↦ λ e. refl
    ] in cases refl

other_key : (k j i : List ℕ) → same_units j i ≡ true → same_units k j ≡ false → same_units k i ≡ false
other_key k j i same other = ap (same_units k) (sym (same_text j i (sym same))) ∙ other

without-defined : (k j : List ℕ) (x : Value) (a : Attrs) (ps : List Property) → same_units k j ≡ false → without k (defined j x a ps) ≡ defined j x a (without k ps)
without-defined k j x a [] other = rw other refl
without-defined k j x a (p ∷ ps) other =
    let q : Property = record { key = j; value = x; attrs = a } in
    let cases = elim (same_units j p.key) as (λ b. same_units j p.key ≡ b → without k (cond b (q ∷ ps) (p ∷ defined j x a ps)) ≡ defined j x a (without k (p ∷ ps))) [
      | true ↦ λ same. rw (other, other_key k j p.key same other, same) refl
      | false ↦ λ apart. elim (same_units k p.key) as (λ b. cond b (cond p.attrs.dont_delete (p ∷ defined j x a ps) (defined j x a ps)) (p ∷ without k (defined j x a ps)) ≡ defined j x a (cond b (cond p.attrs.dont_delete (p ∷ ps) ps) (p ∷ without k ps))) [
        | true ↦ elim p.attrs.dont_delete as (λ b. cond b (p ∷ defined j x a ps) (defined j x a ps) ≡ defined j x a (cond b (p ∷ ps) ps)) [
          | true ↦ rw apart refl
          | false ↦ refl
        ]
        | false ↦ rw apart (ap (λ l. p ∷ l) (without-defined k j x a ps other))
      ]
    ] in cases refl

without_marks : (x : Value) (a : Attrs) (ps qs : List Property) → without_keys (set_marks ps) (defined frozen_mark x a qs) ≡ defined frozen_mark x a (without_keys (set_marks ps) qs)
without_marks x a [] qs = refl
without_marks x a (p ∷ ps) qs =
    let cases = elim (is_set_mark p.key) as (λ b. is_set_mark p.key ≡ b → without_keys (cond b (p.key ∷ set_marks ps) (set_marks ps)) (defined frozen_mark x a qs) ≡ defined frozen_mark x a (without_keys (cond b (p.key ∷ set_marks ps) (set_marks ps)) qs)) [
      | true ↦ λ is. ap (without_keys (set_marks ps)) (without-defined p.key frozen_mark x a qs (mark_stays p.key is)) ∙ without_marks x a ps (without p.key qs)
      | false ↦ λ is. without_marks x a ps qs
    ] in cases refl

pub freeze-is : (h : Objects) (o : ℕ) → deleted (set_marks (props_of (object_at h o))) o (marked h o frozen_mark) ≡ freeze h o
freeze-is h o =
    let ps = props_of (object_at h o) in
    let mark = defined frozen_mark (Bool true) hidden_attrs in
    deleted-is (set_marks ps) h o (mark ps)
    ∙ ap (with_props h o (object_at h o)) (without_marks (Bool true) hidden_attrs ps ps)
    ∙ sym (again h o (object_at h o) (without_set_marks ps) mark refl)
