-- What the interpreter computes of a new array of texts.
use Rattle.std.proofs.Common.{◌≡◌, ℕ, zero, suc, ◌+◌, ◌<◌, Bool, true, false, List, [], ◌∷◌, Some, Option, length, cond, refl, sym, ap, ◌∙◌, subst, arith}
use Rattle.std.specs.Prelude.{codes, pos, slice_get, map, nat_lt}
use Rattle.std.proofs.lemmas.Option.{slice_get_within}
use Rattle.caja_units.specs.Units.{is_hidden}
use Rattle.caja_units.specs.Index.{number_units}
use Rattle.es3_tree.specs.declared.BinOp.TheVariants as bin
use Rattle.es3_objects.specs.declared.value.Value.{Value}
use Rattle.es3_objects.specs.declared.value.Value.TheVariants as es
use Rattle.es3_heap.specs.Objects.{Property, Objects, plain_attrs, object_at}
use Rattle.es3_heap.specs.Properties.{find, own, get, value_of}
use Rattle.es3_heap.specs.Making.{item_properties, array_object}
use Rattle.es3_objects.proofs.Keys.{same_key-refl}
use Rattle.es3_convert.specs.Conversions.{text_within, text_of}
use Rattle.es3_language.specs.Store.{Store, name_value}
use Rattle.es3_language.specs.References.{slot}
use Rattle.es3_language.specs.Expressions.{dot_value, index_value, binary_right, step_plan, step_number, write_plan}
use Rattle.es3_language.specs.Operators.{stepped}
use Rattle.es3_language.specs.Meaning as Target
use Rattle.row_simulation.proofs.Items.{index-not_length, index-other}
use Rattle.cajita_simulation.proofs.Heaps.Opened.{lookup_from-own}
use Rattle.cajita_simulation.proofs.Relation.{names_at}

-- the items of an array of these texts
abbrev pub texts_of : List (List ℕ) → List Value
texts_of ks = map es.Text ks

texts_length : (ks : List (List ℕ)) → length (map es.Text ks) ≡ length ks
texts_length [] = refl
texts_length (k ∷ ks) = ap suc (texts_length ks)

text_at : (ks : List (List ℕ)) (i : ℕ) (k : List ℕ) → slice_get ks i ≡ Some k → slice_get (map es.Text ks) i ≡ Some (es.Text k)
text_at [] i k is = cc
text_at (j ∷ ks) zero k is = cc
text_at (j ∷ ks) (suc i) k is = text_at ks i k is

-- the property of an item
item_found : (vs : List Value) (i j : ℕ) (v : Value) → i + j < 4294967295 → slice_get vs j ≡ Some v → find (number_units (i + j)) (item_properties i vs) ≡ Some (record { key = number_units (i + j); value = v; attrs = plain_attrs })
item_found [] i j v few is = cc
item_found (u ∷ vs) i zero v few is =
    let at : i + 0 ≡ i = omega arith in
    let found : (let o : Option Property = find (number_units i) (item_properties i (u ∷ vs)) in o) ≡ Some (record { key = number_units i; value = u; attrs = plain_attrs }) = rw (same_key-refl (number_units i)) refl in
    ap (λ n. find (number_units n) (item_properties i (u ∷ vs))) at ∙ found ∙ ap (λ w. let o : Option Property = Some (record { key = number_units i; value = w; attrs = plain_attrs }) in o) (same u v is) ∙ ap (λ n. let o : Option Property = Some (record { key = number_units n; value = v; attrs = plain_attrs }) in o) (sym at)
  where
    same : (a b : Value) → (let o : Option Value = Some a in o) ≡ Some b → a ≡ b
    same a b e = cc
item_found (u ∷ vs) i (suc j) v few is =
    let at : i + suc j ≡ (i + 1) + j = omega arith in
    let rest = item_found vs (i + 1) j v (omega (arith, few)) is in
    let found : find (number_units ((i + 1) + j)) (item_properties i (u ∷ vs)) ≡ Some (record { key = number_units ((i + 1) + j); value = v; attrs = plain_attrs }) = rw (index-other i ((i + 1) + j) (omega (arith, few)) (omega arith)) rest in
    subst (λ n. find (number_units n) (item_properties i (u ∷ vs)) ≡ Some (record { key = number_units n; value = v; attrs = plain_attrs })) (sym at) found

item_own : (h : Objects) (ks : List (List ℕ)) (a i : ℕ) (k : List ℕ) → object_at h a ≡ Some (array_object (map es.Text ks)) → i < 4294967295 → slice_get ks i ≡ Some k → own h a (number_units i) ≡ Some (record { key = number_units i; value = es.Text k; attrs = plain_attrs })
item_own h ks a i k there few is =
    let vs = map es.Text ks in
    let at : 0 + i ≡ i = omega arith in
    let found = subst (λ n. find (number_units n) (item_properties 0 (map es.Text ks)) ≡ Some (record { key = number_units n; value = es.Text k; attrs = plain_attrs })) at (item_found vs 0 i (es.Text k) (omega (arith, few)) (text_at ks i k is)) in
    rw (there, index-not_length i few) found

key_text : (h : Objects) (i : ℕ) → text_of h (es.Num (pos i)) ≡ Rattle.std.specs.Prelude.Ok (number_units i)
unfolding text_within
key_text h i = refl

-- an item is read by its number
pub item_law : (ks : List (List ℕ)) (a i : ℕ) (k : List ℕ) (env : Target.Env) (s : Store) → object_at s.heap a ≡ Some (array_object (map es.Text ks)) → i < 4294967295 → slice_get ks i ≡ Some k → index_value env (es.Obj a) (es.Num (pos i)) s ≡ Target.give (es.Text k) s
item_law ks a i k env s there few is =
    let lt = slice_get_within s.heap.list a _ there in
    let got : get s.heap a (number_units i) ≡ es.Text k = ap value_of (lookup_from-own (length s.heap.list) s.heap a (number_units i) _ (omega (arith, lt)) (item_own s.heap ks a i k there few is)) in
    rw (key_text s.heap i, there) (either_way (is_hidden (number_units i)) (Target.give (get s.heap a (number_units i)) s) ∙ ap (λ v. Target.give v s) got)
  where
    either_way : (b : Bool) (p : Target.Plan) → cond b p p ≡ p
    either_way true p = refl
    either_way false p = refl

-- its length
pub size_law : (ks : List (List ℕ)) (a : ℕ) (env : Target.Env) (s : Store) → object_at s.heap a ≡ Some (array_object (map es.Text ks)) → dot_value (codes "length") env (es.Obj a) s ≡ Target.give (es.Num (pos (length ks))) s
size_law ks a env s p = sized (length s.heap.list) refl
  where
    sized : (n : ℕ) → length s.heap.list ≡ n → dot_value (codes "length") env (es.Obj a) s ≡ Target.give (es.Num (pos (length ks))) s
    sized zero e = let lt = slice_get_within s.heap.list a _ p in absurd (omega (arith, lt, e))
    sized (suc n) e = rw (e, p, texts_length ks) refl

pub less_law : (i n : ℕ) (s : Store) → binary_right bin.Less (es.Num (pos i)) (es.Num (pos n)) s ≡ Target.give (es.Bool (nat_lt i n)) s
less_law i n s = refl

-- the counter goes on by one

stepped_is : (i : ℕ) → i < 4294967296 → stepped true (pos i) ≡ Some (pos (suc i))
stepped_is i lt = grind arith

pub next_law : (i c : ℕ) (x : List ℕ) (env : Target.Env) (s : Store) → i < 4294967296 → name_value x (names_at s c) ≡ Some (es.Num (pos i)) → step_plan true false env (slot c x) s ≡ write_plan (slot c x) (es.Num (pos (suc i))) (es.Num (pos i)) env s
next_law i c x env s lt there = rw there (ap (λ m. step_number false (pos i) m (slot c x) env s) (stepped_is i lt))
