-- What the rows of the functions of `cajita` come to.
use Rattle.std.proofs.Common.{◌≡◌, ℕ, zero, suc, ◌+◌, Bool, true, false, List, [], ◌∷◌, ◌++◌, length, map, Option, Some, None, Result, refl, sym, ap, ◌∙◌, subst}
use Rattle.std.specs.Prelude.{codes, is_some}
use Rattle.std.proofs.lemmas.List.{length-map}
use Rattle.caja_units.specs.Index.{number_units}
use Rattle.es3_objects.specs.declared.value.Stop.{Stop}
use Rattle.es3_objects.specs.declared.value.Value.{Value}
use Rattle.es3_objects.specs.declared.value.Value.TheVariants as v
use Rattle.es3_objects.specs.declared.value.Class.{Class}
use Rattle.es3_objects.specs.declared.value.Class.TheVariants as class
use Rattle.es3_heap.specs.Objects.{Objects, object_at, class_of, callable_of, props_of}
use Rattle.es3_heap.specs.Properties.{own, value_of, length_key, length_of}
use Rattle.es3_convert.specs.Conversions.{items_from, array_items}
use Rattle.rows.specs.Rows as r
use Rattle.rows.specs.Rows.{Handle, Sight, Ending, handles, keyed_handles}
use Rattle.rows.specs.Arguments as rows
use Rattle.rows.specs.Public.{indices, pub_keys}
use Rattle.rows.specs.Core.{copy_end, keys_end}
use Rattle.heap_rows.specs.Marks.{simple_mark}
use Rattle.heap_rows.specs.Doing.{Done, guests, value_in, see, see_object, finish, does}
use Rattle.heap_rows.specs.Opening.{place_of, empty_page}
use Rattle.heap_rows.proofs.Handles.{length-handles}
use Rattle.row_outcomes.specs.declared.Outcome.{Outcome}
use Rattle.row_outcomes.specs.Comes.{Comes, row_done, throws}
use Rattle.row_outcomes.specs.Arguments.{argument}
use Rattle.row_outcomes.specs.Arrays.{new_array}
use Rattle.row_outcomes.proofs.Arguments.{Stands, argument_held, handle_now, function_sight}
use Rattle.row_outcomes.proofs.Arrays.{items_stand, stand_now}
use Rattle.freeze_marks.specs.Copies.{value_copy}
use Rattle.freeze_marks.specs.Listing.{indices_from, object_keys, public_keys, listed}

-- a row that looks at the first argument and then ends
ended : (by : ℕ) (this : Value) (args : List Value) (h : Objects) (f : Sight → Ending) (d : Value → Done)
    → ((z : Value) → Stands (this ∷ args) (rows.argument 0 (suc (length args))) z → finish place_of by (f (see h (suc (length args)) z).sight) ((this ∷ args) ++ (see h (suc (length args)) z).values) h [] ≡ d z)
    → (does place_of by (r.looks (rows.argument 0 (suc (length args))) (λ s. r.ends (f s))) (this ∷ args) h empty_page []).done ≡ d (argument 0 args)
ended by this args h f d each =
    let n = suc (length args) in
    let stands : Stands (this ∷ args) (rows.argument 0 n) (argument 0 args) = argument_held place_of 0 this args in
    subst (λ w. finish place_of by (f (see h n w).sight) ((this ∷ args) ++ (see h n w).values) h [] ≡ d (argument 0 args)) (sym (handle_now (this ∷ args) (rows.argument 0 n) (argument 0 args) stands)) (each (argument 0 args) stands)

-- copy and snapshot

copied_object : (closed : Bool) (by n : ℕ) (vs : List Value) (h : Objects) (x : Handle) (o : ℕ) (c : Class) → length vs ≡ n → Stands vs x (v.Obj o) → class_of (object_at h o) ≡ c
    → finish place_of by (copy_end closed x (see_object n h o c).sight) (vs ++ (see_object n h o c).values) h [] ≡ value_copy closed (v.Obj o) by h
copied_object closed by n vs h x o class.Object len stands is = rw (stands (see_object n h o class.Object).values, is) refl
copied_object closed by n vs h x o class.Array len stands is =
    let items = array_items h o in
    rw (is, length-handles n items, stand_now (vs ++ items) (handles n items) items (items_stand vs items n len)) refl
copied_object closed by n vs h x o class.Function len stands is =
    rw is (function_sight (λ s. finish place_of by (copy_end closed x s) (vs ++ []) h [] ≡ throws (codes "bad argument") by h) (λ q. refl) refl (is_some (own h o simple_mark)) (callable_of (object_at h o)))
copied_object closed by n vs h x o class.Error len stands is = rw is refl
copied_object closed by n vs h x o class.Node len stands is = rw is refl

copied_each : (closed : Bool) (by n : ℕ) (vs : List Value) (h : Objects) (x : Handle) (z : Value) → length vs ≡ n → Stands vs x z
    → finish place_of by (copy_end closed x (see h n z).sight) (vs ++ (see h n z).values) h [] ≡ value_copy closed z by h
copied_each closed by n vs h x v.Undefined len stands = refl
copied_each closed by n vs h x v.Null len stands = refl
copied_each closed by n vs h x (v.Bool b) len stands = refl
copied_each closed by n vs h x (v.Num i) len stands = refl
copied_each closed by n vs h x (v.Text us) len stands = refl
copied_each closed by n vs h x (v.Obj o) len stands = copied_object closed by n vs h x o (class_of (object_at h o)) len stands refl

copied : (closed : Bool) (by : ℕ) (this : Value) (args : List Value) (h : Objects) →
    let x = rows.argument 0 (suc (length args)) in
    (does place_of by (r.looks x (λ s. r.ends (copy_end closed x s))) (this ∷ args) h empty_page []).done ≡ value_copy closed (argument 0 args) by h
copied closed by this args h =
    let n = suc (length args) in
    ended by this args h (copy_end closed (rows.argument 0 n)) (λ z. value_copy closed z by h) (λ z stands. copied_each closed by n (this ∷ args) h (rows.argument 0 n) z refl stands)

pub copy_row-is : (by : ℕ) (this : Value) (args : List Value) (h : Objects) → row_done r.copy by this args h ≡ value_copy false (argument 0 args) by h
copy_row-is = copied false

pub snapshot_row-is : (by : ℕ) (this : Value) (args : List Value) (h : Objects) → row_done r.snapshot by this args h ≡ value_copy true (argument 0 args) by h
snapshot_row-is = copied true

-- keys

keyed : (n : ℕ) (ps : List (List ℕ × Value)) → map (λ p. p.0) (keyed_handles n ps) ≡ map (λ p. p.0) ps
keyed n [] = refl
keyed n ((k, x) ∷ ps) = ap (λ l. k ∷ l) (keyed (n + 1) ps)

indices-handles : (i n : ℕ) (xs : List Value) → indices i (handles n xs) ≡ indices_from i (length xs)
indices-handles i n [] = refl
indices-handles i n (x ∷ xs) = ap (λ l. number_units i ∷ l) (indices-handles (i + 1) (n + 1) xs)

length-items : (n i : ℕ) (h : Objects) (o : ℕ) → length (items_from n i h o) ≡ n
length-items zero i h o = refl
length-items (suc n) i h o = ap suc (length-items n (i + 1) h o)

object_is_keyed : (n : ℕ) (h : Objects) (o : ℕ) (c : Class) → pub_keys (see_object n h o c).sight ≡ Some (object_keys c h o)
object_is_keyed n h o class.Object = ap (λ ks. let s : Option (List (List ℕ)) = Some ks in s) (keyed n (guests (props_of (object_at h o))))
object_is_keyed n h o class.Array =
    let count = length_of (value_of (own h o length_key)) in
    ap (λ ks. let s : Option (List (List ℕ)) = Some ks in s) (indices-handles 0 n (array_items h o) ∙ ap (indices_from 0) (length-items count 0 h o))
object_is_keyed n h o class.Function = function_sight (λ s. pub_keys s ≡ Some []) (λ q. refl) refl (is_some (own h o simple_mark)) (callable_of (object_at h o))
object_is_keyed n h o class.Error = refl
object_is_keyed n h o class.Node = refl

pub value_is_keyed : (n : ℕ) (h : Objects) (z : Value) → pub_keys (see h n z).sight ≡ public_keys h z
value_is_keyed n h v.Undefined = refl
value_is_keyed n h v.Null = refl
value_is_keyed n h (v.Bool b) = refl
value_is_keyed n h (v.Num i) = refl
value_is_keyed n h (v.Text us) = refl
value_is_keyed n h (v.Obj o) = object_is_keyed n h o (class_of (object_at h o))

texts_held : (vs : List Value) (ks : List (List ℕ)) → map (value_in place_of vs) (map r.text ks) ≡ map v.Text ks
texts_held vs [] = refl
texts_held vs (k ∷ ks) = ap (λ l. v.Text k ∷ l) (texts_held vs ks)

listed_ends : (found : Option (List (List ℕ))) (by : ℕ) (vs : List Value) (h : Objects) → finish place_of by (keys_end found) vs h [] ≡ listed found by h
listed_ends None by vs h = refl
listed_ends (Some ks) by vs h = rw (texts_held vs ks, length-map ks r.text, length-map ks v.Text) refl

pub keys_row-is : (by : ℕ) (this : Value) (args : List Value) (h : Objects) → row_done r.keys by this args h ≡ listed (public_keys h (argument 0 args)) by h
keys_row-is by this args h =
    let n = suc (length args) in
    ended by this args h (λ s. keys_end (pub_keys s)) (λ z. listed (public_keys h z) by h) (λ z stands. listed_ends (pub_keys (see h n z).sight) by ((this ∷ args) ++ (see h n z).values) h ∙ ap (λ f. listed f by h) (value_is_keyed n h z))

pub keys_comes : (by : ℕ) (this : Value) (args : List Value) (h g : Objects) (x : Value) (ks : List (List ℕ)) (items : List Value) (a : Result Outcome Stop) → x ≡ argument 0 args → Some ks ≡ public_keys h x → items ≡ map v.Text ks
    → Comes (new_array by h items) a g → Comes (row_done r.keys by this args h) a g
keys_comes by this args h g x ks items a first found texts comes =
    let same : new_array by h items ≡ row_done r.keys by this args h =
    ap (new_array by h) texts ∙ ap (λ f. listed f by h) (found ∙ ap (public_keys h) first) ∙ sym (keys_row-is by this args h) in
    subst (λ d. Comes d a g) same comes

pub keys_refused : (by : ℕ) (this : Value) (args : List Value) (h g : Objects) (x : Value) (a : Result Outcome Stop) → x ≡ argument 0 args → None ≡ public_keys h x
    → Comes (throws (codes "no object") by h) a g → Comes (row_done r.keys by this args h) a g
keys_refused by this args h g x a first none comes =
    let same : throws (codes "no object") by h ≡ row_done r.keys by this args h = ap (λ f. listed f by h) (none ∙ ap (public_keys h) first) ∙ sym (keys_row-is by this args h) in
    subst (λ d. Comes d a g) same comes
