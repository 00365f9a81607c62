-- The row of the call of a key comes to the call of the public property.
use Rattle.std.proofs.Common.{◌≡◌, ℕ, suc, ◌-◌, List, [], ◌∷◌, ◌++◌, length, map, None, Result, Ok, Err, IfOk, OnOk, refl, sym, ◌∙◌, subst, append_assoc, arith}
use Rattle.std.specs.Prelude.{codes, false, is_some}
use Rattle.es3_objects.specs.declared.value.Value.{Value}
use Rattle.es3_objects.specs.declared.value.Value.TheVariants as v
use Rattle.es3_objects.specs.declared.value.Class.{Class}
use Rattle.es3_objects.specs.declared.value.Class.TheVariants as class
use Rattle.es3_heap.specs.Objects.{Objects, object_at, class_of, callable_of}
use Rattle.es3_heap.specs.Properties.{own}
use Rattle.es3_language.specs.Natives.{invoke_reply}
use Rattle.rows.specs.Rows as r
use Rattle.rows.specs.Rows.{Handle, Sight, held}
use Rattle.rows.specs.Arguments.{values_from}
use Rattle.rows.specs.Public.{pub_get}
use Rattle.rows.specs.Events.{found_end, key_row}
use Rattle.heap_rows.specs.Marks.{simple_mark}
use Rattle.heap_rows.specs.Doing.{Page, value_in, see, see_object, finish, does}
use Rattle.heap_rows.specs.Opening.{place_of}
use Rattle.row_outcomes.proofs.Arguments.{Stands, handle_now, function_sight}
use Rattle.row_outcomes.proofs.Numbers.{next_values, first_values}
use Rattle.public_properties.specs.Reading.{public_read}
use Rattle.public_properties.proofs.Alike.{Alike}
use Rattle.public_properties.proofs.AtKey.{IsSomething}
use Rattle.public_properties.proofs.Properties.{property_stands}
use Rattle.public_properties.proofs.Sorts.{IsNoFunction, by_sort}
use Rattle.page_natives.specs.Natives.{Kept, page_of}
use Rattle.caja_units.specs.declared.Memory.{Memory}
use Rattle.module_loader.specs.declared.events.KeyCall.{KeyCall}
use Rattle.module_loader.specs.KeyCalls.{reply_of, called_by, called, answer}
use Rattle.module_loader.specs.Turns.{key_done}

one_less : (n : ℕ) → suc n - 1 ≡ n
one_less n = omega arith

-- the values behind the first one
behind_one : (x : Value) (xs values more : List Value) → map (value_in place_of (((x ∷ xs) ++ values) ++ more)) (values_from 1 (length xs)) ≡ xs
behind_one x xs values more =
    next_values place_of x ((xs ++ values) ++ more) 0 (length xs)
    ∙ subst (λ l. map (value_in place_of l) (values_from 0 (length xs)) ≡ xs) (sym (append_assoc xs values more)) (first_values place_of xs (values ++ more))

no_call : (f : Handle) (args : List Handle) (s : Sight) → IsNoFunction s → found_end f args s ≡ r.throws (codes "not a function")
no_call f args (r.a_function sort) is = absurd is
no_call f args s is = refl

method_called : (by : ℕ) (x m : Value) (xs values : List Value) (h : Objects) (f : Handle) → Stands ((x ∷ xs) ++ values) f m → (n : ℕ) (more : List Value)
    → Alike (finish place_of by (found_end f (values_from 1 (length xs)) (see h n m).sight) (((x ∷ xs) ++ values) ++ more) h []) (called m x xs by h)
method_called by x m xs values h f stands n more =
    let vs = ((x ∷ xs) ++ values) ++ more in
    let args = values_from 1 (length xs) in
    let calls : Alike (finish place_of by (r.calls false f (held 0) args) vs h []) (record { reply = invoke_reply false m x xs; heap = h; items = [] }) =
    record { reply = rw (stands more, behind_one x xs values more) refl; heap = refl } in
    by_sort (λ s q. Alike (finish place_of by (found_end f args s) vs h []) (called_by q m x xs by h))
    (record {
      other = λ s is. subst (λ e. Alike (finish place_of by e vs h []) (called_by None m x xs by h)) (sym (no_call f args s is)) (record { reply = refl; heap = refl });
      code = λ i. calls;
      simple = λ i. calls;
      constructor = λ i. calls;
      exophoric = λ i w. calls;
    }) n h m

-- what is seen of an object is something
object_something : (n : ℕ) (h : Objects) (o : ℕ) (c : Class) → IsSomething (see_object n h o c).sight
object_something n h o class.Object = tt
object_something n h o class.Array = tt
object_something n h o class.Function = function_sight IsSomething (λ q. tt) tt (is_some (own h o simple_mark)) (callable_of (object_at h o))
object_something n h o class.Error = tt
object_something n h o class.Node = tt

-- where there is an object to look in
abbrev looked : List ℕ → ℕ → Sight → r.Row
looked k n s = r.looks (pub_get (held 0) s k) (λ f. r.ends (found_end (pub_get (held 0) s k) (values_from 1 n) f))

looked_is : (k : List ℕ) (n : ℕ) (s : Sight) → IsSomething s → key_row k (suc n) s ≡ looked k n s
looked_is k n r.nothing is = absurd is
looked_is k n r.a_null is = absurd is
looked_is k n s is = rw (one_less n) refl

method_looked : (by : ℕ) (x : Value) (k : List ℕ) (xs : List Value) (h : Objects) (g : Page) → let seen = see h (suc (length xs)) x in
    IsSomething seen.sight → Alike (does place_of by (key_row k (suc (length xs)) seen.sight) ((x ∷ xs) ++ seen.values) h g []).done (called (public_read h x k) x xs by h)
method_looked by x k xs h g something =
    let seen = see h (suc (length xs)) x in
    let vs = (x ∷ xs) ++ seen.values in
    let f = pub_get (held 0) seen.sight k in
    let m = public_read h x k in
    let stands : Stands vs f m = property_stands x xs h k in
    subst (λ row. Alike (does place_of by row vs h g []).done (called m x xs by h)) (sym (looked_is k (length xs) seen.sight something))
    (subst (λ z. Alike (finish place_of by (found_end f (values_from 1 (length xs)) (see h (length vs) z).sight) (vs ++ (see h (length vs) z).values) h []) (called m x xs by h)) (sym (handle_now vs f m stands))
    (method_called by x m xs seen.values h f stands (length vs) (see h (length vs) m).values))

key_done-is : (by : ℕ) (x : Value) (k : List ℕ) (xs : List Value) (h : Objects) (z : Kept) → Alike (key_done by k (x ∷ xs) h z) (answer x k xs by h)
key_done-is by v.Undefined k xs h z = record { reply = refl; heap = refl }
key_done-is by v.Null k xs h z = record { reply = refl; heap = refl }
key_done-is by (v.Bool b) k xs h z = method_looked by (v.Bool b) k xs h (page_of z) tt
key_done-is by (v.Num n) k xs h z = method_looked by (v.Num n) k xs h (page_of z) tt
key_done-is by (v.Text us) k xs h z = method_looked by (v.Text us) k xs h (page_of z) tt
key_done-is by (v.Obj o) k xs h z = method_looked by (v.Obj o) k xs h (page_of z) (object_something (suc (length xs)) h o (class_of (object_at h o)))

pub reply_for : (r : Result KeyCall Memory) (by : ℕ) (x : Value) (k : List ℕ) (xs : List Value) (h : Objects) → IfOk r (λ c. reply_of c ≡ (answer x k xs by h).reply) → IfOk r (λ c. (z : Kept) → reply_of c ≡ (key_done by k (x ∷ xs) h z).reply)
reply_for (Ok c) by x k xs h is = λ z. is ∙ sym (key_done-is by x k xs h z).reply
reply_for (Err e) by x k xs h is = is

pub heap_for : (r : Result KeyCall Memory) (g : Objects) (by : ℕ) (x : Value) (k : List ℕ) (xs : List Value) (h : Objects) → OnOk r (g ≡ (answer x k xs by h).heap) → OnOk r ((z : Kept) → g ≡ (key_done by k (x ∷ xs) h z).heap)
heap_for (Ok c) g by x k xs h is = λ z. is ∙ sym (key_done-is by x k xs h z).heap
heap_for (Err e) g by x k xs h is = is
