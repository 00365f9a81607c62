-- What the rows of the guards that deal with functions come to.
use Rattle.std.proofs.Common.{◌≡◌, ℕ, suc, ◌+◌, ◌-◌, true, false, List, [], ◌∷◌, ◌++◌, length, map, Option, Some, None, Result, refl, sym, ap, ◌∙◌, subst, append_assoc, arith}
use Rattle.std.specs.Prelude.{is_some, nat_lt, codes}
use Rattle.std.proofs.lemmas.Bool.Decides.{nat_tests}
use Rattle.es3_objects.specs.declared.value.Stop.{Stop}
use Rattle.es3_objects.specs.declared.value.Value.{Value}
use Rattle.es3_objects.specs.declared.value.Value.TheVariants as v
use Rattle.es3_objects.specs.declared.value.Class.{Class}
use Rattle.es3_objects.specs.declared.value.Class.TheVariants as class
use Rattle.es3_objects.specs.declared.value.FuncKind.{FuncKind}
use Rattle.es3_heap.specs.Objects.{Objects, object_at, class_of, callable_of}
use Rattle.es3_heap.specs.Properties.{own}
use Rattle.es3_language.specs.Natives.{value_reply, invoke_reply}
use Rattle.rows.specs.Rows as r
use Rattle.rows.specs.Rows.{Handle, Sight, Row, Maker, held}
use Rattle.rows.specs.Arguments.{values_from}
use Rattle.rows.specs.Public.{pub_get}
use Rattle.rows.specs.Guards as rows
use Rattle.rows.specs.Guards.{at_key, call_end, simple_end, new_row, made_by, instance_row}
use Rattle.heap_rows.specs.Marks.{simple_mark}
use Rattle.heap_rows.specs.Natives.{maker_at}
use Rattle.heap_rows.specs.Doing.{Told, value_in, see, see_object, finish, does}
use Rattle.heap_rows.specs.Opening.{place_of, empty_page}
use Rattle.row_outcomes.specs.declared.Outcome.{Outcome}
use Rattle.row_outcomes.specs.Comes.{Comes}
use Rattle.row_outcomes.proofs.Arguments.{Stands, handle_now, function_sight}
use Rattle.row_outcomes.proofs.Numbers.{next_values, first_values}
use Rattle.public_properties.specs.Reading.{public_read}
use Rattle.public_properties.specs.Functions.{function_kind}
use Rattle.public_properties.specs.Keys.{at_object}
use Rattle.public_properties.proofs.Alike.{Alike, comes_alike}
use Rattle.public_properties.proofs.AtKey.{Comes_to, at_key-is}
use Rattle.public_properties.proofs.Properties.{property_stands}
use Rattle.public_properties.proofs.Sorts.{IsNoFunction, by_sort}
use Rattle.public_guards.specs.ByRow.{by_row}
use Rattle.public_guards.specs.Calling.{method_call, call_answer, simple_answer, construct_answer, made_by_maker, object_made_by, instance_answer}

-- callPub, by how many arguments there are

two_more : (n : ℕ) → 2 + n ≡ suc (suc n)
two_more n = omega arith

first_held : (n : ℕ) → nat_lt 0 (suc (suc n)) ≡ true
first_held n = grind (arith, nat_tests)

second_held : (n : ℕ) → nat_lt 1 (suc (suc n)) ≡ true
second_held n = grind (arith, nat_tests)

two_less : (n : ℕ) → suc (suc n) - 2 ≡ n
two_less n = omega arith

-- the row with its handles
abbrev method_row : ℕ → Row
method_row n = at_key r.to_get (held 0) (held 1) (λ s us. r.looks (pub_get (held 0) s us) (λ f. r.ends (call_end (pub_get (held 0) s us) (held 0) (values_from 2 n) f)))

call_row : (n : ℕ) → rows.call_pub (2 + n) ≡ method_row n
call_row n = rw (two_more n, first_held n, second_held n, two_less n) refl

-- the values behind the first two
behind_two : (x k : Value) (xs values more : List Value) → map (value_in place_of (((x ∷ k ∷ xs) ++ values) ++ more)) (values_from 2 (length xs)) ≡ xs
behind_two x k xs values more =
    let rest = (xs ++ values) ++ more in
    next_values place_of x (k ∷ rest) 1 (length xs)
    ∙ next_values place_of k rest 0 (length xs)
    ∙ subst (λ l. map (value_in place_of l) (values_from 0 (length xs)) ≡ xs) (sym (append_assoc xs values more)) (first_values place_of xs (values ++ more))

no_call : (f o : Handle) (args : List Handle) (s : Sight) → IsNoFunction s → call_end f o args s ≡ r.throws (codes "not a function")
no_call f o args (r.a_function sort) is = absurd is
no_call f o args s is = refl

method_called : (by : ℕ) (x k m : Value) (xs values : List Value) (h : Objects) (f : Handle) (y : List Told) → Stands ((x ∷ k ∷ xs) ++ values) f m → (n : ℕ) (more : List Value)
    → Alike (finish place_of by (call_end f (held 0) (values_from 2 (length xs)) (see h n m).sight) (((x ∷ k ∷ xs) ++ values) ++ more) h y) (method_call (function_kind h m) m x xs by h)
method_called by x k m xs values h f y stands n more =
    let vs = ((x ∷ k ∷ xs) ++ values) ++ more in
    let args = values_from 2 (length xs) in
    let called : Alike (finish place_of by (r.calls true f (held 0) args) vs h y) (record { reply = invoke_reply true m x xs; heap = h; items = [] }) =
    record { reply = rw (stands more, behind_two x k xs values more) refl; heap = refl } in
    by_sort (λ s q. Alike (finish place_of by (call_end f (held 0) args s) vs h y) (method_call q m x xs by h))
    (record {
      other = λ s is. subst (λ e. Alike (finish place_of by e vs h y) (method_call None m x xs by h)) (sym (no_call f (held 0) args s is)) (record { reply = refl; heap = refl });
      code = λ i. called;
      simple = λ i. called;
      constructor = λ i. called;
      exophoric = λ i w. called;
    }) n h m

method_at : (by : ℕ) (x k : Value) (xs : List Value) (h : Objects) (us : List ℕ) →
    let seen = see h (suc (suc (length xs))) x in
    Comes_to by (r.looks (pub_get (held 0) seen.sight us) (λ f. r.ends (call_end (pub_get (held 0) seen.sight us) (held 0) (values_from 2 (length xs)) f))) ((x ∷ k ∷ xs) ++ seen.values) h (call_answer x xs by h us)
method_at by x k xs h us = λ y.
    let seen = see h (suc (suc (length xs))) x in
    let vs = (x ∷ k ∷ xs) ++ seen.values in
    let f = pub_get (held 0) seen.sight us in
    let m = public_read h x us in
    let stands : Stands vs f m = property_stands x (k ∷ xs) h us in
    subst (λ z. Alike (finish place_of by (call_end f (held 0) (values_from 2 (length xs)) (see h (length vs) z).sight) (vs ++ (see h (length vs) z).values) h y) (call_answer x xs by h us)) (sym (handle_now vs f m stands))
    (method_called by x k m xs seen.values h f y stands (length vs) (see h (length vs) m).values)

pub call_pub-is : (by : ℕ) (x k : Value) (xs : List Value) (h : Objects) → Alike (by_row (rows.call_pub (2 + length xs)) by (x ∷ k ∷ xs) h) (at_object x k by h (call_answer x xs by h))
call_pub-is by x k xs h =
    subst (λ q. Alike (by_row q by (x ∷ k ∷ xs) h) (at_object x k by h (call_answer x xs by h))) (sym (call_row (length xs)))
    (at_key-is by r.to_get x k xs h (λ s us. r.looks (pub_get (held 0) s us) (λ f. r.ends (call_end (pub_get (held 0) s us) (held 0) (values_from 2 (length xs)) f))) (call_answer x xs by h) (λ us some. method_at by x k xs h us) [])

-- asSimpleFunc

no_simple : (f : Handle) (s : Sight) → IsNoFunction s → simple_end f s ≡ r.throws (codes "not a function")
no_simple f (r.a_function sort) is = absurd is
no_simple f s is = refl

pub as_simple_func-is : (by : ℕ) (f : Value) (h : Objects) → Alike (by_row rows.as_simple_func by (f ∷ []) h) (simple_answer (function_kind h f) f by h)
as_simple_func-is by f h =
    let vs = (f ∷ []) ++ (see h 1 f).values in
    by_sort (λ s q. Alike (finish place_of by (simple_end (held 0) s) vs h []) (simple_answer q f by h))
    (record {
      other = λ s is. subst (λ e. Alike (finish place_of by e vs h []) (simple_answer None f by h)) (sym (no_simple (held 0) s is)) (record { reply = refl; heap = refl });
      code = λ i. record { reply = refl; heap = refl };
      simple = λ i. record { reply = refl; heap = refl };
      constructor = λ i. record { reply = refl; heap = refl };
      exophoric = λ i w. record { reply = refl; heap = refl };
    }) 1 h f

pub as_simple_func-comes : (by : ℕ) (f : Value) (h g : Objects) (k : Option FuncKind) (a : Result Outcome Stop) → k ≡ function_kind h f → Comes (simple_answer k f by h) a g → Comes (by_row rows.as_simple_func by (f ∷ []) h) a g
as_simple_func-comes by f h g k a is comes = comes_alike _ (simple_answer (function_kind h f) f by h) a g (as_simple_func-is by f h) (subst (λ q. Comes (simple_answer q f by h) a g) is comes)

-- construct

one_less : (n : ℕ) → suc n - 1 ≡ n
one_less n = omega arith

construct_row : (n : ℕ) → rows.construct (suc n) ≡ r.looks (held 0) (new_row (values_from 1 n))
construct_row n = rw (one_less n) refl

behind_one : (f : Value) (xs more : List Value) → map (value_in place_of ((f ∷ xs) ++ more)) (values_from 1 (length xs)) ≡ xs
behind_one f xs more = next_values place_of f (xs ++ more) 0 (length xs) ∙ first_values place_of xs more

no_constructor : (args : List Handle) (s : Sight) → IsNoFunction s → new_row args s ≡ r.ends (r.throws (codes "not a constructor"))
no_constructor args (r.a_function sort) is = absurd is
no_constructor args s is = refl

constructed : (by : ℕ) (f : Value) (xs more : List Value) (h : Objects) (n : ℕ)
    → Alike (does place_of by (new_row (values_from 1 (length xs)) (see h n f).sight) ((f ∷ xs) ++ more) h empty_page []).done (construct_answer (function_kind h f) f xs by h)
constructed by f xs more h n =
    let vs = (f ∷ xs) ++ more in
    let args = values_from 1 (length xs) in
    by_sort (λ s q. Alike (does place_of by (new_row args s) vs h empty_page []).done (construct_answer q f xs by h))
    (record {
      other = λ s is. subst (λ row. Alike (does place_of by row vs h empty_page []).done (construct_answer None f xs by h)) (sym (no_constructor args s is)) (record { reply = refl; heap = refl });
      code = λ i. record { reply = refl; heap = refl };
      simple = λ i. record { reply = refl; heap = refl };
      constructor = λ i. record { reply = rw (behind_one f xs more) refl; heap = refl };
      exophoric = λ i w. record { reply = refl; heap = refl };
    }) n h f

pub construct-is : (by : ℕ) (f : Value) (xs : List Value) (h : Objects) → Alike (by_row (rows.construct (suc (length xs))) by (f ∷ xs) h) (construct_answer (function_kind h f) f xs by h)
construct-is by f xs h =
    subst (λ q. Alike (by_row q by (f ∷ xs) h) (construct_answer (function_kind h f) f xs by h)) (sym (construct_row (length xs))) (constructed by f xs (see h (suc (length xs)) f).values h (suc (length xs)))

pub construct-comes : (by : ℕ) (f : Value) (xs : List Value) (h g : Objects) (k : Option FuncKind) (a : Result Outcome Stop) → k ≡ function_kind h f → Comes (construct_answer k f xs by h) a g → Comes (by_row (rows.construct (suc (length xs))) by (f ∷ xs) h) a g
construct-comes by f xs h g k a is comes = comes_alike _ (construct_answer (function_kind h f) f xs by h) a g (construct-is by f xs h) (subst (λ q. Comes (construct_answer q f xs by h) a g) is comes)

-- instanceOf

made_object : (maker : Option Maker) (n : ℕ) (h : Objects) (o : ℕ) (c : Class) → class_of (object_at h o) ≡ c → made_by (r.constructor maker) (see_object n h o c).sight ≡ object_made_by maker h o
made_object None n h o class.Object is = refl
made_object None n h o class.Array is = refl
made_object None n h o class.Function is = function_sight (λ s. made_by (r.constructor None) s ≡ false) (λ q. refl) refl (is_some (own h o simple_mark)) (callable_of (object_at h o))
made_object None n h o class.Error is = refl
made_object None n h o class.Node is = refl
made_object (Some r.error) n h o class.Function is = rw is (function_sight (λ s. made_by (r.constructor (Some r.error)) s ≡ false) (λ q. refl) refl (is_some (own h o simple_mark)) (callable_of (object_at h o)))
made_object (Some r.error) n h o c is = rw is refl
made_object (Some r.type_error) n h o class.Function is = rw is (function_sight (λ s. made_by (r.constructor (Some r.type_error)) s ≡ false) (λ q. refl) refl (is_some (own h o simple_mark)) (callable_of (object_at h o)))
made_object (Some r.type_error) n h o c is = rw is refl
made_object (Some r.range_error) n h o class.Function is = rw is (function_sight (λ s. made_by (r.constructor (Some r.range_error)) s ≡ false) (λ q. refl) refl (is_some (own h o simple_mark)) (callable_of (object_at h o)))
made_object (Some r.range_error) n h o c is = rw is refl

made_value : (maker : Option Maker) (n : ℕ) (h : Objects) (x : Value) → made_by (r.constructor maker) (see h n x).sight ≡ made_by_maker maker h x
made_value maker n h (v.Obj o) = made_object maker n h o (class_of (object_at h o)) refl
made_value None n h x = refl
made_value (Some r.error) n h x = refl
made_value (Some r.type_error) n h x = refl
made_value (Some r.range_error) n h x = refl

no_instance : (s : Sight) → IsNoFunction s → instance_row s ≡ r.ends (r.throws (codes "not a function"))
no_instance (r.a_function sort) is = absurd is
no_instance s is = refl

pub instance_of-is : (by : ℕ) (x f : Value) (h : Objects) → Alike (by_row rows.instance_of by (x ∷ f ∷ []) h) (instance_answer (function_kind h f) x by h)
instance_of-is by x f h =
    let vs = (x ∷ f ∷ []) ++ (see h 2 f).values in
    by_sort (λ s q. Alike (does place_of by (instance_row s) vs h empty_page []).done (instance_answer q x by h))
    (record {
      other = λ s is. subst (λ row. Alike (does place_of by row vs h empty_page []).done (instance_answer None x by h)) (sym (no_instance s is)) (record { reply = refl; heap = refl });
      code = λ i. record { reply = refl; heap = refl };
      simple = λ i. record { reply = refl; heap = refl };
      constructor = λ i. record { reply = ap (λ b. value_reply (v.Bool b)) (made_value (maker_at i) (length vs) h x); heap = refl };
      exophoric = λ i w. record { reply = refl; heap = refl };
    }) 2 h f

pub instance_of-comes : (by : ℕ) (x f : Value) (h g : Objects) (k : Option FuncKind) (a : Result Outcome Stop) → k ≡ function_kind h f → Comes (instance_answer k x by h) a g → Comes (by_row rows.instance_of by (x ∷ f ∷ []) h) a g
instance_of-comes by x f h g k a is comes = comes_alike _ (instance_answer (function_kind h f) x by h) a g (instance_of-is by x f h) (subst (λ q. Comes (instance_answer q x by h) a g) is comes)
