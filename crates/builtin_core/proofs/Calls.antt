-- What the rows of the methods of functions come to.
use Rattle.std.proofs.Common.{◌≡◌, ℕ, suc, ◌-◌, ◌≤◌, Bool, true, false, List, [], ◌∷◌, ◌++◌, length, map, take, drop, get_or, Result, Some, None, refl, ap, sym, ◌∙◌, subst, append_assoc, if◌then◌else◌, arith}
use Rattle.std.specs.Prelude.{codes, is_some}
use Rattle.std.proofs.Math.Seq.{take-length}
use Rattle.es3_objects.specs.declared.value.Stop.{Stop}
use Rattle.es3_objects.specs.declared.value.Value.{Value}
use Rattle.es3_objects.specs.declared.value.Value.TheVariants as v
use Rattle.es3_objects.specs.declared.value.Class.{Class}
use Rattle.es3_objects.specs.declared.value.Class.TheVariants as class
use Rattle.es3_heap.specs.Objects.{Objects, object_at, class_of, callable_of}
use Rattle.es3_heap.specs.Properties.{own}
use Rattle.es3_convert.specs.Conversions.{array_items}
use Rattle.rows.specs.Rows as r
use Rattle.rows.specs.Rows.{Native, handles, held}
use Rattle.rows.specs.Arguments as rows
use Rattle.rows.specs.Arguments.{values_from}
use Rattle.rows.specs.Core.{apply_list}
use Rattle.heap_rows.specs.Marks.{simple_mark}
use Rattle.heap_rows.specs.Doing.{value_in, see, see_object, finish, does}
use Rattle.heap_rows.specs.Opening.{place_of, empty_page}
use Rattle.row_outcomes.specs.declared.Outcome.{Outcome}
use Rattle.row_outcomes.specs.Comes.{Comes, row_done, throws}
use Rattle.row_outcomes.specs.Arguments.{argument}
use Rattle.row_outcomes.proofs.Arguments.{argument_held, function_sight}
use Rattle.row_outcomes.proofs.Numbers.{next_values, first_values}
use Rattle.row_outcomes.proofs.Arrays.{stand_now, items_stand}
use Rattle.builtin_core.specs.Seeing.{is_class_array, has_class_function}
use Rattle.builtin_core.specs.Calls.{invokes, items_if, arguments_in, invokes_with, on_function}
use Rattle.builtin_core.proofs.Sights.{callable_seen}

-- the values behind the first argument
others_held : (fs : Native → ℕ) (this : Value) (args more : List Value) → map (value_in fs (this ∷ (args ++ more))) (values_from 2 (suc (length args) - 2)) ≡ drop 1 args
others_held fs this [] more = refl
others_held fs this (x ∷ xs) more =
    let e : suc (suc (length xs)) - 2 ≡ length xs = omega arith in
    rw e (next_values fs this (x ∷ (xs ++ more)) 1 (length xs) ∙ (next_values fs x (xs ++ more) 0 (length xs) ∙ first_values fs xs more))

call_done : (by : ℕ) (this : Value) (args more : List Value) (h : Objects)
    → finish place_of by (r.calls true (held 0) (rows.argument 0 (suc (length args))) (values_from 2 (suc (length args) - 2))) (this ∷ (args ++ more)) h [] ≡ invokes this (argument 0 args) (drop 1 args) h
call_done by this args more h = rw (argument_held place_of 0 this args more, others_held place_of this args more) refl

called : (b : Bool) (by : ℕ) (this : Value) (args more : List Value) (h : Objects)
    → finish place_of by (if b then r.calls true (held 0) (rows.argument 0 (suc (length args))) (values_from 2 (suc (length args) - 2)) else r.throws (codes "bad receiver")) (this ∷ (args ++ more)) h [] ≡ on_function b (invokes this (argument 0 args) (drop 1 args) h) by h
called true by this args more h = call_done by this args more h
called false by this args more h = refl

pub call-is : (by : ℕ) (this : Value) (args : List Value) (h : Objects) → row_done r.call by this args h ≡ on_function (has_class_function h this) (invokes this (argument 0 args) (drop 1 args) h) by h
call-is by this args h =
    let seen = see h (suc (length args)) this in
    rw (callable_seen (suc (length args)) h this) (called (has_class_function h this) by this args seen.values h)

-- the items of an array, which stand behind the values that are there
items_called : (by : ℕ) (this : Value) (args more items : List Value) (h : Objects)
    → finish place_of by (r.calls true (held 0) (rows.argument 0 (suc (length args))) (handles (suc (length (args ++ more))) items)) (this ∷ ((args ++ more) ++ items)) h [] ≡ invokes this (argument 0 args) items h
items_called by this args more items h =
    let vs = this ∷ ((args ++ more) ++ items) in
    let n = suc (length (args ++ more)) in
    let first : value_in place_of vs (rows.argument 0 (suc (length args))) ≡ argument 0 args =
    subst (λ l. value_in place_of (this ∷ l) (rows.argument 0 (suc (length args))) ≡ argument 0 args) (sym (append_assoc args more items)) (argument_held place_of 0 this args (more ++ items)) in
    rw (first, stand_now vs (handles n items) items (items_stand (this ∷ (args ++ more)) items n refl)) refl

object_called : (by : ℕ) (this : Value) (args more : List Value) (h : Objects) (o : ℕ) (c : Class) →
    let vs = this ∷ (args ++ more) in
    let seen = see_object (length vs) h o c in
    finish place_of by (apply_list (rows.argument 0 (suc (length args))) seen.sight) (vs ++ seen.values) h [] ≡ invokes_with this (argument 0 args) (items_if (is_class_array c) (array_items h o)) by h
object_called by this args more h o class.Object = refl
object_called by this args more h o class.Array = items_called by this args more (array_items h o) h
object_called by this args more h o class.Function =
    function_sight (λ s. finish place_of by (apply_list (rows.argument 0 (suc (length args))) s) ((this ∷ (args ++ more)) ++ []) h [] ≡ throws (codes "bad argument") by h) (λ q. refl) refl (is_some (own h o simple_mark)) (callable_of (object_at h o))
object_called by this args more h o class.Error = refl
object_called by this args more h o class.Node = refl

list_called : (by : ℕ) (this : Value) (args more : List Value) (h : Objects) (x : Value) →
    let vs = this ∷ (args ++ more) in
    let seen = see h (length vs) x in
    finish place_of by (apply_list (rows.argument 0 (suc (length args))) seen.sight) (vs ++ seen.values) h [] ≡ invokes_with this (argument 0 args) (arguments_in h x) by h
list_called by this args more h v.Undefined = items_called by this args more [] h
list_called by this args more h v.Null = items_called by this args more [] h
list_called by this args more h (v.Bool b) = refl
list_called by this args more h (v.Num n) = refl
list_called by this args more h (v.Text us) = refl
list_called by this args more h (v.Obj o) = object_called by this args more h o (class_of (object_at h o))

applied : (b : Bool) (by : ℕ) (this : Value) (args more : List Value) (h : Objects)
    → (does place_of by (if b then r.looks (rows.argument 1 (suc (length args))) (λ s. r.ends (apply_list (rows.argument 0 (suc (length args))) s)) else r.ends (r.throws (codes "bad receiver"))) (this ∷ (args ++ more)) h empty_page []).done
    ≡ on_function b (invokes_with this (argument 0 args) (arguments_in h (argument 1 args)) by h) by h
applied true by this args more h = rw (argument_held place_of 1 this args more) (list_called by this args more h (argument 1 args))
applied false by this args more h = refl

pub apply-is : (by : ℕ) (this : Value) (args : List Value) (h : Objects)
    → row_done r.apply by this args h ≡ on_function (has_class_function h this) (invokes_with this (argument 0 args) (arguments_in h (argument 1 args)) by h) by h
apply-is by this args h =
    let seen = see h (suc (length args)) this in
    rw (callable_seen (suc (length args)) h this) (applied (has_class_function h this) by this args seen.values h)

-- the outcome of a call is the row's

first_argument : (args : List Value) (x : Value) → 1 ≤ length args → x ≡ get_or args 0 x → x ≡ argument 0 args
first_argument [] x some is = absurd (omega (arith, some))
first_argument (y ∷ args) x some is = is

whole_rest : (args : List Value) → take (length args - 1) (drop 1 args) ≡ drop 1 args
whole_rest [] = refl
whole_rest (y ∷ args) =
    let e : suc (length args) - 1 ≡ length args = omega arith in
    rw e (take-length args)

pub call_comes : (by : ℕ) (this : Value) (args : List Value) (h : Objects) (x : Value) (xs : List Value) (a : Result Outcome Stop) → true ≡ has_class_function h this → 1 ≤ length args → x ≡ get_or args 0 x → xs ≡ take (length args - 1) (drop 1 args)
    → ((g : Objects) → Comes (invokes this x xs g) a g) → Comes (row_done r.call by this args h) a h
call_comes by this args h x xs a is some receiver others comes =
    let same : invokes this x xs h ≡ row_done r.call by this args h =
    ap (λ y. invokes this y xs h) (first_argument args x some receiver) ∙ (ap (λ l. invokes this (argument 0 args) l h) (others ∙ whole_rest args) ∙ (ap (λ b. on_function b (invokes this (argument 0 args) (drop 1 args) h) by h) is ∙ sym (call-is by this args h))) in
    subst (λ d. Comes d a h) same (comes h)

pub apply_comes : (by : ℕ) (this : Value) (args : List Value) (h : Objects) (x y : Value) (xs : List Value) (a : Result Outcome Stop) → true ≡ has_class_function h this → x ≡ argument 0 args → y ≡ argument 1 args → Some xs ≡ arguments_in h y
    → ((g : Objects) → Comes (invokes this x xs g) a g) → Comes (row_done r.apply by this args h) a h
apply_comes by this args h x y xs a is receiver second found comes =
    let same : invokes this x xs h ≡ row_done r.apply by this args h =
    ap (λ z. invokes this z xs h) receiver
    ∙ (ap (λ l. invokes_with this (argument 0 args) l by h) (found ∙ ap (arguments_in h) second) ∙ (ap (λ b. on_function b (invokes_with this (argument 0 args) (arguments_in h (argument 1 args)) by h) by h) is ∙ sym (apply-is by this args h))) in
    subst (λ d. Comes d a h) same (comes h)

pub apply_refused : (by : ℕ) (this : Value) (args : List Value) (h g : Objects) (y : Value) (a : Result Outcome Stop) → true ≡ has_class_function h this → y ≡ argument 1 args → None ≡ arguments_in h y
    → Comes (throws (codes "bad argument") by h) a g → Comes (row_done r.apply by this args h) a g
apply_refused by this args h g y a is second bad thrown =
    let same : throws (codes "bad argument") by h ≡ row_done r.apply by this args h =
    ap (λ l. invokes_with this (argument 0 args) l by h) (bad ∙ ap (arguments_in h) second) ∙ (ap (λ b. on_function b (invokes_with this (argument 0 args) (arguments_in h (argument 1 args)) by h) by h) is ∙ sym (apply-is by this args h)) in
    subst (λ d. Comes d a g) same thrown
