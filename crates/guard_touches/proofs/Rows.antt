-- What each guard's row tells of touches.
use Rattle.std.proofs.Common.{◌≡◌, ℕ, suc, ◌+◌, ◌-◌, Bool, true, false, List, [], ◌∷◌, ◌++◌, length, Option, Some, None, Result, Ok, Err, cond, refl, sym, ap, ◌∙◌, subst, arith}
use Rattle.std.specs.Prelude.{is_some, nat_lt, codes}
use Rattle.std.proofs.lemmas.Bool.Decides.{nat_tests}
use Rattle.plans.specs.Plans.{Fault}
use Rattle.es3_objects.specs.declared.value.Value.{Value}
use Rattle.es3_objects.specs.declared.value.Value.TheVariants as v
use Rattle.es3_objects.specs.declared.value.Class.{Class}
use Rattle.es3_objects.specs.declared.value.Class.TheVariants as class
use Rattle.es3_heap.specs.Objects.{Objects, object_at, class_of, callable_of}
use Rattle.es3_heap.specs.Properties.{own, value_of}
use Rattle.es3_convert.specs.Conversions.{and_then, text_of}
use Rattle.rows.specs.Rows as r
use Rattle.rows.specs.Rows.{Native, Handle, Sight, Ending, Touch, Row, held, most_items}
use Rattle.rows.specs.Public.{pub_get, pub_set, pub_delete, pub_has, pub_keys}
use Rattle.rows.specs.Arguments.{values_from}
use Rattle.rows.specs.Guards as rows
use Rattle.rows.specs.Guards.{on_object, at_key, read_end, write_end, delete_end, has_end, list_end, call_end, simple_end, new_row, instance_row}
use Rattle.heap_rows.specs.Doing.{Told, Done, heard, value_in, see, see_object, touched_value, finish, with_result, does}
use Rattle.heap_rows.specs.Marks.{simple_mark}
use Rattle.heap_rows.specs.Opening.{place_of, empty_page}
use Rattle.row_outcomes.specs.Comes.{throws}
use Rattle.row_outcomes.proofs.Arguments.{function_sight}
use Rattle.row_outcomes.specs.Arguments.{argument, told, after}
use Rattle.public_properties.proofs.AtKey.{IsSomething}
use Rattle.public_properties.proofs.Sorts.{IsNoFunction, by_sort}
use Rattle.guard_runtime.specs.declared.Guard.{Guard}
use Rattle.guard_runtime.specs.declared.Guard.TheVariants as g
use Rattle.guard_runtime.specs.Guards.{by_row, list_of, items_of, on_list, read_import, func, func_of, initialize_array, initialize_array_of, keyed, new_record, without_list, call_pub_on, done_of}
use Rattle.guard_touches.specs.Touches as t
use Rattle.guard_touches.specs.Touches.{at_text, with_list, touches_of}
use Rattle.guard_touches.proofs.Told.{unheard}

-- an end tells nothing more

if_items : (b : Bool) (c d : Done) (y : List Told) → c.items ≡ y → d.items ≡ y → (cond b c d).items ≡ y
if_items true c d y p q = p
if_items false c d y p q = q

finish_items : (fs : Native → ℕ) (by : ℕ) (e : Ending) (vs : List Value) (h : Objects) (y : List Told) → (finish fs by e vs h y).items ≡ y
finish_items fs by (r.lists ks) vs h y = if_items (nat_lt (length ks) most_items) _ _ y refl refl
finish_items fs by (r.makes_array frozen xs) vs h y = if_items (nat_lt (length xs) most_items) _ _ y refl refl
finish_items fs by (r.sets_items o xs x) vs h y = if_items (nat_lt (length xs) most_items) _ _ y refl refl
finish_items fs by e vs h y = refl

-- a row that ends, whatever was told before, tells nothing more
abbrev TellsNoMore : ℕ → Row → List Value → Objects → Type 0
TellsNoMore by q vs h = (y : List Told) → (does place_of by q vs h empty_page y).done.items ≡ y

-- at the text of a key

text_items : (by : ℕ) (t : Touch) (x : Value) (h : Objects) (vs : List Value) (go : List ℕ → Row) → ((us : List ℕ) → TellsNoMore by (go us) vs h) → (text : Result (List ℕ) Fault)
    → (with_result text h empty_page [] (λ us. does place_of by (go us) vs h empty_page (touched_value by t x h (us ∷ [])))).done.items ≡ at_text by t x text h
text_items by t x h vs go each (Ok us) = each us (touched_value by t x h (us ∷ []))
text_items by t x h vs go each (Err f) = refl

undefined_items : (by : ℕ) (t : Touch) (h : Objects) (text : Result (List ℕ) Fault) → [] ≡ at_text by t v.Undefined text h
undefined_items by t h (Ok us) = refl
undefined_items by t h (Err f) = refl

null_items : (by : ℕ) (t : Touch) (h : Objects) (text : Result (List ℕ) Fault) → [] ≡ at_text by t v.Null text h
null_items by t h (Ok us) = refl
null_items by t h (Err f) = refl

module _ (by : ℕ) (t : Touch) (k : Value) (more : List Value) (h : Objects) (go : Sight → List ℕ → Row) (each : (s : Sight) (us : List ℕ) (vs : List Value) → TellsNoMore by (go s us) vs h) where
  abbrev Told_at : Value → List Value → Sight → Type 0
  Told_at x values s = (does place_of by (on_object t (held 0) (held 1) go s) ((x ∷ k ∷ more) ++ values) h empty_page []).done.items ≡ at_text by t x (text_of h k) h

  some_items : (x : Value) (values : List Value) (s : Sight) → IsSomething s → Told_at x values s
  some_items x values r.nothing is = absurd is
  some_items x values r.a_null is = absurd is
  some_items x values s is = text_items by t x h ((x ∷ k ∷ more) ++ values) (go s) (λ us. each s us ((x ∷ k ∷ more) ++ values)) (text_of h k)

  class_items : (n o : ℕ) (c : Class) → let seen = see_object n h o c in Told_at (v.Obj o) seen.values seen.sight
  class_items n o class.Object = let seen = see_object n h o class.Object in some_items (v.Obj o) seen.values seen.sight tt
  class_items n o class.Array = let seen = see_object n h o class.Array in some_items (v.Obj o) seen.values seen.sight tt
  class_items n o class.Function =
      function_sight (Told_at (v.Obj o) []) (λ q. some_items (v.Obj o) [] (r.a_function q) tt) (some_items (v.Obj o) [] (r.a_stranger true) tt) (is_some (own h o simple_mark)) (callable_of (object_at h o))
  class_items n o class.Error = let seen = see_object n h o class.Error in some_items (v.Obj o) seen.values seen.sight tt
  class_items n o class.Node = let seen = see_object n h o class.Node in some_items (v.Obj o) seen.values seen.sight tt

  key_items : (x : Value) → (does place_of by (at_key t (held 0) (held 1) go) (x ∷ k ∷ more) h empty_page []).done.items ≡ at_text by t x (text_of h k) h
  key_items v.Undefined = undefined_items by t h (text_of h k)
  key_items v.Null = null_items by t h (text_of h k)
  key_items (v.Bool b) = some_items (v.Bool b) [] (r.a_truth b) tt
  key_items (v.Num n) = some_items (v.Num n) [] (r.a_number n) tt
  key_items (v.Text us) = some_items (v.Text us) [] (r.a_text us) tt
  key_items (v.Obj o) = class_items (length (v.Obj o ∷ k ∷ more)) o (class_of (object_at h o))

-- inPub, where the key's text comes first

has_items : (by : ℕ) (k x : Value) (h : Objects) (text : Result (List ℕ) Fault)
    → (with_result text h empty_page [] (λ us. does place_of by (r.looks (held 1) (λ s. r.touches r.to_has (held 1) (us ∷ []) (r.ends (has_end (pub_has s us))))) (k ∷ x ∷ []) h empty_page [])).done.items ≡ at_text by r.to_has x text h
has_items by k x h (Ok us) = finish_items place_of by (has_end (pub_has (see h 2 x).sight us)) ((k ∷ x ∷ []) ++ (see h 2 x).values) h (touched_value by r.to_has x h (us ∷ []))
has_items by k x h (Err f) = refl

-- callPub

first_held : (n : ℕ) → nat_lt 0 (2 + n) ≡ true
first_held n = grind (arith, nat_tests)

second_held : (n : ℕ) → nat_lt 1 (2 + n) ≡ true
second_held n = grind (arith, nat_tests)

-- what is called, with its handles
abbrev method_end : ℕ → Sight → List ℕ → Row
method_end n s us = r.looks (pub_get (held 0) s us) (λ f. r.ends (call_end (pub_get (held 0) s us) (held 0) (values_from 2 (2 + n - 2)) f))

call_row : (n : ℕ) → rows.call_pub (2 + n) ≡ at_key r.to_get (held 0) (held 1) (method_end n)
call_row n = rw (first_held n, second_held n) refl

method_items : (by n : ℕ) (h : Objects) (s : Sight) (us : List ℕ) (vs : List Value) → TellsNoMore by (method_end n s us) vs h
method_items by n h s us vs y =
    let f = pub_get (held 0) s us in
    let seen = see h (length vs) (value_in place_of vs f) in
    finish_items place_of by (call_end f (held 0) (values_from 2 (2 + n - 2)) seen.sight) (vs ++ seen.values) h y

call_items : (by : ℕ) (x k : Value) (xs : List Value) (h : Objects) → (by_row (rows.call_pub (2 + length xs)) by (x ∷ k ∷ xs) h).items ≡ at_text by r.to_get x (text_of h k) h
call_items by x k xs h =
    subst (λ q. (by_row q by (x ∷ k ∷ xs) h).items ≡ at_text by r.to_get x (text_of h k) h) (sym (call_row (length xs))) (key_items by r.to_get k xs h (method_end (length xs)) (method_items by (length xs) h) x)

unlisted_items : (by : ℕ) (x k : Value) (h : Objects) → (without_list by x k h).items ≡ []
unlisted_items by (v.Obj o) k h = elim (text_of h k) as (λ text. (after text h (λ us. throws (codes "bad argument") by h)).items ≡ []) [
  | Ok us ↦ refl
  | Err f ↦ refl
]
unlisted_items by x k h = refl

call_pub_items : (list : Option (List Value)) (by : ℕ) (x k : Value) (h : Objects) → (call_pub_on list by x k h).items ≡ with_list list (at_text by r.to_get x (text_of h k) h)
call_pub_items None by x k h = unlisted_items by x k h
call_pub_items (Some xs) by x k h = call_items by x k xs h

-- construct

other_items : (by : ℕ) (args : List Handle) (s : Sight) (vs : List Value) (h : Objects) → IsNoFunction s → (does place_of by (new_row args s) vs h empty_page []).done.items ≡ []
other_items by args (r.a_function sort) vs h is = absurd is
other_items by args s vs h is = refl

new_items : (by : ℕ) (args : List Handle) (f : Value) (xs more : List Value) (h : Objects) (n : ℕ) → (does place_of by (new_row args (see h n f).sight) ((f ∷ xs) ++ more) h empty_page []).done.items ≡ t.made_by by f h
new_items by args f xs more h n =
    by_sort (λ s q. (does place_of by (new_row args s) ((f ∷ xs) ++ more) h empty_page []).done.items ≡ cond (is_some q) (touched_value by r.to_new f h []) [])
    (record {
      other = λ s is. other_items by args s ((f ∷ xs) ++ more) h is;
      code = λ i. refl;
      simple = λ i. refl;
      constructor = λ i. refl;
      exophoric = λ i w. refl;
    }) n h f

construct_items : (list : Option (List Value)) (by : ℕ) (f : Value) (h : Objects) → (on_list list by h (λ xs. by_row (rows.construct (suc (length xs))) by (f ∷ xs) h)).items ≡ with_list list (t.made_by by f h)
construct_items None by f h = refl
construct_items (Some xs) by f h = new_items by (values_from 1 (suc (length xs) - 1)) f xs (see h (suc (length xs)) f).values h (suc (length xs))

-- the guards that touch nothing

told_items : (t : Result Value Fault) (h : Objects) → (told t h).items ≡ []
told_items (Ok x) h = refl
told_items (Err f) h = refl

import_items : (by : ℕ) (i k : Value) (h : Objects) → (read_import by i k h).items ≡ []
import_items by (v.Obj o) k h = told_items (and_then (text_of h k) (λ us. Ok (value_of (own h o us)))) h
import_items by x k h = refl

func_items : (by : ℕ) (f : Value) (h : Objects) → (func by f h).items ≡ []
func_items by (v.Obj o) h = elim (class_of (object_at h o)) as (λ c. (func_of c by o h).items ≡ []) [
  | class.Object ↦ refl
  | class.Array ↦ refl
  | class.Function ↦ refl
  | class.Error ↦ refl
  | class.Node ↦ refl
]
func_items by x h = refl

args_items : (found : Option (List Value)) (by : ℕ) (h : Objects) → (on_list found by h (λ xs. by_row (rows.args (length xs)) by xs h)).items ≡ []
args_items None by h = refl
args_items (Some xs) by h = finish_items place_of by (r.makes_array true (values_from 0 (length xs))) xs h []

array_items : (by : ℕ) (l : Value) (h : Objects) → (initialize_array by l h).items ≡ []
array_items by (v.Obj o) h = elim (class_of (object_at h o)) as (λ c. (initialize_array_of c by o h).items ≡ []) [
  | class.Object ↦ refl
  | class.Array ↦ refl
  | class.Function ↦ refl
  | class.Error ↦ refl
  | class.Node ↦ refl
]
array_items by x h = refl

record_items : (pairs : Result (List (List ℕ × Value)) Fault) (by : ℕ) (h : Objects) → (after pairs h (new_record by h)).items ≡ []
record_items (Ok ps) by h = refl
record_items (Err f) by h = refl

map_items : (list : Option (List Value)) (by : ℕ) (h : Objects) → (on_list list by h (λ xs. after (keyed h xs) h (new_record by h))).items ≡ []
map_items None by h = refl
map_items (Some xs) by h = record_items (keyed h xs) by h

text_key_items : (by : ℕ) (x : Value) (h : Objects) (text : Result (List ℕ) Fault)
    → (with_result text h empty_page [] (λ us. does place_of by (r.ends (r.answers (r.text us))) (x ∷ []) h empty_page [])).done.items ≡ []
text_key_items by x h (Ok us) = refl
text_key_items by x h (Err f) = refl

instance_items : (by : ℕ) (s : Sight) (vs : List Value) (h : Objects) → (does place_of by (instance_row s) vs h empty_page []).done.items ≡ []
instance_items by (r.a_function sort) vs h = refl
instance_items by s vs h = refl

-- what a guard tells

pub touches_are : (guard : Guard) (by : ℕ) (vs : List Value) (h : Objects) → (done_of guard by vs h).items ≡ touches_of guard by vs h
touches_are g.ReadImport by vs h = import_items by (argument 0 vs) (argument 1 vs) h
touches_are g.Func by vs h = func_items by (argument 0 vs) h
touches_are g.Args by vs h = args_items (items_of h (argument 0 vs)) by h
touches_are g.InitializeArray by vs h = array_items by (argument 0 vs) h
touches_are g.InitializeMap by vs h = map_items (list_of h (argument 0 vs)) by h
touches_are g.Key by vs h = text_key_items by (argument 0 vs) h (text_of h (argument 0 vs))
touches_are g.ReadPub by vs h =
    key_items by r.to_get (argument 1 vs) [] h (λ s us. r.ends (read_end s (held 0) us)) (λ s us values y. finish_items place_of by (read_end s (held 0) us) values h y) (argument 0 vs)
touches_are g.SetPub by vs h =
    key_items by r.to_set (argument 1 vs) (argument 2 vs ∷ []) h (λ s us. r.ends (write_end (pub_set s us) s (held 0) us (held 2))) (λ s us values y. finish_items place_of by (write_end (pub_set s us) s (held 0) us (held 2)) values h y) (argument 0 vs)
touches_are g.DeletePub by vs h =
    key_items by r.to_delete (argument 1 vs) [] h (λ s us. r.ends (delete_end (pub_delete s us) (held 0) us)) (λ s us values y. finish_items place_of by (delete_end (pub_delete s us) (held 0) us) values h y) (argument 0 vs)
touches_are g.InPub by vs h = has_items by (argument 0 vs) (argument 1 vs) h (text_of h (argument 0 vs))
touches_are g.KeysPub by vs h =
    let seen = see h 1 (argument 0 vs) in
    finish_items place_of by (list_end (pub_keys seen.sight)) ((argument 0 vs ∷ []) ++ seen.values) h (touched_value by r.to_keys (argument 0 vs) h [])
touches_are g.CallPub by vs h = call_pub_items (list_of h (argument 2 vs)) by (argument 0 vs) (argument 1 vs) h
touches_are g.AsSimpleFunc by vs h =
    let seen = see h 1 (argument 0 vs) in
    finish_items place_of by (simple_end (held 0) seen.sight) ((argument 0 vs ∷ []) ++ seen.values) h []
touches_are g.Construct by vs h = construct_items (list_of h (argument 1 vs)) by (argument 0 vs) h
touches_are g.InstanceOf by vs h =
    let seen = see h 2 (argument 1 vs) in
    instance_items by seen.sight ((argument 0 vs ∷ argument 1 vs ∷ []) ++ seen.values) h

pub guard_unheard : (guard : Guard) (by : ℕ) (vs : List Value) (h : Objects) → heard false (done_of guard by vs h).items ≡ []
guard_unheard guard by vs h = subst (λ l. heard false l ≡ []) (sym (touches_are guard by vs h)) (unheard guard by vs h)

-- the same, by arguments that were looked up

at_first_two : (by : ℕ) (t : Touch) (vs : List Value) (h : Objects) (x k : Value) → x ≡ argument 0 vs → k ≡ argument 1 vs → at_text by t x (text_of h k) h ≡ at_text by t (argument 0 vs) (text_of h (argument 1 vs)) h
at_first_two by t vs h x k a b = ap (λ y. at_text by t y (text_of h k) h) a ∙ ap (λ y. at_text by t (argument 0 vs) (text_of h y) h) b

pub set_tells : (guard : Guard) (by : ℕ) (vs : List Value) (h : Objects) (x k : Value) → guard ≡ g.SetPub → x ≡ argument 0 vs → k ≡ argument 1 vs → at_text by r.to_set x (text_of h k) h ≡ (done_of guard by vs h).items
set_tells guard by vs h x k is a b = at_first_two by r.to_set vs h x k a b ∙ sym (touches_are g.SetPub by vs h) ∙ ap (λ q. (done_of q by vs h).items) (sym is)

pub delete_tells : (guard : Guard) (by : ℕ) (vs : List Value) (h : Objects) (x k : Value) → guard ≡ g.DeletePub → x ≡ argument 0 vs → k ≡ argument 1 vs → at_text by r.to_delete x (text_of h k) h ≡ (done_of guard by vs h).items
delete_tells guard by vs h x k is a b = at_first_two by r.to_delete vs h x k a b ∙ sym (touches_are g.DeletePub by vs h) ∙ ap (λ q. (done_of q by vs h).items) (sym is)

listed : (list : Option (List Value)) (items : List Told) → is_some list ≡ true → items ≡ with_list list items
listed None items some = cc
listed (Some xs) items some = refl

pub call_tells : (guard : Guard) (by : ℕ) (vs : List Value) (h : Objects) (x k l : Value) → guard ≡ g.CallPub → x ≡ argument 0 vs → k ≡ argument 1 vs → l ≡ argument 2 vs → is_some (list_of h l) ≡ true
    → at_text by r.to_get x (text_of h k) h ≡ (done_of guard by vs h).items
call_tells guard by vs h x k l is a b c some =
    at_first_two by r.to_get vs h x k a b
    ∙ listed (list_of h (argument 2 vs)) _ (subst (λ y. is_some (list_of h y) ≡ true) c some)
    ∙ sym (touches_are g.CallPub by vs h)
    ∙ ap (λ q. (done_of q by vs h).items) (sym is)
