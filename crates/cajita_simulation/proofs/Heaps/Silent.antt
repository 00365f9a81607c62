-- The guards that touch nothing: what a page keeps stays as it is.
use Rattle.std.proofs.Common.{◌≡◌, ℕ, Bool, true, false, List, [], length, Option, Some, None, Result, Ok, Err, cond, refl, ap, ◌∙◌}
use Rattle.std.specs.Prelude.{nat_lt}
use Rattle.plans.specs.Plans.{Fault}
use Rattle.es3_objects.specs.declared.value.Value.{Value}
use Rattle.es3_objects.specs.declared.value.Value.TheVariants.{Obj}
use Rattle.es3_objects.specs.declared.value.Class.{Class}
use Rattle.es3_objects.specs.declared.value.Class.TheVariants as class
use Rattle.es3_heap.specs.Objects.{Objects, object_at, class_of}
use Rattle.rows.specs.Rows.{most_items}
use Rattle.rows.specs.Arguments.{values_from}
use Rattle.heap_rows.specs.Doing.{Done, too_long}
use Rattle.row_outcomes.specs.Arguments.{argument, told, after}
use Rattle.guard_runtime.specs.Guards.{list_of, on_list, items_of, read_import, func_of, func, args, keyed, new_record, initialize_map}
use Rattle.page_natives.specs.Natives.{Kept, tells, page_table}
use Rattle.cajita_simulation.proofs.Told.{tells_nothing}

-- a guard by its number
abbrev pub IsSilent : ℕ → Type 0
IsSilent number = (by : ℕ) (this : Value) (vs : List Value) (h : Objects) (y : Kept) → (page_table.answer number by this vs h y).state ≡ y

nothing_told : (d : Done) (y : Kept) → d.items ≡ [] → tells d.items y ≡ y
nothing_told d y e = ap (λ l. tells l y) e ∙ tells_nothing y

told_none : (t : Result Value Fault) (h : Objects) → (told t h).items ≡ []
told_none (Ok x) h = refl
told_none (Err f) h = refl

after_none : {A : Type 0} (t : Result A Fault) (h : Objects) (go : A → Done) → ((x : A) → (go x).items ≡ []) → (after t h go).items ≡ []
after_none (Ok x) h go f = f x
after_none (Err e) h go f = refl

list_none : (l : Option (List Value)) (by : ℕ) (h : Objects) (go : List Value → Done) → ((xs : List Value) → (go xs).items ≡ []) → (on_list l by h go).items ≡ []
list_none None by h go f = refl
list_none (Some xs) by h go f = f xs

import_none : (by : ℕ) (x k : Value) (h : Objects) → (read_import by x k h).items ≡ []
import_none by (Obj o) k h = told_none _ h
import_none by x k h = refl

func_none : (by : ℕ) (x : Value) (h : Objects) → (func by x h).items ≡ []
func_none by (Obj o) h = by_class (class_of (object_at h o))
  where
    by_class : (c : Class) → (func_of c by o h).items ≡ []
    by_class class.Function = refl
    by_class c = refl
func_none by x h = refl

short_none : (b : Bool) (d : Done) (h : Objects) → d.items ≡ [] → (cond b d (too_long h [])).items ≡ []
short_none true d h e = e
short_none false d h e = refl

args_none : (by : ℕ) (x : Value) (h : Objects) → (args by x h).items ≡ []
args_none by x h = list_none (items_of h x) by h _ (λ xs. short_none (nat_lt (length (values_from 0 (length xs))) most_items) _ h refl)

map_none : (by : ℕ) (x : Value) (h : Objects) → (initialize_map by x h).items ≡ []
map_none by x h = list_none (list_of h x) by h _ (λ xs. after_none (keyed h xs) h (new_record by h) (λ pairs. refl))

pub read_import-silent : IsSilent 65
read_import-silent by this vs h y = nothing_told (read_import by (argument 0 vs) (argument 1 vs) h) y (import_none by (argument 0 vs) (argument 1 vs) h)

pub func-silent : IsSilent 66
func-silent by this vs h y = nothing_told (func by (argument 0 vs) h) y (func_none by (argument 0 vs) h)

pub args-silent : IsSilent 67
args-silent by this vs h y = nothing_told (args by (argument 0 vs) h) y (args_none by (argument 0 vs) h)

pub initialize_map-silent : IsSilent 69
initialize_map-silent by this vs h y = nothing_told (initialize_map by (argument 0 vs) h) y (map_none by (argument 0 vs) h)
