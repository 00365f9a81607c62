-- What the row of args comes to.
use Rattle.std.proofs.Common.{◌≡◌, ℕ, zero, suc, ◌+◌, List, [], length, map, true, Some, Result, refl, sym, ap, ◌∙◌, subst, append-nil}
use Rattle.es3_objects.specs.declared.value.Value.{Value}
use Rattle.es3_objects.specs.declared.value.Stop.{Stop}
use Rattle.es3_heap.specs.Objects.{Objects}
use Rattle.rows.specs.Arguments.{values_from}
use Rattle.rows.specs.Guards as rows
use Rattle.heap_rows.specs.Doing.{value_in}
use Rattle.heap_rows.specs.Opening.{place_of}
use Rattle.row_outcomes.specs.declared.Outcome.{Outcome}
use Rattle.row_outcomes.specs.Comes.{Comes}
use Rattle.row_outcomes.proofs.Numbers.{first_values}
use Rattle.freeze_marks.specs.Copies.{made_array}
use Rattle.guard_runtime.specs.Guards.{by_row, items_of, args, on_list}

counted : (i n : ℕ) → length (values_from i n) ≡ n
counted i zero = refl
counted i (suc n) = ap suc (counted (i + 1) n)

all_held : (xs : List Value) → map (value_in place_of xs) (values_from 0 (length xs)) ≡ xs
all_held xs = subst (λ l. map (value_in place_of l) (values_from 0 (length xs)) ≡ xs) (append-nil xs) (first_values place_of xs [])

pub args_row-is : (by : ℕ) (xs : List Value) (h : Objects) → by_row (rows.args (length xs)) by xs h ≡ made_array true xs by h
args_row-is by xs h = rw (counted 0 (length xs), all_held xs) refl

pub args-comes : (by : ℕ) (l : Value) (h g : Objects) (xs : List Value) (a : Result Outcome Stop) → Some xs ≡ items_of h l → Comes (made_array true xs by h) a g → Comes (args by l h) a g
args-comes by l h g xs a found comes =
    let same : made_array true xs by h ≡ args by l h = sym (args_row-is by xs h) ∙ ap (λ f. on_list f by h (λ ys. by_row (rows.args (length ys)) by ys h)) found in
    subst (λ d. Comes d a g) same comes
