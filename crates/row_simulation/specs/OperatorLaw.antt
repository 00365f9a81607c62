-- What it is that an operator of ES3 is its row: among objects the row comes to what the operator gives, and changes nothing.
use Rattle.std.specs.Prelude.{◌≡◌, ℕ, Bool, true, false, List, [], ◌∷◌, is_some}
use Rattle.es3_tree.specs.declared.UnOp.{UnOp}
use Rattle.es3_tree.specs.declared.UnOp.TheVariants as un
use Rattle.es3_tree.specs.declared.BinOp.{BinOp}
use Rattle.es3_tree.specs.declared.BinOp.TheVariants as bin
use Rattle.es3_objects.specs.declared.value.Value.TheVariants.{Obj}
use Rattle.es3_objects.specs.declared.value.Class.{Class}
use Rattle.es3_objects.specs.declared.value.Class.TheVariants as class
use Rattle.es3_heap.specs.Objects.{Objects, object_at, class_of, callable_of}
use Rattle.es3_convert.specs.Conversions.{and_then, number_or_fault}
use Rattle.es3_convert.specs.Numbers.{number_of}
use Rattle.es3_language.specs.Natives.{Reply, value_reply, stop_reply}
use Rattle.es3_language.specs.Store.{Store}
use Rattle.es3_language.specs.References.{Ref}
use Rattle.es3_language.specs.Operators.{Given, gives, faults, raises, given, operate, convert, stepped}
use Rattle.es3_language.specs.Tasks.{Env, with_given}
use Rattle.es3_language.specs.Expressions.{write_plan, step_value}
use Rattle.rows.specs.Rows.{Native}
use Rattle.rows.specs.Operators.{binary_row, unary_row, next_number, to_number}
use Rattle.heap_rows.specs.Doing.{Told, Page, Came, does}
use Rattle.row_simulation.specs.Correspond.{EsValue}

-- where nothing has changed
abbrev pub came : Reply → Objects → Page → List Told → Came
came a h g z = record { done = record { reply = a; heap = h; items = z }; page = g }

-- what a row has come to is what an operator gives; of values no operator throws
abbrev pub Comes : Given → Objects → Page → List Told → Came → Type 0
Comes (gives v) h g z c = c ≡ came (value_reply v) h g z
Comes (faults f) h g z c = c ≡ came (stop_reply f) h g z
Comes (raises message) h g z c = ⊥

-- all but `instanceof` and `in`, which are guards
abbrev pub IsOfValues : BinOp → Type 0
IsOfValues bin.InstanceOf = ⊥
IsOfValues bin.InObject = ⊥
IsOfValues op = Unit {0}

abbrev pub BinaryLaw : BinOp → Type 0
BinaryLaw op =
    (places : Native → ℕ) (by : ℕ) (x y : EsValue) (h : Objects) (g : Page) (z : List Told)
    → Comes (operate op h x y) h g z (does places by (binary_row op) (x ∷ y ∷ []) h g z)

-- 11.4.3: the operator asks whether an object may be called, and its row for the class: here the one is there where the other is
abbrev pub is_function : Class → Bool
is_function class.Function = true
is_function c = false

abbrev pub IsTyped : Objects → EsValue → Type 0
IsTyped h (Obj o) = is_some (callable_of (object_at h o)) ≡ is_function (class_of (object_at h o))
IsTyped h x = Unit {0}

abbrev pub IsFit : UnOp → Objects → EsValue → Type 0
IsFit un.Typeof h x = IsTyped h x
IsFit op h x = Unit {0}

abbrev pub UnaryLaw : UnOp → Type 0
UnaryLaw op =
    (places : Native → ℕ) (by : ℕ) (x : EsValue) (h : Objects) (g : Page) (z : List Told) → IsFit op h x
    → Comes (convert op h x) h g z (does places by (unary_row op) (x ∷ []) h g z)

-- 11.3, 11.4.4, 11.4.5: the number that `++` or `--` writes
abbrev pub next_of : Bool → Objects → EsValue → Given
next_of up h x = given (and_then (number_of h x) (λ n. number_or_fault (stepped up n)))

abbrev pub NextLaw : Bool → Type 0
NextLaw up =
    (places : Native → ℕ) (by : ℕ) (x : EsValue) (h : Objects) (g : Page) (z : List Told)
    → Comes (next_of up h x) h g z (does places by (next_number up) (x ∷ []) h g z)

-- 11.4.6: the number before, which is the value of `++` and `--` behind their operand
abbrev pub NumberLaw : Type 0
NumberLaw =
    (places : Native → ℕ) (by : ℕ) (x : EsValue) (h : Objects) (g : Page) (z : List Told)
    → Comes (convert un.Plus h x) h g z (does places by to_number (x ∷ []) h g z)

-- 11.4.4, 11.4.5: before the operand the number that is written is the value
abbrev pub BeforeLaw : Bool → Type 0
BeforeLaw up =
    (r : Ref) (env : Env) (x : EsValue) (s : Store)
    → step_value up true r env (number_of s.heap x) s ≡ with_given (next_of up s.heap x) s (λ v t. write_plan r v v env t)

-- 11.3: behind it the number before is
abbrev pub BehindLaw : Bool → Type 0
BehindLaw up =
    (r : Ref) (env : Env) (x : EsValue) (s : Store)
    → step_value up false r env (number_of s.heap x) s ≡ with_given (convert un.Plus s.heap x) s (λ old t. with_given (next_of up t.heap old) t (λ v u. write_plan r v old env u))
