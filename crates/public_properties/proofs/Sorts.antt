-- What is seen of a value, by what it runs where it is a function that modules may use.
use Rattle.std.proofs.Common.{ℕ, Bool, true, false, Option, Some, None, cond}
use Rattle.std.specs.Prelude.{is_some}
use Rattle.es3_objects.specs.declared.value.Value.{Value}
use Rattle.es3_objects.specs.declared.value.Value.TheVariants as v
use Rattle.es3_objects.specs.declared.value.Class.{Class}
use Rattle.es3_objects.specs.declared.value.Class.TheVariants as class
use Rattle.es3_objects.specs.declared.value.FuncKind.{FuncKind}
use Rattle.es3_objects.specs.declared.value.FuncKind.TheVariants as kind
use Rattle.es3_objects.specs.declared.value.Receiver.{Receiver}
use Rattle.es3_heap.specs.Objects.{Objects, Callable, object_at, class_of, callable_of}
use Rattle.es3_heap.specs.Properties.{own}
use Rattle.es3_objects.specs.Reading.{kind_of}
use Rattle.rows.specs.Rows as r
use Rattle.rows.specs.Rows.{Sight}
use Rattle.heap_rows.specs.Marks.{simple_mark}
use Rattle.heap_rows.specs.Natives.{maker_at, receiver_of}
use Rattle.heap_rows.specs.Doing.{sort_seen, see, see_object}
use Rattle.guard_marks.specs.Functions.{is_for_modules_if}
use Rattle.public_properties.specs.Functions.{class_kind, function_kind}

abbrev pub IsNoFunction : Sight → Type 0
IsNoFunction (r.a_function sort) = ⊥
IsNoFunction s = Unit {0}

-- what is to be shown of a value that is no function, and of each kind of function
pub record BySort (P : Sight → Option FuncKind → Type 0) : Type 0 where
  pub other : (s : Sight) → IsNoFunction s → P s None
  pub code : (n : ℕ) → P (r.a_function r.closure) (Some (kind.Code n))
  pub simple : (n : ℕ) → P (r.a_function r.simple) (Some (kind.Simple n))
  pub constructor : (n : ℕ) → P (r.a_function (r.constructor (maker_at n))) (Some (kind.Constructor n))
  pub exophoric : (n : ℕ) (w : Receiver) → P (r.a_function (r.exophoric (receiver_of w))) (Some (kind.Exophoric n w))

by_callable : (P : Sight → Option FuncKind → Type 0) → BySort P → (simple : Bool) (c : Option Callable) → P (sort_seen simple c) (cond (is_for_modules_if simple (kind_of c)) (kind_of c) None)
by_callable P each simple None = each.other (r.a_stranger true) tt
by_callable P each simple (Some c) =
    elim c.kind as (λ q. let d : Callable = record { kind = q; maker = c.maker } in P (sort_seen simple (Some d)) (cond (is_for_modules_if simple (Some q)) (Some q) None)) [
      | kind.Code n ↦ elim simple as (λ b. let d : Callable = record { kind = kind.Code n; maker = c.maker } in P (sort_seen b (Some d)) (cond b (Some (kind.Code n)) None)) [
        | true ↦ each.code n
        | false ↦ each.other (r.a_stranger true) tt
      ]
      | kind.Simple n ↦ each.simple n
      | kind.Constructor n ↦ each.constructor n
      | kind.Exophoric n w ↦ each.exophoric n w
    ]

by_class : (P : Sight → Option FuncKind → Type 0) → BySort P → (n : ℕ) (h : Objects) (o : ℕ) (c : Class) → P (see_object n h o c).sight (class_kind c h o)
by_class P each n h o class.Object = each.other _ tt
by_class P each n h o class.Array = each.other _ tt
by_class P each n h o class.Function = by_callable P each (is_some (own h o simple_mark)) (callable_of (object_at h o))
by_class P each n h o class.Error = each.other _ tt
by_class P each n h o class.Node = each.other _ tt

pub by_sort : (P : Sight → Option FuncKind → Type 0) → BySort P → (n : ℕ) (h : Objects) (x : Value) → P (see h n x).sight (function_kind h x)
by_sort P each n h v.Undefined = each.other _ tt
by_sort P each n h v.Null = each.other _ tt
by_sort P each n h (v.Bool b) = each.other _ tt
by_sort P each n h (v.Num i) = each.other _ tt
by_sort P each n h (v.Text us) = each.other _ tt
by_sort P each n h (v.Obj o) = by_class P each n h o (class_of (object_at h o))
