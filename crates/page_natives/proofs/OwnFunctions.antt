-- The functions of a module and of a cell do what their rows do.
use Rattle.std.proofs.Common.{◌≡◌, ℕ, suc, Bool, true, false, List, [], ◌∷◌, ◌++◌, length, Option, Some, None, Result, Ok, Err, refl, sym, ap, ◌∙◌, subst, append-nil}
use Rattle.std.specs.Prelude.{nat_eq, is_some, if◌then◌else◌}
use Rattle.plans.specs.Plans.{Fault}
use Rattle.es3_objects.specs.declared.value.Value.{Value}
use Rattle.es3_objects.specs.declared.value.Value.TheVariants as v
use Rattle.es3_objects.specs.declared.value.Class.{Class}
use Rattle.es3_objects.specs.declared.value.Class.TheVariants as class
use Rattle.es3_objects.specs.declared.value.FuncKind.TheVariants as kind
use Rattle.es3_objects.specs.declared.value.Tag.TheVariants as tag
use Rattle.es3_heap.specs.Objects.{Objects, Callable, object_at, class_of, callable_of}
use Rattle.es3_heap.specs.Properties.{own}
use Rattle.es3_objects.specs.Reading.{kind_of}
use Rattle.es3_convert.specs.Conversions.{text_of}
use Rattle.es3_language.specs.Natives.{value_reply}
use Rattle.rows.specs.Rows as r
use Rattle.rows.specs.Rows.{Handle, Row, held, ends, settles, says, queues}
use Rattle.rows.specs.Arguments as rows
use Rattle.rows.specs.Core.{later_row, bad_argument}
use Rattle.heap_rows.specs.Marks.{simple_mark}
use Rattle.heap_rows.specs.Doing.{named, saying_by, queueing_by, keeping_by, kept_by as held_by, value_in, see, see_object, sort_seen, with_result, does}
use Rattle.heap_rows.specs.Opening.{place_of}
use Rattle.row_outcomes.specs.Arguments.{argument}
use Rattle.row_outcomes.proofs.Arguments.{argument_held}
use Rattle.page_natives.specs.declared.natives.Callee.TheVariants as c
use Rattle.guard_marks.specs.Closures.{is_closure_if, is_closure_object, is_closure}
use Rattle.page_natives.specs.Natives.{Kept, page_of, queue_of, added, cell_value, say_done, with_said, later_done, with_waiting}
use Rattle.page_natives.specs.OwnFunctions.{IsKept, DoesItsRow}
use Rattle.dom_facets.proofs.Padded.{put_is}

-- the argument's value, where nothing more is seen
held_now : (self : Value) (args : List Value) → value_in place_of (self ∷ args) (rows.argument 0 (suc (length args))) ≡ argument 0 args
held_now self args = subst (λ l. value_in place_of (self ∷ l) (rows.argument 0 (suc (length args))) ≡ argument 0 args) (append-nil args) (argument_held place_of 0 self args [])

-- say

say_kept : (by m : ℕ) (self : Value) (args : List Value) (h : Objects) (z : Kept) → named h self ≡ tag.Own m 0 → (t : Result (List ℕ) Fault)
    → IsKept (with_result t h (page_of z) [] (λ us. does place_of by (settles (says (held 0) us)) (self ∷ args) h (page_of z) [])) (say_done t h) z (with_said m t z)
say_kept by m self args h z own (Ok us) = record {
  reply = refl;
  heap = refl;
  told = ap (λ t. z.told ++ saying_by t us) (sym own);
  cells = λ cell. refl;
  queues = λ n. refl;
  nodes = λ root. refl;
  facets = λ root. refl;
  handlers = λ root. refl;
  runtime = refl;
  imports = refl;
  touching = refl;
  answers = refl;
}
say_kept by m self args h z own (Err f) = record { reply = refl; heap = refl; told = sym (append-nil z.told); cells = λ cell. refl; queues = λ n. refl; nodes = λ root. refl; facets = λ root. refl; handlers = λ root. refl; runtime = refl; imports = refl; touching = refl; answers = refl }

pub say_does_its_row : (m : ℕ) → DoesItsRow (c.Say m) r.say (tag.Own m 0)
say_does_its_row m rules by this self args h z own =
    subst (λ x. IsKept (with_result (text_of h x) h (page_of z) [] (λ us. does place_of by (settles (says (held 0) us)) (self ∷ args) h (page_of z) [])) (say_done (text_of h (argument 0 args)) h) z (with_said m (text_of h (argument 0 args)) z))
    (sym (held_now self args)) (say_kept by m self args h z own (text_of h (argument 0 args)))

-- later

-- what is seen of a value, by whether it may wait
module _ (Q : Bool → Row → Type 0) (x : Handle) (waits : Q true (settles (queues (held 0) x))) (other : Q false (ends bad_argument)) where
  by_kind : (marked : Bool) (f : Option Callable) → Q (is_closure_if marked (kind_of f)) (later_row x (sort_seen marked f))
  by_kind marked None = other
  by_kind marked (Some f) = elim f.kind as (λ k. let d : Callable = record { kind = k; maker = f.maker } in Q (is_closure_if marked (kind_of (Some d))) (later_row x (sort_seen marked (Some d)))) [
    | kind.Code n ↦ elim marked as (λ b. let d : Callable = record { kind = kind.Code n; maker = f.maker } in Q b (later_row x (sort_seen b (Some d)))) [
      | true ↦ waits
      | false ↦ other
    ]
    | kind.Simple n ↦ other
    | kind.Constructor n ↦ other
    | kind.Exophoric n w ↦ other
  ]

  by_class : (n : ℕ) (h : Objects) (o : ℕ) (k : Class) → Q (is_closure_object k h o) (later_row x (see_object n h o k).sight)
  by_class n h o class.Object = other
  by_class n h o class.Array = other
  by_class n h o class.Function = by_kind (is_some (own h o simple_mark)) (callable_of (object_at h o))
  by_class n h o class.Error = other
  by_class n h o class.Node = other

  by_sight : (n : ℕ) (h : Objects) (value : Value) → Q (is_closure h value) (later_row x (see h n value).sight)
  by_sight n h v.Undefined = other
  by_sight n h v.Null = other
  by_sight n h (v.Bool b) = other
  by_sight n h (v.Num i) = other
  by_sight n h (v.Text us) = other
  by_sight n h (v.Obj o) = by_class n h o (class_of (object_at h o))

-- the queue of a module behind which one more waits
queue_is : (n m : ℕ) (f : Value) (qs : List (List Value)) → (if nat_eq n m then queue_of m qs ++ f ∷ [] else queue_of n qs) ≡ queue_of n (added m f qs)
queue_is n m f qs = sym (put_is [] m (queue_of m qs ++ f ∷ []) qs n)

later_kept : (by m : ℕ) (self : Value) (args more : List Value) (h : Objects) (z : Kept) → named h self ≡ tag.Own m 1 → (n : ℕ)
    → IsKept (does place_of by (later_row (rows.argument 0 (suc (length args))) (see h n (argument 0 args)).sight) (self ∷ (args ++ more)) h (page_of z) [])
    (later_done (is_closure h (argument 0 args)) by h) z (with_waiting m (is_closure h (argument 0 args)) (argument 0 args) z)
later_kept by m self args more h z own n =
    let f = value_in place_of (self ∷ (args ++ more)) (rows.argument 0 (suc (length args))) in
    by_sight
    (λ b q. IsKept (does place_of by q (self ∷ (args ++ more)) h (page_of z) []) (later_done b by h) z (with_waiting m b (argument 0 args) z))
    (rows.argument 0 (suc (length args)))
    (record {
      reply = refl;
      heap = refl;
      told = sym (append-nil z.told);
      cells = λ cell. ap (λ q. (queueing_by q f (page_of z)).cells cell) own;
      queues = λ k. ap (λ q. (queueing_by q f (page_of z)).queues k) own ∙ ap (λ x. if nat_eq k m then queue_of m z.waiting ++ x ∷ [] else queue_of k z.waiting) (argument_held place_of 0 self args more) ∙ queue_is k m (argument 0 args) z.waiting;
      nodes = λ root. ap (λ q. (queueing_by q f (page_of z)).nodes root) own;
      facets = λ root. ap (λ q. (queueing_by q f (page_of z)).facets root) own;
      handlers = λ root. ap (λ q. (queueing_by q f (page_of z)).handlers root) own;
      runtime = refl;
      imports = refl;
      touching = refl;
      answers = refl;
    })
    (record { reply = refl; heap = refl; told = sym (append-nil z.told); cells = λ cell. refl; queues = λ k. refl; nodes = λ root. refl; facets = λ root. refl; handlers = λ root. refl; runtime = refl; imports = refl; touching = refl; answers = refl })
    n h (argument 0 args)

pub later_does_its_row : (m : ℕ) → DoesItsRow (c.Later m) r.later (tag.Own m 1)
later_does_its_row m rules by this self args h z own =
    let n = suc (length args) in
    subst (λ x. IsKept (does place_of by (later_row (rows.argument 0 n) (see h n x).sight) ((self ∷ args) ++ (see h n x).values) h (page_of z) []) (later_done (is_closure h (argument 0 args)) by h) z (with_waiting m (is_closure h (argument 0 args)) (argument 0 args) z))
    (sym (held_now self args)) (later_kept by m self args (see h n (argument 0 args)).values h z own n)

-- get and set of a cell

pub get_does_its_row : (cell : ℕ) → DoesItsRow (c.Get cell) r.get (tag.Cell cell 1)
get_does_its_row cell rules by this self args h z own = record {
  reply = ap (λ t. value_reply (held_by t (page_of z))) own;
  heap = refl;
  told = sym (append-nil z.told);
  cells = λ i. refl;
  queues = λ n. refl;
  nodes = λ root. refl;
  facets = λ root. refl;
  handlers = λ root. refl;
  runtime = refl;
  imports = refl;
  touching = refl;
  answers = refl;
}

pub set_does_its_row : (cell : ℕ) → DoesItsRow (c.Set cell) r.set (tag.Cell cell 2)
set_does_its_row cell rules by this self args h z own = let x = value_in place_of (self ∷ args) (rows.argument 0 (suc (length args))) in record {
  reply = refl;
  heap = refl;
  told = sym (append-nil z.told);
  cells = λ i. ap (λ q. (keeping_by q x (page_of z)).cells i) own ∙ ap (λ a. if nat_eq i cell then a else cell_value i z.cells) (held_now self args) ∙ sym (put_is v.Undefined cell (argument 0 args) z.cells i);
  queues = λ n. ap (λ q. (keeping_by q x (page_of z)).queues n) own;
  nodes = λ root. ap (λ q. (keeping_by q x (page_of z)).nodes root) own;
  facets = λ root. ap (λ q. (keeping_by q x (page_of z)).facets root) own;
  handlers = λ root. ap (λ q. (keeping_by q x (page_of z)).handlers root) own;
  runtime = refl;
  imports = refl;
  touching = refl;
  answers = refl;
}
