-- The guard `args` makes of an arguments object the frozen array of the arguments.
use Rattle.std.proofs.Common.{◌≡◌, ℕ, ◌<◌, true, List, [], ◌∷◌, length, cond, refl, ap, ◌∙◌, arith}
use Rattle.std.specs.Prelude.{nat_lt}
use Rattle.std.proofs.lemmas.Bool.Decides.{nat_tests}
use Rattle.es3_objects.specs.declared.value.Value.TheVariants as es
use Rattle.es3_heap.specs.Objects.{Objects, with_object}
use Rattle.es3_heap.specs.Making.{array_object}
use Rattle.es3_language.specs.Store.{Names, Store, with_heap}
use Rattle.es3_language.specs.Meaning as Target
use Rattle.heap_rows.specs.Doing.{Done, frozen_if, gives, too_long}
use Rattle.heap_rows.specs.Opening.{runtime_id}
use Rattle.freeze_marks.specs.Copies.{gives_new, made_array}
use Rattle.guard_runtime.specs.Guards.{args}
use Rattle.guard_runtime.proofs.ArgsRow.{args_row-is}
use Rattle.page_natives.specs.Natives.{Kept, page_table}
use Rattle.cajita_simulation.specs.Guest.{AreDistinct}
use Rattle.cajita_simulation.proofs.Heaps.Made.{with_named, named_new}
use Rattle.cajita_simulation.proofs.Heaps.Arguments.{arguments_object}
use Rattle.cajita_simulation.proofs.Heaps.ArgumentItems.{ParamsAre, args_are}
use Rattle.cajita_simulation.proofs.Relation.{EsValue}

frozen_new : (vs : List EsValue) (by : ℕ) (h : Objects) → length vs < 4294967296 → made_array true vs by h ≡ gives (es.Obj (length h.list)) (with_named h (frozen_if true (array_object vs)) by) []
frozen_new vs by h few =
    let short : nat_lt (length vs) 4294967296 ≡ true = grind (arith, nat_tests) in
    ap (λ b. cond b (gives_new true (array_object vs) by h) (too_long h [])) short ∙ ap (λ (g : Objects). gives (es.Obj (length h.list)) g []) (named_new h (frozen_if true (array_object vs)) by refl)

-- the guard's row
pub args_answer : (f : EsValue) (params : List (List ℕ)) (vs : List EsValue) (names : Names) (h : Objects) → AreDistinct params → ParamsAre params vs names → length vs < 4294967296 → (env : Target.Env) (s : Store) (y : Kept) → (let g = with_object h (arguments_object f params vs names) in s.heap ≡ g
    → Target.task_plan page_table (Target.native_call 67 (es.Obj runtime_id) (es.Obj (length h.list) ∷ []) env) s y ≡ Target.give (es.Obj (length g.list)) (with_heap s (with_named g (frozen_if true (array_object vs)) env.by)))
args_answer f params vs names h once are few env s y there =
    let g = with_object h (arguments_object f params vs names) in
    let place = es.Obj (length h.list) in
    ap (λ (d : Done). Target.reply_plan d.reply env (with_heap s d.heap))
    (ap (λ (q : Objects). args env.by place q) there ∙ args_are env.by f params vs names h once are few ∙ args_row-is env.by vs g ∙ frozen_new vs env.by g few)
