-- Statements one after another (ES3 12.1, 14).
use Rattle.std.specs.Prelude.{Bool, [], Option, Some, None, if◌then◌else◌}
use Rattle.plans.specs.Plans.{enter}
use Rattle.es3_tree.specs.Tree as t
use Rattle.es3_objects.specs.declared.value.Value.{Value}
use Rattle.es3_language.specs.Store.{Store}
use Rattle.es3_language.specs.Tasks.{Completion, normal, broke, continued, Env, effect_of, Plan}

abbrev pub later : Option Value → Option Value → Option Value
later None b = b
later (Some v) b = Some v

-- 12.1: the value so far, where a statement has none; a program keeps none from one element to the next (14)
abbrev pub kept_value : Bool → Option Value → Option Value
kept_value keep acc = if keep then acc else None

-- 12.1: a statement that came to its end is followed by the next; a jump takes the value so far along, where it has none
abbrev pub on_each : Bool → Option Value → Completion → Store → (Option Value → Store → Plan) → (Completion → Store → Plan) → Plan
on_each keep acc (normal v) s go end = go (later v (kept_value keep acc)) s
on_each keep acc (broke l v) s go end = end (broke l (later v (kept_value keep acc))) s
on_each keep acc (continued l v) s go end = end (continued l (later v (kept_value keep acc))) s
on_each keep acc e s go end = end e s

-- 12.1, 14: the statements in order up to one that doesn't come to its end; then `end`, with how that was
abbrev pub list : Bool → t.Tree t.stmts → Option Value → Env → Store → (Completion → Store → Plan) → Plan
list keep t.no_stmts acc env s end = end (normal acc) s
list keep (t.more_stmts x rest) acc env s end =
    enter (effect_of x [] env) s (λ e s'. on_each keep acc e s' (λ v s''. list keep rest v env s'' end) end)

abbrev pub list_rest : Bool → t.Tree t.stmts → Option Value → Env → (Completion → Store → Plan) → Completion → Store → Plan
list_rest keep rest acc env end e s = on_each keep acc e s (λ v s'. list keep rest v env s' end) end
