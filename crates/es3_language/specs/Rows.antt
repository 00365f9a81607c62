-- Small programs whose values are given: by themselves, in a store whose global object has no names.
use Rattle.std.specs.Prelude.{List, [], ◌∷◌, Option, None, ⊤}
use Rattle.plans.specs.Plans.{over, stopped, out}
use Rattle.es3_tree.specs.Tree as t
use Rattle.es3_objects.specs.declared.value.Value.{Value}
use Rattle.es3_objects.specs.declared.value.Value.TheVariants.{Undefined}
use Rattle.es3_objects.specs.declared.value.Class.TheVariants as class
use Rattle.es3_heap.specs.Making.{new_objects, made}
use Rattle.es3_language.specs.Natives.{Table, throw_reply}
use Rattle.es3_language.specs.Store.{Store}
use Rattle.es3_language.specs.Tasks.{Completion, normal, Run}
use Rattle.es3_language.specs.Meaning.{run_program}

abbrev pub empty_store : Store
empty_store = record { heap = made class.Object None new_objects; scopes = []; codes = []; globals = 10; shared = [] }

abbrev pub no_natives : Table ⊤
no_natives = record { answer = λ which by this args h z. record { reply = throw_reply Undefined; heap = h; state = z }; touch = λ i z. z }

abbrev pub value_of_ending : Completion → Option Value
value_of_ending (normal v) = v
value_of_ending e = None

abbrev pub value_of_run : Run ⊤ → Option Value
value_of_run (over e s z n) = value_of_ending e
value_of_run (stopped f s z n) = None
value_of_run (out s z n) = None

-- the value that a program of one statement ends in, within 100 steps
abbrev pub value_of : t.Tree t.stmt → Option Value
value_of x = value_of_run (run_program no_natives (t.script (t.more_stmts x t.no_stmts)) 0 empty_store tt 100)

abbrev pub body_of : List (t.Tree t.stmt) → t.Tree t.stmts
body_of [] = t.no_stmts
body_of (x ∷ xs) = t.more_stmts x (body_of xs)

abbrev pub returned : t.Tree t.expr → t.Tree t.stmt
returned e = t.return (t.some_expr e)
