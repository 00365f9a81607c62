-- What a whole source does as a module: it is cut, read, judged by the rules, resolved and loaded, by computation.
use Rattle.std.specs.Prelude.{ℕ, ◌-◌, List, [], ◌∷◌, ◌++◌, Option, Some, None, Ok, Err, map, codes}
use Rattle.plans.specs.Plans.{Fault, over, stopped, out, ends, enter, run}
use Rattle.acts.specs.Acts.{task}
use Rattle.es3_tree.specs.Tree as t
use Rattle.es3_tree.specs.Placed as p
use Rattle.es3_tree.specs.Placed.{Placed}
use Rattle.es3_tokens.specs.Cut as cut
use Rattle.es3_tokens.specs.Quick.{quick_chars}
use Rattle.es3_grammar.specs.Spots.{spots}
use Rattle.es3_grammar.specs.Within.{Reading, program, broken}
use Rattle.es3_grammar.specs.Sums.{read_quickly}
use Rattle.cajita_tree.specs.Tree as c
use Rattle.cajita_rules.specs.Faults as f
use Rattle.cajita_rules.specs.Faults.{faults, first}
use Rattle.scope_rules.specs.Resolve.{module_of}
use Rattle.rows.specs.Rows as r
use Rattle.rows.specs.Nodes.{no_rules}
use Rattle.cajita_meaning.specs.World.{Value, undefined, Pairs, World, empty_world, value_at}
use Rattle.cajita_meaning.specs.Doing.{or_nothing}
use Rattle.cajita_meaning.specs.Direct.{Completion, gave, Item, Run, a_native, direct, load_run}
use Rattle.cajita_meaning.specs.Imports.{fixed_imports}

-- the values of what a module imports: what it is granted, and the fixed names
abbrev pub import_values : ℕ → Pairs → List (List ℕ) → List Value
import_values m grants xs = map (λ x. or_nothing (value_at x (grants ++ fixed_imports m))) xs

-- what a source comes to: how its load ended, after so many steps, and what was told; a rule that it breaks, and where; or nothing is read
pub data Shown : Type 0 where
  came : Completion → ℕ → List Item → Shown
  faulted : Fault → ℕ → List Item → Shown
  spent : List Item → Shown
  breaks : ℕ → ℕ → Shown
  unread : Shown

abbrev pub of_run : ℕ → Run → Shown
of_run n (over e w z m) = came e (n - m) z
of_run n (stopped g w z m) = faulted g (n - m) z
of_run n (out w z m) = spent z

abbrev pub names_of : Pairs → List (List ℕ)
names_of grants = map (λ g. g.0) grants

abbrev pub loaded : ℕ → Pairs → World → ℕ → c.Tree c.program → Run
loaded m grants w n (c.a_module xs body) = load_run no_rules (c.a_module xs body) m (import_values m grants xs) w [] n

abbrev pub on_module : {A : Type 0} → Option (c.Tree c.program) → A → (c.Tree c.program → A) → A
on_module None none go = none
on_module (Some m) none go = go m

abbrev pub judged : {A : Type 0} → Option f.Fault → Option (c.Tree c.program) → (ℕ → ℕ → A) → A → (c.Tree c.program → A) → A
judged (Some g) m broken_rule none go = broken_rule g.rule g.at
judged None m broken_rule none go = on_module m none go

abbrev pub statements : Placed t.program → Placed t.stmts
statements (p.script ss) = ss

abbrev pub of_reading : {A : Type 0} → Pairs → Reading → (ℕ → ℕ → A) → A → (c.Tree c.program → A) → A
of_reading grants (program q) broken_rule none go = judged (first (faults (names_of grants) (statements q))) (module_of (names_of grants) (statements q)) broken_rule none go
of_reading grants s broken_rule none go = none

abbrev pub read_tokens : cut.Answer → Reading
read_tokens (Ok ts) = read_quickly 128 (spots ts)
read_tokens (Err e) = broken

-- what is done with the module of a source that is granted these names
abbrev pub with_source : {A : Type 0} → Pairs → List ℕ → (ℕ → ℕ → A) → A → (c.Tree c.program → A) → A
with_source grants source broken_rule none go = of_reading grants (read_tokens (quick_chars source)) broken_rule none go

-- a source as the module 0 in the empty world, with n steps
abbrev pub shown : List ℕ → ℕ → Shown
shown source n = with_source [] source breaks unread (λ m. of_run n (loaded 0 [] empty_world n m))

-- the value that a load gave
abbrev pub result_of : Completion → Value
result_of (gave v) = v
result_of e = undefined

-- two sources as the modules 0 and 1: the second one is granted what the first one gave, as `c`; what is shown is the second one's
abbrev pub after_first : List ℕ → ℕ → Run → Shown
after_first source n (over e w z m) = with_source ((codes "c", result_of e) ∷ []) source breaks unread (λ q. of_run n (loaded 1 ((codes "c", result_of e) ∷ []) w n q))
after_first source n s = unread

abbrev pub shown_second : List ℕ → List ℕ → ℕ → Shown
shown_second one two n = with_source [] one breaks unread (λ m. after_first two n (loaded 0 [] empty_world n m))

-- the function that a source gives, called with these values where so many calls are open
abbrev pub after_load : ℕ → List Value → ℕ → Run → Shown
after_load calls vs n (over e w z m) = of_run n (run (direct no_rules) n (enter (task (a_native r.call calls) 0 (result_of e ∷ undefined ∷ vs)) w ends) [])
after_load calls vs n s = unread

abbrev pub shown_call : List ℕ → ℕ → List Value → ℕ → Shown
shown_call source calls vs n = with_source [] source breaks unread (λ m. after_load calls vs n (loaded 0 [] empty_world n m))
