-- `++` and `--` (ES3 11.3, 11.4.4, 11.4.5): what they write, and the plans of both over it.
use Rattle.std.proofs.Common.{◌≡◌, Bool, true, false, [], ◌∷◌, Option, Some, None, Result, Ok, Err, refl, ◌∙◌}
use Rattle.std.specs.Prelude.{ℤ}
use Rattle.plans.specs.Plans.{Fault}
use Rattle.es3_objects.specs.declared.value.Value.TheVariants as es
use Rattle.es3_convert.specs.Conversions.{and_then, number_or_fault}
use Rattle.es3_convert.specs.Numbers.{number_of}
use Rattle.es3_language.specs.Natives.{value_reply}
use Rattle.es3_language.specs.Store.{Store}
use Rattle.es3_language.specs.References.{Ref}
use Rattle.es3_language.specs.Operators.{given, stepped}
use Rattle.es3_language.specs.Tasks.{Env, with_given}
use Rattle.es3_language.specs.Expressions.{write_plan, step_number, step_value}
use Rattle.rows.specs.Rows as r
use Rattle.rows.specs.Guards.{number_end}
use Rattle.heap_rows.specs.Doing.{with_result}
use Rattle.row_simulation.specs.OperatorLaw.{came, NextLaw, next_of, BeforeLaw, BehindLaw}
use Rattle.row_simulation.proofs.Operators.Converted.{means_first, value_given, then_is, number_row, number_came}

pub next_comes : (up : Bool) → NextLaw up
next_comes up places by x h g z =
    value_given h g z (and_then (number_of h x) (λ n. number_or_fault (stepped up n))) _
    (number_row h g z places by (r.held 0) x (x ∷ []) (means_first x []) (λ n. r.ends (number_end (stepped up n))) (λ n. with_result (number_or_fault (stepped up n)) h g z (λ v. came (value_reply v) h g z)) (λ n. number_came h g z places by (stepped up n) (x ∷ []))
    ∙ then_is h g z (number_of h x) (λ n. number_or_fault (stepped up n)) (λ v. came (value_reply v) h g z))

-- what comes of the number before

before_number : (n : ℤ) (m : Option ℤ) (q : Ref) (env : Env) (s : Store) → step_number true n m q env s ≡ with_given (given (number_or_fault m)) s (λ v t. write_plan q v v env t)
before_number n None q env s = refl
before_number n (Some m) q env s = refl

behind_number : (n : ℤ) (m : Option ℤ) (q : Ref) (env : Env) (s : Store) → step_number false n m q env s ≡ with_given (given (number_or_fault m)) s (λ v u. write_plan q v (es.Num n) env u)
behind_number n None q env s = refl
behind_number n (Some m) q env s = refl

before_result : (up : Bool) (a : Result ℤ Fault) (q : Ref) (env : Env) (s : Store) → step_value up true q env a s ≡ with_given (given (and_then a (λ n. number_or_fault (stepped up n)))) s (λ v t. write_plan q v v env t)
before_result up (Ok n) q env s = before_number n (stepped up n) q env s
before_result up (Err f) q env s = refl

behind_result : (up : Bool) (a : Result ℤ Fault) (q : Ref) (env : Env) (s : Store)
    → step_value up false q env a s ≡ with_given (given (and_then a (λ n. Ok (es.Num n)))) s (λ old t. with_given (next_of up t.heap old) t (λ v u. write_plan q v old env u))
behind_result up (Ok n) q env s = behind_number n (stepped up n) q env s
behind_result up (Err f) q env s = refl

pub before_law : (up : Bool) → BeforeLaw up
before_law up q env x s = before_result up (number_of s.heap x) q env s

pub behind_law : (up : Bool) → BehindLaw up
behind_law up q env x s = behind_result up (number_of s.heap x) q env s
