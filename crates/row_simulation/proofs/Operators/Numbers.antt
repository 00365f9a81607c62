-- Operators of two numbers (ES3 11.5 to 11.7, 11.10).
use Rattle.std.proofs.Common.{ℕ, List, [], ◌∷◌}
use Rattle.std.specs.Prelude.{ℤ, Option}
use Rattle.es3_heap.specs.Objects.{Objects}
use Rattle.es3_convert.specs.Conversions.{and_then, number_or_fault}
use Rattle.es3_convert.specs.Numbers.{number_of}
use Rattle.es3_language.specs.Natives.{value_reply}
use Rattle.es3_language.specs.Operators as operators
use Rattle.rows.specs.Rows as r
use Rattle.rows.specs.Rows.{Native}
use Rattle.rows.specs.Guards.{number_end}
use Rattle.rows.specs.Operators.{on_numbers}
use Rattle.heap_rows.specs.Doing as es3
use Rattle.heap_rows.specs.Doing.{Told}
use Rattle.row_simulation.specs.OperatorLaw.{came, Comes}
use Rattle.row_simulation.proofs.Relation.{EsValue}
use Rattle.row_simulation.proofs.Operators.Converted.{means_first, means_second, value_given, numbers_row, number_came}

pub numbers_come : (f : ℤ → ℤ → Option ℤ) (fs : Native → ℕ) (by : ℕ) (x y : EsValue) (h : Objects) (g : es3.Page) (z : List Told) → Comes (operators.on_numbers h x y f) h g z (es3.does fs by (on_numbers f) (x ∷ y ∷ []) h g z)
numbers_come f fs by x y h g z =
    value_given h g z (and_then (number_of h x) (λ a. and_then (number_of h y) (λ b. number_or_fault (f a b)))) _
    (numbers_row h g z fs by (r.held 0) (r.held 1) x y (x ∷ y ∷ []) (means_first x (y ∷ [])) (means_second x y []) (λ a b. r.ends (number_end (f a b))) (λ a b. number_or_fault (f a b)) (λ v. came (value_reply v) h g z) (λ a b. number_came h g z fs by (f a b) (x ∷ y ∷ [])))
