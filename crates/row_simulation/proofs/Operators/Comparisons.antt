-- `<`, `>`, `<=`, `>=` (ES3 11.8.1 to 11.8.5): the row compares the primitive values of both sides.
use Rattle.std.proofs.Common.{◌≡◌, ℕ, Bool, List, [], ◌∷◌, ◌++◌, Ok, refl, ap, ◌∙◌}
use Rattle.std.specs.Prelude.{not, int_lt}
use Rattle.caja_units.specs.Units.{comes_before}
use Rattle.es3_objects.specs.declared.value.Value.TheVariants as es
use Rattle.es3_heap.specs.Objects.{Objects}
use Rattle.es3_convert.specs.Conversions.{and_then, primitive_of}
use Rattle.es3_convert.specs.Numbers.{number_of, found_number, primitive_number}
use Rattle.es3_convert.specs.Comparisons as compared
use Rattle.es3_convert.specs.Comparisons.{less_of}
use Rattle.es3_language.specs.Natives.{value_reply}
use Rattle.es3_language.specs.Operators.{given_truth, given_not}
use Rattle.rows.specs.Rows as r
use Rattle.rows.specs.Rows.{Handle, Row, Native}
use Rattle.rows.specs.Operators.{tells, tells_not, as_primitive, less_primitives, is_less}
use Rattle.heap_rows.specs.Doing as es3
use Rattle.heap_rows.specs.Doing.{Told}
use Rattle.row_simulation.specs.OperatorLaw.{came, Comes}
use Rattle.row_simulation.proofs.Relation.{EsValue}
use Rattle.row_simulation.proofs.Operators.Sights.{IsPrimitive, primitive_sight}
use Rattle.row_simulation.proofs.Operators.Converted.{Means, means_more, means_first, means_second, then_is, truth_given, not_given, numbers_row, primitive_row}

-- 9.3: a primitive's number
number_is : (h : Objects) (x : EsValue) → IsPrimitive x → number_of h x ≡ found_number (primitive_number x)
number_is h es.Undefined p = refl
number_is h es.Null p = refl
number_is h (es.Bool b) p = refl
number_is h (es.Num n) p = refl
number_is h (es.Text us) p = refl
number_is h (es.Obj o) p = absurd p

module _ (h : Objects) (g : es3.Page) (z : List Told) (fs : Native → ℕ) (by : ℕ) (go : Bool → Row) (c : Bool → es3.Came) (told : (vs : List EsValue) (b : Bool) → es3.does fs by (go b) vs h g z ≡ c b) where
  by_numbers : (a b : EsValue) → IsPrimitive a → IsPrimitive b → (x y : Handle) (vs : List EsValue) → Means fs vs x a → Means fs vs y b
      → es3.does fs by (r.as_number x (λ n. r.as_number y (λ k. go (int_lt n k)))) vs h g z ≡ es3.with_result (and_then (found_number (primitive_number a)) (λ n. and_then (found_number (primitive_number b)) (λ k. Ok (int_lt n k)))) h g z c
  by_numbers a b pa pb x y vs m n =
      numbers_row h g z fs by x y a b vs m n (λ i k. go (int_lt i k)) (λ i k. Ok (int_lt i k)) c (λ i k. told vs (int_lt i k))
      ∙ ap (λ q. es3.with_result (and_then q (λ i. and_then (number_of h b) (λ k. Ok (int_lt i k)))) h g z c) (number_is h a pa)
      ∙ ap (λ q. es3.with_result (and_then (found_number (primitive_number a)) (λ i. and_then q (λ k. Ok (int_lt i k)))) h g z c) (number_is h b pb)

  primitives_row : (a b : EsValue) → IsPrimitive a → IsPrimitive b → (x y : Handle) (vs : List EsValue) → Means fs vs x a → Means fs vs y b → es3.does fs by (less_primitives x (primitive_sight a) y (primitive_sight b) go) vs h g z ≡ es3.with_result (compared.less_primitives a b) h g z c
  primitives_row (es.Text us) (es.Text ws) pa pb x y vs m n = told vs (comes_before us ws)
  primitives_row a b pa pb x y vs m n = by_numbers a b pa pb x y vs m n

  -- 11.8.5, the side of x first
  less_row : (x y : Handle) (u v : EsValue) (vs : List EsValue) → Means fs vs x u → Means fs vs y v → es3.does fs by (is_less x y go) vs h g z ≡ es3.with_result (less_of h u v) h g z c
  less_row x y u v vs m n =
      primitive_row h g z fs by x u vs m (λ p s. as_primitive y (λ q t. less_primitives p s q t go)) (λ a. es3.with_result (and_then (primitive_of h v) (λ b. compared.less_primitives a b)) h g z c)
      (λ p a ws pa ma. primitive_row h g z fs by y v (vs ++ ws) (means_more ws n) (λ q t. less_primitives p (primitive_sight a) q t go) (λ b. es3.with_result (compared.less_primitives a b) h g z c)
      (λ q b us pb mb. primitives_row a b pa pb p q ((vs ++ ws) ++ us) (means_more us ma) mb)
      ∙ then_is h g z (primitive_of h v) (λ b. compared.less_primitives a b) c)
      ∙ then_is h g z (primitive_of h u) (λ a. and_then (primitive_of h v) (λ b. compared.less_primitives a b)) c

module _ (fs : Native → ℕ) (by : ℕ) (x y : EsValue) (h : Objects) (g : es3.Page) (z : List Told) where
  pub less_comes : Comes (given_truth (less_of h x y)) h g z (es3.does fs by (is_less (r.held 0) (r.held 1) tells) (x ∷ y ∷ []) h g z)
  less_comes = truth_given h g z (less_of h x y) _ (less_row h g z fs by tells (λ b. came (value_reply (es.Bool b)) h g z) (λ vs b. refl) (r.held 0) (r.held 1) x y (x ∷ y ∷ []) (means_first x (y ∷ [])) (means_second x y []))

  pub more_comes : Comes (given_truth (less_of h y x)) h g z (es3.does fs by (is_less (r.held 1) (r.held 0) tells) (x ∷ y ∷ []) h g z)
  more_comes = truth_given h g z (less_of h y x) _ (less_row h g z fs by tells (λ b. came (value_reply (es.Bool b)) h g z) (λ vs b. refl) (r.held 1) (r.held 0) y x (x ∷ y ∷ []) (means_second x y []) (means_first x (y ∷ [])))

  pub not_less_comes : Comes (given_not (less_of h x y)) h g z (es3.does fs by (is_less (r.held 0) (r.held 1) tells_not) (x ∷ y ∷ []) h g z)
  not_less_comes = not_given h g z (less_of h x y) _ (less_row h g z fs by tells_not (λ b. came (value_reply (es.Bool (not b))) h g z) (λ vs b. refl) (r.held 0) (r.held 1) x y (x ∷ y ∷ []) (means_first x (y ∷ [])) (means_second x y []))

  pub not_more_comes : Comes (given_not (less_of h y x)) h g z (es3.does fs by (is_less (r.held 1) (r.held 0) tells_not) (x ∷ y ∷ []) h g z)
  not_more_comes = not_given h g z (less_of h y x) _ (less_row h g z fs by tells_not (λ b. came (value_reply (es.Bool (not b))) h g z) (λ vs b. refl) (r.held 1) (r.held 0) y x (x ∷ y ∷ []) (means_second x y []) (means_first x (y ∷ [])))
