-- `==` and `!=` (ES3 11.9.1 to 11.9.3), kind by kind of both sides.
use Rattle.std.proofs.Common.{◌≡◌, ℕ, Bool, true, false, List, [], ◌∷◌, ◌++◌, Ok, refl, ap, ◌∙◌}
use Rattle.std.specs.Prelude.{pos, not, length}
use Rattle.std.specs.Ordering.{int_eq}
use Rattle.es3_objects.specs.declared.value.Value.TheVariants as es
use Rattle.es3_heap.specs.Objects.{Objects}
use Rattle.es3_convert.specs.Conversions.{and_then, text_of, primitive_of}
use Rattle.es3_convert.specs.Numbers.{found_number, text_number}
use Rattle.es3_convert.specs.Comparisons as compared
use Rattle.es3_convert.specs.Comparisons.{strictly_equal, equal_values, loosely_equal}
use Rattle.es3_language.specs.Natives.{value_reply}
use Rattle.es3_language.specs.Operators.{given_truth, given_not}
use Rattle.rows.specs.Rows as r
use Rattle.rows.specs.Rows.{Handle, Sight, Row, Native}
use Rattle.rows.specs.Operators.{tells, tells_not, is_object, is_nothing, counted, equal_primitives, equal_seen, is_equal}
use Rattle.heap_rows.specs.Doing as es3
use Rattle.heap_rows.specs.Doing.{Told}
use Rattle.row_simulation.specs.OperatorLaw.{came, Comes}
use Rattle.row_simulation.proofs.Relation.{EsValue}
use Rattle.row_simulation.proofs.Operators.Sights.{object_seen, object_something, object_counted, primitive_sight}
use Rattle.row_simulation.proofs.Operators.Converted.{Means, means_now, means_more, means_number, means_text, means_first, means_second, text_then, then_is, truth_given, not_given, text_row, number_row, looks_row}

-- what is done where objects are seen

both_objects : (x : Handle) (s : Sight) (y : Handle) (t : Sight) (go : Bool → Row) → is_object s ≡ true → is_object t ≡ true → equal_seen x s y t go ≡ r.as_same x y go
both_objects x s y t go p q = rw (object_something s p, object_something t q, p, q) refl

left_object : (x : Handle) (s : Sight) (y : Handle) (t : Sight) (go : Bool → Row) → is_object s ≡ true → is_nothing t ≡ false → is_object t ≡ false → equal_seen x s y t go ≡ r.as_text x (λ us. equal_primitives (r.text us) (r.a_text us) y t go)
left_object x s y t go p q e = rw (object_something s p, q, p, e) refl

right_object : (x : Handle) (s : Sight) (y : Handle) (t : Sight) (go : Bool → Row) → is_object t ≡ true → is_nothing s ≡ false → is_object s ≡ false → equal_seen x s y t go ≡ r.as_text y (λ us. equal_primitives x s (r.text us) (r.a_text us) go)
right_object x s y t go p q e = rw (object_something t p, q, p, e) refl

object_nothing : (x : Handle) (s : Sight) (y : Handle) (t : Sight) (go : Bool → Row) → is_object s ≡ true → is_nothing t ≡ true → equal_seen x s y t go ≡ go false
object_nothing x s y t go p q = rw (object_something s p, q) refl

nothing_object : (x : Handle) (s : Sight) (y : Handle) (t : Sight) (go : Bool → Row) → is_object t ≡ true → is_nothing s ≡ true → equal_seen x s y t go ≡ go false
nothing_object x s y t go p q = rw (object_something t p, q) refl

-- a value that counts as itself is no truth value
abbrev IsCounted : EsValue → Type 0
IsCounted (es.Bool b) = ⊥
IsCounted x = Unit {0}

is_counted : (x : EsValue) → IsCounted (compared.counted x)
is_counted (es.Bool true) = tt
is_counted (es.Bool false) = tt
is_counted es.Undefined = tt
is_counted es.Null = tt
is_counted (es.Num n) = tt
is_counted (es.Text us) = tt
is_counted (es.Obj o) = tt

-- a number or a text
abbrev IsWritten : EsValue → Type 0
IsWritten (es.Num n) = Unit {0}
IsWritten (es.Text us) = Unit {0}
IsWritten x = ⊥

module _ (h : Objects) (g : es3.Page) (z : List Told) (fs : Native → ℕ) (by : ℕ) where
  -- a value is seen, and what it counts as
  counted_row : (n : ℕ) (x : Handle) (u : EsValue) (vs : List EsValue) → Means fs vs x u → (go : Handle → Sight → Row) (c : es3.Came) → ((y : Handle) (k : ℕ) (ws : List EsValue) → Means fs (vs ++ ws) y (compared.counted u) → es3.does fs by (go y (es3.see h k (compared.counted u)).sight) (vs ++ ws) h g z ≡ c) → es3.does fs by (counted x (es3.see h n u).sight go) (vs ++ (es3.see h n u).values) h g z ≡ c
  counted_row n x es.Undefined vs m go c f = f x n [] (means_more [] m)
  counted_row n x es.Null vs m go c f = f x n [] (means_more [] m)
  counted_row n x (es.Bool true) vs m go c f = f (r.number (pos 1)) n [] (means_number (pos 1))
  counted_row n x (es.Bool false) vs m go c f = f (r.number (pos 0)) n [] (means_number (pos 0))
  counted_row n x (es.Num i) vs m go c f = f x n [] (means_more [] m)
  counted_row n x (es.Text us) vs m go c f = f x n [] (means_more [] m)
  counted_row n x (es.Obj o) vs m go c f =
      let s = es3.see h n (es.Obj o) in
      ap (λ q. es3.does fs by q (vs ++ s.values) h g z) (object_counted x s.sight go (object_seen h n o)) ∙ f x n s.values (means_more s.values m)

  module _ (go : Bool → Row) (c : Bool → es3.Came) (told : (vs : List EsValue) (b : Bool) → es3.does fs by (go b) vs h g z ≡ c b) where
    same_row : (x y : Handle) (a b : EsValue) (vs : List EsValue) → Means fs vs x a → Means fs vs y b → es3.does fs by (r.as_same x y go) vs h g z ≡ c (strictly_equal a b)
    same_row x y a b vs m n = told vs (strictly_equal (es3.value_in fs vs x) (es3.value_in fs vs y)) ∙ ap (λ q. c (strictly_equal q (es3.value_in fs vs y))) (means_now m) ∙ ap (λ q. c (strictly_equal a q)) (means_now n)

    -- 11.9.3, steps 16 and 17
    written_row : (a b : EsValue) → IsWritten a → IsWritten b → (x y : Handle) (vs : List EsValue) → Means fs vs x a → Means fs vs y b → es3.does fs by (equal_primitives x (primitive_sight a) y (primitive_sight b) go) vs h g z ≡ es3.with_result (compared.equal_primitives a b) h g z c
    written_row (es.Num i) (es.Num j) p q x y vs m n = same_row x y (es.Num i) (es.Num j) vs m n
    written_row (es.Num i) (es.Text us) p q x y vs m n = number_row h g z fs by y (es.Text us) vs n (λ b. go (int_eq i b)) (λ b. c (int_eq i b)) (λ b. told vs (int_eq i b)) ∙ then_is h g z (found_number (text_number us)) (λ b. Ok (int_eq i b)) c
    written_row (es.Text us) (es.Num j) p q x y vs m n = number_row h g z fs by x (es.Text us) vs m (λ a. go (int_eq a j)) (λ a. c (int_eq a j)) (λ a. told vs (int_eq a j)) ∙ then_is h g z (found_number (text_number us)) (λ a. Ok (int_eq a j)) c
    written_row (es.Text us) (es.Text ws) p q x y vs m n = same_row x y (es.Text us) (es.Text ws) vs m n
    written_row (es.Num i) _ p q x y vs m n = absurd q
    written_row (es.Text us) _ p q x y vs m n = absurd q
    written_row _ _ p q x y vs m n = absurd p

    -- an object beside a number or a text counts as its text
    left_row : (o : ℕ) (b : EsValue) → IsWritten b → (s : Sight) → is_object s ≡ true → is_nothing (primitive_sight b) ≡ false → is_object (primitive_sight b) ≡ false → (x y : Handle) (vs : List EsValue) → Means fs vs x (es.Obj o) → Means fs vs y b
        → es3.does fs by (equal_seen x s y (primitive_sight b) go) vs h g z ≡ es3.with_result (and_then (primitive_of h (es.Obj o)) (λ p. compared.equal_primitives p b)) h g z c
    left_row o b w s seen some other x y vs m n =
        ap (λ q. es3.does fs by q vs h g z) (left_object x s y (primitive_sight b) go seen some other)
        ∙ text_row h g z fs by x (es.Obj o) vs m (λ us. equal_primitives (r.text us) (r.a_text us) y (primitive_sight b) go) (λ us. es3.with_result (compared.equal_primitives (es.Text us) b) h g z c) (λ us. written_row (es.Text us) b tt w (r.text us) y vs (means_text us) n)
        ∙ then_is h g z (text_of h (es.Obj o)) (λ us. compared.equal_primitives (es.Text us) b) c
        ∙ ap (λ q. es3.with_result q h g z c) (text_then (text_of h (es.Obj o)) (λ p. compared.equal_primitives p b))

    right_row : (a : EsValue) (o : ℕ) → IsWritten a → (t : Sight) → is_object t ≡ true → is_nothing (primitive_sight a) ≡ false → is_object (primitive_sight a) ≡ false → (x y : Handle) (vs : List EsValue) → Means fs vs x a → Means fs vs y (es.Obj o)
        → es3.does fs by (equal_seen x (primitive_sight a) y t go) vs h g z ≡ es3.with_result (and_then (primitive_of h (es.Obj o)) (λ q. compared.equal_primitives a q)) h g z c
    right_row a o w t seen some other x y vs m n =
        ap (λ q. es3.does fs by q vs h g z) (right_object x (primitive_sight a) y t go seen some other)
        ∙ text_row h g z fs by y (es.Obj o) vs n (λ us. equal_primitives x (primitive_sight a) (r.text us) (r.a_text us) go) (λ us. es3.with_result (compared.equal_primitives a (es.Text us)) h g z c) (λ us. written_row a (es.Text us) w tt x (r.text us) vs m (means_text us))
        ∙ then_is h g z (text_of h (es.Obj o)) (λ us. compared.equal_primitives a (es.Text us)) c
        ∙ ap (λ q. es3.with_result q h g z c) (text_then (text_of h (es.Obj o)) (λ q. compared.equal_primitives a q))

    -- 11.9.3 of two values that are no truth values
    values_row : (i k : ℕ) (a b : EsValue) → IsCounted a → IsCounted b → (x y : Handle) (vs : List EsValue) → Means fs vs x a → Means fs vs y b → es3.does fs by (equal_seen x (es3.see h i a).sight y (es3.see h k b).sight go) vs h g z ≡ es3.with_result (equal_values h a b) h g z c
    values_row i k es.Undefined es.Undefined p q x y vs m n = told vs true
    values_row i k es.Undefined es.Null p q x y vs m n = told vs true
    values_row i k es.Undefined (es.Num b) p q x y vs m n = told vs false
    values_row i k es.Undefined (es.Text b) p q x y vs m n = told vs false
    values_row i k es.Undefined (es.Obj b) p q x y vs m n = ap (λ e. es3.does fs by e vs h g z) (nothing_object x r.nothing y (es3.see h k (es.Obj b)).sight go (object_seen h k b) refl) ∙ told vs false
    values_row i k es.Null es.Undefined p q x y vs m n = told vs true
    values_row i k es.Null es.Null p q x y vs m n = told vs true
    values_row i k es.Null (es.Num b) p q x y vs m n = told vs false
    values_row i k es.Null (es.Text b) p q x y vs m n = told vs false
    values_row i k es.Null (es.Obj b) p q x y vs m n = ap (λ e. es3.does fs by e vs h g z) (nothing_object x r.a_null y (es3.see h k (es.Obj b)).sight go (object_seen h k b) refl) ∙ told vs false
    values_row i k (es.Num a) es.Undefined p q x y vs m n = told vs false
    values_row i k (es.Num a) es.Null p q x y vs m n = told vs false
    values_row i k (es.Num a) (es.Num b) p q x y vs m n = written_row (es.Num a) (es.Num b) tt tt x y vs m n
    values_row i k (es.Num a) (es.Text b) p q x y vs m n = written_row (es.Num a) (es.Text b) tt tt x y vs m n
    values_row i k (es.Num a) (es.Obj b) p q x y vs m n = right_row (es.Num a) b tt (es3.see h k (es.Obj b)).sight (object_seen h k b) refl refl x y vs m n
    values_row i k (es.Text a) es.Undefined p q x y vs m n = told vs false
    values_row i k (es.Text a) es.Null p q x y vs m n = told vs false
    values_row i k (es.Text a) (es.Num b) p q x y vs m n = written_row (es.Text a) (es.Num b) tt tt x y vs m n
    values_row i k (es.Text a) (es.Text b) p q x y vs m n = written_row (es.Text a) (es.Text b) tt tt x y vs m n
    values_row i k (es.Text a) (es.Obj b) p q x y vs m n = right_row (es.Text a) b tt (es3.see h k (es.Obj b)).sight (object_seen h k b) refl refl x y vs m n
    values_row i k (es.Obj a) es.Undefined p q x y vs m n = ap (λ e. es3.does fs by e vs h g z) (object_nothing x (es3.see h i (es.Obj a)).sight y r.nothing go (object_seen h i a) refl) ∙ told vs false
    values_row i k (es.Obj a) es.Null p q x y vs m n = ap (λ e. es3.does fs by e vs h g z) (object_nothing x (es3.see h i (es.Obj a)).sight y r.a_null go (object_seen h i a) refl) ∙ told vs false
    values_row i k (es.Obj a) (es.Num b) p q x y vs m n = left_row a (es.Num b) tt (es3.see h i (es.Obj a)).sight (object_seen h i a) refl refl x y vs m n
    values_row i k (es.Obj a) (es.Text b) p q x y vs m n = left_row a (es.Text b) tt (es3.see h i (es.Obj a)).sight (object_seen h i a) refl refl x y vs m n
    values_row i k (es.Obj a) (es.Obj b) p q x y vs m n = ap (λ e. es3.does fs by e vs h g z) (both_objects x (es3.see h i (es.Obj a)).sight y (es3.see h k (es.Obj b)).sight go (object_seen h i a) (object_seen h k b)) ∙ same_row x y (es.Obj a) (es.Obj b) vs m n
    values_row i k (es.Bool a) b p q x y vs m n = absurd p
    values_row i k a (es.Bool b) p q x y vs m n = absurd q

    equal_row : (x y : Handle) (u v : EsValue) (vs : List EsValue) → Means fs vs x u → Means fs vs y v → es3.does fs by (is_equal x y go) vs h g z ≡ es3.with_result (loosely_equal h u v) h g z c
    equal_row x y u v vs m n =
        let goal = es3.with_result (loosely_equal h u v) h g z c in
        looks_row h g z fs by x u vs m (λ s. counted x s (λ p e. r.looks y (λ t. counted y t (λ q d. equal_seen p e q d go))))
        ∙ counted_row (length vs) x u vs m (λ p e. r.looks y (λ t. counted y t (λ q d. equal_seen p e q d go))) goal (λ p i ws mp.
        let e = (es3.see h i (compared.counted u)).sight in
        looks_row h g z fs by y v (vs ++ ws) (means_more ws n) (λ t. counted y t (λ q d. equal_seen p e q d go))
        ∙ counted_row (length (vs ++ ws)) y v (vs ++ ws) (means_more ws n) (λ q d. equal_seen p e q d go) goal (λ q k us mq.
        values_row i k (compared.counted u) (compared.counted v) (is_counted u) (is_counted v) p q ((vs ++ ws) ++ us) (means_more us mp) mq))

module _ (fs : Native → ℕ) (by : ℕ) (x y : EsValue) (h : Objects) (g : es3.Page) (z : List Told) where
  pub equal_comes : Comes (given_truth (loosely_equal h x y)) h g z (es3.does fs by (is_equal (r.held 0) (r.held 1) tells) (x ∷ y ∷ []) h g z)
  equal_comes = truth_given h g z (loosely_equal h x y) _ (equal_row h g z fs by tells (λ b. came (value_reply (es.Bool b)) h g z) (λ vs b. refl) (r.held 0) (r.held 1) x y (x ∷ y ∷ []) (means_first x (y ∷ [])) (means_second x y []))

  pub not_equal_comes : Comes (given_not (loosely_equal h x y)) h g z (es3.does fs by (is_equal (r.held 0) (r.held 1) tells_not) (x ∷ y ∷ []) h g z)
  not_equal_comes = not_given h g z (loosely_equal h x y) _ (equal_row h g z fs by tells_not (λ b. came (value_reply (es.Bool (not b))) h g z) (λ vs b. refl) (r.held 0) (r.held 1) x y (x ∷ y ∷ []) (means_first x (y ∷ [])) (means_second x y []))
