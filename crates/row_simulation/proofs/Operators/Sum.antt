-- The operator `+` of ES3 is the row of `+` among objects: the same sum, or the same fault.
use Rattle.std.proofs.Common.{◌≡◌, ℕ, Bool, true, false, List, ◌∷◌, ◌++◌, Option, Some, None, Result, Ok, Err, refl, sym, ap, ◌∙◌}
use Rattle.std.specs.Prelude.{ℤ, ◌||◌}
use Rattle.plans.specs.Plans.{Fault}
use Rattle.caja_num.specs.Numbers.{sum}
use Rattle.es3_objects.specs.declared.value.Value.TheVariants as es
use Rattle.es3_heap.specs.Objects.{Objects}
use Rattle.es3_convert.specs.Conversions.{and_then, text_within, text_of, primitive_of, primitive_text, plain_number, number_or_fault, sum_of_numbers, sum_of_primitives, sum_of}
use Rattle.es3_convert.specs.Numbers.{number_of, found_number}
use Rattle.es3_tree.specs.declared.BinOp.TheVariants.{Add}
use Rattle.es3_language.specs.Natives.{Reply, value_reply, stop_reply}
use Rattle.es3_language.specs.Operators.{given}
use Rattle.rows.specs.Rows as r
use Rattle.rows.specs.Rows.{Native}
use Rattle.rows.specs.Guards.{is_textual, number_end, sum_row}
use Rattle.heap_rows.specs.Doing as es3
use Rattle.heap_rows.specs.Doing.{Told}
use Rattle.row_simulation.specs.OperatorLaw.{came, Comes, BinaryLaw}
use Rattle.row_simulation.proofs.Relation.{EsValue}
use Rattle.row_simulation.proofs.Operators.Sights.{object_textual}

abbrev reply_of : Result EsValue Fault → Reply
reply_of (Ok v) = value_reply v
reply_of (Err f) = stop_reply f

-- a value's primitive, where this is its text: an object's is the text, another value's is itself

abbrev primitive_by : EsValue → List ℕ → EsValue
primitive_by (es.Obj o) us = es.Text us
primitive_by x us = x

module _ (h : Objects) where
  primitive_is : (x : EsValue) → primitive_of h x ≡ and_then (text_of h x) (λ us. Ok (primitive_by x us))
  unfolding text_within
  primitive_is es.Undefined = refl
  primitive_is es.Null = refl
  primitive_is (es.Bool b) = refl
  primitive_is (es.Num n) = refl
  primitive_is (es.Text us) = refl
  primitive_is (es.Obj o) = refl

  primitive_has : (x : EsValue) (us : List ℕ) → text_of h x ≡ Ok us → primitive_text (primitive_by x us) ≡ us
  unfolding text_within
  primitive_has es.Undefined us e = cc
  primitive_has es.Null us e = cc
  primitive_has (es.Bool b) us e = cc
  primitive_has (es.Num n) us e = cc
  primitive_has (es.Text ws) us e = cc
  primitive_has (es.Obj o) us e = refl

  textual_has : (n : ℕ) (x : EsValue) (us : List ℕ) → is_textual (es3.see h n x).sight ≡ true → text_of h x ≡ Ok us → primitive_by x us ≡ es.Text us
  unfolding text_within
  textual_has n es.Undefined us t e = cc
  textual_has n es.Null us t e = cc
  textual_has n (es.Bool b) us t e = cc
  textual_has n (es.Num k) us t e = cc
  textual_has n (es.Text ws) us t e = cc
  textual_has n (es.Obj o) us t e = refl

  -- the values that have no text to join
  by_plain : (P : EsValue → Type 0) → P es.Undefined → P es.Null → ((b : Bool) → P (es.Bool b)) → ((n : ℤ) → P (es.Num n)) → (n : ℕ) (x : EsValue) → is_textual (es3.see h n x).sight ≡ false → P x
  by_plain P a b c d n es.Undefined e = a
  by_plain P a b c d n es.Null e = b
  by_plain P a b c d n (es.Bool k) e = c k
  by_plain P a b c d n (es.Num k) e = d k
  by_plain P a b c d n (es.Text us) e = cc
  by_plain P a b c d n (es.Obj o) e = let t = object_textual h n o in cc

-- texts are joined

join_right : (p : EsValue) (b : List ℕ) → sum_of_primitives p (es.Text b) ≡ Ok (es.Text (primitive_text p ++ b))
join_right es.Undefined b = refl
join_right es.Null b = refl
join_right (es.Bool k) b = refl
join_right (es.Num n) b = refl
join_right (es.Text a) b = refl
join_right (es.Obj o) b = refl

module _ (h : Objects) (g : es3.Page) (z : List Told) where
  -- what a sum comes to
  abbrev sum_came : Result EsValue Fault → es3.Came
  sum_came a = came (reply_of a) h g z

  both_texts : (a b : Result (List ℕ) Fault) (p q : List ℕ → EsValue) → ((us vs : List ℕ) → a ≡ Ok us → b ≡ Ok vs → sum_of_primitives (p us) (q vs) ≡ Ok (es.Text (us ++ vs)))
      → es3.with_result a h g z (λ us. es3.with_result b h g z (λ vs. sum_came (Ok (es.Text (us ++ vs))))) ≡ sum_came (and_then (and_then a (λ us. Ok (p us))) (λ x. and_then (and_then b (λ vs. Ok (q vs))) (λ y. sum_of_primitives x y)))
  both_texts (Err f) b p q join = refl
  both_texts (Ok us) (Err f) p q join = refl
  both_texts (Ok us) (Ok vs) p q join = ap sum_came (sym (join us vs refl refl))

  plain_sum : (n m : ℕ) (x y : EsValue) → is_textual (es3.see h n x).sight ≡ false → is_textual (es3.see h m y).sight ≡ false → number_or_fault (sum_of_numbers (plain_number x) (plain_number y)) ≡ sum_of h x y
  plain_sum n m x y s t = by_plain h (λ x. number_or_fault (sum_of_numbers (plain_number x) (plain_number y)) ≡ sum_of h x y)
      (by_plain h (λ y. number_or_fault (sum_of_numbers (plain_number es.Undefined) (plain_number y)) ≡ sum_of h es.Undefined y) refl refl (λ b. refl) (λ k. refl) m y t)
      (by_plain h (λ y. number_or_fault (sum_of_numbers (plain_number es.Null) (plain_number y)) ≡ sum_of h es.Null y) refl refl (λ b. refl) (λ k. refl) m y t)
      (λ a. by_plain h (λ y. number_or_fault (sum_of_numbers (plain_number (es.Bool a)) (plain_number y)) ≡ sum_of h (es.Bool a) y) refl refl (λ b. refl) (λ k. refl) m y t)
      (λ a. by_plain h (λ y. number_or_fault (sum_of_numbers (plain_number (es.Num a)) (plain_number y)) ≡ sum_of h (es.Num a) y) refl refl (λ b. refl) (λ k. refl) m y t)
      n x s

  module _ (fs : Native → ℕ) (by : ℕ) where
    -- the end of a sum of numbers
    number_came : (n : Option ℤ) (vs : List EsValue) → es3.does fs by (r.ends (number_end n)) vs h g z ≡ sum_came (number_or_fault n)
    number_came None vs = refl
    number_came (Some n) vs = refl

    both_numbers : (a b : Option ℤ) (vs : List EsValue) → es3.with_result (found_number a) h g z (λ n. es3.with_result (found_number b) h g z (λ m. es3.does fs by (r.ends (number_end (sum n m))) vs h g z)) ≡ sum_came (number_or_fault (sum_of_numbers a b))
    both_numbers None b vs = refl
    both_numbers (Some n) None vs = refl
    both_numbers (Some n) (Some m) vs = number_came (sum n m) vs

    texts_sum : (n m : ℕ) (x y : EsValue) (rest : List EsValue) → (is_textual (es3.see h n x).sight || is_textual (es3.see h m y).sight) ≡ true → es3.does fs by (sum_row true) (x ∷ y ∷ rest) h g z ≡ sum_came (sum_of h x y)
    texts_sum n m x y rest t =
        both_texts (text_of h x) (text_of h y) (primitive_by x) (primitive_by y) (join (is_textual (es3.see h n x).sight) refl)
        ∙ ap (λ p. sum_came (and_then p (λ a. and_then (and_then (text_of h y) (λ vs. Ok (primitive_by y vs))) (λ b. sum_of_primitives a b)))) (sym (primitive_is h x))
        ∙ ap (λ q. sum_came (and_then (primitive_of h x) (λ a. and_then q (λ b. sum_of_primitives a b)))) (sym (primitive_is h y))
      where
        join : (k : Bool) → is_textual (es3.see h n x).sight ≡ k → (us vs : List ℕ) → text_of h x ≡ Ok us → text_of h y ≡ Ok vs → sum_of_primitives (primitive_by x us) (primitive_by y vs) ≡ Ok (es.Text (us ++ vs))
        join true e us vs p q = ap (λ a. sum_of_primitives a (primitive_by y vs)) (textual_has h n x us e p) ∙ ap (λ ws. let a : Result EsValue Fault = Ok (es.Text (us ++ ws)) in a) (primitive_has h y vs q)
        join false e us vs p q =
            let second : is_textual (es3.see h m y).sight ≡ true = sym (ap (λ b. b || is_textual (es3.see h m y).sight) e) ∙ t in
            ap (λ b. sum_of_primitives (primitive_by x us) b) (textual_has h m y vs second q) ∙ join_right (primitive_by x us) vs ∙ ap (λ ws. let a : Result EsValue Fault = Ok (es.Text (ws ++ vs)) in a) (primitive_has h x us p)

    numbers_sum : (n m : ℕ) (x y : EsValue) (rest : List EsValue) → is_textual (es3.see h n x).sight ≡ false → is_textual (es3.see h m y).sight ≡ false → es3.does fs by (sum_row false) (x ∷ y ∷ rest) h g z ≡ sum_came (sum_of h x y)
    numbers_sum n m x y rest s t =
        let p = by_plain h (λ x. number_of h x ≡ found_number (plain_number x)) refl refl (λ b. refl) (λ n. refl) n x s in
        let q = by_plain h (λ y. number_of h y ≡ found_number (plain_number y)) refl refl (λ b. refl) (λ n. refl) m y t in
        ap (λ a. es3.with_result a h g z (λ i. es3.with_result (number_of h y) h g z (λ j. es3.does fs by (r.ends (number_end (sum i j))) (x ∷ y ∷ rest) h g z))) p
        ∙ ap (λ b. es3.with_result (found_number (plain_number x)) h g z (λ i. es3.with_result b h g z (λ j. es3.does fs by (r.ends (number_end (sum i j))) (x ∷ y ∷ rest) h g z))) q
        ∙ both_numbers (plain_number x) (plain_number y) (x ∷ y ∷ rest)
        ∙ ap sum_came (plain_sum n m x y s t)

    sum_by : (n m : ℕ) (x y : EsValue) (rest : List EsValue) → es3.does fs by (sum_row (is_textual (es3.see h n x).sight || is_textual (es3.see h m y).sight)) (x ∷ y ∷ rest) h g z ≡ sum_came (sum_of h x y)
    sum_by n m x y rest = by_sights (is_textual (es3.see h n x).sight) (is_textual (es3.see h m y).sight) refl refl
      where
        by_sights : (a b : Bool) → is_textual (es3.see h n x).sight ≡ a → is_textual (es3.see h m y).sight ≡ b → es3.does fs by (sum_row (a || b)) (x ∷ y ∷ rest) h g z ≡ sum_came (sum_of h x y)
        by_sights true b p q = texts_sum n m x y rest (ap (λ k. k || is_textual (es3.see h m y).sight) p)
        by_sights false true p q = texts_sum n m x y rest (ap (λ k. k || is_textual (es3.see h m y).sight) p ∙ q)
        by_sights false false p q = numbers_sum n m x y rest p q

reply_given : (a : Result EsValue Fault) (h : Objects) (g : es3.Page) (z : List Told) (c : es3.Came) → c ≡ came (reply_of a) h g z → Comes (given a) h g z c
reply_given (Ok v) h g z c e = e
reply_given (Err f) h g z c e = e

pub sum_comes : BinaryLaw Add
sum_comes fs by x y h g z = reply_given (sum_of h x y) h g z _ (sum_by h g z fs by 2 _ x y _)
