-- What a row comes to that converts the values in its hands and goes on with what they give.
use Rattle.std.proofs.Common.{◌≡◌, ℕ, List, [], ◌∷◌, ◌++◌, length, Result, Ok, Err, cond, refl, sym, ap, ◌∙◌}
use Rattle.std.specs.Prelude.{ℤ, Bool, not, Option, Some, None}
use Rattle.std.proofs.lemmas.List.{append-nil, append_assoc}
use Rattle.plans.specs.Plans.{Fault}
use Rattle.es3_objects.specs.declared.value.Value.TheVariants as es
use Rattle.es3_heap.specs.Objects.{Objects}
use Rattle.es3_convert.specs.Conversions.{and_then, text_of, primitive_of, number_or_fault}
use Rattle.es3_convert.specs.Numbers.{number_of}
use Rattle.es3_language.specs.Natives.{value_reply}
use Rattle.es3_language.specs.Operators.{given, given_truth, given_not}
use Rattle.rows.specs.Rows as r
use Rattle.rows.specs.Rows.{Handle, Sight, Row, Native}
use Rattle.rows.specs.Guards.{number_end}
use Rattle.rows.specs.Operators.{primitive_seen, as_primitive}
use Rattle.heap_rows.specs.Doing as es3
use Rattle.heap_rows.specs.Doing.{Told}
use Rattle.row_simulation.specs.OperatorLaw.{came, Comes}
use Rattle.row_simulation.proofs.Relation.{EsValue}
use Rattle.row_simulation.proofs.Operators.Sights.{object_seen, IsPrimitive, primitive_sight}

-- a handle means a value, whatever else is seen later
pub record Means (fs : Native → ℕ) (vs : List EsValue) (x : Handle) (u : EsValue) : Type 0 where
  pub later : (more : List EsValue) → es3.value_in fs (vs ++ more) x ≡ u

pub means_now : {fs : Native → ℕ} {vs : List EsValue} {x : Handle} {u : EsValue} → Means fs vs x u → es3.value_in fs vs x ≡ u
means_now {fs = fs} {vs = vs} {x = x} m = ap (λ l. es3.value_in fs l x) (sym (append-nil vs)) ∙ m.later []

pub means_more : {fs : Native → ℕ} {vs : List EsValue} {x : Handle} {u : EsValue} (ws : List EsValue) → Means fs vs x u → Means fs (vs ++ ws) x u
means_more {fs = fs} {vs = vs} {x = x} ws m = record { later = λ more. ap (λ l. es3.value_in fs l x) (append_assoc vs ws more) ∙ m.later (ws ++ more) }

pub means_number : {fs : Native → ℕ} {vs : List EsValue} (n : ℤ) → Means fs vs (r.number n) (es.Num n)
means_number n = record { later = λ more. refl }

pub means_text : {fs : Native → ℕ} {vs : List EsValue} (us : List ℕ) → Means fs vs (r.text us) (es.Text us)
means_text us = record { later = λ more. refl }

pub means_first : {fs : Native → ℕ} (u : EsValue) (vs : List EsValue) → Means fs (u ∷ vs) (r.held 0) u
means_first u vs = record { later = λ more. refl }

pub means_second : {fs : Native → ℕ} (t u : EsValue) (vs : List EsValue) → Means fs (t ∷ u ∷ vs) (r.held 1) u
means_second t u vs = record { later = λ more. refl }

-- one result after another, and what an operator then gives

pub text_then : {A : Type 0} (a : Result (List ℕ) Fault) (f : EsValue → Result A Fault) → and_then a (λ us. f (es.Text us)) ≡ and_then (and_then a (λ us. Ok (es.Text us))) f
text_then (Ok us) f = refl
text_then (Err e) f = refl

module _ (h : Objects) (g : es3.Page) (z : List Told) where
  pub then_is : {A B : Type 0} (a : Result A Fault) (f : A → Result B Fault) (c : B → es3.Came) → es3.with_result a h g z (λ x. es3.with_result (f x) h g z c) ≡ es3.with_result (and_then a f) h g z c
  then_is (Ok x) f c = refl
  then_is (Err e) f c = refl

  each_is : {A : Type 0} (a : Result A Fault) (c d : A → es3.Came) → ((x : A) → c x ≡ d x) → es3.with_result a h g z c ≡ es3.with_result a h g z d
  each_is (Ok x) c d f = f x
  each_is (Err e) c d f = refl

  pub value_given : (a : Result EsValue Fault) (c : es3.Came) → c ≡ es3.with_result a h g z (λ v. came (value_reply v) h g z) → Comes (given a) h g z c
  value_given (Ok v) c e = e
  value_given (Err f) c e = e

  pub truth_given : (a : Result Bool Fault) (c : es3.Came) → c ≡ es3.with_result a h g z (λ b. came (value_reply (es.Bool b)) h g z) → Comes (given_truth a) h g z c
  truth_given (Ok b) c e = e
  truth_given (Err f) c e = e

  pub not_given : (a : Result Bool Fault) (c : es3.Came) → c ≡ es3.with_result a h g z (λ b. came (value_reply (es.Bool (not b))) h g z) → Comes (given_not a) h g z c
  not_given (Ok b) c e = e
  not_given (Err f) c e = e

  module _ (fs : Native → ℕ) (by : ℕ) where
    -- the text, the number and the primitive value of what a handle means

    pub text_row : (x : Handle) (u : EsValue) (vs : List EsValue) → Means fs vs x u → (go : List ℕ → Row) (c : List ℕ → es3.Came) → ((us : List ℕ) → es3.does fs by (go us) vs h g z ≡ c us) → es3.does fs by (r.as_text x go) vs h g z ≡ es3.with_result (text_of h u) h g z c
    text_row x u vs m go c f = ap (λ e. es3.with_result (text_of h e) h g z (λ us. es3.does fs by (go us) vs h g z)) (means_now m) ∙ each_is (text_of h u) (λ us. es3.does fs by (go us) vs h g z) c f

    pub number_row : (x : Handle) (u : EsValue) (vs : List EsValue) → Means fs vs x u → (go : ℤ → Row) (c : ℤ → es3.Came) → ((n : ℤ) → es3.does fs by (go n) vs h g z ≡ c n) → es3.does fs by (r.as_number x go) vs h g z ≡ es3.with_result (number_of h u) h g z c
    number_row x u vs m go c f = ap (λ e. es3.with_result (number_of h e) h g z (λ n. es3.does fs by (go n) vs h g z)) (means_now m) ∙ each_is (number_of h u) (λ n. es3.does fs by (go n) vs h g z) c f

    -- two numbers, the first one first
    pub numbers_row : {A : Type 0} (x y : Handle) (u v : EsValue) (vs : List EsValue) → Means fs vs x u → Means fs vs y v → (go : ℤ → ℤ → Row) (f : ℤ → ℤ → Result A Fault) (c : A → es3.Came) → ((n k : ℤ) → es3.does fs by (go n k) vs h g z ≡ es3.with_result (f n k) h g z c)
        → es3.does fs by (r.as_number x (λ n. r.as_number y (λ k. go n k))) vs h g z ≡ es3.with_result (and_then (number_of h u) (λ n. and_then (number_of h v) (λ k. f n k))) h g z c
    numbers_row x y u v vs m n go f c each =
        number_row x u vs m (λ i. r.as_number y (λ k. go i k)) (λ i. es3.with_result (and_then (number_of h v) (λ k. f i k)) h g z c)
        (λ i. number_row y v vs n (λ k. go i k) (λ k. es3.with_result (f i k) h g z c) (λ k. each i k) ∙ then_is (number_of h v) (λ k. f i k) c)
        ∙ then_is (number_of h u) (λ i. and_then (number_of h v) (λ k. f i k)) c

    -- the end of what operators give as numbers
    pub number_came : (n : Option ℤ) (vs : List EsValue) → es3.does fs by (r.ends (number_end n)) vs h g z ≡ es3.with_result (number_or_fault n) h g z (λ v. came (value_reply v) h g z)
    number_came None vs = refl
    number_came (Some n) vs = refl

    pub looks_row : (x : Handle) (u : EsValue) (vs : List EsValue) → Means fs vs x u → (go : Sight → Row) → es3.does fs by (r.looks x go) vs h g z ≡ es3.does fs by (go (es3.see h (length vs) u).sight) (vs ++ (es3.see h (length vs) u).values) h g z
    looks_row x u vs m go = ap (λ e. es3.does fs by (go (es3.see h (length vs) e).sight) (vs ++ (es3.see h (length vs) e).values) h g z) (means_now m)

    -- what goes on with a primitive value
    abbrev pub GoesOn : List EsValue → (Handle → Sight → Row) → (EsValue → es3.Came) → Type 0
    GoesOn vs go c = (y : Handle) (w : EsValue) (ws : List EsValue) → IsPrimitive w → Means fs (vs ++ ws) y w → es3.does fs by (go y (primitive_sight w)) (vs ++ ws) h g z ≡ c w

    seen_row : (n : ℕ) (x : Handle) (u : EsValue) (vs : List EsValue) → Means fs vs x u → (go : Handle → Sight → Row) (c : EsValue → es3.Came) → GoesOn vs go c → es3.does fs by (primitive_seen x go (es3.see h n u).sight) (vs ++ (es3.see h n u).values) h g z ≡ es3.with_result (primitive_of h u) h g z c
    seen_row n x es.Undefined vs m go c f = f x es.Undefined [] tt (means_more [] m)
    seen_row n x es.Null vs m go c f = f x es.Null [] tt (means_more [] m)
    seen_row n x (es.Bool b) vs m go c f = f x (es.Bool b) [] tt (means_more [] m)
    seen_row n x (es.Num i) vs m go c f = f x (es.Num i) [] tt (means_more [] m)
    seen_row n x (es.Text us) vs m go c f = f x (es.Text us) [] tt (means_more [] m)
    seen_row n x (es.Obj o) vs m go c f =
        let s = es3.see h n (es.Obj o) in
        ap (λ b. es3.does fs by (cond b (r.as_text x (λ us. go (r.text us) (r.a_text us))) (go x s.sight)) (vs ++ s.values) h g z) (object_seen h n o)
        ∙ text_row x (es.Obj o) (vs ++ s.values) (means_more s.values m) (λ us. go (r.text us) (r.a_text us)) (λ us. c (es.Text us)) (λ us. f (r.text us) (es.Text us) s.values tt (means_text us))
        ∙ then_is (text_of h (es.Obj o)) (λ us. Ok (es.Text us)) c

    pub primitive_row : (x : Handle) (u : EsValue) (vs : List EsValue) → Means fs vs x u → (go : Handle → Sight → Row) (c : EsValue → es3.Came) → GoesOn vs go c → es3.does fs by (as_primitive x go) vs h g z ≡ es3.with_result (primitive_of h u) h g z c
    primitive_row x u vs m go c f = looks_row x u vs m (primitive_seen x go) ∙ seen_row (length vs) x u vs m go c f
