-- The first of the granted roots that stand around an element.
use Rattle.std.proofs.Common.{◌≡◌, ℕ, zero, suc, ◌+◌, ◌<◌, ◌≤◌, Bool, true, false, ◌||◌, List, [], ◌∷◌, length, take, cond, Option, Some, None, refl, sym, ap, ◌∙◌, arith}
use Rattle.std.specs.Prelude.{min, nat_lt, is_some}
use Rattle.std.specs.List.{list_any, position_from}
use Rattle.std.specs.Map.{keys_of}
use Rattle.std.specs.Option.{unwrap_or}
use Rattle.std.proofs.lemmas.Bool.{lt-ltb, le-ltb, ltb-true, cases_lt, or_cases, or_left, or_right}
use Rattle.caja_units.specs.Units.{same_units}
use Rattle.es3_tokens.specs.Tokens.{is_one_of}
use Rattle.page_roots.specs.Roots.{Roots, place_of}
use Rattle.page_binding.specs.Table.{number_or_count}
use Rattle.page_binding.proofs.Names.{same_tests, either_way}

abbrev pub least : Roots → List (List ℕ) → ℕ
least roots [] = length roots
least roots (id ∷ path) = min (number_or_count roots id) (least roots path)

past : (t : List ℕ → Bool) (j k d : ℕ) (xs : List (List ℕ)) → j ≤ k → j ≤ d → j ≤ unwrap_or (position_from t k xs) d
past t j k d [] a b = b
past t j k d (x ∷ xs) a b =
    elim (t x) as (λ c. j ≤ unwrap_or (cond c (Some k) (position_from t (k + 1) xs)) d) [
      | true ↦ a
      | false ↦ past t j (k + 1) d xs (omega arith) b
    ]

-- a place is below a number where the test passes before it
below_from : (t : List ℕ → Bool) (rs : Roots) (k j : ℕ) → j ≤ length rs → nat_lt (unwrap_or (position_from t k (keys_of rs)) (k + length rs)) (k + j) ≡ list_any t (take j (keys_of rs))
below_from t rs k zero le =
    le-ltb (unwrap_or (position_from t k (keys_of rs)) (k + length rs)) (k + 0) (let h = past t k k (k + length rs) (keys_of rs) (omega arith) (omega arith) in omega (arith, h))
below_from t [] k (suc j) le = absurd (omega arith)
below_from t (r ∷ rs) k (suc j) le =
    let total : k + suc (length rs) ≡ k + 1 + length rs = omega arith in
    let bound : k + suc j ≡ k + 1 + j = omega arith in
    elim (t r.0) as (λ b. nat_lt (unwrap_or (cond b (Some k) (position_from t (k + 1) (keys_of rs))) (k + suc (length rs))) (k + suc j) ≡ (b || list_any t (take j (keys_of rs)))) [
      | true ↦ lt-ltb k (k + suc j) (omega arith)
      | false ↦
          ap (λ n. nat_lt (unwrap_or (position_from t (k + 1) (keys_of rs)) n) (k + suc j)) total
          ∙ ap (nat_lt (unwrap_or (position_from t (k + 1) (keys_of rs)) (k + 1 + length rs))) bound
          ∙ below_from t rs (k + 1) j (omega arith)
    ]

pub number_below : (roots : Roots) (id : List ℕ) (j : ℕ) → j ≤ length roots → nat_lt (number_or_count roots id) j ≡ is_one_of id (take j (keys_of roots))
number_below roots id j le =
    let total : length roots ≡ 0 + length roots = omega arith in
    let bound : j ≡ 0 + j = omega arith in
    ap (λ n. nat_lt (unwrap_or (place_of roots id) n) j) total
    ∙ ap (nat_lt (unwrap_or (place_of roots id) (0 + length roots))) bound
    ∙ below_from (same_units id) roots 0 j le

pub min_below : (a b j : ℕ) → nat_lt (min a b) j ≡ (nat_lt a j || nat_lt b j)
min_below a b j =
    same_tests (nat_lt (min a b) j) (nat_lt a j || nat_lt b j)
    (λ h. let less = ltb-true (min a b) j h in either_way (cases_lt a j) (λ l. or_left (nat_lt a j) (nat_lt b j) (lt-ltb a j l)) (λ g. or_right (nat_lt a j) (nat_lt b j) (lt-ltb b j (omega arith))))
    (λ h. either_way (or_cases (nat_lt a j) (nat_lt b j) h) (λ l. let e = ltb-true a j l in lt-ltb (min a b) j (omega arith)) (λ l. let e = ltb-true b j l in lt-ltb (min a b) j (omega arith)))

-- the first root around is below a number where one of the roots before it is around
pub least_below : (roots : Roots) (path : List (List ℕ)) (j : ℕ) → j ≤ length roots → nat_lt (least roots path) j ≡ list_any (λ id. is_one_of id (take j (keys_of roots))) path
least_below roots [] j le = le-ltb (length roots) j le
least_below roots (id ∷ path) j le =
    min_below (number_or_count roots id) (least roots path) j
    ∙ ap (λ b. b || nat_lt (least roots path) j) (number_below roots id j le)
    ∙ ap (λ b. is_one_of id (take j (keys_of roots)) || b) (least_below roots path j le)

pub some_from : (t : List ℕ → Bool) (k : ℕ) (xs : List (List ℕ)) → is_some (position_from t k xs) ≡ list_any t xs
some_from t k [] = refl
some_from t k (x ∷ xs) =
    elim (t x) as (λ b. is_some (cond b (Some k) (position_from t (k + 1) xs)) ≡ (b || list_any t xs)) [
      | true ↦ refl
      | false ↦ some_from t (k + 1) xs
    ]

pub is_root : (roots : Roots) (id : List ℕ) → is_some (place_of roots id) ≡ is_one_of id (keys_of roots)
is_root roots id = some_from (same_units id) 0 (keys_of roots)
