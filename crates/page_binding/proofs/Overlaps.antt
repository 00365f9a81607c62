-- The roots that overlap are found by the first root around each.
use Rattle.std.proofs.Common.{◌≡◌, ℕ, suc, ◌+◌, ◌<◌, ◌≤◌, Bool, true, false, ◌||◌, List, [], ◌∷◌, ◌++◌, length, take, Option, Some, None, refl, sym, ap, ◌∙◌, append_assoc, append-nil, length-append, arith}
use Rattle.std.specs.Prelude.{min, nat_lt, nat_le, map, if◌then◌else◌}
use Rattle.std.specs.List.{list_any}
use Rattle.std.specs.Map.{keys_of}
use Rattle.std.proofs.lemmas.Bool.{lt-ltb, le-ltb, ltb-true, leb-true, le-leb}
use Rattle.std.proofs.lemmas.List.{map-append, take-append-le, take_all, length-map}
use Rattle.std.proofs.lemmas.List.Folds.{list_any-append}
use Rattle.caja_units.specs.Units.{same_units}
use Rattle.es3_tokens.specs.Tokens.{is_one_of}
use Rattle.page_roots.specs.Roots.{Roots}
use Rattle.page_binding.specs.Spots.{Spot, around}
use Rattle.page_binding.specs.Bound.{is_inside, first_overlap}
use Rattle.page_binding.specs.Table.{least_at, overlap_from}
use Rattle.page_binding.proofs.Names.{same_tests, same_both, or_false, or_swap, any_or, any_same, any_swap, one_of-push}
use Rattle.page_binding.proofs.Least.{least, least_below, min_below}
use Rattle.page_binding.proofs.Walked.{all_told}
use Rattle.page_binding.proofs.Found.{least_is}

at_most_less : (a k : ℕ) → nat_le a k ≡ nat_lt a (suc k)
at_most_less a k =
    same_tests (nat_le a k) (nat_lt a (suc k)) (λ h. let e = leb-true a k h in lt-ltb a (suc k) (omega arith)) (λ h. let e = ltb-true a (suc k) h in le-leb a k (omega arith))

keys-append : (a b : Roots) → keys_of (a ++ b) ≡ keys_of a ++ keys_of b
keys-append a b = map-append (λ e. e.0) a b

keys-length : (a : Roots) → length (keys_of a) ≡ length a
keys-length a = length-map a (λ e. e.0)

-- the ids of the first roots
front : (done rest : Roots) → take (length done) (keys_of (done ++ rest)) ≡ keys_of done
front done rest =
    let count : length done ≡ length (keys_of done) = sym (keys-length done) in
    ap (take (length done)) (keys-append done rest)
    ∙ ap (λ n. take n (keys_of done ++ keys_of rest)) count
    ∙ take-append-le (length (keys_of done)) (keys_of done) (keys_of rest) (omega arith)
    ∙ take_all (length (keys_of done)) (keys_of done) (omega arith)

decide : (b c : Bool) (m : ℕ) (x y : Option ℕ) → b ≡ c → (c ≡ false → x ≡ y) → (if b then Some m else x) ≡ (if c then Some m else y)
decide b true m x y e h = ap (λ t. if t then Some m else x) e
decide b false m x y e h = ap (λ t. if t then Some m else x) e ∙ h refl

sorted : (a b : Bool) → ((false || b) || ((a || false) || false)) ≡ (a || b)
sorted a b = ap (λ t. b || t) (or_false (a || false) ∙ or_false a) ∙ or_swap b a

module _ (roots : Roots) (ss : List Spot) (own : (x : List ℕ) → is_one_of x (around ss x) ≡ false) where
  -- one of some ids is around the element with an id
  abbrev Around : List (List ℕ) → List ℕ → Bool
  Around ids e = list_any (λ b. is_one_of b ids) (around ss e)

  -- a number that is below j where one of the first j roots is around one of these
  abbrev IsNearest : ℕ → List (List ℕ) → Type 0
  IsNearest near before = (j : ℕ) → j ≤ length roots → nat_lt near j ≡ list_any (λ e. Around (take j (keys_of roots)) e) before

  nearest-push : (near : ℕ) (before : List (List ℕ)) (x : List ℕ) → IsNearest near before → IsNearest (min near (least roots (around ss x))) (before ++ x ∷ [])
  nearest-push near before x h j le =
      min_below near (least roots (around ss x)) j
      ∙ ap (λ b. b || nat_lt (least roots (around ss x)) j) (h j le)
      ∙ ap (λ b. list_any (λ e. Around (take j (keys_of roots)) e) before || b) (least_below roots (around ss x) j le ∙ sym (or_false (Around (take j (keys_of roots)) x)))
      ∙ sym (list_any-append (λ e. Around (take j (keys_of roots)) e) before (x ∷ []))

  -- with one id more
  around-push : (before : List (List ℕ)) (x e : List ℕ) → Around (before ++ x ∷ []) e ≡ (Around before e || is_inside ss e x)
  around-push before x e =
      any_same (λ b. is_one_of b (before ++ x ∷ [])) (λ b. is_one_of b before || same_units x b) (λ b. one_of-push b x before ∙ ap (λ t. is_one_of b before || t) (same_both b x)) (around ss e)
      ∙ any_or (λ b. is_one_of b before) (λ b. same_units x b) (around ss e)

  -- one of those before x is inside x or around it, where none of them is inside another
  overlapping : (before : List (List ℕ)) (x : List ℕ) → list_any (λ e. Around before e) before ≡ false
      → list_any (λ e. Around (before ++ x ∷ []) e) (before ++ x ∷ []) ≡ list_any (λ e. is_inside ss x e || is_inside ss e x) before
  overlapping before x none =
      let behind : list_any (λ e. Around (before ++ x ∷ []) e) before ≡ (false || list_any (λ e. is_inside ss e x) before) =
      any_same (λ e. Around (before ++ x ∷ []) e) (λ e. Around before e || is_inside ss e x) (around-push before x) before
      ∙ any_or (λ e. Around before e) (λ e. is_inside ss e x) before
      ∙ ap (λ b. b || list_any (λ e. is_inside ss e x) before) none in
      let here : Around (before ++ x ∷ []) x ≡ (list_any (λ e. is_inside ss x e) before || false) =
      around-push before x x ∙ ap (λ b. Around before x || b) (own x) ∙ ap (λ b. b || false) (any_swap (around ss x) before) in
      list_any-append (λ e. Around (before ++ x ∷ []) e) before (x ∷ [])
      ∙ ap (λ b. b || (Around (before ++ x ∷ []) x || false)) behind
      ∙ ap (λ b. (false || list_any (λ e. is_inside ss e x) before) || (b || false)) here
      ∙ sorted (list_any (λ e. is_inside ss x e) before) (list_any (λ e. is_inside ss e x) before)
      ∙ sym (any_or (λ e. is_inside ss x e) (λ e. is_inside ss e x) before)

  abbrev Agree : ℕ → Roots → Roots → Type 0
  Agree near done rest = overlap_from roots (all_told roots ss) near (length done) rest ≡ first_overlap (is_inside ss) (keys_of done) rest

  test_is : (done rest : Roots) (x : List ℕ) (m near : ℕ) → done ++ (x, m) ∷ rest ≡ roots → IsNearest near (keys_of done) → nat_lt near (length done) ≡ false
      → nat_lt (min near (least roots (around ss x))) (suc (length done)) ≡ list_any (λ e. is_inside ss x e || is_inside ss e x) (keys_of done)
  test_is done rest x m near all h far =
      let r : List ℕ × ℕ = (x, m) in
      let more : suc (length done) ≡ length (done ++ r ∷ []) = omega (arith, length-append done (r ∷ [])) in
      let split : (done ++ r ∷ []) ++ rest ≡ roots = append_assoc done (r ∷ []) rest ∙ all in
      let here : take (length done) (keys_of roots) ≡ keys_of done = ap (λ l. take (length done) (keys_of l)) (sym all) ∙ front done (r ∷ rest) in
      let next : take (suc (length done)) (keys_of roots) ≡ keys_of done ++ x ∷ [] =
      ap (λ n. take n (keys_of roots)) more ∙ ap (λ l. take (length (done ++ r ∷ [])) (keys_of l)) (sym split) ∙ front (done ++ r ∷ []) rest ∙ keys-append done (r ∷ []) in
      let count : length roots ≡ length done + suc (length rest) = ap length (sym all) ∙ length-append done (r ∷ rest) in
      let none : list_any (λ e. Around (keys_of done) e) (keys_of done) ≡ false =
      ap (λ l. list_any (λ e. Around l e) (keys_of done)) (sym here) ∙ sym (h (length done) (omega arith)) ∙ far in
      nearest-push near (keys_of done) x h (suc (length done)) (omega arith)
      ∙ ap (λ l. list_any (λ e. Around l e) (keys_of done ++ x ∷ [])) next
      ∙ overlapping (keys_of done) x none

  agree : (rest done : Roots) (near : ℕ) → done ++ rest ≡ roots → IsNearest near (keys_of done) → nat_lt near (length done) ≡ false → Agree near done rest
  agree [] done near all h far = refl
  agree (r ∷ rest) done near all h far =
      let x : List ℕ = r.0 in
      let next : ℕ = min near (least roots (around ss x)) in
      let least_here : min near (least_at roots (all_told roots ss) x) ≡ next = ap (min near) (least_is roots x ss) in
      let test : nat_lt next (suc (length done)) ≡ list_any (λ e. is_inside ss x e || is_inside ss e x) (keys_of done) = test_is done rest x r.1 near all h far in
      let more : suc (length done) ≡ length (done ++ r ∷ []) = omega (arith, length-append done (r ∷ [])) in
      let keys : keys_of (done ++ r ∷ []) ≡ keys_of done ++ x ∷ [] = keys-append done (r ∷ []) in
      let split : (done ++ r ∷ []) ++ rest ≡ roots = append_assoc done (r ∷ []) rest ∙ all in
      ap (λ n. if nat_le n (length done) then Some r.1 else overlap_from roots (all_told roots ss) n (suc (length done)) rest) least_here
      ∙ decide (nat_le next (length done)) (list_any (λ e. is_inside ss x e || is_inside ss e x) (keys_of done)) r.1 (overlap_from roots (all_told roots ss) next (suc (length done)) rest) (first_overlap (is_inside ss) (keys_of done ++ x ∷ []) rest)
      (at_most_less next (length done) ∙ test)
      (λ clear.
      ap (λ n. overlap_from roots (all_told roots ss) next n rest) more
      ∙ agree rest (done ++ r ∷ []) next split
      (λ j le. nearest-push near (keys_of done) x h j le ∙ ap (λ l. list_any (λ e. Around (take j (keys_of roots)) e) l) (sym keys))
      (ap (nat_lt next) (sym more) ∙ test ∙ clear)
      ∙ ap (λ l. first_overlap (is_inside ss) l rest) keys)

  pub overlaps_are : overlap_from roots (all_told roots ss) (length roots) 0 roots ≡ first_overlap (is_inside ss) [] roots
  overlaps_are = agree roots [] (length roots) refl (λ j le. le-ltb (length roots) j le) (le-ltb (length roots) 0 (omega arith))
