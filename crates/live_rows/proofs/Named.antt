-- A row names built-in functions that stand among the objects: any row where all of them do, and the common ones where a page has begun.
use Rattle.std.proofs.Common.{◌≡◌, ℕ, ◌+◌, ◌<◌, ◌≤◌, true, List, [], ◌∷◌, length, refl, arith}
use Rattle.std.specs.Prelude.{nat_lt}
use Rattle.std.proofs.lemmas.Bool.Decides.{nat_tests}
use Rattle.std.proofs.lemmas.List.Elements.{All-nil, All-cons}
use Rattle.es3_heap.specs.Objects.{Objects}
use Rattle.rows.specs.Rows as r
use Rattle.rows.specs.Rows.{Native, Handle, Ending, Settling, Row}
use Rattle.heap_rows.specs.Natives.{is_common}
use Rattle.heap_rows.specs.Opening.{first_count, place_of, built_ins_there}
use Rattle.live_rows.specs.Named.{HandleNames, HandlesName, EndNames, SettlingNames, RowNames}
use Rattle.live_rows.specs.Live.{IsThere}

-- any row, where any may be named

module _ (P : Native → Type 0) (any : (f : Native) → P f) where
  handle_any : (x : Handle) → HandleNames P x
  handle_any (r.method_of x f) = any f
  handle_any x = tt

  handles_any : (xs : List Handle) → HandlesName P xs
  handles_any [] = All-nil (HandleNames P)
  handles_any (x ∷ xs) = All-cons (HandleNames P) x xs (handle_any x) (handles_any xs)

  end_any : (e : Ending) → EndNames P e
  end_any (r.answers x) = handle_any x
  end_any (r.calls recorded f t xs) = (handle_any f, handle_any t, handles_any xs)
  end_any (r.makes_array frozen xs) = handles_any xs
  end_any (r.reads_key o k x) = handle_any x
  end_any (r.writes_key o k x) = handle_any x
  end_any (r.sets_items o xs x) = (handles_any xs, handle_any x)
  end_any (r.freezes o) = handle_any o
  end_any e = tt

  settling_any : (e : Settling) → SettlingNames P e
  settling_any (r.keeps x z) = handle_any z
  settling_any (r.queues x f) = handle_any f
  settling_any (r.changes_node x c z) = handle_any z
  settling_any (r.listens x us f) = handle_any f
  settling_any e = tt

  row_any : (q : Row) → RowNames P q
  row_any (r.ends e) = end_any e
  row_any (r.settles e) = settling_any e
  row_any (r.as_text x go) = λ us. row_any (go us)
  row_any (r.as_number x go) = λ n. row_any (go n)
  row_any (r.as_joined x sep go) = λ us. row_any (go us)
  row_any (r.as_same x z go) = λ b. row_any (go b)
  row_any (r.looks x go) = (handle_any x, λ s seen. row_any (go s))
  row_any (r.as_same_root x z go) = λ b. row_any (go b)
  row_any (r.branches x go other) = (handle_any x, λ b seen. row_any (go b), row_any other)
  row_any (r.touches t x k next) = row_any next

pub names_what_is_there : (fs : Native → ℕ) (h : Objects) (q : Row) → ((f : Native) → IsThere fs h f) → RowNames (IsThere fs h) q
names_what_is_there fs h q there = row_any (IsThere fs h) there q

-- the common ones

common_below : (f : Native) → is_common f ≡ true → nat_lt (place_of f) (first_count + 52) ≡ true
common_below (r.service k) common = cc
common_below r.say common = cc
common_below r.later common = cc
common_below r.get common = cc
common_below r.set common = cc
common_below r.forward_get common = cc
common_below r.forward_set common = cc
common_below (r.makes r.error) common = refl
common_below (r.makes r.type_error) common = refl
common_below (r.makes r.range_error) common = refl
common_below f common = refl

below : (a m n : ℕ) → nat_lt a m ≡ true → m ≤ n → a < n
below a m n less many = grind (arith, nat_tests)

pub common_there : (h : Objects) (f : Native) → built_ins_there h → is_common f ≡ true → IsThere place_of h f
common_there h f there common = below (place_of f) (first_count + 52) (length h.list) (common_below f common) there
