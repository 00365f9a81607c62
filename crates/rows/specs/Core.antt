-- The built-ins that are no methods of texts and arrays.
use Rattle.std.specs.Prelude.{ℕ, ◌-◌, ℤ, pos, Bool, true, false, not, List, [], ◌∷◌, Option, Some, None, map, codes, nat_eq, int_lt, unsigned_abs, if◌then◌else◌}
use Rattle.plans.specs.Plans.{number_fault}
use Rattle.rows.specs.Rows.{Handle, null, truth, number, text, held, closure, forwarder, Sight, nothing, a_null, a_truth, a_number, a_text, a_record, an_array, a_function, a_stranger, Maker, Ending, answers, throws, faults, calls, makes_array, copies_record, makes_error, freezes, answers_kept, keeps, says, queues, Row, ends, settles, as_text, as_number, looks}
use Rattle.rows.specs.Public.{pub_keys}
use Rattle.rows.specs.Arguments.{argument, arguments, values_from, as_numbers, text_or}

abbrev pub bad_argument : Ending
bad_argument = throws (codes "bad argument")

-- cajita.freeze(v)
abbrev pub freeze_end : Handle → Sight → Ending
freeze_end x (a_record frozen ps) = freezes x
freeze_end x (an_array frozen xs) = freezes x
freeze_end x s = answers x

abbrev pub freeze : Handle → Row
freeze x = looks x (λ s. ends (freeze_end x s))

-- cajita.isFrozen(v)
abbrev pub seen_frozen : Sight → Bool
seen_frozen (a_record frozen ps) = frozen
seen_frozen (an_array frozen xs) = frozen
seen_frozen (a_stranger callable) = false
seen_frozen s = true

abbrev pub is_frozen : Handle → Row
is_frozen x = looks x (λ s. ends (answers (truth (seen_frozen s))))

-- cajita.copy(v) and cajita.snapshot(v): what is made is frozen or not
abbrev pub copy_end : Bool → Handle → Sight → Ending
copy_end closed x (a_record frozen ps) = copies_record closed x
copy_end closed x (an_array frozen xs) = makes_array closed xs
copy_end closed x s = bad_argument

abbrev pub copy : Bool → Handle → Row
copy closed x = looks x (λ s. ends (copy_end closed x s))

-- cajita.isArray(v), cajita.isRecord(v)
abbrev pub seen_array : Sight → Bool
seen_array (an_array frozen xs) = true
seen_array s = false

abbrev pub is_array : Handle → Row
is_array x = looks x (λ s. ends (answers (truth (seen_array s))))

abbrev pub seen_record : Sight → Bool
seen_record (a_record frozen ps) = true
seen_record s = false

abbrev pub is_record : Handle → Row
is_record x = looks x (λ s. ends (answers (truth (seen_record s))))

-- cajita.keys(v)
abbrev pub keys_end : Option (List (List ℕ)) → Ending
keys_end None = throws (codes "no object")
keys_end (Some ks) = makes_array false (map text ks)

abbrev pub keys : Handle → Row
keys x = looks x (λ s. ends (keys_end (pub_keys s)))

-- Math.abs(n); floor, ceil and round answer the number itself
abbrev pub abs : Handle → Row
abs x = as_number x (λ n. ends (answers (number (pos (unsigned_abs n)))))

abbrev pub its_number : Handle → Row
its_number x = as_number x (λ n. ends (answers (number n)))

-- Math.max(..), Math.min(..)
abbrev pub chosen : (ℤ → ℤ → Bool) → ℤ → List ℤ → ℤ
chosen better n [] = n
chosen better n (m ∷ ns) = chosen better (if better m n then m else n) ns

abbrev pub best_end : (ℤ → ℤ → Bool) → List ℤ → Ending
best_end better [] = faults number_fault
best_end better (n ∷ ns) = answers (number (chosen better n ns))

abbrev pub best : (ℤ → ℤ → Bool) → ℕ → Row
best better n = as_numbers (arguments n) (λ ns. ends (best_end better ns))

abbrev pub max : ℕ → Row
max n = best (λ a b. int_lt b a) n

abbrev pub min : ℕ → Row
min n = best int_lt n

-- Number(v), String(v), Boolean(v)
abbrev pub number_from : ℕ → Row
number_from n = if nat_eq n 1 then ends (answers (number (pos 0))) else its_number (argument 0 n)

abbrev pub text_from : ℕ → Row
text_from n = if nat_eq n 1 then ends (answers (text [])) else as_text (argument 0 n) (λ us. ends (answers (text us)))

abbrev pub seen_true : Sight → Bool
seen_true nothing = false
seen_true a_null = false
seen_true (a_truth b) = b
seen_true (a_number n) = not (nat_eq (unsigned_abs n) 0)
seen_true (a_text []) = false
seen_true s = true

abbrev pub truth_from : Handle → Row
truth_from x = looks x (λ s. ends (answers (truth (seen_true s))))

-- Error(m), TypeError(m), RangeError(m)
abbrev pub new_error : Maker → Handle → Row
new_error maker m = text_or [] m (λ us. ends (makes_error maker us))

-- call(r, ..) and apply(r, l); a function of a text that no guard has seen can be called so too
abbrev pub is_callable : Sight → Bool
is_callable (a_function sort) = true
is_callable (a_stranger callable) = callable
is_callable s = false

abbrev pub call_it : Handle → List Handle → Sight → Ending
call_it r args s = if is_callable s then calls true (held 0) r args else throws (codes "bad receiver")

abbrev pub call : ℕ → Row
call n = looks (held 0) (λ s. ends (call_it (argument 0 n) (values_from 2 (n - 2)) s))

abbrev pub apply_list : Handle → Sight → Ending
apply_list r nothing = calls true (held 0) r []
apply_list r a_null = calls true (held 0) r []
apply_list r (an_array frozen xs) = calls true (held 0) r xs
apply_list r l = bad_argument

abbrev pub apply_to : Handle → Handle → Sight → Row
apply_to r l s = if is_callable s then looks l (λ seen. ends (apply_list r seen)) else ends (throws (codes "bad receiver"))

abbrev pub apply : ℕ → Row
apply n = looks (held 0) (apply_to (argument 0 n) (argument 1 n))

-- a module's own `say` and `later`; here the value 0 is the function itself
abbrev pub say : Handle → Row
say x = as_text x (λ us. settles (says (held 0) us))

abbrev pub later_row : Handle → Sight → Row
later_row x (a_function closure) = settles (queues (held 0) x)
later_row x s = ends bad_argument

abbrev pub later : Handle → Row
later x = looks x (later_row x)

-- a cell's `get` and `set`
abbrev pub get : Row
get = settles (answers_kept (held 0))

abbrev pub set : Handle → Row
set x = settles (keeps (held 0) x)

-- what forwards, until it is revoked
abbrev pub unless_revoked : Row → Sight → Row
unless_revoked go (a_function (forwarder true)) = ends (throws (codes "revoked"))
unless_revoked go s = go

abbrev pub forwarded : Row → Row
forwarded go = looks (held 0) (unless_revoked go)

-- a service of the host gets values that are no objects
abbrev pub plain_seen : Sight → Option Handle
plain_seen a_null = Some null
plain_seen (a_truth b) = Some (truth b)
plain_seen (a_number n) = Some (number n)
plain_seen (a_text us) = Some (text us)
plain_seen s = None

abbrev pub or_bad : Option Handle → (Handle → Row) → Row
or_bad None go = ends bad_argument
or_bad (Some x) go = go x

abbrev pub as_plain : List Handle → (List Handle → Row) → Row
as_plain [] go = go []
as_plain (x ∷ xs) go = looks x (λ s. or_bad (plain_seen s) (λ y. as_plain xs (λ ys. go (y ∷ ys))))

abbrev pub service : (List Handle → Handle) → ℕ → Row
service answer n = as_plain (arguments n) (λ xs. ends (answers (answer xs)))
