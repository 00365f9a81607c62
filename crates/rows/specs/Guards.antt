-- The guards, over the values that they are called with; one that is absent is undefined. A list of arguments stands for itself: the values behind the others.
use Rattle.std.specs.Prelude.{ℕ, ◌-◌, ℤ, Bool, true, false, ◌||◌, List, [], ◌∷◌, ◌++◌, Option, Some, None, is_some, codes, if◌then◌else◌}
use Rattle.plans.specs.Plans.{number_fault}
use Rattle.caja_num.specs.Numbers.{sum}
use Rattle.caja_units.specs.Units.{same_units}
use Rattle.rows.specs.Rows.{Handle, undefined, truth, number, text, held, Sort, constructor, exophoric, Sight, nothing, a_null, a_truth, a_number, a_text, a_record, an_array, a_function, a_stranger, Ending, answers, throws, faults, calls, lists, makes_array, reads_key, writes_key, drops_key, sets_items, Touch, to_get, to_set, to_delete, to_has, to_keys, to_new, Maker, error, type_error, range_error, an_error, Row, ends, as_text, as_number, looks, touches}
use Rattle.rows.specs.Public.{value_at, item_or_new, pub_get, Change, refused, of_key, of_item, pub_set, pub_delete, pub_has, pub_keys}
use Rattle.rows.specs.Arguments.{value, values_from}

-- where there is an object: the text of a key, at which it is touched
abbrev pub on_object : Touch → Handle → Handle → (Sight → List ℕ → Row) → Sight → Row
on_object t o k go nothing = ends (throws (codes "no object"))
on_object t o k go a_null = ends (throws (codes "no object"))
on_object t o k go s = as_text k (λ us. touches t o (us ∷ []) (go s us))

abbrev pub at_key : Touch → Handle → Handle → (Sight → List ℕ → Row) → Row
at_key t o k go = looks o (on_object t o k go)

-- readPub(o, k)
abbrev pub read_end : Sight → Handle → List ℕ → Ending
read_end (a_record frozen ps) o k = if is_some (value_at k ps) then reads_key o k (pub_get o (a_record frozen ps) k) else answers (pub_get o (a_record frozen ps) k)
read_end s o k = answers (pub_get o s k)

abbrev pub read_pub : ℕ → Row
read_pub n = at_key to_get (value 0 n) (value 1 n) (λ s k. ends (read_end s (value 0 n) k))

-- setPub(o, k, v)
abbrev pub write_end : Change → Sight → Handle → List ℕ → Handle → Ending
write_end (refused message) s o k v = throws message
write_end of_key s o k v = writes_key o k v
write_end (of_item i) (an_array frozen xs) o k v = sets_items o (item_or_new xs i v) v
write_end (of_item i) s o k v = answers v

abbrev pub set_pub : ℕ → Row
set_pub n = at_key to_set (value 0 n) (value 1 n) (λ s k. ends (write_end (pub_set s k) s (value 0 n) k (value 2 n)))

-- deletePub(o, k)
abbrev pub delete_end : Change → Handle → List ℕ → Ending
delete_end (refused message) o k = throws message
delete_end c o k = drops_key o k

abbrev pub delete_pub : ℕ → Row
delete_pub n = at_key to_delete (value 0 n) (value 1 n) (λ s k. ends (delete_end (pub_delete s k) (value 0 n) k))

-- inPub(k, o): here the key's text comes first
abbrev pub has_end : Option Bool → Ending
has_end None = throws (codes "no object")
has_end (Some b) = answers (truth b)

abbrev pub in_pub : Row
in_pub = as_text (held 0) (λ k. looks (held 1) (λ s. touches to_has (held 1) (k ∷ []) (ends (has_end (pub_has s k)))))

-- keysPub(o)
abbrev pub list_end : Option (List (List ℕ)) → Ending
list_end None = throws (codes "no object")
list_end (Some ks) = lists ks

abbrev pub keys_pub : Row
keys_pub = looks (held 0) (λ s. touches to_keys (held 0) [] (ends (list_end (pub_keys s))))

-- callPub(o, k, l); here and below the items of l are the values behind the others, and there are n values in all
abbrev pub call_end : Handle → Handle → List Handle → Sight → Ending
call_end f o args (a_function sort) = calls true f o args
call_end f o args s = throws (codes "not a function")

abbrev pub call_pub : ℕ → Row
call_pub n = at_key to_get (value 0 n) (value 1 n) (λ s k. looks (pub_get (value 0 n) s k) (λ f. ends (call_end (pub_get (value 0 n) s k) (value 0 n) (values_from 2 (n - 2)) f)))

-- asSimpleFunc(f), and the plain call that it allows
abbrev pub simple_end : Handle → Sight → Ending
simple_end f (a_function (exophoric r)) = throws (codes "bad receiver")
simple_end f (a_function sort) = answers f
simple_end f s = throws (codes "not a function")

abbrev pub as_simple_func : Row
as_simple_func = looks (held 0) (λ s. ends (simple_end (held 0) s))

abbrev pub plain_call : ℕ → Row
plain_call n = ends (calls true (held 0) undefined (values_from 1 (n - 1)))

-- construct(f, l): a function is touched
abbrev pub new_row : List Handle → Sight → Row
new_row args (a_function (constructor maker)) = touches to_new (held 0) [] (ends (calls false (held 0) undefined args))
new_row args (a_function sort) = touches to_new (held 0) [] (ends (throws (codes "not a constructor")))
new_row args s = ends (throws (codes "not a constructor"))

abbrev pub construct : ℕ → Row
construct n = looks (held 0) (new_row (values_from 1 (n - 1)))

-- instanceOf(v, f)
abbrev pub maker_name : Maker → List ℕ
maker_name error = codes "Error"
maker_name type_error = codes "TypeError"
maker_name range_error = codes "RangeError"

abbrev pub made_by : Sort → Sight → Bool
made_by (constructor (Some error)) (an_error name message) = true
made_by (constructor (Some maker)) (an_error name message) = same_units name (maker_name maker)
made_by sort s = false

abbrev pub instance_row : Sight → Row
instance_row (a_function sort) = looks (held 0) (λ s. ends (answers (truth (made_by sort s))))
instance_row s = ends (throws (codes "not a function"))

abbrev pub instance_of : Row
instance_of = looks (held 1) instance_row

-- key(v)
abbrev pub key : Row
key = as_text (held 0) (λ us. ends (answers (text us)))

-- args(l), initializeArray(l)
abbrev pub args : ℕ → Row
args n = ends (makes_array true (values_from 0 n))

abbrev pub initialize_array : ℕ → Row
initialize_array n = ends (makes_array false (values_from 0 n))

-- operators, whose operands are the values 0 and 1. `+` joins texts where one of the two is a text or an object
abbrev pub is_textual : Sight → Bool
is_textual nothing = false
is_textual a_null = false
is_textual (a_truth b) = false
is_textual (a_number n) = false
is_textual s = true

abbrev pub number_end : Option ℤ → Ending
number_end None = faults number_fault
number_end (Some n) = answers (number n)

abbrev pub sum_row : Bool → Row
sum_row true = as_text (held 0) (λ a. as_text (held 1) (λ b. ends (answers (text (a ++ b)))))
sum_row false = as_number (held 0) (λ a. as_number (held 1) (λ b. ends (number_end (sum a b))))

abbrev pub plus : Row
plus = looks (held 0) (λ a. looks (held 1) (λ b. sum_row (is_textual a || is_textual b)))

-- typeof
abbrev pub type_name : Sight → List ℕ
type_name nothing = codes "undefined"
type_name (a_truth b) = codes "boolean"
type_name (a_number n) = codes "number"
type_name (a_text us) = codes "string"
type_name (a_function sort) = codes "function"
type_name (a_stranger true) = codes "function"
type_name s = codes "object"

abbrev pub type_of : Row
type_of = looks (held 0) (λ s. ends (answers (text (type_name s))))
