-- The public interface of each kind of value: what one may read, write, delete and list of it, and call.
use Rattle.std.specs.Prelude.{ℕ, zero, suc, ◌+◌, pos, Bool, false, not, ◌&&◌, ◌||◌, List, [], ◌∷◌, Option, Some, None, is_some, length, slice_get, nat_lt, codes, map, if◌then◌else◌}
use Rattle.caja_units.specs.Units.{same_units, is_hidden}
use Rattle.caja_units.specs.Index.{array_index, number_units}
use Rattle.rows.specs.Rows.{Handle, undefined, number, text, method_of, Native, Sight, nothing, a_null, a_truth, a_number, a_text, a_record, an_array, a_function, an_error, a_node}
use Rattle.rows.specs.Names.{method, array_methods, text_methods, function_methods, node_methods}

-- a key that ends in two underscores isn't there; two more are never written
abbrev pub is_bad : List ℕ → Bool
is_bad k = is_hidden k || same_units k (codes "toString") || same_units k (codes "valueOf")

abbrev pub is_length : List ℕ → Bool
is_length k = same_units k (codes "length")

abbrev pub value_at : List ℕ → List (List ℕ × Handle) → Option Handle
value_at k [] = None
value_at k ((j, x) ∷ ps) = if same_units k j then Some x else value_at k ps

abbrev pub item_at : Option ℕ → List Handle → Option Handle
item_at None xs = None
item_at (Some i) xs = slice_get xs i

-- another item in the place of one, or a new last one
abbrev pub item_or_new : List Handle → ℕ → Handle → List Handle
item_or_new [] i v = v ∷ []
item_or_new (x ∷ xs) zero v = v ∷ xs
item_or_new (x ∷ xs) (suc i) v = x ∷ item_or_new xs i v

-- a method of a value, where it has one
abbrev pub of_value : Handle → Option Native → Option Handle
of_value o None = None
of_value o (Some f) = Some (method_of o f)

-- GET: what a key of a value is, where it is something
abbrev pub property : Handle → Sight → List ℕ → Option Handle
property o (a_text us) k = if is_length k then Some (number (pos (length us))) else of_value o (method text_methods k)
property o (a_record frozen ps) k = value_at k ps
property o (an_array frozen xs) k = if is_length k then Some (number (pos (length xs))) else if is_some (item_at (array_index k) xs) then item_at (array_index k) xs else of_value o (method array_methods k)
property o (a_function sort) k = of_value o (method function_methods k)
property o (an_error name message) k = if same_units k (codes "name") then Some (text name) else if same_units k (codes "message") then Some (text message) else None
property o a_node k = of_value o (method node_methods k)
property o s k = None

abbrev pub or_undefined : Option Handle → Handle
or_undefined None = undefined
or_undefined (Some x) = x

abbrev pub pub_get : Handle → Sight → List ℕ → Handle
pub_get o s k = if is_hidden k then undefined else or_undefined (property o s k)

-- SET and DELETE: what becomes of a write or a deletion
pub data Change : Type 0 where
  refused : List ℕ → Change
  -- the key of a record, the item of an array
  of_key : Change
  of_item : ℕ → Change

abbrev pub at_item : Option ℕ → ℕ → Change
at_item None count = refused (codes "not writable")
at_item (Some i) count = if nat_lt count i then refused (codes "not writable") else of_item i

abbrev pub unless : Bool → List ℕ → Change → Change
unless bad message go = if bad then refused message else go

abbrev pub pub_set : Sight → List ℕ → Change
pub_set nothing k = refused (codes "no object")
pub_set a_null k = refused (codes "no object")
pub_set (a_record frozen ps) k = unless (is_bad k) (codes "bad key") (unless frozen (codes "not writable") of_key)
pub_set (an_array frozen xs) k = unless (is_bad k) (codes "bad key") (unless frozen (codes "not writable") (at_item (array_index k) (length xs)))
pub_set s k = unless (is_bad k) (codes "bad key") (refused (codes "not writable"))

abbrev pub pub_delete : Sight → List ℕ → Change
pub_delete nothing k = refused (codes "no object")
pub_delete a_null k = refused (codes "no object")
pub_delete (a_record frozen ps) k = unless (is_bad k) (codes "bad key") (unless frozen (codes "not deletable") of_key)
pub_delete s k = unless (is_bad k) (codes "bad key") (refused (codes "not deletable"))

-- HAS: none where there is no object to look in
abbrev pub has_key : Sight → List ℕ → Option Bool
has_key nothing k = None
has_key a_null k = None
has_key (a_truth b) k = None
has_key (a_number n) k = None
has_key (a_text us) k = None
has_key (a_record frozen ps) k = Some (is_some (value_at k ps))
has_key (an_array frozen xs) k = Some (is_length k || is_some (item_at (array_index k) xs))
has_key (an_error name message) k = Some (same_units k (codes "name") || same_units k (codes "message"))
has_key s k = Some false

abbrev pub visible : List ℕ → Option Bool → Option Bool
visible k None = None
visible k (Some b) = Some (not (is_hidden k) && b)

abbrev pub pub_has : Sight → List ℕ → Option Bool
pub_has s k = visible k (has_key s k)

abbrev pub indices : ℕ → List Handle → List (List ℕ)
indices i [] = []
indices i (x ∷ xs) = number_units i ∷ indices (i + 1) xs

-- KEYS: none where there is no object to look in
abbrev pub pub_keys : Sight → Option (List (List ℕ))
pub_keys nothing = None
pub_keys a_null = None
pub_keys (a_record frozen ps) = Some (map (λ p. p.0) ps)
pub_keys (an_array frozen xs) = Some (indices 0 xs)
pub_keys s = Some []
