-- The built-in functions by their names, and what kind of function each is.
use Rattle.std.specs.Prelude.{ℕ, Bool, true, false, List, [], ◌∷◌, Option, Some, None, codes, if◌then◌else◌}
use Rattle.caja_units.specs.Units.{same_units}
use Rattle.rows.specs.Rows as r
use Rattle.rows.specs.Rows.{Native, Sort, simple, constructor, exophoric, of_function, of_text, of_array, of_open_array, of_node}

-- the function of a name
abbrev pub method : List (List ℕ × Native) → List ℕ → Option Native
method [] k = None
method ((name, f) ∷ rest) k = if same_units k name then Some f else method rest k

abbrev pub function_methods : List (List ℕ × Native)
function_methods = (codes "call", r.call) ∷ (codes "apply", r.apply) ∷ []

abbrev pub text_methods : List (List ℕ × Native)
text_methods = (codes "charAt", r.char_at) ∷ (codes "charCodeAt", r.char_code_at) ∷ (codes "indexOf", r.index_of) ∷ (codes "lastIndexOf", r.last_index_of) ∷ (codes "slice", r.slice_text) ∷ (codes "substring", r.substring) ∷ (codes "split", r.split) ∷ (codes "concat", r.concat_text) ∷ []

abbrev pub array_methods : List (List ℕ × Native)
array_methods = (codes "concat", r.concat) ∷ (codes "join", r.join) ∷ (codes "slice", r.slice) ∷ (codes "push", r.push) ∷ (codes "unshift", r.unshift) ∷ (codes "pop", r.pop) ∷ (codes "shift", r.shift) ∷ (codes "reverse", r.turn) ∷ []

abbrev pub node_methods : List (List ℕ × Native)
node_methods = (codes "getTagName", r.get_tag_name) ∷ (codes "getParentNode", r.get_parent_node) ∷ (codes "getChildNodes", r.get_child_nodes) ∷ (codes "getElementById", r.get_element_by_id) ∷ (codes "getAttribute", r.get_attribute) ∷ (codes "setAttribute", r.set_attribute) ∷ (codes "getText", r.get_text) ∷ (codes "setText", r.set_text) ∷ (codes "createElement", r.create_element) ∷ (codes "createTextNode", r.create_text_node) ∷ (codes "appendChild", r.append_child) ∷ (codes "removeChild", r.remove_child) ∷ (codes "on", r.on) ∷ []

-- the two records of functions that a page begins with
pub data Tools : Type 0 where
  of_cajita of_math : Tools

abbrev pub tools : Tools → List (List ℕ × Native)
tools of_cajita = (codes "freeze", r.freeze) ∷ (codes "isFrozen", r.is_frozen) ∷ (codes "copy", r.copy) ∷ (codes "snapshot", r.snapshot) ∷ (codes "isArray", r.is_array) ∷ (codes "isRecord", r.is_record) ∷ (codes "keys", r.keys) ∷ []
tools of_math = (codes "abs", r.abs) ∷ (codes "floor", r.floor) ∷ (codes "ceil", r.ceil) ∷ (codes "round", r.round) ∷ (codes "max", r.max) ∷ (codes "min", r.min) ∷ []

-- a method wants a receiver of its kind
abbrev pub sort_of : Native → Sort
sort_of (r.makes m) = constructor (Some m)
sort_of r.call = exophoric of_function
sort_of r.apply = exophoric of_function
sort_of r.char_at = exophoric of_text
sort_of r.char_code_at = exophoric of_text
sort_of r.index_of = exophoric of_text
sort_of r.last_index_of = exophoric of_text
sort_of r.slice_text = exophoric of_text
sort_of r.substring = exophoric of_text
sort_of r.split = exophoric of_text
sort_of r.concat_text = exophoric of_text
sort_of r.concat = exophoric of_array
sort_of r.join = exophoric of_array
sort_of r.slice = exophoric of_array
sort_of r.push = exophoric of_open_array
sort_of r.unshift = exophoric of_open_array
sort_of r.pop = exophoric of_open_array
sort_of r.shift = exophoric of_open_array
sort_of r.turn = exophoric of_open_array
sort_of r.get_tag_name = exophoric of_node
sort_of r.get_parent_node = exophoric of_node
sort_of r.get_child_nodes = exophoric of_node
sort_of r.get_element_by_id = exophoric of_node
sort_of r.get_attribute = exophoric of_node
sort_of r.set_attribute = exophoric of_node
sort_of r.get_text = exophoric of_node
sort_of r.set_text = exophoric of_node
sort_of r.create_element = exophoric of_node
sort_of r.create_text_node = exophoric of_node
sort_of r.append_child = exophoric of_node
sort_of r.remove_child = exophoric of_node
sort_of r.on = exophoric of_node
sort_of f = simple

abbrev pub is_exophoric : Sort → Bool
is_exophoric (exophoric wanted) = true
is_exophoric s = false

-- everybody has the methods of texts
abbrev pub is_of_text : Native → Bool
is_of_text f = of_texts (sort_of f)
  where
    of_texts : Sort → Bool
    of_texts (exophoric of_text) = true
    of_texts s = false

-- a number for each function, by which two of them are compared
abbrev pub code_of : Native → List ℕ
code_of r.freeze = 2 ∷ []
code_of r.is_frozen = 3 ∷ []
code_of r.copy = 4 ∷ []
code_of r.snapshot = 5 ∷ []
code_of r.is_array = 6 ∷ []
code_of r.is_record = 7 ∷ []
code_of r.keys = 8 ∷ []
code_of r.abs = 9 ∷ []
code_of r.floor = 10 ∷ []
code_of r.ceil = 11 ∷ []
code_of r.round = 12 ∷ []
code_of r.max = 13 ∷ []
code_of r.min = 14 ∷ []
code_of r.number_from = 15 ∷ []
code_of r.text_from = 16 ∷ []
code_of r.truth_from = 17 ∷ []
code_of (r.makes r.error) = 18 ∷ []
code_of (r.makes r.type_error) = 19 ∷ []
code_of (r.makes r.range_error) = 20 ∷ []
code_of r.call = 21 ∷ []
code_of r.apply = 22 ∷ []
code_of r.char_at = 23 ∷ []
code_of r.char_code_at = 24 ∷ []
code_of r.index_of = 25 ∷ []
code_of r.last_index_of = 26 ∷ []
code_of r.slice_text = 27 ∷ []
code_of r.substring = 28 ∷ []
code_of r.split = 29 ∷ []
code_of r.concat_text = 30 ∷ []
code_of r.concat = 31 ∷ []
code_of r.join = 32 ∷ []
code_of r.slice = 33 ∷ []
code_of r.push = 34 ∷ []
code_of r.unshift = 35 ∷ []
code_of r.pop = 36 ∷ []
code_of r.shift = 37 ∷ []
code_of r.turn = 38 ∷ []
code_of r.get_tag_name = 39 ∷ []
code_of r.get_parent_node = 40 ∷ []
code_of r.get_child_nodes = 41 ∷ []
code_of r.get_element_by_id = 42 ∷ []
code_of r.get_attribute = 43 ∷ []
code_of r.set_attribute = 44 ∷ []
code_of r.get_text = 45 ∷ []
code_of r.set_text = 46 ∷ []
code_of r.create_element = 47 ∷ []
code_of r.create_text_node = 48 ∷ []
code_of r.append_child = 49 ∷ []
code_of r.remove_child = 50 ∷ []
code_of r.on = 51 ∷ []
code_of r.say = 52 ∷ []
code_of r.later = 53 ∷ []
code_of r.get = 54 ∷ []
code_of r.set = 55 ∷ []
code_of r.forward_get = 56 ∷ []
code_of r.forward_set = 57 ∷ []
code_of (r.service k) = 58 ∷ k ∷ []
