-- The log of a page: a line for each item, and how objects, values and the ends of turns are written in it.
use Rattle.std.specs.Prelude.{ℕ, List, [], ◌∷◌, ◌++◌, map, get_or, codes, if◌then◌else◌}
use Rattle.caja_units.specs.Index.{number_units}
use Rattle.caja_units.specs.Number.{number_text}
use Rattle.caja_units.specs.Literal.{literal}
use Rattle.caja_units.specs.Utf8.{utf8_of}
use Rattle.page_deeds.specs.Deeds.{Label, of_load, of_call, of_tick, of_click, of_input}
use Rattle.page_deeds.specs.Shown.{Shown, undefined, null, truth, number, text, thing, error, Sort, a_record, an_array, a_function, a_node, Ended, by_return, by_throw, by_nothing}
use Rattle.es3_objects.specs.declared.value.Tag.{Tag}
use Rattle.es3_objects.specs.declared.value.Tag.TheVariants as tag
use Rattle.rows.specs.Rows.{Touch, to_get, to_set, to_delete, to_has, to_keys, to_new, to_call}
use Rattle.rows.specs.Names.{of_cajita, of_math}
use Rattle.rows.specs.Paths.{tools_path, path_of}
use Rattle.rows.specs.Document.{Change, sets_attribute, sets_text, appends, removes}
use Rattle.heap_rows.specs.Doing.{Told, touched, said, changed_node, ended}
use Rattle.heap_rows.specs.Opening.{common}

-- the names of a page's modules, of its cells and of its roots, by their numbers
pub record Names : Type 0 where
  pub modules : List (List ℕ)
  pub cells : List (List ℕ)
  pub roots : List (List ℕ)

abbrev pub name_in : List (List ℕ) → ℕ → List ℕ
name_in names n = utf8_of (get_or names n (codes "?"))

-- the name of a built-in: `!` and its path; `?` where it has none
abbrev pub path_shown : List ℕ → List ℕ
path_shown [] = codes "?"
path_shown path = codes "!" ++ path

-- the names of the built-ins in the order of their numbers: the two records of functions, then the functions
abbrev pub built_names : List (List ℕ)
built_names = map path_shown (tools_path of_cajita ∷ tools_path of_math ∷ map path_of common)

-- what stands behind the name of a module, for its own functions, and behind that of a cell, for its record and its functions
abbrev pub own_ends : List (List ℕ)
own_ends = codes "!say" ∷ codes "!later" ∷ []

abbrev pub cell_ends : List (List ℕ)
cell_ends = [] ∷ codes ".get" ∷ codes ".set" ∷ []

-- the name of an object: its maker and its number there; that of a built-in, of a module's own function, of a cell, of a node; `?` where it has none
abbrev pub object_name : Names → Tag → List ℕ
object_name names (tag.Made m n) = name_in names.modules m ++ codes "#" ++ number_units n
object_name names (tag.Built n) = get_or built_names n (codes "?")
object_name names (tag.Own m n) = name_in names.modules m ++ get_or own_ends n (codes "?")
object_name names (tag.Cell c n) = codes "cell:" ++ name_in names.cells c ++ get_or cell_ends n (codes "?")
object_name names (tag.Facet root n) = codes "node:" ++ name_in names.roots root ++ codes "/" ++ number_units n
object_name names g = codes "?"

abbrev pub sort_text : Sort → List ℕ
sort_text a_record = codes "record "
sort_text an_array = codes "array "
sort_text a_function = codes "function "
sort_text a_node = codes "node "

-- a value; behind the name of an error stand its own name, and its message as a literal
abbrev pub shown_text : Names → Shown Tag → List ℕ
shown_text names undefined = codes "undefined"
shown_text names null = codes "null"
shown_text names (truth b) = if b then codes "true" else codes "false"
shown_text names (number n) = number_text n
shown_text names (text us) = literal us
shown_text names (thing s g) = sort_text s ++ object_name names g
shown_text names (error g name message) = codes "error " ++ object_name names g ++ codes " " ++ utf8_of name ++ codes " " ++ literal message

abbrev pub line_end : List ℕ
line_end = 10 ∷ []

-- `load M`, `event K call M KEY`, `event K tick M`, `event K click ID`, `event K input ID`
abbrev pub label_text : Names → Label → List ℕ
label_text names (of_load m) = codes "load " ++ name_in names.modules m
label_text names (of_call k m key) = codes "event " ++ number_units k ++ codes " call " ++ name_in names.modules m ++ codes " " ++ literal key
label_text names (of_tick k m) = codes "event " ++ number_units k ++ codes " tick " ++ name_in names.modules m
label_text names (of_click k id root) = codes "event " ++ number_units k ++ codes " click " ++ utf8_of id
label_text names (of_input k id root) = codes "event " ++ number_units k ++ codes " input " ++ utf8_of id

-- ` return V`, ` throw V`, ` none`
abbrev pub end_text : Names → Ended Tag → List ℕ
end_text names (by_return v) = codes " return " ++ shown_text names v
end_text names (by_throw v) = codes " throw " ++ shown_text names v
end_text names by_nothing = codes " none"

abbrev pub touch_text : Touch → List ℕ
touch_text to_get = codes " get "
touch_text to_set = codes " set "
touch_text to_delete = codes " delete "
touch_text to_has = codes " has "
touch_text to_keys = codes " keys "
touch_text to_new = codes " new "
touch_text to_call = codes " call "

-- a key, where there is one
abbrev pub key_text : List (List ℕ) → List ℕ
key_text [] = []
key_text (k ∷ ks) = codes " " ++ literal k

-- what became of the node N of a root: ` append N C`, ` remove N C`, ` set N NAME T`, ` text N T`; C is a child
abbrev pub change_text : ℕ → Change → List ℕ
change_text k (appends c) = codes " append " ++ number_units k ++ codes " " ++ number_units c
change_text k (removes c) = codes " remove " ++ number_units k ++ codes " " ++ number_units c
change_text k (sets_attribute n v) = codes " set " ++ number_units k ++ codes " " ++ literal n ++ codes " " ++ literal v
change_text k (sets_text us) = codes " text " ++ number_units k ++ codes " " ++ literal us

-- `touch M OP O`, `touch M OP O KEY`, `say M T`, `dom R` with what became of a node of the root R, and how a turn ended
abbrev pub line : Names → Told → List ℕ
line names (touched m t g k) = codes "touch " ++ name_in names.modules m ++ touch_text t ++ object_name names g ++ key_text k ++ line_end
line names (said m us) = codes "say " ++ name_in names.modules m ++ codes " " ++ literal us ++ line_end
line names (changed_node root k c) = codes "dom " ++ name_in names.roots root ++ change_text k c ++ line_end
line names (ended l e) = label_text names l ++ end_text names e ++ line_end

abbrev pub log : Names → List Told → List ℕ
log names [] = []
log names (t ∷ ts) = line names t ++ log names ts
