-- The built-in functions among the objects of ES3: the name and the kind of each.
use Rattle.std.specs.Prelude.{ℕ, ◌+◌, ◌*◌, Bool, true, false, nat_eq, List, [], ◌∷◌, Option, Some, None, get_or, if◌then◌else◌}
use Rattle.es3_objects.specs.declared.value.FuncKind.{FuncKind}
use Rattle.es3_objects.specs.declared.value.FuncKind.TheVariants as kind
use Rattle.es3_objects.specs.declared.value.Receiver.{Receiver as EsReceiver}
use Rattle.es3_objects.specs.declared.value.Receiver.TheVariants as receiver
use Rattle.es3_objects.specs.declared.value.Tag.{Tag}
use Rattle.es3_objects.specs.declared.value.Tag.TheVariants as tag
use Rattle.rows.specs.Rows as r
use Rattle.rows.specs.Names.{Tools, of_cajita, of_math, code_of, sort_of}

-- the two records of built-ins are numbered before them
abbrev pub number_of : r.Native → ℕ
number_of f = get_or (code_of f) 0 0

-- a module's own functions and those of a cell are known by numbers behind all others, four for each module and cell: `say` of module m and its `later`, as i is 0 or 1;
-- `get` of cell c and its `set`, as i is 1 or 2
abbrev pub own_number : ℕ → ℕ → ℕ
own_number m i = 4 * m + (128 + i)

abbrev pub cell_number : ℕ → ℕ → ℕ
cell_number c i = 4 * c + (129 + i)

abbrev pub tag_of_code : List ℕ → Tag
tag_of_code (n ∷ []) = tag.Built n
tag_of_code (n ∷ k ∷ []) = tag.Service k
tag_of_code c = tag.None

abbrev pub tag_of_native : r.Native → Tag
tag_of_native f = tag_of_code (code_of f)

abbrev pub tag_of_tools : Tools → Tag
tag_of_tools of_cajita = tag.Built 0
tag_of_tools of_math = tag.Built 1

-- the error that a constructor makes, by its number
abbrev pub maker_at : ℕ → Option r.Maker
maker_at n = if nat_eq n 18 then Some r.error else if nat_eq n 19 then Some r.type_error else if nat_eq n 20 then Some r.range_error else None

abbrev pub receiver_of : EsReceiver → r.Receiver
receiver_of receiver.Array = r.of_array
receiver_of receiver.OpenArray = r.of_open_array
receiver_of receiver.Text = r.of_text
receiver_of receiver.Function = r.of_function
receiver_of receiver.Node = r.of_node

abbrev pub wanted_of : r.Receiver → EsReceiver
wanted_of r.of_array = receiver.Array
wanted_of r.of_open_array = receiver.OpenArray
wanted_of r.of_text = receiver.Text
wanted_of r.of_function = receiver.Function
wanted_of r.of_node = receiver.Node

abbrev pub kind_by : ℕ → r.Sort → FuncKind
kind_by n (r.exophoric wanted) = kind.Exophoric n (wanted_of wanted)
kind_by n (r.constructor maker) = kind.Constructor n
kind_by n s = kind.Simple n

abbrev pub kind_of : r.Native → FuncKind
kind_of f = kind_by (number_of f) (sort_of f)

-- the built-ins that a page has from its beginning: not the host's services, of which it may have any number, and not those that a module, a cell or a grant has
abbrev pub is_common : r.Native → Bool
is_common (r.service k) = false
is_common r.say = false
is_common r.later = false
is_common r.get = false
is_common r.set = false
is_common r.forward_get = false
is_common r.forward_set = false
is_common f = true
