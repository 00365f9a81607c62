-- Where each built-in stands: its path, by which the log names it.
use Rattle.std.specs.Prelude.{ℕ, List, [], codes}
use Rattle.rows.specs.Rows as r
use Rattle.rows.specs.Rows.{Native}
use Rattle.rows.specs.Names.{Tools, of_cajita, of_math}

-- the two records of functions
abbrev pub tools_path : Tools → List ℕ
tools_path of_cajita = codes "cajita"
tools_path of_math = codes "Math"

-- a method stands under the kind of its receiver. A function of the host, of a module, of a cell or of a grant has no path
abbrev pub path_of : Native → List ℕ
path_of r.freeze = codes "cajita.freeze"
path_of r.is_frozen = codes "cajita.isFrozen"
path_of r.copy = codes "cajita.copy"
path_of r.snapshot = codes "cajita.snapshot"
path_of r.is_array = codes "cajita.isArray"
path_of r.is_record = codes "cajita.isRecord"
path_of r.keys = codes "cajita.keys"
path_of r.abs = codes "Math.abs"
path_of r.floor = codes "Math.floor"
path_of r.ceil = codes "Math.ceil"
path_of r.round = codes "Math.round"
path_of r.max = codes "Math.max"
path_of r.min = codes "Math.min"
path_of r.number_from = codes "Number"
path_of r.text_from = codes "String"
path_of r.truth_from = codes "Boolean"
path_of (r.makes r.error) = codes "Error"
path_of (r.makes r.type_error) = codes "TypeError"
path_of (r.makes r.range_error) = codes "RangeError"
path_of r.call = codes "function.call"
path_of r.apply = codes "function.apply"
path_of r.char_at = codes "text.charAt"
path_of r.char_code_at = codes "text.charCodeAt"
path_of r.index_of = codes "text.indexOf"
path_of r.last_index_of = codes "text.lastIndexOf"
path_of r.slice_text = codes "text.slice"
path_of r.substring = codes "text.substring"
path_of r.split = codes "text.split"
path_of r.concat_text = codes "text.concat"
path_of r.concat = codes "array.concat"
path_of r.join = codes "array.join"
path_of r.slice = codes "array.slice"
path_of r.push = codes "array.push"
path_of r.unshift = codes "array.unshift"
path_of r.pop = codes "array.pop"
path_of r.shift = codes "array.shift"
path_of r.turn = codes "array.reverse"
path_of r.get_tag_name = codes "node.getTagName"
path_of r.get_parent_node = codes "node.getParentNode"
path_of r.get_child_nodes = codes "node.getChildNodes"
path_of r.get_element_by_id = codes "node.getElementById"
path_of r.get_attribute = codes "node.getAttribute"
path_of r.set_attribute = codes "node.setAttribute"
path_of r.get_text = codes "node.getText"
path_of r.set_text = codes "node.setText"
path_of r.create_element = codes "node.createElement"
path_of r.create_text_node = codes "node.createTextNode"
path_of r.append_child = codes "node.appendChild"
path_of r.remove_child = codes "node.removeChild"
path_of r.on = codes "node.on"
path_of f = []
