-- The built-in functions of a page: what each comes to, by its number.
use Rattle.std.specs.Prelude.{ℕ, ◌-◌, List, Option, None, slice_get, nat_lt, if◌then◌else◌}
use Rattle.es3_objects.specs.declared.value.Value.{Value}
use Rattle.es3_heap.specs.Objects.{Objects}
use Rattle.rows.specs.Rows as r
use Rattle.heap_rows.specs.Doing.{Done}
use Rattle.row_outcomes.specs.Comes.{row_done}
use Rattle.row_outcomes.specs.Arguments.{argument}
use Rattle.page_natives.specs.declared.built_ins.Tool.{Tool}
use Rattle.page_natives.specs.declared.built_ins.Tool.TheVariants as tool
use Rattle.page_natives.specs.declared.built_ins.Method.{Method}
use Rattle.page_natives.specs.declared.built_ins.Method.TheVariants as m
use Rattle.page_natives.specs.declared.built_ins.BuiltIn.{BuiltIn}
use Rattle.page_natives.specs.declared.built_ins.BuiltIn.TheVariants as b
use Rattle.page_natives.specs.declared.built_ins.TheConstants.{ROWS, OBJECT_FUNCTIONS}
use Rattle.page_natives.specs.Objects.{object_from, function_from, array_from, to_text, to_value}

-- the row of a function of the record `cajita`
abbrev pub tool_done : Tool → ℕ → Value → List Value → Objects → Done
tool_done tool.Freeze by this args h = row_done r.freeze by this args h
tool_done tool.IsFrozen by this args h = row_done r.is_frozen by this args h
tool_done tool.Copy by this args h = row_done r.copy by this args h
tool_done tool.Snapshot by this args h = row_done r.snapshot by this args h
tool_done tool.IsArray by this args h = row_done r.is_array by this args h
tool_done tool.IsRecord by this args h = row_done r.is_record by this args h
tool_done tool.Keys by this args h = row_done r.keys by this args h

-- the row of a method of texts or of arrays
abbrev pub method_done : Method → ℕ → Value → List Value → Objects → Done
method_done m.CharAt by this args h = row_done r.char_at by this args h
method_done m.CharCodeAt by this args h = row_done r.char_code_at by this args h
method_done m.IndexOf by this args h = row_done r.index_of by this args h
method_done m.LastIndexOf by this args h = row_done r.last_index_of by this args h
method_done m.SliceText by this args h = row_done r.slice_text by this args h
method_done m.Substring by this args h = row_done r.substring by this args h
method_done m.Split by this args h = row_done r.split by this args h
method_done m.ConcatText by this args h = row_done r.concat_text by this args h
method_done m.Concat by this args h = row_done r.concat by this args h
method_done m.Join by this args h = row_done r.join by this args h
method_done m.Slice by this args h = row_done r.slice by this args h
method_done m.Push by this args h = row_done r.push by this args h
method_done m.Unshift by this args h = row_done r.unshift by this args h
method_done m.Pop by this args h = row_done r.pop by this args h
method_done m.Shift by this args h = row_done r.shift by this args h
method_done m.Reverse by this args h = row_done r.turn by this args h

-- the row of a built-in function; five are no rows, since only texts have them
abbrev pub done_of : BuiltIn → ℕ → Value → List Value → Objects → Done
done_of (b.Tool t) by this args h = tool_done t by this args h
done_of b.Abs by this args h = row_done r.abs by this args h
done_of b.Floor by this args h = row_done r.floor by this args h
done_of b.Ceil by this args h = row_done r.ceil by this args h
done_of b.Round by this args h = row_done r.round by this args h
done_of b.Max by this args h = row_done r.max by this args h
done_of b.Min by this args h = row_done r.min by this args h
done_of b.Number by this args h = row_done r.number_from by this args h
done_of b.String by this args h = row_done r.text_from by this args h
done_of b.Boolean by this args h = row_done r.truth_from by this args h
done_of b.Error by this args h = row_done (r.makes r.error) by this args h
done_of b.TypeError by this args h = row_done (r.makes r.type_error) by this args h
done_of b.RangeError by this args h = row_done (r.makes r.range_error) by this args h
done_of b.Call by this args h = row_done r.call by this args h
done_of b.Apply by this args h = row_done r.apply by this args h
done_of (b.Method m) by this args h = method_done m by this args h
done_of b.Object by this args h = object_from by (argument 0 args) h
done_of b.Function by this args h = function_from by h
done_of b.Array by this args h = array_from by args h
done_of b.ToString by this args h = to_text this h
done_of b.ValueOf by this args h = to_value this h

-- the built-in function of a number: the rows from 2 on in the order of their numbers, without those of nodes, and the five from 59 on
abbrev pub built_in : ℕ → Option BuiltIn
built_in n = if nat_lt n 2 then None else if nat_lt n 59 then slice_get ROWS (n - 2) else slice_get OBJECT_FUNCTIONS (n - 59)
