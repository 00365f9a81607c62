-- Numbers of values (ES3 9.3).
use Rattle.std.specs.Prelude.{ℤ, Option, Some, None, Result, Ok, Err}
use Rattle.plans.specs.Plans.{Fault, number_fault}
use Rattle.es3_objects.specs.declared.value.Value.{Value}
use Rattle.es3_objects.specs.declared.value.Value.TheVariants as v
use Rattle.es3_heap.specs.Objects.{Objects}
use Rattle.es3_convert.specs.Conversions.{and_then, text_of, plain_number}
pub use Rattle.es3_tokens.specs.TextNumber.{is_blank, without_front, without_end, trimmed, numeral, decimal, hexadecimal, begins_hexadecimal, unsigned, literal, text_number}

abbrev pub found_number : Option ℤ → Result ℤ Fault
found_number None = Err number_fault
found_number (Some n) = Ok n

-- 9.3: ToNumber of a value that is no object
abbrev pub primitive_number : Value → Option ℤ
primitive_number (v.Text us) = text_number us
primitive_number x = plain_number x

-- 9.3: ToNumber; the number of an object is that of its text
abbrev pub number_of : Objects → Value → Result ℤ Fault
number_of h (v.Obj o) = and_then (text_of h (v.Obj o)) (λ us. found_number (text_number us))
number_of h x = found_number (primitive_number x)
