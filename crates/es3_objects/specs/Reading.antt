-- What the store tells of a property and of a function.
use Rattle.std.specs.Prelude.{ℕ, List, Option, option_map}
use Rattle.es3_objects.specs.declared.value.Value.{Value}
use Rattle.es3_objects.specs.declared.value.Attrs.{Attrs}
use Rattle.es3_objects.specs.declared.value.FuncKind.{FuncKind}
use Rattle.es3_objects.specs.Objects.{Property, Callable}

-- 8.6.1: the property of these parts
abbrev pub property : List ℕ → Value → Attrs → Property
property k v a = record { key = k; value = v; attrs = a }

-- what a call of a function runs, and the module that made the function
abbrev pub kind_of : Option Callable → Option FuncKind
kind_of f = option_map (λ c. c.kind) f

abbrev pub maker_of : Option Callable → Option ℕ
maker_of f = option_map (λ c. c.maker) f
