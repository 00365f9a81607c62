-- An object (ES3 8.6): properties in the order in which they were made, a class, a prototype, and what a call runs.
use Rattle.std.specs.Prelude.{ℕ, true, false, List, Option}
use Rattle.es3_objects.specs.declared.value.Value.{Value}
use Rattle.es3_objects.specs.declared.value.Attrs.{Attrs}
use Rattle.es3_objects.specs.declared.value.Class.{Class}
use Rattle.es3_objects.specs.declared.value.FuncKind.{FuncKind}
use Rattle.es3_objects.specs.declared.value.Tag.{Tag}

-- 8.6.1: a property, its key as 16-bit units
pub record Property : Type 0 where
  pub key : List ℕ
  pub value : Value
  pub attrs : Attrs

-- what a call of a function runs, and the module that made the function
pub record Callable : Type 0 where
  pub kind : FuncKind
  pub maker : ℕ

pub record Object : Type 0 where
  pub class : Class
  pub proto : Option ℕ
  pub callable : Option Callable
  pub tag : Tag
  pub props : List Property

-- no attribute
abbrev pub plain_attrs : Attrs
plain_attrs = record { read_only = false; dont_enum = false; dont_delete = false; internal = false }

-- an attribute each for a property that `for in` passes over, and for one that can't be written or deleted either
abbrev pub hidden_attrs : Attrs
hidden_attrs = record { read_only = false; dont_enum = true; dont_delete = false; internal = false }

abbrev pub fixed_attrs : Attrs
fixed_attrs = record { read_only = true; dont_enum = true; dont_delete = true; internal = false }

abbrev pub kept_attrs : Attrs
kept_attrs = record { read_only = false; dont_enum = false; dont_delete = true; internal = false }
