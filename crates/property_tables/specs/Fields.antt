-- Keys in order, each with a value and attributes.
use Rattle.std.specs.Prelude.{ℕ, List}
use Rattle.property_tables.specs.declared.field.Field.{Field}

abbrev pub Entries : Type 0 → Type 0 → Type 0
Entries V A = List (List ℕ × Field V A)

-- what stands at a key
abbrev pub field : {V A : Type 0} → V → A → Field V A
field v a = record { value = v; attrs = a }
