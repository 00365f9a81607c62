-- How the properties of an object are held: the length of an array by itself, and the others in slots or in a table.
use Rattle.std.specs.Prelude.{◌≡◌, ℕ, List, [], ◌∷◌, Option, Some, None, map, if◌then◌else◌}
use Rattle.caja_units.specs.Units.{same_units}
use Rattle.property_tables.specs.declared.field.Field.{Field}
use Rattle.property_tables.specs.Indexed.{Indexed, entries}
use Rattle.es3_objects.specs.declared.value.Value.{Value}
use Rattle.es3_objects.specs.declared.value.Attrs.{Attrs}
use Rattle.es3_objects.specs.declared.properties.Name.{Name}
use Rattle.es3_objects.specs.Objects.{Property, plain_attrs}
use Rattle.es3_objects.specs.Properties.{length_key}
use Rattle.es3_objects.specs.Reading.{property}

abbrev pub listed : List (List ℕ × Field Value Attrs) → List Property
listed es = map (λ e. property e.0 e.1.value e.1.attrs) es

abbrev pub with_length : Option (Field Value Attrs) → List Property → List Property
with_length None ps = ps
with_length (Some f) ps = property length_key f.value f.attrs ∷ ps

-- the length, where it is held by itself, comes first
abbrev pub held : Option (Field Value Attrs) → Indexed (Field Value Attrs) → List Property
held f x = with_length f (listed (entries x))

-- the attributes that a write keeps
abbrev pub attrs_found : Option Property → Attrs
attrs_found None = plain_attrs
attrs_found (Some p) = p.attrs

abbrev pub attrs_held : Option (Field Value Attrs) → Attrs
attrs_held None = plain_attrs
attrs_held (Some f) = f.attrs

-- the properties without that of a key, whatever its attributes
abbrev pub taken : List ℕ → List Property → List Property
taken k [] = []
taken k (p ∷ ps) = if same_units k p.key then ps else p ∷ taken k ps

-- each key with the attributes of its property
abbrev pub names_of : List Property → List Name
names_of ps = map (λ p. record { key = p.key; attrs = p.attrs }) ps

-- full slots of values without attributes
abbrev pub plain_held : Value → Field Value Attrs
plain_held v = record { value = v; attrs = plain_attrs }

abbrev pub filled : List Value → List (Option (Field Value Attrs))
filled vs = map (λ v. Some (plain_held v)) vs

-- slots that are all full, of values without attributes
abbrev pub ArePlain : List (Option (Field Value Attrs)) → Type 0
ArePlain [] = Unit {0}
ArePlain (None ∷ xs) = ⊥
ArePlain (Some f ∷ xs) = (f.attrs ≡ plain_attrs) × ArePlain xs

-- nothing but such slots
pub record IsPlain (x : Indexed (Field Value Attrs)) : Type 0 where
  pub slots : ArePlain x.slots
  pub alone : x.others ≡ []
