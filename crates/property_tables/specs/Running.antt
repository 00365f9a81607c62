-- Calls of properties: what each answers, and what it leaves.
use Rattle.std.specs.Prelude.{List, [], ◌∷◌, option_map, is_some}
use Rattle.std.specs.Map.{lookup, remove_entry, keys_of}
use Rattle.indexmap.specs.IndexMap.{insert_entry}
use Rattle.caja_units.specs.Units.{same_units}
use Rattle.property_tables.specs.Fields.{Entries, field}
use Rattle.property_tables.specs.declared.run.PropCall.{PropCall}
use Rattle.property_tables.specs.declared.run.PropCall.TheVariants as call
use Rattle.property_tables.specs.declared.run.PropReply.{PropReply}
use Rattle.property_tables.specs.declared.run.PropReply.TheVariants as told

module _ {V A : Type 0} where
  -- what a call answers
  abbrev pub reply : PropCall V A → Entries V A → PropReply V A
  reply (call.Own k) es = told.Own (option_map (λ f. (f.value, f.attrs)) (lookup (same_units k) es))
  reply (call.Set k v a) es = told.Set
  reply (call.Remove k) es = told.Removed (is_some (lookup (same_units k) es))
  reply call.Names es = told.Names (keys_of es)

  -- what it leaves
  abbrev pub left : PropCall V A → Entries V A → Entries V A
  left (call.Own k) es = es
  left (call.Set k v a) es = insert_entry same_units es k (field v a)
  left (call.Remove k) es = remove_entry (same_units k) es
  left call.Names es = es

  -- the answers of calls in order, and what they leave
  abbrev pub replies : List (PropCall V A) → Entries V A → List (PropReply V A)
  replies [] es = []
  replies (c ∷ cs) es = reply c es ∷ replies cs (left c es)

  abbrev pub left_by : List (PropCall V A) → Entries V A → Entries V A
  left_by [] es = es
  left_by (c ∷ cs) es = left_by cs (left c es)
