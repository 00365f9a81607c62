use Rattle.std.proofs.Common.{◌≡◌, map}
use Rattle.std.specs.List.{list_all, list_any}
use Rattle.std.specs.Prelude.{string_bytes}
use Rattle.caja_units.specs.Units.{same_units}
use Rattle.serde_json.specs.View.{members_view}
use Rattle.page_manifest.specs.Walk.{keys_of}
use Rattle.page_manifest.proofs.fields.has_only.Given as goal

-- what is left decides
abbrev pub invariant-loop-key : goal.invariant-loop-key
invariant-loop-key l = list_all (λ k. list_any (λ field. same_units k field.now) l.fields) (map (λ k. string_bytes k) l.key-iterator) ≡ list_all (λ k. list_any (λ field. same_units k field.now) l.fields) (keys_of (members_view l.members.entries))
