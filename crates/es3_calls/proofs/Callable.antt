-- What a call runs, by its parts, and the code that it runs.
use Rattle.std.proofs.Common.{◌≡◌, ℕ, ◌<◌, List, Option, Some, None, length, get_or, refl, ap, ◌∙◌}
use Rattle.std.specs.Prelude.{slice_get, map, option_map}
use Rattle.std.proofs.lemmas.Option.{slice_get-map, slice_get_read}
use Rattle.es3_objects.specs.declared.value.FuncKind.{FuncKind}
use Rattle.es3_heap.specs.Objects.{Callable}
use Rattle.es3_objects.specs.Reading.{kind_of, maker_of}
use Rattle.es3_moves.specs.Texts.{plain_code}
use Rattle.es3_moves.specs.declared.texts.Closure.{Closure}
use Rattle.es3_calls.specs.Calls.{callable_parts}

pub parts_some : (c : Option Callable) (k : FuncKind) (m : ℕ) → Some k ≡ kind_of c → Some m ≡ maker_of c → Some (k, m) ≡ option_map callable_parts c
parts_some None k m a b = cc
parts_some (Some c) k m a b = cc

pub parts_no_kind : (c : Option Callable) → None ≡ kind_of c → None ≡ option_map callable_parts c
parts_no_kind None a = refl
parts_no_kind (Some c) a = cc

pub parts_no_maker : (c : Option Callable) → None ≡ maker_of c → None ≡ option_map callable_parts c
parts_no_maker None a = refl
parts_no_maker (Some c) a = cc

pub code_here : (cs : List Closure) (c : ℕ) (x : Closure) → c < length cs → x ≡ get_or cs c x → slice_get (map plain_code cs) c ≡ Some (plain_code x)
code_here cs c x h e = slice_get-map plain_code cs c ∙ ap (option_map plain_code) (slice_get_read cs (length cs) c x refl h e)
