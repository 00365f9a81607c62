-- What stands at a place of a list whose elements are seen in another way, and behind its last place.
use Rattle.std.proofs.Common.{◌≡◌, ℕ, ◌<◌, ◌≤◌, List, [], length, map, Some, None, get_or, sym, ap, ◌∙◌, arith}
use Rattle.std.specs.List.{slice_get}
use Rattle.std.specs.Prelude.{codes, option_map, unwrap_or}
use Rattle.std.proofs.lemmas.Option.{slice_get-map, get_or_from_slice_get, unwrap_or-slice_get}
use Rattle.std.proofs.lemmas.List.{get_or_past}
use Rattle.std.proofs.lemmas.List.Elements.{All-nil, All-cons}
use Rattle.caja_units.specs.Utf8.{utf8_of}
use Rattle.caja_units.proofs.Ascii.{utf8_of-ascii}
use Rattle.page_log.specs.Log.{name_in}

pub there : {X : Type 0} {Y : Type 0} (f : X → Y) (xs : List X) (i : ℕ) (x : X) (d : Y) → slice_get xs i ≡ Some x → get_or (map f xs) i d ≡ f x
there f xs i x d is = get_or_from_slice_get (map f xs) i (f x) d (slice_get-map f xs i ∙ ap (option_map f) is)

pub past : {X : Type 0} {Y : Type 0} (f : X → Y) (xs : List X) (i : ℕ) (d : Y) → slice_get xs i ≡ None → get_or (map f xs) i d ≡ d
past f xs i d is = sym (unwrap_or-slice_get (map f xs) i d) ∙ ap (λ q. unwrap_or q d) (slice_get-map f xs i ∙ ap (option_map f) is)

-- a number without a name
pub unnamed : (names : List (List ℕ)) (i : ℕ) → length names ≤ i → name_in names i ≡ codes "?"
unnamed names i past = ap utf8_of (get_or_past names i (codes "?") past) ∙ utf8_of-ascii (codes "?") (All-cons (λ u. u < 128) 63 [] (omega arith) (All-nil (λ u. u < 128)))
