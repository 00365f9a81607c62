-- A text in quotes, by its first and its last unit.
use Rattle.std.specs.Prelude.{ℕ, ◌-◌, List, Bool, ◌&&◌, ◌||◌, nat_eq, length, take, slice_index}
use Rattle.css_kept.specs.Table.{is_without}

-- whether a quote stands last in what follows it, and nowhere before
abbrev pub is_closed : ℕ → List ℕ → Bool
is_closed q s = (nat_eq q 34 || nat_eq q 39) && nat_eq q (slice_index s (length s - 1)) && is_without q (take (length s - 1) s)
