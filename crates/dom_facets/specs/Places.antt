-- Lists with a place for each number: what no place was made for is d.
use Rattle.std.specs.Prelude.{ℕ, ◌+◌, ◌-◌, List, ◌++◌, length, replicate, slice_set}

-- so many places at least
abbrev pub padded : {A : Type 0} → A → ℕ → List A → List A
padded d n xs = xs ++ replicate (n - length xs) d

-- x stands at a place
abbrev pub put_at : {A : Type 0} → A → ℕ → A → List A → List A
put_at d i x xs = slice_set (padded d (i + 1) xs) i x
