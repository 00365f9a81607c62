-- How the units of a text are kept.
use Rattle.std.specs.Prelude.{ℕ, List}
use Rattle.text_storage.specs.declared.Kept.{Kept}
use Rattle.text_storage.specs.declared.Kept.TheVariants.{Short, Key, Index, Flat, Joined}

-- the units: in place where they are few, in one list, or in pieces
abbrev pub kept_units : Kept → List ℕ
kept_units (Short us) = us
kept_units (Key us) = us
kept_units (Index us) = us
kept_units (Flat us) = us.items
kept_units (Joined us) = us
