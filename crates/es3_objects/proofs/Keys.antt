-- A property and its key.
use Rattle.std.proofs.Common.{◌≡◌, ℕ, Bool, true, List, refl, sym}
use Rattle.std.specs.Cmp.Lexicographic.{same_text}
use Rattle.std.proofs.lemmas.Slice.Eq.{bytes_eq-Decides}
use Rattle.caja_units.specs.Units.{same_units}
use Rattle.es3_objects.specs.Objects.{Property}

abbrev pub has_key : List ℕ → Property → Bool
has_key k p = same_units k p.key

pub same_key-refl : (k : List ℕ) → same_units k k ≡ true
same_key-refl k = (bytes_eq-Decides k k).1 refl

-- two keys that are the same are equal
pub key_is : (k j : List ℕ) → same_units k j ≡ true → j ≡ k
key_is k j h = sym (same_text k j (sym h))

-- the key of a property that is there is that key
pub same_key : (k : List ℕ) (p : Property) → has_key k p ≡ true → p.key ≡ k
same_key k p h = key_is k p.key h
