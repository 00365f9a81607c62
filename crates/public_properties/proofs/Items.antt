-- Where a key is no item's, the methods of arrays count.
use Rattle.std.proofs.Common.{◌≡◌, ℕ, ◌≤◌, false, List, Option, Some, None, refl, arith}
use Rattle.std.specs.Prelude.{nat_lt}
use Rattle.std.proofs.lemmas.Bool.Decides.{nat_tests}
use Rattle.es3_heap.specs.Objects.{Objects}
use Rattle.rows.specs.Names.{array_methods}
use Rattle.public_properties.specs.Reading.{method_value, item_count, item_or_method}

pub no_item : (i : Option ℕ) (h : Objects) (o : ℕ) (k : List ℕ) → i ≡ None → item_or_method i h o k ≡ method_value array_methods k
no_item i h o k none = rw none refl

pub item_past : (i : Option ℕ) (n : ℕ) (h : Objects) (o : ℕ) (k : List ℕ) → i ≡ Some n → nat_lt n (item_count h o) ≡ false → item_or_method i h o k ≡ method_value array_methods k
item_past i n h o k some past = rw (some, past) refl

pub not_below : (i n m count : ℕ) → m ≡ i → n ≡ count → n ≤ m → nat_lt i count ≡ false
not_below i n m count index many past = grind (arith, nat_tests)
