-- A step up a chain of parents.
use Rattle.std.proofs.Common.{◌≡◌, ℕ, suc, true, false, Some, refl}
use Rattle.std.specs.Prelude.{nat_eq}
use Rattle.doc_nodes.specs.Rows.{Doc, climbs, parent_of}

-- where a node isn't looked for, what stands above it is next
pub climbs-above : (n m : ℕ) (d : Doc) (c here : ℕ) → n ≡ suc m → nat_eq here c ≡ false → climbs n d c (Some here) ≡ climbs m d c (parent_of d here)
climbs-above n m d c here more other = rw (more, other) refl

pub climbs-here : (n m : ℕ) (d : Doc) (c here : ℕ) → n ≡ suc m → nat_eq here c ≡ true → climbs n d c (Some here) ≡ true
climbs-here n m d c here more same = rw (more, same) refl
