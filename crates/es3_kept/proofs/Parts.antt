-- What holds of one of two things by a test, and of what stands at a place of a list.
use Rattle.std.proofs.Common.{ℕ, zero, suc, Bool, true, false, cond, List, [], ◌∷◌, All, IfSome, slice_get}
use Rattle.std.proofs.lemmas.List.Elements.{All-head, All-tail}

-- one of two, by a test
pub either : {X : Type 0} (P : X → Type 0) (b : Bool) (x y : X) → P x → P y → P (cond b x y)
either P true x y p q = p
either P false x y p q = q

-- what stands at a place of a list
pub all_at : {X : Type 0} (P : X → Type 0) (xs : List X) (i : ℕ) → All P xs → IfSome (slice_get xs i) P
all_at P [] i l = tt
all_at P (x ∷ xs) zero l = All-head P x xs l
all_at P (x ∷ xs) (suc i) l = all_at P xs i (All-tail P x xs l)
