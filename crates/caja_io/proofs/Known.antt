-- What one read or write after another does to the bytes that are known.
use Rattle.std.proofs.Common.{List, ℕ, ◌+◌, ◌≤◌, length, length-append, [], ◌++◌, Option, Some, None, refl, sym, ap, ◌∙◌, append_assoc, arith}
use Rattle.std.proofs.lemmas.List.{append-nil}
use Rattle.caja_io.specs.Source.{Takes, TakesUpTo}
use Rattle.caja_io.specs.Sink.{Appends}

-- a call that reads nothing takes nothing
pub Takes-none : (left : Option (List ℕ)) → Takes left left []
Takes-none (Some left) = refl
Takes-none None = tt

-- two takes are one of both parts
pub Takes-append : (a b c : Option (List ℕ)) (xs ys : List ℕ) → Takes a b xs → Takes b c ys → Takes a c (xs ++ ys)
Takes-append (Some a) (Some b) (Some c) xs ys p q = p ∙ ap (λ r. xs ++ r) q ∙ sym (append_assoc xs ys c)
Takes-append (Some a) (Some b) None xs ys p q = absurd q
Takes-append (Some a) None c xs ys p q = absurd p
Takes-append None (Some b) c xs ys p q = absurd p
Takes-append None None (Some c) xs ys p q = absurd q
Takes-append None None None xs ys p q = tt

-- a call that writes nothing appends nothing
pub Appends-none : (written : Option (List ℕ)) → Appends written written []
Appends-none (Some written) = sym (append-nil written)
Appends-none None = tt

-- two writes are one of both parts
pub Appends-append : (a b c : Option (List ℕ)) (xs ys : List ℕ) → Appends a b xs → Appends b c ys → Appends a c (xs ++ ys)
Appends-append (Some a) (Some b) (Some c) xs ys p q = q ∙ ap (λ r. r ++ ys) p ∙ append_assoc a xs ys
Appends-append (Some a) (Some b) None xs ys p q = absurd q
Appends-append (Some a) None c xs ys p q = absurd p
Appends-append None (Some b) c xs ys p q = absurd p
Appends-append None None (Some c) xs ys p q = absurd q
Appends-append None None None xs ys p q = tt

-- a call that reads nothing takes no more than any number of bytes
pub TakesUpTo-none : (most : ℕ) (left : Option (List ℕ)) → TakesUpTo most left left
TakesUpTo-none most left = record { bytes = []; takes = Takes-none left; at_most = omega arith }

-- two takes stay within the bound on both
pub TakesUpTo-append : (most : ℕ) (a b c : Option (List ℕ)) (xs ys : List ℕ) → Takes a b xs → Takes b c ys → length xs + length ys ≤ most → TakesUpTo most a c
TakesUpTo-append most a b c xs ys p q h = record {
  bytes = xs ++ ys;
  takes = Takes-append a b c xs ys p q;
  at_most = rw length-append h;
}
