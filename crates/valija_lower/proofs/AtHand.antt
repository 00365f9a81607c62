-- Parts that are at hand.
use Rattle.std.proofs.Common.{◌≡◌, sym, ap, subst}
use Rattle.std.specs.Prelude.{Result, Ok, Err, IfOk}
use Rattle.caja_units.specs.declared.Memory.{Memory}
use Rattle.valija_parts.specs.Gives.{joined}

pub parts_at_hand : {A B : Type 0} (r : Result A Memory) (q : Result B Memory) (j : Result (A × B) Memory) (p : A × B) → j ≡ joined r q → j ≡ Ok p → (r ≡ Ok p.0) × (q ≡ Ok p.1)
parts_at_hand (Ok a) (Ok b) j p is e =
    let same : p ≡ (a, b) = cc in
    (ap (λ z. Ok z.0) (sym same), ap (λ z. Ok z.1) (sym same))
parts_at_hand (Ok a) (Err o) j p is e = absurd cc
parts_at_hand (Err o) q j p is e = absurd cc

pub told_at : {A : Type 0} (r : Result A Memory) (P : A → Type 0) (a : A) → IfOk r P → r ≡ Ok a → P a
told_at r P a h e = subst (λ z. IfOk z P) e h
