-- What holds of an Ok.
use Rattle.std.proofs.Common.{◌≡◌, Result, Ok, Err, IfOk, OnOk, ◌∙◌}

-- where an answer is Ok, what follows from what it says
pub ok_then : {T E : Type 0} {P Q : Type 0} (r : Result T E) → OnOk r P → (P → Q) → OnOk r Q
ok_then (Ok x) h f = f h
ok_then (Err x) h f = tt

-- an answer is this, and this is that
pub ok_is : {X E : Type 0} (r : Result X E) (a b : X) → IfOk r (λ x. x ≡ a) → a ≡ b → IfOk r (λ x. x ≡ b)
ok_is (Ok x) a b h e = h ∙ e
ok_is (Err x) a b h e = tt
