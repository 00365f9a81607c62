-- What holds of an Ok.
use Rattle.std.proofs.Common.{◌≡◌, Result, Ok, Err, IfOk, ◌∙◌}
use Rattle.html_grammar.specs.Runs.{Run}

pub ok_is : {X E : Type 0} (f : X → Run) (r : Result X E) (a b : Run) → IfOk r (λ x. f x ≡ a) → a ≡ b → IfOk r (λ x. f x ≡ b)
ok_is f (Ok x) a b h e = h ∙ e
ok_is f (Err x) a b h e = tt
