-- What holds of an Ok.
use Rattle.std.proofs.Common.{ℕ, ◌≡◌, Bool, List, Result, Ok, Err, IfOk, length, sym, subst}
use Rattle.es3_lexer.specs.Views.{step_of}
use Rattle.es3_tokens.proofs.Cut.{point_fits}
use Rattle.es3_tokens.specs.Cut.{point}
use Rattle.es3_lexer.specs.declared.step.Step.{Step}
use Rattle.es3_tokens.specs.Steps.{Fits}

pub ok_more : {X E : Type 0} (r : Result X E) (P Q : X → Type 0) → ((x : X) → P x → Q x) → IfOk r P → IfOk r Q
ok_more (Ok x) P Q f h = f x h
ok_more (Err e) P Q f h = tt

pub ok_fits : {E : Type 0} (r : Result Step E) (o : Bool) (s : List ℕ) → IfOk r (λ r. step_of r ≡ point o s) → IfOk r (λ r. Fits (length s) (step_of r))
ok_fits r o s h = ok_more r (λ r. step_of r ≡ point o s) (λ r. Fits (length s) (step_of r)) (λ x e. subst (λ p. Fits (length s) p) (sym e) (point_fits o s)) h
