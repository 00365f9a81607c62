-- What is left of a text, as a slice to its end has it.
use Rattle.std.proofs.Common.{◌≡◌, ℕ, ◌-◌, List, sym, ap, ◌∙◌, length, take, drop}
use Rattle.std.proofs.Math.Seq.{take-length}
use Rattle.std.proofs.lemmas.List.{length-drop}

pub rest_is : (n : ℕ) (s : List ℕ) → take (length s - n) (drop n s) ≡ drop n s
rest_is n s = ap (λ k. take k (drop n s)) (sym (length-drop n s)) ∙ take-length (drop n s)
