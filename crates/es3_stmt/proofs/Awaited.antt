-- A token that must stand next.
use Rattle.std.proofs.Common.{◌≡◌, ℕ, refl}
use Rattle.es3_tree.specs.Token.{punct}
use Rattle.es3_grammar.specs.Spots.{Spot, is}
use Rattle.es3_grammar.specs.Frames.{Stack}
use Rattle.es3_grammar.specs.Machine.{step, when}
use Rattle.es3_frames.specs.declared.frames.After.{After}
use Rattle.es3_frames.specs.declared.frames.After.TheVariants as a
use Rattle.es3_frames.specs.Views.{after_of, behind}

pub behind_step : (n : ℕ) (x : After) (k : Stack) (c : Spot) → step (behind n x k) c ≡ when (is (punct n) c) (after_of x k)
unfolding step
behind_step n a.Want k c = refl
behind_step n a.Start k c = refl
behind_step n a.Brace k c = refl
behind_step n (a.Params h) k c = refl
behind_step n a.ForOpen k c = refl
behind_step n (a.Clauses x) k c = refl
behind_step n (a.CatchName ss) k c = refl
