-- Where an expression ends everything that is open round it.
use Rattle.std.specs.Prelude.{Bool, true, false, ◌&&◌, [], ◌∷◌}
use Rattle.es3_grammar.specs.Frames.{Stack, new_of, prefix_step, prefix, join, either}

-- operators that wait for their last part, where a prefix `++` or `--` waits for a target
abbrev pub ends_all : Bool → Stack → Bool
ends_all b [] = true
ends_all b (new_of ∷ f) = ends_all false f
ends_all b (prefix_step up ∷ f) = b && ends_all false f
ends_all b (prefix op a ∷ f) = ends_all false f
ends_all b (join j x ∷ f) = ends_all false f
ends_all b (either x y ∷ f) = ends_all false f
ends_all b (_ ∷ f) = false
