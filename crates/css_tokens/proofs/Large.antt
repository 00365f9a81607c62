-- The class of a unit that is no ASCII.
use Rattle.std.proofs.Common.{◌≡◌, ◌≤◌, ℕ, arith}
use Rattle.std.proofs.lemmas.Bool.Decides.{nat_tests}
use Rattle.css_grammar.specs.Characters.{class, other}

pub large_class : (c : ℕ) → 128 ≤ c → class c ≡ other
unfolding class
large_class c h = grind (arith, nat_tests)
