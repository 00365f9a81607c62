-- How much a move may still do before the next step, as a number.
use Rattle.std.specs.Prelude.{ℕ, ◌+◌}
use Rattle.es3_moves.specs.declared.frame.End.{End}
use Rattle.es3_moves.specs.declared.frame.End.TheVariants.{Try, Catch}
use Rattle.es3_moves.specs.declared.frame.Then.{Then}
use Rattle.es3_moves.specs.declared.frame.Then.TheVariants as then
use Rattle.es3_moves.specs.declared.frame.After.{After}
use Rattle.es3_moves.specs.declared.frame.After.TheVariants as after
use Rattle.es3_moves.specs.declared.frame.Move.{Move}
use Rattle.es3_moves.specs.declared.frame.Move.TheVariants as move

-- how much may follow a list of statements: that of a `catch` or a `finally`
abbrev pub end_size : End → ℕ
end_size (Try w) = 2
end_size (Catch f env) = 1
end_size end = 0

-- how much a move may still do without a step and without a frame
abbrev pub then_size : Then → ℕ
then_size (then.Call r vs env) = 21
then_size (then.Compound op x env r) = 18
then_size t = 11

abbrev pub after_size : After → ℕ
after_size (after.Then t v) = then_size t
after_size (after.Apply f this vs env) = 19
after_size (after.Construct f vs env) = 19
after_size (after.Write r w v) = 9
after_size (after.WriteKey r k w) = 18

abbrev pub size : Move → ℕ
size (move.Enter t f) = 17
size (move.Go t) = 0
size (move.Again l) = 18
size (move.List xs at acc env end) = 18 + end_size end
size (move.Items vs es at env) = 18
size (move.Fields o fs at env) = 18
size (move.Arguments c) = 23
size (move.Vars is at end env) = 18
size (move.Find v cs at ls env) = 18
size (move.Tell n a) = after_size a + 1
size (move.Follow a) = after_size a
size (move.End flow) = 8
size (move.Stop f) = 0
