-- Where every jump has its target around a part, as around the body of a function, the part's jumps have theirs.
use Rattle.std.proofs.Common.{ℕ, List, [], ◌∷◌, refl}
use Rattle.cajita_tree.specs.Tree as c
use Rattle.cajita_simulation.proofs.Laws.{all_jumps, Targets}

pub targets_all : (ls : List (List ℕ)) (s : c.Sort) (x : c.Tree s) → Targets all_jumps ls s x
targets_all ls _ (c.block xs) = targets_all [] _ xs
targets_all ls _ (c.branch e x y) = (targets_all [] _ x, targets_all [] _ y)
targets_all ls _ (c.while_loop e x) = targets_all [] _ x
targets_all ls _ (c.do_loop x e) = targets_all [] _ x
targets_all ls _ (c.for_loop i e u x) = targets_all [] _ x
targets_all ls _ (c.for_in x e b) = targets_all [] _ b
targets_all ls _ (c.continue l) = refl
targets_all ls _ (c.break l) = refl
targets_all ls _ (c.return e) = refl
targets_all ls _ (c.switch e cs) = targets_all [] _ cs
targets_all ls _ (c.label l x) = targets_all (l ∷ ls) _ x
targets_all ls _ (c.try xs h f) = (targets_all [] _ xs, targets_all [] _ h, targets_all [] _ f)
targets_all ls _ (c.more_stmts x rest) = (targets_all [] _ x, targets_all [] _ rest)
targets_all ls _ (c.some_stmt x) = targets_all [] _ x
targets_all ls _ (c.some_block xs) = targets_all [] _ xs
targets_all ls _ (c.more_cases e xs cs) = (targets_all [] _ xs, targets_all [] _ cs)
targets_all ls _ (c.some_handler x xs) = targets_all [] _ xs
targets_all ls _ x = tt
