use Rattle.std.proofs.Common.{◌≡◌, ℕ, ◌+◌, List, ◌++◌, take, drop, sym, arith}
use Rattle.std.proofs.lemmas.Grind.{common_steps}
use Rattle.std.proofs.lemmas.List.{take-append-drop, drop-drop}
use Rattle.caja_io.proofs.mem_source.MemSourceSource.read.Goals as goal

-- what stands behind a place is n bytes, and what stands behind these
drop-parts : (at n : ℕ) (xs : List ℕ) → drop at xs ≡ take n (drop at xs) ++ drop (at + n) xs
drop-parts at n xs = rw (← drop-drop n at xs) (sym (take-append-drop n (drop at xs)))

pub returns-clause-takes : goal.returns-clause-takes
returns-clause-takes c =
    let given : take c.min-count.result c.copy_at.new.into ≡ take c.min-count.result (drop c.self.inside.at c.self.inside.bytes.items) = grind (arith, common_steps) in
    let parts = drop-parts c.self.inside.at c.min-count.result c.self.inside.bytes.items in
    rw (given, ← parts) cc
