use Rattle.std.proofs.Common.{◌≡◌, ◌∷◌, [], ◌++◌, arith, rules}
use Rattle.std.proofs.lemmas.Result.{err_from_is_err_and}
use Rattle.guard_runtime.proofs.Pairs.{keyed-more, keyed-fault}
use Rattle.guard_runtime.proofs.initialize_map.keyed.Goals as goal

pub returns-in_err-key : goal.returns-in_err-key
returns-in_err-key c =
    let p = err_from_is_err_and c.from_residual.result c.from_residual.ensures.1 in
    rw (p.1, p.2) (keyed-fault c.args.h.now c.args.items.now c.loop-at.at c.index-items-at.result c.loop-at.pairs.items _ _ (omega arith) c.index-items-at.is c.loop-at.invariant c.in_err-key.ensures)

pub loop-at-preserved : goal.loop-at-preserved
loop-at-preserved c =
    let pushed : c.push_pair.new.pairs.items ≡ c.loop-at.pairs.items ++ (c.in_ok-key.key, c.in_ok-value.value) ∷ [] = search rules in
    keyed-more c.args.h.now c.args.items.now c.loop-at.at c.index-items-at.result c.in_ok-value.value c.in_ok-key.key c.loop-at.pairs.items c.push_pair.new.pairs.items _ (omega arith) c.index-items-at.is c.loop-at.invariant c.in_ok-key.ensures (search rules) pushed
