use Rattle.std.proofs.Common.{◌≡◌, ◌≤◌, drop, length}
use Rattle.es3_language.specs.Expressions.{with_functions}
use Rattle.es3_moves.specs.Where.{plain_chain}
use Rattle.es3_moves.specs.Texts.{store_of, funcs_of}
use Rattle.es3_calls.proofs.activation.declare_functions.Given as goal

abbrev pub invariant-loop-function : goal.invariant-loop-function
invariant-loop-function l = record {
  store : with_functions (funcs_of (drop l.function-index l.functions)) l.c (plain_chain l.chain.value) l.by (store_of l.h l.texts) ≡ with_functions (funcs_of l.functions) l.c (plain_chain l.chain.value) l.by (store_of l.fn.h l.fn.texts);
  live : length l.fn.h.list ≤ length l.h.list;
}
