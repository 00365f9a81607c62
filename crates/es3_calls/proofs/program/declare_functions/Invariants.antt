use Rattle.std.proofs.Common.{◌≡◌, ◌≤◌, drop, length}
use Rattle.es3_language.specs.Meaning.{with_global_functions}
use Rattle.es3_moves.specs.Texts.{store_of, funcs_of}
use Rattle.es3_calls.proofs.program.declare_functions.Given as goal

abbrev pub invariant-loop-function : goal.invariant-loop-function
invariant-loop-function l = record {
  store : with_global_functions (funcs_of (drop l.function-index l.functions)) l.by (store_of l.h l.texts) ≡ with_global_functions (funcs_of l.functions) l.by (store_of l.fn.h l.fn.texts);
  live : length l.fn.h.list ≤ length l.h.list;
}
