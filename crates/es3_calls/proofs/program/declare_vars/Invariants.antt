use Rattle.std.proofs.Common.{◌≡◌, ◌≤◌, drop, length}
use Rattle.es3_language.specs.Meaning.{with_global_vars}
use Rattle.es3_moves.specs.Code.{names_of}
use Rattle.es3_moves.specs.Texts.{store_of}
use Rattle.es3_calls.proofs.program.declare_vars.Given as goal

abbrev pub invariant-loop-name : goal.invariant-loop-name
invariant-loop-name l = record {
  store : with_global_vars (names_of (drop l.name-index l.vars)) (store_of l.h l.texts) ≡ with_global_vars (names_of l.vars) (store_of l.fn.h l.texts);
  live : length l.fn.h.list ≤ length l.h.list;
}
