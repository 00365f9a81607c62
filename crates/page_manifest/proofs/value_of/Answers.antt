use Rattle.std.proofs.Common.{true≢false, sym, ◌∙◌}
use Rattle.page_manifest.proofs.Bytes.{is_json, no_json}
use Rattle.page_manifest.proofs.value_of.Goals as goal

pub returns-in-Ok : goal.returns-in-Ok
returns-in-Ok c = is_json _ _ c.in-Ok.ensures.ok.0 c.in-Ok.ensures.ok.1

pub returns-else-is_memory : goal.returns-else-is_memory
returns-else-is_memory c = no_json _ (c.in-Err.ensures.err (λ memory. absurd (true≢false (sym (c.is_memory.ensures.1 memory) ∙ c.if-is_memory.false))))
