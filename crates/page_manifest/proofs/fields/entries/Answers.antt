use Rattle.page_manifest.proofs.Bytes.{entries_of}
use Rattle.page_manifest.proofs.fields.entries.Goals as goal

pub returns-in-Some : goal.returns-in-Some
returns-in-Some c = entries_of _ _ _ _ c.in-Some.ensures c.as_slice.ensures.value
