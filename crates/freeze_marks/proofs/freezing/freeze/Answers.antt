use Rattle.std.proofs.Common.{◌≡◌, ◌∙◌, rules}
use Rattle.es3_heap.specs.Objects.{object_at, props_of}
use Rattle.heap_rows.specs.Marks.{frozen_mark, marked, set_marks}
use Rattle.freeze_marks.specs.Freezing.{deleted}
use Rattle.freeze_marks.proofs.Deleted.{freeze-is}
use Rattle.freeze_marks.proofs.freezing.freeze.Goals as goal

pub returns-clause-store : goal.returns-clause-store
returns-clause-store c =
    let h = c.args.h.now in
    let all : c.delete_all.new.h ≡ deleted (set_marks (props_of (object_at h c.args.o))) c.args.o (marked h c.args.o frozen_mark) = search rules in
    all ∙ freeze-is h c.args.o
