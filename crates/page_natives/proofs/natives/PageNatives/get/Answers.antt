use Rattle.std.proofs.Common.{◌≡◌}
use Rattle.std.specs.Prelude.{slice_get, unwrap_or}
use Rattle.es3_objects.specs.declared.value.Value.TheVariants.{Undefined}
use Rattle.page_natives.specs.Natives.{kept_of}
use Rattle.page_natives.proofs.Cells.{got}
use Rattle.page_natives.proofs.natives.PageNatives.get.Goals as goal

pub returns : goal.returns
returns c =
    let held : c.value_or.result.now ≡ unwrap_or (slice_get c.args.self.now.cells.items c.args.cell) Undefined = cc in
    got (kept_of c.args.self.now) c.args.cell c.args.h.now c.value_or.result.now c.value_of.result held c.value_of.ensures
