-- What is told, where touches are asked for and where they are not.
use Rattle.std.proofs.Common.{◌≡◌, ℕ, true, false, List, ◌++◌, Option, sym, ap, ◌∙◌, append-nil}
use Rattle.es3_objects.specs.declared.value.Value.{Value}
use Rattle.es3_heap.specs.Objects.{Objects}
use Rattle.heap_rows.specs.Doing.{Told, heard}
use Rattle.guard_runtime.specs.declared.Guard.{Guard}
use Rattle.guard_runtime.specs.Guards.{done_of}
use Rattle.page_log.specs.declared.items.Item.{Item}
use Rattle.guard_touches.specs.Touches.{told_if}
use Rattle.guard_touches.proofs.Told.{all_heard}
use Rattle.guard_touches.proofs.Rows.{guard_unheard}
use Rattle.page_natives.specs.Natives.{Kept, tells}

abbrev with_told : Kept → List Told → Kept
with_told z items = record z { told = items }

pub guard_silent : (guard : Guard) (by : ℕ) (args : List Value) (h : Objects) (z : Kept) → z.touching ≡ false → z ≡ tells (done_of guard by args h).items z
guard_silent guard by args h z off =
    let items = (done_of guard by args h).items in
    ap (with_told z) (sym (ap (λ b. z.told ++ heard b items) off ∙ ap (λ l. z.told ++ l) (guard_unheard guard by args h) ∙ append-nil z.told))

pub guard_told : (guard : Guard) (by : ℕ) (args : List Value) (h : Objects) (z k : Kept) (item : Option Item) → z.touching ≡ true → told_if item ≡ (done_of guard by args h).items
    → k ≡ record z { told = z.told ++ told_if item } → k ≡ tells (done_of guard by args h).items z
guard_told guard by args h z k item on touch is =
    let items = (done_of guard by args h).items in
    is ∙ ap (λ l. with_told z (z.told ++ l)) touch ∙ ap (with_told z) (sym (ap (λ b. z.told ++ heard b items) on ∙ ap (λ l. z.told ++ l) (all_heard items)))
