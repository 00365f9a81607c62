-- What is shown of deeds that run over what was opened, by what was opened.
use Rattle.std.proofs.Common.{◌≡◌, ℕ, Bool, List, Result, IfOk, subst}
use Rattle.caja_units.specs.declared.Memory.{Memory}
use Rattle.html_kept.specs.Table.{Answers}
use Rattle.es3_heap.specs.Objects.{Objects}
use Rattle.es3_machine.specs.Held.{new_store}
use Rattle.tamed_dom.specs.Lent.{Lent}
use Rattle.page_log.specs.Log.{Names}
use Rattle.page_natives.specs.Natives.{new_kept}
use Rattle.page_runner.specs.Page.{Deed, es3_page}
use Rattle.page_runner.specs.Outcome.{Shows}
use Rattle.page_runner.specs.declared.running.Outcome.{Outcome}

-- objects, the global object, the place of the runtime, and what is lent of the document
abbrev pub ShowsOver : Names → ℕ → List Deed → Bool → Answers → ℕ → Result Outcome Memory → Objects → ℕ → ℕ → Lent → Type 0
ShowsOver names modules ds touching a steps r h g t l = IfOk r (λ o. Shows names (es3_page modules ds (new_store h g) (new_kept t touching l a) steps) o)

pub shows_over : (names : Names) (modules : ℕ) (ds : List Deed) (touching : Bool) (a : Answers) (steps : ℕ) (r : Result Outcome Memory) (h h1 : Objects) (g g1 t t1 : ℕ) (l l1 : Lent) → h ≡ h1 → g ≡ g1 → t ≡ t1 → l ≡ l1
    → ShowsOver names modules ds touching a steps r h g t l → ShowsOver names modules ds touching a steps r h1 g1 t1 l1
shows_over names modules ds touching a steps r h h1 g g1 t t1 l l1 eh eg et el shows =
    subst (λ k. ShowsOver names modules ds touching a steps r k g1 t1 l1) eh
    (subst (λ k. ShowsOver names modules ds touching a steps r h k t1 l1) eg
    (subst (λ k. ShowsOver names modules ds touching a steps r h g k l1) et
    (subst (λ k. ShowsOver names modules ds touching a steps r h g t k) el shows)))
