-- What a method of arrays comes to at its receiver, and where it is none.
use Rattle.std.proofs.Common.{◌≡◌, ℕ, Result, Ok, Err, sym, ap, ◌∙◌}
use Rattle.es3_objects.specs.declared.value.Stop.{Stop}
use Rattle.es3_heap.specs.Objects.{Objects}
use Rattle.heap_rows.specs.Doing.{Done}
use Rattle.row_outcomes.specs.declared.Outcome.{Outcome}
use Rattle.row_outcomes.specs.Comes.{Comes, throws}
use Rattle.builtin_array.specs.declared.receivers.Unfit.{Unfit}
use Rattle.builtin_array.specs.Receivers.{message_of, on_receiver}

pub at_array : (d : Done) (array found : Result ℕ Unfit) (o by : ℕ) (h g : Objects) (answer : ℕ → Done) (r : Result Outcome Stop)
    → d ≡ on_receiver array by h answer → found ≡ array → found ≡ Ok o → Comes (answer o) r g → Comes d r g
at_array d array found o by h g answer r row same is comes =
    let whole : d ≡ answer o = row ∙ ap (λ a. on_receiver a by h answer) (sym same ∙ is) in
    rw whole comes

pub at_other : (d : Done) (array found : Result ℕ Unfit) (why : Unfit) (by : ℕ) (h g : Objects) (answer : ℕ → Done) (r : Result Outcome Stop)
    → d ≡ on_receiver array by h answer → found ≡ array → found ≡ Err why → Comes (throws (message_of why) by h) r g → Comes d r g
at_other d array found why by h g answer r row same is comes =
    let whole : d ≡ throws (message_of why) by h = row ∙ ap (λ a. on_receiver a by h answer) (sym same ∙ is) in
    rw whole comes
