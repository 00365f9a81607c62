-- What a page tells: it only grows, part by part, and touches are asked for as before.
use Rattle.std.proofs.Common.{◌≡◌, ℕ, Bool, true, false, List, [], ◌∷◌, ◌++◌, Option, Some, None, Result, Ok, Err, refl, sym, ap, ◌∙◌}
use Rattle.std.proofs.lemmas.List.{append-nil, append_assoc}
use Rattle.plans.specs.Plans.{Fault}
use Rattle.es3_objects.specs.declared.value.Value.{Value}
use Rattle.es3_heap.specs.Objects.{Objects}
use Rattle.es3_convert.specs.Conversions.{text_of}
use Rattle.cajita_meaning.specs.Direct.{Item}
use Rattle.heap_rows.specs.Doing.{Told, touched, said, changed_node, ended, heard}
use Rattle.row_outcomes.specs.Arguments.{argument}
use Rattle.guard_marks.specs.Closures.{is_closure}
use Rattle.tamed_dom.specs.Methods.{node_turn}
use Rattle.row_simulation.specs.RowLaw.{shown}
use Rattle.row_simulation.proofs.Row.{shown-append}
use Rattle.guard_runtime.specs.Guards as guards
use Rattle.page_natives.specs.declared.natives.Callee.{Callee}
use Rattle.page_natives.specs.declared.natives.Callee.TheVariants as callee
use Rattle.page_natives.specs.Nodes.{changes_told}
use Rattle.page_natives.specs.Natives.{Kept, callee_of, tells, with_said, with_waiting, kept_by, turn_by, page_table}
use Rattle.cajita_simulation.specs.Alike.{heard_by}

-- part by part

pub heard_append : (b : Bool) (xs ys : List Told) → heard b (xs ++ ys) ≡ heard b xs ++ heard b ys
heard_append b [] ys = refl
heard_append true (touched m t g k ∷ xs) ys = ap (λ l. touched m t g k ∷ l) (heard_append true xs ys)
heard_append false (touched m t g k ∷ xs) ys = heard_append false xs ys
heard_append b (said m us ∷ xs) ys = ap (λ l. said m us ∷ l) (heard_append b xs ys)
heard_append b (changed_node root k c ∷ xs) ys = ap (λ l. changed_node root k c ∷ l) (heard_append b xs ys)
heard_append b (ended e v ∷ xs) ys = ap (λ l. ended e v ∷ l) (heard_append b xs ys)

pub heard_more : (y : Kept) (a b : List Item) → heard_by y (a ++ b) ≡ heard_by y a ++ heard_by y b
heard_more y a b = ap (heard y.touching) (shown-append a b) ∙ heard_append y.touching (shown a) (shown b)

-- both sides tell the same
pub items_told : (y : Kept) (z is : List Item) (items : List Told) → shown is ≡ items → heard_by y z ≡ y.told → heard_by y (z ++ is) ≡ y.told ++ heard y.touching items
items_told y z is items same e = heard_more y z is ∙ ap (λ l. l ++ heard_by y is) e ∙ ap (λ l. y.told ++ heard y.touching l) same

-- what no page tells
pub shown_quiet : (z more : List Item) → shown more ≡ [] → shown (z ++ more) ≡ shown z
shown_quiet z more quiet = shown-append z more ∙ ap (λ l. shown z ++ l) quiet ∙ append-nil (shown z)

-- nothing that is told
pub tells_nothing : (y : Kept) → tells [] y ≡ y
tells_nothing y = ap (λ (l : List Told). let q : Kept = record y { told = l } in q) (append-nil y.told)

-- what is kept later: more was told, and touches are asked for as before
pub record TellsMore (a b : Kept) : Type 0 where
  pub more : List Told
  pub told : b.told ≡ a.told ++ more
  pub touching : b.touching ≡ a.touching

pub as_before : (y : Kept) → TellsMore y y
as_before y = record { more = []; told = sym (append-nil y.told); touching = refl }

pub tells_after : (a b c : Kept) → TellsMore a b → TellsMore b c → TellsMore a c
tells_after a b c p q = record { more = p.more ++ q.more; told = q.told ∙ ap (λ l. l ++ q.more) p.told ∙ append_assoc a.told p.more q.more; touching = q.touching ∙ p.touching }

pub tells_more : (items : List Told) (y : Kept) → TellsMore y (tells items y)
tells_more items y = record { more = heard y.touching items; told = refl; touching = refl }

said_more : (m : ℕ) (t : Result (List ℕ) Fault) (y : Kept) → TellsMore y (with_said m t y)
said_more m (Ok us) y = tells_more (said m us ∷ []) y
said_more m (Err f) y = as_before y

waits_more : (m : ℕ) (waits : Bool) (v : Value) (y : Kept) → TellsMore y (with_waiting m waits v y)
waits_more m true v y = record { more = []; told = sym (append-nil y.told); touching = refl }
waits_more m false v y = as_before y

pub kept_more : (f : Callee) (by : ℕ) (this : Value) (args : List Value) (h : Objects) (y : Kept) → TellsMore y (kept_by f by this args h y)
kept_more (callee.OfNode m) by this args h y = record { more = changes_told (node_turn y.answers m by this args h y.dom).state.change; told = refl; touching = refl }
kept_more (callee.Guard g) by this args h y = tells_more (guards.done_of g by args h).items y
kept_more (callee.Say m) by this args h y = said_more m (text_of h (argument 0 args)) y
kept_more (callee.Later m) by this args h y = waits_more m (is_closure h (argument 0 args)) (argument 0 args) y
kept_more (callee.Set cell) by this args h y = record { more = []; told = sym (append-nil y.told); touching = refl }
kept_more f by this args h y = as_before y

pub told_grows : (which by : ℕ) (this : Value) (args : List Value) (h : Objects) (y : Kept) → TellsMore y (page_table.answer which by this args h y).state
told_grows which by this args h y = by_callee (callee_of which)
  where
    by_callee : (f : Option Callee) → TellsMore y (turn_by f by this args h y).state
    by_callee (Some f) = kept_more f by this args h y
    by_callee None = as_before y
