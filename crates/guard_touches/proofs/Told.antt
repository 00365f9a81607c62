-- Which object with a name is touched, and that touches are printed where they are asked for.
use Rattle.std.proofs.Common.{◌≡◌, ℕ, true, false, List, [], ◌∷◌, Option, Some, None, Result, Ok, Err, cond, refl, ap}
use Rattle.std.specs.Prelude.{is_some}
use Rattle.plans.specs.Plans.{Fault}
use Rattle.es3_objects.specs.declared.value.Value.{Value}
use Rattle.es3_objects.specs.declared.value.Value.TheVariants as v
use Rattle.es3_objects.specs.declared.value.Tag.{Tag}
use Rattle.es3_objects.specs.declared.value.Tag.TheVariants as tag
use Rattle.es3_heap.specs.Objects.{Objects, object_at, tag_of}
use Rattle.es3_convert.specs.Conversions.{text_of}
use Rattle.rows.specs.Rows.{Touch, to_new}
use Rattle.heap_rows.specs.Doing.{Told, touched, said, changed_node, ended, heard, told_of, touched_value}
use Rattle.row_outcomes.specs.Arguments.{argument}
use Rattle.public_properties.specs.Functions.{function_kind}
use Rattle.guard_runtime.specs.declared.Guard.{Guard}
use Rattle.guard_runtime.specs.declared.Guard.TheVariants as g
use Rattle.guard_runtime.specs.Guards.{list_of}
use Rattle.guard_touches.specs.Touches.{at_text, with_list, made_by, touches_of}

-- all is heard where touches are
pub all_heard : (l : List Told) → heard true l ≡ l
all_heard [] = refl
all_heard (touched m t g k ∷ l) = ap (λ r. touched m t g k ∷ r) (all_heard l)
all_heard (said m us ∷ l) = ap (λ r. said m us ∷ r) (all_heard l)
all_heard (changed_node root k c ∷ l) = ap (λ r. changed_node root k c ∷ r) (all_heard l)
all_heard (ended x e ∷ l) = ap (λ r. ended x e ∷ r) (all_heard l)

-- no touch is heard where none are asked for

tag_unheard : (by : ℕ) (t : Touch) (g : Tag) (k : List (List ℕ)) → heard false (told_of by t g k) ≡ []
tag_unheard by t tag.None k = refl
tag_unheard by t g k = refl

value_unheard : (by : ℕ) (t : Touch) (x : Value) (h : Objects) (k : List (List ℕ)) → heard false (touched_value by t x h k) ≡ []
value_unheard by t (v.Obj o) h k = tag_unheard by t (tag_of (object_at h o)) k
value_unheard by t x h k = refl

text_unheard : (by : ℕ) (t : Touch) (x : Value) (us : Result (List ℕ) Fault) (h : Objects) → heard false (at_text by t x us h) ≡ []
text_unheard by t x (Ok us) h = value_unheard by t x h (us ∷ [])
text_unheard by t x (Err f) h = refl

list_unheard : (list : Option (List Value)) (items : List Told) → heard false items ≡ [] → heard false (with_list list items) ≡ []
list_unheard None items none = refl
list_unheard (Some xs) items none = none

made_unheard : (by : ℕ) (f : Value) (h : Objects) → heard false (made_by by f h) ≡ []
made_unheard by f h = elim (is_some (function_kind h f)) as (λ b. heard false (cond b (touched_value by to_new f h []) []) ≡ []) [
  | true ↦ value_unheard by to_new f h []
  | false ↦ refl
]

pub unheard : (guard : Guard) (by : ℕ) (vs : List Value) (h : Objects) → heard false (touches_of guard by vs h) ≡ []
unheard g.ReadPub by vs h = text_unheard by _ (argument 0 vs) (text_of h (argument 1 vs)) h
unheard g.SetPub by vs h = text_unheard by _ (argument 0 vs) (text_of h (argument 1 vs)) h
unheard g.DeletePub by vs h = text_unheard by _ (argument 0 vs) (text_of h (argument 1 vs)) h
unheard g.InPub by vs h = text_unheard by _ (argument 1 vs) (text_of h (argument 0 vs)) h
unheard g.KeysPub by vs h = value_unheard by _ (argument 0 vs) h []
unheard g.CallPub by vs h = list_unheard (list_of h (argument 2 vs)) _ (text_unheard by _ (argument 0 vs) (text_of h (argument 1 vs)) h)
unheard g.Construct by vs h = list_unheard (list_of h (argument 1 vs)) (made_by by (argument 0 vs) h) (made_unheard by (argument 0 vs) h)
unheard guard by vs h = refl
