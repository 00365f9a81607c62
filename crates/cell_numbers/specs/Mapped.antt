-- A language of forms under maps of its values, its endings, its stores and what it tells: no form looks into any of them, so where the world's answers are the
-- same under the maps, so is every run.
use Rattle.std.specs.Prelude.{◌≡◌, ℕ, List, map, option_map}
use Rattle.plans.specs.Plans.{Plan, ends, stops, enter, tick, told, Run, over, stopped, out}
use Rattle.acts.specs.Acts.{Task, task, Reply, answer, fault, telling, stepping, calling, Forms}

-- the maps
pub record Maps (V C X I : Type 0) : Type 0 where
  pub value : V → V
  pub ending : C → C
  pub store : X → X
  pub item : I → I

-- what is entered, with the values that it was given mapped
abbrev pub mapped_task : {T V C X I : Type 0} → Maps V C X I → Task T V → Task T V
mapped_task M t = task t.form t.by (map M.value t.given)

-- the second answer is the first one under the maps
abbrev pub MappedReply : {T A V C X I : Type 0} → Maps V C X I → Reply (Task T V) C A V X I → Reply (Task T V) C A V X I → Type 0
MappedReply M (answer a vs x) (answer b us y) = (b ≡ a) × (us ≡ map M.value vs) × (y ≡ M.store x)
MappedReply M (fault f x) (fault g y) = (g ≡ f) × (y ≡ M.store x)
MappedReply M (telling i r) (telling j q) = (j ≡ M.item i) × MappedReply M r q
MappedReply M (stepping x r) (stepping y q) = (y ≡ M.store x) × MappedReply M r q
MappedReply {C = C} {X = X} M (calling t x back) (calling u y forth) = (u ≡ mapped_task M t) × (y ≡ M.store x) × ((c : C) (x' : X) → MappedReply M (back c x') (forth (M.ending c) (M.store x')))
MappedReply M r q = ⊥

-- and so is the second plan
abbrev pub MappedPlan : {T V C X I : Type 0} → Maps V C X I → Plan (Task T V) C X I → Plan (Task T V) C X I → Type 0
MappedPlan M (ends c x) (ends e y) = (e ≡ M.ending c) × (y ≡ M.store x)
MappedPlan M (stops f x) (stops g y) = (g ≡ f) × (y ≡ M.store x)
MappedPlan M (told i p) (told j q) = (j ≡ M.item i) × MappedPlan M p q
MappedPlan M (tick x p) (tick y q) = (y ≡ M.store x) × MappedPlan M p q
MappedPlan {C = C} {X = X} M (enter t x next) (enter u y forth) = (u ≡ mapped_task M t) × (y ≡ M.store x) × ((c : C) (x' : X) → MappedPlan M (next c x') (forth (M.ending c) (M.store x')))
MappedPlan M p q = ⊥

-- the same run, with what is kept mapped too
abbrev pub mapped_run : {V C X I S : Type 0} → Maps V C X I → (S → S) → Run C X S → Run C X S
mapped_run M kept (over c x z n) = over (M.ending c) (M.store x) (kept z) n
mapped_run M kept (stopped f x z n) = stopped f (M.store x) (kept z) n
mapped_run M kept (out x z n) = out (M.store x) (kept z) n

-- the maps fit a language of forms: endings and their values go along, and the one law: what the world answers goes along
pub record Fits {T E O A V C X I : Type 0} (F : Forms T E O A V C X I) (M : Maps V C X I) : Type 0 where
  pub shapes : (c : C) → F.shape (M.ending c) ≡ F.shape c
  pub values : (c : C) → F.values (M.ending c) ≡ map M.value (F.values c)
  pub value_in : (c : C) → F.value_in (M.ending c) ≡ option_map M.value (F.value_in c)
  pub endings : (e : E) (vs : List V) → F.ending e (map M.value vs) ≡ M.ending (F.ending e vs)
  pub replies : (o : O) (m : ℕ) (vs : List V) (x : X) → MappedReply M (F.reply o m vs x) (F.reply o m (map M.value vs) (M.store x))
