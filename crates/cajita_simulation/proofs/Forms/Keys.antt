-- What the acts of a loop over keys do, as plans: each key is a task of its own.
use Rattle.std.proofs.Common.{◌≡◌, ℕ, suc, Bool, true, false, List, [], ◌∷◌, Option, Some, None, cond, refl, ap, ◌∙◌, arith}
use Rattle.std.specs.Prelude.{nat_eq}
use Rattle.std.proofs.lemmas.Bool.Decides.{nat_tests}
use Rattle.std.proofs.Math.Path.{fun_ext}
use Rattle.plans.specs.Plans.{ends, enter}
use Rattle.acts.specs.Acts.{task, Places, put}
use Rattle.cajita_tree.specs.Tree as c
use Rattle.cajita_meaning.specs.World.{Value, World}
use Rattle.cajita_meaning.specs.Asking.{a_key}
use Rattle.cajita_meaning.specs.Direct as Direct
use Rattle.cajita_simulation.proofs.Doing as Source
use Rattle.cajita_simulation.proofs.Relation.{Here}
use Rattle.cajita_simulation.proofs.Forms.Turns.{passed}

-- the loop: what is written, the body and the labels before it, and the value whose keys they are
pub record KeyLoop : Type 0 where
  pub target : c.Tree c.target
  pub body : c.Tree c.stmt
  pub labels : List (List ℕ)
  pub object : Value

-- one key, with those behind it
abbrev pub key_of : KeyLoop → List ℕ → List (List ℕ) → Here → Source.Task
key_of L k ks H = task (a_key k ks L.target L.body L.labels H.around) H.by (L.object ∷ [])

abbrev pub turn_keys : KeyLoop → List (List ℕ) → Here → World → Source.Plan
turn_keys L [] H w = ends (Source.normal None) w
turn_keys L (k ∷ ks) H w = enter (key_of L k ks H) w ends

-- after the body
abbrev pub key_next : KeyLoop → List (List ℕ) → Here → Source.Completion → World → Source.Plan
key_next L ks H (Source.normal v) w = turn_keys L ks H w
key_next L ks H (Source.continued l) w = cond (Source.is_to l L.labels) (turn_keys L ks H w) (ends (Source.continued l) w)
key_next L ks H (Source.broke l) w = cond (Source.is_to l L.labels) (ends (Source.normal None) w) (ends (Source.broke l) w)
key_next L ks H e w = ends e w

abbrev pub key_body : KeyLoop → List (List ℕ) → Here → World → Source.Plan
key_body L ks H w = enter (Source.effect_of L.body [] H) w (key_next L ks H)

-- the key's task: it is asked for, and then written before the body
abbrev pub key_plan : KeyLoop → List ℕ → List (List ℕ) → Here → World → Source.Plan
key_plan L k ks H w = Source.act_plan H 1 (Source.kept (L.object ∷ [])) (Direct.key_act k ks L.target L.body L.labels H.around 0) w

-- the value stands at a place
pub keys_is : (L : KeyLoop) (ks : List (List ℕ)) (H : Here) (p j : ℕ) (at : Places Value) (w : World) → at j ≡ L.object ∷ [] → Source.act_plan H p at (Direct.turn_keys ks L.target L.body L.labels H.around j) w ≡ turn_keys L ks H w
keys_is L [] H p j at w is = refl
keys_is L (k ∷ ks) H p j at w is =
    let back : Source.Completion → World → Source.Plan = λ e w1. Source.ended_by H p at Direct.pass e w1 in
    let same : back ≡ ends = fun_ext (λ e. fun_ext (λ w1. passed H p at e w1)) in
    ap (λ us. enter (task (a_key k ks L.target L.body L.labels H.around) H.by us) w back) is ∙ ap (enter (key_of L k ks H) w) same

-- the place 0 stays what it was
behind : (p : ℕ) (vs : List Value) (at : Places Value) → put (suc p) vs at 0 ≡ at 0
behind p vs at = let other : nat_eq 0 (suc p) ≡ false = grind (arith, nat_tests) in ap (λ b. cond b vs (at 0)) other

went : (L : KeyLoop) (ks : List (List ℕ)) (H : Here) (p : ℕ) (at : Places Value) (l : Option (List ℕ)) (w : World) (b : Bool) → at 0 ≡ L.object ∷ [] → Source.act_plan H (suc (suc p)) (put (suc p) [] at) (cond b (Direct.turn_keys ks L.target L.body L.labels H.around 0) (Direct.pass (Direct.continues l) (suc p))) w ≡ cond b (turn_keys L ks H w) (ends (Source.continued l) w)
went L ks H p at l w true is = keys_is L ks H (suc (suc p)) 0 (put (suc p) [] at) w (behind p [] at ∙ is)
went L ks H p at l w false is = refl

left : (H : Here) (p : ℕ) (at : Places Value) (k : Option (List ℕ)) (w : World) (b : Bool) → Source.act_plan H (suc p) (put p [] at) (cond b Direct.finish (Direct.pass (Direct.breaks k) p)) w ≡ cond b (ends (Source.normal None) w) (ends (Source.broke k) w)
left H p at k w true = refl
left H p at k w false = refl

next_is : (L : KeyLoop) (ks : List (List ℕ)) (H : Here) (p : ℕ) (at : Places Value) → at 0 ≡ L.object ∷ [] → (e : Source.Completion) (w : World) → Source.ended_by H (suc p) at (Direct.on_turn L.labels (Direct.turn_keys ks L.target L.body L.labels H.around 0)) e w ≡ key_next L ks H e w
next_is L ks H p at is (Source.gave v) w = passed H (suc p) at (Source.gave v) w
next_is L ks H p at is (Source.normal None) w = keys_is L ks H (suc (suc p)) 0 (put (suc p) [] at) w (behind p [] at ∙ is)
next_is L ks H p at is (Source.normal (Some v)) w = keys_is L ks H (suc (suc p)) 0 (put (suc p) (v ∷ []) at) w (behind p (v ∷ []) at ∙ is)
next_is L ks H p at is (Source.broke k) w = left H (suc p) at k w (Source.is_to k L.labels)
next_is L ks H p at is (Source.continued l) w = went L ks H p at l w (Source.is_to l L.labels) is
next_is L ks H p at is (Source.returned v) w = passed H (suc p) at (Source.returned v) w
next_is L ks H p at is (Source.threw v) w = passed H (suc p) at (Source.threw v) w

pub body_is : (L : KeyLoop) (ks : List (List ℕ)) (H : Here) (p : ℕ) (at : Places Value) (w : World) → at 0 ≡ L.object ∷ [] → Source.act_plan H (suc p) at (Direct.key_body ks L.target L.body L.labels H.around 0) w ≡ key_body L ks H w
body_is L ks H p at w is =
    let back : Source.Completion → World → Source.Plan = λ e w1. Source.ended_by H (suc p) at (Direct.on_turn L.labels (Direct.turn_keys ks L.target L.body L.labels H.around 0)) e w1 in
    let same : back ≡ key_next L ks H = fun_ext (λ e. fun_ext (λ w1. next_is L ks H p at is e w1)) in
    ap (enter (Source.effect_of L.body [] H) w) same
