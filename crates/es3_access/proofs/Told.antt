-- What is told of reads, writes and calls.
use Rattle.std.proofs.Common.{◌≡◌, ℕ, true, false, List, Option, Some, None, refl, sym, ap, ◌∙◌, cond}
use Rattle.caja_units.specs.Units.{is_hidden}
use Rattle.es3_objects.specs.declared.value.Value.{Value}
use Rattle.es3_objects.specs.declared.value.Value.TheVariants.{Obj}
use Rattle.es3_objects.specs.declared.value.Tag.{Tag}
use Rattle.es3_objects.specs.declared.value.Tag.TheVariants as tag
use Rattle.es3_heap.specs.Objects.{Objects, object_at, tag_of}
use Rattle.es3_language.specs.declared.Touch.{Touch}
use Rattle.es3_language.specs.declared.Touch.TheVariants as touch
use Rattle.es3_language.specs.Store.{Store}
use Rattle.es3_language.specs.References.{Ref, member}
use Rattle.es3_language.specs.Natives.{Touched}
use Rattle.es3_language.specs.Tasks.{Plan, Env}
use Rattle.es3_language.specs.Expressions.{callee_tag, note_of, note_member, note_call, on_read}
use Rattle.es3_access.specs.Notes.{named_touch, member_touch, call_touch, telling}

telling_touch : (w : Touch) (g : Tag) (k : Option (List ℕ)) (env : Env) (p : Plan) → telling (named_touch env.by w g k) p ≡ note_of w g k env p
telling_touch w tag.None k env p = refl
telling_touch w _ k env p = refl

pub telling_member : (w : Touch) (r : Ref) (env : Env) (s : Store) (p : Plan) → telling (member_touch w r env.by s.heap) p ≡ note_member w r env s p
telling_member w (member (Obj o) k) env s p =
    elim (is_hidden k) as (λ b. telling (cond b None (named_touch env.by w (tag_of (object_at s.heap o)) (Some k))) p ≡ cond b p (note_of w (tag_of (object_at s.heap o)) (Some k) env p)) [
      | true ↦ refl
      | false ↦ telling_touch w (tag_of (object_at s.heap o)) (Some k) env p
    ]
telling_member w _ env s p = refl

pub telling_call : (w : Touch) (f : Value) (env : Env) (s : Store) (p : Plan) → telling (call_touch w f env.by s.heap) p ≡ note_call w f env s p
telling_call w f env s p = telling_touch w (callee_tag s.heap f) None env p

-- a read, where there is something to read
pub read_known : (r : Ref) (env : Env) (s : Store) (found : Option Value) (v : Value) (n : Option Touched) (go : Value → Store → Plan) → found ≡ Some v → n ≡ member_touch touch.Get r env.by s.heap → telling n (go v s) ≡ on_read found r env s go
read_known r env s found v n go known note =
    ap (λ i. telling i (go v s)) note ∙ telling_member touch.Get r env s (go v s) ∙ ap (λ o. on_read o r env s go) (sym known)

-- a member that is touched, where the store has these objects and this module runs
pub telling_found : (w : Touch) (r : Ref) (by : ℕ) (h : Objects) (n : Option Touched) (env : Env) (s : Store) (p : Plan) → n ≡ member_touch w r by h → env.by ≡ by → s.heap ≡ h → telling n p ≡ note_member w r env s p
telling_found w r by h n env s p note running heap =
    ap (λ i. telling i p) (note ∙ ap (λ b. member_touch w r b h) (sym running) ∙ ap (λ k. member_touch w r env.by k) (sym heap)) ∙ telling_member w r env s p

-- a function that is called, where the store has these objects and this module runs
pub telling_callee : (w : Touch) (f : Value) (by : ℕ) (h : Objects) (n : Option Touched) (env : Env) (s : Store) (p : Plan) → n ≡ call_touch w f by h → env.by ≡ by → s.heap ≡ h → telling n p ≡ note_call w f env s p
telling_callee w f by h n env s p note running heap =
    ap (λ i. telling i p) (note ∙ ap (λ b. call_touch w f b h) (sym running) ∙ ap (λ k. call_touch w f env.by k) (sym heap)) ∙ telling_call w f env s p
