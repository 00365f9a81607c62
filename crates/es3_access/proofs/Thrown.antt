-- What is thrown.
use Rattle.std.proofs.Common.{◌≡◌, ℕ, List, length, ap, ◌∙◌}
use Rattle.std.specs.Prelude.{codes}
use Rattle.plans.specs.Plans.{ends}
use Rattle.es3_objects.specs.declared.value.Value.TheVariants.{Obj}
use Rattle.es3_objects.specs.declared.value.Proto.TheVariants as proto
use Rattle.es3_heap.specs.Objects.{Objects, with_object}
use Rattle.es3_heap.specs.Making.{error_object}
use Rattle.es3_language.specs.Meaning.{Plan, threw, throw_error}
use Rattle.es3_moves.specs.Texts.{store_of}
use Rattle.es3_moves.specs.declared.texts.Texts.{Texts}

pub thrown : (message name units : List ℕ) (h h' : Objects) (t : Texts) (o : ℕ) → o ≡ length h.list → h' ≡ with_object h (error_object proto.TypeError name units) → name ≡ codes "TypeError" → units ≡ message → ◌≡◌ {A = Plan} (ends (threw (Obj o)) (store_of h' t)) (throw_error message (store_of h t))
thrown message name units h h' t o id store is text =
    let made = λ (n u : List ℕ). with_object h (error_object proto.TypeError n u) in
    let thrown_by = λ (k : ℕ) (g : Objects). let p : Plan = ends (threw (Obj k)) (store_of g t) in p in
    ap (λ k. thrown_by k h') id
    ∙ ap (λ g. thrown_by (length h.list) g) store
    ∙ ap (λ n. thrown_by (length h.list) (made n units)) is
    ∙ ap (λ u. thrown_by (length h.list) (made (codes "TypeError") u)) text
