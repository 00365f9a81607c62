-- The global names, step by step.
use Rattle.std.proofs.Common.{◌≡◌, ℕ, ◌+◌, [], ◌∷◌, length, ap, ◌∙◌, arith}
use Rattle.std.specs.Prelude.{codes}
use Rattle.std.proofs.lemmas.List.{length-append}
use Rattle.es3_objects.specs.declared.value.FuncKind.TheVariants.{Constructor}
use Rattle.es3_heap.specs.Objects.{Objects}
use Rattle.es3_heap.specs.Making.{made_function}
use Rattle.heap_rows.specs.Opening.{runtime_id}
use Rattle.global_names.specs.Opening.{object_number, function_number, array_number, math_place, with_hidden, with_names, with_functions, with_globals, with_prototypes, with_marks, with_globals_named, with_global_names}

one_more : (k m : ℕ) (h : Objects) → length (made_function (Constructor k) m h).list ≡ length h.list + 1
one_more k m h = length-append h.list (_ ∷ [])

pub functions_long : (h : Objects) → length (with_functions h).list ≡ length h.list + 3
functions_long h =
    let one = made_function (Constructor object_number) 0 h in
    let two = made_function (Constructor function_number) 0 one in
    let a = one_more object_number 0 h in
    let b = one_more function_number 0 one in
    let c = one_more array_number 0 two in
    omega (arith, a, b, c)

pub named_is : (h a b c d e f i : Objects) (o g : ℕ) → o ≡ length h.list → a ≡ with_functions h → g ≡ length a.list → b ≡ with_globals (length a.list) a → c ≡ with_names g o b
    → d ≡ with_hidden g (codes "Math") math_place c → e ≡ with_hidden g (codes "___") runtime_id d → f ≡ with_prototypes e → i ≡ with_marks f → i ≡ with_global_names h
unfolding with_global_names
named_is h a b c d e f i o g first made last globals named math runtime methods marks =
    let there : length a.list ≡ length h.list + 3 = ap (λ q. length q.list) made ∙ functions_long h in
    marks ∙ ap with_marks (methods ∙ ap with_prototypes (runtime ∙ ap (with_hidden g (codes "___") runtime_id) (math ∙ ap (with_hidden g (codes "Math") math_place) (named
    ∙ ap (with_names g o) (globals ∙ ap (with_globals (length a.list)) made)))))
    ∙ ap (λ n. with_marks (with_prototypes (with_hidden g (codes "___") runtime_id (with_hidden g (codes "Math") math_place (with_names g o (with_globals n (with_functions h))))))) there
    ∙ ap (λ n. with_marks (with_prototypes (with_hidden n (codes "___") runtime_id (with_hidden n (codes "Math") math_place (with_names n o (with_globals (length h.list + 3) (with_functions h))))))) (last ∙ there)
    ∙ ap (λ n. with_marks (with_prototypes (with_globals_named (length h.list + 3) n (with_functions h)))) first
