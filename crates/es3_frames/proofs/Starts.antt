-- What stands where a statement or a key may begin.
use Rattle.std.proofs.Common.{◌≡◌, ℕ, ◌+◌, max, Bool, false, cond, List, [], ◌∷◌, length, map, eqb, refl, ap, sym, ◌∙◌}
use Rattle.std.proofs.lemmas.Bool.{eqb-false}
use Rattle.es3_tree.specs.Tree as t
use Rattle.es3_tree.specs.PlacedView.{of_fields}
use Rattle.es3_tree.specs.declared.Name.{Name}
use Rattle.es3_tree.specs.declared.Expr.{Expr}
use Rattle.es3_grammar.specs.Plain.{deep}
use Rattle.es3_grammar.specs.Frames.{Stack, body}
use Rattle.es3_grammar.specs.Ends.{height_behind, height_key, height_start}
use Rattle.es3_frames.specs.Lists.{field_of}
use Rattle.es3_frames.specs.Views.{lists}
use Rattle.es3_frames.proofs.Rows.{fields_mapped}

starts : (f : Stack) → height_start f ≡ height_behind f (cond (lists f) 0 1)
starts [] = refl
starts (body b ss ∷ f) = refl
starts (_ ∷ f) = refl

-- a list of statements needs none
pub start_at : (f : Stack) (b : Bool) → lists f ≡ b → height_start f ≡ height_behind f (cond b 0 1)
start_at f b e = starts f ∙ ap (λ x. height_behind f (cond x 0 1)) e

-- behind a property and its comma one more is wanted
pub one_key : (n : ℕ) (xs : List (Name × Expr)) → n ≡ length xs → eqb n 0 ≡ false → height_key (map field_of xs) ≡ 1 + max (deep t.fields (of_fields xs)) 1
one_key n [] e h = absurd (eqb-false n 0 h e)
one_key n (x ∷ xs) e h = ap (λ fs. 1 + max (deep t.fields fs) 1) (sym (fields_mapped (x ∷ xs)))
