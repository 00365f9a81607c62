-- Whether two values are nodes of one root is the same on both sides.
use Rattle.std.proofs.Common.{◌≡◌, ℕ, false, List, [], ◌∷◌, refl, sym, ap}
use Rattle.es3_objects.specs.declared.value.Tag.{Tag}
use Rattle.es3_objects.specs.declared.value.Tag.TheVariants as tag
use Rattle.es3_heap.specs.Objects.{Objects}
use Rattle.rows.specs.Names.{of_cajita, of_math, code_of}
use Rattle.cajita_meaning.specs.World.{Name, built_name, tools_name, facet_name, Value, object}
use Rattle.cajita_meaning.specs.Doing as direct
use Rattle.heap_rows.specs.Natives.{tag_of_code}
use Rattle.heap_rows.specs.Doing as es3
use Rattle.row_simulation.proofs.Relation.{EsValue, tag_of_name, Val}
use Rattle.row_simulation.proofs.Row.{by_value}

no_root_of_code : (c : List ℕ) (t : Tag) → false ≡ es3.same_root_by (tag_of_code c) t
no_root_of_code [] t = refl
no_root_of_code (n ∷ []) t = refl
no_root_of_code (n ∷ k ∷ []) t = refl
no_root_of_code (n ∷ k ∷ j ∷ c) t = refl

root_of_no_code : (root k : ℕ) (c : List ℕ) → false ≡ es3.same_root_by (tag.Facet root k) (tag_of_code c)
root_of_no_code root k [] = refl
root_of_no_code root k (n ∷ []) = refl
root_of_no_code root k (n ∷ i ∷ []) = refl
root_of_no_code root k (n ∷ i ∷ j ∷ c) = refl

other_name : (root k : ℕ) (n : Name) → direct.same_root (object (facet_name root k)) (object n) ≡ es3.same_root_by (tag.Facet root k) (tag_of_name n)
other_name root k (built_name f) = root_of_no_code root k (code_of f)
other_name root k (tools_name of_cajita) = refl
other_name root k (tools_name of_math) = refl
other_name root k n = refl

pub same_root_is : (h : Objects) (v : Value) (e : EsValue) → Val h v e → (u : Value) (f : EsValue) → Val h u f → direct.same_root v u ≡ es3.same_root_by (es3.named h e) (es3.named h f)
same_root_is h v e p u f q = by_value h (λ v e. direct.same_root v u ≡ es3.same_root_by (es3.named h e) (es3.named h f)) refl refl (λ a. refl) (λ n. refl) (λ us. refl) (λ n i s. rw s (by_name n)) v e p
  where
    by_name : (n : Name) → direct.same_root (object n) u ≡ es3.same_root_by (tag_of_name n) (es3.named h f)
    by_name (facet_name root k) = by_value h (λ u f. direct.same_root (object (facet_name root k)) u ≡ es3.same_root_by (tag.Facet root k) (es3.named h f)) refl refl (λ a. refl) (λ n. refl) (λ us. refl) (λ n i s. rw s (other_name root k n)) u f q
    by_name (built_name k) = no_root_of_code (code_of k) (es3.named h f)
    by_name (tools_name of_cajita) = refl
    by_name (tools_name of_math) = refl
    by_name n = refl
