-- The table of numbers finds what stands in the list.
use Rattle.std.proofs.Common.{◌≡◌, ℕ, suc, ◌+◌, Bool, true, false, true≢false, Bor, List, [], ◌∷◌, ◌++◌, length, cond, Option, Some, None, refl, ap, sym, ◌∙◌, arith}
use Rattle.std.specs.Prelude.{is_some, if◌then◌else◌}
use Rattle.std.specs.Option.{option_copied}
use Rattle.std.specs.List.{position_from}
use Rattle.std.specs.Map.{lookup, keys_of}
use Rattle.indexmap.specs.IndexMap.{insert_entry}
use Rattle.property_tables.proofs.Entries.{insert-second}
use Rattle.caja_units.specs.Units.{same_units}
use Rattle.page_roots.specs.Roots.{Roots, place_of, with_root}
use Rattle.page_roots.specs.Numbered.{numbered}

found_from : (t : List ℕ → Bool) (k : ℕ) (rs : Roots) → lookup t (numbered k rs) ≡ position_from t k (keys_of rs)
found_from t k [] = refl
found_from t k (r ∷ rs) =
    let same : suc k ≡ k + 1 = omega arith in
    ap (cond (t r.0) (Some k)) (found_from t (suc k) rs ∙ ap (λ j. position_from t j (keys_of rs)) same)

pub found : (id : List ℕ) (rs : Roots) → lookup (same_units id) (numbered 0 rs) ≡ place_of rs id
found id rs = found_from (same_units id) 0 rs

numbered-push : (k : ℕ) (rs : Roots) (r : List ℕ × ℕ) → numbered k (rs ++ r ∷ []) ≡ numbered k rs ++ (r.0, k + length rs) ∷ []
numbered-push k [] r = let same : k ≡ k + 0 = omega arith in ap (λ n. (r.0, n) ∷ []) same
numbered-push k (x ∷ rs) r =
    let same : suc k + length rs ≡ k + suc (length rs) = omega arith in
    ap (λ l. (x.0, k) ∷ l) (numbered-push (suc k) rs r ∙ ap (λ n. numbered (suc k) rs ++ (r.0, n) ∷ []) same)

append_none : {A : Type 0} (xs : List A) → xs ++ [] ≡ xs
append_none [] = refl
append_none (x ∷ xs) = ap (λ l. x ∷ l) (append_none xs)

-- a root that isn't there goes last, in the table as in the list
pub numbered-new : (id : List ℕ) (m : ℕ) (rs : Roots) → place_of rs id ≡ None → insert_entry same_units (numbered 0 rs) id (length rs) ≡ numbered 0 (rs ++ (id, m) ∷ [])
numbered-new id m rs h =
    ap (λ l. insert_entry same_units l id (length rs)) (sym (append_none (numbered 0 rs)))
    ∙ insert-second id (length rs) (numbered 0 rs) [] (found id rs ∙ h)
    ∙ sym (numbered-push 0 rs (id, m) ∙ ap (λ n. numbered 0 rs ++ (id, n) ∷ []) (let z : 0 + length rs ≡ length rs = omega arith in z))

copied_some : (o : Option (Bor ℕ)) → is_some (option_copied o) ≡ is_some o
copied_some None = refl
copied_some (Some x) = refl

-- what the table tells of an id
pub place_told : (id : List ℕ) (rs : Roots) (ns : List (List ℕ × ℕ)) (o : Option (Bor ℕ)) (b : Bool) → ns ≡ numbered 0 rs → option_copied o ≡ lookup (same_units id) ns → b ≡ is_some o → is_some (place_of rs id) ≡ b
place_told id rs ns o b are is e =
    ap is_some (sym (found id rs)) ∙ ap (λ l. is_some (lookup (same_units id) l)) (sym are) ∙ ap is_some (sym is) ∙ copied_some o ∙ sym e

pub is_there : (id : List ℕ) (m : ℕ) (rs : Roots) → is_some (place_of rs id) ≡ true → rs ≡ with_root m id rs
is_there id m rs h = sym (ap (λ (b : Bool). if b then rs else rs ++ (id, m) ∷ []) h)

pub is_new : (id : List ℕ) (m : ℕ) (rs : Roots) → is_some (place_of rs id) ≡ false → rs ++ (id, m) ∷ [] ≡ with_root m id rs
is_new id m rs h = sym (ap (λ (b : Bool). if b then rs else rs ++ (id, m) ∷ []) h)

pub none_of : (o : Option ℕ) → is_some o ≡ false → o ≡ None
none_of None h = refl
none_of (Some k) h = absurd (true≢false h)
