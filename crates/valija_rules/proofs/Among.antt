-- A key that is put into a table is found there, and so is what was found before.
use Rattle.std.proofs.Common.{◌≡◌, ℕ, ◌+◌, ◌<◌, Bool, true, false, ◌||◌, cond, Option, List, [], ◌∷◌, ◌++◌, length, take, drop, get_or, Some, None, is_some, Bor, refl, ap, sym, ◌∙◌}
use Rattle.std.proofs.lemmas.List.{at_drop_more, take_more}
use Rattle.std.specs.Cmp.Lexicographic.{same_text}
use Rattle.std.specs.Map.{lookup}
use Rattle.std.specs.Option.{option_copied}
use Rattle.es3_tree.specs.declared.Name.{Name}
use Rattle.es3_tree.specs.declared.Expr.{Expr}
use Rattle.caja_units.specs.Units.{same_units}
use Rattle.cajita_names.specs.Rules.{is_among}
use Rattle.property_tables.specs.Indexed.{insert_entry}
use Rattle.es3_tree.specs.PlacedView as v
use Rattle.cajita_rules.specs.Faults.{Fault, word_fault, repeated}
use Rattle.cajita_rules.specs.Found.{first_in, earlier_of}
use Rattle.cajita_rules.specs.Keys.{keys_of}
use Rattle.cajita_rules.proofs.Order.{one-more}

pub found-there : {T : Type 0} (r : Option (Bor T)) → is_some r ≡ is_some (option_copied r)
found-there None = refl
found-there (Some x) = refl

among-pushed : (k key : List ℕ) (ks : List (List ℕ)) → is_among (ks ++ key ∷ []) k ≡ cond (same_units k key) true (is_among ks k)
among-pushed k key [] = elim (same_units k key) as (λ b. (b || false) ≡ cond b true false) [
  | true ↦ refl
  | false ↦ refl
]
among-pushed k key (n ∷ ks) = elim (same_units k n) as (λ c. (c || is_among (ks ++ key ∷ []) k) ≡ cond (same_units k key) true (c || is_among ks k)) [
  | true ↦ elim (same_units k key) as (λ b. true ≡ cond b true true) [
    | true ↦ refl
    | false ↦ refl
  ]
  | false ↦ among-pushed k key ks
]

keys-pushed : (fs : List (Name × Expr)) (f : Name × Expr) → keys_of (fs ++ f ∷ []) ≡ keys_of fs ++ f.0.text ∷ []
keys-pushed [] f = refl
keys-pushed (g ∷ fs) f = ap (λ ks. g.0.text ∷ ks) (keys-pushed fs f)

keys-more : (fs : List (Name × Expr)) (i : ℕ) (f : Name × Expr) → i < length fs → f ≡ get_or fs i f → keys_of (take (i + 1) fs) ≡ keys_of (take i fs) ++ f.0.text ∷ []
keys-more fs i f within read = ap keys_of (take_more fs i f within ∙ ap (λ x. take i fs ++ x ∷ []) (sym read)) ∙ keys-pushed (take i fs) f

-- a property, and those behind it
repeated_at : (fs : List (Name × Expr)) (i : ℕ) (f : Name × Expr) → i < length fs → f ≡ get_or fs i f
    → repeated (keys_of (take i fs)) (v.of_fields (drop i fs)) ≡ word_fault 9 (v.word f.0) (is_among (keys_of (take i fs)) f.0.text) ++ repeated (keys_of (take (i + 1) fs)) (v.of_fields (drop (i + 1) fs))
repeated_at fs i f within read =
    let before = keys_of (take i fs) in
    let rest = v.of_fields (drop (i + 1) fs) in
    at_drop_more (λ l. repeated before (v.of_fields l)) fs i f within
    ∙ ap (λ x. repeated before (v.of_fields (x ∷ drop (i + 1) fs))) (sym read)
    ∙ ap (λ l. word_fault 9 (v.word f.0) (is_among before f.0.text) ++ repeated l rest) (sym (keys-more fs i f within read))

-- with one property more
pub repeated-turn : (fs : List (Name × Expr)) (i : ℕ) (f : Name × Expr) (again : Bool) (found here more : Option Fault) → i < length fs → f ≡ get_or fs i f
    → again ≡ is_among (keys_of (take i fs)) f.0.text → here ≡ first_in (word_fault 9 (v.word f.0) again) → more ≡ earlier_of found here
    → earlier_of more (first_in (repeated (keys_of (take (i + 1) fs)) (v.of_fields (drop (i + 1) fs)))) ≡ earlier_of found (first_in (repeated (keys_of (take i fs)) (v.of_fields (drop i fs))))
repeated-turn fs i f again found here more within read told at now =
    one-more found here more (word_fault 9 (v.word f.0) (is_among (keys_of (take i fs)) f.0.text)) _ _
    (at ∙ ap (λ b. first_in (word_fault 9 (v.word f.0) b)) told) now (repeated_at fs i f within read)

module _ {P : Type 0} where
  found-inserted : (k key : List ℕ) (p : P) (es : List (List ℕ × P)) → is_some (lookup (same_units k) (insert_entry same_units es key p)) ≡ cond (same_units k key) true (is_some (lookup (same_units k) es))
  found-inserted k key p [] = elim (same_units k key) as (λ b. is_some (cond b (Some p) None) ≡ cond b true false) [
    | true ↦ refl
    | false ↦ refl
  ]
  found-inserted k key p (e ∷ es) =
      let cases = elim (same_units key e.0) as (λ b. same_units key e.0 ≡ b → is_some (lookup (same_units k) (cond b ((e.0, p) ∷ es) (e ∷ insert_entry same_units es key p))) ≡ cond (same_units k key) true (is_some (cond (same_units k e.0) (Some e.1) (lookup (same_units k) es)))) [
        | true ↦ λ is.
            let same : same_units k key ≡ same_units k e.0 = ap (same_units k) (same_text key e.0 (sym is)) in
            rw same (elim (same_units k e.0) as (λ c. is_some (cond c (Some p) (lookup (same_units k) es)) ≡ cond c true (is_some (cond c (Some e.1) (lookup (same_units k) es)))) [
              | true ↦ refl
              | false ↦ refl
            ])
        | false ↦ λ is. elim (same_units k e.0) as (λ c. is_some (cond c (Some e.1) (lookup (same_units k) (insert_entry same_units es key p))) ≡ cond (same_units k key) true (is_some (cond c (Some e.1) (lookup (same_units k) es)))) [
          | true ↦ elim (same_units k key) as (λ b. true ≡ cond b true true) [
            | true ↦ refl
            | false ↦ refl
          ]
          | false ↦ found-inserted k key p es
        ]
      ] in cases refl

  -- where the keys of the first i fields are found, those of one field more are
  pub found-more : (fs : List (Name × Expr)) (i : ℕ) (f : Name × Expr) (p : P) (es new : List (List ℕ × P)) → i < length fs → f ≡ get_or fs i f → new ≡ insert_entry same_units es f.0.text p
      → ((k : List ℕ) → is_some (lookup (same_units k) es) ≡ is_among (keys_of (take i fs)) k) → (k : List ℕ) → is_some (lookup (same_units k) new) ≡ is_among (keys_of (take (i + 1) fs)) k
  found-more fs i f p es new within read put before k =
      let keys : is_among (keys_of (take (i + 1) fs)) k ≡ cond (same_units k f.0.text) true (is_among (keys_of (take i fs)) k) = ap (λ ks. is_among ks k) (keys-more fs i f within read) ∙ among-pushed k f.0.text (keys_of (take i fs)) in
      ap (λ l. is_some (lookup (same_units k) l)) put ∙ found-inserted k f.0.text p es ∙ ap (λ b. cond (same_units k f.0.text) true b) (before k) ∙ sym keys
