-- The names under which a page grants something are names that a guest may use.
use Rattle.std.proofs.Common.{◌≡◌, ℕ, true, false, List, [], ◌∷◌, sym, ◌∙◌}
use Rattle.std.proofs.lemmas.List.Folds.{list_any-append}
use Rattle.std.proofs.lemmas.List.Elements.{All-head, All-tail}
use Rattle.std.specs.Prelude.{All, IsTrue, not, ◌&&◌, codes}
use Rattle.caja_units.specs.Units.{same_units, is_hidden}
use Rattle.es3_tokens.specs.Tokens.{is_one_of}
use Rattle.cajita_names.specs.Rules.{fixed_names}
use Rattle.manifest_names.specs.Names.{is_grant_name, taken_names}
use Rattle.cajita_simulation.specs.Guest.{is_among, GuestName}
use Rattle.accepted_modules.proofs.Declared.{not_true, or_left, or_right, both_true, never, either, guest_same}

-- it is neither `eval` nor `arguments`, nor a fixed name
not_arguments : (s : List ℕ) → is_one_of s taken_names ≡ false → same_units s (codes "arguments") ≡ false
not_arguments s e =
    let behind : is_one_of s (codes "eval" ∷ codes "arguments" ∷ []) ≡ false = or_right (is_one_of s fixed_names) _ (sym (list_any-append (same_units s) fixed_names (codes "eval" ∷ codes "arguments" ∷ [])) ∙ e) in
    or_left (same_units s (codes "arguments")) _ (or_right (same_units s (codes "eval")) _ behind)

granted_name : (s : List ℕ) → IsTrue (is_grant_name s) → GuestName s
granted_name s h =
    let taken = both_true _ (not (is_one_of s taken_names)) h in
    let dollar = both_true _ _ taken.0 in
    let free = both_true _ (not (is_hidden s)) dollar.0 in
    record { open_name = not_true (is_hidden s) free.1; own_name = not_arguments s (not_true (is_one_of s taken_names) taken.1) }

abbrev MayBeGranted : List ℕ → Type 0
MayBeGranted s = IsTrue (is_grant_name s)

pub granted_guests : (grants : List (List ℕ)) → All MayBeGranted grants → (k : List ℕ) → is_among grants k ≡ true → GuestName k
granted_guests [] h k there = never there
granted_guests (g ∷ grants) h k there =
    either (same_units k g) (is_among grants k) there (λ same. guest_same k g same (granted_name g (All-head MayBeGranted g grants h))) (granted_guests grants (All-tail MayBeGranted g grants h) k)
