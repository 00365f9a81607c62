-- How an id enters the table, and how answers go on.
use Rattle.std.proofs.Common.{◌≡◌, ℕ, Bool, true, false, true≢false, Bor, List, [], ◌∷◌, ◌++◌, Option, None, Some, Result, Ok, Err, refl, sym, ap, ◌∙◌, subst, append-nil}
use Rattle.std.specs.Prelude.{is_some, codes, if◌then◌else◌}
use Rattle.std.specs.Option.{option_copied}
use Rattle.std.specs.Map.{lookup}
use Rattle.indexmap.specs.IndexMap.{insert_entry}
use Rattle.property_tables.proofs.Entries.{insert-second}
use Rattle.caja_units.specs.Units.{same_units}
use Rattle.page_manifest.specs.Faults.{Found, chain, twice}
use Rattle.page_manifest.specs.Answers.{Answers}
use Rattle.page_manifest.specs.declared.PageError.{PageError}
use Rattle.page_manifest.specs.declared.PageError.TheVariants.{Fault, Memory}
use Rattle.page_binding.specs.Table.{Table, with_id}
use Rattle.page_binding.specs.declared.table.Held.{Held}

none_of : (o : Option Held) → is_some o ≡ false → o ≡ None
none_of None h = refl
none_of (Some k) h = absurd (true≢false h)

copied_some : (o : Option (Bor Held)) → is_some (option_copied o) ≡ is_some o
copied_some None = refl
copied_some (Some x) = refl

-- whether the table has an id
pub told_of : (id : List ℕ) (t : Table) (o : Option (Bor Held)) (b : Bool) → option_copied o ≡ lookup (same_units id) t → b ≡ is_some o → is_some (lookup (same_units id) t) ≡ b
told_of id t o b is e = ap is_some (sym is) ∙ copied_some o ∙ sym e

pub again : (id tag : List ℕ) (least : ℕ) (t : Table) → is_some (lookup (same_units id) t) ≡ true → with_id id tag least t ≡ Err (twice, 0)
again id tag least t h = ap (λ (b : Bool). if b then Err (twice, 0) else Ok (t ++ (id, record { least = least; is_input = same_units tag (codes "input") }) ∷ [])) h

pub entered_new : (id tag : List ℕ) (least : ℕ) (t u : Table) (b : Bool) → is_some (lookup (same_units id) t) ≡ false → b ≡ same_units tag (codes "input") → u ≡ insert_entry same_units t id (record { least = least; is_input = b }) → with_id id tag least t ≡ Ok u
entered_new id tag least t u b h is made =
    let held : Held = record { least = least; is_input = b } in
    let last : u ≡ t ++ (id, held) ∷ [] =
    made ∙ ap (λ l. insert_entry same_units l id held) (sym (append-nil t)) ∙ insert-second id held t [] (none_of (lookup (same_units id) t) h) in
    ap (λ (c : Bool). if c then Err (twice, 0) else Ok (t ++ (id, record { least = least; is_input = same_units tag (codes "input") }) ∷ [])) h
    ∙ ap (λ c. Ok (t ++ (id, record { least = least; is_input = c }) ∷ [])) (sym is)
    ∙ ap Ok (sym last)

-- a fault stays the fault of all that begins with it
pub stops : {A B C D : Type 0} (v : C → A) (w : D → B) (e : PageError) (x : Found A) (next : A → Found B) → Answers v (Err e) x → Answers w (Err e) (chain x next)
stops v w (Fault n i) x next h = ap (λ y. chain y next) h
stops v w Memory x next h = tt

pub of_same : {A B : Type 0} (v : A → B) (r : Result A PageError) (x y : Found B) → x ≡ y → Answers v r y → Answers v r x
of_same v r x y e h = subst (Answers v r) (sym e) h
