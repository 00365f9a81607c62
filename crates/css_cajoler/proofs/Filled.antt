-- A rule with selectors and declarations, and one without.
use Rattle.std.proofs.Common.{◌≡◌, ◌≢◌, List, [], ◌∷◌, refl, arith, length}
use Rattle.css_grammar.specs.Sheets.{Text, Declaration}
use Rattle.css_kept.specs.Kept.{filled}

pub no_selectors : (ss : List Text) (ds : List Declaration) → length ss ≡ 0 → filled ss ds ≡ []
no_selectors [] ds e = refl
no_selectors (s ∷ ss) ds e = absurd (omega (arith, e))

pub no_declarations : (ss : List Text) (ds : List Declaration) → length ds ≡ 0 → filled ss ds ≡ []
no_declarations [] ds e = refl
no_declarations (s ∷ ss) [] e = refl
no_declarations (s ∷ ss) (d ∷ ds) e = absurd (omega (arith, e))

pub both : (ss : List Text) (ds : List Declaration) → length ss ≢ 0 → length ds ≢ 0 → filled ss ds ≡ record { selectors = ss; declarations = ds } ∷ []
both [] ds e f = absurd (e refl)
both (s ∷ ss) [] e f = absurd (f refl)
both (s ∷ ss) (d ∷ ds) e f = refl
