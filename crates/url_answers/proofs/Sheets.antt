-- What may stand in an answer for a sheet is neither a line end nor a backslash.
use Rattle.std.proofs.Common.{◌≡◌, ℕ, ◌<◌, Bool, true, false, ◌&&◌, ◌||◌, not, List, [], ◌∷◌, Option, Some, refl, ap, ◌∙◌, arith}
use Rattle.std.specs.List.{list_all}
use Rattle.std.proofs.lemmas.Bool.{and_parts}
use Rattle.std.proofs.lemmas.Bool.Decides.{nat_tests}
use Rattle.url.proofs.SetLemmas.{all_below, checked}
use Rattle.url.specs.Parts.{Parts}
use Rattle.css_grammar.specs.Characters.{class}
use Rattle.css_kept.specs.Back.{is_quotable}
use Rattle.url_rule.specs.declared.ask.UriKind.TheVariants.{Style}
use Rattle.url_rule.specs.Table.{Row}
use Rattle.url_rule.specs.Reading.{may_stand, read}
use Rattle.url_rule.proofs.Shown.{shown}

-- it may not stand there, or it is quotable
abbrev pub is_good : ℕ → Bool
is_good c = not (may_stand Style c) || is_quotable c

all_good : all_below is_good 128 ≡ true
unfolding class
all_good = refl

behind_not : (b c : Bool) → b ≡ true → (not b || c) ≡ true → c ≡ true
behind_not true c e h = h
behind_not false c e h = absurd cc

quotable : (c : ℕ) → may_stand Style c ≡ true → is_quotable c ≡ true
quotable c e =
    let low : c < 128 = grind (arith, nat_tests) in
    behind_not (may_stand Style c) (is_quotable c) e (checked is_good 128 all_good c low)

each : (us : List ℕ) → list_all (may_stand Style) us ≡ true → list_all is_quotable us ≡ true
each [] e = refl
each (c ∷ us) e =
    let both = and_parts (may_stand Style c) (list_all (may_stand Style) us) e in
    ap (λ (b : Bool). b && list_all is_quotable us) (quotable c both.0) ∙ each us both.1

pub all_quotable : (rows : List Row) (base : Option Parts) (us vs : List ℕ) → read rows Style base us ≡ Some vs → list_all is_quotable vs ≡ true
all_quotable rows base us vs e = each vs (shown rows Style base us vs e)
