-- What stands in an answer.
use Rattle.std.proofs.Common.{◌≡◌, ℕ, ◌<◌, Bool, true, ◌&&◌, List, [], ◌∷◌, length, nat_eq, nat_lt, Option, Some, All, refl, sym, ap, subst, ◌∙◌, ⊎_elim, arith}
use Rattle.std.specs.List.{list_all}
use Rattle.std.proofs.lemmas.Bool.{and_parts}
use Rattle.std.proofs.lemmas.Bool.Decides.{nat_tests}
use Rattle.std.proofs.lemmas.List.Elements.{All-nil, All-cons}
use Rattle.std.proofs.lemmas.Str.{scalars-chars}
use Rattle.std.specs.Str.{chars}
use Rattle.url.specs.Parts.{Parts}
use Rattle.caja_units.proofs.Ascii.{decoded-ascii, decoded-gives}
use Rattle.url_rule.specs.declared.ask.UriKind.{UriKind}
use Rattle.url_rule.specs.declared.ask.UriKind.TheVariants.{Link, Image, Style}
use Rattle.url_rule.specs.Table.{Row}
use Rattle.url_rule.specs.Reading.{is_name_part, is_place, stays, is_shown, may_stand, read}
use Rattle.url_rule.specs.Answers.{OfChars}
use Rattle.url_rule.proofs.Cases.{answered}

-- ---- what stays

part_shown : (c : ℕ) → is_name_part c ≡ true → is_shown c ≡ true
part_shown c e = grind (arith, nat_tests)

all_are : (p q : ℕ → Bool) → ((c : ℕ) → p c ≡ true → q c ≡ true) → (us : List ℕ) → list_all p us ≡ true → list_all q us ≡ true
all_are p q h [] e = refl
all_are p q h (c ∷ us) e =
    let both = and_parts (p c) (list_all p us) e in
    ap (λ (b : Bool). b && list_all q us) (h c both.0) ∙ all_are p q h us both.1

pub place_shown : (us : List ℕ) → is_place us ≡ true → list_all is_shown us ≡ true
place_shown [] e = refl
place_shown (c ∷ us) e =
    let long = and_parts (nat_lt 1 (length (c ∷ us))) (nat_eq c 35 && list_all is_name_part us) e in
    let both = and_parts (nat_eq c 35) (list_all is_name_part us) long.1 in
    let first : is_shown c ≡ true = (let test = both.0 in grind (arith, nat_tests)) in
    ap (λ (b : Bool). b && list_all is_shown us) first ∙ all_are is_name_part is_shown part_shown us both.1

stays_shown : (k : UriKind) (us : List ℕ) → stays k us ≡ true → list_all (may_stand k) us ≡ true
stays_shown Link us e = place_shown us e
stays_shown Image us e = absurd cc
stays_shown Style us e = absurd cc

pub shown : (rows : List Row) (k : UriKind) (base : Option Parts) (us vs : List ℕ) → read rows k base us ≡ Some vs → list_all (may_stand k) vs ≡ true
shown rows k base us vs e =
    ⊎_elim (λ same. subst (λ ws. list_all (may_stand k) ws ≡ true) (sym same.1) (stays_shown k us same.0)) (λ named. named.1) (answered rows k base us vs e)

-- ---- characters

low : (k : UriKind) (c : ℕ) → may_stand k c ≡ true → c < 128
low Link c e = grind (arith, nat_tests)
low Image c e = grind (arith, nat_tests)
low Style c e = grind (arith, nat_tests)

pub ascii : (k : UriKind) (vs : List ℕ) → list_all (may_stand k) vs ≡ true → All (λ c. c < 128) vs
ascii k [] e = All-nil (λ c. c < 128)
ascii k (c ∷ vs) e =
    let both = and_parts (may_stand k c) (list_all (may_stand k) vs) e in
    All-cons (λ c. c < 128) c vs (low k c both.0) (ascii k vs both.1)

pub of_chars : (rows : List Row) (k : UriKind) (base : Option Parts) (us vs : List ℕ) → read rows k base us ≡ Some vs → OfChars vs
of_chars rows k base us vs e =
    let good = decoded-gives vs vs (decoded-ascii vs (ascii k vs (shown rows k base us vs e))) in
    (chars vs, good.1, scalars-chars vs good.0)
