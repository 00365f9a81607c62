-- A link to a place in the same document begins with no scheme.
use Rattle.std.proofs.Common.{◌≡◌, ℕ, ◌-◌, zero, suc, true, ◌&&◌, List, [], ◌∷◌, length, take, nat_eq, nat_lt, None, refl, sym, ap, subst, ◌∙◌, arith}
use Rattle.std.specs.List.{list_all, suffix_len}
use Rattle.std.proofs.lemmas.Bool.{and_parts}
use Rattle.std.proofs.lemmas.Bool.Decides.{nat_tests}
use Rattle.url.specs.Input.{is_c0_control_or_space, split_once, trim_c0_control_and_space, strip_tabs_and_new_lines}
use Rattle.url.specs.Scheme.{scheme_len}
use Rattle.url.specs.Parser.{split_scheme}
use Rattle.caja_units.proofs.Ascii.{utf8_of-ascii}
use Rattle.url_rule.specs.declared.ask.UriKind.{UriKind}
use Rattle.url_rule.specs.declared.ask.UriKind.TheVariants.{Link, Image, Style}
use Rattle.url_rule.specs.Reading.{is_name_part, is_place, stays}
use Rattle.url_rule.specs.Answers.{scheme_of}
use Rattle.url_rule.proofs.Scheme.{scheme_in, before}
use Rattle.url_rule.proofs.Shown.{place_shown, ascii}

-- what is left of a text that begins with `#` begins with it, or is nothing
cut : (n : ℕ) (us : List ℕ) → scheme_in (split_scheme (split_once 63 (split_once 35 (strip_tabs_and_new_lines (take n (35 ∷ us)))).0).0) ≡ None
unfolding strip_tabs_and_new_lines split_once split_scheme scheme_len
cut zero us = refl
cut (suc n) us = refl

sign : (us : List ℕ) → scheme_in (split_scheme (before (35 ∷ us))) ≡ None
unfolding trim_c0_control_and_space
sign us = cut (length (35 ∷ us) - suffix_len is_c0_control_or_space (35 ∷ us)) us

place_none : (us : List ℕ) → is_place us ≡ true → scheme_of us ≡ None
place_none [] e = absurd cc
place_none (c ∷ us) e =
    let both = and_parts (nat_eq c 35) (list_all is_name_part us) (and_parts (nat_lt 1 (length (c ∷ us))) (nat_eq c 35 && list_all is_name_part us) e).1 in
    let same : c ≡ 35 = (let test = both.0 in grind (arith, nat_tests)) in
    ap (λ (bytes : List ℕ). scheme_in (split_scheme (before bytes))) (utf8_of-ascii (c ∷ us) (ascii Link (c ∷ us) (place_shown (c ∷ us) e)))
    ∙ subst (λ d. scheme_in (split_scheme (before (d ∷ us))) ≡ None) (sym same) (sign us)

pub stays_none : (k : UriKind) (us : List ℕ) → stays k us ≡ true → scheme_of us ≡ None
stays_none Link us e = place_none us e
stays_none Image us e = absurd cc
stays_none Style us e = absurd cc
