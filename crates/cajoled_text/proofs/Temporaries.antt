-- The names of temporaries: each is a name, and no reserved word (ES3 7.5.1, 7.6).
use Rattle.std.proofs.Common.{◌≡◌, ℕ, ◌<◌, true, ◌++◌, nat_eq, refl, ◌∙◌}
use Rattle.std.specs.Prelude.{codes}
use Rattle.std.specs.List.{list_all}
use Rattle.std.specs.Fmt.{decimal}
use Rattle.std.proofs.lemmas.Bool.{and_from}
use Rattle.std.proofs.lemmas.List.Folds.{list_all-append}
use Rattle.es3_tree.specs.Token.{name, words}
use Rattle.es3_tokens.specs.Characters.{is_part}
use Rattle.es3_tokens.specs.Back.{IsToken}
use Rattle.es3_tokens.proofs.Classes.{no_place}
use Rattle.es3_printed.proofs.Quiet.{decimal_parts}
use Rattle.cajita_rewrite.specs.Rewrite.{temp_name}

digits_and_bars : (i : ℕ) → list_all is_part (decimal i ++ codes "___") ≡ true
digits_and_bars i = list_all-append is_part (decimal i) (codes "___") ∙ and_from (list_all is_part (decimal i)) true (decimal_parts i).parts refl

-- no reserved word begins with `x`
pub temp_token : (i : ℕ) → i < 18446744073709551616 → IsToken (name (temp_name i))
temp_token i few = (digits_and_bars i, no_place (nat_eq 120) 0 120 (decimal i ++ codes "___") words refl refl)
