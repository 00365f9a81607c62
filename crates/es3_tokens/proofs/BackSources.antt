-- Sources of ASCII: their bytes are their characters.
use Rattle.std.proofs.Common.{◌≡◌, ℕ, ◌≤◌, ◌<◌, true, false, List, [], ◌∷◌, refl, sym, ap, ◌∙◌, arith, length}
use Rattle.std.specs.List.{All}
use Rattle.std.proofs.lemmas.List.Elements.{All-head}
use Rattle.std.proofs.lemmas.Str.{IsUtf8-from_ascii, chars-IsAscii}
use Rattle.std.proofs.lemmas.Str.Ascii.{IsAscii-from_all}
use Rattle.es3_tokens.specs.Cut.{cut, cut_chars, cut_from}
use Rattle.es3_tokens.proofs.Cut.{unmarked}
use Rattle.es3_tokens.proofs.Sources.{cut_good}
use Rattle.es3_tokens.proofs.Tests.{ne_test}

no_mark : (s : List ℕ) → All (λ b. b < 128) s → cut_chars s ≡ cut_from 0 0 false true s
no_mark [] h = sym (unmarked [] refl)
no_mark (c ∷ s) h = sym (unmarked (c ∷ s) (ne_test c 0xFEFF (λ e. let l = All-head (λ b. b < 128) c s h in omega (arith, e, l))))

pub cut_ascii : (limit : ℕ) (s : List ℕ) → length s ≤ limit → All (λ b. b < 128) s → cut limit s ≡ cut_from 0 0 false true s
cut_ascii limit s le h =
    let ascii = IsAscii-from_all s h in
    cut_good limit s le (IsUtf8-from_ascii s ascii) ∙ ap cut_chars (chars-IsAscii s ascii) ∙ no_mark s h
