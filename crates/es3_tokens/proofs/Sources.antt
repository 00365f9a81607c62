-- A whole source: the limit, UTF-8, and its characters.
use Rattle.std.proofs.Common.{◌≡◌, ℕ, ◌+◌, ◌≤◌, Bool, true, false, List, [], ◌∷◌, Err, refl, sym, ap, ◌∙◌, arith, length}
use Rattle.std.specs.Prelude.{if◌then◌else◌}
use Rattle.std.specs.Char.{len_utf8}
use Rattle.std.specs.Str.{chars, is_utf8, IsUtf8}
use Rattle.std.specs.Str.Lossy.{utf8_valid_len}
use Rattle.std.proofs.lemmas.List.{length-append}
use Rattle.std.proofs.lemmas.List.Sums.{sum_by-cons}
use Rattle.std.proofs.lemmas.Str.{length-encode, encodes-chars, is_utf8-from_IsUtf8, IsUtf8-from_is_utf8}
use Rattle.std.proofs.Math.Utf8.{encode, encodes}
use Rattle.es3_tokens.proofs.Tests.{ge_test}
use Rattle.es3_tokens.specs.Cut.{cut, cut_chars, width}
use Rattle.es3_tokens.specs.Refusals.{not_utf8, too_long}

not_true : (b : Bool) → (b ≡ true → ⊥) → b ≡ false
not_true true h = absurd (h refl)
not_true false h = refl

pub cut_bad : (n : ℕ) (s : List ℕ) → length s ≤ n → (IsUtf8 s → ⊥) → cut n s ≡ Err (not_utf8, utf8_valid_len s)
cut_bad n s h g =
    ap (λ b. if b then Err (too_long, 0) else if is_utf8 s then cut_chars (chars s) else Err (not_utf8, utf8_valid_len s)) (ge_test n (length s) h)
    ∙ ap (λ b. if b then cut_chars (chars s) else Err (not_utf8, utf8_valid_len s)) (not_true (is_utf8 s) (λ e. g (IsUtf8-from_is_utf8 s e)))

pub cut_good : (n : ℕ) (s : List ℕ) → length s ≤ n → IsUtf8 s → cut n s ≡ cut_chars (chars s)
cut_good n s h g =
    ap (λ b. if b then Err (too_long, 0) else if is_utf8 s then cut_chars (chars s) else Err (not_utf8, utf8_valid_len s)) (ge_test n (length s) h)
    ∙ ap (λ b. if b then cut_chars (chars s) else Err (not_utf8, utf8_valid_len s)) (is_utf8-from_IsUtf8 s g)

width_encodes : (cs : List ℕ) → length (encodes cs) ≡ width cs
width_encodes [] = refl
width_encodes (c ∷ cs) = length-append (encode c) (encodes cs) ∙ (let a = length-encode c in let b = width_encodes cs in let d = sum_by-cons len_utf8 c cs in let e : length (encode c) + length (encodes cs) ≡ width (c ∷ cs) = omega (arith, a, b, d) in e)

pub width_chars : (s : List ℕ) → IsUtf8 s → width (chars s) ≡ length s
width_chars s h = sym (width_encodes (chars s)) ∙ ap length (encodes-chars s h)
