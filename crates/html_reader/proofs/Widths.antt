-- The characters of a text take as many bytes as the text has.
use Rattle.std.proofs.Common.{◌≡◌, ◌≤◌, ℕ, List, [], ◌∷◌, length, refl, ap, ◌∙◌, arith}
use Rattle.std.specs.Char.{len_utf8}
use Rattle.std.specs.List.{sum_by}
use Rattle.std.specs.Str.{chars, IsUtf8}
use Rattle.std.proofs.Math.Utf8.{encode, encodes}
use Rattle.std.proofs.lemmas.List.{length-append}
use Rattle.std.proofs.lemmas.List.Sums.{sum_by-cons}
use Rattle.std.proofs.lemmas.Str.{length-encode, encodes-chars, length-le-encodes}

bytes_of : (cs : List ℕ) → sum_by len_utf8 cs ≡ length (encodes cs)
bytes_of [] = refl
bytes_of (c ∷ cs) = let all = length-append (encode c) (encodes cs) in let first = length-encode c in let rest = bytes_of cs in let sum = sum_by-cons len_utf8 c cs in omega (arith, all, first, rest, sum)

pub chars_width : (s : List ℕ) → IsUtf8 s → sum_by len_utf8 (chars s) ≡ length s
chars_width s good = bytes_of (chars s) ∙ ap length (encodes-chars s good)

pub chars_fewer : (s : List ℕ) → IsUtf8 s → length (chars s) ≤ length s
chars_fewer s good = let few = length-le-encodes (chars s) in let bytes = ap length (encodes-chars s good) in omega (arith, few, bytes)
