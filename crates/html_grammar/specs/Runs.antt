-- What characters stand for: each for its units, and a reference for those of its character.
use Rattle.std.specs.Prelude.{ℕ, zero, suc, ◌+◌, List, [], ◌∷◌, ◌++◌, Bool, nat_eq, if◌then◌else◌}
use Rattle.std.specs.Char.Escape.{encode_utf16}
use Rattle.html_grammar.specs.References.{Reference, stands_for, unknown, absent, reference}

pub data Run : Type 0 where
  -- these units, written in so many characters
  units : List ℕ → ℕ → Run
  -- so many characters from the beginning stands the first `&` whose name no character has; and how many characters there are
  unknown_at : ℕ → ℕ → Run

-- the same with n more characters before it, which stand for these units
abbrev pub after : List ℕ → ℕ → Run → Run
after us n (units vs m) = units (us ++ vs) (n + m)
after us n (unknown_at k m) = unknown_at (n + k) (n + m)

abbrev pub at_first : Run → Run
at_first (units us m) = unknown_at 0 (1 + m)
at_first (unknown_at k m) = unknown_at 0 (1 + m)

-- a `&`, what it refers to, and by f what follows, where so many characters are still to be passed
abbrev pub referred : (ℕ → Run) → Reference → Run
referred f (stands_for c n) = after (encode_utf16 c) 1 (f n)
referred f unknown = at_first (f 0)
referred f absent = after (38 ∷ []) 1 (f 0)

-- what characters stand for up to where e says that they end; n characters of a reference are still to be passed
unfoldable pub run : (List ℕ → Bool) → ℕ → List ℕ → Run
run e n [] = units [] 0
run e (suc n) (c ∷ s) = after [] 1 (run e n s)
run e zero (c ∷ s) =
    if e (c ∷ s) then units [] 0
    else if nat_eq c 38 then referred (λ n. run e n s) (reference s)
    else after (encode_utf16 c) 1 (run e zero s)

abbrev pub run_length : Run → ℕ
run_length (units us m) = m
run_length (unknown_at i m) = m
