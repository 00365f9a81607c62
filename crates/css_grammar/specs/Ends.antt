-- A short end of each state.
use Rattle.std.specs.Prelude.{ℕ, zero, suc, [], ◌∷◌, ◌++◌}
use Rattle.css_grammar.specs.Sheets.{Text}
use Rattle.css_grammar.specs.Tokens.{none}
use Rattle.css_grammar.specs.Grammar.{wanted, Place, selecting, block, named, values}
use Rattle.css_grammar.specs.Machine.{put, Opener, asked_of, attribute_of, call_of, State, at, slashed, commented, word_for, dash_for, word, colon_in, inside, quoted_in, quoted, minus, whole, fraction, number_dash, point, hash_for, hash, urgent}

-- `a{}`, `{}`, `}`, `:a}`, `a}`
abbrev pub end : Place → Text
end (selecting wanted rs ss t) = 97 ∷ 123 ∷ 125 ∷ []
end (selecting w rs ss t) = 123 ∷ 125 ∷ []
end (block h b) = 125 ∷ []
end (named b n) = 58 ∷ 97 ∷ 125 ∷ []
end (values none b n vs) = 97 ∷ 125 ∷ []
end (values t b n vs) = 125 ∷ []

abbrev pub end_inside : Opener → ℕ → Text
end_inside h (suc n) = 41 ∷ end_inside h n
end_inside (asked_of c a w rs ss t v) zero = 41 ∷ 123 ∷ 125 ∷ []
end_inside (attribute_of a w rs ss t) zero = 93 ∷ 123 ∷ 125 ∷ []
end_inside (call_of a k b n vs v) zero = 41 ∷ 125 ∷ []

abbrev pub finish : State → Text
finish (at p) = end p
finish (slashed s p) = 42 ∷ 42 ∷ 47 ∷ end p
finish (commented h p) = 42 ∷ 47 ∷ end p
finish (word_for x) = 97 ∷ end (put x [])
finish (dash_for d x) = 97 ∷ end (put x [])
finish (word x w) = end (put x w)
finish (colon_in c w rs ss t) = 97 ∷ 123 ∷ 125 ∷ []
finish (inside h n i) = end_inside h n
finish (quoted_in h n i q w) = q ∷ end_inside h n
finish (quoted t b n vs q w) = q ∷ 125 ∷ []
finish (minus d t b n vs) = 97 ∷ 125 ∷ []
finish (whole t b n vs w) = 125 ∷ []
finish (fraction t b n vs w) = 125 ∷ []
finish (number_dash h d t b n vs w) = 97 ∷ 125 ∷ []
finish (point p t b n vs w) = 48 ∷ 125 ∷ []
finish (hash_for m t b n vs) = 48 ∷ 125 ∷ []
finish (urgent m t b n vs rest) = rest ++ 125 ∷ []
finish (hash t b n vs w) = 125 ∷ []
