-- References to characters: `&#N;`, `&#xH;` and `&name;`.
use Rattle.std.specs.Prelude.{ℕ, ◌+◌, List, Bool, ◌&&◌, ◌||◌, nat_lt, nat_le, Option, Some, None, take, drop, if◌then◌else◌}
use Rattle.std.specs.List.{prefix_len}
use Rattle.std.specs.Str.Parse.{digits_value}
use Rattle.html_grammar.specs.Characters.{is_digit, is_hex, is_word, begins, is}
use Rattle.html_grammar.specs.Tables.{names, found}

-- what stands behind a `&`
pub data Reference : Type 0 where
  -- a character, and how many characters name it
  stands_for : ℕ → ℕ → Reference
  -- a name that no character has
  unknown : Reference
  -- neither: the `&` is text
  absent : Reference

-- whether the first n characters, of which there is one at least, stand before a `;`
abbrev pub is_closed : ℕ → List ℕ → Bool
is_closed n s = nat_lt 0 n && begins (is 59) (drop n s)

abbrev pub is_character : ℕ → Bool
is_character v = nat_lt 0 v && (nat_lt v 0xD800 || (nat_le 0xE000 v && nat_lt v 0x110000))

-- the character of a number, where it is one other than 0
abbrev pub character : ℕ → ℕ → Reference
character v n = if is_character v then stands_for v n else absent

-- digits of a base that stand before a `;`, behind k characters, the `;` counted
abbrev pub numbered : (ℕ → Bool) → ℕ → ℕ → List ℕ → Reference
numbered p b k s = let n = prefix_len p s in if is_closed n s then character (digits_value b (take n s)) (n + k) else absent

abbrev pub known : Option ℕ → ℕ → Reference
known None n = unknown
known (Some c) n = stands_for c n

abbrev pub named : List ℕ → Reference
named s = let n = prefix_len is_word s in if is_closed n s then known (found names (take n s)) (n + 1) else absent

unfoldable pub reference : List ℕ → Reference
reference s =
    if begins (is 35) s then (if begins (is 120) (drop 1 s) then numbered is_hex 16 3 (drop 2 s) else numbered is_digit 10 2 (drop 1 s))
    else named s
