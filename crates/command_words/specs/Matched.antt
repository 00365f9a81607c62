-- How `clap` reads words for a command of its own.
use Rattle.std.specs.Prelude.{◌≡◌, ◌||◌, Bool, true, false, List, [], ◌∷◌, ℕ, Option, Some, None, codes}
use Rattle.std.specs.List.{list_any}
use Rattle.std.specs.Str.{bytes_eq}
use Rattle.clap.specs.Words.{App, Kinds, Text, fault_of, found_of, matches_of, rows_of}
use Rattle.command_words.specs.Words.{default_steps, most_steps, number_of}
use Rattle.clap.specs.declared.parser.matches.ArgMatches.{ArgMatches}

-- the steps that a text says, and those where there is none
abbrev pub steps_in : Option Text → Option ℕ
steps_in None = Some default_steps
steps_in (Some w) = number_of most_steps w

-- `--`, behind which `clap` takes no option
abbrev pub is_dashes : Text → Bool
is_dashes w = bytes_eq w (codes "--")

abbrev pub is_fault : Kinds → Bool
is_fault [] = false
is_fault (k ∷ ks) = true

-- `clap` finds fault with the words, or they have the word `--`
abbrev pub refuses : App → List Text → Bool
refuses a ws = list_any is_dashes ws || is_fault (fault_of a ws)

-- nothing where the words are refused, else what `clap` matches
abbrev pub IsMatched : App → List Text → Option ArgMatches → Type 0
IsMatched a ws None = refuses a ws ≡ true
IsMatched a ws (Some m) = (refuses a ws ≡ false) × (rows_of (found_of m) ≡ matches_of a ws)
