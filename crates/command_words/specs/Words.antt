-- The command that the words are, and what its options say.
use Rattle.std.specs.Prelude.{ℕ, Bool, true, false, zero, suc, not, ◌&&◌, ◌||◌, List, [], ◌∷◌, Option, Some, None, option_map, option_and_then, length, take, drop, nat_le, slice_get, codes, if◌then◌else◌}
use Rattle.std.specs.Char.{is_ascii_digit}
use Rattle.std.specs.List.{list_all, remove}
use Rattle.std.specs.Str.{bytes_eq}
use Rattle.std.specs.Str.Parse.{digits_value}
use Rattle.command_words.specs.declared.Options.{Options}
use Rattle.command_words.specs.declared.Command.{Command}
use Rattle.command_words.specs.declared.Command.TheVariants.{Solo, Cajole, Format, Run, Page, Gen}

-- the steps where the words give none, and the most that they may give
abbrev pub default_steps : ℕ
default_steps = 1000000

abbrev pub most_steps : ℕ
most_steps = 10000000

-- the most events of a page that `gen` makes
abbrev pub most_events : ℕ
most_events = 2000

-- a number from 1 to the most
abbrev pub within : ℕ → ℕ → Option ℕ
within most n = if nat_le 1 n && nat_le n most then Some n else None

-- the number from 1 to the most that a text says, in one to eight decimal digits
abbrev pub number_of : ℕ → List ℕ → Option ℕ
number_of most w = if list_all is_ascii_digit w && nat_le (length w) 8 then within most (digits_value 10 w) else None

-- what is given behind a command: a number of steps, as its text, or a touch
pub data Given : Type 0 where
  steps_are : List ℕ → Given
  touched : Given

-- what a word gives by itself: `--touch`, or `--steps=` and the number
abbrev pub given_alone : List ℕ → Option Given
given_alone w =
    if bytes_eq w (codes "--touch") then Some touched
    else if bytes_eq (take 8 w) (codes "--steps=") then Some (steps_are (drop 8 w))
    else None

abbrev pub beside : Option Given → Option (List Given) → Option (List Given)
beside g gs = option_and_then (λ x. option_map (λ xs. x ∷ xs) gs) g

-- what all the words give, in any order: `--steps` and the word behind it a number, each other word what it gives by itself
abbrev pub given : List (List ℕ) → Option (List Given)
given [] = Some []
given (w ∷ []) = beside (given_alone w) (Some [])
given (w ∷ n ∷ ws) =
    if bytes_eq w (codes "--steps") then beside (Some (steps_are n)) (given ws)
    else beside (given_alone w) (given (n ∷ ws))

-- the texts that were given as numbers, and how often a touch was given
abbrev pub numbers : List Given → List (List ℕ)
numbers [] = []
numbers (steps_are n ∷ gs) = n ∷ numbers gs
numbers (touched ∷ gs) = numbers gs

abbrev pub touches : List Given → ℕ
touches [] = 0
touches (steps_are n ∷ gs) = touches gs
touches (touched ∷ gs) = suc (touches gs)

-- each at most once
abbrev pub steps_of : List (List ℕ) → Option ℕ
steps_of [] = Some default_steps
steps_of (n ∷ []) = number_of most_steps n
steps_of (n ∷ m ∷ ns) = None

abbrev pub touch_of : ℕ → Option Bool
touch_of zero = Some false
touch_of (suc zero) = Some true
touch_of (suc (suc n)) = None

abbrev pub options : ℕ → Bool → Options
options n b = record { steps = n; touch = b }

abbrev pub chosen : List Given → Option Options
chosen gs = option_and_then (λ n. option_map (options n) (touch_of (touches gs))) (steps_of (numbers gs))

-- the options that the words behind a command are
abbrev pub options_of : List (List ℕ) → Option Options
options_of ws = option_and_then chosen (given ws)

-- a command that takes no further word
abbrev pub alone : Command → List (List ℕ) → Option Command
alone c [] = Some c
alone c (w ∷ ws) = None

abbrev pub is_hyphened : List ℕ → Bool
is_hyphened w = bytes_eq (take 1 w) (codes "-")

-- where the number of `gen` stands: at the first word that neither begins with `-` nor is behind `--steps`, as the first of these is where `behind` is true
abbrev pub number_at : Bool → List (List ℕ) → Option ℕ
number_at behind [] = None
number_at behind (w ∷ ws) =
    if behind || is_hyphened w then option_map suc (number_at (not behind && bytes_eq w (codes "--steps")) ws)
    else Some 0

abbrev pub generated : Option ℕ → Option Options → Option Command
generated n o = option_and_then (λ k. option_map (Gen k) o) n

-- the word at i is a number of events, and the other words are options
abbrev pub gen_at : ℕ → List (List ℕ) → Option Command
gen_at i ws = generated (option_and_then (number_of most_events) (slice_get ws i)) (options_of (remove ws i))

abbrev pub gen_of : List (List ℕ) → Option Command
gen_of ws = option_and_then (λ i. gen_at i ws) (number_at false ws)

abbrev pub command_of : List (List ℕ) → Option Command
command_of [] = None
command_of (w ∷ ws) =
    if bytes_eq w (codes "solo") then option_map Solo (options_of ws)
    else if bytes_eq w (codes "cajole") then alone Cajole ws
    else if bytes_eq w (codes "format") then alone Format ws
    else if bytes_eq w (codes "run") then option_map Run (options_of ws)
    else if bytes_eq w (codes "page") then option_map Page (options_of ws)
    else if bytes_eq w (codes "gen") then gen_of ws
    else None

-- the longest input of a command, in bytes: 64 MiB of `run`, and 4 MiB of the others
abbrev pub longest_input : Command → ℕ
longest_input (Run o) = 67108864
longest_input c = 4194304
