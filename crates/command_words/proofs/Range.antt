-- The number of events that the words of `gen` say is one from 1 to 2,000.
use Rattle.std.proofs.Common.{◌≡◌, ◌≤◌, ℕ, Bool, true, false, ◌&&◌, List, [], ◌∷◌, Option, Some, None, refl, sym, ap, subst, ◌∙◌, arith}
use Rattle.std.specs.Prelude.{nat_le, option_map, option_and_then, length, slice_get, codes, if◌then◌else◌, IfSome}
use Rattle.std.specs.Char.{is_ascii_digit}
use Rattle.std.specs.List.{list_all, remove}
use Rattle.std.specs.Str.{bytes_eq}
use Rattle.std.specs.Str.Parse.{digits_value}
use Rattle.std.proofs.lemmas.Bool.Decides.{nat_tests}
use Rattle.command_words.specs.declared.Options.{Options}
use Rattle.command_words.specs.declared.Command.{Command}
use Rattle.command_words.specs.declared.Command.TheVariants.{Solo, Cajole, Format, Run, Page, Gen}
use Rattle.command_words.specs.Words.{most_events, within, number_of, options_of, alone, number_at, generated, gen_at, gen_of, command_of}

record InRange (n : ℕ) : Type 0 where
  some : 1 ≤ n
  few : n ≤ 2000

-- what is said of a command that makes a page
abbrev Made : Command → Type 0
Made (Gen n o) = InRange n
Made c = Unit {0}

abbrev IfMade : Option Command → Type 0
IfMade o = IfSome o Made

at_most : (v : ℕ) → (nat_le 1 v && nat_le v 2000) ≡ true → InRange v
at_most v h = record { some = grind (arith, nat_tests); few = grind (arith, nat_tests) }

within_range : (v : ℕ) (b : Bool) → (nat_le 1 v && nat_le v most_events) ≡ b → IfSome (if b then Some v else None) InRange
within_range v true h = at_most v h
within_range v false h = tt

number_range : (w : List ℕ) (b : Bool) → IfSome (if b then within most_events (digits_value 10 w) else None) InRange
number_range w true = within_range (digits_value 10 w) (nat_le 1 (digits_value 10 w) && nat_le (digits_value 10 w) most_events) refl
number_range w false = tt

word_range : (w : Option (List ℕ)) → IfSome (option_and_then (number_of most_events) w) InRange
word_range None = tt
word_range (Some w) = number_range w (list_all is_ascii_digit w && nat_le (length w) 8)

made : (n : Option ℕ) (o : Option Options) → IfSome n InRange → IfMade (generated n o)
made None o h = tt
made (Some n) None h = tt
made (Some n) (Some o) h = h

at_range : (i : Option ℕ) (ws : List (List ℕ)) → IfMade (option_and_then (λ i. gen_at i ws) i)
at_range None ws = tt
at_range (Some i) ws = made (option_and_then (number_of most_events) (slice_get ws i)) (options_of (remove ws i)) (word_range (slice_get ws i))

-- the others make none
with_options : (f : Options → Command) → ((o : Options) → Made (f o)) → (o : Option Options) → IfMade (option_map f o)
with_options f h None = tt
with_options f h (Some o) = h o

by_itself : (c : Command) → Made c → (ws : List (List ℕ)) → IfMade (alone c ws)
by_itself c h [] = h
by_itself c h (w ∷ ws) = tt

chosen : (b : Bool) (x y : Option Command) → IfMade x → IfMade y → IfMade (if b then x else y)
chosen true x y h g = h
chosen false x y h g = g

in_range : (words : List (List ℕ)) → IfMade (command_of words)
in_range [] = tt
in_range (w ∷ ws) =
    chosen (bytes_eq w (codes "solo")) _ _ (with_options Solo (λ o. tt) (options_of ws))
    (chosen (bytes_eq w (codes "cajole")) _ _ (by_itself Cajole tt ws)
    (chosen (bytes_eq w (codes "format")) _ _ (by_itself Format tt ws)
    (chosen (bytes_eq w (codes "run")) _ _ (with_options Run (λ o. tt) (options_of ws))
    (chosen (bytes_eq w (codes "page")) _ _ (with_options Page (λ o. tt) (options_of ws))
    (chosen (bytes_eq w (codes "gen")) _ _ (at_range (number_at false ws) ws) tt)))))

pub some_events : (words : List (List ℕ)) (n : ℕ) (o : Options) → command_of words ≡ Some (Gen n o) → 1 ≤ n
some_events words n o e = let r : InRange n = subst IfMade e (in_range words) in r.some

pub few_events : (words : List (List ℕ)) (n : ℕ) (o : Options) → command_of words ≡ Some (Gen n o) → n ≤ 2000
few_events words n o e = let r : InRange n = subst IfMade e (in_range words) in r.few
