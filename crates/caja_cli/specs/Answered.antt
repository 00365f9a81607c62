-- When the program gives which answer.
use Rattle.std.specs.Prelude.{◌≡◌, ℕ, ◌≤◌, List, Option, Some, IfSome, IsTrue, length}
use Rattle.caja_io.specs.Source.{IsEmptied}
use Rattle.caja_io.specs.Sink.{Appends, AppendsPart}
use Rattle.url_rule.specs.Table.{Row}
use Rattle.command_words.specs.Words.{command_of, longest_input}
use Rattle.caja_cli.specs.Output.{output, reads, reads_input}
use Rattle.command_words.specs.declared.Command.{Command}
use Rattle.caja_cli.specs.declared.status.Status.{Status}
use Rattle.caja_cli.specs.declared.status.Status.TheVariants.{ReadFault, WriteFault, Memory, NoRoom}

-- what the source had left, as far as it tells
abbrev pub IsLeft : Option (List ℕ) → List ℕ → Type 0
IsLeft left input = IfSome left (λ all. all ≡ input)

-- the source was read to its end, but where the words are no command that reads it or the input is too long
abbrev pub IsRead : List (List ℕ) → List ℕ → Option (List ℕ) → Option (List ℕ) → Type 0
IsRead words input old new = (c : Command) → command_of words ≡ Some c → IsTrue (reads c) → length input ≤ longest_input c → IsEmptied old new

-- the answer is none of the four that speak of the source, the sink or memory
abbrev pub IsAnswer : Status → Type 0
IsAnswer ReadFault = ⊥
IsAnswer WriteFault = ⊥
IsAnswer NoRoom = ⊥
IsAnswer Memory = ⊥
IsAnswer status = Unit {0}

-- all was written, and the status is the defined one, for an embedder whose rule has this table
pub record Wrote (rule : List Row) (words : List (List ℕ)) (status : Status) (left left' written written' : Option (List ℕ)) : Type 0 where
  pub input : List ℕ
  pub of_source : IsTrue (reads_input words) → IsLeft left input
  pub read : IsRead words input left left'
  pub bytes : Appends written written' (output rule words input).0
  pub result : (output rule words input).1 ≡ status

-- what was written is a front of the defined output
pub record WrotePart (rule : List Row) (words : List (List ℕ)) (left written written' : Option (List ℕ)) : Type 0 where
  pub input : List ℕ
  pub of_source : IsTrue (reads_input words) → IsLeft left input
  pub bytes : AppendsPart written written' (output rule words input).0
