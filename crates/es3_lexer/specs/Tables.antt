-- Tables of spellings: the places of the words and punctuators in theirs (ES3 7.5, 7.7), and what stands beside a spelling.
use Rattle.std.specs.Prelude.{ℕ, List, [], ◌∷◌, Option, Some, None, if◌then◌else◌}
use Rattle.std.specs.Borrow.{Bor}
use Rattle.caja_units.specs.Units.{same_units}
use Rattle.es3_lexer.specs.declared.words.Word.{Word}
use Rattle.es3_lexer.specs.declared.words.Word.TheVariants as w
use Rattle.es3_lexer.specs.declared.puncts.Punct.{Punct}
use Rattle.es3_lexer.specs.declared.puncts.Punct.TheVariants as p

abbrev pub word_number : Word → ℕ
word_number w.Break = 0
word_number w.Case = 1
word_number w.Catch = 2
word_number w.Continue = 3
word_number w.Default = 4
word_number w.Delete = 5
word_number w.Do = 6
word_number w.Else = 7
word_number w.Finally = 8
word_number w.For = 9
word_number w.Function = 10
word_number w.If = 11
word_number w.In = 12
word_number w.InstanceOf = 13
word_number w.New = 14
word_number w.Return = 15
word_number w.Switch = 16
word_number w.This = 17
word_number w.Throw = 18
word_number w.Try = 19
word_number w.TypeOf = 20
word_number w.Var = 21
word_number w.Void = 22
word_number w.While = 23
word_number w.With = 24
word_number w.Abstract = 25
word_number w.Boolean = 26
word_number w.Byte = 27
word_number w.Char = 28
word_number w.Class = 29
word_number w.Const = 30
word_number w.Debugger = 31
word_number w.Double = 32
word_number w.Enum = 33
word_number w.Export = 34
word_number w.Extends = 35
word_number w.Final = 36
word_number w.Float = 37
word_number w.Goto = 38
word_number w.Implements = 39
word_number w.Import = 40
word_number w.Int = 41
word_number w.Interface = 42
word_number w.Long = 43
word_number w.Native = 44
word_number w.Package = 45
word_number w.Private = 46
word_number w.Protected = 47
word_number w.Public = 48
word_number w.Short = 49
word_number w.Static = 50
word_number w.Super = 51
word_number w.Synchronized = 52
word_number w.Throws = 53
word_number w.Transient = 54
word_number w.Volatile = 55
word_number w.Null = 56
word_number w.True = 57
word_number w.False = 58

abbrev pub punct_number : Punct → ℕ
punct_number p.OpenBrace = 0
punct_number p.CloseBrace = 1
punct_number p.OpenParen = 2
punct_number p.CloseParen = 3
punct_number p.OpenBracket = 4
punct_number p.CloseBracket = 5
punct_number p.Point = 6
punct_number p.Semicolon = 7
punct_number p.Comma = 8
punct_number p.Less = 9
punct_number p.Greater = 10
punct_number p.LessEq = 11
punct_number p.GreaterEq = 12
punct_number p.Equal = 13
punct_number p.NotEqual = 14
punct_number p.Same = 15
punct_number p.NotSame = 16
punct_number p.Plus = 17
punct_number p.Minus = 18
punct_number p.Star = 19
punct_number p.Percent = 20
punct_number p.Increment = 21
punct_number p.Decrement = 22
punct_number p.Shl = 23
punct_number p.Shr = 24
punct_number p.Ushr = 25
punct_number p.BitAnd = 26
punct_number p.BitOr = 27
punct_number p.BitXor = 28
punct_number p.Not = 29
punct_number p.BitNot = 30
punct_number p.And = 31
punct_number p.Or = 32
punct_number p.Question = 33
punct_number p.Colon = 34
punct_number p.Assign = 35
punct_number p.PlusAssign = 36
punct_number p.MinusAssign = 37
punct_number p.StarAssign = 38
punct_number p.PercentAssign = 39
punct_number p.ShlAssign = 40
punct_number p.ShrAssign = 41
punct_number p.UshrAssign = 42
punct_number p.BitAndAssign = 43
punct_number p.BitOrAssign = 44
punct_number p.BitXorAssign = 45
punct_number p.Slash = 46
punct_number p.SlashAssign = 47

abbrev pub word_numbers : Option Word → Option ℕ
word_numbers None = None
word_numbers (Some x) = Some (word_number x)

abbrev pub punct_numbers : Option Punct → Option ℕ
punct_numbers None = None
punct_numbers (Some x) = Some (punct_number x)

-- what stands beside the first of a table's spellings that is these characters
unfoldable pub found_in : {T : Type 0} → List (Bor (List ℕ) × T) → List ℕ → Option T
found_in [] s = None
found_in (x ∷ xs) s = if same_units s x.0.now then Some x.1 else found_in xs s
