-- Tokens (ES3 7.5 to 7.8): names and texts as 16-bit units, reserved words and punctuators by their places in the two tables.
use Rattle.std.specs.Prelude.{ℕ, ℤ, List, [], ◌∷◌, codes}

pub data Token : Type 0 where
  name : List ℕ → Token
  word : ℕ → Token
  punct : ℕ → Token
  num : ℤ → Token
  text : List ℕ → Token

-- 7.5.2, 7.5.3, 7.8.1, 7.8.2: the keywords, and then what else is reserved
abbrev pub words : List (List ℕ)
words =
    codes "break" ∷ codes "case" ∷ codes "catch" ∷ codes "continue" ∷ codes "default" ∷ codes "delete" ∷ codes "do" ∷ codes "else"
    ∷ codes "finally" ∷ codes "for" ∷ codes "function" ∷ codes "if" ∷ codes "in" ∷ codes "instanceof" ∷ codes "new" ∷ codes "return"
    ∷ codes "switch" ∷ codes "this" ∷ codes "throw" ∷ codes "try" ∷ codes "typeof" ∷ codes "var" ∷ codes "void" ∷ codes "while" ∷ codes "with"
    ∷ codes "abstract" ∷ codes "boolean" ∷ codes "byte" ∷ codes "char" ∷ codes "class" ∷ codes "const" ∷ codes "debugger" ∷ codes "double"
    ∷ codes "enum" ∷ codes "export" ∷ codes "extends" ∷ codes "final" ∷ codes "float" ∷ codes "goto" ∷ codes "implements" ∷ codes "import"
    ∷ codes "int" ∷ codes "interface" ∷ codes "long" ∷ codes "native" ∷ codes "package" ∷ codes "private" ∷ codes "protected" ∷ codes "public"
    ∷ codes "short" ∷ codes "static" ∷ codes "super" ∷ codes "synchronized" ∷ codes "throws" ∷ codes "transient" ∷ codes "volatile"
    ∷ codes "null" ∷ codes "true" ∷ codes "false" ∷ []

-- 7.7, and `/` and `/=` last
abbrev pub puncts : List (List ℕ)
puncts =
    codes "{" ∷ codes "}" ∷ codes "(" ∷ codes ")" ∷ codes "[" ∷ codes "]" ∷ codes "." ∷ codes ";" ∷ codes "," ∷ codes "<" ∷ codes ">"
    ∷ codes "<=" ∷ codes ">=" ∷ codes "==" ∷ codes "!=" ∷ codes "===" ∷ codes "!==" ∷ codes "+" ∷ codes "-" ∷ codes "*" ∷ codes "%"
    ∷ codes "++" ∷ codes "--" ∷ codes "<<" ∷ codes ">>" ∷ codes ">>>" ∷ codes "&" ∷ codes "|" ∷ codes "^" ∷ codes "!" ∷ codes "~"
    ∷ codes "&&" ∷ codes "||" ∷ codes "?" ∷ codes ":" ∷ codes "=" ∷ codes "+=" ∷ codes "-=" ∷ codes "*=" ∷ codes "%=" ∷ codes "<<="
    ∷ codes ">>=" ∷ codes ">>>=" ∷ codes "&=" ∷ codes "|=" ∷ codes "^=" ∷ codes "/" ∷ codes "/=" ∷ []
