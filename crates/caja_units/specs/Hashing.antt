-- What the hash of a text is made of.
use Rattle.std.specs.Prelude.{ℕ, List}
use Rattle.std.specs.Hash as fed
use Rattle.text_storage.specs.Number.{number_of}

-- what a hash is fed: the number of the text
abbrev pub hash_writes : List ℕ → List (List ℕ)
hash_writes us = fed.u64 (number_of us)
