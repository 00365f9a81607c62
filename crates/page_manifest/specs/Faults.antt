-- What is wrong with a manifest, or with what it says of its document: the number of the fault, and its place: the index of the module, the cell or the event where it stands, else 0.
use Rattle.std.specs.Prelude.{ℕ, Result, Ok, Err}

abbrev pub Fault : Type 0
Fault = ℕ × ℕ

-- the bytes are no JSON text (RFC 8259), or no UTF-8
abbrev pub not_json : ℕ
not_json = 1

-- a field isn't there
abbrev pub missing : ℕ
missing = 2

-- it has another type, or is a number or a word that doesn't stand here
abbrev pub wrong_kind : ℕ
wrong_kind = 3

abbrev pub unknown_field : ℕ
unknown_field = 4

-- a name is misspelled, or may not be granted
abbrev pub bad_name : ℕ
bad_name = 5

-- a name stands twice, or an id in the document
abbrev pub twice : ℕ
twice = 6

-- the cell, the module or the element that is granted isn't there
abbrev pub unknown_grant : ℕ
unknown_grant = 7

-- the module that is granted isn't loaded before
abbrev pub later_module : ℕ
later_module = 8

-- a root that is granted stands inside or around another one
abbrev pub overlap : ℕ
overlap = 9

-- the module of an event isn't there, or its element is in no granted root, or isn't one that takes a text
abbrev pub unknown_target : ℕ
unknown_target = 10

-- a list is too long
abbrev pub limit : ℕ
limit = 11

-- the manifest is of another version
abbrev pub version : ℕ
version = 12

-- what is found, or the first fault
abbrev pub Found : Type 0 → Type 0
Found A = Result A Fault

-- one after another: the first fault stays
abbrev pub chain : {A B : Type 0} → Found A → (A → Found B) → Found B
chain (Ok a) next = next a
chain (Err fault) next = Err fault
