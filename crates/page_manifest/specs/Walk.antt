-- How a manifest is walked: what each field and each entry is found to be, at the place i, or the first fault there.
use Rattle.std.specs.Prelude.{ℕ, ◌+◌, Bool, List, [], ◌∷◌, length, Option, None, Some, Ok, Err, nat_lt, is_some, if◌then◌else◌}
use Rattle.std.specs.List.{list_all, list_any}
use Rattle.serde_json.specs.Data.{Data, Items, Members, no_items, item, no_members, member}
use Rattle.serde_json.specs.Find.{get, as_array, as_object}
use Rattle.es3_tokens.specs.Tokens.{is_one_of}
use Rattle.page_manifest.specs.Faults.{Found, chain, missing, wrong_kind, unknown_field, limit}

-- the fields that an object may have
abbrev pub Fields : Type 0
Fields = List (List ℕ)

abbrev pub keys_of : Members → List (List ℕ)
keys_of no_members = []
keys_of (member k d ms) = k ∷ keys_of ms

abbrev pub keys : Option Members → List (List ℕ)
keys None = []
keys (Some ms) = keys_of ms

-- whether it has none but these
abbrev pub has_only : Data → Fields → Bool
has_only d fields = list_all (λ k. is_one_of k fields) (keys (as_object d))

-- an object whose fields are all among those of one form
abbrev pub object : List Fields → ℕ → Data → Found Data
object forms i d = if is_some (as_object d) then (if list_any (has_only d) forms then Ok d else Err (unknown_field, i)) else Err (wrong_kind, i)

abbrev pub there : {A : Type 0} → ℕ → Option A → Found A
there i None = Err (missing, i)
there i (Some a) = Ok a

-- a field that must be there
abbrev pub need : {A : Type 0} → (ℕ → Data → Found A) → List ℕ → ℕ → Data → Found A
need read key i d = chain (there i (get key d)) (read i)

abbrev pub read_or : {A : Type 0} → A → (Data → Found A) → Option Data → Found A
read_or absent read None = Ok absent
read_or absent read (Some d) = read d

-- a field that may be absent
abbrev pub may : {A : Type 0} → A → (ℕ → Data → Found A) → List ℕ → ℕ → Data → Found A
may absent read key i d = read_or absent (read i) (get key d)

abbrev pub list_of : Items → List Data
list_of no_items = []
list_of (item d ds) = d ∷ list_of ds

abbrev pub items_or : ℕ → Option Items → Found (List Data)
items_or i None = Err (wrong_kind, i)
items_or i (Some ds) = Ok (list_of ds)

-- a list
abbrev pub entries : ℕ → Data → Found (List Data)
entries i d = items_or i (as_array d)

-- a list that isn't longer
abbrev pub at_most : ℕ → ℕ → Data → Found (List Data)
at_most most i d = chain (entries i d) (λ ds. if nat_lt most (length ds) then Err (limit, i) else Ok ds)

-- one entry after another, from the index i on
abbrev pub traverse : {A B : Type 0} → (ℕ → A → Found B) → ℕ → List A → Found (List B)
traverse read i [] = Ok []
traverse read i (a ∷ rest) = chain (read i a) (λ b. chain (traverse read (i + 1) rest) (λ bs. Ok (b ∷ bs)))

-- a list, each entry of which is read at its own index
abbrev pub each : {A : Type 0} → ℕ → (ℕ → Data → Found A) → ℕ → Data → Found (List A)
each most read i d = chain (at_most most i d) (traverse read 0)

-- a list, each entry of which is read at the place of the list
abbrev pub all : {A : Type 0} → ℕ → (ℕ → Data → Found A) → ℕ → Data → Found (List A)
all most read i d = chain (at_most most i d) (traverse (λ _. read i) 0)

-- the same, however long
abbrev pub any_number : {A : Type 0} → (ℕ → Data → Found A) → ℕ → Data → Found (List A)
any_number read i d = chain (entries i d) (traverse (λ _. read i) 0)
