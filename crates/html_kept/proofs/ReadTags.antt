-- The attributes of a tag that is read without a fault are apart, and their values are made of characters.
use Rattle.std.proofs.Common.{◌≡◌, ℕ, zero, suc, ◌+◌, ◌-◌, Bool, true, false, ◌&&◌, List, [], ◌∷◌, ◌++◌, None, Some, refl, nat_eq, length, take, drop, map}
use Rattle.std.specs.Prelude.{if◌then◌else◌}
use Rattle.std.specs.List.{prefix_len}
use Rattle.std.specs.Str.{all_scalars}
use Rattle.std.proofs.Math.Utf8.{scalar}
use Rattle.html_grammar.specs.Characters.{is_space, is_attr, is_quote, lower, begins, is}
use Rattle.html_grammar.specs.Tables.{is_in}
use Rattle.html_grammar.specs.Runs.{Run, units, unknown_at, run, run_length}
use Rattle.html_grammar.specs.Tags.{Attr, Fault, bad_attr, Part, close, gap, attr, wrong, unclosed, attribute, valued, ends_bare, quoted, value, attr_at, Kind, begins_element, begins_void, ends_element, is_void_tag, part, Inside, closed, endless, before, is_fault, goes, inside}
use Rattle.html_kept.specs.Texts.{OfChars, Apart, ValuesOfChars}
use Rattle.html_kept.proofs.Chars.{and_right, by_test, no_chars, run_chars, RunOfChars, scalars_drop}

-- an attribute without an unknown reference has a value of characters
abbrev PartOfChars : Part → Type 0
PartOfChars (close n) = Unit {0}
PartOfChars gap = Unit {0}
PartOfChars (attr x None n) = OfChars x.value
PartOfChars (attr x (Some k) n) = Unit {0}
PartOfChars wrong = Unit {0}
PartOfChars unclosed = Unit {0}

valued_chars : (n : List ℕ) (k j : ℕ) (r : Run) → RunOfChars r → PartOfChars (valued n k j r)
valued_chars n k j (units us m) h = h
valued_chars n k j (unknown_at i m) h = tt

quoted_chars : (n : List ℕ) (k left : ℕ) (r : Run) → RunOfChars r → PartOfChars (quoted n k left r)
quoted_chars n k left r h = by_test PartOfChars (nat_eq (run_length r) left) unclosed (valued n k 1 r) (λ _. tt) (λ _. valued_chars n k 1 r h)

value_chars : (n : List ℕ) (k : ℕ) (s : List ℕ) → all_scalars s ≡ true → PartOfChars (value n k s)
value_chars n k [] h = no_chars
value_chars n k (q ∷ s) h =
    by_test PartOfChars (is_quote q) (quoted n (k + 1) (length s) (run (begins (is q)) 0 s)) (valued n k 0 (run ends_bare 0 (q ∷ s)))
    (λ _. quoted_chars n (k + 1) (length s) (run (begins (is q)) 0 s) (run_chars (begins (is q)) 0 s (and_right (scalar q) (all_scalars s) h)))
    (λ _. valued_chars n k 0 (run ends_bare 0 (q ∷ s)) (run_chars ends_bare 0 (q ∷ s) h))

attr_chars : (s : List ℕ) → all_scalars s ≡ true → PartOfChars (attr_at s)
attr_chars s h =
    by_test PartOfChars (begins (is 61) (drop (prefix_len is_attr s) s)) (value (map lower (take (prefix_len is_attr s) s)) (prefix_len is_attr s + 1) (drop (prefix_len is_attr s + 1) s)) (attribute (map lower (take (prefix_len is_attr s) s)) [] None (prefix_len is_attr s))
    (λ _. value_chars (map lower (take (prefix_len is_attr s) s)) (prefix_len is_attr s + 1) (drop (prefix_len is_attr s + 1) s) (scalars_drop (prefix_len is_attr s + 1) s h)) (λ _. no_chars)

part_chars : (t : Kind) (s : List ℕ) → all_scalars s ≡ true → PartOfChars (part t s)
unfolding part
part_chars t [] h = tt
part_chars t (c ∷ s) h =
    by_test PartOfChars (nat_eq c 62) (close 1) _ (λ _. tt)
    (λ _. by_test PartOfChars (nat_eq c 47 && is_void_tag t && begins (is 62) s) (close 2) _ (λ _. tt)
    (λ _. by_test PartOfChars (is_space c) gap _ (λ _. tt)
    (λ _. by_test PartOfChars (is_attr c) (attr_at (c ∷ s)) wrong (λ _. attr_chars (c ∷ s) h) (λ _. tt))))

-- a tag without a fault
abbrev pub InsideRead : List (List ℕ) → Inside → Type 0
InsideRead seen (closed xs None n) = Apart seen xs × ValuesOfChars xs
InsideRead seen (closed xs (Some f) n) = Unit {0}
InsideRead seen endless = Unit {0}

not_fault : (t : Kind) (seen : List (List ℕ)) (n : List ℕ) → is_fault t seen n ≡ false → is_in seen n ≡ false
not_fault begins_element seen n e = e
not_fault begins_void seen n e = e
not_fault ends_element seen n e = absurd cc

-- before the rest of a tag, an attribute whose fault is this
before_rest : (t : Kind) (seen : List (List ℕ)) (i : ℕ) (a : Attr) (b : Bool) (x : Inside) → is_fault t seen a.name ≡ b → OfChars a.value → InsideRead (seen ++ a.name ∷ []) x → InsideRead seen (before (a ∷ []) (if b then Some (bad_attr, i) else None) x)
before_rest t seen i a true (closed bs g n) e v h = tt
before_rest t seen i a false (closed bs None n) e v h = ((not_fault t seen a.name e, h.0), (v, h.1))
before_rest t seen i a false (closed bs (Some g) n) e v h = tt
before_rest t seen i a true endless e v h = tt
before_rest t seen i a false endless e v h = tt

before_fault : (seen : List (List ℕ)) (xs : List Attr) (f : Fault) (x : Inside) → InsideRead seen (before xs (Some f) x)
before_fault seen xs f (closed bs g n) = tt
before_fault seen xs f endless = tt

unknown_rest : (seen : List (List ℕ)) (a : Attr) (b : Bool) (f g : Fault) (x : Inside) → InsideRead seen (before (a ∷ []) (if b then Some f else Some g) x)
unknown_rest seen a true f g x = before_fault seen (a ∷ []) f x
unknown_rest seen a false f g x = before_fault seen (a ∷ []) g x

goes_read : (t : Kind) (f : List (List ℕ) → ℕ → Inside) (seen : List (List ℕ)) (i : ℕ) (x : Part) → PartOfChars x → ((seen : List (List ℕ)) (n : ℕ) → InsideRead seen (f seen n)) → InsideRead seen (goes t f seen i x)
goes_read t f seen i (close n) h g = (tt, tt)
goes_read t f seen i gap h g = g seen 0
goes_read t f seen i (attr a None n) h g = before_rest t seen i a (is_fault t seen a.name) (f (seen ++ a.name ∷ []) (n - 1)) refl h (g (seen ++ a.name ∷ []) (n - 1))
goes_read t f seen i (attr a (Some k) n) h g = unknown_rest seen a (is_fault t seen a.name) _ _ (f (seen ++ a.name ∷ []) (n - 1))
goes_read t f seen i wrong h g = before_fault seen [] (bad_attr, i) (f seen 0)
goes_read t f seen i unclosed h g = tt

pub inside_read : (t : Kind) (seen : List (List ℕ)) (n i : ℕ) (s : List ℕ) → all_scalars s ≡ true → InsideRead seen (inside t seen n i s)
unfolding inside
inside_read t seen n i [] h = tt
inside_read t seen (suc n) i (c ∷ s) h = inside_read t seen n (i + 1) s (and_right (scalar c) (all_scalars s) h)
inside_read t seen zero i (c ∷ s) h =
    goes_read t (λ seen n. inside t seen n (i + 1) s) seen i (part t (c ∷ s)) (part_chars t (c ∷ s) h) (λ seen n. inside_read t seen n (i + 1) s (and_right (scalar c) (all_scalars s) h))
