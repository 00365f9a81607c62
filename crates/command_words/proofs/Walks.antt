-- What `clap` makes of words for a command with the options `--steps` and `--touch`, word by word.
use Rattle.std.proofs.Common.{◌≡◌, ◌∙◌, ◌||◌, ◌==◌, ◌⊎◌, inl, inr, ℕ, Bool, true, false, List, [], ◌∷◌, ◌++◌, Option, Some, None, refl, sym, ap, ap₂, subst, true≢false, take, drop, eqb-true, suc, ◌+◌, arith}
use Rattle.std.specs.Prelude.{codes, option_map, fold, slice_get, if◌then◌else◌}
use Rattle.std.specs.Option.{option_map_or}
use Rattle.std.specs.List.{before_first, after_first, list_any, position_or_len}
use Rattle.std.specs.Str.{bytes_eq, chars}
use Rattle.std.proofs.lemmas.List.{take-append-drop}
use Rattle.std.proofs.lemmas.Slice.Eq.{bytes_eq-Decides}
use Rattle.clap.specs.Lexer.{has_byte, short_of}
use Rattle.clap.specs.Walk.{Held, bundle_met, Row, Rule, Waiting, Walk, idle, option, finished, settled, walked, first_of, one_of}
use Rattle.clap.specs.Simple.{App, Shape, built, new_app, new_rule, on_top, with_rule}
use Rattle.clap.specs.Kinds.{Kinds, or_else}
use Rattle.clap.specs.Faults.{check_fault, flags_fault, defaults_fault, settle_fault, turn_fault, walk_fault}
use Rattle.clap.specs.declared.builder.action.ArgAction.TheVariants.{SetTrue}
use Rattle.clap.specs.declared.builder.value_parser.Reading.TheVariants.{AsWritten}
use Rattle.clap.specs.declared.parser.matches.ValueSource.TheVariants.{CommandLine}
use Rattle.clap.proofs.OnLiterals.{clap_on_literals}
use Rattle.command_words.specs.Words.{most_steps, number_of, options}
use Rattle.command_words.specs.Matched.{is_dashes, is_fault, steps_in}
use Rattle.command_words.specs.declared.Options.{Options}
use Rattle.command_words.proofs.Told.{Text, Told, nothing, of_steps, of_touch, steps_touch, touch_steps, with_steps, with_touch}

-- the commands as the code makes them
abbrev pub unnamed : App → App
unnamed = on_top (λ (s : Shape). record s { no_binary_name = true })

abbrev pub unhelped : App → App
unhelped = on_top (λ (s : Shape). record s { disable_help_flag = true })

abbrev pub plain_app : App
plain_app = unhelped (unnamed (new_app (codes "caja")))

abbrev pub steps_rule : Rule
steps_rule = record (new_rule (codes "steps")) { long = Some (codes "steps") }

abbrev pub touch_rule : Rule
touch_rule = record (new_rule (codes "touch")) { long = Some (codes "touch"); action = Some SetTrue }

abbrev pub app : App
app = with_rule (with_rule plain_app steps_rule) touch_rule

abbrev pub top : Shape
top = (built app).top

-- where the walk stands when so much was told
abbrev pub steps_row : Text → Row
steps_row v = record { id = codes "steps"; values = v ∷ []; count = None; source = Some CommandLine; reading = AsWritten }

abbrev pub touch_row : Row
touch_row = record { id = codes "touch"; values = codes "true" ∷ []; count = None; source = Some CommandLine; reading = AsWritten }

abbrev pub rows_at : Told → List Row
rows_at nothing = []
rows_at (of_steps v) = steps_row v ∷ []
rows_at of_touch = touch_row ∷ []
rows_at (steps_touch v) = steps_row v ∷ touch_row ∷ []
rows_at (touch_steps v) = touch_row ∷ steps_row v ∷ []

abbrev pub walk_with : Told → Option (Text × List Text) → Waiting → Walk
walk_with s p w = record {
  held = record { rows = rows_at s; pending = p; skip = 0 };
  waiting = w;
  position = 1;
  is_trailing = false;
  stopped = None;
}

abbrev pub walk_at : Told → Walk
walk_at s = walk_with s None idle

-- `--steps` was met, and no word behind it
abbrev pub walk_waiting : Told → Walk
walk_waiting s = walk_with s (Some (codes "steps", [])) (option (codes "steps"))

-- `--steps` and a word were met
abbrev pub walk_pending : Told → Text → Walk
walk_pending s v = walk_with s (Some (codes "steps", v ∷ [])) idle

-- the faults of the rest
abbrev pub end_fault : Held → Kinds
end_fault h = or_else (settle_fault top.rules false h)
    (or_else (defaults_fault (settled top.rules h).rows top.rules) (check_fault top (finished top.rules h) false))

abbrev pub held_after : Walk → List Text → Held
held_after w ws = (fold (walked top.rules []) w ws).held

abbrev pub rest_fault : Walk → List Text → Kinds
rest_fault w ws = or_else (walk_fault top [] w ws) (end_fault (held_after w ws))

-- the options that the matches say, and whether the touch is one of the two texts
abbrev pub is_text : Text → Option Text → Bool
is_text t o = option_map_or (λ s. bytes_eq s t) o false

abbrev pub options_at : List Row → Option Options
options_at rows = option_map (λ n. options n (is_text (codes "true") (one_of (codes "touch") rows))) (steps_in (first_of (codes "steps") rows))

abbrev pub is_sound : List Row → Bool
is_sound rows = is_text (codes "true") (one_of (codes "touch") rows) || is_text (codes "false") (one_of (codes "touch") rows)

abbrev pub outcome : Kinds → List Row → Option Options × Bool
outcome kinds rows = if is_fault kinds then (None, true) else (options_at rows, is_sound rows)

abbrev pub read : Walk → List Text → Option Options × Bool
read w ws = outcome (rest_fault w ws) (finished top.rules (held_after w ws))

abbrev pub read_then : List Text → Option Told → Option Options × Bool
read_then ws None = (None, true)
read_then ws (Some s) = read (walk_at s) ws

pub at_touch : (s : Told) (ws : List Text) → read (walk_at s) (codes "--touch" ∷ ws) ≡ read_then ws (with_touch s)
unfolding clap_on_literals
at_touch nothing ws = refl
at_touch (of_steps v) ws = refl
at_touch of_touch ws = refl
at_touch (steps_touch v) ws = refl
at_touch (touch_steps v) ws = refl

pub at_equals : (s : Told) (v : Text) (ws : List Text) → read (walk_at s) ((codes "--steps=" ++ v) ∷ ws) ≡ read_then ws (with_steps v s)
unfolding clap_on_literals
at_equals nothing v ws = refl
at_equals (of_steps w) v ws = refl
at_equals of_touch v ws = refl
at_equals (steps_touch w) v ws = refl
at_equals (touch_steps w) v ws = refl

pub at_space : (s : Told) (ws : List Text) → read (walk_at s) (codes "--steps" ∷ ws) ≡ read (walk_waiting s) ws
unfolding clap_on_literals
at_space s ws = refl

pub waiting_end : (s : Told) → read (walk_waiting s) [] ≡ (None, true)
unfolding clap_on_literals
waiting_end s = refl

-- a word that ends it
fails_first : (turn more end : Kinds) (rows : List Row) → is_fault turn ≡ true → outcome (or_else (or_else turn more) end) rows ≡ (None, true)
fails_first [] more end rows fails = absurd (true≢false (sym fails))
fails_first (k ∷ ks) more end rows fails = refl

pub turn_fails : (w : Walk) (word : Text) (ws : List Text) → is_fault (turn_fault top [] w word) ≡ true → read w (word ∷ ws) ≡ (None, true)
unfolding walk_fault
turn_fails w word ws fails =
    fails_first (turn_fault top [] w word) (walk_fault top [] (walked top.rules [] w word) ws) (end_fault (held_after w (word ∷ ws)))
    (finished top.rules (held_after w (word ∷ ws))) fails

-- how a word begins
pub data Begins : Text → Type 0 where
  nowhere : Begins []
  plainly : (x : ℕ) (xs : Text) → (x == 45) ≡ false → Begins (x ∷ xs)
  hyphen : Begins (45 ∷ [])
  one : (x : ℕ) (xs : Text) → (x == 45) ≡ false → Begins (45 ∷ x ∷ xs)
  dashes : Begins (45 ∷ 45 ∷ [])
  two : (x : ℕ) (xs : Text) → Begins (45 ∷ 45 ∷ x ∷ xs)

is_hyphen : (x : ℕ) → (x == 45) ≡ true → 45 ≡ x
is_hyphen x is = sym (eqb-true x 45 is)

begins_two : (xs : Text) → Begins (45 ∷ 45 ∷ xs)
begins_two [] = dashes
begins_two (x ∷ xs) = two x xs

begins_one : (x : ℕ) (xs : Text) (b : Bool) → (x == 45) ≡ b → Begins (45 ∷ x ∷ xs)
begins_one x xs true is = subst (λ y. Begins (45 ∷ y ∷ xs)) (is_hyphen x is) (begins_two xs)
begins_one x xs false is = one x xs is

begins_rest : (xs : Text) → Begins (45 ∷ xs)
begins_rest [] = hyphen
begins_rest (x ∷ xs) = begins_one x xs (x == 45) refl

begins_at : (x : ℕ) (xs : Text) (b : Bool) → (x == 45) ≡ b → Begins (x ∷ xs)
begins_at x xs true is = subst (λ y. Begins (y ∷ xs)) (is_hyphen x is) (begins_rest xs)
begins_at x xs false is = plainly x xs is

pub begins : (w : Text) → Begins w
begins [] = nowhere
begins (x ∷ xs) = begins_at x xs (x == 45) refl

-- which option a word is
pub data Spells : Text → Type 0 where
  spells_touch : Spells (codes "--touch")
  spells_equals : (v : Text) → Spells (codes "--steps=" ++ v)
  spells_space : Spells (codes "--steps")
  spells_none : (w : Text) → bytes_eq w (codes "--touch") ≡ false → bytes_eq (take 8 w) (codes "--steps=") ≡ false → bytes_eq w (codes "--steps") ≡ false → Spells w

pub same_text : (w t : Text) → bytes_eq w t ≡ true → t ≡ w
same_text w t is = sym ((bytes_eq-Decides w t).0 is)

equals_text : (w : Text) → bytes_eq (take 8 w) (codes "--steps=") ≡ true → codes "--steps=" ++ drop 8 w ≡ w
equals_text w is = ap (λ (front : Text). front ++ drop 8 w) (same_text (take 8 w) (codes "--steps=") is) ∙ take-append-drop 8 w

pub spells : (w : Text) → Spells w
spells w = go (bytes_eq w (codes "--touch")) (bytes_eq (take 8 w) (codes "--steps=")) (bytes_eq w (codes "--steps")) refl refl refl
  where
    go : (a b c : Bool) → bytes_eq w (codes "--touch") ≡ a → bytes_eq (take 8 w) (codes "--steps=") ≡ b → bytes_eq w (codes "--steps") ≡ c → Spells w
    go true b c ia ib ic = subst Spells (same_text w (codes "--touch") ia) spells_touch
    go false true c ia ib ic = subst Spells (equals_text w ib) (spells_equals (drop 8 w))
    go false false true ia ib ic = subst Spells (same_text w (codes "--steps") ic) spells_space
    go false false false ia ib ic = spells_none w ia ib ic

-- a name, and what stands behind its `=`
abbrev name_of : Text → Text
name_of t = before_first (λ x. x == 61) t

abbrev value_of : Text → Text
value_of t = after_first (λ x. x == 61) t

front_step : (x : ℕ) (xs : Text) (n : ℕ) → take (1 + n) (x ∷ xs) ≡ x ∷ take n xs
front_step x xs n = let e : 1 + n ≡ suc n = omega arith in rw e refl

back_step : (x : ℕ) (xs : Text) (n : ℕ) → drop (1 + n + 1) (x ∷ xs) ≡ drop (n + 1) xs
back_step x xs n = let e : 1 + n + 1 ≡ suc (n + 1) = omega arith in rw e refl

whole_name : (t : Text) → has_byte 61 t ≡ false → t ≡ name_of t
whole_name [] lacks = refl
whole_name (x ∷ xs) lacks = go (x == 61) refl (λ h. whole_name xs h) lacks
  where
    go : (b : Bool) → (x == 61) ≡ b → (has_byte 61 xs ≡ false → xs ≡ name_of xs) → (b || has_byte 61 xs) ≡ false → x ∷ xs ≡ name_of (x ∷ xs)
    go true is rest h = absurd (true≢false h)
    go false is rest h = rw is (ap (λ (ys : Text). x ∷ ys) (rest h) ∙ sym (front_step x xs (position_or_len (λ y. y == 61) xs)))

cut_name : (t : Text) → has_byte 61 t ≡ true → t ≡ name_of t ++ 61 ∷ value_of t
cut_name [] has = absurd (true≢false (sym has))
cut_name (x ∷ xs) has = go (x == 61) refl (λ h. cut_name xs h) has
  where
    go : (b : Bool) → (x == 61) ≡ b → (has_byte 61 xs ≡ true → xs ≡ name_of xs ++ 61 ∷ value_of xs) → (b || has_byte 61 xs) ≡ true
        → x ∷ xs ≡ name_of (x ∷ xs) ++ 61 ∷ value_of (x ∷ xs)
    go true is rest h = rw is (ap (λ (y : ℕ). y ∷ xs) (eqb-true x 61 is))
    go false is rest h =
        let n = position_or_len (λ y. y == 61) xs in
        rw is (ap (λ (ys : Text). x ∷ ys) (rest h) ∙ sym (ap₂ (λ (front back : Text). front ++ 61 ∷ back) (front_step x xs n) (back_step x xs n)))

-- what a word with one hyphen, or with none, is
pub no_short : (x : ℕ) (xs : Text) → (x == 45) ≡ false → short_of (x ∷ xs) ≡ None
no_short x xs is = rw is refl

pub one_short : (x : ℕ) (xs : Text) → (x == 45) ≡ false → short_of (45 ∷ x ∷ xs) ≡ Some (x ∷ xs)
one_short x xs is = rw is refl

-- the fault of a word that is no option
plain_turn : (s : Told) (p : Option (Text × List Text)) (x : ℕ) (xs : Text) → (x == 45) ≡ false
    → is_fault (turn_fault top [] (walk_with s p idle) (x ∷ xs)) ≡ true
plain_turn s p x xs is = rw (is, no_short x xs is) refl

one_turn : (s : Told) (p : Option (Text × List Text)) (x : ℕ) (xs : Text) → (x == 45) ≡ false → (o : Option ℕ) → slice_get (chars (x ∷ xs)) 0 ≡ o
    → is_fault (turn_fault top [] (walk_with s p idle) (45 ∷ x ∷ xs)) ≡ true
unfolding flags_fault bundle_met
one_turn s p x xs is None at = rw (is, one_short x xs is, at) refl
one_turn s p x xs is (Some c) at = rw (is, one_short x xs is, at) refl

-- in two texts the one names the option, and the other its value
named : (t : Text) (n : Text) → bytes_eq n (name_of t) ≡ true → has_byte 61 t ≡ false → t ≡ n
named t n is lacks = whole_name t lacks ∙ same_text n (name_of t) is

named_equals : (t : Text) (n : Text) → bytes_eq n (name_of t) ≡ true → has_byte 61 t ≡ true → t ≡ n ++ 61 ∷ value_of t
named_equals t n is has = cut_name t has ∙ ap (λ (front : Text). front ++ 61 ∷ value_of t) (same_text n (name_of t) is)

two_turn : (s : Told) (p : Option (Text × List Text)) (x : ℕ) (xs : Text) → bytes_eq (45 ∷ 45 ∷ x ∷ xs) (codes "--touch") ≡ false
    → bytes_eq (take 8 (45 ∷ 45 ∷ x ∷ xs)) (codes "--steps=") ≡ false → bytes_eq (45 ∷ 45 ∷ x ∷ xs) (codes "--steps") ≡ false
    → (a b c : Bool) → bytes_eq (codes "steps") (name_of (x ∷ xs)) ≡ a → bytes_eq (codes "touch") (name_of (x ∷ xs)) ≡ b → has_byte 61 (x ∷ xs) ≡ c
    → is_fault (turn_fault top [] (walk_with s p idle) (45 ∷ 45 ∷ x ∷ xs)) ≡ true
two_turn s p x xs no_touch no_equals no_space true b true ia ib ic =
    absurd (true≢false (subst (λ (t : Text). bytes_eq (take 8 (45 ∷ 45 ∷ t)) (codes "--steps=") ≡ false) (named_equals (x ∷ xs) (codes "steps") ia ic) no_equals))
two_turn s p x xs no_touch no_equals no_space true b false ia ib ic =
    absurd (true≢false (subst (λ (t : Text). bytes_eq (45 ∷ 45 ∷ t) (codes "--steps") ≡ false) (named (x ∷ xs) (codes "steps") ia ic) no_space))
two_turn s p x xs no_touch no_equals no_space false true false ia ib ic =
    absurd (true≢false (subst (λ (t : Text). bytes_eq (45 ∷ 45 ∷ t) (codes "--touch") ≡ false) (named (x ∷ xs) (codes "touch") ib ic) no_touch))
two_turn s p x xs no_touch no_equals no_space false true true ia ib ic = rw (ia, ib, ic) refl
two_turn s p x xs no_touch no_equals no_space false false c ia ib ic = rw (ia, ib) refl

none_turn : (s : Told) (p : Option (Text × List Text)) (w : Text) → Begins w → is_dashes w ≡ false → bytes_eq w (codes "--touch") ≡ false
    → bytes_eq (take 8 w) (codes "--steps=") ≡ false → bytes_eq w (codes "--steps") ≡ false → is_fault (turn_fault top [] (walk_with s p idle) w) ≡ true
none_turn s p _ nowhere no_dashes no_touch no_equals no_space = refl
none_turn s p _ (plainly x xs is) no_dashes no_touch no_equals no_space = plain_turn s p x xs is
none_turn s p _ hyphen no_dashes no_touch no_equals no_space = refl
none_turn s p _ (one x xs is) no_dashes no_touch no_equals no_space = one_turn s p x xs is (slice_get (chars (x ∷ xs)) 0) refl
none_turn s p _ dashes no_dashes no_touch no_equals no_space = absurd (true≢false no_dashes)
none_turn s p _ (two x xs) no_dashes no_touch no_equals no_space = two_turn s p x xs no_touch no_equals no_space _ _ _ refl refl refl

-- a word that is no option ends it
pub none_fails : (s : Told) (p : Option (Text × List Text)) (w : Text) (ws : List Text) → is_dashes w ≡ false → bytes_eq w (codes "--touch") ≡ false
    → bytes_eq (take 8 w) (codes "--steps=") ≡ false → bytes_eq w (codes "--steps") ≡ false → read (walk_with s p idle) (w ∷ ws) ≡ (None, true)
none_fails s p w ws no_dashes no_touch no_equals no_space =
    turn_fails (walk_with s p idle) w ws (none_turn s p w (begins w) no_dashes no_touch no_equals no_space)

-- the word behind `--steps` is met: it is the number's text, or it is no number and ends it
abbrev pub Met : Told → Text → List Text → Type 0
Met s n ws = ((number_of most_steps n ≡ None) × (read (walk_waiting s) (n ∷ ws) ≡ (None, true))) ⊎ (read (walk_waiting s) (n ∷ ws) ≡ read (walk_pending s n) ws)

-- a word without fault leads on
turn_passes : (w : Walk) (word : Text) (ws : List Text) (next : Walk) → turn_fault top [] w word ≡ [] → walked top.rules [] w word ≡ next
    → read w (word ∷ ws) ≡ read next ws
unfolding walk_fault
turn_passes w word ws next passes leads =
    ap (λ (turn : Kinds). outcome (or_else (or_else turn (walk_fault top [] (walked top.rules [] w word) ws)) (end_fault (held_after w (word ∷ ws))))
    (finished top.rules (held_after w (word ∷ ws)))) passes ∙ ap (λ (v : Walk). read v ws) leads

plain_passes : (s : Told) (x : ℕ) (xs : Text) → (x == 45) ≡ false → turn_fault top [] (walk_waiting s) (x ∷ xs) ≡ []
plain_passes s x xs is = rw (is, no_short x xs is) refl

plain_leads : (s : Told) (x : ℕ) (xs : Text) → (x == 45) ≡ false → walked top.rules [] (walk_waiting s) (x ∷ xs) ≡ walk_pending s (x ∷ xs)
unfolding walked
plain_leads s x xs is = rw (is, no_short x xs is) refl

met_plain : (s : Told) (x : ℕ) (xs : Text) (ws : List Text) → (x == 45) ≡ false → read (walk_waiting s) ((x ∷ xs) ∷ ws) ≡ read (walk_pending s (x ∷ xs)) ws
met_plain s x xs ws is = turn_passes (walk_waiting s) (x ∷ xs) ws (walk_pending s (x ∷ xs)) (plain_passes s x xs is) (plain_leads s x xs is)

one_passes : (s : Told) (x : ℕ) (xs : Text) → (x == 45) ≡ false → slice_get (chars (x ∷ xs)) 0 ≡ None → turn_fault top [] (walk_waiting s) (45 ∷ x ∷ xs) ≡ []
unfolding flags_fault bundle_met
one_passes s x xs is at = rw (is, one_short x xs is, at) refl

one_leads : (s : Told) (x : ℕ) (xs : Text) → (x == 45) ≡ false → slice_get (chars (x ∷ xs)) 0 ≡ None
    → walked top.rules [] (walk_waiting s) (45 ∷ x ∷ xs) ≡ walk_pending s (45 ∷ x ∷ xs)
unfolding walked bundle_met
one_leads s x xs is at = rw (is, one_short x xs is, at) refl

met_one_plain : (s : Told) (x : ℕ) (xs : Text) (ws : List Text) → (x == 45) ≡ false → slice_get (chars (x ∷ xs)) 0 ≡ None
    → read (walk_waiting s) ((45 ∷ x ∷ xs) ∷ ws) ≡ read (walk_pending s (45 ∷ x ∷ xs)) ws
met_one_plain s x xs ws is at = turn_passes (walk_waiting s) (45 ∷ x ∷ xs) ws (walk_pending s (45 ∷ x ∷ xs)) (one_passes s x xs is at) (one_leads s x xs is at)

met_one_turn : (s : Told) (x : ℕ) (xs : Text) (c : ℕ) → (x == 45) ≡ false → slice_get (chars (x ∷ xs)) 0 ≡ Some c
    → is_fault (turn_fault top [] (walk_waiting s) (45 ∷ x ∷ xs)) ≡ true
unfolding flags_fault bundle_met
met_one_turn s x xs c is at = rw (is, one_short x xs is, at) refl

met_one : (s : Told) (x : ℕ) (xs : Text) (ws : List Text) → (x == 45) ≡ false → (o : Option ℕ) → slice_get (chars (x ∷ xs)) 0 ≡ o → Met s (45 ∷ x ∷ xs) ws
met_one s x xs ws is None at = inr (met_one_plain s x xs ws is at)
met_one s x xs ws is (Some c) at = inl (refl, turn_fails (walk_waiting s) (45 ∷ x ∷ xs) ws (met_one_turn s x xs c is at))

met_two_turn : (s : Told) (x : ℕ) (xs : Text) (a b c : Bool) → bytes_eq (codes "steps") (name_of (x ∷ xs)) ≡ a → bytes_eq (codes "touch") (name_of (x ∷ xs)) ≡ b
    → has_byte 61 (x ∷ xs) ≡ c → is_fault (turn_fault top [] (walk_waiting s) (45 ∷ 45 ∷ x ∷ xs)) ≡ true
met_two_turn s x xs true b true ia ib ic = rw (ia, ic) refl
met_two_turn s x xs true b false ia ib ic = rw (ia, ic) refl
met_two_turn s x xs false true true ia ib ic = rw (ia, ib, ic) refl
met_two_turn s x xs false true false ia ib ic = rw (ia, ib, ic) refl
met_two_turn s x xs false false c ia ib ic = rw (ia, ib) refl

met_at : (s : Told) (n : Text) (ws : List Text) → Begins n → is_dashes n ≡ false → Met s n ws
unfolding clap_on_literals
met_at s _ ws nowhere no_dashes = inr refl
met_at s _ ws (plainly x xs is) no_dashes = inr (met_plain s x xs ws is)
met_at s _ ws hyphen no_dashes = inr refl
met_at s _ ws (one x xs is) no_dashes = met_one s x xs ws is (slice_get (chars (x ∷ xs)) 0) refl
met_at s _ ws dashes no_dashes = absurd (true≢false no_dashes)
met_at s _ ws (two x xs) no_dashes = inl (refl, turn_fails (walk_waiting s) (45 ∷ 45 ∷ x ∷ xs) ws (met_two_turn s x xs _ _ _ refl refl refl))

pub met : (s : Told) (n : Text) (ws : List Text) → is_dashes n ≡ false → Met s n ws
met s n ws no_dashes = met_at s n ws (begins n) no_dashes

-- where the number's text was met, it is told
pending_end : (s : Told) (v : Text) → read (walk_pending s v) [] ≡ read_then [] (with_steps v s)
unfolding clap_on_literals
pending_end nothing v = refl
pending_end (of_steps w) v = refl
pending_end of_touch v = refl
pending_end (steps_touch w) v = refl
pending_end (touch_steps w) v = refl

pending_touch : (s : Told) (v : Text) (ws : List Text) → read (walk_pending s v) (codes "--touch" ∷ ws) ≡ read_then (codes "--touch" ∷ ws) (with_steps v s)
unfolding clap_on_literals
pending_touch nothing v ws = refl
pending_touch (of_steps w) v ws = refl
pending_touch of_touch v ws = refl
pending_touch (steps_touch w) v ws = refl
pending_touch (touch_steps w) v ws = refl

pending_equals : (s : Told) (v n : Text) (ws : List Text)
    → read (walk_pending s v) ((codes "--steps=" ++ n) ∷ ws) ≡ read_then ((codes "--steps=" ++ n) ∷ ws) (with_steps v s)
unfolding clap_on_literals
pending_equals nothing v n ws = refl
pending_equals (of_steps w) v n ws = refl
pending_equals of_touch v n ws = refl
pending_equals (steps_touch w) v n ws = refl
pending_equals (touch_steps w) v n ws = refl

pending_space : (s : Told) (v : Text) (ws : List Text) → read (walk_pending s v) (codes "--steps" ∷ ws) ≡ read_then (codes "--steps" ∷ ws) (with_steps v s)
unfolding clap_on_literals
pending_space nothing v ws = refl
pending_space (of_steps w) v ws = refl
pending_space of_touch v ws = refl
pending_space (steps_touch w) v ws = refl
pending_space (touch_steps w) v ws = refl

fails_then : (o : Option Told) (ws : List Text) → ((s : Told) → read (walk_at s) ws ≡ (None, true)) → read_then ws o ≡ (None, true)
fails_then None ws fails = refl
fails_then (Some s) ws fails = fails s

pending_word : (s : Told) (v : Text) (w : Text) (ws : List Text) → Spells w → is_dashes w ≡ false → read (walk_pending s v) (w ∷ ws) ≡ read_then (w ∷ ws) (with_steps v s)
pending_word s v _ ws spells_touch no_dashes = pending_touch s v ws
pending_word s v _ ws (spells_equals n) no_dashes = pending_equals s v n ws
pending_word s v _ ws spells_space no_dashes = pending_space s v ws
pending_word s v _ ws (spells_none w no_touch no_equals no_space) no_dashes =
    none_fails s (Some (codes "steps", v ∷ [])) w ws no_dashes no_touch no_equals no_space
    ∙ sym (fails_then (with_steps v s) (w ∷ ws) (λ t. none_fails t None w ws no_dashes no_touch no_equals no_space))

pub or_false_left : (a b : Bool) → (a || b) ≡ false → a ≡ false
or_false_left true b h = h
or_false_left false b h = refl

pub pending_told : (s : Told) (v : Text) (ws : List Text) → list_any is_dashes ws ≡ false → read (walk_pending s v) ws ≡ read_then ws (with_steps v s)
pending_told s v [] lacks = pending_end s v
pending_told s v (w ∷ ws) lacks = pending_word s v w ws (spells w) (or_false_left (is_dashes w) (list_any is_dashes ws) lacks)
