-- What `clap` matches is what the words say.
use Rattle.std.proofs.Common.{◌≡◌, ◌∙◌, ◌||◌, ◌&&◌, ◌==◌, inl, inr, ℕ, Bool, true, false, List, [], ◌∷◌, ◌++◌, Option, Some, None, refl, sym, ap, subst, true≢false, is_some}
use Rattle.std.specs.Prelude.{codes, option_map, option_and_then, slice_get}
use Rattle.std.specs.List.{list_any}
use Rattle.std.specs.Str.{bytes_eq, chars}
use Rattle.clap.specs.Kinds.{HasKind, Kinds, or_else}
use Rattle.clap.specs.Faults.{entered_fault, flags_fault, is_free_app, level_fault, turn_fault, walk_fault}
use Rattle.clap.specs.Simple.{built, entered}
use Rattle.clap.specs.Values.{bool_text, kind_of}
use Rattle.clap.specs.Walk.{Row, bundle_met, first_of, nothing_held, one_of, walk}
use Rattle.clap.specs.Words.{App, fault_of, is_simple, is_simple_and_free, matches_of}
use Rattle.clap.specs.declared.error.Error.{Error}
use Rattle.clap.specs.declared.error.kind.ErrorKind.TheVariants.{OutOfMemory}
use Rattle.clap.proofs.OnLiterals.{clap_on_literals}
use Rattle.command_words.specs.Words.{alone, beside, given, given_alone, most_steps, number_of, options, options_of}
use Rattle.command_words.specs.Matched.{is_dashes, is_fault, refuses, steps_in}
use Rattle.command_words.specs.declared.Options.{Options}
use Rattle.command_words.specs.declared.Command.{Command}
use Rattle.command_words.proofs.Told.{Text, Told, nothing, of_steps, of_touch, steps_touch, touch_steps, with_steps, with_touch, chosen_with, chosen_then, told_touch, told_steps, told_bad, given_first, dashes_none, or_right}
use Rattle.command_words.proofs.Walks.{plain_app, app, top, walk_at, walk_waiting, rest_fault, read, read_then, options_at, is_sound, is_text, at_touch, at_equals, at_space, waiting_end, met, Met, pending_told, none_fails, or_false_left, same_text, Spells, spells, spells_touch, spells_equals, spells_space, spells_none, Begins, begins, nowhere, plainly, hyphen, one, dashes, two, no_short, one_short}

pub refuses_dashes : (a : App) (ws : List Text) → list_any is_dashes ws ≡ true → refuses a ws ≡ true
refuses_dashes a ws has = ap (λ b. b || is_fault (fault_of a ws)) has

pub refuses_nothing : (a : App) (ws : List Text) → list_any is_dashes ws ≡ false → fault_of a ws ≡ [] → refuses a ws ≡ false
refuses_nothing a ws lacks none = ap (λ b. b || is_fault (fault_of a ws)) lacks ∙ ap (λ (ks : Kinds). is_fault ks) none

pub refuses_fault : (a : App) (ws : List Text) → is_fault (fault_of a ws) ≡ true → refuses a ws ≡ true
refuses_fault a ws is = or_right (list_any is_dashes ws) is

pub fault_of_kind : (kinds : Kinds) (e : Error) → HasKind kinds e → (kind_of e ≡ OutOfMemory → ⊥) → is_fault kinds ≡ true
fault_of_kind [] e (inl memory) other = absurd (other memory)
fault_of_kind [] e (inr among) other = absurd among
fault_of_kind (k ∷ ks) e kind other = refl

and_left : (a b : Bool) → (a && b) ≡ true → a ≡ true
and_left true b h = refl
and_left false b h = h

pub free_is_simple : (a : App) → is_simple_and_free a ≡ true → is_simple a ≡ true
free_is_simple a is = and_left (is_simple a) (is_free_app (built a)) is

or_false_right : (a b : Bool) → (a || b) ≡ false → b ≡ false
or_false_right true b h = absurd (true≢false h)
or_false_right false b h = h

-- what words behind some that told something are
abbrev told_of : Told → List Text → Option Options × Bool
told_of s ws = (chosen_with s (given ws), true)

and_some : {X Y : Type 0} (f : X → Y) (o : Option X) → option_map f o ≡ option_and_then (λ x. Some (f x)) o
and_some f None = refl
and_some f (Some x) = refl

at_end : (s : Told) → read (walk_at s) [] ≡ told_of s []
unfolding clap_on_literals
at_end nothing = refl
at_end (of_steps v) = ap (λ (o : Option Options). (o, true)) (and_some (λ n. options n false) (number_of most_steps v))
at_end of_touch = refl
at_end (steps_touch v) = ap (λ (o : Option Options). (o, true)) (and_some (λ n. options n true) (number_of most_steps v))
at_end (touch_steps v) = ap (λ (o : Option Options). (o, true)) (and_some (λ n. options n true) (number_of most_steps v))

then_told : (ws : List Text) (o : Option Told) → ((s : Told) → read (walk_at s) ws ≡ told_of s ws) → read_then ws o ≡ (chosen_then (given ws) o, true)
then_told ws None rest = refl
then_told ws (Some s) rest = rest s

abbrev with_true : Option Options → Option Options × Bool
with_true o = (o, true)

word_told : (w : Text) (ws : List Text) → Spells w → bytes_eq w (codes "--steps") ≡ false → is_dashes w ≡ false
    → ((s : Told) → read (walk_at s) ws ≡ told_of s ws) → (s : Told) → read (walk_at s) (w ∷ ws) ≡ told_of s (w ∷ ws)
word_told _ ws spells_touch no_space no_dashes rest s =
    at_touch s ws ∙ then_told ws (with_touch s) rest
    ∙ sym (ap with_true (ap (chosen_with s) (given_first (codes "--touch") ws refl) ∙ told_touch s (given ws)))
word_told _ ws (spells_equals v) no_space no_dashes rest s =
    at_equals s v ws ∙ then_told ws (with_steps v s) rest
    ∙ sym (ap with_true (ap (chosen_with s) (given_first (codes "--steps=" ++ v) ws no_space) ∙ told_steps s v (given ws)))
word_told _ ws spells_space no_space no_dashes rest s = absurd (true≢false no_space)
word_told _ ws (spells_none w no_touch no_equals no_space) same no_dashes rest s =
    let nothing_given : given_alone w ≡ None = rw (no_touch, no_equals) refl in
    none_fails s None w ws no_dashes no_touch no_equals no_space
    ∙ sym (ap with_true (ap (chosen_with s) (given_first w ws no_space ∙ ap (λ g. beside g (given ws)) nothing_given)))

space_told : (n : Text) (ws : List Text) → list_any is_dashes (n ∷ ws) ≡ false → ((s : Told) → read (walk_at s) ws ≡ told_of s ws)
    → (s : Told) → read (walk_at s) (codes "--steps" ∷ n ∷ ws) ≡ told_of s (codes "--steps" ∷ n ∷ ws)
space_told n ws lacks rest s = at_space s (n ∷ ws) ∙ go (met s n ws (or_false_left (is_dashes n) (list_any is_dashes ws) lacks))
  where
    go : Met s n ws → read (walk_waiting s) (n ∷ ws) ≡ told_of s (codes "--steps" ∷ n ∷ ws)
    go (inl bad) = bad.1 ∙ sym (ap with_true (told_bad s n (given ws) bad.0))
    go (inr same) =
        same ∙ pending_told s n ws (or_false_right (is_dashes n) (list_any is_dashes ws) lacks) ∙ then_told ws (with_steps n s) rest
        ∙ sym (ap with_true (told_steps s n (given ws)))

-- `clap` reads what the words give
read_told : (ws : List Text) → list_any is_dashes ws ≡ false → (s : Told) → read (walk_at s) ws ≡ told_of s ws
read_told [] lacks s = at_end s
read_told (w ∷ []) lacks s = go (bytes_eq w (codes "--steps")) refl
  where
    go : (b : Bool) → bytes_eq w (codes "--steps") ≡ b → read (walk_at s) (w ∷ []) ≡ told_of s (w ∷ [])
    go true is = subst (λ (v : Text). read (walk_at s) (v ∷ []) ≡ told_of s (v ∷ [])) (same_text w (codes "--steps") is) (at_space s [] ∙ waiting_end s)
    go false is = word_told w [] (spells w) is (or_false_left (is_dashes w) false lacks) (λ t. at_end t) s
read_told (w ∷ n ∷ ws) lacks s =
    let tail = or_false_right (is_dashes w) (list_any is_dashes (n ∷ ws)) lacks in
    go (bytes_eq w (codes "--steps")) refl (λ t. read_told ws (or_false_right (is_dashes n) (list_any is_dashes ws) tail) t) (λ t. read_told (n ∷ ws) tail t)
  where
    go : (b : Bool) → bytes_eq w (codes "--steps") ≡ b → ((t : Told) → read (walk_at t) ws ≡ told_of t ws)
        → ((t : Told) → read (walk_at t) (n ∷ ws) ≡ told_of t (n ∷ ws)) → read (walk_at s) (w ∷ n ∷ ws) ≡ told_of s (w ∷ n ∷ ws)
    go true is rest more = subst (λ (v : Text). read (walk_at s) (v ∷ n ∷ ws) ≡ told_of s (v ∷ n ∷ ws)) (same_text w (codes "--steps") is)
        (space_told n ws (or_false_right (is_dashes w) (list_any is_dashes (n ∷ ws)) lacks) rest s)
    go false is rest more = word_told w (n ∷ ws) (spells w) is (or_false_left (is_dashes w) (list_any is_dashes (n ∷ ws)) lacks) more s

-- the faults of all the words
fault_at : (ws : List Text) (stop : Option (Text × List Text))
    → level_fault top [] nothing_held ws (is_some (entered (built app) stop)) (entered_fault (built app) stop) ≡ rest_fault (walk_at nothing) ws
fault_at ws None = refl
fault_at ws (Some p) = refl

fault_is : (ws : List Text) → fault_of app ws ≡ rest_fault (walk_at nothing) ws
fault_is ws = fault_at ws (walk top.rules [] nothing_held ws).stopped

-- where the words are refused, they are no options
pub none_told : (ws : List Text) → refuses app ws ≡ true → None ≡ options_of ws
none_told ws refused = go (list_any is_dashes ws) refl refused
  where
    go : (b : Bool) → list_any is_dashes ws ≡ b → (b || is_fault (fault_of app ws)) ≡ true → None ≡ options_of ws
    go true is h = sym (dashes_none ws is)
    go false is h =
        let faulty : is_fault (rest_fault (walk_at nothing) ws) ≡ true = sym (ap is_fault (fault_is ws)) ∙ h in
        let none : read (walk_at nothing) ws ≡ (None, true) = rw faulty refl in
        ap (λ (r : Option Options × Bool). r.0) (sym none ∙ read_told ws is nothing)

abbrev Reading : Option Text → Option ℕ → Option Options → Type 0
Reading o k r = (touch : Bool) → o ≡ Some (bool_text touch) → r ≡ option_map (λ n. options n touch) k

sound_reading : (o : Option Text) (k : Option ℕ) (r : Option Options) → (is_text (codes "true") o || is_text (codes "false") o) ≡ true
    → Reading o k r → r ≡ option_map (λ n. options n (is_text (codes "true") o)) k
sound_reading None k r sound reads = absurd (true≢false (sym sound))
sound_reading (Some t) k r sound reads = go (bytes_eq t (codes "true")) refl sound
  where
    go : (b : Bool) → bytes_eq t (codes "true") ≡ b → (b || bytes_eq t (codes "false")) ≡ true → r ≡ option_map (λ n. options n (bytes_eq t (codes "true"))) k
    go true is h = rw is (reads true (ap (λ (u : Text). Some u) (sym (same_text t (codes "true") is))))
    go false is h = rw is (reads false (ap (λ (u : Text). Some u) (sym (same_text t (codes "false") h))))

-- where they aren't, what is read of the matches is what they say
pub some_told : (ws : List Text) (rows : List Row) (r : Option Options) → refuses app ws ≡ false → rows ≡ matches_of app ws
    → Reading (one_of (codes "touch") rows) (steps_in (first_of (codes "steps") rows)) r → r ≡ options_of ws
some_told ws rows r passes same reads =
    let lacks = or_false_left (list_any is_dashes ws) (is_fault (fault_of app ws)) passes in
    let right = or_false_right (list_any is_dashes ws) (is_fault (fault_of app ws)) passes in
    let free : is_fault (rest_fault (walk_at nothing) ws) ≡ false = sym (ap is_fault (fault_is ws)) ∙ right in
    let all : read (walk_at nothing) ws ≡ (options_at (matches_of app ws), is_sound (matches_of app ws)) = rw free refl in
    let told = sym all ∙ read_told ws lacks nothing in
    let sound : is_sound (matches_of app ws) ≡ true = ap (λ (p : Option Options × Bool). p.1) told in
    let reads_all : Reading (one_of (codes "touch") (matches_of app ws)) (steps_in (first_of (codes "steps") (matches_of app ws))) r =
    subst (λ (rs : List Row). Reading (one_of (codes "touch") rs) (steps_in (first_of (codes "steps") rs)) r) same reads in
    sound_reading (one_of (codes "touch") (matches_of app ws)) (steps_in (first_of (codes "steps") (matches_of app ws))) r sound reads_all
    ∙ ap (λ (p : Option Options × Bool). p.0) told

-- a command without options
plain_one : (x : ℕ) (xs : Text) → (x == 45) ≡ false → (o : Option ℕ) → slice_get (chars (x ∷ xs)) 0 ≡ o
    → is_fault (turn_fault (built plain_app).top [] (walk_at nothing) (45 ∷ x ∷ xs)) ≡ true
unfolding flags_fault bundle_met
plain_one x xs is None at = rw (is, one_short x xs is, at) refl
plain_one x xs is (Some c) at = rw (is, one_short x xs is, at) refl

plain_fails : (w : Text) → Begins w → is_dashes w ≡ false → is_fault (turn_fault (built plain_app).top [] (walk_at nothing) w) ≡ true
plain_fails _ nowhere no_dashes = refl
plain_fails _ (plainly x xs is) no_dashes = rw (is, no_short x xs is) refl
plain_fails _ hyphen no_dashes = refl
plain_fails _ (one x xs is) no_dashes = plain_one x xs is (slice_get (chars (x ∷ xs)) 0) refl
plain_fails _ dashes no_dashes = absurd (true≢false no_dashes)
plain_fails _ (two x xs) no_dashes = refl

faulty_first : (turn more end : Kinds) → is_fault turn ≡ true → is_fault (or_else (or_else turn more) end) ≡ true
faulty_first [] more end is = absurd (true≢false (sym is))
faulty_first (k ∷ ks) more end is = refl

plain_refuses : (w : Text) (ws : List Text) → refuses plain_app (w ∷ ws) ≡ true
unfolding walk_fault
plain_refuses w ws = go (is_dashes w) refl
  where
    go : (b : Bool) → is_dashes w ≡ b → ((b || list_any is_dashes ws) || is_fault (fault_of plain_app (w ∷ ws))) ≡ true
    go true is = refl
    go false is = or_right (list_any is_dashes ws) (faulty_first (turn_fault (built plain_app).top [] (walk_at nothing) w) _ _ (plain_fails w (begins w) is))

pub plain_some : (c : Command) (ws : List Text) → refuses plain_app ws ≡ false → Some c ≡ alone c ws
plain_some c [] passes = refl
plain_some c (w ∷ ws) passes = absurd (true≢false (sym (plain_refuses w ws) ∙ passes))

pub plain_none : (c : Command) (ws : List Text) → refuses plain_app ws ≡ true → None ≡ alone c ws
unfolding clap_on_literals
plain_none c [] refused = absurd (true≢false (sym refused))
plain_none c (w ∷ ws) refused = refl
