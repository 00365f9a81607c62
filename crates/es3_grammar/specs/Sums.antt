-- Sums along the stack by which a state is tested against a limit in constant time: one frame more changes them by its own parts alone.
use Rattle.std.specs.Prelude.{ℕ, ◌+◌, ◌-◌, ◌*◌, ◌≡◌, ◌≤◌, max, min, Bool, true, false, ◌&&◌, ◌||◌, List, [], ◌∷◌, Option, Some, None, nat_le, if◌then◌else◌}
use Rattle.es3_tree.specs.Tree as t
use Rattle.es3_tree.specs.Token.{Token}
use Rattle.es3_grammar.specs.Spots.{Spot}
use Rattle.es3_grammar.specs.Levels.{E}
use Rattle.es3_grammar.specs.Plain.{deep}
use Rattle.es3_grammar.specs.Frames.{exprs_of, fields_of, stmts_of, items_of, cases_of, Item, Opened, an_array, a_call, a_new, Body, a_program, a_block, a_function, a_clause, a_try, a_catch, a_finally, Frame, paren, subscript, items, field, new_of, prefix_step, prefix, join, test, either, statement, value, if_test, while_test, do_test, for_first, for_test, for_step, for_object, giving, throwing, with_head, switch_head, case_test, then_of, else_of, while_body, do_body, for_body, in_body, with_body, label_of, body, Stack, State, want, have, past, listed, member, key, func, params, param, param_end, start, begun, ended, closing, item, item_end, for_open, for_second, for_third, returned, jumped, clauses, tried, caught, catch_name, await}
use Rattle.es3_grammar.specs.Machine.{step, ending, beginning}
use Rattle.es3_grammar.specs.Ends.{height}
use Rattle.es3_grammar.specs.Limit.{opens, shuts, turn}
use Rattle.es3_grammar.specs.Within.{Reading, refused, too_deep, reading_of}

-- ---- how deep: what the frames round a part make of its depth is so many layers more, and no less than a floor

pub record Rise : Type 0 where
  pub floor : ℕ
  pub layers : ℕ

abbrev pub rise : Rise → ℕ → ℕ
rise r h = max r.floor (r.layers + h)

abbrev pub level_rise : Rise
level_rise = record { floor = 0; layers = 0 }

-- within one frame more, which adds so many layers round the part and parts of its own of this depth
abbrev pub raise : ℕ → ℕ → Rise → Rise
raise c d r = record { floor = max r.floor (r.layers + (c + d)); layers = r.layers + c }

-- a number in 32 bits: what is greater is the greatest
abbrev pub capped : ℕ → ℕ
capped n = min n 4294967295

-- these two numbers of 32 bits are the rise
pub record IsCapped (r : Rise) (floor layers : ℕ) : Type 0 where
  pub floor_is : floor ≡ capped r.floor
  pub layers_is : layers ≡ capped r.layers

-- ---- the sums of a stack

pub record Sums : Type 0 where
  -- round an expression that is a target, round one that is none, round a statement
  pub target : Rise
  pub other : Rise
  pub behind : Rise
  -- behind an expression, a target or not, and behind a statement: the shortest end opens a bracket before it closes one
  pub part_opens : Bool
  pub behind_opens : Bool
  -- only a member of what `new` makes can be a target; no `in` may stand here
  pub stepped : Bool
  pub no_in : Bool

abbrev pub around : Bool → Sums → Rise
around true s = s.target
around false s = s.other

-- within a frame that an expression stands in, and within one that a statement stands in
abbrev pub part_sums : Rise → Bool → Bool → Sums
part_sums r o n = record { target = r; other = r; behind = level_rise; part_opens = o; behind_opens = false; stepped = false; no_in = n }

abbrev pub behind_sums : Rise → Bool → Sums
behind_sums r o = record { target = level_rise; other = level_rise; behind = r; part_opens = false; behind_opens = o; stepped = false; no_in = false }

-- the depth of a frame's own parts: a list within brackets, the `var` items before a value, which in a `for` head have a body behind them
abbrev pub items_deep : Opened → List E → ℕ
items_deep an_array xs = deep t.exprs (exprs_of xs)
items_deep (a_call x) xs = max (deep t.expr x) (deep t.exprs (exprs_of xs))
items_deep (a_new x) xs = max (deep t.expr x) (deep t.exprs (exprs_of xs))

abbrev pub value_deep : Bool → List Item → ℕ
value_deep true its = max (deep t.items (items_of its)) 1
value_deep false its = deep t.items (items_of its)

-- what a list of statements makes of the depth of one, where those before it are so deep
abbrev pub body_rise : Body → ℕ → Sums → Rise
body_rise a_program d k = raise 0 d level_rise
body_rise a_block d k = raise 1 d k.behind
body_rise (a_function h ps) d k = raise 2 d (if h.declared then k.behind else k.other)
body_rise (a_clause x cs m) d k = raise 1 (max (deep t.expr x) (max (deep t.cases (cases_of cs)) (max (deep t.maybe_expr m) d))) k.behind
body_rise a_try d k = raise 1 d k.behind
body_rise (a_catch rs n) d k = raise 1 (max (deep t.stmts (stmts_of rs)) d) k.behind
body_rise (a_finally rs h) d k = raise 1 (max (deep t.stmts (stmts_of rs)) (max (deep t.handler h) d)) k.behind

-- within a frame, from the sums round it
abbrev pub after : Frame → Sums → Sums
after paren k = record { target = k.target; other = k.other; behind = level_rise; part_opens = false; behind_opens = false; stepped = false; no_in = false }
after (subscript x) k = part_sums (raise 1 (deep t.expr x) k.target) false false
after (items o xs) k = part_sums (raise 1 (items_deep o xs) k.other) false false
after (field fs n) k = part_sums (raise 1 (deep t.fields (fields_of fs)) k.other) false false
after new_of k = record { target = raise 1 0 k.other; other = raise 1 0 k.other; behind = level_rise; part_opens = k.stepped || k.part_opens; behind_opens = false; stepped = k.stepped; no_in = k.no_in }
after (prefix_step up) k = record { target = raise 1 0 k.other; other = raise 2 0 k.other; behind = level_rise; part_opens = k.part_opens; behind_opens = false; stepped = true; no_in = k.no_in }
after (prefix op a) k = part_sums (raise 1 0 k.other) k.part_opens k.no_in
after (join j x) k = part_sums (raise 1 (deep t.expr x) k.other) k.part_opens k.no_in
after (test x) k = part_sums (raise 1 (max (deep t.expr x) 1) k.other) k.part_opens false
after (either x y) k = part_sums (raise 1 (max (deep t.expr x) (deep t.expr y)) k.other) k.part_opens k.no_in
after statement k = part_sums (raise 1 0 k.behind) k.behind_opens false
after (value h n its) k = part_sums (raise 1 (value_deep h its) k.behind) (if h then false else k.behind_opens) h
after if_test k = part_sums (raise 1 1 k.behind) false false
after while_test k = part_sums (raise 1 1 k.behind) false false
after (do_test s) k = part_sums (raise 1 (deep t.stmt s) k.behind) false false
after for_first k = part_sums (raise 1 1 k.behind) false true
after (for_test r) k = part_sums (raise 1 (max (deep t.first r) 1) k.behind) false false
after (for_step r m) k = part_sums (raise 1 (max (deep t.first r) (max (deep t.maybe_expr m) 1)) k.behind) false false
after (for_object r) k = part_sums (raise 1 (max (deep t.loop_target r) 1) k.behind) false false
after (giving a) k = part_sums (raise 1 0 k.behind) k.behind_opens false
after throwing k = part_sums (raise 1 0 k.behind) k.behind_opens false
after (with_head a) k = part_sums (raise 1 1 k.behind) false false
after switch_head k = part_sums (raise 1 0 k.behind) false false
after (case_test x cs) k = part_sums (raise 1 (max (deep t.expr x) (deep t.cases (cases_of cs))) k.behind) false false
after (then_of x) k = behind_sums (raise 1 (deep t.expr x) k.behind) k.behind_opens
after (else_of x s) k = behind_sums (raise 1 (max (deep t.expr x) (deep t.stmt s)) k.behind) k.behind_opens
after (while_body x) k = behind_sums (raise 1 (deep t.expr x) k.behind) k.behind_opens
after do_body k = behind_sums (raise 1 1 k.behind) true
after (for_body r m n) k = behind_sums (raise 1 (max (deep t.first r) (max (deep t.maybe_expr m) (deep t.maybe_expr n))) k.behind) k.behind_opens
after (in_body r x) k = behind_sums (raise 1 (max (deep t.loop_target r) (deep t.expr x)) k.behind) k.behind_opens
after (with_body x a) k = behind_sums (raise 1 (deep t.expr x) k.behind) k.behind_opens
after (label_of n) k = behind_sums (raise 1 0 k.behind) k.behind_opens
after (body b ss) k = behind_sums (body_rise b (deep t.stmts (stmts_of ss)) k) false

abbrev pub sums : Stack → Sums
sums [] = part_sums level_rise false false
sums (f ∷ k) = after f (sums k)

-- ---- the brackets that are open

abbrev pub one_more : Bool → ℕ → ℕ
one_more b n = if b then n + 1 else n

-- the place within a list of statements, or within a frame, stands in a bracket of its own
abbrev pub braced : Body → Bool
braced a_program = false
braced _ = true

abbrev pub bracketed : Frame → Bool
bracketed paren = true
bracketed (subscript x) = true
bracketed (items o xs) = true
bracketed (field fs n) = true
bracketed (value h n its) = h
bracketed if_test = true
bracketed while_test = true
bracketed (do_test s) = true
bracketed for_first = true
bracketed (for_test r) = true
bracketed (for_step r m) = true
bracketed (for_object r) = true
bracketed (with_head a) = true
bracketed switch_head = true
bracketed (case_test x cs) = true
bracketed (body b ss) = braced b
bracketed _ = false

abbrev pub brackets : Stack → ℕ
brackets [] = 0
brackets (f ∷ k) = one_more (bracketed f) (brackets k)

-- before these tokens, where so many are open behind them
abbrev pub open_before : List Token → ℕ → ℕ
open_before [] n = n
open_before (d ∷ ds) n = if opens d then open_before ds n - 1 else if shuts d then open_before ds n + 1 else open_before ds n

abbrev pub brackets_in : State → ℕ
brackets_in (want f) = brackets f
brackets_in (have x f) = brackets f
brackets_in (past x f) = brackets f
brackets_in (listed o xs f) = brackets f + 1
brackets_in (member x f) = brackets f
brackets_in (key fs f) = brackets f + 1
brackets_in (func d a f) = brackets f
brackets_in (params h f) = brackets f + 1
brackets_in (param h ps f) = brackets f + 1
brackets_in (param_end h ps f) = brackets f + 1
brackets_in (start f) = brackets f
brackets_in (begun n f) = brackets f
brackets_in (ended s f) = brackets f
brackets_in (closing s f) = brackets f
brackets_in (item h its f) = one_more h (brackets f)
brackets_in (item_end h n its f) = one_more h (brackets f)
brackets_in (for_open f) = brackets f + 1
brackets_in (for_second r f) = brackets f + 1
brackets_in (for_third r m f) = brackets f + 1
brackets_in (returned a f) = brackets f
brackets_in (jumped b a f) = brackets f
brackets_in (clauses x f) = brackets f + 1
brackets_in (tried ss f) = brackets f
brackets_in (caught ss n hs f) = brackets f
brackets_in (catch_name ss f) = brackets f + 1
brackets_in (await ds s) = open_before ds (brackets_in s)

-- the shortest end opens a bracket before it closes one; behind tokens of which none is a bracket, where it does so behind them
abbrev pub opens_first : List Token → Bool → Bool
opens_first [] b = b
opens_first (d ∷ ds) b = if opens d then true else if shuts d then false else opens_first ds b

abbrev pub peak : State → Bool
peak (want f) = (sums f).part_opens
peak (have x f) = (sums f).part_opens
peak (past x f) = (sums f).part_opens
peak (member x f) = (sums f).part_opens
peak (func d a f) = true
peak (start f) = (sums f).behind_opens
peak (begun n f) = (sums f).behind_opens
peak (ended s f) = (sums f).behind_opens
peak (closing s f) = (sums f).behind_opens
peak (item h its f) = if h then false else (sums f).behind_opens
peak (item_end h n its f) = if h then false else (sums f).behind_opens
peak (returned a f) = (sums f).behind_opens
peak (jumped b a f) = (sums f).behind_opens
peak (tried ss f) = true
peak (caught ss n hs f) = (sums f).behind_opens
peak (await ds s) = opens_first ds (peak s)
peak _ = false

-- where an opening bracket is awaited, it is counted behind it, and what follows it opens no bracket before it closes one
abbrev pub Ready : List Token → ℕ → Bool → Type 0
Ready [] n b = Unit {0}
Ready (d ∷ ds) n b = (opens d ≡ true → (opens_first ds b ≡ false) × (1 ≤ open_before ds n)) × Ready ds n b

-- so it is in each state that is reached
abbrev pub Steady : State → Type 0
Steady (await ds s) = Ready ds (brackets_in s) (peak s) × Steady s
Steady _ = Unit {0}

-- ---- reading within a limit, with the brackets counted and the end's most from the sums

abbrev pub within_by : ℕ → ℕ → State → Bool
within_by limit o s = nat_le (height s) limit && nat_le (one_more (peak s) o) (2 * limit)

abbrev pub goes_quickly : (State → Reading) → ℕ → ℕ → List Spot → Option State → Reading
goes_quickly f limit o k None = refused k
goes_quickly f limit o k (Some s) = if within_by limit o s then f s else too_deep k

unfoldable pub run_quickly : ℕ → ℕ → List Spot → State → Reading
run_quickly limit o [] s = reading_of (ending s)
run_quickly limit o (c ∷ k) s = goes_quickly (run_quickly limit (turn o c) k) limit (turn o c) (c ∷ k) (step s c)

abbrev pub read_quickly : ℕ → List Spot → Reading
read_quickly limit u = run_quickly limit 0 u beginning
