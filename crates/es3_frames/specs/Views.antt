-- What the values of the reader say.
use Rattle.std.specs.Prelude.{◌≡◌, ℕ, Bool, true, false, [], ◌∷◌, map, Option, Some, None}
use Rattle.es3_tree.specs.Token.{punct}
use Rattle.es3_tree.specs.PlacedView.{word, words, expr, stmt, first}
use Rattle.es3_frames.specs.Boxed.{of_maybe_boxed}
use Rattle.es3_frames.specs.Lists.{field_of, item_of}
pub use Rattle.es3_frames.specs.FrameViews.{opened_of, head_of, waiting_of, bracket_of, root_of, outer_of, body_of, frame_of}
use Rattle.es3_lexer.specs.Tables.{punct_number}
use Rattle.es3_lexer.specs.Views.{token_of}
use Rattle.es3_lexer.specs.declared.token.Token.{Token}
use Rattle.es3_grammar.specs.Spots.{Spot, open_brace}
use Rattle.es3_grammar.specs.Frames as m
use Rattle.es3_frames.specs.Kept.{over}
use Rattle.es3_frames.specs.declared.stack.Stack.{Stack}
use Rattle.es3_frames.specs.declared.frames.Frame.{Frame}
use Rattle.es3_frames.specs.declared.frames.After.{After}
use Rattle.es3_frames.specs.declared.frames.After.TheVariants as a
use Rattle.es3_frames.specs.declared.frames.State.{State}
use Rattle.es3_frames.specs.declared.frames.State.TheVariants as s

abbrev pub spot_of : Token → Spot
spot_of c = (token_of c.kind, c.start)

-- ---- states, over the frames that are open

abbrev pub after_of : After → m.Stack → m.State
after_of a.Want k = m.want k
after_of a.Start k = m.start k
after_of a.Brace k = m.await (open_brace ∷ []) (m.start k)
after_of (a.Params h) k = m.params (head_of h) k
after_of a.ForOpen k = m.for_open k
after_of (a.Clauses x) k = m.clauses (expr x.tree.value) k
after_of (a.CatchName ss) k = m.catch_name (map stmt ss.list.items) k

-- one more token before these
abbrev pub behind : ℕ → After → m.Stack → m.State
behind n a.Brace k = m.await (punct n ∷ open_brace ∷ []) (m.start k)
behind n x k = m.await (punct n ∷ []) (after_of x k)

abbrev pub state_of : State → m.Stack → m.State
state_of s.Want k = m.want k
state_of (s.Have x) k = m.have (expr x.tree.value) k
state_of (s.Past x) k = m.past (expr x.tree.value) k
state_of (s.Listed o xs) k = m.listed (opened_of o) (map expr xs.list.items) k
state_of (s.Member x) k = m.member (expr x.tree.value) k
state_of (s.Key fs) k = m.key (map field_of fs.list.items) k
state_of (s.Func d at) k = m.func d at k
state_of (s.Params h) k = m.params (head_of h) k
state_of (s.Param h ps) k = m.param (head_of h) (words ps.items) k
state_of (s.ParamEnd h ps) k = m.param_end (head_of h) (words ps.items) k
state_of s.Start k = m.start k
state_of (s.Begun n) k = m.begun (word n) k
state_of (s.Ended x) k = m.ended (stmt x.tree.value) k
state_of (s.Closing x) k = m.closing (stmt x.tree.value) k
state_of (s.Item h is) k = m.item h (map item_of is.list.items) k
state_of (s.ItemEnd h n is) k = m.item_end h (word n) (map item_of is.list.items) k
state_of s.ForOpen k = m.for_open k
state_of (s.ForSecond x) k = m.for_second (first x.tree.value) k
state_of (s.ForThird x y) k = m.for_third (first x.tree.value) (of_maybe_boxed y.tree) k
state_of (s.Returned at) k = m.returned at k
state_of (s.Jumped b at) k = m.jumped b at k
state_of (s.Clauses x) k = m.clauses (expr x.tree.value) k
state_of (s.Tried ss) k = m.tried (map stmt ss.list.items) k
state_of (s.Caught ss n hs) k = m.caught (map stmt ss.list.items) (word n) (map stmt hs.list.items) k
state_of (s.CatchName ss) k = m.catch_name (map stmt ss.list.items) k
state_of (s.Await p x) k = behind (punct_number p) x k

abbrev pub next_of : Option State → m.Stack → Option m.State
next_of None k = None
next_of (Some z) k = Some (state_of z k)

-- ---- the frames that are open, the innermost first

abbrev pub stack_of : Stack → m.Stack
stack_of k = over k.entries.items []

-- the innermost was taken off, or there was none
abbrev pub Popped : Option Frame → m.Stack → m.Stack → Type 0
Popped None old new = (old ≡ []) × (new ≡ [])
Popped (Some x) old new = old ≡ frame_of x ∷ new

-- the innermost is a list of statements
abbrev pub lists : m.Stack → Bool
lists (m.body b ss ∷ k) = true
lists k = false
