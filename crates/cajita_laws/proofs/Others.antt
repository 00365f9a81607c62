-- The others of a group leave the group alone: they are a group themselves, which does the same as itself.
use Rattle.std.proofs.Common.{◌≡◌, Bool, true, false, List, [], ◌∷◌, refl, sym, ap, ◌∙◌}
use Rattle.std.specs.Prelude.{not, if◌then◌else◌}
use Rattle.plans.specs.Plans.{over, stopped, out, kept_of}
use Rattle.page_deeds.specs.Deeds.{Owner, of_module, of_root, labelled}
use Rattle.cajita_meaning.specs.World.{World}
use Rattle.cajita_meaning.specs.Events.{key_event, tick_event, node_event}
use Rattle.cajita_meaning.specs.Direct.{Item, made, got, touched, passed, granted, said, was_revoked, changed_node, ended, Run, load_run}
use Rattle.cajita_laws.specs.Parts.{Group, others, owns, side, tells, items_of, SamePart, Closed, Alike}
use Rattle.cajita_laws.specs.Turns.{world_of, reply_run, call_run, question_run, SameTurns, LeavesAlone, LoadLeavesAlone, QuestionLeavesAlone, CallLeavesAlone, KeyLeavesAlone, TickLeavesAlone, NodeLeavesAlone}
use Rattle.cajita_laws.proofs.Parts.{same_self, closed_alike}
use Rattle.cajita_laws.proofs.Turns.{load_isolates, question_isolates, call_isolates, key_isolates, tick_isolates, node_isolates}

not_not : (b : Bool) → not (not b) ≡ b
not_not true = refl
not_not false = refl

others_own : (g : Group) (o : Owner) → not (owns (others g) o) ≡ owns g o
others_own g (of_module m) = not_not (g.modules m)
others_own g (of_root root) = not_not (g.roots root)

-- an item tells of the group, or of its others
others_tell : (g : Group) (i : Item) → side false (tells (others g) i) ≡ tells g i
others_tell g (made m o) = not_not (g.modules m)
others_tell g (got m h o) = not_not (g.modules m)
others_tell g (touched m t o k) = not_not (g.modules m)
others_tell g (passed a b o) = not_not (g.modules a)
others_tell g (granted m o) = not_not (g.modules m)
others_tell g (said m us) = not_not (g.modules m)
others_tell g (was_revoked m p) = not_not (g.modules m)
others_tell g (changed_node r k c) = not_not (g.roots r)
others_tell g (ended l e) = others_own g (labelled l)

-- what the others of the others did is what the group did
others_items : (g : Group) (z : List Item) → items_of false (others g) z ≡ items_of true g z
others_items g [] = refl
others_items g (i ∷ z) = ap (λ b. if b then i ∷ items_of false (others g) z else items_of false (others g) z) (others_tell g i) ∙ ap (λ l. if tells g i then i ∷ l else l) (others_items g z)

-- what is the same for the others' others is the same for the group
others_part : (g : Group) (w v : World) (z y : List Item) → SamePart false (others g) w v z y → SamePart true g w v z y
others_part g w v z y s = record {
  objects = λ m is. s.objects m (ap not is);
  scopes = λ m is. s.scopes m (ap not is);
  cells = λ c is. s.cells c (ap not is);
  queues = λ m is. s.queues m (ap not is);
  revoked = λ m is. s.revoked m (ap not is);
  nodes = λ r is. s.nodes r (ap not is);
  handlers = λ r is. s.handlers r (ap not is);
  items = sym (others_items g z) ∙ s.items ∙ others_items g y;
}

alike_self : (g : Group) (w : World) (z : List Item) → Closed g w → Alike g w z w z w z
alike_self g w z c = closed_alike g w w z z c (same_self true g w z)

from_alike : (g : Group) (w : World) (z : List Item) (r : Run) → Alike (others g) w z (world_of r) (kept_of r) (world_of r) (kept_of r) → LeavesAlone g w z r
from_alike g w z r a = record { part = others_part g w (world_of r) z (kept_of r) a.others; closed = a.closed }

-- a turn that is the same as itself for the others leaves the group alone
left_alone : (g : Group) (w : World) (z : List Item) (r : Run) → SameTurns (others g) w z r r → LeavesAlone g w z r
left_alone g w z (over e v y n) h = from_alike g w z (over e v y n) h.3
left_alone g w z (stopped f v y n) h = from_alike g w z (stopped f v y n) h.1
left_alone g w z (out v y n) h = from_alike g w z (out v y n) h

pub load_leaves_alone : LoadLeavesAlone
load_leaves_alone g rules p m other vs own w z c n = left_alone g w z (load_run rules p m vs w z n) (load_isolates (others g) w z rules p m (ap not other) vs own w z w z (alike_self (others g) w z c) n)

pub question_leaves_alone : QuestionLeavesAlone
question_leaves_alone g rules q m other vs own w z c n = left_alone g w z (question_run rules q m vs w z n) (question_isolates (others g) w z rules q m (ap not other) vs own w z w z (alike_self (others g) w z c) n)

pub call_leaves_alone : CallLeavesAlone
call_leaves_alone g rules calls recorded f t vs m other own w z c n = left_alone g w z (call_run rules calls recorded f t vs m w z n) (call_isolates (others g) w z rules calls recorded f t vs m (ap not other) own w z w z (alike_self (others g) w z c) n)

pub key_leaves_alone : KeyLeavesAlone
key_leaves_alone g rules m other k p own vs plain w z c n = left_alone g w z (reply_run rules (key_event m k (p ∷ vs) w) z n) (key_isolates (others g) w z rules m (ap not other) k p own vs plain w z w z (alike_self (others g) w z c) n)

pub tick_leaves_alone : TickLeavesAlone
tick_leaves_alone g rules m other f own w z c n = left_alone g w z (reply_run rules (tick_event m f w) z n) (tick_isolates (others g) w z rules m (ap not other) f own w z w z (alike_self (others g) w z c) n)

pub node_leaves_alone : NodeLeavesAlone
node_leaves_alone g rules node other f own w z c n = left_alone g w z (reply_run rules (node_event node f w) z n) (node_isolates (others g) w z rules node other f own w z w z (alike_self (others g) w z c) n)
