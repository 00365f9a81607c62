-- The sentences of a turn, from plans that are simulated where each deed has its room.
use Rattle.std.proofs.Common.{◌≡◌, ℕ, suc, ◌+◌, ◌-◌, ◌*◌, ◌≤◌, List, ◌++◌, refl, arith}
use Rattle.plans.specs.Plans.{over, stopped, count_of}
use Rattle.plans.proofs.Laws.{run_count}
use Rattle.matching.specs.Sides.{Sides}
use Rattle.matching.specs.Sentences.{Together, Simulated, SimulatedTo}
use Rattle.matching.proofs.Limits.{run_grows}
use Rattle.es3_language.specs.Store.{Store}
use Rattle.es3_language.specs.Natives.{Touched}
use Rattle.es3_language.specs.Meaning as Target
use Rattle.es3_language.specs.Meaning.{es3}
use Rattle.rows.specs.Nodes.{Rules}
use Rattle.cajita_meaning.specs.World.{World}
use Rattle.cajita_meaning.specs.Direct as Source
use Rattle.cajita_meaning.specs.Direct.{Item, direct}
use Rattle.heap_rows.specs.Doing.{Told}
use Rattle.row_simulation.specs.RowLaw.{shown}
use Rattle.page_natives.specs.Natives.{Kept, page_table, tells}
use Rattle.cajita_simulation.specs.Alike.{most_deeds, most_page_steps}
use Rattle.cajita_simulation.specs.Related.{BetweenTurns}
use Rattle.cajita_simulation.specs.Sides.{Ends}
use Rattle.cajita_simulation.specs.Turns.{source_run, target_run, TurnEnds, EndTurn, TurnsAlike}
use Rattle.cajita_simulation.proofs.Relation.{Tags, Turn, Between, related_steps}
use Rattle.cajita_simulation.proofs.Told.{TellsMore, items_told}
use Rattle.cajita_simulation.proofs.Changes.{knows_still}
use Rattle.cajita_simulation.proofs.Laws.{target_grows, sides}

-- the steps of all of a page, with the room of its deeds
between_turns : {rules : Rules} (d n m : ℕ) {w : World} {z : List Item} {n' : ℕ} {g : Tags} {s : Store} {y : Kept} {m' : ℕ} → n' ≡ n + d → m' ≡ m + 64 * d → Between rules w z n' g s y m' → BetweenTurns rules d w z n g s y m
between_turns d n m left right r = related_steps (omega (arith, right)) (omega (arith, left, right, r.steps)) r

turn_ends : (rules : Rules) (d : ℕ) (t : Turn) (a : Source.Completion) (w : World) (z : List Item) (n n' : ℕ) (b : Target.Completion) (s : Store) (y : Kept) (m m' : ℕ) → n' ≡ n + d → m' ≡ m + 64 * d → Ends rules t a w z n' b s y m' → TurnEnds rules d t a w z n b s y m
turn_ends rules d t (Source.gave v) w z n n' b s y m m' left right p = (p.0, ((p.1.0, between_turns d n m left right p.1.1), p.2))
turn_ends rules d t (Source.threw v) w z n n' (Target.threw u) s y m m' left right p = (p.0, ((p.1.0, between_turns d n m left right p.1.1), p.2))
turn_ends rules d t _ w z n n' _ s y m m' left right p = absurd p

-- of two runs that came to like ends
end_turn : (rules : Rules) (t : Turn) (d n j i k : ℕ) {n' i' : ℕ} → n' ≡ n + d → i' ≡ i + 64 * d → (r : Source.Run) (q : Target.Run Kept) → count_of r ≤ j → count_of q ≤ k → Together (sides rules t) (Ends rules t) (n' + j) (i' + k) r q → EndTurn rules d t (n + j) (i + k) r q
end_turn rules t d n j i k left right (over a w z l) (over b s y l') few few' h = record {
  taken = h.taken - d;
  taken' = h.taken' - 64 * d;
  is_all = omega (arith, left, few, h.is_all);
  is_all' = omega (arith, right, few', h.is_all');
  ends = turn_ends rules d t a w z (h.taken - d) h.taken b s y (h.taken' - 64 * d) h.taken' (omega (arith, left, few, h.is_all)) (omega (arith, right, few', h.is_all')) h.ends;
}
end_turn rules t d n j i k left right (stopped f w z l) (stopped g s y l') few few' h = h
end_turn rules t d n j i k left right _ _ few few' h = absurd h

-- from plans that are simulated where d deeds have their room
pub turns_alike : (rules : Rules) (turn : Turn) (d : ℕ) {p : Source.Plan} {z : List Item} {n : ℕ} {q : Target.Plan} {y : Kept} {i : ℕ} (n' i' : ℕ) → n' ≡ n + d → i' ≡ i + 64 * d → d ≤ most_deeds → i ≤ 64 * n → (i ≤ most_page_steps → Simulated (sides rules turn) n' i' (λ j. source_run rules p z j) (λ k. target_run q y k)) → TurnsAlike rules turn d p z n q y i
turns_alike rules turn d {p = p} {z = z} {n = n} {q = q} {y = y} {i = i} n' i' left right few fits alike = record {
  forward = λ j c k fin eq le most.
      let h = (alike (omega (arith, fits, most))).forward j c (64 * (n' + c)) k (λ a less. less) fin eq (omega (arith, left, right, le)) (omega (arith, left, most, few)) in
      (end_turn rules turn d n j i k left right _ _ (run_count (direct rules) j p z) (run_count (es3 page_table) k q y) h.0, omega (arith, h.1, left, right));
  backward = λ k le fin.
      let h = (alike (omega (arith, le))).backward k (omega (arith, right, few, le)) fin in
      (h.0, λ a enough. end_turn rules turn d n a i k left right _ _ (run_count (direct rules) a p z) (run_count (es3 page_table) k q y) (h.1 a enough));
  cut = λ k le. (alike (omega (arith, le))).cut k (omega (arith, right, few, le));
  touching = λ k. (run_grows (es3 page_table) TellsMore target_grows k q y).touching;
}

-- the two sides of a page; how a turn ends is told beside them
abbrev pub page_sides : Rules → Turn → Sides Source.Task Source.Completion World Item (List Item) Target.Task Target.Completion Store Touched Kept
page_sides rules turn = record (sides rules turn) { most = most_page_steps }

-- so turns that are alike are simulated, as a page of deeds asks it of them
pub turns_simulated : (rules : Rules) (sided turn : Turn) {d : ℕ} {p : Source.Plan} {z : List Item} {n : ℕ} {q : Target.Plan} {y : Kept} {i : ℕ} → TurnsAlike rules turn d p z n q y i → SimulatedTo (page_sides rules sided) (TurnEnds rules d turn) n i (λ j. source_run rules p z j) (λ k. target_run q y k)
turns_simulated rules sided turn {d = d} {p = p} {z = z} {n = n} {q = q} {y = y} {i = i} x = record {
  forward = λ j c b k bounds fin eq le most.
      let least : 64 * (n + c) ≤ b = bounds (64 * (n + c)) (omega arith) in
      let h = x.forward j c k fin eq (omega (arith, least, le)) (omega (arith, least, most)) in
      (both (n + j) (i + k) (source_run rules p z j) (target_run q y k) h.0, omega (arith, h.1, least));
  backward = λ k le fin. let h = x.backward k le fin in (h.0, λ a enough. both (n + a) (i + k) (source_run rules p z a) (target_run q y k) (h.1 a enough));
  cut = x.cut;
}
  where
    both : (all all' : ℕ) (r : Source.Run) (t : Target.Run Kept) → EndTurn rules d turn all all' r t → Together (page_sides rules sided) (TurnEnds rules d turn) all all' r t
    both all all' (over a w z l) (over b s y l') h = h
    both all all' (stopped f w z l) (stopped g s y l') h = h
    both all all' _ _ h = absurd h

-- one deed more has its room
pub one_more : (rules : Rules) (d : ℕ) (w : World) (z : List Item) (n : ℕ) (g : Tags) (s : Store) (y : Kept) (i : ℕ) → BetweenTurns rules d w z n g s y i → BetweenTurns rules (suc d) w z n g s y i
one_more rules d w z n g s y i r = related_steps (omega arith) (omega (arith, r.steps)) r

-- what both sides tell between two turns
pub telling : (rules : Rules) (is : List Item) (items : List Told) → shown is ≡ items → (d : ℕ) (w : World) (z : List Item) (n : ℕ) (g : Tags) (s : Store) (y : Kept) (i : ℕ) → BetweenTurns rules d w z n g s y i → BetweenTurns rules d w (z ++ is) n g s (tells items y) i
telling rules is items same d w z n g s y i r = record {
  steps = r.steps;
  items = items_told y z is items same r.items;
  objects = r.objects;
  pages = r.pages;
  closures = r.closures;
  waiters = r.waiters;
  scopes = r.scopes;
  globals = r.globals;
  kept = knows_still refl refl refl refl r.kept;
}
