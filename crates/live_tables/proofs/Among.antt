-- A row that is among objects names common built-in functions alone, and these stand in their places.
use Rattle.std.proofs.Common.{◌≡◌, ℕ, true, List, [], ◌∷◌, All, Option, length, suc}
use Rattle.std.proofs.lemmas.List.Elements.{All-nil, All-cons, All-head, All-tail}
use Rattle.es3_objects.specs.declared.value.Value.{Value}
use Rattle.es3_heap.specs.Objects.{Objects}
use Rattle.es3_live.specs.Live.{IsLive, AreClosed}
use Rattle.rows.specs.Rows as r
use Rattle.rows.specs.Rows.{Native, Handle, Sight, Branch, Ending, Settling, Row}
use Rattle.rows.specs.Nodes.{no_rules}
use Rattle.rows.specs.Table.{row_of}
use Rattle.heap_rows.specs.Natives.{is_common}
use Rattle.heap_rows.specs.Opening.{place_of, built_ins_there, empty_page}
use Rattle.live_rows.specs.Named.{HandleNames, HandlesName, IsHeld, IsSeen, IsSeenSort, IsSeenBranch, EndNames, SettlingNames, RowNames}
use Rattle.live_rows.specs.Live.{IsThere, LiveDone}
use Rattle.live_rows.proofs.Named.{common_there}
use Rattle.live_rows.proofs.Kept.{empty_live}
use Rattle.live_rows.proofs.Rows.{does_live}
use Rattle.row_outcomes.specs.Comes.{row_done}
use Rattle.row_simulation.specs.Among.{IsHandleAmong, AreHandlesAmong, ArePairsAmong, IsSortAmong, IsSightAmong, AreIdsAmong, IsBranchAmong, IsEndAmong, IsSettlingAmong, IsAmongObjects}
use Rattle.row_simulation.proofs.Tables.{tables}

-- what is seen is among objects

held_among : (x : Handle) → IsHeld x → IsHandleAmong x
held_among (r.held n) held = tt
held_among x held = absurd held

all_held_among : (xs : List Handle) → All IsHeld xs → AreHandlesAmong xs
all_held_among [] held = tt
all_held_among (x ∷ xs) held = (held_among x (All-head IsHeld x xs held), all_held_among xs (All-tail IsHeld x xs held))

abbrev IsPairHeld : List ℕ × Handle → Type 0
IsPairHeld p = IsHeld p.1

pairs_held_among : (ps : List (List ℕ × Handle)) → All IsPairHeld ps → ArePairsAmong ps
pairs_held_among [] held = tt
pairs_held_among ((k, x) ∷ ps) held = (held_among x (All-head IsPairHeld (k, x) ps held), pairs_held_among ps (All-tail IsPairHeld (k, x) ps held))

sort_among : (s : r.Sort) → IsSeenSort s → IsSortAmong s
sort_among (r.forwarder revoked) seen = seen
sort_among s seen = tt

seen_among : (s : Sight) → IsSeen s → IsSightAmong s
seen_among (r.a_record frozen ps) seen = pairs_held_among ps seen
seen_among (r.an_array frozen xs) seen = all_held_among xs seen
seen_among (r.a_function sort) seen = sort_among sort seen
seen_among s seen = tt

ids_held_among : (xs : List (Option (List ℕ) × Handle)) → All (λ (p : Option (List ℕ) × Handle). IsHeld p.1) xs → AreIdsAmong xs
ids_held_among [] held = tt
ids_held_among ((id, x) ∷ xs) held = (held_among x (All-head (λ (p : Option (List ℕ) × Handle). IsHeld p.1) (id, x) xs held), ids_held_among xs (All-tail (λ (p : Option (List ℕ) × Handle). IsHeld p.1) (id, x) xs held))

branch_among : (b : Branch) → IsSeenBranch b → IsBranchAmong b
branch_among b seen = record { parent = all_held_among b.parent seen.parent; children = all_held_among b.children seen.children; below = ids_held_among b.below seen.below }

-- what it names

module _ (P : Native → Type 0) (common : (f : Native) → is_common f ≡ true → P f) where
  handle_names : (x : Handle) → IsHandleAmong x → HandleNames P x
  handle_names (r.method_of x f) among = common f among.1
  handle_names x among = tt

  handles_name : (xs : List Handle) → AreHandlesAmong xs → HandlesName P xs
  handles_name [] among = All-nil (HandleNames P)
  handles_name (x ∷ xs) among = All-cons (HandleNames P) x xs (handle_names x among.0) (handles_name xs among.1)

  end_names : (e : Ending) → IsEndAmong e → EndNames P e
  end_names (r.answers x) among = handle_names x among
  end_names (r.calls recorded f t xs) among = (handle_names f among.0, handle_names t among.1, handles_name xs among.2)
  end_names (r.makes_array frozen xs) among = handles_name xs among
  end_names (r.reads_key o k x) among = handle_names x among.1
  end_names (r.writes_key o k x) among = handle_names x among.1
  end_names (r.sets_items o xs x) among = (handles_name xs among.1, handle_names x among.2)
  end_names (r.freezes o) among = handle_names o among
  end_names e among = tt

  settling_names : (e : Settling) → IsSettlingAmong e → SettlingNames P e
  settling_names (r.keeps x z) among = handle_names z among.1
  settling_names (r.queues x f) among = handle_names f among.1
  settling_names (r.changes_node x c z) among = handle_names z among.1
  settling_names (r.listens x us f) among = handle_names f among.1
  settling_names e among = tt

  row_names : (q : Row) → IsAmongObjects q → RowNames P q
  row_names (r.ends e) among = end_names e among
  row_names (r.settles e) among = settling_names e among
  row_names (r.as_text x go) among = λ us. row_names (go us) (among.1 us)
  row_names (r.as_number x go) among = λ n. row_names (go n) (among.1 n)
  row_names (r.as_joined x sep go) among = λ us. row_names (go us) (among.1 us)
  row_names (r.as_same x z go) among = λ b. row_names (go b) (among.2 b)
  row_names (r.looks x go) among = (handle_names x among.0, λ s seen. row_names (go s) (among.1 s (seen_among s seen)))
  row_names (r.as_same_root x z go) among = λ b. row_names (go b) (among.2 b)
  row_names (r.branches x go other) among = (handle_names x among.0, λ b seen. row_names (go b) (among.1 b (branch_among b seen)), row_names other among.2)
  row_names (r.touches t x k next) among = row_names next among.1

pub names_there : (h : Objects) (q : Row) → built_ins_there h → IsAmongObjects q → RowNames (IsThere place_of h) q
names_there h q there among = row_names (IsThere place_of h) (λ f common. common_there h f there common) q among

-- a built-in's row, with nothing beside the objects
pub built_in_live : (f : Native) (by : ℕ) (this : Value) (args : List Value) (h : Objects) → built_ins_there h → AreClosed h → IsLive (length h.list) this → All (IsLive (length h.list)) args → LiveDone h (row_done f by this args h)
built_in_live f by this args h there closed receiver arguments =
    let q = row_of no_rules f (suc (length args)) in
    let among = tables.built_ins no_rules (λ k xs answers. tt) f (suc (length args)) in
    (does_live place_of by q (this ∷ args) h empty_page [] (names_there h q there among) closed (All-cons (IsLive (length h.list)) this args receiver arguments)
    (empty_live (length h.list))).done
