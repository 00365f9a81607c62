-- What the page itself calls: the key of a value, and a function that waited. Both sides do the same, and are related at the end.
use Rattle.std.proofs.Common.{◌≡◌, ℕ, zero, suc, ◌+◌, ◌-◌, ◌*◌, ◌≤◌, ◌<◌, false, List, [], ◌∷◌, ◌++◌, length, Some, cond, inl, refl, sym, ap, ◌∙◌, subst, arith}
use Rattle.std.proofs.Math.Path.{fun_ext}
use Rattle.plans.specs.Plans.{ends, enter, bind}
use Rattle.plans.proofs.Laws.{bind_ends}
use Rattle.acts.specs.Acts.{task, answer, replied}
use Rattle.matching.specs.Sides.{Match}
use Rattle.matching.proofs.Turn.{turn_simulated}
use Rattle.matching.proofs.Rules.{both_end, both_stop}
use Rattle.es3_objects.specs.declared.value.Value.TheVariants as es
use Rattle.es3_heap.specs.Objects as heap
use Rattle.es3_heap.specs.Objects.{Objects}
use Rattle.es3_language.specs.Store.{Store, with_heap}
use Rattle.es3_language.specs.Natives.{Reply, value_reply, throw_reply, invoke_reply, stop_reply}
use Rattle.es3_language.specs.Expressions.{apply_callable}
use Rattle.es3_language.specs.Meaning as Target
use Rattle.es3_language.specs.Meaning.{es3}
use Rattle.rows.specs.Rows as r
use Rattle.rows.specs.Rows.{Native, Sight, Row}
use Rattle.rows.specs.Names.{sort_of, is_exophoric}
use Rattle.rows.specs.Public.{pub_get}
use Rattle.rows.specs.Arguments.{arguments, values_from}
use Rattle.rows.specs.Events.{call_key, key_row, found_end}
use Rattle.rows.specs.Nodes.{Rules}
use Rattle.cajita_meaning.specs.World.{Name, made_name, cell_name, own_name, built_name, tools_name, facet_name, forward_name, Value, undefined, object, a_closure, World}
use Rattle.cajita_meaning.specs.Doing as direct
use Rattle.cajita_meaning.specs.Asking.{bad, first, good_value, native_at, native_reply}
use Rattle.cajita_meaning.specs.Events.{the_page, given_out, thrown_out, native_out, native_event, closure_event, page_call, event_outcome, key_event, tick_event}
use Rattle.cajita_meaning.specs.Direct.{Item, a_native}
use Rattle.heap_rows.specs.Doing as es3
use Rattle.heap_rows.specs.Opening.{place_of}
use Rattle.heap_rows.specs.Opening as opening
use Rattle.page_natives.specs.Natives.{Kept, page_of}
use Rattle.module_loader.specs.Turns.{reply_plan, key_plan, tick_plan}
use Rattle.row_simulation.specs.Correspond as rows
use Rattle.row_simulation.specs.RowLaw.{ReplyIs, PagesAre, CameIs}
use Rattle.row_simulation.proofs.First.{first_is}
use Rattle.row_simulation.proofs.Row.{vals_length}
use Rattle.row_simulation.proofs.Tables.{tables}
use Rattle.row_simulation.proofs.Whole.{every_row}
use Rattle.row_simulation.proofs.Leaves.{does_leaves}
use Rattle.cajita_simulation.specs.Alike.{most_deeds}
use Rattle.cajita_simulation.specs.Related.{BetweenTurns}
use Rattle.cajita_simulation.specs.Sides.{Lasts, GivenIs}
use Rattle.cajita_simulation.specs.Turns.{TurnsAlike, call_in, answer_end, key_turn, key_turn', tick_turn, tick_turn'}
use Rattle.cajita_simulation.proofs.Doing as Source
use Rattle.cajita_simulation.proofs.Relation.{IsClosure, EsValue, Named, Val, Vals, Turn, Here, env_of, Tags, no_temps, Related, Between, RelAt, Stays, related_steps, related_between}
use Rattle.cajita_simulation.proofs.Changes.{Changes, stays_changed, rel_changed, rel_told}
use Rattle.cajita_simulation.proofs.Laws.{NextAt, Cont, M, sides}
use Rattle.cajita_simulation.proofs.Sentences.{turns_alike, one_more}
use Rattle.cajita_simulation.proofs.Rows.{Going, NoTouches, same_page, quiet_row, row_waiters, left_tell}
use Rattle.cajita_simulation.proofs.Calling.Callable.{IsFunctionName, IsCallable, callable_stays}
use Rattle.cajita_simulation.proofs.Calling.Calls.{IsCalling, EndsCalling, Looked, ComesCalling, calling_settling, calling_row}
use Rattle.cajita_simulation.proofs.Calling.Laws.{FewValues}
use Rattle.cajita_simulation.proofs.Calling.Body.{passed_match}
use Rattle.cajita_simulation.proofs.Simulation.{page_closures, page_natives}

-- where the page calls for a module: in no scope, and no call is open
abbrev pub at_event : Rules → Turn → ℕ → Store → Here
at_event rules turn by s = record {
  rules = rules;
  turn = turn;
  around = record { chain = []; calls = 0 };
  by = by;
  chain = [];
  vars = λ x. false;
  free = λ x. false;
  act = 0;
  this = s.globals;
}

-- a turn is a call, and what had a name when it began has it in these objects
pub record InCall (turn : Turn) (h : Objects) : Type 0 where
  pub call : turn.load ≡ false
  pub lasts : Lasts turn.began h

in_call_still : {turn : Turn} {a b : Objects} → rows.Keeps a b → InCall turn a → InCall turn b
in_call_still k c = record { call = c.call; lasts = λ o j t. k.named o j (c.lasts o j t) }

-- how a call by the page ends

pub end_gave : {H : Here} {c k : ℕ} {v : Value} {e : EsValue} {w : World} {z : List Item} {n : ℕ} {g : Tags} {s : Store} {y : Kept} {m : ℕ} → InCall H.turn s.heap → Val s.heap v e → RelAt false H no_temps k w z n g s y m → M H c (ends (Source.gave v) w) z n (ends (Target.gave e) s) y m
end_gave {v = v} {e = e} {g = g} {s = s} in_call is r = both_end (omega (arith, r.all.steps)) (subst (λ b. GivenIs b s.heap v (Target.gave e)) (sym in_call.call) is, (g, related_between r.all), in_call.lasts)

end_threw : {H : Here} {c k : ℕ} {v : Value} {e : EsValue} {w : World} {z : List Item} {n : ℕ} {g : Tags} {s : Store} {y : Kept} {m : ℕ} → InCall H.turn s.heap → Val s.heap v e → RelAt false H no_temps k w z n g s y m → M H c (ends (Source.threw v) w) z n (ends (Target.threw e) s) y m
end_threw {g = g} in_call is r = both_end (omega (arith, r.all.steps)) (is, (g, related_between r.all), in_call.lasts)

-- what a closure's call gives or throws has gone to the page already
pub closure_next : {H : Here} {d k : ℕ} {w : World} {g : Tags} {s : Store} {m : ℕ} → InCall H.turn s.heap → NextAt false H no_temps d k w g s m (Source.called_next answer_end ends) ends
closure_next in_call = record {
  gives = record { on = λ c le v e w z n g s y m is r keep. end_gave (in_call_still keep.heap.objects in_call) is r };
  throws = record { on = λ c le v e w z n g s y m is r keep. end_threw (in_call_still keep.heap.objects in_call) is r };
}

-- what another function gives or throws goes to the page from the module whose event it is
abbrev out_go : ℕ → Going
out_go m bad vs w = replied (thrown_out m (first vs) w) answer_end
out_go m a vs w = replied (given_out m (first vs) w) answer_end

native_next : {H : Here} {d k : ℕ} {w : World} {g : Tags} {s : Store} {m : ℕ} (by : ℕ) → InCall H.turn s.heap → NextAt false H no_temps d k w g s m (Source.called_next (out_go by) ends) ends
native_next by in_call = record {
  gives = record { on = λ c le v e w z n g s y m is r keep. passed_match by the_page (v ∷ []) (good_value v w) answer_end ends r (λ z1 r1. end_gave (in_call_still keep.heap.objects in_call) is r1) };
  throws = record { on = λ c le v e w z n g s y m is r keep. passed_match by the_page (v ∷ []) (answer bad (v ∷ []) w) answer_end ends r (λ z1 r1. end_threw (in_call_still keep.heap.objects in_call) is r1) };
}

native_same : (m : ℕ) (e : Source.Completion) (w : World) → replied (native_reply e w) (out_go m) ≡ replied (native_out m e w) answer_end
native_same m (Source.gave v) w = refl
native_same m (Source.threw v) w = refl
native_same m (Source.normal v) w = refl
native_same m (Source.broke l) w = refl
native_same m (Source.continued l) w = refl
native_same m (Source.returned v) w = refl

-- a function is called by the page for a module, with its receiver and its arguments

module _ (rules : Rules) (turn : Turn) {by : ℕ} (below : by < 64) (d k : ℕ) (receiver : Value) (this : EsValue) (us : List Value) (qs : List EsValue) {w : World} {z : List Item} {n : ℕ} {g : Tags} {s : Store} {y : Kept} {m : ℕ} (in_call : InCall turn s.heap) (at : Val s.heap receiver this) (args : Vals s.heap us qs) (small : FewValues m qs) (r : Related rules no_temps k w z n g s y m) where
  abbrev Called : Value → EsValue → Type 0
  Called v e = Match (sides rules turn) d (bind (replied (page_call by v receiver us w) answer_end) ends) z n (bind (Target.call_plan e this qs by s) ends) y m

  closure_called : (o i j : ℕ) → IsFunctionName w (made_name o i) → Named s.heap (made_name o i) j → Called (object (made_name o i)) (es.Obj j)
  closure_called o i j fun is =
      let all = r.closures o i fun.0 fun.1 fun.2 in
      let code = all.1 j is in
      let H = at_event rules turn the_page s in
      let same : apply_callable (heap.callable_of (heap.object_at s.heap j)) (es.Obj j) this qs (env_of H) s ≡ Target.call_plan (es.Obj j) this qs by s =
      ap (λ c. apply_callable c (es.Obj j) this qs (env_of H) s) code.callable ∙ sym (ap (λ c. apply_callable c (es.Obj j) this qs (Target.outermost by s) s) code.callable) in
      subst (λ q. Match (sides rules turn) d (bind (replied (closure_event by q o us w) answer_end) ends) z n (bind (Target.call_plan (es.Obj j) this qs by s) ends) y m) (sym fun.2)
      (subst (λ p. Match (sides rules turn) d (bind (replied (closure_event by (Some (a_closure fun.0 fun.1)) o us w) answer_end) ends) z n (bind p ends) y m) same
      ((page_closures H (suc d)).on {k = k} o j fun.0 fun.1 this us qs answer_end ends ends (omega arith) all.0 code args small (record { all = r; here = tt }) (closure_next in_call)))

  native_called : (o : Name) (i : ℕ) → (f : Native) × (native_at o ≡ Some f) → Named s.heap o i → Match (sides rules turn) d (bind (replied (native_event by (native_at o) o receiver us w) answer_end) ends) z n (bind (Target.call_plan (es.Obj i) this qs by s) ends) y m
  native_called o i is named =
      let H = at_event rules turn by s in
      let entered : Source.Task = task (a_native is.0 0) by (cond (is_exophoric (sort_of is.0)) receiver (object o) ∷ us) in
      subst (λ f. Match (sides rules turn) d (bind (replied (native_event by f o receiver us w) answer_end) ends) z n (bind (Target.call_plan (es.Obj i) this qs by s) ends) y m) (sym is.1)
      (subst (λ (next : Cont). Match (sides rules turn) d (enter entered w next) z n (bind (Target.call_plan (es.Obj i) this qs by s) ends) y m) (fun_ext (λ e. fun_ext (λ w1. ap (λ p. bind p ends) (native_same by e w1))))
      ((page_natives H below (suc d)).on {k = k} false o is.0 i receiver this us qs (out_go by) ends ends (omega arith) is.1 named at args small (record { all = r; here = tt }) (native_next by in_call)))

  pub page_match : (v : Value) (e : EsValue) → IsCallable w v → Val s.heap v e → Called v e
  page_match (object (made_name o i)) (es.Obj j) fun is = closure_called o i j fun is
  page_match (object (built_name f)) (es.Obj j) fun is = native_called (built_name f) j fun is
  page_match (object (tools_name t)) (es.Obj j) fun is = native_called (tools_name t) j fun is
  page_match (object (own_name o i)) (es.Obj j) fun is = native_called (own_name o i) j fun is
  page_match (object (cell_name c i)) (es.Obj j) fun is = native_called (cell_name c i) j fun is
  page_match (object (facet_name root i)) (es.Obj j) fun is = native_called (facet_name root i) j fun is
  page_match (object (forward_name o p c i)) (es.Obj j) fun is = native_called (forward_name o p c i) j fun is
  page_match (object o) e fun is = absurd is
  page_match v e fun is = absurd fun

-- the row of a key: it calls what it has looked at, touches nothing and keeps nothing

found_calling : (b n : ℕ) (o : Looked) (f : r.Handle) → length (arguments n) ≤ b → (s : Sight) → EndsCalling b ((f, s) ∷ o) (found_end f (arguments n) s)
found_calling b n o f few (r.a_function sort) = (inl (refl, tt), inl few)
found_calling b n o f few s = tt

key_calling : (b : ℕ) (key : List ℕ) (n : ℕ) → length (arguments n) ≤ b → IsCalling b [] (call_key key n)
key_calling b key n few = λ s. by_sight s
  where
    by_sight : (s : Sight) → IsCalling b ((r.held 0, s) ∷ []) (key_row key n s)
    by_sight r.nothing = tt
    by_sight r.a_null = tt
    by_sight s = λ f. found_calling b n ((r.held 0, s) ∷ []) (pub_get (r.held 0) s key) few f

key_quiet : (key : List ℕ) (n : ℕ) → NoTouches (call_key key n)
key_quiet key n = λ s. by_sight s
  where
    by_sight : (s : Sight) → NoTouches (key_row key n s)
    by_sight r.nothing = tt
    by_sight r.a_null = tt
    by_sight s = λ f. tt

values_few : (i n : ℕ) → length (values_from i n) ≡ n
values_few i zero = refl
values_few i (suc n) = ap suc (values_few (i + 1) n)

-- what follows the row, by what it came to
event_goes : (rules : Rules) (turn : Turn) {by : ℕ} → by < 64 → (d : ℕ) (e : direct.Outcome) {w w' : World} {z : List Item} {n : ℕ} {g : Tags} {s s' : Store} {y : Kept} {m : ℕ} → ComesCalling w e → (b : Reply) → ReplyIs s'.heap e b → InCall turn s'.heap → Related rules no_temps 0 w' z n g s' y (suc m) → Stays w g s m w' g s' (suc m)
    → Match (sides rules turn) d (bind (replied (event_outcome by e w') answer_end) ends) z n (bind (reply_plan b by s') ends) y (suc m)
event_goes rules turn {by = by} below d (direct.gives v) {w' = w'} {s' = s'} comes (value_reply e) is in_call r keep = passed_match {form = false} {H = at_event rules turn by s'} {T = no_temps} {k = 0} by the_page (v ∷ []) (good_value v w') answer_end ends (record { all = r; here = tt }) (λ z1 r1. end_gave in_call is r1)
event_goes rules turn {by = by} below d (direct.throws v) {w' = w'} {s' = s'} comes (throw_reply e) is in_call r keep = passed_match {form = false} {H = at_event rules turn by s'} {T = no_temps} {k = 0} by the_page (v ∷ []) (answer bad (v ∷ []) w') answer_end ends (record { all = r; here = tt }) (λ z1 r1. end_threw in_call is r1)
event_goes rules turn below d (direct.stops f) comes (stop_reply e) is in_call r keep = both_stop (omega (arith, r.steps)) (is, comes, r.items)
event_goes rules turn below d (direct.calls recorded f t vs) {s' = s'} comes (invoke_reply b f' t' es) is in_call r keep =
    page_match rules turn below d 0 t t' vs es in_call is.2 is.3 (λ left. let n = comes.1 in omega (arith, n, vals_length s'.heap vs es is.3)) r f f' (callable_stays f keep comes.0) is.1
event_goes rules turn below d (direct.lists ks) comes b is in_call r keep = absurd comes
event_goes rules turn below d e comes b is in_call r keep = absurd is

-- the key of a value is called, where there is room for a name
key_match : (rules : Rules) (turn : Turn) {by : ℕ} → by < 64 → (d : ℕ) (key : List ℕ) (vs : List Value) (es : List EsValue) {w : World} {z : List Item} {n : ℕ} {g : Tags} {s : Store} {y : Kept} {m : ℕ} → InCall turn s.heap → Vals s.heap vs es → length vs < 4294967296 → suc m ≤ 4294967295 → Related rules no_temps 1 w z n g s y m
    → Match (sides rules turn) d (bind (replied (key_event by key vs w) answer_end) ends) z n (bind (key_plan by key es s y) ends) y (suc m)
key_match rules turn {by = by} below d key vs es {w = w} {z = z} {n = n} {g = g} {s = s} {y = y} {m = m} in_call is short few r =
    let q = call_key key (length vs) in
    let H = at_event rules turn by s in
    let long = vals_length s.heap vs es is in
    let calling : IsCalling (length vs) [] q = key_calling (length vs) key (length vs) (let l = values_few 1 (length vs - 1) in omega (arith, l)) in
    let none = calling_settling (length vs) q [] calling in
    let a = direct.does by q (direct.given vs) w [] in
    let came = es3.does place_of by q es s.heap (page_of y) [] in
    let c : CameIs opening.first place_of s.heap m a came = every_row opening.first place_of by below first_is q (tables.call_key key (length vs)) (direct.given vs) es w s.heap (page_of y) [] [] m few is r.objects r.pages refl in
    let l = does_leaves by q (direct.given vs) w [] in
    let r0 : RelAt false H no_temps 1 w z n g s y m = record { all = r; here = tt } in
    let x : Changes (page_of y) w s a.world came.done.heap (suc m) = record { objects = c.done.objects; pages = subst (λ p. PagesAre came.done.heap a.world p) (same_page place_of by q none es s.heap (page_of y) []) c.page; keeps = c.done.keeps; scopes = l.scopes; older = l.older; closed = record { closures = l.closed }; waiters = λ before. row_waiters below q (tables.call_key key (length vs)) none vs es few is r0 } in
    let r1 : RelAt false H no_temps 0 a.world (z ++ a.items) n g (with_heap s came.done.heap) y (suc m) = rel_told a.items (quiet_row by q none (key_quiet key (length vs)) (direct.given vs) w [] refl) (rel_changed x (omega arith) (omega (arith, r.steps)) r0) in
    let comes : ComesCalling w a.outcome = calling_row (length vs) short by q [] calling (tables.call_key key (length vs)) (direct.given vs) es w s.heap [] is r.objects tt in
    subst (λ u. let b = (es3.does place_of by (call_key key u) es s.heap (page_of y) []).done in Match (sides rules turn) d (bind (replied (key_event by key vs w) answer_end) ends) z n (bind (reply_plan b.reply by (with_heap s b.heap)) ends) y (suc m)) long
    (left_tell H a.items (event_outcome by a.outcome a.world) answer_end ends z
    (event_goes rules turn below d a.outcome comes came.done.reply c.done.reply (in_call_still c.done.keeps in_call) r1.all (stays_changed g x (omega arith))))

-- the turns

pub key_matches : (rules : Rules) (turn : Turn) {by : ℕ} → by < 64 → (d : ℕ) (key : List ℕ) (vs : List Value) (es : List EsValue) {w : World} {z : List Item} {n : ℕ} {g : Tags} {s : Store} {y : Kept} {m : ℕ} → InCall turn s.heap → Vals s.heap vs es → length vs < 4294967296 → suc m ≤ 4294967295 → Related rules no_temps 1 w z n g s y m
    → Match (sides rules turn) d (key_turn by key vs w) z n (key_turn' by key es s y) y (suc m)
key_matches rules turn {by = by} below d key vs es {w = w} {z = z} {n = n} {s = s} {y = y} {m = m} in_call is short few r =
    subst (λ p. Match (sides rules turn) d p z n (key_plan by key es s y) y (suc m)) (bind_ends (replied (key_event by key vs w) answer_end))
    (subst (λ p. Match (sides rules turn) d (bind (replied (key_event by key vs w) answer_end) ends) z n p y (suc m)) (bind_ends (key_plan by key es s y))
    (key_match rules turn below d key vs es in_call is short few r))

pub tick_matches : (rules : Rules) (turn : Turn) {by : ℕ} → by < 64 → (d : ℕ) (f : Value) (e : EsValue) {w : World} {z : List Item} {n : ℕ} {g : Tags} {s : Store} {y : Kept} {m : ℕ} → InCall turn s.heap → IsCallable w f → Val s.heap f e → Between rules w z n g s y m
    → Match (sides rules turn) d (tick_turn by f w) z n (tick_turn' by e s) y m
tick_matches rules turn {by = by} below d f e {w = w} {z = z} {n = n} {g = g} {s = s} {y = y} {m = m} in_call callable is r =
    subst (λ p. Match (sides rules turn) d p z n (tick_plan by e s) y m) (bind_ends (replied (tick_event by f w) answer_end))
    (subst (λ p. Match (sides rules turn) d (bind (replied (tick_event by f w) answer_end) ends) z n p y m) (bind_ends (tick_plan by e s))
    (page_match rules turn below d 0 undefined es.Undefined [] [] in_call tt tt (λ left. omega arith) r f e callable is))

pub begins_here : (s : Store) → InCall (call_in s) s.heap
begins_here s = record { call = refl; lasts = λ o j t. t }

-- a deed's room is there where a key's call begins: all of it but one step, which the row of the key has
pub key_alike : (rules : Rules) (m : ℕ) → m < 64 → (key : List ℕ) (vs : List Value) (es : List EsValue) (d : ℕ) → d < most_deeds → (w : World) (z : List Item) (n : ℕ) (g : Tags) (s : Store) (y : Kept) (i : ℕ) → Vals s.heap vs es → length vs < 4294967296 → BetweenTurns rules d w z n g s y i
    → TurnsAlike rules (call_in s) (suc d) (key_turn m key vs w) z n (key_turn' m key es s y) y i
key_alike rules m below key vs es d small w z n g s y i is short r =
    turns_alike rules (call_in s) (suc d) (suc (n + d)) (suc (i + (64 * d + 63))) (omega arith) (omega arith) (omega (arith, small)) (omega (arith, r.steps)) (λ few.
    turn_simulated (sides rules (call_in s)) (suc (n + d)) (suc (i + (64 * d + 63))) _ z _ y (λ tasks.
    key_matches rules (call_in s) below tasks key vs es (begins_here s) is short (omega (arith, few, small)) (related_steps (omega arith) (omega (arith, r.steps)) r)))

pub closure_callable : (w : World) (f : Value) → IsClosure w.objects f → IsCallable w f
closure_callable w (object (made_name m n)) is = is
closure_callable w (object o) is = absurd is
closure_callable w f is = absurd is

pub tick_alike : (rules : Rules) (m : ℕ) → m < 64 → (f : Value) (e : EsValue) (d : ℕ) → d < most_deeds → (w : World) (z : List Item) (n : ℕ) (g : Tags) (s : Store) (y : Kept) (i : ℕ) → IsClosure w.objects f → Val s.heap f e → BetweenTurns rules d w z n g s y i
    → TurnsAlike rules (call_in s) (suc d) (tick_turn m f w) z n (tick_turn' m e s) y i
tick_alike rules m below f e d small w z n g s y i closure is r =
    turns_alike rules (call_in s) (suc d) (n + suc d) (i + 64 * suc d) refl refl (omega (arith, small)) (omega (arith, r.steps)) (λ few.
    turn_simulated (sides rules (call_in s)) (n + suc d) (i + 64 * suc d) _ z _ y (λ tasks.
    tick_matches rules (call_in s) below tasks f e (begins_here s) (closure_callable w f closure) is (one_more rules d w z n g s y i r)))
