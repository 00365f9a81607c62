-- Operators: rows that look, convert and compare, and then answer or stop. They change nothing, and no step is paid for them.
use Rattle.std.proofs.Common.{◌≡◌, ℕ, Bool, true, false, List, [], ◌∷◌, ◌++◌, length, Result, Ok, Err, refl, sym, ap, subst}
use Rattle.std.specs.Prelude.{ℤ}
use Rattle.plans.specs.Plans.{Fault, bind}
use Rattle.acts.specs.Acts.{replied}
use Rattle.matching.proofs.Rules.{both_stop}
use Rattle.es3_tree.specs.declared.BinOp.{BinOp}
use Rattle.es3_tree.specs.declared.UnOp.{UnOp}
use Rattle.es3_tree.specs.declared.UnOp.TheVariants as un
use Rattle.es3_objects.specs.declared.value.Value.TheVariants as es
use Rattle.es3_heap.specs.Objects.{Objects}
use Rattle.es3_convert.specs.Conversions.{and_then}
use Rattle.es3_convert.specs.Numbers.{number_of}
use Rattle.es3_language.specs.Store.{Store}
use Rattle.es3_language.specs.Natives.{value_reply, stop_reply}
use Rattle.es3_language.specs.References.{Ref}
use Rattle.es3_language.specs.Expressions.{write_plan, step_value}
use Rattle.es3_language.specs.Operators.{Given, gives, faults, raises, given, operate, convert}
use Rattle.es3_language.specs.Meaning as Target
use Rattle.rows.specs.Rows as r
use Rattle.rows.specs.Rows.{Ending, Row}
use Rattle.rows.specs.Operators.{binary_row, unary_row, to_number, next_number}
use Rattle.cajita_meaning.specs.World.{Value, number, World}
use Rattle.cajita_meaning.specs.Doing as direct
use Rattle.cajita_meaning.specs.Asking.{good, outcome_reply, done_reply}
use Rattle.cajita_meaning.specs.Direct.{Item}
use Rattle.heap_rows.specs.Doing as es3
use Rattle.heap_rows.specs.Opening.{first, place_of, empty_page}
use Rattle.row_simulation.specs.Among.{IsAmongObjects}
use Rattle.row_simulation.specs.RowLaw.{ReplyIs, Conversions}
use Rattle.row_simulation.specs.OperatorLaw.{Comes, IsOfValues, IsFit, IsTyped, next_of}
use Rattle.row_simulation.proofs.Row.{handle_is, vals_append, vals_length, same_is}
use Rattle.row_simulation.proofs.Sights.{seen_alike, seen_among}
use Rattle.row_simulation.proofs.First.{first_is}
use Rattle.row_simulation.proofs.Conversions.{conversions}
use Rattle.row_simulation.proofs.Tables.{tables}
use Rattle.row_simulation.proofs.Operators.Each.{binary_comes}
use Rattle.row_simulation.proofs.Operators.Unary.{unary_comes}
use Rattle.row_simulation.proofs.Operators.Steps.{next_comes, before_law, behind_law}
use Rattle.row_simulation.proofs.Operators.Functions.{typed}
use Rattle.page_natives.specs.Natives.{Kept}
use Rattle.cajita_simulation.proofs.Pure.{EndsPurely, IsPure, pure_plain, pure_touches, binary_pure, unary_pure, next_pure}
use Rattle.cajita_simulation.proofs.Relation.{EsValue, Val, Vals, ObjectsAre, Here, Tags, Temps, Rel}
use Rattle.cajita_simulation.proofs.Changes.{rel_told}
use Rattle.cajita_simulation.proofs.Laws.{Cont, Cont', M, steps_hold}
use Rattle.cajita_simulation.proofs.Rows.{Going, ComesPlainly, plain_settling, quiet_row, plain_row, left_tell}

-- both give the same, and the world is as it was
record AnswersAre (h : Objects) (w : World) (a : direct.Done) (b : es3.Came) : Type 0 where
  reply : ReplyIs h a.outcome b.done.reply
  world : a.world ≡ w

module _ (by : ℕ) {w : World} {h : Objects} {m : ℕ} (o : ObjectsAre first place_of w.objects h m) (c : Conversions w h) (g : es3.Page) where
  result_is : {A : Type 0} (a : Result A Fault) (z : List Item) (y : List es3.Told) (go : A → direct.Done) (go' : A → es3.Came) → ((x : A) → AnswersAre h w (go x) (go' x)) → AnswersAre h w (direct.with_result a w z go) (es3.with_result a h g y go')
  result_is (Ok x) z y go go' f = f x
  result_is (Err e) z y go go' f = record { reply = refl; world = refl }

  end_is : (e : Ending) → EndsPurely e → IsAmongObjects (r.ends e) → (s : direct.Held) (es : List EsValue) (z : List Item) (y : List es3.Told) → Vals h s.values es → AnswersAre h w (direct.finish by e s w z) (es3.does place_of by (r.ends e) es h g y)
  end_is (r.answers x) p a s es z y is = record { reply = handle_is o x a s.values es is; world = refl }
  end_is (r.faults f) p a s es z y is = record { reply = refl; world = refl }
  end_is _ p a s es z y is = absurd p

  answers_are : (q : Row) → IsPure q → IsAmongObjects q → (s : direct.Held) (es : List EsValue) (z : List Item) (y : List es3.Told) → Vals h s.values es → AnswersAre h w (direct.does by q s w z) (es3.does place_of by q es h g y)
  answers_are (r.ends e) p a s es z y is = end_is e p a s es z y is
  answers_are (r.as_text x go) p a s es z y is =
      subst (λ t. AnswersAre h w (direct.does by (r.as_text x go) s w z) (es3.with_result t h g y (λ us. es3.does place_of by (go us) es h g y))) (sym (c.texts _ _ (handle_is o x a.0 s.values es is)))
      (result_is (direct.text_of w (direct.value_of s.values x)) z y (λ us. direct.does by (go us) s w z) (λ us. es3.does place_of by (go us) es h g y) (λ us. answers_are (go us) (p us) (a.1 us) s es z y is))
  answers_are (r.as_number x go) p a s es z y is =
      subst (λ t. AnswersAre h w (direct.does by (r.as_number x go) s w z) (es3.with_result t h g y (λ n. es3.does place_of by (go n) es h g y))) (sym (c.numbers _ _ (handle_is o x a.0 s.values es is)))
      (result_is (direct.number_of w (direct.value_of s.values x)) z y (λ n. direct.does by (go n) s w z) (λ n. es3.does place_of by (go n) es h g y) (λ n. answers_are (go n) (p n) (a.1 n) s es z y is))
  answers_are (r.looks x go) p a s es z y is =
      let v = direct.value_of s.values x in
      let e = es3.value_in place_of es x in
      let l = seen_alike w o (length s.values) v e (handle_is o x a.0 s.values es is) in
      let b = direct.see w (length s.values) v in
      let n : length s.values ≡ length es = vals_length h s.values es is in
      subst (λ j. AnswersAre h w (direct.does by (go b.sight) (direct.and_seen s (direct.way_into s x) b.values) w z) (es3.does place_of by (go (es3.see h j e).sight) (es ++ (es3.see h j e).values) h g y)) n
      (subst (λ q. AnswersAre h w (direct.does by (go b.sight) (direct.and_seen s (direct.way_into s x) b.values) w z) (es3.does place_of by (go q) (es ++ (es3.see h (length s.values) e).values) h g y)) l.sight
      (answers_are (go b.sight) (p b.sight) (a.1 b.sight (seen_among w o (length s.values) v e (handle_is o x a.0 s.values es is))) (direct.and_seen s (direct.way_into s x) b.values) (es ++ (es3.see h (length s.values) e).values) z y (vals_append h s.values b.values es _ is l.values)))
  answers_are (r.as_same x v go) p a s es z y is =
      subst (λ b. AnswersAre h w (direct.does by (r.as_same x v go) s w z) (es3.does place_of by (go b) es h g y)) (sym (same_is o _ _ (handle_is o x a.0 s.values es is) _ _ (handle_is o v a.1 s.values es is)))
      (answers_are (go _) (p _) (a.2 _) s es z y is)
  answers_are _ p a s es z y is = absurd p

-- what a row ends with is what an operator gives

abbrev GivenIs : Objects → direct.Outcome → Given → Type 0
GivenIs h (direct.gives v) (gives e) = Val h v e
GivenIs h (direct.stops f) (faults g) = f ≡ g
GivenIs h _ _ = ⊥

value_is : (h : Objects) (v : EsValue) (e : direct.Outcome) → ComesPlainly e → ReplyIs h e (value_reply v) → GivenIs h e (gives v)
value_is h v (direct.gives u) plain p = p
value_is h v (direct.lists ks) plain p = absurd plain
value_is h v (direct.calls recorded f t vs) plain p = absurd plain
value_is h v _ plain p = absurd p

fault_is : (h : Objects) (f : Fault) (e : direct.Outcome) → ComesPlainly e → ReplyIs h e (stop_reply f) → GivenIs h e (faults f)
fault_is h f (direct.stops g) plain p = p
fault_is h f (direct.lists ks) plain p = absurd plain
fault_is h f (direct.calls recorded g t vs) plain p = absurd plain
fault_is h f _ plain p = absurd p

given_is : (h : Objects) (o : Given) (c : es3.Came) (e : direct.Outcome) → ComesPlainly e → Comes o h empty_page [] c → ReplyIs h e c.done.reply → GivenIs h e o
given_is h (gives v) c e plain same p = value_is h v e plain (subst (λ (b : es3.Came). ReplyIs h e b.done.reply) same p)
given_is h (faults f) c e plain same p = fault_is h f e plain (subst (λ (b : es3.Came). ReplyIs h e b.done.reply) same p)
given_is h (raises message) c e plain same p = absurd same

-- an operator's row that is asked, and the operator of ES3 that gives what the row comes to among objects; both go on with the value
pub operator_match : {H : Here} {T : Temps} {d k : ℕ} (q : Row) → IsAmongObjects q → IsPure q → (vs : List Value) (es : List EsValue) (o : Given) {w : World} {z : List Item} {n : ℕ} {g : Tags} {s : Store} {y : Kept} {m : ℕ} (go : Going) (go' : EsValue → Store → Target.Plan) (next : Cont) (next' : Cont') → Comes o s.heap empty_page [] (es3.does place_of H.by q es s.heap empty_page []) → Vals s.heap vs es → Rel H T k w z n g s y m
    → ((v : Value) (e : EsValue) (z' : List Item) → o ≡ gives e → Val s.heap v e → Rel H T k w z' n g s y m → M H d (bind (go good (v ∷ []) w) next) z' n (bind (go' e s) next') y m)
    → M H d (bind (replied (done_reply H.around.calls H.by (direct.does H.by q (direct.given vs) w [])) go) next) z n (bind (Target.with_given o s go') next') y m
operator_match {H = H} {T = T} {d = d} {k = k} q among pure vs es o {w = w} {z = z} {n = n} {g = g} {s = s} {y = y} {m = m} go go' next next' same is r f =
    let a = direct.does H.by q (direct.given vs) w [] in
    let p = answers_are H.by r.all.objects (conversions first place_of first_is w s.heap m r.all.objects) empty_page q pure among (direct.given vs) es [] [] is in
    let r1 = rel_told a.items (quiet_row H.by q (plain_settling q (pure_plain q pure)) (pure_touches q pure) (direct.given vs) w [] refl) r in
    left_tell H a.items (outcome_reply H.around.calls H.by a.outcome a.world) go next z
    (subst (λ u. M H d (bind (replied (outcome_reply H.around.calls H.by a.outcome u) go) next) (z ++ a.items) n (bind (Target.with_given o s go') next') y m) (sym p.world)
    (ends a.outcome o refl (plain_row H.by q (pure_plain q pure) (direct.given vs) w []) (z ++ a.items) (given_is s.heap o (es3.does place_of H.by q es s.heap empty_page []) a.outcome (plain_row H.by q (pure_plain q pure) (direct.given vs) w []) same p.reply) r1))
  where
    ends : (e : direct.Outcome) (u : Given) → o ≡ u → ComesPlainly e → (z' : List Item) → GivenIs s.heap e u → Rel H T k w z' n g s y m → M H d (bind (replied (outcome_reply H.around.calls H.by e w) go) next) z' n (bind (Target.with_given u s go') next') y m
    ends (direct.gives v) (gives e) known plain z' p r = f v e z' known p r
    ends (direct.stops x) (faults e) known plain z' p r = both_stop (steps_hold r) (p, plain, r.all.items)
    ends (direct.lists ks) u known plain z' p r = absurd plain
    ends (direct.calls recorded q t vs) u known plain z' p r = absurd plain
    ends _ _ known plain z' p r = absurd p

-- what is given is one value
pub the_value : (u e : EsValue) → gives u ≡ gives e → u ≡ e
the_value u e same = cc

pub no_value : (f : Fault) (e : EsValue) → faults f ≡ gives e → ⊥
no_value f e same = cc

-- what an operator of two values gives, of one, and what `++` and `--` write

pub binary_match : {H : Here} {T : Temps} {d k : ℕ} (op : BinOp) → IsOfValues op → (v1 v2 : Value) (e1 e2 : EsValue) {w : World} {z : List Item} {n : ℕ} {g : Tags} {s : Store} {y : Kept} {m : ℕ} (go : Going) (go' : EsValue → Store → Target.Plan) (next : Cont) (next' : Cont') → Val s.heap v1 e1 → Val s.heap v2 e2 → Rel H T k w z n g s y m
    → ((v : Value) (e : EsValue) (z' : List Item) → Val s.heap v e → Rel H T k w z' n g s y m → M H d (bind (go good (v ∷ []) w) next) z' n (bind (go' e s) next') y m)
    → M H d (bind (replied (done_reply H.around.calls H.by (direct.does H.by (binary_row op) (direct.given (v1 ∷ v2 ∷ [])) w [])) go) next) z n (bind (Target.with_given (operate op s.heap e1 e2) s go') next') y m
binary_match {H = H} op own v1 v2 e1 e2 {s = s} go go' next next' is1 is2 r f =
    operator_match (binary_row op) (tables.binary op) (binary_pure op own) (v1 ∷ v2 ∷ []) (e1 ∷ e2 ∷ []) (operate op s.heap e1 e2) go go' next next' (binary_comes op own place_of H.by e1 e2 s.heap empty_page []) (is1, (is2, tt)) r (λ v e z1 known is r1. f v e z1 is r1)

fit : (op : UnOp) (h : Objects) (e : EsValue) → IsTyped h e → IsFit op h e
fit un.Typeof h e t = t
fit op h e t = tt

pub unary_match : {H : Here} {T : Temps} {d k : ℕ} (op : UnOp) (v1 : Value) (e1 : EsValue) {w : World} {z : List Item} {n : ℕ} {g : Tags} {s : Store} {y : Kept} {m : ℕ} (go : Going) (go' : EsValue → Store → Target.Plan) (next : Cont) (next' : Cont') → Val s.heap v1 e1 → Rel H T k w z n g s y m
    → ((v : Value) (e : EsValue) (z' : List Item) → Val s.heap v e → Rel H T k w z' n g s y m → M H d (bind (go good (v ∷ []) w) next) z' n (bind (go' e s) next') y m)
    → M H d (bind (replied (done_reply H.around.calls H.by (direct.does H.by (unary_row op) (direct.given (v1 ∷ [])) w [])) go) next) z n (bind (Target.with_given (convert op s.heap e1) s go') next') y m
unary_match {H = H} op v1 e1 {w = w} {s = s} {m = m} go go' next next' is1 r f =
    operator_match (unary_row op) (tables.unary op) (unary_pure op) (v1 ∷ []) (e1 ∷ []) (convert op s.heap e1) go go' next next' (unary_comes op place_of H.by e1 s.heap empty_page [] (fit op s.heap e1 (typed first place_of w.objects s.heap m r.all.objects v1 e1 is1))) (is1, tt) r (λ v e z1 known is r1. f v e z1 is r1)

-- a number is a number on both sides
of_number : (h : Objects) (v : Value) (i : ℤ) → Val h v (es.Num i) → number i ≡ v
of_number h (number j) i is = ap number (sym is)
of_number h _ i is = absurd is

pub numbered_match : {H : Here} {T : Temps} {d k : ℕ} (v1 : Value) (e1 : EsValue) {w : World} {z : List Item} {n : ℕ} {g : Tags} {s : Store} {y : Kept} {m : ℕ} (go : Going) (go' : EsValue → Store → Target.Plan) (next : Cont) (next' : Cont') → Val s.heap v1 e1 → Rel H T k w z n g s y m
    → ((i : ℤ) (z' : List Item) → Rel H T k w z' n g s y m → M H d (bind (go good (number i ∷ []) w) next) z' n (bind (go' (es.Num i) s) next') y m)
    → M H d (bind (replied (done_reply H.around.calls H.by (direct.does H.by to_number (direct.given (v1 ∷ [])) w [])) go) next) z n (bind (Target.with_given (convert un.Plus s.heap e1) s go') next') y m
numbered_match {H = H} {T = T} {d = d} {k = k} v1 e1 {w = w} {n = n} {g = g} {s = s} {y = y} {m = m} go go' next next' is1 r f =
    operator_match to_number tables.to_number (unary_pure un.Plus) (v1 ∷ []) (e1 ∷ []) (convert un.Plus s.heap e1) go go' next next' (unary_comes un.Plus place_of H.by e1 s.heap empty_page [] tt) (is1, tt) r (λ v e z1 known is r1. by_number (number_of s.heap e1) v e z1 known is r1)
  where
    by_number : (a : Result ℤ Fault) (v : Value) (e : EsValue) (z' : List Item) → given (and_then a (λ i. Ok (es.Num i))) ≡ gives e → Val s.heap v e → Rel H T k w z' n g s y m → M H d (bind (go good (v ∷ []) w) next) z' n (bind (go' e s) next') y m
    by_number (Err q) v e z' known is r = absurd (no_value q e known)
    by_number (Ok i) v e z' known is r =
        let same : es.Num i ≡ e = the_value (es.Num i) e known in
        let there : Val s.heap v (es.Num i) = subst (λ u. Val s.heap v u) (sym same) is in
        subst (λ u. M H d (bind (go good (v ∷ []) w) next) z' n (bind (go' u s) next') y m) same (subst (λ u. M H d (bind (go good (u ∷ []) w) next) z' n (bind (go' (es.Num i) s) next') y m) (of_number s.heap v i there) (f i z' r))

pub number_match : {H : Here} {T : Temps} {d k : ℕ} (v1 : Value) (e1 : EsValue) {w : World} {z : List Item} {n : ℕ} {g : Tags} {s : Store} {y : Kept} {m : ℕ} (go : Going) (go' : EsValue → Store → Target.Plan) (next : Cont) (next' : Cont') → Val s.heap v1 e1 → Rel H T k w z n g s y m
    → ((v : Value) (e : EsValue) (z' : List Item) → Val s.heap v e → Rel H T k w z' n g s y m → M H d (bind (go good (v ∷ []) w) next) z' n (bind (go' e s) next') y m)
    → M H d (bind (replied (done_reply H.around.calls H.by (direct.does H.by to_number (direct.given (v1 ∷ [])) w [])) go) next) z n (bind (Target.with_given (convert un.Plus s.heap e1) s go') next') y m
number_match v1 e1 go go' next next' is1 r f = numbered_match v1 e1 go go' next next' is1 r (λ i z1 r1. f (number i) (es.Num i) z1 refl r1)

pub next_known : {H : Here} {T : Temps} {d k : ℕ} (up : Bool) (v1 : Value) (e1 : EsValue) {w : World} {z : List Item} {n : ℕ} {g : Tags} {s : Store} {y : Kept} {m : ℕ} (go : Going) (go' : EsValue → Store → Target.Plan) (next : Cont) (next' : Cont') → Val s.heap v1 e1 → Rel H T k w z n g s y m
    → ((v : Value) (e : EsValue) (z' : List Item) → next_of up s.heap e1 ≡ gives e → Val s.heap v e → Rel H T k w z' n g s y m → M H d (bind (go good (v ∷ []) w) next) z' n (bind (go' e s) next') y m)
    → M H d (bind (replied (done_reply H.around.calls H.by (direct.does H.by (next_number up) (direct.given (v1 ∷ [])) w [])) go) next) z n (bind (Target.with_given (next_of up s.heap e1) s go') next') y m
next_known {H = H} up v1 e1 {s = s} go go' next next' is1 r f =
    operator_match (next_number up) (tables.next_number up) (next_pure up) (v1 ∷ []) (e1 ∷ []) (next_of up s.heap e1) go go' next next' (next_comes up place_of H.by e1 s.heap empty_page []) (is1, tt) r f

pub next_match : {H : Here} {T : Temps} {d k : ℕ} (up : Bool) (v1 : Value) (e1 : EsValue) {w : World} {z : List Item} {n : ℕ} {g : Tags} {s : Store} {y : Kept} {m : ℕ} (go : Going) (go' : EsValue → Store → Target.Plan) (next : Cont) (next' : Cont') → Val s.heap v1 e1 → Rel H T k w z n g s y m
    → ((v : Value) (e : EsValue) (z' : List Item) → Val s.heap v e → Rel H T k w z' n g s y m → M H d (bind (go good (v ∷ []) w) next) z' n (bind (go' e s) next') y m)
    → M H d (bind (replied (done_reply H.around.calls H.by (direct.does H.by (next_number up) (direct.given (v1 ∷ [])) w [])) go) next) z n (bind (Target.with_given (next_of up s.heap e1) s go') next') y m
next_match up v1 e1 go go' next next' is1 r f = next_known up v1 e1 go go' next next' is1 r (λ v e z1 known is r1. f v e z1 is r1)

-- 11.4.4, 11.4.5: both go on with the number that is written
pub before_match : {H : Here} {T : Temps} {d k : ℕ} (up : Bool) (v1 : Value) (e1 : EsValue) {w : World} {z : List Item} {n : ℕ} {g : Tags} {s : Store} {y : Kept} {m : ℕ} (q : Ref) (env : Target.Env) (go : Going) (next : Cont) (next' : Cont') → Val s.heap v1 e1 → Rel H T k w z n g s y m
    → ((v : Value) (e : EsValue) (z' : List Item) → Val s.heap v e → Rel H T k w z' n g s y m → M H d (bind (go good (v ∷ []) w) next) z' n (bind (write_plan q e e env s) next') y m)
    → M H d (bind (replied (done_reply H.around.calls H.by (direct.does H.by (next_number up) (direct.given (v1 ∷ [])) w [])) go) next) z n (bind (step_value up true q env (number_of s.heap e1) s) next') y m
before_match {H = H} {d = d} up v1 e1 {w = w} {z = z} {n = n} {s = s} {y = y} {m = m} q env go next next' is1 r f =
    subst (λ p. M H d (bind (replied (done_reply H.around.calls H.by (direct.does H.by (next_number up) (direct.given (v1 ∷ [])) w [])) go) next) z n (bind p next') y m) (sym (before_law up q env e1 s))
    (next_match up v1 e1 go (λ e t. write_plan q e e env t) next next' is1 r f)

-- 11.3: both go on with the number before, of which the next one is written
pub behind_match : {H : Here} {T : Temps} {d k : ℕ} (up : Bool) (v1 : Value) (e1 : EsValue) {w : World} {z : List Item} {n : ℕ} {g : Tags} {s : Store} {y : Kept} {m : ℕ} (q : Ref) (env : Target.Env) (go : Going) (next : Cont) (next' : Cont') → Val s.heap v1 e1 → Rel H T k w z n g s y m
    → ((v : Value) (e : EsValue) (z' : List Item) → Val s.heap v e → Rel H T k w z' n g s y m → M H d (bind (go good (v ∷ []) w) next) z' n (bind (Target.with_given (next_of up s.heap e) s (λ u t. write_plan q u e env t)) next') y m)
    → M H d (bind (replied (done_reply H.around.calls H.by (direct.does H.by to_number (direct.given (v1 ∷ [])) w [])) go) next) z n (bind (step_value up false q env (number_of s.heap e1) s) next') y m
behind_match {H = H} {d = d} up v1 e1 {w = w} {z = z} {n = n} {s = s} {y = y} {m = m} q env go next next' is1 r f =
    subst (λ p. M H d (bind (replied (done_reply H.around.calls H.by (direct.does H.by to_number (direct.given (v1 ∷ [])) w [])) go) next) z n (bind p next') y m) (sym (behind_law up q env e1 s))
    (number_match v1 e1 go (λ e t. Target.with_given (next_of up t.heap e) t (λ u t'. write_plan q u e env t')) next next' is1 r f)
