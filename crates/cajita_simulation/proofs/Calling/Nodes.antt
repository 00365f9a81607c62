-- The methods of nodes: their rows change the nodes of a root, which natives keep as a document. They end by themselves, and touch nothing.
use Rattle.std.proofs.Common.{◌≡◌, ℕ, zero, suc, ◌≤◌, ◌<◌, Bool, true, false, List, [], ◌∷◌, ◌++◌, length, Option, Some, None, Result, Ok, Err, cond, ◌⊎◌, inl, inr, refl, sym, ap, ◌∙◌, subst, arith}
use Rattle.std.specs.Prelude.{codes, nat_eq, nat_lt, not, ◌||◌, ◌&&◌}
use Rattle.plans.specs.Plans.{Fault}
use Rattle.es3_language.specs.Store.{Store}
use Rattle.html_grammar.specs.Tables as html
use Rattle.html_grammar.specs.Tables.{void}
use Rattle.html_kept.specs.Table.{Answers, listed, attr_value}
use Rattle.rows.specs.Rows as r
use Rattle.rows.specs.Rows.{Handle, Sight, Branch, Ending, Settling, Row, Native}
use Rattle.caja_units.specs.Units.{same_units}
use Rattle.rows.specs.Document as doc
use Rattle.rows.specs.Document.{Node}
use Rattle.rows.specs.Names.{sort_of, is_exophoric}
use Rattle.rows.specs.Arguments.{argument}
use Rattle.rows.specs.Nodes as nodes
use Rattle.rows.specs.Nodes.{Rules, refused}
use Rattle.rows.specs.Table.{row_of}
use Rattle.doc_views.specs.Came.{IsRuled}
use Rattle.tamed_dom.specs.declared.methods.NodeMethod.{NodeMethod}
use Rattle.tamed_dom.specs.declared.methods.NodeMethod.TheVariants as m
use Rattle.node_rows.specs.Promises.{of_method}
use Rattle.node_rows.proofs.Methods.{node_methods_do_their_rows}
use Rattle.cajita_meaning.specs.World.{Name, facet_name, Value, object, World as State}
use Rattle.cajita_meaning.specs.Doing as direct
use Rattle.cajita_meaning.specs.Direct.{Item}
use Rattle.heap_rows.specs.Natives.{number_of}
use Rattle.heap_rows.specs.Doing as es3
use Rattle.heap_rows.specs.Doing.{heard}
use Rattle.heap_rows.specs.Opening.{first, place_of}
use Rattle.row_simulation.specs.Among.{IsAmongObjects, AreAnswersAmong}
use Rattle.row_simulation.specs.RowLaw.{shown, PagesAre, CameIs}
use Rattle.row_simulation.proofs.First.{first_is}
use Rattle.row_simulation.proofs.Leaves.{does_leaves}
use Rattle.row_simulation.proofs.Row.{vals_length, shown-append}
use Rattle.row_simulation.proofs.Tables.{tables}
use Rattle.row_simulation.proofs.Whole.{every_row}
use Rattle.page_natives.specs.declared.natives.Callee.TheVariants as callee
use Rattle.page_natives.specs.Natives.{Kept, page_of, done_by, kept_by}
use Rattle.page_natives.specs.OwnFunctions.{IsKept}
use Rattle.page_natives.proofs.NodeMethods.{method_rows, whole_kept}
use Rattle.page_natives.proofs.Numbers.{node_methods_have_their_numbers}
use Rattle.cajita_simulation.specs.Related.{IsBare}
use Rattle.cajita_simulation.proofs.Doing as Source
use Rattle.cajita_simulation.proofs.Told.{heard_append}
use Rattle.cajita_simulation.proofs.Relation.{RelAt, AreClosures, closures_wait, EsValue, Val, Vals, Here, Tags, Temps}
use Rattle.cajita_simulation.proofs.Laws.{NextAt, Cont, Cont'}
use Rattle.cajita_simulation.proofs.Rows.{Going, ComesPlainly, Converts, converts_text, quiet_from, quiet_all}
use Rattle.cajita_simulation.proofs.Calling.Natives.{self_of, Entered}
use Rattle.cajita_simulation.proofs.Calling.Own.{AlwaysHeard, quiet_heard, IsSettled, kept_row}

-- rows that end by themselves, or change the nodes of a root

abbrev pub EndsAtNodes : Ending → Type 0
EndsAtNodes (r.answers x) = Unit {0}
EndsAtNodes (r.throws message) = Unit {0}
EndsAtNodes (r.makes_array frozen xs) = Unit {0}
EndsAtNodes e = ⊥

abbrev pub SettlesNodes : Settling → Type 0
SettlesNodes (r.changes_node x c y) = Unit {0}
SettlesNodes (r.adds_node x o) = Unit {0}
SettlesNodes (r.listens x us f) = Unit {0}
SettlesNodes e = ⊥

abbrev pub IsOfNodes : Row → Type 0
IsOfNodes (r.ends e) = EndsAtNodes e
IsOfNodes (r.settles e) = SettlesNodes e
IsOfNodes (r.as_text x go) = (us : List ℕ) → IsOfNodes (go us)
IsOfNodes (r.as_same_root x y go) = (b : Bool) → IsOfNodes (go b)
IsOfNodes (r.looks x go) = (s : Sight) → IsOfNodes (go s)
IsOfNodes (r.branches x go other) = ((b : Branch) → IsOfNodes (go b)) × IsOfNodes other
IsOfNodes q = ⊥

when_of : (b : Bool) (message : List ℕ) (next : Row) → IsOfNodes next → IsOfNodes (nodes.when b message next)
when_of true message next p = tt
when_of false message next p = p

cleaned_of : (k : List ℕ) (v : Option (List ℕ)) → IsOfNodes (nodes.set_cleaned k v)
cleaned_of k None = tt
cleaned_of k (Some v) = tt

listen_of : (known : Bool) (k : List ℕ) (f : Handle) (s : Sight) → IsOfNodes (nodes.listen_row known k f s)
listen_of true k f (r.a_function r.closure) = tt
listen_of true k f (r.a_function sort) = tt
listen_of true k f s = tt
listen_of false k f s = tt

pub method_of_nodes : (rules : Rules) (f : NodeMethod) (n : ℕ) → IsOfNodes (row_of rules (of_method f) n)
method_of_nodes rules m.GetTagName n = (λ b. tt, tt)
method_of_nodes rules m.GetParentNode n = (λ b. tt, tt)
method_of_nodes rules m.GetChildNodes n = (λ b. tt, tt)
method_of_nodes rules m.GetElementById n = (λ b us. tt, tt)
method_of_nodes rules m.GetAttribute n = (λ b us. tt, tt)
method_of_nodes rules m.SetAttribute n = (λ b k v. when_of (nodes.is_text b || same_units k (codes "id")) (codes "not allowed") (nodes.set_cleaned k (rules.cleaned b.tag k v)) (cleaned_of k (rules.cleaned b.tag k v)), tt)
method_of_nodes rules m.GetText n = (λ b. tt, tt)
method_of_nodes rules m.SetText n = (λ b us. when_of (rules.no_content b.tag) (codes "not allowed") (r.settles (r.changes_node (r.held 0) (doc.sets_text us) r.undefined)) tt, tt)
method_of_nodes rules m.CreateElement n = (λ b t. when_of (not (rules.listed t)) (codes "not allowed") (r.settles (r.adds_node (r.held 0) (doc.element t))) tt, tt)
method_of_nodes rules m.CreateTextNode n = (λ b us. tt, tt)
method_of_nodes rules m.AppendChild n = (
  λ b. (
    λ c same.
        let appends : Row = r.settles (r.changes_node (r.held 0) (doc.appends c.number) (argument 0 n)) in
        let no_cycle : Row = nodes.when (nodes.is_in c.number b.above) (codes "cycle") appends in
        let allowed : Row = nodes.when (nat_eq c.number 0 || nodes.is_text b || rules.no_content b.tag) (codes "not allowed") no_cycle in
        when_of (not same) (codes "other root") allowed (when_of (nat_eq c.number 0 || nodes.is_text b || rules.no_content b.tag) (codes "not allowed") no_cycle (when_of (nodes.is_in c.number b.above) (codes "cycle") appends tt)),
    tt,
  ),
  tt,
)
method_of_nodes rules m.RemoveChild n = (λ b. (λ c same. when_of (not (same && nodes.is_in c.number b.numbers)) (codes "bad argument") (r.settles (r.changes_node (r.held 0) (doc.removes c.number) (argument 0 n))) tt, tt), tt)
method_of_nodes rules m.On n = (λ b k s. listen_of (nodes.is_event k) k (argument 1 n) s, tt)

-- what such a row comes to

record IsAtNodes (w : State) (d : direct.Done) : Type 0 where
  plain : ComesPlainly d.outcome
  queues : d.world.queues ≡ w.queues
  items : AlwaysHeard d.items

always_append : (a c : List Item) → AlwaysHeard a → AlwaysHeard c → AlwaysHeard (a ++ c)
always_append a c p q b =
    ap (heard b) (shown-append a c) ∙ heard_append b (shown a) (shown c) ∙ ap (λ l. l ++ heard b (shown c)) (p b) ∙ ap (λ l. shown a ++ l) (q b) ∙ sym (shown-append a c)

line_heard : (v : Value) (c : doc.Change) → AlwaysHeard (direct.node_told v c)
line_heard (object (facet_name root k)) c b = refl
line_heard (object o) c b = refl
line_heard v c b = refl

noding_queues : (v : Value) (change : ℕ → List Node → List Node) (w : State) → (direct.noding v change w).queues ≡ w.queues
noding_queues (object (facet_name root k)) change w = refl
noding_queues (object o) change w = refl
noding_queues v change w = refl

listening_queues : (v : Value) (us : List ℕ) (f : Value) (w : State) → (direct.listening v us f w).queues ≡ w.queues
listening_queues (object (facet_name root k)) us f w = refl
listening_queues (object o) us f w = refl
listening_queues v us f w = refl

array_at : (by : ℕ) (b : Bool) (d : direct.Done) (w : State) (z : List Item) → AlwaysHeard z → IsAtNodes w d → IsAtNodes w (cond b d (direct.too_long w z))
array_at by true d w z told p = p
array_at by false d w z told p = record { plain = tt; queues = refl; items = told }

end_at : (by : ℕ) (e : Ending) → EndsAtNodes e → (s : direct.Held) (w : State) (z : List Item) → AlwaysHeard z → IsAtNodes w (direct.finish by e s w z)
end_at by (r.answers x) p s w z told = record { plain = tt; queues = refl; items = always_append z (direct.got_one by s x) told (quiet_heard (direct.got_one by s x) (quiet_from by (direct.way_of s x) (direct.value_of s.values x))) }
end_at by (r.throws message) p s w z told = record { plain = tt; queues = refl; items = always_append z _ told (λ b. refl) }
end_at by (r.makes_array frozen xs) p s w z told =
    array_at by (nat_lt (length xs) r.most_items) _ w z told (record { plain = tt; queues = refl; items = always_append (z ++ direct.got_all by s xs) _ (always_append z (direct.got_all by s xs) told (quiet_heard (direct.got_all by s xs) (quiet_all by s xs))) (λ b. refl) })
end_at by e p s w z told = absurd p

settling_at : (by : ℕ) (e : Settling) → SettlesNodes e → (s : direct.Held) (w : State) (z : List Item) → AlwaysHeard z → IsAtNodes w (direct.settle by e s w z)
settling_at by (r.changes_node x c y) p s w z told =
    let v = direct.value_of s.values x in
    record {
      plain = tt;
      queues = noding_queues v (doc.changed c) w;
      items = always_append (z ++ direct.node_told v c) (direct.got_one by s y) (always_append z (direct.node_told v c) told (line_heard v c)) (quiet_heard (direct.got_one by s y) (quiet_from by (direct.way_of s y) (direct.value_of s.values y)));
    }
settling_at by (r.adds_node x o) p s w z told =
    let v = direct.value_of s.values x in
    let new = direct.got_from by (direct.way_into s x) (direct.new_node v w) in
    record { plain = tt; queues = noding_queues v (λ k ns. ns ++ o ∷ []) w; items = always_append z new told (quiet_heard new (quiet_from by (direct.way_into s x) (direct.new_node v w))) }
settling_at by (r.listens x us f) p s w z told = record { plain = tt; queues = listening_queues (direct.value_of s.values x) us (direct.value_of s.values f) w; items = told }
settling_at by e p s w z told = absurd p

text_at : (a : Result (List ℕ) Fault) (w : State) (z : List Item) (go : List ℕ → direct.Done) → Converts a → AlwaysHeard z → ((us : List ℕ) → IsAtNodes w (go us)) → IsAtNodes w (direct.with_result a w z go)
text_at (Ok us) w z go p told f = f us
text_at (Err e) w z go p told f = record { plain = p; queues = refl; items = told }

branch_at : (o : Option direct.Around) (w : State) (go : direct.Around → direct.Done) (other : direct.Done) → ((b : direct.Around) → IsAtNodes w (go b)) → IsAtNodes w other → IsAtNodes w (direct.with_branch o go other)
branch_at (Some b) w go other f p = f b
branch_at None w go other f p = p

at_nodes : (by : ℕ) (q : Row) → IsOfNodes q → (s : direct.Held) (w : State) (z : List Item) → AlwaysHeard z → IsAtNodes w (direct.does by q s w z)
at_nodes by (r.ends e) p s w z told = end_at by e p s w z told
at_nodes by (r.settles e) p s w z told = settling_at by e p s w z told
at_nodes by (r.as_text x go) p s w z told = text_at (direct.text_of w (direct.value_of s.values x)) w z _ (converts_text 32 w (direct.value_of s.values x)) told (λ us. at_nodes by (go us) (p us) s w z told)
at_nodes by (r.as_same_root x y go) p s w z told = at_nodes by (go _) (p _) s w z told
at_nodes by (r.looks x go) p s w z told = at_nodes by (go _) (p _) _ w z told
at_nodes by (r.branches x go other) p s w z told = branch_at (direct.around w (length s.values) (direct.value_of s.values x)) w _ _ (λ b. at_nodes by (go b.branch) (p.0 b.branch) _ w z told) (at_nodes by other p.1 s w z told)
at_nodes by q p s w z told = absurd p

method_settled : (by : ℕ) (q : Row) → IsOfNodes q → (vs : List Value) (w : State) → IsSettled w (direct.does by q (direct.given vs) w [])
method_settled by q p vs w =
    let d = direct.does by q (direct.given vs) w [] in
    let is = at_nodes by q p (direct.given vs) w [] (λ b. refl) in
    let l = does_leaves by q (direct.given vs) w [] in
    record {
      plain = is.plain;
      waiters = λ before j. subst (λ (qs : ℕ → List Value). AreClosures d.world.objects (qs j)) (sym is.queues) (closures_wait w.objects d.world.objects l.closed (w.queues j) (before j));
      items = is.items;
    }

-- they are meant, under any rules: no service is among them

no_answers : (rules : Rules) → AreAnswersAmong (record rules { services = λ k xs. r.undefined })
no_answers rules k xs p = tt

method_among : (rules : Rules) (f : NodeMethod) (n : ℕ) → IsAmongObjects (row_of rules (of_method f) n)
method_among rules m.GetTagName n = tables.built_ins (record rules { services = λ k xs. r.undefined }) (no_answers rules) r.get_tag_name n
method_among rules m.GetParentNode n = tables.built_ins (record rules { services = λ k xs. r.undefined }) (no_answers rules) r.get_parent_node n
method_among rules m.GetChildNodes n = tables.built_ins (record rules { services = λ k xs. r.undefined }) (no_answers rules) r.get_child_nodes n
method_among rules m.GetElementById n = tables.built_ins (record rules { services = λ k xs. r.undefined }) (no_answers rules) r.get_element_by_id n
method_among rules m.GetAttribute n = tables.built_ins (record rules { services = λ k xs. r.undefined }) (no_answers rules) r.get_attribute n
method_among rules m.SetAttribute n = tables.built_ins (record rules { services = λ k xs. r.undefined }) (no_answers rules) r.set_attribute n
method_among rules m.GetText n = tables.built_ins (record rules { services = λ k xs. r.undefined }) (no_answers rules) r.get_text n
method_among rules m.SetText n = tables.built_ins (record rules { services = λ k xs. r.undefined }) (no_answers rules) r.set_text n
method_among rules m.CreateElement n = tables.built_ins (record rules { services = λ k xs. r.undefined }) (no_answers rules) r.create_element n
method_among rules m.CreateTextNode n = tables.built_ins (record rules { services = λ k xs. r.undefined }) (no_answers rules) r.create_text_node n
method_among rules m.AppendChild n = tables.built_ins (record rules { services = λ k xs. r.undefined }) (no_answers rules) r.append_child n
method_among rules m.RemoveChild n = tables.built_ins (record rules { services = λ k xs. r.undefined }) (no_answers rules) r.remove_child n
method_among rules m.On n = tables.built_ins (record rules { services = λ k xs. r.undefined }) (no_answers rules) r.on n

wants_receiver : (f : NodeMethod) → is_exophoric (sort_of (of_method f)) ≡ true
wants_receiver m.GetTagName = refl
wants_receiver m.GetParentNode = refl
wants_receiver m.GetChildNodes = refl
wants_receiver m.GetElementById = refl
wants_receiver m.GetAttribute = refl
wants_receiver m.SetAttribute = refl
wants_receiver m.GetText = refl
wants_receiver m.SetText = refl
wants_receiver m.CreateElement = refl
wants_receiver m.CreateTextNode = refl
wants_receiver m.AppendChild = refl
wants_receiver m.RemoveChild = refl
wants_receiver m.On = refl

-- where no root has nodes, each refuses what it is asked of, whatever the rules

refusal : Row
refusal = refused (codes "bad receiver")

abbrev Refuses : Row → Type 0
Refuses (r.branches (r.held zero) go other) = other ≡ refused (codes "bad receiver")
Refuses q = ⊥

method_refuses : (rules : Rules) (f : NodeMethod) (n : ℕ) → Refuses (row_of rules (of_method f) n)
method_refuses rules m.GetTagName n = refl
method_refuses rules m.GetParentNode n = refl
method_refuses rules m.GetChildNodes n = refl
method_refuses rules m.GetElementById n = refl
method_refuses rules m.GetAttribute n = refl
method_refuses rules m.SetAttribute n = refl
method_refuses rules m.GetText n = refl
method_refuses rules m.SetText n = refl
method_refuses rules m.CreateElement n = refl
method_refuses rules m.CreateTextNode n = refl
method_refuses rules m.AppendChild n = refl
method_refuses rules m.RemoveChild n = refl
method_refuses rules m.On n = refl

refused_here : (by : ℕ) (q : Row) → Refuses q → (v : Value) (us : List Value) (w : State) → ((n : ℕ) → direct.around w n v ≡ None) → direct.does by q (direct.given (v ∷ us)) w [] ≡ direct.does by (refused (codes "bad receiver")) (direct.given (v ∷ us)) w []
refused_here by (r.branches (r.held zero) go other) p v us w none =
    subst (λ o. direct.with_branch o (λ b. direct.does by (go b.branch) (direct.and_seen (direct.given (v ∷ us)) (direct.way_into (direct.given (v ∷ us)) (r.held 0)) b.values) w []) (direct.does by other (direct.given (v ∷ us)) w []) ≡ direct.does by (refused (codes "bad receiver")) (direct.given (v ∷ us)) w []) (sym (none (length (v ∷ us))))
    (ap (λ q. direct.does by q (direct.given (v ∷ us)) w []) p)
refused_here by q p v us w none = absurd p

-- no value is a node then
no_node : {h : Rattle.es3_heap.specs.Objects.Objects} {w : State} {g : es3.Page} → PagesAre h w g → ((root : ℕ) → g.nodes root ≡ []) → (v : Value) (e : EsValue) → Val h v e → (n : ℕ) → direct.around w n v ≡ None
no_node {g = g} p none (object (facet_name root k)) (Rattle.es3_objects.specs.declared.value.Value.TheVariants.Obj i) is n = let lt : k < length (g.nodes root) = p.known root k i is in let e = ap length (none root) in absurd (omega (arith, lt, e))
no_node p none (object (facet_name root k)) e is n = absurd is
no_node p none v e is n = refl

-- the rules by which a document is changed
abbrev ruled_by : Answers → Rules
ruled_by a = record { cleaned = attr_value a; listed = html.is_in listed; no_content = html.is_in void; services = λ k xs. r.undefined }

is_ruled : (a : Answers) → IsRuled a (ruled_by a)
is_ruled a = record { cleaned = λ tag name v. refl; listed_tags = λ tag. refl; no_content = λ tag. refl }

-- a method of nodes, once both sides have entered it

module _ {form : Bool} {H : Here} {T : Temps} {k : ℕ} (below : H.by < 64) (b : ℕ) (f : NodeMethod) (receiver : Value) (this : EsValue) (us : List Value) (qs : List EsValue) {w : State} {z : List Item} {n : ℕ} {g : Tags} {s : Store} {y : Kept} {m : ℕ} (go : Going) (next : Cont) (next' : Cont') (few : suc m ≤ 4294967295) (at : Val s.heap receiver this) (args : Vals s.heap us qs) (r : RelAt form H T (suc (suc k)) w z n g s y m) (x : NextAt form H T b k w g s m (Source.called_next go next) next') where
  abbrev row_by : Rules → Row
  row_by rules = row_of rules (of_method f) (suc (length us))

  abbrev kept : Kept
  kept = kept_by (callee.OfNode f) H.by this qs s.heap y

  does_so : (rules : Rules) → IsRuled y.answers rules → IsKept (es3.does place_of H.by (row_by rules) (this ∷ qs) s.heap (page_of y) []) (done_by (callee.OfNode f) H.by this qs s.heap y) y kept
  does_so rules ruled =
      subst (λ l. IsKept (es3.does place_of H.by (row_of rules (of_method f) (suc l)) (this ∷ qs) s.heap (page_of y) []) (done_by (callee.OfNode f) H.by this qs s.heap y) y kept) (sym (vals_length s.heap us qs args))
      (method_rows node_methods_do_their_rows rules f H.by this qs s.heap y ruled r.all.kept.whole)

  -- by these rules, where the row does the same directly
  by_rules : (rules : Rules) → IsRuled y.answers rules → direct.does H.by (row_by H.rules) (direct.given (receiver ∷ us)) w [] ≡ direct.does H.by (row_by rules) (direct.given (receiver ∷ us)) w []
      → IsBare kept.dom.doc ⊎ IsRuled kept.answers H.rules → Entered H b (of_method f) (receiver ∷ us) (number_of (of_method f)) this qs w z n s y m go next next'
  by_rules rules ruled same still =
      let ok = does_so rules ruled in
      kept_row {k = k} below b (callee.OfNode f) (of_method f) (number_of (of_method f)) (row_by rules) receiver this this us qs (node_methods_have_their_numbers f) (method_among rules f (suc (length us))) go next next' few ok
      (λ knows. record { runtime = ok.runtime ∙ knows.runtime; imports = ap length ok.imports ∙ knows.imports; whole = (whole_kept node_methods_do_their_rows rules (callee.OfNode f) H.by this qs s.heap y ruled knows.whole).0; ruled = still })
      same (method_settled H.by (row_by rules) (method_of_nodes rules f (suc (length us))) (receiver ∷ us) w) at args r x

  -- nothing changes where no root has nodes
  still_bare : IsBare y.dom.doc → (rules : Rules) → IsRuled y.answers rules → IsBare kept.dom.doc
  still_bare bare rules ruled root =
      let vs : List Value = receiver ∷ us in
      let a = direct.does H.by (row_by rules) (direct.given vs) w [] in
      let came = es3.does place_of H.by (row_by rules) (this ∷ qs) s.heap (page_of y) [] in
      let c : CameIs first place_of s.heap m a came = every_row first place_of H.by below first_is (row_by rules) (method_among rules f (suc (length us))) (direct.given vs) (this ∷ qs) w s.heap (page_of y) [] [] m few (at, args) r.all.objects r.all.pages refl in
      let refuses = refused_here H.by (row_by rules) (method_refuses rules f (suc (length us))) receiver us w (no_node r.all.pages bare receiver this at) in
      sym ((does_so rules ruled).nodes root) ∙ sym (c.page.nodes root) ∙ ap (λ (d : direct.Done). d.world.nodes root) refuses ∙ r.all.pages.nodes root ∙ bare root

  by_facts : IsBare y.dom.doc ⊎ IsRuled y.answers H.rules → Entered H b (of_method f) (receiver ∷ us) (number_of (of_method f)) this qs w z n s y m go next next'
  by_facts (inl bare) =
      let rules = ruled_by y.answers in
      let ruled = is_ruled y.answers in
      let none = no_node r.all.pages bare receiver this at in
      by_rules rules ruled
      (refused_here H.by (row_by H.rules) (method_refuses H.rules f (suc (length us))) receiver us w none ∙ sym (refused_here H.by (row_by rules) (method_refuses rules f (suc (length us))) receiver us w none))
      (inl (still_bare bare rules ruled))
  by_facts (inr ruled) = by_rules H.rules ruled refl (inr (subst (λ a. IsRuled a H.rules) (sym (does_so H.rules ruled).answers) ruled))

  pub node_called : (o : Name) → Entered H b (of_method f) (self_of (of_method f) o receiver ∷ us) (number_of (of_method f)) this qs w z n s y m go next next'
  node_called o =
      subst (λ c. Entered H b (of_method f) (cond c receiver (object o) ∷ us) (number_of (of_method f)) this qs w z n s y m go next next') (sym (wants_receiver f)) (by_facts r.all.kept.ruled)
