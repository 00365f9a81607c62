-- Whatever is asked, the world's answer is the same, anew: a line or two a question, one for all rows, and none a form.
use Rattle.std.proofs.Common.{◌≡◌, ℕ, false, List, [], ◌∷◌, Option, Some, None, refl, sym, ap, ◌∙◌, subst}
use Rattle.std.specs.Prelude.{map, option_map, codes, length}
use Rattle.std.proofs.lemmas.List.{length-map}
use Rattle.acts.specs.Acts.{answer}
use Rattle.rows.specs.Core.{seen_true}
use Rattle.rows.specs.Nodes.{Rules}
use Rattle.cajita_meaning.specs.World as W
use Rattle.cajita_meaning.specs.World.{Value, World}
use Rattle.cajita_meaning.specs.Doing as d
use Rattle.cajita_meaning.specs.Asking as A
use Rattle.cajita_meaning.specs.Direct as D
use Rattle.cajita_meaning.specs.Direct.{Item, Completion, gave, normal, broke, continued, returned, threw, forms}
use Rattle.cell_numbers.specs.Renumbering.{Renumbering, value_anew, values_anew, pairs_anew, world_anew, items_anew, completion_anew}
use Rattle.cell_numbers.specs.Mapped.{Fits}
use Rattle.cell_numbers.proofs.Lists.{first_anew, lookup_anew, assigned_anew, with_values_anew, paired_anew}
use Rattle.cell_numbers.proofs.Worlds.{with_scopes_anew, new_scope_anew}
use Rattle.cell_numbers.proofs.Rows.{outcome_anew, done_anew, see_anew, begun_anew}
use Rattle.cell_numbers.proofs.Calls.{maps, Anew, made_anew, error_anew, expression_anew, functions_anew, call_anew}

module _ (f : Renumbering) where
  -- what a row comes to

  pub telling_anew : (z : List Item) (r q : A.Reply) → Anew f r q → Anew f (A.telling_all z r) (A.telling_all (items_anew f z) q)
  telling_anew [] r q h = h
  telling_anew (i ∷ z) r q h = (refl, telling_anew z r q h)

  outcome_replies : (calls by : ℕ) (o : d.Outcome) (w : World) → Anew f (A.outcome_reply calls by o w) (A.outcome_reply calls by (outcome_anew f o) (world_anew f w))
  outcome_replies calls by (d.gives v) w = (refl, refl, refl)
  outcome_replies calls by (d.throws v) w = (refl, refl, refl)
  outcome_replies calls by (d.stops fault) w = (refl, refl)
  outcome_replies calls by (d.lists ks) w = (refl, refl, refl)
  outcome_replies calls by (d.calls recorded g t vs) w = call_anew f calls recorded g t vs by w

  done_replies : (calls by : ℕ) (e : d.Done) → Anew f (A.done_reply calls by e) (A.done_reply calls by (done_anew f e))
  done_replies calls by e = telling_anew e.items (A.outcome_reply calls by e.outcome e.world) (A.outcome_reply calls by (outcome_anew f e.outcome) (world_anew f e.world)) (outcome_replies calls by e.outcome e.world)

  -- variables and literals

  found_anew : (o : Option Value) (m : ℕ) (w : World) → Anew f (A.found_reply o m w) (A.found_reply (option_map (value_anew f) o) m (world_anew f w))
  found_anew None m w = error_anew f (codes "unbound") m w
  found_anew (Some v) m w = (refl, refl, refl)

  constant_anew : (k : A.Constant) (w : World) → Anew f (A.good_value (A.constant_value k) w) (A.good_value (A.constant_value k) (world_anew f w))
  constant_anew A.a_null w = (refl, refl, refl)
  constant_anew (A.a_truth b) w = (refl, refl, refl)
  constant_anew (A.a_number n) w = (refl, refl, refl)
  constant_anew (A.a_text us) w = (refl, refl, refl)

  pub replies_anew : (q : A.Question) (m : ℕ) (vs : List Value) (w : World) → Anew f (A.reply q m vs w) (A.reply q m (values_anew f vs) (world_anew f w))
  replies_anew (A.row calls q) m vs w = subst (λ e. Anew f (A.reply (A.row calls q) m vs w) (A.done_reply calls m e)) (sym (begun_anew f m q vs w)) (done_replies calls m (d.does m (q (length vs)) (d.given vs) w []))
  replies_anew (A.the_value k) m vs w = constant_anew k w
  replies_anew (A.variable chain x) m vs w =
      subst (λ o. Anew f (A.found_reply (A.lookup chain (w.scopes m) x) m w) (A.found_reply o m (world_anew f w))) (sym (lookup_anew f chain (w.scopes m) x)) (found_anew (A.lookup chain (w.scopes m) x) m w)
  replies_anew (A.written chain x) m vs w =
      let ss = map (pairs_anew f) (w.scopes m) in (
        refl,
        refl,
        ap (λ v. W.with_scopes m (A.assigned chain x v ss) (world_anew f w)) (first_anew f vs) ∙ ap (λ l. W.with_scopes m l (world_anew f w)) (assigned_anew f chain x (A.first vs) (w.scopes m)) ∙ with_scopes_anew f m (A.assigned chain x (A.first vs) (w.scopes m)) w,
      )
  replies_anew (A.scope params vars) m vs w = (ap A.scope_number (length-map (w.scopes m) (pairs_anew f)), refl, new_scope_anew f vars params vs m w)
  replies_anew (A.functions fs chain) m vs w = functions_anew f fs (A.innermost chain) chain m w (λ u. answer A.good [] u) (λ u. answer A.good [] u) (λ u. (refl, refl, refl))
  replies_anew (A.a_record_of ks) m vs w =
      let ps = W.with_values (A.paired ks vs) [] in
      subst (λ qs. Anew f (A.made_reply (W.a_record false ps) m w) (A.made_reply (W.a_record false qs) m (world_anew f w))) (sym (ap (λ qs. W.with_values qs []) (paired_anew f ks vs) ∙ with_values_anew f (A.paired ks vs) [])) (made_anew f (W.a_record false ps) m w)
  replies_anew (A.a_closure_of g chain) m vs w = expression_anew f g chain m w
  replies_anew A.truth_is m vs w = (ap (λ s. A.decided (seen_true s.sight)) (ap (d.see (world_anew f w) 0) (first_anew f vs) ∙ see_anew f w 0 (A.first vs)), refl, refl)

  -- endings and their values

  shapes_anew : (e : Completion) → D.shape_of (completion_anew f e) ≡ D.shape_of e
  shapes_anew (normal None) = refl
  shapes_anew (normal (Some v)) = refl
  shapes_anew e = refl

  pub ended_values_anew : (e : Completion) → D.values_of (completion_anew f e) ≡ values_anew f (D.values_of e)
  ended_values_anew (normal None) = refl
  ended_values_anew (normal (Some v)) = refl
  ended_values_anew e = refl

  value_in_anew : (e : Completion) → D.value_in (completion_anew f e) ≡ option_map (value_anew f) (D.value_in e)
  value_in_anew (gave v) = refl
  value_in_anew e = refl

  endings_anew : (e : D.Ending) (vs : List Value) → D.ending e (values_anew f vs) ≡ completion_anew f (D.ending e vs)
  endings_anew D.gives vs = ap gave (first_anew f vs)
  endings_anew D.yields vs = ap (λ v. normal (Some v)) (first_anew f vs)
  endings_anew D.returns vs = ap returned (first_anew f vs)
  endings_anew D.throws vs = ap threw (first_anew f vs)
  endings_anew e vs = refl

  pub forms_fit : (rules : Rules) → Fits (forms rules) (maps f)
  forms_fit rules = record { shapes = shapes_anew; values = ended_values_anew; value_in = value_in_anew; endings = endings_anew; replies = replies_anew }
