-- The arguments that an event passes are fewer than the manifest has bytes.
use Rattle.std.proofs.Common.{◌≡◌, ℕ, ◌+◌, ◌<◌, ◌≤◌, Bool, true, false, List, [], ◌∷◌, length, Option, Some, None, Ok, Err, ap, subst, ◌∙◌, arith}
use Rattle.std.specs.Prelude.{All, codes, is_some, nat_lt, if◌then◌else◌}
use Rattle.std.specs.Str.{is_utf8}
use Rattle.std.proofs.lemmas.List.Elements.{All-nil, All-head, All-tail}
use Rattle.serde_json.specs.Data.{Data, Items}
use Rattle.serde_json.specs.Find.{get, as_array}
use Rattle.serde_json.specs.Read as spelled
use Rattle.page_deeds.specs.Deeds.{Plain}
use Rattle.event_script.specs.Events.{Asked}
use Rattle.es3_tokens.specs.Tokens.{place_in}
use Rattle.page_manifest.specs.Faults.{not_json}
use Rattle.page_manifest.specs.Walk.{traverse, need, may, object, entries, items_or, at_most, each, any_number, list_of}
use Rattle.url_rule.specs.Table.{Row}
use Rattle.page_manifest.specs.Page.{Page}
use Rattle.page_manifest.specs.Named.{Plan, for_call, for_click, for_input, for_tick, Manifest}
use Rattle.page_manifest.specs.Manifest as read
use Rattle.page_manifest.specs.Bound as spec
use Rattle.page_manifest.specs.Read.{json, read_or_fault, page_of}
use Rattle.page_manifest.specs.Valid.{FewArguments}
use Rattle.page_manifest.proofs.Validity.{ok_is, no_ok, steps, not_passed, Reads, none, one, reads, all_under, count, may_is}
use Rattle.page_manifest.proofs.DataSize.{size, items_size, AtMost, size-read, size-get, size-as_array, size-positive, length-list_of, size-list_of}

-- ---- the value that is read

read_is : (bytes : List ℕ) (d : Data) → json bytes ≡ Ok d → spelled.read bytes ≡ Some d
read_is bytes d e = at (is_utf8 bytes) (spelled.read bytes) e where
  found : (o : Option Data) → read_or_fault o ≡ Ok d → o ≡ Some d
  found None e = no_ok (not_json, 0) d e
  found (Some c) e = ap Some (ok_is c d e)

  at : (t : Bool) (o : Option Data) → (if t then read_or_fault o else Err (not_json, 0)) ≡ Ok d → o ≡ Some d
  at true o e = found o e
  at false o e = no_ok (not_json, 0) d e

-- entries of a value that is no larger than n
record Entries (n : ℕ) (ds : List Data) : Type 0 where
  pub few : length ds < n
  pub each : All (λ d. size d ≤ n) ds

entries_are : (i n : ℕ) (o : Option Items) (ds : List Data) → AtMost (λ js. items_size js + 1) n o → items_or i o ≡ Ok ds → Entries n ds
entries_are i n None ds h e = no_ok _ ds e
entries_are i n (Some js) ds h e =
    subst (Entries n) (ok_is (list_of js) ds e) (record { few = omega (arith, length-list_of js); each = size-list_of js n (omega arith) })

size-entries : (i n : ℕ) (d : Data) (ds : List Data) → size d ≤ n → entries i d ≡ Ok ds → Entries n ds
size-entries i n d ds h e = entries_are i n (as_array d) ds (size-as_array d n h) e

not_more : (most i : ℕ) (d : Data) (ds : List Data) → at_most most i d ≡ Ok ds → entries i d ≡ Ok ds
not_more most i d ds e =
    let s = steps (entries i d) (λ ds. if nat_lt most (length ds) then Err _ else Ok ds) ds e in
    s.found ∙ ap Ok (not_passed (nat_lt most (length s.first)) s.first ds _ s.after).1

size-found : (o : Option Data) (n : ℕ) (d : Data) → AtMost size n o → o ≡ Some d → size d ≤ n
size-found o n d h e = subst (AtMost size n) e h

-- ---- what an event asks for

module _ (n : ℕ) where
  abbrev Few : Plan → Type 0
  Few (for_call m key vs) = length vs < n
  Few (for_click id) = Unit {0}
  Few (for_input id us) = Unit {0}
  Few (for_tick m) = Unit {0}

  arguments_are : (i : ℕ) (d : Data) (vs : List Plain) → size d ≤ n → any_number read.plain i d ≡ Ok vs → length vs < n
  arguments_are i d vs h e =
      let s = steps (entries i d) (traverse (λ _. read.plain i) 0) vs e in
      let same : length vs ≡ length s.first = count (λ _. read.plain i) 0 s.first vs (reads (λ _. read.plain i) 0 s.first vs s.after) in
      omega (arith, (size-entries i n d s.first h s.found).few)

  call_is : (i : ℕ) (d : Data) (w : Plan) → size d ≤ n → read.call i d ≡ Ok w → Few w
  call_is i d w h e =
      let m = steps (need read.name (codes "call") i d) _ w e in
      let k = steps (need read.units (codes "key") i d) _ w m.after in
      let vs = steps (may [] (any_number read.plain) (codes "args") i d) _ w k.after in
      subst Few (ok_is _ w vs.after) (may_is (λ vs. length vs < n) [] (any_number read.plain i) (get (codes "args") d) vs.first (omega (arith, size-positive d))
      (λ x is. arguments_are i x vs.first (size-found (get (codes "args") d) n x (size-get (codes "args") d n h) is)) vs.found)

  tick_is : (i : ℕ) (d : Data) (w : Plan) → read.tick i d ≡ Ok w → Few w
  tick_is i d w e = let m = steps (need read.name (codes "tick") i d) _ w e in subst Few (ok_is _ w m.after) tt

  click_is : (i : ℕ) (d : Data) (w : Plan) → read.click i d ≡ Ok w → Few w
  click_is i d w e = let id = steps (need read.units (codes "click") i d) _ w e in subst Few (ok_is _ w id.after) tt

  input_is : (i : ℕ) (d : Data) (w : Plan) → read.input i d ≡ Ok w → Few w
  input_is i d w e =
      let id = steps (need read.units (codes "input") i d) _ w e in
      let us = steps (need read.units (codes "text") i d) _ w id.after in
      subst Few (ok_is _ w us.after) tt

  asked_is : (click input tick : Bool) (i : ℕ) (d : Data) (w : Plan) → size d ≤ n → (if click then read.click i d else if input then read.input i d else if tick then read.tick i d else read.call i d) ≡ Ok w → Few w
  asked_is true input tick i d w h e = click_is i d w e
  asked_is false true tick i d w h e = input_is i d w e
  asked_is false false true i d w h e = tick_is i d w e
  asked_is false false false i d w h e = call_is i d w h e

  event_is : (i : ℕ) (d : Data) (w : Plan) → size d ≤ n → read.event i d ≡ Ok w → Few w
  event_is i d w h e =
      let s = steps (object read.event_forms i d) _ w e in
      asked_is (is_some (get (codes "click") d)) (is_some (get (codes "input") d)) (is_some (get (codes "tick") d)) i d w h s.after

  events_are : (d : Data) (ws : List Plan) → size d ≤ n → each 10000 read.event 0 d ≡ Ok ws → All Few ws
  events_are d ws h e =
      let s = steps (at_most 10000 0 d) (traverse read.event 0) ws e in
      all_under read.event (λ d. size d ≤ n) Few event_is 0 s.first ws (size-entries 0 n d s.first h (not_more 10000 0 d s.first s.found)).each (reads read.event 0 s.first ws s.after)

  manifest_is : (runs : Bool) (d : Data) (m : Manifest) → size d ≤ n → read.manifest runs d ≡ Ok m → All Few m.events
  manifest_is runs d m h e =
      let s = steps (object read.page_forms 0 d) _ m e in
      let v = steps (need read.version (codes "version") 0 d) _ m s.after in
      let w = steps (may [] read.text (codes "html") 0 d) _ m v.after in
      let u = steps (may None read.base (codes "base") 0 d) _ m w.after in
      let y = steps (may [] (each 64 read.style) (codes "styles") 0 d) _ m u.after in
      let c = steps (may [] (each 64 read.name) (codes "cells") 0 d) _ m y.after in
      let t = steps (need (each 64 (read.told runs)) (codes "modules") 0 d) _ m c.after in
      let a = steps (may [] (each 10000 read.event) (codes "events") 0 d) _ m t.after in
      subst (λ m. All Few m.events) (ok_is _ m a.after) (may_is (All Few) [] (each 10000 read.event 0) (get (codes "events") d) a.first (All-nil Few)
      (λ x is. events_are x a.first (size-found (get (codes "events") d) n x (size-get (codes "events") d n h) is)) a.found)

-- ---- the events of a page

few_more : (n : ℕ) → n ≤ 4294967295 → (modules : List (List ℕ)) (k : ℕ) (w : Plan) (a : Asked) (es : List Asked) → Few n w → spec.bound_event modules k w ≡ Ok a → FewArguments es → FewArguments (a ∷ es)
few_more n le modules k (for_call m key vs) a es few e more =
    let s = steps (spec.number_of _ k (place_in modules m)) _ a e in
    subst (λ a. FewArguments (a ∷ es)) (ok_is _ a s.after) (omega arith, more)
few_more n le modules k (for_click id) a es few e more = subst (λ a. FewArguments (a ∷ es)) (ok_is _ a e) more
few_more n le modules k (for_input id us) a es few e more = subst (λ a. FewArguments (a ∷ es)) (ok_is _ a e) more
few_more n le modules k (for_tick m) a es few e more =
    let s = steps (spec.number_of _ k (place_in modules m)) _ a e in
    subst (λ a. FewArguments (a ∷ es)) (ok_is _ a s.after) more

few_of : (n : ℕ) → n ≤ 4294967295 → (modules : List (List ℕ)) (i : ℕ) (ws : List Plan) (es : List Asked) → All (Few n) ws → Reads (spec.bound_event modules) i ws es → FewArguments es
few_of n le modules i ws es few (none _) = tt
few_of n le modules i ws es few (one _ w rest a more e r) =
    few_more n le modules i w a more (All-head (Few n) w rest few) e (few_of n le modules (i + 1) rest more (All-tail (Few n) w rest few) r)

bound_is : (n : ℕ) → n ≤ 4294967295 → (rule : List Row) (m : Manifest) (p : Page) → All (Few n) m.events → spec.bound rule m ≡ Ok p → FewArguments p.events
bound_is n le rule m p few e =
    let names = spec.names_of m.modules in
    let o = steps (spec.all_once m) _ p e in
    let b = steps (traverse (spec.bound_module m.cells names) 0 m.modules) _ p o.after in
    let v = steps (traverse (spec.bound_event names) 0 m.events) _ p b.after in
    subst (λ p. FewArguments p.events) (ok_is _ p v.after) (few_of n le names 0 m.events v.first few (reads (spec.bound_event names) 0 m.events v.first v.found))

pub few_arguments : (rule : List Row) (runs : Bool) (bytes : List ℕ) (p : Page) → length bytes < 4294967295 → page_of rule runs bytes ≡ Ok p → FewArguments p.events
few_arguments rule runs bytes p h e =
    let d = steps (json bytes) _ p e in
    let m = steps (read.manifest runs d.first) (spec.bound rule) p d.after in
    let n = length bytes + 1 in
    bound_is n (omega arith) rule m.first p (manifest_is n runs d.first m.first (size-read bytes d.first (read_is bytes d.first d.found)) m.found) m.after
