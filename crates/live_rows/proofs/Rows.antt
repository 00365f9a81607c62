-- Whatever a row is, what it comes to is live: by induction over the row.
use Rattle.std.proofs.Common.{ℕ, true, List, ◌++◌, All, Option, Some, None, Result, Ok, Err, length}
use Rattle.std.specs.Prelude.{map, nat_lt}
use Rattle.std.proofs.lemmas.List.Elements.{All-append}
use Rattle.plans.specs.Plans.{Fault}
use Rattle.es3_objects.specs.declared.value.Value.{Value}
use Rattle.es3_objects.specs.declared.value.Value.TheVariants as v
use Rattle.es3_heap.specs.Objects.{Objects}
use Rattle.es3_convert.specs.Conversions.{text_of}
use Rattle.es3_convert.specs.Numbers.{number_of}
use Rattle.es3_convert.specs.Comparisons.{strictly_equal}
use Rattle.es3_live.specs.Live.{IsLive, AreClosed}
use Rattle.es3_live.proofs.Growth.{later_refl}
use Rattle.es3_live.proofs.Writing.{same_objects}
use Rattle.rows.specs.Rows as r
use Rattle.rows.specs.Rows.{Native, Row, Ending}
use Rattle.rows.specs.Guards.{maker_name}
use Rattle.heap_rows.specs.Doing.{Page, Came, Told, value_in, see, proto_of, finish, joined_of, Around, around, with_result, with_branch, named, same_root_by, does}
use Rattle.live_rows.specs.Named.{IsSeenBranch, EndNames, RowNames}
use Rattle.live_rows.specs.Live.{IsThere, LiveDone, LivePage, LiveCame}
use Rattle.live_rows.proofs.Values.{value_live, values_live}
use Rattle.live_rows.proofs.Seeing.{sees}
use Rattle.live_rows.proofs.Around.{IsAroundLive, around_live}
use Rattle.live_rows.proofs.Ends.{gives_live, stops_live, unless_long}
use Rattle.live_rows.proofs.Made.{throws_live, error_live, array_live, copy_live, keys_live}
use Rattle.live_rows.proofs.Writes.{reads_grown, writes_grown, drops_grown, freezes_grown}
use Rattle.live_rows.proofs.Items.{items_grown}
use Rattle.live_rows.proofs.Kept.{page_more, settle_live}

finish_live : (fs : Native → ℕ) (by : ℕ) (e : Ending) (vs : List Value) (h : Objects) (y : List Told) → EndNames (IsThere fs h) e → AreClosed h → All (IsLive (length h.list)) vs → LiveDone h (finish fs by e vs h y)
finish_live fs by (r.answers x) vs h y names closed live = gives_live _ h h y (same_objects h closed) (value_live (length h.list) fs vs x names live)
finish_live fs by (r.throws message) vs h y names closed live = throws_live by message h y closed
finish_live fs by (r.faults f) vs h y names closed live = stops_live f h y closed
finish_live fs by (r.lists ks) vs h y names closed live = unless_long h (nat_lt (length ks) r.most_items) _ y closed (keys_live ks h y closed)
finish_live fs by (r.calls recorded f t xs) vs h y names closed live =
    let n = length h.list in
    record { later = later_refl h; closed = closed; answer = (value_live n fs vs f names.0 live, value_live n fs vs t names.1 live, values_live n fs vs xs names.2 live) }
finish_live fs by (r.makes_array frozen xs) vs h y names closed live =
    unless_long h (nat_lt (length xs) r.most_items) _ y closed (array_live frozen by (map (value_in fs vs) xs) h y closed (values_live (length h.list) fs vs xs names live))
finish_live fs by (r.copies_record frozen x) vs h y names closed live = copy_live frozen by (value_in fs vs x) h y closed
finish_live fs by (r.makes_error maker message) vs h y names closed live = error_live by (proto_of maker) (maker_name maker) message h y closed
finish_live fs by (r.reads_key o k x) vs h y names closed live = gives_live _ h _ y (reads_grown h (value_in fs vs o) k closed) (value_live (length h.list) fs vs x names live)
finish_live fs by (r.writes_key o k x) vs h y names closed live =
    let value = value_live (length h.list) fs vs x names live in
    gives_live _ h _ y (writes_grown h (value_in fs vs o) k (value_in fs vs x) closed value) value
finish_live fs by (r.drops_key o k) vs h y names closed live = gives_live (v.Bool true) h _ y (drops_grown h (value_in fs vs o) k closed) tt
finish_live fs by (r.sets_items o xs x) vs h y names closed live =
    unless_long h (nat_lt (length xs) r.most_items) _ y closed
    (gives_live _ h _ y (items_grown h (value_in fs vs o) (map (value_in fs vs) xs) closed (values_live (length h.list) fs vs xs names.0 live)) (value_live (length h.list) fs vs x names.1 live))
finish_live fs by (r.freezes o) vs h y names closed live = gives_live _ h _ y (freezes_grown h (value_in fs vs o) closed) (value_live (length h.list) fs vs o names live)

result_live : {A : Type 0} (a : Result A Fault) (h : Objects) (g : Page) (y : List Told) (go : A → Came) → AreClosed h → LivePage (length h.list) g → ((x : A) → LiveCame h (go x)) → LiveCame h (with_result a h g y go)
result_live (Ok x) h g y go closed page live = live x
result_live (Err f) h g y go closed page live = record { done = stops_live f h y closed; page = page }

branch_live : (h : Objects) (o : Option Around) (go : r.Branch → List Value → Came) (other : Came) → IsAroundLive (length h.list) o → ((b : r.Branch) (us : List Value) → IsSeenBranch b → All (IsLive (length h.list)) us → LiveCame h (go b us)) → LiveCame h other → LiveCame h (with_branch o (λ b. go b.branch b.values) other)
branch_live h None go other l f q = q
branch_live h (Some b) go other l f q = f b.branch b.values l.branch l.values

pub does_live : (fs : Native → ℕ) (by : ℕ) (q : Row) (vs : List Value) (h : Objects) (g : Page) (y : List Told) → RowNames (IsThere fs h) q → AreClosed h
    → All (IsLive (length h.list)) vs → LivePage (length h.list) g → LiveCame h (does fs by q vs h g y)
does_live fs by (r.ends e) vs h g y names closed live page =
    let done = finish_live fs by e vs h y names closed live in
    record { done = done; page = page_more g done.later.more page }
does_live fs by (r.settles e) vs h g y names closed live page = settle_live fs e vs h g y names closed live page
does_live fs by (r.as_text x go) vs h g y names closed live page =
    result_live (text_of h (value_in fs vs x)) h g y (λ us. does fs by (go us) vs h g y) closed page (λ us. does_live fs by (go us) vs h g y (names us) closed live page)
does_live fs by (r.as_number x go) vs h g y names closed live page =
    result_live (number_of h (value_in fs vs x)) h g y (λ n. does fs by (go n) vs h g y) closed page (λ n. does_live fs by (go n) vs h g y (names n) closed live page)
does_live fs by (r.as_joined x sep go) vs h g y names closed live page =
    result_live (joined_of h (value_in fs vs x) sep) h g y (λ us. does fs by (go us) vs h g y) closed page (λ us. does_live fs by (go us) vs h g y (names us) closed live page)
does_live fs by (r.as_same x z go) vs h g y names closed live page =
    let same = strictly_equal (value_in fs vs x) (value_in fs vs z) in
    does_live fs by (go same) vs h g y (names same) closed live page
does_live fs by (r.looks x go) vs h g y names closed live page =
    let seen = see h (length vs) (value_in fs vs x) in
    let s = sees (length vs) h (value_in fs vs x) closed in
    does_live fs by (go seen.sight) (vs ++ seen.values) h g y (names.1 seen.sight s.sight) closed (All-append (IsLive (length h.list)) vs seen.values live s.values) page
does_live fs by (r.as_same_root x z go) vs h g y names closed live page =
    let same = same_root_by (named h (value_in fs vs x)) (named h (value_in fs vs z)) in
    does_live fs by (go same) vs h g y (names same) closed live page
does_live fs by (r.branches x go other) vs h g y names closed live page =
    branch_live h (around h g (length vs) (value_in fs vs x)) (λ b us. does fs by (go b) (vs ++ us) h g y) (does fs by other vs h g y) (around_live h g (length vs) (value_in fs vs x) page)
    (λ b us seen held. does_live fs by (go b) (vs ++ us) h g y (names.1 b seen) closed (All-append (IsLive (length h.list)) vs us live held) page)
    (does_live fs by other vs h g y names.2 closed live page)
does_live fs by (r.touches t x k next) vs h g y names closed live page = does_live fs by next vs h g _ names closed live page
