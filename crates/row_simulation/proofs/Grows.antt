-- What a row tells comes after what was told.
use Rattle.std.proofs.Common.{◌≡◌, ℕ, Bool, true, false, List, [], ◌++◌, length, Option, Some, None, Result, Ok, Err, cond, refl, sym, ◌∙◌}
use Rattle.std.specs.Prelude.{nat_lt}
use Rattle.std.proofs.lemmas.List.{append-nil, append_assoc}
use Rattle.plans.specs.Plans.{Fault}
use Rattle.rows.specs.Rows as r
use Rattle.rows.specs.Rows.{Row, Ending}
use Rattle.cajita_meaning.specs.World.{World}
use Rattle.cajita_meaning.specs.Doing as direct

pub record Grows (z y : List direct.Item) : Type 0 where
  pub more : List direct.Item
  pub is : y ≡ z ++ more

same_told : (z : List direct.Item) → Grows z z
same_told z = record { more = []; is = sym (append-nil z) }

told_after : (z a : List direct.Item) → Grows z (z ++ a)
told_after z a = record { more = a; is = refl }

told_twice : (z a b : List direct.Item) → Grows z ((z ++ a) ++ b)
told_twice z a b = record { more = a ++ b; is = append_assoc z a b }

long_grows : (b : Bool) (d : direct.Done) (w : World) (z : List direct.Item) → Grows z d.items → Grows z (cond b d (direct.too_long w z)).items
long_grows true d w z p = p
long_grows false d w z p = same_told z

finish_grows : (by : ℕ) (e : Ending) (s : direct.Held) (w : World) (z : List direct.Item) → Grows z (direct.finish by e s w z).items
finish_grows by (r.answers x) s w z = told_after z _
finish_grows by (r.throws message) s w z = told_after z _
finish_grows by (r.faults f) s w z = same_told z
finish_grows by (r.lists ks) s w z = long_grows (nat_lt (length ks) r.most_items) _ w z (same_told z)
finish_grows by (r.calls recorded f t xs) s w z = told_after z _
finish_grows by (r.makes_array frozen xs) s w z = long_grows (nat_lt (length xs) r.most_items) _ w z (told_twice z _ _)
finish_grows by (r.copies_record frozen x) s w z = told_twice z _ _
finish_grows by (r.makes_error maker message) s w z = told_after z _
finish_grows by (r.reads_key o k x) s w z = told_after z _
finish_grows by (r.writes_key o k x) s w z = told_after z _
finish_grows by (r.drops_key o k) s w z = same_told z
finish_grows by (r.sets_items o xs x) s w z = long_grows (nat_lt (length xs) r.most_items) _ w z (told_after z _)
finish_grows by (r.freezes o) s w z = told_after z _

settle_grows : (by : ℕ) (e : r.Settling) (s : direct.Held) (w : World) (z : List direct.Item) → Grows z (direct.settle by e s w z).items
settle_grows by (r.answers_kept x) s w z = told_after z _
settle_grows by (r.keeps x y) s w z = same_told z
settle_grows by (r.says x us) s w z = told_after z _
settle_grows by (r.queues x f) s w z = told_after z _
settle_grows by (r.changes_node x k y) s w z = told_twice z _ _
settle_grows by (r.adds_node x o) s w z = told_after z _
settle_grows by (r.listens x us f) s w z = same_told z

result_grows : {A : Type 0} (a : Result A Fault) (w : World) (z : List direct.Item) (go : A → direct.Done) → ((x : A) → Grows z (go x).items) → Grows z (direct.with_result a w z go).items
result_grows (Ok x) w z go f = f x
result_grows (Err k) w z go f = same_told z

branch_grows : (o : Option direct.Around) (z : List direct.Item) (go : direct.Around → direct.Done) (other : direct.Done) → ((b : direct.Around) → Grows z (go b).items) → Grows z other.items → Grows z (direct.with_branch o go other).items
branch_grows None z go other f g = g
branch_grows (Some b) z go other f g = f b

touched_first : (z a y : List direct.Item) → Grows (z ++ a) y → Grows z y
touched_first z a y g = record { more = a ++ g.more; is = g.is ∙ append_assoc z a g.more }

pub does_grows : (by : ℕ) (q : Row) (s : direct.Held) (w : World) (z : List direct.Item) → Grows z (direct.does by q s w z).items
does_grows by (r.ends e) s w z = finish_grows by e s w z
does_grows by (r.settles e) s w z = settle_grows by e s w z
does_grows by (r.as_text x go) s w z = result_grows (direct.text_of w (direct.value_of s.values x)) w z (λ us. direct.does by (go us) s w z) (λ us. does_grows by (go us) s w z)
does_grows by (r.as_number x go) s w z = result_grows (direct.number_of w (direct.value_of s.values x)) w z (λ n. direct.does by (go n) s w z) (λ n. does_grows by (go n) s w z)
does_grows by (r.as_joined x sep go) s w z = result_grows (direct.joined_of w (direct.value_of s.values x) sep) w z (λ us. direct.does by (go us) s w z) (λ us. does_grows by (go us) s w z)
does_grows by (r.as_same x y go) s w z = does_grows by (go _) s w z
does_grows by (r.looks x go) s w z = does_grows by (go _) _ w z
does_grows by (r.as_same_root x y go) s w z = does_grows by (go _) s w z
does_grows by (r.branches x go other) s w z = branch_grows (direct.around w (length s.values) (direct.value_of s.values x)) z _ _ (λ b. does_grows by (go b.branch) _ w z) (does_grows by other s w z)
does_grows by (r.touches t x k next) s w z = touched_first z _ _ (does_grows by next s w _)
