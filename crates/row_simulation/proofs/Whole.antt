-- All ends have their laws, so all rows have.
use Rattle.std.proofs.Common.{ℕ, ◌<◌}
use Rattle.es3_heap.specs.Objects.{Objects}
use Rattle.rows.specs.Rows as r
use Rattle.rows.specs.Rows.{Native, Ending, Row}
use Rattle.row_simulation.specs.Among.{IsEndAmong, IsAmongObjects}
use Rattle.row_simulation.proofs.Row.{EndLaw}
use Rattle.row_simulation.proofs.Law.{row_law}
use Rattle.row_simulation.proofs.Conversions.{conversions}
use Rattle.row_simulation.specs.RowLaw.{RowLaw, IsFirst}
use Rattle.row_simulation.proofs.Ends.{answers_law, faults_law, calls_law, throws_law, error_law}
use Rattle.row_simulation.proofs.Writes.{writes_law, drops_law, reads_law}
use Rattle.row_simulation.proofs.Arrays.{array_law, items_law, freezes_law}
use Rattle.row_simulation.proofs.Copies.{copies_law}
use Rattle.row_simulation.proofs.Lists.{lists_law}

pub end_law : {first : Objects} {places : Native → ℕ} (by : ℕ) → by < 64 → IsFirst first → (e : Ending) → IsEndAmong e → EndLaw first places by e
end_law by below f (r.answers x) a = answers_law by x a
end_law by below f (r.throws message) a = throws_law by below f message
end_law by below f (r.faults g) a = faults_law by g
end_law by below f (r.lists ks) a = lists_law by f ks
end_law by below f (r.calls recorded g t xs) a = calls_law by recorded g t xs a
end_law by below f (r.makes_array frozen xs) a = array_law by below f frozen xs a
end_law by below f (r.copies_record frozen x) a = copies_law by below f frozen x a
end_law by below f (r.makes_error maker message) a = error_law by below f maker message
end_law by below f (r.reads_key x k v) a = reads_law by x k v a
end_law by below f (r.writes_key x k v) a = writes_law by f x k v a
end_law by below f (r.drops_key x k) a = drops_law by x k a
end_law by below f (r.sets_items x xs v) a = items_law by x xs v a
end_law by below f (r.freezes x) a = freezes_law by x a

-- what a row does in a world, it does among the objects of ES3: every row that is among objects
pub every_row : (first : Objects) (places : Native → ℕ) (by : ℕ) → by < 64 → IsFirst first → (q : Row) → IsAmongObjects q → RowLaw first places by q
every_row first places by below f q a s es w h g z y m few p o k is = row_law by f (end_law by below f) q a s es w h g z y m few p o k (conversions first places f w h m o) is
