use Rattle.std.proofs.Common.{◌≡◌, ◌+◌, map, inl, inr, refl, arith}
use Rattle.es3_tree.specs.Tree as t
use Rattle.es3_tree.specs.PlacedView.{stmt}
use Rattle.es3_grammar.specs.Frames.{stmts_of}
use Rattle.es3_grammar.specs.Plain.{deep}
use Rattle.es3_grammar.specs.Sums.{capped}
use Rattle.es3_frames.proofs.Rows.{stmts_mapped}
use Rattle.es3_frames.proofs.limit.height.Goals as goal

pub returns-in-Begun : goal.returns-in-Begun
returns-in-Begun c =
    let two = c.round_statement-in-Begun.ensures 2 refl in
    elim c.in-Begun.is [ inl e ↦ rw e.1 two | inr e ↦ rw e two ]

pub returns-in-Returned : goal.returns-in-Returned
returns-in-Returned c =
    let one = c.round_statement-in-Returned.ensures 1 refl in
    elim c.in-Returned.is [ inl e ↦ rw e.1 one | inr e ↦ rw e.2 one ]

pub returns-in-Tried : goal.returns-in-Tried
returns-in-Tried c =
    let tried = c.in-Tried.tried in
    let right = tried.right in
    let deeper : c.above-in-Tried.result ≡ capped (1 + deep t.stmts (stmts_of (map stmt tried.list.items))) = rw (← stmts_mapped tried.list.items) (omega arith) in
    let at = c.round_statement-in-Tried.ensures _ deeper in
    elim c.in-Tried.is [ inl e ↦ rw e at | inr e ↦ rw e at ]
