-- What a change that is done has made of the document.
use Rattle.std.proofs.Common.{◌≡◌, Bool, true, false, ◌&&◌, Option, Some, None, Result, Ok, Err, cond, ℕ}
use Rattle.doc_nodes.specs.declared.node.DocError.{DocError}
use Rattle.doc_nodes.specs.declared.node.DocError.TheVariants.{NoNode}
use Rattle.doc_nodes.specs.Rows.{Doc, has}
use Rattle.doc_nodes.specs.Changes.{unless, append, append_refused, moved, remove, taken, is_child}

pub moved_where_ok : (p c : ℕ) (d e : Doc) → append p c d ≡ Ok e → e ≡ moved p c d
moved_where_ok p c d e h = at (append_refused d p c) h
  where
    at : (o : Option DocError) → unless o (moved p c d) ≡ Ok e → e ≡ moved p c d
    at None h = cc
    at (Some x) h = cc

pub taken_where_ok : (p c : ℕ) (d e : Doc) → remove p c d ≡ Ok e → e ≡ taken p c d
taken_where_ok p c d e h = at (has d p && has d c && is_child d p c) h
  where
    at : (b : Bool) → ◌≡◌ {A = Result Doc DocError} (cond b (Ok (taken p c d)) (Err NoNode)) (Ok e) → e ≡ taken p c d
    at true h = cc
    at false h = cc
