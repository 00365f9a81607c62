-- What the reading gives is what the grammar says.
use Rattle.std.proofs.Common.{◌≡◌, ℕ, Bool, true, false, List, Result, Ok, Err, refl}
use Rattle.std.specs.Global.{Vec}
use Rattle.std.specs.Str.{chars, is_utf8, IsUtf8}
use Rattle.std.proofs.lemmas.Str.{IsUtf8-from_is_utf8}
use Rattle.html_grammar.specs.Tags as t
use Rattle.html_grammar.specs.Reading.{read}
use Rattle.html_grammar.proofs.Exact.{read_is_spelled, read_is_refused}
use Rattle.html_tree.specs.declared.Html.{Html}
use Rattle.html_tree.specs.declared.HtmlError.{HtmlError}
use Rattle.html_tree.specs.declared.HtmlError.TheVariants as e
use Rattle.html_tree.specs.Views.{trees}
use Rattle.html_reader.specs.Gives.{Gives, Refuses}
use Rattle.html_reader.specs.Answers.{IsRead, RefusedSo}

refused_so : (e : HtmlError) (bytes : List ℕ) → is_utf8 bytes ≡ true → Refuses e (read (chars bytes)) → RefusedSo e bytes
refused_so (e.NotUtf8 p) bytes u h = absurd h
refused_so (e.OpenTag p) bytes u h = (u, read_is_refused t.open_tag p (chars bytes) h)
refused_so (e.Mismatch p) bytes u h = (u, read_is_refused t.mismatch p (chars bytes) h)
refused_so (e.BadReference p) bytes u h = (u, read_is_refused t.bad_reference p (chars bytes) h)
refused_so (e.BadAttr p) bytes u h = (u, read_is_refused t.bad_attr p (chars bytes) h)
refused_so (e.TooDeep p) bytes u h = (u, read_is_refused t.too_deep p (chars bytes) h)
refused_so e.Memory bytes u h = tt

pub answered : (r : Result (Vec Html) HtmlError) (bytes : List ℕ) → is_utf8 bytes ≡ true → Gives r (read (chars bytes)) → IsRead r bytes
answered (Ok v) bytes u h = (u, read_is_spelled (trees v.items) (chars bytes) h)
answered (Err x) bytes u h = refused_so x bytes u h

not_true : (b : Bool) → (b ≡ true → ⊥) → b ≡ false
not_true true h = absurd (h refl)
not_true false h = refl

pub not_utf8 : (bytes : List ℕ) → ¬ (IsUtf8 bytes) → is_utf8 bytes ≡ false
not_utf8 bytes h = not_true (is_utf8 bytes) (λ e. h (IsUtf8-from_is_utf8 bytes e))
