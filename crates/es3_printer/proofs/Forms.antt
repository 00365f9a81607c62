-- What the proof of each form wants: how the form's tree is seen, a function wherever it stands, and nothing behind tokens.
use Rattle.std.proofs.Common.{◌≡◌, Bool, false, refl}
use Rattle.std.proofs.lemmas.List.{append-nil}
use Rattle.es3_tree.specs.Tree as t
use Rattle.es3_tree.specs.View.{func}
use Rattle.es3_tree.specs.declared.Func.{Func}
use Rattle.es3_tree.proofs.Rows.{views}
use Rattle.es3_printed.specs.Tokens.{bare}

-- a function's tokens are the same in the head of a `for`
pub anywhere : (b : Bool) (f : Func) → bare t.func b (func f) ≡ bare t.func false (func f)
unfolding bare
anywhere b f = refl

pub ruleset forms = (views, anywhere, append-nil)
