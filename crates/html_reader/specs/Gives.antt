-- What the program's answers are by the reading from left to right.
use Rattle.std.specs.Prelude.{◌≡◌, Result, Ok, Err}
use Rattle.std.specs.Global.{Vec}
use Rattle.html_grammar.specs.Tags as t
use Rattle.html_grammar.specs.Reading as h
use Rattle.html_tree.specs.declared.Html.{Html}
use Rattle.html_tree.specs.declared.HtmlError.{HtmlError}
use Rattle.html_tree.specs.declared.HtmlError.TheVariants as e
use Rattle.html_tree.specs.Views.{trees}

abbrev pub Refuses : HtmlError → h.Answer → Type 0
Refuses (e.NotUtf8 p) a = ⊥
Refuses (e.OpenTag p) a = a ≡ h.refused t.open_tag p
Refuses (e.Mismatch p) a = a ≡ h.refused t.mismatch p
Refuses (e.BadReference p) a = a ≡ h.refused t.bad_reference p
Refuses (e.BadAttr p) a = a ≡ h.refused t.bad_attr p
Refuses (e.TooDeep p) a = a ≡ h.refused t.too_deep p
Refuses e.Memory a = Unit {0}

-- an answer is these trees, or this refusal, unless memory is wanting
abbrev pub Gives : Result (Vec Html) HtmlError → h.Answer → Type 0
Gives (Ok v) a = a ≡ h.trees (trees v.items)
Gives (Err e) a = Refuses e a
