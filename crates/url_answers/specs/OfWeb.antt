-- Trees whose links and images lead to the web, or to a place in the same document.
use Rattle.std.specs.Prelude.{◌≡◌, ◌⊎◌, List, [], ◌∷◌, true, codes}
use Rattle.html_grammar.specs.Tags.{Attr}
use Rattle.html_grammar.specs.Trees.{Sort, one, many, Tree, text_node, element, none, more}
use Rattle.url_rule.specs.Reading.{is_place}
use Rattle.url_rule.specs.Answers.{IsOfWeb}

-- a link names a place in the same document or a URL of the web, and an image a URL of the web
pub record AttrOfWeb (x : Attr) : Type 0 where
  pub link : x.name ≡ codes "href" → (is_place x.value ≡ true) ⊎ IsOfWeb x.value
  pub image : x.name ≡ codes "src" → IsOfWeb x.value

abbrev pub AttrsOfWeb : List Attr → Type 0
AttrsOfWeb [] = Unit {0}
AttrsOfWeb (x ∷ xs) = AttrOfWeb x × AttrsOfWeb xs

abbrev pub OfWeb : (s : Sort) → Tree s → Type 0
OfWeb _ (text_node us) = Unit {0}
OfWeb _ (element n xs ts) = AttrsOfWeb xs × OfWeb many ts
OfWeb _ none = Unit {0}
OfWeb _ (more t ts) = OfWeb one t × OfWeb many ts
