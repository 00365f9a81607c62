-- Parts of a source that is made of tokens: what stands for each is clean where its parts are, and the names that it imports and declares are names.
use Rattle.std.proofs.Common.{◌≡◌, ℕ, Bool, true, false, List, [], ◌∷◌, ◌++◌, Option, Some, None, cond, refl, subst}
use Rattle.std.specs.List.{All}
use Rattle.std.proofs.lemmas.List.Elements.{All-nil, All-cons, All-head, All-tail}
use Rattle.es3_tree.specs.Token.{Token, name, text}
use Rattle.es3_tree.specs.Tree as t
use Rattle.es3_tree.specs.Placed as tree
use Rattle.es3_tree.specs.Placed.{Placed, Word}
use Rattle.es3_tokens.specs.Back.{IsToken}
use Rattle.es3_grammar.specs.Spots.{Spot}
use Rattle.es3_grammar.specs.Levels.{E}
use Rattle.es3_grammar.specs.Grammar.{free, naming, Names, no_name, one_name, more_names, Spells}
use Rattle.es3_grammar.specs.Plain.{plain}
use Rattle.es3_printed.specs.Back.{AreTokens}
use Rattle.es3_printed.specs.Tokens.{bare}
use Rattle.es3_printed.proofs.Written.{written}
use Rattle.cajita_tree.specs.Tree as c
use Rattle.cajita_names.specs.Rules.{is_among}
use Rattle.cajita_names.specs.Declarations.{Role, Declaration}
use Rattle.cajita_names.specs.Once.{is_variable, is_loop_variable, names_of, once_after}
use Rattle.cajita_forms.specs.Options.{one, both, three, four, from}
use Rattle.cajita_forms.specs.Forms.{text_of, texts_of}
use Rattle.cajoled_text.specs.Clean.{AreNames, IsMaybeName, Clean}

-- ---- tokens, by parts

abbrev At : Spot → Type 0
At s = IsToken s.0

pub record Are (u : List Spot) : Type 0 where
  pub all : AreTokens u

pub head : {s : Spot} {u : List Spot} → Are (s ∷ u) → IsToken s.0
head {s} {u} h = All-head At s u h.all

pub rest : {s : Spot} {u : List Spot} → Are (s ∷ u) → Are u
rest {s} {u} h = record { all = All-tail At s u h.all }

pub front : {u : List Spot} (v : List Spot) → Are (u ++ v) → Are u
front {u = []} v h = record { all = All-nil At }
front {u = s ∷ u} v h = let r : Are u = front v (rest h) in record { all = All-cons At s u (head h) r.all }

pub back : (u : List Spot) {v : List Spot} → Are (u ++ v) → Are v
back [] h = h
back (s ∷ u) h = back u (rest h)

first_token : (c : Token) (w z : List Token) → z ≡ c ∷ w → All IsToken z → IsToken c
first_token c w z e h = All-head IsToken c w (subst (All IsToken) e h)

-- a key is printed as a text
pub key_part : (n : Word) (x : E) (fs : Placed t.fields) (u : List Spot) → Spells t.fields free 1 (tree.more_fields n x fs) u → Are u → IsToken (text n.text)
unfolding bare
key_part n x fs u p h = first_token (text n.text) _ (bare t.fields false (plain t.fields (tree.more_fields n x fs))) refl (written _ _ _ _ _ p h.all false)

-- a name that may be absent, and parameters
pub maybe_name : (n : Option Word) → Are (naming n) → IsMaybeName (text_of n)
maybe_name None h = tt
maybe_name (Some n) h = head h

pub parameters : (ps : List Word) (u : List Spot) → Names ps u → Are u → AreNames (texts_of ps)
parameters _ _ no_name h = tt
parameters _ _ (one_name n) h = (head h, tt)
parameters _ _ (more_names a n m ns u p) h = (head h, parameters (m ∷ ns) u p (rest (rest h)))

-- ---- names

pub both_names : (xs ys : List (List ℕ)) → AreNames xs → AreNames ys → AreNames (xs ++ ys)
both_names [] ys p q = q
both_names (x ∷ xs) ys p q = (p.0, both_names xs ys p.1 q)

pub once_names : (xs seen : List (List ℕ)) → AreNames seen → AreNames xs → AreNames (once_after seen xs)
once_names [] seen p q = p
once_names (x ∷ xs) seen p q = once_names xs _ (more (is_among seen x)) q.1
  where
    more : (b : Bool) → AreNames (cond b seen (seen ++ x ∷ []))
    more true = p
    more false = both_names seen (x ∷ []) p (q.0, tt)

-- the words that are declared
abbrev pub AreDeclared : List Declaration → Type 0
AreDeclared [] = Unit {0}
AreDeclared (d ∷ ds) = IsToken (name d.word.text) × AreDeclared ds

pub both_declared : (ds es : List Declaration) → AreDeclared ds → AreDeclared es → AreDeclared (ds ++ es)
both_declared [] es p q = q
both_declared (d ∷ ds) es p q = (p.0, both_declared ds es p.1 q)

pub declared_names : (has : Role → Bool) (ds : List Declaration) → AreDeclared ds → AreNames (names_of has ds)
declared_names has [] p = tt
declared_names has (d ∷ ds) p = by_role (has d.role) (declared_names has ds p.1)
  where
    by_role : (b : Bool) → AreNames (names_of has ds) → AreNames (cond b (d.word.text ∷ names_of has ds) (names_of has ds))
    by_role true q = (p.0, q)
    by_role false q = q

-- those that a body declares by `var`
pub variable_names : (ds : List Declaration) → AreDeclared ds → AreNames (once_after (once_after [] (names_of is_variable ds)) (names_of is_loop_variable ds))
variable_names ds p =
    once_names _ (once_after [] (names_of is_variable ds)) (once_names _ [] tt (declared_names is_variable ds p)) (declared_names is_loop_variable ds p)

-- ---- what stands for a part: it is clean, and what the part imports and declares are names; or no part stands there

pub record Fine (is : List (List ℕ)) (ds : List Declaration) (s : c.Sort) (y : c.Tree s) : Type 0 where
  pub clean : Clean s y
  pub names : AreNames is
  pub declared : AreDeclared ds

pub data Holds (is : List (List ℕ)) (ds : List Declaration) (s : c.Sort) : Option (c.Tree s) → Type 0 where
  lacking : Holds is ds s None
  held : (y : c.Tree s) → Fine is ds s y → Holds is ds s (Some y)

pub there : {is : List (List ℕ)} {ds : List Declaration} {s : c.Sort} {y : c.Tree s} → Holds is ds s (Some y) → Fine is ds s y
there (held y a) = a

pub nothing : {s : c.Sort} (y : c.Tree s) → Clean s y → Holds [] [] s (Some y)
nothing y g = held y record { clean = g; names = tt; declared = tt }

-- ---- forms by their parts

pub one_form : {s v : c.Sort} {is : List (List ℕ)} {ds : List Declaration} {o : Option (c.Tree s)} (f : c.Tree s → c.Tree v) → ((x : c.Tree s) → Clean s x → Clean v (f x))
    → Holds is ds s o → Holds is ds v (one f o)
one_form f clean lacking = lacking
one_form f clean (held x a) = held (f x) record { clean = clean x a.clean; names = a.names; declared = a.declared }

-- what becomes another form, if any
pub from_form : {s v : c.Sort} {is : List (List ℕ)} {ds : List Declaration} {o : Option (c.Tree s)} (f : c.Tree s → Option (c.Tree v)) → ((x : c.Tree s) → Fine is ds s x → Holds is ds v (f x))
    → Holds is ds s o → Holds is ds v (from f o)
from_form f g lacking = lacking
from_form f g (held x a) = g x a

pub pair_form : {s u v : c.Sort} {is js : List (List ℕ)} {ds es gs : List Declaration} {o : Option (c.Tree s)} {r : Option (c.Tree u)} (f : c.Tree s → c.Tree u → c.Tree v)
    → ((x : c.Tree s) (y : c.Tree u) → Clean s x → Clean u y → Clean v (f x y)) → (AreDeclared ds → AreDeclared es → AreDeclared gs)
    → Holds is ds s o → Holds js es u r → Holds (is ++ js) gs v (both f o r)
pair_form f clean d lacking b = lacking
pair_form f clean d (held x a) lacking = lacking
pair_form {is = is} {js = js} f clean d (held x a) (held y b) =
    held (f x y) record { clean = clean x y a.clean b.clean; names = both_names is js a.names b.names; declared = d a.declared b.declared }

pub three_form : {s u q v : c.Sort} {is js ks : List (List ℕ)} {ds es fs gs : List Declaration} {o : Option (c.Tree s)} {r : Option (c.Tree u)} {n : Option (c.Tree q)}
    (f : c.Tree s → c.Tree u → c.Tree q → c.Tree v) → ((x : c.Tree s) (y : c.Tree u) (z : c.Tree q) → Clean s x → Clean u y → Clean q z → Clean v (f x y z))
    → (AreDeclared ds → AreDeclared es → AreDeclared fs → AreDeclared gs)
    → Holds is ds s o → Holds js es u r → Holds ks fs q n → Holds ((is ++ js) ++ ks) gs v (three f o r n)
three_form f clean d lacking b k = lacking
three_form f clean d (held x a) lacking k = lacking
three_form f clean d (held x a) (held y b) lacking = lacking
three_form {is = is} {js = js} {ks = ks} f clean d (held x a) (held y b) (held z k) = held (f x y z) record {
  clean = clean x y z a.clean b.clean k.clean;
  names = both_names (is ++ js) ks (both_names is js a.names b.names) k.names;
  declared = d a.declared b.declared k.declared;
}

pub four_form : {s u q w v : c.Sort} {is js ks ls : List (List ℕ)} {ds es fs hs gs : List Declaration}
    {o : Option (c.Tree s)} {r : Option (c.Tree u)} {n : Option (c.Tree q)} {m : Option (c.Tree w)}
    (f : c.Tree s → c.Tree u → c.Tree q → c.Tree w → c.Tree v)
    → ((x : c.Tree s) (y : c.Tree u) (z : c.Tree q) (i : c.Tree w) → Clean s x → Clean u y → Clean q z → Clean w i → Clean v (f x y z i))
    → (AreDeclared ds → AreDeclared es → AreDeclared fs → AreDeclared hs → AreDeclared gs)
    → Holds is ds s o → Holds js es u r → Holds ks fs q n → Holds ls hs w m → Holds (((is ++ js) ++ ks) ++ ls) gs v (four f o r n m)
four_form f clean d lacking b k l = lacking
four_form f clean d (held x a) lacking k l = lacking
four_form f clean d (held x a) (held y b) lacking l = lacking
four_form f clean d (held x a) (held y b) (held z k) lacking = lacking
four_form {is = is} {js = js} {ks = ks} {ls = ls} f clean d (held x a) (held y b) (held z k) (held i l) = held (f x y z i) record {
  clean = clean x y z i a.clean b.clean k.clean l.clean;
  names = both_names ((is ++ js) ++ ks) ls (both_names (is ++ js) ks (both_names is js a.names b.names) k.names) l.names;
  declared = d a.declared b.declared k.declared l.declared;
}
