-- The loop over the pieces of a text: what was read so far decides the answer together with the rest.
use Rattle.std.proofs.Common.{◌≡◌, ℕ, ◌+◌, ◌<◌, ◌≤◌, Bool, true, false, ◌&&◌, List, Option, sym, ap, subst, ◌∙◌, arith, nat_lt, length, take, drop, drop-drop}
use Rattle.std.specs.Prelude.{if◌then◌else◌}
use Rattle.std.specs.List.{list_all}
use Rattle.std.specs.Char.{len_utf8}
use Rattle.std.proofs.lemmas.List.{drop_all, length-drop}
use Rattle.std.proofs.lemmas.List.Sums.{sum_by-take-drop}
use Rattle.std.proofs.lemmas.Bool.Decides.{nat_tests}
use Rattle.html_grammar.specs.Characters.{is_space}
use Rattle.html_grammar.specs.Tags.{Attr, Fault, Refusal, too_deep}
use Rattle.html_grammar.specs.Point.{Step, text, skip, start, end, refuse, point}
use Rattle.html_grammar.specs.Trees.{Tree, many, text_node, snoc, most}
use Rattle.html_grammar.specs.Refusals.{width}
use Rattle.html_grammar.specs.Reading.{Open, Answer, refused, opened, closes, faulty, ended, inner_name, read_from}
use Rattle.html_grammar.proofs.Pieces.{read_text, read_skip, read_start, read_end, read_refuse, read_end_of_text}
use Rattle.html_grammar.specs.Fits.{StepFits, FaultFits}

pub at_point : (b : Bool) (m n w r : List ℕ) (x y : Step) → x ≡ point b m w → m ≡ n → w ≡ r → x ≡ y → point b n r ≡ y
at_point b m n w r x y e f g h = sym (e ∙ ap (λ m. point b m w) f ∙ ap (point b n) g) ∙ h

pub fits_at : (m : ℕ) (x y : Step) → x ≡ y → StepFits m x → StepFits m y
fits_at m x y e f = subst (λ p. StepFits m p) e f

pub placed : (s w : List ℕ) (i n p q a : ℕ) → w ≡ drop i s → q ≡ width (take n w) → p + width (drop i s) ≡ a → p + q + width (drop (i + n) s) ≡ a
placed s w i n p q a e f h =
    let g : width (take n w) + width (drop (i + n) s) ≡ width (drop i s) = ap (λ (v : List ℕ). width (take n v) + width (drop (i + n) s)) e ∙ ap (λ (v : List ℕ). width (take n (drop i s)) + width v) (sym (drop-drop n i s)) ∙ sum_by-take-drop len_utf8 (drop i s) n in
    omega (arith, g)

pub fitted : (s w : List ℕ) (i n : ℕ) → w ≡ drop i s → i < length s → n ≤ length w → i + n ≤ length s
fitted s w i n e lt h = omega (arith, ap length e, length-drop i s)

some_left : (s : List ℕ) (i : ℕ) → i < length s → 0 < length (drop i s)
some_left s i lt = omega (arith, length-drop i s)

-- going on behind a piece
behind : (p q i n : ℕ) (b : Bool) (k : List Open) (h : Tree many) (s w : List ℕ) → w ≡ drop i s → q ≡ width (take n w)
    → read_from 0 (p + q) b k h (drop (i + n) s) ≡ read_from 0 (p + width (take n (drop i s))) b k h (drop n (drop i s))
behind p q i n b k h s w e f = ap (λ (v : List ℕ). read_from 0 (p + q) b k h v) (sym (drop-drop n i s)) ∙ ap (λ j. read_from 0 (p + j) b k h (drop n (drop i s))) (f ∙ ap (λ (v : List ℕ). width (take n v)) e)

pub loop_text : (p q i n : ℕ) (b b' : Bool) (k : List Open) (h h' : Tree many) (us s w : List ℕ) (a : Answer) → w ≡ drop i s → point b (inner_name k) (drop i s) ≡ text us n → (0 < n) × (n ≤ length w) → q ≡ width (take n w)
    → b' ≡ (b && list_all is_space (take n w)) → h' ≡ snoc h (text_node us) → read_from 0 p b k h (drop i s) ≡ a → read_from 0 (p + q) b' k h' (drop (i + n) s) ≡ a
loop_text p q i n b b' k h h' us s w a e f g wide c d r =
    let le : n ≤ length (drop i s) = omega (arith, g.1, ap length e) in
    behind p q i n b' k h' s w e wide
    ∙ ap (λ c. read_from 0 (p + width (take n (drop i s))) c k h' (drop n (drop i s))) (c ∙ ap (λ (v : List ℕ). b && list_all is_space (take n v)) e)
    ∙ ap (λ t. read_from 0 (p + width (take n (drop i s))) (b && list_all is_space (take n (drop i s))) k t (drop n (drop i s))) d
    ∙ sym (read_text p b k h (drop i s) us n f (g.0, le)) ∙ r

pub loop_skip : (p q i n : ℕ) (b : Bool) (k : List Open) (h : Tree many) (s w : List ℕ) (a : Answer) → w ≡ drop i s → point b (inner_name k) (drop i s) ≡ skip n → (0 < n) × (n ≤ length w) → q ≡ width (take n w)
    → read_from 0 p b k h (drop i s) ≡ a → read_from 0 (p + q) false k h (drop (i + n) s) ≡ a
loop_skip p q i n b k h s w a e f g wide r =
    let le : n ≤ length (drop i s) = omega (arith, g.1, ap length e) in
    behind p q i n false k h s w e wide ∙ sym (read_skip p b k h (drop i s) n f (g.0, le)) ∙ r

-- going on behind a tag
abbrev pub after : ℕ → ℕ → List ℕ → List Open → Tree many → Answer
after p n r k h = read_from 0 (p + width (take n r)) false k h (drop n r)

few : (n m : ℕ) → n < m → nat_lt n m ≡ true
few n m h = grind (arith, nat_tests)

not_few : (n m : ℕ) → m ≤ n → nat_lt n m ≡ false
not_few n m h = grind (arith, nat_tests)

pub start_deep : (p i n : ℕ) (b : Bool) (k : List Open) (h : Tree many) (m s w : List ℕ) (xs : List Attr) (x : Option Fault) (a : Answer) → w ≡ drop i s → point b (inner_name k) (drop i s) ≡ start m xs x n → (0 < n) × (n ≤ length w) × FaultFits (length w) x
    → most ≤ length k → read_from 0 p b k h (drop i s) ≡ a → a ≡ refused too_deep p
start_deep p i n b k h m s w xs x a e f g deep r =
    let le : n ≤ length (drop i s) = omega (arith, g.1, ap length e) in
    sym r ∙ read_start p b k h (drop i s) m xs x n f (g.0, le) ∙ ap (λ c. if c then faulty p (drop i s) x (opened (after p n (drop i s)) k h m xs) else refused too_deep p) (not_few (length k) most deep)

pub start_checked : (p i n : ℕ) (b : Bool) (k : List Open) (h : Tree many) (m s w : List ℕ) (xs : List Attr) (x : Option Fault) (a : Answer) → w ≡ drop i s → point b (inner_name k) (drop i s) ≡ start m xs x n → (0 < n) × (n ≤ length w) × FaultFits (length w) x
    → length k < most → read_from 0 p b k h (drop i s) ≡ a → a ≡ faulty p w x (opened (after p n (drop i s)) k h m xs)
start_checked p i n b k h m s w xs x a e f g lt r =
    let le : n ≤ length (drop i s) = omega (arith, g.1, ap length e) in
    sym r ∙ read_start p b k h (drop i s) m xs x n f (g.0, le) ∙ ap (λ c. if c then faulty p (drop i s) x (opened (after p n (drop i s)) k h m xs) else refused too_deep p) (few (length k) most lt)
    ∙ ap (λ (v : List ℕ). faulty p v x (opened (after p n (drop i s)) k h m xs)) (sym e)

pub end_checked : (p i n : ℕ) (b : Bool) (k : List Open) (h : Tree many) (m s w : List ℕ) (x : Option Fault) (a : Answer) → w ≡ drop i s → point b (inner_name k) (drop i s) ≡ end m x n → (0 < n) × (n ≤ length w) × FaultFits (length w) x
    → read_from 0 p b k h (drop i s) ≡ a → a ≡ closes (after p n (drop i s)) p w k h m x
end_checked p i n b k h m s w x a e f g r =
    let le : n ≤ length (drop i s) = omega (arith, g.1, ap length e) in
    sym r ∙ read_end p b k h (drop i s) m x n f (g.0, le) ∙ ap (λ (v : List ℕ). closes (after p n (drop i s)) p v k h m x) (sym e)

-- behind a tag without a fault
pub loop_tag : (p q i n : ℕ) (k : List Open) (h : Tree many) (s w : List ℕ) (x : Option Fault) (b a : Answer) → w ≡ drop i s → q ≡ width (take n w) → a ≡ faulty p w x b → faulty p w x b ≡ b → b ≡ after p n (drop i s) k h
    → read_from 0 (p + q) false k h (drop (i + n) s) ≡ a
loop_tag p q i n k h s w x b a e wide f ok g = behind p q i n false k h s w e wide ∙ sym (f ∙ ok ∙ g)

pub loop_refuse : (p q i n : ℕ) (b : Bool) (k : List Open) (h : Tree many) (s w : List ℕ) (f : Refusal) (a : Answer) → w ≡ drop i s → i < length s → point b (inner_name k) (drop i s) ≡ refuse f n → q ≡ width (take n w)
    → read_from 0 p b k h (drop i s) ≡ a → refused f (p + q) ≡ a
loop_refuse p q i n b k h s w f a e lt g wide r = ap (λ j. refused f (p + j)) (wide ∙ ap (λ (v : List ℕ). width (take n v)) e) ∙ sym (read_refuse p b k h (drop i s) f n g (some_left s i lt)) ∙ r

pub loop_end : (p i : ℕ) (b : Bool) (k : List Open) (h : Tree many) (s : List ℕ) (a : Answer) → length s ≤ i → read_from 0 p b k h (drop i s) ≡ a → ended p k h ≡ a
loop_end p i b k h s a le r = sym (ap (read_from 0 p b k h) (drop_all i s le) ∙ read_end_of_text p b k h) ∙ r
