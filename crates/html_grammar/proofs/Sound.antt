-- A text is read as the trees that it spells, and so it spells no others.
use Rattle.std.proofs.Common.{◌≡◌, ℕ, suc, ◌+◌, ◌<◌, Bool, true, false, ◌&&◌, List, [], ◌∷◌, None, refl, sym, ap, ◌∙◌, arith, nat_lt, length, take, drop}
use Rattle.std.specs.Prelude.{if◌then◌else◌}
use Rattle.std.specs.List.{list_all}
use Rattle.std.proofs.lemmas.Bool.Decides.{nat_tests}
use Rattle.html_grammar.specs.Characters.{is_space}
use Rattle.html_grammar.specs.Tables.{is_in, void}
use Rattle.html_grammar.specs.Tags.{Attr, too_deep, mismatch}
use Rattle.html_grammar.specs.Point.{text, skip, start, end, point}
use Rattle.html_grammar.specs.Trees.{append, Tree, many, text_node, element, none, snoc, most}
use Rattle.html_grammar.specs.Document.{Reads, nothing, a_text, a_comment, an_empty, an_element, Front, Spells}
use Rattle.html_grammar.specs.Refusals.{width}
use Rattle.html_grammar.specs.Reading.{Open, Answer, trees, refused, opened, inner_name, read_from}
use Rattle.html_grammar.proofs.Pieces.{append_none, append_snoc, same_self, read_text, read_skip, read_start, read_end}

abbrev Goes : ℕ → Bool → List Open → Tree many → List ℕ → Bool → Tree many → List ℕ → Type 0
Goes p b k h s c g r = (q : ℕ) × (read_from 0 p b k h s ≡ read_from 0 q c k g r)

few : (n m : ℕ) → n < m → nat_lt n m ≡ true
few n m h = grind (arith, nat_tests)

after_text : (p : ℕ) (b : Bool) (k : List Open) (h : Tree many) (s us : List ℕ) (n : ℕ) → point b (inner_name k) s ≡ text us n → Front n s
    → Goes p b k h s (b && list_all is_space (take n s)) (snoc h (text_node us)) (drop n s)
after_text p b k h s us n e f = (p + width (take n s), read_text p b k h s us n e f)

after_comment : (p : ℕ) (b : Bool) (k : List Open) (h : Tree many) (s : List ℕ) (n : ℕ) → point b (inner_name k) s ≡ skip n → Front n s → Goes p b k h s false h (drop n s)
after_comment p b k h s n e f = (p + width (take n s), read_skip p b k h s n e f)

after_empty : (p : ℕ) (b : Bool) (k : List Open) (h : Tree many) (s m : List ℕ) (xs : List Attr) (n : ℕ) → length k < most → is_in void m ≡ true → point b (inner_name k) s ≡ start m xs None n → Front n s
    → Goes p b k h s false (snoc h (element m xs none)) (drop n s)
after_empty p b k h s m xs n lt v e f =
    let g : (List Open → Tree many → Answer) = λ k h. read_from 0 (p + width (take n s)) false k h (drop n s) in (
      p + width (take n s),
      read_start p b k h s m xs None n e f ∙ ap (λ c. if c then opened g k h m xs else refused too_deep p) (few (length k) most lt)
          ∙ ap (λ c. if c then g k (snoc h (element m xs none)) else g (record { name = m; attrs = xs; before = h } ∷ k) none) v,
    )

after_start : (p : ℕ) (b : Bool) (k : List Open) (h : Tree many) (s m : List ℕ) (xs : List Attr) (n : ℕ) → length k < most → is_in void m ≡ false → point b (inner_name k) s ≡ start m xs None n → Front n s
    → (q : ℕ) × (read_from 0 p b k h s ≡ read_from 0 q false (record { name = m; attrs = xs; before = h } ∷ k) none (drop n s))
after_start p b k h s m xs n lt v e f =
    let g : (List Open → Tree many → Answer) = λ k h. read_from 0 (p + width (take n s)) false k h (drop n s) in (
      p + width (take n s),
      read_start p b k h s m xs None n e f ∙ ap (λ c. if c then opened g k h m xs else refused too_deep p) (few (length k) most lt)
          ∙ ap (λ c. if c then g k (snoc h (element m xs none)) else g (record { name = m; attrs = xs; before = h } ∷ k) none) v,
    )

after_end : (p : ℕ) (b : Bool) (k : List Open) (h g : Tree many) (s m : List ℕ) (xs : List Attr) (n : ℕ) → point b m s ≡ end m None n → Front n s
    → (q : ℕ) × (read_from 0 p b (record { name = m; attrs = xs; before = h } ∷ k) g s ≡ read_from 0 q false k (snoc h (element m xs g)) (drop n s))
after_end p b k h g s m xs n e f =
    let o : Open = record { name = m; attrs = xs; before = h } in
    (p + width (take n s), read_end p b (o ∷ k) g s m None n e f ∙ ap (λ c. if c then read_from 0 (p + width (take n s)) false k (snoc h (element m xs g)) (drop n s) else refused mismatch p) (same_self m))

-- the trees that a text spells are read behind those before it
pub reading : {d : ℕ} {n : List ℕ} {t : Tree many} {b c : Bool} {s r : List ℕ} → Reads d n t b s c r → (p : ℕ) (k : List Open) (h : Tree many) → length k ≡ d → inner_name k ≡ n → Goes p b k h s c (append h t) r
reading (nothing d n b s) p k h l i = (p, ap (λ g. read_from 0 p b k g s) (sym (append_none h)))
reading (a_text d n t b c s r us m e f x) p k h l i =
    let y = after_text p b k h s us m (ap (λ n. point b n s) i ∙ e) f in
    let z = reading x y.0 k (snoc h (text_node us)) l i in
    (z.0, y.1 ∙ z.1 ∙ ap (λ g. read_from 0 z.0 c k g r) (append_snoc h t (text_node us)))
reading (a_comment d n t b c s r m e f x) p k h l i =
    let y = after_comment p b k h s m (ap (λ n. point b n s) i ∙ e) f in
    let z = reading x y.0 k h l i in
    (z.0, y.1 ∙ z.1)
reading (an_empty d n t b c s r m xs j lt v e f x) p k h l i =
    let y = after_empty p b k h s m xs j (omega arith) v (ap (λ n. point b n s) i ∙ e) f in
    let z = reading x y.0 k (snoc h (element m xs none)) l i in
    (z.0, y.1 ∙ z.1 ∙ ap (λ g. read_from 0 z.0 c k g r) (append_snoc h t (element m xs none)))
reading (an_element d n t u b c e0 s q r m xs j g lt v e f x e' f' y) p k h l i =
    let o : Open = record { name = m; attrs = xs; before = h } in
    let a = after_start p b k h s m xs j (omega arith) v (ap (λ n. point b n s) i ∙ e) f in
    let w = reading x a.0 (o ∷ k) none (ap suc l) refl in
    let z = after_end w.0 e0 k h u q m xs g e' f' in
    let last = reading y z.0 k (snoc h (element m xs u)) l i in
    (last.0, a.1 ∙ w.1 ∙ z.1 ∙ last.1 ∙ ap (λ g. read_from 0 last.0 c k g r) (append_snoc h t (element m xs u)))

pub spelled_is_read : (t : Tree many) (s : List ℕ) → Spells t s → read_from 0 0 true [] none s ≡ trees t
unfolding read_from
spelled_is_read t s x = let y = reading x.1 0 [] none refl refl in y.1

-- one text spells one list of trees
pub one_tree : (t u : Tree many) (s : List ℕ) → Spells t s → Spells u s → t ≡ u
one_tree t u s x y = let e : trees t ≡ trees u = sym (spelled_is_read t s x) ∙ spelled_is_read u s y in cc
