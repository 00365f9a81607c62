-- What a loop over the characters looks for, from the ith character on.
use Rattle.std.proofs.Common.{◌≡◌, ℕ, zero, suc, ◌+◌, ◌≤◌, ◌<◌, Bool, true, false, ◌&&◌, ◌||◌, List, [], ◌∷◌, Option, None, Some, refl, sym, ap, ◌∙◌, arith, nat_eq, nat_lt, length, drop, take, map, get_or, codes, add-one}
use Rattle.std.specs.Prelude.{if◌then◌else◌}
use Rattle.std.specs.List.{starts_with}
use Rattle.std.proofs.Math.Seq.{drop-cons}
use Rattle.std.proofs.lemmas.List.{drop_all, length-map, length-take}
use Rattle.std.proofs.lemmas.Bool.Decides.{nat_tests}
use Rattle.caja_units.specs.Units.{same_units}
use Rattle.caja_units.specs.Utf8.{units_of_chars}
use Rattle.html_grammar.specs.Characters.{lower, is_word, is_attr, begins_markup}
use Rattle.html_grammar.specs.Runs.{run}
use Rattle.html_grammar.specs.Tables.{is_in, raw}
use Rattle.html_grammar.specs.Point.{text, text_step, comment_end, one_more, begins_end, raw_len, raw_here, markup, point}
use Rattle.html_grammar.proofs.Complete.{same_is}

at_drop : (s : List ℕ) (i : ℕ) → i < length s → drop i s ≡ get_or s i 0 ∷ drop (i + 1) s
at_drop s i lt = drop-cons s i 0 lt ∙ ap (λ j. get_or s i 0 ∷ drop j s) (sym (add-one i))

-- i characters more
abbrev pub shifted : ℕ → Option ℕ → Option ℕ
shifted i None = None
shifted i (Some n) = Some (i + n)

shifted_one : (i : ℕ) (o : Option ℕ) → shifted (i + 1) o ≡ shifted i (one_more o)
shifted_one i None = refl
shifted_one i (Some n) = ap Some (let e : i + 1 + n ≡ i + suc n = omega arith in e)

comment_cons : (c : ℕ) (s : List ℕ) → comment_end (c ∷ s) ≡ (if starts_with nat_eq (c ∷ s) (codes "-->") then Some 3 else one_more (comment_end s))
unfolding comment_end
comment_cons c s = refl

pub comment_start : (o : Option ℕ) → shifted 0 o ≡ o
comment_start None = refl
comment_start (Some n) = ap Some (let e : 0 + n ≡ n = omega arith in e)

pub comment_more : (s w : List ℕ) (i : ℕ) (x : Option ℕ) → w ≡ drop i s → i < length s → starts_with nat_eq w (codes "-->") ≡ false → shifted i (comment_end (drop i s)) ≡ x → shifted (i + 1) (comment_end (drop (i + 1) s)) ≡ x
comment_more s w i x f lt e h =
    shifted_one i (comment_end (drop (i + 1) s))
    ∙ ap (shifted i) (sym (ap comment_end (at_drop s i lt) ∙ comment_cons (get_or s i 0) (drop (i + 1) s) ∙ ap (λ b. if b then Some 3 else one_more (comment_end (drop (i + 1) s))) (ap (λ (t : List ℕ). starts_with nat_eq t (codes "-->")) (sym (at_drop s i lt) ∙ sym f) ∙ e))) ∙ h

pub comment_here : (s w : List ℕ) (i : ℕ) (x : Option ℕ) → w ≡ drop i s → i < length s → starts_with nat_eq w (codes "-->") ≡ true → shifted i (comment_end (drop i s)) ≡ x → Some (i + 3) ≡ x
comment_here s w i x f lt e h =
    ap (shifted i) (sym (ap comment_end (at_drop s i lt) ∙ comment_cons (get_or s i 0) (drop (i + 1) s) ∙ ap (λ b. if b then Some 3 else one_more (comment_end (drop (i + 1) s))) (ap (λ (t : List ℕ). starts_with nat_eq t (codes "-->")) (sym (at_drop s i lt) ∙ sym f) ∙ e))) ∙ h

pub comment_nowhere : (s : List ℕ) (i : ℕ) (x : Option ℕ) → length s ≤ i → shifted i (comment_end (drop i s)) ≡ x → None ≡ x
unfolding comment_end
comment_nowhere s i x le h = ap (λ (t : List ℕ). shifted i (comment_end t)) (sym (drop_all i s le)) ∙ h

raw_cons : (name : List ℕ) (c : ℕ) (s : List ℕ) → raw_len name (c ∷ s) ≡ (if begins_end name (c ∷ s) then 0 else suc (raw_len name s))
unfolding raw_len
raw_cons name c s = refl

raw_at : (name s w : List ℕ) (i : ℕ) (b : Bool) → w ≡ drop i s → i < length s → begins_end name w ≡ b → raw_len name (drop i s) ≡ (if b then 0 else suc (raw_len name (drop (i + 1) s)))
raw_at name s w i b f lt e =
    ap (raw_len name) (at_drop s i lt) ∙ raw_cons name (get_or s i 0) (drop (i + 1) s)
    ∙ ap (λ b. if b then 0 else suc (raw_len name (drop (i + 1) s))) (ap (begins_end name) (sym (at_drop s i lt) ∙ sym f) ∙ e)

pub raw_more : (name s w : List ℕ) (i x : ℕ) → w ≡ drop i s → i < length s → begins_end name w ≡ false → i + raw_len name (drop i s) ≡ x → i + 1 + raw_len name (drop (i + 1) s) ≡ x
raw_more name s w i x f lt e h = let a = raw_at name s w i false f lt e in omega (arith, a, h)

pub raw_stops : (name s w : List ℕ) (i x : ℕ) → w ≡ drop i s → i < length s → begins_end name w ≡ true → i + raw_len name (drop i s) ≡ x → i ≡ x
raw_stops name s w i x f lt e h = let a = raw_at name s w i true f lt e in omega (arith, a, h)

pub raw_all : (name s : List ℕ) (i x : ℕ) → length s ≤ i → i + raw_len name (drop i s) ≡ x → i ≡ x
unfolding raw_len
raw_all name s i x le h = let a = ap (raw_len name) (drop_all i s le) in omega (arith, a, h)

-- ---- words in either case

get-lower : (s : List ℕ) (i n d : ℕ) → i < n → i < length s → get_or (map lower (take n s)) i 0 ≡ lower (get_or s i d)
get-lower [] i n d lt le = absurd (omega arith)
get-lower (c ∷ s) i zero d lt le = absurd (omega arith)
get-lower (c ∷ s) zero (suc n) d lt le = refl
get-lower (c ∷ s) (suc i) (suc n) d lt le = get-lower s i n d (omega arith) (omega arith)

word_at : (s word : List ℕ) (i d : ℕ) → i < length word → length word ≤ length s
    → same_units (drop i (map lower (take (length word) s))) (drop i word) ≡ (nat_eq (lower (get_or s i d)) (get_or word i 0) && same_units (drop (i + 1) (map lower (take (length word) s))) (drop (i + 1) word))
word_at s word i d lt le =
    let t = map lower (take (length word) s) in
    let l : i < length t = let a = length-map (take (length word) s) lower in let b = length-take (length word) s in omega (arith, a, b, lt, le) in
    ap (λ (u : List ℕ). same_units u (drop i word)) (at_drop t i l) ∙ ap (same_units (get_or t i 0 ∷ drop (i + 1) t)) (at_drop word i lt)
    ∙ ap (λ c. nat_eq c (get_or word i 0) && same_units (drop (i + 1) t) (drop (i + 1) word)) (get-lower s i (length word) d lt (omega (arith, lt, le)))

pub word_more : (s word : List ℕ) (i c b d : ℕ) (x : Bool) → i < length word → length word ≤ length s → c ≡ lower (get_or s i d) → b ≡ get_or word i 0 → c ≡ b
    → same_units (drop i (map lower (take (length word) s))) (drop i word) ≡ x → same_units (drop (i + 1) (map lower (take (length word) s))) (drop (i + 1) word) ≡ x
word_more s word i c b d x lt le e f g h =
    let is : nat_eq (lower (get_or s i d)) (get_or word i 0) ≡ true = let z : lower (get_or s i d) ≡ get_or word i 0 = sym e ∙ g ∙ f in grind (arith, nat_tests) in
    sym (word_at s word i d lt le ∙ ap (λ b. b && same_units (drop (i + 1) (map lower (take (length word) s))) (drop (i + 1) word)) is) ∙ h

pub word_other : (s word : List ℕ) (i c b d : ℕ) (x : Bool) → i < length word → length word ≤ length s → c ≡ lower (get_or s i d) → b ≡ get_or word i 0 → (c ≡ b → ⊥)
    → same_units (drop i (map lower (take (length word) s))) (drop i word) ≡ x → false ≡ x
word_other s word i c b d x lt le e f g h =
    let is : nat_eq (lower (get_or s i d)) (get_or word i 0) ≡ false = let z : (lower (get_or s i d) ≡ get_or word i 0 → ⊥) = λ y. g (e ∙ y ∙ sym f) in grind (arith, nat_tests) in
    sym (word_at s word i d lt le ∙ ap (λ b. b && same_units (drop (i + 1) (map lower (take (length word) s))) (drop (i + 1) word)) is) ∙ h

shorter : (us vs : List ℕ) → length us < length vs → same_units us vs ≡ false
shorter us [] lt = absurd (omega arith)
shorter [] (v ∷ vs) lt = refl
shorter (u ∷ us) (v ∷ vs) lt = and_false (nat_eq u v) (same_units us vs) (shorter us vs (omega arith))
  where
    and_false : (a b : Bool) → b ≡ false → (a && b) ≡ false
    and_false true b e = e
    and_false false b e = refl

pub word_short : (s word : List ℕ) → length s < length word → same_units (map lower (take (length word) s)) word ≡ false
word_short s word lt = shorter (map lower (take (length word) s)) word (let a = length-map (take (length word) s) lower in let b = length-take (length word) s in omega (arith, a, b, lt))

-- ---- raw content

pub raw_script : (name word s : List ℕ) → same_units name word ≡ true → is_in raw word ≡ true → raw_len word s ≡ raw_here name s
raw_script name word s e f =
    let i = same_is name word e in
    sym (ap (λ (n : List ℕ). raw_here n s) i ∙ ap (λ b. if b then raw_len word s else 0) f)

pub no_raw : (name s : List ℕ) → same_units name (codes "script") ≡ false → same_units name (codes "style") ≡ false → raw_here name s ≡ 0
unfolding is_in
no_raw name s e f = ap (λ b. if (if b then true else if same_units name (codes "style") then true else false) then raw_len name s else 0) e ∙ ap (λ b. if (if b then true else false) then raw_len name s else 0) f

pub raw_none : (s : List ℕ) → raw_here [] s ≡ 0
unfolding is_in
raw_none s = refl

pub word_is_attr : (c : ℕ) → is_word c ≡ true → is_attr c ≡ true
word_is_attr c e = ap (λ b. b || nat_eq c 45 || nat_eq c 95 || nat_eq c 58) e

-- ---- points

above : (n : ℕ) → 0 < n → nat_lt 0 n ≡ true
above n h = grind (arith, nat_tests)

none_above : (n : ℕ) → n ≤ 0 → nat_lt 0 n ≡ false
none_above n h = grind (arith, nat_tests)

pub point_raw : (b : Bool) (name s us : List ℕ) (n : ℕ) → n ≡ raw_here name s → 0 < n → us ≡ units_of_chars (take n s) → text us n ≡ point b name s
unfolding point
point_raw b name s us n e lt f =
    ap (λ (vs : List ℕ). text vs n) f ∙ ap (λ k. text (units_of_chars (take k s)) k) e
    ∙ sym (ap (λ t. if t then text (units_of_chars (take (raw_here name s) s)) (raw_here name s) else if begins_markup s then markup b s else text_step (run begins_markup 0 s)) (above (raw_here name s) (omega (arith, e, lt))))

point_other : (b : Bool) (name s : List ℕ) (n : ℕ) (t : Bool) → n ≡ raw_here name s → n ≤ 0 → begins_markup s ≡ t → point b name s ≡ (if t then markup b s else text_step (run begins_markup 0 s))
unfolding point
point_other b name s n t e le f =
    ap (λ t. if t then text (units_of_chars (take (raw_here name s) s)) (raw_here name s) else if begins_markup s then markup b s else text_step (run begins_markup 0 s)) (none_above (raw_here name s) (omega (arith, e, le)))
    ∙ ap (λ t. if t then markup b s else text_step (run begins_markup 0 s)) f

pub point_markup : (b : Bool) (name s : List ℕ) (n : ℕ) → n ≡ raw_here name s → n ≤ 0 → begins_markup s ≡ true → markup b s ≡ point b name s
point_markup b name s n e le f = sym (point_other b name s n true e le f)

pub point_text : (b : Bool) (name s : List ℕ) (n : ℕ) → n ≡ raw_here name s → n ≤ 0 → begins_markup s ≡ false → text_step (run begins_markup 0 s) ≡ point b name s
point_text b name s n e le f = sym (point_other b name s n false e le f)
