-- Trees that a text of characters spells are well read.
use Rattle.std.proofs.Common.{◌≡◌, ℕ, ◌+◌, ◌-◌, Bool, true, false, ◌&&◌, List, [], Option, None, Some, refl, sym, subst, ◌∙◌, arith, nat_eq, nat_lt, take, drop, codes, position}
use Rattle.std.specs.List.{prefix_len, starts_with}
use Rattle.std.specs.Str.{all_scalars}
use Rattle.caja_units.specs.Units.{same_units}
use Rattle.caja_units.specs.Utf8.{units_of_chars}
use Rattle.html_grammar.specs.Characters.{is_word, is_letter, begins, begins_markup, is}
use Rattle.html_grammar.specs.Runs.{Run, units, unknown_at, run}
use Rattle.html_grammar.specs.Tags.{Inside, closed, endless, inside, ends_element, open_tag}
use Rattle.html_grammar.specs.Point.{Step, text, skip, start, end, refuse, text_step, start_step, end_step, lowered, start_kind, start_tag, end_tag, comment_end, dropped, declaration, raw_here, markup, point}
use Rattle.html_grammar.specs.Trees.{many, Tree, most}
use Rattle.html_grammar.specs.Document.{Reads, nothing, a_text, a_comment, an_empty, an_element, Spells}
use Rattle.html_kept.specs.Texts.{OfChars, Apart, ValuesOfChars, WellRead}
use Rattle.html_kept.proofs.Chars.{by_test, run_chars, RunOfChars, scalars_drop, scalars_take}
use Rattle.html_kept.proofs.ReadTags.{InsideRead, inside_read}

abbrev StepRead : Step → Type 0
StepRead (text us n) = OfChars us
StepRead (skip n) = Unit {0}
StepRead (start m xs None n) = Apart [] xs × ValuesOfChars xs
StepRead (start m xs (Some f) n) = Unit {0}
StepRead (end m f n) = Unit {0}
StepRead (refuse x n) = Unit {0}

text_read : (r : Run) → RunOfChars r → StepRead (text_step r)
text_read (units us n) h = h
text_read (unknown_at k n) h = tt

start_read : (n : List ℕ) (x : Inside) → InsideRead [] x → StepRead (start_step n x)
start_read n (closed xs None k) h = h
start_read n (closed xs (Some f) k) h = tt
start_read n endless h = tt

end_read : (n : List ℕ) (x : Inside) → StepRead (end_step n x)
end_read n (closed xs f k) = tt
end_read n endless = tt

dropped_read : (k : ℕ) (o : Option ℕ) → StepRead (dropped k o)
dropped_read k None = tt
dropped_read k (Some n) = tt

markup_read : (b : Bool) (s : List ℕ) → all_scalars s ≡ true → StepRead (markup b s)
markup_read b s h =
    by_test StepRead (begins (is 47) (drop 1 s)) (end_tag (drop 2 s)) _
    (λ _. by_test StepRead (begins is_letter (drop 2 s)) (end_step (lowered (prefix_len is_word (drop 2 s)) (drop 2 s)) (inside ends_element [] 0 (prefix_len is_word (drop 2 s) + 2) (drop (prefix_len is_word (drop 2 s)) (drop 2 s)))) (refuse open_tag 0)
    (λ _. end_read (lowered (prefix_len is_word (drop 2 s)) (drop 2 s)) (inside ends_element [] 0 (prefix_len is_word (drop 2 s) + 2) (drop (prefix_len is_word (drop 2 s)) (drop 2 s)))) (λ _. tt))
    (λ _. by_test StepRead (begins (is 33) (drop 1 s)) (declaration b (drop 2 s)) (start_tag (drop 1 s))
    (λ _. by_test StepRead (starts_with nat_eq (drop 2 s) (codes "--")) (dropped 4 (comment_end (drop 2 (drop 2 s)))) _ (λ _. dropped_read 4 (comment_end (drop 2 (drop 2 s))))
    (λ _. by_test StepRead (b && same_units (lowered 7 (drop 2 s)) (codes "doctype")) (dropped 3 (position (is 62) (drop 2 s))) (refuse open_tag 0) (λ _. dropped_read 3 (position (is 62) (drop 2 s))) (λ _. tt)))
    (λ _. let n = prefix_len is_word (drop 1 s) in
    start_read (lowered n (drop 1 s)) (inside (start_kind (lowered n (drop 1 s))) [] 0 (n + 1) (drop n (drop 1 s)))
    (inside_read (start_kind (lowered n (drop 1 s))) [] 0 (n + 1) (drop n (drop 1 s)) (scalars_drop n (drop 1 s) (scalars_drop 1 s h)))))

point_read : (b : Bool) (name s : List ℕ) → all_scalars s ≡ true → StepRead (point b name s)
unfolding point
point_read b name s h =
    by_test StepRead (nat_lt 0 (raw_here name s)) (text (units_of_chars (take (raw_here name s) s)) (raw_here name s)) _ (λ _. (take (raw_here name s) s, refl, scalars_take (raw_here name s) s h))
    (λ _. by_test StepRead (begins_markup s) (markup b s) (text_step (run begins_markup 0 s)) (λ _. markup_read b s h) (λ _. text_read (run begins_markup 0 s) (run_chars begins_markup 0 s h)))

at_step : (b : Bool) (name s : List ℕ) (x : Step) → all_scalars s ≡ true → point b name s ≡ x → StepRead x
at_step b name s x h e = subst StepRead e (point_read b name s h)

-- what is left of characters is characters
left : {d : ℕ} {n : List ℕ} {t : Tree many} {b c : Bool} {s r : List ℕ} → Reads d n t b s c r → all_scalars s ≡ true → all_scalars r ≡ true
left (nothing d n b s) h = h
left (a_text d n t b c s r us m e f x) h = left x (scalars_drop m s h)
left (a_comment d n t b c s r m e f x) h = left x (scalars_drop m s h)
left (an_empty d n t b c s r m xs j lt v e f x) h = left x (scalars_drop j s h)
left (an_element d n t u b c e0 s q r m xs j g lt v e f x e' f' y) h = left y (scalars_drop g q (left x (scalars_drop j s h)))

well : {d : ℕ} {n : List ℕ} {t : Tree many} {b c : Bool} {s r : List ℕ} → Reads d n t b s c r → (m : ℕ) → m ≡ most - d → all_scalars s ≡ true → WellRead m many t
well (nothing d n b s) m e h = tt
well (a_text d n t b c s r us k e f x) m i h = (at_step b n s (text us k) h e, well x m i (scalars_drop k s h))
well (a_comment d n t b c s r k e f x) m i h = well x m i (scalars_drop k s h)
well (an_empty d n t b c s r a xs k lt v e f x) m i h =
    let y = at_step b n s (start a xs None k) h e in
    ((omega arith, y.0, y.1, (λ _. refl), tt), well x m i (scalars_drop k s h))
well (an_element d n t u b c e0 s q r a xs k j lt v e f x e' f' y) m i h =
    let z = at_step b n s (start a xs None k) h e in
    ((omega arith, z.0, z.1, (λ w. absurd (let o : true ≡ false = sym w ∙ v in cc)), well x (m - 1) (omega arith) (scalars_drop k s h)), well y m i (scalars_drop j q (left x (scalars_drop k s h))))

pub spelled_well : (t : Tree many) (s : List ℕ) → all_scalars s ≡ true → Spells t s → WellRead most many t
spelled_well t s h x = well x.1 most (omega arith) h
