-- What stands at a point of a text of HTML.
use Rattle.std.specs.Prelude.{ℕ, suc, ◌+◌, List, [], ◌∷◌, Bool, ◌&&◌, nat_eq, nat_lt, Option, Some, None, length, take, drop, map, position, codes, if◌then◌else◌}
use Rattle.std.specs.List.{prefix_len, starts_with}
use Rattle.caja_units.specs.Units.{same_units}
use Rattle.caja_units.specs.Utf8.{units_of_chars}
use Rattle.html_grammar.specs.Characters.{is_letter, is_word, lower, begins, is, begins_markup}
use Rattle.html_grammar.specs.Tables.{is_in, void, raw}
use Rattle.html_grammar.specs.Runs.{Run, units, unknown_at, run}
use Rattle.html_grammar.specs.Tags.{Attr, Kind, begins_element, begins_void, ends_element, Refusal, open_tag, bad_reference, Fault, Inside, closed, endless, inside}

pub data Step : Type 0 where
  -- so many characters are text of these units
  text : List ℕ → ℕ → Step
  -- so many characters are dropped
  skip : ℕ → Step
  -- so many characters are the tag of an element that begins; and the first fault in it
  start : List ℕ → List Attr → Option Fault → ℕ → Step
  -- so many characters are the tag that ends an element; and the first fault in it
  end : List ℕ → Option Fault → ℕ → Step
  refuse : Refusal → ℕ → Step

-- text up to markup or the end
abbrev pub text_step : Run → Step
text_step (units us n) = text us n
text_step (unknown_at k n) = refuse bad_reference k

abbrev pub start_step : List ℕ → Inside → Step
start_step n (closed xs f k) = start n xs f k
start_step n endless = refuse open_tag 0

-- an attribute in an end tag is a fault at its beginning
abbrev pub end_step : List ℕ → Inside → Step
end_step n (closed xs f k) = end n f k
end_step n endless = refuse open_tag 0

abbrev pub lowered : ℕ → List ℕ → List ℕ
lowered n s = map lower (take n s)

-- s stands behind a `<`
abbrev pub start_kind : List ℕ → Kind
start_kind n = if is_in void n then begins_void else begins_element

abbrev pub start_tag : List ℕ → Step
start_tag s = let n = prefix_len is_word s in start_step (lowered n s) (inside (start_kind (lowered n s)) [] 0 (n + 1) (drop n s))

-- s stands behind a `</`
abbrev pub end_tag : List ℕ → Step
end_tag s =
    let n = prefix_len is_word s in
    if begins is_letter s then end_step (lowered n s) (inside ends_element [] 0 (n + 2) (drop n s)) else refuse open_tag 0

abbrev pub one_more : Option ℕ → Option ℕ
one_more None = None
one_more (Some n) = Some (suc n)

-- how many characters there are up to and with the first `-->`
unfoldable pub comment_end : List ℕ → Option ℕ
comment_end [] = None
comment_end (c ∷ s) = if starts_with nat_eq (c ∷ s) (codes "-->") then Some 3 else one_more (comment_end s)

abbrev pub dropped : ℕ → Option ℕ → Step
dropped k None = refuse open_tag 0
dropped k (Some n) = skip (n + k)

-- s stands behind a `<!`; b: nothing but white space stands before
abbrev pub declaration : Bool → List ℕ → Step
declaration b s =
    if starts_with nat_eq s (codes "--") then dropped 4 (comment_end (drop 2 s))
    else if b && same_units (lowered 7 s) (codes "doctype") then dropped 3 (position (is 62) s)
    else refuse open_tag 0

-- whether the tag that ends an element of this name begins here, or one whose name begins so
abbrev pub begins_end : List ℕ → List ℕ → Bool
begins_end name s = starts_with nat_eq s (codes "</") && same_units (map lower (take (length name) (drop 2 s))) name

-- how many characters there are before the end of raw content
unfoldable pub raw_len : List ℕ → List ℕ → ℕ
raw_len name [] = 0
raw_len name (c ∷ s) = if begins_end name (c ∷ s) then 0 else suc (raw_len name s)

-- how much of what stands here is raw, within an element of this name
abbrev pub raw_here : List ℕ → List ℕ → ℕ
raw_here name s = if is_in raw name then raw_len name s else 0

-- s begins with a `<` that is markup
abbrev pub markup : Bool → List ℕ → Step
markup b s =
    if begins (is 47) (drop 1 s) then end_tag (drop 2 s)
    else if begins (is 33) (drop 1 s) then declaration b (drop 2 s)
    else start_tag (drop 1 s)

-- b: nothing but white space stands before; name: that of the innermost open element, and none
unfoldable pub point : Bool → List ℕ → List ℕ → Step
point b name s =
    let n = raw_here name s in
    if nat_lt 0 n then text (units_of_chars (take n s)) n
    else if begins_markup s then markup b s
    else text_step (run begins_markup 0 s)
