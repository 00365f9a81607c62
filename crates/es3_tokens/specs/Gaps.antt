-- What stands between tokens: white space, line terminators and comments (ES3 7.2 to 7.4).
use Rattle.std.specs.Prelude.{ℕ, suc, List, [], ◌∷◌, Bool, true, false, ◌&&◌, not, nat_eq, Option, Some, None, length, drop, if◌then◌else◌}
use Rattle.std.specs.List.{list_all, list_any}
use Rattle.es3_tokens.specs.Characters.{is_white, is_line, is_slash, is_star, begins, is_empty}

abbrev pub one_more : Option ℕ → Option ℕ
one_more None = None
one_more (Some n) = Some (suc n)

-- how many characters there are up to and with the first `*/`
unfoldable pub comment_end : List ℕ → Option ℕ
comment_end [] = None
comment_end (c ∷ s) = if is_star c && begins is_slash s then Some 2 else one_more (comment_end s)

abbrev pub is_count : ℕ → Option ℕ → Bool
is_count n None = false
is_count n (Some m) = nat_eq n m

abbrev pub not_line : ℕ → Bool
not_line c = not (is_line c)

-- 7.4: behind a `/`, all that is left of a comment: `/` and no line terminator, or `*` and a first `*/` at the very end
abbrev pub is_comment : List ℕ → Bool
is_comment s =
    if begins is_slash s then list_all not_line s
    else begins is_star s && is_count (length (drop 1 s)) (comment_end (drop 1 s))

-- whether there is a line terminator in these characters, where all of them are one gap
abbrev pub gap : List ℕ → Option Bool
gap [] = None
gap (c ∷ s) =
    if is_white c then (if is_empty s then Some false else None)
    else if is_line c then (if is_empty s then Some true else None)
    else if is_slash c && is_comment s then Some (list_any is_line s)
    else None
