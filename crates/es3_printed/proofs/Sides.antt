-- Neighbours in printed tokens: what stands right behind what, in the tokens of any tree.
use Rattle.std.proofs.Common.{◌≡◌, ℕ, Bool, true, false, List, [], ◌∷◌, ◌++◌, refl, ap, ◌∙◌, nat_lt, nat_eq}
use Rattle.std.specs.Prelude.{not, ◌&&◌, if◌then◌else◌}
use Rattle.std.specs.List.{list_any}
use Rattle.std.proofs.lemmas.Bool.{and_parts, and_from, or_parts, not-true}
use Rattle.es3_tree.specs.Token.{Token, name, word, punct, num, text}

-- what stands before a token: where an operand is wanted, a point, a number, or another end of an operand
pub data Behind : Type 0 where
  an_operator a_point a_number an_end : Behind

abbrev pub is_among : List ℕ → ℕ → Bool
is_among ns n = list_any (nat_eq n) ns

-- `this`, `null`, `true` and `false`; `)`, `]`, `}`, `++` and `--`
abbrev pub is_value : ℕ → Bool
is_value n = is_among (17 ∷ 56 ∷ 57 ∷ 58 ∷ []) n

abbrev pub is_closer : ℕ → Bool
is_closer n = is_among (1 ∷ 3 ∷ 5 ∷ 21 ∷ 22 ∷ []) n

abbrev pub after : Token → Behind
after (name us) = an_end
after (word n) = if is_value n then an_end else an_operator
after (punct n) = if nat_eq n 6 then a_point else if is_closer n then an_end else an_operator
after (num n) = a_number
after (text us) = an_end

-- the punctuators that stand only behind an operand: the point, and each operator between two parts that is no prefix too
abbrev pub only_joins : ℕ → Bool
only_joins n =
    is_among (6 ∷ 9 ∷ 10 ∷ 11 ∷ 12 ∷ 13 ∷ 14 ∷ 15 ∷ 16 ∷ 19 ∷ 20 ∷ 23 ∷ 24 ∷ 25 ∷ 26 ∷ 27 ∷ 28 ∷ 31 ∷ 32
    ∷ 35 ∷ 36 ∷ 37 ∷ 38 ∷ 39 ∷ 40 ∷ 41 ∷ 42 ∷ 43 ∷ 44 ∷ 45 ∷ 46 ∷ 47 ∷ []) n

abbrev pub is_settled : Behind → Bool
is_settled an_operator = true
is_settled a_point = false
is_settled a_number = true
is_settled an_end = true

-- behind a point stands a name, behind a number no point
abbrev pub may_punct : Behind → ℕ → Bool
may_punct an_operator n = not (only_joins n)
may_punct a_point n = false
may_punct a_number n = not (nat_eq n 6)
may_punct an_end n = true

-- whether this token may stand there; words and punctuators are of the two tables
abbrev pub may : Behind → Token → Bool
may a (name us) = true
may a (word n) = nat_lt n 59 && is_settled a
may a (punct n) = nat_lt n 48 && may_punct a n
may a (num n) = is_settled a
may a (text us) = is_settled a

abbrev pub sides : Behind → List Token → Bool
sides a [] = true
sides a (t ∷ ts) = may a t && sides (after t) ts

abbrev pub end_of : Behind → List Token → Behind
end_of a [] = a
end_of a (t ∷ ts) = end_of (after t) ts

pub sides-append : (u v : List Token) (a : Behind) → sides a u ≡ true → sides (end_of a u) v ≡ true → sides a (u ++ v) ≡ true
sides-append [] v a h g = g
sides-append (t ∷ u) v a h g =
    let p = and_parts (may a t) (sides (after t) u) h in
    and_from (may a t) (sides (after t) (u ++ v)) p.0 (sides-append u v (after t) p.1 g)

pub end_of-append : (u v : List Token) (a : Behind) → end_of a (u ++ v) ≡ end_of (end_of a u) v
end_of-append [] v a = refl
end_of-append (t ∷ u) v a = end_of-append u v (after t)

-- what may stand where an operand is wanted may stand anywhere but behind a point

may_punct-settled : (a : Behind) (n : ℕ) → is_settled a ≡ true → not (only_joins n) ≡ true → may_punct a n ≡ true
may_punct-settled an_operator n s h = h
may_punct-settled a_point n s h = s
may_punct-settled a_number n s h = ap not (or_parts (nat_eq n 6) _ (not-true (only_joins n) h)).0
may_punct-settled an_end n s h = refl

may-settled : (a : Behind) (t : Token) → is_settled a ≡ true → may an_operator t ≡ true → may a t ≡ true
may-settled a (name us) s h = refl
may-settled a (word n) s h = let p = and_parts (nat_lt n 59) true h in and_from (nat_lt n 59) (is_settled a) p.0 s
may-settled a (punct n) s h = let p = and_parts (nat_lt n 48) (not (only_joins n)) h in and_from (nat_lt n 48) (may_punct a n) p.0 (may_punct-settled a n s p.1)
may-settled a (num n) s h = s
may-settled a (text us) s h = s

pub sides-settled : (a : Behind) (ts : List Token) → is_settled a ≡ true → sides an_operator ts ≡ true → sides a ts ≡ true
sides-settled a [] s h = refl
sides-settled a (t ∷ ts) s h =
    let p = and_parts (may an_operator t) (sides (after t) ts) h in
    and_from (may a t) (sides (after t) ts) (may-settled a t s p.0) p.1

-- tokens that may stand where an operand is wanted, and don't end in a point
pub record IsCalm (ts : List Token) : Type 0 where
  pub beside : sides an_operator ts ≡ true
  pub end : is_settled (end_of an_operator ts) ≡ true

-- whether something ends an operand there; n: a number may end it
abbrev pub ends : Bool → Behind → Bool
ends n an_operator = false
ends n a_point = false
ends n a_number = n
ends n an_end = true

-- tokens that end an operand, too
pub record IsOperand (n : Bool) (ts : List Token) : Type 0 where
  pub beside : sides an_operator ts ≡ true
  pub end : ends n (end_of an_operator ts) ≡ true

ends-settled : (n : Bool) (a : Behind) → ends n a ≡ true → is_settled a ≡ true
ends-settled n an_operator h = absurd cc
ends-settled n a_point h = absurd cc
ends-settled n a_number h = refl
ends-settled n an_end h = refl

pub any_end : {n : Bool} {ts : List Token} → IsOperand n ts → IsOperand true ts
any_end {n} {ts} h = record { beside = h.beside; end = ends-any n (end_of an_operator ts) h.end }
  where
    ends-any : (n : Bool) (a : Behind) → ends n a ≡ true → ends true a ≡ true
    ends-any n an_operator h = absurd cc
    ends-any n a_point h = absurd cc
    ends-any n a_number h = refl
    ends-any n an_end h = refl

pub calm : {n : Bool} {ts : List Token} → IsOperand n ts → IsCalm ts
calm {n} {ts} h = record { beside = h.beside; end = ends-settled n (end_of an_operator ts) h.end }

pub end_of-settled : (a : Behind) (ts : List Token) → is_settled a ≡ true → is_settled (end_of an_operator ts) ≡ true → is_settled (end_of a ts) ≡ true
end_of-settled a [] s h = s
end_of-settled a (t ∷ ts) s h = h

pub end_of-operand : (n : Bool) (a : Behind) (ts : List Token) → ends n (end_of an_operator ts) ≡ true → ends n (end_of a ts) ≡ true
end_of-operand n a [] h = absurd cc
end_of-operand n a (t ∷ ts) h = h

-- one after another

pub chain : {u v : List Token} → IsCalm u → IsCalm v → IsCalm (u ++ v)
chain {u} {v} p q = record {
  beside = sides-append u v an_operator p.beside (sides-settled (end_of an_operator u) v p.end q.beside);
  end = ap is_settled (end_of-append u v an_operator) ∙ end_of-settled (end_of an_operator u) v p.end q.end;
}

pub chain_end : {n : Bool} {u v : List Token} → IsCalm u → IsOperand n v → IsOperand n (u ++ v)
chain_end {n} {u} {v} p q = record {
  beside = sides-append u v an_operator p.beside (sides-settled (end_of an_operator u) v p.end q.beside);
  end = ap (ends n) (end_of-append u v an_operator) ∙ end_of-operand n (end_of an_operator u) v q.end;
}

pub nothing : IsCalm []
nothing = record { beside = refl; end = refl }

pub only : (t : Token) → may an_operator t ≡ true → is_settled (after t) ≡ true → IsCalm (t ∷ [])
only t m s = record { beside = and_from (may an_operator t) true m refl; end = s }

pub last : (n : Bool) (t : Token) → may an_operator t ≡ true → ends n (after t) ≡ true → IsOperand n (t ∷ [])
last n t m s = record { beside = and_from (may an_operator t) true m refl; end = s }

pub put : (t : Token) {ts : List Token} → may an_operator t ≡ true → is_settled (after t) ≡ true → IsCalm ts → IsCalm (t ∷ ts)
put t m s h = chain (only t m s) h

pub put_end : (t : Token) {n : Bool} {ts : List Token} → may an_operator t ≡ true → is_settled (after t) ≡ true → IsOperand n ts → IsOperand n (t ∷ ts)
put_end t m s h = chain_end (only t m s) h
