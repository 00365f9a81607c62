-- Four units more that a hash is fed.
use Rattle.std.proofs.Common.{◌≡◌, ℕ, suc, ◌+◌, ◌*◌, List, fold, arith}
use Rattle.std.specs.Hash.{fed_then, u64}
use Rattle.text_storage.specs.Number.{word, words}

-- t is the state after the first n numbers, and u the state after one more
pub words-more : {S : Type 0} (write : S → List ℕ → S) (s t u : S) (us : List ℕ) (n : ℕ) → t ≡ fold write s (words n us) → u ≡ fold write t (u64 (word us (n * 4))) → u ≡ fold write s (words (n + 1) us)
words-more write s t u us n p q = let next : n + 1 ≡ suc n = omega arith in rw next (fed_then write s t u (words n us) (u64 (word us (n * 4))) p q)
