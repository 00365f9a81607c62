-- The premise of reach can be met: everybody has the methods of texts from the start.
use Rattle.std.proofs.Common.{inl, inr, refl}
use Rattle.std.proofs.lemmas.Bool.{false≢true}
use Rattle.rows.specs.Rows as r
use Rattle.cajita_laws.specs.Reach.{HaveTextMethods, from_the_start}

pub everybody_has : HaveTextMethods from_the_start
everybody_has m r.char_at is = inl refl
everybody_has m r.char_code_at is = inr (inl refl)
everybody_has m r.index_of is = inr (inr (inl refl))
everybody_has m r.last_index_of is = inr (inr (inr (inl refl)))
everybody_has m r.slice_text is = inr (inr (inr (inr (inl refl))))
everybody_has m r.substring is = inr (inr (inr (inr (inr (inl refl)))))
everybody_has m r.split is = inr (inr (inr (inr (inr (inr (inl refl))))))
everybody_has m r.concat_text is = inr (inr (inr (inr (inr (inr (inr (inl refl)))))))
everybody_has m f is = absurd (false≢true is)
