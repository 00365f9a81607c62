-- Sources and sinks over std's readers and writers.
use Rattle.std.specs.Prelude.{ℕ}

-- a source over a reader, and how many of its reads failed
pub record Input (R : Type 0) : Type 0 where
  pub reader : R
  pub faults : ℕ

-- a sink over a writer, how many of its writes failed, and how many took nothing of a piece that isn't empty
pub record Output (W : Type 0) : Type 0 where
  pub writer : W
  pub faults : ℕ
  pub empty_writes : ℕ
