-- Sources and sinks in memory. The calls of `read` and of `write` are counted from 0, and so are the numbers in `fail`.
use Rattle.std.specs.Prelude.{ℕ, List, ◌++◌, drop, take}
use Rattle.caja_io.specs.Count.{next_count}
use Rattle.caja_io.specs.Sink.{count_empty}

-- a source in memory: what is left, the most bytes that one read gives, the reads that fail, and how many reads were made and failed
pub record Input : Type 0 where
  pub left : List ℕ
  pub piece : ℕ
  pub fail : List ℕ
  pub reads : ℕ
  pub faults : ℕ

-- the source after a read that gave n bytes
abbrev pub after_read : Input → ℕ → Input
after_read source n = record source { left = drop n source.left; reads = next_count source.reads }

-- the source after a read that failed
abbrev pub after_failed_read : Input → Input
after_failed_read source = record source { reads = next_count source.reads; faults = next_count source.faults }

-- a sink in memory: what was written, how many bytes it has room for in all, the most bytes that one write takes, the writes
-- that fail, and how many writes were made, failed, and took nothing of a piece that isn't empty
pub record Output : Type 0 where
  pub written : List ℕ
  pub room : ℕ
  pub piece : ℕ
  pub fail : List ℕ
  pub writes : ℕ
  pub faults : ℕ
  pub empty_writes : ℕ

-- the sink after a write that took the first n bytes of a piece
abbrev pub after_write : Output → List ℕ → ℕ → Output
after_write sink piece n = record sink {
  written = sink.written ++ take n piece;
  writes = next_count sink.writes;
  empty_writes = count_empty sink.empty_writes piece n;
}

-- the sink after a write that failed
abbrev pub after_failed_write : Output → Output
after_failed_write sink = record sink { writes = next_count sink.writes; faults = next_count sink.faults }
