-- The bytes of a column added from a place on. Assumes nothing.
use mathlib.Core.Path.{◌≡◌}
use mathlib.Core.List.{List}
use Prim.Native.Nat.{ℕ, ◌+◌, ◌≤◌, ◌<◌}
use lib.Ieee.{Float}
use lib.ListN.{length, drop, drop_of_length-le}
use Rattle.words.specs.Lists.{byte_at}
use Rattle.lent_bytes.proofs.Lists.{bytes_from}
use Rattle.base_builder.specs.declared.builder.ConsensusBaseBuilder.{ConsensusBaseBuilder}
use Rattle.base_builder.specs.Builder.{added_by}
use Rattle.umi_column.specs.Calls.{added_all}

module _ (correct error : Float) (column : List ℕ) (i : ℕ) (b : ConsensusBaseBuilder) where
  -- this byte, which gives the builder b', and then the others
  pub added_more : (b' : ConsensusBaseBuilder) → i < length column → b' ≡ added_by correct error (byte_at column i) b →
      added_all correct error (drop (i + 1) column) b' ≡ added_all correct error (drop i column) b
  unfolding added_all
  added_more b' h e = rw (e, bytes_from column i h)

  -- none is left
  pub added_none : length column ≤ i → added_all correct error (drop i column) b ≡ b
  unfolding added_all
  added_none h = rw (drop_of_length-le column h)
