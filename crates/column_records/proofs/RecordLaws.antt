-- Records one column at a time, and how long they are. Assumes nothing.
use mathlib.Core.Path.{◌≡◌, refl}
use mathlib.Core.List.{List, [], ◌∷◌, ◌++◌, append_assoc}
use Prim.Native.Nat.{ℕ, ◌-◌, ◌*◌, ◌/◌}
use native.Mathlib.Omega.{arith}
use lib.ListN.{length}
use Rattle.lent_bytes.specs.Bytes.{joined, number_bytes, four_bytes}
use Rattle.lent_bytes.proofs.Joined.{joined_length}
use Rattle.column_file.specs.Format.{Observation}
use Rattle.column_file.specs.Places.{observations_in}
use Rattle.column_calls.specs.declared.columns.ColumnCall.{ColumnCall}
use Rattle.tie_rules.specs.Lanes.{counted}
use Rattle.listing_lines.specs.Lines.{depth_of}
use Rattle.column_records.specs.Records.{record_of, records_with}

-- 28 bytes each
record_length : (c : ColumnCall) (n : ℕ) → length (record_of c n) ≡ 28
unfolding record_of number_bytes
record_length c n = refl

pub records_length : (called : List Observation → ColumnCall) (cs : List (List Observation)) → length (records_with called cs) ≡ 28 * length cs
unfolding records_with
records_length called cs = joined_length _ 28 (λ c. record_length (called c) (length c)) cs

-- four numbers, then what follows
fours : (ns rest : List ℕ) → length ns ≡ 4
    → joined four_bytes ns ++ rest ≡ four_bytes (counted ns 0) ++ (four_bytes (counted ns 1) ++ (four_bytes (counted ns 2) ++ (four_bytes (counted ns 3) ++ rest)))
fours (a ∷ c ∷ g ∷ t ∷ []) rest h = simp append_assoc
fours [] rest h = absurd (omega arith)
fours (a ∷ []) rest h = absurd (omega arith)
fours (a ∷ c ∷ []) rest h = absurd (omega arith)
fours (a ∷ c ∷ g ∷ []) rest h = absurd (omega arith)
fours (a ∷ c ∷ g ∷ t ∷ x ∷ ns) rest h = absurd (omega arith)

-- a record from what is put one after another
pub record_puts : (c : ColumnCall) (n : ℕ) → length c.counts ≡ 4
    → (c.call.base ∷ c.call.qual.0 ∷ 0 ∷ 0 ∷ []) ++ (four_bytes (depth_of c.counts) ++ (joined four_bytes c.counts ++ four_bytes (n - depth_of c.counts))) ≡ record_of c n
unfolding record_of
record_puts c n h = rw (fours c.counts (four_bytes (n - depth_of c.counts)) h)

-- how many observations there are in so many bytes
pub observations_count : (s : List ℕ) → length s / 2 ≡ length (observations_in s)
unfolding observations_in
observations_count [] = refl
observations_count (x ∷ []) = refl
observations_count (x ∷ y ∷ s) = omega (arith, observations_count s)

-- the records of a column and of those after it
pub records_next : (called : List Observation → ColumnCall) (c : List Observation) (rest cs : List (List Observation)) → cs ≡ c ∷ rest
    → records_with called cs ≡ record_of (called c) (length c) ++ records_with called rest
unfolding records_with
records_next called c rest cs e = rw e

pub records_none : (called : List Observation → ColumnCall) (cs : List (List Observation)) → cs ≡ [] → records_with called cs ≡ []
unfolding records_with
records_none called cs e = rw e
