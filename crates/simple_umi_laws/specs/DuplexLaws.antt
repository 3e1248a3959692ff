-- What holds of the strings of two strands.
use Rattle.std.specs.Prelude.{◌≡◌, true, false, List, [], ◌∷◌, ◌++◌, ℕ, suc, length, Err, Ok}
use Rattle.refusals.specs.declared.Refusal.{Refusal}
use Rattle.simple_consensus.specs.declared.caller.SimpleConsensusCaller.{SimpleConsensusCaller}
use Rattle.simple_consensus.specs.Strings.{first_of, column_of, is_family}
use Rattle.umi_groups.specs.Found.{Found}
use Rattle.simple_consensus.specs.Consensus.{with_builder, builder_at, consensus_of}
use Rattle.simple_umi.specs.Duplex.{FoundDuplex, ends_in, strand_of, duplex_of, pairing}

-- which strings a strand has
pub record Strand (letter : ℕ) : Type 0 where
  -- one that does not end in / and the letter is dropped, wherever it stands
  pub dropped : (ts us : List (List ℕ)) (t : List ℕ) → ends_in letter t ≡ false → strand_of letter (ts ++ (t ∷ us)) ≡ strand_of letter (ts ++ us)
  -- one that does is there without these two bytes
  pub trimmed : (ts us : List (List ℕ)) (t : List ℕ) → strand_of letter (ts ++ ((t ++ (47 ∷ letter ∷ [])) ∷ us)) ≡ strand_of letter ts ++ (t ∷ strand_of letter us)

-- no family of non-empty strings, so no column is called
abbrev pub no_column : List (List ℕ) → Type 0
no_column strings = is_family strings ≡ true → length (first_of strings) ≡ 0

pub record Duplex (c : SimpleConsensusCaller) (strings : List (List ℕ)) : Type 0 where
  -- /A is treated as `consensus` treats a set, and its refusal comes first
  pub a_refused : (r : Refusal) → consensus_of c (strand_of 65 strings) ≡ Err r → duplex_of c strings ≡ Err r
  -- then /B is, by the caller as /A leaves it, and its refusal counts whatever /A's string is
  pub b_refused : (a : Found) → consensus_of c (strand_of 65 strings) ≡ Ok a
      → (r : Refusal) → consensus_of (with_builder a.builder c) (strand_of 66 strings) ≡ Err r → duplex_of c strings ≡ Err r
  -- where neither is refused: /A's string
  pub a_string : (a : Found) → consensus_of c (strand_of 65 strings) ≡ Ok a
      → (b : Found) → consensus_of (with_builder a.builder c) (strand_of 66 strings) ≡ Ok b
      → (a.text ≡ [] → ⊥) → duplex_of c strings ≡ Ok (pairing a b a.text)
  -- or, where that is empty, /B's, with the flag of each
  pub b_string : (a : Found) → consensus_of c (strand_of 65 strings) ≡ Ok a
      → (b : Found) → consensus_of (with_builder a.builder c) (strand_of 66 strings) ≡ Ok b
      → a.text ≡ [] → duplex_of c strings ≡ Ok (pairing a b b.text)
  -- as it is where no string ends in /A
  pub no_a : strand_of 65 strings ≡ [] → (b : Found) → consensus_of c (strand_of 66 strings) ≡ Ok b
      → duplex_of c strings ≡ Ok (record { found = record { text = b.text; had_errors = false; builder = b.builder }; had_errors_b = b.had_errors })
  -- no string of either: an empty answer, no error, and the builder as it was
  pub neither : strand_of 65 strings ≡ [] → strand_of 66 strings ≡ []
      → duplex_of c strings ≡ Ok (record { found = record { text = []; had_errors = false; builder = c.builder }; had_errors_b = false })
  -- the builder after an accepted call: as the last column of /B leaves it, from the caller's own builder since a column starts with a reset
  pub b_builder : (d : FoundDuplex) → duplex_of c strings ≡ Ok d → is_family (strand_of 66 strings) ≡ true
      → (k : ℕ) → length (first_of (strand_of 66 strings)) ≡ suc k → d.found.builder ≡ builder_at c (column_of (strand_of 66 strings) k)
  -- where /B has no column, as the last one of /A does
  pub a_builder : (d : FoundDuplex) → duplex_of c strings ≡ Ok d → no_column (strand_of 66 strings) → is_family (strand_of 65 strings) ≡ true
      → (k : ℕ) → length (first_of (strand_of 65 strings)) ≡ suc k → d.found.builder ≡ builder_at c (column_of (strand_of 65 strings) k)
  -- and where neither has one, as it was
  pub same_builder : (d : FoundDuplex) → duplex_of c strings ≡ Ok d → no_column (strand_of 66 strings) → no_column (strand_of 65 strings)
      → d.found.builder ≡ c.builder
