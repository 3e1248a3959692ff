-- What holds of every list of strings.
use Rattle.std.specs.List.{list_any}
use Rattle.std.specs.Prelude.{◌≡◌, Bool, true, false, ◌||◌, List, [], ◌∷◌, ◌++◌, ℕ, suc, ◌<◌, eqb, length, Err, Ok}
use Rattle.words.specs.Lists.{byte_at}
use Rattle.refusals.specs.declared.Refusal.{Refusal}
use Rattle.refusals.specs.declared.Refusal.TheVariants.{NoStrings, LengthsDiffer, NotAscii, BufferTooShort}
use Rattle.rate_tables.specs.Adjusted.{adjusted_tables}
use Rattle.base_builder.specs.declared.builder.ConsensusBaseBuilder.{ConsensusBaseBuilder}
use Rattle.base_builder_laws.specs.GoodCalls.{is_called_base}
use Rattle.base_builder.specs.History.{Event, run}
use Rattle.umi_column.specs.Dna.{is_dna_base}
use Rattle.umi_column.specs.Verdicts.{verdict_of}
use Rattle.umi_column.specs.Calls.{column_events}
use Rattle.simple_consensus.specs.declared.caller.SimpleConsensusCaller.{SimpleConsensusCaller}
use Rattle.umi_rows.specs.Rows.{is_high, differs_from}
use Rattle.simple_consensus.specs.Strings.{first_of, column_of, columns_of, alike, is_family}
use Rattle.simple_consensus.specs.Verdicts.{consensus_verdict, umis_verdict, call_verdict}
use Rattle.umi_groups.specs.Found.{Found}
use Rattle.simple_consensus.specs.Consensus.{with_builder, builder_at, found, consensus_of, umis_of, call_consensus_of}
use Rattle.umi_groups.specs.Found.{room_for}

-- ---- what is refused

-- the column is not refused
abbrev pub sound : List ℕ → Type 0
sound column = verdict_of column ≡ Ok tt

pub record StringConditions (strings : List (List ℕ)) : Type 0 where
  -- 5: no strings, which only `call_consensus` refuses
  pub none : strings ≡ [] → (call_verdict strings ≡ Err NoStrings) × (umis_verdict strings ≡ Ok tt) × (consensus_verdict strings ≡ Ok tt)
  -- 6: unequal lengths, which `consensus` does not refuse
  pub unequal : alike strings ≡ false
      → (call_verdict strings ≡ Err LengthsDiffer) × (umis_verdict strings ≡ Err LengthsDiffer) × (consensus_verdict strings ≡ Ok tt)
  -- 7 to 9 apply to two or more strings of equal length, and there all three agree
  pub single : (t : List ℕ) → strings ≡ t ∷ [] → call_verdict strings ≡ Ok tt
  pub family : is_family strings ≡ true → (call_verdict strings ≡ consensus_verdict strings) × (umis_verdict strings ≡ consensus_verdict strings)
  -- 7: a byte of 128 or more in any of them comes before 8 and 9
  pub high : is_family strings ≡ true → list_any (list_any is_high) strings ≡ true → consensus_verdict strings ≡ Err NotAscii
  -- 8 and 9: the first faulty column decides
  pub column : is_family strings ≡ true
      → list_any (list_any is_high) strings ≡ false
      → (k : ℕ) (r : Refusal)
      → k < length (first_of strings)
      → ((j : ℕ) → j < k → sound (column_of strings j))
      → verdict_of (column_of strings k) ≡ Err r
      → consensus_verdict strings ≡ Err r
  -- and where there is none, the family is accepted
  pub fine : is_family strings ≡ true
      → list_any (list_any is_high) strings ≡ false
      → ((j : ℕ) → j < length (first_of strings) → sound (column_of strings j))
      → consensus_verdict strings ≡ Ok tt

-- 10 comes last: a buffer that is shorter than the answer, and no other
pub record AnswerRoom (out : List ℕ) (f : Found) : Type 0 where
  pub short : length out < length f.text → room_for out f ≡ Err BufferTooShort
  pub enough : (length out < length f.text → ⊥) → room_for out f ≡ Ok f

-- ---- what is answered

-- A, C, G, T or N
abbrev pub is_base_or_n : ℕ → Bool
is_base_or_n x = is_called_base x || eqb x 78

-- what happens to the builder at columns, one after another
abbrev pub all_events : ℕ → List (List ℕ) → List Event
all_events q [] = []
all_events q (column ∷ columns) = column_events q column ++ all_events q columns

-- the caller's builder after them
abbrev pub builder_after_columns : SimpleConsensusCaller → List (List ℕ) → ConsensusBaseBuilder
builder_after_columns c columns = run (adjusted_tables c.error_rate_post_labeling.0) (all_events c.q_error.0 columns) c.builder

pub record Answered (c : SimpleConsensusCaller) (strings : List (List ℕ)) : Type 0 where
  -- the answer is as long as the first string, and empty where there is none
  pub as_long : length (found c strings).text ≡ length (first_of strings)
  -- of a family, each place holds A, C, G, T or N, or the column's own byte where that is no DNA
  pub letter : is_family strings ≡ true
      → (k : ℕ) → k < length (first_of strings) → is_dna_base (byte_at (first_of strings) k) ≡ true → is_base_or_n (byte_at (found c strings).text k) ≡ true
  pub own_byte : is_family strings ≡ true
      → (k : ℕ) → k < length (first_of strings) → is_dna_base (byte_at (first_of strings) k) ≡ false → byte_at (found c strings).text k ≡ byte_at (first_of strings) k
  -- the flag says whether a string differs from the answer
  pub flag : (found c strings).had_errors ≡ list_any (differs_from (found c strings).text) strings
  -- lower case gives upper case, by `letter`, and then the flag is true: so it is of any byte of any string that is none of A, C, G, T and N where `letter` applies
  pub lower-case : is_family strings ≡ true
      → (before after : List (List ℕ)) (t : List ℕ) → strings ≡ before ++ (t ∷ after)
      → (k : ℕ) → k < length (first_of strings) → is_dna_base (byte_at (first_of strings) k) ≡ true → is_base_or_n (byte_at t k) ≡ false
      → (found c strings).had_errors ≡ true
  -- no strings: an empty answer, no error
  pub none : strings ≡ [] → consensus_of c strings ≡ Ok (record { text = []; had_errors = false; builder = c.builder })
  -- one string comes back unchanged, whatever its bytes, from each of the three
  pub one : (t : List ℕ) → strings ≡ t ∷ []
      → let f : Found = record { text = t; had_errors = false; builder = c.builder } in
      (consensus_of c strings ≡ Ok f) × (umis_of c strings ≡ Ok f) × (call_consensus_of c strings ≡ Ok f)
  -- unequal lengths give the first string, and an error
  pub unequal : alike strings ≡ false → consensus_of c strings ≡ Ok (record { text = first_of strings; had_errors = true; builder = c.builder })
  -- the builder stays as it was but for a family of non-empty strings, whose last column leaves it
  pub untouched : is_family strings ≡ false → (found c strings).builder ≡ c.builder
  pub no_column_lem : is_family strings ≡ true → length (first_of strings) ≡ 0 → (found c strings).builder ≡ c.builder
  pub last_column : is_family strings ≡ true
      → (k : ℕ) → length (first_of strings) ≡ suc k → (found c strings).builder ≡ builder_at c (column_of strings k)
  -- which is what all columns leave, one after another on one builder, as the source runs them
  pub all_columns : is_family strings ≡ true → (found c strings).builder ≡ builder_after_columns c (columns_of (length (first_of strings)) strings)
  -- since a column starts with a reset, which keeps the rule and the rate alone: what it leaves does not depend on the columns before it
  pub any_start : (before : List (List ℕ)) (column : List ℕ) → builder_at (with_builder (builder_after_columns c before) c) column ≡ builder_at c column
  -- where `call_consensus` accepts, `consensus` gives the same
  pub agree : (f : Found) → call_consensus_of c strings ≡ Ok f → consensus_of c strings ≡ Ok f
  -- `consensus_umis`, which is `umis_of` at the defaults, is `call_consensus` but for no strings
  pub umis : (strings ≡ [] → ⊥) → umis_of c strings ≡ call_consensus_of c strings
  pub umis_none : strings ≡ [] → umis_of c strings ≡ Ok (record { text = []; had_errors = false; builder = c.builder })
