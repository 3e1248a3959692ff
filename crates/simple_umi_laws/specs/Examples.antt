-- Worked inputs at the defaults, in claims that are computed.
use Rattle.std.specs.Prelude.{ℕ, Bool, true, false, ◌&&◌, List, [], ◌∷◌, eqb, replicate, Err, Ok}
use Rattle.std.specs.Bool.{beq}
use Rattle.words.specs.Lists.{is_empty, same_bytes}
use Rattle.refusals.specs.Refusals.{number_of}
use Rattle.refusals.specs.Result.{Result}
use Rattle.string_set.specs.StringSet.{read_set}
use Rattle.umi_groups.specs.Found.{Found}
use Rattle.simple_consensus.specs.Consensus.{default_caller, consensus_of, umis_of, call_consensus_of}
use Rattle.simple_consensus.specs.Answers.{call_consensus_in, consensus_umis_in}
use Rattle.simple_umi.specs.Answers.{consensus_in}

-- this string and this flag
unfoldable pub gives : Result Found → List ℕ → Bool → Bool
gives (Err r) text flag = false
gives (Ok f) text flag = same_bytes f.text text && beq f.had_errors flag

-- the refusal of this number
unfoldable pub refuses : {A : Type 0} → Result A → ℕ → Bool
refuses (Err r) n = eqb (number_of r) n
refuses (Ok a) n = false

-- no strings, and no refusal
unfoldable pub gives_none : Result (List (List ℕ)) → Bool
gives_none (Err r) = false
gives_none (Ok l) = is_empty l

-- `call_consensus`, `consensus_umis` and `consensus`, at the defaults
abbrev pub call : List (List ℕ) → Result Found
call strings = call_consensus_of default_caller strings

abbrev pub umis : List (List ℕ) → Result Found
umis strings = umis_of default_caller strings

abbrev pub consensus : List (List ℕ) → Result Found
consensus strings = consensus_of default_caller strings

-- each of the three
abbrev pub each_gives : List (List ℕ) → List ℕ → Bool → Bool
each_gives strings text flag = gives (call strings) text flag && (gives (umis strings) text flag && gives (consensus strings) text flag)

abbrev pub each_refuses : List (List ℕ) → ℕ → Bool
each_refuses strings n = refuses (call strings) n && (refuses (umis strings) n && refuses (consensus strings) n)

-- "AC" as a set
abbrev pub one_string : List ℕ
one_string = 1 ∷ 2 ∷ 65 ∷ 67 ∷ []

-- "AC" twice
abbrev pub two_strings : List ℕ
two_strings = 2 ∷ 2 ∷ 65 ∷ 67 ∷ 2 ∷ 65 ∷ 67 ∷ []

-- the byte 200 twice
abbrev pub high_strings : List ℕ
high_strings = 2 ∷ 1 ∷ 200 ∷ 1 ∷ 200 ∷ []

-- each input with what is said of it
abbrev pub claims : List Bool
claims =
    -- "ACGT", "ACGA": ACGN, true
    each_gives ((65 ∷ 67 ∷ 71 ∷ 84 ∷ []) ∷ (65 ∷ 67 ∷ 71 ∷ 65 ∷ []) ∷ []) (65 ∷ 67 ∷ 71 ∷ 78 ∷ []) true
    -- "A-T" twice: A-T, false
    ∷ each_gives ((65 ∷ 45 ∷ 84 ∷ []) ∷ (65 ∷ 45 ∷ 84 ∷ []) ∷ []) (65 ∷ 45 ∷ 84 ∷ []) false
    -- "N", "A": A, true
    ∷ each_gives ((78 ∷ []) ∷ (65 ∷ []) ∷ []) (65 ∷ []) true
    -- two empty strings: empty, false
    ∷ each_gives ([] ∷ [] ∷ []) [] false
    -- "acgt" twice: ACGT, true
    ∷ each_gives ((97 ∷ 99 ∷ 103 ∷ 116 ∷ []) ∷ (97 ∷ 99 ∷ 103 ∷ 116 ∷ []) ∷ []) (65 ∷ 67 ∷ 71 ∷ 84 ∷ []) true
    -- no strings: 5 by `call_consensus`, and empty, false by the others
    ∷ refuses (call []) 5
    ∷ gives (umis []) [] false
    ∷ gives (consensus []) [] false
    -- "A", "AC": A, true by `consensus`, and 6 by the others
    ∷ refuses (call ((65 ∷ []) ∷ (65 ∷ 67 ∷ []) ∷ [])) 6
    ∷ refuses (umis ((65 ∷ []) ∷ (65 ∷ 67 ∷ []) ∷ [])) 6
    ∷ gives (consensus ((65 ∷ []) ∷ (65 ∷ 67 ∷ []) ∷ [])) (65 ∷ []) true
    -- the byte 200 twice: 7
    ∷ each_refuses ((200 ∷ []) ∷ (200 ∷ []) ∷ []) 7
    -- "A", "-": 8
    ∷ each_refuses ((65 ∷ []) ∷ (45 ∷ []) ∷ []) 8
    -- "-", "A": 9
    ∷ each_refuses ((45 ∷ []) ∷ (65 ∷ []) ∷ []) 9
    -- "-", "A", "+": 8
    ∷ each_refuses ((45 ∷ []) ∷ (65 ∷ []) ∷ (43 ∷ []) ∷ []) 8
    -- "AC" into 1 byte: 10
    ∷ refuses (call_consensus_in default_caller one_string (0 ∷ [])) 10
    ∷ refuses (consensus_umis_in one_string (0 ∷ [])) 10
    ∷ refuses (consensus_in default_caller one_string (0 ∷ [])) 10
    -- "AC" twice into 1 byte: 10, and into 2 bytes AC, false
    ∷ refuses (call_consensus_in default_caller two_strings (0 ∷ [])) 10
    ∷ refuses (consensus_umis_in two_strings (0 ∷ [])) 10
    ∷ refuses (consensus_in default_caller two_strings (0 ∷ [])) 10
    ∷ gives (consensus_in default_caller two_strings (0 ∷ 0 ∷ [])) (65 ∷ 67 ∷ []) false
    -- the bytes of no strings and of the byte 200 twice: 5 and 7
    ∷ refuses (call_consensus_in default_caller (0 ∷ []) []) 5
    ∷ refuses (call_consensus_in default_caller high_strings (0 ∷ [])) 7
    ∷ refuses (consensus_umis_in high_strings (0 ∷ [])) 7
    ∷ refuses (consensus_in default_caller high_strings (0 ∷ [])) 7
    -- the bytes of a set: 65,537 zeros are too many, and of 65,536 all but the first are left over
    ∷ refuses (read_set (replicate 65537 0)) 1
    ∷ refuses (read_set (replicate 65536 0)) 2
    -- no bytes, a set that is cut off, and one with a byte left over
    ∷ refuses (read_set []) 2
    ∷ refuses (read_set (3 ∷ 90 ∷ [])) 2
    ∷ refuses (read_set (1 ∷ 1 ∷ 65 ∷ 0 ∷ [])) 2
    -- a set of no strings
    ∷ gives_none (read_set (0 ∷ []))
    ∷ []
