-- What is found in strings, and what a function gives of it: the answer with the builder afterwards, and the buffer.
use Rattle.std.specs.Prelude.{ℕ, Bool, List, ltb, length, Err, Ok}
use Rattle.std.specs.Prelude.{if◌then◌else◌}
use Rattle.lent_bytes.specs.Buffer.{written}
use Rattle.refusals.specs.declared.Refusal.TheVariants.{BufferTooShort}
use Rattle.refusals.specs.Result.{Result}
use Rattle.base_builder.specs.declared.builder.ConsensusBaseBuilder.{ConsensusBaseBuilder}
use Rattle.umi_groups.specs.declared.group.Group.{Group}

-- an answer's string, whether a string differs from it, and the caller's builder afterwards
pub record Found : Type 0 where
  pub text : List ℕ
  pub had_errors : Bool
  pub builder : ConsensusBaseBuilder

-- of these parts
abbrev pub found_by : List ℕ → Bool → ConsensusBaseBuilder → Found
found_by text flag b = record { text = text; had_errors = flag; builder = b }

-- 10 comes last: the buffer is shorter than the answer
unfoldable pub room_for : List ℕ → Found → Result Found
room_for out f =
    if ltb (length out) (length f.text) then Err BufferTooShort
    else Ok f

-- how long the string is that was found, 0 for a refusal
abbrev pub found_length : Result Found → ℕ
found_length (Err r) = 0
found_length (Ok f) = length f.text

-- what is given of it beside the string in the buffer
abbrev pub group_of : Found → Group
group_of f = record { builder = f.builder; length = length f.text; had_errors = f.had_errors }

-- the buffer afterwards: a refusal leaves it
abbrev pub buffer_after : List ℕ → Result Found → List ℕ
buffer_after out (Err r) = out
buffer_after out (Ok f) = written f.text out
