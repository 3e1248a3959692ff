-- The reply of a listing, or of records, in one number.
use Rattle.std.specs.Prelude.{ℕ, ◌+◌, List, length, Err, Ok}
use Rattle.refusals.specs.Refusals.{number_of}
use Rattle.refusals.specs.Result.{Result}

-- the number of a refusal, or the length of what is written, above every refusal's number
abbrev pub listing_reply : Result (List ℕ) → ℕ
listing_reply (Err r) = number_of r
listing_reply (Ok t) = 256 + length t

-- the same of a length
abbrev pub length_reply : Result ℕ → ℕ
length_reply (Err r) = number_of r
length_reply (Ok n) = 256 + n
