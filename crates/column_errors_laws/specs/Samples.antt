-- Two files of the same columns, none and A, C, N at quality 20: the sample of SCOPE 6.4, and one whose strings the listing refuses.
use Rattle.std.specs.Prelude.{◌≡◌, List, [], ◌∷◌, ◌++◌, ℕ}
use Rattle.refusals.specs.declared.Refusal.TheVariants.{UnlikeFirst}
use Rattle.refusal_text.specs.RefusalText.{refusal_line}
use Rattle.lent_text.specs.Text.{letters, line}
use Rattle.column_listing.specs.Listing.{listing_of}
use Rattle.column_errors.specs.ErrorSums.{error_sums_of}

-- rates 90 and 90, rule 0, two columns
abbrev two_columns : List ℕ
two_columns = 3 ∷ 90 ∷ 90 ∷ 0 ∷ 2 ∷ 0 ∷ 0 ∷ 0 ∷ 3 ∷ 0 ∷ 65 ∷ 20 ∷ 67 ∷ 20 ∷ 78 ∷ 20 ∷ []

-- with the strings AC and AG
abbrev pub sample : List ℕ
sample = two_columns ++ (2 ∷ 2 ∷ 65 ∷ 67 ∷ 2 ∷ 65 ∷ 71 ∷ [])

-- with the strings A and -
abbrev pub unlike : List ℕ
unlike = two_columns ++ (2 ∷ 1 ∷ 65 ∷ 1 ∷ 45 ∷ [])

-- nothing; and three times 2,814,749,767,106, the ignored N included
abbrev pub sample_text : List ℕ
sample_text = line (letters "0" ∷ []) ++ line (letters "8444249301318" ∷ [])

pub record Samples : Type 0 where
  pub sample_sums : error_sums_of sample ≡ sample_text
  -- the listing refuses it by 8
  pub unlike_listed : listing_of unlike ≡ refusal_line UnlikeFirst
  pub unlike_sums : error_sums_of unlike ≡ sample_text
