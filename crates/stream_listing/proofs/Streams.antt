-- All streams that are too long have the same listing. Assumes nothing.
use mathlib.Core.Path.{◌≡◌, sym, ◌∙◌}
use mathlib.Core.List.{List}
use Prim.Native.Nat.{ℕ, ◌<◌}
use lib.ListN.{length}
use Rattle.refusals.specs.declared.Refusal.TheVariants.{FileTooLong}
use Rattle.string_set.specs.Readers.{longest_file}
use Rattle.column_file.proofs.FileRead.{file_long}
use Rattle.column_listing.specs.Listing.{listing_of}
use Rattle.column_listing.proofs.Texts.{refused_listing}

pub long_alike : (s t : List ℕ) → longest_file < length s → longest_file < length t → listing_of s ≡ listing_of t
long_alike s t h k = refused_listing s FileTooLong (file_long s h) ∙ sym (refused_listing t FileTooLong (file_long t k))
