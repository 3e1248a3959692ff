-- The settings of a file with the number of columns, by their places. Assumes nothing.
use Rattle.std.specs.Prelude.{Ok}
use mathlib.Core.Path.{◌≡◌}
use mathlib.Core.Bool.{◌&&◌}
use mathlib.Core.List.{List}
use Prim.Native.Nat.{ℕ, ◌+◌, ◌≤◌, ◌<◌}
use native.Mathlib.Omega.{arith}
use borrow.Author.Tests.{ltb-true, ltb-false, leb-true, leb-false, eqb-true}
use lib.Dec.{ltb, leb, eqb}
use lib.ListN.{length, take, drop, length-take, length-drop}
use Rattle.words.proofs.Cases.{test, choice, both}
use Rattle.words.specs.Lists.{byte_at}
use Rattle.refusals.specs.Result.{Result}
use Rattle.string_set.specs.Readers.{taken, short}
use Rattle.string_set.proofs.Readers.{byte-at, byte_end, word_at_lem, word_end, front_at, front-end}
use Rattle.column_file.specs.declared.settings.Settings.{Settings}
use Rattle.column_file.specs.Format.{settings, announced}
use Rattle.column_file.specs.Reading.{settings_of}
use Rattle.column_file.specs.Places.{word_at}

-- ---- the settings and the number of columns

module _ (s : List ℕ) where
  -- the bytes of the settings
  abbrev pub bytes_of : List ℕ
  bytes_of = take (byte_at s 0) (drop 1 s)

  -- reading them
  pub settings_at_lem : 1 + byte_at s 0 ≤ length s → settings s ≡ taken bytes_of (drop (1 + byte_at s 0) s)
  unfolding settings
  settings_at_lem h = rw (byte-at s 0 (omega arith), front_at s 1 (byte_at s 0) h)

  pub settings_cut : length s < 1 + byte_at s 0 → settings s ≡ short
  unfolding settings
  settings_cut h =
      test (ltb 0 (length s))
      (λ t.
      let k : 0 < length s = ltb-true 0 (length s) t in
      rw (byte-at s 0 k, front-end s 1 (byte_at s 0) (omega arith) h))
      (λ t. rw (byte_end s 0 (ltb-false 0 (length s) t)))

  -- with the number of columns
  pub announced_at : 3 + byte_at s 0 ≤ length s → announced s ≡ taken (bytes_of, word_at s (1 + byte_at s 0)) (drop (3 + byte_at s 0) s)
  unfolding announced
  announced_at h =
      let e : 3 + byte_at s 0 ≡ 1 + byte_at s 0 + 2 = omega arith in
      rw (settings_at_lem (omega arith), word_at_lem s (1 + byte_at s 0) (omega arith), e)

  pub announced_cut : length s < 3 + byte_at s 0 → announced s ≡ short
  unfolding announced
  announced_cut h =
      test (leb (1 + byte_at s 0) (length s))
      (λ t. rw (settings_at_lem (leb-true _ _ t), word_end s (1 + byte_at s 0) (omega arith)))
      (λ t. rw (settings_cut (leb-false _ _ t)))

-- ---- the settings themselves

module _ (s : List ℕ) (h : 3 + byte_at s 0 ≤ length s) where
  -- as many as their count says
  pub bytes_length : length (bytes_of s) ≡ byte_at s 0
  bytes_length = simp (length-take, length-drop) (omega arith)

-- accepted settings are three
pub settings_three : (bs : List ℕ) (g : Settings) → settings_of bs ≡ Ok g → length bs ≡ 3
unfolding settings_of
settings_three bs g =
    choice (λ (q : Result Settings). q ≡ Ok g → length bs ≡ 3) (eqb (length bs) 3 && leb (byte_at bs 2) 1) _ _
    (λ t e. eqb-true _ _ (both _ _ t).0)
    (λ t e. absurd (cc))
