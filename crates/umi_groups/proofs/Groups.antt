-- A group by cases: no string, a family, and otherwise the first string. Assumes nothing.
use Rattle.std.specs.Prelude.{Err, Ok}
use mathlib.Core.Path.{◌≡◌, refl, sym, ◌∙◌, ap}
use mathlib.Core.Bool.{Bool, true, false, not, ◌&&◌}
use mathlib.Core.List.{List, [], ◌∷◌, ◌++◌}
use Prim.Native.Nat.{ℕ, ◌+◌, ◌-◌, ◌≤◌, ◌<◌}
use native.Mathlib.Omega.{arith}
use borrow.Author.Tests.{le-leb}
use lib.Dec.{ltb}
use lib.ListN.{length, take, drop, length-map, length-take, length-drop}
use lib.Seq.{length-take-le, get_or-take}
use Rattle.words.proofs.Cases.{test}
use Rattle.words.proofs.Listed.{listed_length}
use Rattle.words.specs.Lists.{byte_at, is_empty}
use Rattle.lent_bytes.specs.Buffer.{written}
use Rattle.refusals.specs.declared.Refusal.{Refusal}
use Rattle.refusals.specs.declared.Refusal.TheVariants.{CutOff, BufferTooShort}
use Rattle.refusals.specs.Result.{judged, and_then, Verdict}
use Rattle.rate_tables.specs.declared.adjusted.AdjustedEntry.{AdjustedEntry}
use Rattle.base_builder.specs.declared.builder.ConsensusBaseBuilder.{ConsensusBaseBuilder}
use Rattle.umi_rows.specs.Rows.{RowsFit, fitting, bytes_at, row_columns_at}
use Rattle.umi_rows.proofs.RowLoops.{fit_so}
use Rattle.umi_verdicts.specs.FamilyVerdicts.{verdict_at}
use Rattle.umi_family.specs.declared.calls.Called.{Called}
use Rattle.umi_family.specs.Family.{bytes_by, text_at, called_at}
use Rattle.umi_groups.specs.Found.{Found, found_by, room_for, found_length}
use Rattle.umi_groups.specs.Groups.{lengths_alike, entry_at, family_at, first_at, group_at}
use Rattle.umi_groups.proofs.Room.{room_short, room_enough}

-- where nothing is refused the strings lie in the set
sound_fits : (w : ℕ) (s ps : List ℕ) → verdict_at w s ps ≡ Ok tt → fitting w s ps ≡ true
unfolding verdict_at
sound_fits w s ps v =
    test (fitting w s ps) (λ h. h) (λ h.
    let free : Err CutOff ≡ Ok tt = rw h at v in
    let z : ◌≡◌ {A = ℕ} 0 1 = cc in
    absurd (omega arith))

pub none_empty : {A : Type 0} (l : List A) → length l ≡ 0 → is_empty l ≡ true
none_empty [] h = refl
none_empty (x ∷ l) h = absurd (omega arith)

pub some_empty : {A : Type 0} (l : List A) → 0 < length l → is_empty l ≡ false
some_empty [] h = absurd (omega arith)
some_empty (x ∷ l) h = refl

-- an empty text leaves a buffer as it is
pub none_written : (out : List ℕ) → out ≡ written [] out
unfolding written
none_written out = rw (le-leb 0 (length out) (omega arith))

-- ---- a family
module _ (e : AdjustedEntry) (b : ConsensusBaseBuilder) (w : ℕ) (s ps : List ℕ) where
  text_length : length (bytes_by e b (row_columns_at w s ps)) ≡ w
  unfolding row_columns_at
  text_length = length-map (row_columns_at w s ps) _ ∙ listed_length (λ k. bytes_at k s ps) 0 w

  module _ (out : List ℕ) where
    pub family_refused : (r : Refusal) → verdict_at w s ps ≡ Err r → and_then (family_at e b w s ps) (room_for out) ≡ Err r
    unfolding family_at
    family_refused r v = rw v

    module _ (v : verdict_at w s ps ≡ Ok tt) where
      pub family_short : length out < w → and_then (family_at e b w s ps) (room_for out) ≡ Err BufferTooShort
      unfolding family_at
      family_short h = rw v (room_short out _ (rw text_length h))

      -- what `call_family` gives with a text of the strings' width, in front of the buffer
      pub family_given : w ≤ length out → (called : Called) → called ≡ called_at e b s ps (take w out) → (after : List ℕ) → after ≡ text_at e b s ps (take w out)
          → (and_then (family_at e b w s ps) (room_for out) ≡ Ok (found_by after called.had_errors called.builder))
          × ((w ≡ length after) × (after ++ drop w out ≡ written after out))
      unfolding family_at called_at text_at written
      family_given h called f after g =
          let size : length (take w out) ≡ w = length-take-le w out h in
          let text : after ≡ bytes_by e b (row_columns_at w s ps) = rw (size, sound_fits w s ps v) at g in
          let long : w ≡ length after = sym (ap (λ (l : List ℕ). length l) text ∙ text_length) in
          (rw (f, text, size, sound_fits w s ps v, v) (room_enough out _ (rw text_length h)), (long, rw (le-leb (length after) (length out) (omega arith), ← long)))

-- ---- the first string alone
module _ (w : ℕ) (s ps : List ℕ) (some : 0 < length ps) where
  pub one_place : (length (take 1 ps) ≡ 1) × (byte_at (take 1 ps) 0 ≡ byte_at ps 0)
  one_place = (length-take-le 1 ps some, get_or-take 1 ps 0 0 (omega arith))

  pub first_length : RowsFit w s (take 1 ps) → length (take w (drop (byte_at ps 0 + 1) s)) ≡ w
  first_length fit =
      let inside : byte_at ps 0 + 1 + w ≤ length s = rw one_place.1 at (fit.inside 0 (omega (arith, one_place.0))) in
      length-take-le w (drop (byte_at ps 0 + 1) s) (rw (length-drop (byte_at ps 0 + 1) s) (omega (arith, inside)))

  pub first_fits : byte_at ps 0 + 1 + w ≤ length s → fitting w s (take 1 ps) ≡ true
  first_fits h =
      let one = one_place.0 in
      fit_so w s (take 1 ps) (record { some = omega arith; few = omega arith; inside = λ k l. let first : k ≡ 0 = omega arith in rw (first, one_place.1) h })

module _ (b : ConsensusBaseBuilder) (flag : Bool) (w : ℕ) (s ps : List ℕ) where
  pub first_found_lem : fitting w s (take 1 ps) ≡ true
      → first_at b flag w s ps ≡ Ok (found_by (take w (drop (byte_at ps 0 + 1) s)) flag b)
  unfolding first_at
  first_found_lem h = rw h

  pub first_cut_off : fitting w s (take 1 ps) ≡ false → first_at b flag w s ps ≡ Err CutOff
  unfolding first_at
  first_cut_off h = rw h

-- ---- any group
judged_few : (n : ℕ) (v : Verdict) (f : Found) → length f.text ≤ n → found_length (judged v f) ≤ n
judged_few n (Ok _) f h = h
judged_few n (Err r) f h = omega arith

module _ (post q : ℕ) (b : ConsensusBaseBuilder) (trim : ℕ) (s ps : List ℕ) where
  abbrev width : ℕ
  width = byte_at s (byte_at ps 0) - trim

  pub group_none : length ps ≡ 0 → group_at post q b trim s ps ≡ Ok (found_by [] false b)
  unfolding group_at
  group_none h = rw (none_empty ps h)

  module _ (some : 0 < length ps) where
    pub group_family : (ltb 1 (length ps) && lengths_alike s ps) ≡ true → group_at post q b trim s ps ≡ family_at (entry_at post q) b width s ps
    unfolding group_at
    group_family h = rw (some_empty ps some, h)

    pub group_first : (ltb 1 (length ps) && lengths_alike s ps) ≡ false → group_at post q b trim s ps ≡ first_at b (not (lengths_alike s ps)) width s ps
    unfolding group_at
    group_first h = rw (some_empty ps some, h)

-- a family's string and the first one are at most as long as a length byte says
module _ (b : ConsensusBaseBuilder) (w : ℕ) (s ps : List ℕ) (few : w ≤ 255) where
  pub family_few : (e : AdjustedEntry) → found_length (family_at e b w s ps) ≤ 255
  unfolding family_at
  family_few e = judged_few 255 (verdict_at w s ps) _ (omega (arith, text_length e b w s ps))

  pub first_few : (flag : Bool) → found_length (first_at b flag w s ps) ≤ 255
  unfolding first_at
  first_few flag = test (fitting w s (take 1 ps)) (λ h. rw h (omega (arith, length-take w (drop (byte_at ps 0 + 1) s)))) (λ h. rw h (omega arith))
