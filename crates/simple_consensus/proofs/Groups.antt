-- Strings by their places as `consensus` treats them, and those of a set that was read. Assumes nothing.
use Rattle.std.specs.Prelude.{Err, Ok}
use Rattle.std.specs.List.{list_all}
use mathlib.Core.Path.{◌≡◌, refl, sym, ◌∙◌, ap}
use mathlib.Core.Bool.{true, false, not, ◌&&◌, and-false}
use mathlib.Core.Logic.{◌⊎◌, inl, inr, ⊎_elim}
use mathlib.Core.List.{List, [], ◌∷◌, map}
use Prim.Native.Nat.{ℕ, suc, min, ◌+◌, ◌-◌, ◌≤◌, ◌<◌}
use native.Mathlib.Nat.{not-suc-le-zero}
use native.Mathlib.Omega.{arith}
use borrow.Author.Tests.{lt-ltb, le-ltb, ltb-true, ltb-false, eqb-true, eqb-false, eq-eqb, ne_eqb}
use lib.Dec.{eqb, ltb}
use lib.Ieee.{nan}
use lib.ListN.{length, take, drop, get_or, length-map, length-take, length-drop}
use lib.Seq.{length-take-le, get_or-take}
use Rattle.words.proofs.Cases.{test, both}
use Rattle.words.specs.Lists.{last_or, byte_at}
use Rattle.refusals.specs.declared.Refusal.{Refusal}
use Rattle.refusals.specs.declared.Refusal.TheVariants.{NoStrings, LengthsDiffer}
use Rattle.refusals.specs.Result.{Result, judged, map_ok}
use Rattle.rate_tables.specs.declared.adjusted.AdjustedEntry.{AdjustedEntry}
use Rattle.rate_tables.specs.Adjusted.{adjusted_tables}
use Rattle.umi_column.specs.Calls.{named_byte}
use Rattle.umi_column.proofs.Columns.{column_builder_lem, column_byte_lem}
use Rattle.umi_rows.specs.Rows.{RowsFit, rows_at, row_columns_at}
use Rattle.umi_verdicts.specs.FamilyVerdicts.{verdict_within, verdict_at}
use Rattle.umi_family.specs.Family.{builder_by, bytes_by, last_by}
use Rattle.umi_groups.specs.Groups.{lengths_alike, entry_at, family_at}
use Rattle.umi_groups.proofs.Groups.{none_empty, some_empty, first_fits, first_found_lem, group_none, group_family, group_first}
use Rattle.umi_groups.proofs.Mapped.{map_refused}
use Rattle.umi_rows.proofs.RowLoops.{every_at, fit_so}
use Rattle.string_set.specs.StringSet.{read_set}
use Rattle.string_set.specs.Places.{places_after}
use Rattle.string_set.proofs.Strings.{string_at}
use Rattle.string_set.proofs.Placed.{Placed, placed}
use Rattle.simple_consensus.specs.declared.caller.SimpleConsensusCaller.{SimpleConsensusCaller}
use Rattle.simple_consensus.specs.Strings.{first_of, columns_of, alike, is_family}
use Rattle.simple_consensus.specs.Verdicts.{family_verdict, consensus_verdict, umis_verdict, call_verdict}
use Rattle.simple_consensus.specs.Consensus.{builder_at, consensus_byte, family_found, first_found, found, consensus_of, umis_of, call_consensus_of}
use Rattle.simple_consensus.specs.Places.{Trimmed, trimmed_at, strings_at, group_by}
use Rattle.simple_consensus.proofs.Rows.{columns_length, columns_same}

-- ---- what holds of each place of a list
abbrev Each : (ℕ → Type 0) → List ℕ → Type 0
Each P [] = Unit {0}
Each P (p ∷ ps) = P p × Each P ps

each : (P : ℕ → Type 0) (ps : List ℕ) → ((k : ℕ) → k < length ps → P (byte_at ps k)) → Each P ps
each P [] g = tt
each P (p ∷ ps) g = (g 0 (omega arith), each P ps (λ k l. g (suc k) (omega arith)))

first-at : (f : ℕ → List ℕ) (ps : List ℕ) → 0 < length ps → first_of (map f ps) ≡ f (byte_at ps 0)
first-at f [] h = absurd (not-suc-le-zero h)
first-at f (p ∷ ps) h = refl

-- ---- strings at places of a list
module _ (trim : ℕ) (s : List ℕ) where
  -- a whole string of at least `trim` bytes is at the place
  abbrev Whole : ℕ → Type 0
  Whole p = (p + 1 + byte_at s p ≤ length s) × (trim ≤ byte_at s p)

  pub trimmed_length : (p : ℕ) → p + 1 + byte_at s p ≤ length s → length (trimmed_at trim s p) ≡ byte_at s p - trim
  unfolding trimmed_at
  trimmed_length p h = length-take-le (byte_at s p - trim) (drop (p + 1) s) (rw (length-drop (p + 1) s) (omega arith))

  -- two strings are of one length where their length bytes are one
  same_length : (p q : ℕ) → Whole p → Whole q → eqb (length (trimmed_at trim s p)) (length (trimmed_at trim s q)) ≡ eqb (byte_at s p) (byte_at s q)
  same_length p q g h =
      rw (trimmed_length p g.0, trimmed_length q h.0)
      (test (eqb (byte_at s p) (byte_at s q))
      (λ t. eq-eqb _ _ (ap (λ (n : ℕ). n - trim) (eqb-true _ _ t)) ∙ sym t)
      (λ t. ne_eqb (byte_at s p - trim) (byte_at s q - trim) (λ e. eqb-false (byte_at s p) (byte_at s q) t (omega (arith, e, g.1, h.1))) ∙ sym t))

  alike_from : (q : ℕ) (ps : List ℕ) → Whole q → Each Whole ps
      → list_all (λ t. eqb (length t) (length (trimmed_at trim s q))) (strings_at trim s ps) ≡ list_all (λ p. eqb (byte_at s p) (byte_at s q)) ps
  alike_from q [] h g = refl
  alike_from q (p ∷ ps) h g = rw (same_length p q g.0 h, alike_from q ps h g.1)

  each_alike : (ps : List ℕ) → Each Whole ps → alike (strings_at trim s ps) ≡ lengths_alike s ps
  unfolding alike
  each_alike [] g = refl
  each_alike (p ∷ ps) g = alike_from p (p ∷ ps) g.0 g

  -- strings with one length byte are rows of one width
  rows_from : (q : ℕ) (ps : List ℕ) → list_all (λ p. eqb (byte_at s p) (byte_at s q)) ps ≡ true → strings_at trim s ps ≡ rows_at (byte_at s q - trim) s ps
  unfolding trimmed_at
  rows_from q [] h = refl
  rows_from q (p ∷ ps) h =
      let k = both (eqb (byte_at s p) (byte_at s q)) (list_all (λ p. eqb (byte_at s p) (byte_at s q)) ps) h in
      rw (eqb-true (byte_at s p) (byte_at s q) k.0, rows_from q ps k.1)

-- ---- the strings at all places
module _ (trim : ℕ) (s ps : List ℕ) (g : Trimmed trim s ps) where
  pub strings_count : length (strings_at trim s ps) ≡ length ps
  strings_count = length-map ps (trimmed_at trim s)

  pub strings_alike : alike (strings_at trim s ps) ≡ lengths_alike s ps
  strings_alike = each_alike trim s ps (each (Whole trim s) ps g.1)

  pub first_string : 0 < length ps → first_of (strings_at trim s ps) ≡ trimmed_at trim s (byte_at ps 0)
  first_string h = first-at (trimmed_at trim s) ps h

  pub first_length : 0 < length ps → length (first_of (strings_at trim s ps)) ≡ byte_at s (byte_at ps 0) - trim
  first_length h = ap (λ (t : List ℕ). length t) (first_string h) ∙ trimmed_length trim s (byte_at ps 0) (g.1 0 h).0

  -- where their length bytes are alike
  module _ (h : 0 < length ps) (same : lengths_alike s ps ≡ true) where
    pub strings_rows : strings_at trim s ps ≡ rows_at (byte_at s (byte_at ps 0) - trim) s ps
    strings_rows = rows_from trim s (byte_at ps 0) ps same

    pub strings_fit : RowsFit (byte_at s (byte_at ps 0) - trim) s ps
    strings_fit = record {
      some = h;
      few = g.0;
      inside = λ k l.
          let e : byte_at s (byte_at ps k) ≡ byte_at s (byte_at ps 0) = eqb-true _ _ (every_at (λ p. eqb (byte_at s p) (byte_at s (byte_at ps 0))) ps k same l) in
          omega (arith, e, (g.1 k l).0);
    }

-- ---- what is said of a list of strings, by cases
module _ (strings : List (List ℕ)) where
  pub is_family_lem : 1 < length strings → alike strings ≡ true → is_family strings ≡ true
  unfolding is_family
  is_family_lem h e = rw (lt-ltb 1 (length strings) h, e)

  pub no_family : ((length strings ≤ 1) ⊎ (alike strings ≡ false)) → is_family strings ≡ false
  unfolding is_family
  no_family = ⊎_elim (λ h. rw (le-ltb 1 (length strings) h)) (λ e. rw e (and-false (ltb 1 (length strings))))

module _ (c : SimpleConsensusCaller) (strings : List (List ℕ)) where
  pub said_family : 1 < length strings → alike strings ≡ true
      → consensus_of c strings ≡ judged (family_verdict (length (first_of strings)) strings) (family_found c (length (first_of strings)) strings)
  unfolding consensus_verdict found
  said_family h e = rw (is_family_lem strings h e)

  pub said_first : ((length strings ≤ 1) ⊎ (alike strings ≡ false)) → consensus_of c strings ≡ Ok (first_found c strings)
  unfolding consensus_verdict found
  said_first h = rw (no_family strings h)

  pub umis_alike : alike strings ≡ true → umis_of c strings ≡ consensus_of c strings
  unfolding umis_verdict
  umis_alike e = rw e

  pub umis_unlike : alike strings ≡ false → umis_of c strings ≡ Err LengthsDiffer
  unfolding umis_verdict
  umis_unlike e = rw e

  pub call_none : length strings ≡ 0 → call_consensus_of c strings ≡ Err NoStrings
  unfolding call_verdict
  call_none h = rw (none_empty strings h)

  pub call_some : 0 < length strings → call_consensus_of c strings ≡ umis_of c strings
  unfolding call_verdict
  call_some h = rw (some_empty strings h)

-- ---- a family's columns by the two entries of the caller's tables at its quality
module _ (c : SimpleConsensusCaller) (entry : AdjustedEntry)
    (right : entry.correct ≡ get_or (adjusted_tables c.error_rate_post_labeling.0).correct (min c.q_error.0 93) nan)
    (wrong : entry.error_per_alt ≡ get_or (adjusted_tables c.error_rate_post_labeling.0).error_per_alt (min c.q_error.0 93) nan) where
  builder_by_lem : (column : List ℕ) → builder_by entry c.builder column ≡ builder_at c column
  builder_by_lem column = rw (right, wrong) (column_builder_lem c.error_rate_post_labeling.0 c.q_error.0 column c.builder)

  byte_by_lem : (column : List ℕ) → named_byte (builder_by entry c.builder column) (byte_at column 0) ≡ consensus_byte c column
  byte_by_lem column =
      rw (builder_by_lem column) (column_byte_lem c.error_rate_pre_labeling.0 c.error_rate_post_labeling.0 c.q_error.0 column c.builder)

  pub bytes_by_lem : (columns : List (List ℕ)) → bytes_by entry c.builder columns ≡ map (consensus_byte c) columns
  bytes_by_lem [] = refl
  bytes_by_lem (column ∷ columns) = λ i. byte_by_lem column i ∷ bytes_by_lem columns i

  builders_by : (columns : List (List ℕ)) → map (builder_by entry c.builder) columns ≡ map (builder_at c) columns
  builders_by [] = refl
  builders_by (column ∷ columns) = λ i. builder_by_lem column i ∷ builders_by columns i

  last_by_lem : (columns : List (List ℕ)) → last_by entry c.builder columns ≡ last_or c.builder (map (builder_at c) columns)
  last_by_lem columns = ap (last_or c.builder) (builders_by columns)

-- its verdict
pub verdict_same : (w : ℕ) (s ps : List ℕ) → RowsFit w s ps → verdict_at w s ps ≡ family_verdict w (rows_at w s ps)
unfolding verdict_at verdict_within family_verdict
verdict_same w s ps fit = rw (fit_so w s ps fit, columns_same w s ps)

-- the answer is as long as the strings
pub found_length_lem : (c : SimpleConsensusCaller) (w : ℕ) (strings : List (List ℕ)) → length (family_found c w strings).text ≡ w
unfolding family_found
found_length_lem c w strings = length-map (columns_of w strings) (consensus_byte c) ∙ columns_length w strings

-- ---- a group as it is run
module _ (c : SimpleConsensusCaller) where
  abbrev entry : AdjustedEntry
  entry = entry_at c.error_rate_post_labeling.0 c.q_error.0

  -- a family whose strings lie in the set
  family_said : (w : ℕ) (s ps : List ℕ) → RowsFit w s ps
      → family_at entry c.builder w s ps ≡ judged (family_verdict w (rows_at w s ps)) (family_found c w (rows_at w s ps))
  unfolding family_at family_found
  family_said w s ps fit = rw (verdict_same w s ps fit, columns_same w s ps, ← bytes_by_lem c entry refl refl (row_columns_at w s ps), ← last_by_lem c entry refl refl (row_columns_at w s ps))

  module _ (trim : ℕ) (s ps : List ℕ) (g : Trimmed trim s ps) where
    abbrev strings : List (List ℕ)
    strings = strings_at trim s ps

    abbrev width : ℕ
    width = byte_at s (byte_at ps 0) - trim

    family_group : 1 < length ps → lengths_alike s ps ≡ true → group_by c trim s ps ≡ consensus_of c strings
    family_group h a =
        let some : 0 < length ps = omega arith in
        let two : 1 < length strings = rw (strings_count trim s ps g) h in
        group_family _ _ _ trim s ps some (rw (lt-ltb 1 (length ps) h, a))
        ∙ family_said width s ps (strings_fit trim s ps g some a)
        ∙ sym (said_family c strings two (strings_alike trim s ps g ∙ a)
        ∙ ap (λ (v : ℕ). judged (family_verdict v strings) (family_found c v strings)) (first_length trim s ps g some)
        ∙ ap (λ (l : List (List ℕ)). judged (family_verdict width l) (family_found c width l)) (strings_rows trim s ps g some a))

    first_group : 0 < length ps → (ltb 1 (length ps) && lengths_alike s ps) ≡ false → (length ps ≤ 1) ⊎ (lengths_alike s ps ≡ false) → group_by c trim s ps ≡ consensus_of c strings
    unfolding first_found trimmed_at
    first_group some h t =
        let j : (length strings ≤ 1) ⊎ (alike strings ≡ false) =
        ⊎_elim (λ l. inl (rw (strings_count trim s ps g) l)) (λ l. inr (strings_alike trim s ps g ∙ l)) t in
        group_first _ _ _ trim s ps some h
        ∙ first_found_lem c.builder (not (lengths_alike s ps)) width s ps (first_fits width s ps some (omega (arith, (g.1 0 some).0)))
        ∙ sym (said_first c strings j ∙ rw (first_string trim s ps g some, strings_alike trim s ps g))

    some_group : 0 < length ps → group_by c trim s ps ≡ consensus_of c strings
    some_group some =
        test (ltb 1 (length ps))
        (λ h. test (lengths_alike s ps) (family_group (ltb-true _ _ h)) (λ a. first_group some (rw (h, a)) (inr a)))
        (λ h. first_group some (rw h) (inl (ltb-false _ _ h)))

-- it is what `consensus` says of its strings
pub group_said : (c : SimpleConsensusCaller) (trim : ℕ) (s ps : List ℕ) → Trimmed trim s ps
    → group_by c trim s ps ≡ consensus_of c (strings_at trim s ps)
unfolding alike first_found
group_said c trim s [] g = group_none _ _ _ trim s [] refl ∙ sym (said_first c [] (inl (omega arith)))
group_said c trim s (p ∷ ps) g = some_group c trim s (p ∷ ps) g (omega arith)

-- ---- the strings of a set that was read
whole_string : (s : List ℕ) (p : ℕ) → string_at s p ≡ trimmed_at 0 s p
unfolding string_at trimmed_at
whole_string s p =
    let e : byte_at s p - 0 ≡ byte_at s p = omega arith in
    rw e

module _ (s ps : List ℕ) where
  map_whole : (qs : List ℕ) → map (string_at s) qs ≡ strings_at 0 s qs
  map_whole [] = refl
  map_whole (q ∷ qs) = rw (whole_string s q, map_whole qs)

  -- the strings are where the first n places say, and none is shortened
  strings_of : (n : ℕ) (t : Result (List (List ℕ))) → Placed s t ps → Ok n ≡ map_ok length t → (t ≡ Ok (strings_at 0 s (take n ps))) × (n ≤ length ps) × Trimmed 0 s (take n ps)
  strings_of n (Err r) h e = absurd cc
  strings_of n (Ok l) h e =
      let same : n ≡ length l = cc in
      let size : length (take n ps) ≡ n = rw same (sym (length-map (take (length l) ps) (string_at s)) ∙ ap (λ (j : List (List ℕ)). length j) h.0) in
      let whole : (k : ℕ) → k < length (take n ps) → byte_at (take n ps) k + 1 + byte_at s (byte_at (take n ps) k) ≤ length s =
      λ k i. rw (get_or-take n ps k 0 (omega arith)) (h.2 k (omega arith)) in
      (ap Ok (sym (sym (map_whole (take n ps)) ∙ (rw same h.0))), omega (arith, sym (length-take n ps) ∙ size), (omega (arith, h.1), λ k i. (whole k i, omega arith)))

  pub read_strings : (n : ℕ) (before : List ℕ) → n ≤ 255 → Ok n ≡ map_ok length (read_set s) → ps ≡ places_after (read_set s) before
      → (read_set s ≡ Ok (strings_at 0 s (take n ps))) × (n ≤ length ps) × Trimmed 0 s (take n ps)
  read_strings n before few e h = strings_of n (read_set s) (placed s n before ps few e h) e

-- and where it is refused
pub read_refused : (s : List ℕ) (r : Refusal) → Err r ≡ map_ok length (read_set s) → read_set s ≡ Err r
read_refused s r e = map_refused length (read_set s) r (sym e)
