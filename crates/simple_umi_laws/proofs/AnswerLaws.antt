-- What is answered to every list of strings. Assumes nothing.
use Rattle.std.specs.Prelude.{Err, Ok}
use Rattle.std.specs.List.{list_any}
use mathlib.Core.Path.{◌≡◌, refl, sym, ◌∙◌, ap}
use mathlib.Core.Bool.{Bool, true, false, not}
use mathlib.Core.Logic.{inl, inr}
use mathlib.Core.List.{List, [], ◌∷◌, ◌++◌, map}
use Prim.Native.Nat.{ℕ, zero, suc, ◌+◌, ◌<◌}
use native.Mathlib.Nat.{add-zero, zero-add}
use native.Mathlib.Omega.{arith}
use borrow.Author.Tests.{eqb-false, lt-ltb}
use lib.Dec.{ltb, eqb}
use lib.ListN.{length}
use Rattle.words.proofs.Cases.{test, clash}
use Rattle.words.specs.Lists.{last_or, same_bytes, byte_at}
use Rattle.words.proofs.Tests.{any_by_failed}
use Rattle.lent_bytes.proofs.Same.{same_self, same_lengths, same_equal}
use Rattle.refusals.specs.declared.Refusal.{Refusal}
use Rattle.refusals.specs.Result.{Result}
use Rattle.words.specs.Lists.{listed}
use Rattle.words.proofs.Listed.{listed_length, level_at}
use Rattle.base_builder.specs.declared.builder.ConsensusBaseBuilder.{ConsensusBaseBuilder}
use Rattle.base_builder.specs.Builder.{reset_of}
use Rattle.umi_column.specs.Dna.{is_dna_base}
use Rattle.umi_column.proofs.Columns.{column_byte_kind, column_byte_other}
use Rattle.simple_consensus.specs.declared.caller.SimpleConsensusCaller.{SimpleConsensusCaller}
use Rattle.umi_rows.specs.Rows.{differs_from}
use Rattle.simple_consensus.specs.Strings.{first_of, column_of, columns_of, alike, is_family}
use Rattle.umi_groups.specs.Found.{Found}
use Rattle.simple_consensus.specs.Consensus.{with_builder, builder_at, consensus_byte, family_found, first_found, found, consensus_of, umis_of, call_consensus_of}
use Rattle.simple_umi_laws.specs.Laws.{is_base_or_n, builder_after_columns, Answered}
use Rattle.simple_umi_laws.proofs.Resets.{column_start, columns_reset, columns_last}
use Rattle.simple_consensus.proofs.Groups.{said_first, umis_alike, umis_unlike, call_none, call_some}
use Rattle.simple_umi_laws.proofs.ConditionLaws.{one_alike}

-- ---- lists that a rule gives

map_listed : {A B : Type 0} (f : A → B) (g : ℕ → A) (a n : ℕ) → map f (listed g a n) ≡ listed (λ k. f (g k)) a n
unfolding listed
map_listed f g a zero = refl
map_listed {B = B} f g a (suc n) = ap (λ (l : List B). f (g a) ∷ l) (map_listed f g (a + 1) n)

last_listed : {A : Type 0} (x : A) (f : ℕ → A) (a n : ℕ) → last_or x (listed f a (suc n)) ≡ f (a + n)
unfolding listed
last_listed x f a zero = ap f (sym (add-zero a))
last_listed x f a (suc n) =
    let e : a + 1 + n ≡ a + suc n = omega arith in
    last_listed (f a) f (a + 1) n ∙ ap f e

-- ---- what is found

module _ (c : SimpleConsensusCaller) (strings : List (List ℕ)) where
  other_found : is_family strings ≡ false → found c strings ≡ first_found c strings
  unfolding found
  other_found h = rw h

  -- a family's text, by its columns
  family_text : is_family strings ≡ true → (found c strings).text ≡ listed (λ k. consensus_byte c (column_of strings k)) 0 (length (first_of strings))
  unfolding found family_found columns_of
  family_text h = rw h (map_listed (consensus_byte c) (column_of strings) 0 (length (first_of strings)))

  family_builder : is_family strings ≡ true
      → (found c strings).builder ≡ last_or c.builder (listed (λ k. builder_at c (column_of strings k)) 0 (length (first_of strings)))
  unfolding found family_found columns_of
  family_builder h = rw h (ap (last_or c.builder) (map_listed (builder_at c) (column_of strings) 0 (length (first_of strings))))

  family_byte : is_family strings ≡ true → (k : ℕ) → k < length (first_of strings) → byte_at (found c strings).text k ≡ consensus_byte c (column_of strings k)
  family_byte h k l = rw (family_text h) (level_at (λ j. consensus_byte c (column_of strings j)) 0 (length (first_of strings)) k l)

  family_flag : is_family strings ≡ true → (found c strings).had_errors ≡ list_any (differs_from (found c strings).text) strings
  unfolding found family_found
  family_flag h = rw h

-- the first byte of a column is the first string's
column_first : (strings : List (List ℕ)) (k : ℕ) → is_family strings ≡ true → byte_at (column_of strings k) 0 ≡ byte_at (first_of strings) k
unfolding is_family
column_first [] k h = clash refl h
column_first (t ∷ ts) k h = refl

-- a string of another length differs
unlike_differs : (first t : List ℕ) → eqb (length t) (length first) ≡ false → differs_from first t ≡ true
unlike_differs first t h = ap not (same_lengths t first (eqb-false (length t) (length first) h))

-- where there is no family, lengths that differ are the only difference from the first string
other_flag : (strings : List (List ℕ)) → is_family strings ≡ false → not (alike strings) ≡ list_any (differs_from (first_of strings)) strings
unfolding is_family alike
other_flag [] h = refl
other_flag (t ∷ []) h = rw (one_alike t, same_self t)
other_flag (t ∷ u ∷ ts) h =
    let two : ltb 1 (length (t ∷ u ∷ ts)) ≡ true = lt-ltb 1 (length (t ∷ u ∷ ts)) (omega arith) in
    let unlike : alike (t ∷ u ∷ ts) ≡ false = rw two at h in
    rw unlike (sym (any_by_failed (λ x. eqb (length x) (length t)) (differs_from t) (unlike_differs t) (t ∷ u ∷ ts) unlike))

-- one of a list passes the test
any_of : {A : Type 0} (p : A → Bool) (before after : List A) (x : A) → p x ≡ true → list_any p (before ++ (x ∷ after)) ≡ true
any_of p [] after x h = rw h
any_of p (y ∷ before) after x h = test (p y) (λ e. rw e) (λ e. rw e (any_of p before after x h))

-- ---- what is answered

is_accepted : {A : Type 0} → Result A → Bool
is_accepted (Err r) = false
is_accepted (Ok a) = true

pub no_refusal : {A : Type 0} {r : Refusal} {a : A} {B : Type 0} → Err r ≡ Ok a → B
unfolding is_accepted
no_refusal e = clash refl (ap is_accepted e)

module _ (c : SimpleConsensusCaller) where
  -- no strings, or one
  none_said : consensus_of c [] ≡ Ok (record { text = []; had_errors = false; builder = c.builder })
  unfolding alike first_found
  none_said = said_first c [] (inl (omega arith))

  none_umis : umis_of c [] ≡ Ok (record { text = []; had_errors = false; builder = c.builder })
  unfolding alike
  none_umis = umis_alike c [] refl ∙ none_said

  one_said : (t : List ℕ) → consensus_of c (t ∷ []) ≡ Ok (record { text = t; had_errors = false; builder = c.builder })
  unfolding first_found
  one_said t = said_first c (t ∷ []) (inl (omega arith)) ∙ rw (one_alike t)

  all_agree : (strings : List (List ℕ)) (f : Found) → call_consensus_of c strings ≡ Ok f → consensus_of c strings ≡ Ok f
  all_agree [] f e = no_refusal (sym (call_none c [] refl) ∙ e)
  all_agree (t ∷ ts) f e =
      let u : umis_of c (t ∷ ts) ≡ Ok f = sym (call_some c (t ∷ ts) (omega arith)) ∙ e in
      test (alike (t ∷ ts)) (λ h. sym (umis_alike c (t ∷ ts) h) ∙ u) (λ h. no_refusal (sym (umis_unlike c (t ∷ ts) h) ∙ u))

  some_umis : (strings : List (List ℕ)) → (strings ≡ [] → ⊥) → umis_of c strings ≡ call_consensus_of c strings
  some_umis [] n = absurd (n refl)
  some_umis (t ∷ ts) n = sym (call_some c (t ∷ ts) (omega arith))

module _ (c : SimpleConsensusCaller) (strings : List (List ℕ)) where
  abbrev width : ℕ
  width = length (first_of strings)

  all_long : length (found c strings).text ≡ width
  unfolding first_found
  all_long =
      test (is_family strings) (λ h. rw (family_text c strings h) (listed_length (λ k. consensus_byte c (column_of strings k)) 0 width)) (λ h. rw (other_found c strings h))

  all_letters : is_family strings ≡ true → (k : ℕ) → k < width → is_dna_base (byte_at (first_of strings) k) ≡ true
      → is_base_or_n (byte_at (found c strings).text k) ≡ true
  all_letters h k l d =
      let column = column_of strings k in
      rw (family_byte c strings h k l) (column_byte_kind c.error_rate_pre_labeling.0 column (builder_at c column) (ap is_dna_base (column_first strings k h) ∙ d))

  own_bytes : is_family strings ≡ true → (k : ℕ) → k < width → is_dna_base (byte_at (first_of strings) k) ≡ false
      → byte_at (found c strings).text k ≡ byte_at (first_of strings) k
  own_bytes h k l d =
      let column = column_of strings k in
      let first = column_first strings k h in
      family_byte c strings h k l ∙ column_byte_other c.error_rate_pre_labeling.0 column (builder_at c column) (ap is_dna_base first ∙ d) ∙ first

  flags : (found c strings).had_errors ≡ list_any (differs_from (found c strings).text) strings
  unfolding first_found
  flags = test (is_family strings) (family_flag c strings) (λ h. rw (other_found c strings h) (other_flag strings h))

  lower-case : is_family strings ≡ true
      → (before after : List (List ℕ)) (t : List ℕ) → strings ≡ before ++ (t ∷ after)
      → (k : ℕ) → k < width → is_dna_base (byte_at (first_of strings) k) ≡ true → is_base_or_n (byte_at t k) ≡ false → (found c strings).had_errors ≡ true
  lower-case h before after t e k l d n =
      let text = (found c strings).text in
      let differs : differs_from text t ≡ true =
      test (same_bytes t text) (λ s. clash n (rw (same_equal t text s) (all_letters h k l d))) (λ s. ap not s) in
      flags ∙ ap (list_any (differs_from text)) e ∙ any_of (differs_from text) before after t differs

  unequal_first : alike strings ≡ false → consensus_of c strings ≡ Ok (record { text = first_of strings; had_errors = true; builder = c.builder })
  unfolding first_found
  unequal_first h = said_first c strings (inr h) ∙ rw h

  same_builder : is_family strings ≡ false → (found c strings).builder ≡ c.builder
  unfolding first_found
  same_builder h = rw (other_found c strings h)

  last_builder : is_family strings ≡ true → (k : ℕ) → width ≡ suc k → (found c strings).builder ≡ builder_at c (column_of strings k)
  last_builder h k e =
      let f : ℕ → ConsensusBaseBuilder = λ j. builder_at c (column_of strings j) in
      family_builder c strings h ∙ rw e (last_listed c.builder f 0 k ∙ ap f (zero-add k))

  first_builder : is_family strings ≡ true → width ≡ 0 → (found c strings).builder ≡ c.builder
  unfolding listed
  first_builder h e = rw (family_builder c strings h, e)

  all_columns : is_family strings ≡ true → (found c strings).builder ≡ builder_after_columns c (columns_of width strings)
  unfolding found family_found
  all_columns h =
      rw h (sym (columns_last c.error_rate_post_labeling.0 c.q_error.0 (columns_of width strings) c.builder c.builder refl))

module _ (c : SimpleConsensusCaller) where
  -- a column from a builder of the caller's rule and rate
  pub same_start : (b : ConsensusBaseBuilder) (column : List ℕ) → reset_of b ≡ reset_of c.builder → builder_at (with_builder b c) column ≡ builder_at c column
  unfolding with_builder
  same_start b column e = column_start c.error_rate_post_labeling.0 c.q_error.0 column b c.builder e

  after_reset : (columns : List (List ℕ)) → reset_of (builder_after_columns c columns) ≡ reset_of c.builder
  after_reset columns = columns_reset c.error_rate_post_labeling.0 c.q_error.0 columns c.builder

  any_start : (before : List (List ℕ)) (column : List ℕ) → builder_at (with_builder (builder_after_columns c before) c) column ≡ builder_at c column
  any_start before column = same_start (builder_after_columns c before) column (after_reset before)

  pub found_reset : (strings : List (List ℕ)) → reset_of (found c strings).builder ≡ reset_of c.builder
  found_reset strings =
      test (is_family strings)
      (λ h. ap reset_of (all_columns c strings h) ∙ after_reset (columns_of (length (first_of strings)) strings))
      (λ h. ap reset_of (same_builder c strings h))

pub answered : (c : SimpleConsensusCaller) (strings : List (List ℕ)) → Answered c strings
answered c strings = record {
  as_long = all_long c strings;
  letter = all_letters c strings;
  own_byte = own_bytes c strings;
  flag = flags c strings;
  lower-case = lower-case c strings;
  none = λ e. rw e (none_said c);
  one = λ t e.
      let u = umis_alike c (t ∷ []) (one_alike t) ∙ one_said c t in
      rw e (one_said c t, u, call_some c (t ∷ []) (omega arith) ∙ u);
  unequal = unequal_first c strings;
  untouched = same_builder c strings;
  no_column_lem = first_builder c strings;
  last_column = last_builder c strings;
  all_columns = all_columns c strings;
  any_start = any_start c;
  agree = all_agree c strings;
  umis = some_umis c strings;
  umis_none = λ e. rw e (none_umis c);
}
