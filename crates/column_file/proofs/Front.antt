-- A count, a column and the settings off the front of bytes. Assumes nothing.
use Rattle.std.specs.Prelude.{Option, Some, None, Err, Ok, if◌then◌else◌}
use Rattle.std.specs.Option.{MatchOption, ok_or}
use Rattle.std.specs.Result.{result_and}
use Rattle.std.specs.List.{IsSplitAt}
use Rattle.std.specs.Int.{from_le_bytes, w16}
use Rattle.std.proofs.lemmas.List.{length-take-le}
use Rattle.std.specs.Simd.{first_chunks}
use mathlib.Core.Path.{◌≡◌, refl, sym, ◌∙◌, ap}
use mathlib.Core.Bool.{Bool, true, false, ◌||◌}
use mathlib.Core.List.{List, [], ◌∷◌, ◌++◌}
use Prim.Native.Nat.{ℕ, zero, suc, ◌+◌, ◌-◌, ◌*◌, ◌/◌, ◌≤◌, ◌<◌}
use native.Mathlib.Nat.{zero-add}
use native.Mathlib.Omega.{arith}
use denote.Ref.{Bor}
use borrow.Author.Tests.{leb-true, leb-false, le-leb, lt-leb, ne_eqb}
use lib.Dec.{leb, eqb}
use lib.ListN.{length, take, drop, get_or, length-drop, take-append-drop}
use lib.Seq.{get_or-take, drop-drop}
use Rattle.words.proofs.Cases.{test}
use Rattle.words.specs.Lists.{byte_at}
use Rattle.refusals.specs.declared.Refusal.TheVariants.{CutOff, BadSettings, AbsentQuality}
use Rattle.refusals.specs.Refusals.{number_in}
use Rattle.refusals.specs.Result.{Verdict, or_else}
use Rattle.string_set.specs.Readers.{taken, short, word}
use Rattle.string_set.proofs.Readers.{word_at_lem}
use Rattle.column_file.specs.declared.columns.ColumnPlace.{ColumnPlace}
use Rattle.column_file.specs.Format.{Observation, column}
use Rattle.column_file.specs.Reading.{settings_at, settings_of, observation_verdict, column_verdict, columns_verdict}
use Rattle.column_file.specs.Places.{word_at, column_at, column_number_at, observations_at, observations_in, columns_at}
use Rattle.column_file.proofs.ColumnWalk.{observations_at_lem, observations_cut, observations_length, column_at_lem, column_cut, place-past, place_at}
use Rattle.column_file.proofs.ColumnParts.{observations_in_lem}

-- std's number of two bytes
pub word_front : (s : List ℕ) → 2 ≤ length s → word s ≡ taken (from_le_bytes w16 (take 2 s)) (drop 2 s)
word_front s h =
    let a = get_or-take 2 s 0 0 (omega arith) in
    let b = get_or-take 2 s 1 0 (omega arith) in
    let e : byte_at s 0 + 256 * byte_at s 1 ≡ from_le_bytes w16 (take 2 s) = omega arith in
    word_at_lem s 0 h ∙ ap (λ (n : ℕ). taken n (drop 2 s)) e

-- std's cut after the observations
pub column_front : (n : ℕ) (s rest : List ℕ) (r : Option (Bor (List ℕ) × Bor (List ℕ))) → word s ≡ taken n rest → MatchOption r (length rest < 2 * n) (λ p. IsSplitAt rest (2 * n) p.0.now p.1.now)
    → MatchOption r (column s ≡ short) (λ p. (column s ≡ taken (observations_in p.0.now) p.1.now) × (length p.0.now ≡ 2 * length (observations_in p.0.now)))
unfolding column
column_front n s rest None e h = rw (e, observations_cut rest 0 n (omega arith) (omega (arith, h)))
column_front n s rest (Some p) e h =
    let o : observations_in p.0.now ≡ observations_at rest 0 n = ap observations_in h.1 ∙ observations_in_lem rest 0 n (omega (arith, h.0)) in
    let l = observations_length rest 0 n in
    (rw (e, o, h.2, ← zero-add (2 * n)) (observations_at_lem rest 0 n (omega (arith, h.0))), rw (o, l) h.3)

-- ---- a column by its place, where it is read there

module _ (s : List ℕ) (at : ℕ) where
  pub none_at : column (drop at s) ≡ short → column_at s at ≡ None
  none_at e =
      test (leb (at + 2 + 2 * word_at s at) (length s))
      (λ t. absurd (cc (column_at_lem s at (leb-true _ _ t))))
      (λ t. place-past s at (leb-false _ _ t))

  module _ (c : List Observation) (r : List ℕ) (e : column (drop at s) ≡ taken c r) where
    -- it is so many observations there
    there : (c ≡ observations_at s (at + 2) (word_at s at)) × (column_at s at ≡ Some (record { start = at + 2; count = word_at s at }))
    there =
        test (leb (at + 2 + 2 * word_at s at) (length s))
        (λ t. let i = leb-true _ _ t in (cc (column_at_lem s at i), place_at s at i))
        (λ t. absurd (cc (column_cut s at (leb-false _ _ t))))

    size : length c ≡ word_at s at
    size = ap length there.0 ∙ observations_length s (at + 2) (word_at s at)

    pub some_at : column_at s at ≡ Some (record { start = at + 2; count = length c })
    some_at = rw size there.1

    -- and then the others
    pub columns_next : (n : ℕ) → columns_at s at (suc n) ≡ c ∷ columns_at s (at + 2 + 2 * length c) n
    columns_next n = rw (there.1, size, ← there.0)

    pub columns_step : (left k : ℕ) → (left ≡ 0 → ⊥) → k ≡ 2 * length c → columns_at s at left ≡ c ∷ columns_at s (at + (2 + k)) (left - 1)
    columns_step zero k h l = absurd (h refl)
    columns_step (suc n) k h l =
        let end : at + (2 + k) ≡ at + 2 + 2 * length c = omega arith in
        let less : suc n - 1 ≡ n = omega arith in
        rw (end, less) (columns_next n)

-- ---- the settings

module _ (bs : List ℕ) where
  -- other than three
  pub settings_other : (length bs ≡ 3 → ⊥) → settings_of bs ≡ Err BadSettings
  unfolding settings_of
  settings_other h = rw (ne_eqb (length bs) 3 h)

  module _ (three : length bs ≡ 3) where
    -- a rule that is none
    pub settings_rule : 1 < byte_at bs 2 → settings_of bs ≡ Err BadSettings
    unfolding settings_of
    settings_rule h = rw (three, lt-leb (byte_at bs 2) 1 h)

    -- one that is
    pub settings_fine : byte_at bs 2 ≤ 1 → settings_of bs ≡ Ok (settings_at (byte_at bs 0) (byte_at bs 1) (byte_at bs 2))
    unfolding settings_of
    settings_fine h = rw (three, le-leb (byte_at bs 2) 1 h)

-- ---- a column by its place: the number of that
pub place_number : (s : List ℕ) (at : ℕ) {r : Option ColumnPlace} → r ≡ column_at s at → number_in (ok_or r CutOff) ≡ column_number_at s at
unfolding column_at column_number_at
place_number s at e = rw e (test (leb (at + 2 + 2 * word_at s at) (length s)) (λ t. rw t) (λ t. rw t))

-- ---- a column's observations, one at a time

-- the first one and those after it
verdict_two : (pair rest : List ℕ) → length pair ≡ 2
    → column_verdict (observations_in (pair ++ rest)) ≡ or_else (observation_verdict (record { base = byte_at pair 0; quality = byte_at pair 1 })) (column_verdict (observations_in rest))
unfolding column_verdict observations_in
verdict_two (b ∷ q ∷ []) rest h = refl
verdict_two [] rest h = absurd (omega arith)
verdict_two (b ∷ []) rest h = absurd (omega arith)
verdict_two (b ∷ q ∷ x ∷ l) rest h = absurd (omega arith)

or_else_assoc : (a b c : Verdict) → or_else (or_else a b) c ≡ or_else a (or_else b c)
or_else_assoc (Ok _) b c = refl
or_else_assoc (Err r) b c = refl

-- those of an even number of bytes, and then those of others
verdict_append : (k : ℕ) (a b : List ℕ) → length a ≡ 2 * k
    → column_verdict (observations_in (a ++ b)) ≡ or_else (column_verdict (observations_in a)) (column_verdict (observations_in b))
unfolding column_verdict observations_in
verdict_append zero [] b h = refl
verdict_append zero (x ∷ a) b h = absurd (omega arith)
verdict_append (suc k) [] b h = absurd (omega arith)
verdict_append (suc k) (x ∷ []) b h = absurd (omega arith)
verdict_append (suc k) (x ∷ y ∷ a) b h =
    let o = observation_verdict (record { base = x; quality = y }) in
    ap (or_else o) (verdict_append k a b (omega arith)) ∙ sym (or_else_assoc o (column_verdict (observations_in a)) (column_verdict (observations_in b)))

-- so many off the front, and then the others
pub verdict_cut : (k n : ℕ) (s : List ℕ) → n ≡ 2 * k → n ≤ length s
    → column_verdict (observations_in s) ≡ or_else (column_verdict (observations_in (take n s))) (column_verdict (observations_in (drop n s)))
verdict_cut k n s e h = ap (λ (l : List ℕ). column_verdict (observations_in l)) (sym (take-append-drop n s)) ∙ verdict_append k (take n s) (drop n s) (length-take-le n s h ∙ e)

-- the pair at index i, where the bytes are cut into pairs
pub pair_at : (k i : ℕ) (s d : List ℕ) → i < k → get_or (first_chunks 2 k s) i d ≡ take 2 (drop (2 * i) s)
pair_at zero i s d h = absurd (omega arith)
pair_at (suc k) zero s d h = refl
pair_at (suc k) (suc i) s d h =
    let e : 2 + 2 * i ≡ 2 * suc i = omega arith in
    pair_at k i (drop 2 s) d (omega arith) ∙ ap (take 2) (drop-drop (2 * i) 2 s ∙ ap (λ (n : ℕ). drop n s) e)

-- of bytes that are cut into pairs, pair i and then those after it
module _ (s : List ℕ) (i : ℕ) (pairs : List (List ℕ)) (cut : pairs ≡ first_chunks 2 (length s / 2) s) (inside : i < length s / 2) where
  pair : List ℕ
  pair = get_or pairs i []

  taken_pair : pair ≡ take 2 (drop (2 * i) s)
  unfolding pair
  taken_pair = rw cut (pair_at (length s / 2) i s [] inside)

  next : column_verdict (observations_in (drop (2 * i) s))
      ≡ or_else (observation_verdict (record { base = byte_at pair 0; quality = byte_at pair 1 })) (column_verdict (observations_in (drop (2 * (i + 1)) s)))
  next =
      let d = drop (2 * i) s in
      let size : length pair ≡ 2 = ap length taken_pair ∙ length-take-le 2 d (omega (arith, length-drop (2 * i) s)) in
      let e : 2 * i + 2 ≡ 2 * (i + 1) = omega arith in
      let rest : drop 2 d ≡ drop (2 * (i + 1)) s = drop-drop 2 (2 * i) s ∙ ap (λ (n : ℕ). drop n s) e in
      ap (λ (l : List ℕ). column_verdict (observations_in l)) (sym (take-append-drop 2 d) ∙ rw (rest, ← taken_pair)) ∙ verdict_two pair _ size

  pub verdict_next : column_verdict (observations_in (drop (2 * i) s))
      ≡ (if eqb (byte_at (get_or pairs i []) 1) 255 then Err AbsentQuality else column_verdict (observations_in (drop (2 * (i + 1)) s)))
  unfolding pair observation_verdict
  verdict_next = next ∙ test (eqb (byte_at (get_or pairs i []) 1) 255) (λ t. rw t) (λ t. rw t)

-- one verdict by either of two tests
pub if_either : (a b : Bool) (v w : Verdict) → (if a || b then v else w) ≡ (if a then v else (if b then v else w))
if_either true b v w = refl
if_either false b v w = refl

-- there is none in fewer
pub verdict_none : (s : List ℕ) → length s < 2 → column_verdict (observations_in s) ≡ Ok tt
unfolding column_verdict observations_in
verdict_none [] h = refl
verdict_none (b ∷ []) h = refl
verdict_none (b ∷ q ∷ r) h = absurd (omega arith)

-- ---- the verdict on a column more

or_else_sound : (v : Verdict) → or_else v (Ok tt) ≡ v
or_else_sound (Ok _) = refl
or_else_sound (Err r) = refl

pub verdict_more : (cs : List (List Observation)) (c : List Observation) → columns_verdict (cs ++ (c ∷ [])) ≡ or_else (columns_verdict cs) (column_verdict c)
unfolding columns_verdict
verdict_more [] c = or_else_sound (column_verdict c)
verdict_more (d ∷ cs) c = rw (verdict_more cs c) (sym (or_else_assoc (column_verdict d) (columns_verdict cs) (column_verdict c)))

-- std's word for the first of two
pub and_verdicts : (v w : Verdict) → result_and v w ≡ or_else v w
and_verdicts (Ok _) w = refl
and_verdicts (Err r) w = refl
