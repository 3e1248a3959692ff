-- What a file is read as, by its sections. Assumes nothing.
use Rattle.std.specs.Prelude.{Err, Ok}
use mathlib.Core.Path.{◌≡◌, refl, sym, ◌∙◌, ap}
use mathlib.Core.List.{List}
use Prim.Native.Nat.{ℕ, ◌+◌, ◌-◌, ◌≤◌, ◌<◌}
use native.Mathlib.Omega.{arith}
use borrow.Author.Tests.{leb-true, leb-false}
use lib.Dec.{leb}
use lib.ListN.{length, drop, length-drop}
use Rattle.words.proofs.Cases.{test}
use Rattle.words.specs.Lists.{byte_at}
use Rattle.refusals.specs.declared.Refusal.{Refusal}
use Rattle.refusals.specs.declared.Refusal.TheVariants.{FileTooLong, CutOff}
use Rattle.refusals.specs.Result.{Result, and_then, map_ok}
use Rattle.string_set.specs.Readers.{Taken, taken, short, next, word, many, alone, longest_file}
use Rattle.string_set.specs.StringSet.{string_set, read_set}
use Rattle.string_set.proofs.Readers.{lone_long, lone_fits, alone_next}
use Rattle.column_file.specs.declared.settings.Settings.{Settings}
use Rattle.column_file.specs.Format.{Observation, column, settings, columns, announced, Sections, sections}
use Rattle.column_file.specs.Reading.{settings_of, columns_verdict, file_of, read_file}
use Rattle.column_file.specs.Places.{word_at, head_size, columns_size, places_of}
use Rattle.column_file.proofs.SettingsRead.{bytes_of, announced_at, announced_cut, bytes_length, settings_three}
use Rattle.column_file.proofs.ColumnWalk.{Ended, ended}
use Rattle.column_file.proofs.Sections.{sections_cut}

-- by what its bytes make up
module _ (s : List ℕ) where
  -- over 65,536 of them
  pub file_long : longest_file < length s → read_file s ≡ Err FileTooLong
  unfolding read_file
  file_long h = rw (lone_long sections s h)

  module _ (fits : length s ≤ longest_file) where
    -- the sections decide
    pub file_by_lem : read_file s ≡ and_then (alone (sections s)) file_of
    unfolding read_file
    file_by_lem = ap (λ (q : Result Sections). and_then q file_of) (lone_fits sections s fits)

-- a set that is refused, by what a count of it says
pub refused_by : {A B : Type 0} (f : A → B) (q : Result A) (r : Refusal) → Err r ≡ map_ok f q → q ≡ Err r
refused_by f (Err x) r e = cc
refused_by f (Ok a) r e = absurd (cc)

-- and one that is read
pub read_by : {A B : Type 0} (f : A → B) (q : Result A) (b : B) → Ok b ≡ map_ok f q → (a : A) × (q ≡ Ok a)
read_by f (Err x) b e = absurd (cc)
read_by f (Ok a) b e = (a, refl)

-- ---- as it is read off the front

-- the settings bs and a count n at the front, and then t
module _ (s bs : List ℕ) (n : ℕ) (t : List ℕ) (e : announced s ≡ taken (bs, n) t) where
  -- what is made of what follows the count
  after_count : {A B : Type 0} (go : ℕ → List ℕ → Taken A) (f : List ℕ → A → List ℕ → Taken B) (a : List ℕ) (w : Taken ℕ) → next {B = List ℕ × ℕ} w (λ k u. taken (a, k) u) ≡ taken (bs, n) t
      → next (next w go) (f a) ≡ next (go n t) (f bs)
  after_count go f a short k = absurd (cc)
  after_count go f a (taken m u) k =
      let p : ◌≡◌ {A = List ℕ × ℕ} (a, m) (bs, n) = cc in
      let z : u ≡ t = cc in
      rw (ap (λ (x : List ℕ × ℕ). x.0) p, ap (λ (x : List ℕ × ℕ). x.1) p, z)

  after_settings : {A B : Type 0} (go : ℕ → List ℕ → Taken A) (f : List ℕ → A → List ℕ → Taken B) (q : Taken (List ℕ)) → next {B = List ℕ × ℕ} q (λ a u. next (word u) (λ k v. taken (a, k) v)) ≡ taken (bs, n) t
      → next q (λ a u. next (next (word u) go) (f a)) ≡ next (go n t) (f bs)
  after_settings go f short k = absurd (cc)
  after_settings go f (taken a u) k = after_count go f a (word u) k

  -- the columns do not end within the bytes
  columns_cut : many column n t ≡ short → sections s ≡ short
  unfolding sections columns announced
  columns_cut k =
      after_settings (many column) (λ a c u. next (string_set u) (λ l v. taken (record { settings = a; columns = c; strings = l }) v)) (settings s) e ∙ rw k

  module _ (cs : List (List Observation)) (u : List ℕ) (k : many column n t ≡ taken cs u) where
    -- the strings decide
    front_next : alone (sections s) ≡ and_then (alone (string_set u)) (λ l. Ok (record { settings = bs; columns = cs; strings = l }))
    unfolding sections columns announced
    front_next =
        ap alone (after_settings (many column) (λ a c u. next (string_set u) (λ l v. taken (record { settings = a; columns = c; strings = l }) v)) (settings s) e ∙ rw k)
        ∙ alone_next (λ l. record { settings = bs; columns = cs; strings = l }) (string_set u)

-- they are not there
pub front_none : (s : List ℕ) → length s ≤ longest_file → announced s ≡ short → read_file s ≡ Err CutOff
front_none s fits e =
    let cut : sections s ≡ short =
    test (leb (3 + byte_at s 0) (length s))
    (λ t. absurd (cc (announced_at s (leb-true _ _ t))))
    (λ t. sections_cut s (leb-false _ _ t)) in
    file_by_lem s fits ∙ rw cut

-- how many bytes they take
pub announced_taken : (s bs : List ℕ) (n : ℕ) (t : List ℕ) → announced s ≡ taken (bs, n) t → length s ≡ 3 + length bs + length t
announced_taken s bs n t e =
    test (leb (3 + byte_at s 0) (length s))
    (λ b.
    let h : 3 + byte_at s 0 ≤ length s = leb-true _ _ b in
    let p : ◌≡◌ {A = List ℕ × ℕ} (bs, n) (bytes_of s, word_at s (1 + byte_at s 0)) = cc (announced_at s h) in
    let y : t ≡ drop (3 + byte_at s 0) s = cc (announced_at s h) in
    rw (ap (λ (x : List ℕ × ℕ). x.0) p, y, bytes_length s h, length-drop (3 + byte_at s 0) s) (omega arith))
    (λ b. absurd (cc (announced_cut s (leb-false _ _ b))))

-- and the columns
pub columns_taken : (t : List ℕ) (n : ℕ) (cs : List (List Observation)) (u : List ℕ) → many column n t ≡ taken cs u → (length t ≡ columns_size cs + length u) × (length cs ≡ n)
columns_taken t n cs u e =
    let d : Ended t 0 n (taken cs u) = rw e at (ended t 0 n (omega arith)) in
    let l : length u ≡ length t - (0 + columns_size cs) = ap length d.0 ∙ length-drop (0 + columns_size cs) t in
    (omega (arith, d.1), d.3)

-- what is read, by what stands at the front
module _ (s bs : List ℕ) (n : ℕ) (t : List ℕ) (e : announced s ≡ taken (bs, n) t) (fits : length s ≤ longest_file) where
  pub front_cut : many column n t ≡ short → read_file s ≡ Err CutOff
  front_cut k = file_by_lem s fits ∙ rw (columns_cut s bs n t e k)

  module _ (cs : List (List Observation)) (u : List ℕ) (k : many column n t ≡ taken cs u) where
    front : read_file s ≡ and_then (and_then (read_set u) (λ l. Ok (record { settings = bs; columns = cs; strings = l }))) file_of
    unfolding read_set
    front =
        let few : length u ≤ longest_file = omega (arith, announced_taken s bs n t e, columns_taken t n cs u k) in
        let strings = ap (λ (q : Result (List (List ℕ))). and_then q (λ l. Ok (record { settings = bs; columns = cs; strings = l }))) (sym (lone_fits string_set u few)) in
        file_by_lem s fits ∙ ap (λ (q : Result Sections). and_then q file_of) (front_next s bs n t e cs u k ∙ strings)

    pub front_strings : {A : Type 0} (f : List (List ℕ) → A) (r : Refusal) → Err r ≡ map_ok f (read_set u) → read_file s ≡ Err r
    front_strings f r h = front ∙ rw (refused_by f (read_set u) r h)

    module _ (l : List (List ℕ)) (h : read_set u ≡ Ok l) where
      pub front_settings : (r : Refusal) → settings_of bs ≡ Err r → read_file s ≡ Err r
      unfolding file_of
      front_settings r i = front ∙ rw (h, i)

      module _ (g : Settings) (i : settings_of bs ≡ Ok g) where
        pub front_faulty : (r : Refusal) → columns_verdict cs ≡ Err r → read_file s ≡ Err r
        unfolding file_of
        front_faulty r v = front ∙ rw (h, i, v)

        pub front_whole : columns_verdict cs ≡ Ok tt → Ok (record { settings = g; columns = length s - length t; count = n; strings = length s - length u }) ≡ map_ok places_of (read_file s)
        unfolding file_of
        front_whole v =
            let three = settings_three bs g i in
            let a = announced_taken s bs n t e in
            let b = columns_taken t n cs u k in
            let first : length s - length t ≡ head_size = omega arith in
            let last : length s - length u ≡ head_size + columns_size cs = omega arith in
            rw (front, h, i, v, first, last, b.1)
