-- What is accepted has the format, and what has it is accepted: first of each kind of part, whatever bytes come after it. Assumes nothing.
use Rattle.std.specs.Prelude.{Err, Ok}
use Rattle.std.specs.List.{list_all}
use mathlib.Core.Path.{◌≡◌, refl, sym, ◌∙◌, ap, subst}
use mathlib.Core.Bool.{true}
use mathlib.Core.List.{List, [], ◌∷◌, ◌++◌, append-nil, append_assoc}
use Prim.Native.Nat.{ℕ, zero, suc, ◌+◌, ◌*◌, ◌/◌, ◌%◌, ◌≤◌, ◌<◌}
use native.Mathlib.Omega.{arith}
use borrow.Author.Tests.{le-ltb, le-leb, ne_eqb, ltb-true, ltb-false, leb-true}
use lib.Dec.{ltb, leb}
use lib.ListN.{length, take-append-drop, length-append}
use lib.Seq.{length-take-le, take-append_seam, drop-append_seam}
use Rattle.words.proofs.Cases.{choice, both}
use Rattle.refusals.specs.declared.Refusal.TheVariants.{FileTooLong, BadSettings}
use Rattle.refusals.specs.Result.{Result, and_then, judged, Verdict}
use Rattle.tie_rules.specs.declared.tie_rule.TieRule.{TieRule}
use Rattle.tie_rules.specs.declared.tie_rule.TieRule.TheVariants.{UlpRelative, FgbioCompat}
use Rattle.tie_rules.specs.Ties.{rule_of, rule_number}
use Rattle.string_set.specs.Readers.{Taken, taken, short, next, byte, word, front, many, alone, lone, longest_file}
use Rattle.string_set.specs.StringSet.{string, string_set}
use Rattle.column_file.specs.declared.settings.Settings.{Settings}
use Rattle.column_file.specs.Format.{observation, column, settings, columns, Sections, sections}
use Rattle.column_file.specs.Reading.{settings_at, settings_of, columns_verdict, File, file_of, read_file}
use Rattle.lent_bytes.specs.Bytes.{joined}
use Rattle.column_file.specs.Encoding.{word_bytes, settings_bytes, observation_bytes, column_bytes, columns_bytes, string_bytes}
use Rattle.column_file.specs.Encoding.{string_set_bytes, file_bytes}
use Rattle.column_file_laws.specs.Encoding.{is_byte, InFormat, BothWays}

-- ---- what holds of all that is taken, or accepted

-- P holds of what is taken and what is left
abbrev pub Taking : {A : Type 0} → (A → List ℕ → Type 0) → Taken A → Type 0
Taking P short = Unit {0}
Taking P (taken a r) = P a r

weaker : {A : Type 0} (P Q : A → List ℕ → Type 0) (t : Taken A) → Taking P t → ((a : A) (r : List ℕ) → P a r → Q a r) → Taking Q t
weaker P Q short h k = tt
weaker P Q (taken a r) h k = k a r h

-- from a part to what goes on with it
pub after : {A B : Type 0} (P : A → List ℕ → Type 0) (Q : B → List ℕ → Type 0) (t : Taken A) (f : A → List ℕ → Taken B) → Taking P t
    → ((a : A) (r : List ℕ) → P a r → Taking Q (f a r)) → Taking Q (next t f)
after P Q short f h k = tt
after P Q (taken a r) f h k = k a r h

-- P holds of what is accepted
abbrev pub Accepting : {A : Type 0} → (A → Type 0) → Result A → Type 0
Accepting P (Err r) = Unit {0}
Accepting P (Ok a) = P a

-- from what is accepted to what goes on with it
pub further : {A B : Type 0} (P : A → Type 0) (Q : B → Type 0) (t : Result A) (f : A → Result B) → Accepting P t → ((a : A) → P a → Accepting Q (f a))
    → Accepting Q (and_then t f)
further P Q (Err r) f h k = tt
further P Q (Ok a) f h k = k a h

pub judged_sound : {A : Type 0} (P : A → Type 0) (v : Verdict) (a : A) → (v ≡ Ok tt → P a) → Accepting P (judged v a)
judged_sound P (Ok _) a h = h refl
judged_sound P (Err r) a h = tt

-- ---- any kind of part, by what reads it and its bytes

-- s was its bytes, and then what is left
abbrev pub Off : {A : Type 0} → (A → List ℕ) → List ℕ → A → List ℕ → Type 0
Off bytes s a r = bytes a ++ r ≡ s

pub record Kind {A : Type 0} (one : List ℕ → Taken A) (bytes : A → List ℕ) : Type 0 where
  -- its bytes are read back
  pub back : (a : A) (r : List ℕ) → one (bytes a ++ r) ≡ taken a r
  -- and only they are read so
  pub off : (s : List ℕ) → list_all is_byte s ≡ true → Taking (Off bytes s) (one s)

-- what is left of bytes is bytes
end_bytes : (l r : List ℕ) → list_all is_byte (l ++ r) ≡ true → list_all is_byte r ≡ true
end_bytes [] r h = h
end_bytes (x ∷ l) r h = end_bytes l r (both (is_byte x) (list_all is_byte (l ++ r)) h).1

pub left_bytes : (l r s : List ℕ) → l ++ r ≡ s → list_all is_byte s ≡ true → list_all is_byte r ≡ true
left_bytes l r s e h = end_bytes l r (rw e h)

-- one after another
module _ {A : Type 0} (one : List ℕ → Taken A) (bytes : A → List ℕ) (k : Kind one bytes) where
  many_back : (l : List A) (r : List ℕ) → many one (length l) (joined bytes l ++ r) ≡ taken l r
  unfolding many
  many_back [] r = refl
  many_back (a ∷ l) r = rw (append_assoc (bytes a) (joined bytes l) r, k.back a (joined bytes l ++ r), many_back l r)

  -- s was the bytes of n parts, and then what is left
  abbrev OffMany : ℕ → List ℕ → List A → List ℕ → Type 0
  OffMany n s l r = (length l ≡ n) × (joined bytes l ++ r ≡ s)

  many_off : (n : ℕ) (s : List ℕ) → list_all is_byte s ≡ true → Taking (OffMany n s) (many one n s)
  unfolding many
  many_off zero s h = (refl, refl)
  many_off (suc n) s h =
      after (Off bytes s) (OffMany (suc n) s) (one s) _ (k.off s h)
      (λ a r e. after (OffMany n r) (OffMany (suc n) s) (many one n r) _ (many_off n r (left_bytes (bytes a) r s e h))
      (λ l t m. (ap suc m.0, rw (append_assoc (bytes a) (joined bytes l) t, m.1) e)))

-- one after another behind their number, whatever kind the number is
module _ {A : Type 0} (number : List ℕ → Taken ℕ) (digits : ℕ → List ℕ) (n : Kind number digits)
    (one : List ℕ → Taken A) (bytes : A → List ℕ) (k : Kind one bytes) where
  abbrev counted_bytes : List A → List ℕ
  counted_bytes l = digits (length l) ++ joined bytes l

  counted : Kind (λ r. next (number r) (λ m s. many one m s)) counted_bytes
  counted =
      record {
        back = λ l r. rw (append_assoc (digits (length l)) (joined bytes l) r, n.back (length l) (joined bytes l ++ r), many_back one bytes k l r);
        off = λ s h. after (Off digits s) (Off counted_bytes s) (number s) (λ m t. many one m t) (n.off s h)
            (λ m t e. weaker (OffMany one bytes k m t) (Off counted_bytes s) (many one m t) (many_off one bytes k m t (left_bytes (digits m) t s e h))
            (λ l r x. rw (append_assoc (digits (length l)) (joined bytes l) r, x.0, x.1) e));
      }

-- alone
module _ {A : Type 0} (one : List ℕ → Taken A) (bytes : A → List ℕ) (k : Kind one bytes) where
  pub lone_back : (a : A) → length (bytes a) ≤ longest_file → lone one (bytes a) ≡ Ok a
  lone_back a h =
      let e : one (bytes a) ≡ taken a [] = rw (append-nil (bytes a)) at (k.back a []) in
      rw (le-ltb longest_file (length (bytes a)) h, e)

  -- s is its bytes, and not too long
  abbrev pub Whole : List ℕ → A → Type 0
  Whole s a = (bytes a ≡ s) × (length s ≤ longest_file)

  alone_off : (s : List ℕ) → length s ≤ longest_file → (t : Taken A) → Taking (Off bytes s) t → Accepting (Whole s) (alone t)
  alone_off s h short e = tt
  alone_off s h (taken a []) e = (sym (append-nil (bytes a)) ∙ e, h)
  alone_off s h (taken a (x ∷ r)) e = tt

  pub lone_off : (s : List ℕ) → list_all is_byte s ≡ true → Accepting (Whole s) (lone one s)
  lone_off s h =
      choice (Accepting (Whole s)) (ltb longest_file (length s)) (Err FileTooLong) (alone (one s))
      (λ e. tt)
      (λ e. alone_off s (ltb-false longest_file (length s) e) (one s) (k.off s h))

-- ---- each kind

abbrev byte_bytes : ℕ → List ℕ
byte_bytes n = n ∷ []

byte_kind : Kind byte byte_bytes
unfolding byte
byte_kind = record { back = λ n r. refl; off = off }
  where
    off : (s : List ℕ) → list_all is_byte s ≡ true → Taking (Off byte_bytes s) (byte s)
    off [] h = tt
    off (n ∷ r) h = refl

-- the low and the high byte of a count
low_byte : (a b : ℕ) → a < 256 → (a + 256 * b) % 256 ≡ a
low_byte a b h = omega arith

high_byte : (a b : ℕ) → a < 256 → (a + 256 * b) / 256 ≡ b
high_byte a b h = omega arith

pub word_kind : Kind word word_bytes
unfolding word byte
word_kind = record { back = λ n r. ap (λ (m : ℕ). taken m r) (omega arith); off = off }
  where
    off : (s : List ℕ) → list_all is_byte s ≡ true → Taking (Off word_bytes s) (word s)
    off [] h = tt
    off (a ∷ []) h = tt
    off (a ∷ b ∷ r) h =
        let small : a < 256 = ltb-true a 256 (both (is_byte a) (list_all is_byte (b ∷ r)) h).0 in
        rw (low_byte a b small, high_byte a b small)

string_kind : Kind string string_bytes
unfolding string byte front string_bytes
string_kind = record { back = back; off = off }
  where
    back : (t r : List ℕ) → string (string_bytes t ++ r) ≡ taken t r
    back t r = rw (le-leb (length t) (length (t ++ r)) (rw (length-append t r) (omega arith)), take-append_seam t r, drop-append_seam t r)

    off : (s : List ℕ) → list_all is_byte s ≡ true → Taking (Off string_bytes s) (string s)
    off [] h = tt
    off (n ∷ s) h =
        choice (Taking (Off string_bytes (n ∷ s))) (leb n (length s)) _ _
        (λ e. rw (length-take-le n s (leb-true n (length s) e), take-append-drop n s))
        (λ e. tt)

pub set_kind : Kind string_set string_set_bytes
unfolding string_set string_set_bytes
set_kind = counted byte byte_bytes byte_kind string string_bytes string_kind

observation_kind : Kind observation observation_bytes
unfolding observation byte
observation_kind = record { back = λ o r. refl; off = off }
  where
    off : (s : List ℕ) → list_all is_byte s ≡ true → Taking (Off observation_bytes s) (observation s)
    off [] h = tt
    off (b ∷ []) h = tt
    off (b ∷ q ∷ r) h = refl

pub column_kind : Kind column column_bytes
unfolding column column_bytes
column_kind = counted word word_bytes word_kind observation observation_bytes observation_kind

columns_kind : Kind columns columns_bytes
unfolding columns columns_bytes
columns_kind = counted word word_bytes word_kind column column_bytes column_kind

-- settings, before it is seen what they say, are laid out as a string
pub settings_kind : Kind settings string_bytes
unfolding settings string
settings_kind = string_kind

abbrev sections_bytes : Sections → List ℕ
sections_bytes f = string_bytes f.settings ++ (columns_bytes f.columns ++ string_set_bytes f.strings)

sections_kind : Kind sections sections_bytes
unfolding sections
sections_kind = record { back = back; off = off }
  where
    back : (f : Sections) (r : List ℕ) → sections (sections_bytes f ++ r) ≡ taken f r
    back f r =
        let a = string_bytes f.settings in
        let b = columns_bytes f.columns in
        let c = string_set_bytes f.strings in
        rw (append_assoc a (b ++ c) r, append_assoc b c r)
        (rw (settings_kind.back f.settings (b ++ (c ++ r)), columns_kind.back f.columns (c ++ r), set_kind.back f.strings r))

    off : (s : List ℕ) → list_all is_byte s ≡ true → Taking (Off sections_bytes s) (sections s)
    off s h =
        after (Off string_bytes s) (Off sections_bytes s) (settings s) _ (settings_kind.off s h)
        (λ a t d. let ht = left_bytes (string_bytes a) t s d h in
        after (Off columns_bytes t) (Off sections_bytes s) (columns t) _ (columns_kind.off t ht)
        (λ b u e. after (Off string_set_bytes u) (Off sections_bytes s) (string_set u) _ (set_kind.off u (left_bytes (columns_bytes b) u t e ht))
        (λ c v k. rw (append_assoc (string_bytes a) (columns_bytes b ++ string_set_bytes c) v, append_assoc (columns_bytes b) (string_set_bytes c) v, k, e) d)))

-- ---- what three settings say

pub rule_back : (t : TieRule) → (leb (rule_number t) 1 ≡ true) × (rule_of (rule_number t) ≡ t)
rule_back FgbioCompat = (refl, refl)
rule_back UlpRelative = (refl, refl)

pub number_back : (n : ℕ) → n ≤ 1 → rule_number (rule_of n) ≡ n
number_back zero h = refl
number_back (suc n) h =
    let e : n ≡ 0 = omega arith in
    rw e

pub settings_back : (g : Settings) → settings_of (g.error_rate_pre_umi.0 ∷ g.error_rate_post_umi.0 ∷ rule_number g.tie_rule ∷ []) ≡ Ok g
unfolding settings_of
settings_back g = rw ((rule_back g.tie_rule).0, (rule_back g.tie_rule).1)

pub settings_off : (l : List ℕ) → Accepting (λ g. settings_bytes g ≡ string_bytes l) (settings_of l)
unfolding settings_of settings_bytes string_bytes
settings_off [] = tt
settings_off (a ∷ []) = tt
settings_off (a ∷ b ∷ []) = tt
settings_off (a ∷ b ∷ c ∷ []) =
    choice (Accepting (λ g. settings_bytes g ≡ string_bytes (a ∷ b ∷ c ∷ []))) (leb c 1) (Ok (settings_at a b c)) (Err BadSettings)
    (λ e. rw (number_back c (leb-true c 1 e)))
    (λ e. tt)
settings_off (a ∷ b ∷ c ∷ d ∷ r) = rw (ne_eqb (length (a ∷ b ∷ c ∷ d ∷ r)) 3 (λ e. omega (arith, e))) tt

-- ---- the file

file_back : (f : File) → length (file_bytes f) ≤ longest_file → columns_verdict f.columns ≡ Ok tt → read_file (file_bytes f) ≡ Ok f
unfolding read_file file_of file_bytes settings_bytes string_bytes
file_back f h v =
    let g = f.settings in
    let l : List ℕ = g.error_rate_pre_umi.0 ∷ g.error_rate_post_umi.0 ∷ rule_number g.tie_rule ∷ [] in
    let parts : Sections = record { settings = l; columns = f.columns; strings = f.strings } in
    rw (lone_back sections sections_bytes sections_kind parts h, settings_back g, v)

file_off : (s : List ℕ) → list_all is_byte s ≡ true → Accepting (InFormat s) (read_file s)
unfolding read_file file_of file_bytes
file_off s h =
    further (Whole sections sections_bytes sections_kind s) (InFormat s) (lone sections s) file_of (lone_off sections sections_bytes sections_kind s h)
    (λ f x. further (λ g. settings_bytes g ≡ string_bytes f.settings) (InFormat s) (settings_of f.settings) _ (settings_off f.settings)
    (λ g e. judged_sound (InFormat s) (columns_verdict f.columns) _
    (λ v. record { bytes = rw e x.0; size = x.1; qualities = v })))

pub both_ways : BothWays
both_ways =
    record {
      accepted_reads = λ s h f e. subst (Accepting (InFormat s)) e (file_off s h);
      never_refused = λ s f i. rw (← i.bytes) (file_back f (rw i.bytes i.size) i.qualities);
    }
