-- Each part alone: what is accepted has its form, and what has it is accepted. Assumes nothing.
use Rattle.std.specs.Prelude.{Ok}
use Rattle.std.specs.List.{list_all}
use mathlib.Core.Path.{◌≡◌, refl, subst}
use mathlib.Core.Bool.{true}
use mathlib.Core.List.{List, [], ◌∷◌, ◌++◌, append_assoc}
use Prim.Native.Nat.{ℕ, ◌≤◌}
use lib.ListN.{length}
use Rattle.refusals.specs.Result.{Result, Verdict}
use Rattle.string_set.specs.Readers.{taken, word, lone, longest_file}
use Rattle.string_set.specs.StringSet.{string_set, read_set}
use Rattle.column_file.specs.declared.settings.Settings.{Settings}
use Rattle.column_file.specs.Format.{column, settings, announced}
use Rattle.column_file.specs.Reading.{settings_of, column_verdict, read_settings, read_column}
use Rattle.tie_rules.specs.Ties.{rule_number}
use Rattle.column_file.specs.Encoding.{word_bytes, settings_bytes, announced_bytes, column_bytes, string_bytes, string_set_bytes}
use Rattle.column_file_laws.specs.Encoding.{is_byte, PartBothWays, PartsBothWays}
use Rattle.column_file_laws.proofs.Both.{Taking, Off, after, Accepting, further, judged_sound, Kind, left_bytes, Whole, lone_back, lone_off}
use Rattle.column_file_laws.proofs.Both.{word_kind, set_kind, column_kind, settings_kind, settings_back, settings_off}

-- settings, before it is seen what they say, with the number of columns
abbrev counted_bytes : List ℕ × ℕ → List ℕ
counted_bytes a = string_bytes a.0 ++ word_bytes a.1

announced_kind : Kind announced counted_bytes
unfolding announced
announced_kind = record { back = back; off = off }
  where
    back : (a : List ℕ × ℕ) (r : List ℕ) → announced (counted_bytes a ++ r) ≡ taken a r
    back a r =
        rw (append_assoc (string_bytes a.0) (word_bytes a.1) r, settings_kind.back a.0 (word_bytes a.1 ++ r), word_kind.back a.1 r)

    off : (s : List ℕ) → list_all is_byte s ≡ true → Taking (Off counted_bytes s) (announced s)
    off s h =
        after (Off string_bytes s) (Off counted_bytes s) (settings s) _ (settings_kind.off s h)
        (λ l t d. after (Off word_bytes t) (Off counted_bytes s) (word t) _ (word_kind.off t (left_bytes (string_bytes l) t s d h))
        (λ n u e. rw (append_assoc (string_bytes l) (word_bytes n) u, e) d))

-- s is the bytes of a part, whose verdict is sound
abbrev Says : {A : Type 0} → (A → List ℕ) → (A → Verdict) → List ℕ → A → Type 0
Says bytes verdict s a = (bytes a ≡ s) × (verdict a ≡ Ok tt)

-- of what is accepted, whatever it is
read_so : {A : Type 0} (read : List ℕ → Result A) (bytes : A → List ℕ) (verdict : A → Verdict)
    → ((s : List ℕ) → list_all is_byte s ≡ true → Accepting (Says bytes verdict s) (read s))
    → (s : List ℕ) → list_all is_byte s ≡ true → (a : A) → read s ≡ Ok a → Says bytes verdict s a
read_so read bytes verdict h s k a e = subst (Accepting (Says bytes verdict s)) e (h s k)

abbrev announced_of : Settings × ℕ → List ℕ
announced_of a = announced_bytes a.0 a.1

settings_off_part : (s : List ℕ) → list_all is_byte s ≡ true → Accepting (Says announced_of (λ a. Ok tt) s) (read_settings s)
unfolding read_settings
settings_off_part s h =
    further (Whole announced counted_bytes announced_kind s) (Says announced_of (λ a. Ok tt) s) (lone announced s) _ (lone_off announced counted_bytes announced_kind s h)
    (λ a x. further (λ g. settings_bytes g ≡ string_bytes a.0) (Says announced_of (λ a. Ok tt) s) (settings_of a.0) _ (settings_off a.0) (λ g e. (rw e x.0, refl)))

settings_back_part : (a : Settings × ℕ) → length (announced_of a) ≤ longest_file → read_settings (announced_of a) ≡ Ok a
unfolding read_settings settings_bytes string_bytes
settings_back_part a h =
    let g = a.0 in
    let l : List ℕ = g.error_rate_pre_umi.0 ∷ g.error_rate_post_umi.0 ∷ rule_number g.tie_rule ∷ [] in
    rw (lone_back announced counted_bytes announced_kind (l, a.1) h, settings_back g)

settings_part : PartBothWays read_settings announced_of (λ a. Ok tt)
settings_part = record {
  accepted_reads = read_so read_settings announced_of (λ a. Ok tt) settings_off_part;
  never_refused = λ a h v. settings_back_part a h;
}

column_part : PartBothWays read_column column_bytes column_verdict
unfolding read_column
column_part = record {
  accepted_reads = read_so read_column column_bytes column_verdict
      (λ s h. further (Whole column column_bytes column_kind s) (Says column_bytes column_verdict s) (lone column s) _ (lone_off column column_bytes column_kind s h)
      (λ c x. judged_sound (Says column_bytes column_verdict s) (column_verdict c) c (λ v. (x.0, v))));
  never_refused = λ c h v. rw (lone_back column column_bytes column_kind c h, v);
}

strings_part : PartBothWays read_set string_set_bytes (λ l. Ok tt)
unfolding read_set
strings_part = record {
  accepted_reads = λ s h l e. ((subst (Accepting (Whole string_set string_set_bytes set_kind s)) e (lone_off string_set string_set_bytes set_kind s h)).0, refl);
  never_refused = λ l h v. lone_back string_set string_set_bytes set_kind l h;
}

pub parts_both_ways : PartsBothWays
parts_both_ways = record { settings = settings_part; column = column_part; strings = strings_part }
