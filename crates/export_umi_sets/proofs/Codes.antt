-- The code in a set's answer: with 335 bytes it is the reply, and as no string is longer than 255 bytes nothing is refused for want of room. Assumes nothing.
use Rattle.std.specs.Prelude.{Err, Ok}
use Rattle.std.specs.List.{list_any}
use mathlib.Core.Path.{◌≡◌, refl}
use mathlib.Core.Bool.{false}
use mathlib.Core.List.{List, [], ◌∷◌}
use Prim.Native.Nat.{ℕ, zero, suc, ◌+◌, ◌-◌, ◌≤◌, ◌<◌}
use native.Mathlib.Omega.{arith}
use borrow.Author.Tests.{le-leb, ltb-false, leb-true}
use lib.Dec.{ltb, leb}
use lib.ListN.{length, length-append}
use lib.Seq.{length-take-le, get_or-drop}
use Rattle.words.proofs.Cases.{test, choice}
use Rattle.words.specs.Lists.{is_empty, byte_at}
use Rattle.refusals.specs.Refusals.{number_of, number_in}
use Rattle.refusals.specs.Result.{Result, and_then, judged, or_else, first_refused, map_ok, Verdict}
use Rattle.string_set.specs.Readers.{Taken, taken, short, next, byte, front, many, alone}
use Rattle.string_set.specs.StringSet.{string, string_set, read_set}
use Rattle.export_reports.specs.Report.{builder_bytes}
use Rattle.export_reports.proofs.Lengths.{builder_length}
use Rattle.umi_column.specs.Verdicts.{is_unlike, is_mixed, verdict_of}
use Rattle.umi_rows.specs.Rows.{is_high}
use Rattle.simple_consensus.specs.declared.caller.SimpleConsensusCaller.{SimpleConsensusCaller}
use Rattle.simple_consensus.specs.Strings.{first_of, columns_of, alike, is_family}
use Rattle.simple_consensus.specs.Verdicts.{family_verdict, consensus_verdict, umis_verdict, call_verdict}
use Rattle.umi_groups.specs.Found.{Found}
use Rattle.simple_consensus.specs.Consensus.{with_builder, first_found, found, consensus_of, call_consensus_of}
use Rattle.simple_umi.specs.Duplex.{FoundDuplex, ends_in, strand_of, paired, duplex_of}
use Rattle.umi_groups.specs.Found.{room_for}
use Rattle.simple_consensus.specs.Answers.{call_consensus_in}
use Rattle.simple_umi.specs.Answers.{consensus_in, duplex_in, pair_found}
use Rattle.simple_consensus.proofs.Groups.{found_length_lem}
use Rattle.umi_groups.proofs.Room.{room_enough}
use Rattle.simple_umi.proofs.Strands.{strand_kept, strand_left}
use Rattle.export_umi.specs.declared.asked.Question.{Question}
use Rattle.export_umi.specs.declared.asked.Question.TheVariants.{CallConsensus, Consensus, ConsensusDuplex}
use Rattle.export_umi.specs.declared.asked.Asked.{Asked}
use Rattle.export_umi.specs.Codes.{code_of}
use Rattle.export_umi.specs.Asked.{asked_of}
use Rattle.export_umi.specs.Sent.{room_for_string, sent_record, sent_reply, caller_reply}
use Rattle.export_umi_sets.specs.Codes.{SameReply, NeverTen, Codes}

-- ---- the same reply

-- a string that was found has room
abbrev Short : Result Found → Type 0
Short (Err r) = Unit {0}
Short (Ok f) = length f.text ≤ 255

room_short : (f : Found) → Short (room_for room_for_string f)
unfolding room_for
room_short f = choice Short (ltb 255 (length f.text)) _ _ (λ e. tt) (λ e. ltb-false 255 (length f.text) e)

in_short : (t : Result Found) → Short (and_then t (room_for room_for_string))
in_short (Err r) = tt
in_short (Ok f) = room_short f

pair_short : (t : Result FoundDuplex) → Short (pair_found (and_then t (λ d. and_then (room_for room_for_string d.found) (λ f. Ok d))))
unfolding room_for
pair_short (Err r) = tt
pair_short (Ok d) =
    choice (λ (t : Result Found). Short (pair_found (and_then t (λ f. Ok d)))) (ltb 255 (length d.found.text)) _ _
    (λ e. tt) (λ e. ltb-false 255 (length d.found.text) e)

-- so it is sent, with the builder's 80 bytes
same_code : (code : ℕ) (out : List ℕ) → 335 ≤ length out → (t : Result Found) → Short t → code ≡ sent_reply code t out
same_code code out h (Err r) s = refl
same_code code out h (Ok f) s =
    let size : length (sent_record f) ≤ length out = rw (length-append f.text (builder_bytes f.builder)) (omega (arith, builder_length f.builder)) in
    rw (le-leb (length (sent_record f)) (length out) size)

same_call : SameReply 0 CallConsensus
unfolding caller_reply call_consensus_in
same_call c set out h = same_code _ out h (call_consensus_in c set room_for_string) (in_short (and_then (read_set set) (call_consensus_of c)))

same_consensus : SameReply 1 Consensus
unfolding caller_reply consensus_in
same_consensus c set out h = same_code _ out h (consensus_in c set room_for_string) (in_short (and_then (read_set set) (consensus_of c)))

same_duplex : SameReply 3 ConsensusDuplex
unfolding caller_reply duplex_in
same_duplex c set out h = same_code _ out h (pair_found (duplex_in c set room_for_string)) (pair_short (and_then (read_set set) (duplex_of c)))

-- ---- never 10: P holds of what is accepted, and nothing is refused by 10

abbrev All : {A : Type 0} → (A → Type 0) → Result A → Type 0
All P (Err r) = number_of r ≡ 10 → ⊥
All P (Ok a) = P a

then_all : {A B : Type 0} (P : A → Type 0) (Q : B → Type 0) (t : Result A) (f : A → Result B) → All P t → ((a : A) → P a → All Q (f a)) → All Q (and_then t f)
then_all P Q (Err r) f h k = h
then_all P Q (Ok a) f h k = k a h

-- ---- what is read

abbrev Bytes : List ℕ → Type 0
Bytes s = (k : ℕ) → byte_at s k < 256

-- no string is longer than 255
abbrev Strings : List (List ℕ) → Type 0
Strings [] = Unit {0}
Strings (t ∷ l) = (length t ≤ 255) × Strings l

abbrev Took : {A : Type 0} → (A → Type 0) → Taken A → Type 0
Took P short = Unit {0}
Took P (taken a r) = P a × Bytes r

then_took : {A B : Type 0} (P : A → Type 0) (Q : B → Type 0) (t : Taken A) (f : A → List ℕ → Taken B) → Took P t
    → ((a : A) (r : List ℕ) → P a → Bytes r → Took Q (f a r)) → Took Q (next t f)
then_took P Q short f h k = tt
then_took P Q (taken a r) f h k = k a r h.0 h.1

byte_took : (s : List ℕ) → Bytes s → Took (λ n. n < 256) (byte s)
unfolding byte
byte_took [] h = tt
byte_took (x ∷ s) h = (h 0, λ k. h (suc k))

front_took : (n : ℕ) (s : List ℕ) → n < 256 → Bytes s → Took (λ t. length t ≤ 255) (front n s)
unfolding front
front_took n s l h =
    choice (Took (λ t. length t ≤ 255)) (leb n (length s)) _ _
    (λ e. (rw (length-take-le n s (leb-true n (length s) e)) (omega arith), λ k. rw (get_or-drop n s k 0) (h (n + k))))
    (λ e. tt)

many_took : (n : ℕ) (s : List ℕ) → Bytes s → Took Strings (many string n s)
unfolding many string
many_took zero s h = (tt, h)
many_took (suc n) s h =
    then_took (λ t. length t ≤ 255) Strings (string s) _
    (then_took (λ m. m < 256) (λ t. length t ≤ 255) (byte s) _ (byte_took s h) (λ m r l b. front_took m r l b))
    (λ t r l b. then_took Strings Strings (many string n r) _ (many_took n r b) (λ ts u m v. ((l, m), v)))

alone_all : (t : Taken (List (List ℕ))) → Took Strings t → All Strings (alone t)
alone_all short h = λ e. omega arith
alone_all (taken l []) h = h.0
alone_all (taken l (x ∷ r)) h = λ e. omega arith

read_all : (s : List ℕ) → Bytes s → All Strings (read_set s)
unfolding read_set string_set
read_all s h =
    choice (All Strings) (ltb 65536 (length s)) _ _
    (λ e f. omega arith)
    (λ e. alone_all (string_set s) (then_took (λ m. m < 256) Strings (byte s) _ (byte_took s h) (λ m r l b. many_took m r b)))

-- ---- what is refused of strings

abbrev NotTen : Verdict → Type 0
NotTen v = number_in v ≡ 10 → ⊥

either_not : (v w : Verdict) → NotTen v → NotTen w → NotTen (or_else v w)
either_not (Ok _) w h k = k
either_not (Err r) w h k = h

first_not : {A : Type 0} (verdict : A → Verdict) → ((a : A) → NotTen (verdict a)) → (l : List A) → NotTen (first_refused verdict l)
first_not verdict h [] = λ e. omega arith
first_not verdict h (a ∷ l) = either_not (verdict a) (first_refused verdict l) (h a) (first_not verdict h l)

column_not : (column : List ℕ) → NotTen (verdict_of column)
unfolding verdict_of
column_not column =
    choice NotTen (list_any (is_unlike (byte_at column 0)) column) _ _ (λ e f. omega arith)
    (λ e. choice NotTen (is_mixed column) _ _ (λ k f. omega arith) (λ k f. omega arith))

consensus_not : (strings : List (List ℕ)) → NotTen (consensus_verdict strings)
unfolding consensus_verdict family_verdict
consensus_not strings =
    choice NotTen (is_family strings) _ _
    (λ e. choice NotTen (list_any (list_any is_high) strings) _ _ (λ k f. omega arith) (λ k. first_not verdict_of column_not (columns_of (length (first_of strings)) strings)))
    (λ e f. omega arith)

call_not : (strings : List (List ℕ)) → NotTen (call_verdict strings)
unfolding call_verdict umis_verdict
call_not strings =
    choice NotTen (is_empty strings) _ _ (λ e f. omega arith)
    (λ e. choice NotTen (alike strings) _ _ (λ k. consensus_not strings) (λ k f. omega arith))

-- ---- what is found

abbrev Fits : Found → Type 0
Fits f = length f.text ≤ 255

judged_all : {A : Type 0} (P : A → Type 0) (v : Verdict) (a : A) → NotTen v → P a → All P (judged v a)
judged_all P (Ok _) a h k = k
judged_all P (Err r) a h k = h

first_fits : (strings : List (List ℕ)) → Strings strings → length (first_of strings) ≤ 255
first_fits [] h = omega arith
first_fits (t ∷ ts) h = h.0

found_fits : (c : SimpleConsensusCaller) (strings : List (List ℕ)) → Strings strings → Fits (found c strings)
unfolding found first_found
found_fits c strings h =
    choice Fits (is_family strings) _ _
    (λ e. rw (found_length_lem c (length (first_of strings)) strings) (first_fits strings h))
    (λ e. first_fits strings h)

room_all : (f : Found) → Fits f → All Fits (room_for room_for_string f)
room_all f h = rw (room_enough room_for_string f h) h

said_all : (c : SimpleConsensusCaller) (strings : List (List ℕ)) → Strings strings → All Fits (consensus_of c strings)
said_all c strings h = judged_all Fits (consensus_verdict strings) (found c strings) (consensus_not strings) (found_fits c strings h)

strand_fits : (letter : ℕ) (strings : List (List ℕ)) → Strings strings → Strings (strand_of letter strings)
unfolding strand_of
strand_fits letter [] h = tt
strand_fits letter (t ∷ ts) h =
    test (ends_in letter t)
    (λ e. rw (strand_kept letter t ts e) (rw (length-take-le (length t - 2) t (omega arith)) (omega (arith, h.0)), strand_fits letter ts h.1))
    (λ e. rw (strand_left letter t ts e) (strand_fits letter ts h.1))

paired_fits : (a b : Found) → Fits a → Fits b → Fits (paired a b).found
unfolding paired
paired_fits a b h k = choice (λ (t : List ℕ). length t ≤ 255) (is_empty a.text) b.text a.text (λ e. k) (λ e. h)

duplex_all : (c : SimpleConsensusCaller) (strings : List (List ℕ)) → Strings strings → All (λ d. Fits d.found) (duplex_of c strings)
unfolding duplex_of
duplex_all c strings h =
    then_all Fits (λ d. Fits d.found) (consensus_of c (strand_of 65 strings)) _ (said_all c (strand_of 65 strings) (strand_fits 65 strings h))
    (λ a x. then_all Fits (λ d. Fits d.found) (consensus_of (with_builder a.builder c) (strand_of 66 strings)) _
    (said_all (with_builder a.builder c) (strand_of 66 strings) (strand_fits 66 strings h)) (λ b y. paired_fits a b x y))

-- ---- the codes

answer_not : {A : Type 0} (P : A → Type 0) (asked : A → Asked) (t : Result A) → All P t → code_of (map_ok (λ a. a.given) (map_ok asked t)) ≡ 10 → ⊥
answer_not P asked (Err r) h = h
answer_not P asked (Ok a) h = λ e. omega arith

never_ten : (q : Question) → NeverTen q
unfolding call_consensus_in consensus_in duplex_in
never_ten CallConsensus c set h =
    answer_not Fits (λ f. asked_of c f false false) (call_consensus_in c set room_for_string)
    (then_all Fits Fits (and_then (read_set set) (call_consensus_of c)) (room_for room_for_string)
    (then_all Strings Fits (read_set set) (call_consensus_of c) (read_all set h)
    (λ l x. judged_all Fits (call_verdict l) (found c l) (call_not l) (found_fits c l x))) room_all)
never_ten Consensus c set h =
    answer_not Fits (λ f. asked_of c f f.had_errors false) (consensus_in c set room_for_string)
    (then_all Fits Fits (and_then (read_set set) (consensus_of c)) (room_for room_for_string)
    (then_all Strings Fits (read_set set) (consensus_of c) (read_all set h) (said_all c)) room_all)
never_ten ConsensusDuplex c set h =
    answer_not (λ d. Fits d.found) (λ d. asked_of c d.found d.found.had_errors d.had_errors_b) (duplex_in c set room_for_string)
    (then_all (λ d. Fits d.found) (λ d. Fits d.found) (and_then (read_set set) (duplex_of c)) _
    (then_all Strings (λ d. Fits d.found) (read_set set) (duplex_of c) (read_all set h) (duplex_all c))
    (λ d x. then_all Fits (λ d. Fits d.found) (room_for room_for_string d.found) _ (room_all d.found x) (λ f y. x)))

pub codes : Codes
codes = record { call = same_call; consensus = same_consensus; duplex = same_duplex; never_ten = never_ten }
