-- The laws of the strings of two strands. Assumes nothing.
use Rattle.std.specs.Prelude.{Err, Ok, filter}
use mathlib.Core.Path.{◌≡◌, refl, sym, ◌∙◌, ap}
use mathlib.Core.Bool.{Bool, true, false}
use mathlib.Core.List.{List, [], ◌∷◌, ◌++◌, map-append}
use Prim.Native.Nat.{ℕ, suc, ◌-◌}
use native.Mathlib.Omega.{arith}
use borrow.Author.Tests.{eq-eqb}
use lib.ListN.{length, take, length-append}
use lib.Seq.{take-append_seam, drop-append_seam}
use Rattle.words.proofs.Cases.{test}
use Rattle.words.specs.Lists.{is_empty}
use Rattle.refusals.specs.declared.Refusal.{Refusal}
use Rattle.refusals.specs.Result.{Result, judged, and_then, Verdict}
use Rattle.base_builder.specs.declared.builder.ConsensusBaseBuilder.{ConsensusBaseBuilder}
use Rattle.simple_consensus.specs.declared.caller.SimpleConsensusCaller.{SimpleConsensusCaller}
use Rattle.simple_consensus.specs.Strings.{first_of, column_of, is_family}
use Rattle.simple_consensus.specs.Verdicts.{consensus_verdict}
use Rattle.umi_groups.specs.Found.{Found}
use Rattle.simple_consensus.specs.Consensus.{with_builder, builder_at, found, consensus_of}
use Rattle.simple_umi.specs.Duplex.{FoundDuplex, ends_in, strand_of, paired, duplex_of, pairing}
use Rattle.simple_umi_laws.specs.DuplexLaws.{Strand, Duplex, no_column}
use Rattle.simple_umi.proofs.Strands.{strand_kept, strand_left}
use Rattle.simple_umi_laws.proofs.AnswerLaws.{answered, no_refusal, same_start, found_reset}

-- ---- which strings a strand has

keep_append : {A : Type 0} (p : A → Bool) (xs ys : List A) → filter p (xs ++ ys) ≡ filter p xs ++ filter p ys
keep_append p [] ys = refl
keep_append p (x ∷ xs) ys = test (p x) (λ h. rw (h, keep_append p xs ys)) (λ h. rw (h, keep_append p xs ys))

module _ (letter : ℕ) where
  strand_append : (ts us : List (List ℕ)) → strand_of letter (ts ++ us) ≡ strand_of letter ts ++ strand_of letter us
  unfolding strand_of
  strand_append ts us = rw (keep_append (ends_in letter) ts us) (map-append (λ t. take (length t - 2) t) (filter (ends_in letter) ts) (filter (ends_in letter) us))

  -- a string with the two bytes added
  module _ (t : List ℕ) where
    longer : length (t ++ (47 ∷ letter ∷ [])) - 2 ≡ length t
    longer = rw (length-append t (47 ∷ letter ∷ [])) (omega arith)

    ends : ends_in letter (t ++ (47 ∷ letter ∷ [])) ≡ true
    unfolding ends_in
    ends = rw (longer, drop-append_seam t (47 ∷ letter ∷ []), eq-eqb letter letter refl)

    bare : take (length (t ++ (47 ∷ letter ∷ [])) - 2) (t ++ (47 ∷ letter ∷ [])) ≡ t
    bare = rw longer (take-append_seam t (47 ∷ letter ∷ []))

  pub strand : Strand letter
  strand = record {
    dropped = λ ts us t e. strand_append ts (t ∷ us) ∙ rw (strand_left letter t us e) (sym (strand_append ts us));
    trimmed = λ ts us t.
        strand_append ts ((t ++ (47 ∷ letter ∷ [])) ∷ us) ∙ rw (strand_kept letter (t ++ (47 ∷ letter ∷ [])) us (ends t), bare t);
  }

-- ---- what both strands give

-- its own builder
same_caller : (c : SimpleConsensusCaller) → with_builder c.builder c ≡ c
unfolding with_builder
same_caller c = refl

not_empty : {A : Type 0} (l : List A) → (l ≡ [] → ⊥) → is_empty l ≡ false
not_empty [] h = absurd (h refl)
not_empty (x ∷ l) h = refl

-- where a verdict does not refuse
value_or : {A : Type 0} → A → Result A → A
value_or d (Err r) = d
value_or d (Ok a) = a

one_sound : (v : Verdict) (b : Found) (f : Found → FoundDuplex) (d : FoundDuplex) → and_then (judged v b) (λ y. Ok (f y)) ≡ Ok d → f b ≡ d
unfolding value_or
one_sound (Err r) b f d e = no_refusal e
one_sound (Ok _) b f d e = ap (value_or d) e

-- where neither verdict refuses
both_sound : (v : Verdict) (a : Found) (w : Found → Verdict) (b : Found → Found) (d : FoundDuplex)
    → and_then (judged v a) (λ x. and_then (judged (w x) (b x)) (λ y. Ok (paired x y))) ≡ Ok d → paired a (b a) ≡ d
both_sound (Err r) a w b d e = no_refusal e
both_sound (Ok _) a w b d e = one_sound (w a) (b a) (λ y. paired a y) d e

-- no column leaves the builder as it was
as_it_was : (c : SimpleConsensusCaller) (strings : List (List ℕ)) → no_column strings → (found c strings).builder ≡ c.builder
as_it_was c strings n =
    test (is_family strings) (λ h. (answered c strings).no_column_lem h (n h)) (answered c strings).untouched

module _ (c : SimpleConsensusCaller) (strings : List (List ℕ)) where
  a_refused : (r : Refusal) → consensus_of c (strand_of 65 strings) ≡ Err r → duplex_of c strings ≡ Err r
  unfolding duplex_of
  a_refused r e = rw e

  module _ (a : Found) (e : consensus_of c (strand_of 65 strings) ≡ Ok a) where
    b_refused : (r : Refusal) → consensus_of (with_builder a.builder c) (strand_of 66 strings) ≡ Err r → duplex_of c strings ≡ Err r
    unfolding duplex_of
    b_refused r h = rw (e, h)

    both : (b : Found) → consensus_of (with_builder a.builder c) (strand_of 66 strings) ≡ Ok b → duplex_of c strings ≡ Ok (paired a b)
    unfolding duplex_of
    both b h = rw (e, h)

  a_text : (a b : Found) → (a.text ≡ [] → ⊥) → paired a b ≡ pairing a b a.text
  unfolding paired
  a_text a b h = rw (not_empty a.text h)

  b_text : (a b : Found) → a.text ≡ [] → paired a b ≡ pairing a b b.text
  unfolding paired
  b_text a b h = rw h

  no_a : strand_of 65 strings ≡ [] → (b : Found) → consensus_of c (strand_of 66 strings) ≡ Ok b
      → duplex_of c strings ≡ Ok (record { found = record { text = b.text; had_errors = false; builder = b.builder }; had_errors_b = b.had_errors })
  no_a h b e =
      let a : Found = record { text = []; had_errors = false; builder = c.builder } in
      both a ((answered c (strand_of 65 strings)).none h) b (rw (same_caller c) e) ∙ ap Ok (b_text a b refl)

  -- the builder after an accepted call
  module _ (d : FoundDuplex) (e : duplex_of c strings ≡ Ok d) where
    abbrev after_a : ConsensusBaseBuilder
    after_a = (found c (strand_of 65 strings)).builder

    after_both : d.found.builder ≡ (found (with_builder after_a c) (strand_of 66 strings)).builder
    unfolding duplex_of paired
    after_both =
        ap (λ (x : FoundDuplex). x.found.builder)
        (sym (both_sound (consensus_verdict (strand_of 65 strings)) (found c (strand_of 65 strings))
        (λ a. consensus_verdict (strand_of 66 strings)) (λ a. found (with_builder a.builder c) (strand_of 66 strings)) d e))

    b_builder : is_family (strand_of 66 strings) ≡ true
        → (k : ℕ) → length (first_of (strand_of 66 strings)) ≡ suc k → d.found.builder ≡ builder_at c (column_of (strand_of 66 strings) k)
    b_builder h k l =
        after_both
        ∙ (answered (with_builder after_a c) (strand_of 66 strings)).last_column h k l
        ∙ same_start c after_a (column_of (strand_of 66 strings) k) (found_reset c (strand_of 65 strings))

    after_a_lem : no_column (strand_of 66 strings) → d.found.builder ≡ after_a
    unfolding with_builder
    after_a_lem n = after_both ∙ as_it_was (with_builder after_a c) (strand_of 66 strings) n

  pub duplex : Duplex c strings
  duplex = record {
    a_refused = a_refused;
    b_refused = b_refused;
    a_string = λ a e b k h. both a e b k ∙ ap Ok (a_text a b h);
    b_string = λ a e b k h. both a e b k ∙ ap Ok (b_text a b h);
    no_a = no_a;
    neither = λ h k. no_a h (record { text = []; had_errors = false; builder = c.builder }) ((answered c (strand_of 66 strings)).none k);
    b_builder = b_builder;
    a_builder = λ d e n h k l. after_a_lem d e n ∙ (answered c (strand_of 65 strings)).last_column h k l;
    same_builder = λ d e n m. after_a_lem d e n ∙ as_it_was c (strand_of 65 strings) m;
  }
