-- Parts printed one after another, and a buffer that they fill. Assumes nothing.
use Rattle.std.proofs.Common.{◌≡◌, ℕ, ◌+◌, ◌<◌, List, [], ◌∷◌, ◌++◌, length, get_or, take, ◌∙◌, append_assoc, append-nil, arith, drop_of_length-le, le-leb, ◌≤◌}
use Rattle.std.proofs.lemmas.List.{take_more}
use Rattle.lent_bytes.specs.Buffer.{written}
use Rattle.lent_bytes.specs.Bytes.{joined}
use Rattle.lent_bytes.proofs.Joined.{joined_append}
use Rattle.lent_text.specs.declared.Printer.{Printer}
use Rattle.lent_text.specs.Printed.{Printed}
use Rattle.lent_text.proofs.Printed.{printed_written}
use Rattle.export_reports.specs.Report.{each_lane}

module _ {A : Type 0} (bytes : A → List ℕ) where
  -- one part more
  pub one_part : (l : List A) (d : A) (i : ℕ) → i < length l → joined bytes (take (i + 1) l) ≡ joined bytes (take i l) ++ bytes (get_or l i d)
  one_part l d i h = rw (take_more l i d h, joined_append, append-nil (bytes (get_or l i d)))

  -- those of four lanes
  pub four_parts : (l : List A) (d : A) → length l ≡ 4 → joined bytes l ≡ each_lane (λ i. bytes (get_or l i d))
  unfolding each_lane
  four_parts [] d h = absurd (omega arith)
  four_parts (a ∷ []) d h = absurd (omega arith)
  four_parts (a ∷ b ∷ []) d h = absurd (omega arith)
  four_parts (a ∷ b ∷ c ∷ []) d h = absurd (omega arith)
  four_parts (a ∷ b ∷ c ∷ e ∷ []) d h = simp (append-nil, append_assoc)
  four_parts (a ∷ b ∷ c ∷ e ∷ f ∷ l) d h = absurd (omega arith)

-- a text that fills the buffer
pub printed_whole : {p q : Printer} {t : List ℕ} → Printed p q t → p.at ≡ 0 → length t ≡ length p.out.now → q.out.now ≡ t
unfolding written
printed_whole {p} {q} {t} f z h =
    let fits : length t ≤ length p.out.now = omega arith in
    let ends : length p.out.now ≤ length t = omega arith in
    (printed_written f z fits).1 ∙ rw (le-leb _ _ fits, drop_of_length-le p.out.now ends) (append-nil t)
