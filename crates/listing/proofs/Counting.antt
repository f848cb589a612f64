-- Counts and lines of entries, one entry on and at the end. Assumes nothing.
use Rattle.std.proofs.Common.{◌≡◌, ℕ, suc, ◌+◌, ◌-◌, ◌<◌, ◌≤◌, Bool, true, false, cond, List, ◌++◌, codes, sym, ap, ◌∙◌, append_assoc, arith}
use Rattle.listing.specs.Catalogues.{count_that, rows_text}
use Rattle.lines.specs.Rows.{row_text}
use Rattle.listing.specs.Walks.{entry_at}

module _ (P : List ℕ → Bool) (bytes : List ℕ) where
  step : (e n m : ℕ) (t : Bool) → n ≡ suc m → P (entry_at bytes e) ≡ t → count_that P bytes e n ≡ cond t 1 0 + count_that P bytes (e + 1) m
  step e n m t h p = ap (count_that P bytes e) h ∙ ap (λ b. cond b 1 0 + count_that P bytes (e + 1) m) p

  pub count-more : (e to count next whole : ℕ) (t : Bool) → e < to → P (entry_at bytes e) ≡ t → next ≡ count + cond t 1 0 → count ≤ e
      → count + count_that P bytes e (to - e) ≡ whole
      → (next + count_that P bytes (e + 1) (to - (e + 1)) ≡ whole) × (next ≤ e + 1)
  count-more e to count next whole true h p n l i = (omega (arith, step e (to - e) (to - (e + 1)) true (omega arith) p), omega arith)
  count-more e to count next whole false h p n l i = (omega (arith, step e (to - e) (to - (e + 1)) false (omega arith) p), omega arith)

module _ (bytes : List ℕ) where
  pub rows_more : (e to : ℕ) (out line after whole : List ℕ) → e < to → line ≡ row_text e (entry_at bytes e) → after ≡ out ++ (line ++ codes "\n")
      → out ++ rows_text bytes e (to - e) ≡ whole → after ++ rows_text bytes (e + 1) (to - (e + 1)) ≡ whole
  rows_more e to out line after whole h l a i =
      let more : to - e ≡ suc (to - (e + 1)) = omega arith in
      let rest = rows_text bytes (e + 1) (to - (e + 1)) in
      ap (λ z. z ++ rest) a ∙ append_assoc out (line ++ codes "\n") rest ∙ ap (λ z. out ++ z) (append_assoc line (codes "\n") rest)
      ∙ ap (λ z. out ++ (z ++ (codes "\n" ++ rest))) l
      ∙ ap (λ n. out ++ rows_text bytes e n) (sym more) ∙ i
