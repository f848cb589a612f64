-- Lists that a function of the place gives, and one place changed. Assumes nothing.
use Rattle.std.specs.Prelude.{◌≡◌, ℕ, ◌<◌, ◌≤◌, ◌⊎◌, length, get_or, ◌≢◌, slice_index_or, slice_set}
use Rattle.std.proofs.Common.{sym, ap, ◌∙◌, inl, inr, arith}
use Rattle.std.proofs.lemmas.List.FromFn.{get_or-map-range_with_len, length-map-range_with_len}
use Rattle.std.proofs.lemmas.List.{get_or_past, get_or-set_other, get_or-set_same, length-set, same_lists}
use Rattle.std.proofs.lemmas.Bool.{cases_eq}
use Rattle.blocks.specs.Images.{tabulated}

module _ {X : Type 0} where
  pub length-tabulated : (n : ℕ) (f : ℕ → X) → length (tabulated n f) ≡ n
  unfolding tabulated
  length-tabulated n f = length-map-range_with_len f 0 n

  pub get_or-tabulated : (n : ℕ) (f : ℕ → X) (k : ℕ) (d : X) → k < n → slice_index_or (tabulated n f) k d ≡ f k
  unfolding tabulated
  get_or-tabulated n f k d h = get_or-map-range_with_len f 0 n k k d h (omega arith)

  pub tabulated-past : (n : ℕ) (f : ℕ → X) (k : ℕ) (d : X) → n ≤ k → slice_index_or (tabulated n f) k d ≡ d
  tabulated-past n f k d h = get_or_past (tabulated n f) k d (omega (arith, length-tabulated n f))

  -- what another function gives that differs at one place alone
  pub tabulated-set : (n : ℕ) (f g : ℕ → X) (b : ℕ) (v : X) → b < n → g b ≡ v → ((k : ℕ) → k < n → (k ≢ b) → g k ≡ f k)
      → tabulated n g ≡ slice_set (tabulated n f) b v
  tabulated-set n f g b v h e same =
      same_lists (tabulated n g) (slice_set (tabulated n f) b v)
      (length-tabulated n g ∙ sym (length-set (tabulated n f) b v ∙ length-tabulated n f))
      (λ k d l. at k d (omega (arith, length-tabulated n g)) (cases_eq k b))
    where
      at : (k : ℕ) (d : X) → k < n → (k ≡ b) ⊎ (k ≢ b) → slice_index_or (tabulated n g) k d ≡ slice_index_or (slice_set (tabulated n f) b v) k d
      at k d l (inl q) =
          get_or-tabulated n g k d l ∙ ap g q ∙ e
          ∙ sym (ap (λ j. get_or (slice_set (tabulated n f) b v) j d) q ∙ get_or-set_same (tabulated n f) b v d (omega (arith, length-tabulated n f)))
      at k d l (inr q) =
          get_or-tabulated n g k d l ∙ same k l q ∙ sym (get_or-set_other (tabulated n f) b k v d q ∙ get_or-tabulated n f k d l)

  -- functions that agree below n give the same list
  pub tabulated-same : (n : ℕ) (f g : ℕ → X) → ((k : ℕ) → k < n → g k ≡ f k) → tabulated n g ≡ tabulated n f
  tabulated-same n f g same =
      same_lists (tabulated n g) (tabulated n f) (length-tabulated n g ∙ sym (length-tabulated n f))
      (λ k d h.
      let l : k < n = omega (arith, length-tabulated n g) in
      get_or-tabulated n g k d l ∙ same k l ∙ sym (get_or-tabulated n f k d l))
