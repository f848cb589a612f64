-- Bytes that were put over a part of others. Assumes nothing.
use Rattle.std.specs.Prelude.{◌≡◌, ℕ, ◌+◌, ◌-◌, ◌<◌, ◌≤◌, ◌⊎◌, List, ◌++◌, length, get_or, take, drop, slice_index, slice_index_or, refl}
use Rattle.std.proofs.Common.{sym, ap, ap₂, subst, ◌∙◌, inl, inr, arith, lit<}
use borrow.Rule.Slice.PartMut.{put_mid}
use Rattle.std.proofs.lemmas.List.{drop-drop, get_or_append_left, get_or-append_right, get_or-drop, get_or_past, get_or-take, length-append, length-drop, length-take, same_lists}
use Rattle.std.proofs.lemmas.Bool.{cases_lt}
use Rattle.parts.specs.Parts.{part, stored}

-- what a copy to a part leaves
pub stored-mid : (xs ys new : List ℕ) (at k : ℕ) → ys ≡ new → k ≡ length new → put_mid at k xs ys ≡ stored xs at new
stored-mid xs ys new at k e l =
    ap₂ (λ y j. take at xs ++ (y ++ drop j (drop at xs))) e l ∙ ap (λ d. take at xs ++ (new ++ d)) (drop-drop (length new) at xs)

-- bytes after others were put over a part of them
module _ (xs : List ℕ) (at : ℕ) (ys : List ℕ) (fits : at + length ys ≤ length xs) where
  front : length (take at xs) ≡ at
  front = omega (arith, length-take at xs)

  pub length-stored : length (stored xs at ys) ≡ length xs
  length-stored =
      omega (arith, length-append (take at xs) (ys ++ drop (at + length ys) xs), length-append ys (drop (at + length ys) xs), front, length-drop (at + length ys) xs)

  pub stored-before : (i d : ℕ) → i < at → slice_index_or (stored xs at ys) i d ≡ slice_index_or xs i d
  stored-before i d h = get_or_append_left (take at xs) _ d i (omega (arith, front)) ∙ get_or-take at xs i d h

  pub stored-within : (i d : ℕ) → i < length ys → slice_index_or (stored xs at ys) (at + i) d ≡ slice_index_or ys i d
  stored-within i d h =
      get_or-append_right (take at xs) (ys ++ drop (at + length ys) xs) at (at + i) d front (omega arith)
      ∙ ap (λ j. get_or (ys ++ drop (at + length ys) xs) j d) (let e : at + i - at ≡ i = omega arith in e)
      ∙ get_or_append_left ys (drop (at + length ys) xs) d i h

  pub stored-behind : (i d : ℕ) → at + length ys ≤ i → slice_index_or (stored xs at ys) i d ≡ slice_index_or xs i d
  stored-behind i d h =
      get_or-append_right (take at xs) (ys ++ drop (at + length ys) xs) at i d front (omega arith)
      ∙ get_or-append_right ys (drop (at + length ys) xs) (length ys) (i - at) d refl (omega arith)
      ∙ get_or-drop (at + length ys) xs (i - at - length ys) d
      ∙ ap (λ j. get_or xs j d) (let e : at + length ys + (i - at - length ys) ≡ i = omega arith in e)

  -- another part of them is as it was
  pub part-aside : (from n : ℕ) → (from + n ≤ at) ⊎ (at + length ys ≤ from) → take n (drop from (stored xs at ys)) ≡ take n (drop from xs)
  part-aside from n apart =
      same_lists _ _
      (length-take n (drop from (stored xs at ys)) ∙ ap (λ m. Prim.Native.Nat.min n m) (length-drop from (stored xs at ys) ∙ ap (λ m. m - from) length-stored ∙ sym (length-drop from xs))
      ∙ sym (length-take n (drop from xs)))
      (λ k d h. at' k d (omega (arith, length-take n (drop from (stored xs at ys)))) apart)
    where
      at' : (k d : ℕ) → k < n → (from + n ≤ at) ⊎ (at + length ys ≤ from) → slice_index_or (take n (drop from (stored xs at ys))) k d ≡ slice_index_or (take n (drop from xs)) k d
      at' k d l (inl q) =
          get_or-take n _ k d l ∙ get_or-drop from (stored xs at ys) k d ∙ stored-before (from + k) d (omega arith)
          ∙ sym (get_or-take n (drop from xs) k d l ∙ get_or-drop from xs k d)
      at' k d l (inr q) =
          get_or-take n _ k d l ∙ get_or-drop from (stored xs at ys) k d ∙ stored-behind (from + k) d (omega arith)
          ∙ sym (get_or-take n (drop from xs) k d l ∙ get_or-drop from xs k d)

  -- the part itself holds what was put there
  pub part-itself : take (length ys) (drop at (stored xs at ys)) ≡ ys
  part-itself =
      same_lists _ _
      (omega (arith, length-take (length ys) (drop at (stored xs at ys)), length-drop at (stored xs at ys), length-stored))
      (λ k d h.
      let l : k < length ys = omega (arith, length-take (length ys) (drop at (stored xs at ys))) in
      get_or-take (length ys) (drop at (stored xs at ys)) k d l ∙ get_or-drop at (stored xs at ys) k d ∙ stored-within k d l)

-- each byte of a part fits where all bytes fit
pub part-small : (xs : List ℕ) (at n : ℕ) → ((j : ℕ) → slice_index xs j < 256) → (i : ℕ) → slice_index (part at n xs) i < 256
part-small xs at n small i = by (cases_lt i n)
  where
    by : (i < n) ⊎ (n ≤ i) → slice_index (part at n xs) i < 256
    by (inl h) = rw (get_or-take n (drop at xs) i 0 h ∙ get_or-drop at xs i 0) (small (at + i))
    by (inr h) = rw (get_or_past (part at n xs) i 0 (omega (arith, length-take n (drop at xs)))) (lit< tt)

-- each byte fits after a write of bytes that fit
pub stored-small : (xs : List ℕ) (at : ℕ) (ys : List ℕ) → at + length ys ≤ length xs → ((i : ℕ) → slice_index xs i < 256) → ((i : ℕ) → slice_index ys i < 256)
    → (i : ℕ) → slice_index (stored xs at ys) i < 256
stored-small xs at ys fits old new i = by (cases_lt i at) (cases_lt i (at + length ys))
  where
    by : (i < at) ⊎ (at ≤ i) → (i < at + length ys) ⊎ (at + length ys ≤ i) → slice_index (stored xs at ys) i < 256
    by (inl h) q = rw (stored-before xs at ys fits i 0 h) (old i)
    by (inr h) (inl q) =
        let e : at + (i - at) ≡ i = omega arith in
        subst (λ v. v < 256) (sym (ap (λ j. slice_index (stored xs at ys) j) (sym e) ∙ stored-within xs at ys fits (i - at) 0 (omega arith))) (new (i - at))
    by (inr h) (inr q) = rw (stored-behind xs at ys fits i 0 q) (old i)
