-- Bytes as a device: its laws, its blocks, a write, and the bytes again. Assumes nothing.
use Rattle.std.specs.Prelude.{◌≡◌, ℕ, zero, suc, ◌+◌, ◌*◌, ◌/◌, ◌%◌, ◌<◌, ◌≤◌, Bool, true, false, ◌&&◌, ◌⊎◌, List, [], ◌++◌, map, length, take, drop, None, Ok, ◌==◌, ◌≢◌, nat_le, slice_index, slice_index_or, refl}
use Rattle.std.proofs.Common.{sym, ap, ap₂, subst, ◌∙◌, inl, inr, arith, lit<, lit≤, take-add}
use Rattle.std.specs.List.{range_with_len, flat_map}
use Rattle.std.proofs.lemmas.List.{drop-drop, length-drop, length-take, take_all}
use Rattle.std.proofs.lemmas.Bool.{and_parts, cases_lt, eqb-true, leb-true}
use Rattle.blocks.specs.Devices.{ShallowMark, ShallowTab, block_at, in_range, mark_at, mark_fault, outcome, read_fault, read_out, size_of, tab_fault, write_fault, written}
use Rattle.blocks.specs.Images.{encoded, image_block, image_of, is_image, numbered, tab_of, tabulated}
use Rattle.blocks.specs.declared.faults.Mark.TheVariants.{Sound}
use Rattle.blocks.specs.declared.faults.Tab.{Tab}
use Rattle.parts.proofs.Storing.{length-stored, part-aside, part-itself, part-small}
use Rattle.parts.specs.Parts.{stored}
use Rattle.blocks.specs.Ranges.{range-facts, read-in-range, write-in-range}
use Rattle.blocks.specs.Tables.{get_or-tabulated, length-tabulated, tabulated-past, tabulated-set}

-- what it means that bytes are an image
pub image-facts : (xs : List ℕ) → is_image xs ≡ true → (length xs ≡ 1024 * (length xs / 1024)) × (1 ≤ length xs / 1024) × (length xs / 1024 ≤ 65535)
image-facts xs h =
    let parts = and_parts (length xs % 1024 == 0) _ h in
    let bounds = and_parts (nat_le 1 (length xs / 1024)) (nat_le (length xs / 1024) 65535) parts.1 in
    let even = eqb-true (length xs % 1024) 0 parts.0 in
    (omega arith, leb-true 1 (length xs / 1024) bounds.0, leb-true (length xs / 1024) 65535 bounds.1)

pub image-size : (xs : List ℕ) (p : Bool) → size_of (image_of xs p) ≡ length xs / 1024
image-size xs p = length-tabulated (length xs / 1024) (image_block xs)

module _ (xs : List ℕ) (p : Bool) (whole : is_image xs ≡ true) where
  pub image-sized : (1 ≤ size_of (image_of xs p)) × (size_of (image_of xs p) ≤ 65535)
  image-sized = let f = image-facts xs whole in (omega (arith, image-size xs p, f.1), omega (arith, image-size xs p, f.2))

  pub image-block : (b : ℕ) → b < size_of (image_of xs p) → block_at (image_of xs p) b ≡ image_block xs b
  image-block b h = get_or-tabulated (length xs / 1024) (image_block xs) b [] (omega (arith, image-size xs p))

  pub image-end : (b : ℕ) → b < size_of (image_of xs p) → 1024 * b + 1024 ≤ length xs
  image-end b h = omega (arith, image-size xs p, (image-facts xs whole).0)

  pub image-wide : (b : ℕ) → b < size_of (image_of xs p) → length (block_at (image_of xs p) b) ≡ 1024
  image-wide b h =
      ap length (image-block b h) ∙ length-take 1024 (drop (1024 * b) xs)
      ∙ (let e : Prim.Native.Nat.min 1024 (length (drop (1024 * b) xs)) ≡ 1024 = omega (arith, length-drop (1024 * b) xs, image-end b h) in e)

  pub image-small : ((i : ℕ) → slice_index xs i < 256) → (b i : ℕ) → slice_index (block_at (image_of xs p) b) i < 256
  image-small small b i = by (cases_lt b (length xs / 1024))
    where
      by : (b < length xs / 1024) ⊎ (length xs / 1024 ≤ b) → slice_index (block_at (image_of xs p) b) i < 256
      by (inl h) = rw (get_or-tabulated (length xs / 1024) (image_block xs) b [] h) (part-small xs (1024 * b) 1024 small i)
      by (inr h) = rw (tabulated-past (length xs / 1024) (image_block xs) b [] h) (lit< tt)

pub image-marked : (xs : List ℕ) (p : Bool) → length (image_of xs p).marks ≡ size_of (image_of xs p)
image-marked xs p = length-tabulated (length xs / 1024) (λ _. Sound) ∙ sym (image-size xs p)

-- a mark that is the same at every block
pub sound-everywhere : (n b : ℕ) → slice_index_or (tabulated n (λ (_ : ℕ). Sound)) b Sound ≡ Sound
sound-everywhere n b = by (cases_lt b n)
  where
    by : (b < n) ⊎ (n ≤ b) → slice_index_or (tabulated n (λ (_ : ℕ). Sound)) b Sound ≡ Sound
    by (inl h) = get_or-tabulated n (λ _. Sound) b Sound h
    by (inr h) = tabulated-past n (λ _. Sound) b Sound h

pub tab-shallow : (p : Bool) → ShallowTab (tab_of p)
tab-shallow true = lit≤ tt
tab-shallow false = tt

-- the tab lets a write pass only where it is off
pub tab-off : (p : Bool) (t : Tab) → t ≡ tab_of p → Ok tt ≡ outcome (tab_fault t None) → p ≡ false
tab-off true t e passed = absurd cc
tab-off false t e passed = refl

pub image-shallow : (xs : List ℕ) (p : Bool) (b : ℕ) → ShallowMark (mark_at (image_of xs p) b) × ShallowTab (image_of xs p).tab
image-shallow xs p b = (subst ShallowMark (sym (sound-everywhere (length xs / 1024) b)) tt, tab-shallow p)

-- blocks one after the other are the bytes that they were cut from
joined-blocks : (xs : List ℕ) (a n : ℕ) → flat_map (λ (x : List ℕ). x) (map (image_block xs) (range_with_len a n)) ≡ take (1024 * n) (drop (1024 * a) xs)
joined-blocks xs a zero = refl
joined-blocks xs a (suc n) =
    let next : 1024 * a + 1024 ≡ 1024 * (a + 1) = omega arith in
    let more : 1024 + 1024 * n ≡ 1024 * suc n = omega arith in
    ap (λ r. image_block xs a ++ r) (joined-blocks xs (a + 1) n ∙ ap (λ m. take (1024 * n) (drop m xs)) (sym next) ∙ ap (take (1024 * n)) (sym (drop-drop 1024 (1024 * a) xs)))
    ∙ sym (take-add 1024 (1024 * n) (drop (1024 * a) xs)) ∙ ap (λ m. take m (drop (1024 * a) xs)) more

pub encoded-image : (xs : List ℕ) (p : Bool) → is_image xs ≡ true → xs ≡ encoded (image_of xs p)
unfolding tabulated
encoded-image xs p whole =
    let n = length xs / 1024 in
    sym (joined-blocks xs 0 n ∙ take_all (1024 * n) xs (omega (arith, (image-facts xs whole).0)))

-- a read in range
module _ (xs : List ℕ) (p : Bool) (whole : is_image xs ≡ true) (b len : ℕ) (inside : in_range (image_of xs p) b len ≡ true) where
  pub image-fits : 1024 * b + 1024 ≤ length xs
  image-fits = image-end xs p whole b (range-facts (image_of xs p) b len inside).0

  granted : read_fault (image_of xs p) b len ≡ None
  granted =
      read-in-range (image_of xs p) b len inside ∙ ap mark_fault (sound-everywhere (length xs / 1024) b)

  pub image-read : Ok tt ≡ outcome (read_fault (image_of xs p) b len)
  image-read = sym (ap outcome granted)

  pub image-filled : (n : ℕ) → n ≡ 1024 → (buffer : List ℕ) → take n (drop (1024 * b) xs) ≡ read_out (read_fault (image_of xs p) b len) (block_at (image_of xs p) b) buffer
  image-filled n e buffer =
      ap (λ l. take l (drop (1024 * b) xs)) e ∙ sym (image-block xs p whole b (range-facts (image_of xs p) b len inside).0)
      ∙ sym (ap (λ o. read_out o (block_at (image_of xs p) b) buffer) granted)

  pub image-written-none : p ≡ false → write_fault (image_of xs p) b len ≡ None
  image-written-none off =
      write-in-range (image_of xs p) b len inside
      ∙ ap₂ (λ t m. tab_fault t (mark_fault m)) (ap tab_of off) (sound-everywhere (length xs / 1024) b)

  -- the image after a write in range
  pub image-after : (ys : List ℕ) → length ys ≡ len → p ≡ false → image_of (stored xs (1024 * b) ys) p ≡ written (write_fault (image_of xs p) b len) (image_of xs p) b ys
  image-after ys e off =
      let at = 1024 * b in
      let n = length xs / 1024 in
      let wide : length ys ≡ 1024 = omega (arith, (range-facts (image_of xs p) b len inside).1) in
      let fits : at + length ys ≤ length xs = omega (arith, image-fits) in
      ap (λ m. numbered (m / 1024) (image_block (stored xs at ys)) (λ _. Sound) (tab_of p)) (length-stored xs at ys fits)
      ∙ ap (λ bs. record { blocks = bs; marks = tabulated n (λ _. Sound); tab = tab_of p })
      (tabulated-set n (image_block xs) (image_block (stored xs at ys)) b ys (omega (arith, (range-facts (image_of xs p) b len inside).0, image-size xs p))
      (ap (λ l. take l (drop at (stored xs at ys))) (sym wide) ∙ part-itself xs at ys fits)
      (λ k l other. part-aside xs at ys fits (1024 * k) 1024 (aside k (omega (arith, wide)) (cases_lt k b) other)))
      ∙ sym (ap (λ o. written o (image_of xs p) b ys) (image-written-none off))
    where
      aside : (k : ℕ) → 1024 * b + length ys ≤ 1024 * b + 1024 → (k < b) ⊎ (b ≤ k) → (k ≢ b) → (1024 * k + 1024 ≤ 1024 * b) ⊎ (1024 * b + length ys ≤ 1024 * k)
      aside k w (inl h) other = inl (omega arith)
      aside k w (inr h) other = inr (omega arith)

  pub image-whole : (ys : List ℕ) → length ys ≡ len → is_image (stored xs (1024 * b) ys) ≡ true
  image-whole ys e =
      let fits : 1024 * b + length ys ≤ length xs = omega (arith, image-fits, (range-facts (image_of xs p) b len inside).1) in
      ap (λ m. (m % 1024 == 0) && (nat_le 1 (m / 1024) && nat_le (m / 1024) 65535)) (length-stored xs (1024 * b) ys fits) ∙ whole
