-- Records as a device: its laws, its blocks, a write, and the records again. Assumes nothing.
use Rattle.std.specs.Prelude.{◌≡◌, ℕ, zero, suc, ◌+◌, ◌-◌, ◌*◌, ◌/◌, ◌%◌, ◌<◌, ◌≤◌, Bool, true, false, cond, ◌&&◌, ◌⊎◌, List, [], ◌∷◌, ◌++◌, map, length, take, drop, set, None, ◌==◌, ◌≢◌, slice_index, slice_set, refl}
use Rattle.std.proofs.Math.Path.{sym}
use Rattle.std.proofs.Common.{ap, ap₂, subst, ◌∙◌, append-nil, inl, inr, ⊎_elim, arith, lit<, lit≤, take-add}
use borrow.Rule.Slice.PartMut.{put_mid}
use Rattle.std.specs.List.{range_with_len, flat_map}
use Rattle.std.proofs.lemmas.List.{drop_all, drop_at, drop-drop, get_or_append_left, get_or-append_right, get_or-drop, length-append, length-drop, length-take, take_all, take-append-drop, take_at, take_more}
use Rattle.std.proofs.lemmas.Bool.{cases_lt, cases_order, eqb-true}
use Rattle.blocks.specs.Devices.{ShallowMark, ShallowTab, block_at, in_range, mark_at, size_of, written}
use Rattle.blocks.specs.Images.{tab_of, tabulated}
use Rattle.parts.specs.Parts.{stored}
use Rattle.blocks.specs.declared.faults.Mark.TheVariants.{Sound, Bad}
use Rattle.blocks.specs.Imaging.{tab-shallow}
use Rattle.parts.proofs.Storing.{length-stored, part-aside, part-itself, part-small, stored-before, stored-behind}
use Rattle.blocks.specs.Ranges.{range-facts}
use Rattle.blocks.specs.Tables.{get_or-tabulated, length-tabulated, tabulated-past, tabulated-same, tabulated-set}
use Rattle.sectors.specs.Disks.{block_count, disk_block, disk_mark, disk_of, encoded_disk, is_disk, is_good, record_count, sector_bytes, sector_in, sector_of, start_of, statuses, step_back}
use Rattle.sectors.specs.Interleave.{record_of, sector_count, step_size, track_count}
use Rattle.sectors.specs.Records.{disk-interleaves, inside, undone}

pub disk-length : (xs : List ℕ) → is_disk xs ≡ true → length xs ≡ 513 * record_count
disk-length xs h = eqb-true (length xs) (513 * record_count) h

-- a sector's record lies on the disk
pub start-within : (q : ℕ) → q < record_count → start_of q + 513 ≤ 513 * record_count
start-within q h = omega (arith, disk-interleaves.within q h)

-- the records of two sectors lie apart
pub starts_apart : (p q : ℕ) → p < record_count → q < record_count → (p ≢ q) → (start_of p + 513 ≤ start_of q) ⊎ (start_of q + 513 ≤ start_of p)
starts_apart p q hp hq other = by (cases_order (record_of sector_count step_size p) (record_of sector_count step_size q))
  where
    by : (record_of sector_count step_size p ≡ record_of sector_count step_size q)
        ⊎ ((record_of sector_count step_size p < record_of sector_count step_size q) ⊎ (record_of sector_count step_size q < record_of sector_count step_size p))
        → (start_of p + 513 ≤ start_of q) ⊎ (start_of q + 513 ≤ start_of p)
    by (inl e) = absurd (other (disk-interleaves.apart p q hp hq e))
    by (inr (inl h)) = inl (omega arith)
    by (inr (inr h)) = inr (omega arith)

pub length-sector : (xs : List ℕ) (q : ℕ) → length xs ≡ 513 * record_count → q < record_count → length (sector_bytes xs q) ≡ 512
length-sector xs q e h = omega (arith, length-take 512 (drop (start_of q) xs), length-drop (start_of q) xs, start-within q h)

-- the laws of a disk
pub disk-size : (xs : List ℕ) (p : Bool) → size_of (disk_of xs p) ≡ block_count
disk-size xs p = length-tabulated block_count (disk_block xs)

pub disk-sized : (xs : List ℕ) (p : Bool) → (1 ≤ size_of (disk_of xs p)) × (size_of (disk_of xs p) ≤ 65535)
disk-sized xs p = (omega (arith, disk-size xs p), omega (arith, disk-size xs p))

pub disk-block : (xs : List ℕ) (p : Bool) (b : ℕ) → b < block_count → block_at (disk_of xs p) b ≡ disk_block xs b
disk-block xs p b h = get_or-tabulated block_count (disk_block xs) b [] h

pub block-wide : (xs : List ℕ) (b : ℕ) → length xs ≡ 513 * record_count → b < block_count → length (disk_block xs b) ≡ 1024
block-wide xs b e h =
    omega (arith, length-append (sector_bytes xs (2 * b)) (sector_bytes xs (2 * b + 1)), length-sector xs (2 * b) e (omega arith), length-sector xs (2 * b + 1) e (omega arith))

pub disk-wide : (xs : List ℕ) (p : Bool) → is_disk xs ≡ true → (b : ℕ) → b < size_of (disk_of xs p) → length (block_at (disk_of xs p) b) ≡ 1024
disk-wide xs p whole b h =
    let l : b < block_count = omega (arith, disk-size xs p) in
    ap length (disk-block xs p b l) ∙ block-wide xs b (disk-length xs whole) l

append-small : (xs ys : List ℕ) → ((i : ℕ) → slice_index xs i < 256) → ((i : ℕ) → slice_index ys i < 256) → (i : ℕ) → slice_index (xs ++ ys) i < 256
append-small xs ys hx hy i = by (cases_lt i (length xs))
  where
    by : (i < length xs) ⊎ (length xs ≤ i) → slice_index (xs ++ ys) i < 256
    by (inl h) = subst (λ v. v < 256) (sym (get_or_append_left xs ys 0 i h)) (hx i)
    by (inr h) = subst (λ v. v < 256) (sym (get_or-append_right xs ys (length xs) i 0 refl h)) (hy (i - length xs))

pub disk-small : (xs : List ℕ) (p : Bool) → ((i : ℕ) → slice_index xs i < 256) → (b i : ℕ) → slice_index (block_at (disk_of xs p) b) i < 256
disk-small xs p small b i = by (cases_lt b block_count)
  where
    by : (b < block_count) ⊎ (block_count ≤ b) → slice_index (block_at (disk_of xs p) b) i < 256
    by (inl h) =
        subst (λ x. slice_index x i < 256) (sym (disk-block xs p b h))
        (append-small (sector_bytes xs (2 * b)) (sector_bytes xs (2 * b + 1)) (part-small xs (start_of (2 * b)) 512 small) (part-small xs (start_of (2 * b + 1)) 512 small) i)
    by (inr h) = subst (λ x. slice_index x i < 256) (sym (tabulated-past block_count (disk_block xs) b [] h)) (lit< tt)

pub disk-mark-at : (xs : List ℕ) (p : Bool) (b : ℕ) → b < block_count → (good : Bool) → good ≡ is_good xs b → cond good Sound (Bad 0 b) ≡ mark_at (disk_of xs p) b
disk-mark-at xs p b h good e = ap (λ t. cond t Sound (Bad 0 b)) e ∙ sym (get_or-tabulated block_count (disk_mark xs) b Sound h)

pub disk-marked : (xs : List ℕ) (p : Bool) → length (disk_of xs p).marks ≡ size_of (disk_of xs p)
disk-marked xs p = length-tabulated block_count (disk_mark xs) ∙ sym (disk-size xs p)

mark-shallow : (good : Bool) (b : ℕ) → b < block_count → ShallowMark (cond good Sound (Bad 0 b))
mark-shallow true b h = tt
mark-shallow false b h = (lit≤ tt, omega arith)

pub disk-shallow : (xs : List ℕ) (p : Bool) (b : ℕ) → ShallowMark (mark_at (disk_of xs p) b) × ShallowTab (disk_of xs p).tab
disk-shallow xs p b = (by (cases_lt b block_count), tab-shallow p)
  where
    by : (b < block_count) ⊎ (block_count ≤ b) → ShallowMark (mark_at (disk_of xs p) b)
    by (inl h) = subst ShallowMark (sym (get_or-tabulated block_count (disk_mark xs) b Sound h)) (mark-shallow (is_good xs b) b h)
    by (inr h) = subst ShallowMark (sym (tabulated-past block_count (disk_mark xs) b Sound h)) tt

-- two halves put into a buffer of a block
pub halves : (one rest two : List ℕ) (k : ℕ) → length one ≡ 512 → length rest ≤ k → put_mid 512 k (one ++ rest) two ≡ one ++ two
halves one rest two k f h =
    ap₂ (λ x y. x ++ (two ++ y)) (take_at one rest 512 f) (ap (drop k) (drop_at one rest 512 f) ∙ drop_all k rest h) ∙ ap (λ z. one ++ z) (append-nil two)

-- a block in range
pub block-and-length : (xs : List ℕ) (p : Bool) (b len : ℕ) → in_range (disk_of xs p) b len ≡ true → (b < block_count) × (len ≡ 1024)
block-and-length xs p b len in' =
    let (less, wide) = range-facts (disk_of xs p) b len in' in
    (omega (arith, disk-size xs p), wide)

-- the records after both sectors of a block were written
module _ (xs : List ℕ) (long : length xs ≡ 513 * record_count) (b : ℕ) (l : b < block_count) (one two : List ℕ) (f : length one ≡ 512) (s : length two ≡ 512) where
  pub fits_one : start_of (2 * b) + length one ≤ length xs
  fits_one = omega (arith, start-within (2 * b) (omega arith))

  pub long-one : length (stored xs (start_of (2 * b)) one) ≡ length xs
  long-one = length-stored xs (start_of (2 * b)) one fits_one

  pub fits-two : start_of (2 * b + 1) + length two ≤ length (stored xs (start_of (2 * b)) one)
  fits-two = omega (arith, long-one, start-within (2 * b + 1) (omega arith))

  -- the place of another sector lies aside of both
  aside : (q : ℕ) → q < record_count → (w : ℕ) → w < record_count → (q ≢ w) → (n : ℕ) → n ≡ 512
      → (start_of q + 512 ≤ start_of w) ⊎ (start_of w + n ≤ start_of q)
  aside q hq w hw other n e = ⊎_elim (λ h. inl (omega arith)) (λ h. inr (omega arith)) (starts_apart q w hq hw other)

  pub sector-aside : (q : ℕ) → q < record_count → (q ≢ 2 * b) → (q ≢ 2 * b + 1)
      → sector_bytes (stored (stored xs (start_of (2 * b)) one) (start_of (2 * b + 1)) two) q ≡ sector_bytes xs q
  sector-aside q h n m =
      part-aside (stored xs (start_of (2 * b)) one) (start_of (2 * b + 1)) two fits-two (start_of q) 512 (aside q h (2 * b + 1) (omega arith) m (length two) s)
      ∙ part-aside xs (start_of (2 * b)) one fits_one (start_of q) 512 (aside q h (2 * b) (omega arith) n (length one) f)

  pub first-itself : sector_bytes (stored (stored xs (start_of (2 * b)) one) (start_of (2 * b + 1)) two) (2 * b) ≡ one
  first-itself =
      part-aside (stored xs (start_of (2 * b)) one) (start_of (2 * b + 1)) two fits-two (start_of (2 * b)) 512
      (aside (2 * b) (omega arith) (2 * b + 1) (omega arith) (λ e. omega arith) (length two) s)
      ∙ ap (λ n. take n (drop (start_of (2 * b)) (stored xs (start_of (2 * b)) one))) (sym f) ∙ part-itself xs (start_of (2 * b)) one fits_one

  pub second-itself : sector_bytes (stored (stored xs (start_of (2 * b)) one) (start_of (2 * b + 1)) two) (2 * b + 1) ≡ two
  second-itself =
      ap (λ n. take n (drop (start_of (2 * b + 1)) (stored (stored xs (start_of (2 * b)) one) (start_of (2 * b + 1)) two))) (sym s)
      ∙ part-itself (stored xs (start_of (2 * b)) one) (start_of (2 * b + 1)) two fits-two

  -- a record's status byte is no sector's
  status-kept : (ys zs : List ℕ) (r k : ℕ) → length zs ≡ 512 → 513 * r + length zs ≤ length ys → slice_index (stored ys (513 * r) zs) (513 * k + 512) ≡ slice_index ys (513 * k + 512)
  status-kept ys zs r k e fits = by (cases_lt k r)
    where
      by : (k < r) ⊎ (r ≤ k) → slice_index (stored ys (513 * r) zs) (513 * k + 512) ≡ slice_index ys (513 * k + 512)
      by (inl h) = stored-before ys (513 * r) zs fits (513 * k + 512) 0 (omega arith)
      by (inr h) = stored-behind ys (513 * r) zs fits (513 * k + 512) 0 (omega arith)

  pub record-status : (k : ℕ) → slice_index (stored (stored xs (start_of (2 * b)) one) (start_of (2 * b + 1)) two) (513 * k + 512) ≡ slice_index xs (513 * k + 512)
  record-status k =
      status-kept (stored xs (start_of (2 * b)) one) two (record_of sector_count step_size (2 * b + 1)) k s fits-two
      ∙ status-kept xs one (record_of sector_count step_size (2 * b)) k f fits_one

  pub statuses-kept : statuses (stored (stored xs (start_of (2 * b)) one) (start_of (2 * b + 1)) two) ≡ statuses xs
  statuses-kept = tabulated-same record_count (λ k. slice_index xs (513 * k + 512)) _ (λ k _. record-status k)

  pub marks-kept : tabulated block_count (disk_mark (stored (stored xs (start_of (2 * b)) one) (start_of (2 * b + 1)) two)) ≡ tabulated block_count (disk_mark xs)
  marks-kept =
      tabulated-same block_count (disk_mark xs) _
      (λ k _. ap₂ (λ x y. cond (x == 0 && y == 0) Sound (Bad 0 k)) (record-status (record_of sector_count step_size (2 * k))) (record-status (record_of sector_count step_size (2 * k + 1))))

  pub blocks-after : tabulated block_count (disk_block (stored (stored xs (start_of (2 * b)) one) (start_of (2 * b + 1)) two)) ≡ slice_set (tabulated block_count (disk_block xs)) b (one ++ two)
  blocks-after =
      tabulated-set block_count (disk_block xs) _ b (one ++ two) l (ap₂ (λ x y. x ++ y) first-itself second-itself)
      (λ k h other. ap₂ (λ x y. x ++ y)
      (sector-aside (2 * k) (omega arith) (λ e. other (omega arith)) (λ e. omega arith))
      (sector-aside (2 * k + 1) (omega arith) (λ e. omega arith) (λ e. other (omega arith))))

-- the records again, from the blocks
module _ (xs : List ℕ) (p : Bool) (long : length xs ≡ 513 * record_count) where
  sector-there : (q : ℕ) → q < record_count → sector_of (disk_of xs p) q ≡ sector_bytes xs q
  sector-there q h =
      let c = q / 2 in
      let A = sector_bytes xs (2 * c) in
      let B = sector_bytes xs (2 * c + 1) in
      let la = length-sector xs (2 * c) long (omega arith) in
      ap (λ x. take 512 (drop (512 * (q % 2)) x)) (disk-block xs p c (omega arith)) ∙ by (q % 2) refl (omega arith) la
    where
      by : (r : ℕ) → r ≡ q % 2 → r < 2 → length (sector_bytes xs (2 * (q / 2))) ≡ 512
          → take 512 (drop (512 * r) (sector_bytes xs (2 * (q / 2)) ++ sector_bytes xs (2 * (q / 2) + 1))) ≡ sector_bytes xs q
      by zero e h la =
          take_at (sector_bytes xs (2 * (q / 2))) (sector_bytes xs (2 * (q / 2) + 1)) 512 la
          ∙ ap (sector_bytes xs) (let even : 2 * (q / 2) ≡ q = omega arith in even)
      by (suc zero) e h la =
          ap (take 512) (drop_at (sector_bytes xs (2 * (q / 2))) (sector_bytes xs (2 * (q / 2) + 1)) 512 la)
          ∙ take_all 512 (sector_bytes xs (2 * (q / 2) + 1)) (omega (arith, length-take 512 (drop (start_of (2 * (q / 2) + 1)) xs)))
          ∙ ap (sector_bytes xs) (let odd : 2 * (q / 2) + 1 ≡ q = omega arith in odd)
      by (suc (suc r)) e h la = absurd (omega arith)

  piece : (k : ℕ) → k < record_count → sector_of (disk_of xs p) (sector_in k) ++ (slice_index (statuses xs) k ∷ []) ≡ take 513 (drop (513 * k) xs)
  piece k h =
      let back = undone sector_count (lit< tt) step_size step_back k refl in
      let status = get_or-tabulated record_count (λ j. slice_index xs (513 * j + 512)) k 0 h ∙ sym (get_or-drop (513 * k) xs 512 0) in
      ap₂ (λ x y. x ++ (y ∷ []))
      (sector-there (sector_in k) (inside sector_count (lit< tt) track_count step_back k h) ∙ ap (λ r. take 512 (drop (513 * r) xs)) back) status
      ∙ sym (take_more (drop (513 * k) xs) 512 0 (omega (arith, length-drop (513 * k) xs)))

  pieces : (a n : ℕ) → a + n ≤ record_count
      → flat_map (λ (x : List ℕ). x) (map (λ k. sector_of (disk_of xs p) (sector_in k) ++ (slice_index (statuses xs) k ∷ [])) (range_with_len a n)) ≡ take (513 * n) (drop (513 * a) xs)
  pieces a zero h = refl
  pieces a (suc n) h =
      let next : 513 * a + 513 ≡ 513 * (a + 1) = omega arith in
      let more : 513 + 513 * n ≡ 513 * suc n = omega arith in
      ap₂ (λ x y. x ++ y) (piece a (omega arith))
      (pieces (a + 1) n (omega arith) ∙ ap (λ m. take (513 * n) (drop m xs)) (sym next) ∙ ap (take (513 * n)) (sym (drop-drop 513 (513 * a) xs)))
      ∙ sym (take-add 513 (513 * n) (drop (513 * a) xs)) ∙ ap (λ m. take m (drop (513 * a) xs)) more

  all-pieces : (n : ℕ) → n ≡ record_count → xs ≡ flat_map (λ (x : List ℕ). x) (tabulated n (λ k. sector_of (disk_of xs p) (sector_in k) ++ (slice_index (statuses xs) k ∷ [])))
  unfolding tabulated
  all-pieces n e = sym (pieces 0 n (omega arith) ∙ take_all (513 * n) xs (omega arith))

  pub encoded-disk : xs ≡ encoded_disk (disk_of xs p) (statuses xs)
  encoded-disk = all-pieces record_count refl

-- a write of both halves of a buffer
module _ (xs : List ℕ) (p : Bool) (whole : is_disk xs ≡ true) (b : ℕ) (l : b < block_count) (ys : List ℕ) (wide : length ys ≡ 1024) where
  half-one : length (take 512 ys) ≡ 512
  half-one = omega (arith, length-take 512 ys)

  half-two : length (take 512 (drop 512 ys)) ≡ 512
  half-two = omega (arith, length-take 512 (drop 512 ys), length-drop 512 ys)

  both_halves : take 512 ys ++ take 512 (drop 512 ys) ≡ ys
  both_halves = ap (λ z. take 512 ys ++ z) (take_all 512 (drop 512 ys) (omega (arith, length-drop 512 ys))) ∙ take-append-drop 512 ys

  long : length xs ≡ 513 * record_count
  long = disk-length xs whole

  pub written-statuses : statuses (stored (stored xs (start_of (2 * b)) (take 512 ys)) (start_of (2 * b + 1)) (take 512 (drop 512 ys))) ≡ statuses xs
  written-statuses = statuses-kept xs long b l (take 512 ys) (take 512 (drop 512 ys)) half-one half-two

  pub disk-after : disk_of (stored (stored xs (start_of (2 * b)) (take 512 ys)) (start_of (2 * b + 1)) (take 512 (drop 512 ys))) p ≡ written None (disk_of xs p) b ys
  disk-after =
      ap₂ (λ bs ms. record { blocks = bs; marks = ms; tab = tab_of p })
      (blocks-after xs long b l (take 512 ys) (take 512 (drop 512 ys)) half-one half-two ∙ ap (set (tabulated block_count (disk_block xs)) b) both_halves)
      (marks-kept xs long b l (take 512 ys) (take 512 (drop 512 ys)) half-one half-two)
