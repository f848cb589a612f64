-- Blocks and marks seen through a window, and a write through it. Assumes nothing.
use Rattle.std.specs.Prelude.{◌≡◌, ℕ, zero, suc, ◌+◌, ◌-◌, ◌<◌, ◌≤◌, min, true, ◌⊎◌, List, [], ◌∷◌, map, length, take, drop, Some, None, Option, ◌==◌, slice_index, slice_index_or, slice_set, refl}
use Rattle.std.proofs.Common.{sym, ap, subst, ◌∙◌, inl, inr, arith, lit<}
use Rattle.std.proofs.lemmas.List.{drop-set-add, get_or-drop, get_or_past, get_or-take, length-drop, length-set, length-take}
use Rattle.std.proofs.lemmas.Bool.{and_from, cases_lt, lt-ltb}
use Rattle.blocks.specs.Devices.{Device, ShallowMark, ShallowTab, block_at, in_range, mark_at, mark_fault, outcome, read_fault, read_out, size_of, tab_fault, write_fault, written}
use Rattle.blocks.specs.Layers.{cut_out, deeper_mark, deeper_tab, passed_up, windowed}
use Rattle.blocks.specs.declared.faults.Fault.{Fault}
use Rattle.blocks.specs.declared.faults.Mark.{Mark}
use Rattle.blocks.specs.declared.faults.Mark.TheVariants.{Sound, Bad}
use Rattle.blocks.specs.declared.faults.Tab.{Tab}
use Rattle.blocks.specs.declared.faults.Tab.TheVariants.{Off, On}
use Rattle.blocks.specs.Layering.{layer-filled, layer-read, layer-write, mark-deeper, marks-deeper, shallow-deeper, shallow-tab, write_up}
use Rattle.blocks.specs.Ranges.{range-facts, write-in-range}

-- what stands at place b of a part of a list
through : {X : Type 0} (xs : List X) (f c b : ℕ) (d : X) → b < c → slice_index_or (take c (drop f xs)) b d ≡ slice_index_or xs (f + b) d
through xs f c b d h = get_or-take c (drop f xs) b d h ∙ get_or-drop f xs b d

take-set-in : {X : Type 0} (c : ℕ) (xs : List X) (i : ℕ) (a : X) → take c (slice_set xs i a) ≡ slice_set (take c xs) i a
take-set-in zero xs i a = refl
take-set-in (suc c) [] i a = refl
take-set-in (suc c) (x ∷ xs) zero a = refl
take-set-in (suc c) (x ∷ xs) (suc i) a = ap (λ l. x ∷ l) (take-set-in c xs i a)

pub length_part : {X : Type 0} (xs : List X) (f c : ℕ) → length (take c (drop f xs)) ≡ min c (length xs - f)
length_part xs f c = length-take c (drop f xs) ∙ ap (min c) (length-drop f xs)

through-past : {X : Type 0} (xs : List X) (f c b : ℕ) (d : X) → c ≤ b → slice_index_or (take c (drop f xs)) b d ≡ d
through-past xs f c b d h = get_or_past (take c (drop f xs)) b d (omega (arith, length_part xs f c))

module _ (low : Device) (f c b : ℕ) (inside : b < c) where
  pub block-through : block_at (cut_out f c low) b ≡ block_at low (f + b)
  block-through = through low.blocks f c b [] inside

  pub mark-through : mark_at (cut_out f c low) b ≡ deeper_mark (mark_at low (f + b))
  mark-through = mark-deeper (take c (drop f low.marks)) b ∙ ap deeper_mark (through low.marks f c b Sound inside)

-- the laws of a window, from those of the device below
module _ (low : Device) (first c : ℕ) (some : 1 ≤ c) (least : 1 ≤ size_of low) where
  pub window-size : size_of (windowed first c low) ≡ min c (size_of low - min first (size_of low - 1))
  window-size = length_part low.blocks (min first (size_of low - 1)) c

  pub window-sized : size_of low ≤ 65535 → (1 ≤ size_of (windowed first c low)) × (size_of (windowed first c low) ≤ 65535)
  window-sized most = (omega (arith, window-size), omega (arith, window-size))

  pub window-wide : ((b : ℕ) → b < size_of low → length (block_at low b) ≡ 1024) → (b : ℕ) → b < size_of (windowed first c low)
      → length (block_at (windowed first c low) b) ≡ 1024
  window-wide wide b h =
      ap length (block-through low (min first (size_of low - 1)) c b (omega (arith, window-size)))
      ∙ wide (min first (size_of low - 1) + b) (omega (arith, window-size))

  pub window-marked : length low.marks ≡ size_of low → length (windowed first c low).marks ≡ size_of (windowed first c low)
  window-marked e =
      marks-deeper (take c (drop (min first (size_of low - 1)) low.marks))
      ∙ length_part low.marks (min first (size_of low - 1)) c ∙ ap (λ n. min c (n - min first (size_of low - 1))) e ∙ sym window-size

pub window_bytes : (low : Device) (f c : ℕ) → ((b i : ℕ) → slice_index (block_at low b) i < 256) → (b i : ℕ) → slice_index (block_at (cut_out f c low) b) i < 256
window_bytes low f c small b i = at (cases_lt b c)
  where
    at : (b < c) ⊎ (c ≤ b) → slice_index (block_at (cut_out f c low) b) i < 256
    at (inl h) = rw (block-through low f c b h) (small (f + b) i)
    at (inr h) = rw (through-past low.blocks f c b [] h) (lit< tt)

pub window-shallow : (low : Device) (f c : ℕ) → ((b : ℕ) → ShallowMark (mark_at low b) × ShallowTab low.tab) → (b : ℕ)
    → ShallowMark (mark_at (cut_out f c low) b) × ShallowTab (cut_out f c low).tab
window-shallow low f c shallow b = (at (cases_lt b c), shallow-tab low.tab (shallow b).1)
  where
    at : (b < c) ⊎ (c ≤ b) → ShallowMark (mark_at (cut_out f c low) b)
    at (inl h) = subst ShallowMark (sym (mark-through low f c b h)) (shallow-deeper (mark_at low (f + b)) (shallow (f + b)).0)
    at (inr h) =
        subst ShallowMark (sym (mark-deeper (take c (drop f low.marks)) b ∙ ap deeper_mark (through-past low.marks f c b Sound h))) tt

-- a window ends within the device below
pub window-within : (low : Device) (first c : ℕ) → min first (size_of low - 1) + size_of (windowed first c low) ≤ size_of low
window-within low first c = omega (arith, length_part low.blocks (min first (size_of low - 1)) c)

-- a block that is in range above is in range below
pub range-below : (low : Device) (first f c b len : ℕ) → f + size_of (windowed first c low) ≤ size_of low → in_range (windowed first c low) b len ≡ true
    → (in_range low (f + b) len ≡ true) × (b < c)
range-below low first f c b len w h =
    let (less, wide) = range-facts (windowed first c low) b len h in
    let below : f + b < size_of low = omega arith in
    (and_from _ _ (lt-ltb (f + b) (size_of low) below) (ap (λ l. l == 1024) wide), omega (arith, length_part low.blocks (min first (size_of low - 1)) c))

-- a write below, seen through the window
module _ (low : Device) (first c b : ℕ) (bytes : List ℕ) where
  seen : (o : Option Fault) (p : Option Fault) → (o ≡ None → p ≡ None) → ((x : Fault) → o ≡ Some x → (y : Fault) × (p ≡ Some y))
      → windowed first c (written o low (min first (size_of low - 1) + b) bytes) ≡ written p (windowed first c low) b bytes
  seen None p n s =
      let f = min first (size_of low - 1) in
      let same : min first (length (slice_set low.blocks (f + b) bytes) - 1) ≡ f = ap (λ m. min first (m - 1)) (length-set low.blocks (f + b) bytes) in
      ap (λ g. cut_out g c (written None low (f + b) bytes)) same
      ∙ ap (λ bs. record { blocks = bs; marks = map deeper_mark (take c (drop f low.marks)); tab = deeper_tab low.tab })
      (ap (take c) (drop-set-add f low.blocks b bytes) ∙ take-set-in c (drop f low.blocks) b bytes)
      ∙ ap (λ q. written q (windowed first c low) b bytes) (sym (n refl))
  seen (Some x) p n s = ap (λ q. written q (windowed first c low) b bytes) (sym (s x refl).1)

  none-up : (t : Tab) (m : Mark) → tab_fault t (mark_fault m) ≡ None → tab_fault (deeper_tab t) (mark_fault (deeper_mark m)) ≡ None
  none-up Off Sound e = refl
  none-up Off (Bad depth place) e = absurd cc
  none-up (On depth) m e = absurd cc

  some_up : (t : Tab) (m : Mark) (x : Fault) → tab_fault t (mark_fault m) ≡ Some x → (y : Fault) × (tab_fault (deeper_tab t) (mark_fault (deeper_mark m)) ≡ Some y)
  some_up Off Sound x e = absurd cc
  some_up Off (Bad depth place) x e = (_, refl)
  some_up (On depth) m x e = (_, refl)

  -- the device below after the write, seen through the window, is the window after it
  pub window-written : (len : ℕ) → in_range (windowed first c low) b len ≡ true → in_range low (min first (size_of low - 1) + b) len ≡ true → b < c
      → windowed first c (written (write_fault low (min first (size_of low - 1) + b) len) low (min first (size_of low - 1) + b) bytes)
      ≡ written (write_fault (windowed first c low) b len) (windowed first c low) b bytes
  window-written len above below inside =
      let f = min first (size_of low - 1) in
      let low-is = write-in-range low (f + b) len below in
      let up_is = write_up low (windowed first c low) b (f + b) len above below (mark-through low f c b inside) refl in
      seen (write_fault low (f + b) len) (write_fault (windowed first c low) b len)
      (λ e. up_is ∙ none-up low.tab (mark_at low (f + b)) (sym low-is ∙ e))
      (λ x e. let y = some_up low.tab (mark_at low (f + b)) x (sym low-is ∙ e) in (y.0, up_is ∙ y.1))

-- a read of block b of a window, which is block `at` of the device below
abbrev ReadThrough : Device → ℕ → ℕ → ℕ → ℕ → ℕ → Type 0
ReadThrough low first c b len at =
    (passed_up (outcome (read_fault low at len)) ≡ outcome (read_fault (windowed first c low) b len))
    × ((buffer : List ℕ) → read_out (read_fault low at len) (block_at low at) buffer
    ≡ read_out (read_fault (windowed first c low) b len) (block_at (windowed first c low) b) buffer)

pub window-read : (low : Device) (first c b len at : ℕ) → at ≡ min first (size_of low - 1) + b → in_range (windowed first c low) b len ≡ true
    → ReadThrough low first c b len at
window-read low first c b len at e h =
    let g = min first (size_of low - 1) in
    let in' = range-below low first g c b len (window-within low first c) h in
    let mark = mark-through low g c b in'.1 in
    subst (ReadThrough low first c b len) (sym e) (
      layer-read low (windowed first c low) b (g + b) len h in'.0 mark,
      λ buffer.
          layer-filled low (windowed first c low) b (g + b) len h in'.0 mark (block_at low (g + b)) buffer
          ∙ ap (λ x. read_out (read_fault (windowed first c low) b len) x buffer) (sym (block-through low g c b in'.1)),
    )

-- a write through it
abbrev WriteThrough : Device → ℕ → ℕ → ℕ → ℕ → List ℕ → ℕ → Type 0
WriteThrough low first c b len bytes at =
    (passed_up (outcome (write_fault low at len)) ≡ outcome (write_fault (windowed first c low) b len))
    × (windowed first c (written (write_fault low at len) low at bytes) ≡ written (write_fault (windowed first c low) b len) (windowed first c low) b bytes)

pub window-write : (low : Device) (first c b len at : ℕ) (bytes : List ℕ) → at ≡ min first (size_of low - 1) + b → in_range (windowed first c low) b len ≡ true
    → WriteThrough low first c b len bytes at
window-write low first c b len at bytes e h =
    let g = min first (size_of low - 1) in
    let in' = range-below low first g c b len (window-within low first c) h in
    subst (WriteThrough low first c b len bytes) (sym e) (
      layer-write low (windowed first c low) b (g + b) len h in'.0 (mark-through low g c b in'.1) refl,
      window-written low first c b bytes len h in'.0 in'.1,
    )
