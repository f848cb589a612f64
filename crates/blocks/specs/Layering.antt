-- What a layer passes up is what its meaning says. Assumes nothing.
use Rattle.std.specs.Prelude.{◌≡◌, ℕ, zero, suc, true, List, [], ◌∷◌, map, length, slice_index_or, refl}
use Rattle.std.proofs.Common.{sym, ap, ap₂, ◌∙◌, arith}
use Rattle.std.proofs.lemmas.List.{length-map}
use Rattle.blocks.specs.Devices.{Device, ShallowMark, ShallowTab, in_range, mark_at, mark_fault, outcome, read_fault, read_out, tab_fault, write_fault}
use Rattle.blocks.specs.Ranges.{read-in-range, write-in-range}
use Rattle.blocks.specs.Layers.{deeper_mark, deeper_tab, passed_up}
use Rattle.blocks.specs.declared.faults.Mark.{Mark}
use Rattle.blocks.specs.declared.faults.Mark.TheVariants.{Sound, Bad}
use Rattle.blocks.specs.declared.faults.Tab.{Tab}
use Rattle.blocks.specs.declared.faults.Tab.TheVariants.{Off, On}

-- the mark that a layer passes up
pub mark-deeper : (ms : List Mark) (b : ℕ) → slice_index_or (map deeper_mark ms) b Sound ≡ deeper_mark (slice_index_or ms b Sound)
mark-deeper [] b = refl
mark-deeper (m ∷ ms) zero = refl
mark-deeper (m ∷ ms) (suc b) = mark-deeper ms b

pub marks-deeper : (ms : List Mark) → length (map deeper_mark ms) ≡ length ms
marks-deeper ms = length-map ms deeper_mark

pub shallow-deeper : (m : Mark) → ShallowMark m → ShallowMark (deeper_mark m)
shallow-deeper Sound s = tt
shallow-deeper (Bad depth place) s = (omega arith, s.1)

pub shallow-tab : (t : Tab) → ShallowTab t → ShallowTab (deeper_tab t)
shallow-tab Off s = tt
shallow-tab (On depth) s = omega arith

pass-mark : (m : Mark) → passed_up (outcome (mark_fault m)) ≡ outcome (mark_fault (deeper_mark m))
pass-mark Sound = refl
pass-mark (Bad depth place) = refl

fill-mark : (m : Mark) (block buffer : List ℕ) → read_out (mark_fault m) block buffer ≡ read_out (mark_fault (deeper_mark m)) block buffer
fill-mark Sound block buffer = refl
fill-mark (Bad depth place) block buffer = refl

pass-tab : (t : Tab) (m : Mark) → passed_up (outcome (tab_fault t (mark_fault m))) ≡ outcome (tab_fault (deeper_tab t) (mark_fault (deeper_mark m)))
pass-tab Off m = pass-mark m
pass-tab (On depth) m = refl

-- a layer up over a device low: block b above is block c below, and both are in range
module _ (low up : Device) (b c len : ℕ) (above : in_range up b len ≡ true) (below : in_range low c len ≡ true) (mark : mark_at up b ≡ deeper_mark (mark_at low c)) where
  read_up : read_fault up b len ≡ mark_fault (deeper_mark (mark_at low c))
  read_up = read-in-range up b len above ∙ ap mark_fault mark

  pub layer-read : passed_up (outcome (read_fault low c len)) ≡ outcome (read_fault up b len)
  layer-read = ap (λ o. passed_up (outcome o)) (read-in-range low c len below) ∙ pass-mark (mark_at low c) ∙ sym (ap outcome read_up)

  pub layer-filled : (block buffer : List ℕ) → read_out (read_fault low c len) block buffer ≡ read_out (read_fault up b len) block buffer
  layer-filled block buffer =
      ap (λ o. read_out o block buffer) (read-in-range low c len below) ∙ fill-mark (mark_at low c) block buffer ∙ sym (ap (λ o. read_out o block buffer) read_up)

  pub write_up : up.tab ≡ deeper_tab low.tab → write_fault up b len ≡ tab_fault (deeper_tab low.tab) (mark_fault (deeper_mark (mark_at low c)))
  write_up t = write-in-range up b len above ∙ ap₂ (λ x m. tab_fault x (mark_fault m)) t mark

  pub layer-write : up.tab ≡ deeper_tab low.tab → passed_up (outcome (write_fault low c len)) ≡ outcome (write_fault up b len)
  layer-write t = ap (λ o. passed_up (outcome o)) (write-in-range low c len below) ∙ pass-tab low.tab (mark_at low c) ∙ sym (ap outcome (write_up t))
