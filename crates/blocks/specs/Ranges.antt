-- A block that passed the test of its range. Assumes nothing.
use Rattle.std.specs.Prelude.{◌≡◌, ℕ, ◌<◌, Bool, true, false, cond, ◌&&◌, Some, None, Ok, ◌==◌, nat_lt, refl}
use Rattle.std.proofs.Common.{ap, ◌∙◌, sym}
use Rattle.std.proofs.lemmas.Bool.{and_parts, eqb-true, ltb-true}
use Rattle.blocks.specs.Devices.{Device, in_range, mark_at, mark_fault, outcome, range_fault, read_fault, size_of, tab_fault, write_fault}
use Rattle.blocks.specs.declared.faults.Fault.TheVariants.{OutOfRange}

-- the test passes only where the block and the buffer's length are in range
pub passed : (b n len : ℕ) → Ok tt ≡ outcome (range_fault b n len) → (nat_lt b n && len == 1024) ≡ true
passed b n len ok = by (nat_lt b n && len == 1024) ok
  where
    by : (t : Bool) → Ok tt ≡ outcome (cond t None (Some (OutOfRange b))) → t ≡ true
    by true e = refl
    by false e = absurd cc

pub passed-range : (d : Device) (b n len : ℕ) → n ≡ size_of d → Ok tt ≡ outcome (range_fault b n len) → in_range d b len ≡ true
passed-range d b n len size ok = ap (λ m. nat_lt b m && len == 1024) (sym size) ∙ passed b n len ok

-- what it means that a block is in range, and what is then refused
module _ (d : Device) (b len : ℕ) (inside : in_range d b len ≡ true) where
  pub range-facts : (b < size_of d) × (len ≡ 1024)
  range-facts =
      let parts = and_parts (nat_lt b (size_of d)) (len == 1024) inside in
      (ltb-true b (size_of d) parts.0, eqb-true len 1024 parts.1)

  pub read-in-range : read_fault d b len ≡ mark_fault (mark_at d b)
  read-in-range = ap (λ t. cond t (mark_fault (mark_at d b)) (Some (OutOfRange b))) inside

  pub write-in-range : write_fault d b len ≡ tab_fault d.tab (mark_fault (mark_at d b))
  write-in-range = ap (λ t. cond t (tab_fault d.tab (mark_fault (mark_at d b))) (Some (OutOfRange b))) inside
