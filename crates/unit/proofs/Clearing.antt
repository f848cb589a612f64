-- The blocks that initialise reads and writes. Assumes nothing.
use Rattle.std.proofs.Common.{◌≡◌, ℕ, suc, ◌+◌, ◌<◌, ◌≤◌, cond, eqb, ltb, List, length, replicate, Some, None, Ok, Option, Result, sym, refl, ap, ◌∙◌, arith}
use Rattle.std.proofs.lemmas.Bool.{and_from, lt-ltb}
use Rattle.std.specs.Option.{option_or}
use Rattle.blocks.specs.Devices.{Device, mark_at, mark_fault, outcome, read_fault, size_of, tab_fault, write_fault, written}
use Rattle.blocks.specs.declared.faults.Fault.{Fault}
use Rattle.blocks.specs.declared.faults.Fault.TheVariants.{OutOfRange}
use Rattle.blocks.specs.declared.faults.Tab.TheVariants.{Off}
use Rattle.model.specs.Steps.{first_bad}
use Rattle.model.proofs.Freshness.{sound-read, zeroed-long}
use Rattle.unit.specs.Calls.{cleared}

-- a block of the device is refused by its mark alone
mark-read : (d : Device) (b len : ℕ) → b < size_of d → len ≡ 1024 → read_fault d b len ≡ mark_fault (mark_at d b)
mark-read d b len h full =
    ap (read_fault d b) full
    ∙ ap (λ t. cond t (mark_fault (mark_at d b)) (Some (OutOfRange b))) (and_from (ltb b (size_of d)) (eqb 1024 1024) (lt-ltb b (size_of d) h) refl)

-- a block that was read is not bad
pub bad-on : (d : Device) (b len n m : ℕ) → b < size_of d → len ≡ 1024 → n ≡ suc m → ◌≡◌ {A = Result (Unit {0}) Fault} (Ok tt) (outcome (read_fault d b len)) → first_bad d.marks (b + 1) m ≡ first_bad d.marks b n
bad-on d b len n m inside full more told = sym (ap (first_bad d.marks b) more ∙ ap (λ o. option_or o (first_bad d.marks (b + 1) m)) (sym (mark-read d b len inside full) ∙ go (read_fault d b len) told))
  where
    go : (o : Option Fault) → ◌≡◌ {A = Result (Unit {0}) Fault} (Ok tt) (outcome o) → o ≡ None
    go None t = refl
    go (Some fault) t = cc

-- a block of the directory can be written
pub can_write : (d : Device) (directory b : ℕ) → d.tab ≡ Off → directory < size_of d → first_bad d.marks 1 directory ≡ None → 1 ≤ b → b ≤ directory → write_fault d b 1024 ≡ None
can_write d directory b off within sound low high =
    ap (λ t. cond t (tab_fault d.tab (mark_fault (mark_at d b))) (Some (OutOfRange b))) (and_from (ltb b (size_of d)) (eqb 1024 1024) (lt-ltb b (size_of d) (omega arith)) refl)
    ∙ ap (λ t. tab_fault t (mark_fault (mark_at d b))) off
    ∙ sym (mark-read d b 1024 (omega arith) refl) ∙ sound-read d directory 1 sound (omega arith) b low (omega arith)

-- blocks of zeros, one on
pub clear-on : (d d' : Device) (b n m : ℕ) (zeros : List ℕ) → n ≡ suc m → zeros ≡ replicate 1024 0 → d' ≡ written None d b zeros → cleared d' (b + 1) m ≡ cleared d b n
clear-on d d' b n m zeros more is made =
    ap (λ x. cleared x (b + 1) m) (made ∙ ap (written None d b) is) ∙ ap (cleared d b) (sym more)

-- what is not cleared is as it was
pub same-marks : (d d' : Device) (a b n m : ℕ) → cleared d b n ≡ cleared d' a m → (d.marks ≡ d'.marks) × (d.tab ≡ d'.tab) × (size_of d ≡ size_of d')
same-marks d d' a b n m is =
    (ap (λ (x : Device). x.marks) is, ap (λ (x : Device). x.tab) is, sym (zeroed-long n d.blocks b) ∙ ap (λ (x : Device). length x.blocks) is ∙ zeroed-long m d'.blocks a)
