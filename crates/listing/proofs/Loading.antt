-- The directory read block by block, one block on and at the end, and how long it is. Assumes nothing.
use Rattle.std.proofs.Common.{◌≡◌, ℕ, suc, ◌+◌, ◌-◌, ◌<◌, ◌≤◌, Bool, true, false, cond, eqb, ltb, leb, List, [], ◌∷◌, ◌++◌, length, Some, None, Ok, Err, Option, Result, sym, refl, ap, ◌∙◌, ap₂, subst, arith}
use Rattle.std.proofs.lemmas.List.{take_all}
use Rattle.std.proofs.lemmas.Bool.{and_parts, le-leb, leb-true, ltb-true}
use Rattle.std.specs.Str.{bytes_eq}
use Rattle.refusal.specs.declared.Refusal.{Refusal}
use Rattle.refusal.specs.declared.Refusal.TheVariants.{BrokenLayout}
use Rattle.blocks.specs.Devices.{Device, block_at, in_range, mark_at, mark_fault, read_fault, size_of}
use Rattle.blocks.specs.declared.faults.Fault.{Fault}
use Rattle.blocks.specs.declared.faults.Fault.TheVariants.{OutOfRange}
use Rattle.entry.specs.Fields.{check_bytes, check_of, directory_of, entry_in}
use Rattle.listing.specs.Loads.{Extends, Loads, Read, counted, loaded, more, read_block, then, unless, volume_holds, volume_loaded}
use Rattle.listing.specs.Walks.{entry_at}
use Rattle.listing.specs.declared.failure.Failure.{Failure}
use Rattle.listing.specs.declared.failure.Failure.TheVariants.{Memory, Refused}

-- a block that was read leaves it to the rest
pub more-on : (d : Device) (b : ℕ) (xs block : List ℕ) (n m : ℕ) → n ≡ suc m → Ok block ≡ read_block d b → more d (b + 1) m (xs ++ block) ≡ more d b n xs
more-on d b xs block n m e a = ap (λ o. then o (λ c. more d (b + 1) m (xs ++ c))) a ∙ sym (ap (λ k. more d b k xs) e)

-- one that was refused ends it
pub more-ends : (d : Device) (b : ℕ) (xs : List ℕ) (refusal : Refusal) (n m : ℕ) → n ≡ suc m → Err refusal ≡ read_block d b → Err refusal ≡ more d b n xs
more-ends d b xs refusal n m e a = ap (λ o. then o (λ c. more d (b + 1) m (xs ++ c))) a ∙ sym (ap (λ k. more d b k xs) e)

-- a block that was read has 1,024 bytes
module _ (d : Device) (wide : (b : ℕ) → b < size_of d → length (block_at d b) ≡ 1024) where
  pub block-long : (b : ℕ) (block : List ℕ) → Ok block ≡ read_block d b → length block ≡ 1024
  block-long b block e = ap length (is (read_fault d b 1024) e) ∙ wide b (inside (in_range d b 1024) refl (none (read_fault d b 1024) e))
    where
      is : (o : Option Fault) → Ok block ≡ unless (block_at d b) o → block ≡ block_at d b
      is None h = cc
      is (Some f) h = absurd (let z : ◌≡◌ {A = ℕ} 0 1 = cc in omega arith)

      none : (o : Option Fault) → Ok block ≡ unless (block_at d b) o → o ≡ None
      none None h = refl
      none (Some f) h = absurd (let z : ◌≡◌ {A = ℕ} 0 1 = cc in omega arith)

      inside : (t : Bool) → in_range d b 1024 ≡ t → cond (in_range d b 1024) (mark_fault (mark_at d b)) (Some (OutOfRange b)) ≡ None → b < size_of d
      inside true h o = ltb-true b (size_of d) (and_parts (ltb b (size_of d)) (eqb 1024 1024) h).0
      inside false h o =
          let never : Some (OutOfRange b) ≡ None = sym (ap (λ t. cond t (mark_fault (mark_at d b)) (Some (OutOfRange b))) h) ∙ o in
          absurd (let z : ◌≡◌ {A = ℕ} 0 1 = cc in omega arith)

-- the volume's entry, in the first block
pub entry-first : (first : List ℕ) → length first ≡ 1024 → entry_in first 0 ≡ entry_at first 0
entry-first first l = ap (λ b. entry_in b 0) (sym (take_all 1024 first (omega arith)))

pub volume-some : (n : ℕ) (bytes : List ℕ) → volume_holds n bytes ≡ true → 1 ≤ directory_of bytes
volume-some n bytes h = leb-true 1 (directory_of bytes) (and_parts (leb 1 (directory_of bytes)) _ (and_parts (bytes_eq (check_of bytes) check_bytes) _ h).1).0

-- what follows where the first block was read
module _ (d : Device) (first : List ℕ) (least : 2 ≤ size_of d) (read : Ok first ≡ read_block d 1) where
  loaded-on : volume_loaded d first ≡ loaded d
  loaded-on =
      ap (λ o. then o (volume_loaded d)) read
      ∙ sym (ap (λ t. cond t (then (read_block d 1) (volume_loaded d)) (Err (BrokenLayout 0))) (le-leb 2 (size_of d) least))

  pub volume-broken : volume_holds (size_of d) (entry_at first 0) ≡ false → Err (BrokenLayout 0) ≡ loaded d
  volume-broken h = sym (ap (λ t. cond t (counted (directory_of (entry_at first 0)) (more d 2 (directory_of (entry_at first 0) - 1) first)) (Err (BrokenLayout 0))) h) ∙ loaded-on

  pub volume-on : (count : ℕ) → volume_holds (size_of d) (entry_at first 0) ≡ true → count ≡ directory_of (entry_at first 0)
      → counted count (more d 2 (count - 1) first) ≡ loaded d
  volume-on count h e =
      ap (λ n. counted n (more d 2 (n - 1) first)) e
      ∙ sym (ap (λ t. cond t (counted (directory_of (entry_at first 0)) (more d 2 (directory_of (entry_at first 0) - 1) first)) (Err (BrokenLayout 0))) h)
      ∙ loaded-on

  pub volume-ends : (f : Failure) (after ys : List ℕ) (count : ℕ) → volume_holds (size_of d) (entry_at first 0) ≡ true → count ≡ directory_of (entry_at first 0)
      → ys ≡ first → Extends (Err f) after (more d 2 (count - 1) ys) → Loads (Err f) (loaded d)
  volume-ends Memory after ys count h e s x = tt
  volume-ends (Refused refusal) after ys count h e s x =
      ap (counted count) (x ∙ ap (more d 2 (count - 1)) s) ∙ volume-on count h e

pub refused : (f : Failure) (refusal : Refusal) (o : Result Read Refusal) → f ≡ Refused refusal → Err refusal ≡ o → Loads (Err f) o
refused f refusal o e h = subst (λ x. Loads (Err x) o) (sym e) h

-- what was told of the volume's entry, as it stands in the first block
pub volume-told : (d : Device) (size : ℕ) (entry first : List ℕ) (told t : Bool) → size ≡ size_of d → entry ≡ entry_at first 0
    → told ≡ volume_holds size entry → told ≡ t → volume_holds (size_of d) (entry_at first 0) ≡ t
volume-told d size entry first told t s e h is = ap₂ volume_holds (sym s) (sym e) ∙ sym h ∙ is

-- the first block alone
pub first-joined : (items new : List (List ℕ)) (first : List ℕ) → items ≡ new ++ (first ∷ []) → new ≡ [] → items ≡ first ∷ []
first-joined items new first i n = i ∙ ap (λ l. l ++ (first ∷ [])) n
