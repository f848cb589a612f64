-- What a block that was read or written through a work block tells of the entry in it. Assumes nothing.
use Rattle.std.proofs.Common.{◌≡◌, ℕ, ◌<◌, Bool, true, false, cond, ◌&&◌, eqb, ltb, List, length, Some, None, Ok, Err, Option, Result, sym, refl, ap, ◌∙◌}
use Rattle.std.proofs.lemmas.Bool.{and_parts, cond-false, eqb-true, ltb-true, ne_eqb}
use Rattle.std.specs.Prelude.{IsErrAnd}
use Rattle.std.proofs.lemmas.Result.{err_from_is_err_and}
use Rattle.refusal.specs.declared.Refusal.{Refusal}
use Rattle.blocks.specs.Devices.{Device, block_at, in_range, mark_at, mark_fault, outcome, read_fault, read_out, refusal_of, size_of}
use Rattle.blocks.specs.declared.faults.Fault.{Fault}
use Rattle.blocks.specs.declared.faults.Fault.TheVariants.{OutOfRange}
use Rattle.entry.specs.Fields.{entry_in}
use Rattle.directory.specs.Entries.{entry_at, holder_of}

granted : (o : Option Fault) (done : Unit {0}) → Ok done ≡ outcome o → o ≡ None
granted None done h = refl
granted (Some f) done h = absurd cc

-- why a device refused
pub refused : (o : Option Fault) (fault : Fault) → ◌≡◌ {A = Result (Unit {0}) Fault} (Err fault) (outcome o) → o ≡ Some fault
refused None fault h = absurd cc
refused (Some f) fault h = let same : fault ≡ f = cc in ap Some (sym same)

-- the way out where a device's refusal is passed on
pub passed-on : {A : Type 0} (reply : Result A Refusal) (fault : Fault) → IsErrAnd reply (λ e. e ≡ refusal_of fault) → reply ≡ Err (refusal_of fault)
passed-on reply fault h = let exit = err_from_is_err_and reply h in exit.1 ∙ ap Err exit.2

-- what a granted read of block b tells, where the work block was `before` and is `after`
pub record Held (d : Device) (b : ℕ) (before after : List ℕ) : Type 0 where
  pub none : read_fault d b (length before) ≡ None
  pub same : after ≡ block_at d b
  pub full : length before ≡ 1024
  pub long : length after ≡ 1024

in-range : (d : Device) (b len : ℕ) → read_fault d b len ≡ None → (b < size_of d) × (len ≡ 1024)
in-range d b len none = go (in_range d b len) refl
  where
    go : (t : Bool) → in_range d b len ≡ t → (b < size_of d) × (len ≡ 1024)
    go true h = let both = and_parts (ltb b (size_of d)) (eqb len 1024) h in (ltb-true b (size_of d) both.0, eqb-true len 1024 both.1)
    go false h =
        let never : Some (OutOfRange b) ≡ None = sym (ap (λ t. cond t (mark_fault (mark_at d b)) (Some (OutOfRange b))) h) ∙ none in
        absurd cc

-- nothing is read through a work block of another length
pub no-block : (d : Device) (b len : ℕ) → (len ≡ 1024 → ⊥) → read_fault d b len ≡ Some (OutOfRange b)
no-block d b len n = cond-false (in_range d b len) _ _ (ap (λ t. ltb b (size_of d) && t) (ne_eqb len 1024 n) ∙ never (ltb b (size_of d)))
  where
    never : (t : Bool) → t && false ≡ false
    never true = refl
    never false = refl

pub held : (d : Device) (b : ℕ) (before after : List ℕ) (done : Unit {0}) → ((b : ℕ) → b < size_of d → length (block_at d b) ≡ 1024)
    → Ok done ≡ outcome (read_fault d b (length before)) → after ≡ read_out (read_fault d b (length before)) (block_at d b) before
    → Held d b before after
held d b before after done wide reply filled =
    let none = granted (read_fault d b (length before)) done reply in
    let same : after ≡ block_at d b = filled ∙ ap (λ o. read_out o (block_at d b) before) none in
    let range = in-range d b (length before) none in
    record { none = none; same = same; full = range.1; long = ap length same ∙ wide b range.0 }

-- that these are the bytes of entry e, and that its block can be read through a work block of this length
pub record IsRead (d : Device) (e len : ℕ) (bytes : List ℕ) : Type 0 where
  pub none : read_fault d (holder_of e) len ≡ None
  pub same : bytes ≡ entry_at d e

pub entry-read : (d : Device) (e b len : ℕ) (before after bytes : List ℕ) → b ≡ holder_of e → Held d b before after → length before ≡ len → bytes ≡ entry_in after e → IsRead d e len bytes
entry-read d e b len before after bytes at held long is = record {
  none = ap (λ k. read_fault d k len) (sym at) ∙ ap (read_fault d b) (sym long) ∙ held.none;
  same = is ∙ ap (λ block. entry_in block e) (held.same ∙ ap (block_at d) at);
}
