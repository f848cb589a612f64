-- Where an entry stands: the laws of putting one there. Assumes nothing.
use Rattle.std.proofs.Common.{◌≡◌, ℕ, ◌+◌, ◌*◌, ◌%◌, ◌<◌, ◌≤◌, ◌⊎◌, List, [], length, get_or, take, drop, sym, refl, ap, ◌∙◌, inl, inr, arith}
use Rattle.std.proofs.lemmas.List.{get_or-set_other, get_or-set_same, length-set}
use Rattle.std.proofs.lemmas.Bool.{cases_eq, cases_order}
use Rattle.blocks.specs.Devices.{Device, block_at, size_of}
use Rattle.parts.proofs.Storing.{part-aside, part-itself, stored-before, stored-behind}
use Rattle.entry.specs.Fields.{entry_in, put_in}
use Rattle.directory.specs.Entries.{EntryLaws, entry_at, holder_of, put_entry}

-- the block that holds an entry, after the entry was put there
held : (d : Device) (e : ℕ) (bytes : List ℕ) → holder_of e < size_of d → block_at (put_entry d e bytes) (holder_of e) ≡ put_in (block_at d (holder_of e)) e bytes
held d e bytes h = get_or-set_same d.blocks (holder_of e) (put_in (block_at d (holder_of e)) e bytes) [] h

other_block : (d : Device) (e b : ℕ) (bytes : List ℕ) → (b ≡ holder_of e → ⊥) → block_at (put_entry d e bytes) b ≡ block_at d b
other_block d e b bytes n = get_or-set_other d.blocks (holder_of e) b (put_in (block_at d (holder_of e)) e bytes) [] n

-- in one block, the places of two entries lie apart
in_block : (block : List ℕ) (e f : ℕ) (bytes : List ℕ) → length block ≡ 1024 → length bytes ≡ 26 → (f % 39 ≡ e % 39 → ⊥)
    → entry_in (put_in block e bytes) f ≡ entry_in block f
in_block block e f bytes wide long n = part-aside block (26 * (e % 39)) bytes (omega arith) (26 * (f % 39)) 26 (by (cases_order (f % 39) (e % 39)))
  where
    by : (f % 39 ≡ e % 39) ⊎ ((f % 39 < e % 39) ⊎ (e % 39 < f % 39)) → (26 * (f % 39) + 26 ≤ 26 * (e % 39)) ⊎ (26 * (e % 39) + length bytes ≤ 26 * (f % 39))
    by (inl q) = absurd (n q)
    by (inr (inl q)) = inl (omega arith)
    by (inr (inr q)) = inr (omega arith)

pub put-itself : (d : Device) (e : ℕ) (bytes : List ℕ) → holder_of e < size_of d → length (block_at d (holder_of e)) ≡ 1024 → length bytes ≡ 26
    → entry_at (put_entry d e bytes) e ≡ bytes
put-itself d e bytes h wide long =
    ap (λ block. entry_in block e) (held d e bytes h)
    ∙ ap (λ n. take n (drop (26 * (e % 39)) (put_in (block_at d (holder_of e)) e bytes))) (sym long)
    ∙ part-itself (block_at d (holder_of e)) (26 * (e % 39)) bytes (omega arith)

pub put-others : (d : Device) (e f : ℕ) (bytes : List ℕ) → holder_of e < size_of d → length (block_at d (holder_of e)) ≡ 1024 → length bytes ≡ 26
    → (f ≡ e → ⊥) → entry_at (put_entry d e bytes) f ≡ entry_at d f
put-others d e f bytes h wide long n = by (cases_eq (holder_of f) (holder_of e))
  where
    by : (holder_of f ≡ holder_of e) ⊎ (holder_of f ≡ holder_of e → ⊥) → entry_at (put_entry d e bytes) f ≡ entry_at d f
    by (inl q) =
        ap (λ b. entry_in (block_at (put_entry d e bytes) b) f) q ∙ ap (λ block. entry_in block f) (held d e bytes h)
        ∙ in_block (block_at d (holder_of e)) e f bytes wide long (λ r. n (omega arith)) ∙ ap (λ b. entry_in (block_at d b) f) (sym q)
    by (inr q) = ap (λ block. entry_in block f) (other_block d e (holder_of f) bytes q)

put-bytes : (d : Device) (e i : ℕ) (new : List ℕ) → holder_of e < size_of d → length (block_at d (holder_of e)) ≡ 1024 → length new ≡ 26
    → (i < 26 * (e % 39)) ⊎ (26 * (e % 39) + 26 ≤ i) → get_or (block_at (put_entry d e new) (holder_of e)) i 0 ≡ get_or (block_at d (holder_of e)) i 0
put-bytes d e i new h wide long (inl q) =
    ap (λ block. get_or block i 0) (held d e new h) ∙ stored-before (block_at d (holder_of e)) (26 * (e % 39)) new (omega arith) i 0 q
put-bytes d e i new h wide long (inr q) =
    ap (λ block. get_or block i 0) (held d e new h) ∙ stored-behind (block_at d (holder_of e)) (26 * (e % 39)) new (omega arith) i 0 (omega arith)

pub entry-laws : EntryLaws
entry-laws = record {
  itself = put-itself;
  others = put-others;
  bytes = put-bytes;
  blocks = other_block;
  size = λ d e bytes. length-set d.blocks (holder_of e) (put_in (block_at d (holder_of e)) e bytes);
  marks = λ d e bytes. refl;
  tab = λ d e bytes. refl;
}
