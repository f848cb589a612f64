-- A device has the bytes that the layout gives for the pack on it. Assumes nothing.
use Rattle.std.proofs.Common.{◌≡◌, ℕ, zero, suc, ◌+◌, ◌-◌, ◌*◌, ◌/◌, ◌%◌, ◌<◌, ◌≤◌, Bool, true, false, cond, ◌&&◌, ltb, leb, ◌⊎◌, List, [], length, get_or, Some, None, Ok, Err, Option, Result, unwrap_or, sym, refl, ap, ◌∙◌, ap₂, inl, inr, arith}
use Rattle.std.proofs.lemmas.List.{get_or_append_left, get_or-append_right, get_or-take, length-append, length-take}
use Rattle.std.proofs.lemmas.Bool.{and_parts, cases_lt, leb-true, ltb-true}
use Rattle.refusal.specs.declared.Refusal.{Refusal}
use Rattle.blocks.specs.Devices.{Device, block_at, size_of}
use Rattle.entry.specs.Fields.{first_of, last_of, used_of}
use Rattle.entry.specs.Lengths.{length_of}
use Rattle.entry.proofs.Parts.{get_or-part}
use Rattle.directory.specs.Entries.{entry_at}
use Rattle.directory.specs.Judgements.{judged, pack_of}
use Rattle.directory.specs.declared.judgement.Pack.{Pack}
use Rattle.directory.proofs.Verdicts.{judgement-law}
use Rattle.directory.specs.Layouts.{Follows, directory_blocks, end_of}
use Rattle.directory.specs.Lookups.{is_deleted}
use Rattle.model.specs.Models.{Model, blocks_from, content_of, file_of, files_from, pack_found, pack_on, pack_read}
use Rattle.model.specs.Represents.{Laid, directory_byte, entries_of, held_byte, layout_byte, layout_byte_of, room_byte}
use Rattle.model.proofs.Accounting.{entries-long, entry-is, ordered}

-- where the layout gives a byte, it is this one
abbrev Agrees : Option ℕ → ℕ → Type 0
Agrees None x = Unit {0}
Agrees (Some y) x = y ≡ x

pub agreed : (o : Option ℕ) (x : ℕ) → Agrees o x → x ≡ unwrap_or o x
agreed None x h = refl
agreed (Some y) x h = sym h

if-true : (t : Bool) (o : Option ℕ) (x : ℕ) → (t ≡ true → Agrees o x) → Agrees (cond t o None) x
if-true true o x h = h refl
if-true false o x h = tt

either : (t : Bool) (o p : Option ℕ) (x : ℕ) → (t ≡ true → Agrees o x) → Agrees p x → Agrees (cond t o p) x
either true o p x h k = h refl
either false o p x h k = k

module _ (d : Device) (wide : (b : ℕ) → b < size_of d → length (block_at d b) ≡ 1024) where
  -- a byte of some blocks
  byte_of : (n first k : ℕ) → first + n ≤ size_of d → k < 1024 * n → get_or (blocks_from d first n) k 0 ≡ get_or (block_at d (first + k / 1024)) (k % 1024) 0
  byte_of zero first k within h = absurd (omega arith)
  byte_of (suc n) first k within h = by (cases_lt k 1024) (λ l. byte_of n (first + 1) (k - 1024) (omega arith) (omega arith))
    where
      by : (k < 1024) ⊎ (1024 ≤ k) → (1024 ≤ k → get_or (blocks_from d (first + 1) n) (k - 1024) 0 ≡ get_or (block_at d (first + 1 + (k - 1024) / 1024)) ((k - 1024) % 1024) 0)
          → get_or (blocks_from d first (suc n)) k 0 ≡ get_or (block_at d (first + k / 1024)) (k % 1024) 0
      by (inl q) later =
          get_or_append_left (block_at d first) (blocks_from d (first + 1) n) 0 k (omega (arith, wide first (omega arith)))
          ∙ ap₂ (λ b i. get_or (block_at d b) i 0) (let z : first ≡ first + k / 1024 = omega arith in z) (let z : k ≡ k % 1024 = omega arith in z)
      by (inr q) later =
          get_or-append_right (block_at d first) (blocks_from d (first + 1) n) 1024 k 0 (wide first (omega arith)) q ∙ later q
          ∙ ap₂ (λ b i. get_or (block_at d b) i 0) (let z : first + 1 + (k - 1024) / 1024 ≡ first + k / 1024 = omega arith in z) (let z : (k - 1024) % 1024 ≡ k % 1024 = omega arith in z)

  blocks-long : (n first : ℕ) → first + n ≤ size_of d → length (blocks_from d first n) ≡ 1024 * n
  blocks-long zero first within = refl
  blocks-long (suc n) first within = omega (arith, length-append (block_at d first) (blocks_from d (first + 1) n), wide first (omega arith), blocks-long n (first + 1) (omega arith))

  -- a byte that a live file holds
  held : (bytes : List ℕ) (b i : ℕ) → i < 1024 → first_of bytes ≤ b → first_of bytes + used_of bytes ≤ size_of d
      → (k : ℕ) → k ≡ 1024 * (b - first_of bytes) + i → k < length (content_of d bytes) → get_or (content_of d bytes) k 0 ≡ get_or (block_at d b) i 0
  held bytes b i small low within k is h =
      let L = unwrap_or (length_of (used_of bytes) (last_of bytes)) 0 in
      let long = length-take L (blocks_from d (first_of bytes) (used_of bytes)) in
      get_or-take L (blocks_from d (first_of bytes) (used_of bytes)) k 0 (omega (arith, long, h))
      ∙ byte_of (used_of bytes) (first_of bytes) k within (omega (arith, long, h, blocks-long (used_of bytes) (first_of bytes) within))
      ∙ ap₂ (λ b i. get_or (block_at d b) i 0) (let z : first_of bytes + k / 1024 ≡ b = omega arith in z) (let z : k % 1024 ≡ i = omega arith in z)

  module _ (f : Follows d) where
    within : (e : ℕ) → 1 ≤ e → e < f.left → end_of (entry_at d e) ≤ size_of d
    within e low high =
        omega (arith, ordered d f (f.left - (e + 1)) e low (omega arith), ap (λ k. first_of (entry_at d k)) (let z : e + 1 + (f.left - (e + 1)) ≡ f.left = omega arith in z), f.ends, f.volume.most)

    -- a byte of a file's room
    file-byte : (e b i : ℕ) → 3 ≤ e → e < f.left → i < 1024 → (leb (first_of (entry_at d e)) b && ltb b (end_of (entry_at d e))) ≡ true
        → Agrees (held_byte (file_of d (entry_at d e)).content (1024 * (b - first_of (entry_at d e)) + i)) (get_or (block_at d b) i 0)
    file-byte e b i low high small t = go (is_deleted (entry_at d e)) refl
      where
        bytes : List ℕ
        bytes = entry_at d e

        go : (t : Bool) → is_deleted (entry_at d e) ≡ t → Agrees (held_byte (cond t [] (content_of d (entry_at d e))) (1024 * (b - first_of (entry_at d e)) + i)) (get_or (block_at d b) i 0)
        go true q = if-true (ltb (1024 * (b - first_of (entry_at d e)) + i) 0) _ _ (λ h. absurd (omega (arith, ltb-true (1024 * (b - first_of (entry_at d e)) + i) 0 h)))
        go false q =
            if-true (ltb (1024 * (b - first_of (entry_at d e)) + i) (length (content_of d (entry_at d e)))) _ _ (λ h.
            held (entry_at d e) b i small (leb-true (first_of (entry_at d e)) b (and_parts (leb (first_of (entry_at d e)) b) _ t).0)
            (omega (arith, (f.live e low high q).used, within e (omega arith) high)) (1024 * (b - first_of (entry_at d e)) + i) refl
            (ltb-true (1024 * (b - first_of (entry_at d e)) + i) (length (content_of d (entry_at d e))) h))

    in-rooms : (n e b i : ℕ) → 3 ≤ e → e + n ≤ f.left → i < 1024 → Agrees (room_byte (files_from d e n) b i) (get_or (block_at d b) i 0)
    in-rooms zero e b i low high small = tt
    in-rooms (suc n) e b i low high small =
        either (leb (first_of (entry_at d e)) b && ltb b (end_of (entry_at d e))) _ _ _ (file-byte e b i low (omega arith) small) (in-rooms n (e + 1) b i (omega arith) (omega arith) small)

    -- a byte of a directory block
    in-directory : (b i : ℕ) → 1 ≤ b → i < 1024 → Agrees (directory_byte (pack_read d (pack_of d f.left)) b i) (get_or (block_at d b) i 0)
    in-directory b i low small =
        if-true (ltb i 1014 && ltb (39 * (b - 1) + i / 26) (length (entries_of (pack_read d (pack_of d f.left))))) _ _ (λ t.
        let p = and_parts (ltb i 1014) (ltb (39 * (b - 1) + i / 26) (length (entries_of (pack_read d (pack_of d f.left))))) t in
        let e = 39 * (b - 1) + i / 26 in
        let near = ltb-true i 1014 p.0 in
        let inside = ltb-true e (length (entries_of (pack_read d (pack_of d f.left)))) p.1 in
        ap (λ bytes. get_or bytes (i % 26) 0) (entry-is d f e (omega (arith, inside, entries-long d f)))
        ∙ get_or-part (block_at d (1 + e / 39)) (26 * (e % 39)) 26 (i % 26) (omega arith)
        ∙ ap₂ (λ b i. get_or (block_at d b) i 0) (let z : 1 + e / 39 ≡ b = omega arith in z) (let z : 26 * (e % 39) + i % 26 ≡ i = omega arith in z))

    pub laid-byte : (b i : ℕ) → i < 1024 → get_or (block_at d b) i 0 ≡ unwrap_or (layout_byte (pack_read d (pack_of d f.left)) b i) (get_or (block_at d b) i 0)
    laid-byte b i small =
        agreed (layout_byte (pack_read d (pack_of d f.left)) b i) (get_or (block_at d b) i 0)
        (either (leb 1 b && leb b (directory_blocks d)) _ _ _ (λ t. in-directory b i (leb-true 1 b (and_parts (leb 1 b) _ t).0) small) (in-rooms (f.left - 3) 3 b i (omega arith) (omega (arith, f.is_left.from)) small))

-- of a model whose pack is the one on the device
pub laid_on : (d : Device) → ((b : ℕ) → b < size_of d → length (block_at d b) ≡ 1024) → (m : Model) → m.pack ≡ pack_on d → Laid m d d
laid_on d wide m is b i inside small = go (judged d 1024) refl ∙ ap (λ r. unwrap_or (layout_byte_of r b i) (get_or (block_at d b) i 0)) (sym is)
  where
    go : (j : Result Pack Refusal) → judged d 1024 ≡ j → get_or (block_at d b) i 0 ≡ unwrap_or (layout_byte_of (pack_found d (judged d 1024)) b i) (get_or (block_at d b) i 0)
    go (Err refusal) q = ap (λ j. unwrap_or (layout_byte_of (pack_found d j) b i) (get_or (block_at d b) i 0)) (sym q)
    go (Ok pack) q =
        let g = (judgement-law d 1024 (judged d 1024) refl).granted pack q in
        laid-byte d wide g.follows b i small
        ∙ ap (λ pack. unwrap_or (layout_byte (pack_read d pack) b i) (get_or (block_at d b) i 0)) (sym g.learnt)
        ∙ ap (λ j. unwrap_or (layout_byte_of (pack_found d j) b i) (get_or (block_at d b) i 0)) (sym q)
