-- A pack that follows the layout: its blocks add up, and its rooms lie apart. Assumes nothing.
use Rattle.std.proofs.Common.{◌≡◌, ℕ, zero, suc, ◌+◌, ◌-◌, ◌<◌, ◌≤◌, ◌⊎◌, List, [], ◌∷◌, ◌++◌, map, length, get_or, sym, refl, ap, ◌∙◌, subst, ap₂, inl, inr, arith}
use Rattle.std.proofs.lemmas.Bool.{cases_eq}
use Rattle.blocks.specs.Devices.{Device, block_at}
use Rattle.entry.specs.Fields.{first_of, room_of}
use Rattle.directory.specs.Entries.{entry_at}
use Rattle.directory.specs.Judgements.{pack_of}
use Rattle.directory.specs.Layouts.{Follows, directory_blocks, end_of, pack_blocks}
use Rattle.model.specs.Models.{File, PackModel, files_from, pack_read}
use Rattle.model.specs.Represents.{entries_of}
use Rattle.model.specs.Runs.{Accounts, Lies, Origin, rooms}

abbrev bytes_of : File → List ℕ
bytes_of f = f.bytes

-- the entries in their order
module _ (d : Device) where
  tail_at : (n e k : ℕ) → k ≤ n → get_or (map bytes_of (files_from d e n) ++ (entry_at d (e + n) ∷ [])) k [] ≡ entry_at d (e + k)
  tail_at zero e zero h = ap (entry_at d) (let z : e + zero ≡ e + zero = refl in z)
  tail_at zero e (suc k) h = absurd (omega arith)
  tail_at (suc n) e zero h = ap (entry_at d) (let z : e ≡ e + zero = omega arith in z)
  tail_at (suc n) e (suc k) h =
      ap (λ last. get_or (map bytes_of (files_from d (e + 1) n) ++ (entry_at d last ∷ [])) k []) (let z : e + suc n ≡ e + 1 + n = omega arith in z)
      ∙ tail_at n (e + 1) k (omega arith) ∙ ap (entry_at d) (let z : e + 1 + k ≡ e + suc k = omega arith in z)

  tail-long : (n e : ℕ) (last : List ℕ) → length (map bytes_of (files_from d e n) ++ (last ∷ [])) ≡ n + 1
  tail-long zero e last = refl
  tail-long (suc n) e last = omega (arith, tail-long n (e + 1) last)

  files-long : (n e : ℕ) → length (files_from d e n) ≡ n
  files-long zero e = refl
  files-long (suc n) e = omega (arith, files-long n (e + 1))

  module _ (f : Follows d) where
    abbrev left : ℕ
    left = f.left

    abbrev p : PackModel
    p = pack_read d (pack_of d f.left)

    -- each entry from 1 on ends where the next begins
    next : (e : ℕ) → 1 ≤ e → e < f.left → end_of (entry_at d e) ≡ first_of (entry_at d (e + 1))
    next e low high = by (cases_eq e 1)
      where
        by : (e ≡ 1) ⊎ (e ≡ 1 → ⊥) → end_of (entry_at d e) ≡ first_of (entry_at d (e + 1))
        by (inl q) =
            ap (λ k. end_of (entry_at d k)) q ∙ ap₂ (λ a b. a + b) f.boot.begins f.boot.has ∙ sym f.directory.begins ∙ ap (λ k. first_of (entry_at d k)) (let z : 2 ≡ e + 1 = omega arith in z)
        by (inr q) = ap (λ k. end_of (entry_at d k)) (let z : e ≡ e + 1 - 1 = omega arith in z) ∙ sym (f.chain (e + 1) (omega arith) (omega arith))

    pub ordered : (n e : ℕ) → 1 ≤ e → e + 1 + n ≤ f.left → end_of (entry_at d e) ≤ first_of (entry_at d (e + 1 + n))
    ordered zero e low high = omega (arith, next e low (omega arith), ap (λ k. first_of (entry_at d k)) (let z : e + 1 ≡ e + 1 + zero = omega arith in z))
    ordered (suc n) e low high =
        omega (arith, ordered n e low (omega arith), next (e + 1 + n) (omega arith) (omega arith), ap (λ k. first_of (entry_at d k)) (let z : e + 1 + n + 1 ≡ e + 1 + suc n = omega arith in z))

    lie-apart : (e g b : ℕ) → 1 ≤ e → e < g → g ≤ f.left → Lies (entry_at d e) b → Lies (entry_at d g) b → ⊥
    lie-apart e g b low lt high one two =
        omega (arith, one.high, two.low, ordered (g - (e + 1)) e low (omega arith), ap (λ k. first_of (entry_at d k)) (let z : e + 1 + (g - (e + 1)) ≡ g = omega arith in z))

    -- where the rooms have come to
    summed : (n e : ℕ) → 3 ≤ e → e + n ≤ f.left → first_of (entry_at d (e + n)) ≡ first_of (entry_at d e) + rooms (files_from d e n)
    summed zero e low high = omega (arith, ap (λ k. first_of (entry_at d k)) (let z : e + zero ≡ e = omega arith in z))
    summed (suc n) e low high =
        omega (arith, summed n (e + 1) (omega arith) (omega arith), next e (omega arith) (omega arith), ap (λ k. first_of (entry_at d k)) (let z : e + 1 + n ≡ e + suc n = omega arith in z))

    pub adds-up : 1 + directory_blocks d + room_of (entry_at d f.left) + rooms (files_from d 3 (f.left - 3)) ≡ pack_blocks d
    adds-up =
        omega (
          arith,
          f.ends,
          summed (f.left - 3) 3 (omega arith) (omega (arith, f.is_left.from)),
          f.directory.begins,
          f.directory.has,
          next 2 (omega arith) (omega (arith, f.is_left.from)),
          ap (λ k. first_of (entry_at d k)) (let z : 3 + (f.left - 3) ≡ f.left = omega (arith, f.is_left.from) in z),
        )

    -- the model's entries are the device's
    pub entry-is : (e : ℕ) → e ≤ f.left → get_or (entries_of p) e [] ≡ entry_at d e
    entry-is zero h = refl
    entry-is (suc zero) h = refl
    entry-is (suc (suc zero)) h = refl
    entry-is (suc (suc (suc k))) h =
        ap (λ last. get_or (map bytes_of (files_from d 3 (f.left - 3)) ++ (entry_at d last ∷ [])) k []) (let z : f.left ≡ 3 + (f.left - 3) = omega (arith, f.is_left.from) in z)
        ∙ tail_at (f.left - 3) 3 k (omega arith) ∙ ap (entry_at d) (let z : 3 + k ≡ suc (suc (suc k)) = omega arith in z)

    pub entries-long : length (entries_of p) ≡ f.left + 1
    entries-long = omega (arith, tail-long (f.left - 3) 3 (entry_at d f.left), f.is_left.from)

    -- what holds of it, counted from an origin whose rooms and blocks asked are the rooms that it has
    pub accounts : (o : Origin) → o.rooms + o.asked ≡ rooms (files_from d 3 (f.left - 3))
        → ((b : ℕ) → ((1 ≤ b) × (b ≤ directory_blocks d) → ⊥) → ((k : ℕ) → k < length (files_from d 3 (f.left - 3)) → Lies (get_or (entries_of p) (3 + k) []) b → ⊥) → block_at d b ≡ block_at o.device b)
        → Accounts o p d
    accounts o sum same = record {
      balance = omega (arith, adds-up, sum);
      apart = λ e g b low lt high one two.
          lie-apart e g b low lt (omega (arith, entries-long)) (subst (λ x. Lies x b) (entry-is e (omega (arith, entries-long))) one) (subst (λ x. Lies x b) (entry-is g (omega (arith, entries-long))) two);
      untouched = same;
    }
