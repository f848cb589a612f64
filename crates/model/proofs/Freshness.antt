-- A device after a granted initialise: it follows the layout, and the pack on it is the fresh one. Assumes nothing.
use Rattle.std.proofs.Common.{◌≡◌, ℕ, zero, suc, ◌+◌, ◌-◌, ◌<◌, ◌≤◌, cond, eqb, ltb, ◌⊎◌, List, [], length, get_or, take, set, replicate, Some, None, Ok, Option, Result, sym, refl, ap, ◌∙◌, subst, inl, inr, arith}
use Rattle.std.proofs.lemmas.List.{get_or-set_other, get_or-set_same, length-set, take_at}
use Rattle.std.proofs.lemmas.Bool.{and_from, cases_eq, cases_lt, lt-ltb}
use Rattle.refusal.specs.declared.Refusal.{Refusal}
use Rattle.blocks.specs.Devices.{Device, block_at, mark_at, mark_fault, read_fault, size_of}
use Rattle.blocks.specs.declared.faults.Fault.TheVariants.{OutOfRange}
use Rattle.entry.specs.Fields.{check_of, directory_of, entry_in, first_of, room_of, size_of as volume_size}
use Rattle.entry.specs.declared.stamp.Stamp.{Stamp}
use Rattle.directory.specs.Entries.{entry_at}
use Rattle.directory.specs.Judgements.{judged, pack_of}
use Rattle.directory.specs.Layouts.{Follows, directory_blocks, end_of, pack_blocks}
use Rattle.directory.specs.Lookups.{Readable, is_blocks_left}
use Rattle.directory.specs.declared.judgement.Pack.{Pack}
use Rattle.directory.proofs.Verdicts.{judgement-law}
use Rattle.model.specs.Fresh.{boot_entry, directory_entry, first_block, fresh_pack, initialised, left_entry, volume_entry, zeroed}
use Rattle.model.specs.Models.{PackModel, pack_found, pack_on, pack_read}
use Rattle.model.specs.Runs.{Accounts}
use Rattle.model.specs.Steps.{first_bad}
use Rattle.model.proofs.Accounting.{accounts}
use Rattle.model.proofs.Stages.{Facts, neither}
use Rattle.model.proofs.Fields.{boot-first, boot-long, boot-room, directory-first, directory-long, directory-room, left-first, left-long, left-marked, left-room, past, volume-check, volume-directory, volume-long, volume-size}

pub zeroed-long : (n : ℕ) (blocks : List (List ℕ)) (b : ℕ) → length (zeroed blocks b n) ≡ length blocks
zeroed-long zero blocks b = refl
zeroed-long (suc n) blocks b = zeroed-long n (set blocks b (replicate 1024 0)) (b + 1) ∙ length-set blocks b (replicate 1024 0)

-- blocks that are sound can be read
pub sound-read : (d : Device) (n b : ℕ) → first_bad d.marks b n ≡ None → b + n ≤ size_of d → (k : ℕ) → b ≤ k → k < b + n → read_fault d k 1024 ≡ None
sound-read d zero b h fits k low high = absurd (omega arith)
sound-read d (suc n) b h fits k low high =
    let both = neither (mark_fault (mark_at d b)) (first_bad d.marks (b + 1) n) h in
    by (cases_eq k b) both.0 (λ l. sound-read d n (b + 1) both.1 (omega arith) k l (omega arith))
  where
    by : (k ≡ b) ⊎ (k ≡ b → ⊥) → mark_fault (mark_at d b) ≡ None → (b + 1 ≤ k → read_fault d k 1024 ≡ None) → read_fault d k 1024 ≡ None
    by (inl q) here later =
        ap (λ j. read_fault d j 1024) q
        ∙ ap (λ t. cond t (mark_fault (mark_at d b)) (Some (OutOfRange b))) (and_from (ltb b (size_of d)) (eqb 1024 1024) (lt-ltb b (size_of d) (omega arith)) refl) ∙ here
    by (inr q) here later = later (omega arith)

module _ (d : Device) (name : List ℕ) (directory blocks : ℕ) (date : Option Stamp) {work : ℕ} (f : Facts d work name directory blocks) (small : size_of d ≤ 65535) where
  abbrev d' : Device
  d' = initialised d name directory blocks date

  abbrev volume : List ℕ
  volume = volume_entry name directory blocks date

  abbrev boot : List ℕ
  boot = boot_entry date

  abbrev table : List ℕ
  table = directory_entry directory date

  abbrev left : List ℕ
  left = left_entry directory blocks date

  pub size_same : size_of d' ≡ size_of d
  size_same = length-set (zeroed d.blocks 2 (directory - 1)) 1 (first_block name directory blocks date) ∙ zeroed-long (directory - 1) d.blocks 2

  first-is : block_at d' 1 ≡ first_block name directory blocks date
  first-is =
      get_or-set_same (zeroed d.blocks 2 (directory - 1)) 1 (first_block name directory blocks date) []
      (omega (arith, zeroed-long (directory - 1) d.blocks 2))

  at-volume : entry_at d' 0 ≡ volume
  at-volume = ap (λ b. entry_in b 0) first-is ∙ take_at volume _ 26 (volume-long name directory blocks date f.keeps)

  at-boot : entry_at d' 1 ≡ boot
  at-boot =
      ap (λ b. entry_in b 1) first-is ∙ ap (take 26) (past volume _ 26 26 0 (volume-long name directory blocks date f.keeps) refl)
      ∙ take_at boot _ 26 (boot-long date)

  at_table : entry_at d' 2 ≡ table
  at_table =
      ap (λ b. entry_in b 2) first-is
      ∙ ap (take 26) (past volume _ 26 52 26 (volume-long name directory blocks date f.keeps) refl ∙ past boot _ 26 26 0 (boot-long date) refl)
      ∙ take_at table _ 26 (directory-long directory date)

  at_left : entry_at d' 3 ≡ left
  at_left =
      ap (λ b. entry_in b 3) first-is
      ∙ ap (take 26) (past volume _ 26 78 52 (volume-long name directory blocks date f.keeps) refl ∙ past boot _ 26 52 26 (boot-long date) refl
      ∙ past table _ 26 26 0 (directory-long directory date) refl)
      ∙ take_at left _ 26 (left-long directory blocks date)

  pub directory-is : directory_blocks d' ≡ directory
  directory-is = ap directory_of at-volume ∙ volume-directory name directory blocks date f.keeps f.few (omega arith)

  blocks_is : pack_blocks d' ≡ blocks
  blocks_is = ap volume_size at-volume ∙ volume-size name directory blocks date f.keeps f.few (omega arith)

  left-begins : first_of (entry_at d' 3) ≡ 1 + directory
  left-begins = ap first_of at_left ∙ left-first directory blocks date f.few

  left-has : room_of (entry_at d' 3) ≡ blocks - (1 + directory)
  left-has = ap room_of at_left ∙ left-room directory blocks date (omega arith)

  table-ends : end_of (entry_at d' 2) ≡ 1 + directory
  table-ends = ap end_of at_table ∙ ap (λ r. 1 + r) (directory-room directory date f.few)

  pub follows : Follows d'
  follows = record {
    volume = record {
      blocks = omega (arith, size_same);
      check = ap check_of at-volume ∙ volume-check name directory blocks date f.keeps f.few (omega arith);
      some = omega (arith, directory-is);
      least = omega (arith, directory-is, blocks_is);
      most = omega (arith, blocks_is, size_same);
    };
    boot = record { begins = ap first_of at-boot ∙ boot-first date; has = ap room_of at-boot ∙ boot-room date };
    directory = record { begins = ap first_of at_table ∙ directory-first directory date; has = ap room_of at_table ∙ directory-room directory date f.few ∙ sym directory-is };
    left = 3;
    is_left = record {
      from = omega arith;
      within = omega (arith, directory-is);
      marked = ap is_blocks_left at_left ∙ left-marked directory blocks date;
      first = λ place low high. absurd (omega arith);
    };
    ends = omega (arith, left-begins, left-has, blocks_is);
    chain = λ e low high. chained e low high;
    named = λ e low high. absurd (omega arith);
    live = λ e low high. absurd (omega arith);
  }
    where
      chained : (e : ℕ) → 3 ≤ e → e ≤ 3 → first_of (entry_at d' e) ≡ end_of (entry_at d' (e - 1))
      chained e low high = subst (λ k. first_of (entry_at d' k) ≡ end_of (entry_at d' (k - 1))) (let z : 3 ≡ e = omega arith in z) (left-begins ∙ sym table-ends)

  readable : Readable d' (directory_blocks d') 1024
  readable b low high = sound-read d' directory 1 f.sound (omega (arith, size_same)) b low (omega (arith, directory-is))

  pub fresh-judged : judged d' 1024 ≡ Ok (record { blocks = blocks; directory = directory; left = 3; free = blocks - (1 + directory) })
  unfolding follows
  fresh-judged = (judgement-law d' 1024 (judged d' 1024) refl).grants refl readable follows ∙ learnt blocks_is directory-is left-has
    where
      learnt : {a a' b b' r r' : ℕ} → a ≡ a' → b ≡ b' → r ≡ r'
          → ◌≡◌ {A = Result Pack Refusal} (Ok (record { blocks = a; directory = b; left = 3; free = r })) (Ok (record { blocks = a'; directory = b'; left = 3; free = r' }))
      learnt p q r = λ i. Ok (record { blocks = p i; directory = q i; left = 3; free = r i })

  pub fresh-pack : pack_on d' ≡ Ok (fresh_pack name directory blocks date)
  fresh-pack = ap (pack_found d') fresh-judged ∙ made at-volume at-boot at_table at_left
    where
      made : {v v' b b' t t' l l' : List ℕ} → v ≡ v' → b ≡ b' → t ≡ t' → l ≡ l'
          → ◌≡◌ {A = Result PackModel Refusal} (Ok (record { blocks = blocks; directory = directory; volume = v; boot = b; table = t; files = []; left = l }))
          (Ok (record { blocks = blocks; directory = directory; volume = v'; boot = b'; table = t'; files = []; left = l' }))
      made p q r s = λ i. Ok (record { blocks = blocks; directory = directory; volume = p i; boot = q i; table = r i; files = []; left = s i })

  -- the blocks beside the directory are as they were
  zeroed-other : (n : ℕ) (xs : List (List ℕ)) (from b : ℕ) → (b < from) ⊎ (from + n ≤ b) → get_or (zeroed xs from n) b [] ≡ get_or xs b []
  zeroed-other zero xs from b out = refl
  zeroed-other (suc n) xs from b out =
      zeroed-other n (set xs from (replicate 1024 0)) (from + 1) b (later out) ∙ get_or-set_other xs from b (replicate 1024 0) [] (apart out)
    where
      later : (b < from) ⊎ (from + suc n ≤ b) → (b < from + 1) ⊎ (from + 1 + n ≤ b)
      later (inl h) = inl (omega arith)
      later (inr h) = inr (omega arith)

      apart : (b < from) ⊎ (from + suc n ≤ b) → b ≡ from → ⊥
      apart (inl h) q = omega arith
      apart (inr h) q = omega arith

  pub outside-same : (b : ℕ) → ((1 ≤ b) × (b ≤ directory) → ⊥) → block_at d' b ≡ block_at d b
  outside-same b out =
      get_or-set_other (zeroed d.blocks 2 (directory - 1)) 1 b (first_block name directory blocks date) [] (λ q. out (omega arith, omega arith))
      ∙ zeroed-other (directory - 1) d.blocks 2 b (by (cases_eq b 0))
    where
      by : (b ≡ 0) ⊎ (b ≡ 0 → ⊥) → (b < 2) ⊎ (2 + (directory - 1) ≤ b)
      by (inl q) = inl (omega arith)
      by (inr q) = inr (above (cases_lt directory b))
        where
          above : (directory < b) ⊎ (b ≤ directory) → 2 + (directory - 1) ≤ b
          above (inl h) = omega arith
          above (inr h) = absurd (out (omega arith, h))

  -- what holds of the fresh pack, counted from the device before it
  pub fresh-accounts : Accounts (record { device = d; rooms = 0; asked = 0 }) (fresh_pack name directory blocks date) d'
  unfolding follows
  fresh-accounts =
      subst (λ p. Accounts (record { device = d; rooms = 0; asked = 0 }) p d') fresh-is
      (accounts d' follows (record { device = d; rooms = 0; asked = 0 }) refl (λ b out files. outside-same b (λ h. out (h.0, omega (arith, h.1, directory-is)))))
    where
      fresh-is : pack_read d' (pack_of d' follows.left) ≡ fresh_pack name directory blocks date
      fresh-is = ok-is (ap (pack_found d') (sym ((judgement-law d' 1024 (judged d' 1024) refl).grants refl readable follows)) ∙ fresh-pack)
        where
          ok-is : {x y : PackModel} → ◌≡◌ {A = Result PackModel Refusal} (Ok x) (Ok y) → x ≡ y
          ok-is h = cc
