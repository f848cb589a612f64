-- The single pass of the judgement: what has been seen tells the first entry at fault. Assumes nothing.
use Rattle.std.proofs.Common.{◌≡◌, ℕ, zero, suc, ◌+◌, ◌-◌, ◌*◌, ◌<◌, ◌≤◌, Bool, true, false, cond, not, List, is_some, Some, None, Ok, Err, Option, Result, unwrap_or, sym, refl, ap, ◌∙◌, subst, ap₂, arith}
use Rattle.std.proofs.lemmas.Bool.{cond-false, cond-true}
use Rattle.std.specs.Option.{option_or}
use Rattle.refusal.specs.declared.Refusal.{Refusal}
use Rattle.refusal.specs.declared.Refusal.TheVariants.{BrokenLayout}
use Rattle.blocks.specs.Devices.{Device, block_at, read_fault, refusal_of, size_of}
use Rattle.blocks.specs.declared.faults.Fault.{Fault}
use Rattle.entry.specs.Fields.{entry_in, room_of}
use Rattle.directory.specs.Entries.{entry_at, holder_of}
use Rattle.directory.specs.Judgements.{blocks_left_at, files_fault, first_unread, holds, is_broken, is_left_at, is_placed, later_holds, layout_fault, pack_of, unless_fault, verdict, volume_holds}
use Rattle.directory.specs.Layouts.{directory_blocks, end_of, pack_blocks}
use Rattle.directory.specs.Lookups.{first_that, is_blocks_left}
use Rattle.directory.specs.Seen.{head_fault, seen_after, seen_from, told, told_by, told_of}
use Rattle.directory.specs.declared.judgement.Pack.{Pack}
use Rattle.directory.specs.declared.seen.Seen.{Seen}
use Rattle.directory.proofs.Firsts.{IsFirst, first-is, first_next, same_first}
use Rattle.directory.proofs.Testing.{at-later}

-- one entry of a block on
pub see-on : (block : List ℕ) (s next : Seen) (e to e' to' number : ℕ) (bytes : List ℕ) → 0 < to - e → to' ≡ to → number ≡ e → e' ≡ e + 1
    → next ≡ seen_after s number bytes → bytes ≡ entry_in block number → seen_from block next e' (to' - e') ≡ seen_from block s e (to - e)
see-on block s next e to e' to' number bytes h end at on is from =
    ap₂ (λ n k. seen_from block n k (to' - e')) (is ∙ ap₂ (λ k b. seen_after s k b) at (from ∙ ap (entry_in block) at)) on
    ∙ sym (ap (seen_from block s e) (let more : to - e ≡ suc (to' - e') = omega (arith, h, end, on) in more))

-- the entry behind the last that counts, where e is the next to be seen
abbrev reach : ℕ → Option ℕ → ℕ
reach e None = e
reach e (Some l) = l + 1

-- all entries from 3 up to e have been seen
pub record SoFar (d : Device) (e : ℕ) (s : Seen) : Type 0 where
  pub blocks : s.counts.blocks ≡ pack_blocks d
  pub directory : s.counts.directory ≡ directory_blocks d
  pub left : IsFirst (is_left_at d) 3 (e - 3) s.left
  pub fault : IsFirst (is_broken d) 3 (reach e s.left - 3) s.fault
  pub end : s.left ≡ None → s.end ≡ end_of (entry_at d (e - 1))
  pub room : (l : ℕ) → s.left ≡ Some l → s.room ≡ room_of (entry_at d l)

pub begins : (d : Device) (s : Seen) → s.counts.blocks ≡ pack_blocks d → s.counts.directory ≡ directory_blocks d → s.left ≡ None → s.fault ≡ None → s.end ≡ end_of (entry_at d 2) → SoFar d 3 s
begins d s blocks directory left fault end = record {
  blocks = blocks;
  directory = directory;
  left = subst (IsFirst (is_left_at d) 3 0) (sym left) (λ f low high. absurd (omega arith));
  fault = subst (IsFirst (is_broken d) 3 (reach 3 s.left - 3)) (sym fault) (λ f low high. absurd (let z : reach 3 s.left ≡ 3 = ap (reach 3) left in omega (arith, z)));
  end = λ _. end;
  room = λ l h. absurd (let same : None ≡ Some l = sym left ∙ h in cc);
}

module _ (d : Device) (e : ℕ) (low : 3 ≤ e) (s : Seen) (h : SoFar d e s) where
  -- behind the BLOCKS LEFT entry nothing changes
  behind : (l : ℕ) → s.left ≡ Some l → SoFar d (e + 1) s
  behind l q =
      let first = subst (IsFirst (is_left_at d) 3 (e - 3)) q h.left in
      record {
        blocks = h.blocks;
        directory = h.directory;
        left = subst (IsFirst (is_left_at d) 3 (e + 1 - 3)) (sym q) (first.0, omega (arith, first.1), first.2, first.3);
        fault = subst (λ n. IsFirst (is_broken d) 3 (n - 3) s.fault) (ap (reach e) q ∙ sym (ap (reach (e + 1)) q)) h.fault;
        end = λ r. absurd (let same : None ≡ Some l = sym r ∙ q in cc);
        room = h.room;
      }

  module _ (bytes : List ℕ) (is : bytes ≡ entry_at d e) (none : s.left ≡ None) where
    own : cond (later_holds s.counts.blocks s.end bytes) None (Some e) ≡ cond (is_broken d e) (Some e) None
    own = ap (λ t. cond t None (Some e)) test ∙ flip (holds d e)
      where
        test : later_holds s.counts.blocks s.end bytes ≡ holds d e
        test = ap (λ n. later_holds n s.end bytes) h.blocks ∙ ap₂ (later_holds (pack_blocks d)) (h.end none) is ∙ sym (at-later d e low)

        flip : (t : Bool) → cond t None (Some e) ≡ cond (not t) (Some e) None
        flip true = refl
        flip false = refl

    left-next : IsFirst (is_left_at d) 3 (e + 1 - 3) (cond (is_blocks_left bytes) (Some e) None)
    left-next =
        subst (λ b. IsFirst (is_left_at d) 3 (e + 1 - 3) (cond (is_blocks_left b) (Some e) None)) (sym is)
        (first_next (is_left_at d) 3 (e - 3) (e + 1 - 3) e None (omega arith) (omega arith) (subst (IsFirst (is_left_at d) 3 (e - 3)) none h.left))

    fault-next : (o : Option ℕ) → reach (e + 1) o ≡ e + 1
        → IsFirst (is_broken d) 3 (reach (e + 1) o - 3) (option_or s.fault (cond (later_holds s.counts.blocks s.end bytes) None (Some e)))
    fault-next o r =
        subst (λ x. IsFirst (is_broken d) 3 (reach (e + 1) o - 3) (option_or s.fault x)) (sym own)
        (first_next (is_broken d) 3 (reach e s.left - 3) (reach (e + 1) o - 3) e s.fault (omega (arith, ap (reach e) none)) (omega (arith, ap (reach e) none, r)) h.fault)

    reach-next : (t : Bool) → reach (e + 1) (cond t (Some e) None) ≡ e + 1
    reach-next true = refl
    reach-next false = refl

    room_next : (t : Bool) (l : ℕ) → cond t (Some e) None ≡ Some l → l ≡ e
    room_next true l q = let z : l ≡ e = cc in z
    room_next false l q = absurd cc

    seen_next : SoFar d (e + 1) (record {
      counts = s.counts;
      end = end_of bytes;
      fault = option_or s.fault (cond (later_holds s.counts.blocks s.end bytes) None (Some e));
      left = cond (is_blocks_left bytes) (Some e) None;
      room = room_of bytes;
    })
    seen_next = record {
      blocks = h.blocks;
      directory = h.directory;
      left = left-next;
      fault = fault-next (cond (is_blocks_left bytes) (Some e) None) (reach-next (is_blocks_left bytes));
      end = λ _. ap end_of (is ∙ ap (entry_at d) (let z : e ≡ e + 1 - 1 = omega arith in z));
      room = λ l q. ap room_of (is ∙ ap (entry_at d) (sym (room_next (is_blocks_left bytes) l q)));
    }

-- one entry more
pub seen-on : (d : Device) (e : ℕ) (s : Seen) (bytes : List ℕ) → 3 ≤ e → SoFar d e s → bytes ≡ entry_at d e → SoFar d (e + 1) (seen_after s e bytes)
seen-on d e s bytes low h is = by s.left refl
  where
    by : (o : Option ℕ) → s.left ≡ o → SoFar d (e + 1) (seen_after s e bytes)
    by None q = subst (SoFar d (e + 1)) (sym (cond-false (is_some s.left) s _ (ap is_some q))) (seen_next d e low s h bytes is q)
    by (Some l) q = subst (SoFar d (e + 1)) (sym (cond-true (is_some s.left) s _ (ap is_some q))) (behind d e low s h l q)

-- `count` entries more of a block
pub seen_all : (d : Device) (block : List ℕ) (count e : ℕ) (s : Seen) → 3 ≤ e → SoFar d e s
    → ((f : ℕ) → e ≤ f → f < e + count → entry_in block f ≡ entry_at d f) → SoFar d (e + count) (seen_from block s e count)
seen_all d block zero e s low h at = subst (λ k. SoFar d k s) (let z : e ≡ e + zero = omega arith in z) h
seen_all d block (suc count) e s low h at =
    subst (λ k. SoFar d k (seen_from block (seen_after s e (entry_in block e)) (e + 1) count)) (let z : e + 1 + count ≡ e + suc count = omega arith in z)
    (seen_all d block count (e + 1) (seen_after s e (entry_in block e)) (omega arith)
    (seen-on d e s (entry_in block e) low h (at e (omega arith) (omega arith))) (λ f l k. at f (omega arith) (omega arith)))

-- the entries of block b from e up to the end of the block
pub seen-block : (d : Device) (b : ℕ) (block : List ℕ) (e to : ℕ) (s next : Seen) → block ≡ block_at d b → 3 ≤ e → 39 * (b - 1) ≤ e
    → e ≤ to → to ≡ 39 * b → SoFar d e s → next ≡ seen_from block s e (to - e) → SoFar d to next
seen-block d b block e to s next is low from le end h made =
    subst (SoFar d to) (sym made) (subst (λ k. SoFar d k (seen_from block s e (to - e))) (let z : e + (to - e) ≡ to = omega arith in z)
    (seen_all d block (to - e) e s low h
    (λ f l k. ap (λ x. entry_in x f) (is ∙ ap (block_at d) (let z : b ≡ holder_of f = omega arith in z)))))

-- the entries 1 and 2
pub head-is : (d : Device) (block : List ℕ) (directory : ℕ) → volume_holds (size_of d) (entry_at d 0) ≡ true → block ≡ block_at d 1 → directory ≡ directory_blocks d
    → head_fault block directory ≡ first_that (is_broken d) 0 3
head-is d block directory v is n =
    ap₂ head_fault is n ∙ by (is_placed 0 1 (entry_at d 1)) (is_placed 1 (directory_blocks d) (entry_at d 2))
    ∙ sym (ap (λ t. cond (not t) (Some 0) (cond (not (is_placed 0 1 (entry_at d 1))) (Some 1) (cond (not (is_placed 1 (directory_blocks d) (entry_at d 2))) (Some 2) None))) v)
  where
    by : (a b : Bool) → cond a (cond b None (Some 2)) (Some 1) ≡ cond {A = Option ℕ} (not a) (Some 1) (cond (not b) (Some 2) None)
    by true true = refl
    by true false = refl
    by false b = refl

-- when all has been seen, what is told is the verdict
module _ (d : Device) (s : Seen) (head : Option ℕ) (h : SoFar d (39 * directory_blocks d) s) (some : 1 ≤ directory_blocks d) where
  left_is : blocks_left_at d ≡ s.left
  left_is = same_first (is_left_at d) 3 (39 * directory_blocks d - 3) (blocks_left_at d) s.left (first-is (is_left_at d) (39 * directory_blocks d - 3) 3) h.left

  without : (x : Option ℕ) → Err (BrokenLayout (unwrap_or x (39 * s.counts.directory))) ≡ verdict d (option_or x (Some (39 * directory_blocks d)))
  without None = ap (λ k. Err (BrokenLayout (39 * k))) h.directory
  without (Some e) = refl

  with-left : (l : ℕ) → s.left ≡ Some l → (x : Option ℕ) → told_of s l x ≡ verdict d x
  with-left l q None = learnt h.blocks h.directory (h.room l q) ∙ ap (λ o. Ok (pack_of d (unwrap_or o 0))) (sym (left_is ∙ q))
    where
      learnt : {a a' b b' r r' : ℕ} → a ≡ a' → b ≡ b' → r ≡ r'
          → ◌≡◌ {A = Result Pack Refusal} (Ok (record { blocks = a; directory = b; left = l; free = r })) (Ok (record { blocks = a'; directory = b'; left = l; free = r' }))
      learnt p q r = λ i. Ok (record { blocks = p i; directory = q i; left = l; free = r i })
  with-left l q (Some e) = refl

  tells : head ≡ first_that (is_broken d) 0 3 → (o : Option ℕ) → s.left ≡ o → told_by head s o ≡ verdict d (layout_fault d)
  tells is None q =
      without head ∙ ap₂ (λ x o. verdict d (option_or x (files_fault d o))) is (sym (left_is ∙ q))
  tells is (Some l) q =
      with-left l q (option_or head s.fault)
      ∙ ap₂ (λ x y. verdict d (option_or x y)) is fault ∙ ap (λ o. verdict d (option_or (first_that (is_broken d) 0 3) (files_fault d o))) (sym (left_is ∙ q))
    where
      first : IsFirst (is_left_at d) 3 (39 * directory_blocks d - 3) (Some l)
      first = subst (IsFirst (is_left_at d) 3 (39 * directory_blocks d - 3)) q h.left

      fault : s.fault ≡ first_that (is_broken d) 3 (l - 2)
      fault =
          same_first (is_broken d) 3 (l - 2) s.fault (first_that (is_broken d) 3 (l - 2))
          (subst (λ k. IsFirst (is_broken d) 3 k s.fault) (let z : reach (39 * directory_blocks d) s.left - 3 ≡ l - 2 = omega (arith, ap (reach (39 * directory_blocks d)) q, first.0) in z) h.fault)
          (first-is (is_broken d) (l - 2) 3)

  pub told_is : head ≡ first_that (is_broken d) 0 3 → told head s ≡ verdict d (layout_fault d)
  told_is is = tells is s.left refl

-- the blocks of the directory, one on and at the end
module _ (d : Device) (rest : Result Pack Refusal) where
  pub unread-ends : (fault : Fault) (b n m : ℕ) (whole : Option Fault) → n ≡ suc m → read_fault d b 1024 ≡ Some fault → first_unread d b n ≡ whole
      → Err (refusal_of fault) ≡ unless_fault whole rest
  unread-ends fault b n m whole more met is =
      ap (λ o. unless_fault o rest) (sym (ap (λ o. option_or o (first_unread d (b + 1) m)) met) ∙ sym (ap (first_unread d b) more) ∙ is)

pub unread-none : (rest : Result Pack Refusal) (whole : Option Fault) → whole ≡ None → rest ≡ unless_fault whole rest
unread-none rest whole is = sym (ap (λ o. unless_fault o rest) is)

pub unread-on : (d : Device) (b n m : ℕ) → n ≡ suc m → read_fault d b 1024 ≡ None → first_unread d (b + 1) m ≡ first_unread d b n
unread-on d b n m more q = sym (ap (first_unread d b) more ∙ ap (λ o. option_or o (first_unread d (b + 1) m)) q)
