-- What the judgement's answer says of the device. Assumes nothing.
use Rattle.std.proofs.Common.{◌≡◌, ℕ, zero, suc, ◌+◌, ◌-◌, ◌<◌, ◌≤◌, Bool, true, false, cond, not, eqb, leb, ◌⊎◌, Some, None, Ok, Err, Option, Result, unwrap_or, sym, refl, ap, ◌∙◌, subst, inl, inr, arith}
use Rattle.std.proofs.lemmas.Bool.{and_left, cases_eq, cond-false, cond-true, eq-eqb, eqb-false, le-leb, lt-leb, ne_eqb}
use Rattle.std.specs.Option.{option_or}
use Rattle.refusal.specs.declared.Refusal.{Refusal}
use Rattle.refusal.specs.declared.Refusal.TheVariants.{BrokenLayout, OutOfRange}
use Rattle.blocks.specs.Devices.{Device, read_fault, refusal_of, size_of}
use Rattle.blocks.specs.declared.faults.Fault.{Fault}
use Rattle.blocks.specs.declared.faults.Fault.TheVariants.{OutOfRange as FaultRange, WriteProtected, BadBlock}
use Rattle.directory.specs.Entries.{entry_at}
use Rattle.directory.specs.Judgements.{JudgementLaw, blocks_left_at, files_fault, first_unread, is_broken, judged, layout_fault, pack_of, unless_fault, verdict, volume_holds, volume_judged}
use Rattle.directory.specs.Layouts.{Follows, directory_blocks}
use Rattle.directory.specs.Lookups.{Readable, first_that}
use Rattle.directory.specs.declared.judgement.Pack.{Pack}
use Rattle.directory.proofs.Judging.{layout-law, left_at}
use Rattle.directory.proofs.Testing.{volume-follows}

-- blocks that can all be read
or-none : {A : Type 0} (o p : Option A) → option_or o p ≡ None → (o ≡ None) × (p ≡ None)
or-none None p h = (refl, h)
or-none (Some x) p h = absurd cc

read_all : (d : Device) (n b : ℕ) → first_unread d b n ≡ None → (k : ℕ) → b ≤ k → k < b + n → read_fault d k 1024 ≡ None
read_all d zero b h k low high = absurd (omega arith)
read_all d (suc n) b h k low high =
    let both = or-none (read_fault d b 1024) (first_unread d (b + 1) n) h in
    by (cases_eq k b) both.0 (λ l. read_all d n (b + 1) both.1 k l (omega arith))
  where
    by : (k ≡ b) ⊎ (k ≡ b → ⊥) → read_fault d b 1024 ≡ None → (b + 1 ≤ k → read_fault d k 1024 ≡ None) → read_fault d k 1024 ≡ None
    by (inl q) here later = ap (λ j. read_fault d j 1024) q ∙ here
    by (inr q) here later = later (omega arith)

all_read : (d : Device) (n b : ℕ) → ((k : ℕ) → b ≤ k → k < b + n → read_fault d k 1024 ≡ None) → first_unread d b n ≡ None
all_read d zero b h = refl
all_read d (suc n) b h =
    ap (λ o. option_or o (first_unread d (b + 1) n)) (h b (omega arith) (omega arith)) ∙ all_read d n (b + 1) (λ k low high. h k (omega arith) (omega arith))

-- a device's refusal is none of the layout
not-layout : (fault : Fault) (e : ℕ) → refusal_of fault ≡ BrokenLayout e → ⊥
not-layout (FaultRange place) e h = cc
not-layout (WriteProtected depth) e h = cc
not-layout (BadBlock depth place) e h = cc

volume-fault : (d : Device) → volume_holds (size_of d) (entry_at d 0) ≡ false → layout_fault d ≡ Some 0
volume-fault d h = ap (λ t. option_or (cond (not t) (Some 0) (first_that (is_broken d) 1 2)) (files_fault d (blocks_left_at d))) h

-- the three kinds of answer
module _ (d : Device) (len : ℕ) (reply : Result Pack Refusal) where
  law-refused : (refusal : Refusal) → reply ≡ Err refusal → ((e : ℕ) → refusal ≡ BrokenLayout e → ⊥) → (len ≡ 1024 → Readable d (directory_blocks d) 1024 → Follows d → ⊥)
      → JudgementLaw d len reply
  law-refused refusal is other bad = record {
    granted = λ pack h. absurd (let same : Ok pack ≡ Err refusal = sym h ∙ is in cc);
    grants = λ full all f. absurd (bad full all f);
    broken = λ e h. absurd (other e (let same : Err refusal ≡ Err (BrokenLayout e) = sym is ∙ h in let z : refusal ≡ BrokenLayout e = cc in z));
  }

  law-broken : (e : ℕ) → reply ≡ Err (BrokenLayout e) → layout_fault d ≡ Some e → JudgementLaw d len reply
  law-broken e is at = record {
    granted = λ pack h. absurd (let same : Ok pack ≡ Err (BrokenLayout e) = sym h ∙ is in cc);
    grants = λ full all f. absurd (let same : Some e ≡ None = sym at ∙ (layout-law d).follows f in cc);
    broken = λ g h. at ∙ ap Some (let same : Err (BrokenLayout e) ≡ Err (BrokenLayout g) = sym is ∙ h in let z : e ≡ g = cc in z);
  }

  learnt : (f : Follows d) → pack_of d (unwrap_or (blocks_left_at d) 0) ≡ pack_of d f.left
  learnt f = ap (λ o. pack_of d (unwrap_or o 0)) (left_at d f.left f.is_left)

  law-granted : reply ≡ Ok (pack_of d (unwrap_or (blocks_left_at d) 0)) → layout_fault d ≡ None → Readable d (directory_blocks d) 1024 → JudgementLaw d len reply
  law-granted is none all = record {
    granted = λ pack h.
        let f = (layout-law d).none none in
        record {
          follows = f;
          readable = all;
          learnt = (let same : Ok pack ≡ Ok (pack_of d (unwrap_or (blocks_left_at d) 0)) = sym h ∙ is in let z : pack ≡ pack_of d (unwrap_or (blocks_left_at d) 0) = cc in z) ∙ learnt f;
        };
    grants = λ full all f. is ∙ ap Ok (learnt f);
    broken = λ e h. absurd (let same : Ok (pack_of d (unwrap_or (blocks_left_at d) 0)) ≡ Err (BrokenLayout e) = sym is ∙ h in cc);
  }

module _ (d : Device) (len : ℕ) where
  -- all of the directory was read
  at-verdict : Readable d (directory_blocks d) 1024 → (x : Option ℕ) → layout_fault d ≡ x → JudgementLaw d len (verdict d x)
  at-verdict all None is = law-granted d len _ refl is all
  at-verdict all (Some e) is = law-broken d len _ e refl is

  at_rest : read_fault d 1 1024 ≡ None → 1 ≤ directory_blocks d → (o : Option Fault) → first_unread d 2 (directory_blocks d - 1) ≡ o → JudgementLaw d len (unless_fault o (verdict d (layout_fault d)))
  at_rest first some None is = at-verdict (λ b low high. by b high (cases_eq b 1) low) (layout_fault d) refl
    where
      by : (b : ℕ) → b ≤ directory_blocks d → (b ≡ 1) ⊎ (b ≡ 1 → ⊥) → 1 ≤ b → read_fault d b 1024 ≡ None
      by b high (inl q) low = ap (λ k. read_fault d k 1024) q ∙ first
      by b high (inr q) low = read_all d (directory_blocks d - 1) 2 is b (omega arith) (omega arith)
  at_rest first some (Some fault) is =
      law-refused d len _ (refusal_of fault) refl (not-layout fault) (λ full all f.
      let same : Some fault ≡ None = sym is ∙ all_read d (directory_blocks d - 1) 2 (λ k low high. all k (omega arith) (omega arith)) in
      cc)

  at-volume : read_fault d 1 1024 ≡ None → (t : Bool) → volume_holds (size_of d) (entry_at d 0) ≡ t
      → JudgementLaw d len (cond t (unless_fault (first_unread d 2 (directory_blocks d - 1)) (verdict d (layout_fault d))) (Err (BrokenLayout 0)))
  at-volume first true h = at_rest first (volume-follows d h).some (first_unread d 2 (directory_blocks d - 1)) refl
  at-volume first false h = law-broken d len _ 0 refl (volume-fault d h)

  at_first : (o : Option Fault) → read_fault d 1 1024 ≡ o → JudgementLaw d len (unless_fault o (volume_judged d))
  at_first None is = at-volume is (volume_holds (size_of d) (entry_at d 0)) refl
  at_first (Some fault) is =
      law-refused d len _ (refusal_of fault) refl (not-layout fault) (λ full all f.
      let same : Some fault ≡ None = sym is ∙ all 1 (omega arith) f.volume.some in
      cc)

  at_size : (t : Bool) → leb 2 (size_of d) ≡ t → JudgementLaw d len (cond t (unless_fault (read_fault d 1 1024) (volume_judged d)) (Err (BrokenLayout 0)))
  at_size true h = at_first (read_fault d 1 1024) refl
  at_size false h = law-broken d len _ 0 refl (volume-fault d (and_left (leb 2 (size_of d)) _ h))

  at_length : (t : Bool) → eqb len 1024 ≡ t → JudgementLaw d len (cond t (cond (leb 2 (size_of d)) (unless_fault (read_fault d 1 1024) (volume_judged d)) (Err (BrokenLayout 0))) (Err OutOfRange))
  at_length true h = at_size (leb 2 (size_of d)) refl
  at_length false h =
      law-refused d len _ OutOfRange refl (λ e q. cc) (λ full all f. eqb-false len 1024 h full)

  pub judgement-law : (reply : Result Pack Refusal) → reply ≡ judged d len → JudgementLaw d len reply
  judgement-law reply is = subst (JudgementLaw d len) (sym is) (at_length (eqb len 1024) refl)

-- the ways out of the judgement, in their order
module _ (d : Device) (len : ℕ) where
  pub wrong-length : (len ≡ 1024 → ⊥) → Err OutOfRange ≡ judged d len
  wrong-length h = sym (cond-false (eqb len 1024) _ _ (ne_eqb len 1024 h))

  module _ (full : len ≡ 1024) where
    pub one_block : size_of d < 2 → Err (BrokenLayout 0) ≡ judged d len
    one_block h = sym (cond-true (eqb len 1024) _ _ (eq-eqb len 1024 full) ∙ cond-false (leb 2 (size_of d)) _ _ (lt-leb 2 (size_of d) h))

    module _ (more : 2 ≤ size_of d) where
      begun : unless_fault (read_fault d 1 1024) (volume_judged d) ≡ judged d len
      begun = sym (cond-true (eqb len 1024) _ _ (eq-eqb len 1024 full) ∙ cond-true (leb 2 (size_of d)) _ _ (le-leb 2 (size_of d) more))

      pub unread-first : (fault : Fault) → read_fault d 1 1024 ≡ Some fault → Err (refusal_of fault) ≡ judged d len
      unread-first fault met = sym (ap (λ o. unless_fault o (volume_judged d)) met) ∙ begun

      module _ (read : read_fault d 1 1024 ≡ None) where
        onwards : volume_judged d ≡ judged d len
        onwards = sym (ap (λ o. unless_fault o (volume_judged d)) read) ∙ begun

        pub bad-volume : volume_holds (size_of d) (entry_at d 0) ≡ false → Err (BrokenLayout 0) ≡ judged d len
        bad-volume h = sym (cond-false (volume_holds (size_of d) (entry_at d 0)) _ _ h) ∙ onwards

        pub good-volume : volume_holds (size_of d) (entry_at d 0) ≡ true → unless_fault (first_unread d 2 (directory_blocks d - 1)) (verdict d (layout_fault d)) ≡ judged d len
        good-volume h = sym (cond-true (volume_holds (size_of d) (entry_at d 0)) _ _ h) ∙ onwards
