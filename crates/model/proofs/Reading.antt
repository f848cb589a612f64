-- What the lookup and an entry's number give, on a pack that was judged, are the model's files. Assumes nothing.
use Rattle.std.proofs.Common.{◌≡◌, ℕ, zero, suc, ◌+◌, ◌-◌, ◌*◌, ◌<◌, ◌≤◌, Bool, true, false, cond, eqb, ◌⊎◌, List, is_some, Some, None, Ok, sym, refl, ap, ◌∙◌, subst, inl, inr, arith}
use Rattle.std.proofs.lemmas.Bool.{cases_eq, eq-eqb, ne_eqb, or_from, or_left, or_right}
use Rattle.blocks.specs.Devices.{Device, read_fault}
use Rattle.directory.specs.Entries.{entry_at, holder_of}
use Rattle.directory.specs.Judgements.{judged}
use Rattle.directory.specs.Lookups.{Readable, ends_at, first_that, found_at, is_blocks_left, is_match, lookup_reply, said, said_at}
use Rattle.directory.specs.declared.judgement.Pack.{Pack}
use Rattle.directory.proofs.Firsts.{first-here, first_on}
use Rattle.directory.proofs.Verdicts.{judgement-law}
use Rattle.model.specs.Models.{File, files_from}
use Rattle.model.specs.Steps.{first_file}

-- what is known of the directory of a judged pack
pub record Known (d : Device) (pack : Pack) : Type 0 where
  pub readable : Readable d pack.directory 1024
  pub from : 3 ≤ pack.left
  pub within : pack.left < 39 * pack.directory
  pub marked : is_blocks_left (entry_at d pack.left) ≡ true
  pub first : (f : ℕ) → 3 ≤ f → f < pack.left → is_blocks_left (entry_at d f) ≡ false

pub known : (d : Device) (pack : Pack) → judged d 1024 ≡ Ok pack → Known d pack
known d pack is =
    let granted = (judgement-law d 1024 (judged d 1024) refl).granted pack is in
    let left = granted.follows.is_left in
    subst (Known d) (sym granted.learnt) (record { readable = granted.readable; from = left.from; within = left.within; marked = left.marked; first = left.first })

module _ (d : Device) (pack : Pack) (k : Known d pack) where
  pub read_none : (e : ℕ) → e < 39 * pack.directory → read_fault d (holder_of e) 1024 ≡ None
  read_none e h = k.readable (holder_of e) (omega arith) (omega arith)

  module _ (fits : List ℕ → Bool) where
    -- the lookup ends at the BLOCKS LEFT entry
    at_left : said d 1024 (first_that (ends_at fits d 1024) pack.left (39 * pack.directory - pack.left)) ≡ Ok None
    at_left =
        ap (said d 1024) (first-here (ends_at fits d 1024) pack.left (39 * pack.directory) k.within
        (or_right (is_some (read_fault d (holder_of pack.left) 1024)) _ (or_left (is_blocks_left (entry_at d pack.left)) _ k.marked)))
        ∙ ap (said_at d pack.left) (read_none pack.left k.within)
        ∙ ap (λ t. cond t (Ok None) (Ok (Some (found_at d pack.left)))) k.marked

    module _ (e : ℕ) (low : 3 ≤ e) (high : e < pack.left) where
      within : e < 39 * pack.directory
      within = omega (arith, k.within)

      -- a match is what is found
      at-match : is_match fits (entry_at d e) ≡ true → said d 1024 (first_that (ends_at fits d 1024) e (39 * pack.directory - e)) ≡ Ok (Some (found_at d e))
      at-match t =
          ap (said d 1024) (first-here (ends_at fits d 1024) e (39 * pack.directory) within
          (or_right (is_some (read_fault d (holder_of e) 1024)) _ (or_right (is_blocks_left (entry_at d e)) _ t)))
          ∙ ap (said_at d e) (read_none e within) ∙ ap (λ b. cond b (Ok None) (Ok (Some (found_at d e)))) (k.first e low high)

      past : is_match fits (entry_at d e) ≡ false
          → first_that (ends_at fits d 1024) (e + 1) (39 * pack.directory - (e + 1)) ≡ first_that (ends_at fits d 1024) e (39 * pack.directory - e)
      past t =
          first_on (ends_at fits d 1024) e (39 * pack.directory) within
          (or_from (is_some (read_fault d (holder_of e) 1024)) _ (ap is_some (read_none e within)) (or_from (is_blocks_left (entry_at d e)) _ (k.first e low high) t))

      file-on : (rest : List File) (t : Bool) → is_match fits (entry_at d e) ≡ t
          → said d 1024 (first_that (ends_at fits d 1024) (e + 1) (39 * pack.directory - (e + 1))) ≡ Ok (first_file (λ f bytes. is_match fits bytes) (e + 1) rest)
          → said d 1024 (first_that (ends_at fits d 1024) e (39 * pack.directory - e)) ≡ Ok (cond t (Some (found_at d e)) (first_file (λ f bytes. is_match fits bytes) (e + 1) rest))
      file-on rest true t later = at-match t
      file-on rest false t later = ap (said d 1024) (sym (past t)) ∙ later

    files-from : (n e : ℕ) → 3 ≤ e → e + n ≡ pack.left
        → said d 1024 (first_that (ends_at fits d 1024) e (39 * pack.directory - e)) ≡ Ok (first_file (λ f bytes. is_match fits bytes) e (files_from d e n))
    files-from zero e low end = ap (λ f. said d 1024 (first_that (ends_at fits d 1024) f (39 * pack.directory - f))) (let z : e ≡ pack.left = omega arith in z) ∙ at_left
    files-from (suc n) e low end = file-on e low (omega arith) (files_from d (e + 1) n) (is_match fits (entry_at d e)) refl (files-from n (e + 1) (omega arith) (omega arith))

    pub found-file : lookup_reply fits d pack.directory 1024 ≡ Ok (first_file (λ f bytes. is_match fits bytes) 3 (files_from d 3 (pack.left - 3)))
    found-file = files-from (pack.left - 3) 3 (omega arith) (omega (arith, k.from))

-- the file of an entry number
module _ (d : Device) (entry : ℕ) where
  pub numbered-in : (n e : ℕ) → e ≤ entry → entry < e + n → first_file (λ f bytes. eqb f entry) e (files_from d e n) ≡ Some (found_at d entry)
  numbered-in zero e low high = absurd (omega arith)
  numbered-in (suc n) e low high = by (cases_eq e entry) (λ l. numbered-in n (e + 1) l (omega arith))
    where
      by : (e ≡ entry) ⊎ (e ≡ entry → ⊥) → (e + 1 ≤ entry → first_file (λ f bytes. eqb f entry) (e + 1) (files_from d (e + 1) n) ≡ Some (found_at d entry))
          → first_file (λ f bytes. eqb f entry) e (files_from d e (suc n)) ≡ Some (found_at d entry)
      by (inl q) later = ap (λ t. cond t (Some (found_at d e)) (first_file (λ f bytes. eqb f entry) (e + 1) (files_from d (e + 1) n))) (eq-eqb e entry q) ∙ ap (λ f. Some (found_at d f)) q
      by (inr q) later = ap (λ t. cond t (Some (found_at d e)) (first_file (λ f bytes. eqb f entry) (e + 1) (files_from d (e + 1) n))) (ne_eqb e entry q) ∙ later (omega arith)

  pub numbered-out : (n e : ℕ) → (entry < e) ⊎ (e + n ≤ entry) → first_file (λ f bytes. eqb f entry) e (files_from d e n) ≡ None
  numbered-out zero e out = refl
  numbered-out (suc n) e out =
      ap (λ t. cond t (Some (found_at d e)) (first_file (λ f bytes. eqb f entry) (e + 1) (files_from d (e + 1) n))) (ne_eqb e entry (λ q. apart q out))
      ∙ numbered-out n (e + 1) (later out)
    where
      apart : e ≡ entry → (entry < e) ⊎ (e + suc n ≤ entry) → ⊥
      apart q (inl h) = omega arith
      apart q (inr h) = omega arith

      later : (entry < e) ⊎ (e + suc n ≤ entry) → (entry < e + 1) ⊎ (e + 1 + n ≤ entry)
      later (inl h) = inl (omega arith)
      later (inr h) = inr (omega arith)
