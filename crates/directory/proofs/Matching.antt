-- The search, one entry on and at its end, and what its answer says of the files. Assumes nothing.
use Rattle.std.proofs.Common.{◌≡◌, ℕ, ◌+◌, ◌-◌, ◌*◌, ◌<◌, ◌≤◌, Bool, true, false, cond, not, ◌||◌, ◌⊎◌, List, is_some, Some, None, Ok, Err, Option, Result, sym, refl, ap, ◌∙◌, subst, inl, inr, arith}
use Rattle.std.proofs.lemmas.Bool.{and_from, and_parts, cases_eq, cases_lt, not_from_false, not-true, or_from, or_left, or_parts, or_right, true≢false}
use Rattle.refusal.specs.declared.Refusal.{Refusal}
use Rattle.blocks.specs.Devices.{Device, read_fault, refusal_of}
use Rattle.blocks.specs.declared.faults.Fault.{Fault}
use Rattle.directory.specs.Entries.{entry_at, holder_of}
use Rattle.directory.specs.Lookups.{FirstMatch, Match, Readable, LookupLaw, Unread, ends_at, first_that, found_at, is_blocks_left, is_deleted, is_match, said, said_at, lookup_reply}
use Rattle.directory.specs.declared.lookups.Found.{Found}
use Rattle.directory.proofs.Carrying.{IsRead}
use Rattle.directory.proofs.Firsts.{IsFirst, first-here, first-is, first_on}

-- what is left from entry e on gives what the whole search gives
abbrev pub Ahead : (List ℕ → Bool) → Device → ℕ → ℕ → ℕ → Type 0
Ahead fits d directory len e = first_that (ends_at fits d len) e (39 * directory - e) ≡ first_that (ends_at fits d len) 3 (39 * directory - 3)

-- the three kinds of answer
module _ (fits : List ℕ → Bool) (d : Device) (directory len : ℕ) (reply : Result (Option Found) Refusal) where
  law-none : reply ≡ Ok None → ((e : ℕ) → Match fits d directory e → ⊥) → LookupLaw fits d directory len reply
  law-none is no-match = record {
    found = λ f h. absurd (let same : Ok None ≡ Ok (Some f) = sym is ∙ h in cc);
    first = λ all e m. absurd (no-match e m.match);
    none = λ h. no-match;
    only = λ all h. is;
    refused = λ refusal h. absurd (let same : Ok None ≡ Err refusal = sym is ∙ h in cc);
  }

  law-found : (e : ℕ) → reply ≡ Ok (Some (found_at d e)) → FirstMatch fits d directory e → LookupLaw fits d directory len reply
  law-found e is m = record {
    found = λ f h. subst (FirstMatch fits d directory) (let same : Ok (Some (found_at d e)) ≡ Ok (Some f) = sym is ∙ h in let z : found_at d e ≡ f = cc in ap (λ k. k.number) z) m;
    first = λ all f n. is ∙ ap (λ k. Ok (Some (found_at d k))) (omega (arith, m.least f n.match, n.least e m.match));
    none = λ h. absurd (let same : Ok None ≡ Ok (Some (found_at d e)) = sym h ∙ is in cc);
    only = λ all h. absurd (h e m.match);
    refused = λ refusal h. absurd (let same : Ok (Some (found_at d e)) ≡ Err refusal = sym is ∙ h in cc);
  }

  law-refused : (refusal : Refusal) → reply ≡ Err refusal → Unread fits d directory len refusal → (Readable d directory len → ⊥) → LookupLaw fits d directory len reply
  law-refused refusal is unread bad = record {
    found = λ f h. absurd (let same : Ok (Some f) ≡ Err refusal = sym h ∙ is in cc);
    first = λ all. absurd (bad all);
    none = λ h. absurd (let same : Ok None ≡ Err refusal = sym h ∙ is in cc);
    only = λ all. absurd (bad all);
    refused = λ other h. subst (Unread fits d directory len) (let same : Err refusal ≡ Err other = sym is ∙ h in let z : refusal ≡ other = cc in z) unread;
  }

module _ (fits : List ℕ → Bool) (d : Device) (directory len : ℕ) where
  -- what holds of an entry at which the search does not end
  passed : (e : ℕ) → ends_at fits d len e ≡ false → (is_blocks_left (entry_at d e) ≡ false) × (is_match fits (entry_at d e) ≡ false)
  passed e h =
      or_parts (is_blocks_left (entry_at d e)) (is_match fits (entry_at d e))
      (or_parts (is_some (read_fault d (holder_of e) len)) (is_blocks_left (entry_at d e) || is_match fits (entry_at d e)) h).1

  ends-match : (e : ℕ) → Match fits d directory e → ends_at fits d len e ≡ true
  ends-match e m =
      or_right (is_some (read_fault d (holder_of e) len)) (is_blocks_left (entry_at d e) || is_match fits (entry_at d e))
      (or_right (is_blocks_left (entry_at d e)) (is_match fits (entry_at d e))
      (and_from (not (is_deleted (entry_at d e))) (fits (entry_at d e)) (not_from_false (is_deleted (entry_at d e)) m.live) m.fit))

  -- a match stands no earlier than where the search ends
  not-before : (e : ℕ) → ((f : ℕ) → 3 ≤ f → f < e → ends_at fits d len f ≡ false) → (f : ℕ) → Match fits d directory f → e ≤ f
  not-before e before f m = by (cases_lt f e)
    where
      by : (f < e) ⊎ (e ≤ f) → e ≤ f
      by (inl q) = absurd (true≢false (sym (ends-match f m) ∙ before f m.file.from q))
      by (inr q) = q

  module _ (e : ℕ) (h : IsFirst (ends_at fits d len) 3 (39 * directory - 3) (Some e)) where
    -- it ends at a match that no other stands before
    matched : read_fault d (holder_of e) len ≡ None → is_blocks_left (entry_at d e) ≡ false → FirstMatch fits d directory e
    matched none left =
        let ended : is_match fits (entry_at d e) ≡ true =
        sym (ap (λ o. is_some o || (is_blocks_left (entry_at d e) || is_match fits (entry_at d e))) none ∙ ap (λ b. b || is_match fits (entry_at d e)) left) ∙ h.2 in
        let parts = and_parts (not (is_deleted (entry_at d e))) (fits (entry_at d e)) ended in
        record {
          match = record {
            file = record { from = h.0; within = omega (arith, h.0, h.1); before = λ f low high. by f low (cases_eq f e) high };
            live = not-true (is_deleted (entry_at d e)) parts.0;
            fit = parts.1;
          };
          least = not-before e h.3;
        }
      where
        by : (f : ℕ) → 3 ≤ f → (f ≡ e) ⊎ (f ≡ e → ⊥) → f ≤ e → is_blocks_left (entry_at d f) ≡ false
        by f low (inl q) high = ap (λ k. is_blocks_left (entry_at d k)) q ∙ left
        by f low (inr q) high = (passed f (h.3 f low (omega arith))).0

    at_entry : (o : Option Fault) (t : Bool) → read_fault d (holder_of e) len ≡ o → is_blocks_left (entry_at d e) ≡ t
        → LookupLaw fits d directory len (said_at d e (read_fault d (holder_of e) len))
    at_entry None true none left =
        law-none fits d directory len _ (ap (said_at d e) none ∙ ap (λ b. cond b (Ok None) (Ok (Some (found_at d e)))) left)
        (λ f m. true≢false (sym left ∙ m.file.before e h.0 (not-before e h.3 f m)))
    at_entry None false none left =
        law-found fits d directory len _ e (ap (said_at d e) none ∙ ap (λ b. cond b (Ok None) (Ok (Some (found_at d e)))) left) (matched none left)
    at_entry (Some fault) t met left =
        law-refused fits d directory len _ (refusal_of fault) (ap (said_at d e) met)
        (record { entry = e; fault = fault; met = met; told = refl; nothing = not-before e h.3 })
        (λ all. absurd (let same : Some fault ≡ None = sym met ∙ all (holder_of e) (omega arith) (omega (arith, h.0, h.1)) in cc))

  at-end : (o : Option ℕ) → IsFirst (ends_at fits d len) 3 (39 * directory - 3) o → LookupLaw fits d directory len (said d len o)
  at-end None h =
      law-none fits d directory len _ refl (λ e m. true≢false (sym (ends-match e m) ∙ h e m.file.from (omega (arith, m.file.from, m.file.within))))
  at-end (Some e) h = at_entry e h (read_fault d (holder_of e) len) (is_blocks_left (entry_at d e)) refl refl

  pub lookup-law : (reply : Result (Option Found) Refusal) → reply ≡ lookup_reply fits d directory len → LookupLaw fits d directory len reply
  lookup-law reply is =
      subst (LookupLaw fits d directory len) (sym is) (at-end (first_that (ends_at fits d len) 3 (39 * directory - 3)) (first-is (ends_at fits d len) (39 * directory - 3) 3))

  -- where the search has come to, with all of it still ahead
  module _ (e : ℕ) (ahead : Ahead fits d directory len e) (h : e < 39 * directory) where
    ended : ends_at fits d len e ≡ true → said d len (Some e) ≡ lookup_reply fits d directory len
    ended t = ap (said d len) (sym (first-here (ends_at fits d len) e (39 * directory) h t) ∙ ahead)

    pub at-fault : (fault : Fault) (b : ℕ) → b ≡ holder_of e → read_fault d b len ≡ Some fault → Err (refusal_of fault) ≡ lookup_reply fits d directory len
    at-fault fault b at met =
        let is : read_fault d (holder_of e) len ≡ Some fault = ap (λ k. read_fault d k len) (sym at) ∙ met in
        sym (ap (said_at d e) is)
        ∙ ended (or_left (is_some (read_fault d (holder_of e) len)) (is_blocks_left (entry_at d e) || is_match fits (entry_at d e)) (ap is_some is))

    module _ (bytes : List ℕ) (read : IsRead d e len bytes) where
      pub at-blocks-left : is_blocks_left bytes ≡ true → Ok None ≡ lookup_reply fits d directory len
      at-blocks-left t =
          let left : is_blocks_left (entry_at d e) ≡ true = ap is_blocks_left (sym read.same) ∙ t in
          sym (ap (said_at d e) read.none ∙ ap (λ b. cond b (Ok None) (Ok (Some (found_at d e)))) left)
          ∙ ended (or_right (is_some (read_fault d (holder_of e) len)) (is_blocks_left (entry_at d e) || is_match fits (entry_at d e))
          (or_left (is_blocks_left (entry_at d e)) (is_match fits (entry_at d e)) left))

      pub at-match : is_blocks_left bytes ≡ false → is_match fits bytes ≡ true → Ok (Some (record { number = e; entry = record { bytes = bytes } })) ≡ lookup_reply fits d directory len
      at-match f t =
          let left : is_blocks_left (entry_at d e) ≡ false = ap is_blocks_left (sym read.same) ∙ f in
          ap (λ b. Ok (Some (record { number = e; entry = record { bytes = b } }))) read.same
          ∙ sym (ap (said_at d e) read.none ∙ ap (λ b. cond b (Ok None) (Ok (Some (found_at d e)))) left)
          ∙ ended (or_right (is_some (read_fault d (holder_of e) len)) (is_blocks_left (entry_at d e) || is_match fits (entry_at d e))
          (or_right (is_blocks_left (entry_at d e)) (is_match fits (entry_at d e)) (ap (is_match fits) (sym read.same) ∙ t)))

      pub past : is_blocks_left bytes ≡ false → is_match fits bytes ≡ false → Ahead fits d directory len (e + 1)
      past f t =
          first_on (ends_at fits d len) e (39 * directory) h
          (or_from (is_some (read_fault d (holder_of e) len)) (is_blocks_left (entry_at d e) || is_match fits (entry_at d e)) (ap is_some read.none)
          (or_from (is_blocks_left (entry_at d e)) (is_match fits (entry_at d e)) (ap is_blocks_left (sym read.same) ∙ f) (ap (is_match fits) (sym read.same) ∙ t)))
          ∙ ahead

  pub at_last : (e : ℕ) → Ahead fits d directory len e → 39 * directory ≤ e → Ok None ≡ lookup_reply fits d directory len
  at_last e ahead h = ap (said d len) (ap (first_that (ends_at fits d len) e) (let z : 0 ≡ 39 * directory - e = omega arith in z) ∙ ahead)
