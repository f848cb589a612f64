-- What the tests of an entry decide: an entry holds exactly if its test says so. Assumes nothing.
use Rattle.std.proofs.Common.{◌≡◌, ℕ, zero, suc, ◌+◌, ◌-◌, ◌*◌, ◌/◌, ◌≤◌, true, false, ◌||◌, eqb, ◌⊎◌, List, [], ◌∷◌, get_or, is_some, sym, refl, ap, ◌∙◌, ap₂, inl, inr, arith}
use Rattle.std.proofs.lemmas.Bool.{cases_eq, eq-eqb, eqb-true, or_cases, or_left, or_right, true≢false}
use Rattle.std.proofs.lemmas.Bool.Decides.{nat_tests}
use Rattle.std.proofs.lemmas.Slice.Eq.{bytes_eq-Decides}
use Rattle.std.specs.List.{list_any}
use Rattle.std.specs.Str.{bytes_eq}
use Rattle.blocks.specs.Devices.{Device, size_of}
use Rattle.entry.specs.Fields.{check_bytes, check_of, last_of, name_of, used_of}
use Rattle.entry.specs.Lengths.{blocks_for, length_of, split}
use Rattle.directory.specs.Entries.{entry_at}
use Rattle.directory.specs.Judgements.{Holds, file_holds, has_etx, holds, is_placed, later_holds, live_holds, volume_holds}
use Rattle.directory.specs.Layouts.{HasEtx, IsLength, LiveFollows, Placed, VolumeFollows, directory_blocks, end_of, pack_blocks}
use Rattle.directory.specs.Lookups.{is_blocks_left, is_deleted}

-- to find an ETX in a field is to test its bytes in their order
pub any-etx : (xs : List ℕ) → list_any (λ b. eqb b 3) xs ≡ has_etx xs
any-etx [] = refl
any-etx (b ∷ rest) = ap (λ t. eqb b 3 || t) (any-etx rest)

-- an ETX somewhere in a field
etx-found : (xs : List ℕ) → has_etx xs ≡ true → HasEtx xs
etx-found [] h = absurd (true≢false (sym h))
etx-found (b ∷ rest) h = by (or_cases (eqb b 3) (has_etx rest) h) (etx-found rest)
  where
    by : (eqb b 3 ≡ true) ⊎ (has_etx rest ≡ true) → (has_etx rest ≡ true → HasEtx rest) → HasEtx (b ∷ rest)
    by (inl q) later = (0, eqb-true b 3 q)
    by (inr q) later = let at = later q in (suc at.0, at.1)

etx-there : (xs : List ℕ) (i : ℕ) → get_or xs i 0 ≡ 3 → has_etx xs ≡ true
etx-there [] i h = absurd (omega (arith, h))
etx-there (b ∷ rest) zero h = or_left (eqb b 3) (has_etx rest) (eq-eqb b 3 h)
etx-there (b ∷ rest) (suc i) h = or_right (eqb b 3) (has_etx rest) (etx-there rest i h)

-- the volume's entry
module _ (d : Device) where
  pub volume-follows : volume_holds (size_of d) (entry_at d 0) ≡ true → VolumeFollows d
  volume-follows h =
      let check : bytes_eq (check_of (entry_at d 0)) check_bytes ≡ true = grind (arith, nat_tests) in
      record {
        blocks = grind (arith, nat_tests);
        check = (bytes_eq-Decides (check_of (entry_at d 0)) check_bytes).0 check;
        some = grind (arith, nat_tests);
        least = grind (arith, nat_tests);
        most = grind (arith, nat_tests);
      }

  volume-holds : VolumeFollows d → volume_holds (size_of d) (entry_at d 0) ≡ true
  volume-holds v =
      let check = (bytes_eq-Decides (check_of (entry_at d 0)) check_bytes).1 v.check in
      grind (arith, nat_tests, v.blocks, check, v.some, v.least, v.most)

-- an entry's place
placed : (first room : ℕ) (bytes : List ℕ) → is_placed first room bytes ≡ true → Placed first room bytes
placed first room bytes h = record { begins = grind (arith, nat_tests); has = grind (arith, nat_tests) }

is-placed : (first room : ℕ) (bytes : List ℕ) → Placed first room bytes → is_placed first room bytes ≡ true
is-placed first room bytes p = grind (arith, nat_tests, p.begins, p.has)

-- a length
no-last : (used last : ℕ) → used ≡ 0 → is_some (length_of used last) ≡ true → last ≡ 0
no-last used last q h = grind (arith, nat_tests)

last-within : (used last : ℕ) → (used ≡ 0 → ⊥) → is_some (length_of used last) ≡ true → (1 ≤ last) × (last ≤ 1024)
last-within used last n h = grind (arith, nat_tests)

length_some : (used last : ℕ) → is_some (length_of used last) ≡ true → IsLength used last
length_some used last h = by (cases_eq used 0)
  where
    by : (used ≡ 0) ⊎ (used ≡ 0 → ⊥) → IsLength used last
    by (inl q) = (0, ap₂ (λ a b. (a, b)) (sym q) (sym (no-last used last q h)))
    by (inr n) =
        let low = (last-within used last n h).0 in
        let high = (last-within used last n h).1 in
        let u : blocks_for (1024 * (used - 1) + last) ≡ used = omega (arith, low, high, n) in
        (1024 * (used - 1) + last, ap₂ (λ a b. (a, b)) u (ap (λ k. 1024 * (used - 1) + last - 1024 * (k - 1)) u ∙ (let z : 1024 * (used - 1) + last - 1024 * (used - 1) ≡ last = omega arith in z)))

none_used : (used last : ℕ) → used ≡ 0 → last ≡ 0 → is_some (length_of used last) ≡ true
none_used used last q h = grind (arith, nat_tests)

some_used : (used last : ℕ) → (used ≡ 0 → ⊥) → 1 ≤ last → last ≤ 1024 → is_some (length_of used last) ≡ true
some_used used last n low high = grind (arith, nat_tests)

length_has : (used last total : ℕ) → split total ≡ (used, last) → is_some (length_of used last) ≡ true
length_has used last total h = by (cases_eq used 0)
  where
    u : (total + 1023) / 1024 ≡ used
    u = ap (λ p. p.0) h

    l : total - 1024 * ((total + 1023) / 1024 - 1) ≡ last
    l = ap (λ p. p.1) h

    by : (used ≡ 0) ⊎ (used ≡ 0 → ⊥) → is_some (length_of used last) ≡ true
    by (inl q) = none_used used last q (omega (arith, u, l, q))
    by (inr n) = some_used used last n (omega (arith, u, l, n)) (omega (arith, u, l, n))

-- a file
live-follows : (bytes : List ℕ) → live_holds bytes ≡ true → LiveFollows bytes
live-follows bytes h = record { used = grind (arith, nat_tests); length = length_some (used_of bytes) (last_of bytes) (grind (arith, nat_tests)) }

live-holds : (bytes : List ℕ) → LiveFollows bytes → live_holds bytes ≡ true
live-holds bytes l =
    let some = length_has (used_of bytes) (last_of bytes) l.length.0 l.length.1 in
    grind (arith, nat_tests, some, l.used)

-- of which of the four kinds an entry's number makes it
abbrev Numbered : ℕ → Type 0
Numbered e = (e ≡ 0) ⊎ ((e ≡ 1) ⊎ ((e ≡ 2) ⊎ (3 ≤ e)))

numbered : (e : ℕ) → Numbered e
numbered e = by (cases_eq e 0) (cases_eq e 1) (cases_eq e 2)
  where
    by : (e ≡ 0) ⊎ (e ≡ 0 → ⊥) → (e ≡ 1) ⊎ (e ≡ 1 → ⊥) → (e ≡ 2) ⊎ (e ≡ 2 → ⊥) → Numbered e
    by (inl q) r s = inl q
    by (inr p) (inl q) s = inr (inl q)
    by (inr p) (inr r) (inl q) = inr (inr (inl q))
    by (inr p) (inr r) (inr s) = inr (inr (inr (omega arith)))

module _ (d : Device) (e : ℕ) where
  -- what the test is for each kind
  at-0 : e ≡ 0 → holds d e ≡ volume_holds (size_of d) (entry_at d 0)
  at-0 q = grind (arith, nat_tests)

  at_1 : e ≡ 1 → holds d e ≡ is_placed 0 1 (entry_at d 1)
  at_1 q = grind (arith, nat_tests)

  at-2 : e ≡ 2 → holds d e ≡ is_placed 1 (directory_blocks d) (entry_at d 2)
  at-2 q = grind (arith, nat_tests)

  pub at-later : 3 ≤ e → holds d e ≡ later_holds (pack_blocks d) (end_of (entry_at d (e - 1))) (entry_at d e)
  at-later q = grind (arith, nat_tests)

  -- the test of an entry from 3 on says what holds of it
  later-is : 3 ≤ e → later_holds (pack_blocks d) (end_of (entry_at d (e - 1))) (entry_at d e) ≡ true → Holds d e
  later-is low h = record {
    volume = λ q. absurd (omega arith);
    boot = λ q. absurd (omega arith);
    directory = λ q. absurd (omega arith);
    begins = λ _. grind (arith, nat_tests);
    ends = λ _ t. grind (arith, nat_tests);
    named = λ _ t. etx-found (name_of (entry_at d e)) (grind (arith, nat_tests));
    live = λ _ t live. live-follows (entry_at d e) (grind (arith, nat_tests));
  }

  is-file : (k : Holds d e) → 3 ≤ e → is_blocks_left (entry_at d e) ≡ false → file_holds (entry_at d e) ≡ true
  is-file k low t =
      let at = k.named low t in
      let etx = etx-there (name_of (entry_at d e)) at.0 at.1 in
      let lives : is_deleted (entry_at d e) ≡ false → live_holds (entry_at d e) ≡ true = λ q. live-holds (entry_at d e) (k.live low t q) in
      grind (arith, nat_tests, etx, lives)

  is_later : (k : Holds d e) → 3 ≤ e → later_holds (pack_blocks d) (end_of (entry_at d (e - 1))) (entry_at d e) ≡ true
  is_later k low =
      let begins = k.begins low in
      let ends : is_blocks_left (entry_at d e) ≡ true → end_of (entry_at d e) ≡ pack_blocks d = k.ends low in
      let file : is_blocks_left (entry_at d e) ≡ false → file_holds (entry_at d e) ≡ true = is-file k low in
      grind (arith, nat_tests, begins, ends, file)

  -- an entry holds exactly if its test says so
  pub holds-is : holds d e ≡ true → Holds d e
  holds-is h = by (numbered e)
    where
      by : Numbered e → Holds d e
      by (inl q) = record {
        volume = λ _. volume-follows d (sym (at-0 q) ∙ h);
        boot = λ r. absurd (omega arith);
        directory = λ r. absurd (omega arith);
        begins = λ r. absurd (omega arith);
        ends = λ r. absurd (omega arith);
        named = λ r. absurd (omega arith);
        live = λ r. absurd (omega arith);
      }
      by (inr (inl q)) = record {
        volume = λ r. absurd (omega arith);
        boot = λ _. placed 0 1 (entry_at d 1) (sym (at_1 q) ∙ h);
        directory = λ r. absurd (omega arith);
        begins = λ r. absurd (omega arith);
        ends = λ r. absurd (omega arith);
        named = λ r. absurd (omega arith);
        live = λ r. absurd (omega arith);
      }
      by (inr (inr (inl q))) = record {
        volume = λ r. absurd (omega arith);
        boot = λ r. absurd (omega arith);
        directory = λ _. placed 1 (directory_blocks d) (entry_at d 2) (sym (at-2 q) ∙ h);
        begins = λ r. absurd (omega arith);
        ends = λ r. absurd (omega arith);
        named = λ r. absurd (omega arith);
        live = λ r. absurd (omega arith);
      }
      by (inr (inr (inr q))) = later-is q (sym (at-later q) ∙ h)

  pub is-holds : Holds d e → holds d e ≡ true
  is-holds k = by (numbered e)
    where
      by : Numbered e → holds d e ≡ true
      by (inl q) = at-0 q ∙ volume-holds d (k.volume q)
      by (inr (inl q)) = at_1 q ∙ is-placed 0 1 (entry_at d 1) (k.boot q)
      by (inr (inr (inl q))) = at-2 q ∙ is-placed 1 (directory_blocks d) (entry_at d 2) (k.directory q)
      by (inr (inr (inr q))) = at-later q ∙ is_later k q
