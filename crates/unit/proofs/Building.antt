-- Entries built field by field, and the block that holds them. Assumes nothing.
use Rattle.std.proofs.Common.{◌≡◌, ℕ, ◌+◌, ◌-◌, List, [], ◌∷◌, ◌++◌, length, take, drop, replicate, Some, None, Option, refl, ap, ◌∙◌, ap₂, append_assoc, arith}
use Rattle.std.proofs.Math.Seq.{take-append-add}
use Rattle.std.proofs.lemmas.List.{drop-replicate}
use Rattle.std.specs.Option.{option_map}
use Rattle.entry.specs.Fields.{check_bytes, long_bytes}
use Rattle.parts.specs.Parts.{stored}
use Rattle.entry.specs.Stamps.{date_bytes}
use Rattle.entry.specs.declared.date.Date.{Date}
use Rattle.model.specs.Fresh.{begun, dated}
use Rattle.model.specs.Models.{stamp_of_date}
use Rattle.model.proofs.Fields.{past}

-- a write behind the front changes what is behind it alone
behind : (front tail new : List ℕ) (m at k : ℕ) → length front ≡ m → at ≡ m + k → stored (front ++ tail) at new ≡ front ++ stored tail k new
behind front tail new m at k long is =
    ap₂ (λ one two. one ++ (new ++ two)) (ap (λ n. take n (front ++ tail)) (let z : at ≡ length front + k = omega arith in z) ∙ take-append-add front tail k) (past front tail m (at + length new) (k + length new) long (omega arith))
    ∙ append_assoc front (take k tail) (new ++ drop (k + length new) tail)

step : (front tail new b b' : List ℕ) (m at k : ℕ) → length front ≡ m → at ≡ m + k → b ≡ front ++ tail → b' ≡ stored b at new → b' ≡ front ++ stored tail k new
step front tail new b b' m at k long is old made = made ∙ ap (λ bytes. stored bytes at new) old ∙ behind front tail new m at k long is

-- the front itself
first : (new b b' : List ℕ) (zeros : List ℕ) → b ≡ zeros → b' ≡ stored b 0 new → b' ≡ new ++ drop (length new) zeros
first new b b' zeros old made = made ∙ ap (λ bytes. stored bytes 0 new) old ∙ ap (λ n. new ++ drop n zeros) (let z : 0 + length new ≡ length new = omega arith in z)

module _ (field : List ℕ) (long : length field ≡ 12) (a : ℕ) (date : Option Date) where
  dated-behind : (day : Option Date) → stored (stored (replicate 14 0) 0 (a ∷ [])) 11 (date_bytes day) ≡ a ∷ (replicate 10 0 ++ dated (option_map stamp_of_date day))
  dated-behind None = refl
  dated-behind (Some day) = refl

  -- an entry with its name, its attributes and its date
  pub begins : (b0 b1 b2 b3 : List ℕ) → b0 ≡ replicate 26 0 → b1 ≡ stored b0 0 field → b2 ≡ stored b1 12 (a ∷ []) → b3 ≡ stored b2 23 (date_bytes date)
      → b3 ≡ begun field a (option_map stamp_of_date date)
  begins b0 b1 b2 b3 e0 e1 e2 e3 =
      let t1 : b1 ≡ field ++ replicate 14 0 = first field b0 b1 (replicate 26 0) e0 e1 ∙ ap (λ n. field ++ drop n (replicate 26 0)) long in
      let t2 = step field _ (a ∷ []) b1 b2 12 12 0 long refl t1 e2 in
      step field _ (date_bytes date) b2 b3 12 23 11 long refl t2 e3 ∙ ap (λ tail. field ++ tail) (dated-behind date)

  -- the volume's entry
  pub volume-built : (n : ℕ) (b0 b1 b2 : List ℕ) → b0 ≡ begun field a (option_map stamp_of_date date) → b1 ≡ stored b0 13 check_bytes → b2 ≡ stored b1 17 (long_bytes n)
      → b2 ≡ field ++ (a ∷ (check_bytes ++ (long_bytes n ++ (0 ∷ 0 ∷ dated (option_map stamp_of_date date)))))
  volume-built n b0 b1 b2 e0 e1 e2 =
      let t1 = step field _ check_bytes b0 b1 12 13 1 long refl e0 e1 in
      step field _ (long_bytes n) b1 b2 12 17 5 long refl t1 e2

-- the four entries in a block of zeros
zeros-put : (new : List ℕ) (n m : ℕ) → length new ≡ 26 → m ≡ n - 26 → stored (replicate n 0) 0 new ≡ new ++ replicate m 0
zeros-put new n m long is = ap (λ zs. new ++ zs) (drop-replicate (0 + length new) n 0 ∙ ap (λ k. replicate k 0) (let z : n - (0 + length new) ≡ m = omega arith in z))

module _ (v b t l : List ℕ) (lv : length v ≡ 26) (lb : length b ≡ 26) (lt : length t ≡ 26) (ll : length l ≡ 26) where
  pub four : (w0 w1 w2 w3 w4 : List ℕ) → w0 ≡ replicate 1024 0 → w1 ≡ stored w0 0 v → w2 ≡ stored w1 26 b → w3 ≡ stored w2 52 t → w4 ≡ stored w3 78 l
      → w4 ≡ v ++ (b ++ (t ++ (l ++ replicate 920 0)))
  four w0 w1 w2 w3 w4 e0 e1 e2 e3 e4 =
      let t1 : w1 ≡ v ++ replicate 998 0 = e1 ∙ ap (λ w. stored w 0 v) e0 ∙ zeros-put v 1024 998 lv refl in
      let t2 : w2 ≡ v ++ (b ++ replicate 972 0) = step v (replicate 998 0) b w1 w2 26 26 0 lv refl t1 e2 ∙ ap (λ zs. v ++ zs) (zeros-put b 998 972 lb refl) in
      let t3 : w3 ≡ v ++ (b ++ (t ++ replicate 946 0)) =
      step v (b ++ replicate 972 0) t w2 w3 26 52 26 lv refl t2 e3 ∙ ap (λ zs. v ++ zs) (behind b (replicate 972 0) t 26 26 0 lb refl ∙ ap (λ zs. b ++ zs) (zeros-put t 972 946 lt refl)) in
      step v (b ++ (t ++ replicate 946 0)) l w3 w4 26 78 52 lv refl t3 e4
      ∙ ap (λ zs. v ++ zs) (behind b (t ++ replicate 946 0) l 26 52 26 lb refl ∙ ap (λ zs. b ++ zs) (behind t (replicate 946 0) l 26 26 0 lt refl ∙ ap (λ zs. t ++ zs) (zeros-put l 946 920 ll refl)))
