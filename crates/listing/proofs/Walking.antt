-- What the code's tests tell of entries, and the walk made of them. Assumes nothing.
use Rattle.std.proofs.Common.{◌≡◌, ℕ, zero, suc, ◌+◌, ◌-◌, ◌*◌, ◌<◌, ◌≤◌, Bool, true, false, cond, List, Some, None, Err, Option, sym, refl, ap, ◌∙◌, inl, inr, arith}
use Rattle.std.proofs.lemmas.Bool.{cases_lt}
use Rattle.refusal.specs.declared.Refusal.TheVariants.{BrokenLayout}
use Rattle.listing.specs.Walks.{IsFirst, directory_walked, entry_at, files_walked, first_that, is_left, is_unreadable, left_walked}

module _ (P : List ℕ → Bool) (bytes : List ℕ) where
  none-passes : (n e : ℕ) → ((k : ℕ) → k < e + n → e ≤ k → P (entry_at bytes k) ≡ false) → first_that P bytes e n ≡ None
  none-passes zero e h = refl
  none-passes (suc n) e h =
      ap (λ b. cond b (Some e) (first_that P bytes (e + 1) n)) (h e (omega arith) (omega arith))
      ∙ none-passes n (e + 1) (λ k l g. h k (omega arith) (omega arith))

  one-passes : (n e f : ℕ) → e ≤ f → f < e + n → P (entry_at bytes f) ≡ true → ((k : ℕ) → k < f → e ≤ k → P (entry_at bytes k) ≡ false) → first_that P bytes e n ≡ Some f
  one-passes zero e f l m t h = absurd (omega arith)
  one-passes (suc n) e f l m t h = elim (cases_lt e f) [
    | inl before ↦
        ap (λ b. cond b (Some e) (first_that P bytes (e + 1) n)) (h e before (omega arith))
        ∙ one-passes n (e + 1) f (omega arith) (omega arith) t (λ k q g. h k q (omega arith))
    | inr here ↦
        let same : e ≡ f = omega arith in
        ap (λ b. cond b (Some e) (first_that P bytes (e + 1) n)) (ap (λ k. P (entry_at bytes k)) same ∙ t) ∙ ap Some same
  ]

-- the first entry of which a test tells what P says is the first that passes P
pub first-is : (Tells : List ℕ → Bool → Type 0) (P : List ℕ → Bool) (bytes : List ℕ) (from to : ℕ) (r : Option ℕ) → IsFirst Tells bytes from to r
    → ((x : List ℕ) (b : Bool) → Tells x b → b ≡ P x) → from ≤ to → r ≡ first_that P bytes from (to - from)
first-is Tells P bytes from to None h tells l =
    sym (none-passes P bytes (to - from) from (λ k m g. sym (tells (entry_at bytes k) false (h.before k (omega arith) g))))
first-is Tells P bytes from to (Some e) h tells l =
    sym (one-passes P bytes (to - from) from e h.passes.0 (omega (arith, h.passes.1)) (sym (tells (entry_at bytes e) true h.passes.2))
    (λ k m g. sym (tells (entry_at bytes k) false (h.before k m g))))

-- the walk, by what was found of the BLOCKS LEFT entry
pub left-missed : (bytes : List ℕ) (d n : ℕ) (r : Option ℕ) → n ≡ d → r ≡ first_that is_left bytes 3 (39 * n - 3) → r ≡ None
    → Err (BrokenLayout (39 * n)) ≡ directory_walked bytes d
left-missed bytes d n r e f none =
    ap (left_walked bytes n) (sym none ∙ f) ∙ ap (directory_walked bytes) e

pub left-found : (bytes : List ℕ) (d n left : ℕ) (r files found : Option ℕ) → n ≡ d → r ≡ first_that is_left bytes 3 (39 * n - 3) → r ≡ Some left
    → files ≡ first_that is_unreadable bytes 3 (left - 3) → files ≡ found → files_walked d left found ≡ directory_walked bytes d
left-found bytes d n left r files found e f some g is =
    ap (files_walked d left) (sym is ∙ g) ∙ ap (λ k. files_walked k left (first_that is_unreadable bytes 3 (left - 3))) (sym e)
    ∙ ap (left_walked bytes n) (sym some ∙ f) ∙ ap (directory_walked bytes) e
