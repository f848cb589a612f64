-- The first entry that passes a test: what it is, and one entry on. Assumes nothing.
use Rattle.std.proofs.Common.{◌≡◌, ℕ, zero, suc, ◌+◌, ◌-◌, ◌<◌, ◌≤◌, Bool, true, false, cond, ◌⊎◌, Some, None, Option, sym, refl, ap, ◌∙◌, inl, inr, arith}
use Rattle.std.proofs.lemmas.Bool.{cases_eq, cases_order, true≢false}
use Rattle.std.specs.Option.{option_or}
use Rattle.directory.specs.Lookups.{first_that}

-- none of the entries passes, or this one is the first
abbrev pub IsFirst : (ℕ → Bool) → ℕ → ℕ → Option ℕ → Type 0
IsFirst test a n None = (f : ℕ) → a ≤ f → f < a + n → test f ≡ false
IsFirst test a n (Some e) = (a ≤ e) × (e < a + n) × (test e ≡ true) × ((f : ℕ) → a ≤ f → f < e → test f ≡ false)

module _ (test : ℕ → Bool) where
  none_from : (a n f : ℕ) → test a ≡ false → a ≤ f → f < a + suc n → (a + 1 ≤ f → f < a + 1 + n → test f ≡ false) → test f ≡ false
  none_from a n f t low high h = by (cases_eq f a)
    where
      by : (f ≡ a) ⊎ (f ≡ a → ⊥) → test f ≡ false
      by (inl q) = ap test q ∙ t
      by (inr q) = h (omega arith) (omega arith)

  -- one entry more in front, which does not pass
  longer : (a n : ℕ) (o : Option ℕ) → test a ≡ false → IsFirst test (a + 1) n o → IsFirst test a (suc n) o
  longer a n None t h = λ f low high. none_from a n f t low high (h f)
  longer a n (Some e) t h =
      (omega (arith, h.0), omega (arith, h.1), h.2, λ f low high. none_from a n f t low (omega (arith, h.1)) (λ l k. h.3 f l high))

  front : (a n : ℕ) (t : Bool) → test a ≡ t → IsFirst test (a + 1) n (first_that test (a + 1) n) → IsFirst test a (suc n) (cond t (Some a) (first_that test (a + 1) n))
  front a n true h k = (omega arith, omega arith, h, λ f low high. absurd (omega arith))
  front a n false h k = longer a n (first_that test (a + 1) n) h k

  pub first-is : (n a : ℕ) → IsFirst test a n (first_that test a n)
  first-is zero a = λ f low high. absurd (omega arith)
  first-is (suc n) a = front a n (test a) refl (first-is n (a + 1))

  -- there is but one first
  pub same_first : (a n : ℕ) (o p : Option ℕ) → IsFirst test a n o → IsFirst test a n p → o ≡ p
  same_first a n None None h k = refl
  same_first a n None (Some e) h k = absurd (true≢false (sym k.2 ∙ h e k.0 k.1))
  same_first a n (Some e) None h k = absurd (true≢false (sym h.2 ∙ k e h.0 h.1))
  same_first a n (Some e) (Some f) h k = by (cases_order e f)
    where
      by : (e ≡ f) ⊎ ((e < f) ⊎ (f < e)) → Some e ≡ Some f
      by (inl q) = ap Some q
      by (inr (inl q)) = absurd (true≢false (sym h.2 ∙ k.3 e h.0 q))
      by (inr (inr q)) = absurd (true≢false (sym k.2 ∙ h.3 f k.0 q))

  pub first-here : (e to : ℕ) → e < to → test e ≡ true → first_that test e (to - e) ≡ Some e
  first-here e to h t = ap (first_that test e) more ∙ ap (λ b. cond b (Some e) (first_that test (e + 1) (to - (e + 1)))) t
    where
      more : to - e ≡ suc (to - (e + 1))
      more = omega arith

  pub first_on : (e to : ℕ) → e < to → test e ≡ false → first_that test (e + 1) (to - (e + 1)) ≡ first_that test e (to - e)
  first_on e to h t = sym (ap (first_that test e) more ∙ ap (λ b. cond b (Some e) (first_that test (e + 1) (to - (e + 1)))) t)
    where
      more : to - e ≡ suc (to - (e + 1))
      more = omega arith

  -- one entry more at the end
  pub first_next : (a n m e : ℕ) (o : Option ℕ) → e ≡ a + n → m ≡ n + 1 → IsFirst test a n o → IsFirst test a m (option_or o (cond (test e) (Some e) None))
  first_next a n m e (Some f) at more h = (h.0, omega (arith, h.1), h.2, h.3)
  first_next a n m e None at more h = go (test e) refl
    where
      not-one : test e ≡ false → (f : ℕ) → a ≤ f → f < a + m → (f ≡ e) ⊎ (f ≡ e → ⊥) → test f ≡ false
      not-one t f low high (inl q) = ap test q ∙ t
      not-one t f low high (inr q) = h f low (omega arith)

      go : (t : Bool) → test e ≡ t → IsFirst test a m (cond t (Some e) None)
      go true t = (omega arith, omega arith, t, λ f low high. h f low (omega arith))
      go false t = λ f low high. not-one t f low high (cases_eq f e)
