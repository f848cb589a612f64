-- A number in two digits, as the options of a format write it. Assumes nothing.
use Rattle.std.proofs.Common.{◌≡◌, ℕ, ◌+◌, ◌-◌, ◌/◌, ◌%◌, ◌^◌, ◌<◌, false, [], ◌∷◌, length, decimal, refl, ap, ◌∙◌, append-nil, inl, inr, arith}
use Rattle.std.proofs.lemmas.Bool.{lt-ltb, le-ltb, cases_lt}
use Rattle.std.proofs.lemmas.Fmt.{decimal_digit, decimal_step, decimal_nonempty}
use Rattle.std.proofs.lemmas.List.{length-append}
use Rattle.std.specs.Fmt.{char_count, format_spec, padded_integral, styled_decimal}
use Rattle.entry.specs.Stamps.{two}

number-two : (n : ℕ) → n < 256 → padded_integral (format_spec 32 0 4 2 (2 ^ 64 - 1)) false [] (decimal n) ≡ two n
unfolding padded_integral char_count
number-two n small = elim (cases_lt n 10) [
  | inl one ↦ rw (decimal_digit n one, lt-ltb n 10 one) refl
  | inr more ↦
      let long : 2 - length (decimal n) ≡ 0 = omega (arith, ap length (decimal_step n more (omega arith)), length-append (decimal (n / 10)) ((48 + n % 10) ∷ []), decimal_nonempty (n / 10) (omega arith)) in
      rw (le-ltb n 10 more) (simp (long, append-nil))
]

pub two-digits : (n m : ℕ) (s : _) → s ≡ format_spec 32 0 4 2 (2 ^ 64 - 1) → n < 256 → n ≡ m → styled_decimal s n ≡ two m
two-digits n m s e small f = ap (λ o. styled_decimal o n) e ∙ number-two n small ∙ ap two f
