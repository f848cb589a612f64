-- A name escaped byte by byte. Assumes nothing.
use Rattle.std.proofs.Common.{◌≡◌, ℕ, ◌+◌, ◌/◌, ◌%◌, ◌<◌, cond, List, [], ◌∷◌, ◌++◌, length, get_or, take, is_ok, IfOk, Ok, Err, Result, sym, ap, ap₂, ◌∙◌, append_assoc, arith}
use Rattle.std.proofs.lemmas.Bool.Decides.{nat_tests}
use Rattle.std.proofs.lemmas.List.{take_more, flat_map_more}
use Rattle.lines.specs.Texts.{escaped, escaped_byte, hex_byte, hex_digit}

-- a digit is ASCII
pub hex-ascii : (n : ℕ) → n < 16 → hex_digit n < 128
hex-ascii n h = grind (arith, nat_tests)

-- the three pieces of a byte in hexadecimal
pub hexed : {E : Type 0} (r : Result (Unit {0}) E) (out was after high low : List ℕ) (byte : ℕ) → was ≡ (out ++ (92 ∷ 120 ∷ [])) ++ high
    → after ≡ cond (is_ok r) (was ++ low) was → high ≡ hex_digit (byte / 16) ∷ [] → low ≡ hex_digit (byte % 16) ∷ []
    → IfOk r (λ _. after ≡ out ++ hex_byte byte)
hexed (Ok u) out was after high low byte w e h l =
    e ∙ ap (λ z. z ++ low) w ∙ ap₂ (λ x y. ((out ++ (92 ∷ 120 ∷ [])) ++ x) ++ y) h l ∙ simp append_assoc
hexed (Err d) out was after high low byte w e h l = tt

-- one byte more, escaped
pub escaped-more : (name out after : List ℕ) (i : ℕ) → i < length name → out ≡ escaped (take i name) → after ≡ out ++ escaped_byte (get_or name i 0) → after ≡ escaped (take (i + 1) name)
escaped-more name out after i h e a =
    a ∙ ap (λ z. z ++ escaped_byte (get_or name i 0)) e
    ∙ flat_map_more escaped_byte [] (take i name) (get_or name i 0)
    ∙ ap escaped (sym (take_more name i 0 h))
