-- Lines made piece by piece. Assumes nothing.
use Rattle.std.proofs.Common.{◌≡◌, ℕ, ◌+◌, ◌/◌, ◌%◌, ◌<◌, cond, List, [], ◌∷◌, ◌++◌, length, get_or, take, is_ok, IfOk, Ok, Err, Result, sym, ap, ◌∙◌, ap₂, append_assoc, arith}
use Rattle.std.proofs.lemmas.List.{take_more, flat_map_more}
use Rattle.std.proofs.lemmas.Bool.Decides.{nat_tests}
use Rattle.console.specs.Replies.{hex_digit, hex_pair, hex_text}

pub hex-ascii : (n : ℕ) → n < 16 → hex_digit n < 128
hex-ascii n h = grind (arith, nat_tests)

-- the two digits of a byte
pub paired : {E : Type 0} (r : Result (Unit {0}) E) (out was after high low : List ℕ) (byte : ℕ) → was ≡ out ++ high
    → after ≡ cond (is_ok r) (was ++ low) was → high ≡ hex_digit (byte / 16) ∷ [] → low ≡ hex_digit (byte % 16) ∷ []
    → IfOk r (λ _. after ≡ out ++ hex_pair byte)
paired (Ok u) out was after high low byte w e h l =
    e ∙ ap (λ z. z ++ low) w ∙ ap₂ (λ x y. (out ++ x) ++ y) h l ∙ append_assoc out (hex_digit (byte / 16) ∷ []) (hex_digit (byte % 16) ∷ [])
paired (Err d) out was after high low byte w e h l = tt

-- one byte more, in hexadecimal
pub hex-more : (bytes out after : List ℕ) (i : ℕ) → i < length bytes → out ≡ hex_text (take i bytes) → after ≡ out ++ hex_pair (get_or bytes i 0)
    → after ≡ hex_text (take (i + 1) bytes)
hex-more bytes out after i h e a =
    a ∙ ap (λ z. z ++ hex_pair (get_or bytes i 0)) e ∙ flat_map_more hex_pair [] (take i bytes) (get_or bytes i 0)
    ∙ ap hex_text (sym (take_more bytes i 0 h))
