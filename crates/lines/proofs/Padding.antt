-- What the options of a format write, spaces up to a width, and that the texts that they pad are ASCII. Assumes nothing.
use Rattle.std.proofs.Common.{◌≡◌, ℕ, zero, suc, ◌-◌, ◌/◌, ◌%◌, ◌^◌, ◌<◌, ◌≤◌, Bool, true, false, cond, eqb, leb, List, [], ◌∷◌, ◌++◌, length, IfOk, Ok, Err, Result, replicate, codes, decimal, String, string_bytes, sym, refl, ap, subst, ◌∙◌, append-nil, arith, rules}
use Rattle.std.proofs.lemmas.Bool.{lt-ltb, leb-true, ne_eqb, and_parts}
use Rattle.std.specs.Fmt.{char_count, format_spec, padded, padded_integral, styled_decimal, styled_text, take_chars}
use Rattle.std.specs.List.{All, repeat}
use Rattle.std.specs.Str.{IsAscii}
use Rattle.std.proofs.lemmas.List.Elements.{All-drop, All-get_or}
use Rattle.std.proofs.lemmas.Str.{IsAscii-append}
use Rattle.std.proofs.lemmas.Str.Ascii.{IsAscii-nil, IsAscii-cons, IsAscii-from_all}
use Rattle.names.specs.Names.{printable}
use Rattle.entry.specs.Fields.{bit}
use Rattle.lines.specs.Rows.{state_text}
use Rattle.lines.specs.Texts.{escaped, escaped_byte, hex_byte, hex_digit, left, right}
use Rattle.lines.proofs.Escaping.{hex-ascii}

repeat-one : (n c : ℕ) → repeat n (c ∷ []) ≡ replicate n c
repeat-one zero c = refl
repeat-one (suc n) c = ap (λ cs. c ∷ cs) (repeat-one n c)

none-more : (n : ℕ) → n - 0 ≡ n
none-more n = omega arith

none-left : (n : ℕ) → n - n ≡ 0
none-left n = omega arith

-- a number in a column, at its right edge
pub number-right : (w n : ℕ) → padded_integral (format_spec 32 3 0 w (2 ^ 64 - 1)) false [] (decimal n) ≡ right w (decimal n)
unfolding padded_integral char_count lib.Utf8.encode
number-right w n = simp (none-more, none-left, append-nil) (ap (λ cs. cs ++ decimal n) (repeat-one (w - length (decimal n)) 32))

-- each byte below 128 is a character
chars-ascii : (text : List ℕ) → IsAscii text → char_count text ≡ length text
unfolding char_count
chars-ascii [] h = refl
chars-ascii (b ∷ text) h = rw (lt-ltb b 128 (h 0)) (omega (arith, chars-ascii text (λ i. h (suc i))))

taken-ascii : (n : ℕ) (text : List ℕ) → IsAscii text → length text ≤ n → take_chars n text ≡ text
unfolding take_chars
taken-ascii n [] h l = refl
taken-ascii n (b ∷ text) h l =
    rw (lt-ltb b 128 (h 0), ne_eqb n 0 (omega arith)) (ap (λ cs. b ∷ cs) (taken-ascii (n - 1) text (λ i. h (suc i)) (omega arith)))

-- a text in a column, at its left edge or at its right one
pub text-left : (w : ℕ) (text : List ℕ) → IsAscii text → length text < 2 ^ 64 → padded (format_spec 32 1 0 w (2 ^ 64 - 1)) text ≡ left w text
unfolding padded lib.Utf8.encode
text-left w text h l = rw (taken-ascii (2 ^ 64 - 1) text h (omega arith), chars-ascii text h) (simp none-more (ap (λ cs. text ++ cs) (repeat-one (w - length text) 32)))

pub text-right : (w : ℕ) (text : List ℕ) → IsAscii text → length text < 2 ^ 64 → padded (format_spec 32 3 0 w (2 ^ 64 - 1)) text ≡ right w text
unfolding padded lib.Utf8.encode
text-right w text h l = rw (taken-ascii (2 ^ 64 - 1) text h (omega arith), chars-ascii text h) (simp (none-left, append-nil) (ap (λ cs. cs ++ text) (repeat-one (w - length text) 32)))

-- a text is shorter than the memory
pub string-short : {Z : Type 0} (t : String Z) → length (string_bytes t) < 2 ^ 64
string-short t = omega (arith, t.bytes.ok, t.bytes.small)

-- the same, as a hole of a format writes it
pub number-column : (w n m : ℕ) (s : _) → 0 < w → s ≡ format_spec 32 3 0 w (2 ^ 64 - 1) → n ≡ m → styled_decimal s n ≡ right w (decimal m)
number-column w n m s p e f =
    let styled : styled_decimal (format_spec 32 3 0 w (2 ^ 64 - 1)) n ≡ right w (decimal n) = rw (ne_eqb w 0 (omega arith)) (number-right w n) in
    ap (λ o. styled_decimal o n) e ∙ styled ∙ ap (λ k. right w (decimal k)) f

pub left-column : (w : ℕ) (text shown : List ℕ) (s : _) → 0 < w → s ≡ format_spec 32 1 0 w (2 ^ 64 - 1) → text ≡ shown → IsAscii shown → length text < 2 ^ 64
    → styled_text s text ≡ left w shown
left-column w text shown s p e f h l =
    let styled : styled_text (format_spec 32 1 0 w (2 ^ 64 - 1)) shown ≡ left w shown = rw (ne_eqb w 0 (omega arith)) (text-left w shown h (omega (arith, ap length f))) in
    ap (λ o. styled_text o text) e ∙ ap (λ t. styled_text (format_spec 32 1 0 w (2 ^ 64 - 1)) t) f ∙ styled

pub right-column : (w : ℕ) (text shown : List ℕ) (s : _) → 0 < w → s ≡ format_spec 32 3 0 w (2 ^ 64 - 1) → text ≡ shown → IsAscii shown → length text < 2 ^ 64
    → styled_text s text ≡ right w shown
right-column w text shown s p e f h l =
    let styled : styled_text (format_spec 32 3 0 w (2 ^ 64 - 1)) shown ≡ right w shown = rw (ne_eqb w 0 (omega arith)) (text-right w shown h (omega (arith, ap length f))) in
    ap (λ o. styled_text o text) e ∙ ap (λ t. styled_text (format_spec 32 3 0 w (2 ^ 64 - 1)) t) f ∙ styled

-- a text under another name
pub text-is : {E Z : Type 0} (r : Result (String Z) E) (x y : List ℕ) → x ≡ y → IfOk r (λ t. string_bytes t ≡ x) → IfOk r (λ t. string_bytes t ≡ y)
text-is (Ok t) x y e h = h ∙ e
text-is (Err d) x y e h = tt

-- the texts that stand in columns
pub either-ascii : (t : Bool) (xs ys : List ℕ) → IsAscii xs → IsAscii ys → IsAscii (cond t xs ys)
either-ascii true xs ys p q = p
either-ascii false xs ys p q = q

small : (text : List ℕ) → All (λ b. b < 128) text → IsAscii text
small text h = IsAscii-from_all text h

plain-small : (b : ℕ) (t : Bool) → printable b ≡ t → b < 256 → IsAscii (cond t (b ∷ []) (hex_byte b))
plain-small b true e h = IsAscii-cons b [] (omega (arith, leb-true b 126 (and_parts (leb 32 b) (leb b 126) e).1)) IsAscii-nil
plain-small b false e h =
    let low = IsAscii-cons (hex_digit (b % 16)) [] (hex-ascii (b % 16) (omega arith)) IsAscii-nil in
    let high = IsAscii-cons (hex_digit (b / 16)) (hex_digit (b % 16) ∷ []) (hex-ascii (b / 16) (omega arith)) low in
    IsAscii-cons 92 (120 ∷ hex_digit (b / 16) ∷ hex_digit (b % 16) ∷ []) (omega arith) (IsAscii-cons 120 (hex_digit (b / 16) ∷ hex_digit (b % 16) ∷ []) (omega arith) high)

byte-ascii : (b : ℕ) → b < 256 → IsAscii (escaped_byte b)
byte-ascii b h =
    either-ascii (eqb b 92) (92 ∷ 92 ∷ []) (cond (printable b) (b ∷ []) (hex_byte b)) (small (92 ∷ 92 ∷ []) (search rules)) (plain-small b (printable b) refl h)

pub escaped-ascii : (bs : List ℕ) → All (λ b. b < 256) bs → IsAscii (escaped bs)
escaped-ascii [] h = IsAscii-nil
escaped-ascii (b ∷ bs) h =
    IsAscii-append (escaped_byte b) (escaped bs) (byte-ascii b (All-get_or (λ b. b < 256) (b ∷ bs) 0 0 (omega arith) h))
    (escaped-ascii bs (All-drop (λ b. b < 256) 1 (b ∷ bs) h))

pub state-ascii : (byte : ℕ) → IsAscii (state_text byte)
state-ascii byte = either-ascii (bit 2 byte) (codes "deleted") (codes "live") (small (codes "deleted") (search rules)) (small (codes "live") (search rules))

pub state-short : (byte : ℕ) → length (state_text byte) < 2 ^ 64
state-short byte = go (bit 2 byte)
  where
    go : (t : Bool) → length (cond t (codes "deleted") (codes "live")) < 2 ^ 64
    go true = omega arith
    go false = omega arith

pub text-ascii : {E Z : Type 0} (r : Result (String Z) E) (x : List ℕ) → IsAscii x → IfOk r (λ t. string_bytes t ≡ x) → IfOk r (λ t. IsAscii (string_bytes t))
text-ascii (Ok t) x a h = subst IsAscii (sym h) a
text-ascii (Err d) x a h = tt
