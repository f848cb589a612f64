-- The attributes in letters, one letter on and at the end. Assumes nothing.
use Rattle.std.proofs.Common.{◌≡◌, ℕ, ◌+◌, ◌<◌, Bool, true, false, cond, List, [], ◌∷◌, ◌++◌, get_or, take, refl, sym, ap, ◌∙◌, append-nil, arith, rules}
use Rattle.std.specs.List.{All, flat_map}
use Rattle.std.specs.Str.{IsAscii}
use Rattle.std.proofs.lemmas.List.{flat_map_more, take_more}
use Rattle.std.proofs.lemmas.List.Elements.{All-drop, All-get_or}
use Rattle.std.proofs.lemmas.Str.{IsAscii-append}
use Rattle.std.proofs.lemmas.Str.Ascii.{IsAscii-cons, IsAscii-nil}
use Rattle.entry.specs.Attributes.{bit_of}
use Rattle.entry.specs.Fields.{bit}
use Rattle.entry.specs.declared.attributes.Attribute.{Attribute}
use Rattle.entry.specs.declared.attributes.Attribute.TheVariants.{Locked, WriteProtected, ReadProtected, User, System, Deleted, ExecuteProtected, BlocksLeft}
use Rattle.lines.specs.Rows.{letters}
use Rattle.lines.proofs.Padding.{either-ascii}

abbrev pub shown : ℕ → Attribute × ℕ → List ℕ
shown byte p = cond (bit (bit_of p.0) byte) (p.1 ∷ []) (45 ∷ [])

abbrev pub table : List (Attribute × ℕ)
table =
    (Locked, 76) ∷ (WriteProtected, 87) ∷ (ReadProtected, 82) ∷ (User, 85) ∷ (System, 83) ∷ (Deleted, 68) ∷ (ExecuteProtected, 88) ∷ (BlocksLeft, 66) ∷ []

pub table-small : All (λ p. p.1 < 128) table
table-small = search rules

pub lettered : (byte : ℕ) → flat_map (shown byte) table ≡ letters byte
lettered byte = simp append-nil

pub shown-ascii : (byte : ℕ) (ps : List (Attribute × ℕ)) → All (λ p. p.1 < 128) ps → IsAscii (flat_map (shown byte) ps)
shown-ascii byte [] h = IsAscii-nil
shown-ascii byte (p ∷ ps) h =
    IsAscii-append (shown byte p) (flat_map (shown byte) ps)
    (either-ascii (bit (bit_of p.0) byte) (p.1 ∷ []) (45 ∷ [])
    (IsAscii-cons p.1 [] (All-get_or (λ q. q.1 < 128) (p ∷ ps) 0 p (omega arith) h) IsAscii-nil) (IsAscii-cons 45 [] (omega arith) IsAscii-nil))
    (shown-ascii byte ps (All-drop (λ q. q.1 < 128) 1 (p ∷ ps) h))

-- the character that is pushed: the letter or the dash
one-shown : (t : Bool) (letter : ℕ) → cond t (letter ∷ []) (45 ∷ []) ≡ cond t letter 45 ∷ []
one-shown true letter = refl
one-shown false letter = refl

pub pushed-small : (t : Bool) (i : ℕ) (d : Attribute × ℕ) (ch : ℕ) → i < 8 → ch ≡ cond t (get_or table i d).1 45 → ch < 128
pushed-small true i d ch h e = omega (arith, All-get_or (λ p. p.1 < 128) table i d h table-small)
pushed-small false i d ch h e = omega arith

pub lettered-more : (byte i : ℕ) (d : Attribute × ℕ) (t : Bool) (ch : ℕ) (out after : List ℕ) → i < 8 → t ≡ bit (bit_of (get_or table i d).0) byte
    → ch ≡ cond t (get_or table i d).1 45 → out ≡ flat_map (shown byte) (take i table) → after ≡ out ++ (ch ∷ [])
    → after ≡ flat_map (shown byte) (take (i + 1) table)
lettered-more byte i d t ch out after h told e o a =
    let p = get_or table i d in
    let one : ch ∷ [] ≡ shown byte p = ap (λ x. x ∷ []) e ∙ sym (one-shown t p.1) ∙ ap (λ b. cond b (p.1 ∷ []) (45 ∷ [])) told in
    a ∙ (λ j. o j ++ one j) ∙ flat_map_more (shown byte) [] (take i table) p ∙ ap (flat_map (shown byte)) (sym (take_more table i d h))
