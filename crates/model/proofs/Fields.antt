-- The entries of a fresh pack: how long they are, and what their fields hold. Assumes nothing.
use Rattle.std.proofs.Common.{◌≡◌, ℕ, ◌+◌, ◌-◌, ◌*◌, ◌/◌, ◌%◌, ◌≤◌, true, leb, List, ◌∷◌, ◌++◌, length, get_or, take, drop, replicate, Some, None, Option, refl, ap, ◌∙◌, arith}
use Rattle.std.proofs.Math.Seq.{drop-append-add}
use Rattle.std.proofs.lemmas.List.{get_or-append_right, length-append, length-replicate}
use Rattle.std.proofs.lemmas.Bool.{and_parts, leb-true}
use Rattle.names.specs.Names.{all_printable, characters, is_volume, name_field}
use Rattle.entry.specs.Fields.{check_bytes, check_of, directory_of, first_of, long_bytes, room_of, size_of}
use Rattle.entry.specs.declared.stamp.Stamp.{Stamp}
use Rattle.directory.specs.Lookups.{is_blocks_left}
use Rattle.model.specs.Fresh.{boot_entry, dated, directory_entry, left_entry, volume_entry}

pub field-long : (name : List ℕ) → is_volume name ≡ true → length (name_field name) ≡ 12
field-long name h =
    let few = leb-true (length (characters name)) 11 (and_parts (leb (length (characters name)) 11) (all_printable (characters name)) (and_parts (leb 1 (length (characters name))) _ h).1).0 in
    omega (arith, few, length-append (characters name) (3 ∷ replicate (11 - length (characters name)) 0), length-replicate {A = ℕ} (11 - length (characters name)) 0)

dated-long : (date : Option Stamp) → length (dated date) ≡ 3
dated-long None = refl
dated-long (Some day) = refl

-- numbers read back from their bytes
word-is : (n : ℕ) → n ≤ 65535 → n % 256 + n / 256 % 256 * 256 ≡ n
word-is n h = omega arith

long-is : (n : ℕ) → n ≤ 65535 → n % 256 + n / 256 % 256 * 256 + n / 65536 % 256 * 65536 + n / 16777216 % 256 * 16777216 ≡ n
long-is n h = omega arith

pub past : (xs ys : List ℕ) (m n k : ℕ) → length xs ≡ m → n ≡ m + k → drop n (xs ++ ys) ≡ drop k ys
past xs ys m n k long is = ap (λ j. drop j (xs ++ ys)) (let z : n ≡ length xs + k = omega arith in z) ∙ drop-append-add xs ys k

-- the volume's entry
pub volume-long : (name : List ℕ) (directory blocks : ℕ) (date : Option Stamp) → is_volume name ≡ true → length (volume_entry name directory blocks date) ≡ 26
volume-long name directory blocks date keeps =
    length-append (name_field name) ((128 + directory) ∷ (check_bytes ++ (long_bytes blocks ++ (0 ∷ 0 ∷ dated date)))) ∙ omega (arith, field-long name keeps, dated-long date)

module _ (name : List ℕ) (directory blocks : ℕ) (date : Option Stamp) (keeps : is_volume name ≡ true) (few : directory ≤ 127) (small : blocks ≤ 65535) where
  abbrev rest : List ℕ
  rest = (128 + directory) ∷ (check_bytes ++ (long_bytes blocks ++ (0 ∷ 0 ∷ dated date)))

  pub volume-check : check_of (volume_entry name directory blocks date) ≡ check_bytes
  volume-check = ap (take 4) (past (name_field name) rest 12 13 1 (field-long name keeps) (omega arith))

  pub volume-directory : directory_of (volume_entry name directory blocks date) ≡ directory
  volume-directory = ap (λ a. a % 128) (get_or-append_right (name_field name) rest 12 12 0 (field-long name keeps) (omega arith)) ∙ (let z : (128 + directory) % 128 ≡ directory = omega arith in z)

  pub volume-size : size_of (volume_entry name directory blocks date) ≡ blocks
  volume-size =
      let at : (i : ℕ) → 12 ≤ i → get_or (name_field name ++ rest) i 0 ≡ get_or rest (i - 12) 0 = λ i h. get_or-append_right (name_field name) rest 12 i 0 (field-long name keeps) h in
      omega (arith, at 17 (omega arith), at 18 (omega arith), at 19 (omega arith), at 20 (omega arith), long-is blocks small)

pub boot-long : (date : Option Stamp) → length (boot_entry date) ≡ 26
boot-long date = omega (arith, dated-long date)

pub boot-first : (date : Option Stamp) → first_of (boot_entry date) ≡ 0
boot-first date = refl

pub boot-room : (date : Option Stamp) → room_of (boot_entry date) ≡ 1
boot-room date = refl

pub directory-first : (directory : ℕ) (date : Option Stamp) → first_of (directory_entry directory date) ≡ 1
directory-first directory date = refl

pub directory-room : (directory : ℕ) (date : Option Stamp) → directory ≤ 127 → room_of (directory_entry directory date) ≡ directory
directory-room directory date few = let z : directory % 256 + directory / 256 % 256 * 256 ≡ directory = omega arith in z

pub left-first : (directory blocks : ℕ) (date : Option Stamp) → directory ≤ 127 → first_of (left_entry directory blocks date) ≡ 1 + directory
left-first directory blocks date few = long-is (1 + directory) (omega arith)

pub left-room : (directory blocks : ℕ) (date : Option Stamp) → blocks ≤ 65535 → room_of (left_entry directory blocks date) ≡ blocks - (1 + directory)
left-room directory blocks date small = word-is (blocks - (1 + directory)) (omega arith)

pub left-marked : (directory blocks : ℕ) (date : Option Stamp) → is_blocks_left (left_entry directory blocks date) ≡ true
left-marked directory blocks date = refl

pub directory-long : (directory : ℕ) (date : Option Stamp) → length (directory_entry directory date) ≡ 26
directory-long directory date = omega (arith, dated-long date)

pub left-long : (directory blocks : ℕ) (date : Option Stamp) → length (left_entry directory blocks date) ≡ 26
left-long directory blocks date = omega (arith, dated-long date)
