-- A file's length as its entry has it: used blocks, and bytes in the last of them. Assumes nothing.
--   split       the pair that a length has
--   length_of   the length of a pair, if some length has it
use Rattle.std.specs.Prelude.{ℕ, ◌+◌, ◌-◌, ◌*◌, ◌/◌, cond, ◌&&◌, Some, None, Option, ◌==◌, nat_le}

-- The blocks that hold a length: a length over 1,024, rounded up.
abbrev pub blocks_for : ℕ → ℕ
blocks_for length = (length + 1023) / 1024

-- A length of 0 is 0 and 0. Any other fills all its blocks but the last, which has 1 to 1,024 bytes.
abbrev pub split : ℕ → ℕ × ℕ
split length = (blocks_for length, length - 1024 * (blocks_for length - 1))

-- A pair with used blocks has 1 to 1,024 bytes in the last; the pair without them is 0 and 0. No length has another.
abbrev pub length_of : ℕ → ℕ → Option ℕ
length_of used last =
    cond (used == 0) (cond (last == 0) (Some 0) None)
    (cond (nat_le 1 last && nat_le last 1024) (Some (1024 * (used - 1) + last)) None)

-- The longest length that an entry can hold: 65,535 full blocks.
abbrev pub longest : ℕ
longest = 67107840
