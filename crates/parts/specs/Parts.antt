-- A part of some bytes. Assumes nothing.
--   part     what stands at a place, so many bytes long
--   stored   the bytes with others put over them from a place on
use Rattle.std.specs.Prelude.{ℕ, ◌+◌, List, ◌++◌, length, take, drop}

abbrev pub part : ℕ → ℕ → List ℕ → List ℕ
part at count bytes = take count (drop at bytes)

-- Every byte before the place and behind what is put there stays.
abbrev pub stored : List ℕ → ℕ → List ℕ → List ℕ
stored bytes at new = take at bytes ++ (new ++ drop (at + length new) bytes)
