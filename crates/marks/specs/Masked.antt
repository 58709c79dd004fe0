-- Word k of the marks as it is counted. (Document 02, #105: "with bit 0 and those above the last slot left out".)
use Rattle.std.specs.Prelude.{cond, ℕ, ◌+◌, ◌*◌, ◌/◌, ◌%◌, ◌^◌, eqb}

-- The last word without the bits above the last slot's.
abbrev pub up_to_last : ℕ → ℕ → ℕ → ℕ
up_to_last w k slots = cond (eqb k (slots / 64)) (w % 2 ^ (slots % 64 + 1)) w

-- Word 0 without bit 0 besides.
abbrev pub masked_word : ℕ → ℕ → ℕ → ℕ
masked_word w k slots = cond (eqb k 0) (up_to_last w k slots / 2 * 2) (up_to_last w k slots)
