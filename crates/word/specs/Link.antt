-- The link word as a sum of powers of two. (Document 01: Tables, Slot rows.)
use Rattle.std.specs.Prelude.{ℕ, ◌+◌, ◌*◌, ◌/◌, ◌%◌, ◌^◌}
use Rattle.word.specs.declared.Link.{Link}

-- Bits 63–32 tag, 31–15 zero, 14–0 slot.
abbrev pub link_word : Link → ℕ
link_word l = l.tag * 2 ^ 32 + l.slot

-- The fields of a word, and its bits 31–15.
abbrev pub link_of : ℕ → Link
link_of w = record { tag = w / 2 ^ 32; slot = w % 2 ^ 15 }

abbrev pub spare_of : ℕ → ℕ
spare_of w = w / 2 ^ 15 % 2 ^ 17

-- Each field cut to its width.
abbrev pub cut_link : Link → Link
cut_link l = record { tag = l.tag % 2 ^ 32; slot = l.slot % 2 ^ 15 }

abbrev pub pack_link : Link → ℕ
pack_link l = link_word (cut_link l)
