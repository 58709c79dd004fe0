-- The Anchor word as a sum of powers of two. (Document 01: Tables, Anchor.)
use Rattle.std.specs.Prelude.{ℕ, ◌+◌, ◌*◌, ◌/◌, ◌%◌, ◌^◌}
use Rattle.word.specs.declared.Anchor.{Anchor}

-- Bits 63–32 tag, 31–30 status, 29–15 left end, 14–0 right end.
abbrev pub anchor_word : Anchor → ℕ
anchor_word a = a.tag * 2 ^ 32 + a.status * 2 ^ 30 + a.left * 2 ^ 15 + a.right

-- The fields of a word.
abbrev pub anchor_of : ℕ → Anchor
anchor_of w = record { tag = w / 2 ^ 32; status = w / 2 ^ 30 % 2 ^ 2; left = w / 2 ^ 15 % 2 ^ 15; right = w % 2 ^ 15 }

-- Each field cut to its width.
abbrev pub cut_anchor : Anchor → Anchor
cut_anchor a = record { tag = a.tag % 2 ^ 32; status = a.status % 2 ^ 2; left = a.left % 2 ^ 15; right = a.right % 2 ^ 15 }

abbrev pub pack_anchor : Anchor → ℕ
pack_anchor a = anchor_word (cut_anchor a)

-- An empty, STABLE Anchor.
abbrev pub empty_anchor : ℕ → Anchor
empty_anchor tag = record { tag = tag; status = 0; left = 0; right = 0 }
