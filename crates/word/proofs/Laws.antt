-- Packing and unpacking undo each other.
use mathlib.Core.Path.{◌≡◌, ap, ◌∙◌}
use Prim.Native.Nat.{ℕ, ◌^◌, ◌<◌}
use native.Mathlib.Omega.{arith}
use Rattle.word.specs.{declared.{Anchor.Anchor, Link.Link}, Anchor.{anchor_word, anchor_of, cut_anchor, pack_anchor}}
use Rattle.word.specs.Link.{link_word, link_of, spare_of, cut_link, pack_link}

-- Each field within its width.
pub record AnchorFits (a : Anchor) : Type 0 where
  pub tag : a.tag < 2 ^ 32
  pub status : a.status < 2 ^ 2
  pub left : a.left < 2 ^ 15
  pub right : a.right < 2 ^ 15

pub record LinkFits (l : Link) : Type 0 where
  pub tag : l.tag < 2 ^ 32
  pub slot : l.slot < 2 ^ 15

pub same-anchor : {a b : Anchor} → (a.tag ≡ b.tag) × (a.status ≡ b.status) × (a.left ≡ b.left) × (a.right ≡ b.right) → a ≡ b
same-anchor e = λ i. record { tag = e.0 i; status = e.1 i; left = e.2 i; right = e.3 i }

pub same-link : {a b : Link} → (a.tag ≡ b.tag) × (a.slot ≡ b.slot) → a ≡ b
same-link e = λ i. record { tag = e.0 i; slot = e.1 i }

-- fields in range are packed as they are
pub pack_fits : (a : Anchor) → AnchorFits a → pack_anchor a ≡ anchor_word a
pack_fits a h = ap anchor_word (same-anchor {a = cut_anchor a} (omega arith))

pub pack_link-fits : (l : Link) → LinkFits l → pack_link l ≡ link_word l
pack_link-fits l h = ap link_word (same-link {a = cut_link l} (omega arith))

-- the fields of a word are in range, and make the word
pub fits_unpack : (w : ℕ) → w < 2 ^ 64 → AnchorFits (anchor_of w)
fits_unpack w h = omega arith

pub word_fields : (w : ℕ) → anchor_word (anchor_of w) ≡ w
word_fields w = omega arith

-- unpack after pack, for fields in range
pub unpack_pack : (a : Anchor) → AnchorFits a → anchor_of (pack_anchor a) ≡ a
unpack_pack a h = ap anchor_of (pack_fits a h) ∙ same-anchor (omega arith)

pub unpack_pack_link : (l : Link) → LinkFits l → link_of (pack_link l) ≡ l
unpack_pack_link l h = ap link_of (pack_link-fits l h) ∙ same-link (omega arith)

-- pack after unpack, for every 64-bit word; a link word has no set bit in 31–15
pub pack_unpack : (w : ℕ) → w < 2 ^ 64 → pack_anchor (anchor_of w) ≡ w
pack_unpack w h = pack_fits (anchor_of w) (fits_unpack w h) ∙ word_fields w

pub pack_unpack_link : (w : ℕ) → w < 2 ^ 64 → spare_of w ≡ 0 → pack_link (link_of w) ≡ w
pack_unpack_link w h z = omega arith
