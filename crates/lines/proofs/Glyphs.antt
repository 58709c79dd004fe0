-- The last eight hexadecimal digits of a word as the lanes of another, and their glyphs in their place.
use Prim.Native.Nat.{ℕ, zero, suc, ◌+◌, ◌*◌, ◌/◌, ◌%◌, ◌^◌, ◌<◌, ◌≤◌}
use mathlib.Core.{Path.{◌≡◌, refl, ap, ap₂, ◌∙◌}, Bool.{Bool, true, false}, List.{List, [], ◌∷◌, ◌++◌, map}}
use native.Mathlib.{Nat.mul-div_cancel, Omega.arith}
use lib.{ListN.{get_or}, Dec.{ltb, lit<, lit≤}}
use lib.Bits.{bit_and, and_block, and_high, and_le_r}
use borrow.Author.Tests.{ltb-true, ltb-false}
use Rattle.std.specs.Int.{to_le_bytes}
use Rattle.std.proofs.lemmas.Nat.{le_bytes_8}
use Rattle.std.proofs.Common.{w64}
use Rattle.lines.specs.Line.{glyph, hex_four, hex}
use Rattle.lines.proofs.Lanes.{word, all, Below, cut, cut_below, and_cut}

-- the words that the code makes one of the other
abbrev pub halves : ℕ → ℕ
halves w = w % 65536 * 4294967296 + w / 65536 % 65536

abbrev pub bytes : ℕ → ℕ
bytes a = bit_and a 0x000000ff000000ff * 65536 + bit_and a 0x0000ff000000ff00 / 256

abbrev pub digits : ℕ → ℕ
digits b = bit_and b 0x000f000f000f000f * 256 + bit_and b 0x00f000f000f000f0 / 16

abbrev pub glyphs : ℕ → ℕ
glyphs d = d + 0x3030303030303030 + bit_and (d + 0x0606060606060606) 0x1010101010101010 / 16 * 39

-- They fit, since each mask bounds what it keeps.
pub bytes_fit : (a : ℕ) → bytes a < 2 ^ 64
bytes_fit a = omega (arith, and_le_r a 0x000000ff000000ff, and_le_r a 0x0000ff000000ff00)

pub digits_fit : (b : ℕ) → digits b ≤ 0x0f0f0f0f0f0f0f0f
digits_fit b = omega (arith, and_le_r b 0x000f000f000f000f, and_le_r b 0x00f000f000f000f0)

pub glyphs_fit : (b : ℕ) → glyphs (digits b) < 2 ^ 64
glyphs_fit b = omega (arith, digits_fit b, and_le_r (digits b + 0x0606060606060606) 0x1010101010101010)

-- the digits of w: its halves, their bytes, the digits of these
abbrev halves_of : ℕ → List ℕ
halves_of w = cut 16 (w ∷ [])

abbrev digits_of : ℕ → List ℕ
digits_of w = cut 4 (cut 8 (halves_of w))

digits_are : (w : ℕ) → digits (bytes (halves w)) ≡ word 8 (digits_of w)
digits_are w =
    let a : halves w ≡ word 32 (halves_of w) = omega arith in
    let b : bytes (word 32 (halves_of w)) ≡ word 16 (cut 8 (halves_of w)) =
    and_cut 16 8 (halves_of w) (lit< tt) (lit< tt) (cut_below 16 (2 ^ 32) (w ∷ []) (lit≤ tt)) in
    let d : digits (word 16 (cut 8 (halves_of w))) ≡ word 8 (digits_of w) =
    and_cut 8 4 (cut 8 (halves_of w)) (lit< tt) (lit< tt) (cut_below 8 (2 ^ 16) (halves_of w) (lit≤ tt)) in
    ap digits (ap bytes a ∙ b) ∙ d

hex-cut : (n : ℕ) → map glyph (cut 4 (cut 8 (n % 2 ^ 16 ∷ []))) ≡ hex_four n
unfolding hex_four
hex-cut n =
    let a : n % 65536 / 256 % 256 / 16 % 16 ≡ n / 4096 % 16 = omega arith in
    let b : n % 65536 / 256 % 256 % 16 ≡ n / 256 % 16 = omega arith in
    let c : n % 65536 % 256 / 16 % 16 ≡ n / 16 % 16 = omega arith in
    let d : n % 65536 % 256 % 16 ≡ n % 16 = omega arith in
    rw (a, b, c, d)

-- 1 from 10 on
abbrev letter : ℕ → ℕ
letter d = (d + 6) / 16 % 2

glyph-sum : (d : ℕ) → d < 16 → d + 48 + letter d * 39 ≡ glyph d
unfolding glyph
glyph-sum d h = go (ltb d 10) refl
  where
    go : (b : Bool) → ltb d 10 ≡ b → d + 48 + letter d * 39 ≡ glyph d
    go true e = let l : d < 10 = ltb-true _ _ e in simp e (omega arith)
    go false e = let l : 10 ≤ d = ltb-false _ _ e in simp e (omega arith)

letters : (ds : List ℕ) → Below 16 ds → bit_and (word 8 ds + all 8 6 ds) (all 8 16 ds) ≡ word 8 (map letter ds) * 16
letters [] b = refl
letters (d ∷ ds) b =
    let e : word 8 ds * 256 + d + (all 8 6 ds * 256 + 6) ≡ (word 8 ds + all 8 6 ds) * 256 + (d + 6) = omega arith in
    ap (λ (x : ℕ). bit_and x (all 8 16 ds * 256 + 16)) e
    ∙ and_block 8 (word 8 ds + all 8 6 ds) (all 8 16 ds) (d + 6) 16 (omega (arith, b.0)) (lit< tt)
    ∙ ap₂ (λ (x y : ℕ). x * 256 + y) (letters ds b.1) (and_high (d + 6) 1 4)
    ∙ omega arith

sums : (ds : List ℕ) → Below 16 ds → word 8 ds + all 8 48 ds + word 8 (map letter ds) * 39 ≡ word 8 (map glyph ds)
sums [] b = refl
sums (d ∷ ds) b = omega (arith, glyph-sum d b.0, sums ds b.1)

below : (ds : List ℕ) → Below 16 ds → Below 256 (map glyph ds)
below [] b = tt
below (d ∷ ds) b = (omega (arith, glyph-sum d b.0, b.0), below ds b.1)

bounded : (xs : List ℕ) → Below 256 xs → (i : ℕ) → get_or xs i 0 < 256
bounded [] b i = lit< tt
bounded (x ∷ xs) b zero = b.0
bounded (x ∷ xs) b (suc i) = bounded xs b.1 i

pub glyphs_are : (w : ℕ) → to_le_bytes w64 (glyphs (digits (bytes (halves w)))) ≡ hex_four (w / 2 ^ 16) ++ hex_four w
glyphs_are w =
    let ds : List ℕ = digits_of w in
    let b : Below 16 ds = cut_below 4 16 (cut 8 (halves_of w)) (lit≤ tt) in
    let e : bit_and (word 8 ds + 0x0606060606060606) 0x1010101010101010 / 16 ≡ word 8 (map letter ds) =
    ap (λ (x : ℕ). x / 16) (letters ds b) ∙ mul-div_cancel (word 8 (map letter ds)) (lit< tt) in
    let g : glyphs (word 8 ds) ≡ word 8 (map glyph ds) = ap (λ (x : ℕ). word 8 ds + 0x3030303030303030 + x * 39) e ∙ sums ds b in
    ap (to_le_bytes w64) (ap glyphs (digits_are w) ∙ g)
    ∙ le_bytes_8 (map glyph ds) (word 8 (map glyph ds)) refl (bounded (map glyph ds) (below ds b)) (omega arith)
    ∙ ap₂ ◌++◌ (hex-cut (w / 2 ^ 16)) (hex-cut w)

pub hex_halves : (w : ℕ) → hex w ≡ (hex_four (w / 2 ^ 32 / 2 ^ 16) ++ hex_four (w / 2 ^ 32)) ++ (hex_four (w / 2 ^ 16) ++ hex_four w)
unfolding hex hex_four
hex_halves w = let e : w / 2 ^ 32 / 2 ^ 16 ≡ w / 2 ^ 48 = omega arith in rw e
