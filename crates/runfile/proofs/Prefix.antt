-- A field that is there whole, or malformed, stays the same however many bytes follow: so a file may come in pieces. Bytes that hold less
-- than a field are fewer than the longest has.
use Prim.Native.Nat.{ℕ, ◌+◌, ◌<◌, ◌≤◌}
use mathlib.Core.{Path.{◌≡◌, refl, subst}, Bool.{Bool, true, false, ◌&&◌, ◌||◌, or-false}, List.{List, ◌++◌}}
use native.Mathlib.Omega.{arith}
use lib.{ListN.{length, get_or, drop, length-append, length-drop, get_or-append}, Seq.drop-append-le}
use lib.Dec.{ltb, leb, eqb}
use borrow.Author.Tests.{leb-true, ltb-true, ltb-false, eqb-true, lt-leb, le-ltb}
use Rattle.model.proofs.Tests.Truth.{and-true, or_cases}
use Rattle.runfile.specs.Field.{two_at, four_at, formed, longest_field, content_of, field_of}
use Rattle.std.specs.Prelude.{Result, Ok, Err}
use Rattle.runfile.specs.declared.{Found.Found, NoField.{NoField, TheVariants.{Malformed, Cut, End}}}

clash : {P : Type 0} → ◌≡◌ {A = Bool} false true → P
clash z = absurd (let y : ◌≡◌ {A = ℕ} 0 1 = cc in omega arith)

pub formed_most : (o : Bool) (tag len : ℕ) → formed o tag len ≡ true → len ≤ 4096
unfolding formed
formed_most false tag len e = omega (arith, eqb-true len 7 (and-true (eqb tag 1 || eqb tag 5) (eqb len 7) e).1)
formed_most true tag len e =
    let push = eqb tag 2 && eqb len 8 in
    let pop = eqb tag 3 && eqb len 2 in
    let steps = eqb tag 4 && leb len 4096 in
    let put = eqb tag 6 && eqb len 6 in
    or_cases (push || pop || steps) put e
    (λ f. or_cases (push || pop) steps f
    (λ g. or_cases push pop g
    (λ h. omega (arith, eqb-true len 8 (and-true (eqb tag 2) (eqb len 8) h).1))
    (λ h. omega (arith, eqb-true len 2 (and-true (eqb tag 3) (eqb len 2) h).1)))
    (λ g. leb-true len 4096 (and-true (eqb tag 4) (leb len 4096) g).1))
    (λ f. omega (arith, eqb-true len 6 (and-true (eqb tag 6) (eqb len 6) f).1))

-- What stands at the head of b.
pub data Seen (o : Bool) (b : List ℕ) : Result Found NoField → Type 0 where
  ended : length b ≤ 0 → Seen o b (Err End)
  cut : length b < longest_field → Seen o b (Err Cut)
  wrong : 3 ≤ length b → formed o (get_or b 0 0) (two_at b 1) ≡ false → Seen o b (Err Malformed)
  whole : formed o (get_or b 0 0) (two_at b 1) ≡ true → 3 + two_at b 1 ≤ length b
      → Seen o b (Ok (record { field = content_of (get_or b 0 0) (two_at b 1) (drop 3 b); size = 3 + two_at b 1 }))

pub seen : (o : Bool) (b : List ℕ) → Seen o b (field_of o b)
unfolding field_of
seen o b = go (leb (length b) 0) refl (ltb (length b) 3) refl (formed o (get_or b 0 0) (two_at b 1)) refl (ltb (length b) (3 + two_at b 1)) refl
  where
    go : (a : Bool) → leb (length b) 0 ≡ a → (s : Bool) → ltb (length b) 3 ≡ s
        → (f : Bool) → formed o (get_or b 0 0) (two_at b 1) ≡ f → (k : Bool) → ltb (length b) (3 + two_at b 1) ≡ k
        → Seen o b (field_of o b)
    go true p s q f r k t = rw p (ended (leb-true (length b) 0 p))
    go false p true q f r k t = rw (p, q) (cut (omega (arith, ltb-true (length b) 3 q)))
    go false p false q false r k t = rw (p, q, r) (wrong (ltb-false (length b) 3 q) r)
    go false p false q true r true t =
        let most : two_at b 1 ≤ 4096 = formed_most o (get_or b 0 0) (two_at b 1) r in
        rw (p, q, r, t) (cut (omega (arith, most, ltb-true (length b) (3 + two_at b 1) t)))
    go false p false q true r false t = rw (p, q, r, t) (whole r (ltb-false (length b) (3 + two_at b 1) t))

-- How long a well-formed field's content is.
formed_open : (tag len : ℕ) (o : Bool) → (eqb tag 1 || eqb tag 5) ≡ true → formed o tag len ≡ true → 7 ≤ len
unfolding formed
formed_open tag len false t e = omega (arith, eqb-true len 7 (rw t at e))
formed_open tag len true t e = go (eqb tag 1) refl t
  where
    go : (b : Bool) → eqb tag 1 ≡ b → (b || eqb tag 5) ≡ true → 7 ≤ len
    go true p q = clash (subst (λ (k : ℕ). formed true k len ≡ true) (eqb-true tag 1 p) e)
    go false p q = clash (subst (λ (k : ℕ). formed true k len ≡ true) (eqb-true tag 5 q) e)

pub formed_push : (len : ℕ) (o : Bool) → formed o 2 len ≡ true → 8 ≤ len
unfolding formed
formed_push len true e = omega (arith, eqb-true len 8 (simp or-false at e))
formed_push len false e = clash e

pub formed_pop : (len : ℕ) (o : Bool) → formed o 3 len ≡ true → 2 ≤ len
unfolding formed
formed_pop len true e = omega (arith, eqb-true len 2 (simp or-false at e))
formed_pop len false e = clash e

pub formed-put : (len : ℕ) (o : Bool) → formed o 6 len ≡ true → 6 ≤ len
unfolding formed
formed-put len true e = omega (arith, eqb-true len 6 e)
formed-put len false e = clash e

module _ (b c : List ℕ) where
  same_byte : (i : ℕ) → i < length b → get_or (b ++ c) i 0 ≡ get_or b i 0
  same_byte i h = get_or-append b c 0 i h

  same_two : (i : ℕ) → i + 2 ≤ length b → two_at (b ++ c) i ≡ two_at b i
  unfolding two_at
  same_two i h = rw (same_byte i (omega arith), same_byte (i + 1) (omega arith))

  same_four : (i : ℕ) → i + 4 ≤ length b → four_at (b ++ c) i ≡ four_at b i
  unfolding four_at
  same_four i h = rw (same_two i (omega arith), same_two (i + 2) (omega arith))

  pub same_content : (tag len : ℕ) (o : Bool) → formed o tag len ≡ true → len ≤ length b
      → content_of tag len (b ++ c) ≡ content_of tag len b
  unfolding content_of
  same_content tag len o e h = go (eqb tag 1 || eqb tag 5) refl (eqb tag 2) refl (eqb tag 3) refl (eqb tag 6) refl
    where
      form : (k : ℕ) → eqb tag k ≡ true → formed o k len ≡ true
      form k p = subst (λ (t : ℕ). formed o t len ≡ true) (eqb-true tag k p) e

      go : (w : Bool) → (eqb tag 1 || eqb tag 5) ≡ w → (x : Bool) → eqb tag 2 ≡ x → (y : Bool) → eqb tag 3 ≡ y → (z : Bool) → eqb tag 6 ≡ z
          → content_of tag len (b ++ c) ≡ content_of tag len b
      go true p x q y r z t =
          let k : 7 ≤ len = formed_open tag len o p e in
          rw (p, same_byte 0 (omega arith), same_two 1 (omega arith), same_four 3 (omega arith))
      go false p true q y r z t =
          let k : 8 ≤ len = formed_push len o (form 2 q) in
          rw (p, q, same_byte 1 (omega arith), same_two 2 (omega arith), same_four 4 (omega arith))
      go false p false q true r z t =
          let k : 2 ≤ len = formed_pop len o (form 3 r) in
          rw (p, q, r, same_byte 1 (omega arith))
      go false p false q false r true t =
          let k : 6 ≤ len = formed-put len o (form 6 t) in
          rw (p, q, r, t, same_byte 1 (omega arith), same_four 2 (omega arith))
      go false p false q false r false t = rw (p, q, r, t)

module _ (o : Bool) (b c : List ℕ) where
  longer : length (b ++ c) ≡ length b + length c
  longer = length-append b c

  pub same-wrong : 3 ≤ length b → formed o (get_or b 0 0) (two_at b 1) ≡ false → field_of o (b ++ c) ≡ Err Malformed
  unfolding field_of
  same-wrong h f =
      rw (
        longer,
        lt-leb (length b + length c) 0 (omega arith),
        le-ltb (length b + length c) 3 (omega arith),
        same_byte b c 0 (omega arith),
        same_two b c 1 (omega arith),
        f,
      )

  pub same_whole : formed o (get_or b 0 0) (two_at b 1) ≡ true → 3 + two_at b 1 ≤ length b
      → field_of o (b ++ c) ≡ Ok (record { field = content_of (get_or b 0 0) (two_at b 1) (drop 3 b); size = 3 + two_at b 1 })
  unfolding field_of
  same_whole f h =
      rw (
        longer,
        lt-leb (length b + length c) 0 (omega arith),
        le-ltb (length b + length c) 3 (omega arith),
        same_byte b c 0 (omega arith),
        same_two b c 1 (omega arith),
        f,
        le-ltb (length b + length c) (3 + two_at b 1) (omega arith),
        drop-append-le 3 b c (omega arith),
        same_content (drop 3 b) c (get_or b 0 0) (two_at b 1) o f (omega (arith, length-drop 3 b)),
      )
