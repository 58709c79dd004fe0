-- The loop that feeds a page: a field, and then the rest; and it comes to its end.
use Prim.Native.Nat.{ℕ, zero, suc, ◌+◌, ◌-◌, ◌<◌, ◌≤◌}
use mathlib.Core.{Path.{◌≡◌, refl, sym, ap, ◌∙◌}, Bool.{Bool, true, false}, List.List}
use native.Mathlib.Omega.{arith}
use lib.{Dec.{leb, eqb}, ListN.{length, drop, length-drop}}
use borrow.Author.Tests.{eqb-false, eq-eqb, ne_eqb}
use Rattle.trace_field.specs.Page.{Page, written, carries, moved, field_room, takes}
use Rattle.trace_field.proofs.{Pages.{cond-true, cond-false}, Fields.takes_none}
use Rattle.runfile.specs.{Field.{field_of, taken}}
use Rattle.trace_replay.specs.Feed.{feed_page_in, feed_page}
use Rattle.trace_replay.proofs.Feeding.{size_at, Next, waits, breaks, moves, next_of}

module _ (bytes : List ℕ) where
  -- With room, the field at the reading position is carried out, and the position moves behind it.
  pub field_carried : (p : Page) → leb (p.to + field_room) (length p.out) ≡ true
      → takes bytes p ≡ moved (carries p (field_of p.run.opened (drop p.at bytes)) (drop p.at bytes)) (size_at p.run (drop p.at bytes))
  unfolding takes size_at
  field_carried p e = cond-true (leb (p.to + field_room) (length p.out)) _ _ e

  -- A field that takes bytes takes some that are there.
  size-within : (p : Page) → size_at p.run (drop p.at bytes) ≤ length bytes - p.at
  unfolding size_at
  size-within p = go (next_of p.run (drop p.at bytes))
    where
      go : Next p.run (drop p.at bytes) → size_at p.run (drop p.at bytes) ≤ length bytes - p.at
      go (waits t s less) = omega (arith, s)
      go (breaks f g) = let z : size_at p.run (drop p.at bytes) ≡ 0 = ap taken g in omega (arith, z)
      go (moves s l f t) = omega (arith, l, length-drop p.at bytes)

  pub goes_on : (p : Page) → ((takes bytes p).at ≡ p.at → ⊥) → (p.at < (takes bytes p).at) × ((takes bytes p).at ≤ length bytes)
  unfolding written
  goes_on p h = go (leb (p.to + field_room) (length p.out)) refl
    where
      moved_to : leb (p.to + field_room) (length p.out) ≡ true → (takes bytes p).at ≡ p.at + size_at p.run (drop p.at bytes)
      moved_to e = ap (λ (x : Page). x.at) (field_carried p e)

      go : (b : Bool) → leb (p.to + field_room) (length p.out) ≡ b → (p.at < (takes bytes p).at) × ((takes bytes p).at ≤ length bytes)
      go true e =
          let m = moved_to e in
          let w = size-within p in
          let z : size_at p.run (drop p.at bytes) ≡ 0 → ⊥ = λ k. h (omega (arith, m, k)) in
          (omega (arith, m, w, z), omega (arith, m, w, z))
      go false e = absurd (h (ap (λ (x : Page). x.at) (takes_none bytes p e)))

  module _ (p : Page) where
    pub feed-over : (n : ℕ) → p.run.over ≡ true → feed_page_in n bytes p ≡ p
    unfolding feed_page_in
    feed-over zero e = refl
    feed-over (suc n) e = cond-true p.run.over _ _ e

    pub feed_still : (n : ℕ) → p.run.over ≡ false → eqb (takes bytes p).at p.at ≡ true → feed_page_in (suc n) bytes p ≡ takes bytes p
    unfolding feed_page_in
    feed_still n e f = cond-false p.run.over _ _ e ∙ cond-true (eqb (takes bytes p).at p.at) _ _ f

    pub feed-next : (n : ℕ) → p.run.over ≡ false → eqb (takes bytes p).at p.at ≡ false
        → feed_page_in (suc n) bytes p ≡ feed_page_in n bytes (takes bytes p)
    unfolding feed_page_in
    feed-next n e f = cond-false p.run.over _ _ e ∙ cond-false (eqb (takes bytes p).at p.at) _ _ f

  -- More turns than bytes are left change nothing.
  enough : (n : ℕ) (p : Page) → length bytes - p.at < n → feed_page_in (suc n) bytes p ≡ feed_page_in n bytes p
  enough zero p h = absurd (omega (arith, h))
  enough (suc n) p h = go p.run.over refl (eqb (takes bytes p).at p.at) refl (enough n (takes bytes p))
    where
      go : (o : Bool) → p.run.over ≡ o → (s : Bool) → eqb (takes bytes p).at p.at ≡ s
          → (length bytes - (takes bytes p).at < n → feed_page_in (suc n) bytes (takes bytes p) ≡ feed_page_in n bytes (takes bytes p))
          → feed_page_in (suc (suc n)) bytes p ≡ feed_page_in (suc n) bytes p
      go true e s f ih = feed-over p (suc (suc n)) e ∙ sym (feed-over p (suc n) e)
      go false e true f ih = feed_still p (suc n) e f ∙ sym (feed_still p n e f)
      go false e false f ih =
          let m = goes_on p (eqb-false _ _ f) in
          feed-next p (suc n) e f ∙ ih (omega (arith, m, h)) ∙ sym (feed-next p n e f)

  -- A field that takes bytes, and then the rest.
  pub feed-rest : (p : Page) → p.run.over ≡ false → ((takes bytes p).at ≡ p.at → ⊥) → feed_page bytes (takes bytes p) ≡ feed_page bytes p
  unfolding feed_page
  feed-rest p e h =
      let m = goes_on p h in
      enough (length bytes) (takes bytes p) (omega (arith, m)) ∙ sym (feed-next p (length bytes) e (ne_eqb _ _ h))

  pub feed-last : (p : Page) → p.run.over ≡ false → (takes bytes p).at ≡ p.at → takes bytes p ≡ feed_page bytes p
  unfolding feed_page
  feed-last p e h = sym (feed_still p (length bytes) e (eq-eqb _ _ h))

  pub feed-ended : (p : Page) → p.run.over ≡ true → p ≡ feed_page bytes p
  unfolding feed_page
  feed-ended p e = sym (feed-over p (suc (length bytes)) e)
