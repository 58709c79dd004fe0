-- A page fed from the front of its buffer: it holds no more than the buffer, it goes forward, and where it goes nowhere nothing is left.
use Prim.Native.Nat.{ℕ, zero, suc, ◌+◌, ◌-◌, ◌<◌, ◌≤◌}
use mathlib.Core.{Path.{◌≡◌, refl, sym, ap, ◌∙◌, subst}, Bool.{Bool, true, false, cond}}
use mathlib.Core.List.{List, [], ◌++◌, append-nil}
use native.Mathlib.{Nat.zero-add, Omega.arith}
use lib.{Dec.eqb, ListN.{length, take, drop}, Seq.{sets, sets-eq, take-append_seam}}
use borrow.Author.Tests.{le-leb, eqb-true, eqb-false, eq-eqb, ne_eqb}
use Rattle.trace_field.specs.Page.{Page, field_room, takes}
use Rattle.trace_field.proofs.{Pages.{cond-true, cond-false}, Room.{Within, takes-within}}
use Rattle.trace_replay.specs.{Trace.{Fed, after}, Feed.{feed_page_in, feed_page}}
use Rattle.trace_replay.specs.Pieces.{held, at_front, next_page, Written, pages_in, pages_of}
use Rattle.trace_replay.proofs.Loop.{goes_on, feed-over, feed_still, feed-next}
use Rattle.trace_replay.proofs.Pages.{fits, ahead, Done, page_reaches, over_done, still_done}

-- What was written from the front of a buffer, where it fits, is what stands there.
pub front_of : (out l : List ℕ) → length l ≤ length out → take (length l) (sets out 0 l) ≡ l
front_of out l h = ap (take (length l)) (sets-eq l out 0 (omega (arith, h))) ∙ take-append_seam l (drop (0 + length l) out)

module _ (bytes : List ℕ) where
  -- Facts that a field taken keeps, every whole field keeps.
  along : (P : Page → Type 0) → ((p : Page) → P p → P (takes bytes p)) → (n : ℕ) (p : Page) → P p → P (feed_page_in n bytes p)
  unfolding feed_page_in
  along P f zero p h = h
  along P f (suc n) p h = go p.run.over (eqb (takes bytes p).at p.at) (f p h) (along P f n (takes bytes p) (f p h))
    where
      go : (o s : Bool) → P (takes bytes p) → P (feed_page_in n bytes (takes bytes p))
          → P (cond o p (cond s (takes bytes p) (feed_page_in n bytes (takes bytes p))))
      go true s k m = h
      go false true k m = k
      go false false k m = m

  pub page-within : (p : Page) (n : ℕ) → Within p n → Within (feed_page bytes p) n
  unfolding feed_page
  page-within p n w = along (λ (x : Page). Within x n) (λ x k. takes-within bytes x n k) (suc (length bytes)) p w

  -- The reading position does not go back, and not beyond the bytes.
  abbrev Onward : Page → Page → Type 0
  Onward p q = (p.at ≤ q.at) × (q.at ≤ p.at + (length bytes - p.at))

  takes-onward : (p q : Page) → Onward p q → Onward p (takes bytes q)
  takes-onward p q h = go (eqb (takes bytes q).at q.at) refl
    where
      go : (b : Bool) → eqb (takes bytes q).at q.at ≡ b → Onward p (takes bytes q)
      go true e = let same : (takes bytes q).at ≡ q.at = eqb-true _ _ e in (omega (arith, same, h.0), omega (arith, same, h.1))
      go false e =
          let on = goes_on bytes q (eqb-false _ _ e) in
          (omega (arith, on.0, h.0), omega (arith, on.1))

  page-onward : (p : Page) → Onward p (feed_page bytes p)
  unfolding feed_page
  page-onward p = along (Onward p) (takes-onward p) (suc (length bytes)) p (omega arith, omega arith)

  -- With room for a field, a page that moves no byte has nothing left to do.
  page-ends : (p : Page) → fits p ≡ true → (feed_page bytes p).at ≡ p.at → Done bytes (feed_page bytes p)
  unfolding feed_page
  page-ends p f h = go p.run.over refl (eqb (takes bytes p).at p.at) refl
    where
      go : (o : Bool) → p.run.over ≡ o → (s : Bool) → eqb (takes bytes p).at p.at ≡ s → Done bytes (feed_page_in (suc (length bytes)) bytes p)
      go true e s g = subst (Done bytes) (sym (feed-over bytes p (suc (length bytes)) e)) (over_done bytes p e)
      go false e true g = subst (Done bytes) (sym (feed_still bytes p (length bytes) e g)) (still_done bytes p f (eqb-true _ _ g))
      go false e false g =
          let on = goes_on bytes p (eqb-false _ _ g) in
          let more = along (Onward (takes bytes p)) (takes-onward (takes bytes p)) (length bytes) (takes bytes p) (omega arith, omega arith) in
          let same = ap (λ (x : Page). x.at) (feed-next bytes p (length bytes) e g) in
          absurd (omega (arith, on.0, more.0, same, h))

  module _ (p : Page) where
    abbrev q : Page
    q = next_page bytes p

    pub next-onward : (q.at ≡ p.at → ⊥) → (p.at < q.at) × (q.at ≤ length bytes)
    unfolding next_page
    next-onward h =
        let on = page-onward (at_front p) in
        let differs : (q.at ≡ p.at) → ⊥ = h in
        (omega (arith, on.0, differs), omega (arith, on.0, on.1, differs))

    pub next-within : Within q (length p.out)
    unfolding next_page
    next-within = page-within (at_front p) (length p.out) (omega arith, refl)

    -- What a page holds, and then what is left to do.
    pub page-told : ahead bytes p ≡ after (record { run = q.run; lines = held q }) (ahead bytes q)
    unfolding next_page held
    page-told =
        let r = page_reaches bytes (at_front p) in
        let to : q.to ≡ length r.lines = r.to ∙ zero-add (length r.lines) in
        let there : take q.to q.out ≡ r.lines =
        ap (λ (n : ℕ). take n q.out) to ∙ ap (take (length r.lines)) r.out
        ∙ front_of p.out r.lines (omega (arith, next-within.0, to)) in
        r.rest ∙ ap (λ (l : List ℕ). after (record { run = q.run; lines = l }) (ahead bytes q)) (sym there)

    pub next-done : field_room ≤ length p.out → q.at ≡ p.at → Done bytes q
    unfolding next_page
    next-done room h = page-ends (at_front p) (le-leb (0 + field_room) (length p.out) (omega (arith, room))) h

    -- The pages one by one.
    pub pages_over : (n : ℕ) → p.run.over ≡ true → pages_in n bytes p ≡ record { page = p; bytes = [] }
    unfolding pages_in
    pages_over zero e = refl
    pages_over (suc n) e = cond-true p.run.over _ _ e

    pub pages_still : (n : ℕ) → p.run.over ≡ false → q.at ≡ p.at → pages_in (suc n) bytes p ≡ record { page = q; bytes = held q }
    unfolding pages_in
    pages_still n e h = cond-false p.run.over _ _ e ∙ cond-true (eqb q.at p.at) _ _ (eq-eqb _ _ h)

    pub pages_next : (n : ℕ) → p.run.over ≡ false → (q.at ≡ p.at → ⊥)
        → pages_in (suc n) bytes p ≡ record { page = (pages_in n bytes q).page; bytes = held q ++ (pages_in n bytes q).bytes }
    unfolding pages_in
    pages_next n e h = cond-false p.run.over _ _ e ∙ cond-false (eqb q.at p.at) _ _ (ne_eqb _ _ h)

  -- Every page of the bytes: what was written is what was to print, and what is left is as it should be.
  abbrev whole : Written → Fed
  whole w = record { run = w.page.run; rest = drop w.page.at bytes; lines = w.bytes }

  all_pages : (n : ℕ) (p : Page) → length bytes - p.at < n → field_room ≤ length p.out → whole (pages_in n bytes p) ≡ ahead bytes p
  all_pages zero p h room = absurd (omega (arith, h))
  all_pages (suc n) p h room = go p.run.over refl (eqb (next_page bytes p).at p.at) refl (all_pages n (next_page bytes p))
    where
      go : (o : Bool) → p.run.over ≡ o → (s : Bool) → eqb (next_page bytes p).at p.at ≡ s
          → (length bytes - (next_page bytes p).at < n → field_room ≤ length (next_page bytes p).out
          → whole (pages_in n bytes (next_page bytes p)) ≡ ahead bytes (next_page bytes p))
          → whole (pages_in (suc n) bytes p) ≡ ahead bytes p
      go true e s g ih = ap whole (pages_over p (suc n) e) ∙ sym (over_done bytes p e)
      go false e true g ih =
          let x = next_page bytes p in
          let still = eqb-true _ _ g in
          ap whole (pages_still p n e still)
          ∙ ap (λ (l : List ℕ). record { run = x.run; rest = drop x.at bytes; lines = l }) (sym (append-nil (held x)))
          ∙ ap (after (record { run = x.run; lines = held x })) (sym (next-done p room still)) ∙ sym (page-told p)
      go false e false g ih =
          let x = next_page bytes p in
          let moves = eqb-false _ _ g in
          let on = next-onward p moves in
          ap whole (pages_next p n e moves)
          ∙ ap (after (record { run = x.run; lines = held x })) (ih (omega (arith, on, h)) (omega (arith, room, (next-within p).1)))
          ∙ sym (page-told p)

  pub pages_told : (p : Page) → field_room ≤ length p.out → whole (pages_of bytes p) ≡ ahead bytes p
  unfolding pages_of
  pages_told p room = all_pages (suc (length bytes)) p (omega arith) room

  -- The buffer stays as long as it is.
  abbrev size : Written → ℕ
  size w = length w.page.out

  all-within : (n : ℕ) (p : Page) → size (pages_in n bytes p) ≡ length p.out
  unfolding pages_in
  all-within zero p = refl
  all-within (suc n) p = go p.run.over refl (eqb (next_page bytes p).at p.at) refl (all-within n (next_page bytes p))
    where
      go : (o : Bool) → p.run.over ≡ o → (s : Bool) → eqb (next_page bytes p).at p.at ≡ s
          → size (pages_in n bytes (next_page bytes p)) ≡ length (next_page bytes p).out → size (pages_in (suc n) bytes p) ≡ length p.out
      go true e s g ih = ap size (pages_over p (suc n) e)
      go false e true g ih = ap size (pages_still p n e (eqb-true _ _ g)) ∙ (next-within p).1
      go false e false g ih = ap size (pages_next p n e (eqb-false _ _ g)) ∙ ih ∙ (next-within p).1

  pub pages_within : (p : Page) → size (pages_of bytes p) ≡ length p.out
  unfolding pages_of
  pages_within p = all-within (suc (length bytes)) p
