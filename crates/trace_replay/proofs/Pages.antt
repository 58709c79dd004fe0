-- What a page holds after it was fed, and what is left to do then, is what was to do; with room for a field nothing is left.
use Prim.Native.Nat.{ℕ, zero, suc, ◌+◌, ◌-◌, ◌<◌}
use mathlib.Core.{Path.{◌≡◌, refl, sym, ap, ◌∙◌, subst}, Bool.{Bool, true, false}, List.{List, [], ◌++◌, append_assoc}}
use native.Mathlib.{Nat.add-zero, Omega.arith}
use lib.{Dec.{leb, eqb}, ListN.{length, drop, length-append}, Seq.{sets, drop-drop}}
use borrow.Author.Tests.{eqb-true, eqb-false, eq-eqb}
use Rattle.model.proofs.Tests.Truth.{not_both}
use Rattle.lines.proofs.Puts.{sets_append}
use Rattle.trace_field.{specs.Page.{Page, written, field_room, takes}, proofs.Fields.takes_none}
use Rattle.trace_replay.specs.{Trace.{Fed, unmoved, after, feed}, Feed.{feed_page_in, feed_page}}
use Rattle.trace_replay.proofs.Feeding.{told, size_at, Next, waits, breaks, moves, next_of, feed-waits, broken}
use Rattle.trace_replay.proofs.Feeding.{feed-step}
use Rattle.trace_replay.proofs.Loop.{field_carried, goes_on, feed-over, feed_still, feed-next}
use Rattle.trace_replay.proofs.Feeding as run

abbrev pub fits : Page → Bool
fits p = leb (p.to + field_room) (length p.out)

-- What the bytes from the reading position on do.
abbrev pub ahead : List ℕ → Page → Fed
ahead bytes p = feed p.run (drop p.at bytes)

-- From page p to page p': the lines written, and the rest.
pub record Reaches (bytes : List ℕ) (p p' : Page) : Type 0 where
  pub lines : List ℕ
  pub out : p'.out ≡ sets p.out p.to lines
  pub to : p'.to ≡ p.to + length lines
  pub rest : ahead bytes p ≡ after (record { run = p'.run; lines = lines }) (ahead bytes p')

module _ (bytes : List ℕ) where
  reaches_none : (p : Page) → Reaches bytes p p
  reaches_none p = record { lines = []; out = refl; to = sym (add-zero p.to); rest = refl }

  reaches_more : (p p' p'' : Page) → Reaches bytes p p' → Reaches bytes p' p'' → Reaches bytes p p''
  reaches_more p p' p'' f g = record {
    lines = f.lines ++ g.lines;
    out =
        g.out ∙ ap (λ (n : ℕ). sets p'.out n g.lines) f.to ∙ ap (λ (l : List ℕ). sets l (p.to + length f.lines) g.lines) f.out
        ∙ sets_append p.out p.to f.lines g.lines;
    to = let e = f.to in let e' = g.to in omega (arith, e, e', length-append f.lines g.lines);
    rest =
        let last = ahead bytes p'' in
        f.rest ∙ ap (after (record { run = p'.run; lines = f.lines })) g.rest
        ∙ ap (λ (l : List ℕ). record { run = last.run; rest = last.rest; lines = l }) (sym (append_assoc f.lines g.lines last.lines));
  }

  module _ (p : Page) where
    abbrev b : List ℕ
    b = drop p.at bytes

    -- A field taken.
    reaches_take : p.run.over ≡ false → fits p ≡ true → Reaches bytes p (takes bytes p)
    unfolding written told size_at
    reaches_take e f =
        subst (Reaches bytes p) (sym (field_carried bytes p f))
        (record {
          lines = (told p.run b).lines;
          out = refl;
          to = refl;
          rest =
              feed-step p.run b e
              ∙ ap (λ (l : List ℕ). after (told p.run b) (feed (told p.run b).run l)) (drop-drop (size_at p.run b) p.at bytes);
        })

    -- One that takes no bytes: it waits, or it ended the run.
    still : size_at p.run b ≡ 0 → feed (told p.run b).run b ≡ unmoved (told p.run b).run b
    unfolding feed
    still s = go (next_of p.run b)
      where
        go : Next p.run b → feed (told p.run b).run b ≡ unmoved (told p.run b).run b
        go (waits t z less) = rw t (feed-waits (length b) p.run b t z)
        go (breaks f g) = run.feed-over (length b) (told p.run b).run b (broken p.run b g)
        go (moves l k f g) = absurd (omega arith)

  abbrev pub Done : Page → Type 0
  Done p = ahead bytes p ≡ unmoved p.run (drop p.at bytes)

  -- A run that is over; a field taken that took no bytes.
  pub over_done : (p : Page) → p.run.over ≡ true → Done p
  unfolding feed
  over_done p e = run.feed-over (length (drop p.at bytes)) p.run (drop p.at bytes) e

  pub still_done : (p : Page) → fits p ≡ true → (takes bytes p).at ≡ p.at → Done (takes bytes p)
  unfolding written told size_at
  still_done p f h =
      let e = field_carried bytes p f in
      let z : size_at p.run (drop p.at bytes) ≡ 0 = let m = ap (λ (x : Page). x.at) e in omega (arith, m, h) in
      subst Done (sym e)
      (subst (λ (n : ℕ). feed (told p.run (b p)).run (drop n bytes) ≡ unmoved (told p.run (b p)).run (drop n bytes))
      (sym (ap (λ (k : ℕ). p.at + k) z ∙ add-zero p.at)) (still p z))

  -- At most n fields: what they wrote, and, with room for a field after as many as there can be, that nothing is left.
  pub fed_reaches : (n : ℕ) (p : Page) → Reaches bytes p (feed_page_in n bytes p)
  unfolding feed_page_in
  fed_reaches zero p = reaches_none p
  fed_reaches (suc n) p = go p.run.over refl (fits p) refl (eqb (takes bytes p).at p.at) refl (fed_reaches n (takes bytes p))
    where
      go : (o : Bool) → p.run.over ≡ o → (r : Bool) → fits p ≡ r → (s : Bool) → eqb (takes bytes p).at p.at ≡ s
          → Reaches bytes (takes bytes p) (feed_page_in n bytes (takes bytes p)) → Reaches bytes p (feed_page_in (suc n) bytes p)
      go true e r f s g ih = subst (Reaches bytes p) (sym (feed-over bytes p (suc n) e)) (reaches_none p)
      go false e false f s g ih =
          let same = takes_none bytes p f in
          let at : eqb (takes bytes p).at p.at ≡ true = eq-eqb _ _ (ap (λ (x : Page). x.at) same) in
          subst (Reaches bytes p) (sym (feed_still bytes p n e at ∙ same)) (reaches_none p)
      go false e true f true g ih = subst (Reaches bytes p) (sym (feed_still bytes p n e g)) (reaches_take p e f)
      go false e true f false g ih = subst (Reaches bytes p) (sym (feed-next bytes p n e g)) (reaches_more _ _ _ (reaches_take p e f) ih)

  abbrev Ends : Page → Type 0
  Ends p = fits p ≡ true → Done p

  fed_done : (n : ℕ) (p : Page) → length bytes - p.at < n → Ends (feed_page_in n bytes p)
  fed_done zero p h = absurd (omega (arith, h))
  fed_done (suc n) p h = go p.run.over refl (fits p) refl (eqb (takes bytes p).at p.at) refl (fed_done n (takes bytes p))
    where
      go : (o : Bool) → p.run.over ≡ o → (r : Bool) → fits p ≡ r → (s : Bool) → eqb (takes bytes p).at p.at ≡ s
          → (length bytes - (takes bytes p).at < n → Ends (feed_page_in n bytes (takes bytes p))) → Ends (feed_page_in (suc n) bytes p)
      go true e r f s g ih = subst Ends (sym (feed-over bytes p (suc n) e)) (λ k. over_done p e)
      go false e false f s g ih =
          let same = takes_none bytes p f in
          let at : eqb (takes bytes p).at p.at ≡ true = eq-eqb _ _ (ap (λ (x : Page). x.at) same) in
          subst Ends (sym (feed_still bytes p n e at ∙ same)) (λ k. absurd (not_both k f))
      go false e true f true g ih = subst Ends (sym (feed_still bytes p n e g)) (λ k. still_done p f (eqb-true _ _ g))
      go false e true f false g ih =
          let m = goes_on bytes p (eqb-false _ _ g) in
          subst Ends (sym (feed-next bytes p n e g)) (ih (omega (arith, m, h)))

  pub page_reaches : (p : Page) → Reaches bytes p (feed_page bytes p)
  unfolding feed_page
  page_reaches p = fed_reaches (suc (length bytes)) p

  pub page-done : (p : Page) → fits (feed_page bytes p) ≡ true → Done (feed_page bytes p)
  unfolding feed_page
  page-done p f = fed_done (suc (length bytes)) p (omega arith) f
