-- Feeding a run: one field and then the rest; and bytes behind others are fed as with them.
use Prim.Native.Nat.{ℕ, zero, suc, ◌<◌, ◌≤◌}
use mathlib.Core.{Path.{◌≡◌, refl, sym, ap, ◌∙◌}, Bool.{Bool, true, false}, List.{List, [], ◌∷◌, ◌++◌, append_assoc}}
use native.Mathlib.Omega.{arith}
use lib.{ListN.{length, get_or, drop, length-drop}, Dec.leb, Seq.{take-append-le, drop-append-le}}
use borrow.Author.Tests.{leb-true, leb-false}
use Rattle.std.specs.Prelude.{Result, Err}
use Rattle.runfile.specs.Field.{two_at, longest_field, content_of, taken, field_of}
use Rattle.runfile.specs.declared.{Field.{Field, TheVariants.{Open, Each}}, Found.Found, NoField.{NoField, TheVariants.{Malformed}}}
use Rattle.runfile.proofs.Prefix.{Seen, seen, ended, cut, wrong, whole, same-wrong, same_whole}
use Rattle.trace_field.specs.{Run.{Run, Told, malformed, field_told, carried}, Page.BytesThere}
use Rattle.trace_field.proofs.{Pages.{cond-true, cond-false}, Fields.content_there}
use Rattle.trace_replay.specs.Trace.{Fed, unmoved, after, feed_in, feed}

-- What a run makes of the field at the head of b.
unfoldable pub told : Run → List ℕ → Told
told r b = carried r (field_of r.opened b) b

unfoldable pub size_at : Run → List ℕ → ℕ
size_at r b = taken (field_of r.opened b)

module _ (r : Run) (b : List ℕ) {f : Result Found NoField} (e : field_of r.opened b ≡ f) where
  size_of : size_at r b ≡ taken f
  unfolding size_at
  size_of = ap taken e

  told_of : told r b ≡ carried r f b
  unfolding told
  told_of = ap (λ (x : Result Found NoField). carried r x b) e

-- A field does the same however many bytes follow.
same_told : (r : Run) (b c : List ℕ) (f : Field) → BytesThere f 0 (length b) → field_told r f (b ++ c) ≡ field_told r f b
unfolding field_told
same_told r b c (Open pooled tasks slots tag) w = refl
same_told r b c (Each op n) w =
    rw (drop-append-le 3 b c (omega (arith, w)), take-append-le n (drop 3 b) c (omega (arith, w, length-drop 3 b)))

-- It waits, it ends the run, or it is carried out.
pub data Next (r : Run) (b : List ℕ) : Type 0 where
  waits : told r b ≡ record { run = r; lines = [] } → size_at r b ≡ 0 → length b < longest_field → Next r b
  breaks : ((c : List ℕ) → field_of r.opened (b ++ c) ≡ Err Malformed) → field_of r.opened b ≡ Err Malformed → Next r b
  moves : 3 ≤ size_at r b → size_at r b ≤ length b → ((c : List ℕ) → field_of r.opened (b ++ c) ≡ field_of r.opened b)
      → ((c : List ℕ) → carried r (field_of r.opened b) (b ++ c) ≡ told r b) → Next r b

pub next_of : (r : Run) (b : List ℕ) → Next r b
unfolding carried told size_at
next_of r b = go (field_of r.opened b) refl (seen r.opened b)
  where
    go : (f : Result Found NoField) → field_of r.opened b ≡ f → Seen r.opened b f → Next r b
    go f e (ended h) = waits (told_of r b e) (size_of r b e) (omega (arith, h))
    go f e (cut less) = waits (told_of r b e) (size_of r b e) less
    go f e (wrong h w) = breaks (λ c. same-wrong r.opened b c h w) e
    go f e (whole w h) =
        let there = content_there r.opened (get_or b 0 0) (two_at b 1) 0 (length b) (drop 3 b) w (omega (arith, h)) in
        moves (let s = size_of r b e in omega arith) (let s = size_of r b e in omega arith)
        (λ c. same_whole r.opened b c w h ∙ sym e)
        (λ c. rw e (same_told r b c (content_of (get_or b 0 0) (two_at b 1) (drop 3 b)) there))

-- A run that is over takes no field, and one whose field waits takes none.
pub feed-over : (n : ℕ) (r : Run) (b : List ℕ) → r.over ≡ true → feed_in n r b ≡ unmoved r b
unfolding feed_in
feed-over zero r b e = refl
feed-over (suc n) r b e = cond-true r.over _ _ e

feed-more : (n : ℕ) (r : Run) (b : List ℕ) → r.over ≡ false
    → feed_in (suc n) r b ≡ after (told r b) (feed_in n (told r b).run (drop (size_at r b) b))
unfolding feed_in told size_at
feed-more n r b e = cond-false r.over _ _ e

pub feed-waits : (n : ℕ) (r : Run) (b : List ℕ) → told r b ≡ record { run = r; lines = [] } → size_at r b ≡ 0 → feed_in n r b ≡ unmoved r b
unfolding feed_in
feed-waits zero r b e s = refl
feed-waits (suc n) r b e s = go r.over refl (feed-waits n r b e s)
  where
    go : (o : Bool) → r.over ≡ o → feed_in n r b ≡ unmoved r b → feed_in (suc n) r b ≡ unmoved r b
    go true h k = cond-true r.over _ _ h
    go false h k = feed-more n r b h ∙ rw (e, s) k

pub broken : (r : Run) (b : List ℕ) → field_of r.opened b ≡ Err Malformed → (told r b).run.over ≡ true
unfolding carried malformed told
broken r b e = rw e

-- As many fields as bytes are enough.
feed-enough : (n : ℕ) (r : Run) (b : List ℕ) → length b ≤ n → feed_in (suc n) r b ≡ feed_in n r b
unfolding field_of told size_at carried
feed-enough zero r [] h = feed-waits 1 r [] refl refl ∙ sym (feed-waits 0 r [] refl refl)
feed-enough zero r (x ∷ b) h = absurd (omega arith)
feed-enough (suc n) r b h = go r.over refl (next_of r b) (feed-enough n)
  where
    inside : r.over ≡ false → feed_in (suc n) (told r b).run (drop (size_at r b) b) ≡ feed_in n (told r b).run (drop (size_at r b) b)
        → feed_in (suc (suc n)) r b ≡ feed_in (suc n) r b
    inside e x = feed-more (suc n) r b e ∙ ap (after (told r b)) x ∙ sym (feed-more n r b e)

    go : (o : Bool) → r.over ≡ o → Next r b → ((q : Run) (c : List ℕ) → length c ≤ n → feed_in (suc n) q c ≡ feed_in n q c)
        → feed_in (suc (suc n)) r b ≡ feed_in (suc n) r b
    go true e x ih = feed-over (suc (suc n)) r b e ∙ sym (feed-over (suc n) r b e)
    go false e (waits t s less) ih = feed-waits (suc (suc n)) r b t s ∙ sym (feed-waits (suc n) r b t s)
    go false e (breaks f g) ih = inside e (feed-over (suc n) _ _ (broken r b g) ∙ sym (feed-over n _ _ (broken r b g)))
    go false e (moves s l f t) ih = inside e (ih _ _ (omega (arith, length-drop (size_at r b) b)))

fed_in : (n : ℕ) (r : Run) (b : List ℕ) → length b ≤ n → feed_in n r b ≡ feed r b
unfolding feed
fed_in zero r b h = ap (λ (k : ℕ). feed_in k r b) (omega arith)
fed_in (suc n) r b h = go (leb (length b) n) refl (fed_in n r b)
  where
    go : (o : Bool) → leb (length b) n ≡ o → (length b ≤ n → feed_in n r b ≡ feed r b) → feed_in (suc n) r b ≡ feed r b
    go true e ih = feed-enough n r b (leb-true _ _ e) ∙ ih (leb-true _ _ e)
    go false e ih = let k : length b ≡ suc n = omega (arith, leb-false (length b) n e) in ap (λ (m : ℕ). feed_in m r b) (sym k)

-- A field, and then the rest.
pub feed-step : (r : Run) (b : List ℕ) → r.over ≡ false → feed r b ≡ after (told r b) (feed (told r b).run (drop (size_at r b) b))
feed-step r b e =
    sym (fed_in (suc (length b)) r b (omega arith)) ∙ feed-more (length b) r b e
    ∙ ap (after (told r b)) (fed_in (length b) _ _ (omega (arith, length-drop (size_at r b) b)))

-- Some bytes fed, and then c behind those that were left.
abbrev pub joined : Fed → List ℕ → Fed
joined f c = let g = feed f.run (f.rest ++ c) in record { run = g.run; rest = g.rest; lines = f.lines ++ g.lines }

module _ (n : ℕ) (r : Run) (b c : List ℕ) where
  not_moved : feed_in (suc n) r b ≡ unmoved r b → feed r (b ++ c) ≡ joined (feed_in (suc n) r b) c
  not_moved e = ap (λ (f : Fed). joined f c) (sym e)

  one_moved : r.over ≡ false → told r (b ++ c) ≡ told r b → drop (size_at r (b ++ c)) (b ++ c) ≡ drop (size_at r b) b ++ c
      → feed (told r b).run (drop (size_at r b) b ++ c) ≡ joined (feed_in n (told r b).run (drop (size_at r b) b)) c
      → feed r (b ++ c) ≡ joined (feed_in (suc n) r b) c
  one_moved e t d x =
      feed-step r (b ++ c) e ∙ rw (t, d, x) (again (feed_in n (told r b).run (drop (size_at r b) b)))
      ∙ ap (λ (f : Fed). joined f c) (sym (feed-more n r b e))
    where
      again : (f : Fed) → after (told r b) (joined f c) ≡ joined (after (told r b) f) c
      again f =
          let g = feed f.run (f.rest ++ c) in
          let same = append_assoc (told r b).lines f.lines g.lines in
          ap (λ (l : List ℕ). record { run = g.run; rest = g.rest; lines = l }) (sym same)

first_fed : (r : Run) (c : List ℕ) → feed r c ≡ joined (feed_in zero r []) c
unfolding feed_in
first_fed r c = refl

feed-joined : (n : ℕ) (r : Run) (b c : List ℕ) → length b ≤ n → feed r (b ++ c) ≡ joined (feed_in n r b) c
unfolding told size_at carried
feed-joined zero r [] c h = first_fed r c
feed-joined zero r (x ∷ b) c h = absurd (omega arith)
feed-joined (suc n) r b c h = go r.over refl (next_of r b) (feed-joined n)
  where
    stops : (f : field_of r.opened b ≡ Err Malformed) (g : field_of r.opened (b ++ c) ≡ Err Malformed) → r.over ≡ false
        → feed r (b ++ c) ≡ joined (feed_in (suc n) r b) c
    stops f g e =
        one_moved n r b c e (told_of r (b ++ c) g ∙ sym (told_of r b f)) (rw (size_of r (b ++ c) g, size_of r b f))
        (ap (λ (x : Fed). joined x c) (sym (feed-over n (told r b).run (drop (size_at r b) b) (broken r b f))) ∙ refl)

    goes : 3 ≤ size_at r b → size_at r b ≤ length b → field_of r.opened (b ++ c) ≡ field_of r.opened b
        → carried r (field_of r.opened b) (b ++ c) ≡ told r b → r.over ≡ false
        → feed (told r b).run (drop (size_at r b) b ++ c) ≡ joined (feed_in n (told r b).run (drop (size_at r b) b)) c
        → feed r (b ++ c) ≡ joined (feed_in (suc n) r b) c
    goes s l f t e x =
        one_moved n r b c e (told_of r (b ++ c) f ∙ t)
        (ap (λ (k : ℕ). drop k (b ++ c)) (size_of r (b ++ c) f) ∙ drop-append-le (size_at r b) b c l) x

    go : (o : Bool) → r.over ≡ o → Next r b
        → ((q : Run) (d e : List ℕ) → length d ≤ n → feed q (d ++ e) ≡ joined (feed_in n q d) e)
        → feed r (b ++ c) ≡ joined (feed_in (suc n) r b) c
    go true e x ih = not_moved n r b c (feed-over (suc n) r b e)
    go false e (waits t s less) ih = not_moved n r b c (feed-waits (suc n) r b t s)
    go false e (breaks f g) ih = stops g (f c) e
    go false e (moves s l f t) ih = goes s l (f c) (t c) e (ih _ _ c (omega (arith, length-drop (size_at r b) b)))

pub feed-pieces : (r : Run) (b c : List ℕ) → feed r (b ++ c) ≡ joined (feed r b) c
unfolding feed
feed-pieces r b c = feed-joined (length b) r b c (omega arith)
