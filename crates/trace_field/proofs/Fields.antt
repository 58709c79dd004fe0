-- A field at a position: its bytes are there.
use Rattle.std.proofs.Common.{ℕ, suc, ◌+◌, ◌≤◌, [], arith, eqb-true, leb-true, add-zero}
use mathlib.Core.{Path.{◌≡◌, refl, sym, ap, ◌∙◌, subst}, Bool.{Bool, true, false, ◌||◌}, List.List}
use lib.{Dec.{leb, eqb}, ListN.{length, drop, get_or}}
use Rattle.runfile.{specs.Field.{two_at, formed, content_of, field_of, taken}, proofs.Prefix.formed-put}
use Rattle.std.specs.Prelude.{Result, Ok, Err, IfOk}
use Rattle.runfile.specs.declared.{Found.Found, NoField.NoField}
use Rattle.runfile.proofs.Prefix.{Seen, seen, ended, cut, wrong, whole, formed_most, formed_push, formed_pop}
use Rattle.runfile.specs.declared.NoField.TheVariants.{Malformed}
use Rattle.trace_field.specs.Run.{Told, carried, malformed}
use Rattle.trace_field.specs.Page.{Page, written, does, carries, uppers_after, breaks, moved, field_room, takes, BytesThere}
use Rattle.trace_field.proofs.Pages.{cond-true, cond-false, written_none, breaks_roomy}

pub content_there : (o : Bool) (tag len at n : ℕ) (d : List ℕ) → formed o tag len ≡ true → at + 3 + len ≤ n → BytesThere (content_of tag len d) at n
unfolding content_of
content_there o tag len at n d f h = go (eqb tag 1 || eqb tag 5) refl (eqb tag 2) refl (eqb tag 3) refl (eqb tag 6) refl
  where
    one : (k : ℕ) → suc k ≤ len → (1 ≤ 4096) × (at + 3 + 1 ≤ n)
    one k e = (omega arith, omega (arith, h, e))

    tagged : (k : ℕ) → eqb tag k ≡ true → formed o k len ≡ true
    tagged k e = subst (λ (t : ℕ). formed o t len ≡ true) (eqb-true tag k e) f

    go : (w : Bool) → (eqb tag 1 || eqb tag 5) ≡ w → (x : Bool) → eqb tag 2 ≡ x → (y : Bool) → eqb tag 3 ≡ y → (z : Bool) → eqb tag 6 ≡ z
        → BytesThere (content_of tag len d) at n
    go true p x q y s z t = rw p tt
    go false p true q y s z t = rw (p, q) (one 7 (formed_push len o (tagged 2 q)))
    go false p false q true s z t = rw (p, q, s) (one 1 (formed_pop len o (tagged 3 s)))
    go false p false q false s true t = rw (p, q, s, t) (one 5 (formed-put len o (tagged 6 t)))
    go false p false q false s false t = rw (p, q, s, t) (formed_most o tag len f, h)

pub field_there : (o : Bool) (b : List ℕ) → IfOk (field_of o b) (λ found. BytesThere found.field 0 (length b))
field_there o b = go (field_of o b) (seen o b)
  where
    go : (f : Result Found NoField) → Seen o b f → IfOk f (λ found. BytesThere found.field 0 (length b))
    go f (ended h) = tt
    go f (cut h) = tt
    go f (wrong h w) = tt
    go f (whole w h) = content_there o (get_or b 0 0) (two_at b 1) 0 (length b) (drop 3 b) w (omega arith)

-- What stands at the reading position taken.
module _ (bytes : List ℕ) (p : Page) where
  pub takes_met : (f : Result Found NoField) → leb (p.to + field_room) (length p.out) ≡ true → f ≡ field_of p.run.opened (drop p.at bytes)
      → moved (carries p f (drop p.at bytes)) (taken f) ≡ takes bytes p
  unfolding takes
  takes_met f h e =
      ap (λ (g : Result Found NoField). moved (carries p g (drop p.at bytes)) (taken g)) e
      ∙ sym (cond-true (leb (p.to + field_room) (length p.out)) _ _ h)

  -- A field: x is the page after it was carried out.
  pub takes_found : (x : Page) (found : Found) → leb (p.to + field_room) (length p.out) ≡ true → Ok found ≡ field_of p.run.opened (drop p.at bytes)
      → x ≡ does p found.field (drop p.at bytes)
      → ◌≡◌ {A = Page} (record { run = x.run; uppers = x.uppers; out = x.out; to = x.to; at = p.at + found.size }) (takes bytes p)
  unfolding written carried uppers_after
  takes_found x found h e ex = rw ex (takes_met (Ok found) h e)

  -- None: x is the page after a malformed place, or what was there.
  unmoved : (x : Page) → x.at ≡ p.at → ◌≡◌ {A = Page} x (record { run = x.run; uppers = x.uppers; out = x.out; to = x.to; at = p.at + 0 })
  unmoved x e = ap (λ (n : ℕ). record { run = x.run; uppers = x.uppers; out = x.out; to = x.to; at = n }) (e ∙ sym (add-zero p.at))

  pub takes_wrong : (x : Page) → leb (p.to + field_room) (length p.out) ≡ true → Err Malformed ≡ field_of p.run.opened (drop p.at bytes)
      → x ≡ breaks p → x ≡ takes bytes p
  unfolding written carried uppers_after
  takes_wrong x h e ex =
      let room : p.to + 524288 ≤ length p.out = leb-true _ _ h in
      ex ∙ breaks_roomy p room ∙ unmoved (written p (malformed p.run) p.uppers) refl ∙ takes_met (Err Malformed) h e

  pub takes_waits : (why : NoField) → carried p.run (Err why) (drop p.at bytes) ≡ record { run = p.run; lines = [] }
      → leb (p.to + field_room) (length p.out) ≡ true → Err why ≡ field_of p.run.opened (drop p.at bytes) → p ≡ takes bytes p
  unfolding uppers_after
  takes_waits why w h e =
      unmoved p refl
      ∙ ap (λ (x : Page). moved x 0) (sym (ap (λ (t : Told). written p t p.uppers) w ∙ written_none p))
      ∙ takes_met (Err why) h e

  pub takes_none : leb (p.to + field_room) (length p.out) ≡ false → takes bytes p ≡ p
  unfolding takes
  takes_none h = cond-false (leb (p.to + field_room) (length p.out)) _ _ h
