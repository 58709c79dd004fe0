-- Pages: lines written one after the other, a list of operations one by one, and a malformed place.
use Rattle.std.proofs.Common.{ℕ, ◌+◌, ◌<◌, ◌≤◌, List, [], ◌∷◌, ◌++◌, append-nil, le-leb}
use mathlib.Core.{Path.{◌≡◌, refl, sym, ap, ◌∙◌}, Bool.{Bool, true, false, cond}}
use native.Mathlib.{Nat.add-zero, Numerals.add-one, Omega.arith}
use lib.{Dec.leb, ListN.{length, get_or, drop, length-append}, Seq.drop-cons}
use Rattle.std.proofs.lemmas.List.{drop_all}
use Rattle.model.specs.{declared.Op.Op, History.{Request, run, final}}
use Rattle.lines.{specs.Line.room, proofs.Puts.sets_append}
use Rattle.trace_field.specs.Run.{Run, Told, lines_of, number_of, operated, each_of, malformed}
use Rattle.trace_field.specs.Page.{Page, written, emptied, operates, breaks}

pub cond-true : {A : Type 0} (b : Bool) (x y : A) → b ≡ true → cond b x y ≡ x
cond-true true x y e = refl
cond-true false x y e = absurd (let z : ◌≡◌ {A = ℕ} 0 1 = cc in omega arith)

pub cond-false : {A : Type 0} (b : Bool) (x y : A) → b ≡ false → cond b x y ≡ y
cond-false false x y e = refl
cond-false true x y e = absurd (let z : ◌≡◌ {A = ℕ} 0 1 = cc in omega arith)

page-same : (r : Run) (u : List ℕ) (a : ℕ) (o o' : List ℕ) (n n' : ℕ) → o ≡ o' → n ≡ n'
    → ◌≡◌ {A = Page} (record { run = r; uppers = u; out = o; to = n; at = a }) (record { run = r; uppers = u; out = o'; to = n'; at = a })
page-same r u a o o' n n' e f = cc

pub written-more : (p : Page) (t t' : Told) (u u' : List ℕ)
    → written (written p t u) t' u' ≡ written p (record { run = t'.run; lines = t.lines ++ t'.lines }) u'
unfolding written
written-more p t t' u u' =
    page-same _ _ _ _ _ _ _ (sets_append p.out p.to t.lines t'.lines) (omega (arith, length-append t.lines t'.lines))

pub written_none : (p : Page) → written p (record { run = p.run; lines = [] }) p.uppers ≡ p
unfolding written
written_none p = page-same _ _ _ _ _ _ _ refl (add-zero p.to)

-- Operations one by one.
operates-none : (p : Page) → operates p [] ≡ p
unfolding operated final run lines_of number_of emptied
operates-none p = written_none p

operated-more : (r : Run) (o : Request) (os : List Request)
    → record {
      run = (operated (operated r (o ∷ [])).run os).run;
      lines = (operated r (o ∷ [])).lines ++ (operated (operated r (o ∷ [])).run os).lines;
    } ≡ operated r (o ∷ os)
unfolding operated final run lines_of number_of
operated-more r o os = rw append-nil

operates-more : (p : Page) (o : Request) (os : List Request) → operates (operates p (o ∷ [])) os ≡ operates p (o ∷ os)
unfolding written emptied
operates-more p o os =
    let one = operated p.run (o ∷ []) in
    written-more p one (operated one.run os) (emptied (o ∷ []) p.uppers) (emptied (o ∷ os) p.uppers)
    ∙ ap (λ (t : Told). written p t (emptied (o ∷ os) p.uppers)) (operated-more p.run o os)

-- An operation for each of some task bytes: the end of the list, and one more.
module _ (op : Op) (tasks : List ℕ) where
  pub each_end : (p q : Page) (i : ℕ) → length tasks ≤ i → operates p (each_of op (drop i tasks)) ≡ q → p ≡ q
  each_end p q i e h =
      sym (operates-none p) ∙ ap (λ (l : List ℕ). operates p (each_of op l)) (sym (drop_all i tasks e)) ∙ h

  pub each_more : (p p' : Page) (i t : ℕ) → i < length tasks → t ≡ get_or tasks i 0 → p' ≡ operates p (record { task = t; op = op } ∷ [])
      → operates p' (each_of op (drop (i + 1) tasks)) ≡ operates p (each_of op (drop i tasks))
  each_more p p' i t h et e =
      ap (λ (x : Page). operates x (each_of op (drop (i + 1) tasks))) e
      ∙ operates-more p (record { task = t; op = op }) (each_of op (drop (i + 1) tasks))
      ∙ ap (λ (n : ℕ). operates p (each_of op (n ∷ drop (i + 1) tasks))) et
      ∙ ap (λ (n : ℕ). operates p (each_of op (get_or tasks i 0 ∷ drop n tasks))) (add-one i)
      ∙ ap (λ (l : List ℕ). operates p (each_of op l)) (sym (drop-cons tasks i 0 h))

-- A malformed place, with room for its line and without.
module _ (p : Page) where
  pub breaks-fits : leb (p.to + room) (length p.out) ≡ true → breaks p ≡ written p (malformed p.run) p.uppers
  unfolding breaks
  breaks-fits e = cond-true (leb (p.to + room) (length p.out)) _ _ e

  pub breaks_roomy : p.to + 524288 ≤ length p.out → breaks p ≡ written p (malformed p.run) p.uppers
  breaks_roomy h = breaks-fits (le-leb (p.to + room) (length p.out) (omega (arith, h)))

  pub breaks_short : leb (p.to + room) (length p.out) ≡ false → breaks p ≡ p
  unfolding breaks
  breaks_short e = cond-false (leb (p.to + room) (length p.out)) _ _ e
