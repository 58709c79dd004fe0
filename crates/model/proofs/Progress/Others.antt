-- What another's step leaves a task owing, whatever its record: no more, if the scale falls with it; 3 more at most, if the head is changed.
-- With c = 1 the scale is g = 9 while the link back is not made, else 3: these are the smallest that do.
use mathlib.Core.Bool.{Bool, ◌&&◌, cond, false, true}
use Prim.Native.Nat.{◌*◌, ◌+◌, ◌≤◌, ℕ}
use native.Mathlib.Omega.{arith}
use Rattle.model.proofs.{Tests.Truth.either, Machine.Machine.{idle, inside, leaving, outside, phase, returning}}
use Rattle.model.proofs.Machine.Machine.{Draw, Give, Phase, Place, at1, at10, at11, at12, at13, at14, at15, at16}
use Rattle.model.proofs.Machine.Machine.{at17, at2, at3, at4, at5, at6, at7, at8, at9, draw, fetching, give}
use Rattle.model.proofs.Progress.Measure.{drawing, due, giving, home}

-- Branches on one test, arm by arm; and on two, past a number between.
pub keep : (b : Bool) {x' y' x y : ℕ} → x' ≤ x → y' ≤ y → cond b x' y' ≤ cond b x y
keep true p q = p
keep false p q = q

past : (m : ℕ) (b' b : Bool) {x' y' x y : ℕ} → x' ≤ m → y' ≤ m → m ≤ x → m ≤ y → cond b' x' y' ≤ cond b x y
past m b' b {x'} {y'} {x} {y} p q u v =
    let l : cond b' x' y' ≤ m = either (λ z. z ≤ m) b' p q in
    let r : m ≤ cond b x y = either (λ z. m ≤ z) b u v in
    omega arith

-- The scale falls.
module _ (c g' g : ℕ) (le : g' ≤ g) (draws pooled ends steady now grown top : Bool) where
  home_le : home c g' steady ≤ home c g steady
  home_le = keep steady (omega arith) (omega arith)

  pub scale_le : (p : Place) → due c g' draws pooled ends steady now grown top p ≤ due c g draws pooled ends steady now grown top p
  scale_le idle = omega (arith, home_le)
  scale_le at1 = home_le
  scale_le at2 = keep (steady && now) (omega arith) (omega (arith, home_le))
  scale_le at3 = keep (steady && now) (omega arith) (omega (arith, home_le))
  scale_le at4 = keep (steady && now) (omega arith) (omega (arith, home_le))
  scale_le at5 = keep ends (omega arith) (keep now (omega arith) (omega (arith, home_le)))
  scale_le at6 = keep ends (omega arith) (keep now (omega arith) (omega (arith, home_le)))
  scale_le at7 = keep ends (omega arith) (keep now (omega arith) (omega (arith, home_le)))
  scale_le at8 = keep ends (omega arith) (keep now (keep grown (omega (arith, home_le)) (omega arith)) (omega (arith, home_le)))
  scale_le at9 = keep ends (omega arith) (keep grown (omega (arith, home_le)) (omega arith))
  scale_le at10 = keep ends (omega arith) (keep now (omega arith) (omega (arith, home_le)))
  scale_le at11 = omega arith
  scale_le (draw p) = omega (arith, home_le)
  scale_le (give p) = omega arith

-- The link back is made: who waits at 8 or 9 to do it may find that its link has grown.
module _ (draws pooled ends steady now grown grown' top : Bool) where
  abbrev after : ℕ
  after = home 1 3 steady

  after_le : (3 ≤ after) × (after ≤ 8) × (after ≤ home 1 9 steady)
  after_le = (
    either (λ z. 3 ≤ z) steady (omega arith) (omega arith),
    either (λ z. z ≤ 8) steady (omega arith) (omega arith),
    keep steady (omega arith)
        (omega arith),
  )

  pub made_le : (p : Place) → due 1 3 draws pooled ends steady now grown' top p ≤ due 1 9 draws pooled ends steady now grown top p
  made_le idle = omega (arith, after_le.2)
  made_le at1 = after_le.2
  made_le at2 = keep (steady && now) (omega arith) (omega (arith, after_le.2))
  made_le at3 = keep (steady && now) (omega arith) (omega (arith, after_le.2))
  made_le at4 = keep (steady && now) (omega arith) (omega (arith, after_le.2))
  made_le at5 = keep ends (omega arith) (keep now (omega arith) (omega (arith, after_le.2)))
  made_le at6 = keep ends (omega arith) (keep now (omega arith) (omega (arith, after_le.2)))
  made_le at7 = keep ends (omega arith) (keep now (omega arith) (omega (arith, after_le.2)))
  made_le at8 = keep ends (omega arith) (keep now
      (past (after + 2) grown' grown (omega arith) (omega (arith, after_le.0)) (omega (arith, after_le.2)) (omega (arith, after_le.1)))
      (omega (arith, after_le.2)))
  made_le at9 = keep ends (omega arith)
      (past (after + 1) grown' grown (omega arith) (omega (arith, after_le.0)) (omega (arith, after_le.2)) (omega (arith, after_le.1)))
  made_le at10 = keep ends (omega arith) (keep now (omega arith) (omega (arith, after_le.2)))
  made_le at11 = omega arith
  made_le (draw p) = omega (arith, after_le.2)
  made_le (give p) = omega arith

-- Anchor is changed to STABLE: who had read it, or not, has not read it now (or had read ahead, which does not occur).
module _ (draws pooled ends now now' : Bool) where
  pub stable_le : (grown top : Bool) (p : Place) → due 1 3 draws pooled ends true now' grown top p ≤ due 1 3 draws pooled ends false now grown top p
  stable_le grown top idle = omega arith
  stable_le grown top at1 = omega arith
  stable_le grown top at2 = either (λ z. z ≤ 9) now' (omega arith) (omega arith)
  stable_le grown top at3 = either (λ z. z ≤ 10) now' (omega arith) (omega arith)
  stable_le grown top at4 = either (λ z. z ≤ 9) now' (omega arith) (omega arith)
  stable_le grown top at5 = keep ends (omega arith) (past 7 now' now (omega arith) (omega arith) (omega arith) (omega arith))
  stable_le grown top at6 = keep ends (omega arith) (past 6 now' now (omega arith) (omega arith) (omega arith) (omega arith))
  stable_le grown top at7 = keep ends (omega arith) (past 5 now' now (omega arith) (omega arith) (omega arith) (omega arith))
  stable_le true top at8 = keep ends (omega arith) (past 5 now' now (omega arith) (omega arith) (omega arith) (omega arith))
  stable_le false top at8 = keep ends (omega arith) (past 4 now' now (omega arith) (omega arith) (omega arith) (omega arith))
  stable_le grown top at9 = keep ends (omega arith) (keep grown (omega arith) (omega arith))
  stable_le grown top at10 = keep ends (omega arith) (past 4 now' now (omega arith) (omega arith) (omega arith) (omega arith))
  stable_le grown top at11 = omega arith
  stable_le grown top (draw p) = omega arith
  stable_le grown top (give p) = omega arith

-- A task that may find the head changed before its next effect or answer: it is idle, draws its slot, or has one to give back.
abbrev minds : Phase → Bool
minds outside = true
minds inside = false
minds leaving = true
minds fetching = true
minds returning = true

abbrev pub heads : Place → ℕ
heads p = cond (minds (phase p)) 1 0

pub heads_most : (p : Place) → heads p ≤ 1
heads_most p = either (λ z. z ≤ 1) (minds (phase p)) (omega arith) (omega arith)

-- The head is changed (place 14): who had read it goes back, and owes 3 more.
module _ (top top' : Bool) where
  astray : (x : ℕ) → cond top' x (x + 3) ≤ cond top x (x + 3) + 3
  astray x =
      let l : cond top' x (x + 3) ≤ x + 3 = either (λ z. z ≤ x + 3) top' (omega arith) (omega arith) in
      let r : x ≤ cond top x (x + 3) = either (λ z. x ≤ z) top (omega arith) (omega arith) in
      omega arith

  drawing_le : (p : Draw) → drawing top' p ≤ drawing top p + 3
  drawing_le at12 = omega arith
  drawing_le at13 = astray 2
  drawing_le at14 = astray 1

  giving_le : (p : Give) → giving top' p ≤ giving top p + 3
  giving_le at15 = omega arith
  giving_le at16 = astray 2
  giving_le at17 = astray 1

  drawn_le : (draws : Bool) (p : Draw) → cond draws (drawing top' p) 0 ≤ cond draws (drawing top p) 0 + 3
  drawn_le true p = drawing_le p
  drawn_le false p = omega arith

  pub head_le : (c g : ℕ) (draws pooled ends steady now grown : Bool) (p : Place)
      → due c g draws pooled ends steady now grown top' p ≤ due c g draws pooled ends steady now grown top p + 3 * heads p
  head_le c g draws pooled ends steady now grown idle = omega arith
  head_le c g draws pooled ends steady now grown at1 = omega arith
  head_le c g draws pooled ends steady now grown at2 = omega arith
  head_le c g draws pooled ends steady now grown at3 = omega arith
  head_le c g draws pooled ends steady now grown at4 = omega arith
  head_le c g draws pooled ends steady now grown at5 = omega arith
  head_le c g draws pooled ends steady now grown at6 = omega arith
  head_le c g draws pooled ends steady now grown at7 = omega arith
  head_le c g draws pooled ends steady now grown at8 = omega arith
  head_le c g draws pooled ends steady now grown at9 = omega arith
  head_le c g draws pooled ends steady now grown at10 = omega arith
  head_le c g draws pooled ends steady now grown at11 = omega arith
  head_le c g draws pooled ends steady now grown (draw p) = omega (arith, drawn_le draws p)
  head_le c g draws pooled ends steady now grown (give p) = giving_le p
