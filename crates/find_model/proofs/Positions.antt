-- The leftmost of equals: the first that a walk from the left meets, the last that one from the right meets.
use mathlib.Core.{Path.{◌≡◌, refl, sym, ap, ap₂, subst, ◌∙◌}, Bool.{Bool, true, false, ◌&&◌, cond}}
use mathlib.Core.List.{List, [], ◌∷◌, ◌++◌, map, map-append, map-map, reverse, reverse-cons}
use mathlib.Core.Logic.{◌≢◌, ◌⊎◌, inl, inr}
use Prim.Native.Nat.{ℕ, zero, suc, ◌+◌, ◌-◌, ◌<◌, ◌≤◌}
use native.Mathlib.{Nat.add-zero, Omega.arith}
use lib.{Dec.eqb, ListN.{length, length-reverse, replicate}}
use borrow.Author.Tests.{le-leb, ne_eqb}
use Rattle.model.{specs.declared.Entry.Entry, proofs.Tests.Truth.split}
use Rattle.find_model.specs.{Find.{found, position, position_from}, Noting.{note, pick, turned}}

-- What a walk notes for all labels asked for, entry by entry from the k-th on; and for one label.
abbrev pub notes : Bool → List ℕ → ℕ → List ℕ → List Entry → List ℕ
notes foremost wanted k ps [] = ps
notes foremost wanted k ps (e ∷ l) = notes foremost wanted (k + 1) (note foremost e.label k wanted ps) l

abbrev each : Bool → ℕ → ℕ → ℕ → List Entry → ℕ
each foremost x k p [] = p
each foremost x k p (e ∷ l) = each foremost x (k + 1) (pick foremost x e.label k p) l

-- The labels asked for do not touch each other.
note-each : (foremost : Bool) (y k : ℕ) (f : ℕ → ℕ) (zs wanted : List ℕ)
    → note foremost y k wanted (map f wanted ++ zs) ≡ map (λ x. pick foremost x y k (f x)) wanted ++ zs
note-each foremost y k f zs [] = refl
note-each foremost y k f zs (x ∷ wanted) = ap (λ (l : List ℕ). pick foremost x y k (f x) ∷ l) (note-each foremost y k f zs wanted)

notes_each : (foremost : Bool) (wanted zs : List ℕ) (k : ℕ) (f : ℕ → ℕ) (l : List Entry)
    → notes foremost wanted k (map f wanted ++ zs) l ≡ map (λ x. each foremost x k (f x) l) wanted ++ zs
notes_each foremost wanted zs k f [] = refl
notes_each foremost wanted zs k f (e ∷ l) =
    ap (λ (ps : List ℕ). notes foremost wanted (k + 1) ps l) (note-each foremost e.label k f zs wanted)
    ∙ notes_each foremost wanted zs (k + 1) (λ x. pick foremost x e.label k (f x)) l

abbrev blank : ℕ → List ℕ
blank n = replicate n 0

zeros : (n : ℕ) (wanted : List ℕ) → length wanted ≤ n → blank n ≡ map (λ x. 0) wanted ++ blank (n - length wanted)
zeros n [] h = let e : n ≡ n - 0 = omega arith in ap blank e
zeros zero (x ∷ wanted) h = absurd (omega arith)
zeros (suc n) (x ∷ wanted) h =
    let e : n - length wanted ≡ suc n - suc (length wanted) = omega arith in
    ap (λ (l : List ℕ). 0 ∷ l) (zeros n wanted (omega arith) ∙ ap (λ (m : ℕ). map (λ x. 0) wanted ++ blank m) e)

-- From the left: a match that was noted stays, else the position is the first match's.
stays : (x k p : ℕ) (l : List Entry) → p ≢ 0 → each true x k p l ≡ p
stays x k p [] h = refl
stays x k p (e ∷ l) h = rw (ne_eqb p 0 h) (split (eqb e.label x) (λ b. rw b (stays x (k + 1) p l h)) (λ b. rw b (stays x (k + 1) p l h)))

earliest : (x k : ℕ) (l : List Entry) → k ≢ 0 → each true x k 0 l ≡ position_from k x l
unfolding position_from
earliest x k [] h = refl
earliest x k (e ∷ l) h = split (eqb e.label x) (λ b. rw b (stays x (k + 1) k l h)) (λ b. rw b (earliest x (k + 1) l (λ z. omega arith)))

-- A position lies among the entries.
within : (x k : ℕ) (l : List Entry) → (position_from k x l ≡ 0) ⊎ ((k ≤ position_from k x l) × (position_from k x l < k + length l))
unfolding position_from
within x k [] = inl refl
within x k (e ∷ l) = split (eqb e.label x) (λ b. rw b (inr (omega arith, omega arith))) (λ b. rw b (more (within x (k + 1) l)))
  where
    more : {n : ℕ} → (n ≡ 0) ⊎ ((k + 1 ≤ n) × (n < k + 1 + length l)) → (n ≡ 0) ⊎ ((k ≤ n) × (n < k + suc (length l)))
    more (inl z) = inl z
    more (inr z) = inr (omega arith, omega arith)

-- One more entry at the right counts where none matched before.
abbrev or_at : ℕ → Bool → ℕ → ℕ
or_at n b p = cond (eqb p 0) (cond b n 0) p

at-end : (x k : ℕ) (l : List Entry) (e : Entry) → k ≢ 0
    → position_from k x (l ++ (e ∷ [])) ≡ or_at (k + length l) (eqb e.label x) (position_from k x l)
unfolding position_from
at-end x k [] e h = ap (λ (n : ℕ). cond (eqb e.label x) n 0) (sym (add-zero k))
at-end x k (f ∷ l) e h =
    split (eqb f.label x)
    (λ b. rw (b, ne_eqb k 0 h))
    (λ b. rw b
    (at-end x (k + 1) l e (λ z. omega arith)
    ∙ ap (λ (n : ℕ). or_at n (eqb e.label x) (position_from (k + 1) x l)) (omega arith)))

-- From the right: the position of the last match is the leftmost's, seen from the other end.
abbrev behind : ℕ → List Entry → ℕ
behind x m = position (reverse m) x

behind_cons : (x : ℕ) (e : Entry) (m : List Entry) → behind x (e ∷ m) ≡ or_at (1 + length m) (eqb e.label x) (behind x m)
behind_cons x e m =
    ap (λ (l : List Entry). position l x) (reverse-cons e m)
    ∙ at-end x 1 (reverse m) e (λ z. omega arith)
    ∙ ap (λ (n : ℕ). or_at (1 + n) (eqb e.label x) (behind x m)) (length-reverse m)

latest : (x k p : ℕ) (m : List Entry) → each false x k p m ≡ cond (eqb (behind x m) 0) p (k + length m - behind x m)
unfolding position_from
latest x k p [] = refl
latest x k p (e ∷ m) = rw (behind_cons x e m) (latest x (k + 1) (pick false x e.label k p) m ∙ go (behind x m) (eqb e.label x))
  where
    go : (n : ℕ) (b : Bool)
        → cond (eqb n 0) (cond (b && true) k p) (k + 1 + length m - n)
        ≡ cond (eqb (or_at (1 + length m) b n) 0) p (k + suc (length m) - or_at (1 + length m) b n)
    go n b = split (eqb n 0) (λ z. rw z (first b)) (λ z. rw (z, z) (omega arith))
      where
        first : (b : Bool) → cond (b && true) k p ≡ cond (eqb (cond b (1 + length m) 0) 0) p (k + suc (length m) - cond b (1 + length m) 0)
        first true = rw (ne_eqb (1 + length m) 0 (λ z. omega arith)) (omega arith)
        first false = refl

turned_latest : (x : ℕ) (m : List Entry) → turned (length m) (each false x 1 0 m) ≡ behind x m
turned_latest x m = ap (turned (length m)) (latest x 1 0 m) ∙ go (behind x m) among
  where
    among : (behind x m ≡ 0) ⊎ ((1 ≤ behind x m) × (behind x m < 1 + length m))
    among = subst (λ n. (behind x m ≡ 0) ⊎ ((1 ≤ behind x m) × (behind x m < 1 + n))) (length-reverse m) (within x 1 (reverse m))

    go : (p : ℕ) → (p ≡ 0) ⊎ ((1 ≤ p) × (p < 1 + length m)) → turned (length m) (cond (eqb p 0) 0 (1 + length m - p)) ≡ p
    go p (inl z) = subst (λ p. turned (length m) (cond (eqb p 0) 0 (1 + length m - p)) ≡ p) (sym z) refl
    go p (inr h) =
        let v : ℕ = 1 + length m - p in
        let low : 1 ≤ v = omega arith in
        let high : v ≤ length m = omega arith in
        rw (ne_eqb p 0 (λ z. omega arith), le-leb 1 v low, le-leb v (length m) high) (omega arith)

module _ (wanted : List ℕ) (few : length wanted ≤ 32) where
  abbrev rest : List ℕ
  rest = blank (32 - length wanted)

  begun : (foremost : Bool) (l : List Entry) → notes foremost wanted 1 (blank 32) l ≡ map (λ x. each foremost x 1 0 l) wanted ++ rest
  begun foremost l = ap (λ (ps : List ℕ). notes foremost wanted 1 ps l) (zeros 32 wanted few) ∙ notes_each foremost wanted rest 1 (λ x. 0) l

  pub from_left : (l : List Entry) → notes true wanted 1 (replicate 32 0) l ≡ (found l wanted).positions
  unfolding found
  from_left l = begun true l ∙ (λ i. map (λ x. earliest x 1 l (λ z. omega arith) i) wanted ++ rest)

  still : (rows n : ℕ) → map (turned rows) (blank n) ≡ blank n
  still rows zero = refl
  still rows (suc n) = ap (λ (l : List ℕ). 0 ∷ l) (still rows n)

  pub from_right : (m : List Entry) → map (turned (length m)) (notes false wanted 1 (replicate 32 0) m) ≡ (found (reverse m) wanted).positions
  unfolding found
  from_right m =
      let t = turned (length m) in
      let each-turned = map-map t (λ x. each false x 1 0 m) wanted ∙ (λ i. map (λ x. turned_latest x m i) wanted) in
      ap (map t) (begun false m)
      ∙ map-append t (map (λ x. each false x 1 0 m) wanted) rest
      ∙ ap₂ (λ (a b : List ℕ). a ++ b) each-turned (still (length m) (32 - length wanted))
