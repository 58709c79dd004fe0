-- Any two schedules of a queue part at some step, where one goes on with task 0 and the other with task 1.
use Rattle.std.specs.Prelude.{Err, Ok}
use mathlib.Core.{Path.{◌≡◌, refl}, Bool.{Bool, true, false, cond}, List.{List, [], ◌∷◌, ◌++◌, map}}
use Prim.Native.Nat.{ℕ, zero, suc}
use native.Mathlib.Omega.{arith}
use borrow.Author.Tests.{le-ltb, eq-eqb}
use Rattle.model.specs.Outcomes.{Outcome}
use Rattle.model.specs.{declared.Op.TheVariants.Step, Tables.Queue}
use Rattle.model.{specs.{Calls.act, Lists.All}, proofs.Lists.All.{all_map, all_append}}
use Rattle.schedule_model.specs.Schedules.{Schedule, ends, begun, at_work, both_answered, onwards, through}
use Rattle.schedule_model.specs.{Schedules.schedules, Next.precedes, Claims.{Pairwise, InOrder, begins, Apart}}

-- The schedule begins with task t.
abbrev pub Starts : ℕ → Schedule → Type 0
Starts t x = (s : List ℕ) × (x.steps ≡ t ∷ s)

begun_starts : (t : ℕ) (l : List Schedule) → All (Starts t) (map (begun t) l)
begun_starts t [] = tt
begun_starts t (x ∷ l) = ((x.steps, refl), begun_starts t l)

pub through_starts : (q : Queue) (t : ℕ) (l : List Schedule) → All (Starts t) (through q t l)
through_starts q t l = go (at_work q t) (act q t Step).outcome
  where
    go : (b : Bool) (a : Outcome) → All (Starts t) (cond b (onwards t a l) [])
    go true (Err why) = (([], refl), tt)
    go true (Ok a) = begun_starts t l
    go false a = tt

-- A relation that steps in common keep, and that holds where the schedules part.
module _ (R : List ℕ → List ℕ → Type 0) (common : (t : ℕ) (g s : List ℕ) → R g s → R (t ∷ g) (t ∷ s))
    (part : (g s : List ℕ) → R (0 ∷ g) (1 ∷ s)) where
  abbrev S : Schedule → Schedule → Type 0
  S s x = R s.steps x.steps

  begun_all : (t : ℕ) (s : Schedule) (l : List Schedule) → All (S s) l → All (S (begun t s)) (map (begun t) l)
  begun_all t s [] h = tt
  begun_all t s (x ∷ l) h = (common t s.steps x.steps h.0, begun_all t s l h.1)

  begun-pairs : (t : ℕ) (l : List Schedule) → Pairwise S l → Pairwise S (map (begun t) l)
  begun-pairs t [] o = tt
  begun-pairs t (x ∷ l) o = (begun_all t x l o.0, begun-pairs t l o.1)

  through-pairs : (q : Queue) (t : ℕ) (l : List Schedule) → Pairwise S l → Pairwise S (through q t l)
  through-pairs q t l o = go (at_work q t) (act q t Step).outcome
    where
      go : (b : Bool) (a : Outcome) → Pairwise S (cond b (onwards t a l) [])
      go true (Err why) = (tt, tt)
      go true (Ok a) = begun-pairs t l o
      go false a = tt

  append_pairs : (l m : List Schedule) → Pairwise S l → Pairwise S m → All (Starts 0) l → All (Starts 1) m → Pairwise S (l ++ m)
  append_pairs [] m o p h k = p
  append_pairs (x ∷ l) m o p h k = (
    all_append (S x) l m o.0 (all_map (Starts 1) (S x) (λ y j. rw (h.0.1, j.1) (part h.0.0 j.0)) m k),
    append_pairs l m o.1 p h.1 k,
  )

  pub pairs : (q : Queue) (n : ℕ) → Pairwise S (schedules q n)
  unfolding schedules
  pairs q zero = (tt, tt)
  pairs q (suc n) =
      let a = (act q 0 Step).queue in
      let b = (act q 1 Step).queue in
      go (both_answered q) (schedules a n) (schedules b n) (pairs a n) (pairs b n)
    where
      go : (b : Bool) (l m : List Schedule) → Pairwise S l → Pairwise S m → Pairwise S (cond b (ends 0 ∷ []) (through q 0 l ++ through q 1 m))
      go true l m o p = (tt, tt)
      go false l m o p =
          append_pairs (through q 0 l) (through q 1 m) (through-pairs q 0 l o) (through-pairs q 1 m p) (through_starts q 0 l) (through_starts q 1 m)

later : (t : ℕ) (g s : List ℕ) → precedes g s ≡ true → precedes (t ∷ g) (t ∷ s) ≡ true
unfolding precedes
later t g s h = rw (le-ltb t t (omega arith), eq-eqb t t refl, h) refl

sooner : (g s : List ℕ) → precedes (0 ∷ g) (1 ∷ s) ≡ true
unfolding precedes
sooner g s = refl

pub in_order : InOrder
in_order q n = pairs (λ g s. precedes g s ≡ true) later sooner q n

pub apart : Apart
apart q n =
    pairs (λ g s. (begins g s ≡ false) × (begins s g ≡ false)) (λ t g s h. rw (eq-eqb t t refl) h) (λ g s. (refl, refl)) q n
