-- The slots of a list of entries.
use mathlib.Core.{Bool.{Bool, false, true}, List.{List, [], ◌∷◌, map, reverse_aux}, Path.{◌∙◌, ◌≡◌, ap, refl}}
use Prim.Native.Nat.{ℕ}
use Rattle.model.specs.{declared.Entry.Entry, Lists.All}
use Rattle.model.proofs.Lists.Deque.{put, rest, seen, took}

abbrev pub slots : List Entry → List ℕ
slots q = map (λ (e : Entry). e.slot) q

pub map_seen : (d : Bool) (q : List Entry) → slots (seen d q) ≡ seen d (slots q)
map_seen false q = refl
map_seen true q = go q []
  where
    go : (p r : List Entry) → slots (reverse_aux p r) ≡ reverse_aux (slots p) (slots r)
    go [] r = refl
    go (x ∷ p) r = go p (x ∷ r)

pub slots-put : (d : Bool) (e : Entry) (q : List Entry) → slots (put d e q) ≡ put d e.slot (slots q)
unfolding put
slots-put d e q = map_seen d (e ∷ seen d q) ∙ ap (λ (l : List ℕ). seen d (e.slot ∷ l)) (map_seen d q)

pub slots_took : (d : Bool) (q : List Entry) → slots (took d q) ≡ took d (slots q)
unfolding took
slots_took d q = map_seen d (rest (seen d q)) ∙ ap (λ (l : List ℕ). seen d l) (slots-rest (seen d q) ∙ ap (λ (l : List ℕ). rest l) (map_seen d q))
  where
    slots-rest : (l : List Entry) → slots (rest l) ≡ rest (slots l)
    slots-rest [] = refl
    slots-rest (x ∷ l) = refl

pub slots_nil : (q : List Entry) → slots q ≡ [] → q ≡ []
slots_nil [] e = refl
slots_nil (x ∷ q) e = cc

pub all_slots : (P : ℕ → Type 0) (q : List Entry) → All P (slots q) → All (λ (e : Entry). P e.slot) q
all_slots P [] c = tt
all_slots P (e ∷ q) c = (c.0, all_slots P q c.1)
