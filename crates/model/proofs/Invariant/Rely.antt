-- What a step of one task leaves to another, u: its own slots, links' tags that only grow, an Anchor that is kept or has turned
-- to a higher tag, which it does only when the link back is made, and a head of the stack that is kept or has a higher tag.
use mathlib.Core.{Bool.{Bool, not}, Logic.◌⊎◌, Path.◌≡◌}
use Prim.Native.Nat.{◌<◌, ◌≤◌, ℕ}
use Rattle.model.proofs.Machine.Machine.{Shared, Status, pushing, stable, tip}
use Rattle.model.proofs.Invariant.{Owners.{Owner, held, queued}, Shape.Made}

abbrev pub Faces : Status → Bool → Type 0
Faces st e = (st ≡ stable) ⊎ (st ≡ pushing e)

pub record Quiet (s s' : Shared) : Type 0 where
  pub kept : s'.anchor ≡ s.anchor
  pub inward : (e : Bool) → Faces s.anchor.status e → s'.link (not e) (tip s.anchor e) ≡ s.link (not e) (tip s.anchor e)
  pub made : (e : Bool) → s.anchor.status ≡ pushing e → Made s.link s.anchor e → Made s'.link s.anchor e

pub record Turned (s s' : Shared) : Type 0 where
  pub later : s.anchor.tag < s'.anchor.tag
  pub closed : (e : Bool) → s.anchor.status ≡ pushing e → Made s.link s.anchor e

pub record Spared (s s' : Shared) (h' : ℕ → Owner) (u x : ℕ) : Type 0 where
  pub owner : h' x ≡ held u
  pub label : s'.label x ≡ s.label x
  pub links : (e : Bool) → s'.link e x ≡ s.link e x
  pub next : s'.next x ≡ s.next x

-- The head is the same word, with the same slot after its own; or its tag has grown.
pub record Stacked (s s' : Shared) : Type 0 where
  pub pooled : s'.pooled ≡ s.pooled
  pub head : ((s'.head ≡ s.head) × (s'.next s.head.slot ≡ s.next s.head.slot)) ⊎ (s.head.tag < s'.head.tag)

pub record Rely (u : ℕ) (s : Shared) (h : ℕ → Owner) (s' : Shared) (h' : ℕ → Owner) : Type 0 where
  pub spared : (x : ℕ) → h x ≡ held u → Spared s s' h' u x
  pub back : (x : ℕ) → h' x ≡ held u → h x ≡ held u
  pub tags : (e : Bool) (y : ℕ) → (s.link e y).tag ≤ (s'.link e y).tag
  pub words : (e : Bool) (y : ℕ) → h y ≡ queued → (s'.link e y ≡ s.link e y) ⊎ ((s.link e y).tag < (s'.link e y).tag)
  pub anchor : Quiet s s' ⊎ Turned s s'
  pub stack : Stacked s s'
