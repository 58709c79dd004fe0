-- The route's entries, and why only places 11 and 17 name an entry in their answer.
use mathlib.Core.{Path.◌≡◌, List.List, Bool.{Bool, false, ◌&&◌}}
use Prim.Native.Nat.{ℕ}
use lib.{Dec.eqb, ListN.get_or}
use Rattle.word.specs.declared.Anchor.{Anchor}
use Rattle.model.specs.{declared.{Control.Control, Call.Call, Entry.Entry}, Places.reading, Sides.is_empty}
use Rattle.model.{specs.Route.{route, popped, leave, onward, answer}, proofs.Tests.Truth.split}
use Rattle.decide.specs.Ending.{settled, no_entry}

-- What holds of a route for a push and for a pop holds for every kind.
pub kinds : (P : ℕ → Type 0) (place kind outcome : ℕ) → P (route place 0 outcome) → P (route place 1 outcome) → P (route place kind outcome)
unfolding route
kinds P place kind outcome push pop = split (eqb kind 0) (λ h. rw h push) (λ h. rw h pop)

-- What holds of each outcome of place 1.
pub readings : (P : ℕ → Type 0) (pop : Bool) (a : Anchor) → P 0 → P 1 → P 2 → P 3 → P (reading pop a)
unfolding reading
readings P pop a empty single stable unstable =
    split (is_empty a) (λ e. rw e empty)
    (λ e. split (pop && eqb a.left a.right) (λ o. rw (e, o) single)
    (λ o. split (eqb a.status 0) (λ s. rw (e, o, s) stable) (λ s. rw (e, o, s) unstable)))

-- A route that does not lead to the answer popped.
abbrev pub Quiet : ℕ → Type 0
Quiet n = eqb n popped ≡ false

-- The entry that the model's answer would name at the places that touch slot x.
abbrev pub entry : ℕ → List ℕ → Entry
entry x labels = record { slot = x; label = get_or labels x 0 }

-- A step that pops nothing answers the same for every entry.
pub quietly : (c : Control) (t : Call) (n : ℕ) (e : Entry) → Quiet n → settled c t n no_entry ≡ settled c t n e
unfolding settled onward answer
quietly c t n e h =
    split (eqb n leave)
    (λ leaves. split (eqb t.finishing 1) (λ f. simp (leaves, f)) (λ f. simp (leaves, f)))
    (λ stays. simp (stays, h))
