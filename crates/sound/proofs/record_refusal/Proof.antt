-- Beyond 10, idle, or at 1 to 10.
use mathlib.Core.Path.{◌≡◌, sym, ◌∙◌}
use Prim.Native.Nat.{ℕ, ◌<◌}
use native.Mathlib.Omega.{arith}
use Rattle.sound.proofs.{DequePlaces.deque-places, SlotPlaces.slot_places, Refused.{no_call, unsound, passes}}
use Rattle.sound.proofs.record_refusal.Statement.{statement}
use Rattle.sound.proofs.record_refusal.Tie as tie

some : {n : ℕ} → (n ≡ 0 → ⊥) → 0 < n
some busy = omega arith

beyond : {n : ℕ} → 10 < n → n ≡ 0 → ⊥
beyond h z = omega arith

returns : tie.Need-returns-then-slot_sound
returns c =
    let h = c.before.before.if-r-gt10.true in
    sym (passes _ _ _ (beyond h) (sym (slot_places _ _ _ h) ∙ sym c.before.slot_sound.ensures ∙ c.if-slot_sound.true))

returns-2 : tie.Need-returns-then-r-gt10
returns-2 c = unsound _ _ _ (sym (slot_places _ _ _ c.before.before.if-r-gt10.true) ∙ sym c.before.slot_sound.ensures ∙ c.if-slot_sound.false)

returns-3 : tie.Need-returns-then-r-eq0
returns-3 c = no_call _ _ _ c.if-r-eq0.true

returns-4 : tie.Need-returns-then-deque_sound
returns-4 c =
    let told = c.before in
    let busy = told.before.if-r-eq0.false in
    sym (passes _ _ _ busy (sym (deque-places _ _ told.before.before.before.if-r-gt10.false _ (some busy)) ∙ sym told.deque_sound.ensures ∙ c.if-deque_sound.true))

returns-5 : tie.Need-returns
returns-5 c =
    let told = c.before in
    let busy = told.before.if-r-eq0.false in
    unsound _ _ _ (sym (deque-places _ _ told.before.before.before.if-r-gt10.false _ (some busy)) ∙ sym told.deque_sound.ensures ∙ c.if-deque_sound.false)

pub record_refusal_spec : {M : Type 1} → statement M
record_refusal_spec = tie.close (tie.spec (λ _ _. tt) returns returns-2 returns-3 (λ _ _. tt) returns-4 returns-5)
