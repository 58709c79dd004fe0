-- Each place plans what it asks; any other is refused.
use mathlib.Core.{Path.{refl, ap, ◌∙◌}, Logic.{inl, inr}}
use native.Mathlib.Omega.{arith}
use Rattle.threads.proofs.Split.Planned as asks
use Rattle.threads_model.specs.Split.{within}
use Rattle.threads.proofs.Split.Within as ok
use Rattle.touch.proofs.Tested.{plans_at_place, plans_row, plans_none, beyond}
use Rattle.touch.proofs.arms.Goals as goal

pub returns-in-0 : goal.returns-in-0
returns-in-0 c at pooled = let a = c.args in plans_none pooled a.slots a.r 31 (rw (at ∙ c.in-0.is)) refl _ c.into.ensures

pub returns-in-1 : goal.returns-in-1
returns-in-1 c at pooled =
    let a = c.args in
    elim c.in-1.is [
      | inl e ↦ plans_row pooled a.slots a.r 1 refl refl (at ∙ e) (ok.loaded pooled a.slots a.r (asks.plan1 pooled a.slots a.r) refl) _
          (c.into-in-1.ensures ∙ asks.plan1 pooled a.slots a.r)
      | inr f ↦ elim f [
        | inl e ↦ plans_row pooled a.slots a.r 6 refl refl (at ∙ e) (ok.loaded pooled a.slots a.r (asks.plan6 pooled a.slots a.r) refl) _
            (c.into-in-1.ensures ∙ asks.plan6 pooled a.slots a.r)
        | inr e ↦ plans_row pooled a.slots a.r 8 refl refl (at ∙ e) (ok.loaded pooled a.slots a.r (asks.plan8 pooled a.slots a.r) refl) _
            (c.into-in-1.ensures ∙ asks.plan8 pooled a.slots a.r)
      ]
    ]

pub returns-in-2 : goal.returns-in-2
returns-in-2 c at pooled =
    let a = c.args in
    plans_row pooled a.slots a.r 2 refl refl (at ∙ c.in-2.is) (ok.ok2 pooled a.slots a.r) _ (c.at2.ensures pooled)

pub returns-in-3 : goal.returns-in-3
returns-in-3 c at pooled =
    let a = c.args in
    plans_row pooled a.slots a.r 3 refl refl (at ∙ c.in-3.is) (ok.ok3 pooled a.slots a.r) _ (c.at3.ensures pooled)

pub returns-in-4 : goal.returns-in-4
returns-in-4 c at pooled =
    let a = c.args in
    plans_row pooled a.slots a.r 4 refl refl (at ∙ c.in-4.is) (ok.ok4 pooled a.slots a.r) _ (c.at4.ensures pooled)

pub returns-in-5 : goal.returns-in-5
returns-in-5 c at pooled =
    let a = c.args in
    plans_row pooled a.slots a.r 5 refl refl (at ∙ c.in-5.is) (ok.ok5 pooled a.slots a.r) _ (c.at5.ensures pooled)

pub returns-in-7 : goal.returns-in-7
returns-in-7 c at pooled =
    let a = c.args in
    plans_row pooled a.slots a.r 7 refl refl (at ∙ c.in-7.is) (ok.ok7 pooled a.slots a.r) _ (c.at7.ensures pooled)

pub returns-in-9 : goal.returns-in-9
returns-in-9 c at pooled =
    let a = c.args in
    plans_row pooled a.slots a.r 9 refl refl (at ∙ c.in-9.is) (ok.ok9 pooled a.slots a.r) _ (c.at9.ensures pooled)

pub returns-in-10 : goal.returns-in-10
returns-in-10 c at pooled =
    let a = c.args in
    plans_row pooled a.slots a.r 10 refl refl (at ∙ c.in-10.is) (ok.ok10 pooled a.slots a.r) _ (c.at10.ensures pooled)

pub returns-in-11 : goal.returns-in-11
returns-in-11 c at pooled =
    let a = c.args in
    plans_row pooled a.slots a.r 11 refl refl (at ∙ c.in-11.is) (ok.ok11 pooled a.slots a.r) _ (c.at11.ensures pooled)

pub returns-in-12 : goal.returns-in-12
returns-in-12 c at pooled =
    let a = c.args in
    elim c.in-12.is [
      | inl e ↦ plans_row pooled a.slots a.r 12 refl refl (at ∙ e) (ok.loaded pooled a.slots a.r (asks.plan12 pooled a.slots a.r) refl) _
          (c.into-in-12.ensures ∙ asks.plan12 pooled a.slots a.r)
      | inr e ↦ plans_row pooled a.slots a.r 15 refl refl (at ∙ e) (ok.loaded pooled a.slots a.r (asks.plan15 pooled a.slots a.r) refl) _
          (c.into-in-12.ensures ∙ asks.plan15 pooled a.slots a.r)
    ]

pub returns-in-13 : goal.returns-in-13
returns-in-13 c at pooled =
    let a = c.args in
    plans_at_place pooled a.slots a.r 13 refl refl (at ∙ c.in-13.is) _ (c.within.ensures ∙ ap (within a.slots) (c.at13.ensures pooled))

pub returns-in-14 : goal.returns-in-14
returns-in-14 c at pooled =
    let a = c.args in
    plans_at_place pooled a.slots a.r 14 refl refl (at ∙ c.in-14.is) _ (c.within-in-14.ensures ∙ ap (within a.slots) (c.at14.ensures pooled))

pub returns-in-16 : goal.returns-in-16
returns-in-16 c at pooled =
    let a = c.args in
    plans_at_place pooled a.slots a.r 16 refl refl (at ∙ c.in-16.is) _ (c.within-in-16.ensures ∙ ap (within a.slots) (c.at16.ensures pooled))

pub returns-in-17 : goal.returns-in-17
returns-in-17 c at pooled =
    let a = c.args in
    plans_row pooled a.slots a.r 17 refl refl (at ∙ c.in-17.is) (ok.ok17 pooled a.slots a.r) _ (c.at17.ensures pooled)

pub returns-in_default : goal.returns-in_default
returns-in_default c at pooled =
    let a = c.args in
    plans_none pooled a.slots a.r 34 (beyond a.r a.place at (grind arith)) refl _ c.into-in_default.ensures
