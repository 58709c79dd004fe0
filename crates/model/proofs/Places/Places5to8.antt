-- Places 5 to 8: a helping task reads the neighbour and its link, and looks at Anchor before and after.
-- Place 8 allows the change of place 9: Anchor was current after the link was read.
use mathlib.Core.{List.List, Logic.inl, Path.{◌∙◌, ap, refl}}
use Prim.Native.Nat.{ℕ}
use lib.Dec.{eqb}
use borrow.Author.Tests.{eqb-false, eqb-true}
use Rattle.model.specs.declared.Entry.{Entry}
use Rattle.model.proofs.{Tests.Truth.by_test, Machine.{Book.BookCall, Laws.same_true}}
use Rattle.model.proofs.Machine.Machine.{Rec, Shared, act, at5, at6, at7, at8, leave, none, same, tip}
use Rattle.model.proofs.Invariant.{Owners.{Owner, Intact}, Tasks.{At8, Helps, At9, Task, way}}
use Rattle.model.proofs.Places.Shown.{Shown, leaves, rely_refl, still}

module _ (t : ℕ) (s : Shared) (h : ℕ → Owner) (q : List Entry) (c : BookCall) (all : Intact s h q) (r : Rec) where
  pub away : Helps s.label s.anchor h t r.finishing r.kind r.side r.own r.label r.read c → Shown t s h q c (leave none r)
  away w = leaves none r refl refl (λ x. refl) all (λ u n. rely_refl u) w.stage

  pub place5 : Task at5 s h t r c → Shown t s h q c (act at5 s r)
  place5 w = still refl all (w, λ e. refl)

  pub place6 : Task at6 s h t r c → Shown t s h q c (act at6 s r)
  place6 w = by_test (Shown t s h q c) (same r.read s.anchor) (λ e. still refl all w) (λ e. away w.0)

  pub place7 : Task at7 s h t r c → Shown t s h q c (act at7 s r)
  place7 w =
      let e = way r.read in
      let v = s.link e r.near in
      by_test (Shown t s h q c) (eqb v.slot (tip r.read e))
      (λ g. still refl all (w.0, λ p. ap (λ (n : ℕ). (s.link e n).slot) (w.1 p) ∙ eqb-true v.slot (tip r.read e) g))
      (λ g. let eighth : At8 s r.read r.near v = record
      { other = eqb-false v.slot (tip r.read e) g; near = w.1; fresh = λ p. inl refl } in still refl all (w.0, eighth))

  pub place8 : Task at8 s h t r c → Shown t s h q c (act at8 s r)
  place8 w = by_test (Shown t s h q c) (same r.read s.anchor)
      (λ e. let p = same_true r.read s.anchor e in
      let live9 : At9 s r.read r.near r.link = record
      { other = w.1.other; chance = inl (record { current = p; near = w.1.near p; fresh = w.1.fresh p }) } in
      still refl all (w.0, live9))
      (λ e. away w.0)
