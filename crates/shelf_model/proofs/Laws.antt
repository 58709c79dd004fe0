-- A refusal changes nothing, the other shelves stay, a return gives back what was saved.
use mathlib.Core.Path.{◌≡◌, ◌∙◌, ap, sym}
use Prim.Native.Nat.{ℕ}
use lib.Dec.{eqb}
use borrow.Author.Tests.{eq-eqb, eqb-true, ne_eqb}
use Rattle.model.{specs.{Tables.Queue, History.run}, proofs.Tests.Truth.split}
use Rattle.shelf_model.specs.{Cut.cut, Laws.{BeyondIgnored, OthersKept, RefusalKeeps, RoundTrip}}
use Rattle.shelf_model.specs.Shelves.{Shelves, copied, return_refusal, returned, save_refusal, saved, shelf_at}
use Rattle.shelf_model.proofs.{CutCalls.run-cut, Copied.{cut-copied, shelf_other, shelf_same}}
use Rattle.shelf_model.proofs.Accepted.{return_fits, save_fits}

pub refusal-keeps : RefusalKeeps
unfolding saved returned
refusal-keeps q s n = (λ d. rw (ne_eqb (save_refusal q s n) 0 d), λ d. rw (ne_eqb (return_refusal q s n) 0 d))

pub others-kept : OthersKept
unfolding saved
others-kept q s n m h d = split (eqb (save_refusal q s n) 0)
    (λ e. let f = save_fits q s n (eqb-true _ _ e) in rw e (shelf_other q s n f.low f.here f.there f.eight m h d))
    (λ e. rw e)

-- What a saving puts on its shelf.
saved-is : (q : Queue) (s : Shelves) (n : ℕ) → save_refusal q s n ≡ 0 → shelf_at (saved q s n) n ≡ copied q (shelf_at s n)
unfolding saved
saved-is q s n e =
    let f = save_fits q s n e in
    rw (eq-eqb _ _ e) (shelf_same q s n f.low f.here f.there f.eight)

returned-is : (p : Queue) (s : Shelves) (n : ℕ) → return_refusal p s n ≡ 0 → returned p s n ≡ copied (shelf_at s n) p
unfolding returned
returned-is p s n e = rw (eq-eqb _ _ e)

pub round_trip : RoundTrip
round_trip q p s n e f =
    let t = saved q s n in
    ap cut (returned-is p t n f)
    ∙ cut-copied (shelf_at t n) p (return_fits p t n f).there
    ∙ ap cut (saved-is q s n e)
    ∙ cut-copied q (shelf_at s n) (save_fits q s n e).here

pub beyond_ignored : BeyondIgnored
beyond_ignored q p os e = sym (run-cut os q) ∙ ap (λ (x : Queue). run x os) e ∙ run-cut os p
