-- What lies behind the numbers kept stays as it was.
use mathlib.Core.{List.List, Path.{refl, sym, ap, ◌∙◌, ◌≡◌}}
use Rattle.std.proofs.Common.{ℕ, ◌+◌, ◌-◌, arith}
use lib.{ListN.{drop}, Seq.{drop-drop}}
use Rattle.historyfile.specs.{Buffer.{Written}}

pub unwritten : (n : ℕ) (l : List ℕ) → Written n n l l
unwritten n l = record { onward = omega arith; rest = refl }

pub then_written : (a b c : ℕ) (l l' l'' : List ℕ) → Written a b l l' → Written b c l' l'' → Written a c l l''
then_written a b c l l' l'' v w =
    let h = v.onward in
    let k = w.onward in
    let e : b + (c - b) ≡ c = omega arith in
    let further : (x : List ℕ) → drop (c - b) (drop b x) ≡ drop c x = λ x. drop-drop (c - b) b x ∙ ap (λ (n : ℕ). drop n x) e in
    record { onward = omega arith; rest = w.rest ∙ sym (further l') ∙ ap (drop (c - b)) v.rest ∙ further l }
