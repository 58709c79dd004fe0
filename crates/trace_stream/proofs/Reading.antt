-- What a round leaves, as the definitions have it.
use Prim.Native.Nat.{ℕ, ◌-◌, ◌<◌, ◌≤◌}
use mathlib.Core.{Path.{◌≡◌, refl, sym, ap, ◌∙◌}, Bool.{Bool, true, false}, List.{List, [], ◌++◌}}
use native.Mathlib.Omega.{arith}
use Rattle.std.proofs.Common.{Result, Ok, Err, OnOk}
use Rattle.std.specs.Result.{is_ok}
use Rattle.model.proofs.Tests.Truth.{not_both}
use lib.{Dec.leb, ListN.{length, take, drop, take-append-drop}, Seq.{slice, take-take, length-slice}}
use borrow.Author.Tests.{le-leb, lt-leb}
use Rattle.runfile.specs.Field.{longest_field}
use Rattle.trace_field.specs.{Page.{Page, page_of, field_room}, declared.RunState.RunState}
use Rattle.trace_field.proofs.Pages.{cond-true, cond-false}
use Rattle.trace_replay.specs.{Trace.fresh, Feed.{Zeros, Begins}}
use Rattle.trace_replay.specs.Pieces.{from_start, pages_of, begun, after_pieces, last_page, round_page, Gone}
use Rattle.trace_replay.proofs.{PageLoop.{Stands, round_stands, round_gone}, Remainder.stands-leaves}
use Rattle.trace_stream.specs.Round.{Goes, Ended}

never : {P : Type 0} → ◌≡◌ {A = Bool} true false → P
never z = absurd (not_both refl z)

-- What is promised of an answer that is `Ok`.
pub on_ok : {T E P : Type 0} (r : Result T E) → true ≡ is_ok r → OnOk r P → P
on_ok (Ok x) e h = h
on_ok (Err x) e h = never e

-- What was left stands before what was read: of b the bytes of the input that were left, and `full` with those that were read.
all_read : (b input : List ℕ) (full : ℕ) → take (length b) input ≡ b → length b ≤ full → b ++ slice (length b) full input ≡ take full input
all_read b input full e h =
    ap (λ (l : List ℕ). l ++ slice (length b) full input) (sym e ∙ sym (take-take (length b) full input h))
    ∙ take-append-drop (length b) (take full input)

-- A piece taken: the bytes of `old` from `at` to `have` were left, and x is the page after those and what was read.
module _ (old input : List ℕ) (at have full : ℕ) (fits : have ≤ length old) (front : take (have - at) input ≡ slice at have old)
    (order : have - at < full) (within : full ≤ length input)
    (p x : Page) (taken : x ≡ (pages_of (take full input) (from_start p)).page) where
  abbrev b : List ℕ
  b = slice at have old

  as_many : length b ≡ have - at
  as_many = length-slice at have old fits

  more : length b < full
  more = let n = as_many in omega (arith, n, order)

  page : x ≡ round_page b (slice (length b) full input) p
  unfolding round_page
  page =
      let c = slice (length b) full input in
      let m = more in
      let some : 0 < length c = omega (arith, length-slice (length b) full input within, m) in
      taken ∙ ap (λ (l : List ℕ). (pages_of l (from_start p)).page) (sym (all_read b input full (rw as_many front) (omega (arith, m))))
      ∙ sym (cond-false (leb (length c) 0) _ _ (lt-leb _ _ some))

  pub piece_ends : x.run.over ≡ true → Ended b input p x full
  piece_ends over = let m = more in record { left = omega (arith, m); within = within; page = page; over = λ some. over }

  pub piece_goes : x.run.over ≡ false → Goes b input p x full
  piece_goes on = record { more = more; within = within; page = page; on = on }

-- The end of the input: nothing was read behind the bytes that were left.
pub end_round : (b input : List ℕ) (left full : ℕ) (p x : Page) → left ≡ length b → full ≡ left → full ≤ length input → x ≡ last_page left p
    → Ended b input p x full
unfolding round_page
end_round b input left full p x e same within h =
    let c = slice (length b) full input in
    let none : length c ≤ 0 = omega (arith, length-slice (length b) full input within, e, same) in
    record {
      left = omega (arith, e, same);
      within = within;
      page = h ∙ ap (λ (n : ℕ). last_page n p) e ∙ sym (cond-true (leb (length c) 0) _ _ (le-leb _ _ none));
      over = λ some. absurd (omega (arith, e, same, some));
    }

-- A run before its first read.
pub first-stands : (s : RunState) (before after : List ℕ) (rows : List (List ℕ)) (ls rs bs ms ns rest : List ℕ) → Zeros rows ls rs bs ms ns
    → Begins before after s → rest ≡ [] → Stands before (page_of s after rows ls rs bs ms ns) rest
unfolding after_pieces begun fresh
first-stands s before after rows ls rs bs ms ns rest z b e =
    record { pieces = []; page = rw (z.0, z.1, z.2, z.3, z.4, z.5) b; left = e }

-- A run after one: it goes on, or has gone to its end.
module _ (out : List ℕ) (p p' : Page) (b : List ℕ) (s : Stands out p b) where
  pub round_ends : (input : List ℕ) (full : ℕ) → Ended b input p p' full → Gone out p'
  round_ends input full g =
      let c = slice (length b) full input in
      round_gone out p p' b c s g.page (λ some. g.over (omega (arith, some, length-slice (length b) full input g.within)))

  module _ (input : List ℕ) (e : take (length b) input ≡ b) (full : ℕ) (g : Goes b input p p' full) where
    pub round_on : Stands out p' (slice p'.at full input)
    round_on =
        let c = slice (length b) full input in
        let some : 0 < length c = omega (arith, length-slice (length b) full input g.within, g.more) in
        let next = round_stands out p p' b c s g.page some in
        record {
          pieces = next.pieces;
          page = next.page;
          left = ap (drop p'.at) (sym (all_read b input full e (omega (arith, g.more)))) ∙ next.left;
        }

    -- Then less than a field is left, so the next read has room behind it.
    pub round_leaves : field_room ≤ length out → full - p'.at < longest_field
    round_leaves room =
        let less = stands-leaves out p' (slice p'.at full input) room round_on g.on in
        omega (arith, less, length-slice p'.at full input g.within)
