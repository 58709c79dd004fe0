-- What a place touches lies within the rows, and a link word that it writes is sound.
use mathlib.Core.{Bool.{Bool, true}, Path.◌≡◌}
use Prim.Native.Nat.{◌%◌, ◌*◌, ◌+◌, ◌/◌, ◌<◌, ◌^◌, ◌≤◌, ℕ}
use native.Mathlib.Omega.{arith}
use lib.Dec.{eqb}
use Rattle.word.specs.Link.{link_of, pack_link}
use Rattle.model.specs.{Places.{end_seen, link_side, move, row, set_link, side_of}, Kinds.is_push}
use Rattle.model.specs.declared.{Control.Control, Call.Call}
use Rattle.model.proofs.Tests.Truth.{by_test, either, split}
use Rattle.model.proofs.Bridge.{ByMove.by_move, Facts.RecordFine, Stores.{TouchFine, WordFine}}

-- A packed link word is sound.
pub word_fine : (slots t n : ℕ) → n ≤ slots → n < 2 ^ 15 → WordFine slots (pack_link (record { tag = t; slot = n }))
word_fine slots t n g s =
    let p : (t % 4294967296 * 4294967296 + n % 32768) / 32768 % 131072 ≡ 0 = omega arith in
    let o : (t % 4294967296 * 4294967296 + n % 32768) % 32768 ≤ slots = omega arith in
    let u : (t % 4294967296 * 4294967296 + n % 32768) / 4294967296 < 4294967296 = omega arith in
    (p, o, u)

module _ (pooled : Bool) (slots : ℕ) (r : Call) (h : RecordFine pooled slots r) where
  end_fine : end_seen r ≤ slots
  end_fine = by_test (λ v. v ≤ slots) (eqb (side_of r) 1) (λ e. h.seen.right) (λ e. h.seen.left)

  end_small : end_seen r < 2 ^ 15
  end_small = by_test (λ v. v < 2 ^ 15) (eqb (side_of r) 1) (λ e. omega arith) (λ e. omega arith)

  pub row_fine : row r ≤ slots
  unfolding row
  row_fine =
      either (λ v. v ≤ slots) (eqb r.place 3) (either (λ v. v ≤ slots) (is_push r) h.own end_fine)
      (either (λ v. v ≤ slots) (eqb r.place 5) end_fine
      (either (λ v. v ≤ slots) (eqb r.place 7) h.neighbour
      (either (λ v. v ≤ slots) (eqb r.place 9) h.neighbour
      (either (λ v. v ≤ slots) (eqb r.place 11) end_fine
      (either (λ v. v ≤ slots) (eqb r.place 13) h.link
      (either (λ v. v ≤ slots) (eqb r.place 14) h.link
      (either (λ v. v ≤ slots) (eqb r.place 16) h.own
      (either (λ v. v ≤ slots) (eqb r.place 17) h.own (omega arith)))))))))

  link-touch : (t : ℕ) → TouchFine pooled slots (set_link (link_side r) (row r) (pack_link (record { tag = t; slot = end_seen r })))
  link-touch t = (row_fine, word_fine slots t (end_seen r) end_fine end_small)

  -- Only a pooled queue has places beyond 11.
  pub beyond : 12 ≤ r.place → pooled ≡ true
  beyond l = split pooled (λ e. e) (λ e. absurd (let z = h.named e in omega arith))

  pub move_fine : slots ≤ 1023 → (c : Control) (w : ℕ) → TouchFine pooled slots (move c r w).touch
  move_fine low c w = by_move c w (λ t _. TouchFine pooled slots t) r (record {
    same = tt;
    read = tt;
    found = λ e. tt;
    met = λ e. tt;
    two = tt;
    four_push = tt;
    four_pop = tt;
    ten = tt;
    three = link-touch (link_of w).tag;
    nine = link-touch ((link_of r.link).tag + 1);
    eleven = λ e. row_fine;
    keeps = λ e. row_fine;
    head = λ e. tt;
    next = λ e. tt;
    draws = λ e. (beyond (omega arith), row_fine, word_fine slots _ r.neighbour h.neighbour (omega (arith, h.neighbour)));
    links = λ e. (beyond (omega arith), row_fine, h.link);
    gives = λ e. word_fine slots _ r.own h.own (omega (arith, h.own));
  })
