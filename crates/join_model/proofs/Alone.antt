-- A push at the right by a task alone, place by place: what a step leaves of tables and record.
use mathlib.Core.{Path.{◌≡◌, refl}, Bool.{true, false}}
use Prim.Native.Nat.{ℕ, ◌+◌}
use native.Mathlib.Omega.{arith}
use lib.{Dec.{eqb, leb, ltb}, ListN.get_or}
use borrow.Author.Tests.{eq-eqb, le-leb}
use Rattle.word.specs.{declared.Anchor.Anchor, Anchor.{anchor_of, pack_anchor}, Link.{link_of, pack_link}}
use Rattle.model.specs.Outcomes.{Moved}
use Rattle.model.specs.declared.{Record.Record, Answer.TheVariants.{Running, Pushed}}
use Rattle.model.specs.Tables.{Tables, is_pooled, idle, with_anchor, with_seen, with_neighbour, new_call, counting}
use Rattle.model.specs.Sound.{from1, anchor_sound, link_sound, control_sound, record_sound, rows_fit}
use Rattle.model.specs.Places.{side_of, row, link_side, move, reading, at1, at2, at3, new4, at4, at5, at6, at7, at9, at10}
use Rattle.model.specs.{Places.{set_link, apply}, Route.{push_route, route, onward, answer, goes, counted}}
use Rattle.model.specs.{Refusals.{step_refusal, step_sound}, Calls.{Acted, step, finish, step_lent}}

-- The record of a push at the right, with its task's count: no change of a task alone fails.
abbrev pub at : ℕ → ℕ → ℕ → ℕ → ℕ → ℕ → ℕ → Record
at retries place own label seen neighbour finishing =
    counting (with_neighbour (with_seen (new_call place 0 1 own label) seen finishing) neighbour) retries

-- What every step of it relies on, with word as its Anchor as read.
pub record Able (t : Tables) (own word : ℕ) : Type 0 where
  pub control : control_sound t.control ≡ true
  pub named : is_pooled t.control ≡ false
  pub rows : rows_fit false t.control.slots t ≡ true
  pub low : leb 1 own ≡ true
  pub high : leb own t.control.slots ≡ true
  pub seen : anchor_sound t.control.slots (anchor_of word) ≡ true

abbrev pub runs : Tables → Record → ℕ → Acted
runs t r p = record { tables = t; task = r; outcome = Moved (Running p) }

abbrev pub ends : Tables → ℕ → Acted
ends t retries = record { tables = t; task = record { call = idle; retries = retries }; outcome = Moved Pushed }

null : (n : ℕ) → leb 0 n ≡ true
null n = le-leb 0 n (omega arith)

same : (n : ℕ) → eqb n n ≡ true
same n = eq-eqb n n refl

module _ (t : Tables) (retries own label word : ℕ) (a : Able t own word) where
  abbrev slots : ℕ
  slots = t.control.slots

  abbrev seen : Anchor
  seen = anchor_of word

  module _ (w : word ≡ t.control.anchor) where
    -- Place 1 on a queue that is not empty, and STABLE.
    pub step1 : eqb seen.left 0 ≡ false → eqb seen.status 0 ≡ true
        → step_lent t (at retries 1 own label 0 0 0) ≡ runs t (at retries 3 own label word 0 0) 3
    unfolding step_lent step step_refusal step_sound finish move at1 reading record_sound anchor_sound link_sound route push_route onward answer goes counted row
    step1 l s = rw (a.control, a.named, a.rows, a.low, a.high, null slots, ← w, l, s)

    -- Places 1 and 2 on the empty queue.
    pub step1_empty : eqb seen.left 0 ≡ true → eqb seen.right 0 ≡ true
        → step_lent t (at retries 1 own label 0 0 0) ≡ runs t (at retries 2 own label word 0 0) 2
    unfolding step_lent step step_refusal step_sound finish move at1 reading record_sound anchor_sound link_sound route push_route onward answer goes counted row
    step1_empty l r = rw (a.control, a.named, a.rows, a.low, a.high, null slots, ← w, l, r)

    pub step2 : (new : ℕ) → pack_anchor (record { tag = seen.tag + 1; status = seen.status; left = own; right = own }) ≡ new
        → anchor_sound slots (anchor_of new) ≡ true → ltb seen.tag 4294967295 ≡ true
        → step_lent t (at retries 2 own label word 0 0) ≡ ends (with_anchor t new) retries
    unfolding step_lent step step_refusal step_sound finish move at2 record_sound link_sound route push_route onward answer goes counted row side_of
    step2 new p s r = rw (a.control, a.named, a.rows, a.low, a.high, null slots, a.seen, ← w, same word, p, s, r)

    -- Place 4.
    pub step4 : (new : ℕ) → pack_anchor (record { tag = seen.tag + 1; status = 1; left = seen.left; right = own }) ≡ new
        → anchor_sound slots (anchor_of new) ≡ true → ltb seen.tag 4294967295 ≡ true
        → step_lent t (at retries 4 own label word 0 0) ≡ runs (with_anchor t new) (at retries 5 own label new 0 1) 5
    unfolding step_lent step step_refusal step_sound finish move at4 new4 record_sound link_sound route push_route onward answer goes counted row side_of
    step4 new p s r = rw (a.control, a.named, a.rows, a.low, a.high, null slots, a.seen, ← w, same word, p, s, r)

    module _ (neighbour : ℕ) (n : leb neighbour slots ≡ true) (helps : seen.status ≡ 1) where
      -- Places 6 and 8.
      pub step6 : step_lent t (at retries 6 own label word neighbour 1) ≡ runs t (at retries 7 own label word neighbour 1) 7
      unfolding step_lent step step_refusal step_sound finish move at6 record_sound link_sound route push_route onward answer goes counted row side_of
      step6 = rw (a.control, a.named, a.rows, a.low, a.high, null slots, a.seen, helps, n, ← w, same word)

      pub step8 : step_lent t (at retries 8 own label word neighbour 1) ≡ runs t (at retries 9 own label word neighbour 1) 9
      unfolding step_lent step step_refusal step_sound finish move at6 record_sound link_sound route push_route onward answer goes counted row side_of
      step8 = rw (a.control, a.named, a.rows, a.low, a.high, null slots, a.seen, helps, n, ← w, same word)

      pub step10 : (new : ℕ) → pack_anchor (record { tag = seen.tag + 1; status = 0; left = seen.left; right = seen.right }) ≡ new
          → anchor_sound slots (anchor_of new) ≡ true → ltb seen.tag 4294967295 ≡ true
          → step_lent t (at retries 10 own label word neighbour 1) ≡ ends (with_anchor t new) retries
      unfolding step_lent step step_refusal step_sound finish move at10 record_sound link_sound route push_route onward answer goes counted row side_of
      step10 new p s r = rw (a.control, a.named, a.rows, a.low, a.high, null slots, a.seen, p, helps, n, ← w, same word, s, r)

  -- Place 3: the own slot's Left was 0, and names the right end now.
  pub step3 : (end : ℕ) → pack_link (record { tag = 0; slot = seen.right }) ≡ end → get_or t.lefts own 0 ≡ 0
      → step_lent t (at retries 3 own label word 0 0) ≡ runs (apply (set_link 0 own end) t) (at retries 4 own label word 0 0) 4
  unfolding step_lent step step_refusal step_sound finish move at3 record_sound link_sound route push_route onward answer goes counted row link_side side_of
  step3 end p l = rw (a.control, a.named, a.rows, a.low, a.high, null slots, a.seen, l, p, null slots)

  module _ (neighbour : ℕ) (helps : seen.status ≡ 1) (mine : seen.right ≡ own) where
    -- Place 5: it names the neighbour.
    pub step5 : get_or t.lefts own 0 ≡ neighbour → link_sound slots neighbour ≡ true → (link_of neighbour).slot ≡ neighbour
        → step_lent t (at retries 5 own label word 0 1) ≡ runs t (at retries 6 own label word neighbour 1) 6
    unfolding step_lent step step_refusal step_sound finish move at5 record_sound link_sound route push_route onward answer goes counted row link_side side_of
    step5 l s e = rw (a.control, a.named, a.rows, a.low, a.high, null slots, a.seen, helps, mine, l, s, e, a.low, a.high)

    module _ (n : from1 slots neighbour ≡ true) (h : leb neighbour slots ≡ true) (r : get_or t.rights neighbour 0 ≡ 0) where
      -- Places 7 and 9: the neighbour's Right was 0, and names the own slot now.
      pub step7 : eqb 0 own ≡ false → step_lent t (at retries 7 own label word neighbour 1) ≡ runs t (at retries 8 own label word neighbour 1) 8
      unfolding step_lent step step_refusal step_sound finish move at7 record_sound link_sound route push_route onward answer goes counted row link_side side_of
      step7 e = rw (a.control, a.named, a.rows, a.low, a.high, null slots, a.seen, helps, mine, r, n, h, e, null slots)

      pub step9 : step_lent t (at retries 9 own label word neighbour 1)
          ≡ runs (apply (set_link 1 neighbour (pack_link (record { tag = 1; slot = own }))) t) (at retries 10 own label word neighbour 1) 10
      unfolding step_lent step step_refusal step_sound finish move at9 record_sound link_sound route push_route onward answer goes counted row link_side side_of
      step9 = rw (a.control, a.named, a.rows, a.low, a.high, null slots, a.seen, helps, mine, r, n, h)
