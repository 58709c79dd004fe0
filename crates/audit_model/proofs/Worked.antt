-- A worked history: a label pushed, then two pops of it at once; the later pop gets it. And one of a pooled queue with a single slot.
use mathlib.Core.{Path.{◌≡◌, refl}, List.{List, [], ◌∷◌, ◌++◌, map}}
use Prim.Native.Nat.{ℕ, zero, suc, ◌+◌, ◌*◌}
use lib.ListN.{replicate}
use Rattle.model.specs.{declared.Op.TheVariants.{Push, Pop, PushPooled, Step}, Places.{at12, at13, at14, move}}
use Rattle.model.specs.{Tables.{Queue, unused, tables_of, unopened}, Calls.{act_on, act}}
use Rattle.model.specs.Sound.{anchor_sound, link_sound, control_sound, record_sound, rows_fit}
use Rattle.model.specs.Places.{side_of, row, link_side, reading, at1, at2, at3, new4, at4, at5, at6, at7, at9, at10, at11}
use Rattle.model.specs.Route.{push_route, pop_route, route, onward, answer, goes, counted}
use Rattle.model.specs.Refusals.{open_refusal, step_sound, step_refusal, start_refusal}
use Rattle.model.specs.Calls.{opened, open_as, open_pooled, open_queue, push_start, push_pooled_start, pop_start, finish, step}
use Rattle.model.specs.Deque.{serve, serve_for, serve_pop, serve_push}
use Rattle.model.specs.History.{LedgerCall, Request, accept, attend, is_effect, ledger, ledger_from, note, run, step_of}
use Rattle.audit_model.specs.{declared.{Finished.Finished, VerdictReply.VerdictReply}, Audit.well_formed}
use Rattle.audit_model.specs.{declared.Verdict.TheVariants.{Failed, Passed, Refused}, LentHistory.verdict_reply}
use Rattle.audit_model.specs.Audit.{accepted, agrees, apart, not_earlier, rearranges, replay, serve_label, verdict}
use Rattle.audit_model.specs.Written.{effect_order, finished, insert}

abbrev zeros : Queue
zeros = record {
  tables = tables_of unopened
      (replicate 4 0)
      (replicate 4 0)
      (replicate 4 0)
      (replicate 1 0)
      (replicate 4 0);
  records = replicate 2 unused;
}

abbrev steps : List ℕ → List Request
steps l = map (λ t. record { task = t; op = Step }) l

abbrev list : List Request
list =
    (record { task = 0; op = Push 1 1 700 } ∷ steps (0 ∷ 0 ∷ []))
    ++ (record { task = 0; op = Pop 0 } ∷ record { task = 1; op = Pop 1 } ∷ steps (1 ∷ 0 ∷ 1 ∷ 0 ∷ 1 ∷ 0 ∷ []))

abbrev calls : List LedgerCall
calls = (ledger (run (open_queue zeros 2 3 0).queue list)).calls

-- A push, and another while its label waits.
abbrev two : List Request
two = (record { task = 0; op = PushPooled 1 700 } ∷ steps (0 ∷ 0 ∷ 0 ∷ 0 ∷ 0 ∷ [])) ++ (record { task = 1; op = PushPooled 0 701 } ∷ steps (1 ∷ []))

abbrev pooled_calls : List LedgerCall
pooled_calls = (ledger (run (open_pooled zeros 2 1 0).queue two)).calls

abbrev drawn : Finished
drawn = record { task = 0; kind = 0; side = 1; label = 700; answer = 2; start = 1; end = 6 }

abbrev no_free_slot : Finished
no_free_slot = record { task = 1; kind = 0; side = 0; label = 0; answer = 5; start = 7; end = 8 }

abbrev push : Finished
push = record { task = 0; kind = 0; side = 1; label = 700; answer = 2; start = 1; end = 3 }

abbrev empty : Finished
empty = record { task = 0; kind = 1; side = 0; label = 0; answer = 3; start = 4; end = 9 }

abbrev popped : ℕ → ℕ → Finished
popped label start = record { task = 1; kind = 1; side = 1; label = label; answer = 4; start = start; end = 10 }

abbrev told : ℕ → ℕ → VerdictReply
told code position = record { code = code; position = position }

abbrev history : List Finished
history = push ∷ empty ∷ popped 700 5 ∷ []

-- So many pushes, no two events equal.
abbrev pushes : ℕ → List Finished
pushes zero = []
pushes (suc k) = record { task = 0; kind = 0; side = 1; label = 700; answer = 2; start = 2 * k; end = 2 * k + 1 } ∷ pushes k

pub record Table : Type 0 where
  pub written_so : finished calls ≡ history
  -- the second pop took effect first
  pub order : effect_order calls ≡ 1 ∷ 3 ∷ 2 ∷ []
  pub passes : verdict history (1 ∷ 3 ∷ 2 ∷ []) ≡ Passed
  -- the first pop would have got the label
  pub other_answer : verdict history (1 ∷ 2 ∷ 3 ∷ []) ≡ Failed 2
  -- on an empty queue its answer would be right, but the push was answered before it started
  pub before-answered : verdict history (2 ∷ 1 ∷ 3 ∷ []) ≡ Failed 1
  pub twice : verdict history (1 ∷ 3 ∷ 3 ∷ []) ≡ Failed 0
  pub short : verdict history (1 ∷ 3 ∷ []) ≡ Failed 0
  pub number_zero : verdict history (1 ∷ 3 ∷ 0 ∷ []) ≡ Failed 0
  pub nothing : verdict [] [] ≡ Passed
  -- popped with another label
  pub other_label : verdict (push ∷ empty ∷ popped 701 5 ∷ []) (1 ∷ 3 ∷ 2 ∷ []) ≡ Failed 2
  -- the label of empty is not looked at
  pub no_label : verdict (push ∷ record { task = 0; kind = 1; side = 0; label = 9; answer = 3; start = 4; end = 9 } ∷ popped 700 5 ∷ [])
      (1 ∷ 3 ∷ 2 ∷ []) ≡ Passed
  -- a start at another call's answer
  pub same-event : verdict (push ∷ empty ∷ popped 700 3 ∷ []) (1 ∷ 3 ∷ 2 ∷ []) ≡ Refused 40
  -- 64 calls are judged; 65 are refused, though nothing else is wrong with them
  pub as_many : verdict (pushes 64) [] ≡ Failed 0
  pub too_many : verdict (pushes 65) [] ≡ Refused 40
  -- a push that named no slot is a push of its label; *no slot* is an answer of its own, which no history knows
  pub pooled_so : finished pooled_calls ≡ drawn ∷ no_free_slot ∷ []
  pub no_free_slot_lem : verdict (drawn ∷ no_free_slot ∷ []) (1 ∷ 2 ∷ []) ≡ Refused 40
  -- the numbers of each verdict
  pub numbers : map verdict_reply (Passed ∷ Failed 0 ∷ Failed 3 ∷ Refused 40 ∷ []) ≡ told 0 0 ∷ told 1 0 ∷ told 1 3 ∷ told 40 0 ∷ []

pub worked : Table
unfolding open_as opened open_refusal run act act_on push_start push_pooled_start pop_start step finish start_refusal step_refusal step_sound
    move at1 at2 at3 new4 at4 at5 at6 at7 at9 at10 at11 at12 at13 at14 reading side_of row link_side anchor_sound link_sound control_sound record_sound rows_fit
    push_route pop_route route onward answer goes counted ledger_from note accept attend step_of is_effect serve_for serve serve_push serve_pop
    insert verdict accepted well_formed apart rearranges replay serve_label agrees not_earlier
worked = record {
  written_so = refl;
  order = refl;
  passes = refl;
  other_answer = refl;
  before-answered = refl;
  twice = refl;
  short = refl;
  number_zero = refl;
  nothing = refl;
  other_label = refl;
  no_label = refl;
  same-event = refl;
  as_many = refl;
  too_many = refl;
  pooled_so = refl;
  no_free_slot_lem = refl;
  numbers = refl;
}
