-- An opening, and what follows it.
use Rattle.std.specs.Prelude.{Err, Ok}
use Prim.Native.Nat.{ℕ, ◌*◌, ◌≤◌}
use mathlib.Core.{Path.{◌≡◌, refl, sym, ap, ◌∙◌}, Bool.{Bool, true, false}, List.List}
use native.Mathlib.Omega.{arith}
use lib.{Dec.eqb, ListN.length}
use Rattle.model.specs.Outcomes.{Opened, Opening, Refused}
use Rattle.model.specs.{Tables.Queue, Refusals.open_refusal}
use Rattle.model.specs.{Calls.{OpenDone, opened, open_as, opening_code}, History.{Request, run, final, NoFreeSlotTrue}}
use Rattle.model.proofs.{Linearizable.linearizable, Never34.never_34, Retries.retries-sum, Tests.Truth.{split, same_refusal}}
use Rattle.model.proofs.NoFreeSlot.{no_free_slot-right}
use Rattle.stock_model.proofs.Accounts.{every-label, stock_taking}
use Rattle.capi.specs.Replies.{uppers_at, Coded, coded}
use Rattle.serve.specs.Requests.{requests_of, requests_from, replies_of}
use Rattle.serve.specs.Serving.{State, uppers_after, served, count_after, FollowsOn, Serves}
use Rattle.serve.proofs.Uppers.{still_zero}

-- Refused and opened are two.
apart : {why : ℕ} → Opened ≡ Refused why → ⊥
apart e = let z : ◌≡◌ {A = ℕ} 0 1 = cc in omega arith

-- An opening on queue q.
module _ (pooled : Bool) (q : Queue) (tasks slots tag : ℕ) where
  abbrev done : OpenDone
  done = open_as pooled q tasks slots tag

  abbrev why : ℕ
  why = open_refusal pooled q tasks slots

  refused-keeps : (n : ℕ) → done.outcome ≡ Refused n → done.queue ≡ q
  unfolding open_as
  refused-keeps n e = split (eqb why 0) (λ h. absurd (apart (let z : Opened ≡ Refused n = rw h at e in z))) (λ h. rw h)

  refused_why : (n : ℕ) → done.outcome ≡ Refused n → eqb n 0 ≡ false
  unfolding open_as
  refused_why n e =
      split (eqb why 0)
      (λ h. absurd (apart (let z : Opened ≡ Refused n = rw h at e in z)))
      (λ h. let z : Refused why ≡ Refused n = rw h at e in let s : why ≡ n = same_refusal z in ap (λ (k : ℕ). eqb k 0) (sym s) ∙ h)

  opened-tasks : done.outcome ≡ Opened → done.queue.tables.control.tasks ≡ tasks
  unfolding open_as opened
  opened-tasks e = split (eqb why 0) (λ h. rw h) (λ h. absurd (apart (let z : Refused why ≡ Opened = rw h at e in sym z)))

  truthful : (os : List Request) → done.outcome ≡ Opened → pooled ≡ true → NoFreeSlotTrue done.queue os
  truthful os e p = go pooled p e
    where
      go : (b : Bool) → b ≡ true → (open_as b q tasks slots tag).outcome ≡ Opened → NoFreeSlotTrue (open_as b q tasks slots tag).queue os
      go true h f = no_free_slot-right q tasks slots tag f os
      go false h f = absurd (let z : ◌≡◌ {A = ℕ} 0 1 = cc in omega arith)

-- The operations that follow it.
module _ (pooled : Bool) (tasks slots tag : ℕ) (words : List ℕ) (before after : State) (count : ℕ) where
  abbrev opening : OpenDone
  opening = open_as pooled before.queue tasks slots tag

  abbrev started : Opening → State
  started o = record { queue = opening.queue; uppers = uppers_at tasks before.uppers o; replies = before.replies }

  follows : (o : Opening) → opening.outcome ≡ o → count ≡ count_after (opening_code o) (length words) (length before.replies)
      → after ≡ served 0 (started o) (requests_of count words) → FollowsOn pooled tasks o opening.queue words before after count
  unfolding served uppers_after run final replies_of requests_from
  follows (Err refusal) e k s =
      let z : count ≡ 0 = k ∙ rw (refused_why pooled before.queue tasks slots tag refusal.number e) in
      (z, s ∙ rw (z, refused-keeps pooled before.queue tasks slots tag refusal.number e))
  follows (Ok u) e k s = (
    k,
    record {
      queue = ap (λ (x : State). x.queue) s;
      uppers =
          ap (λ (x : State). x.uppers) s
          ∙ still_zero (requests_of count words) tasks opening.queue before.uppers (opened-tasks pooled before.queue tasks slots tag e);
      answers = ap (λ (x : State). x.replies) s;
      linearized = linearizable pooled before.queue tasks slots tag e (requests_of count words);
      sound = never_34 pooled before.queue tasks slots tag e (requests_of count words);
      counts = retries-sum pooled before.queue tasks slots tag e (requests_of count words);
      accounts = every-label pooled before.queue tasks slots tag e (requests_of count words);
      stock = stock_taking pooled before.queue tasks slots tag e (requests_of count words);
      truthful = λ p os left h. truthful pooled before.queue tasks slots tag os e p;
    },
  )

  pub serves : (d : Coded) → d ≡ coded tasks before.uppers opening
      → count ≡ count_after d.code (length words) (length before.replies)
      → after ≡ served 0 (record { queue = d.queue; uppers = d.uppers; replies = before.replies }) (requests_of count words)
      → Serves pooled tasks slots tag words before after (record { code = d.code; served = count })
  serves d e k s = record {
    opening = ap (λ (x : Coded). x.code) e;
    follows =
        follows opening.outcome refl
        (k ∙ ap (λ (x : Coded). count_after x.code (length words) (length before.replies)) e)
        (s ∙ ap (λ (x : Coded). served 0 (record { queue = x.queue; uppers = x.uppers; replies = before.replies }) (requests_of count words)) e);
  }

-- As many requests and replies as are counted are there.
pub count_fits : (code requests replies : ℕ) → (5 * count_after code requests replies ≤ requests) × (3 * count_after code requests replies ≤ replies)
count_fits code requests replies =
    split (eqb code 0) (λ e. rw e (omega arith, omega arith)) (λ e. rw e (omega arith, omega arith))
