-- At every moment the memory is a queue on which a call that walks may rely: nobody owes the label of a slot that waits.
use mathlib.Core.{Path.{◌≡◌, ap, sym, subst, ◌∙◌}, List.{List, [], ◌∷◌}}
use Prim.Native.Nat.{ℕ}
use lib.ListN.{get_or}
use Rattle.model.specs.{declared.Entry.Entry, Tables.{Tables, Queue}, Sound.control_sound, Standing.Standing, Lists.All}
use Rattle.model.{specs.Walk.{contents, entries}, proofs.{Lists.Slots.slots as slots_of, Places.Owned.queued_held}}
use Rattle.model.proofs.{Bridge.View.{state_of, view}, Invariant.Owners.{Owner, Intact, queued}, Ledger.Waiting.waits}
use Rattle.threads_model.specs.{Turns.final_turns, Crew.{Crew, all_free, go_on, turns}}
use Rattle.threads.specs.{Promises.seen_of, Consequences.{InstructionsMemory, MemoryStands}}
use Rattle.threads.proofs.{Follow.{Overlay.overlay, Good.Good, Relation.{Sim, owes_label}}, Run.runs_on}
use Rattle.threads.proofs.{Kept.{kept-turns, with_ledger}, Resting.{over_fine, same-fits}, Since.after-threads}

over_intact : (q : Tables) (l k : List ℕ) (h : ℕ → Owner) (d : List Entry) → Intact (view q) h d
    → All (λ (e : Entry). get_or l e.slot 0 ≡ e.label) d → Intact (view (overlay q l k)) h d
unfolding view
over_intact q l k h d w e = record { shape = w.shape; owned = w.owned; listed = w.listed; labels = e; bounds = w.bounds; spare = w.spare }

module _ (tasks pooled slots : ℕ) (m : Crew) (q : Queue) (f : Sim tasks pooled slots m q) (g : Good tasks pooled slots q) where
  abbrev T : Tables
  T = m.queue.tables

  abbrev G : Tables
  G = q.tables

  abbrev h : ℕ → Owner
  h = g.matched.inv.owner

  same-labels : (d : List Entry) → All (λ x. h x ≡ queued) (slots_of d) → All (λ (e : Entry). get_or G.labels e.slot 0 ≡ e.label) d
      → All (λ (e : Entry). get_or T.labels e.slot 0 ≡ e.label) d
  same-labels [] o e = tt
  same-labels (x ∷ d) o e = (
    f.labels x.slot
        (λ u owes. queued_held (sym o.0 ∙ owes_label tasks pooled slots m q f g u x.slot (m.hands u) (f.records u) (f.extra u) owes))
        ∙ e.0,
    same-labels d o.1 e.1,
  )

  pub memory-stands : Standing m.queue g.ledger.deque
  unfolding state_of view
  memory-stands =
      let w = g.matched.inv.whole in
      let d = g.matched.book.queue in
      record {
        control = ap (λ (X : Tables). control_sound X.control) f.rest ∙ g.safe.control;
        long = same-fits tasks pooled slots m q f ∙ g.long;
        walk =
            subst (λ (X : Tables). contents X ≡ entries d) (sym f.rest)
            (waits (overlay G T.labels T.marks) (over_fine G T.labels T.marks g.matched.links) h d
            (over_intact G T.labels T.marks h d w (same-labels d w.owned w.labels)))
            ∙ ap entries g.matched.deque;
      }

pub instructions_memory : InstructionsMemory
instructions_memory = after-threads MemoryStands (λ tasks pooled slots past q k l h.
    let es = seen_of past pooled slots q l in
    let end = final_turns q (turns pooled slots (all_free q) l) in
    memory-stands tasks pooled slots (go_on pooled slots (all_free q) l) end (runs_on tasks pooled slots q k.good l h).sim
    (with_ledger tasks pooled slots es end (kept-turns tasks pooled slots past q k l h)))
