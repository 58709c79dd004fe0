-- For every list of events: its effects, in the order of their places, are what the sequential deque served, with its replies.
use Rattle.std.specs.Prelude.{Err, Ok}
use mathlib.Core.{Bool.{Bool, false, true, ◌&&◌}, List.{List, [], ◌∷◌, ◌++◌, append_assoc}}
use mathlib.Core.Path.{◌≡◌, refl, sym, ap, ◌∙◌, subst}
use Prim.Native.Nat.{ℕ, suc, ◌<◌, ◌≤◌}
use native.Mathlib.Omega.{arith}
use lib.{Dec.eqb, ListN.length}
use Rattle.model.specs.declared.{Answer.Answer, Entry.Entry, Op.{Op, TheVariants.{Push, Pop, PushPooled, Step}}}
use Rattle.model.specs.Outcomes.{Outcome}
use Rattle.model.specs.{Lists.All}
use Rattle.model.specs.Deque.{Served, says_no_free_slot, serve, serve_for, serve_pop, serve_push, take_first, seen_from}
use Rattle.model.specs.History.{LedgerCall, Effect, Ending, Event, Ledger, accept, attend, begins, continued, ended}
use Rattle.model.specs.History.{is_effect, is_open, lacks_slot, ledger_from, note, over, step_of, told_entry}
use Rattle.model.proofs.Tests.Truth.{by_test}
use Rattle.audit_model.proofs.OrderedEffects.{OrderedEffect, put, put_all, ordered_effect, ordered_effects}
use Rattle.audit_model.proofs.{Lists.{all_append, all_map}, Order.{insert_all, insert-before, insert-last}}

-- An effect served from deque d: the call gets its reply, a push with its label in some slot.
abbrev pub served_in : ℕ → OrderedEffect → List Entry → Served
served_in slot t d = serve_for (says_no_free_slot t.reply) t.kind t.side (record { slot = slot; label = t.entry.label }) d

-- Served one after another from deque d, these effects have these replies and leave deque d'.
abbrev pub Replays : List OrderedEffect → List Entry → List Entry → Type 0
Replays [] d d' = d ≡ d'
Replays (t ∷ l) d d' = (slot : ℕ) × (((served_in slot t d).reply ≡ t.reply) × Replays l (served_in slot t d).deque d')

pub replays_append : (l m : List OrderedEffect) (a b c : List Entry) → Replays l a b → Replays m b c → Replays (l ++ m) a c
replays_append [] m a b c h k = subst (λ (x : List Entry). Replays m x c) (sym h) k
replays_append (t ∷ l) m a b c h k = (h.0, (h.1.0, replays_append l m _ b c h.1.1 k))

-- The sequential deque's own replies are not *no slot*; so its reply tells whether it served the call.
never-no_free_slot : (kind side : ℕ) (e : Entry) (d : List Entry) → says_no_free_slot (serve kind side e d).reply ≡ false
unfolding serve serve_push serve_pop
never-no_free_slot kind side e d = by_test (λ (s : Served). says_no_free_slot s.reply ≡ false) (eqb kind 0) (λ _. refl) (λ _. go (seen_from side d))
  where
    go : (l : List Entry) → says_no_free_slot (take_first side l).reply ≡ false
    go [] = refl
    go (x ∷ l) = refl

reply-says : (lacks : Bool) (kind side : ℕ) (e : Entry) (d : List Entry)
    → let s = serve_for lacks kind side e d in serve_for (says_no_free_slot s.reply) kind side e d ≡ s
unfolding serve_for
reply-says lacks kind side e d = by_test (λ (s : Served). serve_for (says_no_free_slot s.reply) kind side e d ≡ s) lacks
    (λ _. refl)
    (λ _. rw (never-no_free_slot kind side e d))

-- Effects before position n.
abbrev pub EffectsBefore : ℕ → LedgerCall → Type 0
EffectsBefore n c = All (λ (e : Effect). e.at < n) c.effects

abbrev AtOrBefore : ℕ → OrderedEffect → Type 0
AtOrBefore n t = t.at ≤ n

abbrev Now : ℕ → OrderedEffect → Type 0
Now n t = t.at ≡ n

-- Earlier effects come before the new ones.
insert-earlier : (n : ℕ) (f : Effect → OrderedEffect) → ((e : Effect) → (f e).at ≡ e.at)
    → (es : List Effect) (l m : List OrderedEffect) → All (λ (e : Effect). e.at < n) es → All (Now n) m
    → put_all f es (l ++ m) ≡ put_all f es l ++ m
insert-earlier n f p [] l m h z = refl
insert-earlier n f p (e ∷ es) l m h z =
    ap (put (f e)) (insert-earlier n f p es l m h.1 z)
    ∙ insert-before (f e) (put_all f es l) m (all_map (λ (u : OrderedEffect) w. omega (arith, h.0, p e)) m z)

all_inserted : (n : ℕ) (f : Effect → OrderedEffect) → ((e : Effect) → (f e).at ≡ e.at)
    → (es : List Effect) (l : List OrderedEffect) → All (λ (e : Effect). e.at < n) es
    → All (AtOrBefore n) l → All (AtOrBefore n) (put_all f es l)
all_inserted n f p [] l h z = z
all_inserted n f p (e ∷ es) l h z = insert_all (AtOrBefore n) (f e) (put_all f es l) (omega (arith, h.0, p e)) (all_inserted n f p es l h.1 z)

pub effects-before : (n : ℕ) (cs : List LedgerCall) → All (EffectsBefore n) cs → All (AtOrBefore n) (ordered_effects cs)
effects-before n [] h = tt
effects-before n (c ∷ cs) h =
    all_inserted n (ordered_effect (length (c ∷ cs)) c.kind c.side c.entry) (λ e. refl) c.effects (ordered_effects cs)
    h.0 (effects-before n cs h.1)

module _ (n : ℕ) (ev : Event) (a : Answer) (d : List Entry) where
  -- Calls cs attended to are ledger l: the new effects lie behind the others.
  pub record Adds (cs : List LedgerCall) (l : Ledger) : Type 0 where
    pub new : List OrderedEffect
    pub count : length l.calls ≡ length cs
    pub effects : ordered_effects l.calls ≡ ordered_effects cs ++ new
    pub here : All (Now n) new
    pub replays : Replays new d l.deque

  -- A call before others that were attended to keeps its effects where they were.
  keeps : (c : LedgerCall) (cs : List LedgerCall) (l : Ledger) → EffectsBefore n c → (g : Adds cs l)
      → put_all (ordered_effect (suc (length l.calls)) c.kind c.side c.entry) c.effects (ordered_effects l.calls) ≡ ordered_effects
      (c ∷ cs) ++ g.new
  keeps c cs l h g = (λ i. put_all (ordered_effect (suc (g.count i)) c.kind c.side c.entry) c.effects (g.effects i))
      ∙ insert-earlier n (ordered_effect (length (c ∷ cs)) c.kind c.side c.entry) (λ e. refl) c.effects (ordered_effects cs) g.new h g.here

  skips : (c : LedgerCall) (e : Ending) (cs : List LedgerCall) (l : Ledger) → EffectsBefore n c → Adds cs l → Adds (c ∷ cs) (over (continued c
      c.effects e) l)
  skips c e cs l h g = record { new = g.new; count = ap suc g.count; effects = keeps c cs l h g; here = g.here; replays = g.replays }

  -- It takes effect behind them.
  takes : (c : LedgerCall) (cs : List LedgerCall) (l : Ledger) → EffectsBefore n c → All (EffectsBefore n) cs → Adds cs l
      → let s = serve_for (lacks_slot c a) c.kind c.side (told_entry c ev) l.deque in
      Adds (c ∷ cs) (record { deque = s.deque; calls = continued c (record { at = n; reply = s.reply } ∷ c.effects) (ended n a) ∷ l.calls })
  takes c cs l h hs g =
      let s = serve_for (lacks_slot c a) c.kind c.side (told_entry c ev) l.deque in
      let e : Effect = record { at = n; reply = s.reply } in
      let t = ordered_effect (length (c ∷ cs)) c.kind c.side c.entry e in
      let same = reply-says (lacks_slot c a) c.kind c.side (told_entry c ev) l.deque in
      record {
        new = g.new ++ (t ∷ []);
        count = ap suc g.count;
        effects =
            (λ i. put (ordered_effect (suc (g.count i)) c.kind c.side c.entry e) (keeps c cs l h g i))
            ∙ insert-last t (ordered_effects (c ∷ cs) ++ g.new)
            (all_append (AtOrBefore n) (ordered_effects (c ∷ cs)) g.new
            (effects-before n (c ∷ cs) (h, hs)) (all_map (λ (u : OrderedEffect) w. omega arith) g.new g.here))
            ∙ append_assoc (ordered_effects (c ∷ cs)) g.new (t ∷ []);
        here = all_append (Now n) g.new (t ∷ []) g.here (refl, tt);
        replays = replays_append g.new (t ∷ []) d l.deque s.deque g.replays
            ((told_entry c ev).slot, (ap (λ (s : Served). s.reply) same, ap (λ (s : Served). s.deque) same));
      }

  pub attend_adds : (cs : List LedgerCall) → All (EffectsBefore n) cs → Adds cs (attend n ev a d cs)
  unfolding attend step_of
  attend_adds [] h = record { new = []; count = refl; effects = refl; here = tt; replays = refl }
  attend_adds (c ∷ cs) h =
      let l = attend n ev a d cs in
      let g = attend_adds cs h.1 in
      by_test (Adds (c ∷ cs)) (eqb c.task ev.task && is_open c.ending)
      (λ _. by_test (Adds (c ∷ cs)) (is_effect ev a)
      (λ _. takes c cs l h.0 h.1 g)
      (λ _. skips c (ended n a) cs l h.0 g))
      (λ _. skips c c.ending cs l h.0 g)

-- What an attended call has, by what it was: untouched, gone on, or gone on with an effect.
pub attend-all : (n : ℕ) (ev : Event) (a : Answer) (P Q : LedgerCall → Type 0) → ((c : LedgerCall) → P c → Q c)
    → ((c : LedgerCall) → P c → Q (continued c c.effects (ended n a)))
    → ((c : LedgerCall) (r : Answer) → P c → Q (continued c (record { at = n; reply = r } ∷ c.effects) (ended n a)))
    → (d : List Entry) (cs : List LedgerCall) → All P cs → All Q (attend n ev a d cs).calls
unfolding attend step_of
attend-all n ev a P Q f g k d [] h = tt
attend-all n ev a P Q f g k d (c ∷ cs) h =
    let r = attend-all n ev a P Q f g k d cs h.1 in
    by_test (λ (l : Ledger). All Q l.calls) (eqb c.task ev.task && is_open c.ending)
    (λ _. by_test (λ (l : Ledger). All Q l.calls) (is_effect ev a) (λ _. (k c _ h.0, r)) (λ _. (g c h.0, r)))
    (λ _. (f c h.0, r))

-- Before position n.
pub record Replayed (n : ℕ) (l : Ledger) : Type 0 where
  pub before : All (EffectsBefore n) l.calls
  pub replays : Replays (ordered_effects l.calls) [] l.deque

later : (n : ℕ) (c : LedgerCall) → EffectsBefore n c → EffectsBefore (suc n) c
later n c h = all_map (λ (e : Effect) w. omega arith) c.effects h

begun : (n t kind side : ℕ) (named : Bool) (e : Entry) (l : Ledger) → Replayed n l → Replayed (suc n) (over (begins n t kind side named e) l)
begun n t kind side named e l g = record { before = (tt, all_map (later n) l.calls g.before); replays = g.replays }

accepted : (n : ℕ) (ev : Event) (o : Op) (a : Answer) (l : Ledger) → Replayed n l → Replayed (suc n) (accept n ev o a l)
unfolding accept
accepted n ev (Push side slot label) a l g = begun n ev.task 0 side true _ l g
accepted n ev (Pop side) a l g = begun n ev.task 1 side false _ l g
accepted n ev (PushPooled side label) a l g = begun n ev.task 0 side false _ l g
accepted n ev Step a l g =
    let z = attend_adds n ev a l.deque l.calls g.before in
    record {
      before = attend-all n ev a (EffectsBefore n) (EffectsBefore (suc n)) (later n) (later n) (λ c r h. (omega arith, later n c h))
          l.deque l.calls g.before;
      replays = subst (λ (k : List OrderedEffect). Replays k [] (attend n ev a l.deque l.calls).deque) (sym z.effects)
          (replays_append (ordered_effects l.calls) z.new [] l.deque _ g.replays z.replays);
    }

noted : (n : ℕ) (ev : Event) (o : Outcome) (l : Ledger) → Replayed n l → Replayed (suc n) (note n ev o l)
unfolding note
noted n ev (Err why) l g = record { before = all_map (later n) l.calls g.before; replays = g.replays }
noted n ev (Ok a) l g = accepted n ev ev.op a l g

pub replayed : (es : List Event) (n : ℕ) (l : Ledger) → Replayed n l → (m : ℕ) × Replayed m (ledger_from n l es)
unfolding ledger_from
replayed [] n l g = (n, g)
replayed (e ∷ es) n l g = replayed es (suc n) _ (noted n e e.outcome l g)
