-- What the effects in a ledger add up to, whatever its events: labels pushed are labels taken and labels in the deque.
use Rattle.std.specs.Prelude.{Err, Ok}
use mathlib.Core.{Bool.{Bool, ◌&&◌, cond}, List.{List, [], ◌∷◌, ◌++◌, map, reverse, reverse-cons}, Logic.◌≢◌}
use mathlib.Core.Path.{◌≡◌, ◌∙◌, ap, refl, sym}
use Prim.Native.Nat.{ℕ, ◌+◌}
use native.Mathlib.Omega.{arith}
use lib.{Dec.eqb, ListN.length}
use borrow.Author.Tests.{eqb-false, eqb-true}
use Rattle.model.specs.declared.{Answer.Answer, Entry.Entry, Op.{Op, TheVariants.{Push, Pop, PushPooled, Step}}}
use Rattle.model.specs.Outcomes.{Outcome}
use Rattle.model.specs.Lists.{All, copies}
use Rattle.model.specs.Deque.{Served, seen_from, serve, serve_for, serve_pop, serve_push, take_first}
use Rattle.model.specs.History.{LedgerCall, Effect, Event, Ledger, accept, attend, is_effect, is_open, lacks_slot, note}
use Rattle.model.{specs.History.{ledger_from, step_of, told_entry}, proofs.Tests.Truth.by_test}
use Rattle.stock_model.specs.Accounts.{each, label_popped, label_pushed, pushed_labels, popped_labels}

-- The labels of a list, each counted as w says.
unfoldable pub weigh : (ℕ → ℕ) → List ℕ → ℕ
weigh w [] = 0
weigh w (x ∷ l) = w x + weigh w l

pub weigh_more : (w : ℕ → ℕ) (l m : List ℕ) → weigh w (l ++ m) ≡ weigh w l + weigh w m
unfolding weigh
weigh_more w [] m = omega arith
weigh_more w (x ∷ l) m = omega (arith, weigh_more w l m)

-- Copies of one label, and all labels.
abbrev pub only : ℕ → ℕ → ℕ
only x y = cond (eqb y x) 1 0

pub weigh_only : (x : ℕ) (l : List ℕ) → weigh (only x) l ≡ copies x l
unfolding weigh
weigh_only x [] = refl
weigh_only x (y ∷ l) = ap (λ (n : ℕ). only x y + n) (weigh_only x l)

pub weigh_all : (l : List ℕ) → weigh (λ x. 1) l ≡ length l
unfolding weigh
weigh_all [] = refl
weigh_all (x ∷ l) = omega (arith, weigh_all l)

module _ (w : ℕ → ℕ) where
  -- The labels of a deque, however it is seen.
  abbrev load : List Entry → ℕ
  load l = weigh w (map (λ (e : Entry). e.label) l)

  load_more : (l m : List Entry) → load (l ++ m) ≡ load l + load m
  unfolding weigh
  load_more [] m = omega arith
  load_more (e ∷ l) m = omega (arith, load_more l m)

  load_reverse : (l : List Entry) → load (reverse l) ≡ load l
  unfolding weigh
  load_reverse [] = refl
  load_reverse (e ∷ l) = rw (reverse-cons e l) (omega (arith, load_more (reverse l) (e ∷ []), load_reverse l))

  load_seen : (side : ℕ) (l : List Entry) → load (seen_from side l) ≡ load l
  load_seen side l = by_test (λ (m : List Entry). load m ≡ load l) (eqb side 1) (λ z. load_reverse l) (λ z. refl)

  -- What the deque gains at a service is what the reply says.
  abbrev Fair : ℕ → List Entry → Served → Type 0
  Fair x d s = weigh w (label_pushed x s.reply) + load d ≡ weigh w (label_popped s.reply) + load s.deque

  pop_fair : (x side : ℕ) (d l : List Entry) → seen_from side d ≡ l → Fair x d (take_first side l)
  unfolding weigh
  pop_fair x side d [] e = let z : load d ≡ 0 = sym (load_seen side d) ∙ ap (λ (l : List Entry). load l) e in omega arith
  pop_fair x side d (f ∷ l) e =
      let z : load d ≡ w f.label + load l = sym (load_seen side d) ∙ ap (λ (l : List Entry). load l) e in
      omega (arith, load_seen side l)

  serve_fair : (lacks : Bool) (kind side : ℕ) (e : Entry) (d : List Entry) → Fair e.label d (serve_for lacks kind side e d)
  unfolding serve_for serve serve_push serve_pop weigh
  serve_fair lacks kind side e d =
      by_test (Fair e.label d) lacks (λ z. refl)
      (λ z. by_test (Fair e.label d) (eqb kind 0)
      (λ z. let f = load_seen side (e ∷ seen_from side d) in let g = load_seen side d in omega arith)
      (λ z. pop_fair e.label side d (seen_from side d) refl))

  -- The balance of a ledger: a step keeps it, whatever the calls and the deque.
  abbrev put : List LedgerCall → ℕ
  put cs = weigh w (pushed_labels cs)

  abbrev out : List LedgerCall → ℕ
  out cs = weigh w (popped_labels cs)

  abbrev Level : List LedgerCall → List Entry → Ledger → Type 0
  Level cs d l = put l.calls + (out cs + load d) ≡ put cs + (out l.calls + load l.deque)

  step-level : (n : ℕ) (e : Event) (a : Answer) (c : LedgerCall) (cs : List LedgerCall) (d : List Entry) (l : Ledger) → Level cs d l
      → Level (c ∷ cs) d (step_of n e a l.deque c l.calls)
  unfolding step_of each
  step-level n e a c cs d l h =
      let f = serve_fair (lacks_slot c a) c.kind c.side (told_entry c e) l.deque in
      by_test (Level (c ∷ cs) d) (is_effect e a) (λ z. simp weigh_more (omega (arith, f, h))) (λ z. simp weigh_more (omega (arith, h)))

  attend-level : (n : ℕ) (e : Event) (a : Answer) (d : List Entry) (cs : List LedgerCall) → Level cs d (attend n e a d cs)
  unfolding attend each
  attend-level n e a d [] = refl
  attend-level n e a d (c ∷ cs) =
      let l = attend n e a d cs in
      let h = attend-level n e a d cs in
      by_test (Level (c ∷ cs) d) (eqb c.task e.task && is_open c.ending) (λ z. step-level n e a c cs d l h)
      (λ z. simp weigh_more (omega (arith, h)))

  abbrev Balanced : Ledger → Type 0
  Balanced l = put l.calls ≡ out l.calls + load l.deque

  accept_balanced : (n : ℕ) (e : Event) (o : Op) (a : Answer) (l : Ledger) → Balanced l → Balanced (accept n e o a l)
  unfolding accept each
  accept_balanced n e (Push side slot label) a l h = h
  accept_balanced n e (Pop side) a l h = h
  accept_balanced n e (PushPooled side label) a l h = h
  accept_balanced n e Step a l h = omega (arith, h, attend-level n e a l.deque l.calls)

  note_balanced : (n : ℕ) (e : Event) (o : Outcome) (l : Ledger) → Balanced l → Balanced (note n e o l)
  unfolding note
  note_balanced n e (Err why) l h = h
  note_balanced n e (Ok a) l h = accept_balanced n e e.op a l h

  pub balanced : (n : ℕ) (l : Ledger) (es : List Event) → Balanced l → Balanced (ledger_from n l es)
  unfolding ledger_from
  balanced n l [] h = h
  balanced n l (e ∷ es) h = balanced _ (note n e e.outcome l) es (note_balanced n e e.outcome l h)

-- A call that is replied *pushed* is a push, and one that is replied *popped* is none.
abbrev Suits : ℕ → Answer → Type 0
Suits kind a = (length (label_pushed 0 a) ≡ 1 → kind ≡ 0) × (length (label_popped a) ≡ 1 → kind ≢ 0)

abbrev pub Fits : LedgerCall → Effect → Type 0
Fits c e = Suits c.kind e.reply

abbrev pub AllFit : List LedgerCall → Type 0
AllFit cs = All (λ (c : LedgerCall). All (Fits c) c.effects) cs

serve-fits : (lacks : Bool) (kind side : ℕ) (e : Entry) (d : List Entry) → Suits kind (serve_for lacks kind side e d).reply
unfolding serve_for serve serve_push serve_pop
serve-fits lacks kind side e d =
    by_test Says lacks (λ _. (λ p. absurd (omega (arith, p)), λ p. absurd (omega (arith, p))))
    (λ _. by_test Says (eqb kind 0) (λ k. (λ p. eqb-true kind 0 k, λ p. absurd (omega (arith, p)))) (λ k. first (eqb-false kind 0 k) (seen_from side d)))
  where
    Says : Served → Type 0
    Says s = Suits kind s.reply

    first : kind ≢ 0 → (l : List Entry) → Says (take_first side l)
    first k [] = (λ p. absurd (omega (arith, p)), λ p. absurd (omega (arith, p)))
    first k (f ∷ l) = (λ p. absurd (omega (arith, p)), λ p. k)

attend-fits : (n : ℕ) (e : Event) (a : Answer) (d : List Entry) (cs : List LedgerCall) → AllFit cs → AllFit (attend n e a d cs).calls
unfolding attend step_of
attend-fits n e a d [] h = tt
attend-fits n e a d (c ∷ cs) h =
    let l = attend n e a d cs in
    let ih = attend-fits n e a d cs h.1 in
    by_test (λ (l : Ledger). AllFit l.calls) (eqb c.task e.task && is_open c.ending)
    (λ z. by_test (λ (l : Ledger). AllFit l.calls) (is_effect e a)
    (λ y. ((serve-fits (lacks_slot c a) c.kind c.side (told_entry c e) l.deque, h.0), ih)) (λ y. (h.0, ih)))
    (λ z. (h.0, ih))

note-fits : (n : ℕ) (e : Event) (o : Outcome) (l : Ledger) → AllFit l.calls → AllFit (note n e o l).calls
unfolding note accept
note-fits n e (Err why) l h = h
note-fits n e (Ok a) l h = go e.op
  where
    go : (o : Op) → AllFit (accept n e o a l).calls
    go (Push side slot label) = (tt, h)
    go (Pop side) = (tt, h)
    go (PushPooled side label) = (tt, h)
    go Step = attend-fits n e a l.deque l.calls h

pub all_fit : (n : ℕ) (l : Ledger) (es : List Event) → AllFit l.calls → AllFit (ledger_from n l es).calls
unfolding ledger_from
all_fit n l [] h = h
all_fit n l (e ∷ es) h = all_fit _ (note n e e.outcome l) es (note-fits n e e.outcome l h)
