-- Every verdict means what document 02 says of it, and what means a verdict gets it.
use mathlib.Core.{Bool.{Bool, true, false, ◌&&◌}, List.{List, [], ◌∷◌, ◌++◌}, Path.{◌≡◌, refl, sym, ap, ◌∙◌, subst}}
use Prim.Native.Nat.{ℕ, zero, suc, ◌+◌, ◌≤◌}
use native.Mathlib.Omega.{arith}
use lib.{Dec.{eqb, leb}, ListN.length}
use borrow.Author.Tests.{eqb-false, eqb-true, leb-true, not-true}
use Rattle.model.specs.{Sound.from1, Lists.All}
use Rattle.model.proofs.{Lists.{Deque.Distinct, Pigeonhole.pigeon}, Tests.Truth.{and_of, and-true, by_test}}
use Rattle.audit_model.specs.{declared.Finished.Finished, Audit.{replay, verdict}}
use Rattle.audit_model.specs.declared.Verdict.{Verdict, TheVariants.{Refused, Failed, Passed}}
use Rattle.audit_model.specs.Audit.{accepted, all_of, differ, gives, in_order, not_earlier, pairwise, rearranges}
use Rattle.audit_model.specs.Laws.{AllRight, Answered, EveryCallListed, FirstWrong, Meaning, MeaningIsTold, right}
use Rattle.audit_model.specs.Laws.{VerdictMeans, answers, queue_after}

-- The calls are all right, or one is the first that is not; b positions were passed.
pub data Told (b : ℕ) (cs : List Finished) (q : List ℕ) : Verdict → Type 0 where
  fine : pairwise not_earlier cs ≡ true → Answered cs q → Told b cs q Passed
  fails : (n : ℕ) → FirstWrong cs q (suc n) → Told b cs q (Failed (suc (b + n)))

push_on : (b : ℕ) (c : Finished) (cs : List Finished) (q : List ℕ) → right c q cs ≡ true
    → (v : Verdict) → Told (suc b) cs (gives c q).queue v → Told b (c ∷ cs) q v
push_on b c cs q e v (fine o a) =
    let z = and-true (answers c q) (all_of (not_earlier c) cs) e in
    fine (and_of z.1 o) (z.0, a)
push_on b c cs q e v (fails n f) =
    let z : suc (b + suc n) ≡ suc (suc b + n) = omega arith in
    subst (λ (m : ℕ). Told b (c ∷ cs) q (Failed m)) z
    (fails (suc n) (record {
      before = c ∷ f.before;
      call = f.call;
      later = f.later;
      all = ap (λ (l : List Finished). c ∷ l) f.all;
      position = ap suc f.position;
      earlier = (subst (λ (l : List Finished). right c q l ≡ true) f.all e, f.earlier);
      wrong = f.wrong;
    }))

told : (b : ℕ) (cs : List Finished) (q : List ℕ) → Told b cs q (replay (suc b) cs q)
unfolding replay
told b [] q = fine refl tt
told b (c ∷ cs) q = by_test (Told b (c ∷ cs) q) (right c q cs)
    (λ e. push_on b c cs q e _ (told (suc b) cs (gives c q).queue))
    (λ e. let z : suc (b + 0) ≡ suc b = omega arith in subst (λ (m : ℕ). Told b (c ∷ cs) q (Failed m)) z
    (fails 0 (record { before = []; call = c; later = cs; all = refl; position = refl; earlier = tt; wrong = e })))

judged : (cs : List Finished) (ks : List ℕ) → accepted cs ≡ true → rearranges (length cs) ks ≡ true
    → (v : Verdict) → Told 0 (in_order cs ks) [] v → Meaning cs ks v
judged cs ks a r v (fine o h) = (a, record { once = r; order = o; given = h })
judged cs ks a r v (fails n f) =
    let z : n ≡ 0 + n = omega arith in
    (a, (r, subst (λ (m : ℕ). FirstWrong (in_order cs ks) [] (suc m)) z f))

pub verdict_means : VerdictMeans
unfolding verdict
verdict_means cs ks = by_test (Meaning cs ks) (accepted cs)
    (λ a. by_test (Meaning cs ks) (rearranges (length cs) ks)
    (λ r. judged cs ks a r _ (told 0 (in_order cs ks) []))
    (λ r. (a, r)))
    (λ a. (a, refl))

-- The converse.
passes : (p : ℕ) (cs : List Finished) (q : List ℕ) → pairwise not_earlier cs ≡ true → Answered cs q → replay p cs q ≡ Passed
unfolding replay
passes p [] q o a = refl
passes p (c ∷ cs) q o a =
    let z = and-true (all_of (not_earlier c) cs) (pairwise not_earlier cs) o in
    rw (and_of a.0 z.0) (passes (suc p) cs (gives c q).queue z.1 a.1)

fails-at : (b : ℕ) (before : List Finished) (c : Finished) (later : List Finished) (q : List ℕ)
    → AllRight before q (c ∷ later) → right c (queue_after before q) later ≡ false
    → replay (suc b) (before ++ (c ∷ later)) q ≡ Failed (suc (b + length before))
unfolding replay
fails-at b [] c later q h w = let z : suc b ≡ suc (b + 0) = omega arith in rw w (ap Failed z)
fails-at b (x ∷ before) c later q h w =
    let z : suc (suc b + length before) ≡ suc (b + suc (length before)) = omega arith in
    rw h.0 (fails-at (suc b) before c later (gives x q).queue h.1 w ∙ ap Failed z)

first-wrong : (cs : List Finished) (q : List ℕ) (p : ℕ) → FirstWrong cs q p → replay 1 cs q ≡ Failed p
first-wrong cs q p f =
    let z : suc (0 + length f.before) ≡ p = let y = f.position in omega arith in
    ap (λ (l : List Finished). replay 1 l q) f.all
    ∙ fails-at 0 f.before f.call f.later q f.earlier f.wrong ∙ ap Failed z

pub meaning_is_told : MeaningIsTold
unfolding verdict
meaning_is_told cs ks (Refused n) h = rw h.0 (ap Refused (sym h.1))
meaning_is_told cs ks (Failed zero) h = rw (h.0, h.1)
meaning_is_told cs ks (Failed (suc p)) h = rw (h.0, h.1.0) (first-wrong (in_order cs ks) [] (suc p) h.1.1)
meaning_is_told cs ks Passed h = rw (h.0, h.1.once) (passes 1 (in_order cs ks) [] h.1.order h.1.given)

-- The order names every call: one that it left out would make one number too many.
all_true : {A : Type 0} (p : A → Bool) (P : A → Type 0) → ((a : A) → p a ≡ true → P a) → (l : List A) → all_of p l ≡ true → All P l
all_true p P f [] e = tt
all_true p P f (x ∷ l) e = let z = and-true (p x) (all_of p l) e in (f x z.0, all_true p P f l z.1)

differ_true : (j k : ℕ) → differ j k ≡ true → k ≡ j → ⊥
differ_true j k e z = eqb-false j k (not-true _ e) (sym z)

distinct : (l : List ℕ) → pairwise differ l ≡ true → Distinct l
distinct [] e = tt
distinct (x ∷ l) e =
    let z = and-true (all_of (differ x) l) (pairwise differ l) e in
    (all_true (differ x) _ (differ_true x) l z.0, distinct l z.1)

not-zero : (n x : ℕ) → from1 n x ≡ true → x ≡ 0 → ⊥
not-zero n x t z = let y = leb-true 1 x (and-true (leb 1 x) (leb x n) t).0 in omega arith

at_most : (n x : ℕ) → from1 n x ≡ true → x ≤ n
at_most n x t = leb-true x n (and-true (leb 1 x) (leb x n) t).1

pub every_call_listed : EveryCallListed
unfolding rearranges
every_call_listed n ks k r low high = go (all_of (differ k) ks) refl
  where
    parts : (eqb (length ks) n && all_of (from1 n) ks ≡ true) × (pairwise differ ks ≡ true)
    parts = and-true (eqb (length ks) n && all_of (from1 n) ks) (pairwise differ ks) r

    sizes : (eqb (length ks) n ≡ true) × (all_of (from1 n) ks ≡ true)
    sizes = and-true (eqb (length ks) n) (all_of (from1 n) ks) parts.0

    go : (b : Bool) → all_of (differ k) ks ≡ b → b ≡ false
    go false e = refl
    go true e = absurd (
        let few = pigeon n (k ∷ ks) (all_true (differ k) (λ y. y ≡ k → ⊥) (differ_true k) ks e, distinct ks parts.1)
        (λ z. omega arith, all_true (from1 n) (λ x. x ≡ 0 → ⊥) (not-zero n) ks sizes.1)
        (high, all_true (from1 n) (λ x. x ≤ n) (at_most n) ks sizes.1) in
        let len = eqb-true (length ks) n sizes.0 in
        omega arith)
