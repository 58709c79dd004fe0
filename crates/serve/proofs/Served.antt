-- What one operation leaves, and a list of them one by one.
use Prim.Native.Nat.{ℕ, suc, ◌+◌, ◌*◌, ◌-◌, ◌<◌}
use mathlib.Core.{Path.{◌≡◌, sym, ap, ◌∙◌}, List.{List, ◌∷◌}}
use native.Mathlib.{Numerals.add-one, Omega.arith}
use lib.Seq.{sets}
use Rattle.model.specs.{Calls.act}
use Rattle.model.specs.History.{Request, run, final}
use Rattle.capi.specs.Replies.{Replied, replied}
use Rattle.serve.specs.{declared.request.Request.Request as RequestRow, Serving.{State, uppers_after, served}}
use Rattle.serve.specs.Requests.{request_at, requests_from, reply_words, replies_of}
use Rattle.layout.specs.Rows.{writes_row}

-- An operation and then the rest.
served-more : (n : ℕ) (s : State) (o : Request) (os : List Request) (d : Replied) (replies : List ℕ)
    → d ≡ replied (writes_row o.op) o.task s.uppers (act s.queue o.task o.op)
    → replies ≡ sets s.replies n (reply_words d.reply)
    → served (suc (suc (suc n))) (record { queue = d.queue; uppers = d.uppers; replies = replies }) os ≡ served n s (o ∷ os)
unfolding served uppers_after run final replies_of
served-more n s o os d replies e f = rw (f, e)

-- The whole list, none of it, and one operation of it.
pub served-all : (words : List ℕ) (count : ℕ) (s : State) → served 0 s (requests_from 0 (count - 0) words) ≡ served 0 s (requests_from 0 count words)
served-all words count s = ap (λ (k : ℕ). served 0 s (requests_from 0 k words)) (omega arith)

module _ (words : List ℕ) (i count : ℕ) where
  pub served-none : (s : State) → i ≡ count → served (3 * i) s (requests_from i (count - i) words) ≡ s
  unfolding served uppers_after run final replies_of requests_from
  served-none s e = let z : count - i ≡ 0 = omega arith in rw z

  pub served-next : (s : State) (o : Request) (d : Replied) (replies : List ℕ) → i < count → o ≡ request_at words i
      → d ≡ replied (writes_row o.op) o.task s.uppers (act s.queue o.task o.op)
      → replies ≡ sets s.replies (3 * i) (reply_words d.reply)
      → served (3 * (i + 1)) (record { queue = d.queue; uppers = d.uppers; replies = replies }) (requests_from (i + 1) (count - (i + 1)) words)
      ≡ served (3 * i) s (requests_from i (count - i) words)
  unfolding requests_from
  served-next s o d replies h r e f =
      let os = requests_from (suc i) (count - (i + 1)) words in
      let now : State = record { queue = d.queue; uppers = d.uppers; replies = replies } in
      let n : 3 * (i + 1) ≡ suc (suc (suc (3 * i))) = omega arith in
      let m : count - i ≡ suc (count - (i + 1)) = omega arith in
      ap (λ (k : ℕ). served (3 * (i + 1)) now (requests_from k (count - (i + 1)) words)) (add-one i)
      ∙ ap (λ (k : ℕ). served k now os) n
      ∙ served-more (3 * i) s o os d replies e f
      ∙ ap (λ (x : Request). served (3 * i) s (x ∷ os)) r
      ∙ ap (λ (k : ℕ). served (3 * i) s (requests_from i k words)) (sym m)

-- What is read of five words, as a history has it.
abbrev pub request_in : RequestRow → Request
request_in r = record { task = r.task; op = r.op }
