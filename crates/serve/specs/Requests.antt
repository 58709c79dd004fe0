-- A list of operations in words: five a request (task, operation, side, slot, label), three a reply (code, label, value).
use mathlib.Core.{Bool.cond, List.{List, [], ◌∷◌, ◌++◌}}
use Rattle.std.specs.Prelude.{ℕ, zero, suc, ◌+◌, ◌*◌, ◌/◌, ◌%◌, ◌^◌, min}
use lib.{Dec.eqb, ListN.get_or}
use Rattle.model.specs.{declared.{Op.{Op, TheVariants.{Push, Pop, PushPooled, Step}}, Reply.Reply}, Calls.reply_of}
use Rattle.model.specs.History.{Request, Event}

-- 0 is a push, 1 a pop, 2 a push that names no slot, any other number a step. A label has 32 bits.
unfoldable pub op_of : ℕ → ℕ → ℕ → ℕ → Op
op_of code side slot label =
    cond (eqb code 0) (Push side slot (label % 2 ^ 32))
    (cond (eqb code 1) (Pop side)
    (cond (eqb code 2) (PushPooled side (label % 2 ^ 32))
    Step))

abbrev pub request_at : List ℕ → ℕ → Request
request_at ws i = record {
  task = get_or ws (5 * i) 0;
  op = op_of (get_or ws (5 * i + 1) 0) (get_or ws (5 * i + 2) 0) (get_or ws (5 * i + 3) 0) (get_or ws (5 * i + 4) 0);
}

-- n requests from request i on.
unfoldable pub requests_from : ℕ → ℕ → List ℕ → List Request
requests_from i zero ws = []
requests_from i (suc n) ws = request_at ws i ∷ requests_from (suc i) n ws

abbrev pub requests_of : ℕ → List ℕ → List Request
requests_of n ws = requests_from 0 n ws

abbrev pub reply_words : Reply → List ℕ
reply_words r = r.code ∷ r.label ∷ r.value ∷ []

-- The replies of some events, one behind the other.
unfoldable pub replies_of : List Event → List ℕ
replies_of [] = []
replies_of (e ∷ es) = reply_words (reply_of e.outcome) ++ replies_of es

-- As many operations as there are whole requests and room for whole replies.
abbrev pub room : ℕ → ℕ → ℕ
room requests replies = min (requests / 5) (replies / 3)
