-- Every word of the third queue after the joining, and 33 by the tag. (Document 02, #113.)
use mathlib.Core.{Bool.{Bool, ◌&&◌, not, cond}, List.{List, [], ◌∷◌}}
use Rattle.std.specs.Prelude.{ℕ, zero, suc, ◌+◌, ◌-◌, ◌*◌}
use lib.{Dec.{ltb, eqb}, ListN.{length, get_or, set}}
use Rattle.word.specs.{Anchor.pack_anchor, Link.pack_link}
use Rattle.model.specs.{Tables.{Queue, with_mark, idle, with_call, task_at, with_anchor, tables_of}, Refusals.first}
use Rattle.join_model.specs.Join.{anchor_in, lanes, join_rules, Joined, joined}

-- Row k holds f k, for each k of 1 to n.
abbrev pub filled : (ℕ → ℕ) → ℕ → List ℕ → List ℕ
filled f zero l = l
filled f (suc n) l = set (filled f n l) (suc n) (f (suc n))

-- Left of k names k - 1, with tag 0; Right of k names k + 1, with tag 1; row k has the k-th label.
abbrev pub left_of : ℕ → ℕ
left_of k = pack_link (record { tag = 0; slot = k - 1 })

abbrev pub right_of : ℕ → ℕ
right_of k = pack_link (record { tag = 1; slot = suc k })

abbrev pub label_of : List ℕ → ℕ → ℕ
label_of l k = get_or (0 ∷ l) k 0

-- Slots 1 to n are marked.
abbrev pub marked_to : ℕ → List ℕ → List ℕ
marked_to zero ws = ws
marked_to (suc n) ws = with_mark (marked_to n ws) (suc n) 1

-- The Anchor tag after n pushes, n not 0.
abbrev pub tag_after : ℕ → ℕ → ℕ
tag_after tag n = tag + 2 * n - 1

-- `before` + 1 labels in slots 1 to `before` + 1. The last one's Right stays as it was; record 0 has no call and its own count; the rest is as it was.
unfoldable pub held : Queue → ℕ → (ℕ → ℕ) → Queue
held q before label =
    let t = q.tables in
    let n = suc before in
    record {
      tables = with_anchor (tables_of t.control
          (filled left_of n t.lefts)
          (filled right_of before t.rights)
          (filled label n t.labels)
          (marked_to n t.marks)
          t.next) (pack_anchor (record { tag = tag_after (anchor_in q).tag n; status = 0; left = 1; right = n }));
      records = set q.records 0 (with_call (task_at q 0) idle);
    }

-- With no labels nothing changes.
unfoldable pub holding : Queue → List ℕ → Queue
holding q [] = q
holding q (x ∷ l) = held q (length l) (label_of (x ∷ l))

-- 33: the tag at the last start is above 4,294,967,262. That start finds the first tag where there is one label, else the tag after one push less.
unfoldable pub late_for : ℕ → ℕ → Bool
late_for tag n = not (eqb n 0) && ltb 4294967262 (cond (eqb n 1) tag (tag_after tag (n - 1)))

-- The joining by these words.
unfoldable pub closed_refusal : Queue → Queue → Queue → ℕ
closed_refusal a b q = first (join_rules a b q (late_for (anchor_in q).tag (length (lanes a b))))

unfoldable pub join_closed : Queue → Queue → Queue → Joined
join_closed a b q = joined (closed_refusal a b q) q (holding q (lanes a b))
