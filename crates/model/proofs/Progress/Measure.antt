-- The steps that a task may still make, by its place. Read with the route:
--   2, 4  the change of Anchor                 c steps from here on, if Anchor is as read and STABLE
--   3                                          c + 1
--   1     under STABLE                         c + 2
--   10    the change to STABLE, then to 1      c + 3
--   9     the change of the link back          g
--   8, 7, 6, 5 lead there                      g + 1 to g + 4
--   1     under RPUSH or LPUSH                 g + 5
--   14    the change of the head, then to 1    1 more than at 1
--   13, 12 lead there                          2 and 3 more
--   17    the change of the head, the last     1
--   16, 15 lead there                          2 and 3
--   11                                         1; in a pooled queue 4
-- A task that will find its word changed goes back to 1 within one step, from 3, 5 and 7 within two, and starts anew; so from 14 and 13 to 12,
-- from 17 and 16 to 15. A finishing push only goes on from 5 to 10: it answers where another task goes to 1.
use mathlib.Core.Bool.{Bool, ◌&&◌, cond}
use Prim.Native.Nat.{◌+◌, ℕ}
use lib.Dec.{ltb}
use Rattle.model.proofs.Machine.Machine.{Draw, Give, Place, Rec, Shared, at1, at10, at11, at12, at13, at14, at15}
use Rattle.model.proofs.Machine.Machine.{at16, at17, at2, at3, at4, at5, at6, at7, at8, at9, draw, give, idle}
use Rattle.model.proofs.Machine.Machine.{is_stable, same, same_link, towards}

-- At place 1.
abbrev pub home : ℕ → ℕ → Bool → ℕ
home c g steady = cond steady (c + 2) (g + 5)

-- To the change of the head, where the head as read is the head or not (top).
abbrev pub drawing : Bool → Draw → ℕ
drawing top at12 = 3
drawing top at13 = cond top 2 5
drawing top at14 = cond top 1 4

abbrev pub giving : Bool → Give → ℕ
giving top at15 = 3
giving top at16 = cond top 2 5
giving top at17 = cond top 1 4

-- Where the task draws its slot or not (draws), the queue is pooled or not, the task is finishing or not (ends), Anchor is STABLE or not
-- (steady), the task's Anchor as read is Anchor or not (now), the link back has grown beyond the link as read or not (grown).
abbrev pub due : ℕ → ℕ → Bool → Bool → Bool → Bool → Bool → Bool → Bool → Place → ℕ
due c g draws pooled ends steady now grown top idle = home c g steady + cond draws 3 0
due c g draws pooled ends steady now grown top at1 = home c g steady
due c g draws pooled ends steady now grown top at2 = cond (steady && now) c (home c g steady + 1)
due c g draws pooled ends steady now grown top at3 = cond (steady && now) (c + 1) (home c g steady + 2)
due c g draws pooled ends steady now grown top at4 = cond (steady && now) c (home c g steady + 1)
due c g draws pooled ends steady now grown top at5 = cond ends 6 (cond now (g + 4) (home c g steady + 2))
due c g draws pooled ends steady now grown top at6 = cond ends 5 (cond now (g + 3) (home c g steady + 1))
due c g draws pooled ends steady now grown top at7 = cond ends 4 (cond now (g + 2) (home c g steady + 2))
due c g draws pooled ends steady now grown top at8 = cond ends 3 (cond now (cond grown (home c g steady + 2) (g + 1)) (home c g steady + 1))
due c g draws pooled ends steady now grown top at9 = cond ends 2 (cond grown (home c g steady + 1) g)
due c g draws pooled ends steady now grown top at10 = cond ends 1 (cond now (c + 3) (home c g steady + 1))
due c g draws pooled ends steady now grown top at11 = cond pooled 4 1
due c g draws pooled ends steady now grown top (draw p) = home c g steady + cond draws (drawing top p) 0
due c g draws pooled ends steady now grown top (give p) = giving top p

-- The link that the neighbour has now has a higher tag than the link as read.
abbrev pub outgrown : Shared → Rec → Bool
outgrown s r = ltb r.link.tag (s.link (towards r.read.status) r.near).tag

abbrev pub owed_at : ℕ → ℕ → Bool → Place → Shared → Rec → ℕ
owed_at c g draws p s r =
    due c g draws s.pooled r.finishing (is_stable s.anchor.status) (same r.read s.anchor) (outgrown s r)
    (same_link r.link s.head) p

abbrev pub owed : ℕ → ℕ → Bool → Shared → Rec → ℕ
owed c g draws s r = owed_at c g draws r.place s r
