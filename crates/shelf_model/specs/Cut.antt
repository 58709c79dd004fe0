-- A queue cut to its lengths. (Document 02, #109: entries beyond the length keep their values; what they hold matters to no call.)
use mathlib.Core.{Bool.cond, List.[]}
use Rattle.std.specs.Prelude.{suc, ◌/◌, take}
use Rattle.model.specs.Tables.{Tables, Queue, is_pooled, tables_of}

-- Rows 0 to slots, mark words 0 to slots div 64; the next table counts only in a pooled queue.
abbrev pub cut_tables : Tables → Tables
cut_tables q = tables_of q.control
    (take (suc q.control.slots) q.lefts)
    (take (suc q.control.slots) q.rights)
    (take (suc q.control.slots) q.labels)
    (take (suc (q.control.slots / 64)) q.marks)
    (cond (is_pooled q.control) (take (suc q.control.slots) q.next) [])

-- As many records as tasks.
abbrev pub cut : Queue → Queue
cut q = record { tables = cut_tables q.tables; records = take q.tables.control.tasks q.records }
