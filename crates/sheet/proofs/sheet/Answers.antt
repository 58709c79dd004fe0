-- With the square of the chained rules, where nothing refuses.
use Rattle.std.proofs.Common.{ap, ◌∙◌, ℕ, List, [], true, length}
use Rattle.model.specs.Tables.{Tables, tables_of}
use Rattle.sheet.specs.{Squares.{byte_row, crossed}, Search.in_rows}
use Rattle.sheet_model.{specs.{Sheet.Sheet, Words.linked, Verdict.sheet}, proofs.Formed.formed}
use Rattle.sheet.proofs.{ByteRows.{bytes, bytes_show, square_marks}, Judged.{asked-err, Asked, asked-ok, judge-told}}
use Rattle.sheet.proofs.sheet.Goals as goal
use Rattle.sheet.proofs.sheet.Goals.{In-Ok}

module _ (c : In-Ok) (next : List ℕ) where
  abbrev given : Sheet
  given = record { listed = c.args.listed.now; rules = c.args.rules.now }

  abbrev queue : Tables
  queue = tables_of c.args.c c.args.lefts.now c.args.rights.now c.args.labels.now c.args.marks.now next

  fine : Asked queue given true c.asked.new.seen
  fine = asked-ok queue given true c.unseen-seen.result c.unseen-seen.ensures c.asked.new.seen (c.in-Ok.ensures next)

pub first_broken-requires : goal.first_broken-requires
first_broken-requires c =
    let f = formed (given (goal.at.first_broken-requires c).In-Ok []) (fine (goal.at.first_broken-requires c).In-Ok []).ok.form in
    (f.few, f.inside)

pub returns-in-Ok : goal.returns-in-Ok
unfolding sheet
returns-in-Ok c next =
    let v = (goal.at.returns-in-Ok c).In-Ok in
    let n = length c.args.listed.now in
    let e = c.asked.new.seen in
    c.first_broken.ensures
    ∙ ap (λ (m : List (List ℕ)). in_rows (crossed byte_row m e.low e.high) n 1 n) (square_marks (linked c.args.rules.now n))
    ∙ judge-told (queue v next) (given v next) true (fine v next).ok byte_row bytes bytes_show [] e (fine v next).noted

pub returns-in-Err : goal.returns-in-Err
unfolding sheet
returns-in-Err c next =
    let a = c.args in
    c.refused.ensures
    ∙ (asked-err (tables_of a.c a.lefts.now a.rights.now a.labels.now a.marks.now next) (record { listed = a.listed.now; rules = a.rules.now }) true
    c.unseen-seen.result c.unseen-seen.ensures c.in-Err.why (c.in-Err.ensures next)).0
