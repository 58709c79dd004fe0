-- With the lent words for the chained rules, where nothing refuses.
use Rattle.std.proofs.Common.{sym, ap, subst, ◌∙◌, ℕ, List, [], Bool, ◌≤◌, length, drop}
use lib.Dec.{leb}
use borrow.Author.Tests.{leb-true}
use Rattle.model.{specs.{Tables.{Tables, tables_of}, Sound.rows_fit}, proofs.Tests.Truth.and-true}
use Rattle.sheet.specs.{Squares.{bit_row, crossed}, Search.in_rows}
use Rattle.sheet_model.specs.{declared.SheetReply.SheetReply, Sheet.Sheet, Words.words_of}
use Rattle.sheet_model.proofs.Formed.{formed}
use Rattle.sheet.proofs.{BitRows.{bits, bits_show, words_long}, Printed.{rows_code, printed-refused, printed-told}}
use Rattle.sheet.proofs.Judged.{asked-err, Asked, asked-ok, judge-told}
use Rattle.sheet.proofs.sheet_words.Goals as goal
use Rattle.sheet.proofs.sheet_words.Goals.{In-Ok}

module _ (c : In-Ok) (next : List ℕ) where
  abbrev given : Sheet
  given = record { listed = c.args.listed.now; rules = c.args.rules.now }

  abbrev queue : Tables
  queue = tables_of c.args.c c.args.lefts.now c.args.rights.now c.args.labels.now c.args.marks.now next

  abbrev room : Bool
  room = leb 32 (length c.args.lent.now)

  fine : Asked queue given room c.asked.new.seen
  fine = asked-ok queue given room c.unseen-seen.result c.unseen-seen.ensures c.asked.new.seen (c.in-Ok.ensures next)

pub closure-requires : goal.closure-requires
closure-requires c =
    let v = (goal.at.closure-requires c).In-Ok in
    let ok = (fine v []).ok in
    let f = formed (given v []) ok.form in
    (leb-true 32 _ (and-true (rows_fit _ c.args.c.slots (queue v [])) (room v []) ok.long).1, f.few, f.inside)

pub first_broken-requires : goal.first_broken-requires
first_broken-requires c =
    let v = (goal.at.first_broken-requires c).In-Ok in
    (subst (λ (l : List ℕ). 32 ≤ length l) (sym c.closure.ensures) (words_long _ _), (formed (given v []) (fine v []).ok.form).few)

pub returns-in-Ok : goal.returns-in-Ok
unfolding words_of
returns-in-Ok c next =
    let v = (goal.at.returns-in-Ok c).In-Ok in
    let n = length c.args.listed.now in
    let e = c.asked.new.seen in
    printed-told (queue v next) (given v next) c.args.lent.now c.first_broken.result c.closure.new.words
    (c.first_broken.ensures ∙ ap (λ (m : List ℕ). in_rows (crossed bit_row m e.low e.high) n 1 n) c.closure.ensures
    ∙ judge-told (queue v next) (given v next) (room v next) (fine v next).ok bit_row bits bits_show (drop 32 c.args.lent.now) e (fine v next).noted)
    (ap (λ (r : SheetReply). r.code) c.first_broken.ensures ∙ rows_code _ n 1 n) c.closure.ensures

pub returns-in-Err : goal.returns-in-Err
returns-in-Err c next =
    let a = c.args in
    let q = tables_of a.c a.lefts.now a.rights.now a.labels.now a.marks.now next in
    let s : Sheet = record { listed = a.listed.now; rules = a.rules.now } in
    let r = asked-err q s (leb 32 (length a.lent.now)) c.unseen-seen.result c.unseen-seen.ensures c.in-Err.why (c.in-Err.ensures next) in
    printed-refused q s a.lent.now c.refused.result (c.refused.ensures ∙ r.0)
    (λ z. r.1 (sym (ap (λ (r : SheetReply). r.code) c.refused.ensures) ∙ z))
