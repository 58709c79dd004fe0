-- The lines of one field fit into the room for a field, so a page never holds more than its buffer.
use Rattle.std.proofs.Common.{ℕ, suc, ◌+◌, ◌*◌, ◌≤◌, arith, leb-true}
use mathlib.Core.{Path.{◌≡◌, refl, sym, ap, ◌∙◌, subst}, Bool.{Bool, true, false}, List.{List, [], ◌∷◌}}
use lib.{Dec.leb, Seq.length-sets, ListN.{length, take, drop, length-append, length-take, length-map}}
use Rattle.model.specs.{declared.Op.Op, Tables.Queue, Calls.act, History.{Request, Event, run}}
use Rattle.std.specs.Prelude.{Result, Ok, Err, IfOk}
use Rattle.runfile.specs.{Field.field_of, declared.{Field.{Field, TheVariants.{Open, Each}}, Found.Found, NoField.{NoField, TheVariants.{Malformed, Cut, End}}}}
use Rattle.lines.{specs.Line.{line_of, room}, proofs.Lengths.line_short}
use Rattle.lines.specs.declared.Line.TheVariants as line
use Rattle.trace_field.specs.Run.{Run, lines_of, next, operated, opening_told, malformed, each_of, field_told, carried}
use Rattle.trace_field.specs.Page.{Page, written, field_room, takes, BytesThere}
use Rattle.trace_field.proofs.{Pages.cond-true, Fields.{field_there, takes_none}}

-- One line an event, one event an operation.
lines_most : (n : ℕ) (es : List Event) → length (lines_of n es) ≤ length es * room
unfolding lines_of
lines_most n [] = omega arith
lines_most n (e ∷ es) =
    let l = line_of (next n) (line.Act e.task e.op e.outcome) e.after in
    let short : length l ≤ room = line_short (next n) (line.Act e.task e.op e.outcome) e.after in
    omega (arith, short, lines_most (next n) es, length-append l (lines_of (next n) es))

events : (q : Queue) (os : List Request) → length (run q os) ≡ length os
unfolding run
events q [] = refl
events q (o ∷ os) = ap suc (events (act q o.task o.op).queue os)

operated_most : (r : Run) (os : List Request) → length (operated r os).lines ≤ length os * room
unfolding operated
operated_most r os = omega (arith, lines_most r.event (run r.queue os), events r.queue os)

each_most : (op : Op) (n : ℕ) (b : List ℕ) → length (each_of op (take n b)) ≤ n
each_most op n b =
    let same : length (each_of op (take n b)) ≡ length (take n b) = length-map (take n b) _ in
    omega (arith, same, length-take n b)

-- A field's lines.
field_most : (r : Run) (f : Field) (b : List ℕ) (at len : ℕ) → BytesThere f at len → length (field_told r f b).lines ≤ field_room
unfolding field_told opening_told
field_most r (Open pooled tasks slots tag) b at len w =
    let short : length (opening_told r pooled tasks slots tag).lines ≤ room = line_short _ _ _ in
    omega (arith, short)
field_most r (Each op n) b at len w =
    omega (arith, w.0, operated_most r (each_of op (take n (drop 3 b))), each_most op n (drop 3 b))

pub carried_most : (r : Run) (f : Result Found NoField) (b : List ℕ) (at len : ℕ) → IfOk f (λ found. BytesThere found.field at len)
    → length (carried r f b).lines ≤ field_room
unfolding carried malformed
carried_most r (Ok found) b at len w = field_most r found.field b at len w
carried_most r (Err Malformed) b at len w = let short : length (malformed r).lines ≤ room = line_short _ _ _ in omega (arith, short)
carried_most r (Err Cut) b at len w = omega arith
carried_most r (Err End) b at len w = omega arith

-- What a page holds is in its buffer, which stays as long as it is.
abbrev pub Within : Page → ℕ → Type 0
Within p n = (p.to ≤ n) × (length p.out ≡ n)

pub takes-within : (bytes : List ℕ) (p : Page) (n : ℕ) → Within p n → Within (takes bytes p) n
unfolding takes written
takes-within bytes p n w = go (leb (p.to + field_room) (length p.out)) refl
  where
    b : List ℕ
    b = drop p.at bytes

    go : (o : Bool) → leb (p.to + field_room) (length p.out) ≡ o → Within (takes bytes p) n
    go true e =
        let f = field_of p.run.opened b in
        let l = (carried p.run f b).lines in
        let short : length l ≤ field_room =
        carried_most p.run f b 0 (length b) (field_there p.run.opened b) in
        let room : p.to + field_room ≤ length p.out = leb-true _ _ e in
        subst (λ (x : Page). Within x n) (sym (cond-true (leb (p.to + field_room) (length p.out)) _ _ e))
        (omega (arith, short, room, w.1), length-sets p.out p.to l ∙ w.1)
    go false e = subst (λ (x : Page). Within x n) (sym (takes_none bytes p e)) w
