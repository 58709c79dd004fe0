-- What a call's kind and place say: push or pop, helping, drawing a slot, giving one back. (Document 01: Task records, Places; document 02, #104.)
use Rattle.std.specs.Prelude.{Bool, ◌&&◌, not, cond, leb, eqb}
use Rattle.model.specs.declared.Call.{Call}

-- Kind: 0 push, 1 pop.
abbrev pub is_push : Call → Bool
is_push r = eqb r.kind 0

abbrev pub is_pop : Call → Bool
is_pop r = eqb r.kind 1

-- At places 5 to 10 a task helps a push to its end.
abbrev pub helping : Call → Bool
helping r = leb 5 r.place && leb r.place 10

-- At 12 to 14 a push draws its slot, at 15 to 17, the last places, a pop gives it back: in a pooled queue alone.
abbrev pub drawing : Call → Bool
drawing r = leb 12 r.place && leb r.place 14

abbrev pub giving : Call → Bool
giving r = leb 15 r.place

-- A push has a slot of its own but at 12 to 14, a pop only at 15 to 17.
abbrev pub owning : Call → Bool
owning r = cond (is_push r) (not (drawing r)) (giving r)
