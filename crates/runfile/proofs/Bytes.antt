-- The content that the code takes out is what stands behind the head.
use Rattle.std.proofs.Common.{ℕ, ◌+◌, ◌-◌, ◌≤◌, List, Ok, length, get_or, drop, take, slice_range, ap, sym, ◌∙◌, arith, length-take-le}
use mathlib.Core.{Path.◌≡◌, Bool.{Bool, true}}
use native.Mathlib.Numerals.{unary_clauses}
use lib.ListN.{length-drop}
use borrow.Author.Tests.{lt-leb, le-ltb}
use Rattle.std.proofs.lemmas.List.{take-append-drop, take_rest}
use Rattle.runfile.specs.Field.{two_at, formed, content_of, field_of}
use Rattle.runfile.specs.declared.Field.{Field}
use Rattle.runfile.proofs.Prefix.{same_content}

-- No byte behind a content is read.
content_taken : (tag len : ℕ) (o : Bool) (d : List ℕ) → formed o tag len ≡ true → len ≤ length d
    → content_of tag len (take len d) ≡ content_of tag len d
content_taken tag len o d f h =
    let l : length (take len d) ≡ len = length-take-le len d h in
    sym (same_content (take len d) (drop len d) tag len o f (omega arith)) ∙ ap (content_of tag len) (take-append-drop len d)

-- Where c is a content of the length that the head says, a field f made of it is the one that stands there.
pub whole_found : (o : Bool) (b c : List ℕ) (len : ℕ) (f : Field) → 3 ≤ length b → len ≡ two_at b 1 → formed o (get_or b 0 0) len ≡ true
    → (let rest = take (length b - 3) (drop 3 b) in (len ≤ length rest) × (c ≡ slice_range rest 0 len))
    → ((opened : Bool) → formed opened (get_or b 0 0) (length c) ≡ true → f ≡ content_of (get_or b 0 0) (length c) c)
    → Ok (record { field = f; size = 3 + length c }) ≡ field_of o b
unfolding field_of
whole_found o b c len f h e w t r =
    let d = drop 3 b in
    let there : len ≤ length d = rw take_rest at t.0 in
    let same : c ≡ take len d = simp (take_rest, unary_clauses) at t.1 in
    let n : length c ≡ len = ap length same ∙ length-take-le len d there in
    let made : f ≡ content_of (get_or b 0 0) len d = r o (rw n w) ∙ rw (n, same) (content_taken (get_or b 0 0) len o d w there) in
    rw (n, made, lt-leb (length b) 0 (omega arith), le-ltb (length b) 3 h, ← e, w, le-ltb (length b) (3 + len) (omega (arith, length-drop 3 b)))
