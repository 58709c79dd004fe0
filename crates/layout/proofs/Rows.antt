-- Rows and what they are: lengths, a row read, a row written.
use mathlib.Core.{Path.{◌≡◌, refl, sym, ap, ◌∙◌}, List.{List, [], ◌∷◌}}
use Prim.Native.Nat.{ℕ, zero, suc, ◌+◌, ◌<◌, ◌≤◌, min}
use native.Mathlib.{Numerals.add-one, Omega.arith}
use lib.ListN.{length, get_or, set}
use Rattle.model.specs.{declared.{Call.Call, Record.Record}, Tables.{unused, with_own}, Lists.zeroed}
use Rattle.layout.specs.Rows.{call_of, record_of, records_of, upper_of, uppers_of}

pub length_records : (rows : List (List ℕ)) → length (records_of rows) ≡ length rows
unfolding records_of
length_records [] = refl
length_records (ws ∷ rows) = ap suc (length_records rows)

pub length_uppers : (rows : List (List ℕ)) → length (uppers_of rows) ≡ length rows
unfolding uppers_of
length_uppers [] = refl
length_uppers (ws ∷ rows) = ap suc (length_uppers rows)

pub record_read : (rows : List (List ℕ)) (i : ℕ) → record_of (get_or rows i []) ≡ get_or (records_of rows) i unused
unfolding records_of record_of call_of
record_read [] i = refl
record_read (ws ∷ rows) zero = refl
record_read (ws ∷ rows) (suc i) = record_read rows i

pub upper_read : (rows : List (List ℕ)) (i : ℕ) → upper_of (get_or rows i []) ≡ get_or (uppers_of rows) i 0
unfolding uppers_of upper_of
upper_read [] i = refl
upper_read (ws ∷ rows) zero = refl
upper_read (ws ∷ rows) (suc i) = upper_read rows i

pub record_put : (rows : List (List ℕ)) (i : ℕ) (ws : List ℕ) → records_of (set rows i ws) ≡ set (records_of rows) i (record_of ws)
unfolding records_of
record_put [] i ws = refl
record_put (us ∷ rows) zero ws = refl
record_put (us ∷ rows) (suc i) ws = ap (λ (l : List Record). record_of us ∷ l) (record_put rows i ws)

pub upper-put : (rows : List (List ℕ)) (i : ℕ) (ws : List ℕ) → uppers_of (set rows i ws) ≡ set (uppers_of rows) i (upper_of ws)
unfolding uppers_of
upper-put [] i ws = refl
upper-put (us ∷ rows) zero ws = refl
upper-put (us ∷ rows) (suc i) ws = ap (λ (l : List ℕ). upper_of us ∷ l) (upper-put rows i ws)

-- A call and a count.
abbrev pub counting : Call → ℕ → Record
counting r n = record { call = r; retries = n }

-- A call with another label.
abbrev pub labelled : Call → ℕ → Call
labelled r n = with_own r r.own n

-- One more entry zeroed.
zero_suc : {A : Type 0} (n : ℕ) (z : A) (l : List A) → n < length l → set (zeroed n z l) n z ≡ zeroed (suc n) z l
zero_suc n z [] h = absurd (omega (arith, h))
zero_suc zero z (x ∷ l) h = refl
zero_suc {A} (suc n) z (x ∷ l) h = ap (λ (t : List A). z ∷ t) (zero_suc n z l (omega (arith, h)))

pub one_more : {A : Type 0} (n : ℕ) (z : A) (l : List A) → n < length l → set (zeroed n z l) n z ≡ zeroed (n + 1) z l
one_more n z l h = zero_suc n z l h ∙ ap (λ (k : ℕ). zeroed k z l) (sym (add-one n))

-- Of at least n entries the first n are zeroed.
pub all-zeroed : {A : Type 0} (n k : ℕ) (z : A) (l : List A) → n ≤ k → zeroed (min n k) z l ≡ zeroed n z l
all-zeroed n k z l fits = let all : min n k ≡ n = omega (arith, fits) in ap (λ (i : ℕ). zeroed i z l) all
