-- The number of a field is its tag.
use mathlib.Core.{Path.{◌≡◌, refl, sym, subst}, Bool.{Bool, true, false}, List.List}
use Prim.Native.Nat.{ℕ, ◌+◌}
use lib.{Dec.{eqb}, ListN.{drop, get_or}}
use borrow.Author.Tests.{eqb-true}
use Rattle.model.proofs.Tests.Truth.{not_both, split}
use Rattle.std.specs.Prelude.{Result, Ok}
use Rattle.runfile.specs.declared.{Found.Found, NoField.{NoField, TheVariants.{Malformed}}}
use Rattle.runfile.specs.Field.{Numbered, content_of, fault_number, field_number, field_of, formed, two_at}
use Rattle.runfile.proofs.Prefix.{Seen, seen, ended, cut, wrong, whole}

-- No other tag is well formed.
unknown : (opened : Bool) (tag len : ℕ) → eqb tag 1 ≡ false → eqb tag 2 ≡ false → eqb tag 3 ≡ false → eqb tag 4 ≡ false
    → eqb tag 5 ≡ false → eqb tag 6 ≡ false → formed opened tag len ≡ false
unfolding formed
unknown true tag len a b c d e f = rw (b, c, d, f)
unknown false tag len a b c d e f = rw (a, e)

module _ (opened : Bool) (tag len : ℕ) (b : List ℕ) where
  is : (n : ℕ) → field_number (content_of n len b) ≡ n → eqb tag n ≡ true → field_number (content_of tag len b) ≡ tag
  is n h e = subst (λ t. field_number (content_of t len b) ≡ t) (sym (eqb-true tag n e)) h

  tagged : formed opened tag len ≡ true → field_number (content_of tag len b) ≡ tag
  unfolding content_of
  tagged h =
      split (eqb tag 1) (is 1 refl)
      (λ a. split (eqb tag 2) (is 2 refl)
      (λ b'. split (eqb tag 3) (is 3 refl)
      (λ c. split (eqb tag 4) (is 4 refl)
      (λ d. split (eqb tag 5) (is 5 refl)
      (λ e. split (eqb tag 6) (is 6 refl)
      (λ f. absurd (not_both h (unknown opened tag len a b' c d e f))))))))

pub numbered : Numbered
numbered opened b found = go (field_of opened b) (seen opened b)
  where
    go : (r : Result Found NoField) → Seen opened b r → r ≡ Ok found → field_number found.field ≡ get_or b 0 0
    go r (ended h) is = cc
    go r (cut h) is = cc
    go r (wrong h f) is = cc
    go r (whole f h) is =
        let len = two_at b 1 in
        let content = drop 3 b in
        let one : ◌≡◌ {A = Found} (record { field = content_of (get_or b 0 0) len content; size = 3 + len }) found = cc in
        subst (λ (x : Found). field_number x.field ≡ get_or b 0 0) one (tagged opened (get_or b 0 0) len content f)

-- A malformed place has the number of its refusal.
pub malformed-numbered : fault_number Malformed ≡ 16
malformed-numbered = refl
