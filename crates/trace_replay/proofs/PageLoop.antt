-- The loop over the pages of a piece: a page, and then the rest; and the rounds, a piece and then the next.
use Prim.Native.Nat.{ℕ, zero, suc, ◌-◌, ◌<◌, ◌≤◌}
use mathlib.Core.{Path.{◌≡◌, refl, sym, ap, ◌∙◌}, Bool.{Bool, true, false}, List.{List, [], ◌∷◌, ◌++◌}}
use native.Mathlib.Omega.{arith}
use lib.{Dec.{leb, eqb}, ListN.{length, drop}}
use borrow.Author.Tests.{eqb-true, eqb-false, le-leb, lt-leb, leb-true, leb-false}
use Rattle.trace_field.{specs.Page.Page, proofs.Pages.{cond-true, cond-false}}
use Rattle.trace_replay.specs.Pieces.{from_start, next_page, Written, pages_in, pages_of, Between, begun, after_piece}
use Rattle.trace_replay.specs.Pieces.{after_pieces, last_page, after_end, round_page, Gone, ended, stopped}
use Rattle.trace_replay.proofs.PageEnds.{next-onward, pages_over, pages_still, pages_next}

abbrev left_at : Written → Page
left_at w = w.page

module _ (bytes : List ℕ) where
  -- More pages than bytes are left change nothing.
  enough_pages : (n : ℕ) (p : Page) → length bytes - p.at < n → (pages_in (suc n) bytes p).page ≡ (pages_in n bytes p).page
  enough_pages zero p h = absurd (omega (arith, h))
  enough_pages (suc n) p h = go p.run.over refl (eqb (next_page bytes p).at p.at) refl (enough_pages n (next_page bytes p))
    where
      go : (o : Bool) → p.run.over ≡ o → (s : Bool) → eqb (next_page bytes p).at p.at ≡ s
          → (length bytes - (next_page bytes p).at < n → (pages_in (suc n) bytes (next_page bytes p)).page ≡ (pages_in n bytes (next_page bytes p)).page)
          → (pages_in (suc (suc n)) bytes p).page ≡ (pages_in (suc n) bytes p).page
      go true e s f ih = ap left_at (pages_over bytes p (suc (suc n)) e ∙ sym (pages_over bytes p (suc n) e))
      go false e true f ih =
          let still = eqb-true _ _ f in
          ap left_at (pages_still bytes p (suc n) e still ∙ sym (pages_still bytes p n e still))
      go false e false f ih =
          let moves = eqb-false _ _ f in
          let on = next-onward bytes p moves in
          ap left_at (pages_next bytes p (suc n) e moves) ∙ ih (omega (arith, on, h)) ∙ sym (ap left_at (pages_next bytes p n e moves))

  -- A page that takes bytes, and then the rest; the last page; and a run that is over.
  pub pages_rest : (p : Page) → p.run.over ≡ false → ((next_page bytes p).at ≡ p.at → ⊥)
      → (pages_of bytes (next_page bytes p)).page ≡ (pages_of bytes p).page
  unfolding pages_of
  pages_rest p e h =
      let on = next-onward bytes p h in
      enough_pages (length bytes) (next_page bytes p) (omega (arith, on)) ∙ sym (ap left_at (pages_next bytes p (length bytes) e h))

  pub pages_last : (p : Page) → p.run.over ≡ false → (next_page bytes p).at ≡ p.at → next_page bytes p ≡ (pages_of bytes p).page
  unfolding pages_of
  pages_last p e h = sym (ap left_at (pages_still bytes p (length bytes) e h))

  pub pages_ended : (p : Page) → p.run.over ≡ true → p ≡ (pages_of bytes p).page
  unfolding pages_of
  pages_ended p e = sym (ap left_at (pages_over bytes p (suc (length bytes)) e))

-- One more piece, the last.
pieces_more : (s : Between) (cs : List (List ℕ)) (c : List ℕ) → after_pieces s (cs ++ (c ∷ [])) ≡ after_piece (after_pieces s cs) c
unfolding after_pieces
pieces_more s [] c = refl
pieces_more s (d ∷ cs) c = pieces_more (after_piece s d) cs c

-- A run that stands after some pieces, its buffer first lent as `out`, and has bytes left.
pub record Stands (out : List ℕ) (p : Page) (rest : List ℕ) : Type 0 where
  pub pieces : List (List ℕ)
  pub page : p ≡ (after_pieces (begun out) pieces).page
  pub left : rest ≡ (after_pieces (begun out) pieces).rest

-- A round of a run that stands after some pieces: p' is the page after it, c what was read.
module _ (out : List ℕ) (p p' : Page) (b c : List ℕ) (s : Stands out p b) (e : p' ≡ round_page b c p) where
  abbrev before : Between
  before = after_pieces (begun out) s.pieces

  end_page : length c ≤ 0 → p' ≡ (after_end before).page
  unfolding round_page after_end
  end_page h =
      e ∙ cond-true (leb (length c) 0) _ _ (le-leb (length c) 0 h) ∙ ap (λ (l : List ℕ). last_page (length l) p) s.left
      ∙ ap (last_page (length before.rest)) s.page

  piece_page : 0 < length c → p' ≡ (after_piece before c).page
  unfolding round_page after_piece
  piece_page h =
      e ∙ cond-false (leb (length c) 0) _ _ (lt-leb (length c) 0 h) ∙ ap (λ (l : List ℕ). (pages_of (l ++ c) (from_start p)).page) s.left
      ∙ ap (λ (x : Page). (pages_of (before.rest ++ c) (from_start x)).page) s.page

  piece_left : 0 < length c → drop p'.at (b ++ c) ≡ (after_piece before c).rest
  unfolding after_piece
  piece_left h =
      ap (λ (l : List ℕ). drop p'.at (l ++ c)) s.left ∙ ap (λ (x : Page). drop x.at (before.rest ++ c)) (piece_page h)

  pub round_stands : 0 < length c → Stands out p' (drop p'.at (b ++ c))
  round_stands h =
      let more = sym (pieces_more (begun out) s.pieces c) in
      record {
        pieces = s.pieces ++ (c ∷ []);
        page = piece_page h ∙ ap (λ (x : Between). x.page) more;
        left = piece_left h ∙ ap (λ (x : Between). x.rest) more;
      }

  pub round_gone : (0 < length c → p'.run.over ≡ true) → Gone out p'
  round_gone over = go (leb (length c) 0) refl
    where
      go : (x : Bool) → leb (length c) 0 ≡ x → Gone out p'
      go true k = ended s.pieces (end_page (leb-true _ _ k))
      go false k =
          let there : 0 < length c = leb-false _ _ k in
          let next = round_stands there in
          stopped next.pieces next.page (over there)
