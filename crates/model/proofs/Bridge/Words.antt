-- Equal words are equal decoded, and the other way round where they are sound; a packed word decodes to its fields.
use mathlib.Core.{Bool.true, Path.{◌∙◌, ◌≡◌, ap, refl, subst, sym}}
use Prim.Native.Nat.{◌%◌, ◌*◌, ◌+◌, ◌/◌, ◌<◌, ◌^◌, ◌≤◌, suc, zero, ℕ}
use native.Mathlib.Omega.{arith}
use lib.Dec.{eqb}
use borrow.Author.Tests.{eq-eqb, eqb-true}
use Rattle.word.proofs.Laws.{AnchorFits, pack_fits, same-anchor, same-link, word_fields}
use Rattle.word.specs.{Anchor.{anchor_of, anchor_word, pack_anchor}, Link.{link_of, link_word, pack_link, spare_of}}
use Rattle.word.specs.declared.Anchor as word
use Rattle.model.proofs.{Tests.Truth.{agree, split}, Bridge.View.{anchor_seen, link_seen, status_of}}
use Rattle.model.proofs.Machine.Laws.{same_refl, same_true, same_link_refl, same_link_true}
use Rattle.model.proofs.Machine.Machine.{Anchor, Link, code, is_stable, same, same_link, towards}

code_status : (n : ℕ) → n ≤ 2 → code (status_of n) ≡ n
code_status zero h = refl
code_status (suc zero) h = refl
code_status (suc (suc zero)) h = refl
code_status (suc (suc (suc n))) h = absurd (omega arith)

pub stable_status : (n : ℕ) → n ≤ 2 → is_stable (status_of n) ≡ eqb n 0
stable_status zero h = refl
stable_status (suc zero) h = refl
stable_status (suc (suc zero)) h = refl
stable_status (suc (suc (suc n))) h = absurd (omega arith)

pub towards_status : (n : ℕ) → towards (status_of n) ≡ eqb n 1
towards_status n = split (eqb n 1) (λ e. rw e) (λ e. split (eqb n 2) (λ f. rw (e, f)) (λ f. rw (e, f)))

-- A comparison of Anchor words is one of Anchors.
pub same_word : (u v : ℕ) → (anchor_of u).status ≤ 2 → (anchor_of v).status ≤ 2 → same (anchor_seen u) (anchor_seen v) ≡ eqb v u
same_word u v hu hv = agree _ _
    (λ e. let p = same_true _ _ e in
    let t = ap (λ (a : Anchor). a.tag) p in
    let s = sym (code_status _ hu) ∙ ap (λ (a : Anchor). code a.status) p ∙ code_status _ hv in
    let l = ap (λ (a : Anchor). a.left) p in
    let r = ap (λ (a : Anchor). a.right) p in
    eq-eqb v u (sym (word_fields v) ∙ ap anchor_word (same-anchor (sym t, sym s, sym l, sym r)) ∙ word_fields u))
    (λ e. subst (λ z. same (anchor_seen u) (anchor_seen z) ≡ true) (sym (eqb-true v u e)) (same_refl (anchor_seen u)))

link_fields : (w : ℕ) → spare_of w ≡ 0 → link_word (link_of w) ≡ w
link_fields w h = omega arith

-- A comparison of link words is one of links.
pub same-link_word : (u v : ℕ) → spare_of u ≡ 0 → spare_of v ≡ 0 → same_link (link_seen u) (link_seen v) ≡ eqb v u
same-link_word u v hu hv = agree _ _
    (λ e. let p = same_link_true _ _ e in
    let t = ap (λ (a : Link). a.tag) p in
    let l = ap (λ (a : Link). a.slot) p in
    eq-eqb v u (sym (link_fields v hv) ∙ ap link_word (same-link (sym t, sym l)) ∙ link_fields u hu))
    (λ e. subst (λ z. same_link (link_seen u) (link_seen z) ≡ true) (sym (eqb-true v u e)) (same_link_refl (link_seen u)))

fields_back : (t c x y : ℕ) → c ≤ 2 → x < 2 ^ 15 → y < 2 ^ 15
    → anchor_seen (anchor_word (record { tag = t + 1; status = c; left = x; right = y })) ≡ record { tag = suc t; status = status_of c; left = x; right = y }
fields_back t c x y hc hx hy =
    let v = (t + 1) * 4294967296 + c * 1073741824 + x * 32768 + y in
    let p : v / 4294967296 ≡ suc t = omega arith in
    let s : v / 1073741824 % 4 ≡ c = omega arith in
    let l : v / 32768 % 32768 ≡ x = omega arith in
    let r : v % 32768 ≡ y = omega arith in
    λ i. record { tag = p i; status = status_of (s i); left = l i; right = r i }

-- An Anchor with a raised tag, packed and decoded.
pub anchor-back : (t c x y : ℕ) → t < 4294967295 → c ≤ 2 → x < 2 ^ 15 → y < 2 ^ 15
    → anchor_seen (pack_anchor (record { tag = t + 1; status = c; left = x; right = y })) ≡ record { tag = suc t; status = status_of c; left = x; right = y }
anchor-back t c x y ht hc hx hy =
    let a : word.Anchor = record { tag = t + 1; status = c; left = x; right = y } in
    let h : AnchorFits a = record { tag = omega arith; status = omega arith; left = hx; right = hy } in
    ap anchor_seen (pack_fits a h) ∙ fields_back t c x y hc hx hy

-- A link, packed and decoded.
pub link-back : (t s : ℕ) → t < 2 ^ 32 → s < 2 ^ 15 → link_seen (pack_link (record { tag = t; slot = s })) ≡ record { tag = t; slot = s }
link-back t s ht hs =
    let p : (t % 4294967296 * 4294967296 + s % 32768) / 4294967296 ≡ t = omega arith in
    let r : (t % 4294967296 * 4294967296 + s % 32768) % 32768 ≡ s = omega arith in
    λ i. record { tag = p i; slot = r i }
