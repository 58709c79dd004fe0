-- Effects in the order of their places, each with what its call asked for and the reply. The numbers of their calls are the history's order.
use mathlib.Core.{Bool.{Bool, true, false, cond}, List.{List, [], ◌∷◌, map}, Path.{◌≡◌, refl, sym, ap, ◌∙◌}}
use Prim.Native.Nat.{ℕ}
use lib.{Dec.ltb, ListN.length}
use Rattle.model.specs.{declared.{Answer.Answer, Entry.Entry}, History.{LedgerCall, Effect}}
use Rattle.audit_model.specs.Written.{Placed, effect_order, effects_of, insert, insert_all}

pub record OrderedEffect : Type 0 where
  pub number : ℕ
  pub at : ℕ
  pub reply : Answer
  pub kind : ℕ
  pub side : ℕ
  pub entry : Entry

abbrev pub ordered_effect : ℕ → ℕ → ℕ → Entry → Effect → OrderedEffect
ordered_effect number kind side e f = record { number = number; at = f.at; reply = f.reply; kind = kind; side = side; entry = e }

abbrev pub put : OrderedEffect → List OrderedEffect → List OrderedEffect
put = insert (λ (t : OrderedEffect). t.at)

abbrev pub put_all : (Effect → OrderedEffect) → List Effect → List OrderedEffect → List OrderedEffect
put_all f [] l = l
put_all f (e ∷ es) l = put (f e) (put_all f es l)

abbrev pub ordered_effects : List LedgerCall → List OrderedEffect
ordered_effects [] = []
ordered_effects (c ∷ cs) = put_all (ordered_effect (length (c ∷ cs)) c.kind c.side c.entry) c.effects (ordered_effects cs)

abbrev placed : OrderedEffect → Placed
placed t = record { at = t.at; number = t.number }

put_placed : (t : OrderedEffect) (l : List OrderedEffect) → map placed (put t l) ≡ insert (λ (p : Placed). p.at) (placed t) (map placed l)
unfolding insert
put_placed t [] = refl
put_placed t (u ∷ l) = go (ltb t.at u.at) (put_placed t l)
  where
    go : (b : Bool) → map placed (put t l) ≡ insert (λ (p : Placed). p.at) (placed t) (map placed l)
        → map placed (cond b (t ∷ u ∷ l) (u ∷ put t l))
        ≡ cond b (placed t ∷ placed u ∷ map placed l) (placed u ∷ insert (λ (p : Placed). p.at) (placed t) (map placed l))
    go true e = refl
    go false e = ap (λ (x : List Placed). placed u ∷ x) e

all_placed : (n kind side : ℕ) (x : Entry) (es : List Effect) (l : List OrderedEffect)
    → map placed (put_all (ordered_effect n kind side x) es l) ≡ insert_all n es (map placed l)
all_placed n kind side x [] l = refl
all_placed n kind side x (e ∷ es) l =
    put_placed (ordered_effect n kind side x e) (put_all (ordered_effect n kind side x) es l)
    ∙ ap (insert (λ (p : Placed). p.at) (record { at = e.at; number = n })) (all_placed n kind side x es l)

effects_placed : (cs : List LedgerCall) → map placed (ordered_effects cs) ≡ effects_of cs
effects_placed [] = refl
effects_placed (c ∷ cs) =
    all_placed (length (c ∷ cs)) c.kind c.side c.entry c.effects (ordered_effects cs)
    ∙ ap (insert_all (length (c ∷ cs)) c.effects) (effects_placed cs)

map_placed : (l : List OrderedEffect) → map (λ (p : Placed). p.number) (map placed l) ≡ map (λ (t : OrderedEffect). t.number) l
map_placed [] = refl
map_placed (t ∷ l) = ap (λ (x : List ℕ). t.number ∷ x) (map_placed l)

pub order_is : (cs : List LedgerCall) → effect_order cs ≡ map (λ (t : OrderedEffect). t.number) (ordered_effects cs)
order_is cs = ap (map (λ (p : Placed). p.number)) (sym (effects_placed cs)) ∙ map_placed (ordered_effects cs)
