-- A walk from node to node: what g says of the nodes from a cursor on, with k elements open. Assumes nothing.
use mathlib.Core.Path.{◌≡◌, refl, sym, ap, ◌∙◌, subst}
use mathlib.Core.List.{List, [], ◌∷◌}
use Prim.Native.Nat.{ℕ, zero, suc, ◌+◌, ◌-◌, ◌<◌, ◌≤◌}
use native.Mathlib.Numerals.{add-one}
use native.Mathlib.Omega.{arith}
use lib.ListN.{length}
use Rattle.model.specs.Check.{most_bytes}
use Rattle.model.specs.Drawing as model
use Rattle.model.specs.Drawing.{Event, begin, close, events, texts_in, children_from}
use Rattle.script.specs.declared.drawing.Drawing.{Drawing}
use Rattle.script.specs.declared.cursor.Cursor.{Cursor}
use Rattle.script.specs.Step.{Fit, commands_at, at_start, document}
use Rattle.script.proofs.Commands.{placed_first}
use Rattle.walk.specs.declared.node.Item.{Item}
use Rattle.walk.specs.Values.{events_at}
use Rattle.walk.specs.declared.node.Item.TheVariants as item
use Rattle.walk.specs.Nodes.{leave, events_of, Further, others_then, Others}
use Rattle.walk.proofs.Walks.{ItemIs, item-told}

-- v is what g says of the whole walk.
pub record Along {A : Type 0} (g : ℕ → List Event → A) (v : A) (drawing : Drawing) (from c : Cursor) (k : ℕ) : Type 0 where
  pub fit : Fit drawing c
  pub later : from.at ≤ c.at
  pub low : k ≤ c.at
  pub same : g k (events_at drawing c) ≡ v

pub along-none : {A : Type 0} (g : ℕ → List Event → A) (drawing : Drawing) (c : Cursor) (k : ℕ) → Fit drawing c → k ≤ c.at
    → Along g (g k (events_at drawing c)) drawing c c k
along-none g drawing c k f h = record { fit = f; later = omega arith; low = h; same = refl }

-- A walk over the whole document.
pub along-start : {A : Type 0} (g : ℕ → List Event → A) (drawing : Drawing) (c : Cursor) → length drawing.script.now ≤ most_bytes → c ≡ at_start
    → Along g (g 0 (document drawing)) drawing c c 0
unfolding events commands_at
along-start g drawing c h e = subst (λ c. Along g (g 0 (document drawing)) drawing c c 0) (sym e)
    (record { fit = placed_first drawing at_start refl h; later = omega arith; low = omega arith; same = refl })

module _ {A : Type 0} (g : ℕ → List Event → A) (v : A) (drawing : Drawing) (from c : Cursor) (k : ℕ) (w : Along g v drawing from c k) where
  module _ (r x : Item) (t : r ≡ x) (i : ItemIs drawing c r) where
    -- The walk ends at an item.
    pub at_item : g k (events_of drawing x) ≡ v
    at_item = ap (g k) (item-told drawing c r x t i).0 ∙ w.same

    -- The walk goes on behind an item.
    pub over : (n : Cursor) (k' : ℕ) → Further drawing c n → k' ≤ k + 1 → g k (events_of drawing x) ≡ g k' (events_at drawing n)
        → Along g v drawing from n k'
    over n k' f h e = record {
      fit = f.fit;
      later = omega (arith, w.later, f.further);
      low = omega (arith, w.low, f.further);
      same = sym e ∙ at_item;
    }

-- NODES THAT ARE NO ELEMENT AND NO TEXT

pub others-none : (drawing : Drawing) (c : Cursor) → Fit drawing c → Others drawing c c
others-none drawing c f = record { fit = f; later = omega arith; count = 0; between = refl }

-- One more of them.
others-last : (n : ℕ) (xs : List Event) → others_then (suc n) xs ≡ others_then n (model.Event.other ∷ xs)
others-last zero xs = refl
others-last (suc n) xs = ap (λ ys. model.Event.other ∷ ys) (others-last n xs)

pub others-more : (drawing : Drawing) (from c n : Cursor) → Others drawing from c → ItemIs drawing c (item.Other n) → Others drawing from n
others-more drawing from c n w i = record {
  fit = i.1.fit;
  later = omega (arith, w.later, i.1.further);
  count = suc w.count;
  between = others-last w.count (events_at drawing n) ∙ ap (others_then w.count) i.0 ∙ w.between;
}

-- A walk to which they are nothing.
others-past : {A : Type 0} (g : List Event → A) → ((xs : List Event) → g (model.Event.other ∷ xs) ≡ g xs) → (n : ℕ) (xs : List Event) →
    g (others_then n xs) ≡ g xs
others-past g h zero xs = refl
others-past g h (suc n) xs = h (others_then n xs) ∙ others-past g h n xs

module _ {A : Type 0} (g : ℕ → List Event → A) (v : A) (drawing : Drawing) (from c : Cursor) (k : ℕ) (w : Along g v drawing from c k)
    (r : Item) (n : Cursor) (t : r ≡ item.Other n) (i : ItemIs drawing c r) (d : Cursor) (o : Others drawing n d) where
  -- The walk goes on behind many.
  pub over-others : ((xs : List Event) → g k (model.Event.other ∷ xs) ≡ g k xs) → Along g v drawing from d k
  over-others h =
      let f = (item-told drawing c r (item.Other n) t i).1 in
      over g v drawing from c k w r (item.Other n) t i d k (record { fit = o.fit; further = omega (arith, f.further, o.later) })
      (omega arith)
      (h (events_at drawing n) ∙ ap (g k) (sym o.between) ∙ others-past (g k) h o.count (events_at drawing d))

  pub others-further : (c.at < d.at) × (d.at ≤ length drawing.script.now)
  others-further = (omega (arith, (item-told drawing c r (item.Other n) t i).1.further, o.later), o.fit.at)

-- A walk that goes on behind a close with one open element fewer.
pub behind-close : {A : Type 0} (f g : ℕ → A) → ((k : ℕ) → f (suc k) ≡ g k) → (k : ℕ) → (k ≡ 0 → ⊥) → f k ≡ g (k - 1)
behind-close f g e zero h = absurd (h refl)
behind-close f g e (suc k) h = e k ∙ ap g (let z : k ≡ suc k - 1 = omega arith in z)

-- LEAVE

module _ (k : ℕ) (xs : List Event) where
  pub leave-begin : (e : model.Element) → leave k (begin e ∷ xs) ≡ leave (k + 1) xs
  unfolding leave
  leave-begin e = ap (λ m. leave m xs) (sym (add-one k))

  pub leave-text : (a : model.Source) → leave k (model.Event.text a ∷ xs) ≡ leave k xs
  unfolding leave
  leave-text a = refl

  pub leave-other : leave k (model.Event.other ∷ xs) ≡ leave k xs
  unfolding leave
  leave-other = refl

  pub leave-close : (k ≡ 0 → ⊥) → leave k (close ∷ xs) ≡ leave (k - 1) xs
  unfolding leave
  leave-close = behind-close (λ j. leave j (close ∷ xs)) (λ j. leave j xs) (λ j. refl) k

  pub leave-out : k ≡ 0 → leave k (close ∷ xs) ≡ xs
  unfolding leave
  leave-out e = rw e

pub leave-end : (k : ℕ) → leave k [] ≡ []
unfolding leave
leave-end k = refl

-- The children behind one that is an element are those behind its close.
pub children-behind : (k : ℕ) (xs : List Event) → children_from (suc k) xs ≡ children_from 0 (leave k xs)
unfolding children_from leave
children-behind zero [] = refl
children-behind (suc k) [] = refl
children-behind k (begin e ∷ xs) = children-behind (suc k) xs
children-behind k (model.Event.text a ∷ xs) = children-behind k xs
children-behind k (model.Event.other ∷ xs) = children-behind k xs
children-behind zero (close ∷ xs) = refl
children-behind (suc k) (close ∷ xs) = children-behind k xs

-- TEXTS

module _ (k : ℕ) (xs : List Event) where
  pub texts-begin : (e : model.Element) → texts_in k (begin e ∷ xs) ≡ texts_in (k + 1) xs
  unfolding texts_in
  texts-begin e = ap (λ m. texts_in m xs) (sym (add-one k))

  pub texts-text : (a : model.Source) → texts_in k (model.Event.text a ∷ xs) ≡ a ∷ texts_in k xs
  unfolding texts_in
  texts-text a = refl

  pub texts-other : texts_in k (model.Event.other ∷ xs) ≡ texts_in k xs
  unfolding texts_in
  texts-other = refl

  pub texts-close : (k ≡ 0 → ⊥) → texts_in k (close ∷ xs) ≡ texts_in (k - 1) xs
  unfolding texts_in
  texts-close = behind-close (λ j. texts_in j (close ∷ xs)) (λ j. texts_in j xs) (λ j. refl) k

  pub texts-out : k ≡ 0 → texts_in k (close ∷ xs) ≡ []
  unfolding texts_in
  texts-out e = rw e

pub texts-end : (k : ℕ) → texts_in k [] ≡ []
unfolding texts_in
texts-end k = refl

-- A walk to the close of an element, and one to the next text.
pub ruleset leaves = (item-told, along-none, at_item, over, over-others, others-further, leave-begin, leave-text, leave-other, leave-close, leave-out, leave-end)

pub ruleset texts = (item-told, along-none, at_item, over, over-others, others-further, texts-begin, texts-text, texts-other, texts-close, texts-out, texts-end)
