-- The search among the next elements. Assumes nothing.
use mathlib.Core.Path.{◌≡◌, refl, sym, ap, ◌∙◌, subst}
use mathlib.Core.List.{List, [], ◌∷◌}
use mathlib.Core.Bool.{Bool, true, false}
use Prim.Native.Nat.{ℕ, zero, suc, ◌-◌, ◌<◌}
use native.Mathlib.Omega.{arith}
use Rattle.model.specs.Base.{pick}
use Rattle.model.specs.Drawing as model
use Rattle.model.specs.Drawing.{Event, begin, close, has_id, first_with_id}
use Rattle.script.specs.declared.drawing.Drawing.{Drawing}
use Rattle.script.specs.declared.cursor.Cursor.{Cursor}
use Rattle.script.specs.Step.{Fit}
use Rattle.walk.specs.declared.node.Opened.{Opened}
use Rattle.walk.specs.declared.node.Item.{Item}
use Rattle.walk.specs.declared.node.Item.TheVariants as item
use Rattle.walk.specs.Values.{events_at}
use Rattle.walk.specs.Nodes.{element_of, node_at, events_of}
use Rattle.walk.proofs.Walks.{ItemIs, item-told}
use Rattle.memo.specs.Plain.{Without}
use Rattle.memo.specs.Table.{within}

-- There are nodes.
abbrev pub Some : List Event → Type 0
Some [] = ⊥
Some (x ∷ xs) = Unit {0}

-- What is found is the first element with the id.
pub within_first : (id : List ℕ) (k : ℕ) (xs : List Event) → Some (within k id xs) → within k id xs ≡ first_with_id id xs
unfolding within first_with_id
within_first id zero xs h = absurd h
within_first id (suc k) [] h = absurd h
within_first id (suc k) (begin e ∷ xs) h = go (has_id id e) h (within_first id k xs)
  where
    go : (b : Bool) → Some (pick b (λ u. begin e ∷ xs) (λ u. within k id xs))
        → (Some (within k id xs) → within k id xs ≡ first_with_id id xs)
        → pick b (λ u. begin e ∷ xs) (λ u. within k id xs) ≡ pick b (λ u. begin e ∷ xs) (λ u. first_with_id id xs)
    go true s r = refl
    go false s r = r s
within_first id (suc k) (model.Event.text a ∷ xs) h = within_first id (suc k) xs h
within_first id (suc k) (model.Event.other ∷ xs) h = within_first id (suc k) xs h
within_first id (suc k) (close ∷ xs) h = within_first id (suc k) xs h

module _ (id : List ℕ) (xs : List Event) where
  turn : (k : ℕ) (e : model.Element) → 0 < k
      → within k id (begin e ∷ xs) ≡ pick (has_id id e) (λ u. begin e ∷ xs) (λ u. within (k - 1) id xs)
  unfolding within
  turn zero e h = absurd (omega (arith, h))
  turn (suc k) e h =
      ap (λ n. pick (has_id id e) (λ u. begin e ∷ xs) (λ u. within n id xs)) (let z : k ≡ suc k - 1 = omega arith in z)

  pub within-hit : (k : ℕ) (e : model.Element) → 0 < k → has_id id e ≡ true → within k id (begin e ∷ xs) ≡ begin e ∷ xs
  within-hit k e z h = turn k e z ∙ ap (λ b. pick b (λ u. begin e ∷ xs) (λ u. within (k - 1) id xs)) h

  pub within-miss : (k : ℕ) (e : model.Element) → 0 < k → has_id id e ≡ false → within k id (begin e ∷ xs) ≡ within (k - 1) id xs
  within-miss k e z h = turn k e z ∙ ap (λ b. pick b (λ u. begin e ∷ xs) (λ u. within (k - 1) id xs)) h

  -- Where an element and what comes behind it are not the one, what comes behind it is not.
  pub within-less : (k : ℕ) (e : model.Element) → 0 < k → within k id (begin e ∷ xs) ≡ [] → within (k - 1) id xs ≡ []
  within-less k e z h = go (has_id id e) refl
    where
      go : (b : Bool) → has_id id e ≡ b → within (k - 1) id xs ≡ []
      go true q = absurd (subst Some (sym (within-hit k e z q) ∙ h) tt)
      go false q = sym (within-miss k e z q) ∙ h

  pub within_text : (k : ℕ) (a : model.Source) → within k id (model.Event.text a ∷ xs) ≡ within k id xs
  unfolding within
  within_text zero a = refl
  within_text (suc k) a = refl

  pub within-other : (k : ℕ) → within k id (model.Event.other ∷ xs) ≡ within k id xs
  unfolding within
  within-other zero = refl
  within-other (suc k) = refl

  pub within-close : (k : ℕ) → within k id (close ∷ xs) ≡ within k id xs
  unfolding within
  within-close zero = refl
  within-close (suc k) = refl

  pub within-zero : (k : ℕ) → k ≡ 0 → [] ≡ within k id xs
  unfolding within
  within-zero k e = ap (λ n. within n id xs) (sym e)

pub within_end : (id : List ℕ) (k : ℕ) → [] ≡ within k id []
unfolding within
within_end id zero = refl
within_end id (suc k) = refl

-- THE WALK

-- v is what the search among the next `left` elements from the cursor on finds.
pub record Seeking (drawing : Drawing) (id : List ℕ) (v : List Event) (c : Cursor) (left : ℕ) : Type 0 where
  pub fit : Fit drawing c
  pub same : within left id (events_at drawing c) ≡ v

module _ (drawing : Drawing) (id : List ℕ) (v : List Event) (c : Cursor) (left : ℕ) (w : Seeking drawing id v c left) (r : Item) where
  module _ (x : Item) (t : r ≡ x) (i : ItemIs drawing c r) where
    pub seek-at : within left id (events_of drawing x) ≡ v
    seek-at = ap (within left id) (item-told drawing c r x t i).0 ∙ w.same

  module _ (e : Opened) (t : r ≡ item.Begin e) (i : ItemIs drawing c r) (z : 0 < left) where
    pub seek_hit : has_id id (element_of drawing e) ≡ true → node_at drawing e ≡ v
    seek_hit h = sym (within-hit id (events_at drawing e.inside) left (element_of drawing e) z h) ∙ seek-at (item.Begin e) t i

    pub seek-miss : (n : Cursor) → Without drawing id e n → Seeking drawing id v n (left - 1)
    seek-miss n o = record {
      fit = o.nodes.fit;
      same = ap (within (left - 1) id) o.nodes.events
          ∙ sym (within-miss id (events_at drawing e.inside) left (element_of drawing e) z o.has-not) ∙ seek-at (item.Begin e) t i;
    }
