-- Nodes that a search for an element passes over: texts, other nodes, closes. Assumes nothing.
use mathlib.Core.Path.{◌≡◌, sym, ap, ◌∙◌}
use mathlib.Core.Logic.{◌⊎◌, inl, inr}
use mathlib.Core.List.{List}
use Prim.Native.Nat.{ℕ}
use native.Mathlib.Omega.{arith}
use Rattle.model.specs.Drawing.{Event, first_with_id}
use Rattle.script.specs.declared.drawing.Drawing.{Drawing}
use Rattle.script.specs.declared.cursor.Cursor.{Cursor}
use Rattle.walk.specs.declared.node.Item.{Item}
use Rattle.walk.specs.declared.node.Item.TheVariants as item
use Rattle.walk.specs.Values.{events_at}
use Rattle.walk.specs.Nodes.{Further}
use Rattle.walk.proofs.Walks.{ItemIs, item-told}
use Rattle.walk.proofs.Along.{Along}
use Rattle.memo.specs.Table.{within}
use Rattle.memo.proofs.Ids.{first_id, id-text, id_other, id-close}
use Rattle.memo.proofs.Within.{within_text, within-other, within-close, Seeking}

-- An item that is passed over, with the cursor behind it.
abbrev pub IsPast : Item → Cursor → Type 0
IsPast r n = ((own : Cursor) × (len : ℕ) × (r ≡ item.Text own len n)) ⊎ ((r ≡ item.Other n) ⊎ (r ≡ item.Close n))

-- From n on a search finds the same as from c on.
pub record Past (drawing : Drawing) (c n : Cursor) : Type 0 where
  pub further : Further drawing c n
  pub first : (id : List ℕ) → first_with_id id (events_at drawing c) ≡ first_with_id id (events_at drawing n)
  pub near : (k : ℕ) (id : List ℕ) → within k id (events_at drawing c) ≡ within k id (events_at drawing n)

pub past : (drawing : Drawing) (c n : Cursor) (r : Item) → IsPast r n → ItemIs drawing c r → Past drawing c n
past drawing c n r (inl t) i =
    let told = item-told drawing c r (item.Text t.0 t.1 n) t.2 i in record {
      further = told.1.1;
      first = λ id. ap (first_with_id id) (sym told.0) ∙ id-text id _ _;
      near = λ k id. ap (within k id) (sym told.0) ∙ within_text id _ k _;
    }
past drawing c n r (inr (inl t)) i =
    let told = item-told drawing c r (item.Other n) t i in record {
      further = told.1;
      first = λ id. ap (first_with_id id) (sym told.0) ∙ id_other id _;
      near = λ k id. ap (within k id) (sym told.0) ∙ within-other id _ k;
    }
past drawing c n r (inr (inr t)) i =
    let told = item-told drawing c r (item.Close n) t i in record {
      further = told.1;
      first = λ id. ap (first_with_id id) (sym told.0) ∙ id-close id _;
      near = λ k id. ap (within k id) (sym told.0) ∙ within-close id _ k;
    }

module _ (drawing : Drawing) (c n : Cursor) (p : Past drawing c n) (id : List ℕ) (v : List Event) where
  pub seek-past : (left : ℕ) → Seeking drawing id v c left → Seeking drawing id v n left
  seek-past left w = record { fit = p.further.fit; same = sym (p.near left id) ∙ w.same }

  pub along-past : (from : Cursor) → Along (first_id id) v drawing from c 0 → Along (first_id id) v drawing from n 0
  along-past from w = record {
    fit = p.further.fit;
    later = omega (arith, w.later, p.further.further);
    low = omega arith;
    same = sym (p.first id) ∙ w.same;
  }
