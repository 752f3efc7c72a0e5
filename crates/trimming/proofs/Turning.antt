-- One turn: what its calls ask, and what it leaves. Assumes nothing.
use Prim.Native.Nat.{ℕ}
use mathlib.Core.Path.{◌≡◌, refl, ap, ◌∙◌}
use mathlib.Core.Bool.{Bool, true, false}
use mathlib.Core.List.{List}
use lib.Dec.{eqb, ltb}
use Rattle.std.specs.Prelude.{Option, Some, None, IfSome, unwrap_or}
use Rattle.model.specs.Base.{pick}
use Rattle.model.specs.Text.{XmlSpace, is_default, depth_below}
use Rattle.tree.specs.Lent.{read_of, nodes_read, texts_of}
use Rattle.edges.specs.declared.Pair.{Pair}
use Rattle.trimming.specs.declared.Turn.{Turn}
use Rattle.text.specs.Spaces.{space_at}
use Rattle.edges.specs.Pairs.{Ranged, size_of, after_pair}
use Rattle.trimming.specs.Nodes.{Fair, IsTextOf, stands_by, pair_of}
use Rattle.trimming.proofs.Depths.{depth_same}
use Rattle.edges.proofs.Steps.{both-pair}
use Rattle.trimming.proofs.Collected.{fair-ranged}

-- The node that stands for a is a text node of the element too.
pub stands-text : (ns₀ ns : List ℕ) (e n a : ℕ) (kept : Option ℕ) → IsTextOf ns₀ e n a → IfSome kept (IsTextOf ns₀ e n) →
    IsTextOf ns₀ e n (stands_by ns a kept)
stands-text ns₀ ns e n a kept x y = go (eqb (size_of ns a) 0) kept y
  where
    go : (b : Bool) (o : Option ℕ) → IfSome o (IsTextOf ns₀ e n) → IsTextOf ns₀ e n (pick b (λ u. unwrap_or o a) (λ u. a))
    go true None z = x
    go true (Some k) z = z
    go false o z = x

module _ (size : ℕ) (ns es bs : List ℕ) (e n : ℕ) (h : Fair size ns es bs e n) where
  pub text-ranged : (i : ℕ) → IsTextOf ns e n i → Ranged (texts_of ns bs) i
  text-ranged i x = fair-ranged size ns es bs e n i h x.1.0 x.1.1

module _ (chars ns es : List ℕ) (w : XmlSpace) (e : ℕ) (k : Turn) where
  pub pair-told : (c : ℕ) (d d1 d2 : Bool) → c ≡ stands_by ns k.a k.kept →
      d ≡ ltb (depth_below (nodes_read ns) e k.a k.a) (depth_below (nodes_read ns) e k.b k.b) →
      d1 ≡ is_default (space_at chars (read_of ns es) w c) → d2 ≡ is_default (space_at chars (read_of ns es) w k.b) →
      ◌≡◌ {A = Pair} (record { node1 = c; node2 = k.b; deeper = d; first = k.first; last = k.last; default1 = d1; default2 = d2 })
      (pair_of chars (read_of ns es) w e k)
  pair-told c d d1 d2 p q r s =
      rw (
        q,
        r,
        s,
        p,
        depth_same (nodes_read ns) (read_of ns es) (λ j. refl) e k.a k.a,
        depth_same (nodes_read ns) (read_of ns es) (λ j. refl) e k.b k.b,
      ) refl

  -- What the pair of the turn leaves.
  pub turn-tables : (ns' bs bs' : List ℕ) (p : Pair) → texts_of ns' bs' ≡ after_pair p (texts_of ns bs) →
      p ≡ pair_of chars (read_of ns es) w e k →
      texts_of ns' bs' ≡ after_pair (pair_of chars (read_of ns es) w e k) (texts_of ns bs)
  turn-tables ns' bs bs' p f q = f ∙ ap (λ (x : Pair). after_pair x (texts_of ns bs)) q

-- The first text of the pair still has bounds.
pub turn-ranged : (ns bs ns' bs' : List ℕ) (p : Pair) → texts_of ns' bs' ≡ after_pair p (texts_of ns bs) → Ranged (texts_of ns bs) p.node1 →
    Ranged (texts_of ns bs) p.node2 → Ranged (texts_of ns' bs') p.node1
turn-ranged ns bs ns' bs' p f x y = rw f (both-pair p (texts_of ns bs) (x, y)).0

-- One turn.
pub ruleset turns = (pair-told, turn-tables)
